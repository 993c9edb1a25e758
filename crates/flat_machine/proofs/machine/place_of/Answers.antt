use Rattle.std.proofs.Common.{◌≡◌, ◌<◌, ℕ, Bool, true, false, List, [], ◌∷◌, length, get_or, Some, None, sym, refl, arith}
use Rattle.std.specs.List.{position, position_or_len}
use Rattle.std.proofs.lemmas.Bool.Decides.{nat_tests}
use Rattle.std.proofs.lemmas.List.Sums.{position_or_len_is}
use Rattle.flat_machine.specs.Step.{Started}
use Rattle.flat_machine.specs.Grants.{can_take}
use Rattle.flat_machine.proofs.machine.place_of.Goals as goal

found : (p : Started → Bool) (xs : List Started) (i : ℕ) (x : Started) → i < length xs → ((k : ℕ) (d : Started) → k < i → p (get_or xs k d) ≡ false) → x ≡ get_or xs i x → true ≡ p x → Some i ≡ position p xs
found p xs i x within before is passes =
    let e : position_or_len p xs ≡ i = position_or_len_is p xs i x (omega arith) (λ k l. before k x l) (λ l. rw (← is) (sym passes)) in
    rw e (grind (arith, nat_tests))

missing : (p : Started → Bool) (xs : List Started) → ((k : ℕ) (d : Started) → k < length xs → p (get_or xs k d) ≡ false) → None ≡ position p xs
missing p [] none = refl
missing p (x ∷ xs) none =
    let e : position_or_len p (x ∷ xs) ≡ length (x ∷ xs) = position_or_len_is p (x ∷ xs) (length (x ∷ xs)) x (omega arith) (λ k l. none k x l) (λ l. absurd (omega arith)) in
    rw e (grind (arith, nat_tests))

pub returns-then-is_grant : goal.returns-then-is_grant
returns-then-is_grant c =
    found _ _ _ c.index-tasks-place.result (omega arith) c.loop-place.invariant c.index-tasks-place.is (rw c.grant_for.ensures at c.if-is_grant.ensures)

pub returns : goal.returns
returns c = missing (can_take c.args.program.now c.args.fuel c.args.tasks.now c.args.given) c.args.tasks.now (λ k d l. c.loop-place.invariant k d (omega arith))
