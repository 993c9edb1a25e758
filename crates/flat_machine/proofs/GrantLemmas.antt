-- Which task can take a grant.
use Rattle.std.proofs.Common.{◌≡◌, ℕ, ◌+◌, ◌<◌, Bool, true, false, not, cond, nat_lt, List, [], ◌∷◌, length, drop, get_or, position, Option, Some, None, refl, sym, ap, ◌∙◌, subst, arith}
use Rattle.std.specs.Option.{option_or}
use Rattle.std.specs.List.{position_or_len}
use Rattle.std.proofs.lemmas.Bool.Decides.{nat_tests}
use Rattle.std.proofs.lemmas.List.{at_drop_more}
use Rattle.std.proofs.lemmas.List.Quantifiers.{position-Some}
use Rattle.std.proofs.lemmas.Option.{none-some}
use Rattle.dn_base.specs.declared.ids.Grant.{Grant}
use Rattle.region_table.specs.Program.{ProgramParts}
use Rattle.rv_core.specs.declared.task.End.{End}
use Rattle.rv_core.specs.declared.need.Need.{Need}
use Rattle.rv_core.specs.declared.need.Need as need
use Rattle.rv_core.specs.Need.{need_of}
use Rattle.flat_machine.specs.Step.{Started, wish_unless, IsAcquire, WantsLock}
use Rattle.flat_machine.specs.Phases.{Flat}
use Rattle.flat_machine.specs.Grants.{grant_by, grant_for, is_grant, can_take, granted_at, granted, grants_from, first_grant, next_grant}

-- a task that can take a grant waits for its lock
pub can_take-waits : (P : ProgramParts) (fuel : ℕ) (tasks : List Started) (g : Grant) (r : Started) → can_take P fuel tasks g r ≡ true → WantsLock P fuel r
can_take-waits P fuel tasks g r e = by_end r.state.end refl e
  where
    by_need : (n : Need) → need_of P r.decl fuel r.state ≡ n → is_grant g (grant_by tasks r (Some n)) ≡ true → IsAcquire (need_of P r.decl fuel r.state)
    by_need (need.TheVariants.Acquire lock) is e = subst IsAcquire (sym is) tt
    by_need need.TheVariants.Local is e = absurd (cc)
    by_need (need.TheVariants.Load word) is e = absurd (cc)
    by_need (need.TheVariants.Store word whole) is e = absurd (cc)
    by_need (need.TheVariants.Release lock) is e = absurd (cc)
    by_need (need.TheVariants.End cause) is e = absurd (cc)

    by_end : (o : Option End) → r.state.end ≡ o → is_grant g (grant_by tasks r (wish_unless P fuel r o)) ≡ true → WantsLock P fuel r
    by_end None is e = record { open' = is; wants = by_need (need_of P r.decl fuel r.state) refl e }
    by_end (Some by) is e = absurd (cc)

pub place-waits : (P : ProgramParts) (fuel : ℕ) (tasks : List Started) (g : Grant) (i : ℕ) → position (can_take P fuel tasks g) tasks ≡ Some i → (d : Started) → WantsLock P fuel (get_or tasks i d)
place-waits P fuel tasks g i e d = can_take-waits P fuel tasks g (get_or tasks i d) (position-Some (can_take P fuel tasks g) tasks i d e).1

-- ---- lists of grants

pub grants-none : (P : ProgramParts) (fuel : ℕ) (gs : List Grant) → grants_from P fuel None gs ≡ None
grants-none P fuel [] = refl
grants-none P fuel (g ∷ gs) = grants-none P fuel gs

-- a grant of a list that is legal
pub grants-legal : (P : ProgramParts) (fuel i : ℕ) (F G : Flat) (gs : List Grant) (d : Grant) → i < length gs → granted P fuel (get_or gs i d) F ≡ Some G
    → grants_from P fuel (Some G) (drop (i + 1) gs) ≡ grants_from P fuel (Some F) (drop i gs)
grants-legal P fuel i F G gs d within is =
    let rest : Option Flat → Option Flat = λ o. grants_from P fuel o (drop (i + 1) gs) in
    sym (at_drop_more (grants_from P fuel (Some F)) gs i d within ∙ ap rest is)

-- a grant of a list that isn't legal
pub grants-illegal : (P : ProgramParts) (fuel i : ℕ) (F : Flat) (gs : List Grant) (d : Grant) → i < length gs → granted P fuel (get_or gs i d) F ≡ None → grants_from P fuel (Some F) (drop i gs) ≡ None
grants-illegal P fuel i F gs d within none =
    let rest : Option Flat → Option Flat = λ o. grants_from P fuel o (drop (i + 1) gs) in
    at_drop_more (grants_from P fuel (Some F)) gs i d within ∙ ap rest none ∙ grants-none P fuel (drop (i + 1) gs)

-- ---- the next grant is legal

pub same-grant : (g : Grant) → is_grant g (Some g) ≡ true
same-grant g = grind (arith, nat_tests)

first-place : (P : ProgramParts) (fuel : ℕ) (tasks rs : List Started) (g : Grant) → first_grant P fuel tasks rs ≡ Some g → position_or_len (can_take P fuel tasks g) rs < length rs
first-place P fuel tasks [] g e = absurd (none-some g e)
first-place P fuel tasks (r ∷ rs) g e = by_grant (grant_for P fuel tasks r) refl e (first-place P fuel tasks rs g)
  where
    by_test : (b : Bool) (n : ℕ) → n < length rs → cond (not b) (1 + n) 0 < length (r ∷ rs)
    by_test true n within = omega arith
    by_test false n within = omega arith

    here : (b : Bool) (n : ℕ) → b ≡ true → cond (not b) n 0 < length (r ∷ rs)
    here true n e = omega arith
    here false n e = absurd (cc)

    by_grant : (o : Option Grant) → grant_for P fuel tasks r ≡ o → option_or o (first_grant P fuel tasks rs) ≡ Some g
        → (first_grant P fuel tasks rs ≡ Some g → position_or_len (can_take P fuel tasks g) rs < length rs) → position_or_len (can_take P fuel tasks g) (r ∷ rs) < length (r ∷ rs)
    by_grant None is rest later = by_test (can_take P fuel tasks g r) (position_or_len (can_take P fuel tasks g) rs) (later rest)
    by_grant (Some h) is found later =
        let passes : can_take P fuel tasks g r ≡ true = ap (is_grant g) (is ∙ found) ∙ same-grant g in
        here (can_take P fuel tasks g r) (1 + position_or_len (can_take P fuel tasks g) rs) passes

pub next-legal : (P : ProgramParts) (fuel : ℕ) (F : Flat) (g : Grant) → next_grant P fuel F ≡ Some g → granted P fuel g F ≡ None → ⊥
unfolding next_grant granted
next-legal P fuel F g e none =
    let at' : nat_lt (position_or_len (can_take P fuel F.tasks g) F.tasks) (length F.tasks) ≡ true =
    let within = first-place P fuel F.tasks F.tasks g e in grind (arith, nat_tests) in
    by_test (nat_lt (position_or_len (can_take P fuel F.tasks g) F.tasks) (length F.tasks)) (position_or_len (can_take P fuel F.tasks g) F.tasks) at' none
  where
    by_test : (b : Bool) (i : ℕ) → b ≡ true → granted_at P fuel F (cond b (Some i) None) ≡ None → ⊥
    by_test true i e n = cc
    by_test false i e n = cc
