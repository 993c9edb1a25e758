-- Where tasks acquire their locks: one grant after the other.
use Rattle.std.proofs.Common.{◌≡◌, ◌≢◌, ℕ, zero, suc, ◌<◌, Bool, true, false, if◌then◌else◌, List, [], ◌∷◌, ◌++◌, length, find, get_or, position, slice_get, Option, Some, None, option_map, refl, sym, ap, ◌∙◌, subst, arith}
use Rattle.std.specs.List.{IsAmong}
use Rattle.std.proofs.lemmas.Bool.{true≢false}
use Rattle.std.proofs.lemmas.Option.{none-some}
use Rattle.dn_base.specs.declared.ids.Grant.{Grant}
use Rattle.region_table.specs.Program.{ProgramParts}
use Rattle.flat_machine.specs.declared.acquires.Acquire.{Acquire}
use Rattle.flat_machine.specs.Step.{Started}
use Rattle.flat_machine.specs.Phases.{Flat, initial_flat}
use Rattle.flat_machine.specs.Grants.{can_take, granted_at, granted, grants_from, so_far}
use Rattle.flat_machine.specs.Acquires.{acquire_at, acquires_from, acquires_so_far, IsAcquiredAt}
use Rattle.flat_machine.proofs.GrantLemmas.{grants-none}
use Rattle.flat_machine.proofs.LegalLaws.{found, takes}

-- ---- the task that takes a legal grant

-- a task that is found by a test, with what the search gives
pub record Found (p : Started → Bool) (xs : List Started) : Type 0 where
  pub task : Started
  pub among : IsAmong xs task
  pub passes : p task ≡ true
  pub is : find p xs ≡ Some task

hit : (p : Started → Bool) (xs : List Started) (r : Started) (i : ℕ) → i < length xs → r ≡ get_or xs i r → p r ≡ true → Found p xs
hit p [] r i within is passes = absurd (omega arith)
hit p (x ∷ xs) r i within is passes = by_test (p x) refl (λ k inside at'. hit p xs r k inside at' passes)
  where
    by_place : ((k : ℕ) → k < length xs → r ≡ get_or xs k r → Found p xs) → (k : ℕ) → k < length (x ∷ xs) → r ≡ get_or (x ∷ xs) k r → p x ≡ false → Found p (x ∷ xs)
    by_place rest zero inside at' e = absurd (true≢false (sym passes ∙ ap p at' ∙ e))
    by_place rest (suc k) inside at' e =
        let h = rest k (omega (arith, inside)) at' in
        let w = h.among.1.0 in
        record {
          task = h.task;
          among = (suc h.among.0, (omega (arith, w), h.among.1.1));
          passes = h.passes;
          is = ap (λ b. if b then Some x else find p xs) e ∙ h.is;
        }

    by_test : (b : Bool) → p x ≡ b → ((k : ℕ) → k < length xs → r ≡ get_or xs k r → Found p xs) → Found p (x ∷ xs)
    by_test true e rest =
        record {
          task = x;
          among = (zero, (omega arith, refl));
          passes = e;
          is = ap (λ b. if b then Some x else find p xs) e;
        }
    by_test false e rest = by_place rest i within is e

taken : (P : ProgramParts) (fuel : ℕ) (F : Flat) (g : Grant) → granted P fuel g F ≢ None → Found (can_take P fuel F.tasks g) F.tasks
unfolding granted
taken P fuel F g legal = by_place (position (can_take P fuel F.tasks g) F.tasks) refl
  where
    by_place : (o : Option ℕ) → position (can_take P fuel F.tasks g) F.tasks ≡ o → Found (can_take P fuel F.tasks g) F.tasks
    by_place None at' = absurd (legal (ap (granted_at P fuel F) at'))
    by_place (Some i) at' =
        let one = found (can_take P fuel F.tasks g) F.tasks i at' in
        hit (can_take P fuel F.tasks g) F.tasks one.0 one.1.0.0 one.1.0.1.0 one.1.0.1.1 one.1.1

pub first-acquire : (P : ProgramParts) (fuel : ℕ) (F : Flat) (g : Grant) (gs : List Grant) → granted P fuel g F ≢ None
    → (r : Found (can_take P fuel F.tasks g) F.tasks) × (acquires_from P fuel (Some F) (g ∷ gs) ≡ record { grant = g; pc = r.task.state.pc } ∷ acquires_from P fuel (granted P fuel g F) gs)
first-acquire P fuel F g gs legal =
    let r = taken P fuel F g legal in
    let rest : Option Started → List Acquire = λ o. acquire_at g (option_map (λ (x : Started). x.state.pc) o) ++ acquires_from P fuel (granted P fuel g F) gs in
    (r, ap rest r.is)

-- ---- the acquire of a grant stands at its index

stands : (P : ProgramParts) (fuel : ℕ) (o : Option Flat) (gs hs : List Grant) (g : Grant) (F : Flat) → grants_from P fuel o gs ≡ Some F → granted P fuel g F ≢ None
    → IsAcquiredAt P fuel F g (slice_get (acquires_from P fuel o (gs ++ g ∷ hs)) (length gs))
stands P fuel o [] hs g F leads legal =
    let first = first-acquire P fuel F g hs legal in
    let h = takes P fuel F.tasks g first.0.task first.0.passes in
    let at' : Option Flat → Option Acquire = λ p. slice_get (acquires_from P fuel p (g ∷ hs)) 0 in
    record {
      task = first.0.task;
      started = first.0.among;
      named = h.named;
      waits = h.waits;
      is = ap at' leads ∙ ap (λ (all : List Acquire). slice_get all 0) first.1;
    }
stands P fuel None (x ∷ gs) hs g F leads legal = absurd (none-some F (sym (grants-none P fuel gs) ∙ leads))
stands P fuel (Some G) (x ∷ gs) hs g F leads legal =
    let goes : granted P fuel x G ≢ None = λ none. none-some F (sym (grants-none P fuel gs) ∙ ap (λ (p : Option Flat). grants_from P fuel p gs) (sym none) ∙ leads) in
    let first = first-acquire P fuel G x (gs ++ g ∷ hs) goes in
    let step = stands P fuel (granted P fuel x G) gs hs g F leads legal in
    subst (IsAcquiredAt P fuel F g) (ap (λ (all : List Acquire). slice_get all (suc (length gs))) (sym first.1)) step

pub acquired-there : (P : ProgramParts) (fuel : ℕ) (gs hs : List Grant) (g : Grant) (F : Flat) → so_far P fuel gs ≡ Some F → granted P fuel g F ≢ None
    → IsAcquiredAt P fuel F g (slice_get (acquires_so_far P fuel (gs ++ g ∷ hs)) (length gs))
unfolding acquires_so_far
acquired-there P fuel gs hs g F leads legal = stands P fuel (Some (initial_flat P fuel)) gs hs g F leads legal
