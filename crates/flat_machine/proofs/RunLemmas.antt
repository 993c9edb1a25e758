-- What lists of grants come to.
use Rattle.std.proofs.Common.{◌≡◌, ◌≢◌, ℕ, ◌+◌, ◌<◌, true, false, cond, is_none, List, [], ◌∷◌, ◌++◌, length, take, get_or, position, Option, Some, None, refl, sym, ap, ◌∙◌, subst, append_assoc, arith}
use Rattle.std.specs.Option.{option_or}
use Rattle.std.proofs.lemmas.List.{take_more}
use Rattle.std.proofs.lemmas.List.Quantifiers.{position-Some}
use Rattle.std.proofs.lemmas.Option.{none-some, same_Some, slice_get-get_or}
use Rattle.dn_base.specs.declared.ids.Grant.{Grant}
use Rattle.region_table.specs.Program.{ProgramParts}
use Rattle.rv_core.specs.declared.need.Need.{Need}
use Rattle.rv_core.specs.declared.need.Need as need
use Rattle.flat_machine.specs.declared.ending.FlatEnd.{FlatEnd}
use Rattle.flat_machine.specs.Step.{Started, wish}
use Rattle.flat_machine.specs.Phases.{Flat, initial_flat}
use Rattle.flat_machine.specs.Grants.{grant_by, grant_for, is_grant, can_take, granted_at, granted, granted_if, grants_from, first_grant, next_grant, IsStoppedAt, IsLeastFrom, IsLeast}
use Rattle.flat_machine.specs.Ending.{flat_end_of, whole_only, flat_end}
use Rattle.flat_machine.proofs.Rights.{told}
use Rattle.flat_machine.proofs.GrantLemmas.{grants-none}

-- ---- one more grant

pub grants-push : (P : ProgramParts) (fuel : ℕ) (o : Option Flat) (gs : List Grant) (g : Grant) → grants_from P fuel o (gs ++ g ∷ []) ≡ granted_if P fuel (grants_from P fuel o gs) g
grants-push P fuel o [] g = refl
grants-push P fuel o (h ∷ hs) g = grants-push P fuel (granted_if P fuel o h) hs g

-- the next grant of a list whose front is given
pub grants-front : (P : ProgramParts) (fuel : ℕ) (o : Option Flat) (G : Flat) (gs : List Grant) (i : ℕ) (d : Grant) → i < length gs → grants_from P fuel o (take i gs) ≡ Some G
    → grants_from P fuel o (take (i + 1) gs) ≡ granted P fuel (get_or gs i d) G
grants-front P fuel o G gs i d within e =
    ap (grants_from P fuel o) (take_more gs i d within) ∙ grants-push P fuel o (take i gs) (get_or gs i d) ∙ ap (λ (p : Option Flat). granted_if P fuel p (get_or gs i d)) e

-- the front of a list up to its first grant that isn't legal
pub stopped-at : (P : ProgramParts) (fuel : ℕ) (F G : Flat) (gs : List Grant) (i : ℕ) (d : Grant) → i < length gs → grants_from P fuel (Some F) (take i gs) ≡ Some G
    → granted P fuel (get_or gs i d) G ≡ None → IsStoppedAt P fuel F gs G i
stopped-at P fuel F G gs i d within front illegal =
    record { given = get_or gs i d; there = slice_get-get_or gs i d within; front = front; illegal = illegal }

-- one more grant of the least list
pub least-more : (P : ProgramParts) (fuel : ℕ) (o : Option Flat) (F G : Flat) (gs rest : List Grant) (g : Grant)
    → ((more : List Grant) → IsLeastFrom P fuel (Some F) more → IsLeastFrom P fuel o (gs ++ more)) → next_grant P fuel F ≡ Some g → granted P fuel g F ≡ Some G
    → IsLeastFrom P fuel (Some G) rest → IsLeastFrom P fuel o ((gs ++ g ∷ []) ++ rest)
least-more P fuel o F G gs rest g so_far next is h =
    let joined : (gs ++ g ∷ []) ++ rest ≡ gs ++ g ∷ rest = rw append_assoc in
    subst (IsLeastFrom P fuel o) (sym joined) (so_far (g ∷ rest) (next, subst (λ (p : Option Flat). IsLeastFrom P fuel p rest) (sym is) h))

-- ---- the least list

pub record IsRun (P : ProgramParts) (fuel : ℕ) (o : Option Flat) (gs : List Grant) : Type 0 where
  pub last : Flat
  pub leads : grants_from P fuel o gs ≡ Some last
  pub whole : next_grant P fuel last ≡ None

pub least-runs : (P : ProgramParts) (fuel : ℕ) (o : Option Flat) (gs : List Grant) → IsLeastFrom P fuel o gs → IsRun P fuel o gs
least-runs P fuel None gs h = absurd h
least-runs P fuel (Some F) [] h = record { last = F; leads = refl; whole = h }
least-runs P fuel (Some F) (g ∷ gs) h =
    let r = least-runs P fuel (granted P fuel g F) gs h.1 in record { last = r.last; leads = r.leads; whole = r.whole }

whole-end : (P : ProgramParts) (fuel : ℕ) (F : Flat) → next_grant P fuel F ≡ None → whole_only P fuel (Some F) ≡ Some (flat_end_of P fuel F)
whole-end P fuel F none =
    let choice : Option Grant → Option FlatEnd = λ o. cond (is_none o) (Some (flat_end_of P fuel F)) None in ap choice none

pub run-ends : (P : ProgramParts) (fuel : ℕ) (gs : List Grant) (r : IsRun P fuel (Some (initial_flat P fuel)) gs) → flat_end P fuel gs ≡ Some (flat_end_of P fuel r.last)
unfolding flat_end
run-ends P fuel gs r = ap (whole_only P fuel) r.leads ∙ whole-end P fuel r.last r.whole

pub least-has_run : (P : ProgramParts) (fuel : ℕ) (gs : List Grant) → IsLeast P fuel gs → flat_end P fuel gs ≢ None
least-has_run P fuel gs h none =
    let r = least-runs P fuel (Some (initial_flat P fuel)) gs h in
    none-some (flat_end_of P fuel r.last) (sym none ∙ run-ends P fuel gs r)

pub least-one : (P : ProgramParts) (fuel : ℕ) (o : Option Flat) (gs hs : List Grant) → IsLeastFrom P fuel o gs → IsLeastFrom P fuel o hs → gs ≡ hs
least-one P fuel None gs hs h k = absurd h
least-one P fuel (Some F) [] [] h k = refl
least-one P fuel (Some F) [] (g ∷ gs) h k = absurd (none-some g (sym h ∙ k.0))
least-one P fuel (Some F) (g ∷ gs) [] h k = absurd (none-some g (sym k ∙ h.0))
least-one P fuel (Some F) (g ∷ gs) (f ∷ fs) h k =
    let same : g ≡ f = same_Some g f (sym h.0 ∙ k.0) in
    let rest = subst (λ (x : Grant). IsLeastFrom P fuel (granted P fuel x F) fs) (sym same) k.1 in
    let tail = least-one P fuel (granted P fuel g F) gs fs h.1 rest in
    ap (λ (x : Grant). x ∷ gs) same ∙ ap (λ (xs : List Grant). f ∷ xs) tail

-- ---- programs without locks

no-grant : (P : ProgramParts) (fuel : ℕ) (tasks : List Started) (r : Started) → length P.locks ≡ 0 → grant_for P fuel tasks r ≡ None
no-grant P fuel tasks r none = by_wish (wish P fuel r) refl
  where
    by_wish : (o : Option Need) → wish P fuel r ≡ o → grant_by tasks r o ≡ None
    by_wish None e = refl
    by_wish (Some (need.TheVariants.Acquire lock)) e =
        let within : lock.0 < length P.locks = (told P fuel r (need.TheVariants.Acquire lock) e).0 in absurd (omega arith)
    by_wish (Some need.TheVariants.Local) e = refl
    by_wish (Some (need.TheVariants.Load word)) e = refl
    by_wish (Some (need.TheVariants.Store word whole)) e = refl
    by_wish (Some (need.TheVariants.Release lock)) e = refl
    by_wish (Some (need.TheVariants.End by)) e = refl

no-first : (P : ProgramParts) (fuel : ℕ) (tasks rs : List Started) → length P.locks ≡ 0 → first_grant P fuel tasks rs ≡ None
no-first P fuel tasks [] none = refl
no-first P fuel tasks (r ∷ rs) none =
    ap (λ (o : Option Grant). option_or o (first_grant P fuel tasks rs)) (no-grant P fuel tasks r none) ∙ no-first P fuel tasks rs none

no-place : (P : ProgramParts) (fuel : ℕ) (tasks rs : List Started) (g : Grant) (o : Option ℕ) → length P.locks ≡ 0 → position (can_take P fuel tasks g) rs ≡ o → o ≡ None
no-place P fuel tasks rs g None none e = refl
no-place P fuel tasks [] g (Some i) none e = sym e
no-place P fuel tasks (r ∷ rs) g (Some i) none e =
    let takes : can_take P fuel tasks g (get_or (r ∷ rs) i r) ≡ true = (position-Some (can_take P fuel tasks g) (r ∷ rs) i r e).1 in
    let not_taken : can_take P fuel tasks g (get_or (r ∷ rs) i r) ≡ false = ap (is_grant g) (no-grant P fuel tasks (get_or (r ∷ rs) i r) none) in
    absurd (let bad : ⊥ = cc in bad)

no-granted : (P : ProgramParts) (fuel : ℕ) (g : Grant) (F : Flat) → length P.locks ≡ 0 → granted P fuel g F ≡ None
unfolding granted
no-granted P fuel g F none = ap (granted_at P fuel F) (no-place P fuel F.tasks F.tasks g (position (can_take P fuel F.tasks g) F.tasks) none refl)

pub alone-runs : (P : ProgramParts) (fuel : ℕ) → length P.locks ≡ 0 → flat_end P fuel [] ≡ Some (flat_end_of P fuel (initial_flat P fuel))
unfolding flat_end next_grant
alone-runs P fuel none = whole-end P fuel (initial_flat P fuel) (no-first P fuel (initial_flat P fuel).tasks (initial_flat P fuel).tasks none)

pub alone-only : (P : ProgramParts) (fuel : ℕ) (g : Grant) (gs : List Grant) → length P.locks ≡ 0 → flat_end P fuel (g ∷ gs) ≡ None
unfolding flat_end
alone-only P fuel g gs none =
    ap (λ (o : Option Flat). whole_only P fuel (grants_from P fuel o gs)) (no-granted P fuel g (initial_flat P fuel) none) ∙ ap (whole_only P fuel) (grants-none P fuel gs)
