-- The load that a diagnosis names is the first that differs from the claim.
use Rattle.std.proofs.Common.{◌≡◌, ◌≢◌, ℕ, ◌+◌, ◌<◌, ◌≤◌, Bool, true, false, ◌&&◌, not, List, ◌∷◌, ◌++◌, length, take, drop, get_or, slice_get, Option, Some, None, refl, sym, ap, ◌∙◌, subst, arith}
use Rattle.std.specs.List.{All, position_or_len}
use Rattle.std.proofs.lemmas.Bool.{true≢false, false≢true}
use Rattle.std.proofs.lemmas.Bool.Decides.{nat_tests}
use Rattle.std.proofs.lemmas.List.{take-append-drop, drop_more, get_or-take, length-take-le}
use Rattle.std.proofs.lemmas.List.Quantifiers.{position-Some}
use Rattle.std.proofs.lemmas.List.Sums.{fails_before_first}
use Rattle.std.proofs.lemmas.Option.{none-some, same_Some, get_or_from_slice_get}
use Rattle.dn_base.specs.declared.ids.LoadSeen.{LoadSeen}
use Rattle.flat_machine.specs.declared.accesses.AccessKind.{AccessKind}
use Rattle.flat_machine.specs.declared.accesses.AccessKind as kind
use Rattle.flat_machine.specs.declared.accesses.FlatAccess.{FlatAccess}
use Rattle.flat_machine.specs.declared.accesses.FlatAction.{FlatAction}
use Rattle.flat_machine.specs.declared.accesses.FlatAction.TheVariants.{Accesses, Takes}
use Rattle.flat_machine.specs.declared.ending.TaskLoads.{TaskLoads}
use Rattle.claims.specs.declared.diagnosis.Diagnosis.{Diagnosis}
use Rattle.claims.specs.declared.diagnosis.Diagnosis as diagnosis
use Rattle.claims.specs.declared.diagnosis.WrongLoad.{WrongLoad}
use Rattle.claims.specs.Diagnosis.{is_load, load_by, claimed_load, is_claimed_as, is_wrong_load, earliest_wrong, last_store, wrong_load, wrong_action, wrong_at, first_wrong_load}
use Rattle.claims.specs.DiagnosisLaws.{IsStoredBy, IsClaimedAsMade, IsFirstToDiffer}
use Rattle.claims.proofs.Agreement.{load-self, load-exact}
use Rattle.claims.proofs.DiagnosisLemmas.{some-action, never-stored, last-stored}
use Rattle.flat_machine.proofs.PhaseLemmas.{some_within}

-- ---- a load, alone

stored-by : (word : ℕ) (before : List FlatAction) (o : Option FlatAccess) → last_store word before ≡ o → IsStoredBy word before o
stored-by word before None is = never-stored word before is
stored-by word before (Some s) is = last-stored word before s is

is-a-load : (k : AccessKind) → is_load k ≡ true → k ≡ kind.TheVariants.Load
is-a-load kind.TheVariants.Load e = refl
is-a-load kind.TheVariants.Store e = absurd (false≢true e)

-- a wrong load is a load, and isn't claimed as made
both : (a b : Bool) → (a && b) ≡ true → (a ≡ true) × (b ≡ true)
both true true e = (refl, refl)
both true false e = absurd (false≢true e)
both false b e = absurd (false≢true e)

not-true : (b : Bool) → not b ≡ true → b ≡ false
not-true false e = refl
not-true true e = absurd (false≢true e)

wrong-loads : (claimed : List TaskLoads) (a : FlatAccess) → is_wrong_load claimed (Accesses a) ≡ true → a.kind ≡ kind.TheVariants.Load
wrong-loads claimed a e = is-a-load a.kind (both (is_load a.kind) (not (is_claimed_as a (claimed_load claimed a))) e).0

wrong-differs : (claimed : List TaskLoads) (a : FlatAccess) → is_wrong_load claimed (Accesses a) ≡ true → claimed_load claimed a ≢ Some (load_by a)
wrong-differs claimed a e same =
    let fails = not-true (is_claimed_as a (claimed_load claimed a)) (both (is_load a.kind) (not (is_claimed_as a (claimed_load claimed a))) e).1 in
    true≢false (sym (load-self (load_by a)) ∙ sym (ap (is_claimed_as a) same) ∙ fails)

-- an action that isn't a wrong load is claimed as made, if it is a load
claimed-exactly : (a : FlatAccess) (o : Option LoadSeen) → is_claimed_as a o ≡ true → o ≡ Some (load_by a)
claimed-exactly a None e = absurd (false≢true e)
claimed-exactly a (Some s) e = ap Some (load-exact s (load_by a) e)

right-claimed : (claimed : List TaskLoads) (x : FlatAction) → is_wrong_load claimed x ≡ false → IsClaimedAsMade claimed x
right-claimed claimed (Takes g) e = tt
right-claimed claimed (Accesses a) e = λ (loads : a.kind ≡ kind.TheVariants.Load). claimed-exactly a (claimed_load claimed a) (by_test (is_claimed_as a (claimed_load claimed a)) refl loads)
  where
    by_test : (b : Bool) → is_claimed_as a (claimed_load claimed a) ≡ b → a.kind ≡ kind.TheVariants.Load → is_claimed_as a (claimed_load claimed a) ≡ true
    by_test true is loads = is
    by_test false is loads =
        let wrong : (is_load a.kind && not (is_claimed_as a (claimed_load claimed a))) ≡ true = ap (λ (k : AccessKind). is_load k && not (is_claimed_as a (claimed_load claimed a))) loads ∙ ap not is in
        absurd (true≢false (sym wrong ∙ e))

-- ---- among the actions

none-wrong : (claimed : List TaskLoads) (xs : List FlatAction) → earliest_wrong claimed xs ≡ None → All (IsClaimedAsMade claimed) xs
none-wrong claimed xs none k d within =
    let p : FlatAction → Bool = is_wrong_load claimed in
    let beyond : length xs ≤ position_or_len p xs = grind (arith, nat_tests) in
    right-claimed claimed (get_or xs k d) (fails_before_first p xs k d (omega arith))

module _ (claimed : List TaskLoads) (actions : List FlatAction) (place : ℕ) (is : earliest_wrong claimed actions ≡ Some place) where
  found : (d : FlatAction) → (place < length actions) × (is_wrong_load claimed (get_or actions place d) ≡ true) × ((k : ℕ) → k < place → is_wrong_load claimed (get_or actions k d) ≡ false)
  found d = position-Some (is_wrong_load claimed) actions place d is

  agree : All (IsClaimedAsMade claimed) (take place actions)
  agree k d within =
      let inside = (found d).0 in
      let long = length-take-le place actions (omega arith) in
      let before : k < place = omega arith in
      subst (IsClaimedAsMade claimed) (sym (get_or-take place actions k d before)) (right-claimed claimed (get_or actions k d) ((found d).2 k before))

  named-at : (a : FlatAccess) → slice_get actions place ≡ Some (Accesses a) → IsFirstToDiffer claimed actions (wrong_load claimed (take place actions) a)
  named-at a there =
      let d : FlatAction = Accesses a in
      let at' : get_or actions place d ≡ Accesses a = get_or_from_slice_get actions place (Accesses a) d there in
      let wrong : is_wrong_load claimed (Accesses a) ≡ true = ap (is_wrong_load claimed) (sym at') ∙ (found d).1 in
      let left : drop place actions ≡ Accesses a ∷ drop (place + 1) actions =
      drop_more actions place d (found d).0 ∙ ap (λ (x : FlatAction). x ∷ drop (place + 1) actions) at' in
      record {
        before = take place actions;
        behind = drop (place + 1) actions;
        parts = sym (take-append-drop place actions) ∙ ap (λ (l : List FlatAction). take place actions ++ l) left;
        loads = wrong-loads claimed a wrong;
        says = refl;
        differs = wrong-differs claimed a wrong;
        agree = agree;
        taken = refl;
        last = stored-by a.word.0 (take place actions) (last_store a.word.0 (take place actions)) refl;
      }

pub named-first : (claimed : List TaskLoads) (actions : List FlatAction) (w : WrongLoad) → first_wrong_load claimed actions ≡ Some w → IsFirstToDiffer claimed actions w
unfolding first_wrong_load
named-first claimed actions w e = by_place (earliest_wrong claimed actions) refl e
  where
    by_action : (place : ℕ) → earliest_wrong claimed actions ≡ Some place → (x : Option FlatAction) → slice_get actions place ≡ x → wrong_action claimed (take place actions) x ≡ Some w
        → IsFirstToDiffer claimed actions w
    by_action place is None there e = absurd (none-some w e)
    by_action place is (Some (Takes g)) there e = absurd (none-some w e)
    by_action place is (Some (Accesses a)) there e =
        subst (IsFirstToDiffer claimed actions) (same_Some (wrong_load claimed (take place actions) a) w e) (named-at claimed actions place is a there)

    by_place : (o : Option ℕ) → earliest_wrong claimed actions ≡ o → wrong_at claimed actions o ≡ Some w → IsFirstToDiffer claimed actions w
    by_place None is e = absurd (none-some w e)
    by_place (Some place) is e = by_action place is (slice_get actions place) refl e

-- where no load is named, none is wrong
pub named-none : (claimed : List TaskLoads) (actions : List FlatAction) → first_wrong_load claimed actions ≡ None → All (IsClaimedAsMade claimed) actions
unfolding first_wrong_load
named-none claimed actions e = by_place (earliest_wrong claimed actions) refl e
  where
    by_action : (place : ℕ) → earliest_wrong claimed actions ≡ Some place → (x : Option FlatAction) → slice_get actions place ≡ x → wrong_action claimed (take place actions) x ≡ None → ⊥
    by_action place is None there e =
        let low = some_within actions place there in
        let inside = (position-Some (is_wrong_load claimed) actions place some-action is).0 in
        omega arith
    by_action place is (Some (Takes g)) there e =
        let found = position-Some (is_wrong_load claimed) actions place (Takes g) is in
        false≢true (sym (ap (is_wrong_load claimed) (get_or_from_slice_get actions place (Takes g) (Takes g) there)) ∙ found.1)
    by_action place is (Some (Accesses a)) there e = none-some (wrong_load claimed (take place actions) a) (sym e)

    by_place : (o : Option ℕ) → earliest_wrong claimed actions ≡ o → wrong_at claimed actions o ≡ None → All (IsClaimedAsMade claimed) actions
    by_place None is e = none-wrong claimed actions is
    by_place (Some place) is e = absurd (by_action place is (slice_get actions place) refl e)

pub same-first : (o p : Option WrongLoad) → diagnosis.TheVariants.Load o ≡ diagnosis.TheVariants.Load p → o ≡ p
same-first o p is = ap part is
  where
    part : Diagnosis → Option WrongLoad
    part (diagnosis.TheVariants.Load x) = x
    part _ = o
