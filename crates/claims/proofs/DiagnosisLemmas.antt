-- The earliest wrong load and the last store, in their own words.
use Rattle.std.proofs.Common.{◌≡◌, ℕ, Bool, true, false, if◌then◌else◌, List, [], ◌∷◌, get_or, Option, Some, None, refl, sym, ap, ◌∙◌}
use Rattle.std.specs.List.{All}
use Rattle.std.specs.Option.{option_or}
use Rattle.std.proofs.lemmas.List.Elements.{All-nil, All-cons}
use Rattle.std.proofs.lemmas.List.Quantifiers.{position-Some}
use Rattle.std.proofs.lemmas.Option.{none-some, same_Some, slice_get-get_or, get_or_from_slice_get}
use Rattle.flat_machine.specs.declared.accesses.FlatAccess.{FlatAccess}
use Rattle.flat_machine.specs.declared.accesses.FlatAction.{FlatAction}
use Rattle.flat_machine.specs.declared.accesses.FlatAction.TheVariants.{Accesses, Takes}
use Rattle.flat_machine.specs.declared.ending.TaskLoads.{TaskLoads}
use Rattle.claims.specs.Diagnosis.{is_wrong_load, earliest_wrong, store_to, last_store}
use Rattle.claims.specs.DiagnosisLaws.{IsEarliest, IsLastStore, StoresElsewhere}

pub some-action : FlatAction
some-action = Takes (record { phase = record { 0 = 0 }; core = record { 0 = 0 }; lock = record { 0 = 0 } })

pub earliest-first : (claimed : List TaskLoads) (actions : List FlatAction) (place : ℕ) → earliest_wrong claimed actions ≡ Some place → IsEarliest claimed actions place
earliest-first claimed actions place is =
    let found = position-Some (is_wrong_load claimed) actions place some-action is in
    record {
      action = get_or actions place some-action;
      there = slice_get-get_or actions place some-action found.0;
      wrong = found.1;
      before = λ n x earlier there. ap (is_wrong_load claimed) (sym (get_or_from_slice_get actions n x some-action there)) ∙ found.2 n earlier;
    }

-- ---- the last store

choice-some : (b : Bool) (a s : FlatAccess) → (if b then Some a else None) ≡ Some s → a ≡ s
choice-some true a s is = same_Some a s is
choice-some false a s is = absurd (none-some s is)

store-is : (word : ℕ) (x : FlatAction) (s : FlatAccess) → store_to word x ≡ Some s → x ≡ Accesses s
store-is word (Takes g) s is = absurd (none-some s is)
store-is word (Accesses a) s is = ap Accesses (choice-some _ a s is)

or-none : (o p : Option FlatAccess) → option_or o p ≡ None → (o ≡ None) × (p ≡ None)
or-none None p is = (refl, is)
or-none (Some t) p is = absurd (none-some t (sym is))

pub never-stored : (word : ℕ) (xs : List FlatAction) → last_store word xs ≡ None → All (StoresElsewhere word) xs
never-stored word [] is = All-nil (StoresElsewhere word)
never-stored word (x ∷ xs) is =
    let both = or-none (last_store word xs) (store_to word x) is in
    All-cons (StoresElsewhere word) x xs both.1 (never-stored word xs both.0)

pub last-stored : (word : ℕ) (xs : List FlatAction) (s : FlatAccess) → last_store word xs ≡ Some s → IsLastStore word xs s
last-stored word [] s is = absurd (none-some s is)
last-stored word (x ∷ xs) s is = by_rest (last-stored word xs s) (last_store word xs) refl is
  where
    by_rest : (last_store word xs ≡ Some s → IsLastStore word xs s) → (o : Option FlatAccess) → last_store word xs ≡ o → option_or o (store_to word x) ≡ Some s → IsLastStore word (x ∷ xs) s
    by_rest later (Some t) of says =
        let h = later (of ∙ says) in
        record { before = x ∷ h.before; behind = h.behind; parts = ap (λ (l : List FlatAction). x ∷ l) h.parts; stores = h.stores; none = h.none }
    by_rest later None of says =
        let same = store-is word x s says in
        record {
          before = [];
          behind = xs;
          parts = ap (λ (y : FlatAction). y ∷ xs) same;
          stores = ap (store_to word) (sym same) ∙ says;
          none = never-stored word xs of;
        }
