-- A list of grants has an end, or a first grant that may not come.
use Rattle.std.proofs.Common.{◌≡◌, ℕ, zero, suc, ◌≤◌, Bool, true, false, if◌then◌else◌, List, [], ◌∷◌, length, take, slice_get, Option, Some, None, refl, sym, ap, ◌∙◌, subst, arith}
use Rattle.std.proofs.lemmas.Option.{none-some, same_Some, slice_get_within}
use Rattle.dn_base.specs.declared.ids.Grant.{Grant}
use Rattle.region_table.specs.Program.{ProgramParts}
use Rattle.flat_machine.specs.declared.ending.FlatEnd.{FlatEnd}
use Rattle.flat_machine.specs.declared.refused.FlatRun.{FlatRun}
use Rattle.flat_machine.specs.declared.refused.FlatRun.TheVariants.{Whole, Refused}
use Rattle.flat_machine.specs.Phases.{Flat, initial_flat}
use Rattle.flat_machine.specs.Grants.{granted, grants_from, next_grant, grants_are_whole, so_far, IsStoppedAt}
use Rattle.flat_machine.specs.Ending.{flat_end_of, whole_only, flat_end}
use Rattle.flat_machine.specs.Refused.{MayNotCome, IsFirstRefused, IsRunBy}
use Rattle.flat_machine.proofs.GrantLemmas.{grants-none}

module _ (P : ProgramParts) (fuel : ℕ) where
  -- what a list comes to from a state on
  abbrev end-from : Flat → List Grant → Option FlatEnd
  end-from F gs = whole_only P fuel (grants_from P fuel (Some F) gs)

  record RefusedFrom (F : Flat) (gs : List Grant) (place : ℕ) : Type 0 where
    within : place ≤ length gs
    flat : Flat
    front : grants_from P fuel (Some F) (take place gs) ≡ Some flat
    refused : MayNotCome P fuel flat (slice_get gs place)

  -- where the list goes on behind its first grant
  onward : (F G : Flat) (g : Grant) (gs : List Grant) (place : ℕ) → granted P fuel g F ≡ Some G → RefusedFrom F (g ∷ gs) (suc place) → RefusedFrom G gs place
  onward F G g gs place is h =
      let low = h.within in
      record {
        within = omega arith;
        flat = h.flat;
        front = ap (λ (o : Option Flat). grants_from P fuel o (take place gs)) (sym is) ∙ h.front;
        refused = h.refused;
      }

  from-onward : (F G : Flat) (g : Grant) (gs : List Grant) (place : ℕ) → granted P fuel g F ≡ Some G → RefusedFrom G gs place → RefusedFrom F (g ∷ gs) (suc place)
  from-onward F G g gs place is h =
      let low = h.within in
      record {
        within = omega arith;
        flat = h.flat;
        front = ap (λ (o : Option Flat). grants_from P fuel o (take place gs)) is ∙ h.front;
        refused = h.refused;
      }

  here-refused : (F : Flat) (g : Grant) (gs : List Grant) → RefusedFrom F (g ∷ gs) 0 → granted P fuel g F ≡ None
  here-refused F g gs h = ap (granted P fuel g) (same_Some F h.flat h.front) ∙ h.refused

  -- a grant before the place is legal
  goes-on : (F : Flat) (g : Grant) (gs : List Grant) (place : ℕ) → RefusedFrom F (g ∷ gs) (suc place) → granted P fuel g F ≡ None → ⊥
  goes-on F g gs place h none =
      let lost : grants_from P fuel (granted P fuel g F) (take place gs) ≡ None =
      ap (λ (o : Option Flat). grants_from P fuel o (take place gs)) none ∙ grants-none P fuel (take place gs) in
      none-some h.flat (sym lost ∙ h.front)

  end-lost : (F : Flat) (g : Grant) (gs : List Grant) → granted P fuel g F ≡ None → end-from F (g ∷ gs) ≡ None
  end-lost F g gs none = ap (λ (o : Option Flat). whole_only P fuel (grants_from P fuel o gs)) none ∙ ap (whole_only P fuel) (grants-none P fuel gs)

  end-short : (F : Flat) → grants_are_whole P fuel F ≡ false → end-from F [] ≡ None
  unfolding next_grant
  end-short F short = ap (λ (b : Bool). if b then Some (flat_end_of P fuel F) else None) short

  -- ---- no end

  refused-lost : (F : Flat) (gs : List Grant) (place : ℕ) → RefusedFrom F gs place → end-from F gs ≡ None
  refused-lost F [] zero h = end-short F (ap (grants_are_whole P fuel) (same_Some F h.flat h.front) ∙ h.refused)
  refused-lost F [] (suc place) h = let low = h.within in absurd (omega arith)
  refused-lost F (g ∷ gs) zero h = end-lost F g gs (here-refused F g gs h)
  refused-lost F (g ∷ gs) (suc place) h = by_grant (granted P fuel g F) refl (λ G is. refused-lost G gs place (onward F G g gs place is h))
    where
      by_grant : (o : Option Flat) → granted P fuel g F ≡ o → ((G : Flat) → granted P fuel g F ≡ Some G → end-from G gs ≡ None) → end-from F (g ∷ gs) ≡ None
      by_grant None is later = end-lost F g gs is
      by_grant (Some G) is later = ap (λ (o : Option Flat). whole_only P fuel (grants_from P fuel o gs)) is ∙ later G is

  -- ---- one place

  one-refused : (F : Flat) (gs : List Grant) (m n : ℕ) → RefusedFrom F gs m → RefusedFrom F gs n → m ≡ n
  one-refused F gs zero zero h k = refl
  one-refused F [] zero (suc n) h k = let low = k.within in absurd (omega arith)
  one-refused F [] (suc m) n h k = let low = h.within in absurd (omega arith)
  one-refused F (g ∷ gs) zero (suc n) h k = absurd (goes-on F g gs n k (here-refused F g gs h))
  one-refused F (g ∷ gs) (suc m) zero h k = absurd (goes-on F g gs m h (here-refused F g gs k))
  one-refused F (g ∷ gs) (suc m) (suc n) h k = by_grant (granted P fuel g F) refl (λ G is. one-refused G gs m n (onward F G g gs m is h) (onward F G g gs n is k))
    where
      by_grant : (o : Option Flat) → granted P fuel g F ≡ o → ((G : Flat) → granted P fuel g F ≡ Some G → m ≡ n) → suc m ≡ suc n
      by_grant None is later = absurd (goes-on F g gs m h is)
      by_grant (Some G) is later = ap suc (later G is)

  -- ---- some answer

  abbrev ComesFrom : Flat → List Grant → FlatRun → Type 0
  ComesFrom F gs (Whole e) = end-from F gs ≡ Some e
  ComesFrom F gs (Refused place) = RefusedFrom F gs place

  refused-here : (F : Flat) (g : Grant) (gs : List Grant) → granted P fuel g F ≡ None → RefusedFrom F (g ∷ gs) 0
  refused-here F g gs none = record { within = omega arith; flat = F; front = refl; refused = none }

  comes-from : (F : Flat) (gs : List Grant) → (r : FlatRun) × ComesFrom F gs r
  unfolding next_grant
  comes-from F [] = by_whole (grants_are_whole P fuel F) refl
    where
      by_whole : (b : Bool) → grants_are_whole P fuel F ≡ b → (r : FlatRun) × ComesFrom F [] r
      by_whole true is = (Whole (flat_end_of P fuel F), ap (λ (b : Bool). if b then Some (flat_end_of P fuel F) else None) is)
      by_whole false is = (Refused 0, record { within = omega arith; flat = F; front = refl; refused = is })
  comes-from F (g ∷ gs) = by_grant (granted P fuel g F) refl (λ G. comes-from G gs)
    where
      longer : (G : Flat) → granted P fuel g F ≡ Some G → (r : FlatRun) → ComesFrom G gs r → (s : FlatRun) × ComesFrom F (g ∷ gs) s
      longer G is (Whole e) h = (Whole e, ap (λ (o : Option Flat). whole_only P fuel (grants_from P fuel o gs)) is ∙ h)
      longer G is (Refused place) h = (Refused (suc place), from-onward F G g gs place is h)

      by_grant : (o : Option Flat) → granted P fuel g F ≡ o → ((G : Flat) → (r : FlatRun) × ComesFrom G gs r) → (s : FlatRun) × ComesFrom F (g ∷ gs) s
      by_grant None is later = (Refused 0, refused-here F g gs is)
      by_grant (Some G) is later = let rest = later G in longer G is rest.0 rest.1

  -- ---- from the start

  at-start : (gs : List Grant) (place : ℕ) → IsFirstRefused P fuel gs place → RefusedFrom (initial_flat P fuel) gs place
  at-start gs place h = record { within = h.within; flat = h.flat; front = h.front; refused = h.refused }

  pub refused_none : (gs : List Grant) (place : ℕ) → IsFirstRefused P fuel gs place → flat_end P fuel gs ≡ None
  unfolding flat_end
  refused_none gs place h = refused-lost (initial_flat P fuel) gs place (at-start gs place h)

  pub comes-to_some : (gs : List Grant) → (r : FlatRun) × IsRunBy P fuel gs r
  unfolding flat_end
  comes-to_some gs = let found = comes-from (initial_flat P fuel) gs in told found.0 found.1
    where
      told : (r : FlatRun) → ComesFrom (initial_flat P fuel) gs r → (s : FlatRun) × IsRunBy P fuel gs s
      told (Whole e) h = (Whole e, h)
      told (Refused place) h = (Refused place, record { within = h.within; flat = h.flat; front = h.front; refused = h.refused })

  pub comes-to_one : (gs : List Grant) (r s : FlatRun) → IsRunBy P fuel gs r → IsRunBy P fuel gs s → r ≡ s
  comes-to_one gs (Whole d) (Whole e) h k = ap Whole (same_Some d e (sym h ∙ k))
  comes-to_one gs (Whole e) (Refused place) h k = absurd (none-some e (sym (refused_none gs place k) ∙ h))
  comes-to_one gs (Refused place) (Whole e) h k = absurd (none-some e (sym (refused_none gs place h) ∙ k))
  comes-to_one gs (Refused m) (Refused n) h k =
      ap Refused (one-refused (initial_flat P fuel) gs m n (at-start gs m h) (at-start gs n k))

  -- ---- where the machine stops

  pub refused_at : (gs : List Grant) (F G : Flat) (place : ℕ) → F ≡ initial_flat P fuel → IsStoppedAt P fuel F gs G place → IsFirstRefused P fuel gs place
  refused_at gs F G place start h =
      let low = slice_get_within gs place h.given h.there in
      record {
        within = omega arith;
        flat = G;
        front = ap (λ (K : Flat). grants_from P fuel (Some K) (take place gs)) (sym start) ∙ h.front;
        refused = subst (MayNotCome P fuel G) (sym h.there) h.illegal;
      }

  beyond : (gs : List Grant) → slice_get gs (length gs) ≡ None
  beyond [] = refl
  beyond (g ∷ gs) = beyond gs

  all : (gs : List Grant) → take (length gs) gs ≡ gs
  all [] = refl
  all (g ∷ gs) = ap (λ (l : List Grant). g ∷ l) (all gs)

  pub refused_short : (gs : List Grant) (F G : Flat) → F ≡ initial_flat P fuel → grants_from P fuel (Some F) gs ≡ Some G → grants_are_whole P fuel G ≡ false → IsFirstRefused P fuel gs (length gs)
  refused_short gs F G start leads short =
      record {
        within = omega arith;
        flat = G;
        front = ap (so_far P fuel) (all gs) ∙ ap (λ (K : Flat). grants_from P fuel (Some K) gs) (sym start) ∙ leads;
        refused = subst (MayNotCome P fuel G) (sym (beyond gs)) short;
      }
