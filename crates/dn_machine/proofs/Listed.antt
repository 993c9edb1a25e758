-- The list of the cores that have an own event.
use Rattle.std.proofs.Common.{◌≡◌, ℕ, zero, suc, ◌+◌, ◌<◌, Bool, true, false, not, List, [], ◌∷◌, ◌++◌, length, take, set, slice_get, Option, Some, None, refl, sym, ap, ◌∙◌, arith, append-nil}
use Rattle.std.proofs.Math.ListN.{get_or}
use Rattle.std.proofs.lemmas.List.{take_more, take_more_set, take-set, length-take-le, get_or-take}
use Rattle.std.specs.Bool.{beq}
use Rattle.std.specs.Option.{is_some}
use Rattle.message_net.specs.declared.event.Event.{Event}
use Rattle.dn_machine.specs.OwnRow.{cores_with, IsListed}
use Rattle.dn_machine.specs.Pick.{known_events}

-- as many cores as events
pub cores-count : (core : ℕ) (own : List (Option Event)) → length (cores_with core own) ≡ length (known_events own)
cores-count core [] = refl
cores-count core (None ∷ os) = cores-count (core + 1) os
cores-count core (Some e ∷ os) = ap suc (cores-count (core + 1) os)

-- the event at a place among those that there are is that of the core at this place
pub core-at : (core place : ℕ) (own : List (Option Event)) → place < length (cores_with core own)
    → (j : ℕ) × (get_or (cores_with core own) place 0 ≡ core + j) × (j < length own) × (get_or own j None ≡ slice_get (known_events own) place)
core-at core place [] within = absurd (omega (arith, within))
core-at core place (None ∷ os) within =
    let there = core-at (core + 1) place os within in
    (suc there.0, omega (arith, there.1), omega (arith, there.2), there.3)
core-at core zero (Some e ∷ os) within = (zero, omega arith, omega arith, refl)
core-at core (suc place) (Some e ∷ os) within =
    let there = core-at (core + 1) place os (omega (arith, within)) in
    (suc there.0, omega (arith, there.1), omega (arith, there.2), there.3)

-- one core more
pub cores-behind : (core : ℕ) (own : List (Option Event)) (o : Option Event) → cores_with core (own ++ o ∷ []) ≡ cores_with core own ++ cores_with (core + length own) (o ∷ [])
cores-behind core [] o = ap (λ (c : ℕ). cores_with c (o ∷ [])) (omega arith)
cores-behind core (None ∷ os) o = cores-behind (core + 1) os o ∙ ap (λ (c : ℕ). cores_with (core + 1) os ++ cores_with c (o ∷ [])) (omega arith)
cores-behind core (Some e ∷ os) o =
    ap (λ (l : List ℕ). core ∷ l) (cores-behind (core + 1) os o ∙ ap (λ (c : ℕ). cores_with (core + 1) os ++ cores_with c (o ∷ [])) (omega arith))

-- which cores have an event is as before where a core that had one has one still, or had none and has none
pub cores-same : (core place : ℕ) (own : List (Option Event)) (o : Option Event) → is_some o ≡ is_some (get_or own place None) → cores_with core (set own place o) ≡ cores_with core own
cores-same core place [] o same = refl
cores-same core zero (None ∷ os) None same = refl
cores-same core zero (None ∷ os) (Some e) same = absurd (cc)
cores-same core zero (Some x ∷ os) None same = absurd (cc)
cores-same core zero (Some x ∷ os) (Some e) same = refl
cores-same core (suc place) (None ∷ os) o same = cores-same (core + 1) place os o same
cores-same core (suc place) (Some x ∷ os) o same = ap (λ (l : List ℕ). core ∷ l) (cores-same (core + 1) place os o same)

cores-next : (own : List (Option Event)) (core : ℕ) → core < length own → cores_with 0 (take (core + 1) own) ≡ cores_with 0 (take core own) ++ cores_with core (get_or own core None ∷ [])
cores-next own core within =
    let long : 0 + length (take core own) ≡ core = omega (arith, length-take-le core own (omega (arith, within))) in
    ap (cores_with 0) (take_more own core None within) ∙ cores-behind 0 (take core own) (get_or own core None)
    ∙ ap (λ (c : ℕ). cores_with 0 (take core own) ++ cores_with c (get_or own core None ∷ [])) long

-- a core with an event is listed, and another isn't
pub lists-one : (own : List (Option Event)) (cores : List ℕ) (core count : ℕ) → core < length own → count < length cores → take count cores ≡ cores_with 0 (take core own)
    → is_some (get_or own core None) ≡ true → take (count + 1) (set cores count core) ≡ cores_with 0 (take (core + 1) own)
lists-one own cores core count within room so_far has =
    take_more_set cores count core room ∙ ap (λ (l : List ℕ). l ++ core ∷ []) so_far ∙ by_event (get_or own core None) has (cores-next own core within) where
      by_event : (o : Option Event) → is_some o ≡ true → cores_with 0 (take (core + 1) own) ≡ cores_with 0 (take core own) ++ cores_with core (o ∷ []) → cores_with 0 (take core own) ++ core ∷ [] ≡ cores_with 0 (take (core + 1) own)
      by_event None has next = absurd (cc)
      by_event (Some e) has next = sym next

pub lists-none : (own : List (Option Event)) (cores : List ℕ) (core count : ℕ) → core < length own → take count cores ≡ cores_with 0 (take core own)
    → is_some (get_or own core None) ≡ false → take count (set cores count core) ≡ cores_with 0 (take (core + 1) own)
lists-none own cores core count within so_far has =
    take-set cores count core ∙ so_far ∙ by_event (get_or own core None) has (cores-next own core within) where
      by_event : (o : Option Event) → is_some o ≡ false → cores_with 0 (take (core + 1) own) ≡ cores_with 0 (take core own) ++ cores_with core (o ∷ []) → cores_with 0 (take core own) ≡ cores_with 0 (take (core + 1) own)
      by_event None has next = sym (next ∙ append-nil (cores_with 0 (take core own)))
      by_event (Some e) has next = absurd (cc)

-- ---- the row of a machine

pub listed-count : (own : List (Option Event)) (cores : List ℕ) (count : ℕ) → IsListed own cores count → length cores ≡ 16 → count ≡ length (known_events own)
listed-count own cores count row long =
    sym (length-take-le count cores (omega (arith, row.most, long))) ∙ ap length row.listed ∙ cores-count 0 own

pub listed-at : (own : List (Option Event)) (cores : List ℕ) (count place : ℕ) → IsListed own cores count → length cores ≡ 16 → place < count
    → (get_or cores place 0 < length own) × (get_or own (get_or cores place 0) None ≡ slice_get (known_events own) place)
listed-at own cores count place row long within =
    let many : length (cores_with 0 own) ≡ count = ap length (sym row.listed) ∙ length-take-le count cores (omega (arith, row.most, long)) in
    let there = core-at 0 place own (omega (arith, many, within)) in
    let here : get_or (cores_with 0 own) place 0 ≡ there.0 = omega (arith, there.1) in
    let same : get_or cores place 0 ≡ there.0 = sym (get_or-take count cores place 0 within) ∙ ap (λ (l : List ℕ). get_or l place 0) row.listed ∙ here in
    (omega (arith, same, there.2), rw same there.3)

pub not-other : (a b : Bool) → not (beq a b) ≡ false → a ≡ b
not-other true true is = refl
not-other true false is = absurd (cc)
not-other false true is = absurd (cc)
not-other false false is = refl
