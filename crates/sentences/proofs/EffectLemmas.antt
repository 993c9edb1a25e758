-- The lines that are told of a task are those of its effects on the region, with the words that each gives it.
use Rattle.std.proofs.Common.{◌≡◌, ℕ, ◌<◌, ◌≤◌, ◌==◌, ℤ, pos, negsuc, neg_ℤ, ◌+ℤ◌, ◌*ℤ◌, int_le, int_lt, Bool, true, false, ◌&&◌, nat_le, nat_lt, leb, ltb, if◌then◌else◌, List, [], ◌∷◌, length, Some, refl, sym, ap, subst, ◌∙◌, ⊎_elim, arith, ltb-true}
use Rattle.std.specs.List.{IsAmong, filter}
use Rattle.std.proofs.lemmas.Bool.{false≢true, and_parts, and_from, eqb-true, eq-eqb, le-leb, lt-leb, lt-ltb, le-ltb}
use Rattle.region_table.specs.Program.{ProgramParts}
use Rattle.rv_assembler.specs.declared.statement.Statement.{Statement}
use Rattle.rv_assembler.specs.declared.statement.Statement as statement
use Rattle.rv_assembler.specs.declared.statement.Extent.{Extent}
use Rattle.rv_assembler.specs.declared.statement.Extent as extent
use Rattle.rv_assembler.specs.declared.parsing.Reading.{Reading}
use Rattle.rv_assembler.specs.declared.parsing.Reading.TheVariants.{Bad, Good}
use Rattle.rv_assembler.specs.Number.{is_within}
use Rattle.rv_assembler.specs.Source.{readings}
use Rattle.text_places.specs.declared.places.TaskPlace.{TaskPlace}
use Rattle.std.specs.Prelude.{slice_get}
use Rattle.sentences.specs.declared.claims.Contender.{Contender}
use Rattle.sentences.specs.declared.effects.EffectLine.{EffectLine}
use Rattle.sentences.specs.Claims.{extent_has, gives_to, names_region, uses_so, effect_claims, statement_claims, line_if, family_by, claims_behind, claims_of, claims_in}
use Rattle.sentences.specs.Effects.{effect_on, effects_behind, readings_effects, task_effects, is_of_task, told_of_region, bound_of, interval_bounds, bounds_of}
use Rattle.sentences.proofs.TableClaims.{among-cons, among-head, among-tail, among-none, among-either, among-left, among-right}

-- ---- the words of an effect

low-bound : (a i : ℕ) → i ≤ 65536 → leb a i ≡ leb (if ltb a 0 then 0 else (if ltb 65536 a then 65537 else a)) i
low-bound a i few = by_sign (ltb a 0) refl where
  by_size : (c : Bool) → ltb 65536 a ≡ c → leb a i ≡ leb (if c then 65537 else a) i
  by_size true e = let h = ltb-true 65536 a e in lt-leb a i (omega (arith, h, few)) ∙ sym (lt-leb 65537 i (omega (arith, few)))
  by_size false e = refl

  by_sign : (b : Bool) → ltb a 0 ≡ b → leb a i ≡ leb (if b then 0 else (if ltb 65536 a then 65537 else a)) i
  by_sign true e = let h = ltb-true a 0 e in absurd (omega (arith, h))
  by_sign false e = by_size (ltb 65536 a) refl

high-bound : (a i : ℕ) → i ≤ 65536 → ltb i a ≡ ltb i (if ltb a 0 then 0 else (if ltb 65536 a then 65537 else a))
high-bound a i few = by_sign (ltb a 0) refl where
  by_size : (c : Bool) → ltb 65536 a ≡ c → ltb i a ≡ ltb i (if c then 65537 else a)
  by_size true e = let h = ltb-true 65536 a e in lt-ltb i a (omega (arith, h, few)) ∙ sym (lt-ltb i 65537 (omega (arith, few)))
  by_size false e = refl

  by_sign : (b : Bool) → ltb a 0 ≡ b → ltb i a ≡ ltb i (if b then 0 else (if ltb 65536 a then 65537 else a))
  by_sign true e = let h = ltb-true a 0 e in absurd (omega (arith, h))
  by_sign false e = by_size (ltb 65536 a) refl

low-words : (z : ℤ) (i : ℕ) → i ≤ 65536 → int_le z (pos i) ≡ nat_le (bound_of z) i
low-words (pos a) i few = low-bound a i few
low-words (negsuc a) i few = sym (le-leb 0 i (omega arith))

high-words : (z : ℤ) (i : ℕ) → i ≤ 65536 → int_lt (pos i) z ≡ nat_lt i (bound_of z)
high-words (pos a) i few = high-bound a i few
high-words (negsuc a) i few = sym (le-ltb i 0 (omega arith))

between-words : (lo hi : ℤ) (i : ℕ) → i ≤ 65536 → is_within lo hi (pos i) ≡ (nat_le (interval_bounds lo hi).low i && nat_lt i (interval_bounds lo hi).high)
between-words lo hi i few =
    ap (λ (b : Bool). b && int_lt (pos i) hi) (low-words lo i few) ∙ ap (λ (b : Bool). nat_le (bound_of lo) i && b) (high-words hi i few)

none-within : (i : ℕ) → false ≡ (nat_le 0 i && nat_lt i 0)
none-within i = ap (λ (b : Bool). b && false) (sym (le-leb 0 i (omega arith))) ∙ ap (λ (b : Bool). nat_le 0 i && b) (sym (le-ltb i 0 (omega arith)))

pub bounds-words : (e : Extent) (part len i : ℕ) → i < len → len ≤ 65536 → extent_has e part i ≡ (nat_le (bounds_of e part len).low i && nat_lt i (bounds_of e part len).high)
bounds-words extent.TheVariants.Whole part len i inside few =
    sym (and_from (nat_le 0 i) (nat_lt i len) (le-leb 0 i (omega arith)) (lt-ltb i len (omega (arith, inside))))
bounds-words (extent.TheVariants.Part lo hi) part len i inside few = between-words lo hi i (omega (arith, inside, few))
bounds-words (extent.TheVariants.Stepped lo hi step) part len i inside few = by_move (is_within (neg_ℤ (pos 65536)) (pos 65537) (pos part *ℤ step)) where
  m : ℤ
  m = pos part *ℤ step

  by_move : (b : Bool) → (b && is_within (lo +ℤ m) (hi +ℤ m) (pos i))
      ≡ (nat_le (if b then interval_bounds (lo +ℤ m) (hi +ℤ m) else record { low = 0; high = 0 }).low i
      && nat_lt i (if b then interval_bounds (lo +ℤ m) (hi +ℤ m) else record { low = 0; high = 0 }).high)
  by_move true = between-words (lo +ℤ m) (hi +ℤ m) i (omega (arith, inside, few))
  by_move false = none-within i

-- ---- lines that pass a test

passed : {X : Type 0} (p : X → Bool) (xs : List X) (x : X) → IsAmong (filter p xs) x → IsAmong xs x × (p x ≡ true)
passed p [] x h = absurd (among-none x h)
passed {X} p (y ∷ ys) x h = by_test (p y) refl h (λ (k : IsAmong (filter p ys) x). passed p ys x k) where
  by_test : (b : Bool) → p y ≡ b → IsAmong (if b then y ∷ filter p ys else filter p ys) x → (IsAmong (filter p ys) x → IsAmong ys x × (p x ≡ true))
      → IsAmong (y ∷ ys) x × (p x ≡ true)
  by_test true is h later =
      ⊎_elim (λ (e : x ≡ y). (subst (IsAmong (y ∷ ys)) (sym e) (among-head y ys), ap p e ∙ is))
      (λ (k : IsAmong (filter p ys) x). let rest = later k in (among-tail y ys x rest.0, rest.1))
      (among-cons y (filter p ys) x h)
  by_test false is h later = let rest = later h in (among-tail y ys x rest.0, rest.1)

passes : {X : Type 0} (p : X → Bool) (xs : List X) (x : X) → IsAmong xs x → p x ≡ true → IsAmong (filter p xs) x
passes p [] x h is = absurd (among-none x h)
passes {X} p (y ∷ ys) x h is = by_test (p y) refl (λ (k : IsAmong ys x). passes p ys x k is) where
  by_test : (b : Bool) → p y ≡ b → (IsAmong ys x → IsAmong (filter p ys) x) → IsAmong (if b then y ∷ filter p ys else filter p ys) x
  by_test true test later =
      ⊎_elim (λ (e : x ≡ y). subst (IsAmong (y ∷ filter p ys)) (sym e) (among-head y (filter p ys)))
      (λ (k : IsAmong ys x). among-tail y (filter p ys) x (later k))
      (among-cons y ys x h)
  by_test false test later =
      ⊎_elim (λ (e : x ≡ y). absurd (false≢true (sym test ∙ ap p (sym e) ∙ is))) (λ (k : IsAmong ys x). later k) (among-cons y ys x h)

module _ (text : List ℕ) (P : ProgramParts) (t : TaskPlace) (c : Contender) (one : c.task ≡ Some t) where
  -- an effect of the family gives the task what its extent has
  abbrev gives : ℕ → Extent → Bool
  gives family e = t.line == family && extent_has e t.part c.place.index

  gives-so : (family : ℕ) (e : Extent) → gives_to family e c.place.index c.task ≡ gives family e
  gives-so family e = ap (gives_to family e c.place.index) one

  abbrev named : EffectLine → Bool
  named x = names_region text x.effect.region (slice_get P.regions c.place.region)

  -- ---- a line that is told claims each word that its effect gives the task, in each way in which the effect is

  module _ (x : EffectLine) (own : x.family ≡ t.line) (names : named x ≡ true) (has : extent_has x.effect.extent t.part c.place.index ≡ true)
      (so : uses_so text P.locks c.way x.effect.writes x.effect.lock ≡ true)
    where
      claims-it : effect_claims text P c x.family x.effect ≡ true
      claims-it =
          let line : (t.line == x.family) ≡ true = eq-eqb t.line x.family (sym own) in
          let given = gives-so x.family x.effect.extent ∙ and_from (t.line == x.family) (extent_has x.effect.extent t.part c.place.index) line has in
          and_from (named x) (uses_so text P.locks c.way x.effect.writes x.effect.lock && gives_to x.family x.effect.extent c.place.index c.task) names
          (and_from (uses_so text P.locks c.way x.effect.writes x.effect.lock) (gives_to x.family x.effect.extent c.place.index c.task) so given)

      on-line : (family line : ℕ) (st : Statement) → IsAmong (effect_on family line st) x → IsAmong (line_if (statement_claims text P c family st) line) x.line
      on-line family line (statement.TheVariants.Uses e) h =
          ⊎_elim
          (λ (is : x ≡ record { family = family; line = line; effect = e }).
          let test : effect_claims text P c family e ≡ true = ap (λ (y : EffectLine). effect_claims text P c y.family y.effect) (sym is) ∙ claims-it in
          let number : line ≡ x.line = ap (λ (y : EffectLine). y.line) (sym is) in
          subst (IsAmong (line_if (effect_claims text P c family e) line)) number
          (subst (λ (b : Bool). IsAmong (line_if b line) line) (sym test) (among-head line [])))
          (λ (none : IsAmong [] x). absurd (among-none x none))
          (among-cons (record { family = family; line = line; effect = e }) [] x h)
      on-line family line statement.TheVariants.Nothing h = absurd (among-none x h)
      on-line family line (statement.TheVariants.Instruction k) h = absurd (among-none x h)
      on-line family line (statement.TheVariants.Region name len) h = absurd (among-none x h)
      on-line family line (statement.TheVariants.Word region index value) h = absurd (among-none x h)
      on-line family line (statement.TheVariants.Lock name) h = absurd (among-none x h)
      on-line family line statement.TheVariants.Phase h = absurd (among-none x h)
      on-line family line (statement.TheVariants.Tasks f) h = absurd (among-none x h)

      walk : (rs : List Reading) (family : ℕ) → IsAmong (effects_behind family rs) x → IsAmong (claims_behind text P c family rs) x.line
      walk [] family h = absurd (among-none x h)
      walk (Bad f ∷ rs) family h = walk rs family h
      walk (Good s ∷ rs) family h =
          let next = family_by family s.line s.statement in
          ⊎_elim
          (λ (here : IsAmong (effect_on family s.line s.statement) x).
          among-left (line_if (statement_claims text P c family s.statement) s.line) (claims_behind text P c next rs) x.line (on-line family s.line s.statement here))
          (λ (behind : IsAmong (effects_behind next rs) x).
          among-right (line_if (statement_claims text P c family s.statement) s.line) (claims_behind text P c next rs) x.line (walk rs next behind))
          (among-either (effect_on family s.line s.statement) (effects_behind next rs) x h)

      in-all : IsAmong (readings_effects text) x → IsAmong (claims_of text P c) x.line
      unfolding readings_effects claims_of
      in-all h = walk (readings text) 0 h

      in-text : IsAmong (task_effects text) x → IsAmong (claims_in text P c) x.line
      in-text h = by_size (nat_lt 1048576 (length text)) h where
        by_size : (b : Bool) → IsAmong (if b then [] else readings_effects text) x → IsAmong (if b then [] else claims_of text P c) x.line
        by_size true h = absurd (among-none x h)
        by_size false h = in-all h

  pub told-claims : (x : EffectLine) → IsAmong (told_of_region text P t c.place.region) x → extent_has x.effect.extent t.part c.place.index ≡ true
      → uses_so text P.locks c.way x.effect.writes x.effect.lock ≡ true → IsAmong (claims_in text P c) x.line
  told-claims x told has so =
      let found = passed (is_of_task text P t c.place.region) (task_effects text) x told in
      let parts = and_parts (x.family == t.line) (named x) found.1 in
      in-text x (eqb-true x.family t.line parts.0) parts.1 has so found.0

  -- ---- each line that claims a word of the region for the task is told

  abbrev IsTold : List EffectLine → ℕ → Type 0
  IsTold xs line = (x : EffectLine) × IsAmong xs x × (x.line ≡ line) × (is_of_task text P t c.place.region x ≡ true) × (extent_has x.effect.extent t.part c.place.index ≡ true)

  tested-line : (b : Bool) (n line : ℕ) → IsAmong (line_if b n) line → (b ≡ true) × (line ≡ n)
  tested-line true n line h = ⊎_elim (λ (e : line ≡ n). (refl, e)) (λ (none : IsAmong [] line). absurd (among-none line none)) (among-cons n [] line h)
  tested-line false n line h = absurd (among-none line h)

  told-on : (family line n : ℕ) (st : Statement) → IsAmong (line_if (statement_claims text P c family st) line) n → IsTold (effect_on family line st) n
  told-on family line n (statement.TheVariants.Uses e) h =
      let test = tested-line (effect_claims text P c family e) line n h in
      let x : EffectLine = record { family = family; line = line; effect = e } in
      let both = and_parts (named x) (uses_so text P.locks c.way e.writes e.lock && gives_to family e.extent c.place.index c.task) test.0 in
      let so = and_parts (uses_so text P.locks c.way e.writes e.lock) (gives_to family e.extent c.place.index c.task) both.1 in
      let given = and_parts (t.line == family) (extent_has e.extent t.part c.place.index) (sym (gives-so family e.extent) ∙ so.1) in
      let line_is : t.line ≡ family = eqb-true t.line family given.0 in
      let own : (family == t.line) ≡ true = eq-eqb family t.line (sym line_is) in
      (x, among-head x [], sym test.1, and_from (family == t.line) (named x) own both.0, given.1)
  told-on family line n statement.TheVariants.Nothing h = absurd (among-none n h)
  told-on family line n (statement.TheVariants.Instruction k) h = absurd (among-none n h)
  told-on family line n (statement.TheVariants.Region name len) h = absurd (among-none n h)
  told-on family line n (statement.TheVariants.Word region index value) h = absurd (among-none n h)
  told-on family line n (statement.TheVariants.Lock name) h = absurd (among-none n h)
  told-on family line n statement.TheVariants.Phase h = absurd (among-none n h)
  told-on family line n (statement.TheVariants.Tasks f) h = absurd (among-none n h)

  told-among : (rs : List Reading) (family n : ℕ) → IsAmong (claims_behind text P c family rs) n → IsTold (effects_behind family rs) n
  told-among [] family n h = absurd (among-none n h)
  told-among (Bad f ∷ rs) family n h = told-among rs family n h
  told-among (Good s ∷ rs) family n h =
      let next = family_by family s.line s.statement in
      ⊎_elim
      (λ (here : IsAmong (line_if (statement_claims text P c family s.statement) s.line) n).
      let told = told-on family s.line n s.statement here in
      (told.0, among-left (effect_on family s.line s.statement) (effects_behind next rs) told.0 told.1, told.2, told.3, told.4))
      (λ (behind : IsAmong (claims_behind text P c next rs) n).
      let told = told-among rs next n behind in
      (told.0, among-right (effect_on family s.line s.statement) (effects_behind next rs) told.0 told.1, told.2, told.3, told.4))
      (among-either (line_if (statement_claims text P c family s.statement) s.line) (claims_behind text P c next rs) n h)

  told-of-all : (n : ℕ) → IsAmong (claims_of text P c) n → IsTold (readings_effects text) n
  unfolding readings_effects claims_of
  told-of-all n h = told-among (readings text) 0 n h

  told-in : (n : ℕ) → IsAmong (claims_in text P c) n → IsTold (task_effects text) n
  told-in n h = by_size (nat_lt 1048576 (length text)) h where
    by_size : (b : Bool) → IsAmong (if b then [] else claims_of text P c) n → IsTold (if b then [] else readings_effects text) n
    by_size true h = absurd (among-none n h)
    by_size false h = told-of-all n h

  pub claims-told : (n : ℕ) → IsAmong (claims_in text P c) n
      → (x : EffectLine) × IsAmong (told_of_region text P t c.place.region) x × (x.line ≡ n) × (extent_has x.effect.extent t.part c.place.index ≡ true)
  claims-told n h =
      let told = told-in n h in
      (told.0, passes (is_of_task text P t c.place.region) (task_effects text) told.0 told.1 told.3, told.2, told.4)
