-- A call through a row of turns.
use Rattle.std.proofs.Common.{◌≡◌, ◌≢◌, ℕ, zero, suc, ◌<◌, ◌==◌, ◌⊎◌, Bool, true, false, if◌then◌else◌, List, [], ◌∷◌, ◌++◌, length, Option, Some, None, Result, Ok, Err, IfOk, OnOk, slice_get, slice_index_or, slice_set, sym, refl, ap, ◌∙◌, subst, arith}
use mathlib.Core.Logic.{inl, inr}
use Rattle.std.proofs.lemmas.List.{length-set}
use Rattle.std.proofs.lemmas.Option.{slice_get-get_or}
use Rattle.std.proofs.lemmas.Bool.Decides.{nat_tests}
use Rattle.turn_lock.specs.declared.entry.Entry.{Entry}
use Rattle.turn_lock.specs.History.{Legal, EndsWith, entry, calls_by}
use Rattle.turn_lock.specs.Passes.{Sharing, Token, IsPassOf, IsSamePass}
use Rattle.bank_hall.specs.Rows.{Tokens, HasPassesOf, HasCalled, HasMade, made_by, made_of, one_call}

module _ {X : Type 0} where
  abbrev held : X → Option X → X
  held d None = d
  held d (Some x) = x

  none_is_no : (x : X) → None ≡ Some x → ⊥
  none_is_no x e = subst (λ (o : Option X). is_none_type o) e tt where
    is_none_type : Option X → Type 0
    is_none_type None = Unit {0}
    is_none_type (Some y) = ⊥

  pub nil_right : (xs : List X) → xs ++ [] ≡ xs
  nil_right [] = refl
  nil_right (x ∷ xs) = ap (λ l. x ∷ l) (nil_right xs)

  -- what stands at a place once something else was put there, and at the other places
  at_set : (xs : List X) (i : ℕ) (x : X) → i < length xs → slice_get (slice_set xs i x) i ≡ Some x
  at_set [] i x within = absurd (omega (arith, within))
  at_set (y ∷ ys) zero x within = refl
  at_set (y ∷ ys) (suc i) x within = at_set ys i x (omega (arith, within))

  pub at_other : (xs : List X) (i j : ℕ) (x : X) → i ≢ j → slice_get (slice_set xs i x) j ≡ slice_get xs j
  at_other [] i j x apart = refl
  at_other (y ∷ ys) zero zero x apart = absurd (apart refl)
  at_other (y ∷ ys) zero (suc j) x apart = refl
  at_other (y ∷ ys) (suc i) zero x apart = refl
  at_other (y ∷ ys) (suc i) (suc j) x apart = at_other ys i j x (λ e. apart (ap suc e))

  at_cases : (xs : List X) (i j : ℕ) (x y : X) → slice_get (slice_set xs i x) j ≡ Some y → ((i ≡ j) × (x ≡ y)) ⊎ (slice_get xs j ≡ Some y)
  at_cases [] i j x y at = inr at
  at_cases (z ∷ zs) zero zero x y at = inl (refl, ap (held x) at)
  at_cases (z ∷ zs) zero (suc j) x y at = inr at
  at_cases (z ∷ zs) (suc i) zero x y at = inr at
  at_cases (z ∷ zs) (suc i) (suc j) x y at = lifted (at_cases zs i j x y at) where
    lifted : ((i ≡ j) × (x ≡ y)) ⊎ (slice_get zs j ≡ Some y) → ((suc i ≡ suc j) × (x ≡ y)) ⊎ (slice_get zs j ≡ Some y)
    lifted (inl both) = inl (ap suc both.0, both.1)
    lifted (inr old) = inr old

  pub stands : (xs : List X) (i : ℕ) (x : X) → i < length xs → x ≡ slice_index_or xs i x → slice_get xs i ≡ Some x
  stands xs i x within is = slice_get-get_or xs i x within ∙ ap (λ y. Some y) (sym is)

module _ {O I U C : Type 0} (answer : C → I → U) (next : C → I → C) where
  -- the object's content where the last call of a history was made
  splits : (xs : List (Entry O I U)) (e : Entry O I U) (x y : C) → Legal answer next x (xs ++ e ∷ []) y → (there : C) × Legal answer next x xs there × (e.output ≡ answer there e.input)
  splits [] e x y l = (x, refl, l.0)
  splits (d ∷ ds) e x y l =
      let r = splits ds e (next x d.input) y l.1 in
      (r.0, (l.0, r.1), r.2)

module _ {O I U : Type 0} where
  -- the passes still fit once one of them is the same pass after a call
  pub keeps : (turns turns' : List (Sharing O)) (caller : Tokens O I U) (number : ℕ) (passes : List (Token O I U)) (place : ℕ) (turn : Sharing O) (before after : Token O I U) → turns' ≡ turns → record { number = number; passes = passes } ≡ caller → HasPassesOf turns caller → place < length turns → turn ≡ slice_index_or turns' place turn → before ≡ slice_index_or passes place before → IsSamePass before after → HasPassesOf turns (record { number = number; passes = slice_set passes place after }) × (number ≡ caller.number)
  keeps turns turns' caller number passes place turn before after et ec fits within at_turn at_pass same =
      let fits' : HasPassesOf turns (record { number = number; passes = passes }) = subst (HasPassesOf turns) (sym ec) fits in
      let here : slice_get turns place ≡ Some turn = subst (λ ts. slice_get ts place ≡ Some turn) et (stands turns' place turn (subst (λ ts. place < length ts) (sym et) within) at_turn) in
      let was : slice_get passes place ≡ Some before = stands passes place before (omega (arith, within, fits'.count)) at_pass in
      let old = fits'.each place turn before here was in (
        record { count = length-set passes place after ∙ fits'.count; each = λ i t k ti ki. by_place i t k ti old (at_cases passes place i after k ki) fits' here },
        ap (λ (k : Tokens O I U). k.number) ec,
      ) where
        by_place : (i : ℕ) (t : Sharing O) (k : Token O I U) → slice_get turns i ≡ Some t → IsPassOf turn before × (before.number ≡ number) → ((place ≡ i) × (after ≡ k)) ⊎ (slice_get passes i ≡ Some k) → HasPassesOf turns (record { number = number; passes = passes }) → slice_get turns place ≡ Some turn → IsPassOf t k × (k.number ≡ number)
        by_place i t k ti old (inl here) fits' at =
            let is : turn ≡ t = ap (held turn) (sym at ∙ subst (λ j. slice_get turns j ≡ Some t) (sym here.0) ti) in
            let moved : IsPassOf turn after × (after.number ≡ number) = ((same.0 ∙ old.0.0, same.1 ∙ old.0.1), same.2 ∙ old.1) in
            subst (λ u. IsPassOf u k × (k.number ≡ number)) is (subst (λ p. IsPassOf turn p × (p.number ≡ number)) here.1 moved)
        by_place i t k ti old (inr before_too) fits' at = fits'.each i t k ti before_too

  -- one call more at the place, and none elsewhere
  pub adds : (caller : Tokens O I U) (number : ℕ) (passes : List (Token O I U)) (place : ℕ) (before after : Token O I U) (call : Entry O I U) → record { number = number; passes = passes } ≡ caller → place < length passes → before ≡ slice_index_or passes place before → after.made ≡ before.made ++ call ∷ [] → HasMade caller (record { number = number; passes = slice_set passes place after }) (one_call place call)
  adds caller number passes place before after call ec within at_pass more i = subst (λ (k : Tokens O I U). made_by (slice_get (slice_set passes place after) i) ≡ made_of k i ++ one_call place call i) ec (by_test (place == i) refl) where
    by_test : (t : Bool) → (place == i) ≡ t → made_by (slice_get (slice_set passes place after) i) ≡ made_by (slice_get passes i) ++ (if t then call ∷ [] else [])
    by_test true e =
        let same : place ≡ i = grind (arith, nat_tests) in
        let here : made_by (slice_get (slice_set passes place after) place) ≡ made_by (slice_get passes place) ++ call ∷ [] =
        ap made_by (at_set passes place after within) ∙ more ∙ ap (λ o. made_by o ++ call ∷ []) (sym (stands passes place before within at_pass)) in
        subst (λ j. made_by (slice_get (slice_set passes place after) j) ≡ made_by (slice_get passes j) ++ call ∷ []) same here
    by_test false e =
        let differ : place ≢ i = grind (arith, nat_tests) in
        ap made_by (at_other passes place i after differ) ∙ sym (nil_right (made_by (slice_get passes i)))

module _ {O I U C E : Type 0} (content : O → C) (answer : C → I → U) (next : C → I → C) where
  pub called : (turns turns' : List (Sharing O)) (caller : Tokens O I U) (number : ℕ) (passes : List (Token O I U)) (place : ℕ) (turn : Sharing O) (before after : Token O I U) (input : I) (r : Result U E) → turns' ≡ turns → record { number = number; passes = passes } ≡ caller → HasPassesOf turns caller → place < length turns → turn ≡ slice_index_or turns' place turn → before ≡ slice_index_or passes place before → IsSamePass before after → OnOk r ((left : C) × Legal answer next (content turn.opening) after.seen left) → IfOk r (λ output. EndsWith before.seen (entry {O = O} before.number input output) after.seen) → IfOk r (λ output. after.made ≡ before.made ++ entry {O = O} before.number input output ∷ []) → OnOk r (calls_by after.number after.seen ≡ after.made) → IfOk r (λ output. HasCalled content answer next turns place (entry {O = O} caller.number input output) caller.passes (slice_set passes place after))
  called turns turns' caller number passes place turn before after input (Err e) et ec fits within at_turn at_pass same legal seen made own = tt
  called turns turns' caller number passes place turn before after input (Ok output) et ec fits within at_turn at_pass same legal seen made own =
      let ps : passes ≡ caller.passes = ap (λ (k : Tokens O I U). k.passes) ec in
      let here : slice_get turns place ≡ Some turn = subst (λ ts. slice_get ts place ≡ Some turn) et (stands turns' place turn (subst (λ ts. place < length ts) (sym et) within) at_turn) in
      let within' : place < length passes = subst (λ n. place < n) (sym (ap length ps ∙ fits.count)) within in
      let was : slice_get caller.passes place ≡ Some before = subst (λ k. slice_get k place ≡ Some before) ps (stands passes place before within' at_pass) in
      let by : before.number ≡ caller.number = (fits.each place turn before here was).1 in
      let ends : after.seen ≡ (before.seen ++ seen.0) ++ entry {O = O} caller.number input output ∷ [] = subst (λ n. after.seen ≡ (before.seen ++ seen.0) ++ entry {O = O} n input output ∷ []) by seen.1 in
      let split = splits answer next (before.seen ++ seen.0) (entry {O = O} caller.number input output) (content turn.opening) legal.0 (subst (λ l. Legal answer next (content turn.opening) l legal.0) ends legal.1) in record {
        turn = turn;
        before = before;
        after = after;
        object = here;
        was = was;
        now = ap (λ k. slice_set k place after) ps;
        same = same;
        between = seen.0;
        seen = ends;
        there = split.0;
        legal = split.1;
        answered = split.2;
        made = subst (λ n. after.made ≡ before.made ++ entry {O = O} n input output ∷ []) by made;
        own = own;
      }

  pub made_more : (turns turns' : List (Sharing O)) (caller : Tokens O I U) (number : ℕ) (passes : List (Token O I U)) (place : ℕ) (turn : Sharing O) (before after : Token O I U) (input : I) (r : Result U E) → turns' ≡ turns → record { number = number; passes = passes } ≡ caller → HasPassesOf turns caller → place < length turns → turn ≡ slice_index_or turns' place turn → before ≡ slice_index_or passes place before → IfOk r (λ output. after.made ≡ before.made ++ entry {O = O} before.number input output ∷ []) → IfOk r (λ output. HasMade caller (record { number = number; passes = slice_set passes place after }) (one_call place (entry {O = O} caller.number input output)))
  made_more turns turns' caller number passes place turn before after input (Err e) et ec fits within at_turn at_pass made = tt
  made_more turns turns' caller number passes place turn before after input (Ok output) et ec fits within at_turn at_pass made =
      let ps : passes ≡ caller.passes = ap (λ (k : Tokens O I U). k.passes) ec in
      let here : slice_get turns place ≡ Some turn = subst (λ ts. slice_get ts place ≡ Some turn) et (stands turns' place turn (subst (λ ts. place < length ts) (sym et) within) at_turn) in
      let within' : place < length passes = subst (λ n. place < n) (sym (ap length ps ∙ fits.count)) within in
      let was : slice_get caller.passes place ≡ Some before = subst (λ k. slice_get k place ≡ Some before) ps (stands passes place before within' at_pass) in
      let by : before.number ≡ caller.number = (fits.each place turn before here was).1 in
      adds caller number passes place before after (entry {O = O} caller.number input output) ec within' at_pass (subst (λ n. after.made ≡ before.made ++ entry {O = O} n input output ∷ []) by made)
