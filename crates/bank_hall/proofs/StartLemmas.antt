-- Sharing a row of objects among callers.
use Rattle.std.proofs.Common.{◌≡◌, ℕ, zero, suc, ◌+◌, ◌<◌, List, [], ◌∷◌, ◌++◌, length, map, Option, Some, None, slice_get, slice_set, sym, refl, ap, ◌∙◌, subst, arith, length-append}
use Rattle.std.specs.Prelude.{reverse}
use Rattle.std.proofs.lemmas.List.{reverse-append}
use Rattle.std.proofs.lemmas.List.Elements.{All-nil, All-cons}
use Rattle.turn_lock.specs.Passes.{Sharing, Token, IsPassOf, IsUnusedPass, AreUnusedPasses}
use Rattle.bank_hall.specs.Rows.{Tokens, IsNew, AreNew, handed}

module _ {X : Type 0} where
  abbrev held : X → Option X → X
  held d None = d
  held d (Some x) = x

  abbrev IsNothing : Option X → Type 0
  IsNothing None = Unit {0}
  IsNothing (Some x) = ⊥

  pub none_left : (xs : List X) → (0 < length xs → ⊥) → xs ≡ []
  none_left [] not_more = refl
  none_left (x ∷ xs) not_more = absurd (not_more (omega arith))

  pub length-pushed : (xs ys : List X) (x : X) → ys ≡ xs ++ x ∷ [] → length ys ≡ length xs + 1
  length-pushed xs ys x is = omega (arith, ap length is, length-append xs (x ∷ []))

  pub reverse-push : (xs ys : List X) (x : X) → ys ≡ xs ++ x ∷ [] → reverse ys ≡ x ∷ reverse xs
  reverse-push xs ys x is = ap reverse is ∙ reverse-append xs (x ∷ [])

  pub snoc-append : (left rest : List X) (x : X) → (left ++ x ∷ []) ++ rest ≡ left ++ x ∷ rest
  snoc-append [] rest x = refl
  snoc-append (y ∷ left) rest x = ap (λ l. y ∷ l) (snoc-append left rest x)

module _ {O : Type 0} where
  -- one more object at the front is shared
  pub opened_more : (objects left first : List O) (o : O) (turns turns' : List (Sharing O)) (turn : Sharing O) → objects ≡ left ++ o ∷ [] → turns' ≡ turn ∷ turns → turn.opening ≡ o → objects ++ map (λ (t : Sharing O). t.opening) turns ≡ first → left ++ map (λ (t : Sharing O). t.opening) turns' ≡ first
  opened_more objects left first o turns turns' turn split inserted same had =
      ap (λ ts. left ++ map (λ (t : Sharing O). t.opening) ts) inserted ∙ ap (λ x. left ++ x ∷ map (λ (t : Sharing O). t.opening) turns) same ∙ sym (snoc-append left (map (λ (t : Sharing O). t.opening) turns) o) ∙ ap (λ l. l ++ map (λ (t : Sharing O). t.opening) turns) (sym split) ∙ had

module _ {O I U : Type 0} where
  pub no_passes : (turns : List (Sharing O)) (number : ℕ) (c : Tokens O I U) → turns ≡ [] → c ≡ record { number = number; passes = [] } → IsNew turns number c
  no_passes turns number c none is = subst (λ ts. IsNew ts number c) (sym none) (subst (IsNew [] number) (sym is) (record {
    fits = record { count = refl; each = λ i t k ti ki. absurd (subst IsNothing ki tt) };
    numbered = refl;
    unused = All-nil (λ (p : Token O I U). (p.seen ≡ []) × (p.made ≡ []));
  }))

  pub AreNew-push : (turns : List (Sharing O)) (number last : ℕ) (cs : List (Tokens O I U)) (c : Tokens O I U) → AreNew turns number cs → number + length cs ≡ last → IsNew turns last c → AreNew turns number (cs ++ c ∷ [])
  AreNew-push turns number last [] c all is new = (subst (λ k. IsNew turns k c) (omega arith) new, tt)
  AreNew-push turns number last (d ∷ ds) c all is new = (all.0, AreNew-push turns (number + 1) last ds c all.1 (omega arith) new)

  -- a new caller that is handed a fresh pass is new
  one_more : (turn : Sharing O) (turns : List (Sharing O)) (number : ℕ) (c : Tokens O I U) (p : Token O I U) → IsNew turns number c → IsUnusedPass turn number p → IsNew (turn ∷ turns) number (record c { passes = p ∷ c.passes })
  one_more turn turns number c p new fresh = record {
    fits = record { count = ap suc new.fits.count; each = by_place };
    numbered = new.numbered;
    unused = All-cons (λ (q : Token O I U). (q.seen ≡ []) × (q.made ≡ [])) p c.passes (fresh.2, fresh.3) new.unused;
  } where
    by_place : (i : ℕ) (t : Sharing O) (k : Token O I U) → slice_get (turn ∷ turns) i ≡ Some t → slice_get (p ∷ c.passes) i ≡ Some k → IsPassOf t k × (k.number ≡ c.number)
    by_place zero t k ti ki = subst (λ u. IsPassOf u k × (k.number ≡ c.number)) (ap (held turn) ti) (subst (λ q. IsPassOf turn q × (q.number ≡ c.number)) (ap (held p) ki) (fresh.0, fresh.1 ∙ sym new.numbered))
    by_place (suc i) t k ti ki = new.fits.each i t k ti ki

  pub handed-new : (turn : Sharing O) (turns : List (Sharing O)) (number : ℕ) (cs : List (Tokens O I U)) (ps : List (Token O I U)) → length ps ≡ length cs → AreNew turns number cs → AreUnusedPasses turn number ps → AreNew (turn ∷ turns) number (handed cs ps)
  handed-new turn turns number [] ps same new fresh = tt
  handed-new turn turns number (c ∷ cs) [] same new fresh = absurd (omega (arith, same))
  handed-new turn turns number (c ∷ cs) (p ∷ ps) same new fresh = (one_more turn turns number c p new.0 fresh.0, handed-new turn turns (number + 1) cs ps (omega (arith, same)) new.1 fresh.1)

  pub length-handed : (cs : List (Tokens O I U)) (ps : List (Token O I U)) → length (handed cs ps) ≡ length cs
  length-handed [] ps = refl
  length-handed (c ∷ cs) [] = refl
  length-handed (c ∷ cs) (p ∷ ps) = ap suc (length-handed cs ps)

  pub handed-none : (cs : List (Tokens O I U)) → handed cs [] ≡ cs
  handed-none [] = refl
  handed-none (c ∷ cs) = refl

  -- the last pass is handed to its caller first
  pub handed-last : (cs : List (Tokens O I U)) (left : List (Token O I U)) (c : Tokens O I U) (p : Token O I U) → slice_get cs (length left) ≡ Some c → handed (slice_set cs (length left) (record c { passes = p ∷ c.passes })) left ≡ handed cs (left ++ p ∷ [])
  handed-last [] left c p at = absurd (subst IsNothing at tt)
  handed-last (d ∷ ds) [] c p at = ap (λ k. k ∷ ds) (ap (λ (k : Tokens O I U). record k { passes = p ∷ k.passes }) (sym (ap (held d) at))) ∙ ap (λ l. record d { passes = p ∷ d.passes } ∷ l) (sym (handed-none ds))
  handed-last (d ∷ ds) (q ∷ left) c p at = ap (λ l. record d { passes = q ∷ d.passes } ∷ l) (handed-last ds left c p at)
