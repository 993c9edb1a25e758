-- Ending the sharing of a row of objects.
use Rattle.std.proofs.Common.{◌≡◌, ℕ, zero, suc, ◌<◌, List, [], ◌∷◌, ◌++◌, length, Option, Some, None, slice_get, slice_set, sym, refl, ap, ◌∙◌, subst, arith, length-append}
use Rattle.std.specs.List.{All}
use Rattle.std.proofs.lemmas.List.Elements.{All-nil, All-cons, All-head, All-tail}
use Rattle.turn_lock.specs.declared.entry.Entry.{Entry}
use Rattle.turn_lock.specs.Passes.{Sharing, Token, IsPassOf, IsTold}
use Rattle.bank_hall.specs.Rows.{Tokens, HasPassesOf, with_passes, AreTold}

module _ {X : Type 0} where
  abbrev held : X → Option X → X
  held d None = d
  held d (Some x) = x

  abbrev IsNothing : Option X → Type 0
  IsNothing None = Unit {0}
  IsNothing (Some x) = ⊥

  front : (xs ys : List X) (i : ℕ) (x : X) → slice_get xs i ≡ Some x → slice_get (xs ++ ys) i ≡ Some x
  front [] ys i x at = absurd (subst IsNothing at tt)
  front (z ∷ zs) ys zero x at = at
  front (z ∷ zs) ys (suc i) x at = front zs ys i x at

  last : (xs : List X) (x : X) → slice_get (xs ++ x ∷ []) (length xs) ≡ Some x
  last [] x = refl
  last (z ∷ zs) x = last zs x

  nothing : (xs : List X) → length xs ≡ 0 → xs ≡ []
  nothing [] none = refl
  nothing (x ∷ xs) none = absurd (omega (arith, none))

  pub stands_in : (P : X → Type 0) (xs : List X) (i : ℕ) (x : X) → All P xs → slice_get xs i ≡ Some x → P x
  stands_in P [] i x all at = absurd (subst IsNothing at tt)
  stands_in P (y ∷ ys) zero x all at = subst P (ap (held y) at) (All-head P y ys all)
  stands_in P (y ∷ ys) (suc i) x all at = stands_in P ys i x (All-tail P y ys all) at

module _ {O I U : Type 0} where
  pub joined-none : (cs : List (Tokens O I U)) → with_passes cs [] ≡ cs
  joined-none [] = refl
  joined-none (c ∷ cs) = refl

  pub length-joined : (cs : List (Tokens O I U)) (ps : List (Token O I U)) → length (with_passes cs ps) ≡ length cs
  length-joined [] ps = refl
  length-joined (c ∷ cs) [] = refl
  length-joined (c ∷ cs) (p ∷ ps) = ap suc (length-joined cs ps)

  -- the next caller gave up its last pass
  pub joined-more : (cs : List (Tokens O I U)) (column : List (Token O I U)) (c left : Tokens O I U) (p : Token O I U) → slice_get cs (length column) ≡ Some c → c ≡ record left { passes = left.passes ++ p ∷ [] } → with_passes (slice_set cs (length column) left) (column ++ p ∷ []) ≡ with_passes cs column
  joined-more [] column c left p at is = absurd (subst IsNothing at tt)
  joined-more (d ∷ ds) [] c left p at is = ap (λ k. k ∷ with_passes ds []) (sym is ∙ sym (ap (held d) at)) ∙ ap (λ l. d ∷ l) (joined-none ds)
  joined-more (d ∷ ds) (q ∷ column) c left p at is = ap (λ l. record d { passes = d.passes ++ q ∷ [] } ∷ l) (joined-more ds column c left p at is)

  one_less : (turns : List (Sharing O)) (t : Sharing O) (c : Tokens O I U) (p : Token O I U) → HasPassesOf (turns ++ t ∷ []) (record c { passes = c.passes ++ p ∷ [] }) → HasPassesOf turns c × IsPassOf t p
  one_less turns t c p fits =
      let same : length c.passes ≡ length turns = omega (arith, fits.count, length-append c.passes (p ∷ []), length-append turns (t ∷ [])) in
      let own = fits.each (length turns) t p (last turns t) (subst (λ n. slice_get (c.passes ++ p ∷ []) n ≡ Some p) same (last c.passes p)) in
      (record { count = same; each = λ i u k ui ki. fits.each i u k (front turns (t ∷ []) i u ui) (front c.passes (p ∷ []) i k ki) }, own.0)

  -- what the callers keep are passes of the other turns, and what they gave up are passes of the last
  pub column_fits : (turns : List (Sharing O)) (t : Sharing O) (cs : List (Tokens O I U)) (column : List (Token O I U)) → length column ≡ length cs → All (HasPassesOf (turns ++ t ∷ [])) (with_passes cs column) → All (HasPassesOf turns) cs × All (IsPassOf t) column
  column_fits turns t [] [] same all = (All-nil (HasPassesOf turns), All-nil (IsPassOf t))
  column_fits turns t [] (p ∷ ps) same all = absurd (omega (arith, same))
  column_fits turns t (c ∷ cs) [] same all = absurd (omega (arith, same))
  column_fits turns t (c ∷ cs) (p ∷ ps) same all =
      let here = one_less turns t c p (All-head (HasPassesOf (turns ++ t ∷ [])) (record c { passes = c.passes ++ p ∷ [] }) (with_passes cs ps) all) in
      let rest = column_fits turns t cs ps (omega (arith, same)) (All-tail (HasPassesOf (turns ++ t ∷ [])) (record c { passes = c.passes ++ p ∷ [] }) (with_passes cs ps) all) in
      (All-cons (HasPassesOf turns) c cs here.0 rest.0, All-cons (IsPassOf t) p ps here.1 rest.1)

  told_last : (hs : List (List (Entry O I U))) (h : List (Entry O I U)) (ps : List (Token O I U)) (p : Token O I U) → AreTold hs ps → IsTold h p → AreTold (hs ++ h ∷ []) (ps ++ p ∷ [])
  told_last [] h [] p told own = (own, tt)
  told_last [] h (q ∷ qs) p told own = absurd told
  told_last (g ∷ gs) h [] p told own = absurd told
  told_last (g ∷ gs) h (q ∷ qs) p told own = (told.0, told_last gs h qs p told.1 own)

  -- one history more is told, of the object whose passes were given up
  pub column_told : (hs : List (List (Entry O I U))) (h : List (Entry O I U)) (cs : List (Tokens O I U)) (column : List (Token O I U)) → length column ≡ length cs → All (λ (c : Tokens O I U). AreTold hs c.passes) cs → All (IsTold h) column → All (λ (c : Tokens O I U). AreTold (hs ++ h ∷ []) c.passes) (with_passes cs column)
  column_told hs h [] column same told own = All-nil (λ (c : Tokens O I U). AreTold (hs ++ h ∷ []) c.passes)
  column_told hs h (c ∷ cs) [] same told own = absurd (omega (arith, same))
  column_told hs h (c ∷ cs) (p ∷ ps) same told own =
      All-cons (λ (k : Tokens O I U). AreTold (hs ++ h ∷ []) k.passes) (record c { passes = c.passes ++ p ∷ [] }) (with_passes cs ps) (told_last hs h c.passes p (All-head (λ (k : Tokens O I U). AreTold hs k.passes) c cs told) (All-head (IsTold h) p ps own)) (column_told hs h cs ps (omega (arith, same)) (All-tail (λ (k : Tokens O I U). AreTold hs k.passes) c cs told) (All-tail (IsTold h) p ps own))

  -- callers of no turns are told nothing
  pub told_none : (cs : List (Tokens O I U)) → All (HasPassesOf []) cs → All (λ (c : Tokens O I U). AreTold [] c.passes) cs
  told_none [] fit = All-nil (λ (c : Tokens O I U). AreTold [] c.passes)
  told_none (c ∷ cs) fit =
      let none = nothing c.passes (All-head (HasPassesOf []) c cs fit).count in
      All-cons (λ (k : Tokens O I U). AreTold [] k.passes) c cs (subst (λ ps. AreTold [] ps) (sym none) tt) (told_none cs (All-tail (HasPassesOf []) c cs fit))

  -- where there is a turn, each caller has a pass
  pub some_pass : (turns : List (Sharing O)) (t : Sharing O) (cs : List (Tokens O I U)) → All (HasPassesOf (turns ++ t ∷ [])) cs → All (λ (c : Tokens O I U). 0 < length c.passes) cs
  some_pass turns t [] fit = All-nil (λ (c : Tokens O I U). 0 < length c.passes)
  some_pass turns t (c ∷ cs) fit =
      let here = (All-head (HasPassesOf (turns ++ t ∷ [])) c cs fit).count in
      All-cons (λ (k : Tokens O I U). 0 < length k.passes) c cs (omega (arith, here, length-append turns (t ∷ []))) (some_pass turns t cs (All-tail (HasPassesOf (turns ++ t ∷ [])) c cs fit))
