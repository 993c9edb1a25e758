-- All tasks of a phase: one more section is one more effect, whichever task's it is.
use Rattle.std.proofs.Common.{◌≡◌, ℕ, zero, suc, List, [], ◌∷◌, slice_get, slice_set, slice_index_or, Some, sym, ap, ◌∙◌, subst}
use Rattle.std.proofs.lemmas.Option.{none-some, same_Some}
use Rattle.common_outcomes.specs.declared.value.Value.{Value}
use Rattle.common_outcomes.specs.declared.value.Effect.{Effect}
use Rattle.common_outcomes.specs.Values.{joined_effect, known, applied, effect_by}
use Rattle.common_outcomes.specs.Alone.{cell_at}
use Rattle.common_outcomes.specs.Agreeing.{IsBetween, Denotes, IsOfWord, Side, side_effects}
use Rattle.common_outcomes.proofs.EffectLemmas.{joined-assoc, joined-inner, section-ends}

-- where the task at one place has done one more section, so have all tasks
pub effects-more : (sides : List Side) (i w : ℕ) (s t : Side) (x : Effect) → slice_get sides i ≡ Some s → (cell_at t.alone.cells w).effect ≡ joined_effect (cell_at s.alone.cells w).effect x
    → side_effects (slice_set sides i t) w ≡ joined_effect (side_effects sides w) x
effects-more [] i w s t x there e = absurd (none-some s there)
effects-more (q ∷ sides) zero w s t x there e =
    let same : q ≡ s = same_Some q s there in
    let rest : Effect = side_effects sides w in
    ap (λ (y : Effect). joined_effect y rest) e
    ∙ joined-inner (cell_at s.alone.cells w).effect x rest
    ∙ ap (λ (y : Side). joined_effect (joined_effect (cell_at y.alone.cells w).effect rest) x) (sym same)
effects-more (q ∷ sides) (suc i) w s t x there e =
    let rest = effects-more sides i w s t x there e in
    ap (joined_effect (cell_at q.alone.cells w).effect) rest ∙ sym (joined-assoc (cell_at q.alone.cells w).effect (side_effects sides w) x)

-- the word by the sections that have ended, before and after the end of one in which it was left as v says
pub word-settles : (sides : List Side) (first : List Value) (i w b m : ℕ) (s t : Side) (v : Value) (ended now : ℕ → ℕ) → slice_get sides i ≡ Some s
    → IsBetween (slice_index_or first w (known 0)).kind → s.base w ≡ b → Denotes (applied (side_effects sides w) (slice_index_or first w (known 0))) ended b
    → (cell_at t.alone.cells w).effect ≡ joined_effect (cell_at s.alone.cells w).effect (effect_by v.kind v.number) → IsOfWord w v.kind → Denotes v s.base m
    → Denotes (applied (side_effects (slice_set sides i t) w) (slice_index_or first w (known 0))) ended m
word-settles sides first i w b m s t v ended now there between at' before effect own stands =
    subst (λ (e : Effect). Denotes (applied e (slice_index_or first w (known 0))) ended m) (sym (effects-more sides i w s t (effect_by v.kind v.number) there effect))
    (section-ends (side_effects sides w) (slice_index_or first w (known 0)) v w b m s.base ended between at' before own stands)
