-- A phase of which control is settled, and its end.
use Rattle.std.proofs.Common.{◌≡◌, ◌≢◌, ℕ, zero, suc, ◌+◌, ◌-◌, ◌<◌, ◌≤◌, Bool, true, false, ◌&&◌, if◌then◌else◌, List, slice_index, slice_index_or, slice_get, slice_set, Option, Some, None, is_none, refl, sym, ap, ◌∙◌, subst, arith, ⊎_elim}
use Rattle.std.proofs.lemmas.Bool.{cases_lt, cases_eq}
use Rattle.std.proofs.lemmas.Option.{none-some, same_Some}
use Rattle.rv_core.specs.declared.task.End.{End}
use Rattle.rv_core.specs.Need.{need_of}
use Rattle.rv_core.specs.Access.{may_store}
use Rattle.flat_machine.specs.Step.{Started}
use Rattle.flat_machine.specs.Laws.{HoldApart}
use Rattle.run_agreement.proofs.Places.{by-place, set-there, set-other}
use Rattle.common_outcomes.specs.declared.value.Effect.{Effect}
use Rattle.common_outcomes.specs.declared.value.Effect.TheVariants.{Kept}
use Rattle.common_outcomes.proofs.EffectLemmas.{joined-comm}
use Rattle.common_outcomes.proofs.Together.{effects-more}
use Rattle.common_outcomes.specs.declared.value.Value.{Value}
use Rattle.common_outcomes.specs.Values.{known, applied}
use Rattle.common_outcomes.specs.Alone.{Setup, Alone, cell_at, is_shared, is_settled_next, alone_by, alone_step, alone_steps, start_alone, alone}
use Rattle.common_outcomes.specs.Agreeing.{Denotes, FitsAlone, Side, side_effects, PhaseAgreesBy}

-- ---- control is settled at each point of a task that ends alone

pub still : (S : Setup) (n : ℕ) (a : Alone) → alone_step S a ≡ a → alone_steps S n a ≡ a
still S zero a e = refl
still S (suc n) a e = ap (alone_steps S n) e ∙ still S n a e

open-still : (S : Setup) (a : Alone) → is_settled_next S a ≡ false → alone_step S a ≡ a
open-still S a e =
    let shut : (is_none a.state.end && is_settled_next S a) ≡ false = by_test (is_none a.state.end) e in
    ap (λ (b : Bool). if b then alone_by S a (need_of S.program S.decl S.fuel a.state) else a) shut
  where
    by_test : (b : Bool) → is_settled_next S a ≡ false → (b && is_settled_next S a) ≡ false
    by_test true e = e
    by_test false e = refl

pub ended-still : (S : Setup) (a : Alone) (by : End) → a.state.end ≡ Some by → alone_step S a ≡ a
ended-still S a by e = ap (λ (o : Option End). if is_none o && is_settled_next S a then alone_by S a (need_of S.program S.decl S.fuel a.state) else a) e

pub more-steps : (S : Setup) (k n : ℕ) (a : Alone) → alone_steps S (k + n) a ≡ alone_steps S n (alone_steps S k a)
more-steps S zero n a = let e : 0 + n ≡ n = omega arith in ap (λ (j : ℕ). alone_steps S j a) e
more-steps S (suc k) n a = let e : suc k + n ≡ suc (k + n) = omega arith in ap (λ (j : ℕ). alone_steps S j a) e ∙ more-steps S k n (alone_step S a)

-- where the task alone comes to an end, control is settled wherever it hasn't ended
pub ends-settled : (S : Setup) (k : ℕ) (by : End) → (alone S).state.end ≡ Some by → (alone_steps S k (start_alone S)).state.end ≡ None → is_settled_next S (alone_steps S k (start_alone S)) ≡ true
unfolding alone
ends-settled S k by e runs = by_test (is_settled_next S (alone_steps S k (start_alone S))) refl
  where
    whole : ℕ
    whole = suc S.fuel

    before : (n : ℕ) → k + n ≡ whole → is_settled_next S (alone_steps S k (start_alone S)) ≡ false → ⊥
    before n split shut =
        let stays = still S n (alone_steps S k (start_alone S)) (open-still S (alone_steps S k (start_alone S)) shut) in
        let same : alone_steps S whole (start_alone S) ≡ alone_steps S k (start_alone S) = ap (λ (j : ℕ). alone_steps S j (start_alone S)) (sym split) ∙ more-steps S k n (start_alone S) ∙ stays in
        none-some by (sym runs ∙ ap (λ (a : Alone). a.state.end) (sym same) ∙ e)

    after : (n : ℕ) → whole + n ≡ k → ⊥
    after n split =
        let stays = still S n (alone_steps S whole (start_alone S)) (ended-still S (alone_steps S whole (start_alone S)) by e) in
        let same : alone_steps S k (start_alone S) ≡ alone_steps S whole (start_alone S) = ap (λ (j : ℕ). alone_steps S j (start_alone S)) (sym split) ∙ more-steps S whole n (start_alone S) ∙ stays in
        none-some by (sym runs ∙ ap (λ (a : Alone). a.state.end) same ∙ e)

    by_test : (b : Bool) → is_settled_next S (alone_steps S k (start_alone S)) ≡ b → is_settled_next S (alone_steps S k (start_alone S)) ≡ true
    by_test true t = t
    by_test false t =
        absurd (⊎_elim (λ (l : k < whole). before (whole - k) (omega arith) t) (λ (l : whole ≤ k). after (k - whole) (omega arith)) (cases_lt k whole))

-- ---- the end of a phase

-- where all tasks have ended, each word is as the effects of all sections say
pub phase-ends : (first : List Value) (sides : List Side) (ended : ℕ → ℕ) (m : List ℕ) → PhaseAgreesBy first sides ended m → ((i : ℕ) (s : Side) → slice_get sides i ≡ Some s → s.alone.state.end ≢ None)
    → (w : ℕ) → Denotes (applied (side_effects sides w) (slice_index_or first w (known 0))) ended (slice_index m w)
phase-ends first sides ended m h done w =
    subst (Denotes (applied (side_effects sides w) (slice_index_or first w (known 0))) ended) (sym (h.resting w none)) (h.settled w)
  where
    by_stored : (s : Side) → FitsAlone s.setup s.base s.alone s.run m → s.alone.state.end ≢ None → (o : Option Value) → (cell_at s.alone.cells w).stored ≡ o → (cell_at s.alone.cells w).stored ≡ None
    by_stored s f over None e = e
    by_stored s f over (Some v) e = absurd (over (f.stored w v e).runs)

    none : (i : ℕ) (s : Side) → slice_get sides i ≡ Some s → (cell_at s.alone.cells w).stored ≡ None
    none i s there = by_stored s (h.each i s there) (done i s there) (cell_at s.alone.cells w).stored refl

-- ---- a step that ends no section

-- a task goes on by a step that ends none of its sections: what it has stored it keeps, and where it has stored nothing memory is
-- as it was
pub quiet-step : (first : List Value) (sides : List Side) (ended : ℕ → ℕ) (m n : List ℕ) (i : ℕ) (s : Side) (k : ℕ) (a : Alone) (r : Started) → PhaseAgreesBy first sides ended m → slice_get sides i ≡ Some s
    → FitsAlone s.setup s.base a r n → a ≡ alone_steps s.setup k (start_alone s.setup) → a.state.held ≡ s.alone.state.held → s.alone.state.end ≡ None
    → ((w : ℕ) → (cell_at a.cells w).effect ≡ (cell_at s.alone.cells w).effect)
    → ((w : ℕ) → (cell_at a.cells w).stored ≡ None → ((cell_at s.alone.cells w).stored ≡ None) × (slice_index n w ≡ slice_index m w))
    → ((j : ℕ) (q : Side) → j ≢ i → slice_get sides j ≡ Some q → FitsAlone q.setup q.base q.alone q.run n)
    → PhaseAgreesBy first (slice_set sides i (record s { steps = k; alone = a; run = r })) ended n
quiet-step first sides ended m n i s k a r h there fits reached held runs effects stored others =
    record {
      each = by-place (λ (j : ℕ) (q : Side). FitsAlone q.setup q.base q.alone q.run n) sides i t (λ q at'. fits) others;
      reached = by-place (λ (j : ℕ) (q : Side). q.alone ≡ alone_steps q.setup q.steps (start_alone q.setup)) sides i t (λ q at'. reached) (λ j q away at'. h.reached j q at');
      settled = λ w. subst (λ (e : Effect). Denotes (applied e (slice_index_or first w (known 0))) ended (ended w)) (sym (same w)) (h.settled w);
      resting = λ w none. let mine = stored w (none i t (set-there sides i t s there)) in
          mine.1 ∙ h.resting w (λ j q at'. ⊎_elim
          (λ (e : j ≡ i). let is : s ≡ q = same_Some s q (sym there ∙ ap (slice_get sides) (sym e) ∙ at') in subst (λ (x : Side). (cell_at x.alone.cells w).stored ≡ None) is mine.0)
          (λ (away : j ≢ i). none j q (set-other sides i j t away ∙ at')) (cases_eq j i));
      taken = λ w. by-place (λ (j : ℕ) (q : Side). may_store q.setup.decl q.alone.state.held w ≡ true → is_shared q.setup.phase q.setup.decl w ≡ true → q.alone.state.end ≡ None → q.base w ≡ ended w) sides i t
          (λ q at' may shared runs'. h.taken w i s there (subst (λ (x : ℕ). may_store s.setup.decl x w ≡ true) held may) shared runs) (λ j q away at'. h.taken w j q at');
      apart = λ x y p q away at' at''. kept x y p q away at' at'';
    }
  where
    t : Side
    t = record s { steps = k; alone = a; run = r }

    same : (w : ℕ) → side_effects (slice_set sides i t) w ≡ side_effects sides w
    same w =
        effects-more sides i w s t Kept there (effects w ∙ joined-comm Kept (cell_at s.alone.cells w).effect) ∙ joined-comm (side_effects sides w) Kept

    mine : (q : Side) → ((j : ℕ) → j ≢ i → slice_get sides j ≡ Some q → HoldApart s.alone.state.held q.alone.state.held) → (j : ℕ) → j ≢ i → slice_get sides j ≡ Some q → HoldApart a.state.held q.alone.state.held
    mine q free j away at' = subst (λ (x : ℕ). HoldApart x q.alone.state.held) (sym held) (free j away at')

    turned : (x y : ℕ) → HoldApart x y → HoldApart y x
    turned x y f = λ lock e g. f lock g e

    kept : (x y : ℕ) (p q : Side) → x ≢ y → slice_get (slice_set sides i t) x ≡ Some p → slice_get (slice_set sides i t) y ≡ Some q → HoldApart p.alone.state.held q.alone.state.held
    kept x y p q away at' at'' =
        by-place (λ (j : ℕ) (u : Side). j ≢ y → HoldApart u.alone.state.held q.alone.state.held) sides i t
        (λ u uat off. by-place (λ (l : ℕ) (v : Side). i ≢ l → HoldApart a.state.held v.alone.state.held) sides i t
        (λ v vat no'. absurd (no' refl)) (λ l v other vat no'. subst (λ (z : ℕ). HoldApart z v.alone.state.held) (sym held) (h.apart i l s v no' there vat)) y q at'' off)
        (λ j u other uat off. by-place (λ (l : ℕ) (v : Side). j ≢ l → HoldApart u.alone.state.held v.alone.state.held) sides i t
        (λ v vat no'. turned a.state.held u.alone.state.held (subst (λ (z : ℕ). HoldApart z u.alone.state.held) (sym held) (h.apart i j s u (λ e. other (sym e)) there uat)))
        (λ l v other' vat no'. h.apart j l u v no' uat vat) y q at'' off)
        x p at' away
