-- An acquire among all tasks of a phase; and that no two tasks have stored one word.
use Rattle.std.proofs.Common.{◌≡◌, ◌≢◌, ℕ, Bool, true, false, if◌then◌else◌, List, slice_index, slice_index_or, slice_get, slice_set, Some, None, refl, sym, ap, ◌∙◌, subst, ⊎_elim}
use Rattle.std.specs.List.{IsAmong}
use Rattle.std.proofs.lemmas.Bool.{cases_eq}
use Rattle.std.proofs.lemmas.Option.{same_Some}
use Rattle.region_table.specs.Plan.{task_guards}
use Rattle.rv_core.specs.Access.{is_held, may_store}
use Rattle.effect_checker.specs.Checked.{IsCheckedPhase}
use Rattle.effect_checker.proofs.SeparationLemmas.{locks_apart}
use Rattle.flat_machine.specs.Step.{Started}
use Rattle.flat_machine.specs.Laws.{HoldApart}
use Rattle.flat_machine.proofs.Rights.{store-loads}
use Rattle.run_agreement.proofs.Places.{by-place, set-there, set-other}
use Rattle.common_outcomes.specs.declared.value.Value.{Value}
use Rattle.common_outcomes.specs.declared.value.Effect.{Effect}
use Rattle.common_outcomes.specs.declared.value.Effect.TheVariants.{Kept}
use Rattle.common_outcomes.specs.Values.{known, applied}
use Rattle.common_outcomes.specs.Alone.{Alone, cell_at, is_shared, alone_steps, start_alone}
use Rattle.common_outcomes.specs.Agreeing.{Denotes, IsInSection, IsStored, FitsAlone, Side, side_effects, PhaseAgreesBy}
use Rattle.common_outcomes.proofs.EffectLemmas.{joined-comm}
use Rattle.common_outcomes.proofs.Together.{effects-more}
use Rattle.common_outcomes.proofs.Beside.{shared-inside, stores-shared}
use Rattle.common_outcomes.proofs.Acquiring.{base_after}

-- two tasks of a checked phase on two cores, that hold no lock in common
pub record AreBeside (a b : Side) : Type 0 where
  pub checked : IsCheckedPhase a.setup.phase
  pub phase : b.setup.phase ≡ a.setup.phase
  pub first : IsAmong a.setup.phase.tasks a.setup.decl
  pub second : IsAmong a.setup.phase.tasks b.setup.decl
  pub cores : a.setup.decl.core.0 ≢ b.setup.decl.core.0
  pub held : HoldApart a.alone.state.held b.alone.state.held

-- no word is in a section of both
pub not-both : (a b : Side) (w : ℕ) → AreBeside a b → IsInSection a.setup.decl a.alone.state.held w → IsInSection b.setup.decl b.alone.state.held w → ⊥
not-both a b w h x y =
    let same = locks_apart a.setup.phase a.setup.decl b.setup.decl x.lock y.lock w h.checked h.first h.second x.guards y.guards in
    h.held x.lock x.holds (subst (λ (l : ℕ). is_held b.alone.state.held l ≡ true) (sym same) y.holds)

-- a word that one has stored the other may not store as a shared word
pub stored-alone : (a b : Side) (w : ℕ) (v : Value) (m : List ℕ) → AreBeside a b → IsStored a.setup a.base a.alone.state m w v → may_store b.setup.decl b.alone.state.held w ≡ true
    → is_shared b.setup.phase b.setup.decl w ≡ true → ⊥
stored-alone a b w v m h k may shared =
    -- b may store it, so that it is shared for a
    let mine : is_shared a.setup.phase a.setup.decl w ≡ true = stores-shared a.setup.phase a.setup.decl b.setup.decl b.alone.state.held w h.second (λ e. h.cores (sym e)) may in
    let inside = shared-inside a.setup.phase a.setup.decl a.alone.state.held w h.checked h.first mine (store-loads a.setup.decl a.alone.state.held w (k.may mine)) in
    let here : is_shared a.setup.phase b.setup.decl w ≡ true = subst (λ p. is_shared p b.setup.decl w ≡ true) h.phase shared in
    let other = shared-inside a.setup.phase b.setup.decl b.alone.state.held w h.checked h.second here (store-loads b.setup.decl b.alone.state.held w may) in
    not-both a b w h inside other

-- what is asked of an acquire: the lock is free; so no task has stored a word that it guards and that the task may store now; and
-- only words that it guards may be stored that could not be before
pub record IsTaking (sides : List Side) (i : ℕ) (s : Side) (a : Alone) (lock : ℕ) : Type 0 where
  pub cells : a.cells ≡ s.alone.cells
  pub runs : s.alone.state.end ≡ None
  pub apart : (j : ℕ) (q : Side) → j ≢ i → slice_get sides j ≡ Some q → HoldApart a.state.held q.alone.state.held
  pub unstored : (w j : ℕ) (q : Side) → slice_get sides j ≡ Some q → task_guards s.setup.decl lock w ≡ true → may_store s.setup.decl a.state.held w ≡ true → is_shared s.setup.phase s.setup.decl w ≡ true
      → (cell_at q.alone.cells w).stored ≡ None
  pub less : (w : ℕ) → task_guards s.setup.decl lock w ≡ false → may_store s.setup.decl a.state.held w ≡ true → may_store s.setup.decl s.alone.state.held w ≡ true

pub taking-step : (first : List Value) (sides : List Side) (ended : ℕ → ℕ) (m : List ℕ) (i : ℕ) (s : Side) (k : ℕ) (a : Alone) (r : Started) (lock : ℕ) → PhaseAgreesBy first sides ended m → slice_get sides i ≡ Some s
    → FitsAlone s.setup (base_after s.setup lock m s.base) a r m → a ≡ alone_steps s.setup k (start_alone s.setup) → IsTaking sides i s a lock
    → PhaseAgreesBy first (slice_set sides i (record s { steps = k; alone = a; run = r; base = base_after s.setup lock m s.base })) ended m
taking-step first sides ended m i s k a r lock h there fits reached step =
    record {
      each = by-place (λ (j : ℕ) (q : Side). FitsAlone q.setup q.base q.alone q.run m) sides i t (λ q at'. fits) (λ j q away at'. h.each j q at');
      reached = by-place (λ (j : ℕ) (q : Side). q.alone ≡ alone_steps q.setup q.steps (start_alone q.setup)) sides i t (λ q at'. reached) (λ j q away at'. h.reached j q at');
      settled = λ w. subst (λ (e : Effect). Denotes (applied e (slice_index_or first w (known 0))) ended (ended w)) (sym (same w)) (h.settled w);
      resting = λ w none. h.resting w (λ j q at'. ⊎_elim
          (λ (e : j ≡ i). let is : s ≡ q = same_Some s q (sym there ∙ ap (slice_get sides) (sym e) ∙ at') in
          subst (λ (x : Side). (cell_at x.alone.cells w).stored ≡ None) is (ap (λ c. (cell_at c w).stored) (sym step.cells) ∙ none i t (set-there sides i t s there)))
          (λ (away : j ≢ i). none j q (set-other sides i j t away ∙ at')) (cases_eq j i));
      taken = λ w. by-place (λ (j : ℕ) (q : Side). may_store q.setup.decl q.alone.state.held w ≡ true → is_shared q.setup.phase q.setup.decl w ≡ true → q.alone.state.end ≡ None → q.base w ≡ ended w) sides i t
          (λ q at' may shared going. own w (task_guards s.setup.decl lock w) refl may shared) (λ j q away at'. h.taken w j q at');
      apart = λ x y p q away at' at''. kept x y p q away at' at'';
    }
  where
    t : Side
    t = record s { steps = k; alone = a; run = r; base = base_after s.setup lock m s.base }

    same : (w : ℕ) → side_effects (slice_set sides i t) w ≡ side_effects sides w
    same w =
        effects-more sides i w s t Kept there (ap (λ c. (cell_at c w).effect) step.cells ∙ joined-comm Kept (cell_at s.alone.cells w).effect) ∙ joined-comm (side_effects sides w) Kept

    own : (w : ℕ) (b : Bool) → task_guards s.setup.decl lock w ≡ b → may_store s.setup.decl a.state.held w ≡ true → is_shared s.setup.phase s.setup.decl w ≡ true
        → (if b then slice_index m w else s.base w) ≡ ended w
    own w true g may shared = h.resting w (λ j q at'. step.unstored w j q at' g may shared)
    own w false g may shared = h.taken w i s there (step.less w g may) shared step.runs

    kept : (x y : ℕ) (p q : Side) → x ≢ y → slice_get (slice_set sides i t) x ≡ Some p → slice_get (slice_set sides i t) y ≡ Some q → HoldApart p.alone.state.held q.alone.state.held
    kept x y p q away at' at'' =
        by-place (λ (j : ℕ) (u : Side). j ≢ y → HoldApart u.alone.state.held q.alone.state.held) sides i t
        (λ u uat off. by-place (λ (l : ℕ) (v : Side). i ≢ l → HoldApart a.state.held v.alone.state.held) sides i t
        (λ v vat no'. absurd (no' refl)) (λ l v other' vat no'. step.apart l v other' vat) y q at'' off)
        (λ j u other' uat off. by-place (λ (l : ℕ) (v : Side). j ≢ l → HoldApart u.alone.state.held v.alone.state.held) sides i t
        (λ v vat no'. λ lock' e g. step.apart j u other' uat lock' g e)
        (λ l v off' vat no'. h.apart j l u v no' uat vat) y q at'' off)
        x p at' away
