-- A step that ends sections, among all tasks of a phase.
use Rattle.std.proofs.Common.{◌≡◌, ◌≢◌, ℕ, Bool, true, false, if◌then◌else◌, List, slice_index, slice_index_or, slice_get, slice_set, Option, Some, None, refl, sym, ap, ◌∙◌, subst, ⊎_elim}
use Rattle.std.proofs.lemmas.Bool.{cases_eq}
use Rattle.std.proofs.lemmas.Option.{same_Some}
use Rattle.rv_core.specs.Access.{may_store}
use Rattle.flat_machine.specs.Step.{Started}
use Rattle.flat_machine.specs.Laws.{HoldApart, HoldsLess}
use Rattle.flat_machine.proofs.Rights.{may_store-less}
use Rattle.run_agreement.proofs.Places.{by-place, set-there, set-other}
use Rattle.common_outcomes.specs.declared.value.Kind.{Kind}
use Rattle.common_outcomes.specs.declared.value.Kind.TheVariants.{Known, Offset, Varying}
use Rattle.common_outcomes.specs.declared.value.Value.{Value}
use Rattle.common_outcomes.specs.declared.value.Cell.{Cell}
use Rattle.common_outcomes.specs.declared.value.Effect.{Effect}
use Rattle.common_outcomes.specs.declared.value.Effect.TheVariants.{Kept, Added, Set, Other}
use Rattle.common_outcomes.specs.Values.{known, joined_effect, plus, applied, effect_by, effect_of}
use Rattle.common_outcomes.specs.Alone.{Alone, cell_at, is_shared, closed, alone_steps, start_alone}
use Rattle.common_outcomes.specs.Agreeing.{DenotesBy, Denotes, IsBetween, IsOfWord, IsOfSharedWord, IsStored, FitsAlone, Side, side_effects, PhaseAgreesBy}
use Rattle.common_outcomes.proofs.EffectLemmas.{joined-comm, section-ends}
use Rattle.common_outcomes.proofs.Together.{effects-more}

-- a word by the sections that have ended, after one that ended with this value, if it ended and stored
abbrev pub ended_at : Bool → Option Value → ℕ → ℕ → ℕ
ended_at true (Some v) now before = now
ended_at true None now before = before
ended_at false o now before = before

-- what is asked of the step: `closes` tells which words' sections end; other tasks neither have stored such a word nor may store
-- it now, nor may the task itself from now on
pub record IsClosing (sides : List Side) (i : ℕ) (s : Side) (a : Alone) (closes : ℕ → Bool) : Type 0 where
  pub cells : (w : ℕ) → cell_at a.cells w ≡ (if closes w then closed (cell_at s.alone.cells w) else cell_at s.alone.cells w)
  pub less : HoldsLess a.state.held s.alone.state.held
  pub runs : s.alone.state.end ≡ None
  pub others : (w j : ℕ) (v : Value) (q : Side) → j ≢ i → slice_get sides j ≡ Some q → (cell_at s.alone.cells w).stored ≡ Some v → may_store q.setup.decl q.alone.state.held w ≡ true
      → is_shared q.setup.phase q.setup.decl w ≡ true → q.alone.state.end ≡ None → ⊥
  pub gone : (w : ℕ) (v : Value) → closes w ≡ true → (cell_at s.alone.cells w).stored ≡ Some v → may_store s.setup.decl a.state.held w ≡ true → is_shared s.setup.phase s.setup.decl w ≡ true
      → a.state.end ≡ None → ⊥

pub any-base : (v : Value) (n : ℕ) (base other : ℕ → ℕ) → IsBetween v.kind → Denotes v base n → Denotes v other n
any-base v n base other = by_kind v.kind
  where
    by_kind : (c : Kind) → IsBetween c → DenotesBy c v.number base n → DenotesBy c v.number other n
    by_kind Known b h = h
    by_kind (Offset u) b h = absurd b
    by_kind Varying b h = h

plus-between : (c : Kind) (x y : ℕ) → IsBetween (plus c x y).kind
plus-between Known x y = tt
plus-between (Offset u) x y = tt
plus-between Varying x y = tt

pub applied-between : (x : Effect) (v : Value) → IsBetween v.kind → IsBetween (applied x v).kind
applied-between Kept v b = b
applied-between (Set n) v b = tt
applied-between (Added n) v b = plus-between v.kind v.number n
applied-between Other v b = tt

pub closing-step : (first : List Value) (sides : List Side) (ended : ℕ → ℕ) (m : List ℕ) (i : ℕ) (s : Side) (k : ℕ) (a : Alone) (r : Started) (closes : ℕ → Bool) → PhaseAgreesBy first sides ended m
    → slice_get sides i ≡ Some s → ((w : ℕ) → IsBetween (slice_index_or first w (known 0)).kind) → FitsAlone s.setup s.base a r m → a ≡ alone_steps s.setup k (start_alone s.setup) → IsClosing sides i s a closes
    → PhaseAgreesBy first (slice_set sides i (record s { steps = k; alone = a; run = r })) (λ (w : ℕ). ended_at (closes w) (cell_at s.alone.cells w).stored (slice_index m w) (ended w)) m
closing-step first sides ended m i s k a r closes h there between fits reached step =
    record {
      each = by-place (λ (j : ℕ) (q : Side). FitsAlone q.setup q.base q.alone q.run m) sides i t (λ q at'. fits) (λ j q away at'. h.each j q at');
      reached = by-place (λ (j : ℕ) (q : Side). q.alone ≡ alone_steps q.setup q.steps (start_alone q.setup)) sides i t (λ q at'. reached) (λ j q away at'. h.reached j q at');
      settled = λ w. settles w (closes w) (cell_at s.alone.cells w).stored refl refl;
      resting = λ w none. rests w none (closes w) (cell_at s.alone.cells w).stored refl refl;
      taken = λ w. by-place (λ (j : ℕ) (q : Side). may_store q.setup.decl q.alone.state.held w ≡ true → is_shared q.setup.phase q.setup.decl w ≡ true → q.alone.state.end ≡ None → q.base w ≡ after w) sides i t
          (λ q at' may shared going. own w may shared going (closes w) (cell_at s.alone.cells w).stored refl refl)
          (λ j q away at' may shared going. other w j q away at' may shared going (closes w) (cell_at s.alone.cells w).stored refl);
      apart = λ x y p q away at' at''. kept x y p q away at' at'';
    }
  where
    t : Side
    t = record s { steps = k; alone = a; run = r }

    after : ℕ → ℕ
    after w = ended_at (closes w) (cell_at s.alone.cells w).stored (slice_index m w) (ended w)

    f : ℕ → Value
    f w = slice_index_or first w (known 0)

    e0 : ℕ → Effect
    e0 w = (cell_at s.alone.cells w).effect

    cell : (w : ℕ) (b : Bool) → closes w ≡ b → cell_at a.cells w ≡ (if b then closed (cell_at s.alone.cells w) else cell_at s.alone.cells w)
    cell w b c = step.cells w ∙ ap (λ (x : Bool). if x then closed (cell_at s.alone.cells w) else cell_at s.alone.cells w) c

    -- the effects of all tasks, where this one's are joined_effect by x
    effects : (w : ℕ) (x : Effect) → (cell_at a.cells w).effect ≡ joined_effect (e0 w) x → side_effects (slice_set sides i t) w ≡ joined_effect (side_effects sides w) x
    effects w x e = effects-more sides i w s t x there e

    -- what is applied to a value of memory holds no offset, so that any base serves
    rebased : (x : Effect) (v : Value) (n : ℕ) → IsBetween v.kind → Denotes (applied x v) ended n → Denotes (applied x v) after n
    rebased x v n b h = any-base (applied x v) n ended after (applied-between x v b) h

    as_before : (w : ℕ) → (cell_at a.cells w).effect ≡ joined_effect (e0 w) Kept → Denotes (applied (side_effects (slice_set sides i t) w) (f w)) after (ended w)
    as_before w e =
        rebased (side_effects (slice_set sides i t) w) (f w) (ended w) (between w)
        (subst (λ (x : Effect). Denotes (applied x (f w)) ended (ended w)) (sym (effects w Kept e ∙ joined-comm (side_effects sides w) Kept)) (h.settled w))

    -- the word of a section that ends and stored
    stored : (w : ℕ) (v : Value) → IsStored s.setup s.base s.alone.state m w v → Denotes (applied (joined_effect (side_effects sides w) (effect_by v.kind v.number)) (f w)) ended (slice_index m w)
    stored w v k = by_kind v.kind k.own k.shared k.stands
      where
        by_kind : (c : Kind) → IsOfWord w c → IsOfSharedWord s.setup w c → DenotesBy c v.number s.base (slice_index m w) → Denotes (applied (joined_effect (side_effects sides w) (effect_by c v.number)) (f w)) ended (slice_index m w)
        by_kind Known own shared e = section-ends (side_effects sides w) (f w) (record { kind = Known; number = v.number }) w (ended w) (slice_index m w) ended ended (between w) refl (h.settled w) tt e
        by_kind (Offset u) own shared e =
            section-ends (side_effects sides w) (f w) (record { kind = Offset u; number = v.number }) w (ended w) (slice_index m w) s.base ended (between w)
            (h.taken w i s there (k.may shared) shared step.runs) (h.settled w) own e
        by_kind Varying own shared e = section-ends (side_effects sides w) (f w) (record { kind = Varying; number = v.number }) w (ended w) (slice_index m w) ended ended (between w) refl (h.settled w) tt tt

    all_rest : (w : ℕ) → ((j : ℕ) (q : Side) → slice_get (slice_set sides i t) j ≡ Some q → (cell_at q.alone.cells w).stored ≡ None) → (cell_at s.alone.cells w).stored ≡ None → slice_index m w ≡ ended w
    all_rest w none mine =
        h.resting w (λ j q at'. ⊎_elim
        (λ (e : j ≡ i). let is : s ≡ q = same_Some s q (sym there ∙ ap (slice_get sides) (sym e) ∙ at') in subst (λ (x : Side). (cell_at x.alone.cells w).stored ≡ None) is mine)
        (λ (away : j ≢ i). none j q (set-other sides i j t away ∙ at')) (cases_eq j i))

    settles : (w : ℕ) (b : Bool) (o : Option Value) → closes w ≡ b → (cell_at s.alone.cells w).stored ≡ o → Denotes (applied (side_effects (slice_set sides i t) w) (f w)) after (ended_at b o (slice_index m w) (ended w))
    settles w true (Some v) c e =
        rebased (side_effects (slice_set sides i t) w) (f w) (slice_index m w) (between w)
        (subst (λ (x : Effect). Denotes (applied x (f w)) ended (slice_index m w))
        (sym (effects w (effect_by v.kind v.number) (ap (λ (x : Cell). x.effect) (cell w true c) ∙ ap (λ (y : Option Value). joined_effect (e0 w) (effect_of y)) e)))
        (stored w v ((h.each i s there).stored w v e)))
    settles w true None c e = as_before w (ap (λ (x : Cell). x.effect) (cell w true c) ∙ ap (λ (y : Option Value). joined_effect (e0 w) (effect_of y)) e)
    settles w false o c e = as_before w (ap (λ (x : Cell). x.effect) (cell w false c) ∙ joined-comm Kept (e0 w))

    rests : (w : ℕ) → ((j : ℕ) (q : Side) → slice_get (slice_set sides i t) j ≡ Some q → (cell_at q.alone.cells w).stored ≡ None) → (b : Bool) (o : Option Value) → closes w ≡ b → (cell_at s.alone.cells w).stored ≡ o
        → slice_index m w ≡ ended_at b o (slice_index m w) (ended w)
    rests w none true (Some v) c e = refl
    rests w none true None c e = all_rest w none e
    rests w none false o c e = all_rest w none (sym (ap (λ (x : Cell). x.stored) (cell w false c)) ∙ none i t (set-there sides i t s there))

    own : (w : ℕ) → may_store s.setup.decl a.state.held w ≡ true → is_shared s.setup.phase s.setup.decl w ≡ true → a.state.end ≡ None → (b : Bool) (o : Option Value) → closes w ≡ b → (cell_at s.alone.cells w).stored ≡ o
        → s.base w ≡ ended_at b o (slice_index m w) (ended w)
    own w may shared going true (Some v) c e = absurd (step.gone w v c e may shared going)
    own w may shared going true None c e = h.taken w i s there (may_store-less s.setup.decl a.state.held s.alone.state.held w step.less may) shared step.runs
    own w may shared going false o c e = h.taken w i s there (may_store-less s.setup.decl a.state.held s.alone.state.held w step.less may) shared step.runs

    other : (w j : ℕ) (q : Side) → j ≢ i → slice_get sides j ≡ Some q → may_store q.setup.decl q.alone.state.held w ≡ true → is_shared q.setup.phase q.setup.decl w ≡ true → q.alone.state.end ≡ None
        → (b : Bool) (o : Option Value) → (cell_at s.alone.cells w).stored ≡ o → q.base w ≡ ended_at b o (slice_index m w) (ended w)
    other w j q away at' may shared going true (Some v) e = absurd (step.others w j v q away at' e may shared going)
    other w j q away at' may shared going true None e = h.taken w j q at' may shared going
    other w j q away at' may shared going false o e = h.taken w j q at' may shared going

    kept : (x y : ℕ) (p q : Side) → x ≢ y → slice_get (slice_set sides i t) x ≡ Some p → slice_get (slice_set sides i t) y ≡ Some q → HoldApart p.alone.state.held q.alone.state.held
    kept x y p q away at' at'' =
        by-place (λ (j : ℕ) (u : Side). j ≢ y → HoldApart u.alone.state.held q.alone.state.held) sides i t
        (λ u uat off. by-place (λ (l : ℕ) (v : Side). i ≢ l → HoldApart a.state.held v.alone.state.held) sides i t
        (λ v vat no'. absurd (no' refl)) (λ l v other' vat no'. λ lock e g. h.apart i l s v no' there vat lock (step.less.among lock e) g) y q at'' off)
        (λ j u other' uat off. by-place (λ (l : ℕ) (v : Side). j ≢ l → HoldApart u.alone.state.held v.alone.state.held) sides i t
        (λ v vat no'. λ lock e g. h.apart j i u s other' uat there lock e (step.less.among lock g))
        (λ l v off' vat no'. h.apart j l u v no' uat vat) y q at'' off)
        x p at' away
