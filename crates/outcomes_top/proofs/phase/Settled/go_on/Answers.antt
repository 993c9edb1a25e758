use Rattle.std.proofs.Common.{◌≡◌, if◌then◌else◌, refl, List, ◌++◌, map, slice_index_or, Option, sym, ap, ◌∙◌, subst}
use Rattle.std.specs.List.{list_all}
use Rattle.common_outcomes.specs.declared.value.Value.{Value}
use Rattle.common_outcomes.specs.declared.value.Effect.{Effect}
use Rattle.common_outcomes.specs.Values.{known, applied}
use Rattle.common_outcomes.specs.Phases.{Summary, summaries}
use Rattle.common_outcomes.specs.Answer.{open_of, end_alone, has_ended_well}
use Rattle.common_outcomes.specs.declared.answer.Outcomes.{Outcomes}
use Rattle.outcomes_top.specs.declared.phase.Progress.{Progress}
use Rattle.outcomes_top.specs.declared.phase.Progress.TheVariants.{Over, Goes}
use Rattle.outcomes_top.specs.Effects.{effect_at, AreEffectsOf, outline_alone, answer_after}
use Rattle.outcomes_top.proofs.PhaseLemmas.{AreOutlines, HasOutlines, outlines-open, outlines-after}
use Rattle.outcomes_top.specs.declared.reasons.Reason.{Reason}
use Rattle.outcomes_top.specs.Reasons.{reason_after}
use Rattle.outcomes_top.proofs.ReasonLemmas.{reason-open, reason-goes}
use Rattle.outcomes_top.proofs.phase.Settled.go_on.Goals as goal

pub returns-in-Some-clause-value : goal.returns-in-Some-clause-value
returns-in-Some-clause-value c = λ left.
    let P = c.args.program.now in
    let fuel = c.args.fuel in
    let n = c.args.number.0 in
    let p = c.args.phase.now in
    let first = c.args.self.now.memory.items in
    let all = c.in_ok-all.all.items in
    let seen : c.as_slice.result.now ≡ first = c.as_slice.ensures.value in
    let listed : c.as_slice-2.result.now ≡ all = c.as_slice-2.ensures.value in
    let are : AreOutlines P fuel p first all = c.in_ok-all.ensures.value ∙ ap (λ (xs : List Value). map (outline_alone P fuel p xs) p.tasks) seen in
    outlines-open P fuel n p left c.args.self.now.ends first all c.in-Some.open are (c.in-Some.ensures ∙ ap (open_of n) listed)

pub returns-clause-value : goal.returns-clause-value
returns-clause-value c = λ left.
    let P = c.args.program.now in
    let fuel = c.args.fuel in
    let n = c.args.number.0 in
    let p = c.args.phase.now in
    let ends = c.args.self.now.ends in
    let first = c.args.self.now.memory.items in
    let now = c.push_ends.new.ends in
    let after = c.apply_all.new.memory.items in
    let all = c.in_ok-all.all.items in
    let effects = c.in_ok-all.effects.items in
    let seen : c.as_slice.result.now ≡ first = c.as_slice.ensures.value in
    let listed : c.as_slice-2.result.now ≡ all = c.as_slice-2.ensures.value in
    let again : c.as_slice-3.result.now ≡ all = c.as_slice-3.ensures.value in
    let applied-by : c.as_slice-4.result.now ≡ effects = c.as_slice-4.ensures.value in
    let last : c.as_slice-5.result.now ≡ all = c.as_slice-5.ensures.value in
    let h : HasOutlines P fuel n p ends now first after all effects =
    record {
      outlines_are = c.in_ok-all.ensures.value ∙ ap (λ (xs : List Value). map (outline_alone P fuel p xs) p.tasks) seen;
      not_open = c.in_default.ensures ∙ ap (open_of n) listed;
      effects_are = subst (λ (xs : List Value). AreEffectsOf (summaries P fuel p xs) effects) seen c.in_ok-all.ensures.effects;
      count = c.in_ok-all.ensures.words ∙ sym c.requires.words;
      ends_now = c.in_ok-push_ends.ensures ∙ ap (λ (xs : List Summary). ends ++ map (end_alone n) xs) again;
      words = c.apply_all.ensures.words;
      each = λ w low. c.apply_all.ensures.each w low ∙ ap (λ (xs : List Effect). applied (effect_at xs w) (slice_index_or first w (known 0))) applied-by;
    } in
    let goes : Progress → Outcomes = λ (x : Progress). answer_after x P fuel n left now after in
    ap goes (c.progress_after.ensures ∙ ap (λ (xs : List Summary). if list_all has_ended_well xs then Goes else Over) last)
    ∙ outlines-after P fuel n p left ends now first after all effects h (list_all has_ended_well all) refl

pub returns-in-Some-clause-reason : goal.returns-in-Some-clause-reason
returns-in-Some-clause-reason c = λ left.
    let P = c.args.program.now in
    let fuel = c.args.fuel in
    let n = c.args.number.0 in
    let p = c.args.phase.now in
    let first = c.args.self.now.memory.items in
    let all = c.in_ok-all.all.items in
    let seen : c.as_slice.result.now ≡ first = c.as_slice.ensures.value in
    let listed : c.as_slice-2.result.now ≡ all = c.as_slice-2.ensures.value in
    let are : AreOutlines P fuel p first all = c.in_ok-all.ensures.value ∙ ap (λ (xs : List Value). map (outline_alone P fuel p xs) p.tasks) seen in
    reason-open P fuel n p left first all c.in-Some.open are (c.in-Some.ensures ∙ ap (open_of n) listed)

pub returns-clause-reason : goal.returns-clause-reason
returns-clause-reason c = λ left.
    let P = c.args.program.now in
    let fuel = c.args.fuel in
    let n = c.args.number.0 in
    let p = c.args.phase.now in
    let ends = c.args.self.now.ends in
    let first = c.args.self.now.memory.items in
    let now = c.push_ends.new.ends in
    let after = c.apply_all.new.memory.items in
    let all = c.in_ok-all.all.items in
    let effects = c.in_ok-all.effects.items in
    let seen : c.as_slice.result.now ≡ first = c.as_slice.ensures.value in
    let listed : c.as_slice-2.result.now ≡ all = c.as_slice-2.ensures.value in
    let again : c.as_slice-3.result.now ≡ all = c.as_slice-3.ensures.value in
    let applied-by : c.as_slice-4.result.now ≡ effects = c.as_slice-4.ensures.value in
    let last : c.as_slice-5.result.now ≡ all = c.as_slice-5.ensures.value in
    let h : HasOutlines P fuel n p ends now first after all effects =
    record {
      outlines_are = c.in_ok-all.ensures.value ∙ ap (λ (xs : List Value). map (outline_alone P fuel p xs) p.tasks) seen;
      not_open = c.in_default.ensures ∙ ap (open_of n) listed;
      effects_are = subst (λ (xs : List Value). AreEffectsOf (summaries P fuel p xs) effects) seen c.in_ok-all.ensures.effects;
      count = c.in_ok-all.ensures.words ∙ sym c.requires.words;
      ends_now = c.in_ok-push_ends.ensures ∙ ap (λ (xs : List Summary). ends ++ map (end_alone n) xs) again;
      words = c.apply_all.ensures.words;
      each = λ w low. c.apply_all.ensures.each w low ∙ ap (λ (xs : List Effect). applied (effect_at xs w) (slice_index_or first w (known 0))) applied-by;
    } in
    let after-it : Progress → Option Reason = λ (x : Progress). reason_after x P fuel n p left after in
    ap after-it (c.progress_after.ensures ∙ ap (λ (xs : List Summary). if list_all has_ended_well xs then Goes else Over) last)
    ∙ reason-goes P fuel n p left ends now first after all effects h (list_all has_ended_well all) refl
