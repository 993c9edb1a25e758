use Rattle.std.proofs.Common.{◌≡◌, ℕ, ◌+◌, ◌-◌, ◌<◌, false, suc, List, ◌++◌, sym, ap, ◌∙◌, arith, append_assoc}
use Rattle.common_outcomes.specs.Alone.{Setup, Alone, alone_step, alone_steps}
use Rattle.common_outcomes.proofs.Phase.{still}
use Rattle.outcomes_top.specs.declared.reasons.Taking.{Taking}
use Rattle.outcomes_top.specs.Reasons.{makes_one, origins_from, taken_at, takings_from}
use Rattle.outcomes_top.proofs.ReasonLemmas.{origins-rest, taken-rest, step-rest, origins-still, takings-still, origins-more, takings-more}
use Rattle.outcomes_top.proofs.watched.Watched.run.Goals as goal

pub loop-done-init : goal.loop-done-init
loop-done-init c =
    let S = c.args.place.now in
    let a = c.args.self.now.tracked.task in
    let whole : suc S.fuel - 0 ≡ suc S.fuel = omega arith in
    record {
      leads = ap (λ (n : ℕ). alone_steps S n a) whole;
      well = c.requires.well;
      tracked = c.requires.tracked;
      origins = ap (λ (n : ℕ). origins_from S n a c.args.self.now.origins) whole;
      takings = ap (λ (n : ℕ). c.args.self.now.takings.items ++ takings_from S n a) whole;
    }

pub returns-then-not-branch-clause-value : goal.returns-then-not-branch-clause-value
returns-then-not-branch-clause-value c =
    let S = c.args.place.now in
    let a = c.loop-done.self.tracked.task in
    let stood : c.in_ok-step.field-0 ≡ false = cc in
    let stays : alone_step S a ≡ a = step-rest S a (c.in_ok-step.ensures.still stood) in
    c.in_ok-step.ensures.value ∙ stays ∙ sym (still S (suc S.fuel - c.loop-done._done) a stays) ∙ c.loop-done.invariant.leads

pub returns-then-not-branch-clause-origins : goal.returns-then-not-branch-clause-origins
returns-then-not-branch-clause-origins c =
    let S = c.args.place.now in
    let a = c.loop-done.self.tracked.task in
    let os = c.loop-done.self.origins in
    let stood : c.in_ok-step.field-0 ≡ false = cc in
    let rests : makes_one S a ≡ false = c.in_ok-step.ensures.still stood in
    c.in_ok-step.ensures.origins ∙ origins-rest S a os rests ∙ sym (origins-still S (suc S.fuel - c.loop-done._done) a os rests) ∙ c.loop-done.invariant.origins

pub returns-then-not-branch-clause-takings : goal.returns-then-not-branch-clause-takings
returns-then-not-branch-clause-takings c =
    let S = c.args.place.now in
    let a = c.loop-done.self.tracked.task in
    let stood : c.in_ok-step.field-0 ≡ false = cc in
    let rests : makes_one S a ≡ false = c.in_ok-step.ensures.still stood in
    c.in_ok-step.ensures.takings
    ∙ ap (λ (ts : List Taking). c.loop-done.self.takings.items ++ ts) (taken-rest S a rests ∙ sym (takings-still S (suc S.fuel - c.loop-done._done) a rests))
    ∙ c.loop-done.invariant.takings

pub loop-done-preserved : goal.loop-done-preserved
loop-done-preserved c =
    let S = c.args.place.now in
    let a = c.loop-done.self.tracked.task in
    let os = c.loop-done.self.origins in
    let ts = c.loop-done.self.takings.items in
    let d = c.loop-done._done in
    let test = c.loop-done-test.true in
    let same : c.place.inside.fuel ≡ S.fuel = ap (λ (x : Setup). x.fuel) c.place.view_is in
    let low : d < suc S.fuel = omega (arith, test, same) in
    let k = suc S.fuel - (d + 1) in
    let next : suc S.fuel - d ≡ suc k = omega (arith, low) in
    record {
      leads = ap (alone_steps S k) c.in_ok-step.ensures.value ∙ sym (ap (λ (n : ℕ). alone_steps S n a) next) ∙ c.loop-done.invariant.leads;
      well = c.in_ok-step.ensures.well;
      tracked = c.in_ok-step.ensures.tracked;
      origins = ap (λ (x : Alone). origins_from S k x c.step.new.self.origins) c.in_ok-step.ensures.value ∙ ap (origins_from S k (alone_step S a)) c.in_ok-step.ensures.origins
          ∙ sym (origins-more S (suc S.fuel) d a os low) ∙ c.loop-done.invariant.origins;
      takings = ap (λ (x : Alone). c.step.new.self.takings.items ++ takings_from S k x) c.in_ok-step.ensures.value
          ∙ ap (λ (xs : List Taking). xs ++ takings_from S k (alone_step S a)) c.in_ok-step.ensures.takings
          ∙ append_assoc ts (taken_at S a) (takings_from S k (alone_step S a)) ∙ ap (λ (xs : List Taking). ts ++ xs) (sym (takings-more S (suc S.fuel) d a low)) ∙ c.loop-done.invariant.takings;
    }
