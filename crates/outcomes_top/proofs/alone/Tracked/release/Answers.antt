use Rattle.std.proofs.Common.{◌≡◌, ℕ, List, not, rules, sym, ap, subst}
use Rattle.std.specs.List.{filter}
use Rattle.std.proofs.lemmas.Fn.{filter_same}
use Rattle.region_table.specs.Plan.{task_guards}
use Rattle.common_outcomes.specs.declared.value.Cell.{Cell}
use Rattle.common_outcomes.specs.Alone.{Alone}
use Rattle.outcomes_top.specs.Tracks.{IsTracked}
use Rattle.outcomes_top.proofs.TrackLemmas.{left-tracked}
use Rattle.outcomes_top.proofs.alone.Tracked.release.Goals as goal

pub returns-clause-tracked : goal.returns-clause-tracked
returns-clause-tracked c =
    let S = c.args.place.now in
    let left : c.retain.new.self.items ≡ filter (λ (w : ℕ). not (task_guards S.decl c.args.lock.0 w)) c.args.self.now.listed.items =
    filter_same _ (λ (w : ℕ). not (task_guards S.decl c.args.lock.0 w)) _ (λ x b f' called. search rules) _ _ c.retain.ensures.filtered in
    let h = left-tracked S c.args.lock.0 c.args.self.now.task.cells c.args.self.now.listed.items c.retain.new.self.items c.requires.tracked left in
    subst (λ (cells : List Cell). IsTracked S cells c.retain.new.self.items) (sym (ap (λ (a : Alone). a.cells) c.release.ensures.value)) h
