use Rattle.std.proofs.Common.{ℕ, List, [], length, subst}
use Rattle.run_chart.specs.declared.affected.Affected.{Affected}
use Rattle.run_chart.specs.Affected.{affected_by, is_affected, AreAdded}
use Rattle.run_chart.proofs.Gathered.{in-order}
use Rattle.run_chart.proofs.gathering.affected_words.Goals as goal

pub returns : goal.returns
returns c =
    let S = c.args.machine.now.state in
    let end = length S.setting.program.memory in
    let words = c.add_affected.new.words.items in
    let added : AreAdded end (is_affected S c.affected_by.result) [] words =
    subst (λ (none : List ℕ). AreAdded end (is_affected S c.affected_by.result) none words) c.new-words.ensures.items c.in_ok-add_affected.ensures
    in
    in-order end (is_affected S (affected_by S c.args.event)) words c.sort_once.new.numbers.items
    (subst (λ (a : Affected). AreAdded end (is_affected S a) [] words) c.affected_by.ensures added) c.sort_once.ensures.rise c.sort_once.ensures.kept c.sort_once.ensures.none_more
