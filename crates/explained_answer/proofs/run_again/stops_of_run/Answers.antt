use Rattle.std.proofs.Common.{ap, ◌∙◌}
use Rattle.std.specs.List.{list_any}
use Rattle.explained_answer.specs.Lines.{lines_in}
use Rattle.explained_answer.specs.RunAgain.{is_unfinished, stops_with}
use Rattle.explained_answer.proofs.Steps.{if-ok}
use Rattle.explained_answer.proofs.RunAgainLemmas.{none-unfinished, some-unfinished}
use Rattle.explained_answer.proofs.run_again.stops_of_run.Goals as goal

pub returns-then-not-has_unfinished : goal.returns-then-not-has_unfinished
returns-then-not-has_unfinished c =
    c.new.ensures
    ∙ none-unfinished c.args.checked.now (lines_in c.args.lines.now) c.in_ok-tasks.tasks.items c.has_unfinished.result c.in_ok-tasks.ensures
    (c.has_unfinished.ensures ∙ ap (list_any is_unfinished) c.as_slice.ensures.value) c.if-not-has_unfinished.true

pub returns : goal.returns
returns c =
    if-ok c.stops_with.result _ _
    (λ stops h.
    some-unfinished c.args.checked.now (lines_in c.args.lines.now) c.in_ok-tasks.tasks.items c.in_ok-grants.grants.items c.has_unfinished.result stops c.in_ok-tasks.ensures c.in_ok-grants.ensures
    (c.has_unfinished.ensures ∙ ap (list_any is_unfinished) c.as_slice.ensures.value) c.if-not-has_unfinished.false
    (h ∙ (λ i. stops_with c.args.checked.now (c.as_slice-2.ensures.value i) (c.as_slice-3.ensures.value i))))
    c.stops_with.ensures
