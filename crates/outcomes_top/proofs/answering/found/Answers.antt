use Rattle.std.proofs.Common.{ap, ◌∙◌}
use Rattle.outcomes_top.specs.Answers.{outcomes_reply}
use Rattle.outcomes_top.proofs.answering.found.Goals as goal

pub returns-clause-done : goal.returns-clause-done
returns-clause-done c = record {
  program = c.in_ok-checked.checked;
  is = c.in_ok-checked.ensures.ok;
  checked = c.in_ok-checked.ensures.checked;
  holds = record {
    well_formed = c.in_ok-answer.ensures.well_formed;
    words = c.in_ok-answer.ensures.words;
    answer = c.in_ok-reply_of.ensures ∙ ap outcomes_reply c.in_ok-answer.ensures.value;
  };
}
