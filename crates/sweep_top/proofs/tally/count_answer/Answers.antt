use Rattle.std.proofs.Common.{◌∙◌, ap, List, ℕ, bytes_eq, Vec, Global}
use Rattle.std.specs.Map.{lookup}
use Rattle.sweep_top.specs.Kept.{counted_answers, raised_count}
use Rattle.sweep_top.specs.declared.counts.AnswerCount.{AnswerCount}
use Rattle.sweep_top.proofs.Tallies.{counted_answers-inserted}
use Rattle.sweep_top.proofs.tally.count_answer.Goals as goal

pub returns : goal.returns
returns c =
    let es = c.args.answers.now.entries in
    let found = λ (s : List ℕ). raised_count c.args.once (lookup (λ (key : Vec ℕ Global). bytes_eq s key.items) es) in
    ap (λ (ds : List (Vec ℕ Global × AnswerCount)). counted_answers ds) c.in_ok-insert.ensures.entries
    ∙ counted_answers-inserted es c.args.text c.args.once c.raised_count-count.result (c.raised_count-count.ensures ∙ ap found c.as_slice.ensures.value)
