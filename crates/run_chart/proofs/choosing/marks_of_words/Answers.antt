use Rattle.std.proofs.Common.{sym, ◌∙◌, arith}
use Rattle.std.proofs.lemmas.List.FromFn.{map-range_with_len_more}
use Rattle.run_chart.specs.Choosing.{chooses_word}
use Rattle.run_chart.proofs.choosing.marks_of_words.Goals as goal

pub loop-word-preserved : goal.loop-word-preserved
loop-word-preserved c = (
  omega arith,
  c.in_ok-push.ensures.ok
      ∙ rw (c.loop-word.invariant.1, c.in_ok-chooses_word.ensures) (sym (map-range_with_len_more (chooses_word c.args.list.now c.args.text.now) 0 c.loop-word.word c.loop-word.word (omega arith))),
)
