use Rattle.std.proofs.Common.{sym, ap, ◌∙◌}
use Rattle.rv_assembler.specs.Source.{source}
use Rattle.text_places.specs.Places.{text_places}
use Rattle.text_places.proofs.PlaceLemmas.{few-bytes}
use Rattle.view_top.proofs.ForReaders.{answer-is}
use Rattle.view_top.proofs.answers.for_readers.Goals as goal

pub answer_for_readers-requires : goal.answer_for_readers-requires
answer_for_readers-requires c = few-bytes c.as_slice.result.now c.args.located.now.program (ap source c.as_slice.ensures ∙ c.requires.program)

pub returns : goal.returns
returns c =
    answer-is c.args.kept.now c.args.options.now c.as_slice.result.now c.as_slice-2.result.now c.args.located.now c.in_ok-text.text.items c.done_with.result c.as_slice.ensures
    (ap source c.as_slice.ensures ∙ c.requires.program) (c.requires.places ∙ ap text_places (sym c.as_slice.ensures)) c.as_slice-2.ensures c.in_ok-text.ensures c.done_with.ensures
