use Rattle.rv_assembler.proofs.WellFormed.{draft-whole}
use Rattle.rv_assembler.proofs.assembling.small_program.Goals as goal

pub finish-requires : goal.finish-requires
finish-requires c =
    let whole = draft-whole c.args.text.now c.add_text.new.draft c.in_ok-add_text.ensures.ok in record { words = whole.words; phases = whole.phases; locks = whole.locks; program = whole.program }
