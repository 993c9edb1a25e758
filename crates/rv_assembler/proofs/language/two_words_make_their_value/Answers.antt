use Rattle.std.proofs.Common.{ap}
use Rattle.rv_assembler.specs.Emission.{label_address, region_address, loaded_address}
use Rattle.rv_assembler.specs.Operand.{register_at}
use Rattle.rv_assembler.proofs.ValueLemmas.{li-made, la-made}
use Rattle.rv_assembler.proofs.language.two_words_make_their_value.Goals as goal

pub returns-clause-number : goal.returns-clause-number
returns-clause-number c = li-made

pub returns-clause-label : goal.returns-clause-label
returns-clause-label c = λ text names here line place ts e. la-made text names here (label_address place) ts (ap (loaded_address (register_at text ts 0)) e)

pub returns-clause-region : goal.returns-clause-region
returns-clause-region c = λ text names here number start len ts e. la-made text names here (region_address start) ts (ap (loaded_address (register_at text ts 0)) e)
