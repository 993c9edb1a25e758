use Rattle.std.proofs.Common.{rules}
use Rattle.outcomes_top.proofs.StepLemmas.{stored-found}
use Rattle.outcomes_top.proofs.alone.TaskAlone.stored_value.Goals as goal

pub returns : goal.returns
returns c =
    stored-found c.args.place.now c.args.self.now c.args.word.0 c.args.next.now c.value_seen-before.result c.is_shared-shared.result c.value_stored.result c.merged_by-number.result c.requires.next c.requires.kind
    (search rules) (search rules) (search rules) (search rules)
