use Rattle.std.proofs.Common.{◌≡◌, drop}
use Rattle.std.specs.Option.{option_or}
use Rattle.claims.specs.Diagnosis.{last_store}
use Rattle.claims.proofs.diagnosing.last_store.Given as goal

abbrev pub invariant-loop-action : goal.invariant-loop-action
invariant-loop-action l = option_or (last_store l.word.0 (drop l.action-index l.actions)) l.last ≡ last_store l.word.0 l.actions
