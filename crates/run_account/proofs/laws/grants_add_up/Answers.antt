use Rattle.message_net.specs.declared.event.EventKind.TheVariants.{Grant}
use Rattle.run_account.specs.declared.measure.Measure.TheVariants.{GrantsAtOnce, GrantsQueued}
use Rattle.run_account.specs.Departures.{no_departures}
use Rattle.run_account.specs.Handings.{no_handings}
use Rattle.run_account.proofs.Told.{all-told}
use Rattle.run_account.proofs.Handed.{grants-told}
use Rattle.run_account.proofs.laws.grants_add_up.Goals as goal

pub returns : goal.returns
returns c S events stays run = all-told Grant GrantsAtOnce GrantsQueued grants-told S (no_departures S.setting) (no_handings S.setting) events stays run
