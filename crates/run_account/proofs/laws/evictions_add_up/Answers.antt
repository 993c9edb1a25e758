use Rattle.message_net.specs.declared.event.EventKind.TheVariants.{Evict}
use Rattle.run_account.specs.declared.measure.Measure.TheVariants.{EvictedCopies, EvictedRegistered}
use Rattle.run_account.specs.Departures.{no_departures}
use Rattle.run_account.specs.Handings.{no_handings}
use Rattle.run_account.proofs.Told.{all-told}
use Rattle.run_account.proofs.Evicted.{evictions-told}
use Rattle.run_account.proofs.laws.evictions_add_up.Goals as goal

pub returns : goal.returns
returns c S events stays run = all-told Evict EvictedCopies EvictedRegistered evictions-told S (no_departures S.setting) (no_handings S.setting) events stays run
