use Rattle.message_net.specs.declared.event.EventKind.TheVariants.{DataReply}
use Rattle.run_account.specs.declared.measure.Measure.TheVariants.{RepliesHome, RepliesCore}
use Rattle.run_account.specs.Departures.{no_departures}
use Rattle.run_account.specs.Handings.{no_handings}
use Rattle.run_account.proofs.Told.{all-told}
use Rattle.run_account.proofs.Later.{replies-told}
use Rattle.run_account.proofs.laws.replies_add_up.Goals as goal

pub returns : goal.returns
returns c S events stays run = all-told DataReply RepliesHome RepliesCore replies-told S (no_departures S.setting) (no_handings S.setting) events stays run
