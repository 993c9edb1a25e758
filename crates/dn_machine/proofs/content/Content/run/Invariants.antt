use Rattle.std.proofs.Common.{◌-◌, length}
use Rattle.registration_protocol.specs.Setting.{setting}
use Rattle.dn_machine.specs.Content.{state_of, KnowsOwn}
use Rattle.dn_machine.proofs.RunLemmas.{IsOnTheWay}
use Rattle.dn_machine.proofs.content.Content.run.Given as goal

abbrev pub invariant-events : goal.invariant-events
invariant-events l =
    record {
      way : IsOnTheWay (setting l.context) l.seed l.words (state_of (setting l.context) l.self) l.log;
      known : KnowsOwn (setting l.context) l.self;
    }

abbrev pub decreases-events : goal.decreases-events
decreases-events l = 25169665 - length l.log.events
