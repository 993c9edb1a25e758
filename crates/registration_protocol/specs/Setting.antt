-- What a context says.
use Rattle.registration_protocol.specs.declared.setting.Context.{Context}
use Rattle.registration_protocol.specs.Node.{Setting}

abbrev pub setting : Context → Setting
setting c = record { program = c.decoded.now; plans = c.plans.now; shape = c.shape; fuel = c.fuel }
