use Rattle.std.proofs.Common.{sym, ap, ◌∙◌}
use Rattle.std.proofs.lemmas.Option.{none-some}
use Rattle.dn_machine.specs.Log.{own_core}
use Rattle.dn_machine.proofs.content.Content.make_own.Goals as goal

pub unreachable-requires : goal.unreachable-requires
unreachable-requires c = none-some c.requires.own.0 (sym (ap own_core c.in-Handle.is) ∙ c.requires.own.1)
