use Rattle.std.proofs.Common.{sym, ap, ◌∙◌}
use Rattle.std.specs.Option.{option_copied}
use Rattle.write_signature.specs.Signature.{empty}
use Rattle.registration_protocol.proofs.SignatureLemmas.{none-or}
use Rattle.registration_protocol.proofs.node.Node.signature.Goals as goal

pub returns-in-None : goal.returns-in-None
returns-in-None c =
    rw (← c.self.view_is)
    (c.empty.ensures ∙ sym (none-or c.args.lock.0 c.self.inside.signatures (empty c.self.inside.phase.0) (sym c.get.ensures ∙ ap option_copied c.in-None.is)))
