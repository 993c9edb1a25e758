use Rattle.std.proofs.Common.{◌≡◌, Some, length, sym, ap, ◌∙◌}
use Rattle.registration_protocol.specs.Node.{NodeParts}
use Rattle.registration_protocol.specs.Setting.{setting}
use Rattle.registration_protocol.proofs.FitLemmas.{acquire-has}
use Rattle.registration_protocol.proofs.node.Node.hold.Goals as goal

pub set-requires : goal.set-requires
set-requires c =
    let same = c.self.view_is in
    let known : c.args.self.now.task ≡ Some c.in-Some.task = sym (ap (λ (n : NodeParts). n.task) same) ∙ c.in-Some.is in
    let has = acquire-has (setting c.args.context.now) c.args.self.now c.in-Some.task c.args.lock known c.requires.lock in
    let count : length c.self.inside.signatures ≡ length c.args.context.now.decoded.now.locks = ap (λ (n : NodeParts). length n.signatures) same ∙ c.requires.fits.signatures in
    rw count has.within
