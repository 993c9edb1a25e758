use Rattle.std.proofs.Common.{◌≡◌, [], slice_index_or, refl, sym, ap, ◌∙◌}
use Rattle.std.specs.Option.{option_copied}
use Rattle.registration_protocol.proofs.CacheLemmas.{dropped-none}
use Rattle.registration_protocol.proofs.SignatureLemmas.{none-or}
use Rattle.registration_protocol.proofs.node.Node.drop_guarded.Goals as goal

pub returns-in-None : goal.returns-in-None
returns-in-None c =
    let past : slice_index_or c.args.plan.now.guarded c.args.lock.0 [] ≡ [] = none-or c.args.lock.0 c.args.plan.now.guarded [] (sym c.get.ensures ∙ ap option_copied c.in-None.is) in
    let all = dropped-none c.args.signature.now c.args.self.now.phase c.args.self.now.cache.pairs in
    rw (past, all) refl
