use Rattle.std.proofs.Common.{◌≡◌, ◌≤◌, None, false, nat_lt, length, slice_get, refl, sym, ap, ◌∙◌, arith}
use Rattle.std.proofs.lemmas.Bool.Decides.{nat_tests}
use Rattle.std.specs.Option.{is_some}
use Rattle.registration_protocol.proofs.CacheLemmas.{dropped-none}
use Rattle.registration_protocol.proofs.SignatureLemmas.{get-past}
use Rattle.registration_protocol.proofs.node.Node.drop_signed.Goals as goal

pub returns-in-None : goal.returns-in-None
returns-in-None c =
    let test : nat_lt c.self.inside.phase.0 (length c.args.context.now.plans.now) ≡ false = sym c.get.ensures.lookup.0 ∙ ap is_some c.in-None.is in
    let short : length c.args.context.now.plans.now ≤ c.self.inside.phase.0 = grind (arith, nat_tests) in
    let past : slice_get c.args.context.now.plans.now c.self.inside.phase.0 ≡ None = get-past c.self.inside.phase.0 c.args.context.now.plans.now short in
    let all = dropped-none c.args.signature.now c.self.inside.phase.0 c.self.inside.cache.pairs in
    rw (← c.self.view_is, past, all) refl
