use Rattle.std.proofs.Common.{◌≡◌, slice_get, Option, Some, None, refl, sym}
use Rattle.message_net.specs.declared.event.Event.TheVariants.{Instr}
use Rattle.registration_protocol.specs.Node.{NodeParts}
use Rattle.registration_protocol.specs.Setting.{setting}
use Rattle.dn_machine.specs.Ends.{end_at}
use Rattle.dn_machine.proofs.Staying.{own-known, may-of-own, instr-no-end}
use Rattle.dn_machine.proofs.content.Content.end_known.Goals as goal

pub returns-then-has_instr : goal.returns-then-has_instr
returns-then-has_instr c = by_node (slice_get c.args.self.now.nodes.items c.args.core.0) refl where
  by_node : (o : Option NodeParts) → slice_get c.args.self.now.nodes.items c.args.core.0 ≡ o → None ≡ end_at o
  by_node None there = refl
  by_node (Some n) there =
      let C = setting c.args.context.now in
      let has = c.has_instr.ensures c.if-has_instr.true in
      let own = own-known C c.args.self.now.nodes.items c.args.self.now.own c.args.core.0 n (Some (Instr has.0)) c.requires.known there has.1 in
      sym (instr-no-end C n (may-of-own C n has.0 own).0)
