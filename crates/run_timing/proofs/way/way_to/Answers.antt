use Rattle.run_timing.proofs.Ways.{way-step}
use Rattle.run_timing.proofs.way.way_to.Goals as goal

pub loop-next-preserved : goal.loop-next-preserved
loop-next-preserved c =
    way-step c.args.rows.now c.args.last c.loop-next.next c.get-next.result c.loop-next.links.items c.push.new.self.items c.in-Some.event c.link_of-link.result c.requires.rows c.in-Some.is
    c.link_of-link.ensures.event c.loop-next.invariant c.link_of-link.ensures.finish c.link_of-link.ensures.kind c.get-next.ensures c.in_ok-push.ensures.items
