use Rattle.run_timing.proofs.IsLongest.{in-step}
use Rattle.run_timing.proofs.Started.{some-time, longest-of, links-within, network-of}
use Rattle.run_timing.proofs.time.time_events.Goals as goal

pub latest-last-requires-clause-some : goal.latest-last-requires-clause-some
latest-last-requires-clause-some c = some-time c.args.ticks.now c.args.machine.now.state c.args.events.now c.in_ok-rows.rows c.requires.ticks c.in_ok-rows.ensures.rows

pub way_to-requires-clause-rows : goal.way_to-requires-clause-rows
way_to-requires-clause-rows c = in-step c.args.ticks.now c.args.machine.now.state c.args.events.now c.in_ok-rows.rows c.in_ok-rows.ensures.rows

pub delays-network-requires-clause-most : goal.delays-network-requires-clause-most
delays-network-requires-clause-most c =
    links-within c.args.machine.now.state c.args.events.now c.args.ticks.now c.in_ok-rows.rows c.latest-last.result c.finish-total.result c.in_ok-links.links.items c.as_slice-shown.result.now
    c.in_ok-rows.ensures.rows c.in_ok-links.ensures c.finish-total.ensures c.as_slice-shown.ensures.value

pub way_to-requires-clause-within : goal.way_to-requires-clause-within
way_to-requires-clause-within c = c.latest-last.ensures.within

pub finish-total-requires : goal.finish-total-requires
finish-total-requires c = c.latest-last.ensures.within

pub returns-clause-timing : goal.returns-clause-timing
returns-clause-timing c =
    longest-of c.args.machine.now.state c.args.events.now c.args.ticks.now c.in_ok-rows.rows c.latest-last.result _ c.requires.few c.in_ok-rows.ensures.rows c.latest-last.ensures c.in_ok-links.ensures c.finish-total.ensures
    (network-of c.args.ticks.now c.finish-total.result c.in_ok-links.links.items c.as_slice-shown.result.now c.delays-network.result c.as_slice-shown.ensures.value c.delays-network.ensures)
