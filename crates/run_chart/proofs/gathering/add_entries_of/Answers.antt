use Rattle.std.proofs.Common.{length, arith, ap}
use Rattle.dn_base.specs.declared.ids.Shape.{Shape}
use Rattle.run_chart.proofs.Gathered.{entries-of, no-entries}
use Rattle.run_chart.proofs.gathering.add_entries_of.Goals as goal

pub returns-in_ok-add_entries : goal.returns-in_ok-add_entries
returns-in_ok-add_entries c =
    entries-of c.args.machine.now.state c.program.result.now c.node.result.now c.args.core.0 c.args.words.now.items c.add_entries.new.words.items c.program.ensures c.node.ensures.node c.in_ok-add_entries.ensures

pub returns-else-core-shape : goal.returns-else-core-shape
returns-else-core-shape c =
    no-entries c.args.machine.now.state (length c.args.machine.now.state.setting.program.memory) c.args.core.0 c.args.words.now.items
    (omega (arith, c.requires.nodes, c.if-core-shape.false, ap (λ (s : Shape). s.cores) c.shape.ensures))
