use Rattle.std.proofs.Common.{rules, ◌≡◌, Err}
use Rattle.rv_assembler.specs.declared.fault.SourceFault.{SourceFault}
use Rattle.rv_assembler.specs.Lookup.{name_lookup}
use Rattle.rv_assembler.specs.Adding.{total}
use Rattle.rv_assembler.specs.AddedLine.{draft_behind}
use Rattle.rv_assembler.proofs.SourceLemmas.{lines-stopped, lines-onward}
use Rattle.rv_assembler.proofs.assembling.add_lines.Goals as goal

pub returns-in_err-add_line-clause-err : goal.returns-in_err-add_line-clause-err
returns-in_err-add_line-clause-err c =
    let stopped : (f : SourceFault) → draft_behind c.args.version_2 c.args.text.now (name_lookup c.args.names.now) c.loop-reading.draft c.reading-item.result ≡ Err f
    → total c.args.version_2 c.args.text.now (name_lookup c.args.names.now) c.args.draft.now c.args.readings.now ≡ Err f =
    lines-stopped c.args.version_2 c.args.text.now (name_lookup c.args.names.now) c.loop-reading.draft c.args.readings.now c.loop-reading.reading-index c.reading-item.result _
    c.loop-reading-test.true c.reading-item.is c.loop-reading.invariant in
    search (rules, stopped)

pub loop-reading-preserved : goal.loop-reading-preserved
loop-reading-preserved c =
    lines-onward c.args.version_2 c.args.text.now (name_lookup c.args.names.now) c.loop-reading.draft c.args.readings.now c.loop-reading.reading-index c.reading-item.result _
    c.loop-reading-test.true c.reading-item.is c.loop-reading.invariant c.add_line.new.draft c.in_ok-add_line.ensures.ok
