use Rattle.std.proofs.Common.{◌≡◌, drop}
use Rattle.rv_assembler.specs.Lookup.{name_lookup}
use Rattle.rv_assembler.specs.Adding.{total}
use Rattle.rv_assembler.proofs.assembling.add_lines.Given as goal

-- the lines so far have no fault, and the lines that are left decide
abbrev pub invariant-loop-reading : goal.invariant-loop-reading
invariant-loop-reading l = total l.version_2 l.text (name_lookup l.names) l.draft (drop l.reading-index l.readings) ≡ total l.version_2 l.text (name_lookup l.names) l.initial.draft l.readings
