use Rattle.std.proofs.Common.{◌≡◌, ℕ, List, drop}
use Rattle.std.specs.Option.{option_or}
use Rattle.rv_assembler.specs.Lookup.{name_lookup}
use Rattle.rv_assembler.specs.Gathering.{no_count, meaning_in}
use Rattle.rv_assembler.proofs.names.survey.Given as goal

-- what is found already, and else what the lines that are left say
abbrev pub invariant-loop-reading : goal.invariant-loop-reading
invariant-loop-reading l =
    (q : List ℕ) → option_or (name_lookup l.names q) (meaning_in l.text l.count (drop l.reading-index l.readings) q) ≡ meaning_in l.text no_count l.readings q
