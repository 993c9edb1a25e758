-- Which cases agree, and how they are counted.
use Rattle.std.specs.Prelude.{◌≡◌}
use Rattle.dn_base.specs.Faults.{raised}
use Rattle.case_files.specs.Standing.{StandIn}
use Rattle.case_files.specs.declared.case.Case.{Case}
use Rattle.case_files.specs.declared.written.Written.{Written}
use Rattle.case_files.specs.declared.report.Report.{Report}

-- the exit code is the one that is wanted, and so is what was written
abbrev pub IsAsWanted : Case → Written → Type 0
IsAsWanted case got = (case.exit ≡ got.exit) × StandIn case.output.items got.bytes.items

-- one more case agrees, and nothing is printed of it
abbrev pub Agrees : Report → Report → Type 0
Agrees old new = (new.agree ≡ raised old.agree) × (new.runs ≡ old.runs) × (new.times ≡ old.times) × (new.differ ≡ old.differ) × (new.lines ≡ old.lines)

-- one more run agrees with the flat machine, and nothing is printed of it
abbrev pub RunAgrees : Report → Report → Type 0
RunAgrees old new = (new.agree ≡ old.agree) × (new.runs ≡ raised old.runs) × (new.times ≡ old.times) × (new.differ ≡ old.differ) × (new.lines ≡ old.lines)

-- the time of one more run is that of the slowest chain, and nothing is printed of it
abbrev pub TimeAgrees : Report → Report → Type 0
TimeAgrees old new = (new.agree ≡ old.agree) × (new.runs ≡ old.runs) × (new.times ≡ raised old.times) × (new.differ ≡ old.differ) × (new.lines ≡ old.lines)

-- one more case differs, or its run does, or its time
abbrev pub Differs : Report → Report → Type 0
Differs old new = (new.agree ≡ old.agree) × (new.runs ≡ old.runs) × (new.times ≡ old.times) × (new.differ ≡ raised old.differ)
