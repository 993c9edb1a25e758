use Rattle.std.proofs.Common.{◌≡◌, ◌++◌, drop}
use Rattle.std.specs.Prelude.{flat_map}
use Rattle.page_data.specs.Json.{further}
use Rattle.page_data.specs.Rows.{core_numbers}
use Rattle.page_data.proofs.changes.push_cores.Given as goal

abbrev pub invariant-loop-core : goal.invariant-loop-core
invariant-loop-core l = l.out.items ++ flat_map further (core_numbers (drop l.core-index l.cores)) ≡ l.fn.out.items ++ flat_map further (core_numbers l.cores)
