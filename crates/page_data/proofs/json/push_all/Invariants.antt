use Rattle.std.proofs.Common.{◌≡◌, ◌++◌, drop}
use Rattle.std.specs.Prelude.{flat_map}
use Rattle.page_data.specs.Json.{further}
use Rattle.page_data.proofs.json.push_all.Given as goal

abbrev pub invariant-loop-number : goal.invariant-loop-number
invariant-loop-number l = l.out.items ++ flat_map further (drop l.number-index l.numbers) ≡ l.fn.out.items ++ flat_map further l.numbers
