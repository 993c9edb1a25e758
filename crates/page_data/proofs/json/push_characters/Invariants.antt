use Rattle.std.proofs.Common.{◌≡◌, ◌++◌, drop}
use Rattle.std.specs.Prelude.{flat_map}
use Rattle.page_data.specs.Json.{character}
use Rattle.page_data.proofs.json.push_characters.Given as goal

abbrev pub invariant-loop-byte : goal.invariant-loop-byte
invariant-loop-byte l = l.out.items ++ flat_map character (drop l.byte-index l.bytes) ≡ l.fn.out.items ++ flat_map character l.bytes
