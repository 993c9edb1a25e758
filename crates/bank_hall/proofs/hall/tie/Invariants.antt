use Rattle.std.proofs.Common.{◌≡◌, ◌+◌, ◌≤◌, ◌++◌, length}
use Rattle.std.specs.Prelude.{reverse}
use Rattle.std.specs.Vec.{vec_len, vec_capacity}
use Rattle.bank_hall.specs.Halls.{passes_of}
use Rattle.bank_hall.proofs.hall.tie.Given as goal

abbrev pub invariant-loop-last : goal.invariant-loop-last
invariant-loop-last l = record {
  tied : passes_of l.banks.items l.ports.items l.keepers.items ++ reverse l.all.items ≡ passes_of l.fn.banks.items l.fn.ports.items l.fn.keepers.items;
  ports : length l.ports.items ≡ length l.banks.items;
  keepers : length l.keepers.items ≡ length l.banks.items;
  room : vec_len l.all + length l.banks.items ≤ vec_capacity l.all;
}

abbrev pub decreases-loop-last : goal.decreases-loop-last
decreases-loop-last l = length l.banks.items
