use Rattle.std.proofs.Common.{◌≡◌, ◌+◌, ◌≤◌, ◌++◌, length, map}
use Rattle.std.specs.Prelude.{reverse}
use Rattle.std.specs.Vec.{vec_len, vec_capacity}
use Rattle.bank_hall.proofs.hall.untie.Given as goal

abbrev pub invariant-loop-pass : goal.invariant-loop-pass
invariant-loop-pass l = record {
  banks : l.banks.items ++ map (λ p. p.banks) (reverse l.passes.items) ≡ map (λ p. p.banks) l.fn.passes.items;
  ports : l.ports.items ++ map (λ p. p.ports) (reverse l.passes.items) ≡ map (λ p. p.ports) l.fn.passes.items;
  keeper : l.keeper.items ++ map (λ p. p.keeper) (reverse l.passes.items) ≡ map (λ p. p.keeper) l.fn.passes.items;
  bank_room : vec_len l.banks + length l.passes.items ≤ vec_capacity l.banks;
  port_room : vec_len l.ports + length l.passes.items ≤ vec_capacity l.ports;
  keeper_room : vec_len l.keeper + length l.passes.items ≤ vec_capacity l.keeper;
}

abbrev pub decreases-loop-pass : goal.decreases-loop-pass
decreases-loop-pass l = length l.passes.items
