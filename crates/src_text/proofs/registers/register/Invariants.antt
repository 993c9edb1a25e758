use Rattle.std.proofs.Common.{◌≡◌, map, drop}
use Rattle.src_text.specs.Register.{register_number_in, register_of}
use Rattle.src_text.specs.RegisterName.{register_row_of}
use Rattle.src_text.proofs.registers.register.Given as goal

abbrev pub invariant-loop-known : goal.invariant-loop-known
invariant-loop-known l = register_number_in (map register_row_of (drop l.known-index l.known-items)) l.name ≡ register_of l.name
