use Rattle.std.proofs.Common.{◌≡◌, arith, sym, ap, ◌∙◌}
use Rattle.std.proofs.lemmas.Bool.Decides.{nat_tests}
use Rattle.std.specs.Option.{option_copied}
use Rattle.rv_core.proofs.DecodedLemmas.{known-next}
use Rattle.rv_core.proofs.task.TaskState.look_known.Goals as goal

pub returns-in-Some : goal.returns-in-Some
returns-in-Some c =
    let apart = c.if-self-fuel.true in
    let left : c.args.self.now.retired ≡ c.args.fuel → ⊥ = grind (arith, nat_tests) in
    rw c.instruction.ensures (known-next c.args.program.now c.args.task.now c.args.fuel c.args.self.now c.in-Some.instr.now left (sym c.requires ∙ ap option_copied c.in-Some.is))
