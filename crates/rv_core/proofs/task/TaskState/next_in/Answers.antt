use Rattle.std.proofs.Common.{◌≡◌, length, arith, sym, ap, ◌∙◌}
use Rattle.region_table.specs.Program.{ProgramParts}
use Rattle.rv_core.proofs.DecodedLemmas.{count-decoded, found-at}
use Rattle.rv_core.proofs.Needs.{need-allowed, need-fuel}
use Rattle.rv_core.proofs.task.TaskState.next_in.Goals as goal

pub at-requires : goal.at-requires
at-requires c =
    let same : length c.args.program.now.code ≡ length c.program.inside.code = ap (λ (p : ProgramParts). length p.code) (sym c.program.view_is) in
    count-decoded c.args.program.now c.args.code.now c.requires.code (omega (arith, same, c.program.invariant.code))

pub look_known-requires : goal.look_known-requires
look_known-requires c = c.at.ensures ∙ found-at c.args.program.now c.args.self.now c.args.code.now c.requires.code

pub returns-clause-allowed : goal.returns-clause-allowed
returns-clause-allowed c =
    rw (ap (λ n. n.need) c.look_known.ensures) (need-allowed c.args.program.now c.args.task.now c.args.fuel c.args.self.now)

pub returns-clause-fuel : goal.returns-clause-fuel
returns-clause-fuel c =
    rw (ap (λ n. n.need) c.look_known.ensures) (need-fuel c.args.program.now c.args.task.now c.args.fuel c.args.self.now)
