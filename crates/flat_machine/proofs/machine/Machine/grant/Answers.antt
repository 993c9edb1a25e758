use Rattle.std.proofs.Common.{◌≡◌, sym}
use Rattle.flat_machine.proofs.GrantLemmas.{place-waits}
use Rattle.flat_machine.proofs.machine.Machine.grant.Goals as goal

pub resume-requires-clause-wants : goal.resume-requires-clause-wants
resume-requires-clause-wants c =
    let e : c.as_slice.result.now ≡ c.args.self.now.tasks = cc in
    rw e at (place-waits c.args.program.now c.args.fuel c.as_slice.result.now c.args.given c.in-Some.place (sym c.in-Some.ensures))
