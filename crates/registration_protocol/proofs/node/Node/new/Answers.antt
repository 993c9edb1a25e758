use Rattle.std.proofs.Common.{◌≡◌, length, ap, ◌∙◌}
use Rattle.region_table.specs.Program.{ProgramParts}
use Rattle.registration_protocol.specs.Setting.{setting}
use Rattle.registration_protocol.proofs.FitLemmas.{opened-fits}
use Rattle.registration_protocol.proofs.node.Node.new.Goals as goal

pub returns-clause-fits : goal.returns-clause-fits
returns-clause-fits c =
    let locks : length c.program.inside.locks ≡ length c.args.context.now.decoded.now.locks = ap (λ (p : ProgramParts). length p.locks) (c.program.view_is ∙ c.program-program.ensures) in
    let phases : length c.program.inside.phases ≡ length c.args.context.now.decoded.now.phases = ap (λ (p : ProgramParts). length p.phases) (c.program.view_is ∙ c.program-program.ensures) in
    rw (c.start.ensures, c.program-program.ensures, c.in_ok-new.ensures, c.in_ok-empty_signatures.ensures, c.len.ensures, c.len-2.ensures, locks, phases)
    (opened-fits (setting c.args.context.now) c.args.core.0 c.requires.core)
