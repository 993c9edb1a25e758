use Rattle.std.proofs.Common.{◌≡◌, ◌+◌, ◌-◌, length, ap, arith}
use Rattle.region_table.specs.Program.{ProgramParts}
use Rattle.state_text.specs.Parts.{home_line_at}
use Rattle.state_text.proofs.Steps.{range-step}
use Rattle.state_text.proofs.homes.push_homes.Goals as goal

pub loop-word-preserved : goal.loop-word-preserved
loop-word-preserved c =
    let count : length c.program-program.result.now.memory ≡ length c.args.machine.now.state.setting.program.memory =
    ap (λ (p : ProgramParts). length p.memory) c.program-program.ensures in
    rw (c.in_ok-push_home.ensures, c.home_of.ensures, c.program-program.ensures)
    (range-step (home_line_at c.args.machine.now.state) c.loop-word.out.items c.loop-word.word
    (length c.args.machine.now.state.setting.program.memory - c.loop-word.word) (length c.args.machine.now.state.setting.program.memory - (c.loop-word.word + 1)) _
    (omega (arith, c.loop-word-test.true, count)) c.loop-word.invariant)
