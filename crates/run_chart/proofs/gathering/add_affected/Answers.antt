use Rattle.std.proofs.Common.{◌==◌, length, OnOk, subst, sym}
use Rattle.region_table.specs.Program.{ProgramParts}
use Rattle.run_chart.specs.declared.affected.Affected.{Affected}
use Rattle.run_chart.specs.Affected.{is_affected, AreAdded}
use Rattle.run_chart.proofs.gathering.add_affected.Goals as goal

pub returns-in-Word : goal.returns-in-Word
returns-in-Word c =
    let S = c.args.machine.now.state in
    let old = c.args.words.now.items in
    let new = c.add_word.new.words.items in
    subst (λ (a : Affected). OnOk c.add_word.result (AreAdded (length S.setting.program.memory) (is_affected S a) old new)) (sym c.in-Word.is)
    (subst (λ (P : ProgramParts). OnOk c.add_word.result (AreAdded (length P.memory) (λ w. c.in-Word.word.0 == w) old new)) c.program.ensures c.add_word.ensures)
