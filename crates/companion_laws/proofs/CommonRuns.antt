-- A run of a program whose answer is settled has what the answer says, since its flat machine's run has it.
use Rattle.std.proofs.Common.{◌≡◌, ℕ, List, Some, sym, ap, subst, ◌∙◌}
use Rattle.dn_base.specs.declared.ids.Shape.{Shape}
use Rattle.region_table.specs.Program.{ProgramParts, IsProgram}
use Rattle.region_table.specs.Numbers.{HasWords}
use Rattle.rv_assembler.proofs.WellFormed.{source-well-formed}
use Rattle.effect_checker.specs.Checked.{IsChecked}
use Rattle.flat_machine.specs.Ending.{flat_end}
use Rattle.dn_machine.specs.declared.record.RunRecord.{RunRecord}
use Rattle.run_report.specs.Texts.{HasChecked}
use Rattle.dn_top.specs.declared.options.Mode as mode
use Rattle.dn_top.specs.declared.options.Mode.{Mode}
use Rattle.dn_top.specs.declared.options.Options.{Options}
use Rattle.checked_runs.specs.Documents.{shape_told}
use Rattle.checked_runs.specs.Runs.{HasFlatRun, IsRunOf}
use Rattle.dn_top.specs.Answers.{IsFlatRun}
use Rattle.dn_top.specs.Laws.{Call}
use Rattle.dn_top.specs.declared.output.Output.{Output}
use Rattle.dn_top.specs.Runs.{shape_for}
use Rattle.common_outcomes.specs.declared.answer.Common.{Common}
use Rattle.common_outcomes.specs.declared.answer.Outcomes as answer
use Rattle.common_outcomes.specs.Answer.{outcomes}
use Rattle.common_outcomes.specs.Laws.{IsCommonTo}
use Rattle.common_outcomes.proofs.Settling.{every-order}
use Rattle.companion_laws.specs.CommonRuns.{HasCommon, has_common_in}
use Rattle.companion_laws.specs.HandedBack.{HandedBack}
use Rattle.companion_laws.proofs.HandedBack.{HasRun, ran_in, call-ran}

pub run-common : (P : ProgramParts) (machine : Shape) (fuel : ℕ) (r : RunRecord) (common : Common) → IsProgram P → HasWords P → IsChecked P → outcomes P fuel ≡ answer.TheVariants.Settled common
    → IsRunOf P machine fuel r → IsCommonTo common r.ending
run-common P machine fuel r common program numbers checked settled is =
    let flat : HasFlatRun is.setting r = is.flat in
    let value : flat_end P fuel r.grants ≡ Some flat.end' =
    ap (λ (Q : ProgramParts). flat_end Q fuel r.grants) (sym is.setting_is.program) ∙ ap (λ (n : ℕ). flat_end is.setting.program n r.grants) (sym is.setting_is.fuel) ∙ flat.value in
    subst (IsCommonTo common) flat.ending (every-order P fuel common r.grants flat.end' (record { program = program; numbers = numbers; checked = checked; answer = settled }) value)

pub flat-common : (P : ProgramParts) (fuel : ℕ) (out : Output) (h : IsFlatRun P fuel out) → IsProgram P → IsChecked P → HasCommon P fuel h.end.ending
flat-common P fuel out h program checked common numbers settled =
    every-order P fuel common h.grants h.end (record { program = program; numbers = numbers; checked = checked; answer = settled }) h.flat

text-common : (text : List ℕ) (shape_of : ProgramParts → Shape) (fuel : ℕ) (r : RunRecord) → HasRun text shape_of fuel r → HasChecked text (λ P. HasCommon P fuel r.ending)
text-common text shape_of fuel r ran =
    record {
      program = ran.program;
      is = ran.is;
      checked = ran.checked;
      holds = λ common numbers settled. run-common ran.program (shape_of ran.program) fuel r common (source-well-formed text ran.program ran.is) numbers ran.checked settled ran.holds;
    }

mode-common : (m : Mode) (o : Options) (text : List ℕ) (r : RunRecord) → ran_in m o text r → has_common_in m o text r
mode-common mode.TheVariants.Run o text r ran = text-common text (λ P. shape_for P o) o.fuel r ran
mode-common mode.TheVariants.Work o text r ran = text-common text (λ P. shape_for P o) o.fuel r ran
mode-common mode.TheVariants.Check o text r ran = text-common text (λ P. shape_for P o) o.fuel r ran
mode-common mode.TheVariants.List o text r ran = text-common text (λ P. shape_for P o) o.fuel r ran
mode-common mode.TheVariants.Flat o text r ran = text-common text (λ P. shape_for P o) o.fuel r ran
mode-common mode.TheVariants.Trace o text r ran = text-common text (λ P. shape_for P o) o.fuel r ran
mode-common mode.TheVariants.Time o text r ran = text-common text (λ P. shape_for P o) o.fuel r ran
mode-common mode.TheVariants.Prove o text r ran = text-common text (λ P. shape_for P o) o.fuel r ran
mode-common mode.TheVariants.Replay o document r ran =
    record { trace = ran.trace; is = ran.is; holds = text-common ran.trace.text (λ P. shape_told P ran.trace.shape) ran.trace.shape.fuel r ran.holds }

pub call-common : (o : Options) (text : List ℕ) (call : Call) (r : RunRecord) → HandedBack o text call r → has_common_in o.mode o text r
call-common o text call r h = mode-common o.mode o text r (call-ran o text call r h)
