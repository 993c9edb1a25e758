-- The claims of the runs that the program denovo hands back.
use Rattle.std.specs.Prelude.{◌≡◌, ℕ, List, Some, Ok, IfSome}
use Rattle.dn_base.specs.declared.ids.Shape.{Shape}
use Rattle.region_table.specs.Program.{ProgramParts}
use Rattle.rv_assembler.specs.Source.{source}
use Rattle.registration_protocol.specs.Node.{Setting}
use Rattle.flat_machine.specs.declared.ending.TaskLoads.{TaskLoads}
use Rattle.machine_rules.specs.State.{initial_state}
use Rattle.machine_rules.specs.Runs.{all_loads}
use Rattle.dn_machine.specs.Settings.{IsSettingOf}
use Rattle.dn_machine.specs.declared.record.RunRecord.{RunRecord}
use Rattle.run_report.specs.Answer.{answer_of}
use Rattle.claims.specs.declared.claim.Claim.{Claim}
use Rattle.dn_top.specs.declared.options.Mode.{Mode}
use Rattle.dn_top.specs.declared.options.Mode as mode
use Rattle.dn_top.specs.declared.options.Options.{Options}
use Rattle.checked_runs.specs.Documents.{HasTrace, shape_told}
use Rattle.dn_top.specs.Laws.{Call, IsTextAnswered}
use Rattle.dn_top.specs.Runs.{shape_for}

-- ---- what is claimed

-- the claim tells what the record of a run on the machine of this setting tells: its grants; the loads of its events, task by
-- task, if loads are claimed; and the printed answer of its ending
pub record IsClaimOfRecord (C : Setting) (r : RunRecord) (c : Claim) : Type 0 where
  pub fuel : c.question.fuel ≡ C.fuel
  pub grants : c.grants ≡ r.grants
  pub loads : IfSome c.loads (λ (claimed : List TaskLoads). claimed ≡ all_loads (initial_state C) r.events)
  pub answer : c.answer ≡ answer_of r.ending

-- the claim is about this text, and tells what the record of a run of its program tells, on the machine of this shape and with
-- this fuel
pub record IsClaimOfRunOf (text : List ℕ) (shape_of : ProgramParts → Shape) (fuel : ℕ) (r : RunRecord) (c : Claim) : Type 0 where
  pub asked : c.question.text ≡ text
  pub program : ProgramParts
  pub is : source text ≡ Ok program
  pub setting : Setting
  pub setting_is : IsSettingOf program (shape_of program) fuel setting
  pub told : IsClaimOfRecord setting r c

-- ---- what was run

-- the text, the machine and the fuel are those of the call; in the mode replay they are those of its document
abbrev pub claims_run_in : Mode → Options → List ℕ → RunRecord → Claim → Type 0
claims_run_in mode.TheVariants.Replay o document r c = HasTrace document (λ t. IsClaimOfRunOf t.text (λ P. shape_told P t.shape) t.shape.fuel r c)
claims_run_in m o text r c = IsClaimOfRunOf text (λ P. shape_for P o) o.fuel r c

-- a call of the program with these options about this text, or in the mode replay this document, handed back the run
pub record HandedBack (o : Options) (text : List ℕ) (call : Call) (r : RunRecord) : Type 0 where
  pub answered : IsTextAnswered o text call
  pub run : call.answer.run ≡ Some r
