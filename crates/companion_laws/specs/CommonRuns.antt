-- What a run that denovo hands back has in common with all runs of its program.
use Rattle.std.specs.Prelude.{◌≡◌, ℕ, List}
use Rattle.region_table.specs.Program.{ProgramParts}
use Rattle.region_table.specs.Numbers.{HasWords}
use Rattle.rv_core.specs.declared.ending.Ending.{Ending}
use Rattle.dn_machine.specs.declared.record.RunRecord.{RunRecord}
use Rattle.run_report.specs.Texts.{HasChecked}
use Rattle.dn_top.specs.declared.options.Mode.{Mode}
use Rattle.dn_top.specs.declared.options.Mode as mode
use Rattle.dn_top.specs.declared.options.Options.{Options}
use Rattle.checked_runs.specs.Documents.{HasTrace}
use Rattle.common_outcomes.specs.declared.answer.Common.{Common}
use Rattle.common_outcomes.specs.declared.answer.Outcomes.TheVariants.{Settled}
use Rattle.common_outcomes.specs.Answer.{outcomes}
use Rattle.common_outcomes.specs.Laws.{IsCommonTo}

-- where the answer of the program and the fuel is settled, the ending has what it says
abbrev pub HasCommon : ProgramParts → ℕ → Ending → Type 0
HasCommon P fuel e = (common : Common) → HasWords P → outcomes P fuel ≡ Settled common → IsCommonTo common e

-- so it is with the run of this text's program, in the mode replay of the document's text
abbrev pub has_common_in : Mode → Options → List ℕ → RunRecord → Type 0
has_common_in mode.TheVariants.Replay o document r = HasTrace document (λ t. HasChecked t.text (λ P. HasCommon P t.shape.fuel r.ending))
has_common_in m o text r = HasChecked text (λ P. HasCommon P o.fuel r.ending)
