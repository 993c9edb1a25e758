-- What is counted of a document's run, as it is printed.
use Rattle.std.proofs.Common.{◌≡◌, ◌++◌, List, ℕ, Result, Ok, Err, IfOk, ap, ◌∙◌}
use Rattle.region_table.specs.Program.{ProgramParts}
use Rattle.run_account.specs.Tallies.{Tallies}
use Rattle.run_account.specs.declared.form.Form.{Form}
use Rattle.run_report.specs.Texts.{HasProgram}
use Rattle.view_top.specs.Status.{Output}
use Rattle.view_top.specs.declared.documents.KeptRun.{KeptRun}
use Rattle.view_top.specs.Answers.{heading_of, made}
use Rattle.dn_machine.specs.Kept.{Made}
use Rattle.view_top.specs.Kept.{IsMachineOf}
use Rattle.view_top.proofs.Kept.{at-program}

-- the numbers have the names of the text's program, which the run's machine has
pub printed-is : (words : Form → ProgramParts → Tallies → List ℕ) (k : KeptRun) (m : Made) (form : Form) (tallies table : Tallies) (program : ProgramParts) (head text : List ℕ) (out : Output)
    → IsMachineOf k m → program ≡ m.state.setting.program → table ≡ tallies
    → head ≡ heading_of form k.run → text ≡ head ++ words form program table → out ≡ made text → HasProgram k.text (λ P. out ≡ made (heading_of form k.run ++ words form P tallies))
printed-is words k m form tallies table program head text out is one counted begins told answer =
    let own : program ≡ is.program = one ∙ is.holds.program in
    let whole : head ++ words form program table ≡ heading_of form k.run ++ words form is.program tallies = cc in
    record { program = is.program; is = is.is; holds = answer ∙ ap made (told ∙ whole) }

-- what was counted and what was printed make the answer
pub answer-is : {E : Type 0} (k : KeptRun) (Counts : ProgramParts → Type 0) (bytes : ProgramParts → List ℕ) (Answers : ProgramParts → Output → Type 0)
    → ((P : ProgramParts) (out : Output) → Counts P → out ≡ made (bytes P) → Answers P out)
    → (r : Result Output E) → HasProgram k.text Counts → IfOk r (λ out. HasProgram k.text (λ P. out ≡ made (bytes P))) → IfOk r (λ out. HasProgram k.text (λ P. Answers P out))
answer-is k Counts bytes Answers make (Err e) counted printed = tt
answer-is k Counts bytes Answers make (Ok out) counted printed =
    let answer = at-program k.text counted.program (λ (Q : ProgramParts). out ≡ made (bytes Q)) counted.is printed in
    record { program = counted.program; is = counted.is; holds = make counted.program out counted.holds answer }
