-- What is answered to a document, from what is answered to what it tells.
use Rattle.std.proofs.Common.{◌≡◌, ℕ, List, Result, Ok, Err, IfOk, IfErr, sym, ap, ◌∙◌}
use Rattle.region_table.specs.Program.{ProgramParts}
use Rattle.rv_assembler.specs.Source.{source}
use Rattle.effect_checker.specs.Checked.{IsChecked}
use Rattle.run_report.specs.declared.programs.Stop.{Stop}
use Rattle.run_report.specs.declared.programs.Stop.TheVariants.{Refused, Memory}
use Rattle.run_report.specs.Texts.{HasChecked, IsStop}
use Rattle.referee_top.specs.Answers.{HasTold}

-- ---- a document

-- a document of a value, whose text this is, and the program of the text
pub told : {X : Type 0} (Is : List ℕ → X → Type 0) (text_of : X → List ℕ) (document : List ℕ) (x : X) (text : List ℕ) (P : ProgramParts) (Holds : X → ProgramParts → Type 0)
    → Is document x → text ≡ text_of x → source text ≡ Ok P → IsChecked P → Holds x P → HasTold Is document (λ (y : X). HasChecked (text_of y) (Holds y))
told Is text_of document x text P Holds is same assembles checked h =
    record { value = x; is = is; holds = record { program = P; is = ap source (sym same) ∙ assembles; checked = checked; holds = h } }

-- ---- a result

-- what is true of a value, or of a stop's line, by what was true of it before
pub ok-by : {X E : Type 0} (r : Result X E) (A B : X → Type 0) → IfOk r A → ((x : X) → A x → B x) → IfOk r B
ok-by (Ok x) A B h by = by x h
ok-by (Err e) A B h by = tt

stop-line : (s : Stop) (A B : List ℕ → Type 0) → IsStop A s → ((line : List ℕ) → A line → B line) → IsStop B s
stop-line (Refused line) A B h by = by line h
stop-line Memory A B h by = tt

pub stop-by : {X : Type 0} (r : Result X Stop) (A B : List ℕ → Type 0) → IfErr r (IsStop A) → ((line : List ℕ) → A line → B line) → IfErr r (IsStop B)
stop-by (Ok x) A B h by = tt
stop-by (Err s) A B h by = stop-line s A B h by
