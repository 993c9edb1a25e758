-- The answers of denovo with their texts, and that explain takes them.
use Rattle.std.specs.Prelude.{◌≡◌, ℕ, List}
use Rattle.run_replay.specs.declared.trace.Trace.{Trace}
use Rattle.run_replay.specs.Document.{IsDocument}
use Rattle.dn_top.specs.declared.options.Mode.{Mode}
use Rattle.dn_top.specs.declared.options.Mode as mode
use Rattle.dn_top.specs.declared.options.Options.{Options}
use Rattle.program_outside.specs.Outside.{Took}
use Rattle.dn_top.specs.declared.output.Output.{Output}
use Rattle.dn_top.specs.Answers.{IsAnswer}
use Rattle.dn_top.specs.Laws.{Call}
use Rattle.explained_answer.specs.declared.explaining.Explained.{Explained}
use Rattle.explained_answer.specs.declared.explaining.Explained as explained
use Rattle.explained_answer.specs.Explained.{IsExplained}

-- the answer was explained or repeated: no line of it was refused
abbrev pub IsTaken : Explained → Type 0
IsTaken (explained.TheVariants.Text out) = Unit {0}
IsTaken (explained.TheVariants.Refused number) = ⊥

-- with which text an answer is explained: the one that denovo was asked about, and in the mode replay the text of the document;
-- if the bytes are no document, any text will do
abbrev pub is_beside : Mode → (asked text : List ℕ) → Type 0
is_beside mode.TheVariants.Replay asked text = (t : Trace) → IsDocument asked t → text ≡ t.text
is_beside m asked text = text ≡ asked

-- what a call wrote is an answer to its options and text, and explain takes it
pub record IsCallTaken (o : Options) (asked : List ℕ) (call : Call) : Type 0 where
  pub out : Output
  pub answer : IsAnswer o asked out
  pub took : Took call.before.sink call.after.sink out.bytes
  pub taken : (text : List ℕ) (e : Explained) → is_beside o.mode asked text → IsExplained text out.bytes e → IsTaken e
