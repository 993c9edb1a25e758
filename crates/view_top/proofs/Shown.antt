-- The state before an event of a document.
use Rattle.std.proofs.Common.{◌≡◌, inl, ℕ, ◌≤◌, List, length, refl, subst}
use Rattle.dn_base.specs.declared.ids.Shape.{Shape}
use Rattle.region_table.specs.Program.{ProgramParts}
use Rattle.text_places.specs.declared.places.Places.{Places}
use Rattle.text_places.specs.Places.{text_places}
use Rattle.message_net.specs.declared.event.Event.{Event}
use Rattle.run_replay.specs.declared.trace.Trace.{Trace}
use Rattle.state_text.specs.declared.answer.StateAnswer.{StateAnswer}
use Rattle.state_text.specs.Reached.{IsAnswerOf}
use Rattle.checked_runs.specs.Documents.{shape_told}
use Rattle.view_top.specs.declared.options.StateOptions.{StateOptions}
use Rattle.view_top.specs.declared.status.ViewStatus.{ViewStatus}
use Rattle.view_top.specs.Answers.{status_at, IsStateShown}

-- what is shown of the machine's events is shown of the document's
pub shown-in : (P : ProgramParts) (t : Trace) (o : StateOptions) (shape : Shape) (places : Places) (events : List Event) (a : StateAnswer) (s : ViewStatus) (bytes : List ℕ) → shape ≡ shape_told P t.shape
    → places ≡ text_places t.text → events ≡ t.events → o.event ≤ length t.events → IsAnswerOf P shape t.shape.fuel places events o.event a → s ≡ status_at o.event a.event → bytes ≡ a.text.items
    → IsStateShown P t o (record { status = s; bytes = bytes })
shown-in P t o shape places events a s bytes is there are within shown tells says =
    inl (record {
      within = within;
      shown = a;
      is =
          subst (λ (es : List Event). IsAnswerOf P (shape_told P t.shape) t.shape.fuel (text_places t.text) es o.event a) are
          (subst (λ (x : Places). IsAnswerOf P (shape_told P t.shape) t.shape.fuel x events o.event a) there
          (subst (λ (x : Shape). IsAnswerOf P x t.shape.fuel places events o.event a) is shown));
      answer = rw (tells, says) refl;
    })
