-- An answer for readers is that of the kept run and its text, and has each word of the memory at the end.
use Rattle.std.proofs.Common.{◌≡◌, ℕ, List, length, flat_map, slice_get, Some, Ok, refl, sym, ap, ◌∙◌}
use Rattle.std.proofs.lemmas.List.FromFn.{length-map-range_with_len}
use Rattle.dn_base.specs.declared.ids.Grant.{Grant}
use Rattle.region_table.specs.Program.{ProgramParts, AreTiled}
use Rattle.rv_assembler.specs.Source.{source}
use Rattle.rv_assembler.proofs.WellFormed.{source-well-formed}
use Rattle.registration_protocol.specs.Node.{Setting}
use Rattle.machine_rules.specs.State.{initial_state}
use Rattle.machine_rules.specs.Memory.{word_value}
use Rattle.machine_rules.specs.Runs.{after}
use Rattle.machine_rules.proofs.RunsKept.{run-setting}
use Rattle.machine_rules.proofs.OpenedFacts.{opened-setting}
use Rattle.dn_machine.specs.declared.record.RunRecord.{RunRecord}
use Rattle.run_replay.specs.declared.trace.Trace.{Trace}
use Rattle.checked_runs.specs.Documents.{IsRunTold}
use Rattle.text_places.specs.declared.places.Located.{Located}
use Rattle.text_places.specs.Places.{text_places}
use Rattle.run_report.specs.Texts.{HasProgram}
use Rattle.state_text.specs.ForReaders.{words_under, answer_for_readers}
use Rattle.state_text.specs.Words.{IsUnderItsRegion}
use Rattle.state_text.proofs.UnderRegions.{all-words, word-stands}
use Rattle.view_top.specs.Status.{Output}
use Rattle.view_top.specs.declared.documents.KeptRun.{KeptRun}
use Rattle.view_top.specs.declared.options.AnswerOptions.{AnswerOptions}
use Rattle.view_top.specs.Answers.{located, made, IsForReaders}

pub answer-is : (k : KeptRun) (o : AnswerOptions) (text : List ℕ) (grants : List Grant) (L : Located) (bytes : List ℕ) (out : Output) → text ≡ k.text → source text ≡ Ok L.program → L.places ≡ text_places text
    → grants ≡ k.run.grants → bytes ≡ answer_for_readers o.base text L k.run.ending grants → out ≡ made bytes
    → HasProgram k.text (λ P. IsForReaders (located P k.text) k.text o k.run out)
answer-is k o text grants L bytes out same is places all says answer =
    let here : L ≡ located L.program text = rw (sym places) refl in
    let named = ap (λ (x : Located). answer_for_readers o.base text x k.run.ending grants) here in
    let granted = ap (λ (gs : List Grant). answer_for_readers o.base text (located L.program text) k.run.ending gs) all in
    let of_text = ap (λ (t : List ℕ). answer_for_readers o.base t (located L.program t) k.run.ending k.run.grants) same in
    record { program = L.program; is = ap source (sym same) ∙ is; holds = answer ∙ ap made (says ∙ named ∙ granted ∙ of_text) }

-- a run ends with as many words as its program has, and its regions cover them
module _ (t : Trace) (r : RunRecord) (P : ProgramParts) (is : source t.text ≡ Ok P) (told : IsRunTold P t r) where
  ended-words : length r.ending.memory ≡ length P.memory
  ended-words =
      let C = told.is.setting in
      rw told.is.machine.is_true.ends
      (length-map-range_with_len (word_value (after (initial_state C) r.events)) 0 (length (after (initial_state C) r.events).setting.program.memory)
      ∙ ap (λ (D : Setting). length D.program.memory) (run-setting (initial_state C) r.events ∙ opened-setting C)
      ∙ ap (λ (Q : ProgramParts). length Q.memory) told.is.setting_is.program)

  covered : AreTiled 0 P.regions (length r.ending.memory)
  covered = rw ended-words (source-well-formed t.text P is).tiled

  pub each-once : flat_map (words_under r.ending.memory) P.regions ≡ r.ending.memory
  each-once = all-words r.ending.memory 0 P.regions covered

  pub each-stands : (word value : ℕ) → slice_get r.ending.memory word ≡ Some value → IsUnderItsRegion P.regions r.ending.memory word value
  each-stands word value here = word-stands P.regions r.ending.memory word value covered here
