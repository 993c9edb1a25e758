-- What the modes check and prove print is a line of answers of the program.
use Rattle.std.proofs.Common.{◌≡◌, ℕ, zero, suc, ◌-◌, ◌/◌, ◌%◌, ◌<◌, ◌==◌, nat_le, true, ◌&&◌, List, [], ◌∷◌, length, slice_get, Option, Some, None, is_some, refl, sym, ap, subst, ◌∙◌, arith}
use Rattle.std.proofs.lemmas.Bool.{and_from, eq-eqb, le-leb, cond-true}
use Rattle.std.proofs.lemmas.Option.{none-some, slice_get_within}
use Rattle.dn_base.specs.declared.ids.CoreId.{CoreId}
use Rattle.dn_base.specs.declared.ids.PhaseId.{PhaseId}
use Rattle.region_table.specs.Program.{ProgramParts, IsProgram, tasks_of}
use Rattle.region_table.proofs.TaskLemmas.{declared-tells}
use Rattle.rv_isa.specs.declared.instr.Instr.{Instr}
use Rattle.rv_core.specs.Step.{read_instr}
use Rattle.effect_prover.specs.declared.proved.Proved.{Proved}
use Rattle.effect_prover.specs.declared.proved.Proved.TheVariants.{Inside, Unbounded}
use Rattle.effect_prover.specs.Table.{address_at, instr_of}
use Rattle.effect_prover.specs.Answer.{IsUnbounded, IsProversAnswer, proved_text}
use Rattle.run_report.specs.Summary.{checked_of}
use Rattle.text_places.specs.declared.places.Located.{Located}
use Rattle.text_places.specs.declared.places.Places.{Places}
use Rattle.text_places.proofs.LineLemmas.{all-code}
use Rattle.sentences.specs.Endings.{code_place_at}
use Rattle.explained_answer.specs.declared.line.AnswerLine as line
use Rattle.explained_answer.specs.declared.line.FixedLine as fixed
use Rattle.explained_answer.specs.Parts.{IsNumber}
use Rattle.explained_answer.specs.AnswerLines.{answer_line, place_line}
use Rattle.explained_answer.specs.Answers.{size_line}
use Rattle.explained_answer.proofs.Printed.{size-is}
use Rattle.explained_answer.specs.Lines.{IsLineOf, has_task}
use Rattle.explained_answer.specs.Explained.{IsLocated}
use Rattle.companion_laws.proofs.Ends.{number, program, has-task, phase-number, core-number}
use Rattle.companion_laws.proofs.Runs.{AreLines}
use Rattle.companion_laws.proofs.Times.{one-line}

pub some-there : {X : Type 0} (xs : List X) (i : ℕ) → i < length xs → is_some (slice_get xs i) ≡ true
some-there [] i within = absurd (omega (arith, within))
some-there (x ∷ xs) zero within = refl
some-there (x ∷ xs) (suc i) within = some-there xs i (omega (arith, within))

-- the place of an instruction is one of the code's
instr-within : (code : List ℕ) (place : ℕ) (instr : Instr) → instr_of code place ≡ Some instr → place < length code
instr-within code place instr e = by_word (slice_get code place) refl e where
  by_word : (o : Option ℕ) → slice_get code place ≡ o → read_instr o ≡ Some instr → place < length code
  by_word None is e = absurd (none-some instr e)
  by_word (Some word) is e = slice_get_within code place word is

same-inside : proved_text Inside ≡ answer_line (line.TheVariants.Fixed fixed.TheVariants.Inside)
unfolding proved_text
same-inside = refl

same-unbounded : (phase : PhaseId) (core : CoreId) (pc : ℕ) → proved_text (Unbounded phase core pc) ≡ answer_line (line.TheVariants.Unbounded phase.0 core.0 pc)
unfolding proved_text place_line
same-unbounded phase core pc = refl

module _ (text : List ℕ) (l : Located) (at' : IsLocated text l) where
  abbrev P : ProgramParts
  P = l.program

  abbrev well : IsProgram P
  well = program text l at'

  -- each code word has a place
  has-code : (place : ℕ) → place < length P.code → is_some (code_place_at l.places (address_at place)) ≡ true
  has-code place within =
      let places : length l.places.code ≡ length P.code = ap (λ (ps : Places). length ps.code) at'.places ∙ all-code text P at'.program in
      let pc = address_at place in
      let low = le-leb 4096 pc (omega arith) in
      let even = eq-eqb (pc % 4) 0 (omega arith) in
      let index : (pc - 4096) / 4 ≡ place = omega arith in
      let here = cond-true (nat_le 4096 pc && pc % 4 == 0) (slice_get l.places.code ((pc - 4096) / 4)) None (and_from (nat_le 4096 pc) (pc % 4 == 0) low even) in
      ap (λ o. is_some o) (here ∙ ap (slice_get l.places.code) index) ∙ some-there l.places.code place (omega (arith, within, places))

  unbounded-line-of : (phase core pc : ℕ) → IsUnbounded P phase core pc → IsLineOf l (line.TheVariants.Unbounded phase core pc)
  unbounded-line-of phase core pc h =
      let of = declared-tells P phase core h.decl h.task in
      let within = instr-within P.code h.place h.instr h.there in
      let most = well.code in
      record {
        fits =
            record {
              phase_from = phase-number text l at' phase of.phase of.there;
              core_from = subst IsNumber of.own (core-number text l at' phase of.phase h.decl of.there of.among);
              pc_word = omega (arith, h.address, within, most);
            };
        of =
            and_from (has_task l phase core) (is_some (code_place_at l.places pc))
            (subst (λ (c : ℕ). has_task l phase c ≡ true) of.own (has-task text l at' phase of.phase h.decl of.there of.among))
            (subst (λ (x : ℕ). is_some (code_place_at l.places x) ≡ true) (sym h.address) (has-code h.place within));
      }

  -- the mode prove
  pub proved-printed : (p : Proved) → IsProversAnswer P p → AreLines l (proved_text p)
  proved-printed Inside right = one-line l (line.TheVariants.Fixed fixed.TheVariants.Inside) (record { fits = tt; of = refl }) (proved_text Inside) same-inside
  proved-printed (Unbounded phase core pc) right =
      one-line l (line.TheVariants.Unbounded phase.0 core.0 pc) (unbounded-line-of phase.0 core.0 pc right.pair.holds) (proved_text (Unbounded phase core pc))
      (same-unbounded phase core pc)

  -- the mode check
  pub size-printed : AreLines l (checked_of P)
  size-printed =
      let few_phases = well.phases in
      let few_tasks = well.tasks in
      let few_words = well.memory in
      one-line l (size_line P)
      (record {
        fits =
            record {
              phases_from = number (length P.phases) (omega (arith, few_phases));
              tasks_from = number (length (tasks_of P.phases)) (omega (arith, few_tasks));
              words_from = number (length P.memory) (omega (arith, few_words));
            };
        of =
            and_from (length P.phases == length P.phases) (length (tasks_of P.phases) == length (tasks_of P.phases) && length P.memory == length P.memory)
            (eq-eqb (length P.phases) (length P.phases) refl)
            (and_from (length (tasks_of P.phases) == length (tasks_of P.phases)) (length P.memory == length P.memory)
            (eq-eqb (length (tasks_of P.phases)) (length (tasks_of P.phases)) refl) (eq-eqb (length P.memory) (length P.memory) refl));
      })
      (checked_of P) (size-is P)
