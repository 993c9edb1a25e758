-- The lines that refuse a text, a document or command words are taken.
use Rattle.std.proofs.Common.{◌≡◌, inl, inr, ℕ, ◌==◌, Bool, true, false, ◌&&◌, List, [], ◌∷◌, ◌++◌, codes, length, Ok, Err, refl, sym, ap, subst, ◌∙◌}
use Rattle.std.specs.List.{All}
use Rattle.std.proofs.lemmas.Bool.{true≢false}
use Rattle.std.proofs.lemmas.List.{append-nil}
use Rattle.std.proofs.lemmas.List.Elements.{All-nil, All-cons}
use Rattle.text_pieces.specs.Pieces.{newline}
use Rattle.dn_base.specs.declared.status.Status as status
use Rattle.region_table.specs.Program.{ProgramParts}
use Rattle.rv_assembler.specs.declared.fault.SourceFault.{SourceFault}
use Rattle.rv_assembler.specs.Source.{source}
use Rattle.effect_checker.specs.declared.fault.CheckFault.{CheckFault}
use Rattle.effect_checker.specs.Checked.{IsChecked}
use Rattle.effect_checker.specs.Faults.{IsLeastFault}
use Rattle.run_report.specs.declared.refusal.Refusal as refusal
use Rattle.run_report.specs.Refusal.{check_text, refusal_of}
use Rattle.run_report.specs.Summary.{checked_of}
use Rattle.run_report.specs.Texts.{HasProgram, IsNoProgram, IsInConflict, IsUnfit}
use Rattle.run_timing.specs.declared.network.Net.TheVariants.{Uniform}
use Rattle.dn_top.specs.declared.options.Mode as mode
use Rattle.dn_top.specs.declared.options.Order as order
use Rattle.dn_top.specs.declared.options.Options.{Options}
use Rattle.text_places.specs.declared.places.Located.{Located}
use Rattle.dn_top.specs.declared.output.Output.{Output}
use Rattle.dn_top.specs.Answers.{IsAnswer, IsRefusal, answered}
use Rattle.explained_answer.specs.declared.line.AnswerLine.{AnswerLine}
use Rattle.explained_answer.specs.AnswerLines.{IsAnswerLine, answer_line}
use Rattle.explained_answer.proofs.OneWay.{one-way}
use Rattle.explained_answer.specs.declared.explaining.Explained.{Explained}
use Rattle.explained_answer.specs.declared.explaining.Explained.TheVariants.{Text, Refused}
use Rattle.explained_answer.specs.Lines.{IsLineOf, fits_program}
use Rattle.explained_answer.specs.Explained.{IsLocated, HasNoConflict, IsNotBeforeText, IsRefusalExplained, IsExplained, is_before_text}
use Rattle.explained_answer.proofs.Unlisted.{lines-unlisted, refusal-unlisted}
use Rattle.explained_answer.proofs.WholeAnswers.{not-listed}
use Rattle.explained_answer.proofs.AllTaken.{all-taken}
use Rattle.companion_laws.specs.Taken.{IsTaken}
use Rattle.companion_laws.proofs.Runs.{AreLines}

-- what dn_top promises of refusals: a text is refused by one line, and not if something was done with it
abbrev pub IsRefusedOnce : Type 0
IsRefusedOnce = (o : Options) (text : List ℕ) (out other : Output) → IsRefusal o text out → IsAnswer o text other → out ≡ other

-- options of the mode check
abbrev checking : Options
checking =
    record {
      mode = mode.TheVariants.Check;
      addresses = false;
      order = order.TheVariants.Seed;
      seed = 0;
      workers = 1;
      banks = 1;
      sets = 1;
      ways = 1;
      fuel = 1;
      size = 1;
      tick_core = 1;
      tick_bank = 1;
      tick_mail = 1;
      latency = 0;
      net = Uniform;
    }

pub is-taken : (e : Explained) (bytes : List ℕ) → e ≡ Text bytes → IsTaken e
is-taken e bytes is = subst IsTaken (sym is) tt

module _ (once : IsRefusedOnce) where
  -- ---- a checked program has no conflict

  refusal-by : (text line : List ℕ) → IsUnfit text line → IsRefusal checking text (answered status.TheVariants.SourceRefused line)
  refusal-by text line why = record { line = line; why = why; answer = refl }

  unfit-checked : (text line : List ℕ) (P : ProgramParts) → IsUnfit text line → source text ≡ Ok P → IsChecked P → ⊥
  unfit-checked text line P why is checked =
      let refused = answered status.TheVariants.SourceRefused line in
      let done = answered status.TheVariants.Done (checked_of P) in
      let same : refused ≡ done = once checking text refused done (refusal-by text line why) (inl (record { program = P; is = is; checked = checked; holds = refl })) in
      let both : status.TheVariants.SourceRefused ≡ status.TheVariants.Done = ap (λ (x : Output). x.status) same in
      absurd (cc)

  one-line : (text line other : List ℕ) → IsUnfit text line → IsUnfit text other → line ≡ other
  one-line text line other why also =
      ap (λ (x : Output). x.bytes)
      (once checking text (answered status.TheVariants.SourceRefused line) (answered status.TheVariants.SourceRefused other) (refusal-by text line why)
      (inr (refusal-by text other also)))

  conflict-by : (text : List ℕ) (P : ProgramParts) (fault : CheckFault) → source text ≡ Ok P → IsLeastFault P fault → IsUnfit text (refusal_of (refusal.TheVariants.Check fault))
  conflict-by text P fault is least = inr (record { program = P; is = is; holds = record { fault = fault; least = least; says = refl } })

  pub no-conflict : (text : List ℕ) (P : ProgramParts) → source text ≡ Ok P → IsChecked P → HasNoConflict P
  no-conflict text P is checked fault least =
      unfit-checked text (refusal_of (refusal.TheVariants.Check fault)) P (conflict-by text P fault is least) is checked

  -- ---- lines of a checked program

  pub lines-of-checked : (text : List ℕ) (l : Located) → IsLocated text l → IsChecked l.program → (bytes : List ℕ) → AreLines l bytes → (e : Explained) → IsExplained text bytes e → IsTaken e
  lines-of-checked text l at' checked bytes printed e h =
      is-taken e _ (all-taken text bytes l at' printed.lines printed.are printed.is (no-conflict text l.program at'.program checked) e h)

  -- ---- the line that refuses a text

  refused-line : (line sentences answer : List ℕ) (e : Explained) → answer ≡ line → IsRefusalExplained line sentences answer e → IsTaken e
  refused-line line sentences answer e is (inl h) = is-taken e _ h.1
  refused-line line sentences answer e is (inr h) = absurd (h.0 is)

  program-or_fault : (text : List ℕ) (P : ProgramParts) (fault : SourceFault) → source text ≡ Ok P → source text ≡ Err fault → ⊥
  program-or_fault text P fault e f = cc

  one-fault : (text : List ℕ) (f g : SourceFault) → source text ≡ Err f → source text ≡ Err g → f ≡ g
  one-fault text f g e h = cc

  fault-taken : (text line : List ℕ) → IsNoProgram text line → (e : Explained) → IsExplained text line e → IsTaken e
  fault-taken text line said e (inl h) =
      let same = ap (λ (f : SourceFault). refusal_of (refusal.TheVariants.Source f)) (one-fault text said.fault h.fault said.is h.is) in
      refused-line (refusal_of (refusal.TheVariants.Source h.fault)) _ line e (said.says ∙ same) h.answer_is
  fault-taken text line said e (inr (inl h)) = absurd (program-or_fault text h.located.program said.fault h.is_located.program said.is)
  fault-taken text line said e (inr (inr (inl h))) = absurd (program-or_fault text h.located.program said.fault h.is_located.program said.is)
  fault-taken text line said e (inr (inr (inr (inl h)))) = absurd (program-or_fault text h.located.program said.fault h.is_located.program said.is)
  fault-taken text line said e (inr (inr (inr (inr h)))) = absurd (program-or_fault text h.located.program said.fault h.is_located.program said.is)

  conflict-line : (fault : CheckFault) → refusal_of (refusal.TheVariants.Check fault) ≡ codes "refused " ++ (codes "check " ++ check_text fault ++ newline)
  unfolding refusal_of
  conflict-line fault = refl

  conflict-taken : (text line : List ℕ) → HasProgram text (λ P. IsInConflict P line) → (e : Explained) → IsExplained text line e → IsTaken e
  conflict-taken text line has e (inl h) = absurd (program-or_fault text has.program h.fault has.is h.is)
  conflict-taken text line has e (inr (inl h)) =
      let unlisted = refusal-unlisted text h.located line _ (has.holds.says ∙ conflict-line has.holds.fault) in
      absurd (not-listed text line h.located h.is_located unlisted h.located e h.is_located h.answer_is)
  conflict-taken text line has e (inr (inr (inl h))) =
      let other = refusal_of (refusal.TheVariants.Check h.fault) in
      refused-line other _ line e (one-line text line other (inr has) (conflict-by text h.located.program h.fault h.is_located.program h.is)) h.answer_is
  conflict-taken text line has e (inr (inr (inr (inl h)))) = absurd (unfit-checked text line h.located.program (inr has) h.is_located.program h.is_checked)
  conflict-taken text line has e (inr (inr (inr (inr h)))) = absurd (unfit-checked text line h.located.program (inr has) h.is_located.program h.is_checked)

  pub unfit-taken : (text line : List ℕ) → IsUnfit text line → (e : Explained) → IsExplained text line e → IsTaken e
  unfit-taken text line (inl said) e h = fault-taken text line said e h
  unfit-taken text line (inr has) e h = conflict-taken text line has e h

  pub no-program-taken : (text line : List ℕ) → IsNoProgram text line → (e : Explained) → IsExplained text line e → IsTaken e
  no-program-taken text line said e h = fault-taken text line said e h

  -- ---- a line for which no text was looked at

  module _ (text answer : List ℕ) (x : AnswerLine) (before : is_before_text x ≡ true) (fits : IsAnswerLine x) (any : (l : Located) → fits_program l x ≡ true) (is : answer ≡ answer_line x) where
    alone : answer ≡ answer_line x ++ []
    alone = is ∙ sym (append-nil (answer_line x))

    not-other : IsNotBeforeText answer → ⊥
    not-other (inl none) = none x [] (record { fits = fits; parts = alone })
    not-other (inr h) =
        let one = one-way x h.line [] h.rest fits h.stands.fits (sym alone ∙ h.stands.parts) in
        let same : (is_before_text x && true) ≡ false = (λ i. is_before_text (one.0 i) && length (one.1 i) == 0) ∙ h.other in
        true≢false (sym (ap (λ (b : Bool). b && true) before) ∙ same)

    other-taken : (line sentences : List ℕ) (e : Explained) → IsRefusalExplained line sentences answer e → IsTaken e
    other-taken line sentences e (inl h) = is-taken e _ h.1
    other-taken line sentences (Text out) (inr h) = tt
    other-taken line sentences (Refused number) (inr h) = not-other h.1.0

    only : (l : Located) → All (IsLineOf l) (x ∷ [])
    only l = All-cons (IsLineOf l) x [] (record { fits = fits; of = any l }) (All-nil (IsLineOf l))

    pub before-taken : (e : Explained) → IsExplained text answer e → IsTaken e
    before-taken e (inl h) = other-taken _ _ e h.answer_is
    before-taken e (inr (inl h)) =
        absurd (not-listed text answer h.located h.is_located (lines-unlisted text h.located answer x [] fits alone) h.located e h.is_located h.answer_is)
    before-taken e (inr (inr (inl h))) = other-taken _ _ e h.answer_is
    before-taken e (inr (inr (inr (inl h)))) =
        is-taken e _
        (all-taken text answer h.located h.is_located (x ∷ []) (only h.located) alone (no-conflict text h.located.program h.is_located.program h.is_checked) e
        (inr (inr (inr (inl h)))))
    before-taken e (inr (inr (inr (inr h)))) =
        is-taken e _
        (all-taken text answer h.located h.is_located (x ∷ []) (only h.located) alone (no-conflict text h.located.program h.is_located.program h.is_checked) e
        (inr (inr (inr (inr h)))))
