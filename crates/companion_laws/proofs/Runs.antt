-- What is printed of a run, and of its summary, is lines of answers of its program.
use Rattle.std.proofs.Common.{◌≡◌, ℕ, suc, ◌≤◌, List, [], ◌∷◌, ◌++◌, map, flat_map, length, sum, get_or, Some, refl, sym, ap, subst, ◌∙◌, arith}
use Rattle.std.specs.List.{All}
use Rattle.std.proofs.lemmas.Grind.{flat_map-append}
use Rattle.std.proofs.lemmas.List.Elements.{All-cons, All-append, All-map}
use Rattle.std.proofs.lemmas.List.Folds.{flat_map-map}
use Rattle.std.proofs.lemmas.List.Sums.{count_by-le-length}
use Rattle.dn_base.specs.declared.ids.Grant.{Grant}
use Rattle.dn_base.specs.declared.ids.Shape.{Shape}
use Rattle.message_net.specs.declared.event.Event.{Event}
use Rattle.message_net.specs.declared.event.EventKind.{EventKind}
use Rattle.grant_log.specs.Counts.{kind_count, same_kind}
use Rattle.grant_log.proofs.TotalLemmas.{all_counted}
use Rattle.region_table.specs.Program.{ProgramParts}
use Rattle.rv_core.specs.declared.ending.Ending.{Ending}
use Rattle.flat_machine.specs.declared.ending.FlatEnd.{FlatEnd}
use Rattle.flat_machine.specs.Ending.{flat_end}
use Rattle.machine_rules.specs.State.{State, initial_state}
use Rattle.machine_rules.specs.Next.{next}
use Rattle.machine_rules.specs.Runs.{kinds_of}
use Rattle.dn_machine.specs.declared.record.RunRecord.{RunRecord}
use Rattle.run_report.specs.Answer.{answer_of}
use Rattle.run_report.specs.Grants.{grant_lines}
use Rattle.run_report.specs.Run.{all_kinds, run_text, report_of}
use Rattle.run_report.specs.Summary.{summary_of}
use Rattle.checked_runs.specs.Runs.{IsRunOf, reported, summed_up}
use Rattle.text_places.specs.declared.places.Located.{Located}
use Rattle.explained_answer.specs.declared.line.AnswerLine as line
use Rattle.explained_answer.specs.declared.line.AnswerLine.{AnswerLine}
use Rattle.explained_answer.specs.declared.line.Count as count
use Rattle.explained_answer.specs.AnswerLines.{answer_line}
use Rattle.explained_answer.specs.Answers.{ending_lines, kind_line_of, run_lines, summary_lines}
use Rattle.explained_answer.proofs.Printed.{ending-is, run-is, summary-is}
use Rattle.explained_answer.specs.Lines.{IsLineOf}
use Rattle.explained_answer.specs.Explained.{IsLocated}
use Rattle.companion_laws.proofs.Shown.{ending_seen, same-answer}
use Rattle.companion_laws.proofs.Ends.{number, grant-lines-of, ending-lines-of, summary-lines-of}

-- some bytes are lines of answers of the program
pub record AreLines (l : Located) (bytes : List ℕ) : Type 0 where
  pub lines : List AnswerLine
  pub are : All (IsLineOf l) lines
  pub is : bytes ≡ flat_map answer_line lines

-- lines, and then lines
pub lines-append : (l : Located) (xs ys : List ℕ) → AreLines l xs → AreLines l ys → AreLines l (xs ++ ys)
lines-append l xs ys h k =
    record {
      lines = h.lines ++ k.lines;
      are = All-append (IsLineOf l) h.lines k.lines h.are k.are;
      is = (λ i. h.is i ++ k.is i) ∙ sym (flat_map-append answer_line h.lines k.lines);
    }

kinds-length : (S : State) (events : List Event) → length (kinds_of S events) ≡ length events
kinds-length S [] = refl
kinds-length S (e ∷ es) = ap suc (kinds-length (next S e) es)

pub report-parts : (r : RunRecord) → reported r ≡ answer_of r.ending ++ run_text r.grants r.counts
unfolding report_of
report-parts r = refl

grants-are : (gs : List Grant) → grant_lines gs ≡ flat_map answer_line (map line.TheVariants.Grant gs)
unfolding grant_lines
grants-are gs = sym (flat_map-map answer_line line.TheVariants.Grant gs)

-- the flat machine's run by the grants of a run, of the program and the fuel
pub flat-value : (P : ProgramParts) (machine : Shape) (fuel : ℕ) (r : RunRecord) (is : IsRunOf P machine fuel r) → flat_end P fuel r.grants ≡ Some is.flat.end'
flat-value P machine fuel r is =
    ap (λ (p : ProgramParts). flat_end p fuel r.grants) (sym is.setting_is.program)
    ∙ ap (λ (n : ℕ). flat_end is.setting.program n r.grants) (sym is.setting_is.fuel)
    ∙ is.flat.value

module _ (text : List ℕ) (l : Located) (at' : IsLocated text l) (fuel : ℕ) (most : fuel ≤ 32768) where
  -- ---- by the grants of a run of the flat machine

  module _ (gs : List Grant) (e : FlatEnd) (run : flat_end l.program fuel gs ≡ Some e) where
    pub ending-printed : AreLines l (answer_of e.ending)
    ending-printed =
        record {
          lines = ending_lines (ending_seen e.ending);
          are = ending-lines-of text l at' fuel most gs e run;
          is = sym (same-answer e.ending) ∙ ending-is (ending_seen e.ending);
        }

    pub grants-printed : AreLines l (grant_lines gs)
    grants-printed = record { lines = map line.TheVariants.Grant gs; are = grant-lines-of text l at' fuel most gs e run; is = grants-are gs }

    pub summary-printed : AreLines l (summary_of e.ending)
    summary-printed = record { lines = summary_lines e.ending; are = summary-lines-of text l at' fuel most gs e run; is = summary-is e.ending }

  -- ---- the machine's run

  module _ (machine : Shape) (r : RunRecord) (is : IsRunOf l.program machine fuel r) where
    all-events : sum r.counts.kinds ≡ length r.events
    all-events =
        all_counted (kinds_of (initial_state is.setting) r.events) r.counts is.each_kind is.machine.is_true.counted ∙ kinds-length (initial_state is.setting) r.events

    kind-line : (k : EventKind) → IsLineOf l (kind_line_of r.counts k)
    kind-line k =
        let kinds = kinds_of (initial_state is.setting) r.events in
        let few = is.machine.few.most in
        let counted = is.machine.is_true.counted k in
        let within = count_by-le-length (same_kind k) kinds in
        record { fits = number (kind_count k r.counts) (omega (arith, few, counted, within, kinds-length (initial_state is.setting) r.events)); of = refl }

    pub run-lines-of : All (IsLineOf l) (run_lines r.grants r.counts)
    run-lines-of =
        let few = is.machine.few.most in
        let events = line.TheVariants.Count count.TheVariants.Events (sum r.counts.kinds) in
        let events_line : IsLineOf l events = record { fits = number (sum r.counts.kinds) (omega (arith, few, all-events)); of = refl } in
        let kinds = All-map (IsLineOf l) (kind_line_of r.counts) all_kinds (λ i d within. kind-line (get_or all_kinds i d)) in
        All-append (IsLineOf l) (map line.TheVariants.Grant r.grants) (events ∷ map (kind_line_of r.counts) all_kinds)
        (grant-lines-of text l at' fuel most r.grants is.flat.end' (flat-value l.program machine fuel r is))
        (All-cons (IsLineOf l) events (map (kind_line_of r.counts) all_kinds) events_line kinds)

    run-printed : AreLines l (run_text r.grants r.counts)
    run-printed = record { lines = run_lines r.grants r.counts; are = run-lines-of; is = run-is r.grants r.counts }

    answer-printed : AreLines l (answer_of r.ending)
    answer-printed = subst (λ (x : Ending). AreLines l (answer_of x)) is.flat.ending (ending-printed r.grants is.flat.end' (flat-value l.program machine fuel r is))

    pub report-printed : AreLines l (reported r)
    report-printed = subst (AreLines l) (sym (report-parts r)) (lines-append l (answer_of r.ending) (run_text r.grants r.counts) answer-printed run-printed)

    pub sum-printed : AreLines l (summed_up r)
    sum-printed = subst (λ (x : Ending). AreLines l (summary_of x)) is.flat.ending (summary-printed r.grants is.flat.end' (flat-value l.program machine fuel r is))
