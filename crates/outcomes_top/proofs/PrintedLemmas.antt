-- What is printed as settled, every run has.
use Rattle.std.proofs.Common.{◌≡◌, ◌≢◌, inl, inr, ℕ, ◌+◌, zero, suc, List, [], ◌∷◌, ◌++◌, length, map, slice_index_or, Ok, Some, refl, sym, ap, ◌∙◌, subst}
use Rattle.std.proofs.lemmas.List.{append-nil}
use Rattle.dn_base.specs.declared.ids.Grant.{Grant}
use Rattle.region_table.specs.Program.{ProgramParts}
use Rattle.rv_assembler.specs.Source.{source}
use Rattle.effect_checker.specs.Checked.{IsChecked}
use Rattle.flat_machine.specs.declared.ending.FlatEnd.{FlatEnd}
use Rattle.flat_machine.specs.Ending.{flat_end}
use Rattle.message_net.specs.declared.event.Event.{Event}
use Rattle.registration_protocol.specs.Node.{Setting}
use Rattle.machine_rules.specs.State.{initial_state}
use Rattle.machine_rules.specs.Runs.{IsCompleteRun, ending_of_run}
use Rattle.machine_rules.specs.Sound.{IsReady}
use Rattle.rv_core.specs.declared.ending.Ending.{Ending}
use Rattle.run_report.specs.Answer.{answer_of}
use Rattle.common_outcomes.specs.declared.value.Kind.{Kind}
use Rattle.common_outcomes.specs.declared.value.Kind.TheVariants.{Known}
use Rattle.common_outcomes.specs.declared.value.Value.{Value}
use Rattle.common_outcomes.specs.declared.answer.Common.{Common}
use Rattle.common_outcomes.specs.declared.answer.Outcomes.{Outcomes}
use Rattle.common_outcomes.specs.declared.answer.Outcomes.TheVariants.{Settled, Open}
use Rattle.common_outcomes.specs.Values.{known}
use Rattle.common_outcomes.specs.Answer.{outcomes}
use Rattle.common_outcomes.specs.Laws.{ending_in, HasOneEnd}
use Rattle.common_outcomes.proofs.Running.{IsAnswered}
use Rattle.common_outcomes.proofs.Settling.{every-order, never-stuck}
use Rattle.common_outcomes.proofs.EveryRun.{every-run, no-stuck_run}
use Rattle.common_outcomes.proofs.OneEnd.{one-end}
use Rattle.outcomes_top.specs.declared.status.OutcomesStatus.{OutcomesStatus}
use Rattle.outcomes_top.specs.declared.status.OutcomesStatus as status
use Rattle.outcomes_top.specs.Text.{known_number, number_by, printed_ending, varies_line, varies_lines, varies_by, common_text}
use Rattle.outcomes_top.specs.Answers.{OutcomesReply, outcomes_reply, settled_reply, IsOutcomeFound, IsOutcomesAnswer, HasPrinted}

-- a text has one program
one-program : (text : List ℕ) (P Q : ProgramParts) → source text ≡ Ok P → source text ≡ Ok Q → P ≡ Q
one-program text P Q e f = cc

-- what a settled reply was made of
record IsMadeOf (P : ProgramParts) (fuel : ℕ) (out : OutcomesReply) : Type 0 where
  common : Common
  settled : outcomes P fuel ≡ Settled common
  printed : out.bytes ≡ common_text common

made-of : (P : ProgramParts) (fuel : ℕ) (out : OutcomesReply) (o : Outcomes) → outcomes P fuel ≡ o → out ≡ outcomes_reply (outcomes P fuel) → out.status ≡ status.TheVariants.Settled → IsMadeOf P fuel out
made-of P fuel out (Settled common) e is says =
    record { common = common; settled = e; printed = ap (λ (r : OutcomesReply). r.bytes) (is ∙ ap outcomes_reply e) }
made-of P fuel out (Open why) e is says =
    let other : out.status ≡ status.TheVariants.Open = ap (λ (r : OutcomesReply). r.status) (is ∙ ap outcomes_reply e) in
    let bad : status.TheVariants.Open ≡ status.TheVariants.Settled = sym other ∙ says in absurd cc

-- the text's program, and that it is checked and its answer found
pub record IsOfProgram (P : ProgramParts) (fuel : ℕ) (out : OutcomesReply) : Type 0 where
  pub checked : IsChecked P
  pub found : IsOutcomeFound P fuel out

settled-of : (fuel : ℕ) (text : List ℕ) (out : OutcomesReply) (P : ProgramParts) → IsOutcomesAnswer fuel text out → out.status ≡ status.TheVariants.Settled → source text ≡ Ok P → IsOfProgram P fuel out
settled-of fuel text out P (inl h) says of' =
    let same : h.program ≡ P = one-program text h.program P h.is of' in
    record { checked = subst IsChecked same h.checked; found = subst (λ (Q : ProgramParts). IsOutcomeFound Q fuel out) same h.holds }
settled-of fuel text out P (inr h) says of' =
    let other : out.status ≡ status.TheVariants.Refused = ap (λ (r : OutcomesReply). r.status) h.answer in
    let bad : status.TheVariants.Refused ≡ status.TheVariants.Settled = sym other ∙ says in absurd cc

pub order-printed : (fuel : ℕ) (text : List ℕ) (out : OutcomesReply) (P : ProgramParts) (gs : List Grant) (e : FlatEnd) → IsOutcomesAnswer fuel text out → out.status ≡ status.TheVariants.Settled
    → source text ≡ Ok P → flat_end P fuel gs ≡ Some e → HasPrinted out.bytes e.ending
order-printed fuel text out P gs e is says of' ends =
    let h = settled-of fuel text out P is says of' in
    let m = made-of P fuel out (outcomes P fuel) refl h.found.answer says in
    let a : IsAnswered P fuel m.common = record { program = h.found.well_formed; numbers = h.found.words; checked = h.checked; answer = m.settled } in
    record { common = m.common; printed = m.printed; has = every-order P fuel m.common gs e a ends; goes_on = never-stuck P fuel m.common gs e a ends }

pub run-printed : (text : List ℕ) (out : OutcomesReply) (C : Setting) (events : List Event) → IsOutcomesAnswer C.fuel text out → out.status ≡ status.TheVariants.Settled
    → source text ≡ Ok C.program → IsReady C → IsCompleteRun (initial_state C) events → HasPrinted out.bytes (ending_of_run (initial_state C) events)
run-printed text out C events is says of' ready complete =
    let h = settled-of C.fuel text out C.program is says of' in
    let m = made-of C.program C.fuel out (outcomes C.program C.fuel) refl h.found.answer says in
    record { common = m.common; printed = m.printed; has = every-run C events m.common ready h.found.words m.settled complete; goes_on = no-stuck_run C events m.common ready h.found.words m.settled complete }

-- ---- without locks

known-numbers : (vs : List Value) → ((w : ℕ) → (slice_index_or vs w (known 0)).kind ≡ Known) → map known_number vs ≡ map (λ (v : Value). v.number) vs
known-numbers [] h = refl
known-numbers (v ∷ vs) h =
    ap (λ (k : Kind). number_by k v.number ∷ map known_number vs) (h zero) ∙ ap (λ (ns : List ℕ). v.number ∷ ns) (known-numbers vs (λ w. h (suc w)))

none-vary : (n : ℕ) (vs : List Value) → ((w : ℕ) → (slice_index_or vs w (known 0)).kind ≡ Known) → varies_lines n vs ≡ []
unfolding varies_line
none-vary n [] h = refl
none-vary n (v ∷ vs) h = ap (λ (k : Kind). varies_by k n ++ varies_lines (n + 1) vs) (h zero) ∙ none-vary (n + 1) vs (λ w. h (suc w))

known-text : (common : Common) → ((w : ℕ) → (slice_index_or common.memory w (known 0)).kind ≡ Known) → common_text common ≡ answer_of (ending_in common)
unfolding common_text
known-text common h =
    let numbers = known-numbers common.memory h in
    let none = none-vary 0 common.memory h in
    let same : printed_ending common ≡ ending_in common = ap (λ (ns : List ℕ). the_ending ns) numbers in
    ap (λ (e : Ending). answer_of e ++ varies_lines 0 common.memory) same ∙ ap (λ (xs : List ℕ). answer_of (ending_in common) ++ xs) none ∙ append-nil (answer_of (ending_in common))
  where
    the_ending : List ℕ → Ending
    the_ending ns = record { outcome = common.outcome; tasks = common.tasks; memory = ns }

found-of : (fuel : ℕ) (text : List ℕ) (out : OutcomesReply) (P : ProgramParts) → IsOutcomesAnswer fuel text out → out.status ≢ status.TheVariants.Refused → source text ≡ Ok P → IsOfProgram P fuel out
found-of fuel text out P (inl h) says of' =
    let same : h.program ≡ P = one-program text h.program P h.is of' in
    record { checked = subst IsChecked same h.checked; found = subst (λ (Q : ProgramParts). IsOutcomeFound Q fuel out) same h.holds }
found-of fuel text out P (inr h) says of' = absurd (says (ap (λ (r : OutcomesReply). r.status) h.answer))

pub flat-printed : (fuel : ℕ) (text : List ℕ) (out : OutcomesReply) (P : ProgramParts) (e : FlatEnd) → IsOutcomesAnswer fuel text out → out.status ≢ status.TheVariants.Refused → source text ≡ Ok P
    → length P.locks ≡ 0 → flat_end P fuel [] ≡ Some e → out ≡ settled_reply (answer_of e.ending)
flat-printed fuel text out P e is says of' none ends =
    let h = found-of fuel text out P is says of' in
    let k : HasOneEnd P fuel = one-end P fuel h.found.well_formed h.found.words h.checked none in
    let same : k.end' ≡ e = some-same (sym k.run ∙ ends) in
    h.found.answer ∙ ap outcomes_reply k.settled
    ∙ ap settled_reply (known-text k.common k.known ∙ ap answer_of (sym k.ending) ∙ ap (λ (x : FlatEnd). answer_of x.ending) same)
  where
    some-same : {x y : FlatEnd} → Some x ≡ Some y → x ≡ y
    some-same s = cc
