use Rattle.std.proofs.Common.{◌≡◌, ◌+◌, List, length, map, drop, Some, sym, ap, subst, ◌∙◌}
use Rattle.std.specs.List.{All}
use Rattle.std.proofs.lemmas.List.Elements.{All-get_or}
use Rattle.region_table.specs.declared.declared.Phase.{Phase}
use Rattle.region_table.specs.Program.{ProgramParts, IsPhase}
use Rattle.common_outcomes.specs.declared.value.Value.{Value}
use Rattle.common_outcomes.specs.Values.{known}
use Rattle.outcomes_top.specs.declared.phase.Progress.{Progress}
use Rattle.outcomes_top.specs.Reasons.{reason_in, reason_from, reason_of, reason_after}
use Rattle.outcomes_top.proofs.ReasonLemmas.{reason-step}
use Rattle.outcomes_top.proofs.why.reason_by.Goals as goal

pub go_on-requires-clause-phase : goal.go_on-requires-clause-phase
go_on-requires-clause-phase c =
    let P = c.args.program.now in
    let Is = λ (p : Phase). IsPhase (length P.memory) (length P.locks) p in
    let xs : c.as_slice-phase-items.result.now ≡ P.phases = cc in
    let h = c.a_program_is_well_formed.ensures in
    (length P.locks, subst Is (sym c.phase-item.is) (All-get_or Is c.as_slice-phase-items.result.now c.loop-number.number c.phase-item.result c.loop-number-test.true (subst (All Is) (sym xs) h.each_phase)))

pub reason_in-requires-clause-phase : goal.reason_in-requires-clause-phase
reason_in-requires-clause-phase c =
    let P = c.args.program.now in
    let Is = λ (p : Phase). IsPhase (length P.memory) (length P.locks) p in
    let xs : c.as_slice-phase-items.result.now ≡ P.phases = c.as_slice-phase-items.ensures ∙ ap (λ (x : ProgramParts). x.phases) c.program.view_is in
    let h = c.a_program_is_well_formed.ensures in
    (length P.locks, subst Is (sym c.phase-item.is) (All-get_or Is c.as_slice-phase-items.result.now c.loop-number.number c.phase-item.result c.loop-number-test.true (subst (All Is) (sym xs) h.each_phase)))

pub returns-in-Open : goal.returns-in-Open
unfolding reason_of
returns-in-Open c =
    let P = c.args.program.now in
    let fuel = c.args.fuel in
    let n = c.loop-number.number in
    let p = c.phase-item.result in
    let memory = c.go_on.new.self.memory.items in
    let left = drop (n + 1) P.phases in
    let xs : c.as_slice-phase-items.result.now ≡ P.phases = c.as_slice-phase-items.ensures ∙ ap (λ (x : ProgramParts). x.phases) c.program.view_is in
    let said : c.in_ok-reason_in-in-Open.field-0 ≡ reason_in P fuel p memory c.in-Open.open =
    c.in_ok-reason_in-in-Open.ensures ∙ ap (λ (m : List Value). reason_in P fuel p m c.in-Open.open) c.as_slice-first.ensures.value in
    ap Some said ∙ ap (λ (x : Progress). reason_after x P fuel n p left memory) (sym c.in-Open.is)
    ∙ reason-step P fuel n c.as_slice-phase-items.result.now p c.in_ok-open.field-0 c.loop-number.now.memory.items memory (reason_from P fuel 0 P.phases (map known P.memory)) xs c.loop-number-test.true c.phase-item.is
    c.in_ok-open.ensures.reason c.loop-number.invariant.leads

pub returns-in-Over : goal.returns-in-Over
unfolding reason_of
returns-in-Over c =
    let P = c.args.program.now in
    let fuel = c.args.fuel in
    let n = c.loop-number.number in
    let p = c.phase-item.result in
    let memory = c.go_on.new.self.memory.items in
    let xs : c.as_slice-phase-items.result.now ≡ P.phases = c.as_slice-phase-items.ensures ∙ ap (λ (x : ProgramParts). x.phases) c.program.view_is in
    ap (λ (x : Progress). reason_after x P fuel n p (drop (n + 1) P.phases) memory) (sym c.in-Over.is)
    ∙ reason-step P fuel n c.as_slice-phase-items.result.now p c.in_ok-open.field-0 c.loop-number.now.memory.items memory (reason_from P fuel 0 P.phases (map known P.memory)) xs c.loop-number-test.true c.phase-item.is
    c.in_ok-open.ensures.reason c.loop-number.invariant.leads

pub loop-number-preserved : goal.loop-number-preserved
loop-number-preserved c =
    let P = c.args.program.now in
    let fuel = c.args.fuel in
    let n = c.loop-number.number in
    let p = c.phase-item.result in
    let memory = c.go_on.new.self.memory.items in
    let xs : c.as_slice-phase-items.result.now ≡ P.phases = c.as_slice-phase-items.ensures ∙ ap (λ (x : ProgramParts). x.phases) c.program.view_is in
    record {
      leads = ap (λ (x : Progress). reason_after x P fuel n p (drop (n + 1) P.phases) memory) (sym c.in-Goes.is)
          ∙ reason-step P fuel n c.as_slice-phase-items.result.now p c.in_ok-open.field-0 c.loop-number.now.memory.items memory (reason_from P fuel 0 P.phases (map known P.memory)) xs c.loop-number-test.true c.phase-item.is
          c.in_ok-open.ensures.reason c.loop-number.invariant.leads;
      words = c.in_ok-open.ensures.words;
    }
