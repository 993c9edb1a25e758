-- After `proved inside` no run has a task that ended by a trap outside.
use Rattle.std.proofs.Common.{◌≡◌, ◌≢◌, inl, inr, ℕ, ◌==◌, Bool, false, List, [], ◌∷◌, Option, Some, None, Ok, refl, sym, ap, subst, ◌∙◌}
use Rattle.std.specs.List.{All}
use Rattle.std.proofs.lemmas.Bool.{true≢false}
use Rattle.std.proofs.lemmas.List.Elements.{All-map, All-weaker}
use Rattle.dn_base.specs.declared.ids.Grant.{Grant}
use Rattle.dn_base.specs.declared.ids.Shape.{Shape}
use Rattle.dn_base.specs.declared.status.Status as status
use Rattle.region_table.specs.Program.{ProgramParts}
use Rattle.rv_core.specs.declared.ending.EndShown as shown
use Rattle.rv_core.specs.declared.ending.Ending.{Ending}
use Rattle.rv_core.specs.declared.need.Need.{Need}
use Rattle.rv_core.specs.declared.need.Need as need
use Rattle.rv_core.specs.declared.task.End.{End}
use Rattle.rv_core.specs.declared.task.End as cause
use Rattle.rv_core.specs.declared.task.TrapKind.{TrapKind}
use Rattle.rv_core.specs.declared.task.TrapKind.TheVariants.{Outside}
use Rattle.rv_core.specs.Need.{need_of}
use Rattle.rv_assembler.specs.Source.{source}
use Rattle.effect_prover.specs.declared.proved.Proved.{Proved}
use Rattle.effect_prover.specs.declared.proved.Proved.TheVariants.{Inside, Unbounded}
use Rattle.effect_prover.specs.Answer.{IsTame, RunsInside, proved_text}
use Rattle.flat_machine.specs.declared.ending.FlatEnd.{FlatEnd}
use Rattle.flat_machine.specs.Step.{Started}
use Rattle.flat_machine.specs.Phases.{all_tasks}
use Rattle.flat_machine.specs.Ending.{flat_end, wait_shown, shown_of, task_end}
use Rattle.flat_machine.proofs.CauseLemmas.{run-ended}
use Rattle.dn_machine.specs.declared.record.RunRecord.{RunRecord}
use Rattle.dn_top.specs.declared.options.Mode.{Mode}
use Rattle.dn_top.specs.declared.output.Output.{Output}
use Rattle.dn_top.specs.Answers.{IsAnswer, IsProof, answered, done_in}
use Rattle.run_report.specs.Texts.{HasChecked}
use Rattle.dn_top.specs.Laws.{IsProvedInside, IsTameEnd, IsTameRun}
use Rattle.checked_runs.specs.Runs.{IsRunOf}

-- ---- the answer

-- whether a text begins with a `p`
abbrev begins : List ℕ → Bool
begins [] = false
begins (x ∷ xs) = x == 112

-- of the prover's answers only this one has its text
only-inside : (a : Proved) → proved_text Inside ≡ proved_text a → a ≡ Inside
unfolding proved_text
only-inside Inside e = refl
only-inside (Unbounded phase core pc) e = absurd (true≢false (ap begins e))

inside-of : (text : List ℕ) (P : ProgramParts) → IsProvedInside text → source text ≡ Ok P → RunsInside P
inside-of text P proven is = by_answer proven.answer
  where
    out : Output
    out = answered status.TheVariants.Done (proved_text Inside)

    by_answer : IsAnswer proven.options text out → RunsInside P
    by_answer (inl done) =
        let h : HasChecked text (λ (Q : ProgramParts). IsProof Q out) = subst (λ (m : Mode). done_in m proven.options text out) proven.asked done in
        let both : Ok h.program ≡ Ok P = sym h.is ∙ is in
        let same : h.program ≡ P = cc in
        subst RunsInside same (h.holds.sound (only-inside h.holds.proved (ap (λ (x : Output). x.bytes) h.holds.answer)))
    by_answer (inr refused) =
        let bad : status.TheVariants.Done ≡ status.TheVariants.SourceRefused = ap (λ (x : Output). x.status) refused.answer in absurd cc

-- ---- the run

-- a task that hasn't ended by a trap outside isn't shown so
shown-tame : (P : ProgramParts) (fuel : ℕ) (r : Started) → IsTame r.state.end → IsTameEnd (task_end P fuel r)
shown-tame P fuel r tame pc value = by_end r.state.end tame
  where
    by_need : (n : Need) → wait_shown n ≢ shown.TheVariants.Trap Outside pc value
    by_need (need.TheVariants.Acquire lock) e = cc
    by_need need.TheVariants.Local e = cc
    by_need (need.TheVariants.Load word) e = cc
    by_need (need.TheVariants.Store word whole) e = cc
    by_need (need.TheVariants.Release lock) e = cc
    by_need (need.TheVariants.End by) e = cc

    by_end : (o : Option End) → IsTame o → shown_of P fuel r o ≢ shown.TheVariants.Trap Outside pc value
    by_end None tame e = by_need (need_of P r.decl fuel r.state) e
    by_end (Some cause.TheVariants.Finished) tame e = cc
    by_end (Some cause.TheVariants.Fuel) tame e = cc
    by_end (Some (cause.TheVariants.Trap kind at bad)) tame e =
        let outside : kind ≡ Outside = cc in
        subst (λ (k : TrapKind). IsTame (Some (cause.TheVariants.Trap k at bad))) outside tame

-- so no task of a whole run on one memory has
flat-inside : (P : ProgramParts) (fuel : ℕ) (gs : List Grant) (e : FlatEnd) → RunsInside P → flat_end P fuel gs ≡ Some e → All IsTameEnd e.ending.tasks
flat-inside P fuel gs e inside is =
    let last = run-ended P fuel gs e is in
    let tasks = all_tasks last.last in
    let tame = inside fuel gs last.last last.leads in
    let all = All-weaker (λ (r : Started). IsTame r.state.end) (λ (r : Started). IsTameEnd (task_end P fuel r)) (shown-tame P fuel) tasks tame in
    subst (All IsTameEnd) (sym last.tasks) (All-map IsTameEnd (task_end P fuel) tasks all)

-- nor has one of a run of the machine, which ends as that does
pub runs-inside : (text : List ℕ) (P : ProgramParts) (machine : Shape) (fuel : ℕ) (r : RunRecord) → IsProvedInside text → source text ≡ Ok P → IsRunOf P machine fuel r → IsTameRun r
runs-inside text P machine fuel r proven is run =
    let inside = subst RunsInside (sym run.setting_is.program) (inside-of text P proven is) in
    subst (λ (e : Ending). All IsTameEnd e.tasks) run.flat.ending
    (flat-inside run.setting.program run.setting.fuel r.grants run.flat.end' inside run.flat.value)
