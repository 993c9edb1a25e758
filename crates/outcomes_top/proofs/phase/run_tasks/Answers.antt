use Rattle.std.proofs.Common.{◌≡◌, ◌+◌, [], ◌∷◌, ◌++◌, List, map, take, drop, get_or, sym, ap, ◌∙◌, subst, rules}
use Rattle.std.proofs.lemmas.List.{map_more, drop_all}
use Rattle.region_table.specs.declared.declared.TaskDecl.{TaskDecl}
use Rattle.common_outcomes.specs.declared.value.Cell.{Cell}
use Rattle.common_outcomes.specs.Values.{joined_effect}
use Rattle.common_outcomes.specs.Alone.{Alone, cell_at}
use Rattle.common_outcomes.specs.Phases.{Summary, summary, summaries}
use Rattle.outcomes_top.specs.Effects.{effect_at, without_words, outline_alone}
use Rattle.outcomes_top.proofs.PhaseLemmas.{Leads, none-leads, task-leads, all-lead}
use Rattle.outcomes_top.proofs.phase.run_tasks.Goals as goal

pub loop-decl-init : goal.loop-decl-init
loop-decl-init c = record {
  value = search rules;
  words = search rules;
  leads = subst (λ (ts : List TaskDecl). Leads (summaries c.args.program.now c.args.fuel c.args.phase.now c.args.first.now) (map (summary c.args.program.now c.args.fuel c.args.phase.now c.args.first.now) ts) c.args.effects.now)
      (sym c.as_slice-decl-items.ensures) (none-leads (summaries c.args.program.now c.args.fuel c.args.phase.now c.args.first.now) c.args.effects.now c.requires.none);
}

pub loop-decl-preserved : goal.loop-decl-preserved
loop-decl-preserved c =
    let P = c.args.program.now in
    let fuel = c.args.fuel in
    let p = c.args.phase.now in
    let first = c.args.first.now in
    let items = c.as_slice-decl-items.result.now in
    let k = c.loop-decl.decl-index in
    let d = c.decl-item.result in
    let task : c.in_ok-task.task ≡ (summary P fuel p first d).alone = c.in_ok-task.ensures.value in
    let made : c.outline.result ≡ outline_alone P fuel p first d = c.outline.ensures ∙ ap (λ (a : Alone). without_words (record { decl = d; alone = a })) task in
    let here : outline_alone P fuel p first d ≡ outline_alone P fuel p first (get_or items k d) = ap (outline_alone P fuel p first) c.decl-item.is in
    let more : map (outline_alone P fuel p first) (take (k + 1) items) ≡ map (outline_alone P fuel p first) (take k items) ++ outline_alone P fuel p first (get_or items k d) ∷ [] = map_more (outline_alone P fuel p first) items k d c.loop-decl-test.true in
    record {
      value = c.in_ok-push.ensures.items ∙ ap (λ (xs : List Summary). xs ++ c.outline.result ∷ []) c.loop-decl.invariant.value
          ∙ ap (λ (x : Summary). map (outline_alone P fuel p first) (take k items) ++ x ∷ []) (made ∙ here) ∙ sym more;
      words = c.join_all.ensures.words ∙ c.loop-decl.invariant.words;
      leads = task-leads P fuel p first items k d c.loop-decl.effects c.join_all.new.effects c.loop-decl-test.true c.decl-item.is c.join_all.ensures.words
          (λ w low. c.join_all.ensures.each w low ∙ ap (λ (cells : List Cell). joined_effect (effect_at c.loop-decl.effects w) (cell_at cells w).effect) c.cells.ensures
          ∙ ap (λ (a : Alone). joined_effect (effect_at c.loop-decl.effects w) (cell_at a.cells w).effect) task) c.loop-decl.invariant.leads;
    }

pub returns-clause-effects : goal.returns-clause-effects
returns-clause-effects c =
    let P = c.args.program.now in
    let fuel = c.args.fuel in
    let p = c.args.phase.now in
    let first = c.args.first.now in
    let items = c.as_slice-decl-items.result.now in
    let none : drop c.loop-decl.decl-index items ≡ [] = drop_all c.loop-decl.decl-index items c.loop-decl-test.false in
    all-lead (summaries P fuel p first) c.loop-decl.effects
    (subst (λ (ts : List TaskDecl). Leads (summaries P fuel p first) (map (summary P fuel p first) ts) c.loop-decl.effects) none c.loop-decl.invariant.leads)
