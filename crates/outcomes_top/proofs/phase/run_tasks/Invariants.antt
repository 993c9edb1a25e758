use Rattle.std.proofs.Common.{◌≡◌, map, take, drop, length}
use Rattle.common_outcomes.specs.Phases.{summary, summaries}
use Rattle.outcomes_top.specs.Effects.{outline_alone}
use Rattle.outcomes_top.proofs.PhaseLemmas.{Leads}
use Rattle.outcomes_top.proofs.phase.run_tasks.Given as goal

abbrev pub invariant-loop-decl : goal.invariant-loop-decl
invariant-loop-decl l = record {
  value : l.all.items ≡ map (outline_alone l.program l.fuel l.phase l.first) (take l.decl-index l.decl-items);
  words : length l.effects ≡ length l.initial.effects;
  leads : Leads (summaries l.program l.fuel l.phase l.first) (map (summary l.program l.fuel l.phase l.first) (drop l.decl-index l.decl-items)) l.effects;
}
