use Rattle.std.proofs.Common.{◌≡◌, ◌++◌, drop, flat_map}
use Rattle.region_table.specs.declared.declared.TaskDecl.{TaskDecl}
use Rattle.common_outcomes.specs.Phases.{setup}
use Rattle.outcomes_top.specs.Reasons.{takings_of}
use Rattle.outcomes_top.proofs.why.takings_in.Given as goal

abbrev pub invariant-loop-decl : goal.invariant-loop-decl
invariant-loop-decl l =
    l.takings.items ++ flat_map (λ (d : TaskDecl). takings_of (setup l.program l.fuel l.phase l.first d)) (drop l.decl-index l.decl-items)
    ≡ flat_map (λ (d : TaskDecl). takings_of (setup l.program l.fuel l.phase l.first d)) l.decl-items
