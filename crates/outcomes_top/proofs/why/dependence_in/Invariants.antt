use Rattle.std.proofs.Common.{◌≡◌, drop}
use Rattle.outcomes_top.specs.Reasons.{dependence_among}
use Rattle.outcomes_top.proofs.why.dependence_in.Given as goal

abbrev pub invariant-loop-decl : goal.invariant-loop-decl
invariant-loop-decl l = dependence_among l.program l.fuel l.phase l.first l.core.0 (drop l.decl-index l.decl-items) ≡ dependence_among l.program l.fuel l.phase l.first l.core.0 l.decl-items
