use Rattle.std.proofs.Common.{◌≡◌, ◌++◌, drop, take, flat_map}
use Rattle.std.specs.List.{All}
use Rattle.region_table.specs.declared.declared.Phase.{Phase}
use Rattle.rv_listing.specs.Law.{IsOfWords}
use Rattle.rv_listing.specs.Listing.{text_of, phase_lines}
use Rattle.rv_listing.proofs.writing.push_phases.Given as goal

abbrev pub invariant-loop-phase : goal.invariant-loop-phase
invariant-loop-phase l = record {
  lines : l.out.items ++ text_of (flat_map (phase_lines l.regions l.locks) (drop l.phase-index l.phases)) ≡ l.fn.out.items ++ text_of (flat_map (phase_lines l.regions l.locks) l.phases);
  words : All (λ (p : Phase). All IsOfWords p.tasks) (take l.phase-index l.phases);
}
