use Rattle.std.proofs.Common.{◌≡◌, ◌++◌, drop}
use Rattle.text_pieces.specs.Pieces.{space}
use Rattle.run_chart.specs.Choosing.{names_from}
use Rattle.run_chart.specs.Labels.{actor_name}
use Rattle.run_chart.specs.Places.{actor_with}
use Rattle.run_chart.proofs.choosing.push_actors.Given as goal

abbrev pub invariant-loop-index : goal.invariant-loop-index
invariant-loop-index l =
    l.out.items ++ names_from (λ i. actor_name (actor_with l.shape i)) l.before l.index (drop l.index l.marks) ≡ l.fn.out.items ++ names_from (λ i. actor_name (actor_with l.shape i)) space 0 l.marks
