use Rattle.std.proofs.Common.{◌≡◌, List, length, map}
use Rattle.host_workers.specs.Steps.{Done}
use Rattle.host_workers.specs.Ends.{AreEndsOf, left_of}
use Rattle.host_workers.proofs.EndsLeft.{IsOnTheWay}
use Rattle.host_workers.proofs.ends.ends_in.Given as goal

abbrev pub invariant-loop-entry : goal.invariant-loop-entry
invariant-loop-entry l = record {
  long : length l.done.items ≡ length l.ends;
  way : (told : List Done) → AreEndsOf l.merged (map (λ e. e.items) l.ends) told
      → IsOnTheWay (map (λ e. e.items) l.ends) (left_of (map (λ e. e.items) l.ends) l.done.items) told l.entry-index l.out.items;
}
