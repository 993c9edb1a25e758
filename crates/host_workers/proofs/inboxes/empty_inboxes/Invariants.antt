use Rattle.std.proofs.Common.{◌≡◌, [], map}
use Rattle.std.specs.List.{range_with_len}
use Rattle.host_workers.proofs.inboxes.empty_inboxes.Given as goal

abbrev pub invariant-loop-place : goal.invariant-loop-place
invariant-loop-place l =
    map (λ v. v.items) l.inboxes.items ≡ map (λ i. []) (range_with_len 0 l._place)
