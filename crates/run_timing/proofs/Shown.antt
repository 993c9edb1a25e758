-- What is printed of a network without a latency.
use Rattle.std.proofs.Common.{◌≡◌, ℕ, List, ◌++◌, None, sym, ap, ◌∙◌}
use Rattle.std.proofs.lemmas.List.{append-nil}
use Rattle.run_timing.specs.Text.{network_line}

pub nothing_shown : (xs : List ℕ) → xs ≡ xs ++ network_line None
unfolding network_line
nothing_shown xs = sym (append-nil xs)
