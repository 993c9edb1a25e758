use Rattle.std.proofs.Common.{◌≡◌, ◌<◌, ℕ, false, get_or}
use Rattle.flat_machine.specs.Step.{Started}
use Rattle.flat_machine.specs.Grants.{can_take}
use Rattle.flat_machine.proofs.machine.place_of.Given as goal

abbrev pub invariant-loop-place : goal.invariant-loop-place
invariant-loop-place l = (k : ℕ) (d : Started) → k < l.place → can_take l.program l.fuel l.tasks l.given (get_or l.tasks k d) ≡ false
