-- What is kept is kept by runs, and by another order of the mails.
use Rattle.std.proofs.Common.{◌≡◌, ℕ, ◌+◌, List, [], ◌∷◌, length, refl, subst, arith}
use Rattle.message_net.specs.declared.event.Event.{Event}
use Rattle.machine_rules.specs.State.{State}
use Rattle.machine_rules.specs.Next.{next}
use Rattle.machine_rules.specs.Runs.{after, IsRun}
use Rattle.machine_rules.specs.Reordered.{IsReordered}
use Rattle.dn_machine.specs.Kept.{IsKept}
use Rattle.dn_machine.proofs.LeftLemmas.{left-reordered, kept-left}
use Rattle.dn_machine.proofs.KeptLemmas.{kept-next}

pub kept-reordered : (S T : State) (made : ℕ) → IsKept S made → IsReordered S T → IsKept T made
kept-reordered S T made kept same = kept-left T made (left-reordered S T made kept.left same)

pub kept-run : (S : State) (made : ℕ) (events : List Event) → IsKept S made → IsRun S events → IsKept (after S events) (made + length events)
kept-run S made [] kept run = subst (IsKept S) (none made) kept where
  none : (k : ℕ) → k ≡ k + 0
  none k = omega arith
kept-run S made (e ∷ es) kept run =
    let one : made + 1 + length es ≡ made + length (e ∷ es) = omega arith in
    subst (IsKept (after (next S e) es)) one (kept-run (next S e) (made + 1) es (kept-next S (next S e) made e kept run.0 refl) run.1)
