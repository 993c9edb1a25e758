use Rattle.std.proofs.Common.{◌≡◌, Bool, true, false, Ok, refl, ap}
use Rattle.flat_machine.proofs.GrantLemmas.{next-legal}
use Rattle.flat_machine.proofs.machine.Machine.grant_next.Goals as goal

is-true : (b : Bool) → (b ≡ false → ⊥) → b ≡ true
is-true true h = refl
is-true false h = absurd (h refl)

pub returns-clause-value : goal.returns-clause-value
returns-clause-value c =
    let legal = is-true c.in_ok-_legal._legal (λ e. next-legal c.args.program.now c.args.fuel c.args.self.now c.args.next c.requires.next (c.in_ok-_legal.ensures.illegal (ap Ok e))) in
    c.in_ok-_legal.ensures.legal (ap Ok legal)

pub returns-clause-work : goal.returns-clause-work
returns-clause-work c =
    let legal = is-true c.in_ok-_legal._legal (λ e. next-legal c.args.program.now c.args.fuel c.args.self.now c.args.next c.requires.next (c.in_ok-_legal.ensures.illegal (ap Ok e))) in
    c.in_ok-_legal.ensures.work (ap Ok legal)
