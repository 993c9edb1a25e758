-- The content of a machine as a run begins.
use Rattle.std.proofs.Common.{◌≡◌, ℕ, ◌+◌, List, [], length, map, replicate, slice_get, Some, refl, sym, subst}
use Rattle.std.specs.List.{range_with_len}
use Rattle.region_table.specs.Program.{IsProgram}
use Rattle.effect_checker.specs.Checked.{IsChecked}
use Rattle.registration_protocol.specs.Node.{NodeParts, Setting, initial_node}
use Rattle.registration_protocol.specs.Fit.{IsContext, Fits}
use Rattle.message_net.specs.declared.message.Mail.{Mail}
use Rattle.registry_bank.specs.Bank.{BankParts, initial_bank}
use Rattle.phase_barrier.specs.Barrier.{Barrier, initial_barrier}
use Rattle.machine_rules.specs.State.{State, initial_state}
use Rattle.machine_rules.specs.Sound.{IsReady}
use Rattle.machine_rules.proofs.OpenedSound.{opened-machine}
use Rattle.machine_rules.proofs.AnySize.{well-formed}
use Rattle.dn_machine.specs.Kept.{IsKept}
use Rattle.dn_machine.proofs.LeftLemmas.{left-first, kept-left}

pub opened-from : (C : Setting) (nodes : List NodeParts) (banks : List BankParts) (keeper : Barrier) (mails : List Mail) (numbers memory : List ℕ) (locks phases : ℕ) → memory ≡ C.program.memory → locks ≡ length C.program.locks → phases ≡ length C.program.phases
    → nodes ≡ map (initial_node C) (range_with_len 0 C.shape.cores) → banks ≡ map (λ (bank : ℕ). initial_bank bank C.shape.banks C.shape.cores memory locks) (range_with_len 0 C.shape.banks) → keeper ≡ initial_barrier C.shape.cores phases → mails ≡ [] → numbers ≡ replicate (C.shape.cores + C.shape.banks + 1) 0
    → record { setting = C; nodes = nodes; banks = banks; keeper = keeper; mails = mails; numbers = numbers } ≡ initial_state C
unfolding initial_state
opened-from C nodes banks keeper mails numbers memory locks phases m l p ns bs k ms ks = rw (ns, bs, k, ms, ks, m, l, p) refl

pub opened-nodes-fit : (C : Setting) → IsContext C → IsProgram C.program → IsChecked C.program → (core : ℕ) (n : NodeParts) → slice_get (map (initial_node C) (range_with_len 0 C.shape.cores)) core ≡ Some n → Fits C n
unfolding initial_state
opened-nodes-fit C context program checked core n here =
    let well = well-formed C (record { context = context; program = program; checked = checked }) in
    ((opened-machine C well.context well.program well.checked).node core n here).fits

pub kept-first : (C : Setting) → IsReady C → IsKept (initial_state C) 0
kept-first C ready = kept-left (initial_state C) 0 (left-first C ready)

pub kept-opened : (C : Setting) (S : State) → IsReady C → S ≡ initial_state C → IsKept S 0
kept-opened C S ready is = subst (λ (T : State). IsKept T 0) (sym is) (kept-first C ready)
