-- What the calls of a machine may count on.
use Rattle.std.proofs.Common.{◌≡◌, ℕ, ◌+◌, ◌*◌, ◌<◌, ◌≤◌, Bool, true, false, sym, subst, arith}
use Rattle.std.proofs.Math.Nat.{mul-le-mul}
use Rattle.message_net.specs.declared.event.Event.{Event}
use Rattle.phase_barrier.specs.Barrier.{all_arrived}
use Rattle.machine_rules.specs.State.{State}
use Rattle.machine_rules.specs.Next.{next, enabled, actor_index_in}
use Rattle.machine_rules.specs.Flight.{bit}
use Rattle.machine_rules.specs.Sound.{rounds}
use Rattle.machine_rules.proofs.MachineMails.{unused}
use Rattle.dn_machine.specs.Content.{IsWhole}
use Rattle.dn_machine.specs.Kept.{IsKept}
use Rattle.dn_machine.proofs.LeftLemmas.{left-next, kept-left}

bit-most : (b : Bool) → bit b ≤ 1
bit-most true = omega arith
bit-most false = omega arith

few-rounds : (S : State) (made : ℕ) → IsKept S made → S.setting.shape.cores * rounds S ≤ 1040
few-rounds S made kept =
    let few : rounds S ≤ 65 = omega (arith, kept.sound.within, kept.left.ready.program.phases, bit-most (all_arrived S.keeper)) in
    mul-le-mul kept.most few

pub whole-kept : (S : State) (made : ℕ) → IsKept S made → made < 4000000000 → IsWhole S
whole-kept S made kept few =
    let letters = few-rounds S made kept in
    record {
      context = kept.left.ready.context;
      cores = kept.sound.machine.nodes;
      some = kept.some;
      most = kept.most;
      banks = kept.sound.machine.banks;
      numbers = kept.sound.machine.numbers;
      fits = λ core n here. (kept.sound.machine.node core n here).fits;
      sends =
          record {
            room = omega (arith, kept.sound.mails, kept.most, letters, few);
            few = λ place. omega (arith, kept.sound.sent place, kept.most, letters, few);
            fresh = λ from number least. unused (actor_index_in S) S.numbers S.mails from number kept.sound.machine.numbered least;
          };
    }

pub kept-next : (S T : State) (made : ℕ) (e : Event) → IsKept S made → enabled S e ≡ true → T ≡ next S e → IsKept T (made + 1)
kept-next S T made e kept may is =
    subst (λ (U : State). IsKept U (made + 1)) (sym is) (kept-left (next S e) (made + 1) (left-next S made e kept.left may))
