-- A state of the machine is known by its actors, with their numbers, and by the mails in flight.
use Rattle.std.proofs.Common.{◌≡◌, ℕ, ◌+◌, ◌-◌, ◌<◌, Bool, true, false, nat_lt, length, get_or, slice_get, slice_index, Option, Some, None, refl, sym, ap, subst, ◌∙◌, arith}
use Rattle.std.proofs.lemmas.List.{ext_get_or}
use Rattle.std.proofs.lemmas.Bool.Decides.{nat_tests}
use Rattle.message_net.specs.declared.actor.Actor.{Actor}
use Rattle.message_net.specs.declared.actor.Actor.TheVariants.{Keeper}
use Rattle.message_net.specs.Mail.{actor_index}
use Rattle.registry_bank.specs.Bank.{BankParts}
use Rattle.phase_barrier.specs.Barrier.{Barrier}
use Rattle.registration_protocol.specs.Node.{NodeParts, Setting}
use Rattle.machine_rules.specs.State.{State}
use Rattle.host_workers.specs.Members.{ActorParts, NodeIs, BankIs, KeeperIs, Member, member, node_there, bank_there, IsIn}
use Rattle.host_workers.specs.Rounds.{core_at, bank_at}
use Rattle.host_workers.proofs.Mapped.{same-places}
use Rattle.host_workers.proofs.Numbers.{is-below}

-- the node, the bank or the keeper of an actor
abbrev node_back : ActorParts → Option NodeParts
node_back (NodeIs n) = Some n
node_back _ = None

abbrev bank_back : ActorParts → Option BankParts
bank_back (BankIs b) = Some b
bank_back _ = None

abbrev keeper_back : Barrier → ActorParts → Barrier
keeper_back d (KeeperIs k) = k
keeper_back d _ = d

node-back : (o : Option NodeParts) → node_back (node_there o) ≡ o
node-back None = refl
node-back (Some n) = refl

bank-back : (o : Option BankParts) → bank_back (bank_there o) ≡ o
bank-back None = refl
bank-back (Some b) = refl

node-of : (S : State) (i : ℕ) → node_back (member S (core_at i)).parts ≡ slice_get S.nodes i
unfolding member
node-of S i = node-back (slice_get S.nodes i)

bank-of : (S : State) (i : ℕ) → bank_back (member S (bank_at i)).parts ≡ slice_get S.banks i
unfolding member
bank-of S i = bank-back (slice_get S.banks i)

keeper-of : (S : State) (d : Barrier) → keeper_back d (member S Keeper).parts ≡ S.keeper
unfolding member
keeper-of S d = refl

number-at : (C : Setting) (S : State) (a : Actor) → S.setting ≡ C → (member S a).next ≡ slice_index S.numbers (actor_index C.shape.cores C.shape.banks a)
unfolding member
number-at C S a is = ap (λ (D : Setting). slice_index S.numbers (actor_index D.shape.cores D.shape.banks a)) is

pub same-states : (C : Setting) (E T : State) → E.setting ≡ C → T.setting ≡ C → length E.nodes ≡ C.shape.cores → length T.nodes ≡ C.shape.cores → length E.banks ≡ C.shape.banks → length T.banks ≡ C.shape.banks
    → length E.numbers ≡ C.shape.cores + C.shape.banks + 1 → length T.numbers ≡ C.shape.cores + C.shape.banks + 1
    → ((a : Actor) → IsIn C a → member E a ≡ member T a) → T ≡ record E { mails = T.mails }
same-states C E T eset tset enodes tnodes ebanks tbanks enumbers tnumbers same =
    let setting : T.setting ≡ E.setting = tset ∙ sym eset in
    let keeper : T.keeper ≡ E.keeper = sym (keeper-of T T.keeper) ∙ (ap (λ (x : Member). keeper_back T.keeper x.parts) (sym (same Keeper refl)) ∙ keeper-of E T.keeper) in
    let nodes = nodes_same in
    let banks = banks_same in
    let numbers = numbers_same in
    λ j. record { setting = setting j; nodes = nodes j; banks = banks j; keeper = keeper j; mails = T.mails; numbers = numbers j }
  where
    nodes_same : T.nodes ≡ E.nodes
    nodes_same = same-places T.nodes E.nodes (tnodes ∙ sym enodes) (λ i within.
        sym (node-of T i) ∙ (ap (λ (x : Member). node_back x.parts) (sym (same (core_at i) (is-below i C.shape.cores (omega (arith, within, tnodes))))) ∙ node-of E i))

    banks_same : T.banks ≡ E.banks
    banks_same = same-places T.banks E.banks (tbanks ∙ sym ebanks) (λ i within.
        sym (bank-of T i) ∙ (ap (λ (x : Member). bank_back x.parts) (sym (same (bank_at i) (is-below i C.shape.banks (omega (arith, within, tbanks))))) ∙ bank-of E i))

    number-same : (a : Actor) → IsIn C a → slice_index T.numbers (actor_index C.shape.cores C.shape.banks a) ≡ slice_index E.numbers (actor_index C.shape.cores C.shape.banks a)
    number-same a inside = sym (number-at C T a tset) ∙ (ap (λ (x : Member). x.next) (sym (same a inside)) ∙ number-at C E a eset)

    at : (i : ℕ) → i < length T.numbers → get_or T.numbers i 0 ≡ get_or E.numbers i 0
    at i within = by_core (nat_lt i C.shape.cores) refl where
      by_bank : (t : Bool) → nat_lt i C.shape.cores ≡ false → nat_lt i (C.shape.cores + C.shape.banks) ≡ t → get_or T.numbers i 0 ≡ get_or E.numbers i 0
      by_bank true past e =
          let place : C.shape.cores + (i - C.shape.cores) ≡ i = grind (arith, nat_tests, past) in
          let small : nat_lt (i - C.shape.cores) C.shape.banks ≡ true = grind (arith, nat_tests, past, e) in
          subst (λ k. get_or T.numbers k 0 ≡ get_or E.numbers k 0) place (number-same (bank_at (i - C.shape.cores)) small)
      by_bank false past e =
          let place : C.shape.cores + C.shape.banks ≡ i = grind (arith, nat_tests, e, within, tnumbers) in
          subst (λ k. get_or T.numbers k 0 ≡ get_or E.numbers k 0) place (number-same Keeper refl)

      by_core : (t : Bool) → nat_lt i C.shape.cores ≡ t → get_or T.numbers i 0 ≡ get_or E.numbers i 0
      by_core true e = number-same (core_at i) e
      by_core false e = by_bank (nat_lt i (C.shape.cores + C.shape.banks)) e refl

    numbers_same : T.numbers ≡ E.numbers
    numbers_same = ext_get_or 0 T.numbers E.numbers (tnumbers ∙ sym enumbers) at
