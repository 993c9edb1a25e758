-- What each node keeps: its phase is one of the program's, and it knows words of the memory alone.
use Rattle.std.proofs.Common.{◌≡◌, ℕ, ◌+◌, ◌<◌, Bool, true, false, cond, length, slice_get, Option, Some, None, refl, sym, ap, subst, ◌∙◌, arith}
use Rattle.std.specs.Prelude.{◌&&◌, ◌==◌, not, nat_lt}
use Rattle.std.proofs.lemmas.Bool.Decides.{nat_tests}
use Rattle.dn_base.specs.declared.ids.WordId.{WordId}
use Rattle.message_net.specs.declared.actor.Actor.{Actor}
use Rattle.message_net.specs.declared.actor.Actor.TheVariants.{Core, Bank, Keeper}
use Rattle.message_net.specs.declared.actor.MailId.{MailId}
use Rattle.message_net.specs.declared.event.Event.{Event}
use Rattle.message_net.specs.declared.event.Event.TheVariants.{Instr, Evict, Arrive, Handle}
use Rattle.message_net.specs.declared.message.Mail.{Mail}
use Rattle.message_net.specs.declared.message.Message as message
use Rattle.message_net.specs.declared.message.Message.{Message}
use Rattle.message_net.specs.declared.message.Outgoing.{Outgoing}
use Rattle.registry_bank.specs.Bank.{BankParts}
use Rattle.registration_protocol.specs.Node.{NodeParts, Setting}
use Rattle.registration_protocol.specs.OwnEvents.{may_instr, may_evict, may_arrive, instructed, evicted, arrives}
use Rattle.registration_protocol.specs.Messages.{node_gets, becomes, begins}
use Rattle.registration_protocol.specs.Changes.{KeepsPhase}
use Rattle.registration_protocol.proofs.PhaseLemmas.{instr-phase, evict-keeps, gets-phase}
use Rattle.machine_rules.specs.State.{State, initial_state}
use Rattle.machine_rules.specs.Next.{next, enabled, when_there}
use Rattle.machine_rules.proofs.Steps.{NodeStep, Handled, handled, instr-step, evict-step, arrive-step, core-step, bank-step, keeper-step}
use Rattle.machine_rules.proofs.OpenedFacts.{opened-node, opened-setting}
use Rattle.run_account.proofs.Known.{KnowsWords, AllNodes, instr-about, evicted-knows, gets-knows}

-- ---- what each node keeps at its events is kept by all of them at each event

-- what a node keeps at each of its events
pub record StaysAt (Q : Setting → NodeParts → Type 0) : Type 0 where
  pub instr : (C : Setting) (n : NodeParts) → Q C n → Q C (instructed C n).0
  pub evict : (C : Setting) (n : NodeParts) (word : WordId) → Q C n → Q C (evicted C n word).0
  pub arrive : (C : Setting) (n : NodeParts) → Q C n → Q C (arrives n).0
  pub gets : (C : Setting) (n : NodeParts) (m : Message) → Q C n → Q C (node_gets C n m).0

module _ (Q : Setting → NodeParts → Type 0) where
  node-kept : (S T : State) (core : ℕ) (n m : NodeParts) (left sent : Option Outgoing) → NodeStep S T core n m left sent → Q S.setting m → AllNodes Q S → AllNodes Q T
  node-kept S T core n m left sent step kept all d k found = by_test (core == d) refl where
    here : Setting → Type 0
    here C = Q C k

    by_test : (t : Bool) → (core == d) ≡ t → Q T.setting k
    by_test true e =
        let now : slice_get T.nodes d ≡ Some m = rw e at (step.nodes d) in
        let same : m ≡ k = one (sym now ∙ found) in
        subst here (sym step.setting) (subst (Q S.setting) same kept)
      where
        one : Some m ≡ Some k → m ≡ k
        one e = cc
    by_test false e =
        let now : slice_get T.nodes d ≡ slice_get S.nodes d = rw e at (step.nodes d) in
        subst here (sym step.setting) (all d k (sym now ∙ found))

  -- a state with the same nodes
  nodes-kept : (S T : State) → T.setting ≡ S.setting → T.nodes ≡ S.nodes → AllNodes Q S → AllNodes Q T
  nodes-kept S T setting nodes all d k found =
      subst (λ (C : Setting). Q C k) (sym setting) (all d k (ap (λ (ns : _). slice_get ns d) (sym nodes) ∙ found))

-- a mail to nobody
lost-core : (S : State) (id : MailId) (m : Mail) (core : _) → Handled S id m → m.to ≡ Core core → slice_get S.nodes core.0 ≡ None
    → ((next S (Handle id)).setting ≡ S.setting) × ((next S (Handle id)).nodes ≡ S.nodes)
unfolding next
lost-core S id m core h to none = rw (h.took, to, none) (refl, refl)

lost-bank : (S : State) (id : MailId) (m : Mail) (bank : _) → Handled S id m → m.to ≡ Bank bank → slice_get S.banks bank.0 ≡ None
    → ((next S (Handle id)).setting ≡ S.setting) × ((next S (Handle id)).nodes ≡ S.nodes)
unfolding next
lost-bank S id m bank h to none = rw (h.took, to, none) (refl, refl)

pub next-kept : (Q : Setting → NodeParts → Type 0) → StaysAt Q → (S : State) (e : Event) → enabled S e ≡ true → AllNodes Q S → AllNodes Q (next S e)
unfolding enabled
next-kept Q stays S (Instr core) may all = by_node (slice_get S.nodes core.0) refl may where
  by_node : (there : Option NodeParts) → slice_get S.nodes core.0 ≡ there → when_there (may_instr S.setting) there ≡ true → AllNodes Q (next S (Instr core))
  by_node None found on = absurd (cc)
  by_node (Some n) found on =
      node-kept Q S (next S (Instr core)) core.0 n (instructed S.setting n).0 None (instructed S.setting n).1.sent (instr-step S core n found)
      (stays.instr S.setting n (all core.0 n found)) all
next-kept Q stays S (Evict core word) may all = by_node (slice_get S.nodes core.0) refl may where
  by_node : (there : Option NodeParts) → slice_get S.nodes core.0 ≡ there → when_there (λ (n : NodeParts). may_evict S.setting n word.0) there ≡ true → AllNodes Q (next S (Evict core word))
  by_node None found on = absurd (cc)
  by_node (Some n) found on =
      node-kept Q S (next S (Evict core word)) core.0 n (evicted S.setting n word).0 None (evicted S.setting n word).1 (evict-step S core word n found)
      (stays.evict S.setting n word (all core.0 n found)) all
next-kept Q stays S (Arrive core) may all = by_node (slice_get S.nodes core.0) refl may where
  by_node : (there : Option NodeParts) → slice_get S.nodes core.0 ≡ there → when_there may_arrive there ≡ true → AllNodes Q (next S (Arrive core))
  by_node None found on = absurd (cc)
  by_node (Some n) found on = node-kept Q S (next S (Arrive core)) core.0 n (arrives n).0 None (arrives n).1 (arrive-step S core n found) (stays.arrive S.setting n (all core.0 n found)) all
next-kept Q stays S (Handle id) may all = by_mail (handled S id may) where
  by_core : (m : Mail) (core : _) (there : Option NodeParts) → Handled S id m → m.to ≡ Core core → slice_get S.nodes core.0 ≡ there → AllNodes Q (next S (Handle id))
  by_core m core None h to found = let lost = lost-core S id m core h to found in nodes-kept Q S (next S (Handle id)) lost.0 lost.1 all
  by_core m core (Some n) h to found =
      node-kept Q S (next S (Handle id)) core.0 n (node_gets S.setting n m.message).0 _ _ (core-step S id m core n h to found)
      (stays.gets S.setting n m.message (all core.0 n found)) all

  by_bank : (m : Mail) (bank : _) (there : Option BankParts) → Handled S id m → m.to ≡ Bank bank → slice_get S.banks bank.0 ≡ there → AllNodes Q (next S (Handle id))
  by_bank m bank None h to found = let lost = lost-bank S id m bank h to found in nodes-kept Q S (next S (Handle id)) lost.0 lost.1 all
  by_bank m bank (Some b) h to found = let step = bank-step S id m bank b h to found in nodes-kept Q S (next S (Handle id)) step.setting step.nodes all

  by_actor : (m : Mail) (to : Actor) → Handled S id m → m.to ≡ to → AllNodes Q (next S (Handle id))
  by_actor m (Core core) h to = by_core m core (slice_get S.nodes core.0) h to refl
  by_actor m (Bank bank) h to = by_bank m bank (slice_get S.banks bank.0) h to refl
  by_actor m Keeper h to = let step = keeper-step S id m h to in nodes-kept Q S (next S (Handle id)) step.setting step.nodes all

  by_mail : (m : Mail) × Handled S id m → AllNodes Q (next S (Handle id))
  by_mail (m, h) = by_actor m m.to h refl

-- ---- phases

-- a node's phase is one of the program's
abbrev pub IsPhased : Setting → NodeParts → Type 0
IsPhased C n = n.phase < length C.program.phases

same-phase : (C : Setting) (n m : NodeParts) → KeepsPhase n m → IsPhased C n → IsPhased C m
same-phase C n m kept phased = subst (λ (p : ℕ). p < length C.program.phases) (sym kept.phase) phased

gone-on : (C : Setting) (n : NodeParts) (phase : ℕ) (t : Bool) → (n.arrived && not n.halted && (phase == n.phase + 1) && nat_lt phase (length C.program.phases)) ≡ t → IsPhased C n
    → IsPhased C (cond t (becomes (begins C n phase)) (becomes n)).0
gone-on C n phase true goes phased = last (n.arrived && not n.halted && (phase == n.phase + 1)) (nat_lt phase (length C.program.phases)) refl goes where
  last : (a t : Bool) → nat_lt phase (length C.program.phases) ≡ t → (a && t) ≡ true → phase < length C.program.phases
  last true true e is = grind (arith, nat_tests, e)
  last true false e is = absurd (cc)
  last false t e is = absurd (cc)
gone-on C n phase false goes phased = phased

halted-too : (C : Setting) (n : NodeParts) (t : Bool) → IsPhased C n → IsPhased C (cond t (becomes (record n { halted = true })) (becomes n)).0
halted-too C n true phased = phased
halted-too C n false phased = phased

gets-phased : (C : Setting) (n : NodeParts) (m : Message) → IsPhased C n → IsPhased C (node_gets C n m).0
unfolding node_gets
gets-phased C n (message.TheVariants.Go phase) phased =
    gone-on C n phase.0 (n.arrived && not n.halted && (phase.0 == n.phase + 1) && nat_lt phase.0 (length C.program.phases)) refl phased
gets-phased C n message.TheVariants.Halt phased = halted-too C n n.arrived phased
gets-phased C n (message.TheVariants.ReadReq word reader) phased = phased
gets-phased C n (message.TheVariants.ReadFwd word reader) phased = same-phase C n _ (gets-phase C n (message.TheVariants.ReadFwd word reader) refl) phased
gets-phased C n (message.TheVariants.DataReply word value) phased = same-phase C n _ (gets-phase C n (message.TheVariants.DataReply word value) refl) phased
gets-phased C n (message.TheVariants.RegReq word core) phased = phased
gets-phased C n (message.TheVariants.RegFwd word core) phased = same-phase C n _ (gets-phase C n (message.TheVariants.RegFwd word core) refl) phased
gets-phased C n (message.TheVariants.RegAck word) phased = same-phase C n _ (gets-phase C n (message.TheVariants.RegAck word) refl) phased
gets-phased C n (message.TheVariants.WriteBack word value core) phased = phased
gets-phased C n (message.TheVariants.WbAck word) phased = same-phase C n _ (gets-phase C n (message.TheVariants.WbAck word) refl) phased
gets-phased C n (message.TheVariants.Acquire lock core) phased = phased
gets-phased C n (message.TheVariants.Release lock core signature) phased = phased
gets-phased C n (message.TheVariants.Grant lock signature) phased = same-phase C n _ (gets-phase C n (message.TheVariants.Grant lock signature) refl) phased
gets-phased C n (message.TheVariants.Arrived core bad) phased = phased

pub phases-stay : StaysAt IsPhased
phases-stay =
    record {
      instr = λ C n phased. same-phase C n (instructed C n).0 (instr-phase C n) phased;
      evict = λ C n word phased. same-phase C n (evicted C n word).0 (evict-keeps C n word).phase_kept phased;
      arrive = λ C n phased. phased;
      gets = gets-phased;
    }

-- as a run begins, each node is in the first phase, where there is one
pub opened-phased : (C : Setting) → 0 < length C.program.phases → AllNodes IsPhased (initial_state C)
opened-phased C some c n found =
    let is : n.phase ≡ 0 = ap (λ (x : NodeParts). x.phase) (opened-node C c n found).is in
    subst (λ (D : Setting). IsPhased D n) (sym (opened-setting C)) (subst (λ (p : ℕ). p < length C.program.phases) (sym is) some)

-- ---- words

pub words-stay : StaysAt KnowsWords
words-stay =
    record {
      instr = λ C n knows. (instr-about C n knows).after;
      evict = evicted-knows;
      arrive = λ C n knows. record { pairs = knows.pairs; waiting = knows.waiting };
      gets = gets-knows;
    }

-- as a run begins, a node has no entry, and waits for nothing
pub opened-known : (C : Setting) → AllNodes KnowsWords (initial_state C)
opened-known C c n found =
    subst (λ (D : Setting). KnowsWords D n) (sym (opened-setting C)) (subst (λ (x : NodeParts). KnowsWords C x) (sym (opened-node C c n found).is) (record { pairs = tt; waiting = tt }))
