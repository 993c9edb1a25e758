-- A sound state stays sound at every event, whatever the mails say.
use Rattle.std.proofs.Common.{◌≡◌, ◌⊎◌, inl, inr, ℕ, ◌+◌, ◌*◌, ◌≤◌, ◌==◌, ◌&&◌, not, Bool, true, false, cond, nat_lt, List, [], ◌∷◌, length, slice_get, Option, Some, None, refl, sym, subst, arith}
use Rattle.std.specs.Prelude.{position}
use Rattle.std.proofs.Math.Nat.{mul-le-mul_left}
use Rattle.std.proofs.lemmas.Bool.Decides.{nat_tests}
use Rattle.std.proofs.lemmas.Option.{slice_get_within}
use Rattle.dn_base.specs.declared.ids.CoreId.{CoreId}
use Rattle.dn_base.specs.declared.ids.BankId.{BankId}
use Rattle.message_net.specs.declared.actor.Actor.{Actor}
use Rattle.message_net.specs.declared.actor.Actor.TheVariants.{Core, Bank, Keeper}
use Rattle.message_net.specs.declared.actor.MailId.{MailId}
use Rattle.message_net.specs.declared.event.Event.{Event}
use Rattle.message_net.specs.declared.event.Event.TheVariants.{Instr, Evict, Arrive, Handle}
use Rattle.message_net.specs.declared.message.Mail.{Mail}
use Rattle.message_net.specs.declared.message.Message as message
use Rattle.message_net.specs.declared.message.Message.{Message}
use Rattle.message_net.specs.declared.message.Outgoing.{Outgoing}
use Rattle.message_net.specs.Pool.{of_id, removed, removed_at}
use Rattle.message_net.specs.Mail.{has_actor}
use Rattle.message_net.proofs.PoolLemmas.{length-without}
use Rattle.message_net.proofs.MailLemmas.{length-all_mails}
use Rattle.registry_bank.specs.Bank.{BankParts, IsBank, bank_gets}
use Rattle.registry_bank.proofs.KeptLemmas.{KeepsPlace, place-kept, stays}
use Rattle.phase_barrier.specs.declared.keeper.Verdict.{Verdict}
use Rattle.phase_barrier.specs.Barrier.{Barrier, all_arrived, with_arrival, keeper_arrives, keeper_gets}
use Rattle.phase_barrier.specs.Letters.{letters, letter_count}
use Rattle.phase_barrier.proofs.ArrivalLemmas.{begins as begins-within}
use Rattle.phase_barrier.proofs.CountLemmas.{Waited, Ended, Begun, outcome, missing-one, phases-kept, cores-kept}
use Rattle.phase_barrier.proofs.LetterLemmas.{length-letters}
use Rattle.registration_protocol.specs.Node.{NodeParts, Setting, entry_of}
use Rattle.registration_protocol.specs.Fit.{Fits}
use Rattle.registration_protocol.specs.OwnEvents.{may_instr, instructed, evicted, arrives}
use Rattle.registration_protocol.specs.Messages.{node_gets, becomes, begins}
use Rattle.registration_protocol.proofs.PhaseLemmas.{instr-phase, evict-keeps, ack-keeps, forward-keeps, read-keeps, gone-keeps, gets-phase}
use Rattle.registration_protocol.proofs.FitLemmas.{instr-fits, evict-fits, arrive-fits, gets-fits}
use Rattle.machine_rules.specs.State.{State}
use Rattle.machine_rules.specs.Flight.{bit}
use Rattle.machine_rules.specs.Next.{next, enabled, actor_index_in, next_number, sends, core_does, bank_does, when_there, does_instr, does_evict, does_arrive, core_gets, bank_handles, keeper_handles, gets, delivers, handles}
use Rattle.machine_rules.specs.Sound.{IsSound, rounds}
use Rattle.machine_rules.proofs.Steps.{without_mail}
use Rattle.machine_rules.proofs.MachineMails.{raised-most}
use Rattle.machine_rules.proofs.MachineKept.{posts_by, with_node, with_bank, with_keeper, machine-posts, machine-taken, machine-node, machine-keeper, machine-bank}

-- ---- what is sent and taken

later : (S : State) (made : ℕ) → IsSound S made → IsSound S (made + 1)
later S made sound =
    record { machine = sound.machine; mails = omega (arith, sound.mails); sent = λ place. omega (arith, sound.sent place); within = sound.within }

sound-one : (S : State) (made : ℕ) (from : Actor) (out : Outgoing) → has_actor S.setting.shape.cores S.setting.shape.banks from ≡ true → IsSound S made
    → IsSound (posts_by S from (out ∷ [])) (made + 1)
sound-one S made from out there sound =
    record {
      machine = machine-posts S from (out ∷ []) there sound.machine;
      mails = omega (arith, sound.mails, length-all_mails from (next_number S from) (out ∷ []) S.mails);
      sent = raised-most S.numbers (actor_index_in S from) (next_number S from + 1) most (omega (arith, sound.sent (actor_index_in S from))) (λ place. omega (arith, sound.sent place));
      within = sound.within;
    }
  where
    most : ℕ
    most = made + 1 + S.setting.shape.cores * rounds S

sound-sends : (S : State) (made : ℕ) (from : Actor) (sent : Option Outgoing) → has_actor S.setting.shape.cores S.setting.shape.banks from ≡ true → IsSound S made
    → IsSound (sends S from sent) (made + 1)
sound-sends S made from None there sound = later S made sound
sound-sends S made from (Some out) there sound = sound-one S made from out there sound

length-taken : (id : MailId) (mails : List Mail) → length (removed id mails).1 ≤ length mails
length-taken id mails = by_place (position (of_id id) mails) where
  by_place : (o : Option ℕ) → length (removed_at mails o).1 ≤ length mails
  by_place None = omega arith
  by_place (Some place) = length-without mails place

sound-taken : (S : State) (made : ℕ) (id : MailId) → IsSound S made → IsSound (without_mail S id) made
sound-taken S made id sound =
    record { machine = machine-taken S id sound.machine; mails = omega (arith, sound.mails, length-taken id S.mails); sent = sound.sent; within = sound.within }

-- ---- a core and a bank

sound-core : (S : State) (made : ℕ) (core : CoreId) (n m : NodeParts) (sent : Option Outgoing) → slice_get S.nodes core.0 ≡ Some n → Fits S.setting m → m.core ≡ n.core → IsSound S made
    → IsSound (core_does S core m sent) (made + 1)
sound-core S made core n m sent found fits own sound =
    sound-sends (with_node S core.0 m) made (Core core) sent there
    (record { machine = machine-node S core.0 n m found fits own sound.machine; mails = sound.mails; sent = sound.sent; within = sound.within })
  where
    there : nat_lt core.0 S.setting.shape.cores ≡ true
    there = grind (arith, nat_tests, slice_get_within S.nodes core.0 n found, sound.machine.nodes)

sound-bank : (S : State) (made : ℕ) (bank : BankId) (b c : BankParts) (sent : Option Outgoing) → slice_get S.banks bank.0 ≡ Some b → IsBank c → KeepsPlace b c → IsSound S made
    → IsSound (bank_does S bank.0 c sent (Bank bank)) (made + 1)
sound-bank S made bank b c sent found well kept sound =
    sound-sends (with_bank S bank.0 c) made (Bank bank) sent there
    (record { machine = machine-bank S bank.0 b c found well kept sound.machine; mails = sound.mails; sent = sound.sent; within = sound.within })
  where
    there : nat_lt bank.0 S.setting.shape.banks ≡ true
    there = grind (arith, nat_tests, slice_get_within S.banks bank.0 b found, sound.machine.banks)

-- ---- the keeper

-- how often a keeper has posted letters, and that a letter to each core counts once
abbrev turns : Barrier → ℕ
turns k = k.phase + bit (all_arrived k)

record TurnsOn (k : Barrier) (answer : Barrier × Verdict) : Type 0 where
  turned : turns k + letter_count answer.1 ≤ turns answer.0
  within : k.phase ≤ k.phases → answer.0.phase ≤ k.phases

arrival-turns : (k : Barrier) (core : ℕ) (bad : Bool) → TurnsOn k (keeper_arrives k core bad)
arrival-turns k core bad = by_mark (slice_get k.arrived core) refl where
  by_outcome : all_arrived k ≡ false → Waited k core bad ⊎ (Ended k core bad ⊎ Begun k core bad) → TurnsOn k (keeper_arrives k core bad)
  by_outcome more (inl w) =
      subst (TurnsOn k) (sym w.is) (record { turned = rw (more, w.missing) (omega arith); within = λ low. low })
  by_outcome more (inr (inl h)) =
      subst (TurnsOn k) (sym h.is) (record { turned = rw (more, h.whole) (omega arith); within = λ low. low })
  by_outcome more (inr (inr g)) =
      let next_one = begins-within (with_arrival core bad k) g.over in
      subst (TurnsOn k) (sym g.is) (record { turned = rw (more) (omega arith); within = λ low. omega (arith, next_one) })

  by_mark : (o : Option Bool) → slice_get k.arrived core ≡ o → TurnsOn k (keeper_arrives k core bad)
  by_mark None e = rw e (record { turned = omega arith; within = λ low. low })
  by_mark (Some true) e = rw e (record { turned = omega arith; within = λ low. low })
  by_mark (Some false) e = by_outcome (missing-one k core e) (outcome k core bad e)

turns-on : (k : Barrier) (m : Message) → TurnsOn k (keeper_gets k m)
unfolding keeper_gets
turns-on k (message.TheVariants.Arrived core bad) = arrival-turns k core.0 bad
turns-on k _ = record { turned = omega arith; within = λ low. low }

sound-keeper : (S : State) (made : ℕ) (m : Message) → IsSound S made → IsSound (keeper_handles S (keeper_gets S.keeper m)) (made + 1)
sound-keeper S made m sound =
    record {
      machine = machine-posts (with_keeper S k) Keeper outs refl (machine-keeper S k (cores-kept S.keeper m) (phases-kept S.keeper m) sound.machine);
      mails = omega (arith, sound.mails, length-all_mails Keeper (next_number S Keeper) outs S.mails, long, more);
      sent =
          raised-most S.numbers (actor_index_in S Keeper) (next_number S Keeper + length outs) (made + 1 + S.setting.shape.cores * turns k)
          (omega (arith, sound.sent (actor_index_in S Keeper), long, more)) (λ place. omega (arith, sound.sent place, more));
      within = low;
    }
  where
    k : Barrier
    k = (keeper_gets S.keeper m).0

    count : ℕ
    count = letter_count (keeper_gets S.keeper m).1

    outs : List Outgoing
    outs = letters S.setting.shape.cores (keeper_gets S.keeper m).1

    long : length outs ≡ S.setting.shape.cores * count
    long = length-letters S.setting.shape.cores (keeper_gets S.keeper m).1

    more : S.setting.shape.cores * (rounds S + count) ≤ S.setting.shape.cores * turns k
    more = mul-le-mul_left S.setting.shape.cores ((turns-on S.keeper m).turned)

    low : k.phase ≤ length S.setting.program.phases
    low = rw (← sound.machine.phases) ((turns-on S.keeper m).within (rw (sound.machine.phases) sound.within))

-- ---- every event

gets-core : (C : Setting) (n : NodeParts) (m : Message) → (node_gets C n m).0.core ≡ n.core
unfolding node_gets
gets-core C n (message.TheVariants.Go phase) = by_test (n.arrived && not n.halted && (phase.0 == n.phase + 1) && nat_lt phase.0 (length C.program.phases)) where
  by_test : (t : Bool) → (cond t (becomes (begins C n phase.0)) (becomes n)).0.core ≡ n.core
  by_test true = refl
  by_test false = refl
gets-core C n message.TheVariants.Halt = by_test n.arrived where
  by_test : (t : Bool) → (cond t (becomes (record n { halted = true })) (becomes n)).0.core ≡ n.core
  by_test true = refl
  by_test false = refl
gets-core C n (message.TheVariants.ReadReq word reader) = refl
gets-core C n (message.TheVariants.ReadFwd word reader) = (read-keeps C n word reader (entry_of n word.0)).phase_kept.core
gets-core C n (message.TheVariants.DataReply word value) = (gets-phase C n (message.TheVariants.DataReply word value) refl).core
gets-core C n (message.TheVariants.RegReq word core) = refl
gets-core C n (message.TheVariants.RegFwd word core) = (forward-keeps n word core (entry_of n word.0)).phase_kept.core
gets-core C n (message.TheVariants.RegAck word) = (ack-keeps n word (entry_of n word.0)).phase_kept.core
gets-core C n (message.TheVariants.WriteBack word value core) = refl
gets-core C n (message.TheVariants.WbAck word) = (gone-keeps n word (entry_of n word.0)).phase_kept.core
gets-core C n (message.TheVariants.Acquire lock core) = refl
gets-core C n (message.TheVariants.Release lock core signature) = refl
gets-core C n (message.TheVariants.Grant lock signature) = (gets-phase C n (message.TheVariants.Grant lock signature) refl).core
gets-core C n (message.TheVariants.Arrived core bad) = refl

sound-gets : (S : State) (made : ℕ) (to : Actor) (m : Message) → IsSound S made → IsSound (gets S to m) (made + 1)
sound-gets S made (Core core) m sound = by_node (slice_get S.nodes core.0) refl where
  by_node : (o : Option NodeParts) → slice_get S.nodes core.0 ≡ o → IsSound (core_gets S core m o) (made + 1)
  by_node None is = later S made sound
  by_node (Some n) is =
      sound-core S made core n (node_gets S.setting n m).0 (node_gets S.setting n m).1.sent is (gets-fits S.setting n m (sound.machine.node core.0 n is).fits) (gets-core S.setting n m) sound
sound-gets S made (Bank bank) m sound = by_bank (slice_get S.banks bank.0) refl where
  by_bank : (o : Option BankParts) → slice_get S.banks bank.0 ≡ o → IsSound (bank_handles S (Bank bank) bank.0 m o) (made + 1)
  by_bank None is = later S made sound
  by_bank (Some b) is =
      sound-bank S made bank b (bank_gets b m).0 (bank_gets b m).1 is (stays b m (sound.machine.bank bank.0 b is).well).good (place-kept b m) sound
sound-gets S made Keeper m sound = sound-keeper S made m sound

sound-handles : (S : State) (made : ℕ) (id : MailId) → IsSound S made → IsSound (handles S (removed id S.mails)) (made + 1)
sound-handles S made id sound = by_mail (removed id S.mails).0 where
  by_mail : (o : Option Mail) → IsSound (delivers (without_mail S id) o) (made + 1)
  by_mail None = later (without_mail S id) made (sound-taken S made id sound)
  by_mail (Some m) = sound-gets (without_mail S id) made m.to m.message (sound-taken S made id sound)

pub sound-next : (S : State) (made : ℕ) (e : Event) → IsSound S made → enabled S e ≡ true → IsSound (next S e) (made + 1)
unfolding next enabled
sound-next S made (Instr core) sound may = by_node (slice_get S.nodes core.0) refl may where
  by_node : (o : Option NodeParts) → slice_get S.nodes core.0 ≡ o → when_there (may_instr S.setting) o ≡ true → IsSound (does_instr S core o) (made + 1)
  by_node None is may = absurd (cc)
  by_node (Some n) is may =
      sound-core S made core n (instructed S.setting n).0 (instructed S.setting n).1.sent is (instr-fits S.setting n (sound.machine.node core.0 n is).fits may) (instr-phase S.setting n).core sound
sound-next S made (Evict core word) sound may = by_node (slice_get S.nodes core.0) refl where
  by_node : (o : Option NodeParts) → slice_get S.nodes core.0 ≡ o → IsSound (does_evict S core word o) (made + 1)
  by_node None is = later S made sound
  by_node (Some n) is =
      sound-core S made core n (evicted S.setting n word).0 (evicted S.setting n word).1 is (evict-fits S.setting n word (sound.machine.node core.0 n is).fits) (evict-keeps S.setting n word).phase_kept.core sound
sound-next S made (Arrive core) sound may = by_node (slice_get S.nodes core.0) refl where
  by_node : (o : Option NodeParts) → slice_get S.nodes core.0 ≡ o → IsSound (does_arrive S core o) (made + 1)
  by_node None is = later S made sound
  by_node (Some n) is = sound-core S made core n (arrives n).0 (arrives n).1 is (arrive-fits S.setting n (sound.machine.node core.0 n is).fits) refl sound
sound-next S made (Handle id) sound may = sound-handles S made id sound
