-- Every event keeps what is known of values.
use Rattle.std.proofs.Common.{◌≡◌, ℕ, ◌+◌, ◌%◌, ◌||◌, Bool, true, false, slice_get, Option, Some, None, refl, sym, ap, ◌∙◌, arith}
use Rattle.dn_base.specs.declared.ids.CoreId.{CoreId}
use Rattle.region_table.specs.Plan.{uses_plainly}
use Rattle.rv_core.specs.Step.{advanced, loaded_of}
use Rattle.rv_core.specs.Task.{stopped}
use Rattle.write_signature.specs.Signature.{joined}
use Rattle.message_net.specs.declared.actor.Actor.TheVariants.{Core, Bank, Keeper}
use Rattle.message_net.specs.declared.event.Event.{Event}
use Rattle.message_net.specs.declared.message.Message.{Message}
use Rattle.message_net.specs.declared.message.Message.TheVariants.{ReadReq, ReadFwd, DataReply, RegReq, RegFwd, RegAck, WriteBack, WbAck, Acquire, Release, Grant, Arrived, Go, Halt}
use Rattle.message_net.specs.declared.message.Outgoing.{Outgoing}
use Rattle.message_net.specs.Mail.{to_core, to_home, to_keeper}
use Rattle.word_cache.specs.declared.row.Entry.{Entry}
use Rattle.word_cache.specs.declared.row.Entry.TheVariants.{Valid, Registered, Leaving}
use Rattle.word_cache.specs.Cache.{put, touched, entry_after_phase, entry_after_grant}
use Rattle.word_cache.proofs.LookLemmas.{lookup-without, lookup-put, lookup-touched}
use Rattle.phase_barrier.specs.Barrier.{Barrier, with_arrival, in_next_phase}
use Rattle.registration_protocol.specs.declared.node.NodeWait as wait
use Rattle.registration_protocol.specs.Node.{NodeParts, keeping, signature_of}
use Rattle.registration_protocol.specs.OwnEvents.{retires, with_put, task_ended_badly}
use Rattle.registration_protocol.specs.Messages.{with_entry, lacking, holds_now, begins, guarded_by, written_in}
use Rattle.registration_protocol.proofs.MessageLemmas.{grant-entries, begin-entries}
use Rattle.machine_rules.specs.State.{State, home_at}
use Rattle.machine_rules.specs.Next.{next}
use Rattle.machine_rules.specs.Coherent.{owned_value}
use Rattle.machine_rules.proofs.Bits.{pending_bit, settled_bit}
use Rattle.machine_rules.proofs.Invariant.{Invariant, ValuesGood}
use Rattle.machine_rules.proofs.Outcomes.{Outcomes, BarrierStep, at_core, at_bank, at_keeper}
use Rattle.machine_rules.proofs.WordEvents.{Flown}
use Rattle.machine_rules.proofs.NodeEntries.{calm-same, calm-at, calm-entries, calm-nodes, changed-now, phase-pending, phase-owned, grant-pending, grant-owned}
use Rattle.machine_rules.proofs.ReadMails.{no-read, no_read_in, same-posted}
use Rattle.machine_rules.proofs.ReadHome.{home-same}
use Rattle.machine_rules.proofs.ValueEvents.{IsMute, mute, mute-none, no-more, values-quiet, values-node}
use Rattle.machine_rules.proofs.ValueSteps.{answered, acknowledged, value-registered, value-written, value-read, value-owned}
use Rattle.machine_rules.proofs.ValueStores.{value-stored}

-- an event of a home that leaves its words, and one of the keeper
homed : (S T : State) (M : ℕ → ℕ) (left sent : Option Outgoing) → ValuesGood S M → T.nodes ≡ S.nodes → ((v : ℕ) → home_at T v ≡ home_at S v) → Flown S T left sent → IsMute sent → ValuesGood T M
homed S T M left sent g nodes homes flown went = values-quiet S T M g (calm-nodes S T nodes) homes (no-more S T left sent flown went)

posted : (S T : State) (M : ℕ → ℕ) (k : Barrier) (core : CoreId) (bad : Bool) (sent : Option Message) → ValuesGood S M → BarrierStep S T k (at_keeper (Arrived core bad)) sent → no_read_in sent ≡ true
    → ValuesGood T M
posted S T M k core bad sent g step quiet =
    let same = same-posted S T S.setting.shape.cores (at_keeper (Arrived core bad)) sent step.flown (no-read Keeper (Arrived core bad) refl) quiet in
    values-quiet S T M g (calm-nodes S T step.nodes) (λ v. rw (step.setting, step.banks) refl)
    (record { passed = λ w d. omega (arith, same.passed w d); lies = λ M'. omega (arith, same.lies M') })

pub values-outcomes : (S : State) (M : ℕ → ℕ) (e : Event) → Invariant S M → Outcomes S M e (λ M'. ValuesGood (next S e) M')
values-outcomes S M e inv =
    let T = next S e in
    let g = inv.values in
    record {
      local = λ core n d t acts told step.
          let m : NodeParts = record n { task = Some (advanced S.setting.program t) } in
          values-node S T M core.0 n m None None g step mute-none (calm-same n m (λ v. refl));
      ends = λ core n d t by acts told step.
          let m : NodeParts = record n { task = Some (stopped by t) } in
          values-node S T M core.0 n m None None g step mute-none (calm-same n m (λ v. refl));
      load_copy = λ core n d t word value marked acts is told step.
          let copy : Entry = Valid value (marked || uses_plainly d word.0) in
          let m : NodeParts = retires (with_put n word copy) (loaded_of S.setting.program value t) in
          values-node S T M core.0 n m None None g step mute-none
          (calm-at n m word.0 (Some copy) (λ v. lookup-put word copy v n.cache.pairs) (sym (ap pending_bit is)) (λ x has. absurd (cc)));
      load_own = λ core n d t word value pending acts is told step.
          let m : NodeParts = retires (keeping n (touched word n.cache.pairs)) (loaded_of S.setting.program value t) in
          values-node S T M core.0 n m None None g step mute-none (calm-same n m (λ v. lookup-touched word v n.cache.pairs));
      miss = λ core n d t word needs kind acts none room told step.
          let m : NodeParts = record n { waiting = wait.TheVariants.Reading word } in
          values-node S T M core.0 n m None (to_home S.setting.shape.banks word.0 (ReadReq word core)) g step
          (mute (Bank (record { 0 = word.0 % S.setting.shape.banks })) (ReadReq word core) refl) (calm-same n m (λ v. refl));
      store_new = λ core n d t word value acts none room is told step.
          value-stored S T M core n d t word true value true (to_home S.setting.shape.banks word.0 (RegReq word core)) inv acts (λ no. absurd (cc)) step
          (mute (Bank (record { 0 = word.0 % S.setting.shape.banks })) (RegReq word core) refl);
      store_copy = λ core n d t word whole old value marked acts was is told step.
          value-stored S T M core n d t word whole value true (to_home S.setting.shape.banks word.0 (RegReq word core)) inv acts (λ no. absurd (cc)) step
          (mute (Bank (record { 0 = word.0 % S.setting.shape.banks })) (RegReq word core) refl);
      store_own = λ core n d t word whole old value pending acts was is told step.
          value-stored S T M core n d t word whole value pending None inv acts (λ no. ap settled_bit was ∙ rw (no) refl) step mute-none;
      acquire = λ core n d t lock acts told step.
          let m : NodeParts = record n { waiting = wait.TheVariants.Locking lock } in
          values-node S T M core.0 n m None (to_home S.setting.shape.banks lock.0 (Acquire lock core)) g step
          (mute (Bank (record { 0 = lock.0 % S.setting.shape.banks })) (Acquire lock core) refl) (calm-same n m (λ v. refl));
      release = λ core n d t lock acts settled told step.
          let m : NodeParts = record n { task = Some (advanced S.setting.program t) } in
          values-node S T M core.0 n m None (to_home S.setting.shape.banks lock.0 (Release lock core (signature_of n lock.0))) g step
          (mute (Bank (record { 0 = lock.0 % S.setting.shape.banks })) (Release lock core (signature_of n lock.0)) refl) (calm-same n m (λ v. refl));
      evict_copy = λ core n word value marked found active waits is told step.
          values-node S T M core.0 n (lacking n word.0) None None g step mute-none
          (calm-at n (lacking n word.0) word.0 None (λ v. lookup-without word.0 v n.cache.pairs) (sym (ap pending_bit is)) (λ x has. absurd (cc)));
      evict_own = λ core n word value found active waits is told step.
          values-node S T M core.0 n (with_entry n word.0 (Leaving value)) None (to_home S.setting.shape.banks word.0 (WriteBack word value core)) g step
          (mute (Bank (record { 0 = word.0 % S.setting.shape.banks })) (WriteBack word value core) refl)
          (calm-at n (with_entry n word.0 (Leaving value)) word.0 (Some (Leaving value)) (changed-now n word.0 (Registered value false) (Leaving value) is) (sym (ap pending_bit is))
          (λ x has. ap owned_value is ∙ has));
      arrive = λ core n found awake absent over settled told step.
          let m : NodeParts = record n { arrived = true } in
          values-node S T M core.0 n m None (to_keeper (Arrived core (task_ended_badly n.task))) g step (mute Keeper (Arrived core (task_ended_badly n.task)) refl) (calm-same n m (λ v. refl));
      reply = λ core n word value found waits none room told step.
          let m : NodeParts = record (keeping n (put word (Valid value false) n.cache.pairs)) { waiting = wait.TheVariants.Filled word } in
          values-node S T M core.0 n m (at_core core (DataReply word value)) None g step mute-none
          (calm-at n m word.0 (Some (Valid value false)) (λ v. lookup-put word (Valid value false) v n.cache.pairs) (sym (ap pending_bit none)) (λ x has. absurd (cc)));
      acknowledge = λ core n word value found is told step. acknowledged S T M core n word value inv.words g is step;
      forward = λ core other n word value found is told step.
          values-node S T M core.0 n (lacking n word.0) (at_core core (RegFwd word other)) (to_core other (RegAck word)) g step (mute (Core other) (RegAck word) refl)
          (calm-at n (lacking n word.0) word.0 None (λ v. lookup-without word.0 v n.cache.pairs) (sym (ap pending_bit is)) (λ x has. absurd (cc)));
      forward_past = λ core other n word found none told step.
          values-node S T M core.0 n n (at_core core (RegFwd word other)) (to_core other (RegAck word)) g step (mute (Core other) (RegAck word) refl) (calm-same n n (λ v. refl));
      answer = λ core reader n word value found is told step. answered S T M core reader n word value g is step;
      bounce = λ core reader n word found is told step.
          values-node S T M core.0 n n (at_core core (ReadFwd word reader)) (to_home S.setting.shape.banks word.0 (ReadReq word reader)) g step
          (mute (Bank (record { 0 = word.0 % S.setting.shape.banks })) (ReadReq word reader) refl) (calm-same n n (λ v. refl));
      freed = λ core n word value found is told step.
          values-node S T M core.0 n (lacking n word.0) (at_core core (WbAck word)) None g step mute-none
          (calm-at n (lacking n word.0) word.0 None (λ v. lookup-without word.0 v n.cache.pairs) (sym (ap pending_bit is)) (λ x has. absurd (cc)));
      grant = λ core n d t lock s found waits has open' declares wants awake absent told step.
          let words = guarded_by (slice_get S.setting.plans n.phase) lock.0 in
          values-node S T M core.0 n (holds_now S.setting n t lock s).0 (at_core core (Grant lock s)) None g step mute-none
          (calm-entries n (holds_now S.setting n t lock s).0 (entry_after_grant s n.phase words)
          (λ v. grant-entries S.setting n t lock s v ((inv.machine.node core.0 n found).fits).cache) (grant-pending s n.phase words) (grant-owned s n.phase words));
      go = λ core n phase found awake arrived same next_is within told step.
          let words = written_in (slice_get S.setting.plans n.phase) in
          values-node S T M core.0 n (begins S.setting n phase.0) (at_core core (Go phase)) None g step mute-none
          (calm-entries n (begins S.setting n phase.0) (entry_after_phase words)
          (λ v. begin-entries S.setting n phase.0 v ((inv.machine.node core.0 n found).fits).cache) (phase-pending words) (phase-owned words));
      halt = λ core n found awake arrived told step.
          let m : NodeParts = record n { halted = true } in
          values-node S T M core.0 n m (at_core core Halt) None g step mute-none (calm-same n m (λ v. refl));
      read_home = λ bank word reader value was told step. value-read S T M word reader bank value inv.reads g was step;
      read_owned = λ bank word reader owner was told step. value-owned S T M word reader owner bank inv.reads g was step;
      register_home = λ bank word core value was told step.
          value-registered S T M word core bank (to_core core (RegAck word)) inv.words g step (mute (Core core) (RegAck word) refl) refl;
      register_owned = λ bank word core owner was other told step.
          value-registered S T M word core bank (to_core owner (RegFwd word core)) inv.words g step (mute (Core owner) (RegFwd word core) refl) refl;
      write_back = λ bank word core value was told step. value-written S T M word core bank value inv.words g was step;
      write_past = λ bank word core value content was past told step.
          homed S T M (at_bank bank (WriteBack word value core)) (to_core core (WbAck word)) g step.nodes (home-same S T word.0 content step.homes was) step.flown (mute (Core core) (WbAck word) refl);
      acquire_free = λ bank lock core h was free told step.
          homed S T M (at_bank bank (Acquire lock core)) (to_core core (Grant lock h.kept)) g step.nodes step.homes step.flown (mute (Core core) (Grant lock h.kept) refl);
      acquire_held = λ bank lock core holder h was held told step. homed S T M (at_bank bank (Acquire lock core)) None g step.nodes step.homes step.flown mute-none;
      release_last = λ bank lock core holder s h was held same none told step. homed S T M (at_bank bank (Release lock core s)) None g step.nodes step.homes step.flown mute-none;
      release_on = λ bank lock core holder waiter others s h was held same queue told step.
          homed S T M (at_bank bank (Release lock core s)) (to_core waiter (Grant lock (joined h.kept s))) g step.nodes step.homes step.flown (mute (Core waiter) (Grant lock (joined h.kept s)) refl);
      arrived = λ core bad was rest told step. posted S T M (with_arrival core.0 bad S.keeper) core bad None g step refl;
      all_go = λ core bad was all over told step. posted S T M (in_next_phase (with_arrival core.0 bad S.keeper)) core bad (Some (Go (record { 0 = S.keeper.phase + 1 }))) g step refl;
      all_halt = λ core bad was all over told step. posted S T M (with_arrival core.0 bad S.keeper) core bad (Some Halt) g step refl;
    }
