-- Every event keeps what is known of reads.
use Rattle.std.proofs.Common.{◌≡◌, ℕ, ◌+◌, ◌%◌, ◌≤◌, ◌==◌, ◌||◌, Bool, true, false, cond, slice_get, Option, Some, None, refl, ap, subst, ◌∙◌, arith}
use Rattle.dn_base.specs.declared.ids.CoreId.{CoreId}
use Rattle.std.proofs.lemmas.Bool.{eqb-true}
use Rattle.region_table.specs.Plan.{uses_plainly}
use Rattle.rv_core.specs.Step.{advanced, loaded_of}
use Rattle.rv_core.specs.Task.{stopped}
use Rattle.write_signature.specs.Signature.{joined}
use Rattle.message_net.specs.Mail.{to_core, to_home, to_keeper}
use Rattle.word_cache.specs.Cache.{touched}
use Rattle.phase_barrier.specs.Barrier.{Barrier, with_arrival, in_next_phase}
use Rattle.registration_protocol.specs.OwnEvents.{retires, with_put, stored, task_ended_badly}
use Rattle.machine_rules.proofs.WordEvents.{Flown}
use Rattle.region_table.specs.declared.declared.TaskDecl.{TaskDecl}
use Rattle.rv_core.specs.declared.task.TaskState.{TaskState}
use Rattle.rv_core.specs.declared.need.Need as need
use Rattle.rv_core.specs.declared.need.Need.{Need}
use Rattle.message_net.specs.declared.actor.Actor.TheVariants.{Core, Bank, Keeper}
use Rattle.message_net.specs.declared.event.Event.{Event}
use Rattle.message_net.specs.declared.message.Message.{Message}
use Rattle.message_net.specs.declared.message.Message.TheVariants.{ReadReq, ReadFwd, DataReply, RegReq, RegFwd, RegAck, WriteBack, WbAck, Acquire, Release, Grant, Arrived, Go, Halt}
use Rattle.message_net.specs.declared.message.Outgoing.{Outgoing}
use Rattle.word_cache.specs.declared.row.Entry.{Entry}
use Rattle.word_cache.specs.declared.row.Entry.TheVariants.{Valid, Registered, Leaving}
use Rattle.word_cache.proofs.LookLemmas.{lookup-without, lookup-put, lookup-touched}
use Rattle.word_cache.proofs.CacheLaws.{room-changed, room-without}
use Rattle.registration_protocol.specs.declared.node.NodeWait as wait
use Rattle.registration_protocol.specs.Node.{NodeParts, entry_of, keeping, signature_of}
use Rattle.registration_protocol.specs.Messages.{with_entry, lacking, holds_now, begins, guarded_by, written_in}
use Rattle.registration_protocol.proofs.MessageLemmas.{grant-entries, begin-entries}
use Rattle.registration_protocol.proofs.EntryLemmas.{store-entry}
use Rattle.machine_rules.specs.State.{State, home_at}
use Rattle.machine_rules.specs.Next.{next}
use Rattle.machine_rules.proofs.Bits.{pending_bit}
use Rattle.machine_rules.proofs.Invariant.{Invariant, ReadsGood}
use Rattle.machine_rules.proofs.Steps.{NodeStep}
use Rattle.machine_rules.proofs.Outcomes.{Outcomes, IsActing, BarrierStep, at_core, at_bank, at_keeper}
use Rattle.machine_rules.proofs.NodeEntries.{changed-now, phase-pending, grant-pending}
use Rattle.machine_rules.proofs.ReadMails.{IsNoRead, no-read, no-read-none, same-reads, same-posted, no_read_in}
use Rattle.machine_rules.proofs.ReadEvents.{waits-well, waits_free, well-same, acting-free, ready-bit, quiet-nodes}
use Rattle.machine_rules.proofs.ReadSteps.{free-step, kept-step, well-at, missed, replied, passed, registered}
use Rattle.machine_rules.proofs.ReadHome.{home-same, read-home, read-owned, read-registered, read-written}

-- the entry of one word changes: no more is pending
less-at : (n m : NodeParts) (w : ℕ) (e : Option Entry) → ((v : ℕ) → entry_of m v ≡ cond (w == v) e (entry_of n v)) → pending_bit e ≤ pending_bit (entry_of n w)
    → (v : ℕ) → pending_bit (entry_of m v) ≤ pending_bit (entry_of n v)
less-at n m w e now less v = by_test (w == v) refl where
  by_test : (x : Bool) → (w == v) ≡ x → pending_bit (entry_of m v) ≤ pending_bit (entry_of n v)
  by_test true f = omega (arith, ap pending_bit (rw (f) at (now v)), subst (λ (x : ℕ). pending_bit e ≤ pending_bit (entry_of n x)) (eqb-true w v f) less)
  by_test false f = omega (arith, ap pending_bit (rw (f) at (now v)))

-- a step of a node that acts, and waits for no word afterwards
acted : (S T : State) (core : CoreId) (n m : NodeParts) (d : TaskDecl) (t : TaskState) (needs : Need) (sent : Option Outgoing) → ReadsGood S → IsActing S core n d t needs
    → NodeStep S T core.0 n m None sent → IsNoRead sent → waits_free m.waiting ≡ true → ((v : ℕ) → pending_bit (entry_of m v) ≤ pending_bit (entry_of n v)) → ReadsGood T
acted S T core n m d t needs sent g acts step went free less =
    free-step S T core.0 n m None sent step g no-read-none went (λ w. ready-bit n.waiting w acts.ready) free less

-- a step of a node that waits as before, and has the same entries
stayed : (S T : State) (core : ℕ) (n m : NodeParts) (left sent : Option Outgoing) → ReadsGood S → NodeStep S T core n m left sent → IsNoRead left → IsNoRead sent
    → m.cache ≡ n.cache → m.waiting ≡ n.waiting → m.phase ≡ n.phase → m.core ≡ n.core → m.task ≡ n.task → ReadsGood T
stayed S T core n m left sent g step came went cache waits phase own task =
    kept-step S T core n m left sent step g came went waits
    (well-same S.setting n m (waits-well S core n g step.found) waits phase own task (λ v is. rw (cache) is) (λ v is. rw (cache) is) (λ v value marked is. rw (cache) is))
    (λ v. rw (cache) (omega arith))

-- an event of a home that leaves its words, and one of the keeper
homed : (S T : State) (left sent : Option Outgoing) → ReadsGood S → T.setting ≡ S.setting → T.nodes ≡ S.nodes → ((v : ℕ) → home_at T v ≡ home_at S v) → Flown S T left sent
    → IsNoRead left → IsNoRead sent → ReadsGood T
homed S T left sent g setting nodes homes flown came went = quiet-nodes S T setting nodes homes (same-reads S T left sent flown came went) g

posted : (S T : State) (k : Barrier) (core : CoreId) (bad : Bool) (sent : Option Message) → ReadsGood S → BarrierStep S T k (at_keeper (Arrived core bad)) sent → no_read_in sent ≡ true → ReadsGood T
posted S T k core bad sent g step quiet =
    quiet-nodes S T step.setting step.nodes (λ v. rw (step.setting, step.banks) refl)
    (same-posted S T S.setting.shape.cores (at_keeper (Arrived core bad)) sent step.flown (no-read Keeper (Arrived core bad) refl) quiet) g

pub reads-outcomes : (S : State) (M : ℕ → ℕ) (e : Event) → Invariant S M → Outcomes S M e (λ M'. ReadsGood (next S e))
reads-outcomes S M e inv =
    let T = next S e in
    let g = inv.reads in
    record {
      local = λ core n d t acts told step. acted S T core n (record n { task = Some (advanced S.setting.program t) }) d t need.TheVariants.Local None g acts step no-read-none
          (acting-free S M core n d t need.TheVariants.Local inv acts refl) (λ v. omega arith);
      ends = λ core n d t by acts told step. acted S T core n (record n { task = Some (stopped by t) }) d t (need.TheVariants.End by) None g acts step no-read-none
          (acting-free S M core n d t (need.TheVariants.End by) inv acts refl) (λ v. omega arith);
      load_copy = λ core n d t word value marked acts is told step.
          acted S T core n (retires (with_put n word (Valid value (marked || uses_plainly d word.0))) (loaded_of S.setting.program value t)) d t (need.TheVariants.Load word) None g acts step no-read-none refl
          (less-at n (with_put n word (Valid value (marked || uses_plainly d word.0))) word.0 (Some (Valid value (marked || uses_plainly d word.0)))
          (λ v. lookup-put word (Valid value (marked || uses_plainly d word.0)) v n.cache.pairs) (omega arith));
      load_own = λ core n d t word value pending acts is told step.
          acted S T core n (retires (keeping n (touched word n.cache.pairs)) (loaded_of S.setting.program value t)) d t (need.TheVariants.Load word) None g acts step no-read-none refl
          (λ v. omega (arith, ap pending_bit (lookup-touched word v n.cache.pairs)));
      miss = λ core n d t word needs kind acts none room told step. missed S T M core n d t word needs (record { 0 = word.0 % S.setting.shape.banks }) inv kind acts none room step;
      store_new = λ core n d t word value acts none room is told step. registered S T M core n d t word true value (record { 0 = word.0 % S.setting.shape.banks }) inv acts step;
      store_copy = λ core n d t word whole old value marked acts was is told step. registered S T M core n d t word whole value (record { 0 = word.0 % S.setting.shape.banks }) inv acts step;
      store_own = λ core n d t word whole old value pending acts was is told step.
          acted S T core n (stored S.setting n d t word (Registered value pending)) d t (need.TheVariants.Store word whole) None g acts step no-read-none refl
          (less-at n (stored S.setting n d t word (Registered value pending)) word.0 (Some (Registered value pending)) (store-entry S.setting n d t word (Registered value pending))
          (omega (arith, ap pending_bit was)));
      acquire = λ core n d t lock acts told step.
          acted S T core n (record n { waiting = wait.TheVariants.Locking lock }) d t (need.TheVariants.Acquire lock) (to_home S.setting.shape.banks lock.0 (Acquire lock core)) g acts step
          (no-read (Bank (record { 0 = lock.0 % S.setting.shape.banks })) (Acquire lock core) refl) refl (λ v. omega arith);
      release = λ core n d t lock acts settled told step.
          acted S T core n (record n { task = Some (advanced S.setting.program t) }) d t (need.TheVariants.Release lock)
          (to_home S.setting.shape.banks lock.0 (Release lock core (signature_of n lock.0))) g acts step
          (no-read (Bank (record { 0 = lock.0 % S.setting.shape.banks })) (Release lock core (signature_of n lock.0)) refl)
          (acting-free S M core n d t (need.TheVariants.Release lock) inv acts refl) (λ v. omega arith);
      evict_copy = λ core n word value marked found active waits is told step.
          free-step S T core.0 n (lacking n word.0) None None step g no-read-none no-read-none (λ w. rw (waits) refl) (rw (waits) refl)
          (less-at n (lacking n word.0) word.0 None (λ v. lookup-without word.0 v n.cache.pairs) (omega arith));
      evict_own = λ core n word value found active waits is told step.
          free-step S T core.0 n (with_entry n word.0 (Leaving value)) None (to_home S.setting.shape.banks word.0 (WriteBack word value core)) step g no-read-none
          (no-read (Bank (record { 0 = word.0 % S.setting.shape.banks })) (WriteBack word value core) refl) (λ w. rw (waits) refl) (rw (waits) refl)
          (less-at n (with_entry n word.0 (Leaving value)) word.0 (Some (Leaving value)) (changed-now n word.0 (Registered value false) (Leaving value) is) (omega arith));
      arrive = λ core n found awake absent over settled told step.
          stayed S T core.0 n (record n { arrived = true }) None (to_keeper (Arrived core (task_ended_badly n.task))) g step no-read-none (no-read Keeper (Arrived core (task_ended_badly n.task)) refl) refl refl refl refl refl;
      reply = λ core n word value found waits none room told step. replied S T M core n word value inv found waits none step;
      acknowledge = λ core n word value found is told step.
          let m : NodeParts = with_entry n word.0 (Registered value false) in
          let now = changed-now n word.0 (Registered value true) (Registered value false) is in
          kept-step S T core.0 n m (at_core core (RegAck word)) None step g (no-read (Core core) (RegAck word) refl) no-read-none refl
          (well-at S core.0 n m word.0 (Registered value true) (Some (Registered value false)) g found now is refl (λ v room. room-changed n.cache word.0 (Registered value false) v ∙ room) refl refl refl refl)
          (less-at n m word.0 (Some (Registered value false)) now (omega arith));
      forward = λ core other n word value found is told step.
          kept-step S T core.0 n (lacking n word.0) (at_core core (RegFwd word other)) (to_core other (RegAck word)) step g (no-read (Core core) (RegFwd word other) refl) (no-read (Core other) (RegAck word) refl) refl
          (well-at S core.0 n (lacking n word.0) word.0 (Registered value false) None g found (λ v. lookup-without word.0 v n.cache.pairs) is refl (λ v room. room-without n.cache word.0 v room) refl refl refl refl)
          (less-at n (lacking n word.0) word.0 None (λ v. lookup-without word.0 v n.cache.pairs) (omega arith));
      forward_past = λ core other n word found none told step.
          stayed S T core.0 n n (at_core core (RegFwd word other)) (to_core other (RegAck word)) g step (no-read (Core core) (RegFwd word other) refl) (no-read (Core other) (RegAck word) refl) refl refl refl refl refl;
      answer = λ core reader n word value found is told step. passed S T M core n (at_core core (ReadFwd word reader)) (to_core reader (DataReply word value)) inv step (λ w c. omega arith) (λ w d. refl);
      bounce = λ core reader n word found is told step.
          passed S T M core n (at_core core (ReadFwd word reader)) (to_home S.setting.shape.banks word.0 (ReadReq word reader)) inv step (λ w c. omega arith) (λ w d. refl);
      freed = λ core n word value found is told step.
          kept-step S T core.0 n (lacking n word.0) (at_core core (WbAck word)) None step g (no-read (Core core) (WbAck word) refl) no-read-none refl
          (well-at S core.0 n (lacking n word.0) word.0 (Leaving value) None g found (λ v. lookup-without word.0 v n.cache.pairs) is refl (λ v room. room-without n.cache word.0 v room) refl refl refl refl)
          (less-at n (lacking n word.0) word.0 None (λ v. lookup-without word.0 v n.cache.pairs) (omega arith));
      grant = λ core n d t lock s found waits has open' declares wants awake absent told step.
          free-step S T core.0 n (holds_now S.setting n t lock s).0 (at_core core (Grant lock s)) None step g (no-read (Core core) (Grant lock s) refl) no-read-none (λ w. rw (waits) refl) refl
          (λ v. omega (
            arith,
            ap pending_bit (grant-entries S.setting n t lock s v ((inv.machine.node core.0 n found).fits).cache),
            grant-pending s n.phase (guarded_by (slice_get S.setting.plans n.phase) lock.0) v (entry_of n v),
          ));
      go = λ core n phase found awake arrived same next_is within told step.
          let waits = (inv.phases.arrived core.0 n found arrived).waiting in
          free-step S T core.0 n (begins S.setting n phase.0) (at_core core (Go phase)) None step g (no-read (Core core) (Go phase) refl) no-read-none (λ w. rw (waits) refl) refl
          (λ v. omega (
            arith,
            ap pending_bit (begin-entries S.setting n phase.0 v ((inv.machine.node core.0 n found).fits).cache),
            phase-pending (written_in (slice_get S.setting.plans n.phase)) v (entry_of n v),
          ));
      halt = λ core n found awake arrived told step.
          stayed S T core.0 n (record n { halted = true }) (at_core core Halt) None g step (no-read (Core core) Halt refl) no-read-none refl refl refl refl refl;
      read_home = λ bank word reader value was told step. read-home S T word reader bank value g was step;
      read_owned = λ bank word reader owner was told step. read-owned S T word reader owner bank g was step;
      register_home = λ bank word core value was told step.
          read-registered S T word core bank (to_core core (RegAck word)) inv.words g step (no-read (Bank bank) (RegReq word core) refl) (no-read (Core core) (RegAck word) refl) refl;
      register_owned = λ bank word core owner was other told step.
          read-registered S T word core bank (to_core owner (RegFwd word core)) inv.words g step (no-read (Bank bank) (RegReq word core) refl) (no-read (Core owner) (RegFwd word core) refl) refl;
      write_back = λ bank word core value was told step.
          read-written S T word value (at_bank bank (WriteBack word value core)) (to_core core (WbAck word)) g step (no-read (Bank bank) (WriteBack word value core) refl) (no-read (Core core) (WbAck word) refl);
      write_past = λ bank word core value content was past told step.
          homed S T (at_bank bank (WriteBack word value core)) (to_core core (WbAck word)) g step.setting step.nodes (home-same S T word.0 content step.homes was) step.flown
          (no-read (Bank bank) (WriteBack word value core) refl) (no-read (Core core) (WbAck word) refl);
      acquire_free = λ bank lock core h was free told step.
          homed S T (at_bank bank (Acquire lock core)) (to_core core (Grant lock h.kept)) g step.setting step.nodes step.homes step.flown (no-read (Bank bank) (Acquire lock core) refl) (no-read (Core core) (Grant lock h.kept) refl);
      acquire_held = λ bank lock core holder h was held told step.
          homed S T (at_bank bank (Acquire lock core)) None g step.setting step.nodes step.homes step.flown (no-read (Bank bank) (Acquire lock core) refl) no-read-none;
      release_last = λ bank lock core holder s h was held same none told step.
          homed S T (at_bank bank (Release lock core s)) None g step.setting step.nodes step.homes step.flown (no-read (Bank bank) (Release lock core s) refl) no-read-none;
      release_on = λ bank lock core holder waiter others s h was held same queue told step.
          homed S T (at_bank bank (Release lock core s)) (to_core waiter (Grant lock (joined h.kept s))) g step.setting step.nodes step.homes step.flown
          (no-read (Bank bank) (Release lock core s) refl) (no-read (Core waiter) (Grant lock (joined h.kept s)) refl);
      arrived = λ core bad was rest told step. posted S T (with_arrival core.0 bad S.keeper) core bad None g step refl;
      all_go = λ core bad was all over told step. posted S T (in_next_phase (with_arrival core.0 bad S.keeper)) core bad (Some (Go (record { 0 = S.keeper.phase + 1 }))) g step refl;
      all_halt = λ core bad was all over told step. posted S T (with_arrival core.0 bad S.keeper) core bad (Some Halt) g step refl;
    }
