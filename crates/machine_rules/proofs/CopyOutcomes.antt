-- Every event keeps what is known of copies.
use Rattle.std.proofs.Common.{ℕ, true, false, Some, None, refl, sym, ap, subst, ◌∙◌, arith}
use Rattle.rv_core.specs.declared.need.Need as need
use Rattle.rv_core.specs.Kinds.{IsLoad}
use Rattle.rv_core.specs.Step.{advanced, loaded_of}
use Rattle.rv_core.specs.Task.{stopped}
use Rattle.rv_core.proofs.Completions.{advanced-held, loaded-held, stopped-held}
use Rattle.write_signature.specs.Signature.{joined}
use Rattle.message_net.specs.declared.event.Event.{Event}
use Rattle.message_net.specs.declared.message.Message.TheVariants.{ReadReq, ReadFwd, DataReply, RegReq, RegFwd, RegAck, WriteBack, WbAck, Acquire, Grant, Arrived, Halt}
use Rattle.message_net.specs.Mail.{to_core, to_home, to_keeper}
use Rattle.word_cache.specs.declared.row.Entry.TheVariants.{Registered, Leaving}
use Rattle.word_cache.specs.Cache.{touched}
use Rattle.word_cache.proofs.LookLemmas.{lookup-without, lookup-touched}
use Rattle.queue_lock.specs.Lock.{Lock}
use Rattle.phase_barrier.specs.Barrier.{with_arrival}
use Rattle.registration_protocol.specs.declared.node.NodeWait as wait
use Rattle.registration_protocol.specs.Node.{NodeParts, keeping}
use Rattle.registration_protocol.specs.OwnEvents.{retires, task_ended_badly}
use Rattle.registration_protocol.specs.Messages.{with_entry, lacking}
use Rattle.registration_protocol.specs.Parts.{held_locks}
use Rattle.machine_rules.specs.State.{State}
use Rattle.machine_rules.specs.Next.{next}
use Rattle.machine_rules.proofs.Invariant.{Invariant, CopiesGood, is_carrying}
use Rattle.machine_rules.proofs.Outcomes.{Outcomes, at_core, at_bank}
use Rattle.machine_rules.proofs.NodeEntries.{changed-now}
use Rattle.machine_rules.proofs.PhaseWhole.{nothing-posted, none-posted}
use Rattle.machine_rules.proofs.CopyNodes.{old-same, old-at, copies-same}
use Rattle.machine_rules.proofs.CopyGrants.{copies-granted}
use Rattle.machine_rules.proofs.CopyPhases.{copies-together, copies-begun}
use Rattle.machine_rules.proofs.CopyStores.{copies-stored}
use Rattle.machine_rules.proofs.CopyEvents.{copies-loaded, copies-answered, copies-released, copies-homed, copies-locked, copies-joined, copies-posted}

pub copies-outcomes : (S : State) (M : ℕ → ℕ) (e : Event) → Invariant S M → Outcomes S M e (λ M'. CopiesGood (next S e) M')
copies-outcomes S M e inv =
    let T = next S e in
    let g = inv.copies in
    record {
      local = λ core n d t acts told step.
          let m : NodeParts = record n { task = Some (advanced S.setting.program t) } in
          copies-same S T M core.0 n m None None g step refl
          (advanced-held S.setting.program d S.setting.fuel t need.TheVariants.Local acts.wants tt ∙ sym (ap held_locks acts.task)) refl (λ l w p. refl) (old-same n m (λ v. refl));
      ends = λ core n d t by acts told step.
          let m : NodeParts = record n { task = Some (stopped by t) } in
          copies-same S T M core.0 n m None None g step refl (stopped-held by t ∙ sym (ap held_locks acts.task)) refl (λ l w p. refl) (old-same n m (λ v. refl));
      load_copy = λ core n d t word value marked acts is told step. copies-loaded S T M core n d t word value marked inv acts is step;
      load_own = λ core n d t word value pending acts is told step.
          let m : NodeParts = retires (keeping n (touched word n.cache.pairs)) (loaded_of S.setting.program value t) in
          copies-same S T M core.0 n m None None g step refl
          (loaded-held S.setting.program d S.setting.fuel t value (subst IsLoad (sym acts.wants) tt) ∙ sym (ap held_locks acts.task)) refl (λ l w p. refl)
          (old-same n m (λ v. lookup-touched word v n.cache.pairs));
      miss = λ core n d t word needs kind acts none room told step.
          let m : NodeParts = record n { waiting = wait.TheVariants.Reading word } in
          copies-same S T M core.0 n m None (to_home S.setting.shape.banks word.0 (ReadReq word core)) g step refl refl refl (λ l w p. refl) (old-same n m (λ v. refl));
      store_new = λ core n d t word value acts none room is told step.
          copies-stored S T M core n d t word true value true (to_home S.setting.shape.banks word.0 (RegReq word core)) inv acts step;
      store_copy = λ core n d t word whole old value marked acts was is told step.
          copies-stored S T M core n d t word whole value true (to_home S.setting.shape.banks word.0 (RegReq word core)) inv acts step;
      store_own = λ core n d t word whole old value pending acts was is told step.
          copies-stored S T M core n d t word whole value pending None inv acts step;
      acquire = λ core n d t lock acts told step.
          let m : NodeParts = record n { waiting = wait.TheVariants.Locking lock } in
          copies-same S T M core.0 n m None (to_home S.setting.shape.banks lock.0 (Acquire lock core)) g step refl refl refl (λ l w p. refl) (old-same n m (λ v. refl));
      release = λ core n d t lock acts settled told step. copies-released S T M core n d t lock S.setting.shape.banks g acts step;
      evict_copy = λ core n word value marked found active waits is told step.
          copies-same S T M core.0 n (lacking n word.0) None None g step refl refl refl (λ l w p. refl)
          (old-at n (lacking n word.0) word.0 None (λ v. lookup-without word.0 v n.cache.pairs) refl);
      evict_own = λ core n word value found active waits is told step.
          let m : NodeParts = with_entry n word.0 (Leaving value) in
          copies-same S T M core.0 n m None (to_home S.setting.shape.banks word.0 (WriteBack word value core)) g step refl refl refl (λ l w p. refl)
          (old-at n m word.0 (Some (Leaving value)) (changed-now n word.0 (Registered value false) (Leaving value) is) refl);
      arrive = λ core n found awake absent over settled told step.
          let m : NodeParts = record n { arrived = true } in
          copies-same S T M core.0 n m None (to_keeper (Arrived core (task_ended_badly n.task))) g step refl refl refl (λ l w p. refl) (old-same n m (λ v. refl));
      reply = λ core n word value found waits none room told step. copies-answered S T M core n word value inv step;
      acknowledge = λ core n word value found is told step.
          let m : NodeParts = with_entry n word.0 (Registered value false) in
          copies-same S T M core.0 n m (at_core core (RegAck word)) None g step refl refl refl (λ l w p. refl)
          (old-at n m word.0 (Some (Registered value false)) (changed-now n word.0 (Registered value true) (Registered value false) is) refl);
      forward = λ core other n word value found is told step.
          copies-same S T M core.0 n (lacking n word.0) (at_core core (RegFwd word other)) (to_core other (RegAck word)) g step refl refl refl (λ l w p. refl)
          (old-at n (lacking n word.0) word.0 None (λ v. lookup-without word.0 v n.cache.pairs) refl);
      forward_past = λ core other n word found none told step.
          copies-same S T M core.0 n n (at_core core (RegFwd word other)) (to_core other (RegAck word)) g step refl refl refl (λ l w p. refl) (old-same n n (λ v. refl));
      answer = λ core reader n word value found is told step.
          copies-same S T M core.0 n n (at_core core (ReadFwd word reader)) (to_core reader (DataReply word value)) g step refl refl refl (λ l w p. refl) (old-same n n (λ v. refl));
      bounce = λ core reader n word found is told step.
          copies-same S T M core.0 n n (at_core core (ReadFwd word reader)) (to_home S.setting.shape.banks word.0 (ReadReq word reader)) g step refl refl refl (λ l w p. refl) (old-same n n (λ v. refl));
      freed = λ core n word value found is told step.
          copies-same S T M core.0 n (lacking n word.0) (at_core core (WbAck word)) None g step refl refl refl (λ l w p. refl)
          (old-at n (lacking n word.0) word.0 None (λ v. lookup-without word.0 v n.cache.pairs) refl);
      grant = λ core n d t lock s found waits has open' declares wants awake absent told step. copies-granted S T M core n d t lock s inv awake absent has declares wants step;
      go = λ core n phase found awake arrived same next_is within told step. copies-begun S T M core n phase inv step;
      halt = λ core n found awake arrived told step.
          let m : NodeParts = record n { halted = true } in
          copies-same S T M core.0 n m (at_core core Halt) None g step refl refl refl (λ l w p. refl) (old-same n m (λ v. refl));
      read_home = λ bank word reader value was told step.
          copies-homed S T M word.0 _ (at_bank bank (ReadReq word reader)) (to_core reader (DataReply word value)) g step (λ l w p. refl);
      read_owned = λ bank word reader owner was told step.
          copies-homed S T M word.0 _ (at_bank bank (ReadReq word reader)) (to_core owner (ReadFwd word reader)) g step (λ l w p. refl);
      register_home = λ bank word core value was told step.
          copies-homed S T M word.0 _ (at_bank bank (RegReq word core)) (to_core core (RegAck word)) g step (λ l w p. refl);
      register_owned = λ bank word core owner was other told step.
          copies-homed S T M word.0 _ (at_bank bank (RegReq word core)) (to_core owner (RegFwd word core)) g step (λ l w p. refl);
      write_back = λ bank word core value was told step.
          copies-homed S T M word.0 _ (at_bank bank (WriteBack word value core)) (to_core core (WbAck word)) g step (λ l w p. refl);
      write_past = λ bank word core value content was past told step.
          copies-homed S T M word.0 content (at_bank bank (WriteBack word value core)) (to_core core (WbAck word)) g step (λ l w p. refl);
      acquire_free = λ bank lock core h was free told step.
          let k : Lock = record h { holder = Some core } in
          copies-locked S T M lock.0 h k (at_bank bank (Acquire lock core)) (to_core core (Grant lock h.kept)) g step was (λ w. omega arith) (λ w. omega arith) (λ l w e. refl);
      acquire_held = λ bank lock core holder h was held told step.
          copies-locked S T M lock.0 h _ (at_bank bank (Acquire lock core)) None g step was (λ w. omega arith) (λ w. omega arith) (λ l w e. refl);
      release_last = λ bank lock core holder s h was held same none told step.
          let k : Lock = record h { holder = None; kept = joined h.kept s } in
          copies-joined S T M lock core s bank h k None g inv.locks step was refl refl;
      release_on = λ bank lock core holder waiter others s h was held same queue told step.
          let k : Lock = record h { holder = Some waiter; queue = others; kept = joined h.kept s } in
          copies-joined S T M lock core s bank h k (to_core waiter (Grant lock (joined h.kept s))) g inv.locks step was refl refl;
      arrived = λ core bad was rest told step.
          copies-posted S T M (with_arrival core.0 bad S.keeper) core bad None g step refl (λ l w p. nothing-posted (is_carrying l w p) S.setting.shape.cores);
      all_go = λ core bad was all over told step. copies-together S T M core bad inv was all step;
      all_halt = λ core bad was all over told step.
          copies-posted S T M (with_arrival core.0 bad S.keeper) core bad (Some Halt) g step refl (λ l w p. none-posted (is_carrying l w p) Halt (λ c. refl) S.setting.shape.cores);
    }
