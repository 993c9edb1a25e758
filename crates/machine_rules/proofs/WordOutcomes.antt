-- Every event keeps what is known of words.
use Rattle.std.proofs.Common.{◌≡◌, ℕ, zero, suc, ◌+◌, ◌<◌, ◌≤◌, ◌==◌, ◌||◌, nat_lt, Bool, true, false, cond, length, slice_get, Option, Some, None, refl, sym, ap, subst, ◌∙◌, arith}
use Rattle.std.proofs.lemmas.Bool.{eqb-true}
use Rattle.std.proofs.lemmas.Bool.Decides.{nat_tests}
use Rattle.std.specs.Option.{is_some}
use Rattle.dn_base.specs.declared.ids.WordId.{WordId}
use Rattle.dn_base.specs.declared.ids.CoreId.{CoreId}
use Rattle.dn_base.specs.declared.ids.LockId.{LockId}
use Rattle.region_table.specs.declared.declared.TaskDecl.{TaskDecl}
use Rattle.rv_core.specs.declared.task.TaskState.{TaskState}
use Rattle.rv_core.specs.declared.need.Need as need
use Rattle.rv_core.specs.Need.{need_of}
use Rattle.rv_core.specs.Step.{advanced, loaded_of}
use Rattle.flat_machine.specs.Laws.{HoldsLess}
use Rattle.rv_core.specs.Task.{stopped}
use Rattle.rv_core.proofs.Completions.{advanced-held, loaded-held, stopped-held, store-allowed}
use Rattle.message_net.specs.declared.actor.Actor.{Actor}
use Rattle.message_net.specs.declared.actor.Actor.TheVariants.{Core}
use Rattle.message_net.specs.declared.event.Event.{Event}
use Rattle.message_net.specs.declared.message.Message.{Message}
use Rattle.message_net.specs.declared.message.Message.TheVariants.{ReadReq, ReadFwd, DataReply, Acquire, Release, Grant, Arrived, Go, Halt}
use Rattle.message_net.specs.declared.message.Outgoing.{Outgoing}
use Rattle.word_cache.specs.declared.row.Entry.TheVariants.{Valid}
use Rattle.word_cache.proofs.LookLemmas.{lookup-put, lookup-touched}
use Rattle.registry_bank.specs.declared.bank.BankWord.{BankWord}
use Rattle.registration_protocol.specs.declared.node.NodeWait as wait
use Rattle.registration_protocol.specs.Node.{NodeParts, keeping, signature_of, entry_of}
use Rattle.registration_protocol.specs.OwnEvents.{with_put, task_ended_badly}
use Rattle.region_table.specs.Plan.{uses_plainly}
use Rattle.word_cache.specs.Cache.{put}
use Rattle.registration_protocol.specs.Messages.{lacking, holds_now, guarded_by, written_in}
use Rattle.registration_protocol.proofs.MessageLemmas.{grant-entries, begin-entries}
use Rattle.machine_rules.specs.State.{State, home_at}
use Rattle.machine_rules.specs.Flight.{Test, bit, flight, is_reg_req_of, is_reg_fwd_of, is_reg_fwd_to, is_reg_ack_to, is_reg_fwd_to_itself, is_write_back_of, is_write_back_with, is_wb_ack_to}
use Rattle.machine_rules.specs.Next.{next}
use Rattle.machine_rules.proofs.Bits.{passes, known_bit}
use Rattle.machine_rules.proofs.Invariant.{Invariant, WordsGood}
use Rattle.machine_rules.proofs.Outcomes.{Outcomes, IsActing, to_all}
use Rattle.machine_rules.proofs.Exclusive.{store-none-pending}
use Rattle.machine_rules.proofs.WordEvents.{IsAside}
use Rattle.machine_rules.proofs.WordGood.{right-kept}
use Rattle.machine_rules.proofs.WordRights.{keeps-same, keeps-more, acquired-more, settled-none, right-others, right-nodes}
use Rattle.machine_rules.proofs.WordQuiet.{owned_part, of_word, SameFlights, same-flights, aside, aside-none, quiet, quiet-node}
use Rattle.machine_rules.proofs.WordMade.{task-step, advanced-good, loaded-good, put-part, lacking-part, phase-part, grant-part}
use Rattle.machine_rules.proofs.WordMoves.{acknowledged-good, freed-good, forwarded-good, passed-good, rewritten-good, registered-good}
use Rattle.machine_rules.proofs.WordBacks.{evicted-good, registered-home-good, registered-owned-good, written-back-good, written-past-good}

-- a word that a task may store has a home
known : (S : State) (M : ℕ → ℕ) (w : ℕ) → Invariant S M → w < length S.setting.program.memory → 1 ≤ known_bit (home_at S w)
known S M w inv within = by_home (home_at S w) (inv.machine.words w) where
  by_home : (h : Option BankWord) → is_some h ≡ nat_lt w (length S.setting.program.memory) → 1 ≤ known_bit h
  by_home None is = absurd (grind (arith, nat_tests, is, within))
  by_home (Some content) is = omega arith

-- an event in which no node has a part, and no mail of a word
still-nodes : (S T : State) → T.setting ≡ S.setting → T.nodes ≡ S.nodes → ((v : ℕ) → home_at T v ≡ home_at S v) → SameFlights S T → WordsGood S → WordsGood T
still-nodes S T setting nodes homes same g =
    quiet S T g (λ d v. rw (nodes) refl) homes same (λ d w one. right-nodes S T setting nodes d w (g.right d w (rw (nodes) at one)))

-- a home that keeps what it has
same-home : (S T : State) (w : ℕ) (content : BankWord) → home_at S w ≡ Some content → ((v : ℕ) → home_at T v ≡ cond (w == v) (Some content) (home_at S v)) → (v : ℕ) → home_at T v ≡ home_at S v
same-home S T w content was homes v = by_test (w == v) refl where
  by_test : (x : Bool) → (w == v) ≡ x → home_at T v ≡ home_at S v
  by_test true e = rw (e) at (homes v) ∙ sym (subst (λ (x : ℕ). home_at S x ≡ Some content) (eqb-true w v e) was)
  by_test false e = rw (e) at (homes v)

-- the keeper's letters are of no word
letters-aside : (cores : ℕ) (message : Message) (p : Test) → ((to : Actor) → bit (p to message) ≡ 0) → to_all p cores (Some message) ≡ 0
letters-aside zero message p none = refl
letters-aside (suc c) message p none = omega (arith, letters-aside c message p none, none (Core (record { 0 = c })))

no-letters : (cores : ℕ) (p : Test) → to_all p cores None ≡ 0
no-letters zero p = refl
no-letters (suc c) p = refl

barrier-flights : (S T : State) (left : Option Outgoing) (sent : Option Message) → ((p : Test) → flight T p + passes p left ≡ flight S p + to_all p S.setting.shape.cores sent)
    → ((v : ℕ) → IsAside v left) → ((message : Message) → sent ≡ Some message → (v : ℕ) → of_word v message ≡ false) → SameFlights S T
barrier-flights S T left sent flown came calm =
    record {
      asked = λ v d. omega (arith, flown (is_reg_req_of v d), (came v).asked d, letters (is_reg_req_of v d) (λ to message is. (aside v to message (calm message is v)).asked d));
      forwarded = λ v d. omega (arith, flown (is_reg_fwd_of v d), (came v).forwarded d, letters (is_reg_fwd_of v d) (λ to message is. (aside v to message (calm message is v)).forwarded d));
      acked = λ v d. omega (arith, flown (is_reg_ack_to v d), (came v).acked d, letters (is_reg_ack_to v d) (λ to message is. (aside v to message (calm message is v)).acked d));
      sought = λ v d. omega (arith, flown (is_reg_fwd_to v d), (came v).sought d, letters (is_reg_fwd_to v d) (λ to message is. (aside v to message (calm message is v)).sought d));
      turned = λ v d. omega (arith, flown (is_reg_fwd_to_itself v d), (came v).turned d, letters (is_reg_fwd_to_itself v d) (λ to message is. (aside v to message (calm message is v)).turned d));
      written = λ v d. omega (arith, flown (is_write_back_of v d), (came v).written d, letters (is_write_back_of v d) (λ to message is. (aside v to message (calm message is v)).written d));
      valued = λ v d value. omega (arith, flown (is_write_back_with v d value), (came v).valued d value, letters (is_write_back_with v d value) (λ to message is. (aside v to message (calm message is v)).valued d value));
      freed = λ v d. omega (arith, flown (is_wb_ack_to v d), (came v).freed d, letters (is_wb_ack_to v d) (λ to message is. (aside v to message (calm message is v)).freed d));
    }
  where
    letters : (p : Test) → ((to : Actor) (message : Message) → sent ≡ Some message → bit (p to message) ≡ 0) → to_all p S.setting.shape.cores sent ≡ 0
    letters p none = by_sent sent refl where
      by_sent : (o : Option Message) → sent ≡ o → to_all p S.setting.shape.cores o ≡ 0
      by_sent None is = no-letters S.setting.shape.cores p
      by_sent (Some message) is = letters-aside S.setting.shape.cores message p (λ to. none to message is)

pub words-outcomes : (S : State) (M : ℕ → ℕ) (e : Event) → Invariant S M → Outcomes S M e (λ _. WordsGood (next S e))
words-outcomes S M e inv =
    record {
      local = λ core n d t acts told step.
          advanced-good S (next S e) core n d t (advanced S.setting.program t) need.TheVariants.Local acts step (advanced-held S.setting.program d S.setting.fuel t need.TheVariants.Local acts.wants tt) g;
      ends = λ core n d t by acts told step. advanced-good S (next S e) core n d t (stopped by t) (need.TheVariants.End by) acts step (stopped-held by t) g;
      load_copy = λ core n d t word value marked acts is told step.
          loaded-good S (next S e) core n _ d t (loaded_of S.setting.program value t) (need.TheVariants.Load word) acts step
          (put-part n (with_put n word (Valid value (marked || uses_plainly d word.0))) word.0 (Valid value (marked || uses_plainly d word.0)) (λ v. lookup-put word (Valid value (marked || uses_plainly d word.0)) v n.cache.pairs) refl (ap owned_part is)) refl refl (load-held core n d t word value acts) g;
      load_own = λ core n d t word value pending acts is told step.
          loaded-good S (next S e) core n _ d t (loaded_of S.setting.program value t) (need.TheVariants.Load word) acts step
          (λ v. ap owned_part (lookup-touched word v n.cache.pairs)) refl refl (load-held core n d t word value acts) g;
      miss = λ core n d t word needs either acts none room told step.
          task-step S (next S e) core.0 n _ _ step g refl refl (keeps-same n (record n { waiting = wait.TheVariants.Reading word }) refl) (λ v. aside v _ (ReadReq word core) refl);
      store_new = λ core n d t word value acts none room is told step.
          registered-good S (next S e) core n d t word true None value acts none refl (known S M word.0 inv (stored-word core n d t word true acts))
          (store-none-pending S M core n d t word true inv acts) step g;
      store_copy = λ core n d t word whole old value marked acts was is told step.
          registered-good S (next S e) core n d t word whole (Some (Valid old marked)) value acts was refl (known S M word.0 inv (stored-word core n d t word whole acts))
          (store-none-pending S M core n d t word whole inv acts) step g;
      store_own = λ core n d t word whole old value pending acts was is told step. rewritten-good S (next S e) core n d t word whole old value pending acts was step g;
      acquire = λ core n d t lock acts told step. task-step S (next S e) core.0 n _ _ step g refl refl (keeps-same n (record n { waiting = wait.TheVariants.Locking lock }) refl) (λ v. aside v _ (Acquire lock core) refl);
      release = λ core n d t lock acts settled told step.
          quiet-node S (next S e) core.0 n _ None _ step g (λ v. refl) aside-none (λ v. aside v _ (Release lock core (signature_of n lock.0)) refl)
          (λ c w one. right-others S (next S e) core.0 n _ None _ step (settled-none n settled) c w one (g.right c w one));
      evict_copy = λ core n word value marked found active waits is told step.
          quiet-node S (next S e) core.0 n _ None None step g (lacking-part n word.0 (ap owned_part is)) aside-none aside-none
          (λ c w one. right-kept S (next S e) core.0 n _ None None step refl (keeps-same n (lacking n word.0) refl) c w (g.right c w one));
      evict_own = λ core n word value found active waits is told step. evicted-good S (next S e) core n word value is step g;
      arrive = λ core n found awake absent over settled told step. task-step S (next S e) core.0 n _ _ step g refl refl (keeps-same n (record n { arrived = true }) refl) (λ v. aside v _ (Arrived core (task_ended_badly n.task)) refl);
      reply = λ core n word value found waits none room told step.
          quiet-node S (next S e) core.0 n _ _ None step g (put-part n (record (keeping n (put word (Valid value false) n.cache.pairs)) { waiting = wait.TheVariants.Filled word }) word.0 (Valid value false) (λ v. lookup-put word (Valid value false) v n.cache.pairs) refl (ap owned_part none)) (λ v. aside v _ (DataReply word value) refl) aside-none
          (λ c w one. right-kept S (next S e) core.0 n (record (keeping n (put word (Valid value false) n.cache.pairs)) { waiting = wait.TheVariants.Filled word }) _ None step refl (keeps-same n (record (keeping n (put word (Valid value false) n.cache.pairs)) { waiting = wait.TheVariants.Filled word }) refl) c w (g.right c w one));
      acknowledge = λ core n word value found is told step. acknowledged-good S (next S e) core n word value is step g;
      forward = λ core other n word value found is told step. forwarded-good S (next S e) core other n word value is step g;
      forward_past = λ core other n word found unsettled told step. passed-good S (next S e) core other n word unsettled step g;
      answer = λ core reader n word value found is told step.
          quiet-node S (next S e) core.0 n n _ _ step g (λ v. refl) (λ v. aside v _ (ReadFwd word reader) refl) (λ v. aside v _ (DataReply word value) refl)
          (λ c w one. right-kept S (next S e) core.0 n n _ _ step refl (keeps-same n n refl) c w (g.right c w one));
      bounce = λ core reader n word found is told step.
          quiet-node S (next S e) core.0 n n _ _ step g (λ v. refl) (λ v. aside v _ (ReadFwd word reader) refl) (λ v. aside v _ (ReadReq word reader) refl)
          (λ c w one. right-kept S (next S e) core.0 n n _ _ step refl (keeps-same n n refl) c w (g.right c w one));
      freed = λ core n word value found is told step. freed-good S (next S e) core n word value is step g;
      grant = λ core n d t lock s found waits has going declares wants awake absent told step.
          quiet-node S (next S e) core.0 n _ _ None step g
          (λ v. ap owned_part (grant-entries S.setting n t lock s v ((inv.machine.node core.0 n found).fits).cache) ∙ grant-part s n.phase (guarded_by (slice_get S.setting.plans n.phase) lock.0) v (entry_of n v))
          (λ v. aside v _ (Grant lock s) refl) aside-none
          (λ c w one. right-kept S (next S e) core.0 n (holds_now S.setting n t lock s).0 _ None step refl
          (keeps-more n (holds_now S.setting n t lock s).0 t (advanced S.setting.program t) has refl (grown d t lock wants)) c w (g.right c w one));
      go = λ core n phase found awake absent right next_is within told step.
          quiet-node S (next S e) core.0 n _ _ None step g
          (λ v. ap owned_part (begin-entries S.setting n phase.0 v ((inv.machine.node core.0 n found).fits).cache) ∙ phase-part (written_in (slice_get S.setting.plans n.phase)) v (entry_of n v))
          (λ v. aside v _ (Go phase) refl) aside-none
          (λ c w one. right-others S (next S e) core.0 n _ _ None step (settled-none n ((inv.phases.arrived core.0 n found absent).settled)) c w one (g.right c w one));
      halt = λ core n found awake absent told step.
          quiet-node S (next S e) core.0 n _ _ None step g (λ v. refl) (λ v. aside v _ Halt refl) aside-none
          (λ c w one. right-kept S (next S e) core.0 n (record n { halted = true }) _ None step refl (keeps-same n (record n { halted = true }) refl) c w (g.right c w one));
      read_home = λ bank word reader value is told step.
          still-nodes S (next S e) step.setting step.nodes (same-home S (next S e) word.0 _ is step.homes)
          (same-flights S (next S e) _ _ step.flown (λ v. aside v _ (ReadReq word reader) refl) (λ v. aside v _ (DataReply word value) refl)) g;
      read_owned = λ bank word reader owner is told step.
          still-nodes S (next S e) step.setting step.nodes (same-home S (next S e) word.0 _ is step.homes)
          (same-flights S (next S e) _ _ step.flown (λ v. aside v _ (ReadReq word reader) refl) (λ v. aside v _ (ReadFwd word reader) refl)) g;
      register_home = λ bank word core value is told step. registered-home-good S (next S e) word core bank value is step g;
      register_owned = λ bank word core owner is other told step. registered-owned-good S (next S e) word core owner bank is other step g;
      write_back = λ bank word core value is told step. written-back-good S (next S e) word core bank value is step g;
      write_past = λ bank word core value content is past told step. written-past-good S (next S e) word core bank value content is past step g;
      acquire_free = λ bank lock core h is free told step.
          still-nodes S (next S e) step.setting step.nodes step.homes (same-flights S (next S e) _ _ step.flown (λ v. aside v _ (Acquire lock core) refl) (λ v. aside v _ (Grant lock _) refl)) g;
      acquire_held = λ bank lock core holder h is has told step.
          still-nodes S (next S e) step.setting step.nodes step.homes (same-flights S (next S e) _ None step.flown (λ v. aside v _ (Acquire lock core) refl) aside-none) g;
      release_last = λ bank lock core holder s h is has same none told step.
          still-nodes S (next S e) step.setting step.nodes step.homes (same-flights S (next S e) _ None step.flown (λ v. aside v _ (Release lock core s) refl) aside-none) g;
      release_on = λ bank lock core holder waiter others s h is has same queue told step.
          still-nodes S (next S e) step.setting step.nodes step.homes (same-flights S (next S e) _ _ step.flown (λ v. aside v _ (Release lock core s) refl) (λ v. aside v _ (Grant lock _) refl)) g;
      arrived = λ core bad new more told step.
          still-nodes S (next S e) step.setting step.nodes (banks-home step.setting step.banks) (barrier-flights S (next S e) _ None step.flown (λ v. aside v _ (Arrived core bad) refl) (λ message is. absurd (cc))) g;
      all_go = λ core bad new all more told step.
          still-nodes S (next S e) step.setting step.nodes (banks-home step.setting step.banks) (barrier-flights S (next S e) _ _ step.flown (λ v. aside v _ (Arrived core bad) refl) (letter-aside (Go (record { 0 = S.keeper.phase + 1 })) (λ v. refl))) g;
      all_halt = λ core bad new all over told step.
          still-nodes S (next S e) step.setting step.nodes (banks-home step.setting step.banks) (barrier-flights S (next S e) _ _ step.flown (λ v. aside v _ (Arrived core bad) refl) (letter-aside Halt (λ v. refl))) g;
    }
  where
    g : WordsGood S
    g = inv.words

    load-held : (core : CoreId) (n : NodeParts) (d : TaskDecl) (t : TaskState) (word : WordId) (value : ℕ) → IsActing S core n d t (need.TheVariants.Load word) → (loaded_of S.setting.program value t).held ≡ t.held
    load-held core n d t word value acts = loaded-held S.setting.program d S.setting.fuel t value (rw (acts.wants) tt)

    stored-word : (core : CoreId) (n : NodeParts) (d : TaskDecl) (t : TaskState) (word : WordId) (whole : Bool) → IsActing S core n d t (need.TheVariants.Store word whole) → word.0 < length S.setting.program.memory
    stored-word core n d t word whole acts = (store-allowed S.setting.program d S.setting.fuel t word whole acts.wants).0

    grown : (d : TaskDecl) (t : TaskState) (lock : LockId) → need_of S.setting.program d S.setting.fuel t ≡ need.TheVariants.Acquire lock → HoldsLess t.held (advanced S.setting.program t).held
    grown d t lock wants = rw (advanced-held S.setting.program d S.setting.fuel t (need.TheVariants.Acquire lock) wants tt) (acquired-more t.held lock.0)

    banks-home : (next S e).setting ≡ S.setting → (next S e).banks ≡ S.banks → (v : ℕ) → home_at (next S e) v ≡ home_at S v
    banks-home setting banks v = rw (setting, banks) refl

    letter-aside : (letter : Message) → ((v : ℕ) → of_word v letter ≡ false) → (message : Message) → Some letter ≡ Some message → (v : ℕ) → of_word v message ≡ false
    letter-aside letter calm message is v = let same : letter ≡ message = cc in subst (λ (x : Message). of_word v x ≡ false) same (calm v)
