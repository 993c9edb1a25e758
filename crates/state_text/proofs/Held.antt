-- The first reason against an event is one that holds.
use Rattle.std.proofs.Common.{◌≡◌, ◌≢◌, ℕ, ◌%◌, Bool, true, false, cond, not, slice_get, Option, Some, None, IfSome, refl, ap, ◌∙◌, subst, arith}
use Rattle.std.specs.Prelude.{◌==◌}
use Rattle.std.specs.Option.{is_some, option_or}
use Rattle.std.proofs.lemmas.Bool.Decides.{nat_tests}
use Rattle.dn_base.specs.declared.ids.WordId.{WordId}
use Rattle.rv_core.specs.declared.task.TaskState.{TaskState}
use Rattle.rv_core.specs.declared.need.Need as need
use Rattle.rv_core.specs.declared.need.Need.{Need}
use Rattle.message_net.specs.declared.event.Event.{Event}
use Rattle.message_net.specs.declared.event.Event.TheVariants.{Instr, Evict, Arrive, Handle}
use Rattle.message_net.specs.Pool.{count_of, has_id}
use Rattle.word_cache.specs.declared.row.Entry.{Entry}
use Rattle.word_cache.specs.declared.row.Entry.TheVariants.{Valid, Registered, Leaving}
use Rattle.word_cache.specs.Cache.{has_room}
use Rattle.registration_protocol.specs.declared.node.NodeWait as wait
use Rattle.registration_protocol.specs.declared.node.NodeWait.{NodeWait}
use Rattle.registration_protocol.specs.Node.{NodeParts, Setting, need_now, entry_of, is_running, is_settled}
use Rattle.registration_protocol.specs.OwnEvents.{wanted_by}
use Rattle.machine_rules.specs.State.{State}
use Rattle.state_text.specs.declared.reason.Reason.{Reason}
use Rattle.state_text.specs.declared.reason.Reason as reason
use Rattle.state_text.specs.Reasons.{reason_if, inactive_reason, task_reason, wait_reason, filled_reason, pending_reason, access_reason, need_reason, entry_reason, room_reason, instr_reason, evict_reason, arrive_reason, core_reason, reason_against}
use Rattle.state_text.specs.Holding.{HoldsOf, HoldsAtCore, HoldsIn}

-- the first of two reasons holds where each does
first : (P : Reason → Type 0) (o p : Option Reason) → ((r : Reason) → o ≡ Some r → P r) → ((r : Reason) → p ≡ Some r → P r) → (r : Reason) → option_or o p ≡ Some r → P r
first P None p one other r is = other r is
first P (Some q) p one other r is = one r is

-- a reason that a test gives
given : (P : Reason → Type 0) (b : Bool) (q : Reason) → (b ≡ true → P q) → (r : Reason) → reason_if b q ≡ Some r → P r
given P true q holds r is = let same : q ≡ r = cc in subst P same (holds refl)
given P false q holds r is = absurd (cc)

module _ (C : Setting) (n : NodeParts) where
  inactive-holds : (r : Reason) → inactive_reason n ≡ Some r → HoldsOf C n r
  inactive-holds r is =
      first (HoldsOf C n) (reason_if n.halted reason.TheVariants.Halted) (reason_if n.arrived reason.TheVariants.Arrived)
      (given (HoldsOf C n) n.halted reason.TheVariants.Halted (λ h. h)) (given (HoldsOf C n) n.arrived reason.TheVariants.Arrived (λ a. a)) r is

  task-holds : (r : Reason) → task_reason n.task ≡ Some r → HoldsOf C n r
  task-holds r is = by_task n.task refl is where
    by_task : (o : Option TaskState) → n.task ≡ o → task_reason o ≡ Some r → HoldsOf C n r
    by_task None task given' = let same : reason.TheVariants.NoTask ≡ r = cc in subst (HoldsOf C n) same task
    by_task (Some t) task given' =
        given (HoldsOf C n) (is_some t.end) reason.TheVariants.TaskEnded (λ ended. (ap is_some task, ap is_running task ∙ ap not ended)) r given'

  runs-holds : (r : Reason) → reason_if (is_running n.task) reason.TheVariants.TaskRuns ≡ Some r → HoldsOf C n r
  runs-holds r is = given (HoldsOf C n) (is_running n.task) reason.TheVariants.TaskRuns (λ runs. runs) r is

  wait-holds : (r : Reason) → wait_reason n.waiting ≡ Some r → HoldsOf C n r
  wait-holds r is = by_wait n.waiting refl is where
    by_wait : (w : NodeWait) → n.waiting ≡ w → wait_reason w ≡ Some r → HoldsOf C n r
    by_wait wait.TheVariants.None waits given' = absurd (cc)
    by_wait (wait.TheVariants.Reading word) waits given' = let same : reason.TheVariants.WaitsForWord word ≡ r = cc in subst (HoldsOf C n) same waits
    by_wait (wait.TheVariants.Filled word) waits given' = absurd (cc)
    by_wait (wait.TheVariants.Locking lock) waits given' = let same : reason.TheVariants.WaitsForLock lock ≡ r = cc in subst (HoldsOf C n) same waits

  filled-holds : (r : Reason) → filled_reason n.waiting ≡ Some r → HoldsOf C n r
  filled-holds r is = by_wait n.waiting refl is where
    by_wait : (w : NodeWait) → n.waiting ≡ w → filled_reason w ≡ Some r → HoldsOf C n r
    by_wait wait.TheVariants.None waits given' = absurd (cc)
    by_wait (wait.TheVariants.Reading word) waits given' = absurd (cc)
    by_wait (wait.TheVariants.Filled word) waits given' = let same : reason.TheVariants.HasValue word ≡ r = cc in subst (HoldsOf C n) same waits
    by_wait (wait.TheVariants.Locking lock) waits given' = absurd (cc)

  pending-holds : (r : Reason) → pending_reason n ≡ Some r → HoldsOf C n r
  pending-holds r is = by_test (is_settled n) refl is where
    by_test : (b : Bool) → is_settled n ≡ b → cond b None (Some reason.TheVariants.HasPending) ≡ Some r → HoldsOf C n r
    by_test true test given' = absurd (cc)
    by_test false test given' = let same : reason.TheVariants.HasPending ≡ r = cc in subst (HoldsOf C n) same test

  access-holds : (word : WordId) (r : Reason) → access_reason n word (entry_of n word.0) ≡ Some r → HoldsOf C n r
  access-holds word r is = by_entry (entry_of n word.0) refl is where
    by_room : entry_of n word.0 ≡ None → (b : Bool) → has_room n.cache word.0 ≡ b → cond b None (Some (reason.TheVariants.NoRoom word)) ≡ Some r → HoldsOf C n r
    by_room none true room given' = absurd (cc)
    by_room none false room given' = let same : reason.TheVariants.NoRoom word ≡ r = cc in subst (HoldsOf C n) same (none, room)

    by_entry : (o : Option Entry) → entry_of n word.0 ≡ o → access_reason n word o ≡ Some r → HoldsOf C n r
    by_entry None entry given' = by_room entry (has_room n.cache word.0) refl given'
    by_entry (Some (Valid value marked)) entry given' = absurd (cc)
    by_entry (Some (Registered value pending)) entry given' = absurd (cc)
    by_entry (Some (Leaving value)) entry given' = let same : reason.TheVariants.IsLeaving word ≡ r = cc in subst (HoldsOf C n) same (value, entry)

  need-holds : (o : Option Need) (r : Reason) → need_reason n o ≡ Some r → HoldsOf C n r
  need-holds None r is = absurd (cc)
  need-holds (Some need.TheVariants.Local) r is = absurd (cc)
  need-holds (Some (need.TheVariants.End cause)) r is = absurd (cc)
  need-holds (Some (need.TheVariants.Acquire lock)) r is = absurd (cc)
  need-holds (Some (need.TheVariants.Release lock)) r is = pending-holds r is
  need-holds (Some (need.TheVariants.Load word)) r is = access-holds word r is
  need-holds (Some (need.TheVariants.Store word whole)) r is = access-holds word r is

  entry-holds : (word : WordId) (r : Reason) → entry_reason word (entry_of n word.0) ≡ Some r → HoldsOf C n r
  entry-holds word r is = by_entry (entry_of n word.0) refl is where
    by_pending : (value : ℕ) (b : Bool) → entry_of n word.0 ≡ Some (Registered value b) → reason_if b (reason.TheVariants.IsPending word) ≡ Some r → HoldsOf C n r
    by_pending value true entry given' = let same : reason.TheVariants.IsPending word ≡ r = cc in subst (HoldsOf C n) same (value, entry)
    by_pending value false entry given' = absurd (cc)

    by_entry : (o : Option Entry) → entry_of n word.0 ≡ o → entry_reason word o ≡ Some r → HoldsOf C n r
    by_entry None entry given' = let same : reason.TheVariants.NoEntry word ≡ r = cc in subst (HoldsOf C n) same entry
    by_entry (Some (Valid value marked)) entry given' = absurd (cc)
    by_entry (Some (Registered value pending)) entry given' = by_pending value pending entry given'
    by_entry (Some (Leaving value)) entry given' = let same : reason.TheVariants.IsLeaving word ≡ r = cc in subst (HoldsOf C n) same (value, entry)

  room-holds : (word : WordId) (r : Reason) → room_reason n word (wanted_by n (need_now C n)) ≡ Some r → HoldsOf C n r
  room-holds word r is = by_wanted (wanted_by n (need_now C n)) refl is where
    by_set : (wanted : WordId) → wanted_by n (need_now C n) ≡ Some wanted → (b : Bool) → (word.0 % n.cache.sets == wanted.0 % n.cache.sets) ≡ b
        → cond b (entry_reason word (entry_of n word.0)) (Some (reason.TheVariants.OtherSet word wanted)) ≡ Some r → HoldsOf C n r
    by_set wanted wants true set given' = entry-holds word r given'
    by_set wanted wants false set given' =
        let same : reason.TheVariants.OtherSet word wanted ≡ r = cc in
        let differ : word.0 % n.cache.sets ≢ wanted.0 % n.cache.sets = grind (arith, nat_tests) in
        subst (HoldsOf C n) same (wants, differ)

    by_wanted : (o : Option WordId) → wanted_by n (need_now C n) ≡ o → room_reason n word o ≡ Some r → HoldsOf C n r
    by_wanted None wants given' = let same : reason.TheVariants.NeedsNoRoom ≡ r = cc in subst (HoldsOf C n) same wants
    by_wanted (Some wanted) wants given' = by_set wanted wants (word.0 % n.cache.sets == wanted.0 % n.cache.sets) refl given'

  instr-holds : (r : Reason) → instr_reason C n ≡ Some r → HoldsOf C n r
  instr-holds r is =
      first (HoldsOf C n) (inactive_reason n) _ inactive-holds
      (first (HoldsOf C n) (task_reason n.task) _ task-holds
      (first (HoldsOf C n) (wait_reason n.waiting) (need_reason n (need_now C n)) wait-holds (need-holds (need_now C n)))) r is

  evict-holds : (word : WordId) (r : Reason) → evict_reason C word n ≡ Some r → HoldsOf C n r
  evict-holds word r is =
      first (HoldsOf C n) (inactive_reason n) _ inactive-holds
      (first (HoldsOf C n) (task_reason n.task) _ task-holds
      (first (HoldsOf C n) (wait_reason n.waiting) _ wait-holds
      (first (HoldsOf C n) (filled_reason n.waiting) (room_reason n word (wanted_by n (need_now C n))) filled-holds (room-holds word)))) r is

  arrive-holds : (r : Reason) → arrive_reason n ≡ Some r → HoldsOf C n r
  arrive-holds r is =
      first (HoldsOf C n) (inactive_reason n) _ inactive-holds
      (first (HoldsOf C n) (reason_if (is_running n.task) reason.TheVariants.TaskRuns) (pending_reason n) runs-holds pending-holds) r is

-- a core that the machine may not have
core-holds : (C : Setting) (why : NodeParts → Option Reason) → ((n : NodeParts) (r : Reason) → why n ≡ Some r → HoldsOf C n r) → (o : Option NodeParts) (r : Reason)
    → core_reason why o ≡ Some r → HoldsAtCore C o r
core-holds C why each None r is = cc
core-holds C why each (Some n) r is = each n r is

reason-holds : (S : State) (e : Event) (r : Reason) → reason_against S e ≡ Some r → HoldsIn S e r
unfolding reason_against
reason-holds S (Instr core) r is = core-holds S.setting (instr_reason S.setting) (instr-holds S.setting) (slice_get S.nodes core.0) r is
reason-holds S (Evict core word) r is =
    core-holds S.setting (evict_reason S.setting word) (λ (n : NodeParts). evict-holds S.setting n word) (slice_get S.nodes core.0) r is
reason-holds S (Arrive core) r is = core-holds S.setting arrive_reason (arrive-holds S.setting) (slice_get S.nodes core.0) r is
reason-holds S (Handle id) r is = by_mail (has_id id S.mails) refl is where
  by_mail : (b : Bool) → has_id id S.mails ≡ b → cond b None (Some reason.TheVariants.NoMail) ≡ Some r → (r ≡ reason.TheVariants.NoMail) × (count_of id S.mails ≡ 0)
  by_mail true has given' = absurd (cc)
  by_mail false has given' =
      let same : r ≡ reason.TheVariants.NoMail = cc in
      let none : count_of id S.mails ≡ 0 = grind (arith, nat_tests) in
      (same, none)

-- the first reason, if there is one, holds
pub stands : (S : State) (e : Event) → IfSome (reason_against S e) (HoldsIn S e)
stands S e = by_reason (reason_against S e) refl where
  by_reason : (o : Option Reason) → reason_against S e ≡ o → IfSome o (HoldsIn S e)
  by_reason None is = tt
  by_reason (Some r) is = reason-holds S e r is

-- reasons that are tried one after the other
pub or-three : (a b c d : Option Reason) → option_or (option_or (option_or a b) c) d ≡ option_or a (option_or b (option_or c d))
or-three None None c d = refl
or-three None (Some r) c d = refl
or-three (Some r) b c d = refl

pub or-two : (a b c : Option Reason) → option_or (option_or a b) c ≡ option_or a (option_or b c)
or-two None b c = refl
or-two (Some r) b c = refl

pub or-four : (a b c d e : Option Reason) → option_or (option_or (option_or (option_or a b) c) d) e ≡ option_or a (option_or b (option_or c (option_or d e)))
or-four None None c d e = or-two c d e
or-four None (Some r) c d e = refl
or-four (Some r) b c d e = refl
