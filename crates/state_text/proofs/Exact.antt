-- No reason stands against an event exactly where it may come.
use Rattle.std.proofs.Common.{◌≡◌, ℕ, ◌%◌, Bool, true, false, cond, not, ◌&&◌, ◌||◌, slice_get, Option, Some, None, refl, sym, ap, ◌∙◌}
use Rattle.std.specs.Prelude.{◌==◌, ◌↔◌}
use Rattle.std.specs.Option.{is_some, option_or}
use Rattle.dn_base.specs.declared.ids.WordId.{WordId}
use Rattle.region_table.specs.declared.declared.TaskDecl.{TaskDecl}
use Rattle.region_table.specs.Tasks.{declared}
use Rattle.rv_core.specs.declared.task.TaskState.{TaskState}
use Rattle.rv_core.specs.declared.need.Need as need
use Rattle.rv_core.specs.declared.need.Need.{Need}
use Rattle.message_net.specs.declared.event.Event.{Event}
use Rattle.message_net.specs.declared.event.Event.TheVariants.{Instr, Evict, Arrive, Handle}
use Rattle.message_net.specs.Pool.{has_id}
use Rattle.word_cache.specs.declared.row.Entry.{Entry}
use Rattle.word_cache.specs.declared.row.Entry.TheVariants.{Valid, Registered, Leaving}
use Rattle.word_cache.specs.Cache.{has_room, may_go}
use Rattle.registration_protocol.specs.declared.node.NodeWait as wait
use Rattle.registration_protocol.specs.declared.node.NodeWait.{NodeWait}
use Rattle.registration_protocol.specs.Node.{NodeParts, Setting, need_now, need_if, need_by, entry_of, is_running, is_settled, is_active, is_ready, waits_for_nothing}
use Rattle.registration_protocol.specs.OwnEvents.{may_access, lets, may_instr, wanted_by, makes_room, may_evict, may_arrive}
use Rattle.registration_protocol.specs.Fit.{Fits}
use Rattle.machine_rules.specs.State.{State}
use Rattle.machine_rules.specs.Next.{enabled, when_there}
use Rattle.state_text.specs.declared.reason.Reason.{Reason}
use Rattle.state_text.specs.declared.reason.Reason as reason
use Rattle.state_text.specs.Reasons.{reason_if, inactive_reason, task_reason, wait_reason, filled_reason, pending_reason, access_reason, need_reason, entry_reason, room_reason, instr_reason, evict_reason, arrive_reason, core_reason, reason_against}

-- no reason is given
abbrev passes : Option Reason → Bool
passes None = true
passes (Some r) = false

passes-or : (o p : Option Reason) → passes (option_or o p) ≡ passes o && passes p
passes-or None p = refl
passes-or (Some r) p = refl

passes-if : (b : Bool) (r : Reason) → passes (reason_if b r) ≡ not b
passes-if true r = refl
passes-if false r = refl

-- ---- each condition

active : (n : NodeParts) → passes (inactive_reason n) ≡ is_active n
active n = by_flags n.halted n.arrived where
  by_flags : (h a : Bool) → passes (option_or (reason_if h reason.TheVariants.Halted) (reason_if a reason.TheVariants.Arrived)) ≡ not (h || a)
  by_flags true a = refl
  by_flags false true = refl
  by_flags false false = refl

running : (t : Option TaskState) → passes (task_reason t) ≡ is_running t
running None = refl
running (Some t) = passes-if (is_some t.end) reason.TheVariants.TaskEnded

ready : (w : NodeWait) → passes (wait_reason w) ≡ is_ready w
ready wait.TheVariants.None = refl
ready (wait.TheVariants.Reading word) = refl
ready (wait.TheVariants.Filled word) = refl
ready (wait.TheVariants.Locking lock) = refl

nothing : (w : NodeWait) → passes (wait_reason w) && passes (filled_reason w) ≡ waits_for_nothing w
nothing wait.TheVariants.None = refl
nothing (wait.TheVariants.Reading word) = refl
nothing (wait.TheVariants.Filled word) = refl
nothing (wait.TheVariants.Locking lock) = refl

settled : (n : NodeParts) → passes (pending_reason n) ≡ is_settled n
settled n = by_test (is_settled n) where
  by_test : (b : Bool) → passes (cond b None (Some reason.TheVariants.HasPending)) ≡ b
  by_test true = refl
  by_test false = refl

accesses : (n : NodeParts) (word : WordId) (o : Option Entry) → passes (access_reason n word o) ≡ may_access n word.0 o
accesses n word None = by_room (has_room n.cache word.0) where
  by_room : (b : Bool) → passes (cond b None (Some (reason.TheVariants.NoRoom word))) ≡ b
  by_room true = refl
  by_room false = refl
accesses n word (Some (Valid value marked)) = refl
accesses n word (Some (Registered value pending)) = refl
accesses n word (Some (Leaving value)) = refl

letting : (n : NodeParts) (needs : Need) → passes (need_reason n (Some needs)) ≡ lets n (Some needs)
letting n need.TheVariants.Local = refl
letting n (need.TheVariants.End cause) = refl
letting n (need.TheVariants.Acquire lock) = refl
letting n (need.TheVariants.Release lock) = settled n
letting n (need.TheVariants.Load word) = accesses n word (entry_of n word.0)
letting n (need.TheVariants.Store word whole) = accesses n word (entry_of n word.0)

evictable : (word : WordId) (o : Option Entry) → passes (entry_reason word o) ≡ may_go o
evictable word None = refl
evictable word (Some (Valid value marked)) = refl
evictable word (Some (Registered value pending)) = passes-if pending (reason.TheVariants.IsPending word)
evictable word (Some (Leaving value)) = refl

makes : (n : NodeParts) (word : WordId) (o : Option WordId) → passes (room_reason n word o) ≡ makes_room n word.0 o
makes n word None = refl
makes n word (Some wanted) = by_set (word.0 % n.cache.sets == wanted.0 % n.cache.sets) where
  by_set : (b : Bool) → passes (cond b (entry_reason word (entry_of n word.0)) (Some (reason.TheVariants.OtherSet word wanted))) ≡ b && may_go (entry_of n word.0)
  by_set true = evictable word (entry_of n word.0)
  by_set false = refl

-- ---- tasks

-- a task goes on exactly where its next instruction needs something
needing : (C : Setting) (n : NodeParts) → is_some n.task ≡ is_some (declared C.program n.phase n.core) → is_running n.task ≡ is_some (need_now C n)
needing C n fit = by_task n.task fit where
  by_end : (t : TaskState) (b : Bool) (d : Option TaskDecl) → true ≡ is_some d → not b ≡ is_some (cond b None (need_by C d t))
  by_end t true d there = refl
  by_end t false None there = absurd (cc)
  by_end t false (Some d) there = refl

  by_task : (o : Option TaskState) → is_some o ≡ is_some (declared C.program n.phase n.core) → is_running o ≡ is_some (need_if C n.phase n.core o)
  by_task None there = refl
  by_task (Some t) there = by_end t (is_some t.end) (declared C.program n.phase n.core) there

-- only a task that goes on needs room
wanting : (C : Setting) (n : NodeParts) (word : WordId) → is_running n.task && makes_room n word.0 (wanted_by n (need_now C n)) ≡ makes_room n word.0 (wanted_by n (need_now C n))
wanting C n word = by_task n.task where
  by_end : (t : TaskState) (b : Bool) → not b && makes_room n word.0 (wanted_by n (cond b None (need_by C (declared C.program n.phase n.core) t)))
      ≡ makes_room n word.0 (wanted_by n (cond b None (need_by C (declared C.program n.phase n.core) t)))
  by_end t true = refl
  by_end t false = refl

  by_task : (o : Option TaskState) → is_running o && makes_room n word.0 (wanted_by n (need_if C n.phase n.core o)) ≡ makes_room n word.0 (wanted_by n (need_if C n.phase n.core o))
  by_task None = refl
  by_task (Some t) = by_end t (is_some t.end)

-- ---- the events of a core

and-false : (b : Bool) → b && false ≡ false
and-false true = refl
and-false false = refl

instr : (C : Setting) (n : NodeParts) → is_some n.task ≡ is_some (declared C.program n.phase n.core) → passes (instr_reason C n) ≡ may_instr C n
instr C n fit =
    passes-or (inactive_reason n) _
    ∙ ap (λ (b : Bool). passes (inactive_reason n) && b) (passes-or (task_reason n.task) _ ∙ ap (λ (b : Bool). passes (task_reason n.task) && b) (passes-or (wait_reason n.waiting) (need_reason n (need_now C n))))
    ∙ same (passes (inactive_reason n)) (is_active n) (passes (task_reason n.task)) (is_some (need_now C n)) (passes (wait_reason n.waiting)) (is_ready n.waiting) (passes (need_reason n (need_now C n)))
    (active n) (running n.task ∙ needing C n fit) (ready n.waiting)
    ∙ by_need (is_active n) (is_ready n.waiting) (need_now C n)
  where
    same : (a b c d e f g : Bool) → a ≡ b → c ≡ d → e ≡ f → a && (c && (e && g)) ≡ b && (d && (f && g))
    same a b c d e f g p q r = rw (p, q, r) refl

    by_need : (a r : Bool) (o : Option Need) → a && (is_some o && (r && passes (need_reason n o))) ≡ a && r && lets n o
    by_need false r o = refl
    by_need true r None = sym (and-false r)
    by_need true r (Some needs) = ap (λ (b : Bool). r && b) (letting n needs)

evict : (C : Setting) (word : WordId) (n : NodeParts) → passes (evict_reason C word n) ≡ may_evict C n word.0
evict C word n =
    passes-or (inactive_reason n) _
    ∙ ap (λ (b : Bool). passes (inactive_reason n) && b)
    (passes-or (task_reason n.task) _
    ∙ ap (λ (b : Bool). passes (task_reason n.task) && b)
    (passes-or (wait_reason n.waiting) _
    ∙ ap (λ (b : Bool). passes (wait_reason n.waiting) && b) (passes-or (filled_reason n.waiting) (room_reason n word (wanted_by n (need_now C n))))))
    ∙ same (passes (inactive_reason n)) (is_active n) (passes (task_reason n.task)) (is_running n.task) (passes (wait_reason n.waiting)) (passes (filled_reason n.waiting))
    (passes (room_reason n word (wanted_by n (need_now C n)))) (makes_room n word.0 (wanted_by n (need_now C n)))
    (active n) (running n.task) (makes n word (wanted_by n (need_now C n)))
    ∙ joined (is_active n) (is_running n.task) (passes (wait_reason n.waiting)) (passes (filled_reason n.waiting)) (makes_room n word.0 (wanted_by n (need_now C n))) (wanting C n word)
    ∙ ap (λ (b : Bool). is_active n && b && makes_room n word.0 (wanted_by n (need_now C n))) (nothing n.waiting)
  where
    same : (a b c d e f g h : Bool) → a ≡ b → c ≡ d → g ≡ h → a && (c && (e && (f && g))) ≡ b && (d && (e && (f && h)))
    same a b c d e f g h p q r = rw (p, q, r) refl

    without : (a w f : Bool) → a && false ≡ a && (w && f) && false
    without a w f = and-false a ∙ sym (and-false (a && (w && f)))

    joined : (a t w f m : Bool) → t && m ≡ m → a && (t && (w && (f && m))) ≡ a && (w && f) && m
    joined false t w f m is = refl
    joined true true true f m is = refl
    joined true true false f m is = refl
    joined true false w f m is = let none : m ≡ false = sym is in rw none (sym (and-false (w && f)))

arrive : (n : NodeParts) → passes (arrive_reason n) ≡ may_arrive n
arrive n =
    passes-or (inactive_reason n) _
    ∙ ap (λ (b : Bool). passes (inactive_reason n) && b) (passes-or (reason_if (is_running n.task) reason.TheVariants.TaskRuns) (pending_reason n))
    ∙ same (passes (inactive_reason n)) (is_active n) (passes (reason_if (is_running n.task) reason.TheVariants.TaskRuns)) (not (is_running n.task)) (passes (pending_reason n)) (is_settled n)
    (active n) (passes-if (is_running n.task) reason.TheVariants.TaskRuns) (settled n)
  where
    same : (a b c d e f : Bool) → a ≡ b → c ≡ d → e ≡ f → a && (c && e) ≡ b && d && f
    same a b c d e f p q r = rw (p, q, r) (by_first b) where
      by_first : (x : Bool) → x && (d && f) ≡ x && d && f
      by_first true = refl
      by_first false = refl

-- ---- all events

there : (why : NodeParts → Option Reason) (test : NodeParts → Bool) (o : Option NodeParts) → ((n : NodeParts) → o ≡ Some n → passes (why n) ≡ test n)
    → passes (core_reason why o) ≡ when_there test o
there why test None each = refl
there why test (Some n) each = each n refl

-- each node fits the machine
abbrev pub AllFit : State → Type 0
AllFit S = (core : ℕ) (n : NodeParts) → slice_get S.nodes core ≡ Some n → Fits S.setting n

exact : (S : State) (e : Event) → AllFit S → passes (reason_against S e) ≡ enabled S e
unfolding reason_against enabled
exact S (Instr core) fits = there (instr_reason S.setting) (may_instr S.setting) (slice_get S.nodes core.0) (λ (n : NodeParts) is. instr S.setting n (fits core.0 n is).task)
exact S (Evict core word) fits =
    there (evict_reason S.setting word) (λ (n : NodeParts). may_evict S.setting n word.0) (slice_get S.nodes core.0) (λ (n : NodeParts) is. evict S.setting word n)
exact S (Arrive core) fits = there arrive_reason may_arrive (slice_get S.nodes core.0) (λ (n : NodeParts) is. arrive n)
exact S (Handle id) fits = by_mail (has_id id S.mails) where
  by_mail : (b : Bool) → passes (cond b None (Some reason.TheVariants.NoMail)) ≡ b
  by_mail true = refl
  by_mail false = refl

-- no reason exactly where it may come
pub none-exactly : (S : State) (e : Event) → AllFit S → (reason_against S e ≡ None) ↔ (enabled S e ≡ true)
none-exactly S e fits =
    ((λ none. sym (exact S e fits) ∙ ap passes none), (λ may. by_reason (reason_against S e) (exact S e fits ∙ may)))
  where
    by_reason : (o : Option Reason) → passes o ≡ true → o ≡ None
    by_reason None is = refl
    by_reason (Some r) is = absurd (cc)
