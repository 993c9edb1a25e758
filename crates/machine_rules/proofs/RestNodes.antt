-- Where no event may come no mail is in flight, and a node whose task goes on waits for a lock.
use Rattle.std.proofs.Common.{◌≡◌, inl, inr, ℕ, ◌%◌, ◌<◌, ◌≤◌, ◌==◌, not, Bool, true, false, List, [], ◌∷◌, slice_get, sum_by, Option, Some, None, refl, sym, ap, subst, ◌∙◌, arith}
use Rattle.std.specs.Option.{is_some}
use Rattle.std.proofs.lemmas.Bool.Decides.{nat_tests}
use Rattle.dn_base.specs.declared.ids.WordId.{WordId}
use Rattle.dn_base.specs.declared.ids.LockId.{LockId}
use Rattle.region_table.specs.declared.declared.TaskDecl.{TaskDecl}
use Rattle.region_table.specs.Tasks.{declared}
use Rattle.rv_core.specs.declared.task.End.{End as Ended}
use Rattle.rv_core.specs.declared.task.TaskState.{TaskState}
use Rattle.rv_core.specs.declared.need.Need as need
use Rattle.rv_core.specs.declared.need.Need.{Need}
use Rattle.rv_core.specs.Need.{need_of}
use Rattle.message_net.specs.declared.event.Event.TheVariants.{Handle}
use Rattle.message_net.specs.declared.message.Mail.{Mail}
use Rattle.message_net.specs.Pool.{count_of, of_id}
use Rattle.word_cache.specs.declared.row.Entry.{Entry}
use Rattle.word_cache.specs.declared.row.Entry.TheVariants.{Valid, Registered, Leaving}
use Rattle.word_cache.specs.Cache.{has_room, victim_of, is_stuck}
use Rattle.word_cache.proofs.CacheLaws.{IsBlocked, full-blocked, victim-goes}
use Rattle.word_cache.proofs.WeightLemmas.{pending-none}
use Rattle.registration_protocol.specs.declared.node.NodeWait as wait
use Rattle.registration_protocol.specs.declared.node.NodeWait.{NodeWait}
use Rattle.registration_protocol.specs.Node.{NodeParts, Setting, entry_of, need_now, is_running, is_settled, is_active, is_ready}
use Rattle.registration_protocol.specs.Fit.{Fits}
use Rattle.registration_protocol.specs.OwnEvents.{may_instr, may_evict, may_arrive, may_access, lets, crowded, wanted_by}
use Rattle.machine_rules.specs.State.{State, entry_in}
use Rattle.machine_rules.specs.Flight.{Test, flight, mail_count, is_reg_req_of, is_reg_fwd_of, is_reg_ack_to, is_write_back_of, is_wb_ack_to, is_read_req_of, is_read_fwd_of, is_data_reply_to}
use Rattle.machine_rules.specs.Next.{enabled}
use Rattle.machine_rules.specs.Runs.{IsOver}
use Rattle.machine_rules.specs.Coherent.{NeedsValue}
use Rattle.machine_rules.proofs.Bits.{pending_bit, leaving_bit, reading_in}
use Rattle.machine_rules.proofs.Invariant.{Invariant}
use Rattle.machine_rules.proofs.WordCore.{same-number}
use Rattle.machine_rules.proofs.Exclusive.{pending-pair}
use Rattle.message_net.proofs.PoolLemmas.{place-counted, same_id-refl}

-- no mail is in flight
abbrev pub IsQuiet : State → Type 0
IsQuiet S = (p : Test) → flight S p ≡ 0

pub mail-enabled : (S : State) (m : Mail) → slice_get S.mails 0 ≡ Some m → enabled S (Handle m.id) ≡ true
unfolding enabled
mail-enabled S m there =
    let one : 1 ≤ count_of m.id S.mails = place-counted (of_id m.id) S.mails 0 m there (same_id-refl m.id) in
    grind (arith, nat_tests, one)

pub over-quiet : (S : State) → IsOver S → IsQuiet S
over-quiet S over p = by_mails S.mails refl where
  by_mails : (ms : List Mail) → S.mails ≡ ms → flight S p ≡ 0
  by_mails [] is = ap (sum_by (mail_count p)) is
  by_mails (m ∷ ms) is =
      let may = mail-enabled S m (ap (λ (xs : List Mail). slice_get xs 0) is) in
      let never = over (Handle m.id) in
      absurd (cc)

-- a node of a state in which no event may come, which is neither at the barrier nor halted
pub record IsIdle (S : State) (M : ℕ → ℕ) (c : ℕ) (n : NodeParts) : Type 0 where
  pub inv : Invariant S M
  pub quiet : IsQuiet S
  pub found : slice_get S.nodes c ≡ Some n
  pub awake : n.halted ≡ false
  pub absent : n.arrived ≡ false
  pub instr : may_instr S.setting n ≡ false
  pub evict : (w : ℕ) → may_evict S.setting n w ≡ false
  pub arrive : may_arrive n ≡ false

-- none of its entries is pending or leaving
no-pending : (S : State) (M : ℕ → ℕ) (c : ℕ) (n : NodeParts) → IsIdle S M c n → (w : ℕ) → pending_bit (entry_of n w) ≡ 0
no-pending S M c n h w = omega (arith, h.inv.words.row w c, h.quiet (is_reg_req_of w c), h.quiet (is_reg_fwd_of w c), h.quiet (is_reg_ack_to w c), ap pending_bit (ap (entry_in w) h.found))

no-leaving : (S : State) (M : ℕ → ℕ) (c : ℕ) (n : NodeParts) → IsIdle S M c n → (w : ℕ) → leaving_bit (entry_of n w) ≡ 0
no-leaving S M c n h w = omega (arith, h.inv.words.row w c, h.quiet (is_write_back_of w c), h.quiet (is_wb_ack_to w c), ap leaving_bit (ap (entry_in w) h.found))

all-settled : (S : State) (M : ℕ → ℕ) (c : ℕ) (n : NodeParts) → IsIdle S M c n → is_settled n ≡ true
all-settled S M c n h =
    let none = pending-none n.cache.pairs (((h.inv.machine.node c n h.found).fits).cache).apart (λ w. sym (pending-pair (entry_of n w)) ∙ no-pending S M c n h w) in
    rw (none) refl

active : (S : State) (M : ℕ → ℕ) (c : ℕ) (n : NodeParts) → IsIdle S M c n → is_active n ≡ true
active S M c n h = rw (h.awake, h.absent) refl

-- its task goes on
pub still-goes : (S : State) (M : ℕ → ℕ) (c : ℕ) (n : NodeParts) → IsIdle S M c n → is_running n.task ≡ true
still-goes S M c n h = by_task (is_running n.task) refl where
  by_task : (x : Bool) → is_running n.task ≡ x → is_running n.task ≡ true
  by_task true e = e
  by_task false e =
      let may : may_arrive n ≡ true = rw (active S M c n h, e, all-settled S M c n h) refl in
      let never = h.arrive in
      absurd (cc)

-- a task that goes on has a next instruction
has-need : (C : Setting) (n : NodeParts) → is_running n.task ≡ true → is_some n.task ≡ is_some (declared C.program n.phase n.core) → (x : Need) × (need_now C n ≡ Some x)
has-need C n goes same = by_task n.task refl goes same where
  by_decl : (t : TaskState) → n.task ≡ Some t → t.end ≡ None → (o : Option TaskDecl) → declared C.program n.phase n.core ≡ o → true ≡ is_some o → (x : Need) × (need_now C n ≡ Some x)
  by_decl t is open' None e one = absurd (cc)
  by_decl t is open' (Some d) e one = (need_of C.program d C.fuel t, rw (is, open', e) refl)

  by_end : (t : TaskState) → n.task ≡ Some t → (o : Option Ended) → t.end ≡ o → not (is_some o) ≡ true → true ≡ is_some (declared C.program n.phase n.core) → (x : Need) × (need_now C n ≡ Some x)
  by_end t is (Some by) e going one = absurd (cc)
  by_end t is None e going one = by_decl t is e (declared C.program n.phase n.core) refl one

  by_task : (o : Option TaskState) → n.task ≡ o → is_running o ≡ true → is_some o ≡ is_some (declared C.program n.phase n.core) → (x : Need) × (need_now C n ≡ Some x)
  by_task None is going one = absurd (cc)
  by_task (Some t) is going one = by_end t is t.end refl going one

-- an instruction that uses a word
record UsesWord (S : State) (n : NodeParts) (x : Need) (word : WordId) : Type 0 where
  now : need_now S.setting n ≡ Some x
  access : lets n (Some x) ≡ may_access n word.0 (entry_of n word.0)
  wanted : wanted_by n (Some x) ≡ crowded n word
  only : (v : WordId) → NeedsValue S n v → v ≡ word

load-uses : (S : State) (n : NodeParts) (word : WordId) → need_now S.setting n ≡ Some (need.TheVariants.Load word) → UsesWord S n (need.TheVariants.Load word) word
load-uses S n word now = record { now = now; access = refl; wanted = refl; only = only } where
  only : (v : WordId) → NeedsValue S n v → v ≡ word
  only v (inl is) = let same : Some (need.TheVariants.Load word) ≡ Some (need.TheVariants.Load v) = sym now ∙ is in cc
  only v (inr is) = let same : Some (need.TheVariants.Load word) ≡ Some (need.TheVariants.Store v false) = sym now ∙ is in absurd (cc)

store-uses : (S : State) (n : NodeParts) (word : WordId) (whole : Bool) → need_now S.setting n ≡ Some (need.TheVariants.Store word whole) → UsesWord S n (need.TheVariants.Store word whole) word
store-uses S n word whole now = record { now = now; access = refl; wanted = refl; only = only } where
  only : (v : WordId) → NeedsValue S n v → v ≡ word
  only v (inl is) = let same : Some (need.TheVariants.Store word whole) ≡ Some (need.TheVariants.Load v) = sym now ∙ is in absurd (cc)
  only v (inr is) = let same : Some (need.TheVariants.Store word whole) ≡ Some (need.TheVariants.Store v false) = sym now ∙ is in cc

-- a set that is full has an entry that may go
no-block : (S : State) (M : ℕ → ℕ) (c : ℕ) (n : NodeParts) (word : WordId) → IsIdle S M c n → IsBlocked n.cache word.0 → ⊥
no-block S M c n word h b = by_entry (entry_of n b.word) refl b.stuck where
  by_entry : (o : Option Entry) → entry_of n b.word ≡ o → is_stuck o ≡ true → ⊥
  by_entry None is stuck = absurd (cc)
  by_entry (Some (Valid value marked)) is stuck = absurd (cc)
  by_entry (Some (Registered value true)) is stuck = omega (arith, no-pending S M c n h b.word, ap pending_bit is)
  by_entry (Some (Registered value false)) is stuck = absurd (cc)
  by_entry (Some (Leaving value)) is stuck = omega (arith, no-leaving S M c n h b.word, ap leaving_bit is)

-- a word without a place is given one
full-goes : (S : State) (M : ℕ → ℕ) (c : ℕ) (n : NodeParts) (x : Need) (word : WordId) → IsIdle S M c n → UsesWord S n x word → n.waiting ≡ wait.TheVariants.None → entry_of n word.0 ≡ None → has_room n.cache word.0 ≡ false → ⊥
full-goes S M c n x word h uses waits none full = by_victim (victim_of n.cache word.0) refl where
  fits : Fits S.setting n
  fits = (h.inv.machine.node c n h.found).fits

  some_ways : 0 < n.cache.ways
  some_ways = omega (arith, h.inv.machine.context.some_ways, fits.ways)

  wants : wanted_by n (need_now S.setting n) ≡ Some word
  wants = ap (wanted_by n) uses.now ∙ (uses.wanted ∙ rw (none, full) refl)

  by_victim : (o : Option WordId) → victim_of n.cache word.0 ≡ o → ⊥
  by_victim None is = no-block S M c n word h (full-blocked n.cache word.0 fits.cache some_ways full is)
  by_victim (Some v) is =
      let goes = victim-goes n.cache word.0 v fits.cache is in
      let set : (v.0 % n.cache.sets == word.0 % n.cache.sets) ≡ true = grind (arith, nat_tests, goes.1) in
      let may : may_evict S.setting n v.0 ≡ true = rw (active S M c n h, waits, wants, set, goes.0) refl in
      let never = h.evict v.0 in
      absurd (cc)

-- so an instruction that uses a word may go on
word-goes : (S : State) (M : ℕ → ℕ) (c : ℕ) (n : NodeParts) (x : Need) (word : WordId) → IsIdle S M c n → UsesWord S n x word → is_ready n.waiting ≡ true → (lets n (Some x) ≡ true → ⊥) → ⊥
word-goes S M c n x word h uses ready never = by_entry (entry_of n word.0) refl where
  by_wait : (waiting : NodeWait) → n.waiting ≡ waiting → is_ready waiting ≡ true → entry_of n word.0 ≡ None → has_room n.cache word.0 ≡ false → ⊥
  by_wait wait.TheVariants.None is now none full = full-goes S M c n x word h uses is none full
  by_wait (wait.TheVariants.Filled v) is now none full =
      let filled = h.inv.reads.filled c n v h.found is in
      let here : entry_of n word.0 ≡ Some (Valid filled.0.0 filled.0.1) = subst (λ (y : WordId). entry_of n y.0 ≡ Some (Valid filled.0.0 filled.0.1)) (uses.only v filled.1) filled.0.2 in
      absurd (cc)
  by_wait (wait.TheVariants.Reading v) is now none full = absurd (cc)
  by_wait (wait.TheVariants.Locking lock) is now none full = absurd (cc)

  by_room : (x : Bool) → has_room n.cache word.0 ≡ x → entry_of n word.0 ≡ None → ⊥
  by_room true room none = never (uses.access ∙ (rw (none) room))
  by_room false full none = by_wait n.waiting refl ready none full

  by_entry : (o : Option Entry) → entry_of n word.0 ≡ o → ⊥
  by_entry None is = by_room (has_room n.cache word.0) refl is
  by_entry (Some (Valid value marked)) is = never (uses.access ∙ ap (may_access n word.0) is)
  by_entry (Some (Registered value pending)) is = never (uses.access ∙ ap (may_access n word.0) is)
  by_entry (Some (Leaving value)) is = omega (arith, no-leaving S M c n h word.0, ap leaving_bit is)

-- it waits for a lock
pub waits-lock : (S : State) (M : ℕ → ℕ) (c : ℕ) (n : NodeParts) → IsIdle S M c n → (lock : LockId) × (n.waiting ≡ wait.TheVariants.Locking lock)
waits-lock S M c n h = by_wait n.waiting refl where
  needs : (x : Need) × (need_now S.setting n ≡ Some x)
  needs = has-need S.setting n (still-goes S M c n h) ((h.inv.machine.node c n h.found).fits).task

  never : (x : Need) → need_now S.setting n ≡ Some x → is_ready n.waiting ≡ true → lets n (Some x) ≡ true → ⊥
  never x now ready allows =
      let may : may_instr S.setting n ≡ true = rw (active S M c n h, ready, now, allows) refl in
      let never = h.instr in
      absurd (cc)

  by_need : (x : Need) → need_now S.setting n ≡ Some x → is_ready n.waiting ≡ true → ⊥
  by_need need.TheVariants.Local now ready = never need.TheVariants.Local now ready refl
  by_need (need.TheVariants.End by) now ready = never (need.TheVariants.End by) now ready refl
  by_need (need.TheVariants.Acquire lock) now ready = never (need.TheVariants.Acquire lock) now ready refl
  by_need (need.TheVariants.Release lock) now ready = never (need.TheVariants.Release lock) now ready (all-settled S M c n h)
  by_need (need.TheVariants.Load word) now ready = word-goes S M c n (need.TheVariants.Load word) word h (load-uses S n word now) ready (never (need.TheVariants.Load word) now ready)
  by_need (need.TheVariants.Store word whole) now ready =
      word-goes S M c n (need.TheVariants.Store word whole) word h (store-uses S n word whole now) ready (never (need.TheVariants.Store word whole) now ready)

  by_wait : (waiting : NodeWait) → n.waiting ≡ waiting → (lock : LockId) × (n.waiting ≡ wait.TheVariants.Locking lock)
  by_wait (wait.TheVariants.Locking lock) is = (lock, is)
  by_wait wait.TheVariants.None is = absurd (by_need needs.0 needs.1 (ap is_ready is))
  by_wait (wait.TheVariants.Filled word) is = absurd (by_need needs.0 needs.1 (ap is_ready is))
  by_wait (wait.TheVariants.Reading word) is =
      let reads : reading_in word.0 (slice_get S.nodes c) ≡ 1 = rw (h.found, is, same-number word.0) refl in
      absurd (omega (arith, reads, h.inv.reads.row word.0 c, h.quiet (is_read_req_of word.0 c), h.quiet (is_read_fwd_of word.0 c), h.quiet (is_data_reply_to word.0 c)))
