-- What a node waits for that has nothing to do by itself.
use Rattle.std.proofs.Common.{◌≡◌, ℕ, ◌<◌, ◌%◌, ◌==◌, Bool, true, false, not, ◌&&◌, cond, Option, Some, None, inl, inr, refl, sym, ap, ◌∙◌, subst, arith}
use Rattle.std.proofs.lemmas.Bool.{and_from}
use Rattle.std.proofs.lemmas.Bool.Decides.{nat_tests}
use Rattle.std.specs.Option.{is_some}
use Rattle.dn_base.specs.declared.ids.WordId.{WordId}
use Rattle.region_table.specs.Tasks.{declared}
use Rattle.region_table.specs.declared.declared.TaskDecl.{TaskDecl}
use Rattle.rv_core.specs.declared.task.TaskState.{TaskState}
use Rattle.rv_core.specs.declared.task.End.{End}
use Rattle.rv_core.specs.declared.need.Need as need
use Rattle.rv_core.specs.declared.need.Need.{Need}
use Rattle.word_cache.specs.declared.row.Entry.{Entry}
use Rattle.word_cache.specs.declared.row.Entry.TheVariants.{Valid, Registered, Leaving}
use Rattle.word_cache.specs.Cache.{IsCache, is_stuck, may_go, victim_of, pending_bit, pending_count}
use Rattle.word_cache.proofs.WeightLemmas.{pending-some}
use Rattle.word_cache.proofs.CacheLaws.{victim-goes, full-blocked}
use Rattle.registration_protocol.specs.declared.node.NodeWait as wait
use Rattle.registration_protocol.specs.declared.node.NodeWait.{NodeWait}
use Rattle.registration_protocol.specs.Node.{NodeParts, Setting, need_now, need_if, need_by, entry_of, is_running, is_settled, is_active, is_ready, waits_for_nothing}
use Rattle.registration_protocol.specs.Fit.{Fits}
use Rattle.registration_protocol.specs.OwnEvents.{may_access, lets, makes_room, wanted_by, crowded, IsStill}
use Rattle.registration_protocol.specs.Parts.{IsStuckAt, IsWaiting}

-- an entry that is pending is stuck
pending_stuck : (e : Option Entry) → pending_bit e ≡ 1 → is_stuck e ≡ true
pending_stuck None is = absurd (omega (arith, is))
pending_stuck (Some (Valid value marked)) is = absurd (omega (arith, is))
pending_stuck (Some (Registered value true)) is = refl
pending_stuck (Some (Registered value false)) is = absurd (omega (arith, is))
pending_stuck (Some (Leaving value)) is = absurd (omega (arith, is))

unsettled : (n : NodeParts) → IsCache n.cache → is_settled n ≡ false → IsStuckAt n
unsettled n good not_yet =
    let some : 0 < pending_count n.cache.pairs = grind (arith, nat_tests) in
    let found = pending-some n.cache.pairs good.apart some in
    (found.0, pending_stuck (entry_of n found.0) found.1)

-- an access that may not go on, where nothing may be evicted for it
blocked : (C : Setting) (n : NodeParts) (word : WordId) (e : Option Entry) → IsCache n.cache → 0 < n.cache.ways → entry_of n word.0 ≡ e → may_access n word.0 e ≡ false
    → ((w : ℕ) → makes_room n w (crowded n word) ≡ false) → IsStuckAt n
blocked C n word (Some (Valid value marked)) good some is may none = absurd (cc)
blocked C n word (Some (Registered value pending)) good some is may none = absurd (cc)
blocked C n word (Some (Leaving value)) good some is may none = (word.0, rw is refl)
blocked C n word None good some is may none = by_victim (victim_of n.cache word.0) refl
  where
    wants : crowded n word ≡ Some word
    wants = rw (is, may) refl

    by_victim : (o : Option WordId) → victim_of n.cache word.0 ≡ o → IsStuckAt n
    by_victim None lacks = let found = full-blocked n.cache word.0 good some may lacks in (found.word, found.stuck)
    by_victim (Some v) has =
        let goes = victim-goes n.cache word.0 v good has in
        let same : (v.0 % n.cache.sets == word.0 % n.cache.sets) ≡ true = grind (arith, nat_tests, goes.1) in
        let room : makes_room n v.0 (Some word) ≡ true = and_from _ (may_go (entry_of n v.0)) same goes.0 in
        let never : makes_room n v.0 (Some word) ≡ false = subst (λ (o : Option WordId). makes_room n v.0 o ≡ false) wants (none v.0) in
        absurd (cc)

-- the need of a task that goes on and may not
needed : (C : Setting) (n : NodeParts) (x : Need) → IsCache n.cache → 0 < n.cache.ways → lets n (Some x) ≡ false → ((w : ℕ) → makes_room n w (wanted_by n (Some x)) ≡ false) → IsStuckAt n
needed C n need.TheVariants.Local good some may none = absurd (cc)
needed C n (need.TheVariants.End by) good some may none = absurd (cc)
needed C n (need.TheVariants.Acquire lock) good some may none = absurd (cc)
needed C n (need.TheVariants.Release lock) good some may none = unsettled n good may
needed C n (need.TheVariants.Load word) good some may none = blocked C n word (entry_of n word.0) good some refl may none
needed C n (need.TheVariants.Store word whole) good some may none = blocked C n word (entry_of n word.0) good some refl may none

off : (a b : Bool) → a ≡ true → (a && b) ≡ false → b ≡ false
off true b e is = is
off false b e is = absurd (cc)

-- without a need no task goes on
without_need : (C : Setting) (n : NodeParts) → Fits C n → need_now C n ≡ None → is_running n.task ≡ false
without_need C n fit none = by_task n.task refl
  where
    by_end : (t : TaskState) (e : Option End) (o : Option TaskDecl) → t.end ≡ e → declared C.program n.phase n.core ≡ o → is_some o ≡ true → cond (is_some e) None (need_by C o t) ≡ None → not (is_some e) ≡ false
    by_end t (Some by) o ended there has now = refl
    by_end t None None ended there has now = absurd (cc)
    by_end t None (Some d) ended there has now = absurd (cc)

    by_task : (o : Option TaskState) → n.task ≡ o → is_running o ≡ false
    by_task None has = refl
    by_task (Some t) has =
        let now : need_if C n.phase n.core (Some t) ≡ None = subst (λ (o : Option TaskState). need_if C n.phase n.core o ≡ None) has none in
        let there : is_some (declared C.program n.phase n.core) ≡ true = sym fit.task ∙ ap is_some has in
        by_end t t.end (declared C.program n.phase n.core) refl refl there now

-- a node that is neither halted nor has arrived, and has nothing to do by itself
pub still-waits : (C : Setting) (n : NodeParts) → Fits C n → 0 < C.shape.ways → n.arrived ≡ false → n.halted ≡ false → IsStill C n
    → ((word : WordId) → n.waiting ≡ wait.TheVariants.Filled word → lets n (need_now C n) ≡ true) → IsWaiting n
still-waits C n fit some arrived halted still filled = by_wait n.waiting refl
  where
    active : is_active n ≡ true
    active = rw (halted, arrived) refl

    ways : 0 < n.cache.ways
    ways = subst (λ (k : ℕ). 0 < k) (sym fit.ways) some

    stuck : (p : Option Need) → need_now C n ≡ p → n.waiting ≡ wait.TheVariants.None → lets n p ≡ false → IsStuckAt n
    stuck None now waits may =
        let done = without_need C n fit now in
        let first : (is_active n && not (is_running n.task)) ≡ true = rw (active, done) refl in
        unsettled n fit.cache (off (is_active n && not (is_running n.task)) (is_settled n) first still.arrive)
    stuck (Some x) now waits may =
        let idle : (is_active n && waits_for_nothing n.waiting) ≡ true = rw (active, waits) refl in
        let none : (w : ℕ) → makes_room n w (wanted_by n (Some x)) ≡ false =
        λ w. subst (λ (p : Option Need). makes_room n w (wanted_by n p) ≡ false) now (off (is_active n && waits_for_nothing n.waiting) (makes_room n w (wanted_by n (need_now C n))) idle (still.evict w)) in
        needed C n x fit.cache ways may none

    by_wait : (w : NodeWait) → n.waiting ≡ w → IsWaiting n
    by_wait (wait.TheVariants.Reading word) is = inl (word, is)
    by_wait (wait.TheVariants.Locking lock) is = inr (inl (lock, is))
    by_wait (wait.TheVariants.Filled word) is =
        let ready : (is_active n && is_ready n.waiting) ≡ true = rw (active, is) refl in
        let may : lets n (need_now C n) ≡ false = off (is_active n && is_ready n.waiting) (lets n (need_now C n)) ready still.instr in
        let goes = filled word is in
        absurd (cc)
    by_wait wait.TheVariants.None is =
        let ready : (is_active n && is_ready n.waiting) ≡ true = rw (active, is) refl in
        let may : lets n (need_now C n) ≡ false = off (is_active n && is_ready n.waiting) (lets n (need_now C n)) ready still.instr in
        inr (inr (stuck (need_now C n) refl is may))
