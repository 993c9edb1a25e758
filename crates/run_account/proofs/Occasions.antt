-- When copies go: at a Go that begins a phase, and at a Grant that the core waits for.
use Rattle.std.proofs.Common.{◌≡◌, ◌==◌, Bool, true, false, cond, List, [], ◌∷◌, ◌++◌, slice_get, Option, Some, None, refl, sym, ap, ◌∙◌, arith}
use Rattle.std.specs.Prelude.{◌&&◌, flat_map}
use Rattle.std.specs.List.{fold}
use Rattle.std.specs.Option.{is_some}
use Rattle.std.proofs.lemmas.Bool.Decides.{nat_tests}
use Rattle.dn_base.specs.declared.ids.LockId.{LockId}
use Rattle.dn_base.specs.declared.ids.WordId.{WordId}
use Rattle.dn_base.specs.declared.ids.PhaseId.{PhaseId}
use Rattle.dn_base.specs.declared.ids.Grant.{Grant as Granted}
use Rattle.region_table.specs.declared.interval.Interval.{Interval}
use Rattle.rv_core.specs.declared.task.TaskState.{TaskState}
use Rattle.write_signature.specs.declared.signature.Signature.{Signature}
use Rattle.message_net.specs.declared.message.Message.TheVariants as message
use Rattle.word_cache.specs.declared.row.Entry.{Entry}
use Rattle.word_cache.specs.declared.row.Entry.TheVariants.{Valid, Registered, Leaving}
use Rattle.word_cache.specs.Cache.{Pair}
use Rattle.registration_protocol.specs.declared.node.NodeWait.{NodeWait}
use Rattle.registration_protocol.specs.declared.node.NodeWait.TheVariants as wait
use Rattle.registration_protocol.specs.Node.{NodeParts, Setting}
use Rattle.registration_protocol.specs.Messages.{node_gets, becomes, begins, grant_row, granted_to, written_in, guarded_by}
use Rattle.machine_rules.specs.State.{State}
use Rattle.run_account.specs.declared.item.Item.{Item}
use Rattle.run_account.specs.Tallies.{with_items}
use Rattle.run_account.specs.declared.departure.Occasion.{Occasion}
use Rattle.run_account.specs.declared.departure.Occasion.TheVariants.{Go, Grant}
use Rattle.run_account.specs.Departures.{Departures}
use Rattle.run_account.specs.Events.{pair_items, copies_items, phase_items, lock_items}
use Rattle.run_account.specs.Account.{Accounted}
use Rattle.run_account.specs.Copies.{gone_pair}
use Rattle.run_account.specs.Moves.{copies_depart, phase_departs, lock_departs, begins_now, waits_now}

-- the account once the copies of these words were looked at
abbrev pub swept : State → NodeParts → Occasion → List Interval → Accounted → Accounted
swept S n o words A = record A { tallies = with_items A.tallies (copies_items S n o words); departures = copies_depart n o words A.departures }

-- the account once a Go, and a Grant, were looked at
abbrev pub after_go : State → NodeParts → PhaseId → Accounted → Accounted
after_go S n phase A = record A {
  tallies = with_items A.tallies (phase_items S n (node_gets S.setting n (message.Go phase)).0);
  departures = phase_departs S.setting A.departures n (node_gets S.setting n (message.Go phase)).0;
}

abbrev pub after_grant : State → NodeParts → LockId → Signature → Accounted → Accounted
after_grant S n lock signature A = record A {
  tallies = with_items A.tallies (lock_items S n signature (node_gets S.setting n (message.Grant lock signature)).1.granted);
  departures = lock_departs S.setting A.departures n signature (node_gets S.setting n (message.Grant lock signature)).1.granted;
}

-- without words nothing is counted
no-item : (S : State) (n : NodeParts) (o : Occasion) (p : Pair) → pair_items S n o [] p ≡ []
no-item S n o p = by_kind o p.0 p.1 where
  by_kind : (o : Occasion) (w : WordId) (e : Entry) → pair_items S n o [] (w, e) ≡ []
  by_kind Go w (Valid value true) = refl
  by_kind Go w (Valid value false) = refl
  by_kind Go w (Registered value pending) = refl
  by_kind Go w (Leaving value) = refl
  by_kind (Grant s) w (Valid value marked) = refl
  by_kind (Grant s) w (Registered value pending) = refl
  by_kind (Grant s) w (Leaving value) = refl

no-items : (S : State) (n : NodeParts) (o : Occasion) (ps : List Pair) → flat_map (pair_items S n o []) ps ≡ []
no-items S n o [] = refl
no-items S n o (p ∷ ps) = ap (λ (xs : List Item). xs ++ flat_map (pair_items S n o []) ps) (no-item S n o p) ∙ no-items S n o ps

no-pair : (n : NodeParts) (o : Occasion) (D : Departures) (p : Pair) → gone_pair n o [] D p ≡ D
no-pair n o D p = by_kind o p.0 p.1 where
  by_kind : (o : Occasion) (w : WordId) (e : Entry) → gone_pair n o [] D (w, e) ≡ D
  by_kind Go w (Valid value true) = refl
  by_kind Go w (Valid value false) = refl
  by_kind Go w (Registered value pending) = refl
  by_kind Go w (Leaving value) = refl
  by_kind (Grant s) w (Valid value marked) = refl
  by_kind (Grant s) w (Registered value pending) = refl
  by_kind (Grant s) w (Leaving value) = refl

no-pairs : (n : NodeParts) (o : Occasion) (D : Departures) (ps : List Pair) → fold (gone_pair n o []) D ps ≡ D
no-pairs n o D [] = refl
no-pairs n o D (p ∷ ps) = ap (λ (E : Departures). fold (gone_pair n o []) E ps) (no-pair n o D p) ∙ no-pairs n o D ps

unswept : (S : State) (n : NodeParts) (o : Occasion) (A : Accounted) → A ≡ swept S n o [] A
unswept S n o A =
    sym (ap (λ (xs : List Item). record A { tallies = with_items A.tallies xs; departures = copies_depart n o [] A.departures }) (no-items S n o n.cache.pairs)
    ∙ ap (λ (D : Departures). record A { departures = D }) (no-pairs n o A.departures n.cache.pairs))

-- ---- a Go

go-row : (S : State) (n : NodeParts) (phase : PhaseId) (t : Bool) → begins_now S.setting n phase.0 ≡ t
    → (node_gets S.setting n (message.Go phase)).0 ≡ cond t (begins S.setting n phase.0) n
unfolding node_gets
go-row S n phase true e = rw e refl
go-row S n phase false e = rw e refl

pub go_swept : (S : State) (n : NodeParts) (phase : PhaseId) (A B : Accounted) (words : List Interval) → begins_now S.setting n phase.0 ≡ true
    → words ≡ written_in (slice_get S.setting.plans n.phase) → B ≡ swept S n Go words A → B ≡ after_go S n phase A
go_swept S n phase A B words begun are is =
    is ∙ ap (λ (ws : List Interval). swept S n Go ws A) are
    ∙ ap (λ (t : Bool). record A { tallies = with_items A.tallies (cond t [] (copies_items S n Go written)); departures = cond t A.departures (copies_depart n Go written A.departures) }) (sym next)
    ∙ ap (λ (after : NodeParts). record A { tallies = with_items A.tallies (phase_items S n after); departures = phase_departs S.setting A.departures n after }) (sym (go-row S n phase true begun))
  where
    written : List Interval
    written = written_in (slice_get S.setting.plans n.phase)

    next : (phase.0 == n.phase) ≡ false
    next = grind (arith, nat_tests, begun)

pub go_none : (S : State) (n : NodeParts) (phase : PhaseId) (A : Accounted) → begins_now S.setting n phase.0 ≡ false → A ≡ after_go S n phase A
go_none S n phase A isnt =
    ap (λ (t : Bool). record A { tallies = with_items A.tallies (cond t [] (copies_items S n Go written)); departures = cond t A.departures (copies_depart n Go written A.departures) }) (sym same)
    ∙ ap (λ (after : NodeParts). record A { tallies = with_items A.tallies (phase_items S n after); departures = phase_departs S.setting A.departures n after }) (sym (go-row S n phase false isnt))
  where
    written : List Interval
    written = written_in (slice_get S.setting.plans n.phase)

    same : (n.phase == n.phase) ≡ true
    same = grind (arith, nat_tests)

pub go_no_words : (S : State) (n : NodeParts) (phase : PhaseId) (A : Accounted) → begins_now S.setting n phase.0 ≡ true
    → [] ≡ written_in (slice_get S.setting.plans n.phase) → A ≡ after_go S n phase A
go_no_words S n phase A begun are = go_swept S n phase A A [] begun are (unswept S n Go A)

-- ---- a Grant

abbrev what_is_granted : NodeParts → LockId → Granted
what_is_granted n lock = record { phase = record { 0 = n.phase }; core = record { 0 = n.core }; lock = lock }

granted-is : (C : Setting) (n : NodeParts) (lock : LockId) (signature : Signature) (w : NodeWait) (t : Option TaskState) → n.task ≡ t → waits_now lock w t ≡ true
    → (grant_row C n lock signature w).1.granted ≡ Some (what_is_granted n lock)
granted-is C n lock signature wait.None t task waits = absurd (let e : false ≡ true = waits in cc)
granted-is C n lock signature (wait.Reading word) t task waits = absurd (let e : false ≡ true = waits in cc)
granted-is C n lock signature (wait.Filled word) t task waits = absurd (let e : false ≡ true = waits in cc)
granted-is C n lock signature (wait.Locking wanted) t task waits = by_lock (wanted.0 == lock.0) t task waits where
  by_task : (u v : Option TaskState) → u ≡ v → is_some v ≡ true → (granted_to C n lock signature u).1.granted ≡ Some (what_is_granted n lock)
  by_task None None e some = absurd (let f : false ≡ true = some in cc)
  by_task None (Some v) e some = absurd (let f : None ≡ Some v = e in cc)
  by_task (Some u) v e some = refl

  by_lock : (b : Bool) (t : Option TaskState) → n.task ≡ t → (b && is_some t) ≡ true
      → (cond b (granted_to C n lock signature n.task) (becomes n)).1.granted ≡ Some (what_is_granted n lock)
  by_lock true t e some = by_task n.task t e some
  by_lock false t e some = absurd (let f : false ≡ true = some in cc)

granted-not : (C : Setting) (n : NodeParts) (lock : LockId) (signature : Signature) (w : NodeWait) → waits_now lock w n.task ≡ false
    → (grant_row C n lock signature w).1.granted ≡ None
granted-not C n lock signature wait.None isnt = refl
granted-not C n lock signature (wait.Reading word) isnt = refl
granted-not C n lock signature (wait.Filled word) isnt = refl
granted-not C n lock signature (wait.Locking wanted) isnt = by_lock (wanted.0 == lock.0) n.task isnt where
  by_lock : (b : Bool) (u : Option TaskState) → (b && is_some u) ≡ false → (cond b (granted_to C n lock signature u) (becomes n)).1.granted ≡ None
  by_lock true None isnt = refl
  by_lock true (Some u) isnt = absurd (let f : true ≡ false = isnt in cc)
  by_lock false u isnt = refl

row-is : (S : State) (n : NodeParts) (lock : LockId) (signature : Signature) → (node_gets S.setting n (message.Grant lock signature)).1.granted ≡ (grant_row S.setting n lock signature n.waiting).1.granted
unfolding node_gets
row-is S n lock signature = refl

abbrev by_granted : State → NodeParts → Signature → Accounted → Option Granted → Accounted
by_granted S n signature A granted = record A { tallies = with_items A.tallies (lock_items S n signature granted); departures = lock_departs S.setting A.departures n signature granted }

pub grant_swept : (S : State) (n : NodeParts) (lock : LockId) (signature : Signature) (A B : Accounted) (words : List Interval) → waits_now lock n.waiting n.task ≡ true
    → words ≡ guarded_by (slice_get S.setting.plans n.phase) lock.0 → B ≡ swept S n (Grant signature) words A → B ≡ after_grant S n lock signature A
grant_swept S n lock signature A B words waits are is =
    is ∙ ap (λ (ws : List Interval). swept S n (Grant signature) ws A) are
    ∙ ap (λ (g : Option Granted). by_granted S n signature A g) (sym (row-is S n lock signature ∙ granted-is S.setting n lock signature n.waiting n.task refl waits))

pub grant_none : (S : State) (n : NodeParts) (lock : LockId) (signature : Signature) (A : Accounted) → waits_now lock n.waiting n.task ≡ false → A ≡ after_grant S n lock signature A
grant_none S n lock signature A isnt =
    ap (λ (g : Option Granted). by_granted S n signature A g) (sym (row-is S n lock signature ∙ granted-not S.setting n lock signature n.waiting isnt))

pub grant_no_words : (S : State) (n : NodeParts) (lock : LockId) (signature : Signature) (A : Accounted) → waits_now lock n.waiting n.task ≡ true
    → [] ≡ guarded_by (slice_get S.setting.plans n.phase) lock.0 → A ≡ after_grant S n lock signature A
grant_no_words S n lock signature A waits are = grant_swept S n lock signature A A [] waits are (unswept S n (Grant signature) A)
