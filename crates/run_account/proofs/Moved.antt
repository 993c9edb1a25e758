-- Which departures an event brings.
use Rattle.std.proofs.Common.{◌≡◌, ◌≢◌, ℕ, ◌+◌, ◌==◌, Bool, true, false, not, cond, nat_lt, List, length, slice_get, Option, Some, None, refl, sym, ap, ◌∙◌, arith}
use Rattle.std.specs.Prelude.{◌&&◌, ◌||◌}
use Rattle.std.specs.Option.{is_some}
use Rattle.std.proofs.lemmas.Bool.Decides.{nat_tests}
use Rattle.dn_base.specs.declared.ids.CoreId.{CoreId}
use Rattle.dn_base.specs.declared.ids.WordId.{WordId}
use Rattle.dn_base.specs.declared.ids.LockId.{LockId}
use Rattle.region_table.specs.declared.interval.Interval.{Interval}
use Rattle.region_table.specs.Words.{has}
use Rattle.rv_core.specs.declared.task.TaskState.{TaskState}
use Rattle.write_signature.specs.declared.signature.Signature.{Signature}
use Rattle.write_signature.specs.Signature.{may_hold}
use Rattle.message_net.specs.declared.actor.Actor.TheVariants.{Core}
use Rattle.message_net.specs.declared.event.Event.TheVariants.{Evict, Handle}
use Rattle.message_net.specs.declared.actor.MailId.{MailId}
use Rattle.message_net.specs.declared.message.Mail.{Mail}
use Rattle.message_net.specs.declared.message.Message as message
use Rattle.message_net.specs.declared.message.Message.{Message}
use Rattle.message_net.specs.Pool.{removed}
use Rattle.word_cache.specs.declared.row.Entry.{Entry}
use Rattle.word_cache.specs.declared.row.Entry.TheVariants.{Valid, Registered, Leaving}
use Rattle.word_cache.specs.Cache.{lookup, without, changed, is_kept, unmarked, is_valid, AreDifferent}
use Rattle.word_cache.proofs.LookLemmas.{lookup-without, lookup-changed, lookup-dropped_written, lookup-dropped_signed}
use Rattle.registration_protocol.specs.declared.node.NodeWait as wait
use Rattle.registration_protocol.specs.declared.node.NodeWait.{NodeWait}
use Rattle.registration_protocol.specs.Node.{NodeParts, entry_of, keeping}
use Rattle.registration_protocol.specs.OwnEvents.{evicts, evicted}
use Rattle.registration_protocol.specs.Messages.{node_gets, lacking, reg_fwd_row, wb_ack_row, begins, grant_row, granted_to, holds_now, becomes, written_in, guarded_by}
use Rattle.machine_rules.specs.State.{State}
use Rattle.run_account.specs.declared.departure.Departure.{Departure}
use Rattle.run_account.specs.declared.departure.Departure.TheVariants as why
use Rattle.run_account.specs.declared.departure.Occasion.{Occasion}
use Rattle.run_account.specs.declared.departure.Occasion.TheVariants.{Go, Grant}
use Rattle.run_account.specs.Departures.{Departures, departed, departures_with, goes, reason, gone_by_eviction, gone_by_message, gone_in}
use Rattle.run_account.specs.Copies.{has_gone, why_at}
use Rattle.run_account.specs.Moves.{copies_depart, evict_departs, taken_departs, given_departs, phase_departs, lock_departs, message_departs}
use Rattle.run_account.proofs.Gone.{none-gone, one-gone, copies-gone, gone_entry}

-- an entry that is there before and after doesn't go
stays-there : (a b : Bool) → b ≡ a → (a && not b) ≡ false
stays-there true b is = rw is refl
stays-there false b is = refl

pub keep_goes : (n after : NodeParts) (w : ℕ) → is_some (entry_of after w) ≡ is_some (entry_of n w) → goes n after w ≡ false
keep_goes n after w same = stays-there (is_some (entry_of n w)) (is_some (entry_of after w)) same

same-word : (v w : ℕ) → (v == w) ≡ true → v ≡ w
same-word v w e = grind (arith, nat_tests)

-- a word's entry is taken out
pub lack_goes : (n : NodeParts) (word : ℕ) (e : Entry) (w : ℕ) → lookup word n.cache.pairs ≡ Some e → goes n (lacking n word) w ≡ (word == w)
lack_goes n word e w there = by_word (word == w) refl where
  by_word : (t : Bool) → (word == w) ≡ t → (is_some (lookup w n.cache.pairs) && not (is_some (lookup w (without word n.cache.pairs)))) ≡ t
  by_word true is =
      let here : lookup w n.cache.pairs ≡ Some e = rw (sym (same-word word w is)) there in
      rw (lookup-without word w n.cache.pairs, is, here) refl
  by_word false is =
      rw (lookup-without word w n.cache.pairs, is) (stays-there (is_some (lookup w n.cache.pairs)) (is_some (lookup w n.cache.pairs)) refl)

cond-none : (t : Bool) → cond {A = Option Departure} t None None ≡ None
cond-none true = refl
cond-none false = refl

-- ---- evictions

module _ (S : State) (core : CoreId) (word : WordId) (n : NodeParts) (there : slice_get S.nodes core.0 ≡ Some n) (own : n.core ≡ core.0) where
  evict-others : (c w : ℕ) → c ≢ n.core → gone_in S (Evict core word) c w ≡ None
  unfolding gone_in
  evict-others c w other =
      let isnt : (core.0 == c) ≡ false = grind (arith, nat_tests, own, other) in
      rw isnt refl

  evict-at : (c w : ℕ) → c ≡ core.0 → gone_in S (Evict core word) c w ≡ gone_by_eviction S.setting n w (evicted S.setting n word).0
  unfolding gone_in
  evict-at c w same =
      let is : (core.0 == c) ≡ true = grind (arith, nat_tests, same) in
      let here : slice_get S.nodes c ≡ Some n = ap (λ (k : ℕ). slice_get S.nodes k) same ∙ there in
      rw (is, here) refl

  evict-here : (w : ℕ) → gone_in S (Evict core word) n.core w ≡ gone_by_eviction S.setting n w (evicted S.setting n word).0
  evict-here w = evict-at n.core w own

  evict-by : (D : Departures) (e : Option Entry) → entry_of n word.0 ≡ e
      → ((w : ℕ) → gone_in S (Evict core word) n.core w ≡ gone_by_eviction S.setting n w (evicts S.setting n word e).0)
      → departures_with (gone_in S (Evict core word)) D ≡ evict_departs D n word e
  evict-by D e is here = by_entry e is here where
    stays-none : (after : NodeParts) → ((w : ℕ) → gone_in S (Evict core word) n.core w ≡ gone_by_eviction S.setting n w after)
        → ((w : ℕ) → is_some (entry_of after w) ≡ is_some (entry_of n w)) → departures_with (gone_in S (Evict core word)) D ≡ D
    stays-none after at same = none-gone (gone_in S (Evict core word)) D (λ c w. by_core c w (c == n.core) refl) where
      by_core : (c w : ℕ) (t : Bool) → (c == n.core) ≡ t → gone_in S (Evict core word) c w ≡ None
      by_core c w true is = rw (same-word c n.core is) (at w ∙ rw (keep_goes n after w (same w)) refl)
      by_core c w false is = evict-others c w (grind (arith, nat_tests))

    by_entry : (e : Option Entry) → entry_of n word.0 ≡ e
        → ((w : ℕ) → gone_in S (Evict core word) n.core w ≡ gone_by_eviction S.setting n w (evicts S.setting n word e).0)
        → departures_with (gone_in S (Evict core word)) D ≡ evict_departs D n word e
    by_entry None is here = stays-none n here (λ w. refl)
    by_entry (Some (Valid value marked)) is here = one-gone (gone_in S (Evict core word)) D n.core word.0 why.Evicted evict-others
        (λ w. here w ∙ ap (λ (t : Bool). cond t (Some why.Evicted) None) (lack_goes n word.0 (Valid value marked) w is))
    by_entry (Some (Registered value true)) is here = stays-none n here (λ w. refl)
    by_entry (Some (Registered value false)) is here = stays-none (keeping n (changed word.0 (Leaving value) n.cache.pairs)) here (λ w. changed-there w (word.0 == w) refl) where
      changed-there : (w : ℕ) (t : Bool) → (word.0 == w) ≡ t → is_some (lookup w (changed word.0 (Leaving value) n.cache.pairs)) ≡ is_some (lookup w n.cache.pairs)
      changed-there w true same = rw (lookup-changed word.0 w (Leaving value) n.cache.pairs, same, sym (same-word word.0 w same), is) refl
      changed-there w false same = rw (lookup-changed word.0 w (Leaving value) n.cache.pairs, same) refl
    by_entry (Some (Leaving value)) is here = stays-none n here (λ w. refl)

  pub evict-moved : (D : Departures) → departures_with (gone_in S (Evict core word)) D ≡ evict_departs D n word (entry_of n word.0)
  evict-moved D = evict-by D (entry_of n word.0) refl evict-here

-- ---- messages

module _ (S : State) (id : MailId) (m : Mail) (core : CoreId) (n : NodeParts)
    (mail : (removed id S.mails).0 ≡ Some m) (to : m.to ≡ Core core) (there : slice_get S.nodes core.0 ≡ Some n) (own : n.core ≡ core.0) where
  mail-others : (c w : ℕ) → c ≢ n.core → gone_in S (Handle id) c w ≡ None
  unfolding gone_in
  mail-others c w other =
      let isnt : (core.0 == c) ≡ false = grind (arith, nat_tests, own, other) in
      rw (mail, to, isnt) refl

  mail-at : (c w : ℕ) → c ≡ core.0 → gone_in S (Handle id) c w ≡ gone_by_message n w m.message (node_gets S.setting n m.message).0
  unfolding gone_in
  mail-at c w same =
      let is : (core.0 == c) ≡ true = grind (arith, nat_tests, same) in
      let here : slice_get S.nodes c ≡ Some n = ap (λ (k : ℕ). slice_get S.nodes k) same ∙ there in
      rw (mail, to, is, here) refl

  mail-here : (w : ℕ) → gone_in S (Handle id) n.core w ≡ gone_by_message n w m.message (node_gets S.setting n m.message).0
  mail-here w = mail-at n.core w own

  nothing-gone : (D : Departures) (msg : Message) (after : NodeParts) → ((w : ℕ) → gone_in S (Handle id) n.core w ≡ gone_by_message n w msg after)
      → ((w : ℕ) → gone_by_message n w msg after ≡ None) → departures_with (gone_in S (Handle id)) D ≡ D
  nothing-gone D msg after at none = none-gone (gone_in S (Handle id)) D (λ c w. by_core c w (c == n.core) refl) where
    by_core : (c w : ℕ) (t : Bool) → (c == n.core) ≡ t → gone_in S (Handle id) c w ≡ None
    by_core c w true is = rw (same-word c n.core is) (at w ∙ none w)
    by_core c w false is = mail-others c w (grind (arith, nat_tests))

  -- no entry goes by a message that leaves each entry there
  nothing-kept : (D : Departures) (msg : Message) (after : NodeParts) → ((w : ℕ) → gone_in S (Handle id) n.core w ≡ gone_by_message n w msg after)
      → ((w : ℕ) → is_some (entry_of after w) ≡ is_some (entry_of n w)) → departures_with (gone_in S (Handle id)) D ≡ D
  nothing-kept D msg after at same = nothing-gone D msg after at (λ w. rw (keep_goes n after w (same w)) refl)

  lacking-gone : (D : Departures) (msg : Message) (word : ℕ) (e : Entry) (by : Departure) → reason msg ≡ Some by → lookup word n.cache.pairs ≡ Some e
      → ((w : ℕ) → gone_in S (Handle id) n.core w ≡ gone_by_message n w msg (lacking n word)) → departures_with (gone_in S (Handle id)) D ≡ departed D n.core word by
  lacking-gone D msg word e by is entry at = one-gone (gone_in S (Handle id)) D n.core word by mail-others
      (λ w. at w ∙ rw is (ap (λ (t : Bool). cond t (Some by) None) (lack_goes n word e w entry)))

  copies-moved : (D : Departures) (msg : Message) (o : Occasion) (words : List Interval) (after : NodeParts) → reason msg ≡ Some (why_at o) → AreDifferent n.cache.pairs
      → ((w : ℕ) → gone_in S (Handle id) n.core w ≡ gone_by_message n w msg after)
      → ((w : ℕ) (e : Entry) → entry_of n w ≡ Some e → not (is_some (entry_of after w)) ≡ has_gone n o words (record { 0 = w }, e))
      → departures_with (gone_in S (Handle id)) D ≡ copies_depart n o words D
  copies-moved D msg o words after is apart at judged =
      copies-gone n o words (gone_in S (Handle id)) D n.cache.pairs apart mail-others (λ w. at w ∙ by_entry w (lookup w n.cache.pairs) refl)
    where
      by_entry : (w : ℕ) (e : Option Entry) → lookup w n.cache.pairs ≡ e → gone_by_message n w msg after ≡ gone_entry n o words w e
      by_entry w None none = rw none refl
      by_entry w (Some e) some = rw (some, is, judged w e some) refl

  go-moved : (D : Departures) (phase : ℕ) (t : Bool) → AreDifferent n.cache.pairs → (n.arrived && not n.halted && (phase == n.phase + 1) && nat_lt phase (length S.setting.program.phases)) ≡ t
      → ((w : ℕ) → gone_in S (Handle id) n.core w ≡ gone_by_message n w (message.TheVariants.Go (record { 0 = phase })) (cond t (becomes (begins S.setting n phase)) (becomes n)).0)
      → departures_with (gone_in S (Handle id)) D ≡ phase_departs S.setting D n (cond t (becomes (begins S.setting n phase)) (becomes n)).0
  go-moved D phase true apart is at =
      let next : (phase == n.phase) ≡ false = grind (arith, nat_tests, is) in
      rw next (copies-moved D (message.TheVariants.Go (record { 0 = phase })) Go words (begins S.setting n phase) refl apart at judged)
    where
      words : List Interval
      words = written_in (slice_get S.setting.plans n.phase)

      by_test : (e : Entry) (t : Bool) → not (is_some (cond t (Some (unmarked e)) None)) ≡ not t
      by_test e true = refl
      by_test e false = refl

      by_kind : (e : Entry) (t : Bool) → not (is_kept e || not t) ≡ (is_valid e && not (is_kept e || not t))
      by_kind (Valid value marked) t = refl
      by_kind (Registered value pending) t = refl
      by_kind (Leaving value) t = refl

      judged : (w : ℕ) (e : Entry) → entry_of n w ≡ Some e → not (is_some (entry_of (begins S.setting n phase) w)) ≡ has_gone n Go words (record { 0 = w }, e)
      judged w e some = rw (lookup-dropped_written words w n.cache.pairs apart, some) (by_test e (is_kept e || not (has words w)) ∙ by_kind e (has words w))
  go-moved D phase false apart is at =
      let same : (n.phase == n.phase) ≡ true = grind (arith, nat_tests) in
      rw same (nothing-kept D (message.TheVariants.Go (record { 0 = phase })) n at (λ w. refl))

  grant-moved : (D : Departures) (lock : LockId) (signature : Signature) → AreDifferent n.cache.pairs
      → ((w : ℕ) → gone_in S (Handle id) n.core w ≡ gone_by_message n w (message.TheVariants.Grant lock signature) (grant_row S.setting n lock signature n.waiting).0)
      → departures_with (gone_in S (Handle id)) D ≡ lock_departs S.setting D n signature (grant_row S.setting n lock signature n.waiting).1.granted
  grant-moved D lock signature apart at = by_wait n.waiting at where
    words : List Interval
    words = guarded_by (slice_get S.setting.plans n.phase) lock.0

    stays-as : ((w : ℕ) → gone_in S (Handle id) n.core w ≡ gone_by_message n w (message.TheVariants.Grant lock signature) n) → departures_with (gone_in S (Handle id)) D ≡ D
    stays-as at = nothing-kept D (message.TheVariants.Grant lock signature) n at (λ w. refl)

    by_test : (e : Entry) (t : Bool) → not (is_some (cond t None (Some e))) ≡ t
    by_test e true = refl
    by_test e false = refl

    by_kind : (e : Entry) (a b : Bool) → (is_valid e && a && b) ≡ (is_valid e && not (not (is_valid e && a && b)))
    by_kind e a b = all (is_valid e) a b where
      all : (v a b : Bool) → (v && a && b) ≡ (v && not (not (v && a && b)))
      all true true true = refl
      all true true false = refl
      all true false b = refl
      all false a b = refl

    by_task : (t : Option TaskState) → ((w : ℕ) → gone_in S (Handle id) n.core w ≡ gone_by_message n w (message.TheVariants.Grant lock signature) (granted_to S.setting n lock signature t).0)
        → departures_with (gone_in S (Handle id)) D ≡ lock_departs S.setting D n signature (granted_to S.setting n lock signature t).1.granted
    by_task None at = stays-as at
    by_task (Some t) at = copies-moved D (message.TheVariants.Grant lock signature) (Grant signature) words (holds_now S.setting n t lock signature).0 refl apart at judged where
      judged : (w : ℕ) (e : Entry) → entry_of n w ≡ Some e → not (is_some (entry_of (holds_now S.setting n t lock signature).0 w)) ≡ has_gone n (Grant signature) words (record { 0 = w }, e)
      judged w e some =
          rw (lookup-dropped_signed signature n.phase words w n.cache.pairs apart, some)
          (by_test e (is_valid e && has words w && may_hold signature w n.phase) ∙ by_kind e (has words w) (may_hold signature w n.phase))

    by_lock : (wanted : LockId) (t : Bool)
        → ((w : ℕ) → gone_in S (Handle id) n.core w ≡ gone_by_message n w (message.TheVariants.Grant lock signature) (cond t (granted_to S.setting n lock signature n.task) (becomes n)).0)
        → departures_with (gone_in S (Handle id)) D ≡ lock_departs S.setting D n signature (cond t (granted_to S.setting n lock signature n.task) (becomes n)).1.granted
    by_lock wanted true at = by_task n.task at
    by_lock wanted false at = stays-as at

    by_wait : (waiting : NodeWait)
        → ((w : ℕ) → gone_in S (Handle id) n.core w ≡ gone_by_message n w (message.TheVariants.Grant lock signature) (grant_row S.setting n lock signature waiting).0)
        → departures_with (gone_in S (Handle id)) D ≡ lock_departs S.setting D n signature (grant_row S.setting n lock signature waiting).1.granted
    by_wait wait.TheVariants.None at = stays-as at
    by_wait (wait.TheVariants.Reading word) at = stays-as at
    by_wait (wait.TheVariants.Filled word) at = stays-as at
    by_wait (wait.TheVariants.Locking wanted) at = by_lock wanted (wanted.0 == lock.0) at

  taken-moved : (D : Departures) (word : WordId) (by : CoreId) (e : Option Entry) → entry_of n word.0 ≡ e
      → ((w : ℕ) → gone_in S (Handle id) n.core w ≡ gone_by_message n w (message.TheVariants.RegFwd word by) (reg_fwd_row n word by e).0)
      → departures_with (gone_in S (Handle id)) D ≡ taken_departs D n word e
  taken-moved D word by None is at = nothing-kept D (message.TheVariants.RegFwd word by) n at (λ w. refl)
  taken-moved D word by (Some (Valid value marked)) is at = nothing-kept D (message.TheVariants.RegFwd word by) n at (λ w. refl)
  taken-moved D word by (Some (Registered value true)) is at = nothing-kept D (message.TheVariants.RegFwd word by) n at (λ w. refl)
  taken-moved D word by (Some (Registered value false)) is at = lacking-gone D (message.TheVariants.RegFwd word by) word.0 (Registered value false) why.Taken refl is at
  taken-moved D word by (Some (Leaving value)) is at = nothing-kept D (message.TheVariants.RegFwd word by) n at (λ w. refl)

  given-moved : (D : Departures) (word : WordId) (e : Option Entry) → entry_of n word.0 ≡ e
      → ((w : ℕ) → gone_in S (Handle id) n.core w ≡ gone_by_message n w (message.TheVariants.WbAck word) (wb_ack_row n word e).0)
      → departures_with (gone_in S (Handle id)) D ≡ given_departs D n word e
  given-moved D word None is at = nothing-kept D (message.TheVariants.WbAck word) n at (λ w. refl)
  given-moved D word (Some (Valid value marked)) is at = nothing-kept D (message.TheVariants.WbAck word) n at (λ w. refl)
  given-moved D word (Some (Registered value pending)) is at = nothing-kept D (message.TheVariants.WbAck word) n at (λ w. refl)
  given-moved D word (Some (Leaving value)) is at = lacking-gone D (message.TheVariants.WbAck word) word.0 (Leaving value) why.Evicted refl is at

  other-moved : (D : Departures) (msg : Message) → reason msg ≡ None
      → ((w : ℕ) → gone_in S (Handle id) n.core w ≡ gone_by_message n w msg (node_gets S.setting n msg).0) → departures_with (gone_in S (Handle id)) D ≡ D
  other-moved D msg none at =
      nothing-gone D msg (node_gets S.setting n msg).0 at (λ w. rw none (cond-none (goes n (node_gets S.setting n msg).0 w)))

  by_message : (D : Departures) (msg : Message) → AreDifferent n.cache.pairs
      → ((w : ℕ) → gone_in S (Handle id) n.core w ≡ gone_by_message n w msg (node_gets S.setting n msg).0)
      → departures_with (gone_in S (Handle id)) D ≡ message_departs S.setting D n msg
  unfolding node_gets
  by_message D (message.TheVariants.RegFwd word by) apart at = taken-moved D word by (entry_of n word.0) refl at
  by_message D (message.TheVariants.WbAck word) apart at = given-moved D word (entry_of n word.0) refl at
  by_message D (message.TheVariants.Go phase) apart at =
      go-moved D phase.0 (n.arrived && not n.halted && (phase.0 == n.phase + 1) && nat_lt phase.0 (length S.setting.program.phases)) apart refl at
  by_message D (message.TheVariants.Grant lock signature) apart at = grant-moved D lock signature apart at
  by_message D (message.TheVariants.ReadReq word reader) apart at = other-moved D (message.TheVariants.ReadReq word reader) refl at
  by_message D (message.TheVariants.ReadFwd word reader) apart at = other-moved D (message.TheVariants.ReadFwd word reader) refl at
  by_message D (message.TheVariants.DataReply word value) apart at = other-moved D (message.TheVariants.DataReply word value) refl at
  by_message D (message.TheVariants.RegReq word by) apart at = other-moved D (message.TheVariants.RegReq word by) refl at
  by_message D (message.TheVariants.RegAck word) apart at = other-moved D (message.TheVariants.RegAck word) refl at
  by_message D (message.TheVariants.WriteBack word value by) apart at = other-moved D (message.TheVariants.WriteBack word value by) refl at
  by_message D (message.TheVariants.Acquire lock by) apart at = other-moved D (message.TheVariants.Acquire lock by) refl at
  by_message D (message.TheVariants.Release lock by signature) apart at = other-moved D (message.TheVariants.Release lock by signature) refl at
  by_message D (message.TheVariants.Arrived by bad) apart at = other-moved D (message.TheVariants.Arrived by bad) refl at
  by_message D message.TheVariants.Halt apart at = other-moved D message.TheVariants.Halt refl at

  pub message-moved : (D : Departures) → AreDifferent n.cache.pairs → departures_with (gone_in S (Handle id)) D ≡ message_departs S.setting D n m.message
  message-moved D apart = by_message D m.message apart mail-here
