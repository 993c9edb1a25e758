-- What is known of reads after a core's step, by the kinds of step.
use Rattle.std.proofs.Common.{◌≡◌, ◌⊎◌, inl, inr, ℕ, ◌+◌, ◌≤◌, ◌==◌, ◌&&◌, Bool, true, false, cond, slice_get, Option, Some, None, refl, sym, ap, subst, ◌∙◌, arith}
use Rattle.std.proofs.lemmas.Bool.{eqb-true}
use Rattle.dn_base.specs.declared.ids.WordId.{WordId}
use Rattle.dn_base.specs.declared.ids.CoreId.{CoreId}
use Rattle.dn_base.specs.declared.ids.BankId.{BankId}
use Rattle.region_table.specs.declared.declared.TaskDecl.{TaskDecl}
use Rattle.rv_core.specs.declared.task.TaskState.{TaskState}
use Rattle.rv_core.specs.declared.need.Need as need
use Rattle.rv_core.specs.declared.need.Need.{Need}
use Rattle.message_net.specs.declared.actor.Actor.TheVariants.{Bank}
use Rattle.message_net.specs.declared.message.Message.TheVariants.{ReadReq, DataReply, RegReq}
use Rattle.message_net.specs.declared.message.Outgoing.{Outgoing}
use Rattle.word_cache.specs.declared.row.Entry.{Entry}
use Rattle.word_cache.specs.declared.row.Entry.TheVariants.{Valid, Registered}
use Rattle.word_cache.specs.Cache.{has_room, is_valid, put}
use Rattle.registration_protocol.specs.declared.node.NodeWait as wait
use Rattle.registration_protocol.specs.declared.node.NodeWait.{NodeWait}
use Rattle.registration_protocol.specs.Node.{NodeParts, entry_of, need_now, keeping}
use Rattle.registration_protocol.specs.OwnEvents.{stored}
use Rattle.registration_protocol.proofs.EntryLemmas.{store-entry}
use Rattle.word_cache.proofs.LookLemmas.{lookup-put}
use Rattle.machine_rules.specs.State.{State, entry_at}
use Rattle.machine_rules.specs.Flight.{bit, is_read_req_of, is_read_fwd_of, is_read_fwd_to, is_data_reply_to}
use Rattle.machine_rules.proofs.Bits.{passes, pending_bit, reading_in, is_reading}
use Rattle.machine_rules.proofs.Invariant.{Invariant, ReadsGood}
use Rattle.machine_rules.proofs.Steps.{NodeStep}
use Rattle.machine_rules.proofs.Outcomes.{IsActing, at_core}
use Rattle.machine_rules.proofs.WordEvents.{entry-node}
use Rattle.machine_rules.proofs.WordCore.{same-number}
use Rattle.machine_rules.proofs.Exclusive.{store-none-reading, load-none-pending, pending-one}
use Rattle.machine_rules.proofs.NodeEntries.{calm-same, calm-at, calm-node, entry-own}
use Rattle.machine_rules.proofs.ReadMails.{IsNoRead, no-read, no-read-none, SameReads, same-reads}
use Rattle.machine_rules.proofs.ReadEvents.{WantsValue, IsCopied, rows-same, WaitsWell, waits-well, waits_free, well-free, well-same, acting-need, free-bit, ready-bit, rows-carried, reading-node, reading-own, reading-same, reads-node, quiet-node}

-- pending words after a step, where the node has no more of them
pub less-node : (S T : State) (core : ℕ) (n m : NodeParts) (left sent : Option Outgoing) → NodeStep S T core n m left sent → ((v : ℕ) → pending_bit (entry_of m v) ≤ pending_bit (entry_of n v))
    → (d v : ℕ) → pending_bit (entry_at T d v) ≤ pending_bit (entry_at S d v)
less-node S T core n m left sent step less d v = by_test (core == d) refl where
  by_test : (x : Bool) → (core == d) ≡ x → pending_bit (entry_at T d v) ≤ pending_bit (entry_at S d v)
  by_test true e = omega (arith, ap pending_bit (rw (e) at (entry-node S T core n m left sent step d v)), ap pending_bit (entry-own S core d n v step.found e), less v)
  by_test false e = omega (arith, ap pending_bit (rw (e) at (entry-node S T core n m left sent step d v)))

-- a node that doesn't read, and waits for no word afterwards
pub free-step : (S T : State) (core : ℕ) (n m : NodeParts) (left sent : Option Outgoing) → NodeStep S T core n m left sent → ReadsGood S → IsNoRead left → IsNoRead sent
    → ((w : ℕ) → bit (is_reading w n.waiting) ≡ 0) → waits_free m.waiting ≡ true → ((v : ℕ) → pending_bit (entry_of m v) ≤ pending_bit (entry_of n v)) → ReadsGood T
free-step S T core n m left sent step g came went unread free less =
    quiet-node S T core n m left sent step (same-reads S T left sent step.flown came went) g (well-free S.setting m free)
    (λ w. free-bit m.waiting w free ∙ sym (unread w)) (less-node S T core n m left sent step less)

-- a node that waits as before, and has no more pending
pub kept-step : (S T : State) (core : ℕ) (n m : NodeParts) (left sent : Option Outgoing) → NodeStep S T core n m left sent → ReadsGood S → IsNoRead left → IsNoRead sent
    → m.waiting ≡ n.waiting → WaitsWell S.setting m → ((v : ℕ) → pending_bit (entry_of m v) ≤ pending_bit (entry_of n v)) → ReadsGood T
kept-step S T core n m left sent step g came went waits well less =
    quiet-node S T core n m left sent step (same-reads S T left sent step.flown came went) g well
    (λ w. ap (λ (x : NodeWait). bit (is_reading w x)) waits) (less-node S T core n m left sent step less)

-- the entry of a word that isn't a copy changes
pub well-at : (S : State) (core : ℕ) (n m : NodeParts) (w : ℕ) (old : Entry) (e : Option Entry) → ReadsGood S → slice_get S.nodes core ≡ Some n
    → ((v : ℕ) → entry_of m v ≡ cond (w == v) e (entry_of n v)) → entry_of n w ≡ Some old → is_valid old ≡ false
    → ((v : ℕ) → has_room n.cache v ≡ true → has_room m.cache v ≡ true) → m.waiting ≡ n.waiting → m.phase ≡ n.phase → m.core ≡ n.core → m.task ≡ n.task → WaitsWell S.setting m
well-at S core n m w old e g found now is other room waits phase own task =
    well-same S.setting n m (waits-well S core n g found) waits phase own task (λ v. by_none v (w == v) refl) room (λ v value marked. by_copy v value marked (w == v) refl)
  where
    here : (v : ℕ) → (w == v) ≡ true → entry_of n v ≡ Some old
    here v f = subst (λ (x : ℕ). entry_of n x ≡ Some old) (eqb-true w v f) is

    by_none : (v : ℕ) (x : Bool) → (w == v) ≡ x → entry_of n v ≡ None → entry_of m v ≡ None
    by_none v true f none = let some = here v f in absurd (cc)
    by_none v false f none = (rw (f) at (now v)) ∙ none

    by_copy : (v value : ℕ) (marked : Bool) (x : Bool) → (w == v) ≡ x → entry_of n v ≡ Some (Valid value marked) → entry_of m v ≡ Some (Valid value marked)
    by_copy v value marked true f copy = absurd (not-copy (sym (here v f) ∙ copy)) where
      not-copy : Some old ≡ Some (Valid value marked) → ⊥
      not-copy same = let valid : old ≡ Valid value marked = some-same old (Valid value marked) same in let wrong = rw (valid) at other in absurd (cc) where
        some-same : (x y : Entry) → Some x ≡ Some y → x ≡ y
        some-same x y e = cc
    by_copy v value marked false f copy = (rw (f) at (now v)) ∙ copy

reading-one : (w : ℕ) (o : Option NodeParts) → reading_in w o ≤ 1
reading-one w None = omega arith
reading-one w (Some n) = by_bit (is_reading w n.waiting) where
  by_bit : (b : Bool) → bit b ≤ 1
  by_bit true = omega arith
  by_bit false = omega arith

-- nobody reads a word that is stored
pub store-unread : (S : State) (M : ℕ → ℕ) (core : CoreId) (n : NodeParts) (d : TaskDecl) (t : TaskState) (word : WordId) (whole : Bool) → Invariant S M
    → IsActing S core n d t (need.TheVariants.Store word whole) → (c : ℕ) → reading_in word.0 (slice_get S.nodes c) ≡ 0
store-unread S M core n d t word whole inv acts c = by_core (core.0 == c) refl where
  by_core : (x : Bool) → (core.0 == c) ≡ x → reading_in word.0 (slice_get S.nodes c) ≡ 0
  by_core true e = reading-own S core.0 c n word.0 acts.found e ∙ ready-bit n.waiting word.0 acts.ready
  by_core false e = store-none-reading S M core n d t word whole inv acts c e

-- ---- mails of reads

-- a node begins to read
pub missed : (S T : State) (M : ℕ → ℕ) (core : CoreId) (n : NodeParts) (d : TaskDecl) (t : TaskState) (word : WordId) (needs : Need) (bank : BankId) → Invariant S M
    → (needs ≡ need.TheVariants.Load word) ⊎ (needs ≡ need.TheVariants.Store word false) → IsActing S core n d t needs → entry_of n word.0 ≡ None → has_room n.cache word.0 ≡ true
    → NodeStep S T core.0 n (record n { waiting = wait.TheVariants.Reading word }) None (Some (record { to = Bank bank; message = ReadReq word core })) → ReadsGood T
missed S T M core n d t word needs bank inv kind acts none room step =
    let sent : Option Outgoing = Some (record { to = Bank bank; message = ReadReq word core }) in
    reads-node S T core.0 n m None sent step inv.reads well (rows-carried S T None sent inv.reads step.flown carried) quiet (λ w d. omega (arith, step.flown (is_read_fwd_to w d)))
  where
    m : NodeParts
    m = record n { waiting = wait.TheVariants.Reading word }

    wants : WantsValue S.setting n word
    wants = by_kind kind where
      now : need_now S.setting n ≡ Some needs
      now = acting-need S core n d t needs acts ((inv.machine.node core.0 n acts.found).core)

      by_kind : (needs ≡ need.TheVariants.Load word) ⊎ (needs ≡ need.TheVariants.Store word false) → WantsValue S.setting n word
      by_kind (inl is) = inl (now ∙ ap (λ (x : Need). Some x) is)
      by_kind (inr is) = inr (now ∙ ap (λ (x : Need). Some x) is)

    well : WaitsWell S.setting m
    well = record {
      reading = λ v is. let same : word ≡ v = cc in subst (λ (x : WordId). (entry_of m x.0 ≡ None) × (has_room m.cache x.0 ≡ true) × WantsValue S.setting m x) same (none, room, wants);
      filled = λ v is. absurd (cc);
    }

    carried : (w c : ℕ) → reading_in w (slice_get T.nodes c) + (0 + 0 + 0) ≡ reading_in w (slice_get S.nodes c) + (bit ((word.0 == w) && (core.0 == c)) + 0 + 0)
    carried w c = by_tests (word.0 == w) refl (core.0 == c) refl where
      by_tests : (x : Bool) → (word.0 == w) ≡ x → (y : Bool) → (core.0 == c) ≡ y
          → reading_in w (slice_get T.nodes c) + (0 + 0 + 0) ≡ reading_in w (slice_get S.nodes c) + (bit (x && y) + 0 + 0)
      by_tests true e true f =
          let now = rw (e, f) at (reading-node S T core.0 n m None (Some (record { to = Bank bank; message = ReadReq word core })) step w c) in
          omega (arith, now, reading-own S core.0 c n w acts.found f, ready-bit n.waiting w acts.ready)
      by_tests false e true f =
          let now = rw (e, f) at (reading-node S T core.0 n m None (Some (record { to = Bank bank; message = ReadReq word core })) step w c) in
          omega (arith, now, reading-own S core.0 c n w acts.found f, ready-bit n.waiting w acts.ready)
      by_tests true e false f =
          let now = rw (f) at (reading-node S T core.0 n m None (Some (record { to = Bank bank; message = ReadReq word core })) step w c) in
          omega (arith, now)
      by_tests false e false f =
          let now = rw (f) at (reading-node S T core.0 n m None (Some (record { to = Bank bank; message = ReadReq word core })) step w c) in
          omega (arith, now)

    calm : (d v : ℕ) → pending_bit (entry_at T d v) ≡ pending_bit (entry_at S d v)
    calm = (calm-node S T core.0 n m None (Some (record { to = Bank bank; message = ReadReq word core })) step (calm-same n m (λ v. refl))).pending

    alone : (e : ℕ) → pending_bit (entry_at S e word.0) ≡ 0
    alone e = by_core (core.0 == e) refl where
      by_core : (x : Bool) → (core.0 == e) ≡ x → pending_bit (entry_at S e word.0) ≡ 0
      by_core true f = ap pending_bit (entry-own S core.0 e n word.0 acts.found f ∙ none)
      by_core false f = load-none-pending S M core n d t word needs inv kind acts e f

    quiet : (w c e : ℕ) → reading_in w (slice_get T.nodes c) + pending_bit (entry_at T e w) ≤ 1
    quiet w c e = by_word (word.0 == w) refl where
      by_word : (x : Bool) → (word.0 == w) ≡ x → reading_in w (slice_get T.nodes c) + pending_bit (entry_at T e w) ≤ 1
      by_word true f = omega (arith, reading-one w (slice_get T.nodes c), calm e w, subst (λ (x : ℕ). pending_bit (entry_at S e x) ≡ 0) (eqb-true word.0 w f) (alone e))
      by_word false f = let same = rw (f) at (carried w c) in omega (arith, same, inv.reads.quiet w c e, calm e w)

-- the word comes that a node reads
pub replied : (S T : State) (M : ℕ → ℕ) (core : CoreId) (n : NodeParts) (word : WordId) (value : ℕ) → Invariant S M → slice_get S.nodes core.0 ≡ Some n
    → n.waiting ≡ wait.TheVariants.Reading word → entry_of n word.0 ≡ None
    → NodeStep S T core.0 n (record (keeping n (put word (Valid value false) n.cache.pairs)) { waiting = wait.TheVariants.Filled word }) (at_core core (DataReply word value)) None → ReadsGood T
replied S T M core n word value inv found waits none step =
    reads-node S T core.0 n m left None step inv.reads well (rows-carried S T left None inv.reads step.flown carried) quiet (λ w d. omega (arith, step.flown (is_read_fwd_to w d)))
  where
    left : Option Outgoing
    left = at_core core (DataReply word value)

    m : NodeParts
    m = record (keeping n (put word (Valid value false) n.cache.pairs)) { waiting = wait.TheVariants.Filled word }

    now : (v : ℕ) → entry_of m v ≡ cond (word.0 == v) (Some (Valid value false)) (entry_of n v)
    now v = lookup-put word (Valid value false) v n.cache.pairs

    well : WaitsWell S.setting m
    well = record {
      reading = λ v is. absurd (cc);
      filled = λ v is. let same : word ≡ v = cc in subst (λ (x : WordId). IsCopied S.setting m x) same ((value, false, rw (same-number word.0) at (now word.0)), (inv.reads.reading core.0 n word found waits).2);
    }

    carried : (w c : ℕ) → reading_in w (slice_get T.nodes c) + (0 + 0 + bit ((word.0 == w) && (core.0 == c))) ≡ reading_in w (slice_get S.nodes c) + (0 + 0 + 0)
    carried w c = by_tests (word.0 == w) refl (core.0 == c) refl where
      by_tests : (x : Bool) → (word.0 == w) ≡ x → (y : Bool) → (core.0 == c) ≡ y
          → reading_in w (slice_get T.nodes c) + (0 + 0 + bit (x && y)) ≡ reading_in w (slice_get S.nodes c) + (0 + 0 + 0)
      by_tests x e true f =
          let is = rw (f) at (reading-node S T core.0 n m left None step w c) in
          let was = reading-own S core.0 c n w found f in
          let read = rw (e) at (ap (λ (x : NodeWait). bit (is_reading w x)) waits) in
          by_test x (omega (arith, is, was, read))
        where
          by_test : (x : Bool) → reading_in w (slice_get T.nodes c) + bit x ≡ reading_in w (slice_get S.nodes c)
              → reading_in w (slice_get T.nodes c) + (0 + 0 + bit (x && true)) ≡ reading_in w (slice_get S.nodes c) + (0 + 0 + 0)
          by_test true is = omega (arith, is)
          by_test false is = omega (arith, is)
      by_tests true e false f = let is = rw (f) at (reading-node S T core.0 n m left None step w c) in omega (arith, is)
      by_tests false e false f = let is = rw (f) at (reading-node S T core.0 n m left None step w c) in omega (arith, is)

    calm : (d v : ℕ) → pending_bit (entry_at T d v) ≡ pending_bit (entry_at S d v)
    calm = (calm-node S T core.0 n m left None step (calm-at n m word.0 (Some (Valid value false)) now (sym (ap pending_bit none)) (λ x is. absurd (cc)))).pending

    quiet : (w c e : ℕ) → reading_in w (slice_get T.nodes c) + pending_bit (entry_at T e w) ≤ 1
    quiet w c e = omega (arith, carried w c, inv.reads.quiet w c e, calm e w)

-- a core passes a read on, with a value or back to the word's home: its node stays as it is
pub passed : (S T : State) (M : ℕ → ℕ) (core : CoreId) (n : NodeParts) (left sent : Option Outgoing) → Invariant S M → NodeStep S T core.0 n n left sent
    → ((w c : ℕ) → passes (is_read_req_of w c) left + passes (is_read_fwd_of w c) left + passes (is_data_reply_to w c) left ≡ passes (is_read_req_of w c) sent + passes (is_read_fwd_of w c) sent + passes (is_data_reply_to w c) sent)
    → ((w d : ℕ) → passes (is_read_fwd_to w d) sent ≡ 0) → ReadsGood T
passed S T M core n left sent inv step total none =
    reads-node S T core.0 n n left sent step inv.reads (waits-well S core.0 n inv.reads step.found)
    (rows-carried S T left sent inv.reads step.flown (λ w c. omega (arith, same w c, total w c)))
    (λ w c d. omega (arith, inv.reads.quiet w c d, same w c, (calm-node S T core.0 n n left sent step (calm-same n n (λ v. refl))).pending d w))
    (λ w d. omega (arith, step.flown (is_read_fwd_to w d), none w d))
  where
    same : (w c : ℕ) → reading_in w (slice_get T.nodes c) ≡ reading_in w (slice_get S.nodes c)
    same = reading-same S T core.0 n n left sent step (λ w. refl)

-- ---- a store that registers its word

pub registered : (S T : State) (M : ℕ → ℕ) (core : CoreId) (n : NodeParts) (d : TaskDecl) (t : TaskState) (word : WordId) (whole : Bool) (value : ℕ) (bank : BankId) → Invariant S M
    → IsActing S core n d t (need.TheVariants.Store word whole)
    → NodeStep S T core.0 n (stored S.setting n d t word (Registered value true)) None (Some (record { to = Bank bank; message = RegReq word core })) → ReadsGood T
registered S T M core n d t word whole value bank inv acts step =
    reads-node S T core.0 n m None sent step inv.reads (well-free S.setting m refl)
    (rows-same S T inv.reads same reading) quiet (λ w d. omega (arith, same.passed w d))
  where
    m : NodeParts
    m = stored S.setting n d t word (Registered value true)

    sent : Option Outgoing
    sent = Some (record { to = Bank bank; message = RegReq word core })

    same : SameReads S T
    same = same-reads S T None sent step.flown no-read-none (no-read (Bank bank) (RegReq word core) refl)

    reading : (w c : ℕ) → reading_in w (slice_get T.nodes c) ≡ reading_in w (slice_get S.nodes c)
    reading = reading-same S T core.0 n m None sent step (λ w. sym (ready-bit n.waiting w acts.ready))

    unread : (c : ℕ) → reading_in word.0 (slice_get S.nodes c) ≡ 0
    unread c = store-unread S M core n d t word whole inv acts c

    quiet : (w c e : ℕ) → reading_in w (slice_get T.nodes c) + pending_bit (entry_at T e w) ≤ 1
    quiet w c e = by_tests (word.0 == w) refl (core.0 == e) refl where
      by_tests : (x : Bool) → (word.0 == w) ≡ x → (y : Bool) → (core.0 == e) ≡ y → reading_in w (slice_get T.nodes c) + pending_bit (entry_at T e w) ≤ 1
      by_tests true f y g =
          omega (arith, reading w c, subst (λ (x : ℕ). reading_in x (slice_get S.nodes c) ≡ 0) (eqb-true word.0 w f) (unread c), pending-one (entry_at T e w))
      by_tests false f true g =
          let now = rw (g) at (entry-node S T core.0 n m None sent step e w) ∙ (rw (f) at (store-entry S.setting n d t word (Registered value true) w)) in
          omega (arith, ap pending_bit now, ap pending_bit (entry-own S core.0 e n w acts.found g), reading w c, inv.reads.quiet w c e)
      by_tests false f false g =
          omega (arith, ap pending_bit (rw (g) at (entry-node S T core.0 n m None sent step e w)), reading w c, inv.reads.quiet w c e)
