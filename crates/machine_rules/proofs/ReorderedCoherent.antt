-- Coherence doesn't depend on the order of the mails in flight.
use Rattle.std.proofs.Common.{◌≡◌, ◌⊎◌, inl, inr, ℕ, zero, suc, ◌+◌, ◌≤◌, Bool, if◌then◌else◌, List, [], ◌∷◌, slice_get, Option, Some, None, refl, sym, ap, subst, ◌∙◌, arith, IsPermutation}
use Rattle.std.specs.Prelude.{sum_by}
use Rattle.std.proofs.lemmas.Bool.Decides.{nat_tests}
use Rattle.std.proofs.lemmas.List.Sums.{sum_by-cons}
use Rattle.std.proofs.lemmas.List.Sorted.{IsPermutation-sym}
use Rattle.dn_base.specs.declared.ids.CoreId.{CoreId}
use Rattle.dn_base.specs.declared.ids.WordId.{WordId}
use Rattle.write_signature.specs.declared.signature.Signature.{Signature}
use Rattle.write_signature.specs.Signature.{may_hold}
use Rattle.message_net.specs.declared.message.Mail.{Mail}
use Rattle.message_net.proofs.Orders.{holds-permuted, weight-permuted}
use Rattle.queue_lock.specs.Lock.{Lock, holder_count}
use Rattle.registration_protocol.specs.Node.{NodeParts}
use Rattle.machine_rules.specs.State.{State, lock_at}
use Rattle.machine_rules.specs.Flight.{Test, mail_count, flight, is_reg_req_of, is_reg_fwd_of, is_reg_fwd_to, is_reg_fwd_to_itself, is_reg_ack_to, is_write_back_with, is_wb_ack_to, is_read_req_of, is_read_fwd_of, is_read_fwd_to, is_data_reply_to, is_acquire_of, is_release_of, is_grant_to, is_arrival_of, is_go_to, is_halt_to}
use Rattle.machine_rules.specs.Memory.{word_value, memory_of}
use Rattle.machine_rules.specs.Coherent.{Coherent, ArePhases, AreLocks, AreRegistrants, ArePending, AreLeaving, AreReads, AreExpected, AreCopies, IsInFlight, IsInPhase, MayStore, IsReading, IsFresh, IsBehind, HasWriter, HasGuardedWriter, UsesPlainly, IsRegistrant, has_lock, holder_in, signature_at, release_in, first_release, with_carried, with_holder, lock_signature}
use Rattle.machine_rules.specs.Sound.{IsSound}
use Rattle.machine_rules.specs.Reordered.{IsReordered, GoOnAlike}
use Rattle.machine_rules.proofs.Found.{item-within}
use Rattle.machine_rules.proofs.ReadableCopies.{holder-of, release-is, counts-of}
use Rattle.machine_rules.proofs.Reordered.{reordered-back, with_mails, enabled-reordered, told-reordered, next-reordered, sound-reordered, run-reordered}

-- ---- the release of a lock

-- a mail that stands among these releases the lock with a signature
record Releases (l : ℕ) (mails : List Mail) (s : Signature) : Type 0 where
  place : ℕ
  mail : Mail
  there : slice_get mails place ≡ Some mail
  says : release_in l mail.message ≡ Some s

-- what the first release says is said by a mail
first-says : (l : ℕ) (mails : List Mail) (s : Signature) → first_release l mails ≡ Some s → Releases l mails s
first-says l [] s is = absurd (cc)
first-says l (m ∷ ms) s is = by_first (release_in l m.message) refl (first-says l ms s) where
  by_first : (o : Option Signature) → release_in l m.message ≡ o → (first_release l ms ≡ Some s → Releases l ms s) → Releases l (m ∷ ms) s
  by_first None e again =
      let rest = again (rw (e) at is) in
      record { place = suc rest.place; mail = rest.mail; there = rest.there; says = rest.says }
  by_first (Some t) e again =
      let here : Some t ≡ Some s = rw (e) at is in
      record { place = zero; mail = m; there = refl; says = e ∙ here }

-- a release of the lock is one of some core, and it counts as one of that core
record IsOf (l : ℕ) (m : Mail) : Type 0 where
  core : ℕ
  one : mail_count (is_release_of l core) m ≡ 1

is-of : (l : ℕ) (m : Mail) (s : Signature) → release_in l m.message ≡ Some s → IsOf l m
is-of l m s says =
    let at = release-is l m.message s says in
    record { core = at.1.0; one = counts-of l at.1.0 m at.0 at.1 s at.2 at.3 refl }

-- all releases of the lock among these mails are of one core, which has one of them at the most
record AreOne (l core : ℕ) (mails : List Mail) : Type 0 where
  own : (place : ℕ) (m : Mail) (s : Signature) → slice_get mails place ≡ Some m → release_in l m.message ≡ Some s → mail_count (is_release_of l core) m ≡ 1
  few : sum_by (mail_count (is_release_of l core)) mails ≤ 1

-- then the first one is the only one
the-first : (l core : ℕ) (mails : List Mail) (place : ℕ) (m : Mail) (s : Signature) → AreOne l core mails → slice_get mails place ≡ Some m → release_in l m.message ≡ Some s → first_release l mails ≡ Some s
the-first l core [] place m s one there says = absurd (cc)
the-first l core (x ∷ xs) zero m s one there says =
    let same : x ≡ m = cc in
    let here : release_in l x.message ≡ Some s = ap (λ (y : Mail). release_in l y.message) same ∙ says in
    rw (here) refl
the-first l core (x ∷ xs) (suc place) m s one there says = by_first (release_in l x.message) refl (the-first l core xs place m s) where
  all : sum_by (mail_count (is_release_of l core)) (x ∷ xs) ≡ mail_count (is_release_of l core) x + sum_by (mail_count (is_release_of l core)) xs
  all = sum_by-cons (mail_count (is_release_of l core)) x xs

  others : AreOne l core xs
  others = record { own = λ i. one.own (suc i); few = omega (arith, one.few, all) }

  by_first : (o : Option Signature) → release_in l x.message ≡ o → (AreOne l core xs → slice_get xs place ≡ Some m → release_in l m.message ≡ Some s → first_release l xs ≡ Some s)
      → first_release l (x ∷ xs) ≡ Some s
  by_first None e again = rw (e) (again others there says)
  by_first (Some t) e again =
      absurd (omega (arith, one.few, all, one.own zero x t refl e, one.own (suc place) m s there says, item-within (mail_count (is_release_of l core)) xs place m there))

-- in another order of the mails it is the same one
first-moved : (l core : ℕ) (xs ys : List Mail) → AreOne l core xs → IsPermutation xs ys → first_release l xs ≡ first_release l ys
first-moved l core xs ys one moved = by_first (first_release l xs) refl where
  back : IsPermutation ys xs
  back = IsPermutation-sym xs ys moved

  others : AreOne l core ys
  others =
      record {
        own = λ place m s there. let before = holds-permuted ys xs m place back there in one.own before.0 m s before.1;
        few = omega (arith, one.few, weight-permuted (mail_count (is_release_of l core)) xs ys moved);
      }

  by_first : (o : Option Signature) → first_release l xs ≡ o → first_release l xs ≡ first_release l ys
  by_first (Some s) e =
      let at = first-says l xs s e in
      let there = holds-permuted xs ys at.mail at.place moved at.there in
      e ∙ sym (the-first l core ys there.0 at.mail s others there.1 at.says)
  by_first None e = e ∙ sym (none (first_release l ys) refl) where
    none : (o : Option Signature) → first_release l ys ≡ o → first_release l ys ≡ None
    none None f = f
    none (Some s) f =
        let at = first-says l ys s f in
        let there = holds-permuted ys xs at.mail at.place back at.there in
        let never = the-first l core xs there.0 at.mail s one there.1 at.says in
        absurd (cc)

-- nobody counts as the holder twice
holder-most : (c : ℕ) (o : Option Lock) → holder_in c o ≤ 1
holder-most c None = omega arith
holder-most c (Some h) = by_holder h.holder where
  by_holder : (d : Option CoreId) → holder_count c d ≤ 1
  by_holder None = omega arith
  by_holder (Some d) = grind (arith, nat_tests)

one-release : (S : State) (l : ℕ) (h : Lock) (core : CoreId) → AreLocks S → lock_at S l ≡ Some h → h.holder ≡ Some core → AreOne l core.0 S.mails
one-release S l h core locks there has = record { own = own; few = omega (arith, locks.held l core.0, holder-most core.0 (lock_at S l)) } where
  own : (place : ℕ) (m : Mail) (s : Signature) → slice_get S.mails place ≡ Some m → release_in l m.message ≡ Some s → mail_count (is_release_of l core.0) m ≡ 1
  own place m s here says =
      let of = is-of l m s says in
      let some : 1 ≤ holder_in of.core (lock_at S l) = omega (arith, of.one, item-within (mail_count (is_release_of l of.core)) S.mails place m here, locks.held l of.core) in
      let same : core.0 ≡ of.core = holder-of of.core (lock_at S l) some h there core has in
      subst (λ (c : ℕ). mail_count (is_release_of l c) m ≡ 1) (sym same) of.one

-- ---- the eight parts

module _ (S : State) (mails : List Mail) (moved : IsPermutation S.mails mails) where
  abbrev T : State
  T = with_mails S mails

  same : (test : Test) → flight T test ≡ flight S test
  same test = weight-permuted (mail_count test) S.mails mails moved

  back : (m : Mail) → IsInFlight T m → IsInFlight S m
  back m there = holds-permuted mails S.mails m there.0 (IsPermutation-sym S.mails mails moved) there.1

  phases : ArePhases S → ArePhases T
  phases was =
      record {
        phase = λ c n here on. in_phase c n (was.phase c n here on);
        whereabouts = λ c. omega (arith, was.whereabouts c, same (is_arrival_of c), same (is_go_to c), same (is_halt_to c));
        arrived = was.arrived;
        said = λ m core bad there. was.said m core bad (back m there);
        bad = was.bad;
        good = was.good;
        unlocked = λ c n here going. was.unlocked c n here (omega (arith, going, same (is_go_to c)));
      }
    where
      in_phase : (c : ℕ) (n : NodeParts) → IsInPhase S c n → IsInPhase T c n
      in_phase c n (inl now) = inl now
      in_phase c n (inr (before, arrived, going)) = inr (before, arrived, omega (arith, going, same (is_go_to c)))

  locks : AreLocks S → AreLocks T
  locks was =
      record {
        free = was.free;
        held = λ l c. omega (arith, was.held l c, same (is_grant_to l c), same (is_release_of l c));
        awaited = λ l c. omega (arith, was.awaited l c, same (is_acquire_of l c), same (is_grant_to l c));
        granted = λ m lock s there. was.granted m lock s (back m there);
        kept = was.kept;
        sent = λ m lock core s there. was.sent m lock core s (back m there);
        own = was.own;
        behind = was.behind;
      }

  registrants : AreRegistrants S → AreRegistrants T
  registrants was = record { has = was.has; hears = λ c w settled. told c w (was.hears c w settled) } where
    told : (c w : ℕ) → IsRegistrant S c w ⊎ (1 ≤ flight S (is_reg_fwd_to w c)) → IsRegistrant T c w ⊎ (1 ≤ flight T (is_reg_fwd_to w c))
    told c w (inl is) = inl is
    told c w (inr passed) = inr (omega (arith, passed, same (is_reg_fwd_to w c)))

  pending : ArePending S → ArePending T
  pending was =
      record {
        one_core = was.one_core;
        right = λ c w is. right c w (was.right c w is);
        one_mail = λ c w is. omega (arith, was.one_mail c w is, same (is_reg_req_of w c), same (is_reg_fwd_of w c), same (is_reg_ack_to w c));
        before = λ c w is asked. was.before c w is (omega (arith, asked, same (is_reg_req_of w c)));
        behind = λ c w is known. was.behind c w is (omega (arith, known, same (is_reg_fwd_of w c), same (is_reg_ack_to w c)));
        elsewhere = λ c w. omega (arith, was.elsewhere c w, same (is_reg_fwd_to_itself w c));
      }
    where
      right : (c w : ℕ) → MayStore S c w → MayStore T c w
      right c w may = record { node = may.node; found = may.found; task = may.task; has = may.has; decl = may.decl; declares = may.declares; right = may.right }

  leaving : AreLeaving S → AreLeaving T
  leaving was =
      record {
        one_mail = λ c w value is. omega (arith, was.one_mail c w value is, same (is_write_back_with w c value), same (is_wb_ack_to w c));
        given = λ c w value is freed. was.given c w value is (omega (arith, freed, same (is_wb_ack_to w c)));
      }

  reads : AreReads S → AreReads T
  unfolding word_value
  reads was =
      record {
        reading = λ c word waits. reading c word (was.reading c word waits);
        quiet = was.quiet;
        one_mail = λ c word waits. omega (arith, was.one_mail c word waits, same (is_read_req_of word.0 c), same (is_read_fwd_of word.0 c), same (is_data_reply_to word.0 c));
        answered = λ m word value there. was.answered m word value (back m there);
        forwarded = λ d w some. was.forwarded d w (omega (arith, some, same (is_read_fwd_to w d)));
        owned = λ d w value some. was.owned d w value (omega (arith, some, same (is_read_fwd_to w d)));
        filled = was.filled;
      }
    where
      reading : (c : ℕ) (word : WordId) → IsReading S c word → IsReading T c word
      reading c word is = record { node = is.node; found = is.found; waiting = is.waiting; none = is.none; room = is.room; wants = is.wants }

  expected : AreExpected S → AreExpected T
  expected was m there = was m (back m there)

  signature : (l : ℕ) (h : Lock) → AreLocks S → lock_at S l ≡ Some h → lock_signature S l h ≡ lock_signature T l h
  signature l h locked there = by_holder h.holder refl where
    by_holder : (o : Option CoreId) → h.holder ≡ o → with_holder S l h.kept o ≡ with_holder T l h.kept o
    by_holder None has = refl
    by_holder (Some c) has =
        ap (λ (o : Option Signature). with_carried h.kept (if has_lock S c.0 l then signature_at l (slice_get S.nodes c.0) else o))
        (first-moved l c.0 S.mails mails (one-release S l h c locked there has) moved)

  copies : AreLocks S → AreCopies S → AreCopies T
  unfolding word_value
  copies locked was =
      record {
        marked = λ c w value is. plainly c w (was.marked c w value is);
        fresh = λ c w value marked is. fresh c w value marked (was.fresh c w value marked is);
      }
    where
      plainly : (c w : ℕ) → UsesPlainly S c w → UsesPlainly T c w
      plainly c w is = record { node = is.node; found = is.found; decl = is.decl; declares = is.declares; plain = is.plain }

      fresh : (c w value : ℕ) (marked : Bool) → IsFresh S c w value ⊎ (IsBehind S c w marked ⊎ (HasWriter S c w ⊎ HasGuardedWriter S c w))
          → IsFresh T c w value ⊎ (IsBehind T c w marked ⊎ (HasWriter T c w ⊎ HasGuardedWriter T c w))
      fresh c w value marked (inl is) = inl is
      fresh c w value marked (inr (inl b)) =
          inr (inl (record { node = b.node; found = b.found; phase = b.phase; written = b.written; unmarked = b.unmarked }))
      fresh c w value marked (inr (inr (inl by))) =
          inr (inr (inl (record { core = by.core; other = by.other; decl = by.decl; declares = by.declares; writes = by.writes })))
      fresh c w value marked (inr (inr (inr by))) =
          inr (inr (inr (record {
            core = by.core;
            other = by.other;
            decl = by.decl;
            declares = by.declares;
            lock = by.lock;
            writes = by.writes;
            unheld = by.unheld;
            state = by.state;
            there = by.there;
            signed = ap (λ (s : Signature). may_hold s w S.keeper.phase) (sym (signature by.lock by.state locked by.there)) ∙ by.signed;
          })))

  pub coherent-moved : Coherent S → Coherent T
  coherent-moved was =
      record {
        phases = phases was.phases;
        locks = locks was.locks;
        registrants = registrants was.registrants;
        pending = pending was.pending;
        leaving = leaving was.leaving;
        reads = reads was.reads;
        expected = expected was.expected;
        copies = copies was.locks was.copies;
      }

pub coherent-reordered : (S T : State) → IsReordered S T → Coherent S → Coherent T
coherent-reordered S T same was = subst Coherent (sym same.rest) (coherent-moved S T.mails same.mails was)

-- ---- all of it

pub words-reordered : (S T : State) → IsReordered S T → memory_of S ≡ memory_of T
unfolding word_value
words-reordered S T same = ap memory_of (sym same.rest)

pub alike : (S T : State) (made : ℕ) → IsSound S made → IsReordered S T → GoOnAlike S T
alike S T made sound same =
    record {
      comes = λ e. enabled-reordered S T e same;
      tells = λ e. told-reordered S T e sound.machine.distinct same;
      leads = λ e. next-reordered S T e sound.machine.distinct same;
      coherent = (coherent-reordered S T same, coherent-reordered T S back);
      words = words-reordered S T same;
      runs = λ events. (λ run. (run-reordered S T made events sound same run).0, λ run. (run-reordered T S made events (sound-reordered S T made sound same) back run).0);
      ends = λ events run. (run-reordered S T made events sound same run).1;
    }
  where
    back : IsReordered T S
    back = reordered-back S T same
