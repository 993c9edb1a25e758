-- What is kept says that the copies are coherent.
use Rattle.std.proofs.Common.{◌≡◌, ◌⊎◌, inl, inr, ℕ, zero, suc, ◌+◌, ◌≤◌, ◌==◌, if◌then◌else◌, Bool, true, false, List, [], ◌∷◌, slice_get, sum_by, Option, Some, None, refl, sym, ap, subst, ◌∙◌, arith}
use Rattle.std.proofs.lemmas.Bool.{eqb-true}
use Rattle.std.proofs.lemmas.Bool.Decides.{nat_tests}
use Rattle.std.proofs.lemmas.List.Sums.{sum_by-cons}
use Rattle.dn_base.specs.declared.ids.CoreId.{CoreId}
use Rattle.dn_base.specs.declared.ids.LockId.{LockId}
use Rattle.rv_core.specs.Access.{is_held}
use Rattle.write_signature.specs.declared.signature.Signature.{Signature}
use Rattle.write_signature.specs.Signature.{tag, may_hold, joined}
use Rattle.write_signature.proofs.SignatureLemmas.{joined_covers_first, joined_covers_second}
use Rattle.message_net.specs.declared.message.Mail.{Mail}
use Rattle.message_net.specs.declared.message.Message.{Message}
use Rattle.message_net.specs.declared.message.Message.TheVariants.{ReadReq, ReadFwd, DataReply, RegReq, RegFwd, RegAck, WriteBack, WbAck, Acquire, Release, Grant, Arrived, Go, Halt}
use Rattle.queue_lock.specs.Lock.{Lock, holder_count}
use Rattle.registration_protocol.specs.Node.{NodeParts}
use Rattle.registration_protocol.specs.Parts.{held_locks}
use Rattle.machine_rules.specs.State.{State, lock_at}
use Rattle.machine_rules.specs.Flight.{bit, flight, mail_count, is_release_of}
use Rattle.machine_rules.specs.Coherent.{AreCopies, IsFresh, IsBehind, HasWriter, HasGuardedWriter, has_lock, holds_lock, holder_in, signature_at, release_in, first_release, with_carried, with_holder, lock_signature}
use Rattle.machine_rules.proofs.Bits.{signed_in}
use Rattle.machine_rules.proofs.BitLemmas.{bit-true}
use Rattle.machine_rules.proofs.Invariant.{Invariant, MayBeOld, MayHaveWritten, carriers, kept_bit, carried_by, is_carrying}
use Rattle.machine_rules.proofs.WordCore.{same-number}
use Rattle.machine_rules.proofs.Found.{found-weighing, item-within, sums-within, all-there}
use Rattle.machine_rules.proofs.ReadableLocks.{locks}
use Rattle.machine_rules.proofs.ReadableValues.{value-is}

-- ---- who holds a lock, and who gives it up

-- a node that carries a word under a lock holds the lock
carrying-holds : (S : State) (l w p c : ℕ) (n : NodeParts) → slice_get S.nodes c ≡ Some n → 1 ≤ carried_by l w p n → (has_lock S c l ≡ true) × (signed_in w p (slice_get n.signatures l) ≡ true)
carrying-holds S l w p c n found some = by_tests (is_held (held_locks n.task) l) refl (signed_in w p (slice_get n.signatures l)) refl where
  by_tests : (x : Bool) → is_held (held_locks n.task) l ≡ x → (y : Bool) → signed_in w p (slice_get n.signatures l) ≡ y → (has_lock S c l ≡ true) × (signed_in w p (slice_get n.signatures l) ≡ true)
  by_tests true e true f = (ap (holds_lock l) found ∙ e, f)
  by_tests true e false f = let one = rw (e, f) at some in absurd (omega (arith, one))
  by_tests false e y f = let one = rw (e) at some in absurd (omega (arith, one))

-- a mail that carries a word under a lock is a release of it
record IsRelease (l w p : ℕ) (m : Mail) : Type 0 where
  lock : LockId
  core : CoreId
  signature : Signature
  says : m.message ≡ Release lock core signature
  same : lock.0 ≡ l
  signed : may_hold signature w p ≡ true

carrying-is : (l w p : ℕ) (m : Mail) → 1 ≤ mail_count (is_carrying l w p) m → IsRelease l w p m
carrying-is l w p m some = by_message m.message refl some where
  by_message : (message : Message) → m.message ≡ message → 1 ≤ bit (is_carrying l w p m.to message) → IsRelease l w p m
  by_message (Release lock core s) is one = by_tests (lock.0 == l) refl (may_hold s w p) refl where
    by_tests : (x : Bool) → (lock.0 == l) ≡ x → (y : Bool) → may_hold s w p ≡ y → IsRelease l w p m
    by_tests true e true f = record { lock = lock; core = core; signature = s; says = is; same = eqb-true lock.0 l e; signed = f }
    by_tests true e false f = let none = rw (e, f) at one in absurd (omega (arith, none))
    by_tests false e y f = let none = rw (e) at one in absurd (omega (arith, none))
  by_message (ReadReq word reader) is one = absurd (omega (arith, one))
  by_message (ReadFwd word reader) is one = absurd (omega (arith, one))
  by_message (DataReply word value) is one = absurd (omega (arith, one))
  by_message (RegReq word c) is one = absurd (omega (arith, one))
  by_message (RegFwd word c) is one = absurd (omega (arith, one))
  by_message (RegAck word) is one = absurd (omega (arith, one))
  by_message (WriteBack word value c) is one = absurd (omega (arith, one))
  by_message (WbAck word) is one = absurd (omega (arith, one))
  by_message (Acquire lock c) is one = absurd (omega (arith, one))
  by_message (Grant lock s) is one = absurd (omega (arith, one))
  by_message (Arrived c bad) is one = absurd (omega (arith, one))
  by_message (Go phase) is one = absurd (omega (arith, one))
  by_message Halt is one = absurd (omega (arith, one))

-- a release in flight counts for its core
release-counts : (S : State) (place : ℕ) (m : Mail) (lock : LockId) (core : CoreId) (s : Signature) → slice_get S.mails place ≡ Some m → m.message ≡ Release lock core s → 1 ≤ flight S (is_release_of lock.0 core.0)
release-counts S place m lock core s there is = rw (is, same-number lock.0, same-number core.0) at (item-within (mail_count (is_release_of lock.0 core.0)) S.mails place m there)

-- who holds a lock, or gives it up, is its holder
one-holder : (d : CoreId) (c : ℕ) → 1 ≤ holder_count c (Some d) → d.0 ≡ c
one-holder d c some = grind (arith, nat_tests, some)

pub holder-of : (c : ℕ) (o : Option Lock) → 1 ≤ holder_in c o → (h : Lock) → o ≡ Some h → (d : CoreId) → h.holder ≡ Some d → d.0 ≡ c
holder-of c o some h there d holds_it = one-holder d c (omega (arith, some, ap (holder_in c) there, ap (holder_count c) holds_it))

-- ---- the one release of a lock

-- what is read off a release is its signature
pub release-is : (l : ℕ) (message : Message) (s : Signature) → release_in l message ≡ Some s → (lock : LockId) × (core : CoreId) × (message ≡ Release lock core s) × (lock.0 ≡ l)
release-is l (Release lock core t) s is = by_lock (lock.0 == l) refl is where
  by_lock : (x : Bool) → (lock.0 == l) ≡ x → (if x then Some t else None) ≡ Some s → (lk : LockId) × (c : CoreId) × (Release lock core t ≡ Release lk c s) × (lk.0 ≡ l)
  by_lock true e same = let one : t ≡ s = cc in (lock, core, ap (Release lock core) one, eqb-true lock.0 l e)
  by_lock false e same = absurd (cc)
release-is l (ReadReq word reader) s is = absurd (cc)
release-is l (ReadFwd word reader) s is = absurd (cc)
release-is l (DataReply word value) s is = absurd (cc)
release-is l (RegReq word c) s is = absurd (cc)
release-is l (RegFwd word c) s is = absurd (cc)
release-is l (RegAck word) s is = absurd (cc)
release-is l (WriteBack word value c) s is = absurd (cc)
release-is l (WbAck word) s is = absurd (cc)
release-is l (Acquire lock c) s is = absurd (cc)
release-is l (Grant lock t) s is = absurd (cc)
release-is l (Arrived c bad) s is = absurd (cc)
release-is l (Go phase) s is = absurd (cc)
release-is l Halt s is = absurd (cc)

-- the first release is one in flight
first-there : (l : ℕ) (ms : List Mail) (s : Signature) → first_release l ms ≡ Some s → (place : ℕ) × (m : Mail) × (lock : LockId) × (core : CoreId) × (slice_get ms place ≡ Some m) × (m.message ≡ Release lock core s)
first-there l [] s is = absurd (cc)
first-there l (m ∷ ms) s is = by_first (release_in l m.message) refl (first-there l ms s) where
  Found : List Mail → Type 0
  Found xs = (place : ℕ) × (x : Mail) × (lock : LockId) × (core : CoreId) × (slice_get xs place ≡ Some x) × (x.message ≡ Release lock core s)

  later : Found ms → Found (m ∷ ms)
  later (place, x, lock, core, there, says) = (suc place, x, lock, core, there, says)

  by_first : (o : Option Signature) → release_in l m.message ≡ o → (first_release l ms ≡ Some s → Found ms) → Found (m ∷ ms)
  by_first None e again = later (again (rw (e) at is))
  by_first (Some t) e again =
      let here : Some t ≡ Some s = rw (e) at is in
      let at = release-is l m.message s (e ∙ here) in
      (zero, m, at.0, at.1, refl, at.2)

-- all releases of a lock among these mails are of one core
abbrev AreOf : ℕ → ℕ → List Mail → Type 0
AreOf l d ms = (place : ℕ) (m : Mail) (lock : LockId) (core : CoreId) (s : Signature) → slice_get ms place ≡ Some m → m.message ≡ Release lock core s → lock.0 ≡ l → core.0 ≡ d

bit-most : (b : Bool) → bit b ≤ 1
bit-most true = omega arith
bit-most false = omega arith

pub counts-of : (l d : ℕ) (m : Mail) (lock : LockId) (core : CoreId) (s : Signature) → m.message ≡ Release lock core s → lock.0 ≡ l → core.0 ≡ d → mail_count (is_release_of l d) m ≡ 1
counts-of l d m lock core s says same own = rw (says) (grind (arith, nat_tests, same, own))

carrying-le : (l w p d : ℕ) (ms : List Mail) → AreOf l d ms → (place : ℕ) (m : Mail) → slice_get ms place ≡ Some m → mail_count (is_carrying l w p) m ≤ mail_count (is_release_of l d) m
carrying-le l w p d ms own place m there = by_weight (mail_count (is_carrying l w p) m) refl where
  by_weight : (k : ℕ) → mail_count (is_carrying l w p) m ≡ k → mail_count (is_carrying l w p) m ≤ mail_count (is_release_of l d) m
  by_weight zero e = omega (arith, e)
  by_weight (suc k) e =
      let r = carrying-is l w p m (omega (arith, e)) in
      omega (arith, bit-most (is_carrying l w p m.to m.message), counts-of l d m r.lock r.core r.signature r.says r.same (own place m r.lock r.core r.signature there r.says r.same))

read-off : (l w p : ℕ) (m : Mail) (r : IsRelease l w p m) → release_in l m.message ≡ Some r.signature
read-off l w p m r = rw (r.says, r.same, same-number l) refl

-- where a release carries a word, and there is one release alone, the first one carries it
signed-first : (l w p d : ℕ) (ms : List Mail) → AreOf l d ms → sum_by (mail_count (is_release_of l d)) ms ≤ 1 → 1 ≤ sum_by (mail_count (is_carrying l w p)) ms → signed_in w p (first_release l ms) ≡ true
signed-first l w p d [] own single some = absurd (omega (arith, some))
signed-first l w p d (m ∷ ms) own single some = by_first (release_in l m.message) refl (signed-first l w p d ms (λ place. own (suc place))) where
  all : sum_by (mail_count (is_release_of l d)) (m ∷ ms) ≡ mail_count (is_release_of l d) m + sum_by (mail_count (is_release_of l d)) ms
  all = sum_by-cons (mail_count (is_release_of l d)) m ms

  carried : sum_by (mail_count (is_carrying l w p)) (m ∷ ms) ≡ mail_count (is_carrying l w p) m + sum_by (mail_count (is_carrying l w p)) ms
  carried = sum_by-cons (mail_count (is_carrying l w p)) m ms

  by_first : (o : Option Signature) → release_in l m.message ≡ o → (sum_by (mail_count (is_release_of l d)) ms ≤ 1 → 1 ≤ sum_by (mail_count (is_carrying l w p)) ms → signed_in w p (first_release l ms) ≡ true)
      → signed_in w p (first_release l (m ∷ ms)) ≡ true
  by_first None e again = rw (e) (again (omega (arith, single, all)) (omega (arith, some, carried, nothing)))
    where
      nothing : mail_count (is_carrying l w p) m ≡ 0
      nothing = by_weight (mail_count (is_carrying l w p) m) refl where
        by_weight : (k : ℕ) → mail_count (is_carrying l w p) m ≡ k → mail_count (is_carrying l w p) m ≡ 0
        by_weight zero f = f
        by_weight (suc k) f =
            let r = carrying-is l w p m (omega (arith, f)) in
            let there = read-off l w p m r in
            absurd (cc)
  by_first (Some t) e again =
      let at = release-is l m.message t e in
      let mine = counts-of l d m at.0 at.1 t at.2 at.3 (own zero m at.0 at.1 t refl at.2 at.3) in
      let rest = sums-within (mail_count (is_carrying l w p)) (mail_count (is_release_of l d)) ms (carrying-le l w p d ms (λ place. own (suc place))) in
      let r = carrying-is l w p m (omega (arith, some, carried, single, all, mine, rest)) in
      let same : t ≡ r.signature = one-signature t r (sym e) in
      rw (e) (ap (λ (x : Signature). may_hold x w p) same ∙ r.signed)
    where
      one-signature : (t : Signature) (r : IsRelease l w p m) → Some t ≡ release_in l m.message → t ≡ r.signature
      one-signature t r is =
          let both : Some t ≡ Some r.signature = is ∙ read-off l w p m r in
          cc

-- ---- the signature of a lock

-- a join with what is carried holds what either holds
joined-holds : (kept : Signature) (o : Option Signature) (w p : ℕ) → tag kept ≤ p → ((s : Signature) → o ≡ Some s → tag s ≤ p) → 1 ≤ bit (may_hold kept w p) + bit (signed_in w p o) → may_hold (with_carried kept o) w p ≡ true
joined-holds kept None w p early late some = bit-true (may_hold kept w p) (omega (arith, some))
joined-holds kept (Some s) w p early late some = by_kept (may_hold kept w p) refl (may_hold s w p) refl where
  by_kept : (x : Bool) → may_hold kept w p ≡ x → (y : Bool) → may_hold s w p ≡ y → may_hold (joined kept s) w p ≡ true
  by_kept true e y f = joined_covers_first kept s w p (late s refl) e
  by_kept false e true f = joined_covers_second kept s w p early f
  by_kept false e false f = let one = rw (e, f) at some in absurd (omega (arith, one))

-- ---- who carries a word under a lock

-- a core that holds the lock, and whose signature may hold the word
record Holds (S : State) (l w p : ℕ) : Type 0 where
  core : ℕ
  node : NodeParts
  found : slice_get S.nodes core ≡ Some node
  has : has_lock S core l ≡ true
  signed : signed_in w p (slice_get node.signatures l) ≡ true
  holder : 1 ≤ holder_in core (lock_at S l)

holding : (S : State) (M : ℕ → ℕ) (l w p : ℕ) → Invariant S M → 1 ≤ sum_by (carried_by l w p) S.nodes → Holds S l w p
holding S M l w p inv some =
    let at = found-weighing (carried_by l w p) S.nodes some in
    let has = carrying-holds S l w p at.place at.item at.there at.some in
    record { core = at.place; node = at.item; found = at.there; has = has.0; signed = has.1; holder = omega (arith, inv.locks.row l at.place, ap bit has.0) }

-- who gives a lock up is its holder
giving : (S : State) (M : ℕ → ℕ) (l : ℕ) → Invariant S M → (place : ℕ) (m : Mail) (lock : LockId) (core : CoreId) (s : Signature) → slice_get S.mails place ≡ Some m → m.message ≡ Release lock core s → lock.0 ≡ l
    → (1 ≤ flight S (is_release_of l core.0)) × (1 ≤ holder_in core.0 (lock_at S l))
giving S M l inv place m lock core s there says same =
    let one = subst (λ (x : ℕ). 1 ≤ flight S (is_release_of x core.0)) same (release-counts S place m lock core s there says) in
    (one, omega (arith, inv.locks.row l core.0, one))

record Gives (S : State) (l : ℕ) : Type 0 where
  core : ℕ
  gives : 1 ≤ flight S (is_release_of l core)
  holder : 1 ≤ holder_in core (lock_at S l)

releasing : (S : State) (M : ℕ → ℕ) (l w p : ℕ) → Invariant S M → 1 ≤ flight S (is_carrying l w p) → Gives S l
releasing S M l w p inv some =
    let at = found-weighing (mail_count (is_carrying l w p)) S.mails some in
    let r = carrying-is l w p at.item at.some in
    let both = giving S M l inv at.place at.item r.lock r.core r.signature at.there r.says r.same in
    record { core = r.core.0; gives = both.0; holder = both.1 }

-- where nobody is the holder the word is known at the lock's home
known-home : (S : State) (M : ℕ → ℕ) (l w : ℕ) → Invariant S M → ((c : ℕ) → holder_in c (lock_at S l) ≡ 0) → 1 ≤ carriers S l w → 1 ≤ kept_bit w S.keeper.phase (lock_at S l)
known-home S M l w inv nobody some = by_sum (sum_by (carried_by l w S.keeper.phase) S.nodes) refl (flight S (is_carrying l w S.keeper.phase)) refl where
  by_sum : (x : ℕ) → sum_by (carried_by l w S.keeper.phase) S.nodes ≡ x → (y : ℕ) → flight S (is_carrying l w S.keeper.phase) ≡ y → 1 ≤ kept_bit w S.keeper.phase (lock_at S l)
  by_sum zero e zero f = omega (arith, some, e, f)
  by_sum zero e (suc y) f = let by = releasing S M l w S.keeper.phase inv (omega (arith, f)) in absurd (omega (arith, by.holder, nobody by.core))
  by_sum (suc x) e y f = let by = holding S M l w S.keeper.phase inv (omega (arith, e)) in absurd (omega (arith, by.holder, nobody by.core))

-- a lock under which a word is carried is there
lock-there : (S : State) (M : ℕ → ℕ) (l w : ℕ) → Invariant S M → 1 ≤ carriers S l w → (h : Lock) × (lock_at S l ≡ Some h)
lock-there S M l w inv some = by_lock (lock_at S l) refl where
  by_lock : (o : Option Lock) → lock_at S l ≡ o → (h : Lock) × (lock_at S l ≡ Some h)
  by_lock (Some h) is = (h, is)
  by_lock None is = absurd (omega (arith, known-home S M l w inv (λ c. ap (holder_in c) is) some, ap (kept_bit w S.keeper.phase) is))

-- the holder of a lock holds it, and its signature may hold the word, where it is carried and not known at home
held-signed : (S : State) (M : ℕ → ℕ) (l w : ℕ) (h : Lock) (d : CoreId) (n : NodeParts) → Invariant S M → lock_at S l ≡ Some h → h.holder ≡ Some d → slice_get S.nodes d.0 ≡ Some n → has_lock S d.0 l ≡ true → 1 ≤ carriers S l w
    → 1 ≤ bit (may_hold h.kept w S.keeper.phase) + bit (signed_in w S.keeper.phase (slice_get n.signatures l))
held-signed S M l w h d n inv there owner found has some = by_sum (sum_by (carried_by l w S.keeper.phase) S.nodes) refl (flight S (is_carrying l w S.keeper.phase)) refl where
  single : holder_in d.0 (lock_at S l) ≤ 1
  single = omega (arith, ap (holder_in d.0) there, ap (holder_count d.0) owner, bit-most (d.0 == d.0))

  by_sum : (x : ℕ) → sum_by (carried_by l w S.keeper.phase) S.nodes ≡ x → (y : ℕ) → flight S (is_carrying l w S.keeper.phase) ≡ y → 1 ≤ bit (may_hold h.kept w S.keeper.phase) + bit (signed_in w S.keeper.phase (slice_get n.signatures l))
  by_sum zero e zero f = omega (arith, some, e, f, ap (kept_bit w S.keeper.phase) there)
  by_sum zero e (suc y) f =
      let by = releasing S M l w S.keeper.phase inv (omega (arith, f)) in
      let same = holder-of by.core (lock_at S l) by.holder h there d owner in
      let gives = subst (λ (x : ℕ). 1 ≤ flight S (is_release_of l x)) (sym same) by.gives in
      absurd (omega (arith, gives, single, inv.locks.row l d.0, ap bit has))
  by_sum (suc x) e y f =
      let by = holding S M l w S.keeper.phase inv (omega (arith, e)) in
      let same = holder-of by.core (lock_at S l) by.holder h there d owner in
      let node : Some n ≡ Some by.node = sym found ∙ (ap (slice_get S.nodes) same ∙ by.found) in
      let one : n ≡ by.node = cc in
      omega (arith, ap bit by.signed, ap (λ (x : NodeParts). bit (signed_in w S.keeper.phase (slice_get x.signatures l))) one)

-- and where the holder doesn't hold it, the one release of it does
given-signed : (S : State) (M : ℕ → ℕ) (l w : ℕ) (h : Lock) (d : CoreId) → Invariant S M → lock_at S l ≡ Some h → h.holder ≡ Some d → has_lock S d.0 l ≡ false → 1 ≤ carriers S l w
    → 1 ≤ bit (may_hold h.kept w S.keeper.phase) + bit (signed_in w S.keeper.phase (first_release l S.mails))
given-signed S M l w h d inv there owner without some = by_sum (sum_by (carried_by l w S.keeper.phase) S.nodes) refl (flight S (is_carrying l w S.keeper.phase)) refl where
  single : holder_in d.0 (lock_at S l) ≤ 1
  single = omega (arith, ap (holder_in d.0) there, ap (holder_count d.0) owner, bit-most (d.0 == d.0))

  own : AreOf l d.0 S.mails
  own place m lock core s at says same = sym (holder-of core.0 (lock_at S l) (giving S M l inv place m lock core s at says same).1 h there d owner)

  by_sum : (x : ℕ) → sum_by (carried_by l w S.keeper.phase) S.nodes ≡ x → (y : ℕ) → flight S (is_carrying l w S.keeper.phase) ≡ y → 1 ≤ bit (may_hold h.kept w S.keeper.phase) + bit (signed_in w S.keeper.phase (first_release l S.mails))
  by_sum zero e zero f = omega (arith, some, e, f, ap (kept_bit w S.keeper.phase) there)
  by_sum zero e (suc y) f =
      let signed = signed-first l w S.keeper.phase d.0 S.mails own (omega (arith, single, inv.locks.row l d.0)) (omega (arith, f)) in
      omega (arith, ap bit signed)
  by_sum (suc x) e y f =
      let by = holding S M l w S.keeper.phase inv (omega (arith, e)) in
      let same = holder-of by.core (lock_at S l) by.holder h there d owner in
      let has = subst (λ (x : ℕ). has_lock S x l ≡ true) (sym same) by.has in
      absurd (cc)

-- a word that is carried under a lock is one that the lock's signature may hold
lock-signed : (S : State) (M : ℕ → ℕ) (l w : ℕ) (h : Lock) → Invariant S M → lock_at S l ≡ Some h → 1 ≤ carriers S l w → may_hold (lock_signature S l h) w S.keeper.phase ≡ true
lock-signed S M l w h inv there some = by_holder h.holder refl where
  early : tag h.kept ≤ S.keeper.phase
  early = inv.locks.kept l h there

  known : 1 ≤ bit (may_hold h.kept w S.keeper.phase) → may_hold h.kept w S.keeper.phase ≡ true
  known one = bit-true (may_hold h.kept w S.keeper.phase) one

  by_node : (d : CoreId) → h.holder ≡ Some d → has_lock S d.0 l ≡ true → (o : Option NodeParts) → slice_get S.nodes d.0 ≡ o → may_hold (with_carried h.kept (signature_at l o)) w S.keeper.phase ≡ true
  by_node d owner has None found = let none : has_lock S d.0 l ≡ false = ap (holds_lock l) found in absurd (cc)
  by_node d owner has (Some n) found =
      joined-holds h.kept (slice_get n.signatures l) w S.keeper.phase early
      (λ s is. (let own = all-there (λ (x : Signature). tag x ≡ n.phase) n.signatures l s (((inv.machine.node d.0 n found).fits).tags) is in omega (arith, own, inv.behind d.0 n found)))
      (held-signed S M l w h d n inv there owner found has some)

  by_held : (d : CoreId) → h.holder ≡ Some d → (x : Bool) → has_lock S d.0 l ≡ x
      → may_hold (with_carried h.kept (if x then signature_at l (slice_get S.nodes d.0) else first_release l S.mails)) w S.keeper.phase ≡ true
  by_held d owner true has = by_node d owner has (slice_get S.nodes d.0) refl
  by_held d owner false without =
      joined-holds h.kept (first_release l S.mails) w S.keeper.phase early
      (λ s is. (let at = first-there l S.mails s is in (locks S M inv).sent at.1 at.2 at.3 s (at.0, at.4) at.5))
      (given-signed S M l w h d inv there owner without some)

  by_holder : (o : Option CoreId) → h.holder ≡ o → may_hold (with_holder S l h.kept o) w S.keeper.phase ≡ true
  by_holder None free = known (omega (arith, known-home S M l w inv (λ c. ap (holder_in c) there ∙ ap (holder_count c) free) some, ap (kept_bit w S.keeper.phase) there))
  by_holder (Some d) owner = by_held d owner (has_lock S d.0 l) refl

guarded : (S : State) (M : ℕ → ℕ) (c w : ℕ) → Invariant S M → MayHaveWritten S c w → HasGuardedWriter S c w
guarded S M c w inv by =
    let at = lock-there S M by.lock w inv by.signed in
    record {
      core = by.core;
      other = by.other;
      decl = by.decl;
      declares = by.declares;
      lock = by.lock;
      writes = by.writes;
      unheld = by.unheld;
      state = at.0;
      there = at.1;
      signed = lock-signed S M by.lock w at.0 inv at.1 by.signed;
    }

fresh : (S : State) (M : ℕ → ℕ) (c w value : ℕ) (marked : Bool) → Invariant S M → (value ≡ M w) ⊎ MayBeOld S c w marked
    → IsFresh S c w value ⊎ (IsBehind S c w marked ⊎ (HasWriter S c w ⊎ HasGuardedWriter S c w))
fresh S M c w value marked inv (inl is) = inl (is ∙ sym (value-is S M inv.words inv.values w))
fresh S M c w value marked inv (inr (inl behind)) = inr (inl behind)
fresh S M c w value marked inv (inr (inr (inl writer))) = inr (inr (inl writer))
fresh S M c w value marked inv (inr (inr (inr by))) = inr (inr (inr (guarded S M c w inv by)))

pub copies : (S : State) (M : ℕ → ℕ) → Invariant S M → AreCopies S
copies S M inv =
    record {
      marked = inv.copies.marked;
      fresh = λ c w value marked is. fresh S M c w value marked inv (inv.copies.fresh c w value marked is);
    }
