-- The rows of words after what a core does with its entry of a word.
use Rattle.std.proofs.Common.{◌≡◌, ℕ, ◌+◌, ◌≤◌, ◌==◌, Bool, true, false, Option, Some, None, refl, ap, arith}
use Rattle.std.proofs.lemmas.Bool.{eqb-true}
use Rattle.std.proofs.lemmas.Bool.Decides.{nat_tests}
use Rattle.dn_base.specs.declared.ids.WordId.{WordId}
use Rattle.dn_base.specs.declared.ids.CoreId.{CoreId}
use Rattle.dn_base.specs.declared.ids.BankId.{BankId}
use Rattle.message_net.specs.declared.actor.Actor.TheVariants.{Core, Bank}
use Rattle.message_net.specs.declared.message.Message.TheVariants.{RegReq, RegFwd, RegAck, WriteBack, WbAck}
use Rattle.message_net.specs.declared.message.Outgoing.{Outgoing}
use Rattle.word_cache.specs.declared.row.Entry.{Entry}
use Rattle.word_cache.specs.declared.row.Entry.TheVariants.{Registered, Leaving}
use Rattle.machine_rules.specs.State.{State, entry_at, home_at}
use Rattle.machine_rules.proofs.Bits.{pending_bit, settled_bit, leaving_bit, known_bit, owner_bit}
use Rattle.machine_rules.proofs.BitLemmas.{one-owner}
use Rattle.machine_rules.proofs.Invariant.{WordsGood, WordRow, word_counts}
use Rattle.machine_rules.proofs.WordEvents.{WordFlows}

pub same-number : (n : ℕ) → (n == n) ≡ true
same-number n = grind (arith, nat_tests)

-- a core's entry of a word in a state, and after an event in which the home has no part
pub record AtCore (S T : State) (w core : ℕ) (old new : Option Entry) (left sent : Option Outgoing) : Type 0 where
  pub was : entry_at S core w ≡ old
  pub is : entry_at T core w ≡ new
  pub others : (d : ℕ) → (core == d) ≡ false → entry_at T d w ≡ entry_at S d w
  pub home : home_at T w ≡ home_at S w
  pub flows : (d : ℕ) → WordFlows S T left sent w d

-- RegAck comes: the word is pending no more
pub acknowledged-row : (S T : State) (word : WordId) (core : CoreId) (value : ℕ)
    → AtCore S T word.0 core.0 (Some (Registered value true)) (Some (Registered value false)) (Some (record { to = Core core; message = RegAck word })) None
    → WordsGood S → (d : ℕ) → WordRow (word_counts T word.0 d)
acknowledged-row S T word core value h g d = by_core (core.0 == d) refl where
  by_core : (x : Bool) → (core.0 == d) ≡ x → WordRow (word_counts T word.0 d)
  by_core true e =
      let moved = rw (same-number word.0, e) at (h.flows d) in
      let same : core.0 ≡ d = eqb-true core.0 d e in
      let was = rw (same) at h.was in
      let is = rw (same) at h.is in
      omega (arith, moved, g.row word.0 d, ap pending_bit was, ap settled_bit was, ap leaving_bit was, ap pending_bit is, ap settled_bit is, ap leaving_bit is, ap known_bit h.home, ap (owner_bit d) h.home)
  by_core false e =
      let moved = rw (same-number word.0, e) at (h.flows d) in
      let entry = h.others d e in
      omega (arith, moved, g.row word.0 d, ap pending_bit entry, ap settled_bit entry, ap leaving_bit entry, ap known_bit h.home, ap (owner_bit d) h.home)

-- WbAck comes: the leaving word goes
pub freed-row : (S T : State) (word : WordId) (core : CoreId) (value : ℕ)
    → AtCore S T word.0 core.0 (Some (Leaving value)) None (Some (record { to = Core core; message = WbAck word })) None
    → WordsGood S → (d : ℕ) → WordRow (word_counts T word.0 d)
freed-row S T word core value h g d = by_core (core.0 == d) refl where
  by_core : (x : Bool) → (core.0 == d) ≡ x → WordRow (word_counts T word.0 d)
  by_core true e =
      let moved = rw (same-number word.0, e) at (h.flows d) in
      let same : core.0 ≡ d = eqb-true core.0 d e in
      let was = rw (same) at h.was in
      let is = rw (same) at h.is in
      omega (arith, moved, g.row word.0 d, ap pending_bit was, ap settled_bit was, ap leaving_bit was, ap pending_bit is, ap settled_bit is, ap leaving_bit is, ap known_bit h.home, ap (owner_bit d) h.home)
  by_core false e =
      let moved = rw (same-number word.0, e) at (h.flows d) in
      let entry = h.others d e in
      omega (arith, moved, g.row word.0 d, ap pending_bit entry, ap settled_bit entry, ap leaving_bit entry, ap known_bit h.home, ap (owner_bit d) h.home)

-- a registered word leaves
pub evicted-row : (S T : State) (word : WordId) (core : CoreId) (value : ℕ) (bank : BankId)
    → AtCore S T word.0 core.0 (Some (Registered value false)) (Some (Leaving value)) None (Some (record { to = Bank bank; message = WriteBack word value core }))
    → WordsGood S → (d : ℕ) → WordRow (word_counts T word.0 d)
evicted-row S T word core value bank h g d = by_core (core.0 == d) refl where
  by_core : (x : Bool) → (core.0 == d) ≡ x → WordRow (word_counts T word.0 d)
  by_core true e =
      let moved = rw (same-number word.0, e) at (h.flows d) in
      let same : core.0 ≡ d = eqb-true core.0 d e in
      let was = rw (same) at h.was in
      let is = rw (same) at h.is in
      omega (arith, moved, g.row word.0 d, ap pending_bit was, ap settled_bit was, ap leaving_bit was, ap pending_bit is, ap settled_bit is, ap leaving_bit is, ap known_bit h.home, ap (owner_bit d) h.home)
  by_core false e =
      let moved = rw (same-number word.0, e) at (h.flows d) in
      let entry = h.others d e in
      omega (arith, moved, g.row word.0 d, ap pending_bit entry, ap settled_bit entry, ap leaving_bit entry, ap known_bit h.home, ap (owner_bit d) h.home)

-- a word is registered that was a copy or no entry: RegReq goes
pub registered-row : (S T : State) (word : WordId) (core : CoreId) (value : ℕ) (bank : BankId) (old : Option Entry)
    → AtCore S T word.0 core.0 old (Some (Registered value true)) None (Some (record { to = Bank bank; message = RegReq word core }))
    → pending_bit old + settled_bit old + leaving_bit old ≡ 0 → 1 ≤ known_bit (home_at S word.0)
    → WordsGood S → (d : ℕ) → WordRow (word_counts T word.0 d)
registered-row S T word core value bank old h quiet known g d = by_core (core.0 == d) refl where
  by_core : (x : Bool) → (core.0 == d) ≡ x → WordRow (word_counts T word.0 d)
  by_core true e =
      let moved = rw (same-number word.0, e) at (h.flows d) in
      let same : core.0 ≡ d = eqb-true core.0 d e in
      let was = rw (same) at h.was in
      let is = rw (same) at h.is in
      omega (arith, moved, g.row word.0 d, quiet, known, ap pending_bit was, ap settled_bit was, ap leaving_bit was, ap pending_bit is, ap settled_bit is, ap leaving_bit is, ap known_bit h.home, ap (owner_bit d) h.home)
  by_core false e =
      let moved = rw (same-number word.0, e) at (h.flows d) in
      let entry = h.others d e in
      omega (arith, moved, g.row word.0 d, ap pending_bit entry, ap settled_bit entry, ap leaving_bit entry, ap known_bit h.home, ap (owner_bit d) h.home)

-- RegFwd comes, and RegAck goes to the new registrant: the word, registered or not pending, goes
pub forwarded-row : (S T : State) (word : WordId) (core other : CoreId) (value : ℕ)
    → AtCore S T word.0 core.0 (Some (Registered value false)) None (Some (record { to = Core core; message = RegFwd word other })) (Some (record { to = Core other; message = RegAck word }))
    → WordsGood S → (d : ℕ) → WordRow (word_counts T word.0 d)
forwarded-row S T word core other value h g d = by_core (core.0 == d) refl (other.0 == d) refl where
  by_core : (x : Bool) → (core.0 == d) ≡ x → (y : Bool) → (other.0 == d) ≡ y → WordRow (word_counts T word.0 d)
  by_core true e true f =
      let moved = rw (same-number word.0, e, f) at (h.flows d) in
      absurd (omega (arith, moved, g.row word.0 d))
  by_core true e false f =
      let moved = rw (same-number word.0, e, f) at (h.flows d) in
      let same : core.0 ≡ d = eqb-true core.0 d e in
      let was = rw (same) at h.was in
      let is = rw (same) at h.is in
      let to_other = rw (same-number word.0, same-number other.0) at (h.flows other.0) in
      omega (arith, moved, g.row word.0 d, ap pending_bit was, ap settled_bit was, ap leaving_bit was, ap pending_bit is, ap settled_bit is, ap leaving_bit is, ap known_bit h.home, ap (owner_bit d) h.home, to_other, g.row word.0 other.0, one-owner (home_at S word.0) other.0 d f)
  by_core false e true f =
      let moved = rw (same-number word.0, e, f) at (h.flows d) in
      let entry = h.others d e in
      omega (arith, moved, g.row word.0 d, ap pending_bit entry, ap settled_bit entry, ap leaving_bit entry, ap known_bit h.home, ap (owner_bit d) h.home)
  by_core false e false f =
      let moved = rw (same-number word.0, e, f) at (h.flows d) in
      let entry = h.others d e in
      omega (arith, moved, g.row word.0 d, ap pending_bit entry, ap settled_bit entry, ap leaving_bit entry, ap known_bit h.home, ap (owner_bit d) h.home)

-- the same of a word that isn't registered there, or pending: it stays
pub passed-row : (S T : State) (word : WordId) (core other : CoreId) (old : Option Entry)
    → AtCore S T word.0 core.0 old old (Some (record { to = Core core; message = RegFwd word other })) (Some (record { to = Core other; message = RegAck word }))
    → settled_bit old ≡ 0 → WordsGood S → (d : ℕ) → WordRow (word_counts T word.0 d)
passed-row S T word core other old h unsettled g d = by_core (core.0 == d) refl (other.0 == d) refl where
  by_core : (x : Bool) → (core.0 == d) ≡ x → (y : Bool) → (other.0 == d) ≡ y → WordRow (word_counts T word.0 d)
  by_core true e true f =
      let moved = rw (same-number word.0, e, f) at (h.flows d) in
      absurd (omega (arith, moved, g.row word.0 d))
  by_core true e false f =
      let moved = rw (same-number word.0, e, f) at (h.flows d) in
      let same : core.0 ≡ d = eqb-true core.0 d e in
      let was = rw (same) at h.was in
      let is = rw (same) at h.is in
      omega (arith, moved, g.row word.0 d, unsettled, ap pending_bit was, ap settled_bit was, ap leaving_bit was, ap pending_bit is, ap settled_bit is, ap leaving_bit is, ap known_bit h.home, ap (owner_bit d) h.home)
  by_core false e true f =
      let moved = rw (same-number word.0, e, f) at (h.flows d) in
      let entry = h.others d e in
      omega (arith, moved, g.row word.0 d, ap pending_bit entry, ap settled_bit entry, ap leaving_bit entry, ap known_bit h.home, ap (owner_bit d) h.home)
  by_core false e false f =
      let moved = rw (same-number word.0, e, f) at (h.flows d) in
      let entry = h.others d e in
      omega (arith, moved, g.row word.0 d, ap pending_bit entry, ap settled_bit entry, ap leaving_bit entry, ap known_bit h.home, ap (owner_bit d) h.home)
