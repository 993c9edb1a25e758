-- The rows of words after what the home of a word does.
use Rattle.std.proofs.Common.{◌≡◌, ℕ, ◌==◌, Bool, true, false, Option, Some, refl, ap, subst, arith}
use Rattle.std.proofs.lemmas.Bool.{eqb-true}
use Rattle.std.proofs.lemmas.Bool.Decides.{nat_tests}
use Rattle.dn_base.specs.declared.ids.WordId.{WordId}
use Rattle.dn_base.specs.declared.ids.CoreId.{CoreId}
use Rattle.dn_base.specs.declared.ids.BankId.{BankId}
use Rattle.message_net.specs.declared.actor.Actor.TheVariants.{Core, Bank}
use Rattle.message_net.specs.declared.message.Message.TheVariants.{RegReq, RegFwd, RegAck, WriteBack, WbAck}
use Rattle.message_net.specs.declared.message.Outgoing.{Outgoing}
use Rattle.registry_bank.specs.declared.bank.BankWord.{BankWord}
use Rattle.registry_bank.specs.declared.bank.BankWord.TheVariants.{Home, Reg}
use Rattle.machine_rules.specs.State.{State, entry_at, home_at}
use Rattle.machine_rules.proofs.Bits.{pending_bit, settled_bit, leaving_bit, known_bit, owner_bit}
use Rattle.machine_rules.proofs.Invariant.{WordsGood, WordRow, word_counts}
use Rattle.machine_rules.proofs.WordEvents.{WordFlows}
use Rattle.machine_rules.proofs.WordCore.{same-number}

-- what the home of a word has in a state, and after an event in which no entry has a part
pub record AtHome (S T : State) (w : ℕ) (old new : BankWord) (left sent : Option Outgoing) : Type 0 where
  pub was : home_at S w ≡ Some old
  pub is : home_at T w ≡ Some new
  pub entries : (d : ℕ) → entry_at T d w ≡ entry_at S d w
  pub flows : (d : ℕ) → WordFlows S T left sent w d

-- RegReq meets the value: the core becomes the registrant, and RegAck goes to it
pub home-registered : (S T : State) (word : WordId) (core : CoreId) (bank : BankId) (value : ℕ)
    → AtHome S T word.0 (Home value) (Reg core) (Some (record { to = Bank bank; message = RegReq word core })) (Some (record { to = Core core; message = RegAck word }))
    → WordsGood S → (d : ℕ) → WordRow (word_counts T word.0 d)
home-registered S T word core bank value h g d = by_core (core.0 == d) refl where
  by_core : (x : Bool) → (core.0 == d) ≡ x → WordRow (word_counts T word.0 d)
  by_core true e =
      let moved = rw (same-number word.0, e) at (h.flows d) in
      let is = rw (e) at (ap (owner_bit d) h.is) in
      omega (arith, moved, g.row word.0 d, is, ap pending_bit (h.entries d), ap settled_bit (h.entries d), ap leaving_bit (h.entries d), ap known_bit h.was, ap known_bit h.is, ap (owner_bit d) h.was)
  by_core false e =
      let moved = rw (same-number word.0, e) at (h.flows d) in
      let is = rw (e) at (ap (owner_bit d) h.is) in
      omega (arith, moved, g.row word.0 d, is, ap pending_bit (h.entries d), ap settled_bit (h.entries d), ap leaving_bit (h.entries d), ap known_bit h.was, ap known_bit h.is, ap (owner_bit d) h.was)

-- RegReq meets another registrant: the core becomes the registrant, and RegFwd goes to the earlier one
pub owned-registered : (S T : State) (word : WordId) (core owner : CoreId) (bank : BankId)
    → AtHome S T word.0 (Reg owner) (Reg core) (Some (record { to = Bank bank; message = RegReq word core })) (Some (record { to = Core owner; message = RegFwd word core }))
    → (owner.0 == core.0) ≡ false → WordsGood S → (d : ℕ) → WordRow (word_counts T word.0 d)
owned-registered S T word core owner bank h other g d = by_core (core.0 == d) refl (owner.0 == d) refl where
  by_core : (x : Bool) → (core.0 == d) ≡ x → (y : Bool) → (owner.0 == d) ≡ y → WordRow (word_counts T word.0 d)
  by_core true e true f = absurd (grind (arith, nat_tests, other))
  by_core true e false f =
      let moved = rw (same-number word.0, e, f) at (h.flows d) in
      let is = rw (e) at (ap (owner_bit d) h.is) in
      let was = rw (f) at (ap (owner_bit d) h.was) in
      omega (arith, moved, g.row word.0 d, is, was, ap pending_bit (h.entries d), ap settled_bit (h.entries d), ap leaving_bit (h.entries d), ap known_bit h.was, ap known_bit h.is)
  by_core false e true f =
      let moved = rw (same-number word.0, e, f) at (h.flows d) in
      let is = rw (e) at (ap (owner_bit d) h.is) in
      let was = rw (f) at (ap (owner_bit d) h.was) in
      let asked = rw (same-number word.0, same-number core.0) at (h.flows core.0) in
      let apart : (d == core.0) ≡ false = grind (arith, nat_tests, e) in
      let one = rw (apart) at (g.single word.0 d core.0) in
      omega (arith, moved, g.row word.0 d, is, was, ap pending_bit (h.entries d), ap settled_bit (h.entries d), ap leaving_bit (h.entries d), ap known_bit h.was, ap known_bit h.is, asked, g.row word.0 core.0, one)
  by_core false e false f =
      let moved = rw (same-number word.0, e, f) at (h.flows d) in
      let is = rw (e) at (ap (owner_bit d) h.is) in
      let was = rw (f) at (ap (owner_bit d) h.was) in
      omega (arith, moved, g.row word.0 d, is, was, ap pending_bit (h.entries d), ap settled_bit (h.entries d), ap leaving_bit (h.entries d), ap known_bit h.was, ap known_bit h.is)

-- WriteBack comes from the registrant: the home has the value
pub written-back : (S T : State) (word : WordId) (core : CoreId) (bank : BankId) (value : ℕ)
    → AtHome S T word.0 (Reg core) (Home value) (Some (record { to = Bank bank; message = WriteBack word value core })) (Some (record { to = Core core; message = WbAck word }))
    → WordsGood S → (d : ℕ) → WordRow (word_counts T word.0 d)
written-back S T word core bank value h g d = by_core (core.0 == d) refl where
  by_core : (x : Bool) → (core.0 == d) ≡ x → WordRow (word_counts T word.0 d)
  by_core true e =
      let moved = rw (same-number word.0, e) at (h.flows d) in
      let was = rw (e) at (ap (owner_bit d) h.was) in
      omega (arith, moved, g.row word.0 d, was, ap pending_bit (h.entries d), ap settled_bit (h.entries d), ap leaving_bit (h.entries d), ap known_bit h.was, ap known_bit h.is, ap (owner_bit d) h.is)
  by_core false e =
      let moved = rw (same-number word.0, e) at (h.flows d) in
      let was = rw (e) at (ap (owner_bit d) h.was) in
      omega (arith, moved, g.row word.0 d, was, ap pending_bit (h.entries d), ap settled_bit (h.entries d), ap leaving_bit (h.entries d), ap known_bit h.was, ap known_bit h.is, ap (owner_bit d) h.is)

-- WriteBack comes from another core: the home stays as it is
pub written-past : (S T : State) (word : WordId) (core : CoreId) (bank : BankId) (value : ℕ) (content : BankWord)
    → AtHome S T word.0 content content (Some (record { to = Bank bank; message = WriteBack word value core })) (Some (record { to = Core core; message = WbAck word }))
    → owner_bit core.0 (Some content) ≡ 0 → WordsGood S → (d : ℕ) → WordRow (word_counts T word.0 d)
written-past S T word core bank value content h past g d = by_core (core.0 == d) refl where
  by_core : (x : Bool) → (core.0 == d) ≡ x → WordRow (word_counts T word.0 d)
  by_core true e =
      let moved = rw (same-number word.0, e) at (h.flows d) in
      let none : owner_bit d (Some content) ≡ 0 = subst (λ (x : ℕ). owner_bit x (Some content) ≡ 0) (eqb-true core.0 d e) past in
      omega (arith, moved, g.row word.0 d, none, ap pending_bit (h.entries d), ap settled_bit (h.entries d), ap leaving_bit (h.entries d), ap known_bit h.was, ap known_bit h.is, ap (owner_bit d) h.was, ap (owner_bit d) h.is)
  by_core false e =
      let moved = rw (same-number word.0, e) at (h.flows d) in
      omega (arith, moved, g.row word.0 d, ap pending_bit (h.entries d), ap settled_bit (h.entries d), ap leaving_bit (h.entries d), ap known_bit h.was, ap known_bit h.is, ap (owner_bit d) h.was, ap (owner_bit d) h.is)
