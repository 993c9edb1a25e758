-- Events that concern one word: its entry at one core may change, and what its home has; no mail of another word comes or goes.
use Rattle.std.proofs.Common.{◌≡◌, ℕ, ◌+◌, ◌==◌, Bool, true, false, cond, Option, refl, ap, arith}
use Rattle.std.proofs.lemmas.Bool.{eqb-true}
use Rattle.message_net.specs.declared.message.Outgoing.{Outgoing}
use Rattle.word_cache.specs.declared.row.Entry.{Entry}
use Rattle.registry_bank.specs.declared.bank.BankWord.{BankWord}
use Rattle.registration_protocol.specs.Node.{NodeParts, entry_of}
use Rattle.machine_rules.specs.State.{State, entry_in, entry_at, home_at}
use Rattle.machine_rules.specs.Flight.{Test, flight, is_reg_req_of, is_reg_fwd_of, is_reg_fwd_to, is_reg_ack_to, is_reg_fwd_to_itself, is_write_back_of, is_write_back_with, is_wb_ack_to}
use Rattle.machine_rules.proofs.Bits.{passes, pending_bit, settled_bit, leaving_bit, known_bit, owner_bit}
use Rattle.machine_rules.proofs.Invariant.{WordsGood, WordRow, word_counts}
use Rattle.machine_rules.proofs.Steps.{NodeStep}

-- what comes and goes of the mails of word v that concern core d
abbrev pub Balance : State → State → Option Outgoing → Option Outgoing → Test → Type 0
Balance S T left sent p = flight T p + passes p left ≡ flight S p + passes p sent

abbrev pub WordFlows : State → State → Option Outgoing → Option Outgoing → ℕ → ℕ → Type 0
WordFlows S T left sent v d =
    Balance S T left sent (is_reg_req_of v d)
    × Balance S T left sent (is_reg_fwd_of v d)
    × Balance S T left sent (is_reg_ack_to v d)
    × Balance S T left sent (is_reg_fwd_to v d)
    × Balance S T left sent (is_reg_fwd_to_itself v d)
    × Balance S T left sent (is_write_back_of v d)
    × Balance S T left sent (is_wb_ack_to v d)

abbrev pub Flown : State → State → Option Outgoing → Option Outgoing → Type 0
Flown S T left sent = (p : Test) → Balance S T left sent p

pub flows : (S T : State) (left sent : Option Outgoing) → Flown S T left sent → (v d : ℕ) → WordFlows S T left sent v d
flows S T left sent flown v d = (flown (is_reg_req_of v d), flown (is_reg_fwd_of v d), flown (is_reg_ack_to v d), flown (is_reg_fwd_to v d), flown (is_reg_fwd_to_itself v d), flown (is_write_back_of v d), flown (is_wb_ack_to v d))

-- a mail, if there is one, that doesn't concern word v
pub record IsAside (v : ℕ) (out : Option Outgoing) : Type 0 where
  pub asked : (d : ℕ) → passes (is_reg_req_of v d) out ≡ 0
  pub forwarded : (d : ℕ) → passes (is_reg_fwd_of v d) out ≡ 0
  pub acked : (d : ℕ) → passes (is_reg_ack_to v d) out ≡ 0
  pub sought : (d : ℕ) → passes (is_reg_fwd_to v d) out ≡ 0
  pub turned : (d : ℕ) → passes (is_reg_fwd_to_itself v d) out ≡ 0
  pub written : (d : ℕ) → passes (is_write_back_of v d) out ≡ 0
  pub valued : (d value : ℕ) → passes (is_write_back_with v d value) out ≡ 0
  pub freed : (d : ℕ) → passes (is_wb_ack_to v d) out ≡ 0

-- a node's step, by the entries
pub entry-node : (S T : State) (core : ℕ) (n m : NodeParts) (left sent : Option Outgoing) → NodeStep S T core n m left sent
    → (d v : ℕ) → entry_at T d v ≡ cond (core == d) (entry_of m v) (entry_at S d v)
entry-node S T core n m left sent step d v = by_test (core == d) refl where
  by_test : (x : Bool) → (core == d) ≡ x → entry_at T d v ≡ cond x (entry_of m v) (entry_at S d v)
  by_test true e = ap (entry_in v) (rw (e) at (step.nodes d))
  by_test false e = ap (entry_in v) (rw (e) at (step.nodes d))

-- an event of word w at a core
pub record WordEvent (S T : State) (w core : ℕ) (change : Option Entry → Option Entry) (home : Option BankWord) (left sent : Option Outgoing) : Type 0 where
  pub entries : (d v : ℕ) → entry_at T d v ≡ cond (w == v) (cond (core == d) (change (entry_at S d v)) (entry_at S d v)) (entry_at S d v)
  pub homes : (v : ℕ) → home_at T v ≡ cond (w == v) home (home_at S v)
  pub flown : Flown S T left sent
  pub came : (v : ℕ) → (w == v) ≡ false → IsAside v left
  pub went : (v : ℕ) → (w == v) ≡ false → IsAside v sent

-- another word's row
other-row : (S T : State) (w core : ℕ) (change : Option Entry → Option Entry) (home : Option BankWord) (left sent : Option Outgoing)
    → WordEvent S T w core change home left sent → WordsGood S → (v d : ℕ) → (w == v) ≡ false → WordRow (word_counts T v d)
other-row S T w core change home left sent h g v d e =
    let entry = rw (e) at (h.entries d v) in
    let at_home = rw (e) at (h.homes v) in
    omega (
      arith,
      g.row v d,
      flows S T left sent h.flown v d,
      ap pending_bit entry,
      ap settled_bit entry,
      ap leaving_bit entry,
      ap known_bit at_home,
      ap (owner_bit d) at_home,
      (h.came v e).asked d,
      (h.came v e).forwarded d,
      (h.came v e).acked d,
      (h.came v e).sought d,
      (h.came v e).turned d,
      (h.came v e).written d,
      (h.came v e).freed d,
      (h.went v e).asked d,
      (h.went v e).forwarded d,
      (h.went v e).acked d,
      (h.went v e).sought d,
      (h.went v e).turned d,
      (h.went v e).written d,
      (h.went v e).freed d,
    )

-- the rows of all words, from those of word w
pub rows : (S T : State) (w core : ℕ) (change : Option Entry → Option Entry) (home : Option BankWord) (left sent : Option Outgoing)
    → WordEvent S T w core change home left sent → WordsGood S → ((d : ℕ) → WordRow (word_counts T w d)) → (v d : ℕ) → WordRow (word_counts T v d)
rows S T w core change home left sent h g own v d = by_test (w == v) refl where
  by_test : (x : Bool) → (w == v) ≡ x → WordRow (word_counts T v d)
  by_test true e = let same : w ≡ v = eqb-true w v e in rw (← same) (own d)
  by_test false e = other-row S T w core change home left sent h g v d e
