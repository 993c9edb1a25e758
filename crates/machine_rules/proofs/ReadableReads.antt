-- What is kept says that the reads are coherent.
use Rattle.std.proofs.Common.{◌≡◌, inl, inr, ℕ, ◌≤◌, ◌==◌, Bool, true, false, cond, slice_get, Option, Some, None, refl, sym, ap, ◌∙◌, arith}
use Rattle.std.proofs.lemmas.Bool.{eqb-true}
use Rattle.std.proofs.lemmas.Bool.Decides.{nat_tests}
use Rattle.dn_base.specs.declared.ids.WordId.{WordId}
use Rattle.message_net.specs.declared.message.Mail.{Mail}
use Rattle.message_net.specs.declared.message.Message.TheVariants.{DataReply}
use Rattle.registry_bank.specs.declared.bank.BankWord.{BankWord}
use Rattle.registry_bank.specs.declared.bank.BankWord.TheVariants.{Home, Reg}
use Rattle.registration_protocol.specs.declared.node.NodeWait as wait
use Rattle.machine_rules.specs.State.{State, entry_at, home_at}
use Rattle.machine_rules.specs.Memory.{word_value}
use Rattle.machine_rules.specs.Flight.{bit, flight, mail_count, is_false_data_reply, is_read_fwd_to}
use Rattle.machine_rules.specs.Coherent.{AreReads, IsReading, IsInFlight, waits_for, IsAtOrHome}
use Rattle.machine_rules.proofs.Bits.{owner_bit, known_bit, reading_in}
use Rattle.machine_rules.proofs.BitLemmas.{pending-bit, owner-bit}
use Rattle.machine_rules.proofs.Invariant.{Invariant, WordsGood, ReadsGood, ValuesGood}
use Rattle.machine_rules.proofs.ReadMails.{forward-reading, read-known}
use Rattle.machine_rules.proofs.ReadableValues.{value-is}
use Rattle.message_net.proofs.PoolLemmas.{weight-within}

-- who waits for a word is counted as its reader
pub reading-bit : (S : State) (c : ℕ) (word : WordId) → waits_for S c (wait.TheVariants.Reading word) → reading_in word.0 (slice_get S.nodes c) ≡ 1
reading-bit S c word (n, found, is) = rw (found, is) (grind (arith, nat_tests))

is_reading-of : (S : State) → ReadsGood S → (c : ℕ) (word : WordId) → waits_for S c (wait.TheVariants.Reading word) → IsReading S c word
is_reading-of S g c word (n, found, is) =
    let row = g.reading c n word found is in
    record { node = n; found = found; waiting = is; none = row.0; room = row.1; wants = row.2 }

answered : (S : State) (M : ℕ → ℕ) → WordsGood S → ValuesGood S M → (m : Mail) (word : WordId) (value : ℕ) → IsInFlight S m → m.message ≡ DataReply word value → value ≡ word_value S word.0
answered S M words g m word value (place, there) is =
    let within = rw (is) at (weight-within (mail_count (is_false_data_reply M)) S.mails place m there) in
    by_test (value == M word.0) refl (omega (arith, within, g.replied)) ∙ sym (value-is S M words g word.0)
  where
    by_test : (x : Bool) → (value == M word.0) ≡ x → bit (cond x false true) ≤ 0 → value ≡ M word.0
    by_test true e none = eqb-true value (M word.0) e
    by_test false e none = absurd (omega (arith, none))

-- a read that was passed on to a core meets the word's registrant there, or the word at its home
at_or_home : (S : State) (M : ℕ → ℕ) → Invariant S M → (d w : ℕ) → 1 ≤ flight S (is_read_fwd_to w d) → IsAtOrHome S d w
at_or_home S M inv d w some = by_home (home_at S w) refl where
  known : 1 ≤ known_bit (home_at S w)
  known = let reader = forward-reading S w d inv.reads some in read-known S M w reader.0 inv reader.1

  by_home : (h : Option BankWord) → home_at S w ≡ h → IsAtOrHome S d w
  by_home None is = absurd (omega (arith, known, ap known_bit is))
  by_home (Some (Home value)) is = inr (value, is)
  by_home (Some (Reg core)) is =
      let owner : owner_bit core.0 (home_at S w) ≡ 1 = owner-bit core.0 (home_at S w) is in
      let same : d ≡ core.0 = grind (arith, nat_tests, inv.reads.pair w d core.0 some, owner) in
      inl (is ∙ ap (λ (x : ℕ). Some (Reg (record { 0 = x }))) (sym same))

pub reads : (S : State) (M : ℕ → ℕ) → Invariant S M → AreReads S
reads S M inv =
    record {
      reading = is_reading-of S inv.reads;
      quiet = λ c d word waits here. absurd (omega (arith, inv.reads.quiet word.0 c d, reading-bit S c word waits, pending-bit (entry_at S d word.0) here.0 here.1));
      one_mail = λ c word waits. omega (arith, inv.reads.row word.0 c, reading-bit S c word waits);
      answered = answered S M inv.words inv.values;
      forwarded = at_or_home S M inv;
      owned = λ d w value some is. inv.values.forwarded d w value some is ∙ sym (value-is S M inv.words inv.values w);
      filled = inv.reads.filled;
    }
