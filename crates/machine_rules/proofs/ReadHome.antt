-- What is known of reads after what the home of a word does.
use Rattle.std.proofs.Common.{◌≡◌, ℕ, ◌≤◌, ◌==◌, Bool, true, false, cond, List, slice_get, Option, Some, refl, sym, ap, subst, ◌∙◌, arith}
use Rattle.std.proofs.lemmas.Bool.{eqb-true}
use Rattle.dn_base.specs.declared.ids.WordId.{WordId}
use Rattle.dn_base.specs.declared.ids.CoreId.{CoreId}
use Rattle.dn_base.specs.declared.ids.BankId.{BankId}
use Rattle.message_net.specs.declared.message.Message.TheVariants.{ReadReq, ReadFwd, DataReply, RegReq}
use Rattle.message_net.specs.declared.message.Outgoing.{Outgoing}
use Rattle.message_net.specs.Mail.{to_core}
use Rattle.registry_bank.specs.declared.bank.BankWord.{BankWord}
use Rattle.registry_bank.specs.declared.bank.BankWord.TheVariants.{Home, Reg}
use Rattle.registration_protocol.specs.Node.{NodeParts}
use Rattle.machine_rules.specs.State.{State, home_at}
use Rattle.machine_rules.specs.Flight.{bit, flight, is_reg_req_of, is_read_fwd_to}
use Rattle.machine_rules.proofs.Bits.{passes, owner_bit, reading_in}
use Rattle.machine_rules.proofs.Invariant.{ReadsGood, WordsGood}
use Rattle.machine_rules.proofs.Outcomes.{WordStep, at_bank}
use Rattle.machine_rules.proofs.WordCore.{same-number}
use Rattle.machine_rules.proofs.ReadMails.{IsNoRead, SameReads, same-reads, forward-reading}
use Rattle.machine_rules.proofs.ReadEvents.{rows-carried, rows-same, pair-same, reads-nodes}

-- a home that has what it had
pub home-same : (S T : State) (w : ℕ) (content : BankWord) → ((v : ℕ) → home_at T v ≡ cond (w == v) (Some content) (home_at S v)) → home_at S w ≡ Some content → (v : ℕ) → home_at T v ≡ home_at S v
home-same S T w content homes was v = by_test (w == v) refl where
  by_test : (x : Bool) → (w == v) ≡ x → home_at T v ≡ home_at S v
  by_test true e = (rw (e) at (homes v)) ∙ sym (subst (λ (x : ℕ). home_at S x ≡ Some content) (eqb-true w v e) was)
  by_test false e = rw (e) at (homes v)

nodes-reading : (S T : State) → T.nodes ≡ S.nodes → (w c : ℕ) → reading_in w (slice_get T.nodes c) ≡ reading_in w (slice_get S.nodes c)
nodes-reading S T nodes w c = ap (λ (ns : List NodeParts). reading_in w (slice_get ns c)) nodes

-- ReadReq meets the value: it goes to the reader
pub read-home : (S T : State) (word : WordId) (reader : CoreId) (bank : BankId) (value : ℕ) → ReadsGood S → home_at S word.0 ≡ Some (Home value)
    → WordStep S T word.0 (Home value) (at_bank bank (ReadReq word reader)) (to_core reader (DataReply word value)) → ReadsGood T
read-home S T word reader bank value g was step =
    reads-nodes S T step.setting step.nodes g
    (rows-carried S T (at_bank bank (ReadReq word reader)) (to_core reader (DataReply word value)) g step.flown (λ w c. omega (arith, nodes-reading S T step.nodes w c)))
    (pair-same S T g (λ w d. omega (arith, step.flown (is_read_fwd_to w d))) (home-same S T word.0 (Home value) step.homes was))

-- ReadReq meets a registrant: it is passed on there
pub read-owned : (S T : State) (word : WordId) (reader owner : CoreId) (bank : BankId) → ReadsGood S → home_at S word.0 ≡ Some (Reg owner)
    → WordStep S T word.0 (Reg owner) (at_bank bank (ReadReq word reader)) (to_core owner (ReadFwd word reader)) → ReadsGood T
read-owned S T word reader owner bank g was step =
    reads-nodes S T step.setting step.nodes g
    (rows-carried S T (at_bank bank (ReadReq word reader)) (to_core owner (ReadFwd word reader)) g step.flown (λ w c. omega (arith, nodes-reading S T step.nodes w c)))
    (λ w d e some. by_tests w d e some (word.0 == w) refl (owner.0 == d) refl)
  where
    by_tests : (w d e : ℕ) → 1 ≤ flight T (is_read_fwd_to w d) → (x : Bool) → (word.0 == w) ≡ x → (y : Bool) → (owner.0 == d) ≡ y → owner_bit e (home_at T w) ≤ bit (d == e)
    by_tests w d e some true f true h =
        let is = ap (owner_bit e) (rw (f) at (step.homes w)) in
        let same : owner.0 ≡ d = eqb-true owner.0 d h in
        omega (arith, subst (λ (x : ℕ). owner_bit e (home_at T w) ≡ bit (x == e)) same is)
    by_tests w d e some true f false h =
        let moved = rw (f, h) at (step.flown (is_read_fwd_to w d)) in
        omega (arith, g.pair w d e (omega (arith, some, moved)), ap (owner_bit e) (home-same S T word.0 (Reg owner) step.homes was w))
    by_tests w d e some false f y h =
        let moved = rw (f) at (step.flown (is_read_fwd_to w d)) in
        omega (arith, g.pair w d e (omega (arith, some, moved)), ap (owner_bit e) (home-same S T word.0 (Reg owner) step.homes was w))

-- RegReq comes: nobody reads the word, so no read of it is passed on
pub read-registered : (S T : State) (word : WordId) (core : CoreId) (bank : BankId) (sent : Option Outgoing) → WordsGood S → ReadsGood S
    → WordStep S T word.0 (Reg core) (at_bank bank (RegReq word core)) sent → IsNoRead (at_bank bank (RegReq word core)) → IsNoRead sent → passes (is_reg_req_of word.0 core.0) sent ≡ 0 → ReadsGood T
read-registered S T word core bank sent words g step came went none =
    reads-nodes S T step.setting step.nodes g (rows-same S T g same (nodes-reading S T step.nodes)) (λ w d e some. by_word w d e some (word.0 == w) refl)
  where
    same : SameReads S T
    same = same-reads S T (at_bank bank (RegReq word core)) sent step.flown came went

    by_word : (w d e : ℕ) → 1 ≤ flight T (is_read_fwd_to w d) → (x : Bool) → (word.0 == w) ≡ x → owner_bit e (home_at T w) ≤ bit (d == e)
    by_word w d e some true f =
        let here : 1 ≤ flight S (is_read_fwd_to word.0 d) = subst (λ (x : ℕ). 1 ≤ flight S (is_read_fwd_to x d)) (sym (eqb-true word.0 w f)) (omega (arith, some, same.passed w d)) in
        let reader = forward-reading S word.0 d g here in
        let asked = rw (same-number word.0, same-number core.0) at (step.flown (is_reg_req_of word.0 core.0)) in
        absurd (omega (arith, reader.1, asked, none, words.row word.0 core.0, g.quiet word.0 reader.0 core.0))
    by_word w d e some false f = omega (arith, g.pair w d e (omega (arith, some, same.passed w d)), ap (owner_bit e) (rw (f) at (step.homes w)))

-- the home has the value from now on
pub read-written : (S T : State) (word : WordId) (value : ℕ) (left sent : Option Outgoing) → ReadsGood S → WordStep S T word.0 (Home value) left sent → IsNoRead left → IsNoRead sent → ReadsGood T
read-written S T word value left sent g step came went =
    reads-nodes S T step.setting step.nodes g (rows-same S T g same (nodes-reading S T step.nodes)) (λ w d e some. by_word w d e some (word.0 == w) refl)
  where
    same : SameReads S T
    same = same-reads S T left sent step.flown came went

    by_word : (w d e : ℕ) → 1 ≤ flight T (is_read_fwd_to w d) → (x : Bool) → (word.0 == w) ≡ x → owner_bit e (home_at T w) ≤ bit (d == e)
    by_word w d e some true f = omega (arith, ap (owner_bit e) (rw (f) at (step.homes w)))
    by_word w d e some false f = omega (arith, g.pair w d e (omega (arith, some, same.passed w d)), ap (owner_bit e) (rw (f) at (step.homes w)))
