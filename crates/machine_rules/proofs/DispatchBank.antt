-- The handling of a mail by a bank is one of the ways.
use Rattle.std.proofs.Common.{◌≡◌, ◌≢◌, ◌⊎◌, inl, inr, ℕ, ◌+◌, ◌%◌, ◌<◌, ◌≤◌, ◌==◌, nat_lt, Bool, true, false, cond, List, [], ◌∷◌, ◌++◌, length, get_or, slice_get, Option, Some, None, refl, sym, ap, subst, ◌∙◌, arith}
use Rattle.std.proofs.lemmas.Bool.{eqb-true}
use Rattle.std.proofs.lemmas.Bool.Decides.{nat_tests}
use Rattle.std.proofs.lemmas.Option.{slice_get_cases}
use Rattle.std.specs.Option.{is_some}
use Rattle.dn_base.specs.declared.ids.WordId.{WordId}
use Rattle.dn_base.specs.declared.ids.CoreId.{CoreId}
use Rattle.dn_base.specs.declared.ids.LockId.{LockId}
use Rattle.dn_base.specs.declared.ids.BankId.{BankId}
use Rattle.rv_core.specs.declared.task.TaskState.{TaskState}
use Rattle.rv_core.specs.declared.need.Need as need
use Rattle.rv_core.proofs.Completions.{acquire-allowed}
use Rattle.write_signature.specs.declared.signature.Signature.{Signature}
use Rattle.write_signature.specs.Signature.{joined}
use Rattle.message_net.specs.declared.actor.Actor.{Actor}
use Rattle.message_net.specs.declared.actor.Actor.TheVariants.{Bank}
use Rattle.message_net.specs.declared.actor.MailId.{MailId}
use Rattle.message_net.specs.declared.event.Event.TheVariants.{Handle}
use Rattle.message_net.specs.declared.message.Mail.{Mail}
use Rattle.message_net.specs.declared.message.Message.{Message}
use Rattle.message_net.specs.declared.message.Message.TheVariants.{ReadReq, ReadFwd, DataReply, RegReq, RegFwd, RegAck, WriteBack, WbAck, Acquire, Release, Grant, Arrived, Go, Halt}
use Rattle.message_net.specs.declared.message.Outgoing.{Outgoing}
use Rattle.message_net.specs.Mail.{to_core}
use Rattle.queue_lock.specs.Lock.{Lock, IsLockOf, acquired, released, handed_on, times_queued, holder_count}
use Rattle.queue_lock.proofs.RowLemmas.{acquired-free, acquired-held, released-own, room-of, holder-is, holder-within, outsider-holder}
use Rattle.registry_bank.specs.declared.bank.BankWord.{BankWord}
use Rattle.registry_bank.specs.declared.bank.BankWord.TheVariants.{Home, Reg}
use Rattle.registry_bank.specs.Bank.{BankParts, bank_word, bank_lock, bank_gets, with_word, with_lock, grants, hands_on}
use Rattle.registry_bank.proofs.ChangeLemmas.{word-changed, lock-changed}
use Rattle.registry_bank.proofs.RowLemmas.{read-home, read-registered, register-home, register-other, write_back-own, write_back-other, write_back-home, acquire-here, release-here}
use Rattle.registration_protocol.specs.Node.{NodeParts, need_now}
use Rattle.registration_protocol.proofs.InstrLemmas.{has-next}
use Rattle.machine_rules.specs.State.{State, entry_in, word_in, home_at, lock_in, lock_at}
use Rattle.machine_rules.specs.Flight.{Test, bit, flight, is_reg_req_of, is_write_back_of, is_read_req_of, is_acquire_of, is_release_of}
use Rattle.machine_rules.specs.Next.{next, seen_in, granted_in}
use Rattle.machine_rules.specs.Memory.{store_in}
use Rattle.machine_rules.specs.Coherent.{node_is_locking, queued_in, holder_in}
use Rattle.machine_rules.proofs.Bits.{passes, pending_bit, leaving_bit, known_bit, owner_bit, reading_in}
use Rattle.machine_rules.proofs.BitLemmas.{owner-bit}
use Rattle.machine_rules.proofs.Invariant.{Invariant, is_right}
use Rattle.machine_rules.proofs.Steps.{BankStep, Handled, bank-step}
use Rattle.machine_rules.specs.Fair.{request_by, request_in}
use Rattle.machine_rules.specs.Accesses.{synchronization_in}
use Rattle.machine_rules.proofs.Outcomes.{Outcomes, Tells, WordStep, LockStep, at_bank}
use Rattle.machine_rules.proofs.WordCore.{same-number}
use Rattle.machine_rules.proofs.DispatchCore.{counts, goes-right, reading-word, locking-lock}
use Rattle.machine_rules.proofs.AddressOutcomes.{there-by}
use Rattle.machine_rules.proofs.Exclusive.{reading-works}

-- a bank that is there
bank-there : (S : State) (bank : ℕ) → bank < length S.banks → (b : BankParts) × (slice_get S.banks bank ≡ Some b)
bank-there S bank within = by_case (slice_get_cases S.banks bank).1 where
  by_case : ((x : BankParts) × (bank < length S.banks) × (slice_get S.banks bank ≡ Some x) × (get_or S.banks bank x ≡ x)) ⊎ ((length S.banks ≤ bank) × (slice_get S.banks bank ≡ None))
      → (b : BankParts) × (slice_get S.banks bank ≡ Some b)
  by_case (inl (b, in_list, is, same)) = (b, is)
  by_case (inr (past, is)) = absurd (omega (arith, within, past))

-- a mail that a bank handles, and the bank, which is the home of number w
pub record AtBank (S : State) (M : ℕ → ℕ) (id : MailId) (bank : BankId) (message : Message) (w : ℕ) (b : BankParts) : Type 0 where
  pub inv : Invariant S M
  pub found : slice_get S.banks bank.0 ≡ Some b
  pub home : bank.0 ≡ w % S.setting.shape.banks
  pub counted : (p : Test) → bit (p (Bank bank) message) ≤ flight S p
  pub step : BankStep S (next S (Handle id)) bank.0 b message (at_bank bank message)
  pub tells : Tells S (Handle id) None None None None (request_by message)

bank-tells : (S : State) (id : MailId) (m : Mail) (bank : BankId) (message : Message) → Handled S id m → m.to ≡ Bank bank → m.message ≡ message → Tells S (Handle id) None None None None (request_by message)
unfolding seen_in granted_in store_in synchronization_in request_in
bank-tells S id m bank message h to is =
    record { seen_is = refl; granted_is = rw (h.took, to) refl; synchronization_is = rw (h.took, to) refl; request_is = rw (h.took, is) refl; store_is = refl }

bank-row : (S : State) (id : MailId) (m : Mail) (bank : BankId) (message : Message) (b : BankParts) → Handled S id m → m.to ≡ Bank bank → m.message ≡ message → slice_get S.banks bank.0 ≡ Some b
    → BankStep S (next S (Handle id)) bank.0 b message (at_bank bank message)
bank-row S id m bank message b h to is found =
    let step = bank-step S id m bank b h to found in
    let one = subst (λ (x : Message). BankStep S (next S (Handle id)) bank.0 b x (Some (record { to = m.to; message = x }))) is step in
    subst (λ (a : Actor). BankStep S (next S (Handle id)) bank.0 b message (Some (record { to = a; message = message }))) to one

at-bank : (S : State) (M : ℕ → ℕ) (id : MailId) (m : Mail) (bank : BankId) (message : Message) (w : ℕ) (b : BankParts) → Invariant S M → Handled S id m → m.to ≡ Bank bank → m.message ≡ message
    → slice_get S.banks bank.0 ≡ Some b → bank.0 ≡ w % S.setting.shape.banks → AtBank S M id bank message w b
at-bank S M id m bank message w b inv h to is found home =
    record {
      inv = inv;
      found = found;
      home = home;
      counted = λ p. subst (λ (x : Message). bit (p (Bank bank) x) ≤ flight S p) is (subst (λ (a : Actor). bit (p a m.message) ≤ flight S p) to (counts S id m p h));
      step = bank-row S id m bank message b h to is found;
      tells = bank-tells S id m bank message h to is;
    }

-- what the bank has is what the home has
home-is : (S : State) (M : ℕ → ℕ) (id : MailId) (bank : BankId) (message : Message) (w : ℕ) (b : BankParts) → AtBank S M id bank message w b → home_at S w ≡ bank_word b w
home-is S M id bank message w b at = ap (word_in w) (ap (slice_get S.banks) (sym at.home) ∙ at.found)

lock-is : (S : State) (M : ℕ → ℕ) (id : MailId) (bank : BankId) (message : Message) (l : ℕ) (b : BankParts) → AtBank S M id bank message l b → lock_at S l ≡ bank_lock b l
lock-is S M id bank message l b at = ap (lock_in l) (ap (slice_get S.banks) (sym at.home) ∙ at.found)

-- what becomes of the banks and of the mails in flight, by what the bank makes of its mail
banks-now : (S : State) (M : ℕ → ℕ) (id : MailId) (bank : BankId) (message : Message) (w : ℕ) (b : BankParts) (r : BankParts × Option Outgoing) → AtBank S M id bank message w b
    → bank_gets b message ≡ r → (i : ℕ) → slice_get (next S (Handle id)).banks i ≡ cond (bank.0 == i) (Some r.0) (slice_get S.banks i)
banks-now S M id bank message w b r at row i =
    subst (λ (x : BankParts × Option Outgoing). slice_get (next S (Handle id)).banks i ≡ cond (bank.0 == i) (Some x.0) (slice_get S.banks i)) row (at.step.banks i)

banks-flown : (S : State) (M : ℕ → ℕ) (id : MailId) (bank : BankId) (message : Message) (w : ℕ) (b : BankParts) (r : BankParts × Option Outgoing) → AtBank S M id bank message w b
    → bank_gets b message ≡ r → (p : Test) → flight (next S (Handle id)) p + passes p (at_bank bank message) ≡ flight S p + passes p r.1
banks-flown S M id bank message w b r at row p =
    subst (λ (x : BankParts × Option Outgoing). flight (next S (Handle id)) p + passes p (at_bank bank message) ≡ flight S p + passes p x.1) row (at.step.flown p)

-- what becomes of every word and lock, from what becomes of the bank's
word-step : (S : State) (M : ℕ → ℕ) (id : MailId) (bank : BankId) (message : Message) (w : ℕ) (b : BankParts) (content : BankWord) (r : BankParts × Option Outgoing) → AtBank S M id bank message w b
    → bank_gets b message ≡ r → ((v : ℕ) → bank_word r.0 v ≡ cond (w == v) (Some content) (bank_word b v)) → ((l : ℕ) → bank_lock r.0 l ≡ bank_lock b l)
    → WordStep S (next S (Handle id)) w content (at_bank bank message) r.1
word-step S M id bank message w b content r at row words locks =
    record {
      setting = step.setting;
      nodes = step.nodes;
      keeper = step.keeper;
      homes = homes;
      locks = lock_states;
      flown = banks-flown S M id bank message w b r at row;
    }
  where
    step : BankStep S (next S (Handle id)) bank.0 b message (at_bank bank message)
    step = at.step

    now : (i : ℕ) → slice_get (next S (Handle id)).banks i ≡ cond (bank.0 == i) (Some r.0) (slice_get S.banks i)
    now = banks-now S M id bank message w b r at row

    homes : (v : ℕ) → home_at (next S (Handle id)) v ≡ cond (w == v) (Some content) (home_at S v)
    homes v = rw (step.setting) (by_test (bank.0 == v % S.setting.shape.banks) refl) where
      by_test : (x : Bool) → (bank.0 == v % S.setting.shape.banks) ≡ x → word_in v (slice_get (next S (Handle id)).banks (v % S.setting.shape.banks)) ≡ cond (w == v) (Some content) (home_at S v)
      by_test true e =
          let here : home_at S v ≡ bank_word b v = ap (word_in v) (ap (slice_get S.banks) (sym (eqb-true bank.0 (v % S.setting.shape.banks) e)) ∙ at.found) in
          ap (word_in v) (rw (e) at (now (v % S.setting.shape.banks))) ∙ words v ∙ ap (λ (o : Option BankWord). cond (w == v) (Some content) o) (sym here)
      by_test false e =
          let apart : (w == v) ≡ false = grind (arith, nat_tests, e, at.home) in
          ap (word_in v) (rw (e) at (now (v % S.setting.shape.banks))) ∙ (rw (apart) refl)

    lock_states : (l : ℕ) → lock_at (next S (Handle id)) l ≡ lock_at S l
    lock_states l = rw (step.setting) (by_test (bank.0 == l % S.setting.shape.banks) refl) where
      by_test : (x : Bool) → (bank.0 == l % S.setting.shape.banks) ≡ x → lock_in l (slice_get (next S (Handle id)).banks (l % S.setting.shape.banks)) ≡ lock_at S l
      by_test true e =
          let here : lock_at S l ≡ bank_lock b l = ap (lock_in l) (ap (slice_get S.banks) (sym (eqb-true bank.0 (l % S.setting.shape.banks) e)) ∙ at.found) in
          ap (lock_in l) (rw (e) at (now (l % S.setting.shape.banks))) ∙ locks l ∙ sym here
      by_test false e = ap (lock_in l) (rw (e) at (now (l % S.setting.shape.banks)))

lock-step : (S : State) (M : ℕ → ℕ) (id : MailId) (bank : BankId) (message : Message) (l : ℕ) (b : BankParts) (state : Lock) (r : BankParts × Option Outgoing) → AtBank S M id bank message l b
    → bank_gets b message ≡ r → ((v : ℕ) → bank_word r.0 v ≡ bank_word b v) → ((k : ℕ) → bank_lock r.0 k ≡ cond (l == k) (Some state) (bank_lock b k))
    → LockStep S (next S (Handle id)) l state (at_bank bank message) r.1
lock-step S M id bank message l b state r at row words locks =
    record {
      setting = step.setting;
      nodes = step.nodes;
      keeper = step.keeper;
      homes = homes;
      locks = lock_states;
      flown = banks-flown S M id bank message l b r at row;
    }
  where
    step : BankStep S (next S (Handle id)) bank.0 b message (at_bank bank message)
    step = at.step

    now : (i : ℕ) → slice_get (next S (Handle id)).banks i ≡ cond (bank.0 == i) (Some r.0) (slice_get S.banks i)
    now = banks-now S M id bank message l b r at row

    homes : (v : ℕ) → home_at (next S (Handle id)) v ≡ home_at S v
    homes v = rw (step.setting) (by_test (bank.0 == v % S.setting.shape.banks) refl) where
      by_test : (x : Bool) → (bank.0 == v % S.setting.shape.banks) ≡ x → word_in v (slice_get (next S (Handle id)).banks (v % S.setting.shape.banks)) ≡ home_at S v
      by_test true e =
          let here : home_at S v ≡ bank_word b v = ap (word_in v) (ap (slice_get S.banks) (sym (eqb-true bank.0 (v % S.setting.shape.banks) e)) ∙ at.found) in
          ap (word_in v) (rw (e) at (now (v % S.setting.shape.banks))) ∙ words v ∙ sym here
      by_test false e = ap (word_in v) (rw (e) at (now (v % S.setting.shape.banks)))

    lock_states : (k : ℕ) → lock_at (next S (Handle id)) k ≡ cond (l == k) (Some state) (lock_at S k)
    lock_states k = rw (step.setting) (by_test (bank.0 == k % S.setting.shape.banks) refl) where
      by_test : (x : Bool) → (bank.0 == k % S.setting.shape.banks) ≡ x → lock_in k (slice_get (next S (Handle id)).banks (k % S.setting.shape.banks)) ≡ cond (l == k) (Some state) (lock_at S k)
      by_test true e =
          let here : lock_at S k ≡ bank_lock b k = ap (lock_in k) (ap (slice_get S.banks) (sym (eqb-true bank.0 (k % S.setting.shape.banks) e)) ∙ at.found) in
          ap (lock_in k) (rw (e) at (now (k % S.setting.shape.banks))) ∙ locks k ∙ ap (λ (o : Option Lock). cond (l == k) (Some state) o) (sym here)
      by_test false e =
          let apart : (l == k) ≡ false = grind (arith, nat_tests, e, at.home) in
          ap (lock_in k) (rw (e) at (now (k % S.setting.shape.banks))) ∙ (rw (apart) refl)

-- a word that stays as it is
same-words : (b : BankParts) (w : ℕ) (content : BankWord) → bank_word b w ≡ Some content → (v : ℕ) → bank_word b v ≡ cond (w == v) (Some content) (bank_word b v)
same-words b w content is v = by_test (w == v) refl where
  by_test : (x : Bool) → (w == v) ≡ x → bank_word b v ≡ cond x (Some content) (bank_word b v)
  by_test true e = subst (λ (x : ℕ). bank_word b x ≡ Some content) (eqb-true w v e) is
  by_test false e = refl

-- the bank's size
sized : (S : State) (M : ℕ → ℕ) (id : MailId) (bank : BankId) (message : Message) (w : ℕ) (b : BankParts) → AtBank S M id bank message w b → (b.cores ≡ length S.nodes) × (0 < b.banks)
sized S M id bank message w b at =
    let well = at.inv.machine.bank bank.0 b at.found in
    (well.cores ∙ sym at.inv.machine.nodes, omega (arith, well.banks, at.inv.machine.context.some_banks))

-- a word that a bank is asked about is there
known-word : (S : State) (M : ℕ → ℕ) (w : ℕ) → Invariant S M → w < length S.setting.program.memory → home_at S w ≢ None
known-word S M w inv within none =
    let is : false ≡ nat_lt w (length S.setting.program.memory) = sym (ap is_some none) ∙ inv.machine.words w in
    absurd (grind (arith, nat_tests, is, within))

-- ---- reads

read-way : (S : State) (M : ℕ → ℕ) (id : MailId) (bank : BankId) (word : WordId) (reader : CoreId) (b : BankParts) (G : (ℕ → ℕ) → Type 0)
    → Outcomes S M (Handle id) G → AtBank S M id bank (ReadReq word reader) word.0 b → G M
read-way S M id bank word reader b G outcomes at = by_home (home_at S word.0) refl where
  some : 1 ≤ reading_in word.0 (slice_get S.nodes reader.0)
  some =
      let one = rw (same-number word.0, same-number reader.0) at (at.counted (is_read_req_of word.0 reader.0)) in
      omega (arith, one, at.inv.reads.row word.0 reader.0)

  within : reader.0 < length S.nodes
  within = there-by S reader.0 (reading_in word.0) refl some

  inside : reader.0 < b.cores
  inside = let size = sized S M id bank (ReadReq word reader) word.0 b at in omega (arith, within, size)

  by_node : (o : Option NodeParts) → slice_get S.nodes reader.0 ≡ o → 1 ≤ reading_in word.0 o → word.0 < length S.setting.program.memory
  by_node None is one = absurd (omega (arith, one))
  by_node (Some n) is one = (reading-works S M reader.0 n word at.inv is (reading-word n.waiting word one)).within

  by_home : (o : Option BankWord) → home_at S word.0 ≡ o → G M
  by_home None is = absurd (known-word S M word.0 at.inv (by_node (slice_get S.nodes reader.0) refl some) is)
  by_home (Some (Home value)) is =
      let here = sym (home-is S M id bank (ReadReq word reader) word.0 b at) ∙ is in
      let row = read-home b word reader value inside here in
      outcomes.read_home bank word reader value is at.tells
      (word-step S M id bank (ReadReq word reader) word.0 b (Home value) (b, to_core reader (DataReply word value)) at row (same-words b word.0 (Home value) here) (λ l. refl))
  by_home (Some (Reg owner)) is =
      let here = sym (home-is S M id bank (ReadReq word reader) word.0 b at) ∙ is in
      let row = read-registered b word reader owner inside here in
      outcomes.read_owned bank word reader owner is at.tells
      (word-step S M id bank (ReadReq word reader) word.0 b (Reg owner) (b, to_core owner (ReadFwd word reader)) at row (same-words b word.0 (Reg owner) here) (λ l. refl))

-- ---- registrations

register-way : (S : State) (M : ℕ → ℕ) (id : MailId) (bank : BankId) (word : WordId) (core : CoreId) (b : BankParts) (G : (ℕ → ℕ) → Type 0)
    → Outcomes S M (Handle id) G → AtBank S M id bank (RegReq word core) word.0 b → G M
register-way S M id bank word core b G outcomes at = by_home (home_at S word.0) refl where
  asked : 1 ≤ flight S (is_reg_req_of word.0 core.0)
  asked = rw (same-number word.0, same-number core.0) at (at.counted (is_reg_req_of word.0 core.0))

  within : core.0 < length S.nodes
  within = there-by S core.0 (λ (o : Option NodeParts). pending_bit (entry_in word.0 o)) refl (omega (arith, asked, at.inv.words.row word.0 core.0))

  size : (b.cores ≡ length S.nodes) × (0 < b.banks)
  size = sized S M id bank (RegReq word core) word.0 b at

  inside : core.0 < b.cores
  inside = omega (arith, within, size)

  by_home : (o : Option BankWord) → home_at S word.0 ≡ o → G M
  by_home None is = absurd (omega (arith, asked, at.inv.words.row word.0 core.0, ap known_bit is))
  by_home (Some (Home value)) is =
      let here = sym (home-is S M id bank (RegReq word core) word.0 b at) ∙ is in
      let row = register-home b word core value inside here in
      outcomes.register_home bank word core value is at.tells
      (word-step S M id bank (RegReq word core) word.0 b (Reg core) (with_word b word.0 (Reg core), to_core core (RegAck word)) at row
      (λ v. word-changed b word.0 v (Home value) (Reg core) size.1 here) (λ l. refl))
  by_home (Some (Reg owner)) is =
      let here = sym (home-is S M id bank (RegReq word core) word.0 b at) ∙ is in
      let other : owner.0 ≢ core.0 = λ same. not-own is same in
      let row = register-other b word core owner inside here other in
      outcomes.register_owned bank word core owner is other at.tells
      (word-step S M id bank (RegReq word core) word.0 b (Reg core) (with_word b word.0 (Reg core), to_core owner (RegFwd word core)) at row
      (λ v. word-changed b word.0 v (Reg owner) (Reg core) size.1 here) (λ l. refl))
    where
      not-own : home_at S word.0 ≡ Some (Reg owner) → owner.0 ≡ core.0 → ⊥
      not-own is same =
          let own : owner_bit core.0 (home_at S word.0) ≡ 1 = owner-bit core.0 (home_at S word.0) (is ∙ ap (λ (x : ℕ). Some (Reg (record { 0 = x }))) same) in
          omega (arith, asked, own, at.inv.words.row word.0 core.0)

-- ---- write-backs

back-way : (S : State) (M : ℕ → ℕ) (id : MailId) (bank : BankId) (word : WordId) (value : ℕ) (core : CoreId) (b : BankParts) (G : (ℕ → ℕ) → Type 0)
    → Outcomes S M (Handle id) G → AtBank S M id bank (WriteBack word value core) word.0 b → G M
back-way S M id bank word value core b G outcomes at = by_home (home_at S word.0) refl where
  given : 1 ≤ flight S (is_write_back_of word.0 core.0)
  given = rw (same-number word.0, same-number core.0) at (at.counted (is_write_back_of word.0 core.0))

  within : core.0 < length S.nodes
  within = there-by S core.0 (λ (o : Option NodeParts). leaving_bit (entry_in word.0 o)) refl (omega (arith, given, at.inv.words.row word.0 core.0))

  size : (b.cores ≡ length S.nodes) × (0 < b.banks)
  size = sized S M id bank (WriteBack word value core) word.0 b at

  inside : core.0 < b.cores
  inside = omega (arith, within, size)

  by_home : (o : Option BankWord) → home_at S word.0 ≡ o → G M
  by_home None is = absurd (omega (arith, given, at.inv.words.row word.0 core.0, ap known_bit is))
  by_home (Some (Home old)) is =
      let here = sym (home-is S M id bank (WriteBack word value core) word.0 b at) ∙ is in
      let row = write_back-home b word value old core inside here in
      outcomes.write_past bank word core value (Home old) is refl at.tells
      (word-step S M id bank (WriteBack word value core) word.0 b (Home old) (b, to_core core (WbAck word)) at row (same-words b word.0 (Home old) here) (λ l. refl))
  by_home (Some (Reg owner)) is = by_owner owner is (owner.0 == core.0) refl where
    by_owner : (owner : CoreId) → home_at S word.0 ≡ Some (Reg owner) → (x : Bool) → (owner.0 == core.0) ≡ x → G M
    by_owner owner is true e =
        let same : owner ≡ core = ap (λ (x : ℕ). let c : CoreId = record { 0 = x } in c) (eqb-true owner.0 core.0 e) in
        let here = sym (home-is S M id bank (WriteBack word value core) word.0 b at) ∙ is in
        let row = write_back-own b word value core owner inside here (eqb-true owner.0 core.0 e) in
        outcomes.write_back bank word core value (is ∙ ap (λ (c : CoreId). Some (Reg c)) same) at.tells
        (word-step S M id bank (WriteBack word value core) word.0 b (Home value) (with_word b word.0 (Home value), to_core core (WbAck word)) at row
        (λ v. word-changed b word.0 v (Reg owner) (Home value) size.1 here) (λ l. refl))
    by_owner owner is false e =
        let other : owner.0 ≢ core.0 = λ same. absurd (grind (arith, nat_tests, e, same)) in
        let here = sym (home-is S M id bank (WriteBack word value core) word.0 b at) ∙ is in
        let row = write_back-other b word value core owner inside here other in
        outcomes.write_past bank word core value (Reg owner) is (ap bit e) at.tells
        (word-step S M id bank (WriteBack word value core) word.0 b (Reg owner) (b, to_core core (WbAck word)) at row (same-words b word.0 (Reg owner) here) (λ l. refl))

-- ---- locks

-- a lock that a core waits for is there
waited-lock : (S : State) (M : ℕ → ℕ) (lock : LockId) (core : CoreId) → Invariant S M → 1 ≤ bit (node_is_locking lock.0 (slice_get S.nodes core.0)) → lock_at S lock.0 ≢ None
waited-lock S M lock core inv some none = by_node (slice_get S.nodes core.0) refl some where
  by_need : (n : NodeParts) → need_now S.setting n ≡ Some (need.TheVariants.Acquire lock) → lock.0 < length S.setting.program.locks
  by_need n needs = by_task n.task refl where
    by_task : (o : Option TaskState) → n.task ≡ o → lock.0 < length S.setting.program.locks
    by_task None is =
        let nothing : need_now S.setting n ≡ None = rw (is) refl in
        let something = needs in
        absurd (cc)
    by_task (Some t) is =
        let next_is = has-next S.setting n t (need.TheVariants.Acquire lock) is needs in
        (acquire-allowed S.setting.program next_is.decl S.setting.fuel t lock next_is.asks).0

  by_node : (o : Option NodeParts) → slice_get S.nodes core.0 ≡ o → 1 ≤ bit (node_is_locking lock.0 o) → ⊥
  by_node None is one = absurd (omega (arith, one))
  by_node (Some n) is one =
      let waits = locking-lock n.waiting lock one in
      let needs : need_now S.setting n ≡ Some (need.TheVariants.Acquire lock) = rw (waits) at ((inv.machine.node core.0 n is).fits).waiting in
      let there : false ≡ nat_lt lock.0 (length S.setting.program.locks) = sym (ap is_some none) ∙ inv.machine.locks lock.0 in
      absurd (grind (arith, nat_tests, there, by_need n needs))

waiting-one : (S : State) (l c : ℕ) → bit (node_is_locking l (slice_get S.nodes c)) ≤ 1
waiting-one S l c = by_bit (node_is_locking l (slice_get S.nodes c)) where
  by_bit : (b : Bool) → bit b ≤ 1
  by_bit true = omega arith
  by_bit false = omega arith

acquire-way : (S : State) (M : ℕ → ℕ) (id : MailId) (bank : BankId) (lock : LockId) (core : CoreId) (b : BankParts) (G : (ℕ → ℕ) → Type 0)
    → Outcomes S M (Handle id) G → AtBank S M id bank (Acquire lock core) lock.0 b → G M
acquire-way S M id bank lock core b G outcomes at = by_lock (lock_at S lock.0) refl where
  asked : 1 ≤ flight S (is_acquire_of lock.0 core.0)
  asked = rw (same-number lock.0, same-number core.0) at (at.counted (is_acquire_of lock.0 core.0))

  waits : 1 ≤ bit (node_is_locking lock.0 (slice_get S.nodes core.0))
  waits = omega (arith, asked, at.inv.locks.row lock.0 core.0)

  within : core.0 < length S.nodes
  within = there-by S core.0 (λ (o : Option NodeParts). bit (node_is_locking lock.0 o)) refl waits

  size : (b.cores ≡ length S.nodes) × (0 < b.banks)
  size = sized S M id bank (Acquire lock core) lock.0 b at

  inside : core.0 < b.cores
  inside = omega (arith, within, size)

  by_lock : (o : Option Lock) → lock_at S lock.0 ≡ o → G M
  by_lock None is = absurd (waited-lock S M lock core at.inv waits is)
  by_lock (Some h) is = by_holder h.holder refl where
    here : bank_lock b lock.0 ≡ Some h
    here = sym (lock-is S M id bank (Acquire lock core) lock.0 b at) ∙ is

    row : bank_gets b (Acquire lock core) ≡ (with_lock b lock.0 (acquired h core).0, grants lock core (acquired h core).1)
    row = acquire-here b lock core h inside here

    by_holder : (o : Option CoreId) → h.holder ≡ o → G M
    by_holder None free =
        let now = row ∙ ap (λ (x : Lock × Option Signature). (with_lock b lock.0 x.0, grants lock core x.1)) (acquired-free h core free) in
        outcomes.acquire_free bank lock core h is free at.tells
        (lock-step S M id bank (Acquire lock core) lock.0 b (record h { holder = Some core }) (with_lock b lock.0 (record h { holder = Some core }), to_core core (Grant lock h.kept)) at now
        (λ v. refl) (λ k. lock-changed b lock.0 k h (record h { holder = Some core }) size.1 here))
    by_holder (Some holder) has =
        let none : times_queued core.0 h.queue ≡ 0 = omega (arith, asked, at.inv.locks.row lock.0 core.0, waiting-one S lock.0 core.0, ap (queued_in core.0) is) in
        let room = room-of b.cores h core ((at.inv.machine.bank bank.0 b at.found).well.locks lock.0 h here) inside none in
        let now = row ∙ ap (λ (x : Lock × Option Signature). (with_lock b lock.0 x.0, grants lock core x.1)) (acquired-held h core holder has none room) in
        outcomes.acquire_held bank lock core holder h is has at.tells
        (lock-step S M id bank (Acquire lock core) lock.0 b (record h { queue = h.queue ++ core ∷ [] }) (with_lock b lock.0 (record h { queue = h.queue ++ core ∷ [] }), None) at now
        (λ v. refl) (λ k. lock-changed b lock.0 k h (record h { queue = h.queue ++ core ∷ [] }) size.1 here))

-- a lock's holder is a core of the machine
holder-inside : (cores : ℕ) (h : Lock) (core : CoreId) → IsLockOf cores h → holder_count core.0 h.holder ≡ 1 → core.0 < cores
holder-inside cores h core well one = by_test (nat_lt core.0 cores) refl where
  by_test : (x : Bool) → nat_lt core.0 cores ≡ x → core.0 < cores
  by_test true e = grind (arith, nat_tests, e)
  by_test false e = absurd (omega (arith, one, outsider-holder cores h core.0 well (grind (arith, nat_tests, e))))

release-way : (S : State) (M : ℕ → ℕ) (id : MailId) (bank : BankId) (lock : LockId) (core : CoreId) (s : Signature) (b : BankParts) (G : (ℕ → ℕ) → Type 0)
    → Outcomes S M (Handle id) G → AtBank S M id bank (Release lock core s) lock.0 b → G M
release-way S M id bank lock core s b G outcomes at = by_lock (lock_at S lock.0) refl where
  given : 1 ≤ flight S (is_release_of lock.0 core.0)
  given = rw (same-number lock.0, same-number core.0) at (at.counted (is_release_of lock.0 core.0))

  by_lock : (o : Option Lock) → lock_at S lock.0 ≡ o → G M
  by_lock None is = absurd (omega (arith, given, at.inv.locks.row lock.0 core.0, ap (holder_in core.0) is))
  by_lock (Some h) is = by_queue h.queue refl where
    here : bank_lock b lock.0 ≡ Some h
    here = sym (lock-is S M id bank (Release lock core s) lock.0 b at) ∙ is

    one : holder_count core.0 h.holder ≡ 1
    one = omega (arith, given, at.inv.locks.row lock.0 core.0, ap (holder_in core.0) is, holder-within core.0 h.holder)

    has : h.holder ≡ Some core
    has = holder-is core h.holder one

    size : (b.cores ≡ length S.nodes) × (0 < b.banks)
    size = sized S M id bank (Release lock core s) lock.0 b at

    inside : core.0 < b.cores
    inside = holder-inside b.cores h core ((at.inv.machine.bank bank.0 b at.found).well.locks lock.0 h here) one

    row : bank_gets b (Release lock core s) ≡ (with_lock b lock.0 (released h core s).0, hands_on lock (released h core s).1)
    row = release-here b lock core s h inside here

    by_queue : (queue : List CoreId) → h.queue ≡ queue → G M
    by_queue [] none =
        let given_up = released-own h core s one ∙ ap (handed_on (record h { kept = joined h.kept s })) none in
        let now = row ∙ ap (λ (x : Lock × Option (CoreId × Signature)). (with_lock b lock.0 x.0, hands_on lock x.1)) given_up in
        outcomes.release_last bank lock core core s h is has refl none at.tells
        (lock-step S M id bank (Release lock core s) lock.0 b (record h { holder = None; kept = joined h.kept s }) (with_lock b lock.0 (record h { holder = None; kept = joined h.kept s }), None) at now
        (λ v. refl) (λ k. lock-changed b lock.0 k h (record h { holder = None; kept = joined h.kept s }) size.1 here))
    by_queue (waiter ∷ others) first =
        let given_up = released-own h core s one ∙ ap (handed_on (record h { kept = joined h.kept s })) first in
        let now = row ∙ ap (λ (x : Lock × Option (CoreId × Signature)). (with_lock b lock.0 x.0, hands_on lock x.1)) given_up in
        outcomes.release_on bank lock core core waiter others s h is has refl first at.tells
        (lock-step S M id bank (Release lock core s) lock.0 b (record h { holder = Some waiter; queue = others; kept = joined h.kept s })
        (with_lock b lock.0 (record h { holder = Some waiter; queue = others; kept = joined h.kept s }), to_core waiter (Grant lock (joined h.kept s))) at now
        (λ v. refl) (λ k. lock-changed b lock.0 k h (record h { holder = Some waiter; queue = others; kept = joined h.kept s }) size.1 here))

-- a bank's mail, by its kind
pub bank-ways : (S : State) (M : ℕ → ℕ) (id : MailId) (m : Mail) (bank : BankId) (G : (ℕ → ℕ) → Type 0) → Invariant S M → Handled S id m → m.to ≡ Bank bank → Outcomes S M (Handle id) G → G M
bank-ways S M id m bank G inv h to outcomes = by_message m.message refl where
  right : is_right S.setting.shape.cores S.setting.shape.banks (Bank bank) m.message ≡ true
  right = subst (λ (a : Actor). is_right S.setting.shape.cores S.setting.shape.banks a m.message ≡ true) to (goes-right S M id m inv h)

  by_bank : (message : Message) (w : ℕ) → m.message ≡ message → (bank.0 == w % S.setting.shape.banks) ≡ true → ((b : BankParts) → AtBank S M id bank message w b → G M) → G M
  by_bank message w is home way =
      let here : bank.0 ≡ w % S.setting.shape.banks = eqb-true bank.0 (w % S.setting.shape.banks) home in
      let inside : bank.0 < length S.banks = omega (arith, here, inv.machine.banks, inv.machine.context.some_banks) in
      let at = bank-there S bank.0 inside in
      way at.0 (at-bank S M id m bank message w at.0 inv h to is at.1 here)

  by_message : (message : Message) → m.message ≡ message → G M
  by_message (ReadReq word reader) is = by_bank (ReadReq word reader) word.0 is (rw (is) at right) (λ b. read-way S M id bank word reader b G outcomes)
  by_message (ReadFwd word reader) is = let wrong = rw (is) at right in absurd (cc)
  by_message (DataReply word value) is = let wrong = rw (is) at right in absurd (cc)
  by_message (RegReq word c) is = by_bank (RegReq word c) word.0 is (rw (is) at right) (λ b. register-way S M id bank word c b G outcomes)
  by_message (RegFwd word c) is = let wrong = rw (is) at right in absurd (cc)
  by_message (RegAck word) is = let wrong = rw (is) at right in absurd (cc)
  by_message (WriteBack word value c) is = by_bank (WriteBack word value c) word.0 is (rw (is) at right) (λ b. back-way S M id bank word value c b G outcomes)
  by_message (WbAck word) is = let wrong = rw (is) at right in absurd (cc)
  by_message (Acquire lock c) is = by_bank (Acquire lock c) lock.0 is (rw (is) at right) (λ b. acquire-way S M id bank lock c b G outcomes)
  by_message (Release lock c s) is = by_bank (Release lock c s) lock.0 is (rw (is) at right) (λ b. release-way S M id bank lock c s b G outcomes)
  by_message (Grant lock s) is = let wrong = rw (is) at right in absurd (cc)
  by_message (Arrived c bad) is = let wrong = rw (is) at right in absurd (cc)
  by_message (Go phase) is = let wrong = rw (is) at right in absurd (cc)
  by_message Halt is = let wrong = rw (is) at right in absurd (cc)
