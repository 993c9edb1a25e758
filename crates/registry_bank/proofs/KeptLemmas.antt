-- What stays as it is at a bank, whatever the message.
use Rattle.std.proofs.Common.{◌≡◌, ℕ, ◌/◌, ◌<◌, ◌==◌, Bool, true, false, cond, nat_lt, length, Option, Some, None, refl, sym, ◌∙◌, ap, arith, length-set}
use Rattle.std.proofs.lemmas.Bool.{ltb-true}
use Rattle.dn_base.specs.declared.ids.CoreId.{CoreId}
use Rattle.dn_base.specs.declared.ids.WordId.{WordId}
use Rattle.dn_base.specs.declared.ids.LockId.{LockId}
use Rattle.write_signature.specs.declared.signature.Signature.{Signature}
use Rattle.message_net.specs.declared.actor.Actor.TheVariants.{Core}
use Rattle.message_net.specs.declared.message.Message.{Message}
use Rattle.message_net.specs.declared.message.Message.TheVariants.{ReadReq, ReadFwd, DataReply, RegReq, RegFwd, RegAck, WriteBack, WbAck, Acquire, Release, Grant}
use Rattle.message_net.specs.declared.message.Outgoing.{Outgoing}
use Rattle.message_net.specs.Mail.{to_core}
use Rattle.queue_lock.specs.Lock.{Lock, IsLockOf, acquired, released}
use Rattle.queue_lock.proofs.RowLemmas.{IsLockOf-acquired, IsLockOf-released, answer-released}
use Rattle.registry_bank.specs.declared.bank.BankWord.{BankWord}
use Rattle.registry_bank.specs.declared.bank.BankWord.TheVariants.{Home, Reg}
use Rattle.registry_bank.specs.Bank.{BankParts, IsBank, is_same_core, bank_word, bank_lock, with_word, with_lock, reads, registers, takes_back, acquires, releases, grants, hands_on, from_core, bank_gets, is_for_bank}
use Rattle.registry_bank.proofs.ChangeLemmas.{word-changed, lock-changed}

-- one bank is another after a message, as far as numbers go
pub record KeepsPlace (b c : BankParts) : Type 0 where
  pub bank : c.bank ≡ b.bank
  pub banks : c.banks ≡ b.banks
  pub cores : c.cores ≡ b.cores
  pub words : length c.words ≡ length b.words
  pub locks : length c.locks ≡ length b.locks

place-same : (b : BankParts) → KeepsPlace b b
place-same b = record { bank = refl; banks = refl; cores = refl; words = refl; locks = refl }

place-word : (b : BankParts) (w : ℕ) (content : BankWord) → KeepsPlace b (with_word b w content)
place-word b w content =
    record { bank = refl; banks = refl; cores = refl; words = length-set b.words (w / b.banks) content; locks = refl }

place-lock : (b : BankParts) (l : ℕ) (state : Lock) → KeepsPlace b (with_lock b l state)
place-lock b l state =
    record { bank = refl; banks = refl; cores = refl; words = refl; locks = length-set b.locks (l / b.banks) state }

place-from_core : (b : BankParts) (core : CoreId) (row : BankParts × Option Outgoing) → KeepsPlace b row.0 → KeepsPlace b (from_core b core row).0
place-from_core b core row kept = by_test (nat_lt core.0 b.cores) where
  by_test : (t : Bool) → KeepsPlace b (cond t row (b, None)).0
  by_test true = kept
  by_test false = place-same b

place-reads : (b : BankParts) (word : WordId) (reader : CoreId) (o : Option BankWord) → KeepsPlace b (reads b word reader o).0
place-reads b word reader None = place-same b
place-reads b word reader (Some (Home value)) = place-same b
place-reads b word reader (Some (Reg registrant)) = place-same b

place-registers : (b : BankParts) (word : WordId) (core : CoreId) (o : Option BankWord) → KeepsPlace b (registers b word core o).0
place-registers b word core None = place-same b
place-registers b word core (Some (Home value)) = place-word b word.0 (Reg core)
place-registers b word core (Some (Reg registrant)) = place-word b word.0 (Reg core)

place-takes_back : (b : BankParts) (word : WordId) (value : ℕ) (core : CoreId) (o : Option BankWord) → KeepsPlace b (takes_back b word value core o).0
place-takes_back b word value core None = place-same b
place-takes_back b word value core (Some (Home old)) = place-same b
place-takes_back b word value core (Some (Reg registrant)) = by_test (is_same_core registrant core) where
  by_test : (t : Bool) → KeepsPlace b (cond t (with_word b word.0 (Home value)) b)
  by_test true = place-word b word.0 (Home value)
  by_test false = place-same b

place-acquires : (b : BankParts) (lock : LockId) (core : CoreId) (o : Option Lock) → KeepsPlace b (acquires b lock core o).0
place-acquires b lock core None = place-same b
place-acquires b lock core (Some state) = place-lock b lock.0 (acquired state core).0

place-releases : (b : BankParts) (lock : LockId) (core : CoreId) (signature : Signature) (o : Option Lock) → KeepsPlace b (releases b lock core signature o).0
place-releases b lock core signature None = place-same b
place-releases b lock core signature (Some state) =
    place-lock b lock.0 (released state core signature).0

pub place-kept : (b : BankParts) (m : Message) → KeepsPlace b (bank_gets b m).0
unfolding bank_gets
place-kept b (ReadReq word reader) =
    place-from_core b reader (reads b word reader (bank_word b word.0)) (place-reads b word reader (bank_word b word.0))
place-kept b (RegReq word core) =
    place-from_core b core (registers b word core (bank_word b word.0)) (place-registers b word core (bank_word b word.0))
place-kept b (WriteBack word value core) =
    place-from_core b core (takes_back b word value core (bank_word b word.0)) (place-takes_back b word value core (bank_word b word.0))
place-kept b (Acquire lock core) =
    place-from_core b core (acquires b lock core (bank_lock b lock.0)) (place-acquires b lock core (bank_lock b lock.0))
place-kept b (Release lock core signature) =
    place-from_core b core (releases b lock core signature (bank_lock b lock.0)) (place-releases b lock core signature (bank_lock b lock.0))
place-kept b _ = place-same b

-- a bank stays one of its machine, and answers its cores alone
pub record Stays (b : BankParts) (row : BankParts × Option Outgoing) : Type 0 where
  pub good : IsBank row.0
  pub within : (out : Outgoing) → row.1 ≡ Some out → (core : CoreId) × (out.to ≡ Core core) × (core.0 < b.cores)

silent : (b : BankParts) → IsBank b → Stays b (b, None)
silent b good = record { good = good; within = λ out e. absurd (cc) }

to-core : (b c : BankParts) (core : CoreId) (m : Message) → IsBank c → core.0 < b.cores → Stays b (c, to_core core m)
to-core b c core m good below = record { good = good; within = λ out e. by_out out e } where
  by_out : (out : Outgoing) → to_core core m ≡ Some out → (d : CoreId) × (out.to ≡ Core d) × (d.0 < b.cores)
  by_out out e =
      let same : record { to = Core core; message = m } ≡ out = cc in
      (core, sym (ap (λ (o : Outgoing). o.to) same), below)

IsBank-word : (b : BankParts) (w : ℕ) (old new : BankWord) → IsBank b → bank_word b w ≡ Some old → ((core : CoreId) → new ≡ Reg core → core.0 < b.cores) → IsBank (with_word b w new)
IsBank-word b w old new good held below =
    record { number = good.number; registrants = each; locks = good.locks } where
      by_test : (v : ℕ) (core : CoreId) (t : Bool) → cond t (Some new) (bank_word b v) ≡ Some (Reg core) → core.0 < b.cores
      by_test v core true e = below core (cc)
      by_test v core false e = good.registrants v core e

      each : (v : ℕ) (core : CoreId) → bank_word (with_word b w new) v ≡ Some (Reg core) → core.0 < b.cores
      each v core e =
          by_test v core (w == v) (sym (word-changed b w v old new (omega (arith, good.number)) held) ∙ e)

IsBank-lock : (b : BankParts) (l : ℕ) (old new : Lock) → IsBank b → bank_lock b l ≡ Some old → IsLockOf b.cores new → IsBank (with_lock b l new)
IsBank-lock b l old new good held fine =
    record { number = good.number; registrants = good.registrants; locks = each } where
      by_test : (m : ℕ) (h : Lock) (t : Bool) → cond t (Some new) (bank_lock b m) ≡ Some h → IsLockOf b.cores h
      by_test m h true e = let same : new ≡ h = cc in rw (← same) fine
      by_test m h false e = good.locks m h e

      each : (m : ℕ) (h : Lock) → bank_lock (with_lock b l new) m ≡ Some h → IsLockOf b.cores h
      each m h e =
          by_test m h (l == m) (sym (lock-changed b l m old new (omega (arith, good.number)) held) ∙ e)

stays-from_core : (b : BankParts) (core : CoreId) (row : BankParts × Option Outgoing) → IsBank b → (core.0 < b.cores → Stays b row) → Stays b (from_core b core row)
stays-from_core b core row good there = by_test (nat_lt core.0 b.cores) refl where
  by_test : (t : Bool) → nat_lt core.0 b.cores ≡ t → Stays b (cond t row (b, None))
  by_test true e = there (ltb-true core.0 b.cores e)
  by_test false e = silent b good

stays-reads : (b : BankParts) (word : WordId) (reader : CoreId) (o : Option BankWord) → bank_word b word.0 ≡ o → IsBank b → reader.0 < b.cores → Stays b (reads b word reader o)
stays-reads b word reader None e good below = silent b good
stays-reads b word reader (Some (Home value)) e good below =
    to-core b b reader (DataReply word value) good below
stays-reads b word reader (Some (Reg registrant)) e good below =
    to-core b b registrant (ReadFwd word reader) good (good.registrants word.0 registrant e)

registrant-below : (b : BankParts) (core : CoreId) → core.0 < b.cores → (d : CoreId) → Reg core ≡ Reg d → d.0 < b.cores
registrant-below b core below d e = let same : core ≡ d = cc in rw (← same) below

stays-registers : (b : BankParts) (word : WordId) (core : CoreId) (o : Option BankWord) → bank_word b word.0 ≡ o → IsBank b → core.0 < b.cores → Stays b (registers b word core o)
stays-registers b word core None e good below = silent b good
stays-registers b word core (Some (Home value)) e good below =
    to-core b (with_word b word.0 (Reg core)) core (RegAck word) (IsBank-word b word.0 (Home value) (Reg core) good e (registrant-below b core below)) below
stays-registers b word core (Some (Reg registrant)) e good below =
    by_test (is_same_core registrant core) (IsBank-word b word.0 (Reg registrant) (Reg core) good e (registrant-below b core below)) where
      by_test : (t : Bool) → IsBank (with_word b word.0 (Reg core)) → Stays b (with_word b word.0 (Reg core), cond t (to_core core (RegAck word)) (to_core registrant (RegFwd word core)))
      by_test true new =
          to-core b (with_word b word.0 (Reg core)) core (RegAck word) new below
      by_test false new =
          to-core b (with_word b word.0 (Reg core)) registrant (RegFwd word core) new (good.registrants word.0 registrant e)

stays-takes_back : (b : BankParts) (word : WordId) (value : ℕ) (core : CoreId) (o : Option BankWord) → bank_word b word.0 ≡ o → IsBank b → core.0 < b.cores → Stays b (takes_back b word value core o)
stays-takes_back b word value core None e good below = silent b good
stays-takes_back b word value core (Some (Home old)) e good below =
    to-core b b core (WbAck word) good below
stays-takes_back b word value core (Some (Reg registrant)) e good below =
    by_test (is_same_core registrant core) where
      by_test : (t : Bool) → Stays b (cond t (with_word b word.0 (Home value)) b, to_core core (WbAck word))
      by_test true =
          to-core b (with_word b word.0 (Home value)) core (WbAck word) (IsBank-word b word.0 (Reg registrant) (Home value) good e (λ d never. absurd (cc))) below
      by_test false = to-core b b core (WbAck word) good below

stays-acquires : (b : BankParts) (lock : LockId) (core : CoreId) (o : Option Lock) → bank_lock b lock.0 ≡ o → IsBank b → core.0 < b.cores → Stays b (acquires b lock core o)
stays-acquires b lock core None e good below = silent b good
stays-acquires b lock core (Some state) e good below =
    by_answer (acquired state core).1 (IsBank-lock b lock.0 state (acquired state core).0 good e (IsLockOf-acquired b.cores state core (good.locks lock.0 state e) below)) where
      by_answer : (o : Option Signature) → IsBank (with_lock b lock.0 (acquired state core).0) → Stays b (with_lock b lock.0 (acquired state core).0, grants lock core o)
      by_answer None new = record { good = new; within = λ out e. absurd (cc) }
      by_answer (Some signature) new =
          to-core b (with_lock b lock.0 (acquired state core).0) core (Grant lock signature) new below

stays-releases : (b : BankParts) (lock : LockId) (core : CoreId) (signature : Signature) (o : Option Lock) → bank_lock b lock.0 ≡ o → IsBank b → Stays b (releases b lock core signature o)
stays-releases b lock core signature None e good = silent b good
stays-releases b lock core signature (Some state) e good =
    by_answer (released state core signature).1 refl (IsLockOf-released b.cores state core signature (good.locks lock.0 state e)) where
      by_answer : (o : Option (CoreId × Signature)) → (released state core signature).1 ≡ o → IsLockOf b.cores (released state core signature).0 → Stays b (with_lock b lock.0 (released state core signature).0, hands_on lock o)
      by_answer None f fine =
          record { good = IsBank-lock b lock.0 state (released state core signature).0 good e fine; within = λ out e. absurd (cc) }
      by_answer (Some next) f fine =
          to-core b (with_lock b lock.0 (released state core signature).0) next.0 (Grant lock next.1) (IsBank-lock b lock.0 state (released state core signature).0 good e fine)
          (fine.holder next.0 (answer-released state core next.0 signature next.1 f).2)

pub stays : (b : BankParts) (m : Message) → IsBank b → Stays b (bank_gets b m)
unfolding bank_gets
stays b (ReadReq word reader) good =
    stays-from_core b reader (reads b word reader (bank_word b word.0)) good (stays-reads b word reader (bank_word b word.0) refl good)
stays b (RegReq word core) good =
    stays-from_core b core (registers b word core (bank_word b word.0)) good (stays-registers b word core (bank_word b word.0) refl good)
stays b (WriteBack word value core) good =
    stays-from_core b core (takes_back b word value core (bank_word b word.0)) good (stays-takes_back b word value core (bank_word b word.0) refl good)
stays b (Acquire lock core) good =
    stays-from_core b core (acquires b lock core (bank_lock b lock.0)) good (stays-acquires b lock core (bank_lock b lock.0) refl good)
stays b (Release lock core signature) good =
    stays-from_core b core (releases b lock core signature (bank_lock b lock.0)) good (λ below. stays-releases b lock core signature (bank_lock b lock.0) refl good)
stays b _ good = silent b good

-- a message of a kind that banks don't answer
pub other-kind : (b : BankParts) (m : Message) → is_for_bank m ≡ false → bank_gets b m ≡ (b, None)
unfolding bank_gets
other-kind b (ReadReq word reader) other = absurd (cc)
other-kind b (RegReq word core) other = absurd (cc)
other-kind b (WriteBack word value core) other = absurd (cc)
other-kind b (Acquire lock core) other = absurd (cc)
other-kind b (Release lock core signature) other = absurd (cc)
other-kind b _ other = refl
