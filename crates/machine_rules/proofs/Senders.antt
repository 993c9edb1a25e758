-- Who has sent a mail in flight: a core sends in its own name, and hands on what others are to have; a bank answers; the keeper
-- tells its verdict.
use Rattle.std.proofs.Common.{◌≡◌, ℕ, zero, suc, ◌+◌, ◌==◌, not, Bool, true, false, nat_lt, List, [], ◌∷◌, slice_get, sum_by, Option, Some, None, IfSome, refl, sym, ap, subst, ◌∙◌, arith}
use Rattle.std.proofs.lemmas.List.Sums.{sum_by-cons}
use Rattle.dn_base.specs.declared.ids.CoreId.{CoreId}
use Rattle.dn_base.specs.declared.ids.WordId.{WordId}
use Rattle.dn_base.specs.declared.ids.LockId.{LockId}
use Rattle.dn_base.specs.declared.ids.BankId.{BankId}
use Rattle.write_signature.specs.declared.signature.Signature.{Signature}
use Rattle.rv_core.specs.declared.need.Need as need
use Rattle.rv_core.specs.declared.need.Need.{Need}
use Rattle.message_net.specs.declared.actor.Actor.{Actor}
use Rattle.message_net.specs.declared.actor.Actor.TheVariants.{Core, Bank, Keeper}
use Rattle.message_net.specs.declared.actor.MailId.{MailId}
use Rattle.message_net.specs.declared.event.Event.{Event}
use Rattle.message_net.specs.declared.event.Event.TheVariants.{Instr, Evict, Arrive, Handle}
use Rattle.message_net.specs.declared.message.Mail.{Mail}
use Rattle.message_net.specs.declared.message.Message.{Message}
use Rattle.message_net.specs.declared.message.Message.TheVariants.{ReadReq, ReadFwd, DataReply, RegReq, RegFwd, RegAck, WriteBack, WbAck, Acquire, Release, Grant, Arrived, Go, Halt}
use Rattle.message_net.specs.declared.message.Outgoing.{Outgoing}
use Rattle.message_net.specs.Mail.{mails_of}
use Rattle.message_net.specs.Pool.{removed}
use Rattle.message_net.proofs.MailLemmas.{sum_by-mails_with, sum_by-all_mails, weight_sent}
use Rattle.word_cache.specs.declared.row.Entry.{Entry}
use Rattle.word_cache.specs.declared.row.Entry.TheVariants.{Valid, Registered, Leaving}
use Rattle.queue_lock.specs.Lock.{Lock}
use Rattle.registry_bank.specs.declared.bank.BankWord.{BankWord}
use Rattle.registry_bank.specs.declared.bank.BankWord.TheVariants.{Home, Reg}
use Rattle.registry_bank.specs.Bank.{BankParts, bank_gets, bank_word, bank_lock, from_core, reads, registers, takes_back, acquires, releases, grants, hands_on, is_same_core}
use Rattle.phase_barrier.specs.declared.keeper.Verdict.{Verdict}
use Rattle.phase_barrier.specs.declared.keeper.Verdict as verdict
use Rattle.phase_barrier.specs.Barrier.{keeper_gets}
use Rattle.phase_barrier.specs.Letters.{letters, to_each}
use Rattle.registration_protocol.specs.declared.node.Received.{Received}
use Rattle.registration_protocol.specs.Node.{NodeParts, Setting, entry_of}
use Rattle.registration_protocol.specs.declared.node.Step.{Step}
use Rattle.registration_protocol.specs.OwnEvents.{may_instr, instructed, evicted, evicts, arrives}
use Rattle.registration_protocol.specs.Messages.{node_gets, read_fwd_row}
use Rattle.registration_protocol.specs.Parts.{accessed, load_sends, store_sends, sent_by}
use Rattle.registration_protocol.proofs.InstrLemmas.{may-instruct, instructed-is, instr-parts}
use Rattle.registration_protocol.proofs.MessageLemmas.{ack-sends, forward-sends, back-sends, data-sends, grant-sends, go-sends, halt-sends, other-is}
use Rattle.machine_rules.specs.State.{State, initial_state}
use Rattle.machine_rules.specs.Flight.{bit, weighs}
use Rattle.machine_rules.specs.Next.{next, enabled, next_number, when_there, core_does, bank_does, does_instr, does_evict, does_arrive, core_gets, bank_handles, gets, delivers}
use Rattle.machine_rules.specs.Runs.{after, IsRun}
use Rattle.machine_rules.specs.Sound.{IsMachine, IsSound}
use Rattle.machine_rules.proofs.Steps.{Handled, handled, without_mail}
use Rattle.machine_rules.proofs.SoundEvents.{sound-next}
use Rattle.machine_rules.proofs.WordCore.{same-number}

-- whether an actor may have sent a message
abbrev pub is_sent : Actor → Message → Bool
is_sent (Core c) (ReadReq word reader) = true
is_sent (Core c) (DataReply word value) = true
is_sent (Core c) (RegAck word) = true
is_sent (Core c) (RegReq word core) = core.0 == c.0
is_sent (Core c) (WriteBack word value core) = core.0 == c.0
is_sent (Core c) (Acquire lock core) = core.0 == c.0
is_sent (Core c) (Release lock core signature) = core.0 == c.0
is_sent (Core c) (Arrived core bad) = core.0 == c.0
is_sent (Bank b) (ReadFwd word reader) = true
is_sent (Bank b) (DataReply word value) = true
is_sent (Bank b) (RegFwd word core) = true
is_sent (Bank b) (RegAck word) = true
is_sent (Bank b) (WbAck word) = true
is_sent (Bank b) (Grant lock signature) = true
is_sent Keeper (Go phase) = true
is_sent Keeper Halt = true
is_sent _ _ = false

abbrev pub unsent : Mail → ℕ
unsent m = bit (not (is_sent m.id.sender m.message))

-- each mail in flight is one that its sender may have sent
abbrev pub AreSent : State → Type 0
AreSent S = weighs S unsent ≡ 0

-- what an actor sends, if anything, is its own
abbrev IsOwn : Actor → Option Outgoing → Type 0
IsOwn from sent = IfSome sent (λ (out : Outgoing). is_sent from out.message ≡ true)

own-weight : (from : Actor) (number : ℕ) (sent : Option Outgoing) → IsOwn from sent → weight_sent unsent from number sent ≡ 0
own-weight from number None own = refl
own-weight from number (Some out) own = ap (λ (b : Bool). bit (not b)) own

silent : (from : Actor) (o : Option Outgoing) → o ≡ None → IsOwn from o
silent from o is = subst (IsOwn from) (sym is) tt

-- ---- cores

mine : (n : NodeParts) (core : CoreId) → n.core ≡ core.0 → (n.core == core.0) ≡ true
mine n core own = ap (λ (k : ℕ). k == core.0) own ∙ same-number core.0

load-own : (C : Setting) (n : NodeParts) (core : CoreId) (word : WordId) (e : Option Entry) → IsOwn (Core core) (load_sends C n word e)
load-own C n core word None = refl
load-own C n core word (Some e) = tt

store-own : (C : Setting) (n : NodeParts) (core : CoreId) (word : WordId) (whole : Bool) (e : Option Entry) → n.core ≡ core.0 → IsOwn (Core core) (store_sends C n word whole e)
store-own C n core word true None own = mine n core own
store-own C n core word false None own = refl
store-own C n core word whole (Some (Valid value marked)) own = mine n core own
store-own C n core word whole (Some (Registered value pending)) own = tt
store-own C n core word whole (Some (Leaving value)) own = tt

need-own : (C : Setting) (n : NodeParts) (core : CoreId) (x : Need) (e : Option Entry) → n.core ≡ core.0 → IsOwn (Core core) (sent_by C n x e)
need-own C n core need.TheVariants.Local e own = tt
need-own C n core (need.TheVariants.End by) e own = tt
need-own C n core (need.TheVariants.Load word) e own = load-own C n core word e
need-own C n core (need.TheVariants.Store word whole) e own = store-own C n core word whole e own
need-own C n core (need.TheVariants.Acquire lock) e own = mine n core own
need-own C n core (need.TheVariants.Release lock) e own = mine n core own

instr-own : (C : Setting) (n : NodeParts) (core : CoreId) → n.core ≡ core.0 → may_instr C n ≡ true → IsOwn (Core core) (instructed C n).1.sent
instr-own C n core own may =
    let m = may-instruct C n may in
    let row = instructed-is C n m.decl m.task m.needs m.declares m.has m.now in
    let sends : (instructed C n).1.sent ≡ sent_by C n m.needs (accessed n m.needs) =
    ap (λ (r : NodeParts × Step). r.1.sent) row ∙ (instr-parts C n m.decl m.task m.needs m.has).sent in
    subst (IsOwn (Core core)) (sym sends) (need-own C n core m.needs (accessed n m.needs) own)

evict-own : (C : Setting) (n : NodeParts) (core : CoreId) (word : WordId) (e : Option Entry) → n.core ≡ core.0 → IsOwn (Core core) (evicts C n word e).1
evict-own C n core word None own = tt
evict-own C n core word (Some (Valid value marked)) own = tt
evict-own C n core word (Some (Registered value true)) own = tt
evict-own C n core word (Some (Registered value false)) own = mine n core own
evict-own C n core word (Some (Leaving value)) own = tt

read-own : (C : Setting) (n : NodeParts) (core : CoreId) (word : WordId) (reader : CoreId) (e : Option Entry) → IsOwn (Core core) (read_fwd_row C n word reader e).1.sent
read-own C n core word reader None = refl
read-own C n core word reader (Some (Valid value marked)) = refl
read-own C n core word reader (Some (Registered value pending)) = refl
read-own C n core word reader (Some (Leaving value)) = refl

handed-own : (C : Setting) (n : NodeParts) (core : CoreId) (word : WordId) (reader : CoreId) → IsOwn (Core core) (node_gets C n (ReadFwd word reader)).1.sent
unfolding node_gets
handed-own C n core word reader = read-own C n core word reader (entry_of n word.0)

other-own : (C : Setting) (n : NodeParts) (core : CoreId) (r : NodeParts × Received) → r ≡ (n, record { sent = None; granted = None }) → IsOwn (Core core) r.1.sent
other-own C n core r is = silent (Core core) r.1.sent (ap (λ (x : NodeParts × Received). x.1.sent) is)

gets-own : (C : Setting) (n : NodeParts) (core : CoreId) (m : Message) → IsOwn (Core core) (node_gets C n m).1.sent
gets-own C n core (DataReply word value) = silent (Core core) _ (ap (λ (r : Received). r.sent) (data-sends C n word value))
gets-own C n core (RegAck word) = silent (Core core) _ (ap (λ (r : Received). r.sent) (ack-sends C n word))
gets-own C n core (RegFwd word other) = subst (λ (r : Received). IsOwn (Core core) r.sent) (sym (forward-sends C n word other)) refl
gets-own C n core (ReadFwd word reader) = handed-own C n core word reader
gets-own C n core (WbAck word) = silent (Core core) _ (ap (λ (r : Received). r.sent) (back-sends C n word))
gets-own C n core (Grant lock signature) = silent (Core core) _ (grant-sends C n lock signature)
gets-own C n core (Go phase) = silent (Core core) _ (ap (λ (r : Received). r.sent) (go-sends C n phase))
gets-own C n core Halt = silent (Core core) _ (ap (λ (r : Received). r.sent) (halt-sends C n))
gets-own C n core (ReadReq word reader) = other-own C n core _ (other-is C n (ReadReq word reader) refl)
gets-own C n core (RegReq word other) = other-own C n core _ (other-is C n (RegReq word other) refl)
gets-own C n core (WriteBack word value other) = other-own C n core _ (other-is C n (WriteBack word value other) refl)
gets-own C n core (Acquire lock other) = other-own C n core _ (other-is C n (Acquire lock other) refl)
gets-own C n core (Release lock other signature) = other-own C n core _ (other-is C n (Release lock other signature) refl)
gets-own C n core (Arrived other bad) = other-own C n core _ (other-is C n (Arrived other bad) refl)

-- ---- banks

from-own : (b : BankParts) (bank : BankId) (core : CoreId) (row : BankParts × Option Outgoing) → IsOwn (Bank bank) row.1 → IsOwn (Bank bank) (from_core b core row).1
from-own b bank core row own = by_test (nat_lt core.0 b.cores) refl where
  by_test : (x : Bool) → nat_lt core.0 b.cores ≡ x → IsOwn (Bank bank) (from_core b core row).1
  by_test true e = rw (e) own
  by_test false e = rw (e) tt

reads-own : (b : BankParts) (bank : BankId) (word : WordId) (reader : CoreId) (o : Option BankWord) → IsOwn (Bank bank) (reads b word reader o).1
reads-own b bank word reader None = tt
reads-own b bank word reader (Some (Home value)) = refl
reads-own b bank word reader (Some (Reg owner)) = refl

registers-own : (b : BankParts) (bank : BankId) (word : WordId) (core : CoreId) (o : Option BankWord) → IsOwn (Bank bank) (registers b word core o).1
registers-own b bank word core None = tt
registers-own b bank word core (Some (Home value)) = refl
registers-own b bank word core (Some (Reg owner)) = by_test (is_same_core owner core) refl where
  by_test : (x : Bool) → is_same_core owner core ≡ x → IsOwn (Bank bank) (registers b word core (Some (Reg owner))).1
  by_test true e = rw (e) refl
  by_test false e = rw (e) refl

takes-own : (b : BankParts) (bank : BankId) (word : WordId) (value : ℕ) (core : CoreId) (o : Option BankWord) → IsOwn (Bank bank) (takes_back b word value core o).1
takes-own b bank word value core None = tt
takes-own b bank word value core (Some (Home old)) = refl
takes-own b bank word value core (Some (Reg owner)) = refl

grants-own : (bank : BankId) (lock : LockId) (core : CoreId) (o : Option Signature) → IsOwn (Bank bank) (grants lock core o)
grants-own bank lock core None = tt
grants-own bank lock core (Some signature) = refl

hands-own : (bank : BankId) (lock : LockId) (o : Option (CoreId × Signature)) → IsOwn (Bank bank) (hands_on lock o)
hands-own bank lock None = tt
hands-own bank lock (Some waiter) = refl

acquires-own : (b : BankParts) (bank : BankId) (lock : LockId) (core : CoreId) (o : Option Lock) → IsOwn (Bank bank) (acquires b lock core o).1
acquires-own b bank lock core None = tt
acquires-own b bank lock core (Some state) = grants-own bank lock core _

releases-own : (b : BankParts) (bank : BankId) (lock : LockId) (core : CoreId) (signature : Signature) (o : Option Lock) → IsOwn (Bank bank) (releases b lock core signature o).1
releases-own b bank lock core signature None = tt
releases-own b bank lock core signature (Some state) = hands-own bank lock _

bank-own : (b : BankParts) (bank : BankId) (m : Message) → IsOwn (Bank bank) (bank_gets b m).1
unfolding bank_gets
bank-own b bank (ReadReq word reader) = from-own b bank reader _ (reads-own b bank word reader (bank_word b word.0))
bank-own b bank (RegReq word core) = from-own b bank core _ (registers-own b bank word core (bank_word b word.0))
bank-own b bank (WriteBack word value core) = from-own b bank core _ (takes-own b bank word value core (bank_word b word.0))
bank-own b bank (Acquire lock core) = from-own b bank core _ (acquires-own b bank lock core (bank_lock b lock.0))
bank-own b bank (Release lock core signature) = from-own b bank core _ (releases-own b bank lock core signature (bank_lock b lock.0))
bank-own b bank (ReadFwd word reader) = tt
bank-own b bank (DataReply word value) = tt
bank-own b bank (RegFwd word core) = tt
bank-own b bank (RegAck word) = tt
bank-own b bank (WbAck word) = tt
bank-own b bank (Grant lock signature) = tt
bank-own b bank (Arrived core bad) = tt
bank-own b bank (Go phase) = tt
bank-own b bank Halt = tt

-- ---- the keeper

each-own : (message : Message) (first n number : ℕ) → is_sent Keeper message ≡ true → sum_by unsent (mails_of Keeper number (to_each first n message)) ≡ 0
each-own message first zero number own = refl
each-own message first (suc n) number own =
    let one : unsent (record { id = record { sender = Keeper; number = number }; to = Core (record { 0 = first }); message = message }) ≡ 0 = ap (λ (b : Bool). bit (not b)) own in
    omega (arith, one, each-own message (first + 1) n (number + 1) own, sum_by-cons unsent (record { id = record { sender = Keeper; number = number }; to = Core (record { 0 = first }); message = message }) (mails_of Keeper (number + 1) (to_each (first + 1) n message)))

letters-own : (cores number : ℕ) (v : Verdict) → sum_by unsent (mails_of Keeper number (letters cores v)) ≡ 0
letters-own cores number verdict.TheVariants.Wait = refl
letters-own cores number (verdict.TheVariants.Go phase) = each-own (Go phase) 0 cores number refl
letters-own cores number verdict.TheVariants.Halt = each-own Halt 0 cores number refl

-- ---- events

core-sends : (S : State) (core : CoreId) (n : NodeParts) (sent : Option Outgoing) → AreSent S → IsOwn (Core core) sent → AreSent (core_does S core n sent)
core-sends S core n sent good own =
    omega (arith, good, sum_by-mails_with unsent (Core core) (next_number S (Core core)) sent S.mails, own-weight (Core core) (next_number S (Core core)) sent own)

bank-sends : (S : State) (bank : BankId) (b : BankParts) (sent : Option Outgoing) → AreSent S → IsOwn (Bank bank) sent → AreSent (bank_does S bank.0 b sent (Bank bank))
bank-sends S bank b sent good own =
    omega (arith, good, sum_by-mails_with unsent (Bank bank) (next_number S (Bank bank)) sent S.mails, own-weight (Bank bank) (next_number S (Bank bank)) sent own)

gets-sends : (S : State) (to : Actor) (m : Message) → AreSent S → AreSent (gets S to m)
gets-sends S (Core core) m good = by_node (slice_get S.nodes core.0) where
  by_node : (o : Option NodeParts) → AreSent (core_gets S core m o)
  by_node None = good
  by_node (Some n) = core-sends S core (node_gets S.setting n m).0 (node_gets S.setting n m).1.sent good (gets-own S.setting n core m)
gets-sends S (Bank bank) m good = by_bank (slice_get S.banks bank.0) where
  by_bank : (o : Option BankParts) → AreSent (bank_handles S (Bank bank) bank.0 m o)
  by_bank None = good
  by_bank (Some b) = bank-sends S bank (bank_gets b m).0 (bank_gets b m).1 good (bank-own b bank m)
gets-sends S Keeper m good =
    omega (
      arith,
      good,
      sum_by-all_mails unsent Keeper (next_number S Keeper) (letters S.setting.shape.cores (keeper_gets S.keeper m).1) S.mails,
      letters-own S.setting.shape.cores (next_number S Keeper) (keeper_gets S.keeper m).1,
    )

handle-sends : (S : State) (id : MailId) → enabled S (Handle id) ≡ true → AreSent S → AreSent (delivers (without_mail S id) (removed id S.mails).0)
handle-sends S id may good = by_mail (handled S id may) where
  by_mail : (m : Mail) × Handled S id m → AreSent (delivers (without_mail S id) (removed id S.mails).0)
  by_mail (m, h) = rw (h.took) (gets-sends (without_mail S id) m.to m.message (omega (arith, good, h.weights unsent)))

pub sent-next : (S : State) (e : Event) → IsMachine S → enabled S e ≡ true → AreSent S → AreSent (next S e)
unfolding next enabled
sent-next S (Instr core) machine may good = by_node (slice_get S.nodes core.0) refl may where
  by_node : (o : Option NodeParts) → slice_get S.nodes core.0 ≡ o → when_there (may_instr S.setting) o ≡ true → AreSent (does_instr S core o)
  by_node None found may = good
  by_node (Some n) found may = core-sends S core (instructed S.setting n).0 (instructed S.setting n).1.sent good (instr-own S.setting n core (machine.node core.0 n found).core may)
sent-next S (Evict core word) machine may good = by_node (slice_get S.nodes core.0) refl where
  by_node : (o : Option NodeParts) → slice_get S.nodes core.0 ≡ o → AreSent (does_evict S core word o)
  by_node None found = good
  by_node (Some n) found = core-sends S core (evicted S.setting n word).0 (evicted S.setting n word).1 good (evict-own S.setting n core word (entry_of n word.0) (machine.node core.0 n found).core)
sent-next S (Arrive core) machine may good = by_node (slice_get S.nodes core.0) refl where
  by_node : (o : Option NodeParts) → slice_get S.nodes core.0 ≡ o → AreSent (does_arrive S core o)
  by_node None found = good
  by_node (Some n) found = core-sends S core (arrives n).0 (arrives n).1 good (mine n core (machine.node core.0 n found).core)
sent-next S (Handle id) machine may good = handle-sends S id may good

pub sent-run : (S : State) (made : ℕ) (events : List Event) → IsSound S made → IsRun S events → AreSent S → AreSent (after S events)
sent-run S made [] sound run good = good
sent-run S made (e ∷ es) sound run good = sent-run (next S e) (made + 1) es (sound-next S made e sound run.0) run.1 (sent-next S e sound.machine run.0 good)

pub opened-sent : (C : Setting) → AreSent (initial_state C)
unfolding initial_state
opened-sent C = refl
