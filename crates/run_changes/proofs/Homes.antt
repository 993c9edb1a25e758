-- The changes of an event lead from what its bank had for its words to what it has.
use Rattle.std.proofs.Common.{◌≡◌, ℕ, ◌<◌, ◌==◌, nat_lt, Bool, true, false, cond, length, slice_get, Option, Some, None, refl, sym, ap, ◌∙◌, arith}
use Rattle.std.proofs.lemmas.Bool.Decides.{nat_tests}
use Rattle.std.proofs.lemmas.Option.{same_Some}
use Rattle.std.specs.List.{fold}
use Rattle.dn_base.specs.declared.ids.BankId.{BankId}
use Rattle.dn_base.specs.declared.ids.CoreId.{CoreId}
use Rattle.dn_base.specs.declared.ids.LoadSeen.{LoadSeen}
use Rattle.dn_base.specs.declared.ids.LockId.{LockId}
use Rattle.dn_base.specs.declared.ids.WordId.{WordId}
use Rattle.write_signature.specs.declared.signature.Signature.{Signature}
use Rattle.message_net.specs.declared.actor.Actor.TheVariants.{Core, Bank}
use Rattle.message_net.specs.declared.actor.MailId.{MailId}
use Rattle.message_net.specs.declared.event.Event.{Event}
use Rattle.message_net.specs.declared.event.Event.TheVariants.{Instr, Evict, Arrive, Handle}
use Rattle.message_net.specs.declared.message.Mail.{Mail}
use Rattle.message_net.specs.declared.message.Message.{Message}
use Rattle.message_net.specs.declared.message.Message.TheVariants as message
use Rattle.message_net.specs.declared.message.Outgoing.{Outgoing}
use Rattle.message_net.specs.Pool.{removed}
use Rattle.queue_lock.specs.Lock.{Lock}
use Rattle.registry_bank.specs.declared.bank.BankWord.{BankWord}
use Rattle.registry_bank.specs.declared.bank.BankWord.TheVariants.{Home, Reg}
use Rattle.registry_bank.specs.Bank.{BankParts, bank_word, bank_lock, with_word, reads, registers, takes_back, acquires, releases, from_core, is_same_core, bank_gets}
use Rattle.registry_bank.proofs.ChangeLemmas.{word-changed}
use Rattle.machine_rules.specs.State.{State, lock_in}
use Rattle.machine_rules.specs.Next.{next, enabled, seen_in}
use Rattle.machine_rules.specs.Sound.{IsMachine}
use Rattle.machine_rules.proofs.Steps.{Handled, handled, bank-step}
use Rattle.dn_machine.specs.Actors.{actor_in}
use Rattle.run_changes.specs.declared.change.Change.TheVariants as change
use Rattle.run_changes.specs.declared.look.LockLook.{LockLook}
use Rattle.run_changes.specs.Looks.{bank_look, lock_look, look_at}
use Rattle.run_changes.specs.Changes.{change_unless, same_content, home_change, same_queue, queue_change, changes_by}
use Rattle.run_changes.specs.Events.{event_changes}
use Rattle.run_changes.specs.Applied.{home_step}
use Rattle.run_changes.proofs.Applied.{Every, Leaves, all-append, all-unless, steady}

contents-same : (a b : BankWord) → same_content a b ≡ true → a ≡ b
contents-same (Home a) (Home b) e = ap (λ (k : ℕ). Home k) (numbers a b e) where
  numbers : (x y : ℕ) → (x == y) ≡ true → x ≡ y
  numbers x y d = grind (arith, nat_tests, d)
contents-same (Reg a) (Reg b) e = ap (λ (k : ℕ). Reg (record { 0 = k })) (numbers a.0 b.0 e) where
  numbers : (x y : ℕ) → (x == y) ≡ true → x ≡ y
  numbers x y d = grind (arith, nat_tests, d)
contents-same (Home a) (Reg b) e = cc
contents-same (Reg a) (Home b) e = cc

-- a word has something before and after, or nothing
abbrev pub StaysThere : Option BankWord → Option BankWord → Type 0
StaysThere None None = Unit {0}
StaysThere (Some x) (Some y) = Unit {0}
StaysThere _ _ = ⊥

-- a bank in which one word alone changes
record MovesOne (b c : BankParts) (word : WordId) : Type 0 where
  others : (v : ℕ) → (word.0 == v) ≡ false → bank_word c v ≡ bank_word b v
  both : StaysThere (bank_word b word.0) (bank_word c word.0)

module _ (w : ℕ) where
  pub here : (word : WordId) (x y : Option BankWord) → (word.0 == w) ≡ true → StaysThere x y → fold (home_step w) x (home_change word x y) ≡ y
  here word None None t both = refl
  here word None (Some y) t both = elim both [ ]
  here word (Some x) None t both = elim both [ ]
  here word (Some x) (Some y) t both = by_test (same_content x y) refl where
    by_test : (s : Bool) → same_content x y ≡ s → fold (home_step w) (Some x) (change_unless s (change.Home word y)) ≡ Some y
    by_test true e = ap (λ (z : BankWord). Some z) (contents-same x y e)
    by_test false e = rw (t) refl

  elsewhere : (word : WordId) (x y z : Option BankWord) → (word.0 == w) ≡ false → fold (home_step w) z (home_change word x y) ≡ z
  elsewhere word None y z t = refl
  elsewhere word (Some x) None z t = refl
  elsewhere word (Some x) (Some y) z t = by_test (same_content x y) where
    by_test : (s : Bool) → fold (home_step w) z (change_unless s (change.Home word y)) ≡ z
    by_test true = refl
    by_test false = rw (t) refl

  pub home-else : (word : WordId) (x y : Option BankWord) → (word.0 == w) ≡ false → Every (Leaves (home_step w)) (home_change word x y)
  home-else word None y t = tt
  home-else word (Some x) None t = tt
  home-else word (Some x) (Some y) t = all-unless (Leaves (home_step w)) (same_content x y) (change.Home word y) (λ z. rw (t) refl)

  moved : (b c : BankParts) (word : WordId) → MovesOne b c word → fold (home_step w) (bank_word b w) (home_change word (bank_word b word.0) (bank_word c word.0)) ≡ bank_word c w
  moved b c word moves = by_test (word.0 == w) refl where
    by_test : (t : Bool) → (word.0 == w) ≡ t → fold (home_step w) (bank_word b w) (home_change word (bank_word b word.0) (bank_word c word.0)) ≡ bank_word c w
    by_test true t =
        let same : word.0 ≡ w = grind (arith, nat_tests, t) in
        ap (λ (v : ℕ). fold (home_step w) (bank_word b v) (home_change word (bank_word b word.0) (bank_word c word.0))) (sym same)
        ∙ here word (bank_word b word.0) (bank_word c word.0) t moves.both ∙ ap (λ (v : ℕ). bank_word c v) same
    by_test false t = elsewhere word (bank_word b word.0) (bank_word c word.0) (bank_word b w) t ∙ sym (moves.others w t)

-- ---- messages

stays-there : (x : Option BankWord) → StaysThere x x
stays-there None = tt
stays-there (Some x) = tt

rests : (b : BankParts) (word : WordId) → MovesOne b b word
rests b word = record { others = λ v out. refl; both = stays-there (bank_word b word.0) }

changes : (b : BankParts) (word : WordId) (old new : BankWord) → 0 < b.banks → bank_word b word.0 ≡ Some old → MovesOne b (with_word b word.0 new) word
changes b word old new some is =
    let same : (word.0 == word.0) ≡ true = grind (arith, nat_tests) in
    let now : bank_word (with_word b word.0 new) word.0 ≡ Some new = word-changed b word.0 word.0 old new some is ∙ rw (same) refl in
    record { others = λ v out. word-changed b word.0 v old new some is ∙ rw (out) refl; both = rw (is, now) tt }

registered-one : (b : BankParts) (word : WordId) (core : CoreId) → 0 < b.banks → (o : Option BankWord) → bank_word b word.0 ≡ o → MovesOne b (registers b word core o).0 word
registered-one b word core some None is = rests b word
registered-one b word core some (Some (Home value)) is = changes b word (Home value) (Reg core) some is
registered-one b word core some (Some (Reg other)) is = changes b word (Reg other) (Reg core) some is

taken-one : (b : BankParts) (word : WordId) (value : ℕ) (core : CoreId) → 0 < b.banks → (o : Option BankWord) → bank_word b word.0 ≡ o → MovesOne b (takes_back b word value core o).0 word
taken-one b word value core some None is = rests b word
taken-one b word value core some (Some (Home old)) is = rests b word
taken-one b word value core some (Some (Reg other)) is = by_test (is_same_core other core) where
  by_test : (t : Bool) → MovesOne b (cond t (with_word b word.0 (Home value)) b) word
  by_test true = changes b word (Reg other) (Home value) some is
  by_test false = rests b word

of-core : (b : BankParts) (core : CoreId) (row : BankParts × Option Outgoing) (word : WordId) → MovesOne b row.0 word → MovesOne b (from_core b core row).0 word
of-core b core row word moves = by_test (nat_lt core.0 b.cores) where
  by_test : (t : Bool) → MovesOne b (cond t row (b, None)).0 word
  by_test true = moves
  by_test false = rests b word

-- a lock's message changes no word, and tells of none
pub lock-told : (w : ℕ) (lock : LockId) (look : LockLook) (o : Option Lock) → Every (Leaves (home_step w)) (queue_change lock look o)
lock-told w lock look None = tt
lock-told w lock look (Some h) =
    all-append (Leaves (home_step w)) (change_unless (same_queue look h) (change.Queue lock h.holder h.queue)) _ (all-unless (Leaves (home_step w)) (same_queue look h) (change.Queue lock h.holder h.queue) (λ x. refl))
    (all-unless (Leaves (home_step w)) _ (change.Signed lock h.kept) (λ x. refl))

words-kept : (b : BankParts) (core : CoreId) (row : BankParts × Option Outgoing) (w : ℕ) → bank_word row.0 w ≡ bank_word b w → bank_word (from_core b core row).0 w ≡ bank_word b w
words-kept b core row w is = by_test (nat_lt core.0 b.cores) where
  by_test : (t : Bool) → bank_word (cond t row (b, None)).0 w ≡ bank_word b w
  by_test true = is
  by_test false = refl

acquire-words : (b : BankParts) (lock : LockId) (core : CoreId) (w : ℕ) (o : Option Lock) → bank_word (acquires b lock core o).0 w ≡ bank_word b w
acquire-words b lock core w None = refl
acquire-words b lock core w (Some h) = refl

release-words : (b : BankParts) (lock : LockId) (core : CoreId) (s : Signature) (w : ℕ) (o : Option Lock) → bank_word (releases b lock core s o).0 w ≡ bank_word b w
release-words b lock core s w None = refl
release-words b lock core s w (Some h) = refl

lock-looked : (T : State) (bank : BankId) (b c : BankParts) (lock : LockId) (seen : Option LoadSeen) (w : ℕ) (o : Option Lock) → slice_get T.banks bank.0 ≡ Some c → bank_word c w ≡ bank_word b w
    → fold (home_step w) (bank_word b w) (changes_by (lock_look bank lock o) seen T) ≡ bank_word c w
unfolding changes_by
lock-looked T bank b c lock seen w None there same = sym same
lock-looked T bank b c lock seen w (Some h) there same = steady (home_step w) (bank_word b w) _ (lock-told w lock (record { holder = h.holder; waiting = length h.queue; kept = h.kept }) (lock_in lock.0 (slice_get T.banks bank.0))) ∙ sym same

by-message : (T : State) (bank : BankId) (b : BankParts) (m : Message) (seen : Option LoadSeen) (w : ℕ) → 0 < b.banks → slice_get T.banks bank.0 ≡ Some (bank_gets b m).0
    → fold (home_step w) (bank_word b w) (changes_by (bank_look bank m (Some b)) seen T) ≡ bank_word (bank_gets b m).0 w
unfolding changes_by bank_gets
by-message T bank b (message.RegReq word core) seen w some there =
    rw (there) (moved w b _ word (of-core b core (registers b word core (bank_word b word.0)) word (registered-one b word core some (bank_word b word.0) refl)))
by-message T bank b (message.WriteBack word value core) seen w some there =
    rw (there) (moved w b _ word (of-core b core (takes_back b word value core (bank_word b word.0)) word (taken-one b word value core some (bank_word b word.0) refl)))
by-message T bank b (message.Acquire lock core) seen w some there =
    lock-looked T bank b _ lock seen w (bank_lock b lock.0) there (words-kept b core (acquires b lock core (bank_lock b lock.0)) w (acquire-words b lock core w (bank_lock b lock.0)))
by-message T bank b (message.Release lock core s) seen w some there =
    lock-looked T bank b _ lock seen w (bank_lock b lock.0) there (words-kept b core (releases b lock core s (bank_lock b lock.0)) w (release-words b lock core s w (bank_lock b lock.0)))
by-message T bank b (message.ReadReq word reader) seen w some there = sym (words-kept b reader _ w (reads-words (bank_word b word.0))) where
  reads-words : (o : Option BankWord) → bank_word (reads b word reader o).0 w ≡ bank_word b w
  reads-words None = refl
  reads-words (Some (Home value)) = refl
  reads-words (Some (Reg other)) = refl
by-message T bank b (message.ReadFwd word reader) seen w some there = refl
by-message T bank b (message.DataReply word value) seen w some there = refl
by-message T bank b (message.RegFwd word core) seen w some there = refl
by-message T bank b (message.RegAck word) seen w some there = refl
by-message T bank b (message.WbAck word) seen w some there = refl
by-message T bank b (message.Grant lock s) seen w some there = refl
by-message T bank b (message.Arrived core bad) seen w some there = refl
by-message T bank b (message.Go phase) seen w some there = refl
by-message T bank b message.Halt seen w some there = refl

pub looks-mail : (S : State) (id : MailId) (m : Mail) (bank : BankId) (b : BankParts) → (removed id S.mails).0 ≡ Some m → m.to ≡ Bank bank → slice_get S.banks bank.0 ≡ Some b → look_at S (Handle id) ≡ bank_look bank m.message (Some b)
unfolding look_at
looks-mail S id m bank b took to found = rw (took, to, found) refl

by-mail : (S : State) (id : MailId) (m : Mail) (bank : BankId) (b : BankParts) → IsMachine S → Handled S id m → m.to ≡ Bank bank → slice_get S.banks bank.0 ≡ Some b
    → (k : BankParts) → slice_get (next S (Handle id)).banks bank.0 ≡ Some k → (w : ℕ) → fold (home_step w) (bank_word b w) (event_changes S (Handle id)) ≡ bank_word k w
unfolding event_changes
by-mail S id m bank b machine h to found k there w =
    let at = machine.bank bank.0 b found in
    let some : 0 < b.banks = omega (arith, at.banks, machine.context.some_banks) in
    let same : (bank.0 == bank.0) ≡ true = grind (arith, nat_tests) in
    let left : slice_get (next S (Handle id)).banks bank.0 ≡ Some (bank_gets b m.message).0 = (bank-step S id m bank b h to found).banks bank.0 ∙ rw (same) refl in
    rw (looks-mail S id m bank b h.took to found)
    (by-message (next S (Handle id)) bank b m.message (seen_in S (Handle id)) w some left ∙ ap (λ (x : BankParts). bank_word x w) (same_Some (bank_gets b m.message).0 k (sym left ∙ there)))

pub no-core : {A : Type 0} (c : CoreId) (bank : BankId) → Some (Core c) ≡ Some (Bank bank) → A
no-core c bank e = cc

pub homes-led : (S : State) (e : Event) (bank : BankId) (b : BankParts) → IsMachine S → enabled S e ≡ true → actor_in S e ≡ Some (Bank bank) → slice_get S.banks bank.0 ≡ Some b
    → (k : BankParts) → slice_get (next S e).banks bank.0 ≡ Some k → (w : ℕ) → fold (home_step w) (bank_word b w) (event_changes S e) ≡ bank_word k w
unfolding actor_in
homes-led S (Instr c) bank b machine may is found k there w = no-core c bank is
homes-led S (Evict c word) bank b machine may is found k there w = no-core c bank is
homes-led S (Arrive c) bank b machine may is found k there w = no-core c bank is
homes-led S (Handle id) bank b machine may is found k there w =
    let took = handled S id may in
    by-mail S id took.0 bank b machine took.1 (same_Some took.0.to (Bank bank) (rw (took.1.took) at is)) found k there w
