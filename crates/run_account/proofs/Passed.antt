-- How a message to a bank grants its lock.
use Rattle.std.proofs.Common.{◌≡◌, ◌≢◌, ℕ, ◌+◌, ◌<◌, ◌==◌, Bool, true, false, cond, nat_lt, List, [], ◌∷◌, length, get_or, set, slice_get, Option, Some, None, refl, sym, ◌∙◌, arith}
use Rattle.std.specs.List.{enumerate_from}
use Rattle.std.specs.Option.{unwrap_or}
use Rattle.std.proofs.lemmas.Bool.Decides.{nat_tests}
use Rattle.std.proofs.lemmas.List.{get_or-set_same, get_or-set_other, length-set, ext_get_or, length-map, get_or-map}
use Rattle.std.proofs.lemmas.List.FromFn.{length-enumerate_from, get_or-enumerate_from}
use Rattle.dn_base.specs.declared.ids.CoreId.{CoreId}
use Rattle.dn_base.specs.declared.ids.BankId.{BankId}
use Rattle.dn_base.specs.declared.ids.LockId.{LockId}
use Rattle.write_signature.specs.declared.signature.Signature.{Signature}
use Rattle.message_net.specs.declared.actor.Actor.TheVariants.{Bank}
use Rattle.message_net.specs.declared.actor.MailId.{MailId}
use Rattle.message_net.specs.declared.event.Event.TheVariants.{Handle}
use Rattle.message_net.specs.declared.message.Mail.{Mail}
use Rattle.message_net.specs.declared.message.Message as message
use Rattle.message_net.specs.declared.message.Message.{Message}
use Rattle.message_net.specs.Pool.{removed}
use Rattle.queue_lock.specs.Lock.{Lock, is_core}
use Rattle.registry_bank.specs.Bank.{BankParts, bank_lock, bank_gets, acquires, releases}
use Rattle.machine_rules.specs.State.{State}
use Rattle.run_account.specs.declared.departure.Handing.{Handing}
use Rattle.run_account.specs.declared.departure.Handing.TheVariants.{AtOnce, Queued}
use Rattle.run_account.specs.Handings.{Handings, grants_lock, handed_at_bank, handed_in, handings_with}
use Rattle.run_account.specs.Moves.{free_hands, holder_hands, acquire_hands, release_hands, hands_if, with_handing, message_hands}

zero-plus : (n : ℕ) → 0 + n ≡ n
zero-plus n = omega arith

length-hands : (g : ℕ → Option Handing) (H : Handings) → length (handings_with g H) ≡ length H
unfolding handings_with
length-hands g H = length-map (enumerate_from 0 H) (λ (last : ℕ × Handing). unwrap_or (g last.0) last.1) ∙ length-enumerate_from 0 H

get-hands : (g : ℕ → Option Handing) (H : Handings) (l : ℕ) → l < length H → get_or (handings_with g H) l AtOnce ≡ unwrap_or (g l) (get_or H l AtOnce)
unfolding handings_with
get-hands g H l inside =
    get_or-map (λ (last : ℕ × Handing). unwrap_or (g last.0) last.1) (enumerate_from 0 H) l (0, AtOnce) AtOnce (rw (length-enumerate_from 0 H) inside)
    ∙ rw (get_or-enumerate_from 0 H l (0, AtOnce) inside, zero-plus l) refl

hands-are : (g : ℕ → Option Handing) (H other : Handings) → length other ≡ length H
    → ((l : ℕ) → l < length H → get_or other l AtOnce ≡ unwrap_or (g l) (get_or H l AtOnce)) → handings_with g H ≡ other
hands-are g H other long each =
    ext_get_or AtOnce (handings_with g H) other (length-hands g H ∙ sym long)
    (λ l inside. let within : l < length H = rw (sym (length-hands g H)) inside in get-hands g H l within ∙ sym (each l within))

pub none-handed : (g : ℕ → Option Handing) (H : Handings) → ((l : ℕ) → g l ≡ None) → handings_with g H ≡ H
none-handed g H none = hands-are g H H refl (λ l inside. rw (none l) refl)

one-handed : (g : ℕ → Option Handing) (H : Handings) (lock : ℕ) (how : Handing) → ((l : ℕ) → g l ≡ cond (lock == l) (Some how) None) → handings_with g H ≡ set H lock how
one-handed g H lock how here = hands-are g H (set H lock how) (length-set H lock how) (λ l inside. by_lock l inside (lock == l) refl) where
  by_lock : (l : ℕ) → l < length H → (t : Bool) → (lock == l) ≡ t → get_or (set H lock how) l AtOnce ≡ unwrap_or (g l) (get_or H l AtOnce)
  by_lock l inside true e =
      let same : l ≡ lock = grind (arith, nat_tests) in
      rw (here l, e) (rw same (get_or-set_same H lock how AtOnce (rw (sym same) inside)))
  by_lock l inside false e =
      let other : l ≢ lock = grind (arith, nat_tests) in
      rw (here l, e) (get_or-set_other H lock l how AtOnce other)

cond-none : (t : Bool) → cond {A = Option Handing} t None None ≡ None
cond-none true = refl
cond-none false = refl

module _ (g : ℕ → Option Handing) (b : BankParts) (H : Handings) where
  acquire-hands : (lock : LockId) (core : CoreId) (h : Lock) (holder : Option CoreId) → h.holder ≡ holder
      → ((l : ℕ) → g l ≡ cond (grants_lock l (acquires b lock core (Some h)).1) (Some AtOnce) None) → handings_with g H ≡ with_handing H lock (free_hands holder)
  acquire-hands lock core h None is at = one-handed g H lock.0 AtOnce (λ l. at l ∙ rw is refl)
  acquire-hands lock core h (Some other) is at = none-handed g H (λ l. at l ∙ rw is refl)

  acquire-by : (lock : LockId) (core : CoreId) (h : Option Lock)
      → ((l : ℕ) → g l ≡ cond (grants_lock l (acquires b lock core h).1) (Some AtOnce) None) → handings_with g H ≡ with_handing H lock (acquire_hands h)
  acquire-by lock core None at = none-handed g H at
  acquire-by lock core (Some h) at = acquire-hands lock core h h.holder refl at

  release-queue : (lock : LockId) (core : CoreId) (signature : Signature) (h : Lock) (holder : CoreId) (queue : List CoreId) → h.holder ≡ Some holder → h.queue ≡ queue
      → is_core core.0 holder ≡ true
      → ((l : ℕ) → g l ≡ cond (grants_lock l (releases b lock core signature (Some h)).1) (Some Queued) None) → handings_with g H ≡ with_handing H lock (holder_hands core (Some holder) queue)
  release-queue lock core signature h holder [] is line own at = rw own (none-handed g H (λ l. at l ∙ rw (is, own, line) refl))
  release-queue lock core signature h holder (next ∷ others) is line own at = rw own (one-handed g H lock.0 Queued (λ l. at l ∙ rw (is, own, line) refl))

  release-holder : (lock : LockId) (core : CoreId) (signature : Signature) (h : Lock) (holder : Option CoreId) → h.holder ≡ holder
      → ((l : ℕ) → g l ≡ cond (grants_lock l (releases b lock core signature (Some h)).1) (Some Queued) None) → handings_with g H ≡ with_handing H lock (holder_hands core holder h.queue)
  release-holder lock core signature h None is at = none-handed g H (λ l. at l ∙ rw is refl)
  release-holder lock core signature h (Some holder) is at = by_test (is_core core.0 holder) refl where
    by_test : (t : Bool) → is_core core.0 holder ≡ t → handings_with g H ≡ with_handing H lock (holder_hands core (Some holder) h.queue)
    by_test true own = release-queue lock core signature h holder h.queue is refl own at
    by_test false own = rw own (none-handed g H (λ l. at l ∙ rw (is, own) refl))

  release-by : (lock : LockId) (core : CoreId) (signature : Signature) (h : Option Lock)
      → ((l : ℕ) → g l ≡ cond (grants_lock l (releases b lock core signature h).1) (Some Queued) None) → handings_with g H ≡ with_handing H lock (release_hands core h)
  release-by lock core signature None at = none-handed g H at
  release-by lock core signature (Some h) at = release-holder lock core signature h h.holder refl at

  by_bank : (msg : Message) → ((l : ℕ) → g l ≡ handed_at_bank l msg (Some b)) → handings_with g H ≡ message_hands b H msg
  unfolding bank_gets
  by_bank (message.TheVariants.Acquire lock core) at = by_test (nat_lt core.0 b.cores) refl where
    by_test : (t : Bool) → nat_lt core.0 b.cores ≡ t → handings_with g H ≡ with_handing H lock (hands_if b core (acquire_hands (bank_lock b lock.0)))
    by_test true e = rw e (acquire-by lock core (bank_lock b lock.0) (λ l. at l ∙ rw e refl))
    by_test false e = rw e (none-handed g H (λ l. at l ∙ rw e refl))
  by_bank (message.TheVariants.Release lock core signature) at = by_test (nat_lt core.0 b.cores) refl where
    by_test : (t : Bool) → nat_lt core.0 b.cores ≡ t → handings_with g H ≡ with_handing H lock (hands_if b core (release_hands core (bank_lock b lock.0)))
    by_test true e = rw e (release-by lock core signature (bank_lock b lock.0) (λ l. at l ∙ rw e refl))
    by_test false e = rw e (none-handed g H (λ l. at l ∙ rw e refl))
  by_bank (message.TheVariants.ReadReq word reader) at = none-handed g H (λ l. at l ∙ cond-none (grants_lock l (bank_gets b (message.TheVariants.ReadReq word reader)).1))
  by_bank (message.TheVariants.ReadFwd word reader) at = none-handed g H (λ l. at l ∙ cond-none (grants_lock l (bank_gets b (message.TheVariants.ReadFwd word reader)).1))
  by_bank (message.TheVariants.DataReply word value) at = none-handed g H (λ l. at l ∙ cond-none (grants_lock l (bank_gets b (message.TheVariants.DataReply word value)).1))
  by_bank (message.TheVariants.RegReq word core) at = none-handed g H (λ l. at l ∙ cond-none (grants_lock l (bank_gets b (message.TheVariants.RegReq word core)).1))
  by_bank (message.TheVariants.RegFwd word core) at = none-handed g H (λ l. at l ∙ cond-none (grants_lock l (bank_gets b (message.TheVariants.RegFwd word core)).1))
  by_bank (message.TheVariants.RegAck word) at = none-handed g H (λ l. at l ∙ cond-none (grants_lock l (bank_gets b (message.TheVariants.RegAck word)).1))
  by_bank (message.TheVariants.WriteBack word value core) at = none-handed g H (λ l. at l ∙ cond-none (grants_lock l (bank_gets b (message.TheVariants.WriteBack word value core)).1))
  by_bank (message.TheVariants.WbAck word) at = none-handed g H (λ l. at l ∙ cond-none (grants_lock l (bank_gets b (message.TheVariants.WbAck word)).1))
  by_bank (message.TheVariants.Grant lock signature) at = none-handed g H (λ l. at l ∙ cond-none (grants_lock l (bank_gets b (message.TheVariants.Grant lock signature)).1))
  by_bank (message.TheVariants.Arrived core bad) at = none-handed g H (λ l. at l ∙ cond-none (grants_lock l (bank_gets b (message.TheVariants.Arrived core bad)).1))
  by_bank (message.TheVariants.Go phase) at = none-handed g H (λ l. at l ∙ cond-none (grants_lock l (bank_gets b (message.TheVariants.Go phase)).1))
  by_bank message.TheVariants.Halt at = none-handed g H (λ l. at l ∙ cond-none (grants_lock l (bank_gets b message.TheVariants.Halt).1))

pub bank-handed : (S : State) (id : MailId) (m : Mail) (bank : BankId) (b : BankParts) (H : Handings) → (removed id S.mails).0 ≡ Some m → m.to ≡ Bank bank
    → slice_get S.banks bank.0 ≡ Some b → handings_with (handed_in S (Handle id)) H ≡ message_hands b H m.message
unfolding handed_in
bank-handed S id m bank b H mail to there = by_bank (handed_in S (Handle id)) b H m.message (λ l. rw (mail, to, there) refl)
