-- What a take and a step tell has early stamps.
use Rattle.std.proofs.Common.{◌≡◌, ℕ, ◌^◌, ◌<◌, ◌≤◌, Bool, true, false, List, Option, Some, None, slice_get, IfSome, refl, sym, ap, subst, arith}
use Rattle.std.proofs.lemmas.Bool.Decides.{nat_tests}
use Rattle.message_net.specs.declared.actor.Actor.{Actor}
use Rattle.message_net.specs.declared.message.Message.{Message}
use Rattle.message_net.specs.declared.message.Outgoing.{Outgoing}
use Rattle.registry_bank.specs.Bank.{BankParts, bank_gets}
use Rattle.phase_barrier.specs.Barrier.{keeper_gets}
use Rattle.grant_log.specs.declared.posted.Posted.{Posted}
use Rattle.bank_hall.specs.declared.bank.Handled.{Handled}
use Rattle.bank_hall.specs.declared.bank.BankIn as bank_in
use Rattle.bank_hall.specs.declared.bank.BankOut.{BankOut}
use Rattle.bank_hall.specs.declared.bank.BankOut as bank_out
use Rattle.bank_hall.specs.declared.port.PortIn as port_in
use Rattle.bank_hall.specs.declared.port.PortOut.{PortOut}
use Rattle.bank_hall.specs.declared.port.PortOut as port_out
use Rattle.bank_hall.specs.declared.keeper.KeeperIn as keeper_in
use Rattle.bank_hall.specs.declared.keeper.KeeperOut.{KeeperOut}
use Rattle.bank_hall.specs.declared.keeper.KeeperOut as keeper_out
use Rattle.grant_log.specs.Inbox.{picked_index, picked_out, picked_out_at}
use Rattle.grant_log.specs.Stamps.{is_early, may_handle, stamp_after}
use Rattle.bank_hall.specs.Note.{KeeperNote, letter_with, letter_to}
use Rattle.phase_barrier.specs.Letters.{letter_of}
use Rattle.bank_hall.specs.Banks.{BankState, bank_actor, reply_of, bank_row, bank_handles, bank_call}
use Rattle.bank_hall.specs.Ports.{port_call}
use Rattle.bank_hall.specs.Keepers.{KeeperState, keeper_row, keeper_handles, keeper_call}
use Rattle.host_workers.specs.Deeds.{IsEarly}

-- what is taken may be taken
may-take : (may : Posted → Bool) (inbox : List Posted) (place : ℕ) (at : Option Posted) → IfSome (picked_out_at may inbox place at).0 (λ p. may p ≡ true)
may-take may inbox place None = tt
may-take may inbox place (Some p) = by (may p) refl where
  by : (b : Bool) → may p ≡ b → IfSome (picked_out_at may inbox place (Some p)).0 (λ q. may q ≡ true)
  by true e = rw e e
  by false e = rw e tt

taken-early : (p : Posted) → is_early p ≡ true → p.stamp < 2 ^ 63
taken-early p e = grind (arith, nat_tests, e)

abbrev taken_in : PortOut → Option Posted
taken_in port_out.TheVariants.Kept = None
taken_in (port_out.TheVariants.Taken picked_out) = picked_out

-- a mail that a take gives has a stamp below 2^63
pub takes-early : (inbox : List Posted) (pick : ℕ) (p : Posted) → port_out.TheVariants.Taken (Some p) ≡ (port_call inbox (port_in.TheVariants.Take pick)).1 → p.stamp < 2 ^ 63
unfolding port_call
takes-early inbox pick p e =
    let given : Some p ≡ (picked_out is_early inbox pick).0 = ap taken_in e in
    taken-early p (subst (λ o. IfSome o (λ q. is_early q ≡ true)) (sym given) (may-take is_early inbox (picked_index inbox pick) (slice_get inbox (picked_index inbox pick))))

abbrev is_some_type : {X : Type 0} → Option X → Type 0
is_some_type None = ⊥
is_some_type (Some y) = Unit {0}

none-some : {X : Type 0} (x : X) → Some x ≡ None → ⊥
none-some x e = subst is_some_type e tt

abbrev or_else : {X : Type 0} → X → Option X → X
or_else d None = d
or_else d (Some x) = x

-- the stamp of handling a mail that may be handled
stamp-early : (clock next : ℕ) (p : Posted) → may_handle clock next p ≡ true → stamp_after clock p ≤ 2 ^ 63
stamp-early clock next p e = grind (arith, nat_tests, e)

reply-stamp : (from : Actor) (next stamp : ℕ) (out : Option Outgoing) → stamp ≤ 2 ^ 63 → IfSome (reply_of from next stamp out) IsEarly
reply-stamp from next stamp None early = tt
reply-stamp from next stamp (Some out) early = early

row-early : (s : BankState) (p : Posted) (inbox : List Posted) (row : BankParts × Option Outgoing) (h : Handled) → stamp_after s.clock p ≤ 2 ^ 63 → Some h ≡ (bank_row s p inbox row).1 → IfSome h.reply IsEarly
row-early s p inbox row h early e =
    let is : h ≡ or_else h (bank_row s p inbox row).1 = ap (or_else h) e in
    subst (λ (k : Handled). IfSome k.reply IsEarly) (sym is) (reply-stamp (bank_actor s.bank) s.next (stamp_after s.clock p) row.1 early)

handles-early : (s : BankState) (row : Option Posted × List Posted) (h : Handled) → IfSome row.0 (λ p. may_handle s.clock s.next p ≡ true) → Some h ≡ (bank_handles s row).1 → IfSome h.reply IsEarly
handles-early s (None, inbox) h may e = absurd (none-some h e)
handles-early s (Some p, inbox) h may e = row-early s p inbox (bank_gets s.bank p.mail.message) h (stamp-early s.clock s.next p may) e

abbrev handled_in : BankOut → Option Handled
handled_in bank_out.TheVariants.Kept = None
handled_in (bank_out.TheVariants.Stepped handled) = handled

-- a bank's reply has an early stamp
pub reply-early : (s : BankState) (pick : ℕ) (h : Handled) → bank_out.TheVariants.Stepped (Some h) ≡ (bank_call s (bank_in.TheVariants.Step pick)).1 → IfSome h.reply IsEarly
unfolding bank_call
reply-early s pick h e =
    handles-early s (picked_out (may_handle s.clock s.next) s.inbox pick) h
    (may-take (may_handle s.clock s.next) s.inbox (picked_index s.inbox pick) (slice_get s.inbox (picked_index s.inbox pick)))
    (ap handled_in e)

keeps-early : (s : KeeperState) (row : Option Posted × List Posted) (n : KeeperNote) → IfSome row.0 (λ p. may_handle s.clock s.next p ≡ true) → Some n ≡ (keeper_handles s row).1 → n.stamped.stamp ≤ 2 ^ 63
keeps-early s (None, inbox) n may e = absurd (none-some n e)
keeps-early s (Some p, inbox) n may e =
    let is : n ≡ or_else n (keeper_row s p inbox (keeper_gets s.keeper p.mail.message)).1 = ap (or_else n) e in
    subst (λ (k : KeeperNote). k.stamped.stamp ≤ 2 ^ 63) (sym is) (stamp-early s.clock s.next p may)

abbrev note_in : KeeperOut → Option KeeperNote
note_in keeper_out.TheVariants.Kept = None
note_in (keeper_out.TheVariants.Stepped answer) = answer

-- what the keeper notes has an early stamp
pub note-early : (s : KeeperState) (pick : ℕ) (n : KeeperNote) → keeper_out.TheVariants.Stepped (Some n) ≡ (keeper_call s (keeper_in.TheVariants.Step pick)).1 → n.stamped.stamp ≤ 2 ^ 63
unfolding keeper_call
note-early s pick n e =
    keeps-early s (picked_out (may_handle s.clock s.next) s.inbox pick) n
    (may-take (may_handle s.clock s.next) s.inbox (picked_index s.inbox pick) (slice_get s.inbox (picked_index s.inbox pick)))
    (ap note_in e)

-- so have the keeper's letters
pub letter-early : (n : KeeperNote) (core : ℕ) → n.stamped.stamp ≤ 2 ^ 63 → IfSome (letter_to n core) IsEarly
letter-early n core early = by (letter_of n.verdict) where
  by : (m : Option Message) → IfSome (letter_with n core m) IsEarly
  by None = tt
  by (Some m) = early
