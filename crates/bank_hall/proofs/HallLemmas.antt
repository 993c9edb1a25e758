-- A post answers that the mail is kept, and a step or take something else.
use Rattle.std.proofs.Common.{◌≡◌, ℕ, List, Option, subst, sym}
use Rattle.grant_log.specs.declared.posted.Posted.{Posted}
use Rattle.bank_hall.specs.declared.bank.Handled.{Handled}
use Rattle.bank_hall.specs.declared.bank.BankIn as bank_in
use Rattle.bank_hall.specs.declared.bank.BankOut.{BankOut}
use Rattle.bank_hall.specs.declared.bank.BankOut as bank_out
use Rattle.bank_hall.specs.declared.port.PortIn as port_in
use Rattle.bank_hall.specs.declared.port.PortOut.{PortOut}
use Rattle.bank_hall.specs.declared.port.PortOut as port_out
use Rattle.bank_hall.specs.declared.keeper.KeeperIn as keeper_in
use Rattle.bank_hall.specs.declared.keeper.KeeperOut.{KeeperOut}
use Rattle.bank_hall.specs.declared.keeper.KeeperOut as keeper_out
use Rattle.bank_hall.specs.Note.{KeeperNote}
use Rattle.bank_hall.specs.Banks.{BankState, bank_call}
use Rattle.bank_hall.specs.Ports.{port_call}
use Rattle.bank_hall.specs.Keepers.{KeeperState, keeper_call}

abbrev port_kept : PortOut → Type 0
port_kept port_out.TheVariants.Kept = Unit {0}
port_kept (port_out.TheVariants.Taken taken) = ⊥

abbrev bank_kept : BankOut → Type 0
bank_kept bank_out.TheVariants.Kept = Unit {0}
bank_kept (bank_out.TheVariants.Stepped handled) = ⊥

abbrev keeper_kept : KeeperOut → Type 0
keeper_kept keeper_out.TheVariants.Kept = Unit {0}
keeper_kept (keeper_out.TheVariants.Stepped handled) = ⊥

pub port_takes : (inbox : List Posted) (pick : ℕ) → port_out.TheVariants.Kept ≡ (port_call inbox (port_in.TheVariants.Take pick)).1 → ⊥
unfolding port_call
port_takes inbox pick e = subst port_kept e tt

pub port_keeps : (inbox : List Posted) (p : Posted) (taken : Option Posted) → port_out.TheVariants.Taken taken ≡ (port_call inbox (port_in.TheVariants.Post p)).1 → ⊥
unfolding port_call
port_keeps inbox p taken e = subst port_kept (sym e) tt

pub bank_handles : (s : BankState) (pick : ℕ) → bank_out.TheVariants.Kept ≡ (bank_call s (bank_in.TheVariants.Step pick)).1 → ⊥
unfolding bank_call
bank_handles s pick e = subst bank_kept e tt

pub bank_keeps : (s : BankState) (p : Posted) (handled : Option Handled) → bank_out.TheVariants.Stepped handled ≡ (bank_call s (bank_in.TheVariants.Post p)).1 → ⊥
unfolding bank_call
bank_keeps s p handled e = subst bank_kept (sym e) tt

pub keeper_handles : (s : KeeperState) (pick : ℕ) → keeper_out.TheVariants.Kept ≡ (keeper_call s (keeper_in.TheVariants.Step pick)).1 → ⊥
unfolding keeper_call
keeper_handles s pick e = subst keeper_kept e tt

pub keeper_keeps : (s : KeeperState) (p : Posted) (handled : Option KeeperNote) → keeper_out.TheVariants.Stepped handled ≡ (keeper_call s (keeper_in.TheVariants.Post p)).1 → ⊥
unfolding keeper_call
keeper_keeps s p handled e = subst keeper_kept (sym e) tt
