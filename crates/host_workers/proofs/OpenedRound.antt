-- A round as it is opened, from what its parts are made of.
use Rattle.std.proofs.Common.{◌≡◌, ℕ, ◌≤◌, List, length, take, drop, sym, ap, subst, ◌∙◌, ◌-◌, arith}
use Rattle.std.proofs.lemmas.List.{take_all, length-drop}
use Rattle.dn_base.specs.declared.ids.Shape.{Shape}
use Rattle.registration_protocol.specs.Node.{NodeParts}
use Rattle.machine_rules.specs.State.{State}
use Rattle.bank_hall.specs.Banks.{BankActorParts}
use Rattle.bank_hall.specs.Ports.{PortParts}
use Rattle.bank_hall.specs.Keepers.{KeeperActorParts}
use Rattle.bank_hall.specs.Halls.{AreHallParts}
use Rattle.host_workers.specs.declared.opening.Moving.{Moving}
use Rattle.host_workers.specs.Inboxes.{InboxParts, AreFirstInboxes, AreObjectsOf, AreAtFirst}
use Rattle.host_workers.specs.Rosters.{RosterParts, IsFreshRoster}
use Rattle.host_workers.specs.Opening.{IsMovingOf}
use Rattle.host_workers.proofs.FirstObjects.{hall-parts}

-- all behind a place is what is behind it
pub all-behind : (n : ℕ) (xs : List ℕ) → take (length xs - n) (drop n xs) ≡ drop n xs
all-behind n xs = take_all (length xs - n) (drop n xs) (omega (arith, length-drop n xs))

module _ (shape : Shape) (S : State) (m : Moving) (is : IsMovingOf shape S m) where
  pub first-there : (inboxes : InboxParts) → AreFirstInboxes shape m.pool.mails inboxes → AreFirstInboxes S.setting.shape S.mails inboxes
  first-there inboxes first = subst (λ (sh : Shape). AreFirstInboxes sh S.mails inboxes) (sym is.shape_is) (subst (λ ms. AreFirstInboxes shape ms inboxes) (sym is.mails) first)

  pub hold-there : (inboxes : InboxParts) (next : List ℕ) (objects : List BankActorParts) (ports : List PortParts) (keeper : KeeperActorParts) → next ≡ drop shape.cores m.next.items
      → AreObjectsOf m.banks.items m.keeper inboxes next objects ports keeper → AreObjectsOf S.banks S.keeper inboxes (drop S.setting.shape.cores S.numbers) objects ports keeper
  hold-there inboxes next objects ports keeper rest hold = record {
    bank_parts_are = hold.bank_parts_are ∙ sym is.banks;
    bank_inboxes = hold.bank_inboxes;
    port_inboxes = hold.port_inboxes;
    keeper_parts = hold.keeper_parts ∙ sym is.keeper;
    keeper_inbox = hold.keeper_inbox;
    numbers = hold.numbers ∙ (rest ∙ (ap (drop shape.cores) (sym is.numbers) ∙ ap (λ (sh : Shape). drop sh.cores S.numbers) (sym is.shape_is)));
  }

  pub fresh-there : (roster : RosterParts) → IsFreshRoster m.nodes.items shape.banks m.next.items roster → IsFreshRoster S.nodes S.setting.shape.banks S.numbers roster
  fresh-there roster fresh =
      subst (λ (ns : List NodeParts). IsFreshRoster ns S.setting.shape.banks S.numbers roster) (sym is.nodes)
      (subst (λ (sh : Shape). IsFreshRoster m.nodes.items sh.banks S.numbers roster) (sym is.shape_is)
      (subst (λ (l : List ℕ). IsFreshRoster m.nodes.items shape.banks l roster) (sym is.numbers) fresh))

  pub parts-there : (inboxes : InboxParts) (next : List ℕ) (objects : List BankActorParts) (ports : List PortParts) (keeper : KeeperActorParts) → next ≡ drop shape.cores m.next.items
      → AreFirstInboxes shape m.pool.mails inboxes → AreObjectsOf m.banks.items m.keeper inboxes next objects ports keeper → AreAtFirst objects keeper → AreHallParts objects ports keeper
  parts-there inboxes next objects ports keeper rest first hold clocks =
      hall-parts S S.mails inboxes objects ports keeper is.machine (hold-there inboxes next objects ports keeper rest hold) (first-there inboxes first) clocks
      (subst (λ (sh : Shape). 1 ≤ sh.cores) (sym is.shape_is) is.some) (subst (λ (sh : Shape). sh.cores ≤ 16) (sym is.shape_is) is.most) (subst (λ (sh : Shape). sh.banks ≤ 16) (sym is.shape_is) is.few_banks)
