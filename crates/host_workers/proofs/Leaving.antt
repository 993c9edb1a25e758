-- What the objects of a closed hall hold, actor by actor.
use Rattle.std.proofs.Common.{◌≡◌, ℕ, suc, ◌+◌, List, [], ◌∷◌, ◌++◌, length, map, slice_get, slice_index_or, Some, refl, sym, ap, ◌∙◌, arith}
use Rattle.std.specs.Prelude.{flat_map, option_map}
use Rattle.std.specs.List.{range_with_len}
use Rattle.std.proofs.lemmas.Option.{get_or_from_slice_get, slice_get-map}
use Rattle.std.proofs.lemmas.Grind.{flat_map-append}
use Rattle.std.proofs.lemmas.List.{append-nil, length-map}
use Rattle.std.proofs.lemmas.List.Folds.{flat_map-map}
use Rattle.message_net.specs.declared.actor.Actor.TheVariants.{Keeper}
use Rattle.phase_barrier.specs.Barrier.{Barrier}
use Rattle.registry_bank.specs.Bank.{BankParts}
use Rattle.registration_protocol.specs.Node.{Setting}
use Rattle.bank_hall.specs.Banks.{BankActorParts}
use Rattle.bank_hall.specs.Ports.{PortParts}
use Rattle.bank_hall.specs.Keepers.{KeeperActorParts}
use Rattle.host_workers.specs.Rounds.{actors, core_at, bank_at}
use Rattle.host_workers.specs.Inboxes.{InboxParts, inbox_of as inbox_in, all_posted, bank_inbox, port_mails, AreObjectsOf}

module _ {X : Type 0} where
  -- lists that are read off by their places, one after the other
  all-places : (f : ℕ → List X) (lists : List (List X)) (from : ℕ) → ((i j : ℕ) → from + i ≡ j → f j ≡ slice_index_or lists i []) → flat_map f (range_with_len from (length lists)) ≡ flat_map (λ l. l) lists
  all-places f [] from each = refl
  all-places f (l ∷ lists) from each =
      ap (λ x. x ++ flat_map f (range_with_len (from + 1) (length lists))) (each 0 from (omega arith))
      ∙ ap (λ rest. l ++ rest) (all-places f lists (from + 1) (λ i j is. each (suc i) j (omega (arith, is))))

-- the inboxes of a machine's actors hold all posted mails
pub all-left : (C : Setting) (inboxes : InboxParts) → length inboxes.cores ≡ C.shape.cores → length inboxes.banks ≡ C.shape.banks → flat_map (inbox_in inboxes) (actors C) ≡ all_posted inboxes
all-left C inboxes cores banks =
    let f = inbox_in inboxes in
    let at_cores = map core_at (range_with_len 0 C.shape.cores) in
    let at_banks = map bank_at (range_with_len 0 C.shape.banks) in
    let cores-are : flat_map f at_cores ≡ flat_map (λ l. l) inboxes.cores =
    flat_map-map f core_at (range_with_len 0 C.shape.cores) ∙ ap (λ n. flat_map (λ c. f (core_at c)) (range_with_len 0 n)) (sym cores) ∙ all-places (λ c. f (core_at c)) inboxes.cores 0 (λ i j is. ap (λ k. slice_index_or inboxes.cores k []) (omega (arith, is))) in
    let banks-are : flat_map f at_banks ≡ flat_map (λ l. l) inboxes.banks =
    flat_map-map f bank_at (range_with_len 0 C.shape.banks) ∙ ap (λ n. flat_map (λ b. f (bank_at b)) (range_with_len 0 n)) (sym banks) ∙ all-places (λ b. f (bank_at b)) inboxes.banks 0 (λ i j is. ap (λ k. slice_index_or inboxes.banks k []) (omega (arith, is))) in
    let last : flat_map f (Keeper ∷ []) ≡ inboxes.keeper = append-nil inboxes.keeper in
    flat_map-append f at_cores (at_banks ++ Keeper ∷ [])
    ∙ ap (λ l. l ++ flat_map f (at_banks ++ Keeper ∷ [])) cores-are
    ∙ ap (λ l. flat_map (λ x. x) inboxes.cores ++ l) (flat_map-append f at_banks (Keeper ∷ []) ∙ ap (λ l. l ++ flat_map f (Keeper ∷ [])) banks-are ∙ ap (λ l. flat_map (λ x. x) inboxes.banks ++ l) last)

-- the inbox of an actor is the one that its object has
module _ (banks : List BankParts) (keeper : Barrier) (inboxes : InboxParts) (next : List ℕ) (bank_objects : List BankActorParts) (ports : List PortParts) (keeper_object : KeeperActorParts) (objects : AreObjectsOf banks keeper inboxes next bank_objects ports keeper_object) where
  pub bank-left : (b : ℕ) (object : BankActorParts) → slice_get bank_objects b ≡ Some object → inbox_in inboxes (bank_at b) ≡ object.state.inbox
  bank-left b object here =
      get_or_from_slice_get inboxes.banks b object.state.inbox [] (ap (λ l. slice_get l b) (sym objects.bank_inboxes) ∙ slice_get-map bank_inbox bank_objects b ∙ ap (option_map bank_inbox) here)

  pub port-left : (c : ℕ) (port : PortParts) → slice_get ports c ≡ Some port → inbox_in inboxes (core_at c) ≡ port.inbox
  port-left c port here =
      get_or_from_slice_get inboxes.cores c port.inbox [] (ap (λ l. slice_get l c) (sym objects.port_inboxes) ∙ slice_get-map port_mails ports c ∙ ap (option_map port_mails) here)

  pub keeper-left : inbox_in inboxes Keeper ≡ keeper_object.state.inbox
  keeper-left = sym objects.keeper_inbox

  -- there is an inbox for each object
  pub count-banks : length inboxes.banks ≡ length bank_objects
  count-banks = ap length (sym objects.bank_inboxes) ∙ length-map bank_objects bank_inbox

  pub count-ports : length inboxes.cores ≡ length ports
  count-ports = ap length (sym objects.port_inboxes) ∙ length-map ports port_mails
