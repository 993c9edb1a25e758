-- The objects of a hall that is opened for a round: they are what a hall may begin with, and what a state of the machine has.
use Rattle.std.proofs.Common.{◌≡◌, ℕ, ◌<◌, ◌≤◌, List, [], ◌∷◌, length, map, drop, get_or, slice_get, Some, sym, ap, ◌∙◌, subst, arith}
use Rattle.std.specs.Prelude.{option_map}
use Rattle.std.specs.List.{range_with_len}
use Rattle.std.proofs.lemmas.List.{length-map, get_or-drop, get_or_append_left, get_or_push}
use Rattle.std.proofs.lemmas.List.FromFn.{length-map-range_with_len, get_or-map-range_with_len}
use Rattle.std.proofs.lemmas.Option.{slice_get_within, get_or_from_slice_get, slice_get-map}
use Rattle.message_net.specs.declared.actor.Actor.TheVariants.{Keeper}
use Rattle.message_net.specs.declared.message.Mail.{Mail}
use Rattle.machine_rules.specs.State.{State}
use Rattle.machine_rules.specs.Next.{next_number}
use Rattle.machine_rules.specs.Sound.{IsMachine}
use Rattle.grant_log.specs.declared.posted.Posted.{Posted}
use Rattle.bank_hall.specs.Banks.{BankActorParts}
use Rattle.bank_hall.specs.Ports.{PortParts}
use Rattle.bank_hall.specs.Keepers.{KeeperActorParts}
use Rattle.bank_hall.specs.Halls.{AreHallParts, IsInboxOf}
use Rattle.host_workers.specs.Rounds.{core_at, bank_at, bank_in, keeper_in}
use Rattle.host_workers.specs.Inboxes.{InboxParts, inbox_at_first, AreFirstInboxes, bank_parts, bank_inbox, bank_number, port_mails, AreObjectsOf, AreAtFirst}
use Rattle.host_workers.proofs.FirstInboxes.{first-inbox}

-- what stands at a place of the inboxes of a range of actors
at-range : (f : ℕ → List Posted) (n i : ℕ) (x : List Posted) → slice_get (map f (range_with_len 0 n)) i ≡ Some x → x ≡ f i
at-range f n i x here =
    let within : i < n = omega (arith, slice_get_within (map f (range_with_len 0 n)) i x here, length-map-range_with_len f 0 n) in
    sym (get_or_from_slice_get (map f (range_with_len 0 n)) i x x here) ∙ get_or-map-range_with_len f 0 n i i x within (omega arith)

-- The objects are made of a state's banks and keeper, of the first inboxes of these mails, and of the state's numbers from the
-- first bank's on, and all clocks stand at 0
module _ (S : State) (mails : List Mail) (inboxes : InboxParts) (bank_objects : List BankActorParts) (ports : List PortParts) (keeper_object : KeeperActorParts) (machine : IsMachine S)
    (objects : AreObjectsOf S.banks S.keeper inboxes (drop S.setting.shape.cores S.numbers) bank_objects ports keeper_object) (first : AreFirstInboxes S.setting.shape mails inboxes) (clocks : AreAtFirst bank_objects keeper_object) where
  count-banks : length bank_objects ≡ S.setting.shape.banks
  count-banks = sym (length-map bank_objects bank_parts) ∙ ap length objects.bank_parts_are ∙ machine.banks

  count-ports : length ports ≡ S.setting.shape.cores
  count-ports = sym (length-map ports port_mails) ∙ ap length (objects.port_inboxes ∙ first.cores) ∙ length-map-range_with_len (λ c. inbox_at_first mails (core_at c)) 0 S.setting.shape.cores

  -- ---- what each object has

  pub bank-there : (b : ℕ) (object : BankActorParts) → slice_get bank_objects b ≡ Some object → slice_get S.banks b ≡ Some object.state.bank
  bank-there b object here = ap (λ l. slice_get l b) (sym objects.bank_parts_are) ∙ slice_get-map bank_parts bank_objects b ∙ ap (option_map bank_parts) here

  bank-inbox : (b : ℕ) (object : BankActorParts) → slice_get bank_objects b ≡ Some object → object.state.inbox ≡ inbox_at_first mails (bank_at b)
  bank-inbox b object here =
      at-range (λ k. inbox_at_first mails (bank_at k)) S.setting.shape.banks b object.state.inbox (ap (λ l. slice_get l b) (sym (objects.bank_inboxes ∙ first.banks)) ∙ slice_get-map bank_inbox bank_objects b ∙ ap (option_map bank_inbox) here)

  pub port-inbox : (c : ℕ) (port : PortParts) → slice_get ports c ≡ Some port → port.inbox ≡ inbox_at_first mails (core_at c)
  port-inbox c port here =
      at-range (λ k. inbox_at_first mails (core_at k)) S.setting.shape.cores c port.inbox (ap (λ l. slice_get l c) (sym (objects.port_inboxes ∙ first.cores)) ∙ slice_get-map port_mails ports c ∙ ap (option_map port_mails) here)

  bank-next : (b : ℕ) (object : BankActorParts) → slice_get bank_objects b ≡ Some object → object.state.next ≡ next_number S (bank_at b)
  bank-next b object here =
      let there : slice_get (map bank_number bank_objects) b ≡ Some object.state.next = slice_get-map bank_number bank_objects b ∙ ap (option_map bank_number) here in
      sym (get_or_from_slice_get (map bank_number bank_objects) b object.state.next 0 there)
      ∙ sym (get_or_append_left (map bank_number bank_objects) (keeper_object.state.next ∷ []) 0 b (slice_get_within (map bank_number bank_objects) b object.state.next there))
      ∙ ap (λ l. get_or l b 0) objects.numbers
      ∙ get_or-drop S.setting.shape.cores S.numbers b 0

  keeper-next : keeper_object.state.next ≡ next_number S Keeper
  keeper-next =
      sym (get_or_push (map bank_number bank_objects) keeper_object.state.next 0 S.setting.shape.banks (length-map bank_objects bank_number ∙ count-banks))
      ∙ ap (λ l. get_or l S.setting.shape.banks 0) objects.numbers
      ∙ get_or-drop S.setting.shape.cores S.numbers S.setting.shape.banks 0

  -- a bank's object is the bank in the state with its first inbox, and the keeper's is the keeper
  pub bank-opened : (b : ℕ) (object : BankActorParts) → slice_get bank_objects b ≡ Some object → object.state ≡ bank_in S b object.state.bank (inbox_at_first mails (bank_at b)) 0
  bank-opened b object here =
      let inbox = bank-inbox b object here in
      let next = bank-next b object here in
      let clock = clocks.banks b object here in
      λ i. record { bank = object.state.bank; inbox = inbox i; next = next i; clock = clock i }

  pub keeper-opened : keeper_object.state ≡ keeper_in S (inbox_at_first mails Keeper) 0
  keeper-opened =
      let inbox = objects.keeper_inbox ∙ first.keeper in
      λ i. record { keeper = objects.keeper_parts i; inbox = inbox i; next = keeper-next i; clock = clocks.keeper i }

  -- ---- a hall may begin with them

  pub hall-parts : 1 ≤ S.setting.shape.cores → S.setting.shape.cores ≤ 16 → S.setting.shape.banks ≤ 16 → AreHallParts bank_objects ports keeper_object
  hall-parts some most few = record {
    some_bank = omega (arith, count-banks, machine.context.some_banks);
    few_banks = omega (arith, count-banks, few);
    some_port = omega (arith, count-ports, some);
    few_ports = omega (arith, count-ports, most);
    numbers = λ b object here. (machine.bank b object.state.bank (bank-there b object here)).bank;
    cores = ap (λ k. length k.arrived) objects.keeper_parts ∙ machine.cores ∙ sym count-ports;
    bank_mails = λ b object here. subst (IsInboxOf (bank_at b)) (sym (bank-inbox b object here)) (first-inbox mails (bank_at b));
    port_mails = λ c port here. subst (IsInboxOf (core_at c)) (sym (port-inbox c port here)) (first-inbox mails (core_at c));
    keeper_mails = subst (IsInboxOf Keeper) (sym (objects.keeper_inbox ∙ first.keeper)) (first-inbox mails Keeper);
  }
