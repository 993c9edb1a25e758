-- What the objects of a hall hold, place by place.
use Rattle.std.proofs.Common.{◌≡◌, ℕ, ◌+◌, ◌<◌, List, [], ◌∷◌, ◌++◌, length, map, get_or, Some, slice_get, slice_index, sym, ap, ◌∙◌, arith}
use Rattle.std.specs.Option.{option_map}
use Rattle.std.specs.List.{range_with_len}
use Rattle.std.proofs.lemmas.List.{length-append, get_or_append_left, get_or-append-add}
use Rattle.std.proofs.lemmas.List.FromFn.{get_or-range_with_len, length-range_with_len}
use Rattle.std.proofs.lemmas.Option.{slice_get_within, get_or_from_slice_get, slice_get-map, slice_get-get_or}
use Rattle.registry_bank.specs.Bank.{BankParts}
use Rattle.phase_barrier.specs.Barrier.{Barrier}
use Rattle.bank_hall.specs.Banks.{BankActorParts}
use Rattle.bank_hall.specs.Ports.{PortParts}
use Rattle.bank_hall.specs.Keepers.{KeeperActorParts}
use Rattle.host_workers.proofs.Mapped.{long-map}
use Rattle.host_workers.specs.Inboxes.{InboxParts, AreObjectsOf, bank_parts, bank_inbox, bank_number, port_mails}

pub mapped-at : {A B : Type 0} (g : A → B) (xs : List A) (k : ℕ) (x : A) → slice_get xs k ≡ Some x → slice_get (map g xs) k ≡ Some (g x)
mapped-at g xs k x at = slice_get-map g xs k ∙ ap (option_map g) at

pub range-at : (n i : ℕ) → i < n → slice_get (range_with_len 0 n) i ≡ Some i
range-at n i below =
    let long = length-range_with_len 0 n in
    slice_get-get_or (range_with_len 0 n) i 0 (omega (arith, long, below)) ∙ ap Some (get_or-range_with_len 0 n i 0 below ∙ omega arith)

module _ (banks : List BankParts) (keeper : Barrier) (inboxes : InboxParts) (next : List ℕ) (objects : List BankActorParts) (ports : List PortParts) (last : KeeperActorParts)
    (hold : AreObjectsOf banks keeper inboxes next objects ports last) where
  pub bank-there : (b : ℕ) (o : BankActorParts) → slice_get objects b ≡ Some o → slice_get banks b ≡ Some o.state.bank
  bank-there b o at = ap (λ l. slice_get l b) (sym hold.bank_parts_are) ∙ mapped-at bank_parts objects b o at

  pub inbox-there : (b : ℕ) (o : BankActorParts) → slice_get objects b ≡ Some o → slice_get inboxes.banks b ≡ Some o.state.inbox
  inbox-there b o at = ap (λ l. slice_get l b) (sym hold.bank_inboxes) ∙ mapped-at bank_inbox objects b o at

  pub port-there : (c : ℕ) (p : PortParts) → slice_get ports c ≡ Some p → slice_get inboxes.cores c ≡ Some p.inbox
  port-there c p at = ap (λ l. slice_get l c) (sym hold.port_inboxes) ∙ mapped-at port_mails ports c p at

  pub number-there : (b : ℕ) (o : BankActorParts) → slice_get objects b ≡ Some o → slice_index next b ≡ o.state.next
  number-there b o at =
      let there = mapped-at bank_number objects b o at in
      let within = slice_get_within (map bank_number objects) b o.state.next there in
      ap (λ l. get_or l b 0) (sym hold.numbers) ∙ (get_or_append_left (map bank_number objects) (last.state.next ∷ []) 0 b within ∙ get_or_from_slice_get (map bank_number objects) b o.state.next 0 there)

  pub keeper-number : slice_index next (length objects) ≡ last.state.next
  keeper-number =
      ap (λ l. get_or l (length objects) 0) (sym hold.numbers)
      ∙ (ap (λ n. get_or (map bank_number objects ++ last.state.next ∷ []) n 0) (plain (length objects) (length (map bank_number objects)) (long-map bank_number objects))
      ∙ get_or-append-add (map bank_number objects) (last.state.next ∷ []) 0 0) where
        plain : (m n : ℕ) → n ≡ m → m ≡ n + 0
        plain m n e = omega (arith, e)

  pub banks-long : length objects ≡ length banks
  banks-long = sym (long-map bank_parts objects) ∙ ap length hold.bank_parts_are

  pub ports-long : length ports ≡ length inboxes.cores
  ports-long = sym (long-map port_mails ports) ∙ ap length hold.port_inboxes

  pub inboxes-long : length inboxes.banks ≡ length banks
  inboxes-long = ap length (sym hold.bank_inboxes) ∙ (long-map bank_inbox objects ∙ banks-long)

  pub numbers-long : length next ≡ length objects + 1
  numbers-long = ap length (sym hold.numbers) ∙ (length-append (map bank_number objects) (last.state.next ∷ []) ∙ ap (λ n. n + 1) (long-map bank_number objects))
