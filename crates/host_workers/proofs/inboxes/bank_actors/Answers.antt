use Rattle.std.proofs.Common.{◌≡◌, ◌+◌, [], ◌∷◌, length, map, get_or, sym, ap, ◌∙◌, subst, arith, length-append}
use Rattle.std.specs.List.{All}
use Rattle.std.proofs.lemmas.List.{map-append}
use Rattle.std.proofs.lemmas.List.Elements.{All-cons}
use Rattle.host_workers.specs.Inboxes.{bank_parts, bank_inbox, bank_number, bank_clock}
use Rattle.host_workers.proofs.MadeObjects.{made-more, last-number}
use Rattle.host_workers.proofs.inboxes.bank_actors.Goals as goal

pub loop-bank-preserved : goal.loop-bank-preserved
loop-bank-preserved c =
    let had = c.loop-bank.invariant in
    let split = c.in-Some.ensures.items in
    let split-inboxes = c.in-Some-pop.ensures.items in
    let inserted = c.in_ok-insert.ensures.items in
    let made = c.new.ensures in
    let banks : length c.loop-bank.banks.items ≡ length c.pop.new.self.items + 1 = omega (arith, ap length split, length-append c.pop.new.self.items (c.in-Some.bank ∷ [])) in
    let inboxes : length c.loop-bank.inboxes.items ≡ length c.pop-in-Some.new.self.items + 1 = omega (arith, ap length split-inboxes, length-append c.pop-in-Some.new.self.items (c.in-Some-pop.inbox ∷ [])) in
    let place : c.len-place.result ≡ length c.pop.new.self.items = omega (arith, c.len-place.ensures, c.pop.new.self.ok.0) in record {
      banks = made-more bank_parts _ _ _ _ _ c.new.result _ split inserted (ap (λ s. s.bank) made) had.banks;
      inboxes = made-more bank_inbox _ _ _ _ _ c.new.result _ (ap (map (λ v. v.items)) split-inboxes ∙ map-append (λ v. v.items) c.pop-in-Some.new.self.items (c.in-Some-pop.inbox ∷ [])) inserted (ap (λ s. s.inbox) made) had.inboxes;
      count = omega (arith, had.count, banks, inboxes);
      numbers = made-more bank_number _ _ _ _ _ c.new.result _ (last-number c.args.next.now _ _ banks had.within) inserted (ap (λ s. s.next) made ∙ ap (λ i. get_or c.args.next.now i 0) place) had.numbers;
      within = omega (arith, had.within, banks);
      clocks = subst (All (λ a. bank_clock a ≡ 0)) (sym inserted) (All-cons (λ a. bank_clock a ≡ 0) c.new.result c.loop-bank.actors.items (ap (λ s. s.clock) made) had.clocks);
    }
