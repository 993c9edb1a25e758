use Rattle.std.proofs.Common.{◌≡◌, ◌+◌, length, ap, arith}
use Rattle.bank_hall.proofs.EndLemmas.{row_more}
use Rattle.bank_hall.proofs.StartLemmas.{length-pushed}
use Rattle.bank_hall.proofs.hall.untie.Goals as goal

pub loop-pass-preserved : goal.loop-pass-preserved
loop-pass-preserved c =
    let had = c.loop-pass.invariant in
    let split = c.in-Some.ensures.items in
    let one_less : length c.loop-pass.passes.items ≡ length c.pop.new.self.items + 1 = length-pushed c.pop.new.self.items c.loop-pass.passes.items c.in-Some.pass split in
    let banks = c.push_reserved.ensures in
    let ports = c.push_reserved-in-Some.ensures in
    let keeper = c.push_reserved-in-Some-2.ensures in record {
      banks = row_more (λ p. p.banks) _ _ _ _ _ _ _ split (ap (λ p. p.banks) c.pass.view_is) banks.items had.banks;
      ports = row_more (λ p. p.ports) _ _ _ _ _ _ _ split (ap (λ p. p.ports) c.pass.view_is) ports.items had.ports;
      keeper = row_more (λ p. p.keeper) _ _ _ _ _ _ _ split (ap (λ p. p.keeper) c.pass.view_is) keeper.items had.keeper;
      bank_room = omega (arith, had.bank_room, one_less, banks.len, banks.capacity);
      port_room = omega (arith, had.port_room, one_less, ports.len, ports.capacity);
      keeper_room = omega (arith, had.keeper_room, one_less, keeper.len, keeper.capacity);
    }
