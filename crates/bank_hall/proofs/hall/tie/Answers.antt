use Rattle.std.proofs.Common.{◌≡◌, ◌+◌, length, arith}
use Rattle.bank_hall.proofs.HallStart.{tied_more}
use Rattle.bank_hall.proofs.StartLemmas.{length-pushed}
use Rattle.bank_hall.proofs.hall.tie.Goals as goal

pub loop-last-preserved : goal.loop-last-preserved
loop-last-preserved c =
    let had = c.loop-last.invariant in
    let split = c.in-Some.ensures.items in
    let pushed = c.push_reserved.ensures in
    let banks : length c.loop-last.banks.items ≡ length c.pop.new.self.items + 1 = length-pushed c.pop.new.self.items c.loop-last.banks.items c.in-Some.last split in
    let ports : length c.take_last.new.items.items ≡ length c.pop.new.self.items = omega (arith, had.ports, banks, length-pushed c.take_last.new.items.items c.loop-last.ports.items c.take_last.result c.take_last.ensures) in
    let keepers : length c.take_last-in-Some.new.items.items ≡ length c.pop.new.self.items = omega (arith, had.keepers, banks, length-pushed c.take_last-in-Some.new.items.items c.loop-last.keepers.items c.take_last-in-Some.result c.take_last-in-Some.ensures) in record {
      tied = tied_more _ c.pop.new.self.items _ c.take_last.new.items.items _ c.take_last-in-Some.new.items.items (record { banks = c.in-Some.last; ports = c.take_last.result; keeper = c.take_last-in-Some.result }) c.loop-last.all.items c.push_reserved.new.self.items _ split c.take_last.ensures c.take_last-in-Some.ensures ports keepers pushed.items had.tied;
      ports = ports;
      keepers = keepers;
      room = omega (arith, had.room, banks, pushed.len, pushed.capacity);
    }
