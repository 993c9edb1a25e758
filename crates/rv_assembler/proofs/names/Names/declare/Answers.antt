use Rattle.std.proofs.Common.{◌≤◌, length, arith}
use Rattle.std.proofs.lemmas.Result.{on_ok_weaker}
use Rattle.rv_assembler.specs.Lookup.{shelf_number}
use Rattle.rv_assembler.proofs.ShelfLemmas.{put-last}
use Rattle.rv_assembler.proofs.names.Names.declare.Goals as goal

pub returns-else-number-len : goal.returns-else-number-len
returns-else-number-len c =
    let shelves = c.args.self.now.shelves.items in
    let past : length shelves ≤ shelf_number (length shelves) c.args.name.now = omega (arith, c.len.ensures, c.shelf_number-number.ensures, c.if-number-len.false) in
    on_ok_weaker c.put_on-else-number-len.result (put-last shelves c.args.self.now.last c.put_on-else-number-len.new.shelf c.args.name.now c.args.meaning past) c.put_on-else-number-len.ensures
