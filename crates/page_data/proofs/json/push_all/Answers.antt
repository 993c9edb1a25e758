use Rattle.page_data.specs.Json.{further}
use Rattle.page_data.proofs.Items.{text-read}
use Rattle.page_data.proofs.json.push_all.Goals as goal

pub loop-number-preserved : goal.loop-number-preserved
loop-number-preserved c =
    rw c.in_ok-push_further.ensures
    (text-read further c.loop-number.out.items c.args.numbers.now c.loop-number.number-index _ _ c.loop-number-test.true c.loop-number.invariant)
