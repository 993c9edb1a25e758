use Rattle.page_data.specs.Json.{character}
use Rattle.page_data.proofs.Items.{text-read}
use Rattle.page_data.proofs.json.push_characters.Goals as goal

pub loop-byte-preserved : goal.loop-byte-preserved
loop-byte-preserved c =
    rw c.in_ok-push_character.ensures
    (text-read character c.loop-byte.out.items c.args.bytes.now c.loop-byte.byte-index _ _ c.loop-byte-test.true c.loop-byte.invariant)
