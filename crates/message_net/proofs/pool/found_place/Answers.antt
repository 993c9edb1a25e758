use Rattle.std.proofs.Common.{sym}
use Rattle.message_net.proofs.PoolLemmas.{place-of_id}
use Rattle.message_net.proofs.pool.found_place.Goals as goal

pub returns-in-Some : goal.returns-in-Some
returns-in-Some c =
    let told = rw c.in-Some.is at c.told_by.ensures in
    sym (place-of_id c.args.id c.args.mails.now c.in-Some.place c.requires.distinct told)
