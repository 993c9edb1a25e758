use Rattle.std.proofs.Common.{arith}
use Rattle.message_net.specs.declared.actor.Actor.TheVariants.{Core, Bank}
use Rattle.grant_log.proofs.MadeLemmas.{bank_is_no_core, cores_differ, three_logs}
use Rattle.part_tests.proofs.logs.merged.Goals as goal

pub merge-requires : goal.merge-requires
merge-requires c =
    rw (c.in_ok-logs.ensures.items, c.in_ok-vec.ensures.items, c.in_ok-vec-2.ensures.items, c.in_ok-vec-3.ensures.items)
    (three_logs (Bank (record { 0 = 0 })) (Core (record { 0 = 0 })) (Core (record { 0 = 1 })) c.entry.result c.entry-2.result c.entry-3.result c.entry-4.result c.entry-5.result
    (bank_is_no_core _ _) (bank_is_no_core _ _) (cores_differ _ _ (λ e. absurd (omega (arith, e)))) c.entry.ensures.actor c.entry-2.ensures.actor c.entry-3.ensures.actor c.entry-4.ensures.actor c.entry-5.ensures.actor
    (omega (arith, c.entry-2.ensures.stamp, c.entry-3.ensures.stamp)) (omega (arith, c.entry-4.ensures.stamp, c.entry-5.ensures.stamp)))
