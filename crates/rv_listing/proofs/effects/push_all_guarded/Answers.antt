use Rattle.std.proofs.Common.{[], arith}
use Rattle.std.proofs.lemmas.Grind.{common_steps}
use Rattle.std.proofs.lemmas.List.Elements.{All-more}
use Rattle.region_table.specs.Words.{IsCanonical}
use Rattle.rv_listing.proofs.TypeLemmas.{all-taken}
use Rattle.rv_listing.proofs.effects.push_all_guarded.Goals as goal

pub loop-number-preserved : goal.loop-number-preserved
loop-number-preserved c = record {
  lines = grind (arith, common_steps);
  reads = All-more IsCanonical c.args.effects.now.guarded_reads c.loop-number.number [] (omega (arith, c.loop-number-test.true, c.requires.reads)) c.loop-number.invariant.reads c.in_ok-push_guarded.ensures.reads;
  writes = All-more IsCanonical c.args.effects.now.guarded_writes c.loop-number.number [] (omega (arith, c.loop-number-test.true, c.requires.writes)) c.loop-number.invariant.writes c.in_ok-push_guarded.ensures.writes;
}

pub returns-clause-reads : goal.returns-clause-reads
returns-clause-reads c =
    all-taken IsCanonical c.loop-number.number c.args.effects.now.guarded_reads (omega (arith, c.loop-number-test.false, c.requires.reads)) c.loop-number.invariant.reads

pub returns-clause-writes : goal.returns-clause-writes
returns-clause-writes c =
    all-taken IsCanonical c.loop-number.number c.args.effects.now.guarded_writes (omega (arith, c.loop-number-test.false, c.requires.writes)) c.loop-number.invariant.writes
