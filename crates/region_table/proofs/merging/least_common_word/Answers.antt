use Rattle.std.proofs.Common.{arith}
use Rattle.region_table.proofs.CommonLemmas.{passed-left, passed-right, least_at}
use Rattle.region_table.proofs.MergeLemmas.{next-some}
use Rattle.region_table.proofs.merging.least_common_word.Goals as goal

pub loop-i-preserved-then-a-i : goal.loop-i-preserved-then-a-i
loop-i-preserved-then-a-i c = λ w both.
    passed-left c.args.a.now c.args.b.now c.loop-i.i c.loop-i.j (record { lo = 0; hi = 0 }) c.requires.right c.loop-i-test.true c.if-j-b.true c.if-a-i.true w (c.loop-i.invariant w both)

pub loop-i-preserved : goal.loop-i-preserved
loop-i-preserved c = λ w both.
    passed-right c.args.a.now c.args.b.now c.loop-i.i c.loop-i.j (record { lo = 0; hi = 0 }) c.requires.left c.loop-i-test.true c.if-j-b.true c.if-b-j.true w (c.loop-i.invariant w both)

pub returns-then-a-i-2-clause-some : goal.returns-then-a-i-2-clause-some
returns-then-a-i-2-clause-some c =
    least_at c.args.a.now c.args.b.now c.loop-i.i c.loop-i.j (record { lo = 0; hi = 0 }) _ c.requires.left c.requires.right c.loop-i-test.true c.if-j-b.true c.loop-i.invariant
    (omega arith) (omega arith) (omega arith) (next-some c.args.b.now c.loop-i.j (record { lo = 0; hi = 0 }) c.requires.right c.if-j-b.true) (λ v l m. omega arith)

pub returns-else-a-i-2-clause-some : goal.returns-else-a-i-2-clause-some
returns-else-a-i-2-clause-some c =
    least_at c.args.a.now c.args.b.now c.loop-i.i c.loop-i.j (record { lo = 0; hi = 0 }) _ c.requires.left c.requires.right c.loop-i-test.true c.if-j-b.true c.loop-i.invariant
    (omega arith) (next-some c.args.a.now c.loop-i.i (record { lo = 0; hi = 0 }) c.requires.left c.loop-i-test.true) (omega arith) (omega arith) (λ v l m. omega arith)
