use Rattle.region_table.proofs.MergeLemmas.{next-some, next-rises, merges-left, merges-swap}
use Rattle.region_table.proofs.merging.merge.Goals as goal

pub join-requires-clause-some : goal.join-requires-clause-some
join-requires-clause-some c =
    let left = c.is_left_next.ensures.left c.if-is_left_next.true in
    next-some c.args.a.now c.loop-i.i (record { lo = 0; hi = 0 }) c.requires.left left.0

pub join-requires-clause-rising : goal.join-requires-clause-rising
join-requires-clause-rising c =
    let left = c.is_left_next.ensures.left c.if-is_left_next.true in
    next-rises c.loop-i.out.items c.args.a.now c.loop-i.i (record { lo = 0; hi = 0 }) c.loop-i.invariant.left left.0

pub loop-i-preserved-then-is_left_next : goal.loop-i-preserved-then-is_left_next
loop-i-preserved-then-is_left_next c =
    let left = c.is_left_next.ensures.left c.if-is_left_next.true in
    merges-left c.args.a.now c.args.b.now c.loop-i.i c.loop-i.j c.loop-i.out.items c.join.new.out.items (record { lo = 0; hi = 0 }) c.requires.left c.requires.right left.0 left.1
    c.loop-i.invariant c.in_ok-join.ensures.canonical c.in_ok-join.ensures.rising c.in_ok-join.ensures.words

pub join-requires-else-is_left_next-clause-some : goal.join-requires-else-is_left_next-clause-some
join-requires-else-is_left_next-clause-some c =
    let right = c.is_left_next.ensures.right c.if-is_left_next.false in
    next-some c.args.b.now c.loop-i.j (record { lo = 0; hi = 0 }) c.requires.right right.0

pub join-requires-else-is_left_next-clause-rising :
    goal.join-requires-else-is_left_next-clause-rising
join-requires-else-is_left_next-clause-rising c =
    let right = c.is_left_next.ensures.right c.if-is_left_next.false in
    next-rises c.loop-i.out.items c.args.b.now c.loop-i.j (record { lo = 0; hi = 0 }) c.loop-i.invariant.right right.0

pub loop-i-preserved : goal.loop-i-preserved
loop-i-preserved c =
    let right = c.is_left_next.ensures.right c.if-is_left_next.false in
    merges-swap c.args.b.now c.args.a.now _ _ _
    (merges-left c.args.b.now c.args.a.now c.loop-i.j c.loop-i.i c.loop-i.out.items c.join-else-is_left_next.new.out.items (record { lo = 0; hi = 0 }) c.requires.right c.requires.left right.0 right.1
    (merges-swap c.args.a.now c.args.b.now _ _ _ c.loop-i.invariant) c.in_ok-join-2.ensures.canonical c.in_ok-join-2.ensures.rising c.in_ok-join-2.ensures.words)
