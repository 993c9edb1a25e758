use Rattle.std.proofs.Common.{◌≡◌, map, sym, arith}
use Rattle.std.proofs.lemmas.Bool.Decides.{nat_tests}
use Rattle.std.proofs.lemmas.Option.{none-some}
use Rattle.host_workers.proofs.EndsLeft.{goes-on}
use Rattle.host_workers.proofs.ends.take_end.Goals as goal

pub returns-then-seen-stamp-clause-left : goal.returns-then-seen-stamp-clause-left
returns-then-seen-stamp-clause-left c =
    let same : c.in-Some.seen.stamp ≡ c.args.stamp = grind (arith, nat_tests, c.if-seen-stamp.true) in
    rw (c.in-Core.is) (goes-on
    (map (λ e. e.items) c.args.ends.now)
    c.args.done.now
    c.in-Core.core
    c.args.stamp
    c.in-Some.seen
    same
    (c.in-Some.ensures.place (λ is. none-some c.in-Some.seen (sym is)))
    (sym c.in-Some.ensures.next))
