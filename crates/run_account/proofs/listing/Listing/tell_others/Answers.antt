use Rattle.std.proofs.Common.{◌<◌, length, ap, ◌∙◌, arith}
use Rattle.run_account.specs.Lists.{SharerLists}
use Rattle.run_account.proofs.Steps.{tallied, told-caches, told-ways}
use Rattle.run_account.proofs.listing.Listing.tell_others.Goals as goal

pub loop-other-preserved : goal.loop-other-preserved
loop-other-preserved c =
    let within : c.loop-other.other < length c.args.self.now.lists.caches = rw (← c.self.view_is) (omega (arith, c.loop-other-test.true, c.cores-other-end.ensures)) in
    record {
      tallies =
          tallied c.args.access.now c.args.self.now.lists.caches c.loop-other.self.lists.caches c.loop-other.self.tallies c.tell.new.self.tallies _ c.loop-other.other within
          c.loop-other.invariant.caches c.tell.ensures.tallies c.loop-other.invariant.tallies;
      caches =
          ap (λ (L : SharerLists). L.caches) c.tell.ensures.lists
          ∙ told-caches c.args.access.now c.loop-other.self.lists c.args.self.now.lists.caches c.loop-other.other within c.loop-other.invariant.caches;
      ways = ap (λ (L : SharerLists). L.ways) c.tell.ensures.lists ∙ told-ways c.args.access.now c.loop-other.self.lists c.loop-other.other ∙ c.loop-other.invariant.ways;
    }
