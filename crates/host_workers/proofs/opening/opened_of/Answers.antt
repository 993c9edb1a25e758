use Rattle.std.proofs.Common.{sym, subst}
use Rattle.bank_hall.specs.Halls.{AreNewPasses}
use Rattle.bank_hall.specs.Closing.{AreAllHallPasses}
use Rattle.host_workers.proofs.opening.opened_of.Goals as goal

pub returns : goal.returns
returns c = record {
  opened = c.in_ok-hall.ensures.opened;
  crews_are = c.in_ok-jobs.ensures.crews;
  passes = subst (AreNewPasses c.in_ok-hall.hall 0) (sym c.in_ok-jobs.ensures.passes) c.in_ok-hall.ensures.new;
  all = subst (AreAllHallPasses c.in_ok-hall.hall) (sym c.in_ok-jobs.ensures.passes) c.in_ok-hall.ensures.all;
}
