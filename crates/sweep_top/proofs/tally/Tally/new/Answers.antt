use Rattle.std.proofs.Common.{refl}
use Rattle.sweep_top.proofs.Tallies.{answers-none, kinds-none}
use Rattle.sweep_top.proofs.tally.Tally.new.Goals as goal

pub returns-clause-tally : goal.returns-clause-tally
returns-clause-tally c = λ retired first. record {
  runs = refl;
  outcomes = c.none.ensures;
  sum = c.none-2.ensures;
  events = c.none-3.ensures;
  kinds = kinds-none c.none-4.result c.none-4.ensures;
  answers = answers-none retired first c.new.result.entries c.new.ensures.empty;
  grants = c.new-2.ensures.items;
}
