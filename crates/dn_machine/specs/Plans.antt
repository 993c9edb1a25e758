-- What holds of every plan of a phase: its sets of words are canonical.
use Rattle.std.specs.Prelude.{List}
use Rattle.std.specs.List.{All}
use Rattle.region_table.specs.declared.plan.PhasePlan.{PhasePlan}
use Rattle.region_table.specs.Words.{IsCanonical}

-- each set of words of the plan is canonical: the only list of intervals of its form with its words
pub record IsInOneForm (plan : PhasePlan) : Type 0 where
  pub written : IsCanonical plan.written
  pub guarded : All IsCanonical plan.guarded

-- the same for each of these plans
abbrev pub AreInOneForm : List PhasePlan → Type 0
AreInOneForm plans = All IsInOneForm plans
