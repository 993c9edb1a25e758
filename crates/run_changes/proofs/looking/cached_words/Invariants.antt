use Rattle.std.proofs.Common.{◌≡◌, ◌++◌, ◌≤◌, ◌-◌}
use Rattle.run_changes.specs.Looks.{cached_from, cached}
use Rattle.run_changes.proofs.looking.cached_words.Given as goal

abbrev pub invariant-loop-set : goal.invariant-loop-set
invariant-loop-set l = record {
  within : l.set ≤ l.cache.sets;
  so_far : l.entries ++ cached_from l.cache l.set (l.cache.sets - l.set) ≡ cached l.cache;
}
