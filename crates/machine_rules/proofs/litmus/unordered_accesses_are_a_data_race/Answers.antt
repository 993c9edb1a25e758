use Rattle.machine_rules.proofs.Refused.{unordered-race, grant-race, start-race}
use Rattle.machine_rules.proofs.litmus.unordered_accesses_are_a_data_race.Goals as goal

pub returns-clause-unordered_stores : goal.returns-clause-unordered_stores
returns-clause-unordered_stores c = unordered-race

pub returns-clause-grant_without_release : goal.returns-clause-grant_without_release
returns-clause-grant_without_release c = grant-race

pub returns-clause-early_start : goal.returns-clause-early_start
returns-clause-early_start c = start-race
