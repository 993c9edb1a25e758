use Rattle.host_workers.proofs.Appended.{calls-follow, cores-follow, notes-follow}
use Rattle.host_workers.proofs.laws.passes_follow_one_another.Goals as goal

pub returns-clause-calls : goal.returns-clause-calls
returns-clause-calls c = calls-follow

pub returns-clause-cores : goal.returns-clause-cores
returns-clause-cores c = cores-follow

pub returns-clause-notes : goal.returns-clause-notes
returns-clause-notes c = notes-follow
