use Rattle.std.proofs.Common.{ap, ◌∙◌, map}
use Rattle.std.proofs.lemmas.List.{map_push}
use Rattle.host_workers.proofs.roster.Parted.add.Goals as goal

pub returns-clause-nodes : goal.returns-clause-nodes
returns-clause-nodes c = c.in_ok-push.ensures.items

pub returns-clause-next : goal.returns-clause-next
returns-clause-next c = c.in_ok-push-2.ensures.items

pub returns-clause-ends : goal.returns-clause-ends
returns-clause-ends c = ap (map (λ e. e.items)) c.in_ok-push-3.ensures.items ∙ map_push (λ e. e.items) c.args.self.now.ends.items c.args.owned.ends

pub returns-clause-logs : goal.returns-clause-logs
returns-clause-logs c = ap (map (λ l. l.items)) c.in_ok-push-4.ensures.items ∙ map_push (λ l. l.items) c.args.self.now.logs.items c.args.owned.log
