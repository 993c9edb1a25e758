use Rattle.std.proofs.Common.{◌++◌, ◌∷◌, [], map, ap, ◌∙◌}
use Rattle.std.proofs.lemmas.List.{append_assoc, map_push}
use Rattle.host_workers.specs.Rosters.{core_log, bank_log}
use Rattle.host_workers.proofs.roster.Roster.part.Goals as goal

pub returns : goal.returns
returns c = record {
  nodes = c.in_ok-parted.ensures.nodes;
  next = c.in_ok-parted.ensures.next;
  ends = c.in_ok-parted.ensures.ends;
  logs =
      ap (map (λ l. l.items)) c.in_ok-push.ensures.items
      ∙ (map_push (λ l. l.items) c.push_logs.new.logs.items c.args.self.keeper
      ∙ (ap (λ ls. ls ++ c.args.self.keeper.items ∷ []) (c.in_ok-push_logs.ensures ∙ ap (λ ls. ls ++ map bank_log c.args.self.banks.items) c.in_ok-parted.ensures.logs)
      ∙ append_assoc (map core_log c.args.self.cores.items) (map bank_log c.args.self.banks.items) (c.args.self.keeper.items ∷ [])));
}
