use Rattle.std.proofs.Common.{refl}
use Rattle.std.proofs.lemmas.List.FromFn.{length-map-range_with_len}
use Rattle.registration_protocol.specs.Node.{initial_node}
use Rattle.registration_protocol.specs.Setting.{setting}
use Rattle.dn_machine.proofs.Opened.{opened-from, opened-nodes-fit}
use Rattle.dn_machine.proofs.starting.content_with_banks.Goals as goal

pub own_events-own-requires-clause-most : goal.own_events-own-requires-clause-most
own_events-own-requires-clause-most c =
    rw (c.as_slice.ensures.value, c.requires.nodes, length-map-range_with_len (initial_node (setting c.args.context.now)) 0 (setting c.args.context.now).shape.cores) c.requires.most

pub own_events-own-requires-clause-fits : goal.own_events-own-requires-clause-fits
own_events-own-requires-clause-fits c = λ core n here.
    opened-nodes-fit (setting c.args.context.now) c.requires.context c.requires.program c.requires.checked core n (rw (c.as_slice.ensures.value, c.requires.nodes) at here)

pub returns-clause-state : goal.returns-clause-state
returns-clause-state c =
    opened-from (setting c.args.context.now) _ _ _ _ _ _ _ _ refl refl (rw c.program.ensures at c.phases_of.ensures.is) c.requires.nodes c.requires.banks c.new-keeper.ensures c.new.ensures.mails c.in_ok-numbers.ensures
