use Rattle.std.proofs.Common.{sym, ◌∙◌}
use Rattle.std.proofs.lemmas.Map.Text.{btree_map_updates_str}
use Rattle.rv_assembler.specs.Lookup.{found_on}
use Rattle.rv_assembler.proofs.NameLemmas.{restored, absent}
use Rattle.rv_assembler.proofs.names.put_on.Goals as goal

pub returns-in_ok-insert : goal.returns-in_ok-insert
returns-in_ok-insert c = λ q.
    restored (found_on c.args.shelf.now) (found_on c.insert.new.self) (found_on c.insert-in-Some.new.self) c.args.name.now q c.args.meaning c.in-Some.first
    (sym c.in_ok-first.ensures.old ∙ c.in-Some.is)
    (btree_map_updates_str c.args.name.now c.args.shelf.now c.insert.new.self _ c.in_ok-first.ensures.updates q)
    (btree_map_updates_str c.args.name.now c.insert.new.self c.insert-in-Some.new.self _ c.in_ok-insert.ensures.updates q)

pub returns-in_default : goal.returns-in_default
returns-in_default c = λ q.
    btree_map_updates_str c.args.name.now c.args.shelf.now c.insert.new.self _ c.in_ok-first.ensures.updates q
    ∙ absent (found_on c.args.shelf.now) c.args.name.now q c.args.meaning (sym c.in_ok-first.ensures.old ∙ c.in_default.is)
