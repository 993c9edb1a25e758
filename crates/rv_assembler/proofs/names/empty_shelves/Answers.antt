use Rattle.std.proofs.Common.{[], sym, subst}
use Rattle.std.specs.List.{All}
use Rattle.std.specs.BTreeMap.{IsEmpty}
use Rattle.std.proofs.lemmas.List.Elements.{All-nil, All-cons, All-append}
use Rattle.rv_assembler.proofs.names.empty_shelves.Goals as goal

pub loop-shelf-preserved : goal.loop-shelf-preserved
loop-shelf-preserved c =
    subst (All IsEmpty) (sym c.in_ok-push.ensures.ok) (All-append IsEmpty _ _ c.loop-shelf.invariant (All-cons IsEmpty _ [] c.new.ensures.empty (All-nil IsEmpty)))
