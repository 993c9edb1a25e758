use Rattle.std.proofs.Common.{◌≡◌, ◌<◌, false, get_or, sym, ap, ◌∙◌, subst, arith}
use Rattle.std.specs.Slots.{slots_len}
use Rattle.turn_lock.specs.Passes.{Sharing}
use Rattle.turn_lock.proofs.Ends.{ends, never_empty, hands_over}
use Rattle.turn_lock.proofs.Lists.{one_taken}
use Rattle.turn_lock.proofs.turn.Turn.end.Goals as goal

pub close_with-closed-requires : goal.close_with-closed-requires
close_with-closed-requires g c = c.requires.0 ∙ sym (ap (λ (t : Sharing g.row.O.Denot). t.table) c.self.view_is)

pub take-slot-requires : goal.take-slot-requires
take-slot-requires g c =
    let one : 0 < slots_len c.close_with-closed.result.slots = omega (arith, c.close_with-closed.ensures.counts.1, c.self.invariant.1) in
    (one, c.close_with-closed.ensures.values.1 0 (omega arith) one)

pub free-requires : goal.free-requires
free-requires g c = λ k few.
    subst (λ l. get_or l k false ≡ false) (sym c.take-slot.ensures.others.1)
    (one_taken _ k _ (c.take-slot.ensures.others.2 ∙ (c.close_with-closed.ensures.counts.1 ∙ c.self.invariant.1)) few)

pub unreachable-requires : goal.unreachable-requires
unreachable-requires g c =
    let passes = ap (λ (t : Sharing g.row.O.Denot). t.passes) c.self.view_is in
    let ended = ends g.O.Object.content g.O.Object.answer g.O.Object.next _ _ _ _ _ _ c.take-slot.result c.close_with-closed.ensures.values.2 c.requires.1 (c.requires.2 ∙ sym passes) c.take-slot.ensures.value in
    never_empty _ _ _ _ _ _ _ ended c.in-None.is

pub returns : goal.returns
returns g c =
    let passes = ap (λ (t : Sharing g.row.O.Denot). t.passes) c.self.view_is in
    let key = ap (λ (t : Sharing g.row.O.Denot). t.opening) c.self.view_is in
    let ended = ends g.O.Object.content g.O.Object.answer g.O.Object.next _ _ _ _ _ _ c.take-slot.result c.close_with-closed.ensures.values.2 c.requires.1 (c.requires.2 ∙ sym passes) c.take-slot.ensures.value in
    let handed = hands_over _ _ _ _ c.args.self.opening _ c.args.self.passes _ _ c.in-Some.desk key passes ended c.in-Some.is in record {
      legal = handed.legal;
      told = (handed.own, handed.joined);
      longest = handed.longest;
      named = handed.named;
    }
