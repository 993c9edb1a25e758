use Rattle.std.proofs.Common.{◌≡◌, [], ◌∷◌, length, sym, ap, ◌∙◌, subst, arith, length-append}
use Rattle.std.specs.List.{All}
use Rattle.std.proofs.lemmas.List.Elements.{All-cons}
use Rattle.turn_lock.specs.Passes.{Sharing}
use Rattle.bank_hall.specs.Rows.{AreNew}
use Rattle.bank_hall.proofs.StartLemmas.{opened_more, handed-new, length-handed}
use Rattle.bank_hall.proofs.row.Row.start.Goals as goal

pub loop-object-smaller : goal.loop-object-smaller
loop-object-smaller g c = omega (arith, ap length c.in-Some.ensures.items, length-append c.pop.new.self.items (c.in-Some.object ∷ []))

pub loop-object-preserved : goal.loop-object-preserved
loop-object-preserved g c =
    let had = c.loop-object.invariant in
    let inserted = c.in_ok-insert.ensures.items in
    let lengths : length c.in_ok-turn.fresh.items ≡ length c.loop-object.all.items = c.in_ok-turn.ensures.passes.1 ∙ sym had.count in record {
      opened = opened_more c.loop-object.objects.items c.pop.new.self.items c.args.objects.items c.in-Some.object c.loop-object.turns.items c.insert.new.self.items c.in_ok-turn.turn c.in-Some.ensures.items inserted c.in_ok-turn.ensures.opening had.opened;
      shared = subst (All (λ (t : Sharing g.row.O.Denot). t.passes ≡ c.args.passes)) (sym inserted) (All-cons (λ (t : Sharing g.row.O.Denot). t.passes ≡ c.args.passes) c.in_ok-turn.turn c.loop-object.turns.items c.in_ok-turn.ensures.passes.0 had.shared);
      count = ap length c.in_ok-hand_out.ensures ∙ length-handed c.loop-object.all.items c.in_ok-turn.fresh.items ∙ had.count;
      new = subst (λ ts. AreNew ts 0 c.hand_out.new.callers.items) (sym inserted) (subst (AreNew (c.in_ok-turn.turn ∷ c.loop-object.turns.items) 0) (sym c.in_ok-hand_out.ensures) (handed-new c.in_ok-turn.turn c.loop-object.turns.items 0 c.loop-object.all.items c.in_ok-turn.fresh.items lengths had.new c.in_ok-turn.ensures.fresh));
    }
