use Rattle.std.proofs.Common.{◌≡◌, ◌<◌, ◌+◌, [], ◌∷◌, ◌++◌, length, Some, slice_get, set, sym, refl, ap, ◌∙◌, subst, arith}
use Rattle.std.proofs.lemmas.List.{length-set}
use Rattle.bank_hall.specs.Rows.{Tokens, with_passes}
use Rattle.bank_hall.proofs.RowLemmas.{stands, at_other}
use Rattle.bank_hall.proofs.StartLemmas.{length-pushed}
use Rattle.bank_hall.proofs.CloseLemmas.{joined-none, joined-more, stands_in}
use Rattle.bank_hall.proofs.row.take_column.Goals as goal

pub loop-place-init : goal.loop-place-init
loop-place-init g c = record {
  joined = ap (λ l. with_passes c.args.callers.now.items l) c.new-column.ensures.items ∙ joined-none c.args.callers.now.items;
  count = ap length c.new-column.ensures.items;
  callers = refl;
  some = λ i k from at. stands_in (λ (t : Tokens g.row.O.Denot g.row.O-In.Denot g.row.O-Out.Denot). 0 < length t.passes) c.args.callers.now.items i k c.requires at;
}

pub loop-place-preserved : goal.loop-place-preserved
loop-place-preserved g c =
    let had = c.loop-place.invariant in
    let within : c.loop-place.place < length c.loop-place.callers.items = omega arith in
    let here = stands c.loop-place.callers.items c.loop-place.place c.index_mut.result.now within c.index_mut.ensures.value in
    let there = subst (λ n. slice_get c.loop-place.callers.items n ≡ Some c.index_mut.result.now) (sym had.count) here in record {
      joined = ap (λ l. with_passes (set c.loop-place.callers.items c.loop-place.place c.give_up.new.self) l) c.in_ok-push.ensures.items ∙ ap (λ n. with_passes (set c.loop-place.callers.items n c.give_up.new.self) (c.loop-place.column.items ++ c.give_up.result ∷ [])) (sym had.count) ∙ joined-more c.loop-place.callers.items c.loop-place.column.items c.index_mut.result.now c.give_up.new.self c.give_up.result there c.give_up.ensures ∙ had.joined;
      count = length-pushed _ _ _ c.in_ok-push.ensures.items ∙ ap (λ n. n + 1) had.count;
      callers = length-set c.loop-place.callers.items c.loop-place.place c.give_up.new.self ∙ had.callers;
      some = λ i k from at. had.some i k (omega (arith, from)) (sym (at_other c.loop-place.callers.items c.loop-place.place i c.give_up.new.self (λ e. absurd (omega (arith, from, e)))) ∙ at);
    }

pub give_up-requires : goal.give_up-requires
give_up-requires g c =
    let within : c.loop-place.place < length c.loop-place.callers.items = omega arith in
    c.loop-place.invariant.some c.loop-place.place c.index_mut.result.now (omega arith) (stands c.loop-place.callers.items c.loop-place.place c.index_mut.result.now within c.index_mut.ensures.value)
