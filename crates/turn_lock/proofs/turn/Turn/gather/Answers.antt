use Rattle.std.proofs.Common.{Some, Option, sym, ap, ◌∙◌, arith}
use Rattle.std.proofs.lemmas.Bool.{false≢true}
use Rattle.std.proofs.lemmas.List.Elements.{All-pop}
use Rattle.atomic_table.specs.Table.{Me}
use Rattle.turn_lock.specs.declared.desk.Desk.{Desk}
use Rattle.turn_lock.specs.declared.entry.Entry.{Entry}
use Rattle.turn_lock.specs.declared.view.View.{View}
use Rattle.turn_lock.specs.Passes.{Sharing, IsPassOf}
use Rattle.turn_lock.proofs.Ends.{gathers_first, gathers_more}
use Rattle.turn_lock.proofs.Moves.{join}
use Rattle.turn_lock.proofs.turn.Turn.gather.Goals as goal

pub unreachable-requires : goal.unreachable-requires
unreachable-requires g c =
    let passes = ap (λ (t : Sharing g.row.O.Denot). t.passes) c.self.view_is in
    let some_pass = c.self.invariant.2 in
    let counted = c.args.passes.ok.0 in
    absurd (false≢true (c.in_default.ensures.variant.1 (omega (arith, c.requires.0))))

pub loop-pass-init : goal.loop-pass-init
loop-pass-init g c =
    let split = c.in-Some.ensures.items in
    let all = All-pop (IsPassOf c.args.self.now) _ _ (Some c.in-Some.last) split c.requires.1 in record {
      table = c.into_seat-seat.ensures.0 ∙ all.1.0;
      gathers = gathers_first _ _ c.in-Some.last _ _ _ split c.into_seat-seat.ensures.1;
      theirs = all.0;
    }

pub join_seat-requires : goal.join_seat-requires
join_seat-requires g c =
    let split = c.in-Some-pop.ensures.items in
    let all = All-pop (IsPassOf c.args.self.now) _ _ (Some c.in-Some-pop.pass) split c.loop-pass.invariant.theirs in
    let table = ap (λ (t : Sharing g.row.O.Denot). t.table) c.self.view_is in
    let stage = ap (λ (m : Me (Option (Desk g.row.O.Denot g.row.O-In.Denot g.row.O-Out.Denot)) (View g.row.O.Denot (Entry g.row.O.Denot g.row.O-In.Denot g.row.O-Out.Denot))). m.0.stage) c.into_seat.ensures.1 in
    let spare = ap (λ (m : Me (Option (Desk g.row.O.Denot g.row.O-In.Denot g.row.O-Out.Denot)) (View g.row.O.Denot (Entry g.row.O.Denot g.row.O-In.Denot g.row.O-Out.Denot))). m.0.spare) c.into_seat.ensures.1 in (
      c.loop-pass.invariant.table ∙ sym table,
      c.into_seat.ensures.0 ∙ (all.1.0 ∙ sym table),
      ap (λ (m : Me (Option (Desk g.row.O.Denot g.row.O-In.Denot g.row.O-Out.Denot)) (View g.row.O.Denot (Entry g.row.O.Denot g.row.O-In.Denot g.row.O-Out.Denot))). m.1) c.into_seat.ensures.1,
      omega (arith, c.self.invariant.0),
      join _ _ _ _ 1 _ _ _ _ c.loop-pass.invariant.gathers.stage stage c.loop-pass.invariant.gathers.spare spare,
    )

pub loop-pass-preserved : goal.loop-pass-preserved
loop-pass-preserved g c =
    let split = c.in-Some-pop.ensures.items in
    let all = All-pop (IsPassOf c.args.self.now) _ _ (Some c.in-Some-pop.pass) split c.loop-pass.invariant.theirs in record {
      table = c.join_seat.ensures.0 ∙ c.loop-pass.invariant.table;
      gathers = gathers_more _ _ _ c.in-Some-pop.pass _ _ _ _ _ c.loop-pass.invariant.gathers split (ap (λ (m : Me (Option (Desk g.row.O.Denot g.row.O-In.Denot g.row.O-Out.Denot)) (View g.row.O.Denot (Entry g.row.O.Denot g.row.O-In.Denot g.row.O-Out.Denot))). m.0) c.into_seat.ensures.1) c.join_seat.ensures.2;
      theirs = all.0;
    }
