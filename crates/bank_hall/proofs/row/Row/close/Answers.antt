use Rattle.std.proofs.Common.{◌≡◌, [], ◌∷◌, ◌++◌, length, map, Some, sym, ap, ◌∙◌, subst, arith, length-append}
use Rattle.std.specs.List.{All}
use Rattle.std.proofs.lemmas.Bool.{false≢true}
use Rattle.std.proofs.lemmas.List.Elements.{All-pop}
use Rattle.turn_lock.specs.Passes.{Sharing}
use Rattle.bank_hall.specs.Rows.{Tokens, HasPassesOf, AreTold, AreClosed}
use Rattle.bank_hall.proofs.RowLemmas.{nil_right}
use Rattle.bank_hall.proofs.StartLemmas.{snoc-append, none_left}
use Rattle.bank_hall.proofs.CloseLemmas.{length-joined, column_fits, column_told, told_none, some_pass}
use Rattle.bank_hall.proofs.row.Row.close.Goals as goal

pub loop-turn-init : goal.loop-turn-init
loop-turn-init g c =
    let objects = c.new-objects.ensures.items in
    let histories = c.new-histories.ensures.items in record {
      fit = subst (λ ts. All (HasPassesOf {O = g.row.O.Denot} ts) c.args.callers.items) (sym c.self.view_is) c.requires.fit;
      shared = subst (All (λ (t : Sharing g.row.O.Denot). t.passes ≡ length c.args.callers.items)) (sym c.self.view_is) c.requires.shared;
      closed = (
        [],
        nil_right c.self.inside.turns.items ∙ c.self.view_is,
        subst (λ os. AreClosed g.O.Object.content g.O.Object.answer g.O.Object.next [] os (map (λ h. h.items) c.new-histories.result.items)) (sym objects) (subst (λ hs. AreClosed g.O.Object.content g.O.Object.answer g.O.Object.next [] [] (map (λ h. h.items) hs)) (sym histories) tt),
      );
      told = λ hs all. subst (λ rest. All (λ (k : Tokens g.row.O.Denot g.row.O-In.Denot g.row.O-Out.Denot). AreTold (hs ++ map (λ h. h.items) rest) k.passes) c.args.callers.items) (sym histories) (subst (λ l. All (λ (k : Tokens g.row.O.Denot g.row.O-In.Denot g.row.O-Out.Denot). AreTold l k.passes) c.args.callers.items) (sym (nil_right hs)) all);
    }

pub loop-turn-smaller : goal.loop-turn-smaller
loop-turn-smaller g c = omega (arith, ap length c.in-Some.ensures.items, length-append c.pop.new.self.items (c.in-Some.turn ∷ []))

pub take_column-requires : goal.take_column-requires
take_column-requires g c = some_pass c.pop.new.self.items c.in-Some.turn c.loop-turn.callers.items (subst (λ ts. All (HasPassesOf {O = g.row.O.Denot} ts) c.loop-turn.callers.items) c.in-Some.ensures.items c.loop-turn.invariant.fit)

pub end-requires : goal.end-requires
end-requires g c =
    let had = c.loop-turn.invariant in
    let split = c.in-Some.ensures.items in
    let told = c.in_ok-column.ensures in
    let fit = subst (All (HasPassesOf (c.pop.new.self.items ++ c.in-Some.turn ∷ []))) told.joined (subst (λ ts. All (HasPassesOf {O = g.row.O.Denot} ts) c.loop-turn.callers.items) split had.fit) in
    let lengths = ap length told.joined ∙ length-joined c.take_column.new.callers.items c.in_ok-column.column.items in
    let shared = All-pop (λ (t : Sharing g.row.O.Denot). t.passes ≡ length c.loop-turn.callers.items) _ _ (Some c.in-Some.turn) split had.shared in (
      told.count ∙ sym lengths ∙ sym shared.1,
      (column_fits c.pop.new.self.items c.in-Some.turn c.take_column.new.callers.items c.in_ok-column.column.items told.count fit).1,
    )

pub loop-turn-preserved : goal.loop-turn-preserved
loop-turn-preserved g c =
    let had = c.loop-turn.invariant in
    let split = c.in-Some.ensures.items in
    let told = c.in_ok-column.ensures in
    let fit = subst (All (HasPassesOf (c.pop.new.self.items ++ c.in-Some.turn ∷ []))) told.joined (subst (λ ts. All (HasPassesOf {O = g.row.O.Denot} ts) c.loop-turn.callers.items) split had.fit) in
    let lengths = ap length told.joined ∙ length-joined c.take_column.new.callers.items c.in_ok-column.column.items in
    let shared = All-pop (λ (t : Sharing g.row.O.Denot). t.passes ≡ length c.loop-turn.callers.items) _ _ (Some c.in-Some.turn) split had.shared in
    let objects = c.in_ok-insert.ensures.items in
    let histories = c.in_ok-insert-2.ensures.items in
    let h = c.in_ok-object.history.items in
    let done = had.closed.0 in record {
      fit = (column_fits c.pop.new.self.items c.in-Some.turn c.take_column.new.callers.items c.in_ok-column.column.items told.count fit).0;
      shared = subst (λ n. All (λ (t : Sharing g.row.O.Denot). t.passes ≡ n) c.pop.new.self.items) lengths shared.0;
      closed = (
        c.in-Some.turn ∷ done,
        sym (snoc-append c.pop.new.self.items done c.in-Some.turn) ∙ ap (λ l. l ++ done) (sym split) ∙ had.closed.1,
        subst (λ os. AreClosed g.O.Object.content g.O.Object.answer g.O.Object.next (c.in-Some.turn ∷ done) os (map (λ k. k.items) c.insert-in-Some.new.self.items)) (sym objects) (subst (λ hs. AreClosed g.O.Object.content g.O.Object.answer g.O.Object.next (c.in-Some.turn ∷ done) (c.in_ok-object.object ∷ c.loop-turn.objects.items) (map (λ k. k.items) hs)) (sym histories) ((c.in_ok-object.ensures.legal, c.in_ok-object.ensures.named), had.closed.2)),
      );
      told = λ hs all.
          let more = column_told hs h c.take_column.new.callers.items c.in_ok-column.column.items told.count all c.in_ok-object.ensures.told in
          let back = subst (All (λ (k : Tokens g.row.O.Denot g.row.O-In.Denot g.row.O-Out.Denot). AreTold (hs ++ h ∷ []) k.passes)) (sym told.joined) more in
          subst (λ rest. All (λ (k : Tokens g.row.O.Denot g.row.O-In.Denot g.row.O-Out.Denot). AreTold (hs ++ map (λ j. j.items) rest) k.passes) c.args.callers.items) (sym histories) (subst (λ l. All (λ (k : Tokens g.row.O.Denot g.row.O-In.Denot g.row.O-Out.Denot). AreTold l k.passes) c.args.callers.items) (snoc-append hs (map (λ j. j.items) c.loop-turn.histories.items) h) (had.told (hs ++ h ∷ []) back));
    }

pub returns-clause-closed : goal.returns-clause-closed
returns-clause-closed g c =
    let had = c.loop-turn.invariant in
    let empty = none_left c.loop-turn.turns.items (λ more. absurd (false≢true (c.in_default.ensures.variant.1 (omega (arith, c.loop-turn.turns.ok.0, more))))) in
    subst (λ ts. AreClosed g.O.Object.content g.O.Object.answer g.O.Object.next ts c.loop-turn.objects.items (map (λ h. h.items) c.loop-turn.histories.items)) (ap (λ l. l ++ had.closed.0) (sym empty) ∙ had.closed.1) had.closed.2

pub returns-clause-told : goal.returns-clause-told
returns-clause-told g c =
    let had = c.loop-turn.invariant in
    let empty = none_left c.loop-turn.turns.items (λ more. absurd (false≢true (c.in_default.ensures.variant.1 (omega (arith, c.loop-turn.turns.ok.0, more))))) in
    had.told [] (told_none c.loop-turn.callers.items (subst (λ ts. All (HasPassesOf {O = g.row.O.Denot} ts) c.loop-turn.callers.items) empty had.fit))
