use Rattle.std.proofs.Common.{ℕ, ◌<◌, ◌≤◌, Bool, true, false, List, slice_index_or, slice_set, Option, Some, sym, ◌∙◌, subst, arith}
use Rattle.std.specs.Option.{IfSome}
use Rattle.std.proofs.lemmas.Option.{same_Some}
use Rattle.effect_prover.specs.declared.row.Row.{Row}
use Rattle.effect_prover.specs.Row.{IsRow}
use Rattle.effect_prover.specs.Table.{Table}
use Rattle.effect_prover.specs.Sweep.{IsRowGiven, IsPut, CoversAt}
use Rattle.effect_prover.proofs.TableLemmas.{nothing-given, put-same, put-covers, put-given}
use Rattle.effect_prover.proofs.sweep.give.Goals as goal

pub returns-in_default-place_of : goal.returns-in_default-place_of
returns-in_default-place_of c =
    nothing-given c.args.program.now c.args.task.now c.args.rows.now c.args.pending.now c.args.address c.args.given.now c.args.cursor c.requires.shape
    (λ a e i within at'. absurd (c.in_default-place_of.ensures.none i within (same_Some c.in-Some-Some.address a (sym c.in-Some-Some.is-0 ∙ e) ∙ at')))

pub returns-then-not-put : goal.returns-then-not-put
returns-then-not-put c =
    let P = c.args.program.now in
    let d = c.args.task.now in
    let old : Table = c.args.rows.now in
    let was : List Bool = c.args.pending.now in
    let place = c.in-Some.place in
    let head : Bool = slice_index_or c.args.heads.now place false in
    let row : Row = c.in-Some-Some.row in
    let put : IsPut head d.arg old place row c.put.new.rows false = c.if-not-put.ensures in
    let covers : CoversAt old (Some c.in-Some-Some.address) (Some row) = put-covers head d.arg old place row c.put.new.rows c.in-Some-Some.address c.in-Some.ensures.some.1 put in
    subst (λ (t : Table). IsRowGiven P d old was c.args.address c.args.given.now c.args.cursor t was c.args.cursor) (sym (put-same head d.arg old place row c.put.new.rows put))
    (nothing-given P d old was c.args.address c.args.given.now c.args.cursor c.requires.shape
    (subst (λ (o : Option ℕ). CoversAt old o c.args.given.now) (sym c.in-Some-Some.is-0) (subst (CoversAt old (Some c.in-Some-Some.address)) (sym c.in-Some-Some.is-1) covers)))

pub returns-then-place-cursor : goal.returns-then-place-cursor
returns-then-place-cursor c =
    let P = c.args.program.now in
    let d = c.args.task.now in
    let old : Table = c.args.rows.now in
    let was : List Bool = c.args.pending.now in
    let place = c.in-Some.place in
    let row : Row = c.in-Some-Some.row in
    let known : IsRow row = subst (λ (o : Option Row). IfSome o IsRow) c.in-Some-Some.is-1 c.requires.given in
    let early : place < c.args.cursor = c.if-place-cursor.true in
    let pending : List Bool = slice_set was place true in
    subst (λ (o : Option ℕ). IsRowGiven P d old was o c.args.given.now c.args.cursor c.put.new.rows pending place) (sym c.in-Some-Some.is-0)
    (subst (λ (o : Option Row). IsRowGiven P d old was (Some c.in-Some-Some.address) o c.args.cursor c.put.new.rows pending place) (sym c.in-Some-Some.is-1)
    (put-given P d c.args.heads.now old c.put.new.rows was place c.in-Some-Some.address row c.args.cursor place c.requires.heads c.requires.shape c.requires.marks c.in-Some.ensures.some.0
    c.in-Some.ensures.some.1 known c.if-not-put.ensures (omega arith) (omega arith)))

pub returns-else-place-cursor : goal.returns-else-place-cursor
returns-else-place-cursor c =
    let P = c.args.program.now in
    let d = c.args.task.now in
    let old : Table = c.args.rows.now in
    let was : List Bool = c.args.pending.now in
    let place = c.in-Some.place in
    let row : Row = c.in-Some-Some.row in
    let known : IsRow row = subst (λ (o : Option Row). IfSome o IsRow) c.in-Some-Some.is-1 c.requires.given in
    let late : c.args.cursor ≤ place = c.if-place-cursor.false in
    let pending : List Bool = slice_set was place true in
    subst (λ (o : Option ℕ). IsRowGiven P d old was o c.args.given.now c.args.cursor c.put.new.rows pending c.args.cursor) (sym c.in-Some-Some.is-0)
    (subst (λ (o : Option Row). IsRowGiven P d old was (Some c.in-Some-Some.address) o c.args.cursor c.put.new.rows pending c.args.cursor) (sym c.in-Some-Some.is-1)
    (put-given P d c.args.heads.now old c.put.new.rows was place c.in-Some-Some.address row c.args.cursor c.args.cursor c.requires.heads c.requires.shape c.requires.marks c.in-Some.ensures.some.0
    c.in-Some.ensures.some.1 known c.if-not-put.ensures (omega arith) (omega arith)))

pub put-requires-clause-rows : goal.put-requires-clause-rows
put-requires-clause-rows c = λ row e. c.requires.shape.rows c.in-Some.place row e
