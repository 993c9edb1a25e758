use Rattle.std.proofs.Common.{◌≡◌, ℕ, Bool, false, List, length, replicate, Some, None, refl, sym, ap, ◌∙◌, subst, arith}
use Rattle.std.proofs.lemmas.List.{length-replicate}
use Rattle.effect_prover.specs.declared.row.Row.{Row}
use Rattle.effect_prover.specs.Row.{start_row, IsRow}
use Rattle.effect_prover.specs.Table.{Table, Covers}
use Rattle.effect_prover.specs.Sweep.{IsRowGiven, table_room}
use Rattle.effect_prover.proofs.RowLemmas.{start-row}
use Rattle.effect_prover.proofs.TableLemmas.{covers-grows, swept-first, swept-least, sweep-falls}
use Rattle.effect_prover.proofs.sweep.sweep.Goals as goal

pub give-at-requires-clause-given : goal.give-at-requires-clause-given
give-at-requires-clause-given c = subst IsRow (sym c.start.ensures) (start-row c.args.task.now c.requires.argument)

counted : (rows : Table) (n : ℕ) → rows ≡ replicate n None → length rows ≡ n
counted rows n e = ap (λ (t : Table). length t) e ∙ length-replicate n None

pub loop-at-init : goal.loop-at-init
loop-at-init c =
    let P = c.args.program.now in
    let d = c.args.task.now in
    let n = length P.code in
    let start : Row = c.start.result in
    let words : length c.args.rows.now ≡ n = counted c.args.rows.now n c.requires.rows in
    let given : IsRowGiven P d (replicate n None) (replicate n false) (Some d.entry) (Some start) n c.give-at.new.rows c.give-at.new.pending c.give-at.result =
    subst (λ (k : ℕ). IsRowGiven P d (replicate n None) (replicate n false) (Some d.entry) (Some start) k c.give-at.new.rows c.give-at.new.pending c.give-at.result) words
    (subst (λ (p : List Bool). IsRowGiven P d (replicate n None) p (Some d.entry) (Some start) (length c.args.rows.now) c.give-at.new.rows c.give-at.new.pending c.give-at.result) c.requires.pending
    (subst (λ (t : Table). IsRowGiven P d t c.args.pending.now (Some d.entry) (Some start) (length c.args.rows.now) c.give-at.new.rows c.give-at.new.pending c.give-at.result) c.requires.rows c.give-at.ensures)) in
    record {
      swept = swept-first P d c.args.leaders.now n c.give-at.new.rows c.give-at.new.pending c.give-at.result start refl c.start.ensures given;
      entry = subst (λ (x : Row). Covers c.give-at.new.rows d.entry (Some x)) c.start.ensures (given.covers d.entry refl);
      within = c.give-at.ensures.within;
      words = words;
    }

pub loop-at-smaller : goal.loop-at-smaller
loop-at-smaller c =
    sweep-falls (length c.args.rows.now) (table_room c.loop-at.rows) (table_room c.pass-at.new.rows) c.loop-at.at c.pass-at.result
    (let w = c.loop-at-test.true in let same = c.loop-at.invariant.words in let rows = c.loop-at.invariant.swept.shape.words in omega arith)
    c.pass-at.ensures.next c.pass-at.ensures.room_falls c.pass-at.ensures.room_less

pub loop-at-preserved : goal.loop-at-preserved
loop-at-preserved c =
    let d = c.args.task.now in
    let before = c.loop-at.invariant.swept.shape.words in
    let after = c.pass-at.ensures.swept.shape.words in
    let words = c.loop-at.invariant.words in
    let step = c.pass-at.ensures.next in
    let test = c.loop-at-test.true in
    record {
      swept = c.pass-at.ensures.swept;
      entry = covers-grows c.loop-at.rows c.pass-at.new.rows d.entry (Some (start_row d)) (omega arith) c.pass-at.ensures.grows c.loop-at.invariant.entry;
      within = omega arith;
      words = words;
    }

pub returns : goal.returns
returns c =
    let rows = c.loop-at.invariant.swept.shape.words in
    let words = c.loop-at.invariant.words in
    let past = c.loop-at-test.false in
    swept-least c.args.program.now c.args.task.now c.args.leaders.now c.loop-at.rows c.loop-at.pending c.loop-at.at c.requires.program c.requires.leaders c.loop-at.invariant.swept (omega arith) c.loop-at.invariant.entry
