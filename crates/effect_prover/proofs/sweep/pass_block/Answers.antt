use Rattle.std.proofs.Common.{sym, ◌∙◌, arith}
use Rattle.effect_prover.proofs.BlockLemmas.{leader-leads, filled-leads}
use Rattle.effect_prover.proofs.TableLemmas.{table-trans, swept-none, swept-stop, two-passed}
use Rattle.effect_prover.proofs.sweep.pass_block.Goals as goal

pub returns-clause-swept : goal.returns-clause-swept
returns-clause-swept c =
    let P = c.args.program.now in
    let L = c.args.leaders.now in
    let t = c.args.rows.now in
    let lead = c.requires.leader in
    two-passed P c.args.task.now L t c.give-cursor.new.rows c.give.new.rows c.args.pending.now c.give-cursor.new.pending c.give.new.pending c.args.at
    c.last_of_block-last.result.place c.give-cursor.result c.give.result c.last_of_block-last.result.row c.in-Some-instr_at.instr c.address-pc.result c.target.result c.successors_at-next.result
    c.requires.program c.requires.swept
    (let marks = c.requires.swept.marks in let words = c.requires.swept.shape.words in let within = c.requires.within in omega arith)
    c.last_of_block-last.ensures.last (c.last_of_block-last.ensures.block ∙ leader-leads L c.args.at lead)
    (c.last_of_block-last.ensures.reached t (filled-leads P L t c.args.at lead ∙ c.in-Some.is))
    (sym c.instr_at.ensures.value ∙ c.in-Some-instr_at.is) c.address-pc.ensures c.target.ensures c.successors_at-next.ensures.value c.give-cursor.ensures c.give.ensures

pub returns-clause-grows : goal.returns-clause-grows
returns-clause-grows c = table-trans c.args.rows.now c.give-cursor.new.rows c.give.new.rows c.give-cursor.ensures.grows c.give.ensures.grows

pub address-pc-requires : goal.address-pc-requires
address-pc-requires c = let w = c.last_of_block-last.ensures.last.within in let b = c.requires.program.code in omega arith

pub overflow_add-pc : goal.overflow_add-pc
overflow_add-pc c = let w = c.last_of_block-last.ensures.last.within in let b = c.requires.program.code in let e = c.address-pc.ensures in omega arith

pub returns-in_default-clause-swept : goal.returns-in_default-clause-swept
returns-in_default-clause-swept c =
    swept-none c.args.program.now c.args.task.now c.args.leaders.now c.args.rows.now c.args.pending.now c.args.at c.requires.swept
    (let marks = c.requires.swept.marks in let words = c.requires.swept.shape.words in let within = c.requires.within in omega arith) c.in_default.is

pub returns-in_default-instr_at-clause-swept : goal.returns-in_default-instr_at-clause-swept
returns-in_default-instr_at-clause-swept c =
    swept-stop c.args.program.now c.args.task.now c.args.leaders.now c.args.rows.now c.args.pending.now c.args.at c.last_of_block-last.result.place c.requires.swept
    (let marks = c.requires.swept.marks in let words = c.requires.swept.shape.words in let within = c.requires.within in omega arith)
    c.last_of_block-last.ensures.last (c.last_of_block-last.ensures.block ∙ leader-leads c.args.leaders.now c.args.at c.requires.leader)
    (sym c.instr_at.ensures.value ∙ c.in_default-instr_at.is)

pub last_of_block-last-requires-clause-row : goal.last_of_block-last-requires-clause-row
last_of_block-last-requires-clause-row c = c.requires.swept.shape.rows c.args.at c.in-Some.row c.in-Some.is
