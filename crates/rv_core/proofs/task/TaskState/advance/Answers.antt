use Rattle.std.proofs.Common.{arith, sym}
use Rattle.rv_core.proofs.Needs.{advance_lock, advance_retires, advance_some, fuelled}
use Rattle.rv_core.specs.Kinds.{IsAdvance}
use Rattle.rv_core.proofs.task.TaskState.advance.Goals as goal

pub advance_by-requires-clause-retired : goal.advance_by-requires-clause-retired
advance_by-requires-clause-retired c =
    let going = (fuelled _ _ c.args.fuel c.args.self.now IsAdvance (λ x. x) c.requires.kind).0 in
    grind arith

pub advance_by-requires-clause-lock : goal.advance_by-requires-clause-lock
advance_by-requires-clause-lock c =
    λ e. let lock = advance_lock _ _ c.args.fuel c.args.self.now c.in-Some.instr c.requires.kind (sym c.in-Some.ensures.value) e in
    omega (arith, c.in-Some.ensures.locks)

pub returns-in-Some-clause-retired : goal.returns-in-Some-clause-retired
returns-in-Some-clause-retired c =
    let once = advance_retires _ _ c.args.fuel c.args.self.now c.in-Some.instr c.requires.kind (sym c.in-Some.ensures.value) in
    cc

pub returns-in-Some-clause-within : goal.returns-in-Some-clause-within
returns-in-Some-clause-within c =
    let once = advance_retires _ _ c.args.fuel c.args.self.now c.in-Some.instr c.requires.kind (sym c.in-Some.ensures.value) in
    let going = (fuelled _ _ c.args.fuel c.args.self.now IsAdvance (λ x. x) c.requires.kind).0 in
    grind arith

pub returns-in-None-clause-retired : goal.returns-in-None-clause-retired
returns-in-None-clause-retired c =
    absurd (advance_some _ _ c.args.fuel c.args.self.now c.requires.kind (sym c.in-None.ensures.value))
