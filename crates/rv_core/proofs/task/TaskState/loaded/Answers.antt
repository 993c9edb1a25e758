use Rattle.std.proofs.Common.{arith, sym}
use Rattle.rv_core.proofs.Needs.{load_retires, load_some, fuelled}
use Rattle.rv_core.specs.Kinds.{IsLoad}
use Rattle.rv_core.proofs.task.TaskState.loaded.Goals as goal

pub load_by-requires-clause-retired : goal.load_by-requires-clause-retired
load_by-requires-clause-retired c =
    let going = (fuelled _ _ c.args.fuel c.args.self.now IsLoad (λ x. x) c.requires.kind).0 in
    grind arith

pub load_by-requires-clause-aligned : goal.load_by-requires-clause-aligned
load_by-requires-clause-aligned c =
    (load_retires _ _ c.args.fuel c.args.self.now c.args.value c.in-Some.instr c.requires.kind (sym c.in-Some.ensures.value)).aligned

pub returns-in-Some-clause-retired : goal.returns-in-Some-clause-retired
returns-in-Some-clause-retired c =
    let once = (load_retires _ _ c.args.fuel c.args.self.now c.args.value c.in-Some.instr c.requires.kind (sym c.in-Some.ensures.value)).retires in
    cc

pub returns-in-Some-clause-within : goal.returns-in-Some-clause-within
returns-in-Some-clause-within c =
    let once = (load_retires _ _ c.args.fuel c.args.self.now c.args.value c.in-Some.instr c.requires.kind (sym c.in-Some.ensures.value)).retires in
    let going = (fuelled _ _ c.args.fuel c.args.self.now IsLoad (λ x. x) c.requires.kind).0 in
    grind arith

pub returns-in-Some-clause-locks : goal.returns-in-Some-clause-locks
returns-in-Some-clause-locks c =
    let kept = (load_retires _ _ c.args.fuel c.args.self.now c.args.value c.in-Some.instr c.requires.kind (sym c.in-Some.ensures.value)).held in
    cc

pub returns-in-None-clause-retired : goal.returns-in-None-clause-retired
returns-in-None-clause-retired c =
    absurd (load_some _ _ c.args.fuel c.args.self.now c.requires.kind (sym c.in-None.ensures.value))
