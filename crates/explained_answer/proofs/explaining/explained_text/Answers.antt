use Rattle.std.proofs.Common.{rules, ◌≢◌, inl, inr}
use Rattle.rv_assembler.specs.declared.fault.SourceFault.TheVariants.{Memory as NoMemory}
use Rattle.explained_answer.proofs.Steps.{if-ok}
use Rattle.explained_answer.proofs.explaining.explained_text.Goals as goal

pub returns-in-Ok : goal.returns-in-Ok
returns-in-Ok c = if-ok c.explained_program.result _ _ (λ e h. inr h) c.explained_program.ensures

pub returns-in-Err : goal.returns-in-Err
returns-in-Err c =
    let other : c.in-Err.fault ≢ NoMemory = search rules in
    if-ok c.explained_fault.result _ _ (λ e h. inl (record { fault = c.in-Err.fault; is = c.in-Err.ensures.err other; answer_is = h })) c.explained_fault.ensures
