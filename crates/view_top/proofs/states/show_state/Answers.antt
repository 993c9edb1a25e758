use Rattle.std.proofs.Common.{ap, sym, ◌∙◌}
use Rattle.rv_assembler.specs.Source.{source}
use Rattle.view_top.proofs.Kept.{state-shown}
use Rattle.view_top.proofs.states.show_state.Goals as goal

pub state_in-requires-clause-program : goal.state_in-requires-clause-program
state_in-requires-clause-program c = ap source (sym c.as_slice.ensures) ∙ c.in_ok-checked.ensures.ok

pub returns-clause-made : goal.returns-clause-made
returns-clause-made c =
    state-shown c.args.document.now c.as_slice.result.now c.in_ok-trace.trace c.in_ok-checked.checked c.args.options.now c.in_ok-state_in.field-0 c.in_ok-trace.ensures.ok c.as_slice.ensures c.in_ok-checked.ensures.ok
    c.in_ok-checked.ensures.checked c.in_ok-state_in.ensures
