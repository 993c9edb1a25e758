use Rattle.std.proofs.Common.{◌+◌, drop, sym, ap, ◌∙◌}
use Rattle.std.proofs.lemmas.List.{drop_more, drop_all}
use Rattle.rv_assembler.specs.declared.draft.FirstValue.{FirstValue}
use Rattle.rv_assembler.specs.Finishing.{with_first_values}
use Rattle.rv_assembler.proofs.finishing.first_memory.Goals as goal

pub loop-value-preserved : goal.loop-value-preserved
loop-value-preserved c =
    let values = c.args.values.now in
    let index = c.loop-value.value-index in
    let none : FirstValue = record { word = 0; value = 0 } in
    ap (λ memory. with_first_values memory (drop (index + 1) values)) c.store.ensures
    ∙ ap (with_first_values c.loop-value.memory.items) (sym (drop_more values index none c.loop-value-test.true))
    ∙ c.loop-value.invariant

pub returns : goal.returns
returns c =
    ap (with_first_values c.loop-value.memory.items) (sym (drop_all c.loop-value.value-index c.args.values.now c.loop-value-test.false)) ∙ c.loop-value.invariant
