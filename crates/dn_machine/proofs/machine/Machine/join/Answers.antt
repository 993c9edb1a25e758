use Rattle.std.proofs.Common.{◌≡◌, sym, subst, ◌∙◌}
use Rattle.region_table.specs.Program.{ProgramParts}
use Rattle.registration_protocol.specs.Fit.{Fits}
use Rattle.registration_protocol.specs.Node.{Setting}
use Rattle.dn_machine.proofs.LeftLemmas.{kept-left}
use Rattle.dn_machine.proofs.machine.Machine.join.Goals as goal

pub own_events-own-requires-clause-most : goal.own_events-own-requires-clause-most
own_events-own-requires-clause-most c =
    let kept = kept-left _ _ c.requires.0 in
    rw (c.as_slice.ensures.value, kept.sound.machine.nodes) kept.most

pub own_events-own-requires-clause-fits : goal.own_events-own-requires-clause-fits
own_events-own-requires-clause-fits c = λ core n here.
    let is : c.of_parts-decoded.result ≡ c.args.parts.checked = c.of_parts-decoded.ensures ∙ c.into_program.ensures.value in
    let fits = ((kept-left _ _ c.requires.0).sound.machine.node core n (rw c.as_slice.ensures.value at here)).fits in
    subst (λ (D : Setting). Fits D n) (sym c.context_of-context.ensures)
    (subst (λ (p : ProgramParts). Fits (record { program = p; plans = c.args.parts.plans.items; shape = c.args.parts.shape; fuel = c.args.parts.fuel }) n) (sym is) fits)

pub invariant_of-result : goal.invariant_of-result
invariant_of-result c =
    let is : c.of_parts-decoded.result ≡ c.args.parts.checked = c.of_parts-decoded.ensures ∙ c.into_program.ensures.value in
    (rw (c.from_vec.ensures, is) (kept-left _ _ c.requires.0), rw (c.context_of-context.ensures, c.as_slice.ensures.value) at c.own_events-own.ensures)
