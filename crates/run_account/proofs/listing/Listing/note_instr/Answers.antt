use Rattle.std.proofs.Common.{◌≤◌, length, sym, ◌∙◌, arith}
use Rattle.std.proofs.lemmas.Option.{slice_get_past}
use Rattle.run_account.proofs.ListAfter.{after_access, after_other, no_core}
use Rattle.run_account.proofs.listing.Listing.note_instr.Goals as goal

pub returns-in_ok-note_retired : goal.returns-in_ok-note_retired
returns-in_ok-note_retired c =
    c.in_ok-note_retired.ensures
    ∙ sym (after_access c.args.machine.now.state c.args.core c.args.self.now c.in-Some.access (sym c.access_retired.ensures ∙ c.in-Some.is))

pub returns-in_default : goal.returns-in_default
returns-in_default c = sym (after_other c.args.machine.now.state c.args.core c.args.self.now (sym c.access_retired.ensures ∙ c.in_default.is))

pub returns-else-core-shape : goal.returns-else-core-shape
returns-else-core-shape c =
    let past : length c.args.machine.now.state.nodes ≤ c.args.core.0 = grind (arith, c.if-core-shape.false, c.shape.ensures, c.a_machine_is_kept.ensures.sound.machine.nodes) in
    sym (after_other c.args.machine.now.state c.args.core c.args.self.now (no_core c.args.machine.now.state c.args.core (slice_get_past c.args.machine.now.state.nodes c.args.core.0 past)))
