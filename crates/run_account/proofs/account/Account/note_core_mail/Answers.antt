use Rattle.std.proofs.Common.{◌≤◌, length, sym, arith}
use Rattle.std.proofs.lemmas.Option.{slice_get_past}
use Rattle.run_account.proofs.After.{after_no_core}
use Rattle.run_account.proofs.account.Account.note_core_mail.Goals as goal

pub returns-else-core-shape : goal.returns-else-core-shape
returns-else-core-shape c =
    let past : length c.args.machine.now.state.nodes ≤ c.args.core.0 = grind (arith, c.if-core-shape.false, c.shape.ensures, c.a_machine_is_kept.ensures.sound.machine.nodes) in
    sym (after_no_core c.args.machine.now.state c.args.id c.args.mail c.args.self.now c.requires.mail c.args.core c.requires.to (slice_get_past c.args.machine.now.state.nodes c.args.core.0 past))
