use Rattle.std.proofs.Common.{◌≤◌, length, sym, arith}
use Rattle.std.proofs.lemmas.Option.{slice_get_past}
use Rattle.run_account.proofs.After.{after_no_bank}
use Rattle.run_account.proofs.account.Account.note_bank_mail.Goals as goal

pub returns-else-bank-shape : goal.returns-else-bank-shape
returns-else-bank-shape c =
    let past : length c.args.machine.now.state.banks ≤ c.args.bank.0 = grind (arith, c.if-bank-shape.false, c.shape-shape.ensures, c.a_machine_is_kept.ensures.sound.machine.banks) in
    sym (after_no_bank c.args.machine.now.state c.args.id c.args.mail c.args.self.now c.requires.mail c.args.bank c.requires.to (slice_get_past c.args.machine.now.state.banks c.args.bank.0 past))
