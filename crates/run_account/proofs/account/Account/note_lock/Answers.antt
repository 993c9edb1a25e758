use Rattle.std.proofs.Common.{sym}
use Rattle.run_account.proofs.Occasions.{grant_swept, grant_none, grant_no_words}
use Rattle.run_account.proofs.account.Account.note_lock.Goals as goal

pub returns-in-Some : goal.returns-in-Some
returns-in-Some c =
    grant_swept c.args.machine.now.state c.args.node.now c.args.lock c.args.signature c.args.self.now c.note_copies.new.self c.in-Some.words.now
    (sym c.if-waits.ensures) c.in-Some.ensures c.note_copies.ensures

pub returns-in_default : goal.returns-in_default
returns-in_default c = grant_no_words c.args.machine.now.state c.args.node.now c.args.lock c.args.signature c.args.self.now (sym c.if-waits.ensures) c.in_default.ensures

pub returns-else-waits : goal.returns-else-waits
returns-else-waits c = grant_none c.args.machine.now.state c.args.node.now c.args.lock c.args.signature c.args.self.now (sym c.if-waits.ensures)
