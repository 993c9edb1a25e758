use Rattle.std.proofs.Common.{sym}
use Rattle.run_account.proofs.Occasions.{go_swept, go_none, go_no_words}
use Rattle.run_account.proofs.account.Account.note_phase.Goals as goal

pub returns-in-Some : goal.returns-in-Some
returns-in-Some c =
    go_swept c.args.machine.now.state c.args.node.now c.args.phase c.args.self.now c.note_copies.new.self c.in-Some.words.now
    (sym c.if-begins.ensures) c.in-Some.ensures c.note_copies.ensures

pub returns-in_default : goal.returns-in_default
returns-in_default c = go_no_words c.args.machine.now.state c.args.node.now c.args.phase c.args.self.now (sym c.if-begins.ensures) c.in_default.ensures

pub returns-else-begins : goal.returns-else-begins
returns-else-begins c = go_none c.args.machine.now.state c.args.node.now c.args.phase c.args.self.now (sym c.if-begins.ensures)
