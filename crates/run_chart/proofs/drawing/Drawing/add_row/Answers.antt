use Rattle.std.proofs.Common.{ℕ, ◌≤◌, List, Option, length, refl, subst, sym}
use Rattle.machine_rules.specs.Next.{next}
use Rattle.dn_machine.specs.Kept.{Made}
use Rattle.run_chart.specs.declared.mails.SentMail.{SentMail}
use Rattle.run_chart.specs.Drawing.{IsLookBefore}
use Rattle.run_chart.specs.Mails.{mails_left}
use Rattle.run_chart.proofs.Flown.{fewer-left}
use Rattle.run_chart.proofs.OneRow.{next-row, few-among, few-lines}
use Rattle.run_chart.proofs.drawing.Drawing.add_row.Goals as goal

pub note-requires-clause-fewer : goal.note-requires-clause-fewer
note-requires-clause-fewer c =
    let d = c.args.self.now in
    let came = c.in_ok-came.ensures.came c.in-Some.row (rw c.in-Some.is refl) in
    let fewer = fewer-left d.machine.state c.args.event d.sent c.a_machine_is_kept.ensures.sound.machine c.requires.sent in
    subst (λ (m : Made). length (mails_left c.in_ok-before.before.place d.sent) ≤ length m.state.mails) (sym came.moves)
    (subst (λ (p : Option ℕ). length (mails_left p d.sent) ≤ length (next d.machine.state c.args.event).mails) (sym c.in_ok-before.ensures.place) fewer)

pub row_of-requires-clause-few : goal.row_of-requires-clause-few
row_of-requires-clause-few c =
    let d = c.args.self.now in
    few-among d.machine.state c.as_slice.result.now c.args.event c.in_ok-before.before c.a_machine_is_kept.ensures.sound.machine c.a_machine_is_kept.ensures.left.ready.program.memory c.in_ok-before.ensures

pub note-requires-clause-most : goal.note-requires-clause-most
note-requires-clause-most c =
    let d = c.args.self.now in
    let came = c.in_ok-came.ensures.came c.in-Some.row (rw c.in-Some.is refl) in
    few-lines d.machine.state c.as_slice.result.now c.args.event c.in_ok-before.before d.event d.line c.args.on_chain c.in-Some.row c.a_machine_is_kept.ensures.sound.machine c.a_machine_is_kept.ensures.left.ready.program.memory c.in_ok-before.ensures came.is

pub returns : goal.returns
returns c =
    let d = c.args.self.now in
    let came = c.in_ok-came.ensures.came c.in-Some.row (rw c.in-Some.is refl) in
    let seen : IsLookBefore d.machine.state d.sent c.args.event c.in_ok-before.before =
    subst (λ (sent : List SentMail). IsLookBefore d.machine.state sent c.args.event c.in_ok-before.before) c.as_slice.ensures c.in_ok-before.ensures
    in
    let few = few-lines d.machine.state d.sent c.args.event c.in_ok-before.before d.event d.line c.args.on_chain c.in-Some.row c.a_machine_is_kept.ensures.sound.machine c.a_machine_is_kept.ensures.left.ready.program.memory seen came.is in
    next-row d c.args.event c.in_ok-before.before c.row_of.new.machine c.in-Some.row c.args.on_chain c.note.new.self c.a_machine_is_kept.ensures.sound.machine c.requires.sent seen came c.requires.line
    few c.in_ok-note.ensures
