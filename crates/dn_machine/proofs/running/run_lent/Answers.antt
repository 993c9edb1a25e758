use Rattle.registration_protocol.specs.Setting.{setting}
use Rattle.dn_machine.specs.Content.{state_of}
use Rattle.dn_machine.proofs.RunLemmas.{ready-of, run-of}
use Rattle.dn_machine.proofs.running.run_lent.Goals as goal

pub returns : goal.returns
returns c =
    let C = setting c.args.context.now in
    rw c.record.ensures
    (run-of C c.args.seed (state_of C c.run_to_end.new.self) c.run_to_end.new.log c.in_ok-ending.ending (ready-of (state_of C c.args.content.now) 0 c.requires.kept) c.in_ok-ending.ensures.run c.in_ok-ending.ensures.ending)
