use Rattle.std.proofs.Common.{◌≡◌, ◌++◌, drop, flat_map}
use Rattle.state_text.specs.Parts.{mail_lines}
use Rattle.state_text.proofs.mails.push_mails.Given as goal

abbrev pub invariant-loop-place : goal.invariant-loop-place
invariant-loop-place l =
    l.out.items ++ flat_map (mail_lines l.machine.state) (drop l.place l.machine.state.mails) ≡ l.fn.out.items ++ flat_map (mail_lines l.machine.state) l.machine.state.mails
