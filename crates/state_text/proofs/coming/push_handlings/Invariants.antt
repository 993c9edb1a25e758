use Rattle.std.proofs.Common.{◌≡◌, ◌++◌, drop}
use Rattle.dn_machine.specs.Pick.{handlings}
use Rattle.state_text.proofs.coming.push_handlings.Given as goal

abbrev pub invariant-loop-place : goal.invariant-loop-place
invariant-loop-place l = l.events ++ handlings (drop l.place l.pool.mails) ≡ l.fn.events ++ handlings l.pool.mails
