use Rattle.std.proofs.Common.{◌≡◌, ◌++◌, replicate}
use Rattle.run_timing.proofs.tracks.push_mails.Given as goal

abbrev pub invariant-loop-mail : goal.invariant-loop-mail
invariant-loop-mail l = l.row ≡ l.fn.row ++ replicate l._mail l.event
