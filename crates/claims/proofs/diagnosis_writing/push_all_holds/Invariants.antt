use Rattle.std.proofs.Common.{◌≡◌, ◌-◌, ◌++◌}
use Rattle.claims.specs.DiagnosisText.{holds_from, holds_text}
use Rattle.claims.proofs.diagnosis_writing.push_all_holds.Given as goal

abbrev pub invariant-loop-lock : goal.invariant-loop-lock
invariant-loop-lock l = l.out.items ++ holds_from (32 - l.lock) l.lock l.held ≡ l.fn.out.items ++ holds_text l.held
