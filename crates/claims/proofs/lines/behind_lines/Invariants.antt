use Rattle.std.proofs.Common.{◌≡◌}
use Rattle.claims.specs.Lines.{behind_lines}
use Rattle.claims.proofs.lines.behind_lines.Given as goal

abbrev pub invariant-loop : goal.invariant-loop
invariant-loop l = l.rest ≡ behind_lines l.counter l.text
