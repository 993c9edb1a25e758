use Rattle.std.proofs.Common.{drop, ◌+◌}
use Rattle.src_text.specs.Lexeme.{lexemes_after}
use Rattle.src_text.proofs.LexemeLemmas.{Scans}
use Rattle.src_text.proofs.token.scan.Given as goal

abbrev pub invariant-loop-i : goal.invariant-loop-i
invariant-loop-i l = Scans (lexemes_after 32 l.start l.code) l.tokens (lexemes_after l.before (l.start + l.i) (drop l.i l.code))
