use Rattle.std.proofs.Common.{◌≡◌, drop}
use Rattle.std.specs.List.{find}
use Rattle.src_text.specs.Lexeme.{is_bad_number, lexemes_after}
use Rattle.src_text.proofs.token.bad_number_in.Given as goal

-- no number so far is bad
abbrev pub invariant-loop-start : goal.invariant-loop-start
invariant-loop-start l =
    find is_bad_number (lexemes_after l.before l.start (drop l.start l.code)) ≡ find is_bad_number (lexemes_after 32 0 l.code)
