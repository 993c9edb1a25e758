use Rattle.std.proofs.Common.{◌≡◌, ◌∙◌, ℕ, List, sym, ap, true, false, filter_map, None}
use Rattle.std.specs.List.{list_any}
use Rattle.std.proofs.lemmas.Option.{MatchOption-at_none, MatchOption-at_some}
use Rattle.src_text.specs.Byte.{is_bad}
use Rattle.src_text.specs.Lexeme.{before_comment, lexemes_of, lexemes_after, is_bad_number, token_of}
use Rattle.src_text.specs.Line.{line_with, is_over_limit}
use Rattle.src_text.specs.declared.token.Token.{Token}
use Rattle.src_text.proofs.LineLemmas.{fault-bad_number, fault-limit, no_fault}
use Rattle.src_text.proofs.line.read_line.Goals as goal

pub returns-in_default : goal.returns-in_default
returns-in_default c =
    let number = c.args.number in
    let start = c.args.start in
    let line = c.args.line.now in
    let bytes : list_any is_bad (before_comment line) ≡ false = cc in
    let found : list_any is_bad_number (lexemes_after 32 start c.code-code.result.now) ≡ true = MatchOption-at_none _ _ c.in_default.is c.in_ok-tokens.ensures in
    let numbers : list_any is_bad_number (lexemes_of start line) ≡ true = rw (← c.code-code.ensures.value) found in
    c.faulty-in_default.ensures ∙ ap (line_with number (filter_map token_of (lexemes_of start line))) (sym (fault-bad_number number start line bytes numbers))

pub returns-then-is_over_limit : goal.returns-then-is_over_limit
returns-then-is_over_limit c =
    let number = c.args.number in
    let start = c.args.start in
    let line = c.args.line.now in
    let bytes : list_any is_bad (before_comment line) ≡ false = cc in
    let found = MatchOption-at_some _ _ c.in-Some.tokens c.in-Some.is c.in_ok-tokens.ensures in
    let numbers : list_any is_bad_number (lexemes_of start line) ≡ false = rw (← c.code-code.ensures.value) found.0 in
    let limit : is_over_limit number line ≡ true = cc in
    c.faulty-then-is_over_limit.ensures ∙ ap (line_with number (filter_map token_of (lexemes_of start line))) (sym (fault-limit number start line bytes numbers limit))

pub returns : goal.returns
returns c =
    let number = c.args.number in
    let start = c.args.start in
    let line = c.args.line.now in
    let bytes : list_any is_bad (before_comment line) ≡ false = cc in
    let found = MatchOption-at_some _ _ c.in-Some.tokens c.in-Some.is c.in_ok-tokens.ensures in
    let numbers : list_any is_bad_number (lexemes_of start line) ≡ false = rw (← c.code-code.ensures.value) found.0 in
    let limit : is_over_limit number line ≡ false = cc in
    ap (λ (ts : List Token). line_with number ts None) found.1 ∙ ap (λ (code : List ℕ). line_with number (filter_map token_of (lexemes_after 32 start code)) None) c.code-code.ensures.value ∙ ap (line_with number (filter_map token_of (lexemes_of start line))) (sym (no_fault number start line bytes numbers limit))
