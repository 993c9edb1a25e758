use Rattle.std.proofs.Common.{◌≡◌, ◌∙◌, sym, ◌+◌, List, ℕ, get_or, drop, Some, true, false, subst, ap}
use Rattle.std.proofs.lemmas.List.{take_rest}
use Rattle.src_text.specs.Lexeme.{begins_token, token_kind_of, lexemes_after, front}
use Rattle.src_text.specs.declared.token.Token.{Token}
use Rattle.src_text.proofs.LexemeLemmas.{Scans, scans_token, scans_none}
use Rattle.src_text.proofs.token.scan.Goals as goal
use Rattle.src_text.proofs.token.scan.Goals.{then-begins+in-Some+in_ok-push, else-begins}

-- the same, for the variables' new values
renamed : (start i : ℕ) (code : List ℕ) (out out' : List Token) (before before' : ℕ) → out' ≡ out → before' ≡ before → Scans (lexemes_after 32 start code) out (lexemes_after before (start + (i + 1)) (drop (i + 1) code)) → Scans (lexemes_after 32 start code) out' (lexemes_after before' (start + (i + 1)) (drop (i + 1) code))
renamed start i code out out' before before' same_out same_before s =
    subst (λ (o : List Token). Scans (lexemes_after 32 start code) o (lexemes_after before' (start + (i + 1)) (drop (i + 1) code))) (sym same_out)
    (subst (λ (b : ℕ). Scans (lexemes_after 32 start code) out (lexemes_after b (start + (i + 1)) (drop (i + 1) code))) (sym same_before) s)

pub loop-i-preserved : goal.loop-i-preserved
loop-i-preserved c =
    let code = c.args.code.now in
    let start = c.args.start in
    let i = c.loop-i.i in
    elim c.if-begins.branch [
      | then-begins+in-Some+in_ok-push w ↦
          let begun : begins_token c.loop-i.before (get_or code i 0) ≡ true = cc in
          let kind : token_kind_of w.front-lexeme.result.now ≡ Some w.in-Some.kind = sym w.kind.ensures ∙ w.in-Some.is in
          let next = scans_token (lexemes_after 32 start code) c.loop-i.tokens c.loop-i.before start code w.front-lexeme.result.now i w.in-Some.kind c.loop-i-test.true begun (w.front-lexeme.ensures.value ∙ ap front (take_rest code i)) kind c.loop-i.invariant in
          renamed start i code _ _ _ _ (w.tokens-is ∙ w.in_ok-push.ensures.ok) w.before-is next
      | else-begins w ↦
          let goes_on : begins_token c.loop-i.before (get_or code i 0) ≡ false = cc in
          let next = scans_none (lexemes_after 32 start code) c.loop-i.tokens c.loop-i.before start code i c.loop-i-test.true goes_on c.loop-i.invariant in
          renamed start i code _ _ _ _ w.tokens-is w.before-is next
    ]
