use Rattle.std.proofs.Common.{ℕ, List, ◌++◌, sym, ap, ◌∙◌, option_map}
use Rattle.std.specs.Borrow.{Bor}
use Rattle.std.proofs.lemmas.Bool.{ne_eqb}
use Rattle.text_pieces.specs.Pieces.{newline, hexadecimal}
use Rattle.referee_top.specs.Settled.{behind_prefix, word_front}
use Rattle.referee_top.proofs.Behind.{behind-then, behind-stops}
use Rattle.referee_top.proofs.Walk.{line-of, line-of_zero}
use Rattle.referee_top.proofs.settled.behind_line.Goals as goal

pub returns-then-value-eq0 : goal.returns-then-value-eq0
returns-then-value-eq0 c = sym (line-of_zero c.args.word c.args.value c.args.text.now c.if-value-eq0.true)

pub returns-in_err-rest : goal.returns-in_err-rest
returns-in_err-rest c =
    ap (option_map (λ (r : Bor (List ℕ)). r.now)) c.from_residual.ensures
    ∙ sym (ap (λ (f : List ℕ). behind_prefix f c.args.text.now) (line-of c.args.word c.args.value (ne_eqb c.args.value 0 c.if-value-eq0.false))
    ∙ behind-stops (word_front c.args.word) (hexadecimal c.args.value ++ newline) c.args.text.now c.in_err-rest.ensures)

pub returns-in_err-rest-2 : goal.returns-in_err-rest-2
returns-in_err-rest-2 c =
    let digits = c.in_err-rest-2.ensures ∙ ap (λ (f : List ℕ). behind_prefix f c.in_ok-rest.rest.now) c.to_hexadecimal.ensures in
    ap (option_map (λ (r : Bor (List ℕ)). r.now)) c.from_residual-in_err-rest-2.ensures
    ∙ sym (ap (λ (f : List ℕ). behind_prefix f c.args.text.now) (line-of c.args.word c.args.value (ne_eqb c.args.value 0 c.if-value-eq0.false))
    ∙ behind-then (word_front c.args.word) (hexadecimal c.args.value ++ newline) c.args.text.now c.in_ok-rest.rest.now c.in_ok-rest.ensures
    ∙ behind-stops (hexadecimal c.args.value) newline c.in_ok-rest.rest.now digits)

pub returns : goal.returns
returns c =
    let digits = c.in_ok-rest-2.ensures ∙ ap (λ (f : List ℕ). behind_prefix f c.in_ok-rest.rest.now) c.to_hexadecimal.ensures in
    c.behind_prefix-2.ensures
    ∙ sym (ap (λ (f : List ℕ). behind_prefix f c.args.text.now) (line-of c.args.word c.args.value (ne_eqb c.args.value 0 c.if-value-eq0.false))
    ∙ behind-then (word_front c.args.word) (hexadecimal c.args.value ++ newline) c.args.text.now c.in_ok-rest.rest.now c.in_ok-rest.ensures
    ∙ behind-then (hexadecimal c.args.value) newline c.in_ok-rest.rest.now c.in_ok-rest-2.rest.now digits)
