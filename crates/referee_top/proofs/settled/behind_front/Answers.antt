use Rattle.std.proofs.Common.{ℕ, List, ◌+◌, ◌*◌, ◌++◌, codes, sym, ap, ◌∙◌, option_map}
use Rattle.std.specs.Borrow.{Bor}
use Rattle.text_pieces.specs.Pieces.{space, hexadecimal}
use Rattle.referee_top.specs.Settled.{behind_prefix, word_front}
use Rattle.referee_top.proofs.Behind.{behind-then, behind-stops}
use Rattle.referee_top.proofs.settled.behind_front.Goals as goal

pub returns-in_err-rest-2 : goal.returns-in_err-rest-2
unfolding word_front
returns-in_err-rest-2 c =
    let address = hexadecimal (268435456 + 4 * c.args.word) in
    let digits = c.in_err-rest-2.ensures ∙ ap (λ (f : List ℕ). behind_prefix f c.in_ok-rest.rest.now) c.to_hexadecimal.ensures in
    ap (option_map (λ (r : Bor (List ℕ)). r.now)) c.from_residual-in_err-rest-2.ensures
    ∙ sym (behind-then (codes "word ") (address ++ space) c.args.text.now c.in_ok-rest.rest.now c.in_ok-rest.ensures ∙ behind-stops address space c.in_ok-rest.rest.now digits)

pub returns : goal.returns
unfolding word_front
returns c =
    let address = hexadecimal (268435456 + 4 * c.args.word) in
    let digits = c.in_ok-rest-2.ensures ∙ ap (λ (f : List ℕ). behind_prefix f c.in_ok-rest.rest.now) c.to_hexadecimal.ensures in
    c.behind_prefix-3.ensures
    ∙ sym (behind-then (codes "word ") (address ++ space) c.args.text.now c.in_ok-rest.rest.now c.in_ok-rest.ensures
    ∙ behind-then address space c.in_ok-rest.rest.now c.in_ok-rest-2.rest.now digits)
