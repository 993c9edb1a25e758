use Rattle.std.proofs.Common.{sym, ap, ◌∙◌, List, ℕ, option_map}
use Rattle.std.specs.Borrow.{Bor}
use Rattle.referee_top.proofs.Behind.{value-some, value-none}
use Rattle.referee_top.proofs.settled.behind_value.Goals as goal

pub returns-in_err-rest : goal.returns-in_err-rest
returns-in_err-rest c = ap (option_map (λ (r : Bor (List ℕ)). r.now)) c.from_residual.ensures ∙ sym (value-none c.args.text.now c.in_err-rest.ensures.none)

pub returns : goal.returns
returns c = c.behind_prefix.ensures ∙ sym (value-some c.args.text.now c.in_ok-rest.rest.now c.in_ok-rest.field-0-0 c.in_ok-rest.ensures.some)
