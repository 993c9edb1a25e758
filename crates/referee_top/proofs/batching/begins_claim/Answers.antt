use Rattle.std.proofs.Common.{List, ℕ, ap, ◌∙◌}
use Rattle.std.specs.Borrow.{Bor}
use Rattle.std.specs.Prelude.{is_some}
use Rattle.claims.specs.Claim.{title}
use Rattle.referee_top.proofs.Behind.{behind-told, some-told}
use Rattle.referee_top.proofs.batching.begins_claim.Goals as goal

pub returns : goal.returns
unfolding title
returns c =
    c.is_some.ensures ∙ some-told (λ (r : Bor (List ℕ)). r.now) c.behind.result
    ∙ ap is_some (behind-told (λ (r : Bor (List ℕ)). r.now) c.behind.result title c.args.bytes.now c.behind.ensures.some c.behind.ensures.none)
