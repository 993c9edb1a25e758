use Rattle.std.proofs.Common.{List, ℕ}
use Rattle.std.specs.Borrow.{Bor}
use Rattle.referee_top.proofs.Behind.{behind-told}
use Rattle.referee_top.proofs.settled.behind_prefix.Goals as goal

pub returns : goal.returns
returns c = behind-told (λ (r : Bor (List ℕ)). r.now) c.behind.result c.args.front.now c.args.text.now c.behind.ensures.some c.behind.ensures.none
