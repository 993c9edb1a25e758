-- Two facts about a result.
use Rattle.std.proofs.Common.{Result, Ok, Err, IfOk}

-- what two facts about a result give together
pub both-ok : {X Y : Type 0} (r : Result X Y) (P Q R : X → Type 0) → ((x : X) → P x → Q x → R x) → IfOk r P → IfOk r Q → IfOk r R
both-ok (Ok x) P Q R more p q = more x p q
both-ok (Err e) P Q R more p q = tt
