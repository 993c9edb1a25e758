use Rattle.std.proofs.Common.{◌≡◌, ℕ, ◌==◌, Bool, true, false, ◌&&◌, ◌||◌, bit_or, refl, sym, ap, ◌∙◌}
use Rattle.rv_core.specs.Access.{is_held}
use Rattle.rv_core.proofs.HeldLemmas.{holds-acquired}
use Rattle.outcomes_top.proofs.circles.with_lock.Goals as goal

turned : (x h a : Bool) → a ≡ true → (x || h) ≡ (h || (x && a))
turned true true a e = refl
turned true false a e = sym e
turned false true a e = refl
turned false false a e = refl

kept : (x h a : Bool) → a ≡ false → h ≡ (h || (x && a))
kept true true a e = refl
kept true false a e = sym e
kept false true a e = refl
kept false false a e = refl

pub returns-then-added : goal.returns-then-added
returns-then-added c = λ b. ap (λ (x : ℕ). is_held (bit_or c.args.locks x) b) c.bit.ensures ∙ holds-acquired c.args.locks c.args.lock b ∙ turned (b == c.args.lock) (is_held c.args.locks b) c.args.added c.if-added.true

pub returns-else-added : goal.returns-else-added
returns-else-added c = λ b. kept (b == c.args.lock) (is_held c.args.locks b) c.args.added c.if-added.false
