use Rattle.std.proofs.Common.{rules, ℕ, ◌+◌, ◌<◌, List, arith}
use Rattle.explained_answer.specs.Fronts.{alike, line_behind}
use Rattle.explained_answer.proofs.listing.take_listing.Goals as goal

-- lines are numbered from 1
line-some : (front : List ℕ) → 0 < line_behind front
unfolding line_behind
line-some front = omega arith

pub returns : goal.returns
returns c = (search rules, search rules, omega (arith, c.if-line-eq1.false, line-some (alike c.args.answer.now c.as_slice-2.result.now)))
