use Rattle.std.proofs.Common.{◌≡◌, ◌-◌, ◌++◌}
use Rattle.text_places.specs.Walk.{code_parts}
use Rattle.text_places.proofs.places.push_code.Given as goal

abbrev pub invariant-loop-part : goal.invariant-loop-part
invariant-loop-part l = l.code ++ code_parts l.line l.part (l.count - l.part) ≡ l.initial.code ++ code_parts l.fn.line 0 l.count
