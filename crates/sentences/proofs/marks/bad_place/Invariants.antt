use Rattle.std.proofs.Common.{◌≡◌, drop}
use Rattle.sentences.specs.Marks.{bad_place_from}
use Rattle.sentences.proofs.marks.bad_place.Given as goal

-- no byte so far is bad, or begins a comment
abbrev pub invariant-loop-place : goal.invariant-loop-place
invariant-loop-place l = bad_place_from l.place (drop l.place l.bytes) ≡ bad_place_from 0 l.bytes
