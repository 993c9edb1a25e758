use Rattle.std.proofs.Common.{◌≡◌, ℕ, ◌+◌, List, ◌++◌, length, take, drop, arith}
use Rattle.std.proofs.lemmas.List.{length-take}
use Rattle.std.proofs.lemmas.List.Folds.{drop_split}
use Rattle.std.proofs.lemmas.Grind.{common_steps}
use Rattle.std.specs.List.{slice_range}
use Rattle.dn_base.proofs.text_source.TextSource.give.Goals as goal

-- what is left is the piece that was given, and then what is left behind it
given_then_left : (bytes piece rest : List ℕ) (place count : ℕ) → piece ≡ slice_range bytes place (place + count) → length piece ≡ count
    → drop place bytes ≡ take count (piece ++ rest) ++ drop (place + count) bytes
given_then_left bytes piece rest place count is counted =
    let split = drop_split bytes place (place + count) (omega arith) in
    let front : take count (piece ++ rest) ≡ piece = grind (arith, common_steps) in
    rw front (rw is split)

pub returns-clause-bytes : goal.returns-clause-bytes
returns-clause-bytes c =
    rw (← c.self.view_is)
    (given_then_left _ _ _ c.self.inside.place c.min-count.result (rw c.as_slice.ensures.value at c.copy_from_slice.ensures.after) (omega (arith, length-take c.min-count.result c.args.buf.now)))
