use Rattle.std.proofs.Common.{◌≡◌, drop}
use Rattle.word_cache.specs.Row.{pairs_of}
use Rattle.run_account.specs.Copies.{pairs_noted}
use Rattle.run_account.proofs.account.Account.note_set.Given as goal

-- the places that are left lead to the end
abbrev pub invariant-loop-place : goal.invariant-loop-place
invariant-loop-place l =
    pairs_noted l.machine.state l.node l.occasion l.words l.self (pairs_of (drop l.place-index l.places))
    ≡ pairs_noted l.machine.state l.node l.occasion l.words l.fn.self (pairs_of l.places)
