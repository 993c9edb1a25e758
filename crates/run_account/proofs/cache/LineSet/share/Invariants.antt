use Rattle.std.proofs.Common.{◌≡◌, drop}
use Rattle.run_account.specs.Caches.{share_in}
use Rattle.run_account.proofs.cache.LineSet.share.Given as goal

-- what is left of the lines has of the word what all of them have
abbrev pub invariant-loop-line : goal.invariant-loop-line
invariant-loop-line l = share_in l.word.0 (drop l.line-index l.line-items) ≡ share_in l.word.0 l.line-items
