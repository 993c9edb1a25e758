use Rattle.std.proofs.Common.{◌≡◌, drop}
use Rattle.sentences.specs.Uses.{lock_from}
use Rattle.sentences.proofs.uses.lock_of.Given as goal

-- no set so far has the word
abbrev pub invariant-loop-lock : goal.invariant-loop-lock
invariant-loop-lock l = lock_from l.lock (drop l.lock l.sets) l.word ≡ lock_from 0 l.sets l.word
