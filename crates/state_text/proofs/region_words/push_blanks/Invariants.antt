use Rattle.std.proofs.Common.{◌≡◌, ◌++◌, replicate}
use Rattle.state_text.proofs.region_words.push_blanks.Given as goal

abbrev pub invariant-loop-blank : goal.invariant-loop-blank
invariant-loop-blank l = l.out.items ≡ l.initial.out.items ++ replicate l.blank 32
