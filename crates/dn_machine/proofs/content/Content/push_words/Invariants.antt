use Rattle.std.proofs.Common.{◌≡◌, map}
use Rattle.std.specs.List.{range_with_len}
use Rattle.machine_rules.specs.Memory.{word_value}
use Rattle.registration_protocol.specs.Setting.{setting}
use Rattle.dn_machine.specs.Content.{state_of}
use Rattle.dn_machine.proofs.content.Content.push_words.Given as goal

abbrev pub invariant-loop-word : goal.invariant-loop-word
invariant-loop-word l = l.out.items ≡ map (word_value (state_of (setting l.context) l.self)) (range_with_len 0 l.word)
