use Rattle.std.proofs.Common.{sym, arith}
use Rattle.std.proofs.lemmas.List.FromFn.{map-range_with_len_more}
use Rattle.registration_protocol.specs.Setting.{setting}
use Rattle.machine_rules.specs.Memory.{word_value}
use Rattle.dn_machine.specs.Content.{state_of}
use Rattle.dn_machine.proofs.content.Content.push_words.Goals as goal

pub loop-word-preserved : goal.loop-word-preserved
loop-word-preserved c =
    rw (c.in_ok-push.ensures.items, c.loop-word.invariant, c.word.ensures)
    (sym (map-range_with_len_more (word_value (state_of (setting c.args.context.now) c.args.self.now)) 0 c.loop-word.word c.loop-word.word (omega arith)))
