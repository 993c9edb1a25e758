use Rattle.std.proofs.Common.{◌≡◌, ◌-◌, ◌++◌, flat_map, length}
use Rattle.std.specs.List.{range_with_len}
use Rattle.state_text.specs.Parts.{home_line_at}
use Rattle.state_text.proofs.homes.push_homes.Given as goal

abbrev pub invariant-loop-word : goal.invariant-loop-word
invariant-loop-word l =
    l.out.items ++ flat_map (home_line_at l.machine.state) (range_with_len l.word (length l.machine.state.setting.program.memory - l.word))
    ≡ l.fn.out.items ++ flat_map (home_line_at l.machine.state) (range_with_len 0 (length l.machine.state.setting.program.memory))
