-- The lines of a core: its phase and task, where its task is, what it waits for, which locks it holds, its flags, and its
-- entries.
use Rattle.std.specs.Prelude.{ℕ, ◌-◌, ◌/◌, ◌%◌, ◌==◌, ◌&&◌, nat_le, Bool, List, [], ◌++◌, length, flat_map, slice_get, codes, Option, Some, None, if◌then◌else◌}
use Rattle.std.specs.List.{range_with_len}
use Rattle.std.specs.Fmt.{decimal}
use Rattle.text_pieces.specs.Pieces.{newline, hexadecimal}
use Rattle.region_table.specs.Program.{ProgramParts}
use Rattle.rv_core.specs.declared.task.TaskState.{TaskState}
use Rattle.rv_core.specs.declared.task.End.{End}
use Rattle.rv_core.specs.Access.{is_held}
use Rattle.rv_core.specs.Ending.{shown_end}
use Rattle.rv_listing.specs.Instruction.{code_line}
use Rattle.run_report.specs.Answer.{end_text}
use Rattle.word_cache.specs.declared.row.Entry.{Entry}
use Rattle.word_cache.specs.declared.row.Entry.TheVariants.{Valid, Registered, Leaving}
use Rattle.word_cache.specs.Cache.{Pair}
use Rattle.registration_protocol.specs.declared.node.NodeWait as wait
use Rattle.registration_protocol.specs.declared.node.NodeWait.{NodeWait}
use Rattle.registration_protocol.specs.Node.{NodeParts}
use Rattle.text_places.specs.declared.places.CodePlace.{CodePlace}
use Rattle.text_places.specs.declared.places.Places.{Places}
use Rattle.text_places.specs.Texts.{code_text, lock_text}
use Rattle.state_text.specs.Coming.{pairs_by_set}
use Rattle.state_text.specs.Called.{data_word_text, numbered_core}

unfoldable pub phase_line : NodeParts → List ℕ
phase_line n = numbered_core n.core ++ codes " phase " ++ decimal n.phase ++ newline

-- ---- its task

unfoldable pub no_task_line : ℕ → List ℕ
no_task_line core = numbered_core core ++ codes " no task" ++ newline

-- whether the task is running, or how it has ended
unfoldable pub running_line : ℕ → List ℕ
running_line core = numbered_core core ++ codes " task goes on" ++ newline

unfoldable pub ended_line : ℕ → End → List ℕ
ended_line core by = numbered_core core ++ codes " task " ++ end_text (shown_end by) ++ newline

abbrev pub standing_line : ℕ → Option End → List ℕ
standing_line core None = running_line core
standing_line core (Some by) = ended_line core by

-- the number of the code word that has an address
abbrev pub code_number : ℕ → Option ℕ
code_number pc = if nat_le 0x1000 pc && pc % 4 == 0 then Some ((pc - 0x1000) / 4) else None

-- the address of the next instruction, or of the one that ended the task, the line that it comes from, and the instruction
unfoldable pub at_code_line : ℕ → ℕ → CodePlace → ℕ → List ℕ
at_code_line core pc p w =
    numbered_core core ++ codes " at " ++ hexadecimal pc ++ codes ", " ++ code_text p ++ codes ": " ++ code_line w ++ newline

unfoldable pub no_code_line : ℕ → ℕ → List ℕ
no_code_line core pc = numbered_core core ++ codes " at " ++ hexadecimal pc ++ codes ", no code" ++ newline

abbrev pub at_line_by : ℕ → ℕ → Option CodePlace → Option ℕ → List ℕ
at_line_by core pc (Some p) (Some w) = at_code_line core pc p w
at_line_by core pc _ _ = no_code_line core pc

abbrev pub at_line_of : ProgramParts → Places → ℕ → ℕ → Option ℕ → List ℕ
at_line_of P places core pc None = no_code_line core pc
at_line_of P places core pc (Some number) = at_line_by core pc (slice_get places.code number) (slice_get P.code number)

unfoldable pub retired_line : ℕ → ℕ → List ℕ
retired_line core retired = numbered_core core ++ codes " retired " ++ decimal retired ++ newline

abbrev pub task_facts : ProgramParts → Places → ℕ → Option TaskState → List ℕ
task_facts P places core None = no_task_line core
task_facts P places core (Some t) =
    standing_line core t.end ++ (at_line_of P places core t.pc (code_number t.pc) ++ retired_line core t.retired)

-- ---- its wait, its locks and its marks

unfoldable pub reading_line : ProgramParts → ℕ → ℕ → List ℕ
reading_line P core w = numbered_core core ++ codes " waits for " ++ data_word_text P w ++ newline

unfoldable pub filled_line : ProgramParts → ℕ → ℕ → List ℕ
filled_line P core w = numbered_core core ++ codes " has the value of " ++ data_word_text P w ++ newline

unfoldable pub locking_line : ProgramParts → ℕ → ℕ → List ℕ
locking_line P core lock = numbered_core core ++ codes " waits for " ++ lock_text P.locks lock ++ newline

abbrev pub wait_lines : ProgramParts → ℕ → NodeWait → List ℕ
wait_lines P core wait.TheVariants.None = []
wait_lines P core (wait.TheVariants.Reading word) = reading_line P core word.0
wait_lines P core (wait.TheVariants.Filled word) = filled_line P core word.0
wait_lines P core (wait.TheVariants.Locking lock) = locking_line P core lock.0

unfoldable pub holds_line : ProgramParts → ℕ → ℕ → List ℕ
holds_line P core lock = numbered_core core ++ codes " holds " ++ lock_text P.locks lock ++ newline

abbrev pub held_line : ProgramParts → ℕ → ℕ → ℕ → List ℕ
held_line P core held lock = if is_held held lock then holds_line P core lock else []

abbrev pub held_lines : ProgramParts → ℕ → Option TaskState → List ℕ
held_lines P core None = []
held_lines P core (Some t) = flat_map (held_line P core t.held) (range_with_len 0 (length P.locks))

unfoldable pub arrived_line : ℕ → List ℕ
arrived_line core = numbered_core core ++ codes " has arrived" ++ newline

unfoldable pub halted_line : ℕ → List ℕ
halted_line core = numbered_core core ++ codes " is halted" ++ newline

abbrev pub mark_lines : NodeParts → List ℕ
mark_lines n = (if n.arrived then arrived_line n.core else []) ++ (if n.halted then halted_line n.core else [])

-- ---- its entries

abbrev pub flag_text : List ℕ → Bool → List ℕ
flag_text word flag = if flag then word else []

unfoldable pub entry_word : Entry → List ℕ
entry_word (Valid value marked) = codes "valid "
entry_word (Registered value pending) = codes "registered "
entry_word (Leaving value) = codes "leaving "

abbrev pub value_of_entry : Entry → ℕ
value_of_entry (Valid value marked) = value
value_of_entry (Registered value pending) = value
value_of_entry (Leaving value) = value

unfoldable pub entry_flag : Entry → List ℕ
entry_flag (Valid value marked) = flag_text (codes ", marked") marked
entry_flag (Registered value pending) = flag_text (codes ", pending") pending
entry_flag (Leaving value) = []

-- the state of an entry, its value, and whether it is marked or pending
unfoldable pub entry_text : Entry → List ℕ
entry_text e = entry_word e ++ hexadecimal (value_of_entry e) ++ entry_flag e

unfoldable pub entry_line : ProgramParts → ℕ → Pair → List ℕ
entry_line P core p = numbered_core core ++ codes " entry " ++ data_word_text P p.0.0 ++ codes ": " ++ entry_text p.1 ++ newline

abbrev pub entry_lines : ProgramParts → NodeParts → List ℕ
entry_lines P n = flat_map (entry_line P n.core) (pairs_by_set n.cache)

-- ---- all of it

abbrev pub core_lines : ProgramParts → Places → NodeParts → List ℕ
core_lines P places n =
    phase_line n ++ (task_facts P places n.core n.task ++ (wait_lines P n.core n.waiting ++ (held_lines P n.core n.task ++ (mark_lines n ++ entry_lines P n))))
