-- The sentences on a task that didn't finish: where it stands in the text, why, and how to fix it. Each line is indented,
-- which tells it from the lines of an answer.
use Rattle.std.specs.Prelude.{ℕ, ◌-◌, ◌/◌, ◌%◌, ◌==◌, ◌&&◌, nat_le, nat_lt, List, [], ◌++◌, Option, Some, None, codes, slice_get, find, if◌then◌else◌}
use Rattle.std.specs.Fmt.{decimal}
use Rattle.text_pieces.specs.Pieces.{newline, hexadecimal}
use Rattle.region_table.specs.Program.{ProgramParts}
use Rattle.rv_core.specs.declared.task.TrapKind as kind
use Rattle.rv_core.specs.declared.task.TrapKind.{TrapKind}
use Rattle.rv_core.specs.declared.ending.EndShown as shown
use Rattle.rv_core.specs.declared.ending.EndShown.{EndShown}
use Rattle.rv_core.specs.declared.ending.TaskEnd.{TaskEnd}
use Rattle.text_places.specs.declared.places.CodePlace.{CodePlace}
use Rattle.text_places.specs.declared.places.TaskPlace.{TaskPlace}
use Rattle.text_places.specs.declared.places.Located.{Located}
use Rattle.text_places.specs.declared.places.Places.{Places}
use Rattle.text_places.specs.Words.{is_task_of}
use Rattle.text_places.specs.Texts.{address_text, code_text, lock_text, quoted_line}
use Rattle.sentences.specs.declared.uses.Access.{Access}
use Rattle.sentences.specs.declared.uses.Access.TheVariants.{Load, Store}
use Rattle.sentences.specs.declared.loops.Loop.{Loop}
use Rattle.sentences.specs.declared.endings.Standstill.{Standstill}
use Rattle.sentences.specs.Loops.{loop_around}
use Rattle.sentences.specs.Outside.{outside_sentences}
use Rattle.sentences.specs.Uses.{instruction_access}

-- how a line of a sentence begins
abbrev pub indent : List ℕ
indent = codes "  "

unfoldable pub which_line : List ℕ
which_line = codes ", which line "

unfoldable pub declares_word : List ℕ
declares_word = codes " declares,"

-- the line that declares a task
unfoldable pub declared_by_line : TaskPlace → List ℕ
declared_by_line p = which_line ++ decimal p.line ++ declares_word

abbrev pub declared_text : Option TaskPlace → List ℕ
declared_text (Some p) = declared_by_line p
declared_text None = []

unfoldable pub the_task : List ℕ
the_task = codes "  The task of core "

-- a task by its core and phase, and the line that declares it
unfoldable pub task_text : Places → ℕ → ℕ → List ℕ
task_text places phase core =
    the_task ++ decimal core ++ codes " in phase " ++ decimal phase ++ declared_text (find (is_task_of phase core) places.tasks)

-- the code word at an address, if there is one
abbrev pub code_place_at : Places → ℕ → Option CodePlace
code_place_at places pc = if nat_le 0x1000 pc && pc % 4 == 0 then slice_get places.code ((pc - 0x1000) / 4) else None

-- a place in the code behind some words: the line of the code word, and its bytes
unfoldable pub place_behind : List ℕ → List ℕ → CodePlace → List ℕ
place_behind words text p = words ++ code_text p ++ codes ":" ++ newline ++ indent ++ quoted_line text p.line

abbrev pub place_if : List ℕ → List ℕ → Option CodePlace → List ℕ
place_if words text None = []
place_if words text (Some p) = place_behind words text p

-- the place of an address, behind some words; nothing if the address isn't known, or there is no code
abbrev pub known_place : List ℕ → List ℕ → Located → Option ℕ → List ℕ
known_place words text l None = []
known_place words text l (Some pc) = place_if words text (code_place_at l.places pc)

unfoldable pub ended_at : List ℕ
ended_at = codes " ended at "

abbrev pub line_at : List ℕ → Option CodePlace → List ℕ
line_at text (Some p) = place_behind ended_at text p
line_at text None = codes " ended where there is no code." ++ newline

-- what is wrong, with the value of the trap in the middle, and how to fix it
abbrev pub accesses_at : Option Access → List ℕ
accesses_at (Some Load) = codes "A load from the address "
accesses_at (Some Store) = codes "A store to the address "
accesses_at None = codes "A load or store at the address "

abbrev pub said_before : TrapKind → Option Access → List ℕ
said_before kind.TheVariants.Fetch a = codes "There is no code word at the address "
said_before kind.TheVariants.Illegal a = codes "The code word "
said_before kind.TheVariants.Target a = codes "A jump to the address "
said_before kind.TheVariants.Misaligned a = accesses_at a
said_before kind.TheVariants.Outside a = accesses_at a
said_before kind.TheVariants.Break a = codes "An `ebreak`"
said_before kind.TheVariants.Call a = codes "An `ecall` with "
said_before kind.TheVariants.NoLock a = codes "An `ecall` that asks for lock "
said_before kind.TheVariants.Held a = codes "The task acquires "
said_before kind.TheVariants.NotHeld a = codes "The task releases "
said_before kind.TheVariants.HeldEnd a = codes "The task ends while it holds "

abbrev pub said_behind : TrapKind → List ℕ
said_behind kind.TheVariants.Fetch = codes ": the task ran on behind its last instruction, or jumped out of the code."
said_behind kind.TheVariants.Illegal = codes " is no instruction."
said_behind kind.TheVariants.Target = codes ", which isn't a multiple of 4, as addresses of instructions are."
said_behind kind.TheVariants.Misaligned = codes ", which isn't a multiple of the width."
said_behind kind.TheVariants.Outside = codes " isn't allowed here."
said_behind kind.TheVariants.Break = codes " ends its task by a trap."
said_behind kind.TheVariants.Call = codes " in a7."
said_behind kind.TheVariants.NoLock = codes ", which the text doesn't declare."
said_behind kind.TheVariants.Held = codes ", which it holds already."
said_behind kind.TheVariants.NotHeld = codes ", which it doesn't hold."
said_behind kind.TheVariants.HeldEnd = codes "."

abbrev pub remedy : TrapKind → List ℕ
remedy kind.TheVariants.Fetch = codes "End the task by `li a7, 0` and `ecall`."
remedy kind.TheVariants.Illegal = codes "Only `.raw` makes such a word: write the instruction by its name."
remedy kind.TheVariants.Target = codes "Jump to a label."
remedy kind.TheVariants.Misaligned = codes "`lw` and `sw` need a multiple of 4, and `lh`, `lhu` and `sh` an even address."
remedy kind.TheVariants.Outside = codes "Declare the word by an effect behind the task's line, or correct the address."
remedy kind.TheVariants.Break = codes "Leave it out, or end the task by `li a7, 0` and `ecall`."
remedy kind.TheVariants.Call = codes "0 ends the task, 1 acquires the lock whose number is in a0, and 2 releases it."
remedy kind.TheVariants.NoLock = codes "Locks are numbered from 0 in the order of their `.lock` lines; the number is in a0."
remedy kind.TheVariants.Held = codes "Release it first, or leave this acquire out."
remedy kind.TheVariants.NotHeld = codes "Acquire it first, or leave this release out."
remedy kind.TheVariants.HeldEnd = codes "Release it first, by `li a7, 2` and `ecall` with its number in a0."

-- an address, and the word that it is in
unfoldable pub data_text : ProgramParts → ℕ → List ℕ
data_text p value = hexadecimal value ++ codes " (" ++ address_text p.regions value ++ codes ")"

-- the value of a trap, by its meaning
abbrev pub value_text : ProgramParts → TrapKind → ℕ → List ℕ
value_text p kind.TheVariants.Fetch value = hexadecimal value
value_text p kind.TheVariants.Illegal value = hexadecimal value
value_text p kind.TheVariants.Target value = hexadecimal value
value_text p kind.TheVariants.Misaligned value = data_text p value
value_text p kind.TheVariants.Outside value = data_text p value
value_text p kind.TheVariants.Break value = []
value_text p kind.TheVariants.Call value = decimal value
value_text p kind.TheVariants.NoLock value = decimal value
value_text p kind.TheVariants.Held value = lock_text p.locks value
value_text p kind.TheVariants.NotHeld value = lock_text p.locks value
value_text p kind.TheVariants.HeldEnd value = lock_text p.locks value

-- why a task trapped
unfoldable pub trap_text : ProgramParts → TrapKind → Option Access → ℕ → List ℕ
trap_text p k a value = indent ++ said_before k a ++ value_text p k value ++ said_behind k ++ newline

-- what to do
unfoldable pub remedy_text : TrapKind → List ℕ
remedy_text k = indent ++ remedy k ++ newline

-- how to fix a trap of the task of this core in this phase; and before that, where a load or store isn't allowed, why
abbrev pub mending_text : List ℕ → Located → ℕ → ℕ → TrapKind → Option Access → ℕ → List ℕ
mending_text text l phase core kind.TheVariants.Outside (Some a) value = outside_sentences text l phase core a value
mending_text text l phase core k a value = remedy_text k

abbrev pub trap_sentences : List ℕ → Located → ℕ → ℕ → TrapKind → Option Access → ℕ → List ℕ
trap_sentences text l phase core k a value = trap_text l.program k a value ++ mending_text text l phase core k a value

abbrev pub fuel_remedy : ℕ → List ℕ
fuel_remedy retired =
    if nat_lt retired 32768 then codes " If it only takes long, the option `--fuel` gives it more."
    else codes " It can't be given more instructions than that: if it only takes long, have several tasks share its work."

-- ---- where a task stands that hasn't ended

unfoldable pub its_next : List ℕ
its_next = codes "  Its next instruction is at "

unfoldable pub it_waits_at : List ℕ
it_waits_at = codes "  It waits at "

unfoldable pub it_acquired_it_at : List ℕ
it_acquired_it_at = codes "  It acquired it at "

unfoldable pub loop_on_line : ℕ → List ℕ
loop_on_line line = codes "  It is in the loop on line " ++ decimal line ++ codes "." ++ newline

unfoldable pub in_loop_from : List ℕ
in_loop_from = codes "  It is in the loop from line "

unfoldable pub loop_from_line : ℕ → ℕ → List ℕ
loop_from_line first last = in_loop_from ++ decimal first ++ codes " to line " ++ decimal last ++ codes "." ++ newline

abbrev pub loop_text : ℕ → ℕ → List ℕ
loop_text first last = if first == last then loop_on_line first else loop_from_line first last

-- the lines of a loop's head, and of the instruction that goes back to it
abbrev pub loop_between : Option CodePlace → Option CodePlace → List ℕ
loop_between (Some head) (Some back) = loop_text head.line back.line
loop_between (Some head) None = []
loop_between None back = []

abbrev pub loop_lines : Places → Option Loop → List ℕ
loop_lines places None = []
loop_lines places (Some l) = loop_between (code_place_at places l.head) (code_place_at places l.back)

-- the line of the next instruction, which has this address, and of the loop that it is in
abbrev pub next_text : List ℕ → Located → Option ℕ → List ℕ
next_text text l None = []
next_text text l (Some pc) = known_place its_next text l (Some pc) ++ loop_lines l.places (loop_around l.program.code pc)

unfoldable pub out_of_fuel : List ℕ
out_of_fuel = codes " has retired as many instructions as it may, and hasn't ended." ++ newline

unfoldable pub see_loop : List ℕ
see_loop = codes "  See whether its loop ends."

-- a task may retire 32,768 instructions at most. Its next instruction has this address, if that is known
unfoldable pub fuel_text : List ℕ → Located → Option ℕ → ℕ → List ℕ
fuel_text text l pc retired = out_of_fuel ++ next_text text l pc ++ see_loop ++ fuel_remedy retired ++ newline

unfoldable pub not_given_up : List ℕ
not_given_up = codes ", which isn't given up." ++ newline

unfoldable pub holds_it : List ℕ
holds_it = codes " holds this lock." ++ newline

unfoldable pub holder_untold : List ℕ
holder_untold = codes "  The grants in this answer don't tell which task holds the lock." ++ newline

-- which task of the phase holds a lock, if its core is known, and where it acquired it, if that is known
abbrev pub holder_text : List ℕ → Located → ℕ → Option ℕ → Option ℕ → List ℕ
holder_text text l phase (Some core) acquired = task_text l.places phase core ++ holds_it ++ known_place it_acquired_it_at text l acquired
holder_text text l phase None acquired = holder_untold

unfoldable pub wait_remedy : List ℕ
wait_remedy = indent ++ codes "Have each task release what it acquires, and all tasks acquire their locks in one order." ++ newline

unfoldable pub wait_text : ProgramParts → ℕ → List ℕ
wait_text p lock = codes " waits for " ++ lock_text p.locks lock ++ not_given_up

-- the sentences on how a task stands. Of a task that hasn't ended, `still` has what is known of where it stands, and of the task that
-- holds the lock for which it waits
abbrev pub end_sentences : List ℕ → Located → Standstill → ℕ → ℕ → ℕ → EndShown → List ℕ
end_sentences text l still phase core retired shown.TheVariants.Finished = []
end_sentences text l still phase core retired shown.TheVariants.Fuel = task_text l.places phase core ++ fuel_text text l still.pc retired
end_sentences text l still phase core retired (shown.TheVariants.Trap k at value) =
    task_text l.places phase core ++ line_at text (code_place_at l.places at)
    ++ trap_sentences text l phase core k (instruction_access l.program at) value
end_sentences text l still phase core retired (shown.TheVariants.Waits lock) =
    task_text l.places phase core ++ wait_text l.program lock.0 ++ known_place it_waits_at text l still.pc
    ++ holder_text text l phase still.holder still.acquired ++ wait_remedy

abbrev pub ending_text : List ℕ → Located → Standstill → TaskEnd → List ℕ
ending_text text l still t = end_sentences text l still t.phase.0 t.core.0 t.retired t.end
