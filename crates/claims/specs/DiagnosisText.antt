-- The lines that lead from a verdict to the fault.
use Rattle.std.specs.Prelude.{ℕ, zero, suc, ◌+◌, ◌-◌, ◌/◌, if◌then◌else◌, List, [], ◌++◌, codes, slice_get, Option, Some, None}
use Rattle.std.specs.Fmt.{decimal}
use Rattle.dn_base.specs.declared.ids.LoadSeen.{LoadSeen}
use Rattle.region_table.specs.declared.declared.Region.{Region}
use Rattle.rv_core.specs.Access.{is_held}
use Rattle.flat_machine.specs.declared.accesses.FlatAccess.{FlatAccess}
use Rattle.flat_machine.specs.declared.faults.GrantFault.{GrantFault}
use Rattle.flat_machine.specs.declared.faults.GrantFault as fault
use Rattle.text_pieces.specs.Pieces.{newline, space, hexadecimal}
use Rattle.text_pieces.specs.Field.{field}
use Rattle.text_places.specs.declared.places.CodePlace.{CodePlace}
use Rattle.text_places.specs.declared.places.Places.{Places}
use Rattle.text_places.specs.Lines.{numbered_line}
use Rattle.text_places.specs.Texts.{word_text}
use Rattle.claims.specs.declared.diagnosis.Diagnosis as diagnosis
use Rattle.claims.specs.declared.diagnosis.Diagnosis.{Diagnosis}
use Rattle.claims.specs.declared.diagnosis.TaskName.{TaskName}
use Rattle.claims.specs.declared.diagnosis.WrongLoad.{WrongLoad}
use Rattle.claims.specs.declared.verdict.LoadPlace.{LoadPlace}
use Rattle.claims.specs.Diagnosis.{load_by}
use Rattle.claims.specs.Verdict.{load_line, load_text}

-- ---- places of the text

abbrev pub line_bytes : Option (List ℕ) → List ℕ
line_bytes None = []
line_bytes (Some bytes) = bytes

unfoldable pub line_text_of : List ℕ → ℕ → List ℕ
line_text_of text line = codes " line " ++ decimal line ++ codes ": " ++ line_bytes (numbered_line text line)

abbrev pub line_of_code : List ℕ → Option CodePlace → List ℕ
line_of_code text None = []
line_of_code text (Some p) = line_text_of text p.line

-- the code words begin at the address 4096, and each has four bytes
abbrev pub place_of_code : Places → ℕ → Option CodePlace
place_of_code places pc = slice_get places.code ((pc - 4096) / 4)

-- an instruction by its address, and by the line of the text that it comes from
unfoldable pub at_text : List ℕ → Places → ℕ → List ℕ
at_text text places pc = codes "at " ++ hexadecimal pc ++ line_of_code text (place_of_code places pc) ++ newline

-- ---- a wrong load

abbrev pub load_place : FlatAccess → LoadPlace
load_place a = record { phase = a.phase; core = a.core; load = a.number }

unfoldable pub name_text : List Region → ℕ → List ℕ
name_text regions word = codes "name " ++ word_text regions word ++ newline

unfoldable pub claimed_text : Option LoadSeen → List ℕ
claimed_text claimed = codes "claimed " ++ load_text claimed ++ newline

unfoldable pub stored_text : List ℕ → Places → Option FlatAccess → List ℕ
stored_text text places None = codes "stored never" ++ newline
stored_text text places (Some a) = field (codes "stored phase ") space a.phase.0 ++ field (codes "core ") space a.core.0 ++ at_text text places a.pc

unfoldable pub line_of_held : ℕ → ℕ → List ℕ
line_of_held held lock = if is_held held lock then field (codes "holds ") newline lock else []

-- a line for each lock that is held, of so many locks from this one on
abbrev pub holds_from : ℕ → ℕ → ℕ → List ℕ
holds_from zero lock held = []
holds_from (suc n) lock held = line_of_held held lock ++ holds_from n (lock + 1) held

abbrev pub holds_text : ℕ → List ℕ
holds_text held = holds_from 32 0 held

unfoldable pub wrong_text : List ℕ → List Region → Places → WrongLoad → List ℕ
wrong_text text regions places w =
    load_line (codes "earliest ") (load_place w.load) (Some (load_by w.load))
    ++ claimed_text w.claimed
    ++ name_text regions w.load.word.0
    ++ at_text text places w.load.pc
    ++ field (codes "after grants ") newline w.grants
    ++ stored_text text places w.stored
    ++ holds_text w.load.held

-- ---- all diagnoses

unfoldable pub fault_text : GrantFault → List ℕ
fault_text fault.TheVariants.Over = codes "over"
fault_text (fault.TheVariants.Phase current) = codes "phase " ++ decimal current.0
fault_text fault.TheVariants.NoTask = codes "no-task"
fault_text fault.TheVariants.Ended = codes "ended"
fault_text (fault.TheVariants.Waits lock) = codes "waits " ++ decimal lock.0
fault_text (fault.TheVariants.Held core) = codes "held-by " ++ decimal core.0
fault_text (fault.TheVariants.Unfinished core lock) = codes "unfinished " ++ decimal core.0 ++ space ++ decimal lock.0

unfoldable pub because_text : Option GrantFault → List ℕ
because_text None = []
because_text (Some f) = codes "because " ++ fault_text f ++ newline

unfoldable pub task_line : Option TaskName → List ℕ
task_line None = []
task_line (Some t) = field (codes "task ") space t.phase.0 ++ field [] newline t.core.0

abbrev pub earliest_text : List ℕ → List Region → Places → Option WrongLoad → List ℕ
earliest_text text regions places None = codes "earliest none" ++ newline
earliest_text text regions places (Some w) = wrong_text text regions places w

unfoldable pub claimed_line : Option (List ℕ) → List ℕ
claimed_line None = codes "claimed nothing" ++ newline
claimed_line (Some line) = codes "claimed " ++ line ++ newline

-- the lines of a diagnosis, by the regions and places of the text
unfoldable pub diagnosis_text : List ℕ → List Region → Places → Diagnosis → List ℕ
diagnosis_text text regions places diagnosis.TheVariants.Agrees = []
diagnosis_text text regions places (diagnosis.TheVariants.Grants because) = because_text because
diagnosis_text text regions places (diagnosis.TheVariants.Tasks started first) = field (codes "tasks ") newline started ++ task_line first
diagnosis_text text regions places (diagnosis.TheVariants.Load first) = earliest_text text regions places first
diagnosis_text text regions places (diagnosis.TheVariants.Answer claimed) = claimed_line claimed
