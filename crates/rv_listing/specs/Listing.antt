-- The listing of a program: the source text that is printed for it, line by line.
use Rattle.std.specs.Prelude.{ℕ, Bool, true, false, ◌+◌, ◌-◌, ◌==◌, min, max, nat_lt, List, [], ◌∷◌, ◌++◌, length, map, filter_map, flat_map, slice_range, slice_index_or, Option, Some, None, codes, if◌then◌else◌}
use Rattle.std.specs.Fmt.{decimal}
use Rattle.src_text.specs.Laws.{ended}
use Rattle.region_table.specs.declared.interval.Interval.{Interval}
use Rattle.region_table.specs.declared.declared.Region.{Region}
use Rattle.region_table.specs.declared.declared.Effects.{Effects}
use Rattle.region_table.specs.declared.declared.TaskDecl.{TaskDecl}
use Rattle.region_table.specs.declared.declared.Phase.{Phase}
use Rattle.region_table.specs.declared.program.TheConstants.{FIRST_CODE_ADDRESS}
use Rattle.region_table.specs.Program.{ProgramParts}
use Rattle.rv_listing.specs.Statement.{hexadecimal, statement}
use Rattle.rv_listing.specs.Instruction.{addressed_line, code_line}

-- lines one after the other, each with its newline
abbrev pub text_of : List (List ℕ) → List ℕ
text_of lines = flat_map ended lines

-- the version line, which only a program with more than 256 regions has
abbrev pub version_lines : List Region → List (List ℕ)
version_lines regions = if nat_lt 256 (length regions) then statement (codes ".version") (codes "2" ∷ []) ∷ [] else []

unfoldable pub region_line : Region → List ℕ
region_line r = statement (codes ".region") (r.name ∷ decimal r.len ∷ [])

-- the first value of a word of a region
unfoldable pub value_line : List ℕ → ℕ → ℕ → List ℕ
value_line name index value = statement (codes ".word") (name ∷ decimal index ∷ hexadecimal value ∷ [])

-- the first values of a region's words from an index on; a word with the value 0 has no line
abbrev pub value_lines : List ℕ → ℕ → List ℕ → List (List ℕ)
value_lines name index [] = []
value_lines name index (v ∷ vs) = (if v == 0 then [] else value_line name index v ∷ []) ++ value_lines name (index + 1) vs

abbrev pub region_values : List ℕ → Region → List (List ℕ)
region_values memory r = value_lines r.name 0 (slice_range memory r.start (r.start + r.len))

unfoldable pub lock_line : List ℕ → List ℕ
lock_line name = statement (codes ".lock") (name ∷ [])

-- words of a region that a task uses, under a lock or without one
unfoldable pub use_line : List ℕ → Option (List ℕ) → List ℕ → ℕ → ℕ → List ℕ
use_line word None region lo hi = statement word (region ∷ decimal lo ∷ decimal hi ∷ [])
use_line word (Some lock) region lo hi = statement word (lock ∷ region ∷ decimal lo ∷ decimal hi ∷ [])

-- the part of an interval that lies in a region, if there is one; words are counted from the region's first
abbrev pub part_line : List ℕ → Option (List ℕ) → Interval → Region → Option (List ℕ)
part_line word lock i r =
    let lo = max i.lo r.start in
    let hi = min i.hi (r.start + r.len) in
    if nat_lt lo hi then Some (use_line word lock r.name (lo - r.start) (hi - r.start)) else None

-- an interval is cut at the borders of the regions
abbrev pub interval_lines : List ℕ → Option (List ℕ) → List Region → Interval → List (List ℕ)
interval_lines word lock regions i = filter_map (part_line word lock i) regions

abbrev pub set_lines : List ℕ → Option (List ℕ) → List Region → List Interval → List (List ℕ)
set_lines word lock regions set = flat_map (interval_lines word lock regions) set

-- what a task uses under a lock
abbrev pub guarded_lines : List Region → Effects → ℕ → List ℕ → List (List ℕ)
guarded_lines regions e number lock =
    set_lines (codes ".greads") (Some lock) regions (slice_index_or e.guarded_reads number [])
    ++ set_lines (codes ".gwrites") (Some lock) regions (slice_index_or e.guarded_writes number [])

-- the same for the locks from a number on
abbrev pub all_guarded_lines : List Region → Effects → ℕ → List (List ℕ) → List (List ℕ)
all_guarded_lines regions e number [] = []
all_guarded_lines regions e number (l ∷ ls) = guarded_lines regions e number l ++ all_guarded_lines regions e (number + 1) ls

abbrev pub effect_lines : List Region → List (List ℕ) → Effects → List (List ℕ)
effect_lines regions locks e =
    set_lines (codes ".reads") None regions e.reads ++ (set_lines (codes ".writes") None regions e.writes ++ all_guarded_lines regions e 0 locks)

-- the core, the entry and the argument of a task
unfoldable pub task_line : TaskDecl → List ℕ
task_line t = statement (codes ".task") (decimal t.core.0 ∷ hexadecimal t.entry ∷ hexadecimal t.arg ∷ [])

abbrev pub task_lines : List Region → List (List ℕ) → TaskDecl → List (List ℕ)
task_lines regions locks t = task_line t ∷ effect_lines regions locks t.effects

abbrev pub phase_lines : List Region → List (List ℕ) → Phase → List (List ℕ)
phase_lines regions locks p = statement (codes ".phase") [] ∷ flat_map (task_lines regions locks) p.tasks

-- the version, the regions, the first values, the locks, the phases with their tasks, and then these lines of the code
abbrev pub lines_with : List (List ℕ) → ProgramParts → List (List ℕ)
lines_with code p =
    version_lines p.regions
    ++ (map region_line p.regions
    ++ (flat_map (region_values p.memory) p.regions
    ++ (map lock_line p.locks ++ (flat_map (phase_lines p.regions p.locks) p.phases ++ code))))

-- the version, the regions, the first values, the locks, the phases with their tasks, and the code
unfoldable pub listed_lines : ProgramParts → List (List ℕ)
listed_lines p = lines_with (map code_line p.code) p

-- the listing of a program
abbrev pub listing_of : ProgramParts → List ℕ
listing_of p = text_of (listed_lines p)

-- ---- with addresses

-- the lines of code words that follow each other from an address on
abbrev pub addressed_lines : ℕ → List ℕ → List (List ℕ)
addressed_lines address [] = []
addressed_lines address (w ∷ ws) = addressed_line address w ∷ addressed_lines (address + 4) ws

-- the lines of the code, with addresses or without
abbrev pub code_lines : Bool → List ℕ → List (List ℕ)
code_lines false code = map code_line code
code_lines true code = addressed_lines FIRST_CODE_ADDRESS code

-- the listing of a program with the address of each code word; the first one's is 0x1000
unfoldable pub listed_lines_with_addresses : ProgramParts → List (List ℕ)
listed_lines_with_addresses p = lines_with (addressed_lines FIRST_CODE_ADDRESS p.code) p

abbrev pub listing_with_addresses : ProgramParts → List ℕ
listing_with_addresses p = text_of (listed_lines_with_addresses p)

-- the listing, with addresses or without
abbrev pub listing_in : Bool → ProgramParts → List ℕ
listing_in false p = listing_of p
listing_in true p = listing_with_addresses p
