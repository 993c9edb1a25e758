-- What the page's data tell of the machine and its program.
use Rattle.std.specs.Prelude.{ℕ, ◌+◌, ◌==◌, Bool, true, false, List, [], ◌∷◌, ◌++◌, codes, flat_map, length, slice_get, Option, Some, None, if◌then◌else◌}
use Rattle.std.specs.Fmt.{decimal}
use Rattle.src_text.specs.Laws.{ended}
use Rattle.region_table.specs.declared.declared.Phase.{Phase}
use Rattle.region_table.specs.declared.declared.Region.{Region}
use Rattle.region_table.specs.declared.declared.TaskDecl.{TaskDecl}
use Rattle.region_table.specs.declared.interval.Interval.{Interval}
use Rattle.region_table.specs.declared.plan.PhasePlan.{PhasePlan}
use Rattle.region_table.specs.Program.{ProgramParts}
use Rattle.registration_protocol.specs.Node.{Setting}
use Rattle.rv_listing.specs.Instruction.{code_line}
use Rattle.page_data.specs.Json.{gap, string_text, list_text, further_all}

-- the machine's size, the fuel, and the number of data words
unfoldable pub size_text : Setting → List ℕ
size_text C =
    codes ",\"cores\":" ++ (decimal C.shape.cores
    ++ (codes ",\"banks\":" ++ (decimal C.shape.banks
    ++ (codes ",\"sets\":" ++ (decimal C.shape.sets
    ++ (codes ",\"ways\":" ++ (decimal C.shape.ways
    ++ (codes ",\"fuel\":" ++ (decimal C.fuel
    ++ (codes ",\"words\":" ++ decimal (length C.program.memory)))))))))))

-- two numbers
unfoldable pub pair_text : ℕ → ℕ → List ℕ
pair_text a b = codes "[" ++ (decimal a ++ (further_all (b ∷ []) ++ codes "]"))

-- the initial values that aren't 0 of the words from one on
abbrev pub value_texts : Bool → ℕ → List ℕ → List ℕ
value_texts first w [] = []
value_texts first w (value ∷ values) =
    if value == 0 then value_texts first (w + 1) values else gap first ++ (pair_text w value ++ value_texts false (w + 1) values)

unfoldable pub value_list : List ℕ → List ℕ
value_list memory = codes "[" ++ (value_texts true 0 memory ++ codes "]")

unfoldable pub values_text : List ℕ → List ℕ
values_text memory = codes ",\"memory\":" ++ value_list memory

-- the name, the first word and the length of a region
unfoldable pub region_text : Region → List ℕ
region_text r = codes "[" ++ (string_text r.name ++ (further_all (r.start ∷ r.len ∷ []) ++ codes "]"))

-- a set of words, as the intervals that it is
abbrev pub interval_pair : Interval → List ℕ
interval_pair i = pair_text i.lo i.hi

abbrev pub words_text : List Interval → List ℕ
words_text set = list_text interval_pair set

-- the core, the entry and the argument of a task
unfoldable pub task_item : TaskDecl → List ℕ
task_item t = codes "[" ++ (decimal t.core.0 ++ (further_all (t.entry ∷ t.arg ∷ []) ++ codes "]"))

unfoldable pub tasks_field : Phase → List ℕ
tasks_field p = codes "{\"tasks\":" ++ list_text task_item p.tasks

unfoldable pub written_field : PhasePlan → List ℕ
written_field plan = codes ",\"written\":" ++ words_text plan.written

unfoldable pub guarded_field : PhasePlan → List ℕ
guarded_field plan = codes ",\"guarded\":" ++ list_text words_text plan.guarded

-- the words that a phase may write, in whole regions, and those that each lock guards in it; every phase of a machine has a plan
abbrev pub plan_fields : Option PhasePlan → List ℕ
plan_fields None = []
plan_fields (Some plan) = written_field plan ++ guarded_field plan

-- the tasks of a phase, and its plan
unfoldable pub phase_object : Phase → Option PhasePlan → List ℕ
phase_object p plan = tasks_field p ++ (plan_fields plan ++ codes "}")

-- the phases from one on, with the plans of all phases
abbrev pub phase_objects : Bool → List PhasePlan → ℕ → List Phase → List ℕ
phase_objects first plans number [] = []
phase_objects first plans number (p ∷ ps) =
    gap first ++ (phase_object p (slice_get plans number) ++ phase_objects false plans (number + 1) ps)

unfoldable pub phase_list : List Phase → List PhasePlan → List ℕ
phase_list phases plans = codes "[" ++ (phase_objects true plans 0 phases ++ codes "]")

unfoldable pub phases_text : List Phase → List PhasePlan → List ℕ
phases_text phases plans = codes ",\"phases\":" ++ phase_list phases plans

-- each code word as a listing writes it, on a line of its own
abbrev pub code_lines : List ℕ → List ℕ
code_lines code = flat_map (λ (w : ℕ). ended (code_line w)) code

unfoldable pub regions_field : ProgramParts → List ℕ
regions_field P = codes ",\"regions\":" ++ list_text region_text P.regions

unfoldable pub locks_field : ProgramParts → List ℕ
locks_field P = codes ",\"locks\":" ++ list_text string_text P.locks

unfoldable pub code_field : ProgramParts → List ℕ
code_field P = codes ",\"code\":" ++ string_text (code_lines P.code)

unfoldable pub source_field : List ℕ → List ℕ
source_field source = codes ",\"source\":" ++ string_text source

-- the program, and its text
unfoldable pub program_text : Setting → List ℕ → List ℕ
program_text C source =
    values_text C.program.memory
    ++ (regions_field C.program ++ (locks_field C.program ++ (phases_text C.program.phases C.plans ++ (code_field C.program ++ source_field source))))
