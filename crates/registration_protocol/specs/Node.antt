-- A node, and what the node and its context say of its task.
use Rattle.std.specs.Prelude.{ℕ, Bool, true, false, ◌||◌, ◌==◌, not, List, [], length, replicate, slice_index_or, Option, Some, None, if◌then◌else◌}
use Rattle.std.specs.Option.{option_map, is_some}
use Rattle.dn_base.specs.declared.ids.Shape.{Shape}
use Rattle.region_table.specs.declared.declared.TaskDecl.{TaskDecl}
use Rattle.region_table.specs.declared.plan.PhasePlan.{PhasePlan}
use Rattle.region_table.specs.Program.{ProgramParts}
use Rattle.region_table.specs.Tasks.{declared}
use Rattle.rv_core.specs.declared.task.TaskState.{TaskState}
use Rattle.rv_core.specs.declared.need.Need.{Need}
use Rattle.rv_core.specs.Need.{need_of}
use Rattle.rv_core.specs.Task.{started}
use Rattle.write_signature.specs.declared.signature.Signature.{Signature}
use Rattle.write_signature.specs.Signature.{empty}
use Rattle.word_cache.specs.declared.row.Entry.{Entry}
use Rattle.word_cache.specs.Cache.{Cache, with_pairs, Pair, lookup, pending_count}
use Rattle.registration_protocol.specs.declared.node.NodeWait as wait
use Rattle.registration_protocol.specs.declared.node.NodeWait.{NodeWait}

-- a node: its core, its phase, its task in the phase if there is one, its cache, what it waits for, a signature for each lock,
-- and whether it has arrived at the barrier and is halted
pub record NodeParts : Type 0 where
  pub core : ℕ
  pub phase : ℕ
  pub task : Option TaskState
  pub cache : Cache
  pub waiting : NodeWait
  pub signatures : List Signature
  pub arrived : Bool
  pub halted : Bool

-- what a node's calls are given: the program, the plans of its phases, the machine's size, and how many instructions a task may
-- retire
pub record Setting : Type 0 where
  pub program : ProgramParts
  pub plans : List PhasePlan
  pub shape : Shape
  pub fuel : ℕ

-- whether a task is running: it has started and hasn't ended
abbrev pub is_running : Option TaskState → Bool
is_running None = false
is_running (Some t) = not (is_some t.end)

-- what the next instruction of a task that hasn't ended needs
abbrev pub need_by : Setting → Option TaskDecl → TaskState → Option Need
need_by C None t = None
need_by C (Some d) t = Some (need_of C.program d C.fuel t)

abbrev pub need_if : Setting → ℕ → ℕ → Option TaskState → Option Need
need_if C phase core None = None
need_if C phase core (Some t) = if is_some t.end then None else need_by C (declared C.program phase core) t

abbrev pub need_now : Setting → NodeParts → Option Need
need_now C n = need_if C n.phase n.core n.task

-- the entry of a word
abbrev pub entry_of : NodeParts → ℕ → Option Entry
entry_of n w = lookup w n.cache.pairs

-- whether no entry is pending
abbrev pub is_settled : NodeParts → Bool
is_settled n = pending_count n.cache.pairs == 0

-- whether the node makes events by itself
abbrev pub is_active : NodeParts → Bool
is_active n = not (n.halted || n.arrived)

-- whether the wait allows the next instruction: the node waits for nothing, or the word has come
abbrev pub is_ready : NodeWait → Bool
is_ready wait.TheVariants.None = true
is_ready (wait.TheVariants.Filled word) = true
is_ready _ = false

abbrev pub waits_for_nothing : NodeWait → Bool
waits_for_nothing wait.TheVariants.None = true
waits_for_nothing _ = false

-- the node whose cache has these pairs
abbrev pub keeping : NodeParts → List Pair → NodeParts
keeping n ps = record n { cache = with_pairs n.cache ps }

-- the signature that a node has for a lock
abbrev pub signature_of : NodeParts → ℕ → Signature
signature_of n lock = slice_index_or n.signatures lock (empty n.phase)

-- a node when a run begins: in phase 0 with its task, or halted if there are no phases
abbrev pub initial_node : Setting → ℕ → NodeParts
initial_node C core =
    record {
      core = core;
      phase = 0;
      task = option_map started (declared C.program 0 core);
      cache = record { sets = C.shape.sets; ways = C.shape.ways; pairs = [] };
      waiting = wait.TheVariants.None;
      signatures = replicate (length C.program.locks) (empty 0);
      arrived = false;
      halted = length C.program.phases == 0;
    }
