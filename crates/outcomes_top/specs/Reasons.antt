-- Why an answer is open: the register on which control depends and the load that its value comes from; and the acquires of a lock with
-- which a task ends, or that is on a circle.
use Rattle.std.specs.Prelude.{ℕ, zero, suc, ◌+◌, ◌<◌, ◌≡◌, ◌==◌, nat_lt, Bool, true, false, ◌&&◌, not, if◌then◌else◌, List, [], ◌∷◌, ◌++◌, map, flat_map, replicate, slice_index, slice_index_or, slice_set, Option, Some, None, is_none, option_map}
use Rattle.std.specs.List.{find, list_all}
use Rattle.std.specs.Option.{option_or}
use Rattle.region_table.specs.Program.{ProgramParts}
use Rattle.region_table.specs.Plan.{task_guards}
use Rattle.region_table.specs.declared.declared.TaskDecl.{TaskDecl}
use Rattle.region_table.specs.declared.declared.Phase.{Phase}
use Rattle.rv_isa.specs.declared.instr.Instr.{Instr}
use Rattle.rv_isa.specs.declared.instr.Instr as instr
use Rattle.rv_core.specs.Access.{is_held}
use Rattle.rv_core.specs.Need.{need_of}
use Rattle.rv_core.specs.Next.{instr_within}
use Rattle.rv_core.specs.declared.need.Need.{Need}
use Rattle.rv_core.specs.declared.need.Need.TheVariants.{Load, Acquire, End}
use Rattle.common_outcomes.specs.declared.value.Kind.{Kind}
use Rattle.common_outcomes.specs.declared.value.Value.{Value}
use Rattle.common_outcomes.specs.declared.answer.Open.{Open}
use Rattle.common_outcomes.specs.declared.answer.Open.TheVariants.{Control, Held, Stuck}
use Rattle.common_outcomes.specs.Values.{known, is_known, register_kind}
use Rattle.common_outcomes.specs.Alone.{Setup, Alone, seen, is_settled_next, alone_step, start_alone, alone}
use Rattle.common_outcomes.specs.Phases.{Summary, setup, summaries, after_from, leads_to}
use Rattle.common_outcomes.specs.Answer.{locks_up_to, open_of, has_ended_well}
use Rattle.outcomes_top.specs.declared.phase.Progress.{Progress}
use Rattle.outcomes_top.specs.declared.phase.Progress as progress
use Rattle.outcomes_top.specs.declared.reasons.Read.{Read}
use Rattle.outcomes_top.specs.declared.reasons.Dependence.{Dependence}
use Rattle.outcomes_top.specs.declared.reasons.Taking.{Taking}
use Rattle.outcomes_top.specs.declared.reasons.Taken.{Taken}
use Rattle.outcomes_top.specs.declared.reasons.Sought.{Sought}
use Rattle.outcomes_top.specs.declared.reasons.Sought.TheVariants.{Own, Other, Onward, Back}
use Rattle.outcomes_top.specs.declared.reasons.Reason.{Reason}

-- whether the task alone makes one more instruction
abbrev pub makes_one : Setup → Alone → Bool
makes_one S a = is_none a.state.end && is_settled_next S a

-- ---- where the value of a register comes from

-- the least lock that is held and guards the word for the task
abbrev pub is_guard : TaskDecl → ℕ → ℕ → ℕ → Bool
is_guard d held w k = is_held held k && task_guards d k w

abbrev pub guard_of : TaskDecl → ℕ → ℕ → Option ℕ
guard_of d held w = find (is_guard d held w) locks_up_to

-- a load of a word of which not all is known
abbrev pub read_of : Setup → Alone → ℕ → Option Read
read_of S a w =
    if is_known (seen S a.cells w).kind then None else Some (record { pc = a.state.pc; word = record { 0 = w }; lock = guard_of S.decl a.state.held w })

-- for each register the load that its value comes from, if not all is known of it
abbrev pub origin_read : List (Option Read) → ℕ → Option Read
origin_read os r = if r == 0 then None else slice_index_or os r None

abbrev pub written_origin : List (Option Read) → ℕ → Option Read → List (Option Read)
written_origin os rd o = if rd == 0 then os else slice_set os rd o

-- a result that is computed comes from where its first operand does, or else the second
abbrev pub origins_after : List (Option Read) → Instr → List (Option Read)
origins_after os (instr.TheVariants.Lui rd imm) = written_origin os rd None
origins_after os (instr.TheVariants.Auipc rd imm) = written_origin os rd None
origins_after os (instr.TheVariants.Jal rd offset) = written_origin os rd None
origins_after os (instr.TheVariants.Jalr rd base offset) = written_origin os rd None
origins_after os (instr.TheVariants.OpImm op rd a imm) = written_origin os rd (origin_read os a)
origins_after os (instr.TheVariants.Op op rd a b) = written_origin os rd (option_or (origin_read os a) (origin_read os b))
origins_after os _ = os

abbrev pub origins_fetched : List (Option Read) → Option Instr → List (Option Read)
origins_fetched os None = os
origins_fetched os (Some i) = origins_after os i

abbrev pub origins_loaded : List (Option Read) → Option Read → Option Instr → List (Option Read)
origins_loaded os o (Some (instr.TheVariants.Load width rd base offset)) = written_origin os rd o
origins_loaded os o _ = os

abbrev pub origins_by : Setup → Alone → List (Option Read) → Need → Option Instr → List (Option Read)
origins_by S a os (Load word) i = origins_loaded os (read_of S a word.0) i
origins_by S a os (End cause) i = os
origins_by S a os _ i = origins_fetched os i

abbrev pub origins_step : Setup → Alone → List (Option Read) → List (Option Read)
origins_step S a os =
    if makes_one S a then origins_by S a os (need_of S.program S.decl S.fuel a.state) (instr_within S.program S.fuel a.state) else os

abbrev pub origins_from : Setup → ℕ → Alone → List (Option Read) → List (Option Read)
origins_from S zero a os = os
origins_from S (suc n) a os = origins_from S n (alone_step S a) (origins_step S a os)

unfoldable pub origins_alone : Setup → List (Option Read)
origins_alone S = origins_from S (suc S.fuel) (start_alone S) (replicate 32 None)

-- ---- what control depends on

abbrev pub if_open : List Kind → ℕ → Option ℕ
if_open kinds r = if is_known (register_kind kinds r) then None else Some r

-- the first register that decides what an instruction needs, or where it leads, and of which not all is known
abbrev pub first_open : List Kind → Option Instr → Option ℕ
first_open kinds (Some (instr.TheVariants.Jalr rd base offset)) = if_open kinds base
first_open kinds (Some (instr.TheVariants.Branch test a b offset)) = option_or (if_open kinds a) (if_open kinds b)
first_open kinds (Some (instr.TheVariants.Load width rd base offset)) = if_open kinds base
first_open kinds (Some (instr.TheVariants.Store width src base offset)) = if_open kinds base
first_open kinds (Some instr.TheVariants.Ecall) = option_or (if_open kinds 17) (if_open kinds 10)
first_open kinds _ = None

abbrev pub depends_on : List (Option Read) → Option ℕ → Option Dependence
depends_on os None = None
depends_on os (Some r) = option_map (λ (read : Read). record { register = r; read = read }) (origin_read os r)

-- of a task whose control is open
abbrev pub dependence_by : Setup → Alone → List (Option Read) → Option Dependence
dependence_by S a os = if is_none a.state.end then depends_on os (first_open a.kinds (instr_within S.program S.fuel a.state)) else None

abbrev pub dependence_of : Setup → Option Dependence
dependence_of S = dependence_by S (alone S) (origins_alone S)

-- of the first of these tasks that is the core's
abbrev pub dependence_among : ProgramParts → ℕ → Phase → List Value → ℕ → List TaskDecl → Option Dependence
dependence_among P fuel p first core [] = None
dependence_among P fuel p first core (d ∷ ds) =
    if d.core.0 == core then dependence_of (setup P fuel p first d) else dependence_among P fuel p first core ds

-- ---- acquires

abbrev pub taking_by : Setup → Alone → Need → List Taking
taking_by S a (Acquire lock) = record { core = S.decl.core; pc = a.state.pc; lock = lock; held = a.state.held } ∷ []
taking_by S a _ = []

abbrev pub taken_at : Setup → Alone → List Taking
taken_at S a = if makes_one S a then taking_by S a (need_of S.program S.decl S.fuel a.state) else []

abbrev pub takings_from : Setup → ℕ → Alone → List Taking
takings_from S zero a = []
takings_from S (suc n) a = taken_at S a ++ takings_from S n (alone_step S a)

-- the acquires of the task alone, in their order
unfoldable pub takings_of : Setup → List Taking
takings_of S = takings_from S (suc S.fuel) (start_alone S)

-- those of all tasks of a phase, one task after the other
abbrev pub takings_in : ProgramParts → ℕ → Phase → List Value → List Taking
takings_in P fuel p first = flat_map (λ (d : TaskDecl). takings_of (setup P fuel p first d)) p.tasks

abbrev pub holds : ℕ → ℕ → Bool
holds locks k = nat_lt k 32 && is_held locks k

-- whether a way leads from one lock to the other
abbrev pub is_way : List Summary → ℕ → ℕ → Bool
is_way rs from to = nat_lt from 32 && (nat_lt to 32 && leads_to rs from to)

-- rows of bits tell where ways lead
abbrev pub AreRows : List Summary → List ℕ → Type 0
AreRows rs rows = (a b : ℕ) → a < 32 → b < 32 → is_held (slice_index rows a) b ≡ leads_to rs a b

abbrev pub taken : Taking → Option ℕ → Taken
taken t holding = record { core = t.core; pc = t.pc; lock = t.lock; holding = holding }

-- an acquire, if it is one that is sought: of the lock by this core or by another one; or of a lock from which a way leads to this one,
-- while this one is held; or of this lock while another one is held to which a way leads from it
abbrev pub sought_in : List Summary → Sought → Taking → Option Taken
sought_in rs (Own core lock) t = if t.core.0 == core.0 && t.lock.0 == lock.0 then Some (taken t None) else None
sought_in rs (Other core lock) t = if not (t.core.0 == core.0) && t.lock.0 == lock.0 then Some (taken t None) else None
sought_in rs (Onward lock) t = if holds t.held lock.0 && is_way rs t.lock.0 lock.0 then Some (taken t (Some lock.0)) else None
sought_in rs (Back lock) t =
    if t.lock.0 == lock.0 then option_map (λ (k : ℕ). taken t (Some k)) (find (λ (k : ℕ). is_held t.held k && is_way rs lock.0 k) locks_up_to) else None

-- the last of some acquires that is sought
abbrev pub last_sought : List Summary → Sought → List Taking → Option Taken
last_sought rs s [] = None
last_sought rs s (t ∷ ts) = option_or (last_sought rs s ts) (sought_in rs s t)

-- ---- the reason

abbrev pub by_takings : ProgramParts → ℕ → Phase → List Value → Open → Sought → Sought → Reason
by_takings P fuel p first why one two =
    record {
      why = why;
      dependence = None;
      first = last_sought (summaries P fuel p first) one (takings_in P fuel p first);
      second = last_sought (summaries P fuel p first) two (takings_in P fuel p first);
    }

-- of a phase that is open so
abbrev pub reason_in : ProgramParts → ℕ → Phase → List Value → Open → Reason
reason_in P fuel p first (Control phase core pc) =
    record { why = Control phase core pc; dependence = dependence_among P fuel p first core.0 p.tasks; first = None; second = None }
reason_in P fuel p first (Held phase core lock) = by_takings P fuel p first (Held phase core lock) (Own core lock) (Other core lock)
reason_in P fuel p first (Stuck phase lock) = by_takings P fuel p first (Stuck phase lock) (Onward lock) (Back lock)

abbrev pub reason_by : Option Open → Bool → (Open → Reason) → Option Reason → Option Reason
reason_by (Some why) finished here later = Some (here why)
reason_by None false here later = None
reason_by None true here later = later

-- the phases from number `phase` on, as the answer goes
abbrev pub reason_from : ProgramParts → ℕ → ℕ → List Phase → List Value → Option Reason
reason_from P fuel phase [] memory = None
reason_from P fuel phase (p ∷ left) memory =
    let rs = summaries P fuel p memory in
    reason_by (open_of phase rs) (list_all has_ended_well rs) (reason_in P fuel p memory) (reason_from P fuel (phase + 1) left (after_from 0 rs memory))

-- why the answer of a program and a fuel is open
unfoldable pub reason_of : ProgramParts → ℕ → Option Reason
reason_of P fuel = reason_from P fuel 0 P.phases (map known P.memory)

-- the reason after a phase: it is open, or the run is over, or the phases that are left decide
abbrev pub reason_after : Progress → ProgramParts → ℕ → ℕ → Phase → List Phase → List Value → Option Reason
reason_after (progress.TheVariants.Open why) P fuel phase p left memory = Some (reason_in P fuel p memory why)
reason_after progress.TheVariants.Over P fuel phase p left memory = None
reason_after progress.TheVariants.Goes P fuel phase p left memory = reason_from P fuel (phase + 1) left memory
