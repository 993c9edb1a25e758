-- The barrier between phases: which cores have arrived, and what its keeper answers. The definitions after `keeper_gets` are
-- for laws.
use Rattle.std.specs.Prelude.{◌≡◌, ℕ, ◌+◌, ◌<◌, ◌≤◌, Bool, true, false, ◌||◌, ◌&&◌, not, nat_le, List, length, replicate, slice_get, slice_set, Option, Some, None, if◌then◌else◌, count_by}
use Rattle.std.specs.List.{list_all}
use Rattle.message_net.specs.declared.message.Message.{Message}
use Rattle.message_net.specs.declared.message.Message.TheVariants.{Arrived}
use Rattle.phase_barrier.specs.declared.keeper.Verdict.{Verdict}
use Rattle.phase_barrier.specs.declared.keeper.Verdict.TheVariants.{Wait, Go, Halt}

-- what the keeper knows: the number of phases, the current phase, for each core whether it has arrived in it, and whether some
-- core that has arrived was bad: its task trapped or ran out of fuel
pub record Barrier : Type 0 where
  pub phases : ℕ
  pub phase : ℕ
  pub arrived : List Bool
  pub bad : Bool

-- the first phase begins, and nobody has arrived
abbrev pub initial_barrier : ℕ → ℕ → Barrier
initial_barrier cores phases = record { phases = phases; phase = 0; arrived = replicate cores false; bad = false }

-- whether every core has arrived
abbrev pub all_arrived : Barrier → Bool
all_arrived k = list_all (λ (a : Bool). a) k.arrived

-- whether the run ends when every core has arrived: one was bad, or there is no next phase
abbrev pub is_over : Barrier → Bool
is_over k = k.bad || nat_le k.phases (k.phase + 1)

-- the next phase begins, and nobody has arrived
abbrev pub in_next_phase : Barrier → Barrier
in_next_phase k = record k { phase = k.phase + 1; arrived = replicate (length k.arrived) false }

-- the answer once every core has arrived
abbrev pub answer_to_all : Barrier → Barrier × Verdict
answer_to_all k = if is_over k then (k, Halt) else (in_next_phase k, Go (record { 0 = k.phase + 1 }))

-- the answer to a core that is counted: it waits while another core is missing
abbrev pub decided : Barrier → Barrier × Verdict
decided k = if all_arrived k then answer_to_all k else (k, Wait)

-- the core has arrived, and it may have been bad
abbrev pub with_arrival : ℕ → Bool → Barrier → Barrier
with_arrival core bad k = record k { arrived = slice_set k.arrived core true; bad = k.bad || bad }

-- an arrival, by what is known of its core: there is no such core, it has arrived already, or it is new
abbrev pub on_arrival : Barrier → ℕ → Bool → Option Bool → Barrier × Verdict
on_arrival k core bad None = (k, Wait)
on_arrival k core bad (Some true) = (k, Wait)
on_arrival k core bad (Some false) = decided (with_arrival core bad k)

abbrev pub keeper_arrives : Barrier → ℕ → Bool → Barrier × Verdict
keeper_arrives k core bad = on_arrival k core bad (slice_get k.arrived core)

-- what the keeper does with a message, and its verdict: a message of any other kind than an arrival changes nothing
unfoldable pub keeper_gets : Barrier → Message → Barrier × Verdict
keeper_gets k (Arrived core bad) = keeper_arrives k core.0 bad
keeper_gets k _ = (k, Wait)

-- whether a core has arrived in the current phase
abbrev pub flag_is_set : Option Bool → Bool
flag_is_set None = false
flag_is_set (Some mark) = mark

abbrev pub has_arrived : ℕ → Barrier → Bool
has_arrived core k = flag_is_set (slice_get k.arrived core)

-- whether a core waits at the barrier: it has arrived, and another has not
abbrev pub waits_in : ℕ → Barrier → Bool
waits_in core k = has_arrived core k && not (all_arrived k)

-- how many cores have arrived in the current phase
abbrev pub arrived_count : Barrier → ℕ
arrived_count k = count_by (λ (a : Bool). a) k.arrived

-- what holds of a machine's keeper: there is a core; the current phase is one of the program's, if it has one; and all cores
-- have arrived only if the run is over
pub record IsBarrier (k : Barrier) : Type 0 where
  pub some : 1 ≤ length k.arrived
  pub current : 1 ≤ k.phases → k.phase < k.phases
  pub full : all_arrived k ≡ true → is_over k ≡ true
