-- What the definitions of sequential consistency and of data races refuse: outcomes that the literature's litmus tests forbid, and
-- accesses that nothing orders.
use Rattle.std.specs.Prelude.{ℕ, List, [], ◌∷◌, Some, None}
use Rattle.machine_rules.specs.Actions.{Action, accesses, acquires, releases, arrives, starts}

-- a store and a load by a core in a phase, at a place of its program: of which word, and which value
abbrev pub store_in : ℕ → ℕ → ℕ → ℕ → ℕ → Action
store_in phase core place word value =
    accesses (record { phase = phase; core = core; place = place; held = 0; word = word; read = None; written = Some value })

-- both in phase 0
abbrev pub first_phase_store : ℕ → ℕ → ℕ → ℕ → Action
first_phase_store core place word value = store_in 0 core place word value

abbrev pub load : ℕ → ℕ → ℕ → ℕ → Action
load core place word value =
    accesses (record { phase = 0; core = core; place = place; held = 0; word = word; read = Some value; written = None })

-- a core acquires lock 0, arrives at the end of a phase, and starts a phase
abbrev pub acquire : ℕ → ℕ → Action
acquire core place = acquires (record { phase = 0; core = core; place = place; lock = 0 })

abbrev pub arrive : ℕ → ℕ → Action
arrive core phase = arrives (record { phase = phase; core = core })

abbrev pub start : ℕ → ℕ → Action
start core phase = starts (record { phase = phase; core = core })

-- ---- outcomes that no order explains. Words 0 and 1 are 0 first

abbrev pub zeros : List ℕ
zeros = 0 ∷ 0 ∷ []

-- store buffering: each of two cores stores to a word, and then reads the other's word as it was first
abbrev pub store_buffering : List Action
store_buffering = first_phase_store 0 0 0 1 ∷ load 0 1 1 0 ∷ first_phase_store 1 0 1 1 ∷ load 1 1 0 0 ∷ []

-- message passing: a core reads the flag that was set, and then the data as they were first
abbrev pub message_passing : List Action
message_passing = first_phase_store 0 0 0 1 ∷ first_phase_store 0 1 1 1 ∷ load 1 0 1 1 ∷ load 1 1 0 0 ∷ []

-- coherence of two reads: a core reads a word's new value, and then its old one
abbrev pub read_read : List Action
read_read = first_phase_store 0 0 0 1 ∷ load 1 0 0 1 ∷ load 1 1 0 0 ∷ []

-- independent reads of independent stores: two cores see the stores of two others in different orders
abbrev pub independent_reads : List Action
independent_reads = first_phase_store 0 0 0 1 ∷ first_phase_store 1 0 1 1 ∷ load 2 0 0 1 ∷ load 2 1 1 0 ∷ load 3 0 1 1 ∷ load 3 1 0 0 ∷ []

-- ---- accesses that nothing orders

-- two cores store to one word
abbrev pub unordered_stores : List Action
unordered_stores = first_phase_store 0 0 0 1 ∷ first_phase_store 1 0 0 2 ∷ []

-- a lock is granted to a second core, and the first hasn't released it
abbrev pub grant_without_release : List Action
grant_without_release = acquire 0 0 ∷ first_phase_store 0 1 0 1 ∷ acquire 1 0 ∷ first_phase_store 1 1 0 2 ∷ []

-- one of two cores starts the next phase, and the other hasn't arrived
abbrev pub early_start : List Action
early_start = arrive 0 0 ∷ start 0 1 ∷ store_in 1 0 0 0 1 ∷ first_phase_store 1 0 0 2 ∷ arrive 1 0 ∷ start 1 1 ∷ []

-- ---- accesses that are ordered

-- a core acquires or releases a lock
abbrev pub acquire_of : ℕ → ℕ → ℕ → Action
acquire_of core place lock = acquires (record { phase = 0; core = core; place = place; lock = lock })

abbrev pub release_of : ℕ → ℕ → ℕ → Action
release_of core place lock = releases (record { phase = 0; core = core; place = place; lock = lock })

-- what core 0 stores under one lock core 2 reads under another, and core 1 takes the first and then the second in between
abbrev pub chain_of_locks : List Action
chain_of_locks =
    acquire_of 0 0 0 ∷ first_phase_store 0 1 0 1 ∷ release_of 0 2 0 ∷ acquire_of 1 0 0 ∷ release_of 1 1 0 ∷ acquire_of 1 2 1 ∷ release_of 1 3 1 ∷ acquire_of 2 0 1
    ∷ load 2 1 0 1 ∷ []

-- what one core stores in a phase the other stores to in the next one
abbrev pub across_a_barrier : List Action
across_a_barrier = first_phase_store 0 0 0 1 ∷ arrive 0 0 ∷ arrive 1 0 ∷ start 0 1 ∷ start 1 1 ∷ store_in 1 1 0 0 2 ∷ []
