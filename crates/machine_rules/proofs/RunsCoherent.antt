-- Every run of the opened machine of a checked program leads to coherent states, which show the memory to which the run's
-- stores were applied; and each load reads that memory.
use Rattle.std.proofs.Common.{◌≡◌, ℕ, ◌+◌, ◌<◌, true, List, length, get_or, slice_index, Some, refl, sym, ap, subst, ◌∙◌, arith}
use Rattle.std.proofs.lemmas.List.{ext_get_or}
use Rattle.std.proofs.lemmas.List.FromFn.{get_or-map-range_with_len, length-map-range_with_len}
use Rattle.dn_base.specs.declared.ids.LoadSeen.{LoadSeen}
use Rattle.message_net.specs.declared.event.Event.{Event}
use Rattle.registration_protocol.specs.Node.{Setting}
use Rattle.machine_rules.specs.State.{initial_state}
use Rattle.machine_rules.specs.Next.{enabled, seen_in}
use Rattle.machine_rules.specs.Memory.{word_value, memory_of}
use Rattle.machine_rules.specs.Runs.{after, IsRun, IsCompleteRun, memory_after}
use Rattle.machine_rules.specs.Rest.{IsAtRest}
use Rattle.machine_rules.specs.Coherent.{Coherent}
use Rattle.machine_rules.specs.Sound.{IsSound, IsReady, IsWellFormed}
use Rattle.machine_rules.proofs.Invariant.{Invariant}
use Rattle.machine_rules.proofs.AnySize.{well-formed}
use Rattle.machine_rules.proofs.OpenedFacts.{opened-setting}
use Rattle.machine_rules.proofs.OpenedSound.{opened-sound}
use Rattle.machine_rules.proofs.OpenedInvariant.{opened-invariant}
use Rattle.machine_rules.proofs.Readable.{coherent}
use Rattle.machine_rules.proofs.ReadableValues.{value-is}
use Rattle.machine_rules.proofs.LoadsRead.{loads-read}
use Rattle.machine_rules.proofs.RestStates.{rest}
use Rattle.machine_rules.proofs.RunsKept.{memory_over, memory-is, memory-length, run-setting, run-kept}

-- the first memory, as a function
abbrev pub first_memory : Setting → ℕ → ℕ
first_memory C w = slice_index C.program.memory w

pub well-all : (C : Setting) (events : List Event) → IsWellFormed C → IsRun (initial_state C) events
    → IsSound (after (initial_state C) events) (length events) × Invariant (after (initial_state C) events) (memory_over (first_memory C) (initial_state C) events)
well-all C events well run =
    let all = run-kept (initial_state C) (first_memory C) 0 events (opened-sound C well) (opened-invariant C well) run in
    let same : 0 + length events ≡ length events = omega arith in
    (subst (IsSound (after (initial_state C) events)) same all.0, all.1)

pub well-coherent : (C : Setting) (events : List Event) → IsWellFormed C → IsRun (initial_state C) events → Coherent (after (initial_state C) events)
well-coherent C events well run = coherent (after (initial_state C) events) (memory_over (first_memory C) (initial_state C) events) (well-all C events well run).1

-- the run's memory, by the list or the function
pub run-memory : (C : Setting) (events : List Event) (w : ℕ) → slice_index (memory_after C.program.memory (initial_state C) events) w ≡ memory_over (first_memory C) (initial_state C) events w
run-memory C events w =
    memory-is (initial_state C) C.program.memory (first_memory C) events (ap (λ (x : Setting). length x.program.memory) (sym (opened-setting C))) (λ v. refl) w

pub well-values : (C : Setting) (events : List Event) → IsWellFormed C → IsRun (initial_state C) events → (w : ℕ)
    → word_value (after (initial_state C) events) w ≡ slice_index (memory_after C.program.memory (initial_state C) events) w
well-values C events well run w =
    let inv = (well-all C events well run).1 in
    value-is (after (initial_state C) events) (memory_over (first_memory C) (initial_state C) events) inv.words inv.values w ∙ sym (run-memory C events w)

pub well-loads : (C : Setting) (events : List Event) (e : Event) (seen : LoadSeen) → IsWellFormed C → IsRun (initial_state C) events → enabled (after (initial_state C) events) e ≡ true
    → seen_in (after (initial_state C) events) e ≡ Some seen → seen.value ≡ slice_index (memory_after C.program.memory (initial_state C) events) seen.word.0
well-loads C events e seen well run may is =
    let inv = (well-all C events well run).1 in
    loads-read (after (initial_state C) events) (memory_over (first_memory C) (initial_state C) events) e inv may seen is ∙ sym (run-memory C events seen.word.0)

-- all words at once
pub well-shows : (C : Setting) (events : List Event) → IsWellFormed C → IsRun (initial_state C) events → memory_of (after (initial_state C) events) ≡ memory_after C.program.memory (initial_state C) events
well-shows C events well run = ext_get_or 0 (memory_of (after (initial_state C) events)) (memory_after C.program.memory (initial_state C) events) (shown ∙ sym long) each where
  words : length (after (initial_state C) events).setting.program.memory ≡ length C.program.memory
  words = ap (λ (x : Setting). length x.program.memory) (run-setting (initial_state C) events ∙ opened-setting C)

  shown : length (memory_of (after (initial_state C) events)) ≡ length C.program.memory
  shown = length-map-range_with_len (word_value (after (initial_state C) events)) 0 (length (after (initial_state C) events).setting.program.memory) ∙ words

  long : length (memory_after C.program.memory (initial_state C) events) ≡ length C.program.memory
  long = memory-length (initial_state C) C.program.memory events

  each : (i : ℕ) → i < length (memory_of (after (initial_state C) events)) → get_or (memory_of (after (initial_state C) events)) i 0 ≡ get_or (memory_after C.program.memory (initial_state C) events) i 0
  each i within =
      get_or-map-range_with_len (word_value (after (initial_state C) events)) 0 (length (after (initial_state C) events).setting.program.memory) i i 0 (omega (arith, within, shown, words)) (omega arith)
      ∙ well-values C events well run i

-- where a run is complete every node is halted, or each task that hasn't ended waits for a lock that another holds
pub well-rests : (C : Setting) (events : List Event) → IsWellFormed C → IsCompleteRun (initial_state C) events → IsAtRest (after (initial_state C) events)
well-rests C events well complete = rest (after (initial_state C) events) (memory_over (first_memory C) (initial_state C) events) (well-all C events well complete.run).1 complete.over

-- ---- the same within the limits of the code

pub run-all : (C : Setting) (events : List Event) → IsReady C → IsRun (initial_state C) events
    → IsSound (after (initial_state C) events) (length events) × Invariant (after (initial_state C) events) (memory_over (first_memory C) (initial_state C) events)
run-all C events ready run = well-all C events (well-formed C ready) run

pub run-coherent : (C : Setting) (events : List Event) → IsReady C → IsRun (initial_state C) events → Coherent (after (initial_state C) events)
run-coherent C events ready run = well-coherent C events (well-formed C ready) run

pub run-loads : (C : Setting) (events : List Event) (e : Event) (seen : LoadSeen) → IsReady C → IsRun (initial_state C) events → enabled (after (initial_state C) events) e ≡ true
    → seen_in (after (initial_state C) events) e ≡ Some seen → seen.value ≡ slice_index (memory_after C.program.memory (initial_state C) events) seen.word.0
run-loads C events e seen ready run may is = well-loads C events e seen (well-formed C ready) run may is

pub run-shows : (C : Setting) (events : List Event) → IsReady C → IsRun (initial_state C) events → memory_of (after (initial_state C) events) ≡ memory_after C.program.memory (initial_state C) events
run-shows C events ready run = well-shows C events (well-formed C ready) run

pub run-rests : (C : Setting) (events : List Event) → IsReady C → IsCompleteRun (initial_state C) events → IsAtRest (after (initial_state C) events)
run-rests C events ready complete = well-rests C events (well-formed C ready) complete
