-- Every run is sequentially consistent and has no data race.
use Rattle.std.proofs.Common.{ℕ, List}
use Rattle.std.proofs.lemmas.List.Sorted.{IsPermutation-refl}
use Rattle.message_net.specs.declared.event.Event.{Event}
use Rattle.registration_protocol.specs.Node.{Setting}
use Rattle.machine_rules.specs.State.{initial_state}
use Rattle.machine_rules.specs.Runs.{IsRun}
use Rattle.machine_rules.specs.Sound.{IsReady, IsWellFormed}
use Rattle.machine_rules.specs.Accesses.{actions_of}
use Rattle.machine_rules.specs.Actions.{Action}
use Rattle.machine_rules.specs.Consistent.{IsSequentialOrder}
use Rattle.machine_rules.specs.Racing.{IsDataRaceFree, IsMutuallyExclusive, ArePhasesApart, IsDataRaceFreeAndSequential}
use Rattle.machine_rules.specs.Guarded.{IsGuarded}
use Rattle.machine_rules.proofs.AnySize.{well-formed}
use Rattle.machine_rules.proofs.InProgramOrder.{well-ordered, reads-last}
use Rattle.machine_rules.proofs.LocksLegal.{well-true, well-legal}
use Rattle.machine_rules.proofs.BarrierKept.{well-barrier}
use Rattle.machine_rules.proofs.Guarded.{well-guarded}
use Rattle.machine_rules.proofs.PathLemmas.{excluded, apart, race-free}

pub well-sequential : (C : Setting) (events : List Event) → IsWellFormed C → IsRun (initial_state C) events
    → IsSequentialOrder C.shape.cores C.program.memory (actions_of (initial_state C) events) (actions_of (initial_state C) events)
well-sequential C events well run =
    record {
      all = IsPermutation-refl (actions_of (initial_state C) events);
      program = well-ordered C events well run;
      reads = reads-last C events well run;
      locks = well-legal C events well run;
      barrier = well-barrier C events well run;
    }

pub well-race_free : (C : Setting) (events : List Event) → IsWellFormed C → IsRun (initial_state C) events → IsDataRaceFree (actions_of (initial_state C) events)
well-race_free C events well run =
    race-free C.shape.cores (actions_of (initial_state C) events) (well-ordered C events well run) (well-barrier C events well run) (λ l. well-true C events l well run) (well-guarded C events well run)

-- both within the limits of the code, and how accesses are guarded
pub run-race_free-sequential : (C : Setting) (events : List Event) → IsReady C → IsRun (initial_state C) events → IsDataRaceFreeAndSequential C.shape.cores C.program.memory (actions_of (initial_state C) events)
run-race_free-sequential C events ready run =
    let well = well-formed C ready in
    record { race_free = well-race_free C events well run; sequential = well-sequential C events well run }

pub run-guarded : (C : Setting) (events : List Event) → IsReady C → IsRun (initial_state C) events → IsGuarded (actions_of (initial_state C) events)
run-guarded C events ready run = well-guarded C events (well-formed C ready) run

-- ---- every sequential order

pub order-excluded : (cores : ℕ) (first : List ℕ) (actions order : List Action) → IsSequentialOrder cores first actions order → IsMutuallyExclusive order
order-excluded cores first actions order is = excluded order is.locks

pub order-apart : (cores : ℕ) (first : List ℕ) (actions order : List Action) → IsSequentialOrder cores first actions order → ArePhasesApart order
order-apart cores first actions order is = apart cores order is.program is.barrier
