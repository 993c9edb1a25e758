-- The finishes that are noted of a run's events are those of the definition.
use Rattle.std.proofs.Common.{◌≡◌, ◌⊎◌, inl, inr, ℕ, ◌+◌, ◌<◌, List, length, Option, Some, None, Result, Ok, Err, IfOk, refl, ap, subst, arith}
use Rattle.dn_base.specs.declared.failure.Memory.{Memory}
use Rattle.dn_base.specs.declared.ids.Shape.{Shape}
use Rattle.region_table.specs.Program.{ProgramParts}
use Rattle.message_net.specs.declared.event.Event.{Event}
use Rattle.machine_rules.specs.State.{State}
use Rattle.dn_machine.specs.Kept.{Made, IsKept, IsInitialMachine}
use Rattle.run_timing.specs.declared.rows.Rows.{Rows}
use Rattle.run_timing.specs.declared.ticks.Ticks.{Ticks}
use Rattle.run_timing.specs.Depends.{IsOwnBefore, IsSender, DependsOn}
use Rattle.run_timing.specs.Finishes.{finish_at, AreFinishes, AreFinishesOf, IsBehindAll}
use Rattle.run_timing.specs.Noted.{AreRowsOf}
use Rattle.run_timing.specs.Rows.{finish_in, before_in, behind, reach_of}
use Rattle.run_timing.specs.Steps.{step_delay}
use Rattle.run_timing.specs.Ticks.{ticks_at}
use Rattle.run_timing.proofs.IsLongest.{rows-of}
use Rattle.run_timing.proofs.Longest.{finishes}
use Rattle.run_timing.proofs.Started.{setting-of}

module _ (ticks : Ticks) (S : State) (events : List Event) (rows : Rows) (noted : AreRowsOf ticks S events rows) where
  soon : (i : ℕ) → i < length events → (o : Option ℕ) → before_in rows i ≡ o
      → (finish_in rows i ≡ ticks_at ticks S events i) ⊎ ((p : ℕ) × DependsOn S events p i × (finish_in rows i ≡ finish_in rows p + step_delay ticks S events p i + ticks_at ticks S events i))
  soon i within None e = inl (omega (arith, (noted.row i within).finish, ap (behind (reach_of (finish_in rows) (step_delay ticks S events) i)) e))
  soon i within (Some p) e = inr (p, (noted.row i within).depends p e, omega (arith, (noted.row i within).finish, ap (behind (reach_of (finish_in rows) (step_delay ticks S events) i)) e))

  behind-all : (i : ℕ) → i < length events → IsBehindAll (DependsOn S events) (ticks_at ticks S events) (step_delay ticks S events) (finish_at rows.finishes) i
  behind-all i within =
      record {
        later = λ p d. omega (arith, (noted.row i within).finish, (noted.row i within).latest p d);
        soon = soon i within (before_in rows i) refl;
      }

  pub finishes-are : AreFinishes ticks S events rows.finishes
  finishes-are =
      record {
        one_each = noted.finishes;
        longest =
            λ i within. finishes (IsOwnBefore S events) (IsSender S events) (length events) (ticks_at ticks S events) (step_delay ticks S events) (finish_in rows) (before_in rows)
            (rows-of ticks S events rows noted) i within;
        behind = behind-all;
      }

-- the finishes on a program's initial machine are those of the program
pub finishes-of : (P : ProgramParts) (machine : Shape) (most : ℕ) (m : Made) (events : List Event) (ticks : Ticks) (r : Result (List ℕ) Memory) → IsInitialMachine P machine most m → IsKept m.state m.made
    → IfOk r (AreFinishes ticks m.state events) → IfOk r (AreFinishesOf P machine most events ticks)
finishes-of P machine most m events ticks (Ok xs) opens kept are =
    record {
      setting = m.state.setting;
      setting_is = setting-of P machine most m opens kept;
      are = subst (λ (S : State). AreFinishes ticks S events xs) opens.state are;
    }
finishes-of P machine most m events ticks (Err e) opens kept are = tt
