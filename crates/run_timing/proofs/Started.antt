-- What the machine of a program is told as a run begins, and what the rows of a run tell.
use Rattle.std.proofs.Common.{◌≡◌, ℕ, ◌+◌, ◌<◌, ◌≤◌, List, length, sum_by, slice_get, get_or, Option, Some, None, Result, Ok, Err, IfOk, sym, ap, subst, ◌∙◌, arith}
use Rattle.std.proofs.lemmas.Option.{slice_get-get_or}
use Rattle.dn_base.specs.declared.failure.Memory.{Memory}
use Rattle.dn_base.specs.declared.ids.Shape.{Shape}
use Rattle.region_table.specs.Program.{ProgramParts}
use Rattle.region_table.specs.Plan.{ArePlans}
use Rattle.message_net.specs.declared.event.Event.{Event}
use Rattle.message_net.specs.declared.event.EventKind.{EventKind}
use Rattle.message_net.specs.declared.event.EventKind.TheVariants.{Instr as InstrKind}
use Rattle.machine_rules.specs.State.{State}
use Rattle.machine_rules.specs.Runs.{IsRun}
use Rattle.machine_rules.specs.Sound.{IsReady}
use Rattle.dn_machine.specs.Kept.{Made, IsKept, IsInitialMachine}
use Rattle.run_timing.specs.declared.rows.Rows.{Rows}
use Rattle.run_timing.specs.declared.ticks.Ticks.{Ticks}
use Rattle.run_timing.specs.declared.timing.Timing.{Timing}
use Rattle.run_timing.specs.Depends.{kind_at}
use Rattle.run_timing.specs.Longest.{IsLongest, IsTimingOf}
use Rattle.run_timing.specs.Noted.{AreRowsOf}
use Rattle.run_timing.specs.declared.timing.Link.{Link}
use Rattle.run_timing.specs.Network.{told_delay}
use Rattle.run_timing.specs.Rows.{finish_in, behind, ticks_of_link, IsLatest, IsWay}
use Rattle.dn_machine.specs.Settings.{IsSettingOf, IsRunOn}
use Rattle.run_timing.specs.Ticks.{AreWithinLimits, ticks_with}
use Rattle.run_timing.proofs.IsLongest.{summed, way-longest}
use Rattle.run_timing.proofs.Ways.{way-ticks}

pub ready-of : (S : State) (made : ℕ) → IsKept S made → IsReady S.setting
ready-of S made kept = kept.left.ready

pub setting-of : (P : ProgramParts) (machine : Shape) (most : ℕ) (m : Made) → IsInitialMachine P machine most m → IsKept m.state m.made → IsSettingOf P machine most m.state.setting
setting-of P machine most m opens kept =
    record {
      program = opens.program_is;
      plans = subst (λ (x : ProgramParts). ArePlans x m.state.setting.plans) opens.program_is kept.sound.machine.context.plans;
      one_form = opens.plans_are;
      shape = opens.shape_is;
      fuel = opens.fuel_is;
    }

pub run-of : (P : ProgramParts) (machine : Shape) (most : ℕ) (m : Made) (events : List Event) → IsInitialMachine P machine most m → IsKept m.state m.made → IsRunOn P machine most events → IsRun m.state events
run-of P machine most m events opens kept run =
    subst (λ (S : State). IsRun S events) (sym opens.state) (run m.state.setting (setting-of P machine most m opens kept))

-- every event takes some time
pub some-time : (ticks : Ticks) (S : State) (events : List Event) (rows : Rows) → AreWithinLimits ticks → AreRowsOf ticks S events rows → (i : ℕ) → i < length rows.finishes → 1 ≤ finish_in rows i
some-time ticks S events rows limits noted i within =
    let below : i < length events = omega (arith, within, noted.finishes) in
    let kind : EventKind = get_or rows.kinds i InstrKind in
    let here : slice_get rows.kinds i ≡ Some kind = slice_get-get_or rows.kinds i InstrKind (omega (arith, below, noted.kinds)) in
    let told : kind_at S events i ≡ Some kind = sym (noted.kind i below) ∙ here in
    let takes = ap (ticks_with ticks) told in
    omega (arith, (noted.row i below).finish, takes, (limits.events kind).0)

-- the way back from the latest event is the longest chain
pub longest-of : (S : State) (events : List Event) (ticks : Ticks) (rows : Rows) (last : Option ℕ) (timing : Timing) → length events ≤ 25169664 → AreRowsOf ticks S events rows
    → IsLatest (length rows.finishes) (finish_in rows) last → IsWay rows None last timing.links.items → timing.total ≡ behind (finish_in rows) last
    → ((m : ℕ) → m + sum_by (ticks_of_link ticks) timing.links.items ≡ timing.total → timing.network ≡ told_delay ticks.network m) → IsLongest ticks S events timing
longest-of S events ticks rows last timing few noted latest way total network =
    let found : IsLatest (length events) (finish_in rows) last = subst (λ (n : ℕ). IsLatest n (finish_in rows) last) noted.finishes latest in
    way-longest ticks S events rows last timing few noted found way total network

-- the links' events take no more than the total
pub links-within : (S : State) (events : List Event) (ticks : Ticks) (rows : Rows) (last : Option ℕ) (total : ℕ) (links shown : List Link) → AreRowsOf ticks S events rows
    → IsWay rows None last links → total ≡ behind (finish_in rows) last → shown ≡ links → sum_by (ticks_of_link ticks) shown ≤ total
links-within S events ticks rows last total links shown noted way total_is same =
    omega (arith, way-ticks ticks rows None last links (summed ticks S events rows noted) way, total_is, ap (sum_by (ticks_of_link ticks)) same)

-- what is told of their delays is told of the same links
pub network-of : (ticks : Ticks) (total : ℕ) (links shown : List Link) (network : Option ℕ) → shown ≡ links
    → ((m : ℕ) → m + sum_by (ticks_of_link ticks) shown ≡ total → network ≡ told_delay ticks.network m)
    → (m : ℕ) → m + sum_by (ticks_of_link ticks) links ≡ total → network ≡ told_delay ticks.network m
network-of ticks total links shown network same told m is = told m (omega (arith, is, ap (sum_by (ticks_of_link ticks)) same))

-- the timing of a program's initial machine is that of the program
pub timing-of : (P : ProgramParts) (machine : Shape) (most : ℕ) (m : Made) (events : List Event) (ticks : Ticks) (r : Result Timing Memory) → IsInitialMachine P machine most m → IsKept m.state m.made
    → IfOk r (IsLongest ticks m.state events) → IfOk r (IsTimingOf P machine most events ticks)
timing-of P machine most m events ticks (Ok timing) opens kept longest =
    record {
      setting = m.state.setting;
      setting_is = setting-of P machine most m opens kept;
      longest = subst (λ (S : State). IsLongest ticks S events timing) opens.state longest;
    }
timing-of P machine most m events ticks (Err e) opens kept longest = tt
