-- The runs of the seeds: for each seed the run that denovo makes of it in the mode run.
use Rattle.std.specs.Prelude.{◌≡◌, ℕ, ◌+◌, false, List, [], ◌∷◌, length}
use Rattle.region_table.specs.Program.{ProgramParts}
use Rattle.run_timing.specs.declared.network.Net.TheVariants.{Uniform}
use Rattle.dn_top.specs.declared.options.Mode as mode
use Rattle.dn_top.specs.declared.options.Order as order
use Rattle.dn_top.specs.declared.options.Options.{Options}
use Rattle.dn_machine.specs.declared.record.RunRecord.{RunRecord}
use Rattle.dn_top.specs.Runs.{IsRunFor}
use Rattle.sweep_top.specs.declared.options.SweepOptions.{SweepOptions}

-- the options with which denovo makes the run of a seed; the mode run has no use for a size, ticks and a network
abbrev pub options_at : SweepOptions → ℕ → Options
options_at o seed =
    record { mode = mode.TheVariants.Run; addresses = false; order = order.TheVariants.Seed; seed = seed; workers = 1; banks = o.banks; sets = o.sets; ways = o.ways; fuel = o.fuel; size = 4; tick_core = 1; tick_bank = 10; tick_mail = 5; latency = 0; net = Uniform }

-- these are the runs of the seeds from this one on, one each
abbrev pub AreRunsFrom : ProgramParts → SweepOptions → ℕ → List RunRecord → Type 0
AreRunsFrom P o seed [] = Unit {0}
AreRunsFrom P o seed (r ∷ rs) = IsRunFor P (options_at o seed) r × AreRunsFrom P o (seed + 1) rs

-- these are the runs of all seeds that are asked for, in their order
pub record AreRunsOf (P : ProgramParts) (o : SweepOptions) (runs : List RunRecord) : Type 0 where
  pub each : AreRunsFrom P o o.seeds.first runs
  pub count : o.seeds.first + length runs ≡ o.seeds.last + 1
