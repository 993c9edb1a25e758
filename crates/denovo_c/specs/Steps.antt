-- What the calls of a machine promise.
use Rattle.std.specs.Prelude.{◌≡◌, ◌⊎◌, ℕ, ℤ, pos, ◌<◌, ◌≤◌, List, true, false, Some, None}
use Rattle.std.specs.Int.{IsInRange}
use Rattle.dn_base.specs.declared.ids.Shape.{Shape}
use Rattle.region_table.specs.Program.{ProgramParts, cores_of}
use Rattle.message_net.specs.declared.event.Event.{Event}
use Rattle.machine_rules.specs.Next.{enabled}
use Rattle.machine_rules.specs.Sound.{IsReady}
use Rattle.dn_machine.specs.Kept.{Made, IsInitialMachine}
use Rattle.run_report.specs.Texts.{HasChecked, IsUnfit}
use Rattle.run_report.specs.declared.programs.Stop.{Stop}
use Rattle.run_report.specs.declared.programs.Stop as stop
use Rattle.state_text.specs.Stepping.{HasMadeEvent}
use Rattle.denovo_c.specs.declared.codes.EventCode.{EventCode}
use Rattle.denovo_c.specs.declared.steps.Sizes.{Sizes}
use Rattle.denovo_c.specs.declared.steps.Unopened.{Unopened}
use Rattle.denovo_c.specs.declared.steps.Unopened as unopened
use Rattle.denovo_c.specs.declared.steps.StepResult.{StepResult}
use Rattle.denovo_c.specs.declared.steps.StepResult as stepped
use Rattle.denovo_c.specs.Codes.{coded_event}

pub record FitsSizes (sizes : Sizes) : Type 0 where
  pub banks : IsInRange 1 16 sizes.banks
  pub sets : IsInRange 1 256 sizes.sets
  pub ways : IsInRange 1 16 sizes.ways
  pub fuel : IsInRange 1 32768 sizes.fuel

abbrev pub sized_shape : ProgramParts → Sizes → Shape
sized_shape program sizes = record { cores = cores_of program; banks = sizes.banks; sets = sizes.sets; ways = sizes.ways }

-- the text has a checked program, and this is its machine when a run begins, whose setting is within the limits of the code
pub record IsOpened (text : List ℕ) (sizes : Sizes) (m : Made) : Type 0 where
  pub initial : HasChecked text (λ P. IsInitialMachine P (sized_shape P sizes) sizes.fuel m)
  pub ready : IsReady m.state.setting

-- why there is no machine where the text has no checked program
abbrev pub why_stopped : Stop → Unopened
why_stopped (stop.TheVariants.Refused line) = unopened.TheVariants.Refused
why_stopped stop.TheVariants.Memory = unopened.TheVariants.Memory

-- why there is no machine: a size is out of its range, or the text is refused. Out of memory says of the sizes that they fit, and
-- nothing of the text
abbrev pub IsUnopened : List ℕ → Sizes → Unopened → Type 0
IsUnopened text sizes unopened.TheVariants.Usage = FitsSizes sizes → ⊥
IsUnopened text sizes unopened.TheVariants.Refused = (line : List ℕ) × IsUnfit text line
IsUnopened text sizes unopened.TheVariants.Memory = FitsSizes sizes

abbrev pub why_code : Unopened → ℤ
why_code unopened.TheVariants.Usage = pos 1
why_code unopened.TheVariants.Refused = pos 2
why_code unopened.TheVariants.Memory = pos 8

abbrev pub result_code : StepResult → ℤ
result_code stepped.TheVariants.Made = pos 0
result_code stepped.TheVariants.Usage = pos 1
result_code stepped.TheVariants.Disabled = pos 3
result_code stepped.TheVariants.Memory = pos 8

-- what became of the event of a code. Where it wasn't made, the machine is as before. Out of memory is told of an enabled event alone,
-- and of a machine that may make one more
abbrev pub IsCodeTried : Made → Made → EventCode → StepResult → Type 0
IsCodeTried before after code stepped.TheVariants.Made = (event : Event) × (coded_event code ≡ Some event) × HasMadeEvent before after event
IsCodeTried before after code stepped.TheVariants.Usage = ((coded_event code ≡ None) ⊎ (4000000000 ≤ before.made)) × (after ≡ before)
IsCodeTried before after code stepped.TheVariants.Disabled = (event : Event) × (coded_event code ≡ Some event) × (enabled before.state event ≡ false) × (after ≡ before)
IsCodeTried before after code stepped.TheVariants.Memory =
    (event : Event) × (coded_event code ≡ Some event) × (enabled before.state event ≡ true) × (before.made < 4000000000) × (after ≡ before)
