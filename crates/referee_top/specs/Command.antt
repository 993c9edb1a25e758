-- The command: its options, which command words it takes, and what they ask for.
use Rattle.std.specs.Prelude.{Bool, true, false, List, codes, bytes_eq, Option, Some, None, option_and_then, if◌then◌else◌}
use Rattle.clap.specs.Walk.{Row, Text, first_of}
use Rattle.clap.specs.Simple.{App, new_app, with_rule}
use Rattle.program_outside.specs.Words.{bare, faults_in, switch_in, text_rule, values_in, where_taken}
use Rattle.referee_top.specs.declared.mode.RefereeMode.{RefereeMode}
use Rattle.referee_top.specs.declared.mode.RefereeMode as mode
use Rattle.referee_top.specs.declared.mode.RefereeOptions.{RefereeOptions}

-- the command `referee` with its two options
unfoldable pub referee_command : App
referee_command = with_rule (with_rule (bare (new_app (codes "referee"))) (text_rule (codes "mode") (codes "judge"))) (text_rule (codes "batch") (codes "off"))

-- the mode that a text names
abbrev pub referee_mode_named : Text → Option RefereeMode
referee_mode_named text =
    if bytes_eq text (codes "judge") then Some mode.TheVariants.Judge
    else if bytes_eq text (codes "diagnose") then Some mode.TheVariants.Diagnose
    else if bytes_eq text (codes "settled") then Some mode.TheVariants.Settled
    else if bytes_eq text (codes "answer") then Some mode.TheVariants.Answer
    else if bytes_eq text (codes "least") then Some mode.TheVariants.Least
    else None

-- the values among the command's
abbrev pub referee_mode_in : List Row → Option RefereeMode
referee_mode_in rows = option_and_then referee_mode_named (first_of (codes "mode") rows)

-- whether several claims may follow each other
abbrev pub batch_in : List Row → Option Bool
batch_in rows = switch_in rows (codes "batch")

-- the modes that take several claims: those that judge
abbrev pub takes_batch : RefereeMode → Bool
takes_batch mode.TheVariants.Judge = true
takes_batch mode.TheVariants.Diagnose = true
takes_batch mode.TheVariants.Settled = true
takes_batch _ = false

abbrev pub referee_options : RefereeMode → Bool → Option RefereeOptions
referee_options m true = if takes_batch m then Some (record { mode = m; batch = true }) else None
referee_options m false = Some (record { mode = m; batch = false })

abbrev pub referee_options_in : List Row → Option RefereeOptions
referee_options_in rows = option_and_then (λ m. option_and_then (referee_options m) (batch_in rows)) (referee_mode_in rows)

-- what these words ask for, if the command takes them
unfoldable pub referee_options_of : List Text → Option RefereeOptions
referee_options_of words = where_taken (faults_in referee_command words) (referee_options_in (values_in referee_command words))
