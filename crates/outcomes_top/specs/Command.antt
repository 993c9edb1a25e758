-- The command: its option, which command words it takes, and what they ask for.
use Rattle.std.specs.Prelude.{ℕ, List, codes, Option}
use Rattle.clap.specs.Walk.{Text}
use Rattle.clap.specs.Simple.{App, new_app, with_rule}
use Rattle.program_outside.specs.Words.{bare, faults_in, number_in, number_rule, values_in, where_taken}

-- the command `outcomes` with its one option
unfoldable pub outcomes_command : App
outcomes_command = with_rule (bare (new_app (codes "outcomes"))) (number_rule (codes "fuel") (codes "32768"))

-- the fuel that these words ask for, if the command takes them
unfoldable pub outcomes_fuel_of : List Text → Option ℕ
outcomes_fuel_of words = where_taken (faults_in outcomes_command words) (number_in (values_in outcomes_command words) (codes "fuel") 1 32768)
