-- The command: its options, which command words it takes, and what they ask for.
use Rattle.std.specs.Prelude.{ℕ, ◌+◌, ◌==◌, Bool, ◌&&◌, nat_le, nat_lt, List, length, codes, bytes_eq, Option, Some, None, option_and_then, if◌then◌else◌, ◌≤◌, ◌<◌}
use Rattle.std.specs.Int.{IsInRange}
use Rattle.std.specs.List.{position_or_len, before_first, after_first}
use Rattle.clap.specs.Walk.{Row, Text, first_of}
use Rattle.clap.specs.Simple.{App, new_app, with_rule}
use Rattle.program_outside.specs.Numbers.{number_in_text}
use Rattle.program_outside.specs.Words.{bare, faults_in, number_in, number_rule, switch_in, text_rule, values_in, where_taken}
use Rattle.sweep_top.specs.declared.options.Form.{Form}
use Rattle.sweep_top.specs.declared.options.Form as form
use Rattle.sweep_top.specs.declared.options.Seeds.{Seeds}
use Rattle.sweep_top.specs.declared.options.SweepOptions.{SweepOptions}
use Rattle.sweep_top.specs.declared.options.TheConstants.{MOST_SEEDS}

-- ---- the command

-- the command `sweep` with its seven options
unfoldable pub sweep_command : App
sweep_command =
    with_rule (with_rule (with_rule (with_rule (with_rule (with_rule (with_rule (bare (new_app (codes "sweep")))
    (text_rule (codes "seeds") (codes "1..1000")))
    (text_rule (codes "form") (codes "summary")))
    (text_rule (codes "retired") (codes "on")))
    (number_rule (codes "banks") (codes "4")))
    (number_rule (codes "sets") (codes "64")))
    (number_rule (codes "ways") (codes "4")))
    (number_rule (codes "fuel") (codes "32768"))

-- ---- what the values of its options ask for

abbrev pub is_dot : ℕ → Bool
is_dot c = c == 46

-- what stands before the first dot of a text, and what stands behind it
abbrev pub around_dot : Text → Option (Text × Text)
around_dot text = if nat_lt (position_or_len is_dot text) (length text) then Some (before_first is_dot text, after_first is_dot text) else None

-- the seeds from the first one to the last one, if there is one, and there are no more than a call takes
abbrev pub seeds_between : ℕ → ℕ → Option Seeds
seeds_between first last = if nat_le first last && nat_lt last (first + MOST_SEEDS) then Some (record { first = first; last = last }) else None

-- the same of two texts that each write a number
abbrev pub seeds_of : Text → Text → Option Seeds
seeds_of first last = option_and_then (λ (a : ℕ). option_and_then (seeds_between a) (number_in_text last)) (number_in_text first)

-- the seeds of a text that begins with a number and a dot, if it goes on with a dot and a number
abbrev pub seeds_behind : Text → Text × Text → Option Seeds
seeds_behind first behind = if length behind.0 == 0 then seeds_of first behind.1 else None

-- the seeds that a text as `1..1000` names
unfoldable pub seeds_named : Text → Option Seeds
seeds_named text = option_and_then (λ (parts : Text × Text). option_and_then (seeds_behind parts.0) (around_dot parts.1)) (around_dot text)

abbrev pub sweep_form_named : Text → Option Form
sweep_form_named text =
    if bytes_eq text (codes "summary") then Some form.TheVariants.Summary
    else if bytes_eq text (codes "answers") then Some form.TheVariants.Answers
    else if bytes_eq text (codes "csv") then Some form.TheVariants.Csv
    else None

abbrev pub seeds_in : List Row → Option Seeds
seeds_in rows = option_and_then seeds_named (first_of (codes "seeds") rows)

abbrev pub sweep_form_in : List Row → Option Form
sweep_form_in rows = option_and_then sweep_form_named (first_of (codes "form") rows)

-- what the values of all options ask for, if each is in its range; the ranges of the numbers are those of denovo
unfoldable pub sweep_from : List Row → Option SweepOptions
sweep_from rows =
    option_and_then (λ (seeds : Seeds).
    option_and_then (λ (form : Form).
    option_and_then (λ (retired : Bool).
    option_and_then (λ (banks : ℕ).
    option_and_then (λ (sets : ℕ).
    option_and_then (λ (ways : ℕ).
    option_and_then (λ (fuel : ℕ).
    Some (record { seeds = seeds; form = form; retired = retired; banks = banks; sets = sets; ways = ways; fuel = fuel }))
    (number_in rows (codes "fuel") 1 32768))
    (number_in rows (codes "ways") 1 16))
    (number_in rows (codes "sets") 1 256))
    (number_in rows (codes "banks") 1 16))
    (switch_in rows (codes "retired")))
    (sweep_form_in rows))
    (seeds_in rows)

-- what these words ask for, if the command takes them
unfoldable pub sweep_of : List Text → Option SweepOptions
sweep_of words = where_taken (faults_in sweep_command words) (sweep_from (values_in sweep_command words))

-- ---- limits

-- there is a seed, and there are no more than a call takes
pub record AreSeeds (s : Seeds) : Type 0 where
  pub some : s.first ≤ s.last
  pub most : s.last < s.first + MOST_SEEDS

-- each number is within its limits
pub record IsSweepInRange (o : SweepOptions) : Type 0 where
  pub seeds : AreSeeds o.seeds
  pub banks : IsInRange 1 16 o.banks
  pub sets : IsInRange 1 256 o.sets
  pub ways : IsInRange 1 16 o.ways
  pub fuel : IsInRange 1 32768 o.fuel
