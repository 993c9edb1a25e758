-- A command whose options have one value each: its options, what is wrong with command words, and the values that they give.
use Rattle.std.specs.Prelude.{ℕ, pos, Bool, true, false, codes, bytes_eq, if◌then◌else◌, List, [], ◌∷◌, Option, Some, None, option_and_then}
use Rattle.std.specs.Borrow.{Bor}
use Rattle.clap.specs.Walk.{Row, Rule, Text, first_of, one_of}
use Rattle.clap.specs.Simple.{App, new_rule, matches_of, on_top, with_rule}
use Rattle.clap.specs.Kinds.{Kinds}
use Rattle.clap.specs.Faults.{fault_of}
use Rattle.clap.specs.declared.builder.action.ArgAction.TheVariants.{Set}
use Rattle.clap.specs.declared.builder.value_parser.ValueParser.TheVariants as parser
use Rattle.program_outside.specs.declared.words.OptionValue.{OptionValue}
use Rattle.program_outside.specs.declared.words.OptionValue.TheVariants as value
use Rattle.program_outside.specs.Numbers.{if_within, number_in_text}

-- an option with one value, and its default
abbrev pub text_rule : Text → Text → Rule
text_rule name default =
    record (new_rule name) { long = Some name; action = Some Set; defaults = default ∷ [] }

-- such an option whose value is a number of 32 bits
abbrev pub number_rule : Text → Text → Rule
number_rule name default = record (text_rule name default) { parser = Some (parser.Signed (pos 0) (pos 4294967295)) }

-- an option whose value is a number of 32 bits, without a default
abbrev pub open_number_rule : Text → Rule
open_number_rule name = record (new_rule name) { long = Some name; action = Some Set; parser = Some (parser.Signed (pos 0) (pos 4294967295)) }

-- an option with one value of a kind
abbrev pub rule_with : OptionValue → Text → Rule
rule_with (value.Text default) name = text_rule name default.now
rule_with (value.Number default) name = number_rule name default.now
rule_with value.OpenNumber name = open_number_rule name

-- a command with these options too, in their order
abbrev pub with_rules : App → List (Bor Text × OptionValue) → App
with_rules app [] = app
with_rules app (option ∷ options) = with_rules (with_rule app (rule_with option.1 option.0.now)) options

-- the command without options; its own name isn't among its words, and it has no flags for help and version
abbrev pub bare : App → App
bare = on_top (λ s. record s { no_binary_name = true; disable_help_flag = true; disable_version_flag = true })

-- what is wrong with these words as words of a command, and the values that they give to its options
unfoldable pub faults_in : App → List Text → Kinds
faults_in command words = fault_of command words

unfoldable pub values_in : App → List Text → List Row
values_in command words = matches_of command words

-- the value of an option, if it is a number from low to high
abbrev pub number_in : List Row → Text → ℕ → ℕ → Option ℕ
number_in rows name low high = option_and_then (if_within low high) (option_and_then number_in_text (one_of name rows))

-- whether an option is on, if its value is one of these two
abbrev pub switch_named : Text → Option Bool
switch_named text = if bytes_eq text (codes "on") then Some true else if bytes_eq text (codes "off") then Some false else None

abbrev pub switch_in : List Row → Text → Option Bool
switch_in rows name = option_and_then switch_named (first_of name rows)

-- what is asked for, if the words have no fault
abbrev pub where_taken : {O : Type 0} → Kinds → Option O → Option O
where_taken [] asked = asked
where_taken (k ∷ ks) asked = None
