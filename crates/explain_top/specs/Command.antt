-- The command: which command words it takes, and which name of a text they give.
use Rattle.std.specs.Prelude.{true, List, codes, Option, Some}
use Rattle.clap.specs.Walk.{Rule, Text, first_of}
use Rattle.clap.specs.Simple.{App, new_app, new_rule, with_rule}
use Rattle.clap.specs.declared.builder.action.ArgAction.TheVariants.{Set}
use Rattle.program_outside.specs.Words.{bare, faults_in, values_in, where_taken}

-- one required word: the name of a text
abbrev pub name_rule : Rule
name_rule = record (new_rule (codes "text")) { action = Some Set; required = true }

-- the command `explain` with this word, and without options
unfoldable pub explain_command : App
explain_command = with_rule (bare (new_app (codes "explain"))) name_rule

-- the name of a text that these words give, if the command takes them
unfoldable pub name_in : List Text → Option Text
name_in words = where_taken (faults_in explain_command words) (first_of (codes "text") (values_in explain_command words))
