use Rattle.std.proofs.Common.{refl, ap, ◌∙◌, ◌≡◌, ℕ, List, Option, Some, None, Result, option_and_then}
use Rattle.std.specs.Str.Parse.{ParsesUnsigned, ExplainsUnsignedError, HasUnsignedDigitsIfOk}
use Rattle.std.specs.declared.num.ParseIntError.{ParseIntError}
use Rattle.clap.specs.Words.{found_of, one_text}
use Rattle.clap.proofs.WalkLemmas.{one_text-rows}
use Rattle.program_outside.specs.Numbers.{number_in_text}
use Rattle.program_outside.proofs.Numerals.{reads_number}
use Rattle.program_outside.proofs.words.number_of.Goals as goal

abbrev Gives : List ℕ → Result ℕ ParseIntError → Type 0
Gives text r = ParsesUnsigned 32 10 text r × ExplainsUnsignedError 10 text r × HasUnsignedDigitsIfOk text r

parses : (text : List ℕ) (r : Result ℕ ParseIntError) → Gives text r → ParsesUnsigned 32 10 text r
parses text r g = g.0

pub returns : goal.returns
returns c =
    go (one_text (found_of c.args.matches.now) c.args.name.now) refl ∙ ap (option_and_then number_in_text) (one_text-rows (found_of c.args.matches.now) c.args.name.now)
  where
    go : (text : Option (List ℕ)) → one_text (found_of c.args.matches.now) c.args.name.now ≡ text → c.get_one.result ≡ option_and_then number_in_text text
    go None e = c.get_one.ensures.none e
    go (Some t) e = reads_number Gives parses t c.get_one.result (c.get_one.ensures.value t e)
