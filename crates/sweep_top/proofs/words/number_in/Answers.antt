use Rattle.std.proofs.Common.{List, ℕ, Some, None, Result}
use Rattle.std.specs.Str.Parse.{ParsesUnsigned, ExplainsUnsignedError, HasUnsignedDigitsIfOk}
use Rattle.std.specs.declared.num.ParseIntError.{ParseIntError}
use Rattle.program_outside.proofs.Numerals.{reads_number}
use Rattle.sweep_top.proofs.words.number_in.Goals as goal

abbrev Gives : List ℕ → Result ℕ ParseIntError → Type 0
Gives text r = ParsesUnsigned 32 10 text r × ExplainsUnsignedError 10 text r × HasUnsignedDigitsIfOk text r

parses : (text : List ℕ) (r : Result ℕ ParseIntError) → Gives text r → ParsesUnsigned 32 10 text r
parses text r g = g.0

pub returns-in-Ok : goal.returns-in-Ok
returns-in-Ok c = reads_number Gives parses c.args.text.now (Some c.in-Ok.number) c.in-Ok.ensures.value

pub returns-in-Err : goal.returns-in-Err
returns-in-Err c = reads_number Gives parses c.args.text.now None (c.in-Err.field-0, c.in-Err.ensures.value)
