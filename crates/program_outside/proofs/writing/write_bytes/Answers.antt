use Rattle.std.proofs.Common.{◌+◌, ◌-◌, ℕ, List, Option, length, take, drop, arith, sym, ◌∙◌}
use Rattle.std.proofs.lemmas.List.{take-append-drop, take_rest, length-take, length-drop}
use Rattle.std.proofs.Math.Seq.{take-add}
use Rattle.std.proofs.KnownBytes.{Appends-trans, Appends-kept}
use Rattle.std.specs.Io.KnownBytes.{Appends}
use Rattle.program_outside.proofs.writing.write_bytes.Goals as goal

-- a front of the bytes, and then as many more
appends_more : (a b c : Option (List ℕ)) (done count : ℕ) (bytes : List ℕ) → Appends a b (take done bytes) → Appends b c (take count (drop done bytes))
    → Appends a c (take (done + count) bytes)
appends_more a b c done count bytes first second =
    rw take-add (Appends-trans a b c (take done bytes) (take count (drop done bytes)) first second)

pub returns-in_err-done-clause-front : goal.returns-in_err-done-clause-front
returns-in_err-done-clause-front g c =
    record {
      front = take c.loop-done.done c.args.bytes.now;
      rest = drop c.loop-done.done c.args.bytes.now;
      parts = sym (take-append-drop c.loop-done.done c.args.bytes.now);
      taken = Appends-kept _ _ _ _ c.loop-done.invariant.taken c.in_err-done.ensures.bytes;
    }

pub loop-done-preserved : goal.loop-done-preserved
loop-done-preserved g c =
    let bytes = c.args.bytes.now in
    let done = c.loop-done.done in
    let taken = rw (take_rest bytes done) at c.in_ok-done.ensures.bytes in
    record {
      within = omega (arith, c.in_ok-done.ensures.within, length-take (length bytes - done) (drop done bytes), length-drop done bytes, c.loop-done.invariant.within);
      taken = appends_more _ _ _ done c.in_ok-done.field-0 bytes c.loop-done.invariant.taken taken;
      faultless = c.in_ok-done.ensures.faultless ∙ c.loop-done.invariant.faultless;
    }
