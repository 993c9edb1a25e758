use Rattle.std.proofs.Common.{◌≤◌, ◌-◌, ◌++◌, length, take, arith, length-append}
use Rattle.std.proofs.lemmas.Grind.{common_steps}
use Rattle.std.proofs.KnownBytes.{Consumes-trans}
use Rattle.std.proofs.lemmas.List.{length-take}
use Rattle.program_outside.proofs.reading.read_text.Goals as goal

pub returns-in_err-extend_from_slice-in-Ok-clause-few : goal.returns-in_err-extend_from_slice-in-Ok-clause-few
returns-in_err-extend_from_slice-in-Ok-clause-few g c =
    record {
      bytes = c.loop-buf.text.items ++ take c.in-Ok.count c.read.new.buf;
      taken = Consumes-trans _ _ _ _ _ c.loop-buf.invariant.bytes c.in-Ok.ensures.bytes.0;
      within =
          let joined = length-append c.loop-buf.text.items (take c.in-Ok.count c.read.new.buf) in
          let front = length-take c.in-Ok.count c.read.new.buf in
          let want : c.min-want.result ≤ c.args.most - length c.loop-buf.text.items = grind (arith, common_steps) in
          let given : c.in-Ok.count ≤ c.min-want.result = grind (arith, common_steps) in
          omega (arith, joined, front, want, given, c.loop-buf.invariant.within);
    }
