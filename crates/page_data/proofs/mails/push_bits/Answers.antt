use Rattle.std.proofs.Common.{Bool, ◌++◌, ◌+◌, ◌-◌, ap, ◌∙◌, arith}
use Rattle.write_signature.specs.Signature.{has_bit}
use Rattle.run_changes.proofs.Listed.{goes_on}
use Rattle.page_data.specs.Rows.{bit_text, bit_texts}
use Rattle.page_data.proofs.Bits.{bits_step}
use Rattle.page_data.proofs.mails.push_bits.Goals as goal

pub loop-bit-preserved : goal.loop-bit-preserved
loop-bit-preserved c =
    let s = c.args.signature.now in
    let bit = c.loop-bit.bit in
    let count = c.args.count in
    record {
      within = omega (arith, c.loop-bit-test.true);
      so_far = goes_on c.loop-bit.out.items c.push_bit.new.out.items (bit_text bit (has_bit s bit)) (bit_texts s bit (count - bit)) (bit_texts s (bit + 1) (count - (bit + 1))) (c.args.out.now.items ++ bit_texts s 0 count)
          (c.in_ok-push_bit.ensures ∙ ap (λ (b : Bool). c.loop-bit.out.items ++ bit_text bit b) c.has.ensures) (bits_step s bit count c.loop-bit-test.true) c.loop-bit.invariant.so_far;
    }
