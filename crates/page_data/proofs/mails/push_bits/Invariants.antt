use Rattle.std.proofs.Common.{◌≡◌, ◌++◌, ◌≤◌, ◌-◌}
use Rattle.page_data.specs.Rows.{bit_texts}
use Rattle.page_data.proofs.mails.push_bits.Given as goal

abbrev pub invariant-loop-bit : goal.invariant-loop-bit
invariant-loop-bit l =
    record {
      within : l.bit ≤ l.count;
      so_far : l.out.items ++ bit_texts l.signature l.bit (l.count - l.bit) ≡ l.fn.out.items ++ bit_texts l.signature 0 l.count;
    }
