-- One step of the walk over the bits of a signature.
use Rattle.std.proofs.Common.{◌≡◌, ℕ, suc, ◌+◌, ◌-◌, ◌<◌, ◌++◌, refl, arith}
use Rattle.write_signature.specs.declared.signature.Signature.{Signature}
use Rattle.write_signature.specs.Signature.{has_bit}
use Rattle.page_data.specs.Rows.{bit_text, bit_texts}

pub bits_step : (s : Signature) (bit n : ℕ) → bit < n → bit_texts s bit (n - bit) ≡ bit_text bit (has_bit s bit) ++ bit_texts s (bit + 1) (n - (bit + 1))
bits_step s bit n below =
    let less : n - bit ≡ suc (n - (bit + 1)) = omega (arith, below) in
    rw (less) refl
