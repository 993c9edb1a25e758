-- The two words that load a value make it, modulo 2^32.
use Rattle.std.proofs.Common.{◌≡◌, ℕ, ◌+◌, ◌-◌, ◌*◌, ◌%◌, ◌^◌, ◌<◌, ◌≤◌, ℤ, pos, negsuc, List, Option, Some, None, refl, sym, subst, ⊎_elim, arith, lt-ltb}
use Rattle.std.proofs.lemmas.Bool.{cases_lt}
use Rattle.std.proofs.lemmas.Int.{ints}
use Rattle.rv_isa.specs.Encoding.{encoded}
use Rattle.rv_isa.specs.Range.{IsSigned}
use Rattle.rv_isa.specs.Word.{pattern}
use Rattle.rv_isa.specs.declared.instr.AluOp.TheVariants.{Add}
use Rattle.rv_isa.specs.declared.instr.Instr.TheVariants.{Lui, OpImm}
use Rattle.rv_isa.proofs.EncodingLemmas.{decoded-encoded}
use Rattle.src_text.specs.Register.{register_of}
use Rattle.src_text.specs.declared.token.Token.{Token}
use Rattle.rv_assembler.specs.declared.kind.Mnemonic.TheVariants.{Li, La}
use Rattle.rv_assembler.specs.declared.names.Meaning.{Meaning}
use Rattle.rv_assembler.specs.Number.{wrapped}
use Rattle.rv_assembler.specs.Operand.{bytes_of, token_at, number_at, register_number, register_at}
use Rattle.rv_assembler.specs.Reading.{code_for}
use Rattle.rv_assembler.specs.Emission.{high, low, loaded, loaded_address, emission}
use Rattle.rv_assembler.specs.TwoWords.{MakesValue}
use Rattle.rv_assembler.proofs.RegisterLemmas.{register_small}

low-small : (v : ℕ) → v % 4096 < 2048 → low v ≡ pos (v % 4096)
low-small v h = rw (lt-ltb (v % 4096) 2048 h) refl

low-large : (v : ℕ) → 2048 ≤ v % 4096 → low v ≡ negsuc (4095 - v % 4096)
low-large v h = grind arith

low-signed : (v : ℕ) → IsSigned 12 (low v)
low-signed v =
    ⊎_elim
    (λ (h : v % 4096 < 2048). rw (low-small v h) (record { low = omega (arith, ints); high = omega (arith, ints) }))
    (λ (h : 2048 ≤ v % 4096). rw (low-large v h) (record { low = omega (arith, ints); high = omega (arith, ints) }))
    (cases_lt (v % 4096) 2048)

-- the sum of LUI's number and ADDI's, in both cases of the sign
sum-small : (v : ℕ) → v % 4096 < 2048 → (high v * 4096 % 4294967296 + v % 4096) % 4294967296 ≡ v % 4294967296
sum-small v h = omega arith

sum-large : (v : ℕ) → 2048 ≤ v % 4096 → (high v * 4096 % 4294967296 + (4294967296 - (4096 - v % 4096))) % 4294967296 ≡ v % 4294967296
sum-large v h = omega arith

sum-made : (v : ℕ) → (high v * 2 ^ 12 % 2 ^ 32 + pattern (low v)) % 2 ^ 32 ≡ v % 2 ^ 32
sum-made v =
    ⊎_elim
    (λ (h : v % 4096 < 2048). rw (low-small v h) (sum-small v h))
    (λ (h : 2048 ≤ v % 4096). rw (low-large v h) (let s = sum-large v h in omega arith))
    (cases_lt (v % 4096) 2048)

pub value-made : (rd v : ℕ) → rd < 32 → MakesValue rd (v % 2 ^ 32) (loaded rd v)
value-made rd v h =
    let fits : high v < 2 ^ 20 = omega arith in
    record {
      first = encoded (Lui rd (high v));
      second = encoded (OpImm Add rd rd (low v));
      upper = high v;
      added = low v;
      two_words = refl;
      first_is_lui = decoded-encoded (Lui rd (high v)) h fits;
      second_is_addi = decoded-encoded (OpImm Add rd rd (low v)) (h, h) (refl, low-signed v);
      sum = sum-made v;
    }

register-below : (o : Option ℕ) → ((n : ℕ) → o ≡ Some n → n < 32) → register_number o < 32
register-below None h = omega arith
register-below (Some n) h = h n refl

pub operand-below : (text : List ℕ) (ts : List Token) (i : ℕ) → register_at text ts i < 32
operand-below text ts i = register-below (register_of (bytes_of text (token_at ts i))) (register_small (bytes_of text (token_at ts i)))

wrapped-below : (n : ℤ) → wrapped n < 2 ^ 32
wrapped-below (pos n) = omega arith
wrapped-below (negsuc n) = omega arith

number-made : (rd : ℕ) (n : ℤ) → rd < 32 → MakesValue rd (wrapped n) (loaded rd (wrapped n))
number-made rd n h =
    let below = wrapped-below n in
    let same : wrapped n % 2 ^ 32 ≡ wrapped n = omega arith in
    subst (λ (v : ℕ). MakesValue rd v (loaded rd (wrapped n))) same (value-made rd (wrapped n) h)

-- a line of `li`, and one of `la`
pub li-made : (text : List ℕ) (names : List ℕ → Option Meaning) (here : ℕ) (ts : List Token) → MakesValue (register_at text ts 0) (wrapped (number_at ts 2)) (emission text names here (code_for text ts Li))
li-made text names here ts = number-made (register_at text ts 0) (number_at ts 2) (operand-below text ts 0)

pub la-made : (text : List ℕ) (names : List ℕ → Option Meaning) (here v : ℕ) (ts : List Token) → loaded_address (register_at text ts 0) (names (bytes_of text (token_at ts 2))) ≡ loaded (register_at text ts 0) v
    → MakesValue (register_at text ts 0) (v % 2 ^ 32) (emission text names here (code_for text ts La))
la-made text names here v ts e = subst (MakesValue (register_at text ts 0) (v % 2 ^ 32)) (sym e) (value-made (register_at text ts 0) v (operand-below text ts 0))
