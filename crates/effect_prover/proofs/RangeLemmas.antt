-- What the arithmetic of ranges says of their numbers.
use Rattle.std.proofs.Common.{◌≡◌, ℕ, ◌+◌, ◌-◌, ◌*◌, ◌/◌, ◌%◌, ◌^◌, ◌<◌, ◌≤◌, Bool, true, false, ◌&&◌, ◌==◌, nat_lt, if◌then◌else◌, sym, ◌∙◌, arith, int_lt, Fits}
use Rattle.std.proofs.lemmas.Bool.{true≢false, ltb-true, lt-ltb, eqb-true, cond_both, and_parts, eq-eqb, and_from}
use Rattle.std.proofs.lemmas.Nat.{and_le_l, and_le_r, mul-le, pow_pos, shr_le, le-div, mod_below, xor_of_32, or_of_32}
use Rattle.std.proofs.Math.Nat.{div-mul-le_self}
use Rattle.std.proofs.Math.Facts.{sfits_to_z, Fits-of_lt, Fits-of_z}
use Rattle.std.specs.Int.{w32, int_shr}
use mir.Val.{SFits}
use lib.IntN.{ℤ, pos, negsuc}
use Rattle.rv_isa.specs.Word.{pattern}
use Rattle.rv_isa.specs.Meaning.{amount, signed, alu_of}
use Rattle.rv_isa.specs.declared.instr.AluOp.{AluOp}
use Rattle.rv_isa.specs.declared.instr.AluOp.TheVariants.{Add, Sub, Sll, Slt, Sltu, Xor, Srl, Sra, Or, And}
use Rattle.effect_prover.specs.declared.range.Range.{Range}
use Rattle.effect_prover.specs.Range.{Has, LiesWithin, IsRange, one, every, is_one, wrapped_range, form, form_imm, computed, computed_imm}

-- ---- ranges and numbers

pub in-itself : (a : Range) → LiesWithin a a
in-itself a = record { low = omega arith; high = omega arith }

pub in-trans : (a b c : Range) → LiesWithin a b → LiesWithin b c → LiesWithin a c
in-trans a b c h k = record { low = omega arith; high = omega arith }

pub has-in : (a b : Range) (n : ℕ) → LiesWithin a b → Has a n → Has b n
has-in a b n h k = record { low = omega arith; high = omega arith }

pub one-has : (n : ℕ) → Has (one n) n
one-has n = record { low = omega arith; high = omega arith }

pub one-range : (n : ℕ) → n < 2 ^ 32 → IsRange (one n)
one-range n h = record { some = omega arith; within = omega arith }

pub every-range : IsRange every
every-range = record { some = omega arith; within = omega arith }

pub every-has : (n : ℕ) → n < 2 ^ 32 → Has every n
every-has n h = record { low = omega arith; high = omega arith }

pub every-in : (a : Range) → IsRange a → LiesWithin a every
every-in a h = record { low = omega arith; high = omega arith }

pub has-small : (a : Range) (n : ℕ) → IsRange a → Has a n → n < 2 ^ 32
has-small a n h k = omega arith

-- the number is in a range that has another range where it has both its ends
pub one-in : (a : Range) (n : ℕ) → Has a n → LiesWithin (one n) a
one-in a n h = record { low = h.low; high = h.high }

-- ---- sums with wrap

pub wrapped-has : (least v greatest : ℕ) → least ≤ v → v ≤ greatest → Has (wrapped_range least greatest) (v % 2 ^ 32)
wrapped-has least v greatest low high =
    cond_both (least / 2 ^ 32 == greatest / 2 ^ 32) (record { lo = least % 2 ^ 32; hi = greatest % 2 ^ 32 }) every
    (λ (a : Range). Has a (v % 2 ^ 32))
    (λ e. let same = eqb-true (least / 2 ^ 32) (greatest / 2 ^ 32) e in record { low = omega arith; high = omega arith })
    (λ e. record { low = omega arith; high = omega arith })

pub wrapped-range : (least greatest : ℕ) → least ≤ greatest → IsRange (wrapped_range least greatest)
wrapped-range least greatest h =
    cond_both (least / 2 ^ 32 == greatest / 2 ^ 32) (record { lo = least % 2 ^ 32; hi = greatest % 2 ^ 32 }) every
    IsRange
    (λ e. let same = eqb-true (least / 2 ^ 32) (greatest / 2 ^ 32) e in record { some = omega arith; within = omega arith })
    (λ e. every-range)

pub wrapped-in : (least greatest low high : ℕ) → low ≤ least → least ≤ greatest → greatest ≤ high → LiesWithin (wrapped_range least greatest) (wrapped_range low high)
wrapped-in least greatest low high l m h =
    cond_both (low / 2 ^ 32 == high / 2 ^ 32) (record { lo = low % 2 ^ 32; hi = high % 2 ^ 32 }) every
    (λ (a : Range). LiesWithin (wrapped_range least greatest) a)
    (λ e.
    let same = eqb-true (low / 2 ^ 32) (high / 2 ^ 32) e in
    let both : (least / 2 ^ 32 == greatest / 2 ^ 32) ≡ true = eq-eqb (least / 2 ^ 32) (greatest / 2 ^ 32) (omega arith) in
    rw both (record { low = omega arith; high = omega arith }))
    (λ e. every-in (wrapped_range least greatest) (wrapped-range least greatest m))

-- ---- operations

-- a comparison gives 0 or 1
bit-has : (b : Bool) → Has (record { lo = 0; hi = 1 }) (if b then 1 else 0)
bit-has true = record { low = omega arith; high = omega arith }
bit-has false = record { low = omega arith; high = omega arith }

shift-less : (a b n : ℕ) → a ≤ b → a * 2 ^ n ≤ b * 2 ^ n
shift-less a b n h = mul-le a (2 ^ n) b (2 ^ n) h (omega arith)

shift-back : (a b n : ℕ) → a ≤ b → a / 2 ^ n ≤ b / 2 ^ n
shift-back a b n h =
    let down = div-mul-le_self a (2 ^ n) in le-div (a / 2 ^ n) b (2 ^ n) (pow_pos n) (omega arith)

bit-small : (b : Bool) → (if b then 1 else 0) < 2 ^ 32
bit-small true = omega arith
bit-small false = omega arith

-- a shift of a number with sign keeps its 32 bits
sra-small : (z : ℤ) (n : ℕ) → SFits w32 z → pattern (int_shr z n) < 2 ^ 32
sra-small (pos m) n f =
    let g : Fits w32 m = Fits-of_z {w = w32} {z = pos m} f in
    let l = shr_le m n in omega arith
sra-small (negsuc m) n f = omega arith

-- the results are numbers of 32 bits
pub alu-small : (op : AluOp) (x y : ℕ) → x < 2 ^ 32 → y < 2 ^ 32 → alu_of op x y < 2 ^ 32
alu-small Add x y h k = omega arith
alu-small Sub x y h k = omega arith
alu-small Sll x y h k = mod_below (x * 2 ^ amount y) (2 ^ 32) (omega arith)
alu-small Slt x y h k = bit-small (int_lt (signed x) (signed y))
alu-small Sltu x y h k = bit-small (nat_lt x y)
alu-small Xor x y h k = xor_of_32 x y h k
alu-small Srl x y h k = let l = shr_le x (amount y) in omega arith
alu-small Sra x y h k = sra-small (signed x) (amount y) (sfits_to_z {w = w32} {n = x} (Fits-of_lt {w = w32} {n = x} h))
alu-small Or x y h k = or_of_32 x y h k
alu-small And x y h k = let l = and_le_l x y in omega arith

pub form-range : (op : AluOp) (a b : Range) → IsRange a → IsRange b → IsRange (form op a b)
form-range Add a b h k = wrapped-range (a.lo + b.lo) (a.hi + b.hi) (omega arith)
form-range Sub a b h k = wrapped-range (a.lo + 2 ^ 32 - b.hi) (a.hi + 2 ^ 32 - b.lo) (omega arith)
form-range Sll a b h k = every-range
form-range Slt a b h k = record { some = omega arith; within = omega arith }
form-range Sltu a b h k = record { some = omega arith; within = omega arith }
form-range Xor a b h k = every-range
form-range Srl a b h k = every-range
form-range Sra a b h k = every-range
form-range Or a b h k = every-range
form-range And a b h k = record { some = omega arith; within = omega arith }

-- each result of an operation on numbers of two ranges lies in the range of the results
pub form-has : (op : AluOp) (a b : Range) (x y : ℕ) → IsRange a → IsRange b → Has a x → Has b y → Has (form op a b) (alu_of op x y)
form-has Add a b x y ra rb h k = wrapped-has (a.lo + b.lo) (x + y) (a.hi + b.hi) (omega arith) (omega arith)
form-has Sub a b x y ra rb h k =
    wrapped-has (a.lo + 2 ^ 32 - b.hi) (x + 2 ^ 32 - y) (a.hi + 2 ^ 32 - b.lo) (omega arith) (omega arith)
form-has Sll a b x y ra rb h k = every-has (alu_of Sll x y) (alu-small Sll x y (has-small a x ra h) (has-small b y rb k))
form-has Slt a b x y ra rb h k = bit-has _
form-has Sltu a b x y ra rb h k = bit-has (nat_lt x y)
form-has Xor a b x y ra rb h k = every-has (alu_of Xor x y) (alu-small Xor x y (has-small a x ra h) (has-small b y rb k))
form-has Srl a b x y ra rb h k = every-has (alu_of Srl x y) (alu-small Srl x y (has-small a x ra h) (has-small b y rb k))
form-has Sra a b x y ra rb h k = every-has (alu_of Sra x y) (alu-small Sra x y (has-small a x ra h) (has-small b y rb k))
form-has Or a b x y ra rb h k = every-has (alu_of Or x y) (alu-small Or x y (has-small a x ra h) (has-small b y rb k))
form-has And a b x y ra rb h k =
    let l = and_le_l x y in
    let r = and_le_r x y in
    record { low = omega arith; high = omega arith }

-- wider operands have wider results
pub form-in : (op : AluOp) (a b c d : Range) → IsRange a → IsRange b → LiesWithin a c → LiesWithin b d → LiesWithin (form op a b) (form op c d)
form-in Add a b c d ra rb h k = wrapped-in (a.lo + b.lo) (a.hi + b.hi) (c.lo + d.lo) (c.hi + d.hi) (omega arith) (omega arith) (omega arith)
form-in Sub a b c d ra rb h k =
    wrapped-in (a.lo + 2 ^ 32 - b.hi) (a.hi + 2 ^ 32 - b.lo) (c.lo + 2 ^ 32 - d.hi) (c.hi + 2 ^ 32 - d.lo) (omega arith) (omega arith) (omega arith)
form-in Sll a b c d ra rb h k = in-itself every
form-in Slt a b c d ra rb h k = in-itself (record { lo = 0; hi = 1 })
form-in Sltu a b c d ra rb h k = in-itself (record { lo = 0; hi = 1 })
form-in Xor a b c d ra rb h k = in-itself every
form-in Srl a b c d ra rb h k = in-itself every
form-in Sra a b c d ra rb h k = in-itself every
form-in Or a b c d ra rb h k = in-itself every
form-in And a b c d ra rb h k = record { low = omega arith; high = omega arith }

-- ---- immediates

pub form_imm-range : (op : AluOp) (a : Range) (n : ℕ) → IsRange a → n < 2 ^ 32 → IsRange (form_imm op a n)
form_imm-range Add a n h k = form-range Add a (one n) h (one-range n k)
form_imm-range Sub a n h k = form-range Sub a (one n) h (one-range n k)
form_imm-range Sll a n h k =
    cond_both (nat_lt (a.hi * 2 ^ amount n) (2 ^ 32)) (record { lo = a.lo * 2 ^ amount n; hi = a.hi * 2 ^ amount n }) every
    IsRange
    (λ e. let l = ltb-true (a.hi * 2 ^ amount n) (2 ^ 32) e in record { some = shift-less a.lo a.hi (amount n) h.some; within = l })
    (λ e. every-range)
form_imm-range Slt a n h k = form-range Slt a (one n) h (one-range n k)
form_imm-range Sltu a n h k = form-range Sltu a (one n) h (one-range n k)
form_imm-range Xor a n h k = every-range
form_imm-range Srl a n h k =
    let l = shr_le a.hi (amount n) in record { some = shift-back a.lo a.hi (amount n) h.some; within = omega arith }
form_imm-range Sra a n h k = every-range
form_imm-range Or a n h k = every-range
form_imm-range And a n h k = form-range And a (one n) h (one-range n k)

pub form_imm-has : (op : AluOp) (a : Range) (n x : ℕ) → IsRange a → n < 2 ^ 32 → Has a x → Has (form_imm op a n) (alu_of op x n)
form_imm-has Add a n x ra k h = form-has Add a (one n) x n ra (one-range n k) h (one-has n)
form_imm-has Sub a n x ra k h = form-has Sub a (one n) x n ra (one-range n k) h (one-has n)
form_imm-has Sll a n x ra k h =
    cond_both (nat_lt (a.hi * 2 ^ amount n) (2 ^ 32)) (record { lo = a.lo * 2 ^ amount n; hi = a.hi * 2 ^ amount n }) every
    (λ (z : Range). Has z (alu_of Sll x n))
    (λ e.
    let l = ltb-true (a.hi * 2 ^ amount n) (2 ^ 32) e in
    let low = shift-less a.lo x (amount n) h.low in
    let high = shift-less x a.hi (amount n) h.high in
    let small : x * 2 ^ amount n % 2 ^ 32 ≡ x * 2 ^ amount n = omega arith in
    record { low = omega arith; high = omega arith })
    (λ e. every-has (alu_of Sll x n) (alu-small Sll x n (has-small a x ra h) k))
form_imm-has Slt a n x ra k h = form-has Slt a (one n) x n ra (one-range n k) h (one-has n)
form_imm-has Sltu a n x ra k h = form-has Sltu a (one n) x n ra (one-range n k) h (one-has n)
form_imm-has Xor a n x ra k h = form-has Xor a (one n) x n ra (one-range n k) h (one-has n)
form_imm-has Srl a n x ra k h = record { low = shift-back a.lo x (amount n) h.low; high = shift-back x a.hi (amount n) h.high }
form_imm-has Sra a n x ra k h = form-has Sra a (one n) x n ra (one-range n k) h (one-has n)
form_imm-has Or a n x ra k h = form-has Or a (one n) x n ra (one-range n k) h (one-has n)
form_imm-has And a n x ra k h = form-has And a (one n) x n ra (one-range n k) h (one-has n)

pub form_imm-in : (op : AluOp) (a c : Range) (n : ℕ) → IsRange a → n < 2 ^ 32 → LiesWithin a c → LiesWithin (form_imm op a n) (form_imm op c n)
form_imm-in Add a c n ra k h = form-in Add a (one n) c (one n) ra (one-range n k) h (in-itself (one n))
form_imm-in Sub a c n ra k h = form-in Sub a (one n) c (one n) ra (one-range n k) h (in-itself (one n))
form_imm-in Sll a c n ra k h =
    cond_both (nat_lt (c.hi * 2 ^ amount n) (2 ^ 32)) (record { lo = c.lo * 2 ^ amount n; hi = c.hi * 2 ^ amount n }) every
    (λ (z : Range). LiesWithin (form_imm Sll a n) z)
    (λ e.
    let l = ltb-true (c.hi * 2 ^ amount n) (2 ^ 32) e in
    let low = shift-less c.lo a.lo (amount n) h.low in
    let high = shift-less a.hi c.hi (amount n) h.high in
    let both : nat_lt (a.hi * 2 ^ amount n) (2 ^ 32) ≡ true = lt-ltb (a.hi * 2 ^ amount n) (2 ^ 32) (omega arith) in
    rw both (record { low = low; high = high }))
    (λ e. every-in (form_imm Sll a n) (form_imm-range Sll a n ra k))
form_imm-in Slt a c n ra k h = in-itself (record { lo = 0; hi = 1 })
form_imm-in Sltu a c n ra k h = in-itself (record { lo = 0; hi = 1 })
form_imm-in Xor a c n ra k h = in-itself every
form_imm-in Srl a c n ra k h = record { low = shift-back c.lo a.lo (amount n) h.low; high = shift-back a.hi c.hi (amount n) h.high }
form_imm-in Sra a c n ra k h = in-itself every
form_imm-in Or a c n ra k h = in-itself every
form_imm-in And a c n ra k h = form-in And a (one n) c (one n) ra (one-range n k) h (in-itself (one n))

-- ---- operands of one number

-- a range of one number has that number alone
pub one-is : (a : Range) (x : ℕ) → is_one a ≡ true → Has a x → x ≡ a.lo
one-is a x e h = let same = eqb-true a.lo a.hi e in omega arith

pub computed-range : (op : AluOp) (a b : Range) → IsRange a → IsRange b → IsRange (computed op a b)
computed-range op a b ra rb =
    cond_both (is_one a && is_one b) (one (alu_of op a.lo b.lo)) (form op a b) IsRange
    (λ e. one-range (alu_of op a.lo b.lo) (alu-small op a.lo b.lo (omega arith) (omega arith)))
    (λ e. form-range op a b ra rb)

pub computed-has : (op : AluOp) (a b : Range) (x y : ℕ) → IsRange a → IsRange b → Has a x → Has b y → Has (computed op a b) (alu_of op x y)
computed-has op a b x y ra rb h k =
    cond_both (is_one a && is_one b) (one (alu_of op a.lo b.lo)) (form op a b) (λ (z : Range). Has z (alu_of op x y))
    (λ e.
    let parts = and_parts (is_one a) (is_one b) e in
    rw (one-is a x parts.0 h, one-is b y parts.1 k) (one-has (alu_of op a.lo b.lo)))
    (λ e. form-has op a b x y ra rb h k)

low-has : (a : Range) → IsRange a → Has a a.lo
low-has a h = record { low = omega arith; high = h.some }

pub computed-in : (op : AluOp) (a b c d : Range) → IsRange a → IsRange b → IsRange c → IsRange d → LiesWithin a c → LiesWithin b d → LiesWithin (computed op a b) (computed op c d)
computed-in op a b c d ra rb rc rd h k =
    cond_both (is_one a && is_one b) (one (alu_of op a.lo b.lo)) (form op a b) (λ (z : Range). LiesWithin z (computed op c d))
    (λ e. one-in (computed op c d) (alu_of op a.lo b.lo)
    (computed-has op c d a.lo b.lo rc rd (has-in a c a.lo h (low-has a ra)) (has-in b d b.lo k (low-has b rb))))
    (λ e.
    cond_both (is_one c && is_one d) (one (alu_of op c.lo d.lo)) (form op c d) (λ (z : Range). LiesWithin (form op a b) z)
    (λ f. absurd (
    let parts = and_parts (is_one c) (is_one d) f in
    let ca = eqb-true c.lo c.hi parts.0 in
    let db = eqb-true d.lo d.hi parts.1 in
    true≢false (sym (and_from (is_one a) (is_one b) (eq-eqb a.lo a.hi (omega arith)) (eq-eqb b.lo b.hi (omega arith))) ∙ e)))
    (λ f. form-in op a b c d ra rb h k))

pub computed_imm-range : (op : AluOp) (a : Range) (n : ℕ) → IsRange a → n < 2 ^ 32 → IsRange (computed_imm op a n)
computed_imm-range op a n ra k =
    cond_both (is_one a) (one (alu_of op a.lo n)) (form_imm op a n) IsRange
    (λ e. one-range (alu_of op a.lo n) (alu-small op a.lo n (omega arith) k))
    (λ e. form_imm-range op a n ra k)

pub computed_imm-has : (op : AluOp) (a : Range) (n x : ℕ) → IsRange a → n < 2 ^ 32 → Has a x → Has (computed_imm op a n) (alu_of op x n)
computed_imm-has op a n x ra k h =
    cond_both (is_one a) (one (alu_of op a.lo n)) (form_imm op a n) (λ (z : Range). Has z (alu_of op x n))
    (λ e. rw (one-is a x e h) (one-has (alu_of op a.lo n)))
    (λ e. form_imm-has op a n x ra k h)

pub computed_imm-in : (op : AluOp) (a c : Range) (n : ℕ) → IsRange a → IsRange c → n < 2 ^ 32 → LiesWithin a c → LiesWithin (computed_imm op a n) (computed_imm op c n)
computed_imm-in op a c n ra rc k h =
    cond_both (is_one a) (one (alu_of op a.lo n)) (form_imm op a n) (λ (z : Range). LiesWithin z (computed_imm op c n))
    (λ e. one-in (computed_imm op c n) (alu_of op a.lo n) (computed_imm-has op c n a.lo rc k (has-in a c a.lo h (low-has a ra))))
    (λ e.
    cond_both (is_one c) (one (alu_of op c.lo n)) (form_imm op c n) (λ (z : Range). LiesWithin (form_imm op a n) z)
    (λ f. absurd (let ca = eqb-true c.lo c.hi f in true≢false (sym (eq-eqb a.lo a.hi (omega arith)) ∙ e)))
    (λ f. form_imm-in op a c n ra k h))

pub ruleset results_lie = (computed-range, computed-has, computed_imm-range, computed_imm-has)
