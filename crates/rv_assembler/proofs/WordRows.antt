-- The rows of the table of statements that the words of pseudo-instructions, and of their base lines, have: one each.
use Rattle.std.proofs.Common.{◌≡◌, ℕ, Bool, true, false, cond, List, Some, None, option_map, codes, refl, ap}
use Rattle.rv_isa.specs.declared.instr.AluOp as op
use Rattle.rv_isa.specs.declared.instr.Cond as branch
use Rattle.src_text.specs.declared.token.Token.{Token}
use Rattle.rv_assembler.specs.declared.kind.Kind.TheVariants.{Code}
use Rattle.rv_assembler.specs.declared.kind.Mnemonic.{Mnemonic}
use Rattle.rv_assembler.specs.declared.kind.Mnemonic as mnemonic
use Rattle.rv_assembler.specs.declared.kind.Piece.{Piece}
use Rattle.std.specs.Option.{option_or}
use Rattle.rv_assembler.specs.Shape.{Shape, row, memory_rows, operation_rows, short_rows, directive_rows, later_rows, fits, knows_word, kind_for, none, t, r, r_t, r_r, r_r_t, r_r_n, r_r_r, r_at}

-- the word has one row in both versions
pub record HasOneRow (w : List ℕ) (ps : List Piece) (m : Mnemonic) : Type 0 where
  pub known : (v : Bool) → knows_word v w ≡ true
  pub found : (v : Bool) (text : List ℕ) (ts : List Token) (b : Bool) → fits text ps ts ≡ b → kind_for v text w ts ≡ cond b (Some (Code m)) None

-- the row is the word's if the operands fit it
picked : (s : Shape) (fit b : Bool) → fit ≡ b → option_or (option_map (λ (s : Shape). s.kind) (cond fit (Some s) None)) None ≡ cond b (Some s.kind) None
picked s true b e = ap (λ (c : Bool). cond c (Some s.kind) None) e
picked s false b e = ap (λ (c : Bool). cond c (Some s.kind) None) e

nop-known : (v : Bool) → knows_word v (codes "nop") ≡ true
unfolding memory_rows operation_rows short_rows directive_rows later_rows
nop-known true = refl
nop-known false = refl

nop-found : (v : Bool) (text : List ℕ) (ts : List Token) (b : Bool) → fits text none ts ≡ b → kind_for v text (codes "nop") ts ≡ cond b (Some (Code mnemonic.TheVariants.Nop)) None
unfolding memory_rows operation_rows short_rows directive_rows later_rows
nop-found true text ts b e = picked (row (codes "nop") none (Code mnemonic.TheVariants.Nop)) (fits text none ts) b e
nop-found false text ts b e = picked (row (codes "nop") none (Code mnemonic.TheVariants.Nop)) (fits text none ts) b e

pub nop-row : HasOneRow (codes "nop") none mnemonic.TheVariants.Nop
nop-row = record { known = nop-known; found = nop-found }

mv-known : (v : Bool) → knows_word v (codes "mv") ≡ true
unfolding memory_rows operation_rows short_rows directive_rows later_rows
mv-known true = refl
mv-known false = refl

mv-found : (v : Bool) (text : List ℕ) (ts : List Token) (b : Bool) → fits text r_r ts ≡ b → kind_for v text (codes "mv") ts ≡ cond b (Some (Code mnemonic.TheVariants.Mv)) None
unfolding memory_rows operation_rows short_rows directive_rows later_rows
mv-found true text ts b e = picked (row (codes "mv") r_r (Code mnemonic.TheVariants.Mv)) (fits text r_r ts) b e
mv-found false text ts b e = picked (row (codes "mv") r_r (Code mnemonic.TheVariants.Mv)) (fits text r_r ts) b e

pub mv-row : HasOneRow (codes "mv") r_r mnemonic.TheVariants.Mv
mv-row = record { known = mv-known; found = mv-found }

not-known : (v : Bool) → knows_word v (codes "not") ≡ true
unfolding memory_rows operation_rows short_rows directive_rows later_rows
not-known true = refl
not-known false = refl

not-found : (v : Bool) (text : List ℕ) (ts : List Token) (b : Bool) → fits text r_r ts ≡ b → kind_for v text (codes "not") ts ≡ cond b (Some (Code mnemonic.TheVariants.Not)) None
unfolding memory_rows operation_rows short_rows directive_rows later_rows
not-found true text ts b e = picked (row (codes "not") r_r (Code mnemonic.TheVariants.Not)) (fits text r_r ts) b e
not-found false text ts b e = picked (row (codes "not") r_r (Code mnemonic.TheVariants.Not)) (fits text r_r ts) b e

pub not-row : HasOneRow (codes "not") r_r mnemonic.TheVariants.Not
not-row = record { known = not-known; found = not-found }

neg-known : (v : Bool) → knows_word v (codes "neg") ≡ true
unfolding memory_rows operation_rows short_rows directive_rows later_rows
neg-known true = refl
neg-known false = refl

neg-found : (v : Bool) (text : List ℕ) (ts : List Token) (b : Bool) → fits text r_r ts ≡ b → kind_for v text (codes "neg") ts ≡ cond b (Some (Code mnemonic.TheVariants.Neg)) None
unfolding memory_rows operation_rows short_rows directive_rows later_rows
neg-found true text ts b e = picked (row (codes "neg") r_r (Code mnemonic.TheVariants.Neg)) (fits text r_r ts) b e
neg-found false text ts b e = picked (row (codes "neg") r_r (Code mnemonic.TheVariants.Neg)) (fits text r_r ts) b e

pub neg-row : HasOneRow (codes "neg") r_r mnemonic.TheVariants.Neg
neg-row = record { known = neg-known; found = neg-found }

seqz-known : (v : Bool) → knows_word v (codes "seqz") ≡ true
unfolding memory_rows operation_rows short_rows directive_rows later_rows
seqz-known true = refl
seqz-known false = refl

seqz-found : (v : Bool) (text : List ℕ) (ts : List Token) (b : Bool) → fits text r_r ts ≡ b → kind_for v text (codes "seqz") ts ≡ cond b (Some (Code mnemonic.TheVariants.Seqz)) None
unfolding memory_rows operation_rows short_rows directive_rows later_rows
seqz-found true text ts b e = picked (row (codes "seqz") r_r (Code mnemonic.TheVariants.Seqz)) (fits text r_r ts) b e
seqz-found false text ts b e = picked (row (codes "seqz") r_r (Code mnemonic.TheVariants.Seqz)) (fits text r_r ts) b e

pub seqz-row : HasOneRow (codes "seqz") r_r mnemonic.TheVariants.Seqz
seqz-row = record { known = seqz-known; found = seqz-found }

snez-known : (v : Bool) → knows_word v (codes "snez") ≡ true
unfolding memory_rows operation_rows short_rows directive_rows later_rows
snez-known true = refl
snez-known false = refl

snez-found : (v : Bool) (text : List ℕ) (ts : List Token) (b : Bool) → fits text r_r ts ≡ b → kind_for v text (codes "snez") ts ≡ cond b (Some (Code mnemonic.TheVariants.Snez)) None
unfolding memory_rows operation_rows short_rows directive_rows later_rows
snez-found true text ts b e = picked (row (codes "snez") r_r (Code mnemonic.TheVariants.Snez)) (fits text r_r ts) b e
snez-found false text ts b e = picked (row (codes "snez") r_r (Code mnemonic.TheVariants.Snez)) (fits text r_r ts) b e

pub snez-row : HasOneRow (codes "snez") r_r mnemonic.TheVariants.Snez
snez-row = record { known = snez-known; found = snez-found }

beqz-known : (v : Bool) → knows_word v (codes "beqz") ≡ true
unfolding memory_rows operation_rows short_rows directive_rows later_rows
beqz-known true = refl
beqz-known false = refl

beqz-found : (v : Bool) (text : List ℕ) (ts : List Token) (b : Bool) → fits text r_t ts ≡ b → kind_for v text (codes "beqz") ts ≡ cond b (Some (Code (mnemonic.TheVariants.BranchZero branch.TheVariants.Eq))) None
unfolding memory_rows operation_rows short_rows directive_rows later_rows
beqz-found true text ts b e = picked (row (codes "beqz") r_t (Code (mnemonic.TheVariants.BranchZero branch.TheVariants.Eq))) (fits text r_t ts) b e
beqz-found false text ts b e = picked (row (codes "beqz") r_t (Code (mnemonic.TheVariants.BranchZero branch.TheVariants.Eq))) (fits text r_t ts) b e

pub beqz-row : HasOneRow (codes "beqz") r_t (mnemonic.TheVariants.BranchZero branch.TheVariants.Eq)
beqz-row = record { known = beqz-known; found = beqz-found }

bnez-known : (v : Bool) → knows_word v (codes "bnez") ≡ true
unfolding memory_rows operation_rows short_rows directive_rows later_rows
bnez-known true = refl
bnez-known false = refl

bnez-found : (v : Bool) (text : List ℕ) (ts : List Token) (b : Bool) → fits text r_t ts ≡ b → kind_for v text (codes "bnez") ts ≡ cond b (Some (Code (mnemonic.TheVariants.BranchZero branch.TheVariants.Ne))) None
unfolding memory_rows operation_rows short_rows directive_rows later_rows
bnez-found true text ts b e = picked (row (codes "bnez") r_t (Code (mnemonic.TheVariants.BranchZero branch.TheVariants.Ne))) (fits text r_t ts) b e
bnez-found false text ts b e = picked (row (codes "bnez") r_t (Code (mnemonic.TheVariants.BranchZero branch.TheVariants.Ne))) (fits text r_t ts) b e

pub bnez-row : HasOneRow (codes "bnez") r_t (mnemonic.TheVariants.BranchZero branch.TheVariants.Ne)
bnez-row = record { known = bnez-known; found = bnez-found }

j-known : (v : Bool) → knows_word v (codes "j") ≡ true
unfolding memory_rows operation_rows short_rows directive_rows later_rows
j-known true = refl
j-known false = refl

j-found : (v : Bool) (text : List ℕ) (ts : List Token) (b : Bool) → fits text t ts ≡ b → kind_for v text (codes "j") ts ≡ cond b (Some (Code mnemonic.TheVariants.J)) None
unfolding memory_rows operation_rows short_rows directive_rows later_rows
j-found true text ts b e = picked (row (codes "j") t (Code mnemonic.TheVariants.J)) (fits text t ts) b e
j-found false text ts b e = picked (row (codes "j") t (Code mnemonic.TheVariants.J)) (fits text t ts) b e

pub j-row : HasOneRow (codes "j") t mnemonic.TheVariants.J
j-row = record { known = j-known; found = j-found }

jr-known : (v : Bool) → knows_word v (codes "jr") ≡ true
unfolding memory_rows operation_rows short_rows directive_rows later_rows
jr-known true = refl
jr-known false = refl

jr-found : (v : Bool) (text : List ℕ) (ts : List Token) (b : Bool) → fits text r ts ≡ b → kind_for v text (codes "jr") ts ≡ cond b (Some (Code mnemonic.TheVariants.Jr)) None
unfolding memory_rows operation_rows short_rows directive_rows later_rows
jr-found true text ts b e = picked (row (codes "jr") r (Code mnemonic.TheVariants.Jr)) (fits text r ts) b e
jr-found false text ts b e = picked (row (codes "jr") r (Code mnemonic.TheVariants.Jr)) (fits text r ts) b e

pub jr-row : HasOneRow (codes "jr") r mnemonic.TheVariants.Jr
jr-row = record { known = jr-known; found = jr-found }

ret-known : (v : Bool) → knows_word v (codes "ret") ≡ true
unfolding memory_rows operation_rows short_rows directive_rows later_rows
ret-known true = refl
ret-known false = refl

ret-found : (v : Bool) (text : List ℕ) (ts : List Token) (b : Bool) → fits text none ts ≡ b → kind_for v text (codes "ret") ts ≡ cond b (Some (Code mnemonic.TheVariants.Ret)) None
unfolding memory_rows operation_rows short_rows directive_rows later_rows
ret-found true text ts b e = picked (row (codes "ret") none (Code mnemonic.TheVariants.Ret)) (fits text none ts) b e
ret-found false text ts b e = picked (row (codes "ret") none (Code mnemonic.TheVariants.Ret)) (fits text none ts) b e

pub ret-row : HasOneRow (codes "ret") none mnemonic.TheVariants.Ret
ret-row = record { known = ret-known; found = ret-found }

addi-known : (v : Bool) → knows_word v (codes "addi") ≡ true
unfolding memory_rows operation_rows short_rows directive_rows later_rows
addi-known true = refl
addi-known false = refl

addi-found : (v : Bool) (text : List ℕ) (ts : List Token) (b : Bool) → fits text r_r_n ts ≡ b → kind_for v text (codes "addi") ts ≡ cond b (Some (Code (mnemonic.TheVariants.OpImm op.TheVariants.Add))) None
unfolding memory_rows operation_rows short_rows directive_rows later_rows
addi-found true text ts b e = picked (row (codes "addi") r_r_n (Code (mnemonic.TheVariants.OpImm op.TheVariants.Add))) (fits text r_r_n ts) b e
addi-found false text ts b e = picked (row (codes "addi") r_r_n (Code (mnemonic.TheVariants.OpImm op.TheVariants.Add))) (fits text r_r_n ts) b e

pub addi-row : HasOneRow (codes "addi") r_r_n (mnemonic.TheVariants.OpImm op.TheVariants.Add)
addi-row = record { known = addi-known; found = addi-found }

xori-known : (v : Bool) → knows_word v (codes "xori") ≡ true
unfolding memory_rows operation_rows short_rows directive_rows later_rows
xori-known true = refl
xori-known false = refl

xori-found : (v : Bool) (text : List ℕ) (ts : List Token) (b : Bool) → fits text r_r_n ts ≡ b → kind_for v text (codes "xori") ts ≡ cond b (Some (Code (mnemonic.TheVariants.OpImm op.TheVariants.Xor))) None
unfolding memory_rows operation_rows short_rows directive_rows later_rows
xori-found true text ts b e = picked (row (codes "xori") r_r_n (Code (mnemonic.TheVariants.OpImm op.TheVariants.Xor))) (fits text r_r_n ts) b e
xori-found false text ts b e = picked (row (codes "xori") r_r_n (Code (mnemonic.TheVariants.OpImm op.TheVariants.Xor))) (fits text r_r_n ts) b e

pub xori-row : HasOneRow (codes "xori") r_r_n (mnemonic.TheVariants.OpImm op.TheVariants.Xor)
xori-row = record { known = xori-known; found = xori-found }

sltiu-known : (v : Bool) → knows_word v (codes "sltiu") ≡ true
unfolding memory_rows operation_rows short_rows directive_rows later_rows
sltiu-known true = refl
sltiu-known false = refl

sltiu-found : (v : Bool) (text : List ℕ) (ts : List Token) (b : Bool) → fits text r_r_n ts ≡ b → kind_for v text (codes "sltiu") ts ≡ cond b (Some (Code (mnemonic.TheVariants.OpImm op.TheVariants.Sltu))) None
unfolding memory_rows operation_rows short_rows directive_rows later_rows
sltiu-found true text ts b e = picked (row (codes "sltiu") r_r_n (Code (mnemonic.TheVariants.OpImm op.TheVariants.Sltu))) (fits text r_r_n ts) b e
sltiu-found false text ts b e = picked (row (codes "sltiu") r_r_n (Code (mnemonic.TheVariants.OpImm op.TheVariants.Sltu))) (fits text r_r_n ts) b e

pub sltiu-row : HasOneRow (codes "sltiu") r_r_n (mnemonic.TheVariants.OpImm op.TheVariants.Sltu)
sltiu-row = record { known = sltiu-known; found = sltiu-found }

sub-known : (v : Bool) → knows_word v (codes "sub") ≡ true
unfolding memory_rows operation_rows short_rows directive_rows later_rows
sub-known true = refl
sub-known false = refl

sub-found : (v : Bool) (text : List ℕ) (ts : List Token) (b : Bool) → fits text r_r_r ts ≡ b → kind_for v text (codes "sub") ts ≡ cond b (Some (Code (mnemonic.TheVariants.Op op.TheVariants.Sub))) None
unfolding memory_rows operation_rows short_rows directive_rows later_rows
sub-found true text ts b e = picked (row (codes "sub") r_r_r (Code (mnemonic.TheVariants.Op op.TheVariants.Sub))) (fits text r_r_r ts) b e
sub-found false text ts b e = picked (row (codes "sub") r_r_r (Code (mnemonic.TheVariants.Op op.TheVariants.Sub))) (fits text r_r_r ts) b e

pub sub-row : HasOneRow (codes "sub") r_r_r (mnemonic.TheVariants.Op op.TheVariants.Sub)
sub-row = record { known = sub-known; found = sub-found }

sltu-known : (v : Bool) → knows_word v (codes "sltu") ≡ true
unfolding memory_rows operation_rows short_rows directive_rows later_rows
sltu-known true = refl
sltu-known false = refl

sltu-found : (v : Bool) (text : List ℕ) (ts : List Token) (b : Bool) → fits text r_r_r ts ≡ b → kind_for v text (codes "sltu") ts ≡ cond b (Some (Code (mnemonic.TheVariants.Op op.TheVariants.Sltu))) None
unfolding memory_rows operation_rows short_rows directive_rows later_rows
sltu-found true text ts b e = picked (row (codes "sltu") r_r_r (Code (mnemonic.TheVariants.Op op.TheVariants.Sltu))) (fits text r_r_r ts) b e
sltu-found false text ts b e = picked (row (codes "sltu") r_r_r (Code (mnemonic.TheVariants.Op op.TheVariants.Sltu))) (fits text r_r_r ts) b e

pub sltu-row : HasOneRow (codes "sltu") r_r_r (mnemonic.TheVariants.Op op.TheVariants.Sltu)
sltu-row = record { known = sltu-known; found = sltu-found }

beq-known : (v : Bool) → knows_word v (codes "beq") ≡ true
unfolding memory_rows operation_rows short_rows directive_rows later_rows
beq-known true = refl
beq-known false = refl

beq-found : (v : Bool) (text : List ℕ) (ts : List Token) (b : Bool) → fits text r_r_t ts ≡ b → kind_for v text (codes "beq") ts ≡ cond b (Some (Code (mnemonic.TheVariants.Branch branch.TheVariants.Eq))) None
unfolding memory_rows operation_rows short_rows directive_rows later_rows
beq-found true text ts b e = picked (row (codes "beq") r_r_t (Code (mnemonic.TheVariants.Branch branch.TheVariants.Eq))) (fits text r_r_t ts) b e
beq-found false text ts b e = picked (row (codes "beq") r_r_t (Code (mnemonic.TheVariants.Branch branch.TheVariants.Eq))) (fits text r_r_t ts) b e

pub beq-row : HasOneRow (codes "beq") r_r_t (mnemonic.TheVariants.Branch branch.TheVariants.Eq)
beq-row = record { known = beq-known; found = beq-found }

bne-known : (v : Bool) → knows_word v (codes "bne") ≡ true
unfolding memory_rows operation_rows short_rows directive_rows later_rows
bne-known true = refl
bne-known false = refl

bne-found : (v : Bool) (text : List ℕ) (ts : List Token) (b : Bool) → fits text r_r_t ts ≡ b → kind_for v text (codes "bne") ts ≡ cond b (Some (Code (mnemonic.TheVariants.Branch branch.TheVariants.Ne))) None
unfolding memory_rows operation_rows short_rows directive_rows later_rows
bne-found true text ts b e = picked (row (codes "bne") r_r_t (Code (mnemonic.TheVariants.Branch branch.TheVariants.Ne))) (fits text r_r_t ts) b e
bne-found false text ts b e = picked (row (codes "bne") r_r_t (Code (mnemonic.TheVariants.Branch branch.TheVariants.Ne))) (fits text r_r_t ts) b e

pub bne-row : HasOneRow (codes "bne") r_r_t (mnemonic.TheVariants.Branch branch.TheVariants.Ne)
bne-row = record { known = bne-known; found = bne-found }

jal-known : (v : Bool) → knows_word v (codes "jal") ≡ true
unfolding memory_rows operation_rows short_rows directive_rows later_rows
jal-known true = refl
jal-known false = refl

jal-found : (v : Bool) (text : List ℕ) (ts : List Token) (b : Bool) → fits text r_t ts ≡ b → kind_for v text (codes "jal") ts ≡ cond b (Some (Code mnemonic.TheVariants.Jal)) None
unfolding memory_rows operation_rows short_rows directive_rows later_rows
jal-found true text ts b e = picked (row (codes "jal") r_t (Code mnemonic.TheVariants.Jal)) (fits text r_t ts) b e
jal-found false text ts b e = picked (row (codes "jal") r_t (Code mnemonic.TheVariants.Jal)) (fits text r_t ts) b e

pub jal-row : HasOneRow (codes "jal") r_t mnemonic.TheVariants.Jal
jal-row = record { known = jal-known; found = jal-found }

jalr-known : (v : Bool) → knows_word v (codes "jalr") ≡ true
unfolding memory_rows operation_rows short_rows directive_rows later_rows
jalr-known true = refl
jalr-known false = refl

jalr-found : (v : Bool) (text : List ℕ) (ts : List Token) (b : Bool) → fits text r_at ts ≡ b → kind_for v text (codes "jalr") ts ≡ cond b (Some (Code mnemonic.TheVariants.Jalr)) None
unfolding memory_rows operation_rows short_rows directive_rows later_rows
jalr-found true text ts b e = picked (row (codes "jalr") r_at (Code mnemonic.TheVariants.Jalr)) (fits text r_at ts) b e
jalr-found false text ts b e = picked (row (codes "jalr") r_at (Code mnemonic.TheVariants.Jalr)) (fits text r_at ts) b e

pub jalr-row : HasOneRow (codes "jalr") r_at mnemonic.TheVariants.Jalr
jalr-row = record { known = jalr-known; found = jalr-found }
