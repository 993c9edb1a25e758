-- A line of a pseudo-instruction says what its base line says.
use Rattle.std.proofs.Common.{◌≡◌, ℕ, zero, suc, ◌<◌, ℤ, pos, codes, Bool, true, false, not, ◌&&◌, ◌||◌, cond, eqb, get_or, drop, List, [], ◌∷◌, length, Option, Some, None, is_some, Result, Ok, Err, refl, sym, ap, ◌∙◌, arith}
use Rattle.std.specs.Prelude.{neg_ℤ}
use Rattle.std.specs.List.{All, AllZip}
use Rattle.std.proofs.lemmas.Bool.{and_parts}
use Rattle.std.proofs.lemmas.List.Elements.{All-nil, All-cons}
use Rattle.rv_isa.specs.declared.instr.AluOp as op
use Rattle.rv_isa.specs.declared.instr.Cond.{Cond}
use Rattle.rv_isa.specs.declared.instr.Cond as branch
use Rattle.src_text.specs.Register.{register_of}
use Rattle.src_text.specs.declared.token.Token.{Token}
use Rattle.src_text.specs.declared.token.TokenKind.{TokenKind}
use Rattle.src_text.specs.declared.token.TokenKind.TheVariants.{Name, Comma, Left, Right}
use Rattle.rv_assembler.specs.declared.fault.SourceFault.{SourceFault}
use Rattle.rv_assembler.specs.declared.fault.SourceFault as fault
use Rattle.rv_assembler.specs.declared.kind.Kind.{Kind}
use Rattle.rv_assembler.specs.declared.kind.Kind.TheVariants.{Code as IsCode}
use Rattle.rv_assembler.specs.declared.kind.Mnemonic.{Mnemonic}
use Rattle.rv_assembler.specs.declared.kind.Mnemonic as mnemonic
use Rattle.rv_assembler.specs.declared.kind.Piece.{Piece}
use Rattle.rv_assembler.specs.declared.kind.Piece as piece
use Rattle.rv_assembler.specs.declared.names.Meaning.{Meaning}
use Rattle.rv_assembler.specs.declared.statement.Code.{Code}
use Rattle.rv_assembler.specs.declared.statement.Code.TheVariants.{Jump, JumpRegister, Branch, OpImm, Op}
use Rattle.rv_assembler.specs.declared.statement.Statement.{Statement}
use Rattle.rv_assembler.specs.declared.statement.Statement.TheVariants.{Instruction}
use Rattle.rv_assembler.specs.Operand.{bytes_of, token_at, number_of_kind, number_at, register_number, register_at}
use Rattle.rv_assembler.specs.Shape as shape
use Rattle.rv_assembler.specs.Shape.{piece_fits, fits, knows_word, kind_for, none, t, r, r_t, r_r, r_r_t, r_r_n, r_r_r, r_at}
use Rattle.rv_assembler.specs.Reading.{code_for, statement_of, statement_in}
use Rattle.rv_assembler.specs.Emission.{jump, branch as branch_emission, offset_by, offset_of, emission}
use Rattle.rv_assembler.specs.BaseLine.{BasePart, FromLine, XRegister, Literal, Mark, Pseudo, AreSpelledAlike, IsBaseToken, ArePseudoLines, SaysTheSame, HasBaseLine, stands_for, two, three, based, first_operand, second_operand, zero_register, pseudo_rows}
use Rattle.rv_assembler.proofs.WordRows.{HasOneRow, nop-row, mv-row, not-row, neg-row, seqz-row, snez-row, beqz-row, bnez-row, j-row, jr-row, ret-row, addi-row, xori-row, sltiu-row, sub-row, sltu-row, beq-row, bne-row, jal-row, jalr-row}

-- ---- operands

-- a token that is spelled like one that fits a piece fits it too
alike-fits : (text : List ℕ) (t u : Token) (p : Piece) → AreSpelledAlike text t u → piece_fits text p t ≡ true → piece_fits text p u ≡ true
alike-fits text t u piece.TheVariants.Register a e = ap (λ (k : TokenKind). shape.is_name k && is_some (register_of (bytes_of text u))) (sym a.kind) ∙ ap (λ (bs : List ℕ). shape.is_name t.kind && is_some (register_of bs)) (sym a.bytes) ∙ e
alike-fits text t u piece.TheVariants.Number a e = ap shape.is_number (sym a.kind) ∙ e
alike-fits text t u piece.TheVariants.Name a e = ap (λ (k : TokenKind). shape.is_name k && not (eqb (get_or (bytes_of text u) 0 0) 46)) (sym a.kind) ∙ ap (λ (bs : List ℕ). shape.is_name t.kind && not (eqb (get_or bs 0 0) 46)) (sym a.bytes) ∙ e
alike-fits text t u piece.TheVariants.Target a e =
    ap (λ (k : TokenKind). shape.is_number k || (shape.is_name k && not (eqb (get_or (bytes_of text u) 0 0) 46))) (sym a.kind)
    ∙ ap (λ (bs : List ℕ). shape.is_number t.kind || (shape.is_name t.kind && not (eqb (get_or bs 0 0) 46))) (sym a.bytes) ∙ e
alike-fits text t u piece.TheVariants.Comma a e = ap shape.is_comma (sym a.kind) ∙ e
alike-fits text t u piece.TheVariants.Left a e = ap shape.is_left (sym a.kind) ∙ e
alike-fits text t u piece.TheVariants.Right a e = ap shape.is_right (sym a.kind) ∙ e

-- what is written fits a piece
abbrev Suits : List ℕ → List Token → Piece → BasePart → Type 0
Suits text ts p (FromLine i) = piece_fits text p (token_at ts i) ≡ true
Suits text ts p (XRegister n) = p ≡ piece.TheVariants.Register
Suits text ts p (Literal z) = p ≡ piece.TheVariants.Number
Suits text ts p (Mark k) = (u : Token) → u.kind ≡ k → piece_fits text p u ≡ true

written-fits : (text : List ℕ) (ts : List Token) (p : Piece) (b : BasePart) (u : Token) → Suits text ts p b → IsBaseToken text ts b u → piece_fits text p u ≡ true
written-fits text ts p (FromLine i) u s w = alike-fits text (token_at ts i) u p w s
written-fits text ts p (XRegister n) u s w =
    ap (λ (q : Piece). piece_fits text q u) s ∙ ap (λ (k : TokenKind). shape.is_name k && is_some (register_of (bytes_of text u))) w.0 ∙ ap is_some w.1
written-fits text ts p (Literal z) u s w = ap (λ (q : Piece). piece_fits text q u) s ∙ ap shape.is_number w
written-fits text ts p (Mark k) u s w = s u w

all-fit : (text : List ℕ) (ts : List Token) (ps : List Piece) (bs : List BasePart) (us : List Token) → AllZip (Suits text ts) ps bs → AllZip (IsBaseToken text ts) bs us → fits text ps us ≡ true
all-fit text ts [] [] [] s w = refl
all-fit text ts [] [] (u ∷ us) s w = absurd w
all-fit text ts [] (b ∷ bs) us s w = absurd s
all-fit text ts (p ∷ ps) [] us s w = absurd s
all-fit text ts (p ∷ ps) (b ∷ bs) [] s w = absurd w
all-fit text ts (p ∷ ps) (b ∷ bs) (u ∷ us) s w =
    ap (λ (c : Bool). c && fits text ps us) (written-fits text ts p b u s.0 w.0) ∙ all-fit text ts ps bs us s.1 w.1

abbrev Writes : List ℕ → List Token → List Token → ℕ → BasePart → Type 0
Writes text ts us i b = IsBaseToken text ts b (token_at us i)

alike-register : (text : List ℕ) (t u : Token) → AreSpelledAlike text t u → register_number (register_of (bytes_of text t)) ≡ register_number (register_of (bytes_of text u))
alike-register text t u a = ap (λ (bs : List ℕ). register_number (register_of bs)) a.bytes

alike-offset : (text : List ℕ) (names : List ℕ → Option Meaning) (here : ℕ) (t u : Token) → AreSpelledAlike text t u → offset_of text names here t ≡ offset_of text names here u
alike-offset text names here t u a = ap (λ (bs : List ℕ). offset_by names here bs t.kind) a.bytes ∙ ap (offset_by names here (bytes_of text u)) a.kind

fits-at : (text : List ℕ) (ps : List Piece) (ts : List Token) (i : ℕ) (d : Piece) → fits text ps ts ≡ true → i < length ps → piece_fits text (get_or ps i d) (token_at ts i) ≡ true
fits-at text [] ts i d f l = let no : ⊥ = omega arith in absurd no
fits-at text (p ∷ ps) [] i d f l = absurd cc
fits-at text (p ∷ ps) (t ∷ ts) zero d f l = (and_parts (piece_fits text p t) (fits text ps ts) f).0
fits-at text (p ∷ ps) (t ∷ ts) (suc i) d f l = fits-at text ps ts i d (and_parts (piece_fits text p t) (fits text ps ts) f).1 (omega arith)

-- ---- lines

module _ (version_2 : Bool) (text : List ℕ) (line : ℕ) where
  abbrev chosen : Bool → Bool → List Token → Option Kind → Result Statement SourceFault
  chosen a k ts o = cond (not a) (Err (fault.TheVariants.BadOperand line)) (cond (not k) (Err (fault.TheVariants.UnknownWord line)) (statement_of text line ts o))

  of-row : (a b : Bool) (ts : List Token) (m : Mnemonic) (c : Code) → chosen a true ts (cond b (Some (IsCode m)) None) ≡ Ok (Instruction c) → (b ≡ true) × (code_for text ts m ≡ c)
  of-row false b ts m c e = absurd cc
  of-row true false ts m c e = absurd cc
  of-row true true ts m c e = (refl, cc)

  -- a line of good form that begins with such a word has operands of the shape of its row
  row-read : (word : List ℕ) (ps : List Piece) (m : Mnemonic) → HasOneRow word ps m → (w : Token) (ts : List Token) (c : Code) → bytes_of text w ≡ word → statement_in version_2 text line (w ∷ ts) ≡ Ok (Instruction c)
      → (fits text ps ts ≡ true) × (code_for text ts m ≡ c)
  row-read word ps m row w ts c is e =
      of-row (shape.is_name w.kind) (fits text ps ts) ts m c
      (sym (ap (λ (bs : List ℕ). chosen (shape.is_name w.kind) (knows_word version_2 bs) ts (kind_for version_2 text bs ts)) is
      ∙ ap (λ (k : Bool). chosen (shape.is_name w.kind) k ts (kind_for version_2 text word ts)) (row.known version_2)
      ∙ ap (chosen (shape.is_name w.kind) true ts) (row.found version_2 text ts (fits text ps ts) refl)) ∙ e)

  -- and a line with such operands says the row's code
  row-says : (word : List ℕ) (ps : List Piece) (m : Mnemonic) → HasOneRow word ps m → (w : Token) (ts : List Token) → w.kind ≡ Name → bytes_of text w ≡ word → fits text ps ts ≡ true
      → statement_in version_2 text line (w ∷ ts) ≡ Ok (Instruction (code_for text ts m))
  row-says word ps m row w ts named is f =
      ap (λ (k : TokenKind). chosen (shape.is_name k) (knows_word version_2 (bytes_of text w)) ts (kind_for version_2 text (bytes_of text w) ts)) named
      ∙ ap (λ (bs : List ℕ). chosen true (knows_word version_2 bs) ts (kind_for version_2 text bs ts)) is
      ∙ ap (λ (k : Bool). chosen true k ts (kind_for version_2 text word ts)) (row.known version_2)
      ∙ ap (chosen true true ts) (row.found version_2 text ts true f)

  by-rows : (p : Pseudo) (ps qs : List Piece) (m n : Mnemonic) → HasOneRow p.word ps m → HasOneRow p.base qs n → (w b : Token) (ts us : List Token) (c : Code) → ArePseudoLines p text w b ts us
      → (fits text ps ts ≡ true → AllZip (Suits text ts) qs p.operands)
      → ((names : List ℕ → Option Meaning) (here : ℕ) → emission text names here (code_for text ts m) ≡ emission text names here (code_for text us n))
      → statement_in version_2 text line (w ∷ ts) ≡ Ok (Instruction c) → SaysTheSame version_2 text line (b ∷ us) c
  by-rows p ps qs m n row base w b ts us c lines suits same e =
      let read = row-read p.word ps m row w ts c lines.word e in
      let fit : fits text qs us ≡ true = all-fit text ts qs p.operands us (suits read.0) lines.operands in
      record {
        code = code_for text us n;
        said = row-says p.base qs n base b us lines.base_is_name lines.base fit;
        same = λ names here. ap (emission text names here) (sym read.1) ∙ same names here;
      }

-- ---- each pseudo-instruction

comma : (u : Token) → u.kind ≡ Comma → shape.is_comma u.kind ≡ true
comma u e = ap shape.is_comma e

left : (u : Token) → u.kind ≡ Left → shape.is_left u.kind ≡ true
left u e = ap shape.is_left e

right : (u : Token) → u.kind ≡ Right → shape.is_right u.kind ≡ true
right u e = ap shape.is_right e

abbrev d : BasePart
d = Mark Name

written-at : (text : List ℕ) (ts : List Token) (bs : List BasePart) (us : List Token) (i : ℕ) → AllZip (IsBaseToken text ts) bs us → i < length bs → IsBaseToken text ts (get_or bs i d) (token_at us i)
written-at text ts [] us i zip l = let no : ⊥ = omega arith in absurd no
written-at text ts (b ∷ bs) [] i zip l = absurd zip
written-at text ts (b ∷ bs) (u ∷ us) zero zip l = zip.0
written-at text ts (b ∷ bs) (u ∷ us) (suc i) zip l = written-at text ts bs us i zip.1 (omega arith)

module _ (text : List ℕ) (ts us : List Token) where
  at : (bs : List BasePart) (i : ℕ) → AllZip (IsBaseToken text ts) bs us → i < length bs → IsBaseToken text ts (get_or bs i d) (token_at us i)
  at bs i zip l = written-at text ts bs us i zip l

  given : (i j : ℕ) → AreSpelledAlike text (token_at ts i) (token_at us j) → register_at text ts i ≡ register_at text us j
  given i j a = alike-register text (token_at ts i) (token_at us j) a

  fixed : (n j : ℕ) → IsBaseToken text ts (XRegister n) (token_at us j) → n ≡ register_at text us j
  fixed n j w = sym (ap register_number w.1)

  number : (z : ℤ) (j : ℕ) → IsBaseToken text ts (Literal z) (token_at us j) → z ≡ number_at us j
  number z j w = sym (ap number_of_kind w)

  operation-same : (o : op.AluOp) (x x' y y' : ℕ) (z z' : ℤ) (names : List ℕ → Option Meaning) (here : ℕ) → x ≡ x' → y ≡ y' → z ≡ z' → emission text names here (OpImm o x y z) ≡ emission text names here (OpImm o x' y' z')
  operation-same o x x' y y' z z' names here e f g = λ i. emission text names here (OpImm o (e i) (f i) (g i))

  register-same : (o : op.AluOp) (x x' y y' z z' : ℕ) (names : List ℕ → Option Meaning) (here : ℕ) → x ≡ x' → y ≡ y' → z ≡ z' → emission text names here (Op o x y z) ≡ emission text names here (Op o x' y' z')
  register-same o x x' y y' z z' names here e f g = λ i. emission text names here (Op o (e i) (f i) (g i))

  branch-same : (c : Cond) (x x' y y' : ℕ) (t u : Token) (names : List ℕ → Option Meaning) (here : ℕ) → x ≡ x' → y ≡ y' → AreSpelledAlike text t u → emission text names here (Branch c x y t) ≡ emission text names here (Branch c x' y' u)
  branch-same c x x' y y' t u names here e f a = λ i. branch_emission c (e i) (f i) (alike-offset text names here t u a i)

  jump-same : (x x' : ℕ) (t u : Token) (names : List ℕ → Option Meaning) (here : ℕ) → x ≡ x' → AreSpelledAlike text t u → emission text names here (Jump x t) ≡ emission text names here (Jump x' u)
  jump-same x x' t u names here e a = λ i. jump (e i) (alike-offset text names here t u a i)

  jump_register-same : (x x' y y' : ℕ) (z z' : ℤ) (names : List ℕ → Option Meaning) (here : ℕ) → x ≡ x' → y ≡ y' → z ≡ z' → emission text names here (JumpRegister x y z) ≡ emission text names here (JumpRegister x' y' z')
  jump_register-same x x' y y' z z' names here e f g = λ i. emission text names here (JumpRegister (e i) (f i) (g i))

nop-line : HasBaseLine (stands_for (codes "nop") (codes "addi") (three zero_register zero_register (Literal (pos 0))))
nop-line v text line w b ts us c lines e =
    let bs : List BasePart = three zero_register zero_register (Literal (pos 0)) in
    by-rows v text line (stands_for (codes "nop") (codes "addi") bs) none r_r_n mnemonic.TheVariants.Nop (mnemonic.TheVariants.OpImm op.TheVariants.Add) nop-row addi-row w b ts us c lines
    (λ f. (refl, (comma, (refl, (comma, (refl, tt))))))
    (λ names here. operation-same text ts us op.TheVariants.Add _ _ _ _ _ _ names here (fixed text ts us 0 0 (at text ts us bs 0 lines.operands (omega arith))) (fixed text ts us 0 2 (at text ts us bs 2 lines.operands (omega arith))) (number text ts us (pos 0) 4 (at text ts us bs 4 lines.operands (omega arith))))
    e

mv-line : HasBaseLine (stands_for (codes "mv") (codes "addi") (three first_operand second_operand (Literal (pos 0))))
mv-line v text line w b ts us c lines e =
    let bs : List BasePart = three first_operand second_operand (Literal (pos 0)) in
    by-rows v text line (stands_for (codes "mv") (codes "addi") bs) r_r r_r_n mnemonic.TheVariants.Mv (mnemonic.TheVariants.OpImm op.TheVariants.Add) mv-row addi-row w b ts us c lines
    (λ f. ((fits-at text r_r ts 0 piece.TheVariants.Comma f (omega arith)), (comma, ((fits-at text r_r ts 2 piece.TheVariants.Comma f (omega arith)), (comma, (refl, tt))))))
    (λ names here. operation-same text ts us op.TheVariants.Add _ _ _ _ _ _ names here (given text ts us 0 0 (at text ts us bs 0 lines.operands (omega arith))) (given text ts us 2 2 (at text ts us bs 2 lines.operands (omega arith))) (number text ts us (pos 0) 4 (at text ts us bs 4 lines.operands (omega arith))))
    e

not-line : HasBaseLine (stands_for (codes "not") (codes "xori") (three first_operand second_operand (Literal (neg_ℤ (pos 1)))))
not-line v text line w b ts us c lines e =
    let bs : List BasePart = three first_operand second_operand (Literal (neg_ℤ (pos 1))) in
    by-rows v text line (stands_for (codes "not") (codes "xori") bs) r_r r_r_n mnemonic.TheVariants.Not (mnemonic.TheVariants.OpImm op.TheVariants.Xor) not-row xori-row w b ts us c lines
    (λ f. ((fits-at text r_r ts 0 piece.TheVariants.Comma f (omega arith)), (comma, ((fits-at text r_r ts 2 piece.TheVariants.Comma f (omega arith)), (comma, (refl, tt))))))
    (λ names here. operation-same text ts us op.TheVariants.Xor _ _ _ _ _ _ names here (given text ts us 0 0 (at text ts us bs 0 lines.operands (omega arith))) (given text ts us 2 2 (at text ts us bs 2 lines.operands (omega arith))) (number text ts us (neg_ℤ (pos 1)) 4 (at text ts us bs 4 lines.operands (omega arith))))
    e

seqz-line : HasBaseLine (stands_for (codes "seqz") (codes "sltiu") (three first_operand second_operand (Literal (pos 1))))
seqz-line v text line w b ts us c lines e =
    let bs : List BasePart = three first_operand second_operand (Literal (pos 1)) in
    by-rows v text line (stands_for (codes "seqz") (codes "sltiu") bs) r_r r_r_n mnemonic.TheVariants.Seqz (mnemonic.TheVariants.OpImm op.TheVariants.Sltu) seqz-row sltiu-row w b ts us c lines
    (λ f. ((fits-at text r_r ts 0 piece.TheVariants.Comma f (omega arith)), (comma, ((fits-at text r_r ts 2 piece.TheVariants.Comma f (omega arith)), (comma, (refl, tt))))))
    (λ names here. operation-same text ts us op.TheVariants.Sltu _ _ _ _ _ _ names here (given text ts us 0 0 (at text ts us bs 0 lines.operands (omega arith))) (given text ts us 2 2 (at text ts us bs 2 lines.operands (omega arith))) (number text ts us (pos 1) 4 (at text ts us bs 4 lines.operands (omega arith))))
    e

neg-line : HasBaseLine (stands_for (codes "neg") (codes "sub") (three first_operand zero_register second_operand))
neg-line v text line w b ts us c lines e =
    let bs : List BasePart = three first_operand zero_register second_operand in
    by-rows v text line (stands_for (codes "neg") (codes "sub") bs) r_r r_r_r mnemonic.TheVariants.Neg (mnemonic.TheVariants.Op op.TheVariants.Sub) neg-row sub-row w b ts us c lines
    (λ f. ((fits-at text r_r ts 0 piece.TheVariants.Comma f (omega arith)), (comma, (refl, (comma, ((fits-at text r_r ts 2 piece.TheVariants.Comma f (omega arith)), tt))))))
    (λ names here. register-same text ts us op.TheVariants.Sub _ _ _ _ _ _ names here (given text ts us 0 0 (at text ts us bs 0 lines.operands (omega arith))) (fixed text ts us 0 2 (at text ts us bs 2 lines.operands (omega arith))) (given text ts us 2 4 (at text ts us bs 4 lines.operands (omega arith))))
    e

snez-line : HasBaseLine (stands_for (codes "snez") (codes "sltu") (three first_operand zero_register second_operand))
snez-line v text line w b ts us c lines e =
    let bs : List BasePart = three first_operand zero_register second_operand in
    by-rows v text line (stands_for (codes "snez") (codes "sltu") bs) r_r r_r_r mnemonic.TheVariants.Snez (mnemonic.TheVariants.Op op.TheVariants.Sltu) snez-row sltu-row w b ts us c lines
    (λ f. ((fits-at text r_r ts 0 piece.TheVariants.Comma f (omega arith)), (comma, (refl, (comma, ((fits-at text r_r ts 2 piece.TheVariants.Comma f (omega arith)), tt))))))
    (λ names here. register-same text ts us op.TheVariants.Sltu _ _ _ _ _ _ names here (given text ts us 0 0 (at text ts us bs 0 lines.operands (omega arith))) (fixed text ts us 0 2 (at text ts us bs 2 lines.operands (omega arith))) (given text ts us 2 4 (at text ts us bs 4 lines.operands (omega arith))))
    e

beqz-line : HasBaseLine (stands_for (codes "beqz") (codes "beq") (three first_operand zero_register second_operand))
beqz-line v text line w b ts us c lines e =
    let bs : List BasePart = three first_operand zero_register second_operand in
    by-rows v text line (stands_for (codes "beqz") (codes "beq") bs) r_t r_r_t (mnemonic.TheVariants.BranchZero branch.TheVariants.Eq) (mnemonic.TheVariants.Branch branch.TheVariants.Eq) beqz-row beq-row w b ts us c lines
    (λ f. ((fits-at text r_t ts 0 piece.TheVariants.Comma f (omega arith)), (comma, (refl, (comma, ((fits-at text r_t ts 2 piece.TheVariants.Comma f (omega arith)), tt))))))
    (λ names here. branch-same text ts us branch.TheVariants.Eq _ _ _ _ _ _ names here (given text ts us 0 0 (at text ts us bs 0 lines.operands (omega arith))) (fixed text ts us 0 2 (at text ts us bs 2 lines.operands (omega arith))) (at text ts us bs 4 lines.operands (omega arith)))
    e

bnez-line : HasBaseLine (stands_for (codes "bnez") (codes "bne") (three first_operand zero_register second_operand))
bnez-line v text line w b ts us c lines e =
    let bs : List BasePart = three first_operand zero_register second_operand in
    by-rows v text line (stands_for (codes "bnez") (codes "bne") bs) r_t r_r_t (mnemonic.TheVariants.BranchZero branch.TheVariants.Ne) (mnemonic.TheVariants.Branch branch.TheVariants.Ne) bnez-row bne-row w b ts us c lines
    (λ f. ((fits-at text r_t ts 0 piece.TheVariants.Comma f (omega arith)), (comma, (refl, (comma, ((fits-at text r_t ts 2 piece.TheVariants.Comma f (omega arith)), tt))))))
    (λ names here. branch-same text ts us branch.TheVariants.Ne _ _ _ _ _ _ names here (given text ts us 0 0 (at text ts us bs 0 lines.operands (omega arith))) (fixed text ts us 0 2 (at text ts us bs 2 lines.operands (omega arith))) (at text ts us bs 4 lines.operands (omega arith)))
    e

j-line : HasBaseLine (stands_for (codes "j") (codes "jal") (two zero_register first_operand))
j-line v text line w b ts us c lines e =
    let bs : List BasePart = two zero_register first_operand in
    by-rows v text line (stands_for (codes "j") (codes "jal") bs) t r_t mnemonic.TheVariants.J mnemonic.TheVariants.Jal j-row jal-row w b ts us c lines
    (λ f. (refl, (comma, ((fits-at text t ts 0 piece.TheVariants.Comma f (omega arith)), tt))))
    (λ names here. jump-same text ts us _ _ _ _ names here (fixed text ts us 0 0 (at text ts us bs 0 lines.operands (omega arith))) (at text ts us bs 2 lines.operands (omega arith)))
    e

jr-line : HasBaseLine (stands_for (codes "jr") (codes "jalr") (based zero_register (Literal (pos 0)) first_operand))
jr-line v text line w b ts us c lines e =
    let bs : List BasePart = based zero_register (Literal (pos 0)) first_operand in
    by-rows v text line (stands_for (codes "jr") (codes "jalr") bs) r r_at mnemonic.TheVariants.Jr mnemonic.TheVariants.Jalr jr-row jalr-row w b ts us c lines
    (λ f. (refl, (comma, (refl, (left, ((fits-at text r ts 0 piece.TheVariants.Comma f (omega arith)), (right, tt)))))))
    (λ names here. jump_register-same text ts us _ _ _ _ _ _ names here (fixed text ts us 0 0 (at text ts us bs 0 lines.operands (omega arith))) (given text ts us 0 4 (at text ts us bs 4 lines.operands (omega arith))) (number text ts us (pos 0) 2 (at text ts us bs 2 lines.operands (omega arith))))
    e

ret-line : HasBaseLine (stands_for (codes "ret") (codes "jalr") (based zero_register (Literal (pos 0)) (XRegister 1)))
ret-line v text line w b ts us c lines e =
    let bs : List BasePart = based zero_register (Literal (pos 0)) (XRegister 1) in
    by-rows v text line (stands_for (codes "ret") (codes "jalr") bs) none r_at mnemonic.TheVariants.Ret mnemonic.TheVariants.Jalr ret-row jalr-row w b ts us c lines
    (λ f. (refl, (comma, (refl, (left, (refl, (right, tt)))))))
    (λ names here. jump_register-same text ts us _ _ _ _ _ _ names here (fixed text ts us 0 0 (at text ts us bs 0 lines.operands (omega arith))) (fixed text ts us 1 4 (at text ts us bs 4 lines.operands (omega arith))) (number text ts us (pos 0) 2 (at text ts us bs 2 lines.operands (omega arith))))
    e

pub all-lines : All HasBaseLine pseudo_rows
all-lines =
    All-cons HasBaseLine _ (drop 1 pseudo_rows) nop-line
    (All-cons HasBaseLine _ (drop 2 pseudo_rows) mv-line
    (All-cons HasBaseLine _ (drop 3 pseudo_rows) not-line
    (All-cons HasBaseLine _ (drop 4 pseudo_rows) neg-line
    (All-cons HasBaseLine _ (drop 5 pseudo_rows) seqz-line
    (All-cons HasBaseLine _ (drop 6 pseudo_rows) snez-line
    (All-cons HasBaseLine _ (drop 7 pseudo_rows) beqz-line
    (All-cons HasBaseLine _ (drop 8 pseudo_rows) bnez-line
    (All-cons HasBaseLine _ (drop 9 pseudo_rows) j-line
    (All-cons HasBaseLine _ (drop 10 pseudo_rows) jr-line
    (All-cons HasBaseLine _ (drop 11 pseudo_rows) ret-line
    (All-nil HasBaseLine)))))))))))
