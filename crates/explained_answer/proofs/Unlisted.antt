-- No line of an answer, and no document of a run, begins as the listing of a program: its first three bytes tell it from one.
use Rattle.std.proofs.Common.{◌≡◌, ◌≢◌, ◌⊎◌, max, inl, inr, ℕ, ◌+◌, ◌*◌, ◌==◌, nat_lt, Bool, true, false, ◌&&◌, ◌||◌, if◌then◌else◌, List, [], ◌∷◌, ◌++◌, codes, length, map, flat_map, slice_range, Option, Some, None, refl, sym, ap, ◌∙◌, arith}
use Rattle.std.specs.Prelude.{count_by}
use Rattle.std.specs.Fmt.{decimal, signed_decimal}
use Rattle.std.proofs.lemmas.Bool.{true≢false, eqb-true}
use Rattle.text_pieces.specs.Pieces.{newline, space, hexadecimal}
use Rattle.src_text.specs.Byte.{is_newline}
use Rattle.src_text.specs.Laws.{ended}
use Rattle.region_table.specs.declared.declared.Region.{Region}
use Rattle.region_table.specs.declared.declared.Phase.{Phase}
use Rattle.region_table.specs.declared.program.TheConstants.{FIRST_CODE_ADDRESS}
use Rattle.region_table.specs.Program.{ProgramParts}
use Rattle.rv_isa.specs.Encoding.{decoded, encoded}
use Rattle.rv_isa.specs.declared.instr.AluOp.{AluOp}
use Rattle.rv_isa.specs.declared.instr.AluOp as op
use Rattle.rv_isa.specs.declared.instr.Cond.{Cond}
use Rattle.rv_isa.specs.declared.instr.Cond as cond
use Rattle.rv_isa.specs.declared.instr.Width.{Width}
use Rattle.rv_isa.specs.declared.instr.Width as width
use Rattle.rv_isa.specs.declared.instr.Instr.{Instr}
use Rattle.rv_isa.specs.declared.instr.Instr.TheVariants.{Lui, Auipc, Jal, Jalr, Branch, Load, Store, OpImm, Op, Fence, Ecall, Ebreak}
use Rattle.rv_listing.specs.Statement.{register, address, operands, more_operands, statement}
use Rattle.rv_listing.specs.Instruction.{branch_word, load_word, store_word, immediate_word, operation_word, instruction_line, raw_line, line_by, code_line, addressed_line}
use Rattle.rv_listing.specs.Listing.{text_of, version_lines, region_line, value_line, value_lines, region_values, lock_line, phase_lines, lines_with, code_lines, addressed_lines, listed_lines, listed_lines_with_addresses, listing_of, listing_with_addresses, listing_in}
use Rattle.run_report.specs.Answer.{outcome_word, outcome_line, end_text, task_line, words_line}
use Rattle.run_report.specs.Grants.{grant_line}
use Rattle.run_report.specs.Run.{event_word, counted_line}
use Rattle.run_report.specs.Summary.{count_line}
use Rattle.run_report.specs.Refusal.{refusal_of}
use Rattle.run_replay.specs.declared.trace.Trace.{Trace}
use Rattle.run_replay.specs.Document.{title, head_of, event_lines}
use Rattle.run_replay.proofs.Forms.{head-parts}
use Rattle.text_places.specs.declared.places.Located.{Located}
use Rattle.explained_answer.specs.Fronts.{alike, line_behind}
use Rattle.explained_answer.specs.Trace.{IsTraceOf}
use Rattle.explained_answer.specs.declared.line.AnswerLine as line
use Rattle.explained_answer.specs.declared.line.AnswerLine.{AnswerLine}
use Rattle.explained_answer.specs.declared.line.Count as count
use Rattle.explained_answer.specs.declared.line.FixedLine as fixed
use Rattle.text_pieces.specs.Field.{field}
use Rattle.explained_answer.specs.Parts.{pair_fields, three_line}
use Rattle.explained_answer.specs.AnswerLines.{IsAnswerLine, answer_line, address_line, link_line, sum_line, place_line, varies_line}
use Rattle.explained_answer.proofs.Forms.{word-is}
use Rattle.explained_answer.specs.Explained.{IsNoListing}

-- ---- the first three bytes

abbrev are_three : (x y z a b c : ℕ) → Bool
are_three x y z a b c = a == x && (b == y && c == z)

-- whether three bytes begin a line of an answer or the first line of a document: `out`, `tas`, `wor`, `gra`, `cou`, `ret`, `cha`, `ref`,
-- `sum`, `tim`, `lin`, `che`, `unb`, `pro`, `den`, `var` and `ope`
abbrev is_answer : (a b c : ℕ) → Bool
is_answer a b c =
    are_three 111 117 116 a b c || (are_three 116 97 115 a b c || (are_three 119 111 114 a b c || (are_three 103 114 97 a b c
    || (are_three 99 111 117 a b c || (are_three 114 101 116 a b c || (are_three 99 104 97 a b c || (are_three 114 101 102 a b c
    || (are_three 115 117 109 a b c || (are_three 116 105 109 a b c || (are_three 108 105 110 a b c || (are_three 99 104 101 a b c
    || (are_three 117 110 98 a b c || (are_three 112 114 111 a b c || (are_three 100 101 110 a b c
    || (are_three 118 97 114 a b c || (are_three 111 112 101 a b c || are_three 110 101 116 a b c))))))))))))))))

-- whether bytes begin so
abbrev begins_answer : List ℕ → Bool
begins_answer (a ∷ b ∷ c ∷ rest) = is_answer a b c
begins_answer _ = false

-- the bytes begin so, and neither the first nor the second byte ends a line
record BeginsAnswer (bytes : List ℕ) : Type 0 where
  a : ℕ
  b : ℕ
  c : ℕ
  rest : List ℕ
  is : bytes ≡ a ∷ b ∷ c ∷ rest
  of : is_answer a b c ≡ true
  one : count_by is_newline (a ∷ []) ≡ 0
  two : count_by is_newline (a ∷ b ∷ []) ≡ 0

begins : (bytes : List ℕ) (a b c : ℕ) (rest : List ℕ) → bytes ≡ a ∷ b ∷ c ∷ rest → is_answer a b c ≡ true → count_by is_newline (a ∷ []) ≡ 0
    → count_by is_newline (a ∷ b ∷ []) ≡ 0 → BeginsAnswer bytes
begins bytes a b c rest is of one two = record { a = a; b = b; c = c; rest = rest; is = is; of = of; one = one; two = two }

-- three bytes are there, and don't begin so
record BeginsElse (bytes : List ℕ) : Type 0 where
  a : ℕ
  b : ℕ
  c : ℕ
  rest : List ℕ
  is : bytes ≡ a ∷ b ∷ c ∷ rest
  other : is_answer a b c ≡ false

-- ---- the lines of a listing

of-three : (a b c : ℕ) (more : List ℕ) (os : List (List ℕ)) → is_answer a b c ≡ false → BeginsElse (statement (a ∷ b ∷ c ∷ more) os)
of-three a b c more os other = record { a = a; b = b; c = c; rest = more ++ operands os; is = refl; other = other }

of-two : (a b : ℕ) (o : List ℕ) (os : List (List ℕ)) → is_answer a b 32 ≡ false → BeginsElse (statement (a ∷ b ∷ []) (o ∷ os))
of-two a b o os other = record { a = a; b = b; c = 32; rest = o ++ more_operands os; is = refl; other = other }

branch-else : (c : Cond) (os : List (List ℕ)) → BeginsElse (statement (branch_word c) os)
branch-else cond.TheVariants.Eq os = of-three 98 101 113 [] os refl
branch-else cond.TheVariants.Ne os = of-three 98 110 101 [] os refl
branch-else cond.TheVariants.Lt os = of-three 98 108 116 [] os refl
branch-else cond.TheVariants.Ge os = of-three 98 103 101 [] os refl
branch-else cond.TheVariants.Ltu os = of-three 98 108 116 (codes "u") os refl
branch-else cond.TheVariants.Geu os = of-three 98 103 101 (codes "u") os refl

load-else : (w : Width) (o : List ℕ) (os : List (List ℕ)) → BeginsElse (statement (load_word w) (o ∷ os))
load-else width.TheVariants.B o os = of-two 108 98 o os refl
load-else width.TheVariants.H o os = of-two 108 104 o os refl
load-else width.TheVariants.W o os = of-two 108 119 o os refl
load-else width.TheVariants.Bu o os = of-three 108 98 117 [] (o ∷ os) refl
load-else width.TheVariants.Hu o os = of-three 108 104 117 [] (o ∷ os) refl

store-else : (w : Width) (o : List ℕ) (os : List (List ℕ)) → BeginsElse (statement (store_word w) (o ∷ os))
store-else width.TheVariants.B o os = of-two 115 98 o os refl
store-else width.TheVariants.H o os = of-two 115 104 o os refl
store-else width.TheVariants.W o os = of-two 115 119 o os refl
store-else width.TheVariants.Bu o os = of-three 115 98 117 [] (o ∷ os) refl
store-else width.TheVariants.Hu o os = of-three 115 104 117 [] (o ∷ os) refl

immediate-else : (o : AluOp) (os : List (List ℕ)) → BeginsElse (statement (immediate_word o) os)
immediate-else op.TheVariants.Add os = of-three 97 100 100 (codes "i") os refl
immediate-else op.TheVariants.Sub os = of-three 115 117 98 (codes "i") os refl
immediate-else op.TheVariants.Sll os = of-three 115 108 108 (codes "i") os refl
immediate-else op.TheVariants.Slt os = of-three 115 108 116 (codes "i") os refl
immediate-else op.TheVariants.Sltu os = of-three 115 108 116 (codes "iu") os refl
immediate-else op.TheVariants.Xor os = of-three 120 111 114 (codes "i") os refl
immediate-else op.TheVariants.Srl os = of-three 115 114 108 (codes "i") os refl
immediate-else op.TheVariants.Sra os = of-three 115 114 97 (codes "i") os refl
immediate-else op.TheVariants.Or os = of-three 111 114 105 [] os refl
immediate-else op.TheVariants.And os = of-three 97 110 100 (codes "i") os refl

operation-else : (o : AluOp) (first : List ℕ) (os : List (List ℕ)) → BeginsElse (statement (operation_word o) (first ∷ os))
operation-else op.TheVariants.Add first os = of-three 97 100 100 [] (first ∷ os) refl
operation-else op.TheVariants.Sub first os = of-three 115 117 98 [] (first ∷ os) refl
operation-else op.TheVariants.Sll first os = of-three 115 108 108 [] (first ∷ os) refl
operation-else op.TheVariants.Slt first os = of-three 115 108 116 [] (first ∷ os) refl
operation-else op.TheVariants.Sltu first os = of-three 115 108 116 (codes "u") (first ∷ os) refl
operation-else op.TheVariants.Xor first os = of-three 120 111 114 [] (first ∷ os) refl
operation-else op.TheVariants.Srl first os = of-three 115 114 108 [] (first ∷ os) refl
operation-else op.TheVariants.Sra first os = of-three 115 114 97 [] (first ∷ os) refl
operation-else op.TheVariants.Or first os = of-two 111 114 first os refl
operation-else op.TheVariants.And first os = of-three 97 110 100 [] (first ∷ os) refl

instruction-else : (i : Instr) → BeginsElse (instruction_line i)
unfolding instruction_line
instruction-else (Lui d imm) = of-three 108 117 105 [] (register d ∷ decimal imm ∷ []) refl
instruction-else (Auipc d imm) = of-three 97 117 105 (codes "pc") (register d ∷ decimal imm ∷ []) refl
instruction-else (Jal d offset) = of-three 106 97 108 [] (register d ∷ signed_decimal offset ∷ []) refl
instruction-else (Jalr d base offset) = of-three 106 97 108 (codes "r") (register d ∷ address offset base ∷ []) refl
instruction-else (Branch c a b offset) = branch-else c (register a ∷ register b ∷ signed_decimal offset ∷ [])
instruction-else (Load w d base offset) = load-else w (register d) (address offset base ∷ [])
instruction-else (Store w src base offset) = store-else w (register src) (address offset base ∷ [])
instruction-else (OpImm o d a imm) = immediate-else o (register d ∷ register a ∷ signed_decimal imm ∷ [])
instruction-else (Op o d a b) = operation-else o (register d) (register a ∷ register b ∷ [])
instruction-else Fence = of-three 102 101 110 (codes "ce") [] refl
instruction-else Ecall = of-three 101 99 97 (codes "ll") [] refl
instruction-else Ebreak = of-three 101 98 114 (codes "eak") [] refl

raw-else : (w : ℕ) → BeginsElse (raw_line w)
raw-else w = of-three 46 114 97 (codes "w") (hexadecimal w ∷ []) refl

word-else : (w : ℕ) (o : Option Instr) → BeginsElse (line_by w o)
word-else w None = raw-else w
word-else w (Some i) = by_test (encoded i == w) where
  by_test : (b : Bool) → BeginsElse (if b then instruction_line i else raw_line w)
  by_test true = instruction-else i
  by_test false = raw-else w

-- ---- a listing

-- there is no line, or the first begins otherwise
abbrev StartElse : List (List ℕ) → Type 0
StartElse [] = Unit {0}
StartElse (line ∷ lines) = BeginsElse line

start-append : (xs ys : List (List ℕ)) → StartElse xs → StartElse ys → StartElse (xs ++ ys)
start-append [] ys h k = k
start-append (x ∷ xs) ys h k = h

version-start : (regions : List Region) → StartElse (version_lines regions)
version-start regions = by_test (nat_lt 256 (length regions)) where
  by_test : (b : Bool) → StartElse (if b then statement (codes ".version") (codes "2" ∷ []) ∷ [] else [])
  by_test true = of-three 46 118 101 (codes "rsion") (codes "2" ∷ []) refl
  by_test false = tt

regions-start : (rs : List Region) → StartElse (map region_line rs)
unfolding region_line
regions-start [] = tt
regions-start (r ∷ rs) = of-three 46 114 101 (codes "gion") (r.name ∷ decimal r.len ∷ []) refl

value-else : (name : List ℕ) (index value : ℕ) → BeginsElse (value_line name index value)
unfolding value_line
value-else name index value = of-three 46 119 111 (codes "rd") (name ∷ decimal index ∷ hexadecimal value ∷ []) refl

values-start : (name : List ℕ) (index : ℕ) (vs : List ℕ) → StartElse (value_lines name index vs)
values-start name index [] = tt
values-start name index (v ∷ vs) =
    start-append (if v == 0 then [] else value_line name index v ∷ []) (value_lines name (index + 1) vs) (by_test (v == 0)) (values-start name (index + 1) vs)
  where
    by_test : (b : Bool) → StartElse (if b then [] else value_line name index v ∷ [])
    by_test true = tt
    by_test false = value-else name index v

all-values-start : (memory : List ℕ) (rs : List Region) → StartElse (flat_map (region_values memory) rs)
all-values-start memory [] = tt
all-values-start memory (r ∷ rs) =
    start-append (region_values memory r) (flat_map (region_values memory) rs)
    (values-start r.name 0 (slice_range memory r.start (r.start + r.len))) (all-values-start memory rs)

locks-start : (names : List (List ℕ)) → StartElse (map lock_line names)
unfolding lock_line
locks-start [] = tt
locks-start (name ∷ names) = of-three 46 108 111 (codes "ck") (name ∷ []) refl

phases-start : (regions : List Region) (locks : List (List ℕ)) (ps : List Phase) → StartElse (flat_map (phase_lines regions locks) ps)
phases-start regions locks [] = tt
phases-start regions locks (p ∷ ps) = of-three 46 112 104 (codes "ase") [] refl

else-more : (bytes more : List ℕ) → BeginsElse bytes → BeginsElse (bytes ++ more)
else-more bytes more h = record { a = h.a; b = h.b; c = h.c; rest = h.rest ++ more; is = ap (λ (bs : List ℕ). bs ++ more) h.is; other = h.other }

code-start : (addresses : Bool) (code : List ℕ) → StartElse (code_lines addresses code)
unfolding code_line addressed_line
code-start false [] = tt
code-start true [] = tt
code-start false (w ∷ ws) = word-else w (decoded w)
code-start true (w ∷ ws) = else-more (line_by w (decoded w)) (codes "  # " ++ hexadecimal FIRST_CODE_ADDRESS) (word-else w (decoded w))

lines-start : (addresses : Bool) (p : ProgramParts) → StartElse (lines_with (code_lines addresses p.code) p)
lines-start addresses p =
    let code = code_lines addresses p.code in
    let phases = flat_map (phase_lines p.regions p.locks) p.phases in
    let locks = map lock_line p.locks in
    let values = flat_map (region_values p.memory) p.regions in
    let regions = map region_line p.regions in
    let from_phases = start-append phases code (phases-start p.regions p.locks p.phases) (code-start addresses p.code) in
    let from_locks = start-append locks (phases ++ code) (locks-start p.locks) from_phases in
    let from_values = start-append values (locks ++ (phases ++ code)) (all-values-start p.memory p.regions) from_locks in
    let from_regions = start-append regions (values ++ (locks ++ (phases ++ code))) (regions-start p.regions) from_values in
    start-append (version_lines p.regions) (regions ++ (values ++ (locks ++ (phases ++ code)))) (version-start p.regions) from_regions

text-start : (lines : List (List ℕ)) → StartElse lines → (text_of lines ≡ []) ⊎ BeginsElse (text_of lines)
text-start [] h = inl refl
text-start (line ∷ lines) h =
    inr (record {
      a = h.a;
      b = h.b;
      c = h.c;
      rest = (h.rest ++ newline) ++ flat_map ended lines;
      is = ap (λ (bs : List ℕ). (bs ++ newline) ++ flat_map ended lines) h.is;
      other = h.other;
    })

-- ---- what begins as an answer doesn't begin as a listing

-- the bytes that two texts begin with alike are fewer than three
none-alike : (bytes text : List ℕ) (h : BeginsAnswer bytes) (k : BeginsElse text) → count_by is_newline (alike (h.a ∷ h.b ∷ h.c ∷ h.rest) (k.a ∷ k.b ∷ k.c ∷ k.rest)) ≡ 0
none-alike bytes text h k = by_tests (h.a == k.a) (h.b == k.b) (h.c == k.c) refl refl refl where
  by_tests : (x y z : Bool) → (h.a == k.a) ≡ x → (h.b == k.b) ≡ y → (h.c == k.c) ≡ z
      → count_by is_newline (if x then h.a ∷ (if y then h.b ∷ (if z then h.c ∷ alike h.rest k.rest else []) else []) else []) ≡ 0
  by_tests false y z e f g = refl
  by_tests true false z e f g = h.one
  by_tests true true false e f g = h.two
  by_tests true true true e f g =
      absurd (true≢false (sym h.of ∙ (λ i. is_answer (eqb-true h.a k.a e i) (eqb-true h.b k.b f i) (eqb-true h.c k.c g i)) ∙ k.other))

-- the text is another one, and so is its first line
abbrev DiffersAtOnce : (answer other : List ℕ) → Type 0
DiffersAtOnce answer other = (answer ≢ other) × (line_behind (alike answer other) ≡ 1)

differs-at_once : (answer other : List ℕ) → BeginsAnswer answer → (other ≡ []) ⊎ BeginsElse other → DiffersAtOnce answer other
unfolding line_behind
differs-at_once answer other h (inl none) = (
  λ same. let empty : h.a ∷ h.b ∷ h.c ∷ h.rest ≡ [] = sym h.is ∙ same ∙ none in omega (arith, ap length empty),
  λ i. line_behind (alike (h.is i) (none i)),
)
differs-at_once answer other h (inr k) = (
  λ same. true≢false (sym h.of ∙ ap begins_answer (sym h.is ∙ same ∙ k.is) ∙ k.other),
  (λ i. line_behind (alike (h.is i) (k.is i))) ∙ ap (λ (n : ℕ). n + 1) (none-alike answer other h k),
)

differs-from_listing : (l : Located) (answer : List ℕ) → BeginsAnswer answer → (addresses : Bool) → DiffersAtOnce answer (listing_in addresses l.program)
unfolding listed_lines listed_lines_with_addresses
differs-from_listing l answer h false = differs-at_once answer (listing_of l.program) h (text-start (listed_lines l.program) (lines-start false l.program))
differs-from_listing l answer h true =
    differs-at_once answer (listing_with_addresses l.program) h (text-start (listed_lines_with_addresses l.program) (lines-start true l.program))

no-listing : (text : List ℕ) (l : Located) (answer : List ℕ) → BeginsAnswer answer → IsNoListing text l answer
no-listing text l answer h =
    let plain = differs-from_listing l answer h false in
    let addressed = differs-from_listing l answer h true in
    (λ addresses. (differs-from_listing l answer h addresses).0, λ i. max (plain.1 i) (addressed.1 i))

-- ---- the lines of answers, and documents

word-begins : (a v : ℕ) → BeginsAnswer (address_line a v)
unfolding address_line
word-begins a v = begins _ 119 111 114 (codes "d " ++ hexadecimal a ++ space ++ hexadecimal v ++ newline) refl refl refl refl

begins-same : (xs ys : List ℕ) → xs ≡ ys → BeginsAnswer ys → BeginsAnswer xs
begins-same xs ys same h = record { a = h.a; b = h.b; c = h.c; rest = h.rest; is = same ∙ h.is; of = h.of; one = h.one; two = h.two }

line-begins : (x : AnswerLine) → IsAnswerLine x → BeginsAnswer (answer_line x)
unfolding outcome_line task_line words_line counted_line count_line grant_line sum_line link_line three_line place_line varies_line pair_fields field refusal_of
line-begins (line.TheVariants.Outcome o) fits = begins _ 111 117 116 (codes "come " ++ outcome_word o ++ newline) refl refl refl refl
line-begins (line.TheVariants.Task t) fits =
    begins _ 116 97 115
    (codes "k " ++ decimal t.phase.0 ++ space ++ decimal t.core.0 ++ space ++ end_text t.end ++ codes " retired " ++ decimal t.retired ++ newline)
    refl refl refl refl
line-begins (line.TheVariants.Word w v) fits = begins-same _ (address_line (268435456 + 4 * w) v) (word-is w v fits.some) (word-begins (268435456 + 4 * w) v)
line-begins (line.TheVariants.Grant g) fits =
    begins _ 103 114 97 (codes "nt " ++ decimal g.phase.0 ++ space ++ decimal g.core.0 ++ space ++ decimal g.lock.0 ++ newline) refl refl refl refl
line-begins (line.TheVariants.Count count.TheVariants.Words n) fits = begins _ 119 111 114 (codes "ds " ++ decimal n ++ newline) refl refl refl refl
line-begins (line.TheVariants.Count count.TheVariants.Events n) fits =
    begins _ 99 111 117 (codes "nt " ++ codes "events" ++ space ++ decimal n ++ newline) refl refl refl refl
line-begins (line.TheVariants.Count (count.TheVariants.Kind k) n) fits =
    begins _ 99 111 117 (codes "nt " ++ event_word k ++ space ++ decimal n ++ newline) refl refl refl refl
line-begins (line.TheVariants.Count count.TheVariants.Tasks n) fits = begins _ 116 97 115 (codes "ks " ++ decimal n ++ newline) refl refl refl refl
line-begins (line.TheVariants.Count count.TheVariants.Retired n) fits = begins _ 114 101 116 (codes "ired " ++ decimal n ++ newline) refl refl refl refl
line-begins (line.TheVariants.Count count.TheVariants.Links n) fits = begins _ 99 104 97 (codes "in " ++ decimal n ++ newline) refl refl refl refl
line-begins (line.TheVariants.Count count.TheVariants.WholeEvents n) fits =
    begins _ 114 101 102 (codes "used trace event " ++ decimal n ++ newline) refl refl refl refl
line-begins (line.TheVariants.Count count.TheVariants.EnabledEvents n) fits =
    begins _ 114 101 102 (codes "used trace not-enabled " ++ decimal n ++ newline) refl refl refl refl
line-begins (line.TheVariants.Sum v) fits = begins _ 115 117 109 (codes " " ++ hexadecimal v ++ newline) refl refl refl refl
line-begins (line.TheVariants.Time t) fits = begins _ 116 105 109 (codes "e " ++ decimal t ++ newline) refl refl refl refl
line-begins (line.TheVariants.Network t) fits = begins _ 110 101 116 (codes "work " ++ decimal t ++ newline) refl refl refl refl
line-begins (line.TheVariants.Link l) fits =
    begins _ 108 105 110 (codes "k " ++ decimal l.event ++ space ++ event_word l.kind ++ space ++ decimal l.finish ++ newline) refl refl refl refl
line-begins (line.TheVariants.Checked p t w) fits =
    begins _ 99 104 101 (codes "cked " ++ decimal p ++ space ++ decimal t ++ space ++ decimal w ++ newline) refl refl refl refl
line-begins (line.TheVariants.Unbounded p c a) fits =
    begins _ 117 110 98 (codes "ounded " ++ decimal p ++ space ++ decimal c ++ space ++ hexadecimal a ++ newline) refl refl refl refl
line-begins (line.TheVariants.Varies w) fits = begins _ 118 97 114 (codes "ies " ++ hexadecimal (268435456 + 4 * w) ++ newline) refl refl refl refl
line-begins (line.TheVariants.OpenControl p c a) fits =
    begins _ 111 112 101 (codes "n control " ++ decimal p ++ space ++ decimal c ++ space ++ hexadecimal a ++ newline) refl refl refl refl
line-begins (line.TheVariants.OpenHeld p c l) fits =
    begins _ 111 112 101 (codes "n held " ++ decimal p ++ space ++ decimal c ++ space ++ decimal l ++ newline) refl refl refl refl
line-begins (line.TheVariants.OpenStuck p l) fits = begins _ 111 112 101 ((codes "n stuck " ++ decimal p ++ space) ++ ([] ++ decimal l ++ newline)) refl refl refl refl
line-begins (line.TheVariants.Fixed fixed.TheVariants.Inside) fits = begins _ 112 114 111 (codes "ved inside" ++ newline) refl refl refl refl
line-begins (line.TheVariants.Fixed fixed.TheVariants.Usage) fits = begins _ 114 101 102 (codes "used usage" ++ newline) refl refl refl refl
line-begins (line.TheVariants.Fixed fixed.TheVariants.TooLarge) fits = begins _ 114 101 102 (codes "used trace too-large" ++ newline) refl refl refl refl
line-begins (line.TheVariants.Fixed fixed.TheVariants.Head) fits = begins _ 114 101 102 (codes "used trace head" ++ newline) refl refl refl refl
line-begins (line.TheVariants.Fixed fixed.TheVariants.Rest) fits = begins _ 114 101 102 (codes "used trace rest" ++ newline) refl refl refl refl
line-begins (line.TheVariants.Fixed fixed.TheVariants.Incomplete) fits = begins _ 114 101 102 (codes "used trace incomplete" ++ newline) refl refl refl refl

-- what begins so with a line
begins-more : (front rest : List ℕ) → BeginsAnswer front → BeginsAnswer (front ++ rest)
begins-more front rest h =
    record { a = h.a; b = h.b; c = h.c; rest = h.rest ++ rest; is = ap (λ (bs : List ℕ). bs ++ rest) h.is; of = h.of; one = h.one; two = h.two }

pub lines-unlisted : (text : List ℕ) (l : Located) (answer : List ℕ) (x : AnswerLine) (xs : List AnswerLine) → IsAnswerLine x → answer ≡ flat_map answer_line (x ∷ xs) → IsNoListing text l answer
lines-unlisted text l answer x xs fits is =
    no-listing text l answer (begins-same answer (flat_map answer_line (x ∷ xs)) is (begins-more (answer_line x) (flat_map answer_line xs) (line-begins x fits)))

title-begins : BeginsAnswer title
unfolding title
title-begins = begins _ 100 101 110 (codes "ovo-trace 1" ++ newline) refl refl refl refl

pub document-unlisted : (text : List ℕ) (l : Located) (answer : List ℕ) (t : Trace) → IsTraceOf text answer t → IsNoListing text l answer
document-unlisted text l answer t is =
    no-listing text l answer
    (begins-same answer _ (is.is.is ∙ head-parts (head_of t) (event_lines t.events)) (begins-more title _ title-begins))

-- the line that refuses a text
refusal-begins : (rest : List ℕ) → BeginsAnswer (codes "refused " ++ rest)
refusal-begins rest = begins _ 114 101 102 (codes "used " ++ rest) refl refl refl refl

pub refusal-unlisted : (text : List ℕ) (l : Located) (answer rest : List ℕ) → answer ≡ codes "refused " ++ rest → IsNoListing text l answer
refusal-unlisted text l answer rest is = no-listing text l answer (begins-same answer (codes "refused " ++ rest) is (refusal-begins rest))
