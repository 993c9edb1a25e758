-- Addresses in a text are the same modulo 2^32: it has at most 131,072 code words.
use Rattle.std.proofs.Common.{◌≡◌, ℕ, ◌+◌, ◌%◌, ◌<◌, ◌≤◌, true, false, eqb, ltb-true, List, [], ◌∷◌, ◌++◌, length, ℤ, pos, negsuc, int_le, int_lt, Option, Some, None, flat_map, bytes_eq, refl, sym, subst, length-append, arith}
use Rattle.std.specs.Option.{option_or}
use Rattle.std.proofs.lemmas.Bool.{and_parts, cond_both}
use Rattle.src_text.specs.declared.token.Token.{Token}
use Rattle.src_text.specs.declared.token.TokenKind.{TokenKind}
use Rattle.src_text.specs.declared.token.TokenKind as token
use Rattle.rv_assembler.specs.declared.statement.Statement.{Statement}
use Rattle.rv_assembler.specs.declared.statement.Statement as statement
use Rattle.rv_assembler.specs.declared.parsing.Saying.{Saying}
use Rattle.rv_assembler.specs.declared.names.Meaning.{Meaning}
use Rattle.rv_assembler.specs.declared.names.Meaning as meaning
use Rattle.rv_assembler.specs.Number.{natural_of, wrapped, is_within}
use Rattle.rv_assembler.specs.Operand.{bytes_of}
use Rattle.rv_assembler.specs.Emission.{label_index}
use Rattle.rv_assembler.specs.Named.{entry_address, entry_value, task_entry}
use Rattle.rv_assembler.specs.Drafting.{wrapped_entry_at, wrapped_entry_by, wrapped_entry}
use Rattle.rv_assembler.specs.Fault.{is_address, entry_far}
use Rattle.rv_assembler.specs.Placed.{placed_behind}
use Rattle.rv_assembler.specs.Counts.{code_words, data_words, regions_in, locks_in}
use Rattle.rv_assembler.specs.Declarations.{Declaration, label_by, named_by, declared_at, meaning_among, meaning_of}
use Rattle.rv_assembler.proofs.SoundLemmas.{not-false}
use Rattle.rv_assembler.proofs.TableLemmas.{place, code-bound}
use Rattle.rv_assembler.proofs.DeclarationLemmas.{found-append, found-one}

-- a label that is among so few code words
abbrev pub IsNear : Option Meaning → Type 0
IsNear None = Unit {0}
IsNear (Some (meaning.TheVariants.Label line at)) = at ≤ 131072
IsNear (Some (meaning.TheVariants.Region number start len)) = Unit {0}
IsNear (Some (meaning.TheVariants.Lock number)) = Unit {0}

near-first : (a b : Option Meaning) → IsNear a → IsNear b → IsNear (option_or a b)
near-first None b h k = k
near-first (Some m) b h k = h

near-label : (text : List ℕ) (before : List Saying) (line : ℕ) (label : Option Token) (q : List ℕ) → length before ≤ 65536 → IsNear (meaning_among (label_by text before line label) q)
near-label text before line None q few = tt
near-label text before line (Some t) q few =
    let bound = code-bound before in
    let d : Declaration = record { name = bytes_of text t; meaning = meaning.TheVariants.Label line (code_words before) } in
    subst IsNear (sym (found-one d q)) (cond_both (bytes_eq d.name q) (Some d.meaning) None IsNear (λ e. omega arith) (λ e. tt))

near-name : (text : List ℕ) (before : List Saying) (st : Statement) (q : List ℕ) → IsNear (meaning_among (named_by text before st) q)
near-name text before statement.TheVariants.Nothing q = tt
near-name text before (statement.TheVariants.Instruction k) q = tt
near-name text before (statement.TheVariants.Region name len) q =
    let d : Declaration = record { name = bytes_of text name; meaning = meaning.TheVariants.Region (regions_in before) (data_words before) len } in
    subst IsNear (sym (found-one d q)) (cond_both (bytes_eq d.name q) (Some d.meaning) None IsNear (λ e. tt) (λ e. tt))
near-name text before (statement.TheVariants.Word region index value) q = tt
near-name text before (statement.TheVariants.Lock name) q =
    let d : Declaration = record { name = bytes_of text name; meaning = meaning.TheVariants.Lock (locks_in before) } in
    subst IsNear (sym (found-one d q)) (cond_both (bytes_eq d.name q) (Some d.meaning) None IsNear (λ e. tt) (λ e. tt))
near-name text before statement.TheVariants.Phase q = tt
near-name text before (statement.TheVariants.Tasks f) q = tt
near-name text before (statement.TheVariants.Uses e) q = tt

near-from : (text : List ℕ) (ss before : List Saying) (q : List ℕ) → length before + length ss ≤ 65536 → IsNear (meaning_among (flat_map (declared_at text) (placed_behind before ss)) q)
near-from text [] before q few = tt
near-from text (s ∷ ss) before q few =
    let now : List Saying = before ++ s ∷ [] in
    let longer : length now ≡ length before + 1 = length-append before (s ∷ []) in
    let mine : IsNear (meaning_among (declared_at text (place before s)) q) =
    subst IsNear (sym (found-append (label_by text before s.line s.label) (named_by text before s.statement) q))
    (near-first (meaning_among (label_by text before s.line s.label) q) (meaning_among (named_by text before s.statement) q) (near-label text before s.line s.label q (omega arith)) (near-name text before s.statement q)) in
    subst IsNear (sym (found-append (declared_at text (place before s)) (flat_map (declared_at text) (placed_behind now ss)) q))
    (near-first (meaning_among (declared_at text (place before s)) q) (meaning_among (flat_map (declared_at text) (placed_behind now ss)) q) mine (near-from text ss now q (omega arith)))

-- all labels of so few lines are
pub near-all : (text : List ℕ) (ss : List Saying) (q : List ℕ) → length ss ≤ 65536 → IsNear (meaning_of text ss q)
near-all text ss q few = near-from text ss [] q (omega arith)

-- ---- entries

number-entry : (n : ℤ) → is_address n ≡ true → natural_of n ≡ wrapped n
number-entry (pos n) e =
    let p = and_parts (is_within (pos 0) (pos 0x1_0000_0000) (pos n)) (eqb (n % 4) 0) e in
    let q = and_parts (int_le (pos 0) (pos n)) (int_lt (pos n) (pos 0x1_0000_0000)) p.0 in
    let l : n < 0x1_0000_0000 = ltb-true n 0x1_0000_0000 q.1 in
    omega arith
number-entry (negsuc n) e = let no : false ≡ true = e in absurd cc

place-entry : (m : Option Meaning) → IsNear m → entry_address (label_index m) ≡ wrapped_entry_at (label_index m)
place-entry None h = refl
place-entry (Some (meaning.TheVariants.Label line at)) h = omega arith
place-entry (Some (meaning.TheVariants.Region number start len)) h = refl
place-entry (Some (meaning.TheVariants.Lock number)) h = refl

kind-entry : (names : List ℕ → Option Meaning) (name : List ℕ) (k : TokenKind) → IsNear (names name) → entry_far k ≡ false → entry_value names name k ≡ wrapped_entry_by names name k
kind-entry names name (token.TheVariants.Number n) h e = number-entry n (not-false (is_address n) e)
kind-entry names name token.TheVariants.Name h e = place-entry (names name) h
kind-entry names name token.TheVariants.Comma h e = place-entry (names name) h
kind-entry names name token.TheVariants.Colon h e = place-entry (names name) h
kind-entry names name token.TheVariants.Left h e = place-entry (names name) h
kind-entry names name token.TheVariants.Right h e = place-entry (names name) h

pub entry-same : (text : List ℕ) (names : List ℕ → Option Meaning) → ((q : List ℕ) → IsNear (names q)) → (t : Token) → entry_far t.kind ≡ false → task_entry text names t ≡ wrapped_entry text names t
entry-same text names near t e = kind-entry names (bytes_of text t) t.kind (near (bytes_of text t)) e
