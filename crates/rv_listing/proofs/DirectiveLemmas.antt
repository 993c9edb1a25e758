-- What the lines of directives are read as.
use Rattle.std.proofs.Common.{◌≡◌, ℕ, ◌+◌, ◌^◌, ◌<◌, Bool, true, false, not, eqb, ◌&&◌, ◌||◌, List, [], ◌∷◌, ◌++◌, length, get_or, Option, Some, None, codes, refl, sym, ap, ◌∙◌, subst, arith}
use Rattle.std.specs.Prelude.{pos}
use Rattle.std.specs.Fmt.{decimal}
use Rattle.std.specs.List.{filter_map, list_all}
use Rattle.std.proofs.lemmas.Bool.{and_parts}
use Rattle.std.proofs.lemmas.Bool.Decides.{nat_tests}
use Rattle.src_text.specs.Byte.{is_letter, is_digit, is_minus, is_word}
use Rattle.src_text.specs.Lexeme.{lexemes_after, token_of, continues_token}
use Rattle.src_text.specs.declared.token.Token.{Token}
use Rattle.src_text.specs.declared.token.TokenKind.TheVariants.{Name, Number}
use Rattle.region_table.specs.declared.declared.Region.{Region}
use Rattle.rv_assembler.specs.declared.kind.Kind.{Kind}
use Rattle.rv_assembler.specs.declared.kind.Piece.{Piece}
use Rattle.rv_assembler.specs.declared.statement.Statement.{Statement}
use Rattle.rv_assembler.specs.declared.kind.Directive as in_directive
use Rattle.rv_assembler.specs.declared.kind.Form as in_form
use Rattle.rv_assembler.specs.declared.statement.Extent as in_extent
use Rattle.rv_assembler.specs.declared.kind.Kind as in_kind
use Rattle.rv_assembler.specs.declared.statement.Statement as in_statement
use Rattle.rv_assembler.specs.Number.{wrapped}
use Rattle.rv_assembler.specs.Operand.{bytes_of}
use Rattle.rv_assembler.specs.Shape.{fits, none, name, name_n, name_n_n, name_name, name_name_n_n, n_t_n}
use Rattle.rv_assembler.specs.Reading.{statement_for}
use Rattle.rv_listing.specs.Statement.{hexadecimal, statement}
use Rattle.rv_listing.specs.Listing.{region_line, value_line, lock_line, use_line}
use Rattle.rv_listing.specs.Law.{is_declared_name}
use Rattle.rv_listing.proofs.TokenLemmas.{token, Op, IsOp, AreOps, texts, op_tokens, statement-lexed, statement-read}
use Rattle.rv_listing.proofs.KindLemmas.{token-tested, HasKindBut, NoColon, IsSaid, reads, region-kind, word-kind, lock-kind, phase-kind, task-kind}
use Rattle.rv_listing.proofs.CodeLemmas.{num, hex, num-op, hex-op, simple}

-- ---- declared names

abbrev pub nm : List ℕ → Op
nm n = record { kind = Name; bytes = n }

first-byte : (b : ℕ) → (is_letter b || eqb b 95) ≡ true → (continues_token b ≡ true) × (eqb b 46 ≡ false) × (eqb b 44 ≡ false) × (eqb b 58 ≡ false) × (eqb b 40 ≡ false) × (eqb b 41 ≡ false) × ((is_digit b || is_minus b) ≡ false)
first-byte b h = (grind (arith, nat_tests), grind (arith, nat_tests), grind (arith, nat_tests), grind (arith, nat_tests), grind (arith, nat_tests), grind (arith, nat_tests), grind (arith, nat_tests))

pub name-op : (n : List ℕ) → is_declared_name n ≡ true → IsOp (nm n)
name-op [] h = absurd cc
name-op (b ∷ bs) h =
    let p = and_parts (is_letter b || eqb b 95) (list_all is_word bs) h in
    let f = first-byte b p.0 in
    record { word = token-tested (b ∷ bs) (rw (f.0, p.1) refl); kind = rw (f.2, f.3, f.4, f.5, f.6) refl }

name-first : (n : List ℕ) → is_declared_name n ≡ true → not (eqb (get_or n 0 0) 46) ≡ true
name-first [] h = absurd cc
name-first (b ∷ bs) h =
    let p = and_parts (is_letter b || eqb b 95) (list_all is_word bs) h in ap not (first-byte b p.0).1

name-plain : (bs n : List ℕ) → is_declared_name n ≡ true → bs ≡ n → not (eqb (get_or bs 0 0) 46) ≡ true
name-plain bs n h e = ap (λ (x : List ℕ). not (eqb (get_or x 0 0) 46)) e ∙ name-first n h

-- ---- lines

some-1 : (x : Bool) → x ≡ true → (x && true) ≡ true
some-1 x e = rw e refl

some-2 : (x y : Bool) → x ≡ true → y ≡ true → (x && (y && true)) ≡ true
some-2 x y e f = rw (e, f) refl

not-1 : (x : Bool) → (x && false) ≡ false
not-1 true = refl
not-1 false = refl

not-2 : (x y : Bool) → (x && (y && false)) ≡ false
not-2 true y = not-1 y
not-2 false y = refl

-- a line of a statement with one token for each operand, whose word has another shape too
simple-but : (text before rest : List ℕ) (place : ℕ) (w : List ℕ) (other ps : List Piece) (k : Kind) (os : List Op) → HasKindBut w other ps k → AreOps os → text ≡ before ++ (statement w (texts os) ++ rest) → place ≡ length before
    → NoColon (op_tokens (place + length w) os) → fits text other (op_tokens (place + length w) os) ≡ false → fits text ps (op_tokens (place + length w) os) ≡ true
    → IsSaid text (filter_map token_of (lexemes_after 32 place (statement w (texts os)))) (statement_for text (op_tokens (place + length w) os) k)
simple-but text before rest place w other ps k os h ops e s nc unfit fit =
    subst (λ (ts : List Token). IsSaid text ts (statement_for text (op_tokens (place + length w) os) k)) (sym (statement-lexed place (record { kind = Name; bytes = w }) os h.op ops))
    (reads text place w (op_tokens (place + length w) os) k (statement-read text before (record { kind = Name; bytes = w }) os rest place e s).0 h.other h.known (λ v. h.found v text (op_tokens (place + length w) os) unfit fit) nc)

-- a line says a statement about one name
pub record SaysOfName (text : List ℕ) (ts : List Token) (n : List ℕ) (f : Token → Statement) : Type 0 where
  pub token : Token
  pub bytes : bytes_of text token ≡ n
  pub said : IsSaid text ts (f token)

-- a line says a statement about two names
pub record SaysOfNames (text : List ℕ) (ts : List Token) (m n : List ℕ) (f : Token → Token → Statement) : Type 0 where
  pub first : Token
  pub second : Token
  pub first_bytes : bytes_of text first ≡ m
  pub second_bytes : bytes_of text second ≡ n
  pub said : IsSaid text ts (f first second)

abbrev pub part : Bool → Option Token → Token → ℕ → ℕ → Statement
part writes lock region lo hi = in_statement.TheVariants.Uses (record { writes = writes; lock = lock; region = region; extent = in_extent.TheVariants.Part (pos lo) (pos hi) })

module _ (text before rest : List ℕ) (place : ℕ) (s : place ≡ length before) where
  abbrev Said : List ℕ → List Token
  Said line = filter_map token_of (lexemes_after 32 place line)

  pub region-said : (r : Region) → is_declared_name r.name ≡ true → r.len < 2 ^ 32 → text ≡ before ++ (region_line r ++ rest) → SaysOfName text (Said (region_line r)) r.name (λ t. in_statement.TheVariants.Region t (pos r.len))
  unfolding region_line
  region-said r h l e =
      let os : List Op = nm r.name ∷ num (pos r.len) ∷ [] in
      let read = statement-read text before (nm (codes ".region")) os rest place e s in
      record {
        token = token Name (place + length (codes ".region") + 1) r.name;
        bytes = read.1.0;
        said = simple text before rest place (codes ".region") name_n (in_kind.TheVariants.Table in_directive.TheVariants.Region) os region-kind (name-op r.name h, (num-op (pos r.len) l, tt)) e s refl (some-1 _ (name-plain _ r.name h read.1.0));
      }

  pub value-said : (n : List ℕ) (index value : ℕ) → is_declared_name n ≡ true → index < 2 ^ 32 → value < 2 ^ 32 → text ≡ before ++ (value_line n index value ++ rest) → SaysOfName text (Said (value_line n index value)) n (λ t. in_statement.TheVariants.Word t (pos index) (wrapped (pos value)))
  unfolding value_line
  value-said n index value h l m e =
      let os : List Op = nm n ∷ num (pos index) ∷ hex value ∷ [] in
      let read = statement-read text before (nm (codes ".word")) os rest place e s in
      record {
        token = token Name (place + length (codes ".word") + 1) n;
        bytes = read.1.0;
        said = simple text before rest place (codes ".word") name_n_n (in_kind.TheVariants.Table in_directive.TheVariants.Word) os word-kind (name-op n h, (num-op (pos index) l, (hex-op value m, tt))) e s refl (some-1 _ (name-plain _ n h read.1.0));
      }

  pub lock-said : (n : List ℕ) → is_declared_name n ≡ true → text ≡ before ++ (lock_line n ++ rest) → SaysOfName text (Said (lock_line n)) n (λ t. in_statement.TheVariants.Lock t)
  unfolding lock_line
  lock-said n h e =
      let os : List Op = nm n ∷ [] in
      let read = statement-read text before (nm (codes ".lock")) os rest place e s in
      record {
        token = token Name (place + length (codes ".lock") + 1) n;
        bytes = read.1.0;
        said = simple text before rest place (codes ".lock") name (in_kind.TheVariants.Table in_directive.TheVariants.Lock) os lock-kind (name-op n h, tt) e s refl (some-1 _ (name-plain _ n h read.1.0));
      }

  pub phase-said : text ≡ before ++ (statement (codes ".phase") [] ++ rest) → IsSaid text (Said (statement (codes ".phase") [])) in_statement.TheVariants.Phase
  phase-said e = simple text before rest place (codes ".phase") none (in_kind.TheVariants.Table in_directive.TheVariants.Phase) [] phase-kind tt e s tt refl

  -- a task is a family of one
  pub task-said : (core entry arg : ℕ) → core < 2 ^ 32 → entry < 2 ^ 32 → arg < 2 ^ 32 → text ≡ before ++ (statement (codes ".task") (decimal core ∷ hexadecimal entry ∷ hexadecimal arg ∷ []) ++ rest)
      → (start : ℕ) × IsSaid text (Said (statement (codes ".task") (decimal core ∷ hexadecimal entry ∷ hexadecimal arg ∷ [])))
      (in_statement.TheVariants.Tasks (record { core = pos core; count = pos 1; entry = token (Number (pos entry)) start (hexadecimal entry); arg = wrapped (pos arg); step = 0 }))
  task-said core entry arg h l m e =
      let os : List Op = num (pos core) ∷ hex entry ∷ hex arg ∷ [] in (
        place + length (codes ".task") + 1 + length (decimal core) + 1 + 1,
        simple text before rest place (codes ".task") n_t_n (in_kind.TheVariants.Table in_directive.TheVariants.Task) os task-kind (num-op (pos core) h, (hex-op entry l, (hex-op arg m, tt))) e s refl refl,
      )

  -- words that a task uses, without a lock
  pub use-said : (w : List ℕ) (writes : Bool) (n : List ℕ) (lo hi : ℕ) → HasKindBut w name name_n_n (in_kind.TheVariants.Table (in_directive.TheVariants.Uses writes in_form.TheVariants.Part)) → is_declared_name n ≡ true → lo < 2 ^ 32 → hi < 2 ^ 32
      → text ≡ before ++ (use_line w None n lo hi ++ rest) → SaysOfName text (Said (use_line w None n lo hi)) n (λ t. part writes None t lo hi)
  unfolding use_line
  use-said w writes n lo hi k h l m e =
      let os : List Op = nm n ∷ num (pos lo) ∷ num (pos hi) ∷ [] in
      let read = statement-read text before (nm w) os rest place e s in
      record {
        token = token Name (place + length w + 1) n;
        bytes = read.1.0;
        said = simple-but text before rest place w name name_n_n (in_kind.TheVariants.Table (in_directive.TheVariants.Uses writes in_form.TheVariants.Part)) os k (name-op n h, (num-op (pos lo) l, (num-op (pos hi) m, tt))) e s refl
            (not-1 _) (some-1 _ (name-plain _ n h read.1.0));
      }

  -- words that a task uses under a lock
  pub guarded-said : (w : List ℕ) (writes : Bool) (lock n : List ℕ) (lo hi : ℕ) → HasKindBut w name_name name_name_n_n (in_kind.TheVariants.Table (in_directive.TheVariants.Guarded writes in_form.TheVariants.Part)) → is_declared_name lock ≡ true → is_declared_name n ≡ true → lo < 2 ^ 32 → hi < 2 ^ 32
      → text ≡ before ++ (use_line w (Some lock) n lo hi ++ rest) → SaysOfNames text (Said (use_line w (Some lock) n lo hi)) lock n (λ t u. part writes (Some t) u lo hi)
  unfolding use_line
  guarded-said w writes lock n lo hi k g h l m e =
      let os : List Op = nm lock ∷ nm n ∷ num (pos lo) ∷ num (pos hi) ∷ [] in
      let read = statement-read text before (nm w) os rest place e s in
      record {
        first = token Name (place + length w + 1) lock;
        second = token Name (place + length w + 1 + length lock + 1 + 1) n;
        first_bytes = read.1.0;
        second_bytes = read.1.1.0;
        said = simple-but text before rest place w name_name name_name_n_n (in_kind.TheVariants.Table (in_directive.TheVariants.Guarded writes in_form.TheVariants.Part)) os k (name-op lock g, (name-op n h, (num-op (pos lo) l, (num-op (pos hi) m, tt)))) e s refl
            (not-2 _ _) (some-2 _ _ (name-plain _ lock g read.1.0) (name-plain _ n h read.1.1.0));
      }
