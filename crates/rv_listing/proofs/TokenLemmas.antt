-- The tokens of a listed line.
use Rattle.std.proofs.Common.{◌≡◌, ℕ, ◌+◌, ◌-◌, false, ◌||◌, List, [], ◌∷◌, ◌++◌, length, take, drop, map, Option, Some, refl, sym, ap, ◌∙◌, append_assoc, append-nil, length-append, take_at, drop_at, arith}
use Rattle.std.specs.List.{filter_map, cons_option, list_any}
use Rattle.std.specs.Option.{option_map, is_none}
use Rattle.std.proofs.lemmas.Bool.{le-leb}
use Rattle.src_text.specs.Lexeme.{Lexeme, lexemes_after, token_kind_of, token_of, is_bad_number}
use Rattle.src_text.specs.declared.token.Token.{Token}
use Rattle.src_text.specs.declared.token.TokenKind.{TokenKind}
use Rattle.src_text.specs.declared.token.TokenKind.TheVariants.{Comma, Left, Right}
use Rattle.rv_assembler.specs.Operand.{bytes_of}
use Rattle.rv_listing.specs.Statement.{more_operands, operands, statement}
use Rattle.rv_listing.proofs.LexLemmas.{IsWordToken, Stops, lexemes-token, lexemes-apart, ArePlain, ArePlain-append, ArePlain-token}

-- the token of bytes that stand at a place
abbrev pub token : TokenKind → ℕ → List ℕ → Token
token k start bytes = record { kind = k; start = start; end = start + length bytes }

-- an operand of one token
pub record Op : Type 0 where
  pub kind : TokenKind
  pub bytes : List ℕ

pub record IsOp (o : Op) : Type 0 where
  pub word : IsWordToken o.bytes
  pub kind : token_kind_of o.bytes ≡ Some o.kind

abbrev pub AreOps : List Op → Type 0
AreOps [] = Unit {0}
AreOps (o ∷ os) = IsOp o × AreOps os

abbrev pub texts : List Op → List (List ℕ)
texts os = map (λ (o : Op). o.bytes) os

-- the tokens of the operands behind the first
abbrev pub more_tokens : ℕ → List Op → List Token
more_tokens place [] = []
more_tokens place (o ∷ os) =
    token Comma place (44 ∷ []) ∷ token o.kind (place + 1 + 1) o.bytes ∷ more_tokens (place + 1 + 1 + length o.bytes) os

abbrev pub op_tokens : ℕ → List Op → List Token
op_tokens place [] = []
op_tokens place (o ∷ os) = token o.kind (place + 1) o.bytes ∷ more_tokens (place + 1 + length o.bytes) os

pub token-some : (k : TokenKind) (start : ℕ) (bytes : List ℕ) (ls : List Lexeme) → token_kind_of bytes ≡ Some k
    → filter_map token_of (record { start = start; bytes = bytes } ∷ ls) ≡ token k start bytes ∷ filter_map token_of ls
token-some k start bytes ls e =
    ap (λ (o : Option TokenKind). cons_option (option_map (λ (x : TokenKind). token x start bytes) o) (filter_map token_of ls)) e

more-stops : (os : List Op) → Stops (more_operands (texts os))
more-stops [] = tt
more-stops (o ∷ os) = (refl, refl)

more-lexed : (place : ℕ) (os : List Op) → AreOps os → filter_map token_of (lexemes_after 32 place (more_operands (texts os))) ≡ more_tokens place os
more-lexed place [] h = refl
more-lexed place (o ∷ os) h =
    ap (λ (ls : List Lexeme). token Comma place (44 ∷ []) ∷ filter_map token_of ls) (lexemes-token (place + 1 + 1) o.bytes (more_operands (texts os)) h.0.word (more-stops os))
    ∙ ap (λ (ts : List Token). token Comma place (44 ∷ []) ∷ ts)
    (token-some o.kind (place + 1 + 1) o.bytes (lexemes_after 32 (place + 1 + 1 + length o.bytes) (more_operands (texts os))) h.0.kind
    ∙ ap (λ (ts : List Token). token o.kind (place + 1 + 1) o.bytes ∷ ts) (more-lexed (place + 1 + 1 + length o.bytes) os h.1))

op-stops : (os : List Op) → Stops (operands (texts os))
op-stops [] = tt
op-stops (o ∷ os) = (refl, refl)

op-lexed : (place : ℕ) (os : List Op) → AreOps os → filter_map token_of (lexemes_after 32 place (operands (texts os))) ≡ op_tokens place os
op-lexed place [] h = refl
op-lexed place (o ∷ os) h =
    ap (filter_map token_of) (lexemes-token (place + 1) o.bytes (more_operands (texts os)) h.0.word (more-stops os))
    ∙ token-some o.kind (place + 1) o.bytes (lexemes_after 32 (place + 1 + length o.bytes) (more_operands (texts os))) h.0.kind
    ∙ ap (λ (ts : List Token). token o.kind (place + 1) o.bytes ∷ ts) (more-lexed (place + 1 + length o.bytes) os h.1)

-- the tokens of a statement whose operands have one token each
pub statement-lexed : (place : ℕ) (word : Op) (os : List Op) → IsOp word → AreOps os
    → filter_map token_of (lexemes_after 32 place (statement word.bytes (texts os))) ≡ token word.kind place word.bytes ∷ op_tokens (place + length word.bytes) os
statement-lexed place word os h k =
    ap (filter_map token_of) (lexemes-token place word.bytes (operands (texts os)) h.word (op-stops os))
    ∙ token-some word.kind place word.bytes (lexemes_after 32 (place + length word.bytes) (operands (texts os))) h.kind
    ∙ ap (λ (ts : List Token). token word.kind place word.bytes ∷ ts) (op-lexed (place + length word.bytes) os k)

-- the tokens of an address
abbrev pub address_tokens : ℕ → Op → Op → List Token
address_tokens place offset base =
    token offset.kind place offset.bytes ∷ token Left (place + length offset.bytes) (40 ∷ []) ∷ token base.kind (place + length offset.bytes + 1) base.bytes
    ∷ token Right (place + length offset.bytes + 1 + length base.bytes) (41 ∷ []) ∷ []

abbrev pub address_bytes : Op → Op → List ℕ
address_bytes offset base = offset.bytes ++ (40 ∷ (base.bytes ++ 41 ∷ []))

address-lexed : (place : ℕ) (offset base : Op) → IsOp offset → IsOp base → filter_map token_of (lexemes_after 32 place (address_bytes offset base)) ≡ address_tokens place offset base
address-lexed place offset base h k =
    let p = place + length offset.bytes in
    ap (filter_map token_of) (lexemes-token place offset.bytes (40 ∷ (base.bytes ++ 41 ∷ [])) h.word (refl, refl))
    ∙ token-some offset.kind place offset.bytes (lexemes_after 32 p (40 ∷ (base.bytes ++ 41 ∷ []))) h.kind
    ∙ ap (λ (ls : List Lexeme). token offset.kind place offset.bytes ∷ token Left p (40 ∷ []) ∷ filter_map token_of ls)
    (lexemes-apart 40 (p + 1) (base.bytes ++ 41 ∷ []) refl ∙ lexemes-token (p + 1) base.bytes (41 ∷ []) k.word (refl, refl))
    ∙ ap (λ (ts : List Token). token offset.kind place offset.bytes ∷ token Left p (40 ∷ []) ∷ ts) (token-some base.kind (p + 1) base.bytes (lexemes_after 32 (p + 1 + length base.bytes) (41 ∷ [])) k.kind)

abbrev pub access : List ℕ → List ℕ → Op → Op → List ℕ
access word first offset base = statement word (first ∷ address_bytes offset base ∷ [])

abbrev pub access_tokens : ℕ → Op → Op → Op → Op → List Token
access_tokens place word first offset base =
    let p = place + length word.bytes in
    let q = p + 1 + length first.bytes in
    token word.kind place word.bytes ∷ token first.kind (p + 1) first.bytes ∷ token Comma q (44 ∷ []) ∷ address_tokens (q + 1 + 1) offset base

-- the tokens of a statement with a register and an address
pub access-lexed : (place : ℕ) (word first offset base : Op) → IsOp word → IsOp first → IsOp offset → IsOp base
    → filter_map token_of (lexemes_after 32 place (access word.bytes first.bytes offset base)) ≡ access_tokens place word first offset base
access-lexed place word first offset base h f k b =
    let p = place + length word.bytes in
    let q = p + 1 + length first.bytes in
    let last = address_bytes offset base in
    ap (filter_map token_of) (lexemes-token place word.bytes (32 ∷ (first.bytes ++ (44 ∷ 32 ∷ (last ++ [])))) h.word (refl, refl))
    ∙ token-some word.kind place word.bytes (lexemes_after 32 p (32 ∷ (first.bytes ++ (44 ∷ 32 ∷ (last ++ []))))) h.kind
    ∙ ap (λ (ts : List Token). token word.kind place word.bytes ∷ ts)
    (ap (filter_map token_of) (lexemes-token (p + 1) first.bytes (44 ∷ 32 ∷ (last ++ [])) f.word (refl, refl))
    ∙ token-some first.kind (p + 1) first.bytes (lexemes_after 32 q (44 ∷ 32 ∷ (last ++ []))) f.kind
    ∙ ap (λ (ts : List Token). token first.kind (p + 1) first.bytes ∷ token Comma q (44 ∷ []) ∷ ts)
    (ap (λ (bs : List ℕ). filter_map token_of (lexemes_after 32 (q + 1 + 1) bs)) (append-nil last) ∙ address-lexed (q + 1 + 1) offset base k b))

-- ---- tokens are parts of the text

pub slice : (k : TokenKind) (text before bytes rest : List ℕ) (start : ℕ) → text ≡ before ++ (bytes ++ rest) → start ≡ length before → bytes_of text (token k start bytes) ≡ bytes
slice k text before bytes rest start e s =
    let long : length text ≡ length before + (length bytes + length rest) = ap length e ∙ length-append before (bytes ++ rest) ∙ ap (λ (n : ℕ). length before + n) (length-append bytes rest) in
    let count : start + length bytes - start ≡ length bytes = omega arith in
    let here : drop start text ≡ bytes ++ rest = ap (λ (n : ℕ). drop n text) s ∙ ap (drop (length before)) e ∙ drop_at before (bytes ++ rest) (length before) refl in
    rw (le-leb start (start + length bytes) (omega arith), le-leb (start + length bytes) (length text) (omega arith))
    (ap (λ (n : ℕ). take n (drop start text)) count ∙ ap (take (length bytes)) here ∙ take_at bytes rest (length bytes) refl)

-- the operands' tokens have their bytes
abbrev pub MoreRead : List ℕ → ℕ → List Op → Type 0
MoreRead text place [] = Unit {0}
MoreRead text place (o ∷ os) =
    (bytes_of text (token o.kind (place + 1 + 1) o.bytes) ≡ o.bytes) × MoreRead text (place + 1 + 1 + length o.bytes) os

abbrev pub AreRead : List ℕ → ℕ → List Op → Type 0
AreRead text place [] = Unit {0}
AreRead text place (o ∷ os) = (bytes_of text (token o.kind (place + 1) o.bytes) ≡ o.bytes) × MoreRead text (place + 1 + length o.bytes) os

pub more-read : (text before : List ℕ) (os : List Op) (rest : List ℕ) (place : ℕ) → text ≡ before ++ (more_operands (texts os) ++ rest) → place ≡ length before → MoreRead text place os
more-read text before [] rest place e s = tt
more-read text before (o ∷ os) rest place e s =
    let more = more_operands (texts os) in
    let b = before ++ 44 ∷ 32 ∷ [] in
    let split : text ≡ b ++ (o.bytes ++ (more ++ rest)) =
    e ∙ ap (λ (x : List ℕ). before ++ 44 ∷ 32 ∷ x) (append_assoc o.bytes more rest) ∙ sym (append_assoc before (44 ∷ 32 ∷ []) (o.bytes ++ (more ++ rest))) in
    let b-long : length b ≡ length before + 2 = length-append before (44 ∷ 32 ∷ []) in
    let all-long : length (b ++ o.bytes) ≡ length b + length o.bytes = length-append b o.bytes in (
      slice o.kind text b o.bytes (more ++ rest) (place + 1 + 1) split (omega arith),
      more-read text (b ++ o.bytes) os rest (place + 1 + 1 + length o.bytes) (split ∙ sym (append_assoc b o.bytes (more ++ rest))) (omega arith),
    )

pub are-read : (text before : List ℕ) (os : List Op) (rest : List ℕ) (place : ℕ) → text ≡ before ++ (operands (texts os) ++ rest) → place ≡ length before → AreRead text place os
are-read text before [] rest place e s = tt
are-read text before (o ∷ os) rest place e s =
    let more = more_operands (texts os) in
    let b = before ++ 32 ∷ [] in
    let split : text ≡ b ++ (o.bytes ++ (more ++ rest)) =
    e ∙ ap (λ (x : List ℕ). before ++ 32 ∷ x) (append_assoc o.bytes more rest) ∙ sym (append_assoc before (32 ∷ []) (o.bytes ++ (more ++ rest))) in
    let b-long : length b ≡ length before + 1 = length-append before (32 ∷ []) in
    let all-long : length (b ++ o.bytes) ≡ length b + length o.bytes = length-append b o.bytes in (
      slice o.kind text b o.bytes (more ++ rest) (place + 1) split (omega arith),
      more-read text (b ++ o.bytes) os rest (place + 1 + length o.bytes) (split ∙ sym (append_assoc b o.bytes (more ++ rest))) (omega arith),
    )

-- the word's token and the operands' tokens have their bytes
pub statement-read : (text before : List ℕ) (word : Op) (os : List Op) (rest : List ℕ) (place : ℕ) → text ≡ before ++ (statement word.bytes (texts os) ++ rest) → place ≡ length before
    → (bytes_of text (token word.kind place word.bytes) ≡ word.bytes) × AreRead text (place + length word.bytes) os
statement-read text before word os rest place e s =
    let ops = operands (texts os) in
    let split : text ≡ before ++ (word.bytes ++ (ops ++ rest)) = e ∙ ap (λ (x : List ℕ). before ++ x) (append_assoc word.bytes ops rest) in
    let long : length (before ++ word.bytes) ≡ length before + length word.bytes = length-append before word.bytes in (
      slice word.kind text before word.bytes (ops ++ rest) place split s,
      are-read text (before ++ word.bytes) os rest (place + length word.bytes) (split ∙ sym (append_assoc before word.bytes (ops ++ rest))) (omega arith),
    )

-- ---- no number of such a line is a bad one

good-some : (k : TokenKind) (start : ℕ) (bytes : List ℕ) (ls : List Lexeme) → token_kind_of bytes ≡ Some k → list_any is_bad_number (record { start = start; bytes = bytes } ∷ ls) ≡ list_any is_bad_number ls
good-some k start bytes ls e = ap (λ (o : Option TokenKind). is_none o || list_any is_bad_number ls) e

more-good : (place : ℕ) (os : List Op) → AreOps os → list_any is_bad_number (lexemes_after 32 place (more_operands (texts os))) ≡ false
more-good place [] h = refl
more-good place (o ∷ os) h =
    ap (list_any is_bad_number) (lexemes-token (place + 1 + 1) o.bytes (more_operands (texts os)) h.0.word (more-stops os))
    ∙ good-some o.kind (place + 1 + 1) o.bytes (lexemes_after 32 (place + 1 + 1 + length o.bytes) (more_operands (texts os))) h.0.kind
    ∙ more-good (place + 1 + 1 + length o.bytes) os h.1

op-good : (place : ℕ) (os : List Op) → AreOps os → list_any is_bad_number (lexemes_after 32 place (operands (texts os))) ≡ false
op-good place [] h = refl
op-good place (o ∷ os) h =
    ap (list_any is_bad_number) (lexemes-token (place + 1) o.bytes (more_operands (texts os)) h.0.word (more-stops os))
    ∙ good-some o.kind (place + 1) o.bytes (lexemes_after 32 (place + 1 + length o.bytes) (more_operands (texts os))) h.0.kind
    ∙ more-good (place + 1 + length o.bytes) os h.1

more-plain : (os : List Op) → AreOps os → ArePlain (more_operands (texts os))
more-plain [] h = tt
more-plain (o ∷ os) h = (refl, refl, refl, (refl, refl, refl, ArePlain-append o.bytes (more_operands (texts os)) (ArePlain-token o.bytes h.0.word) (more-plain os h.1)))

op-plain : (os : List Op) → AreOps os → ArePlain (operands (texts os))
op-plain [] h = tt
op-plain (o ∷ os) h = (refl, refl, refl, ArePlain-append o.bytes (more_operands (texts os)) (ArePlain-token o.bytes h.0.word) (more-plain os h.1))

-- a line without a bad byte or number, and without a comment
pub record IsGoodLine (line : List ℕ) : Type 0 where
  pub plain : ArePlain line
  pub numbers : list_any is_bad_number (lexemes_after 32 0 line) ≡ false

pub statement-good : (word : Op) (os : List Op) → IsOp word → AreOps os → IsGoodLine (statement word.bytes (texts os))
statement-good word os h k = record {
  plain = ArePlain-append word.bytes (operands (texts os)) (ArePlain-token word.bytes h.word) (op-plain os k);
  numbers = ap (list_any is_bad_number) (lexemes-token 0 word.bytes (operands (texts os)) h.word (op-stops os))
      ∙ good-some word.kind 0 word.bytes (lexemes_after 32 (0 + length word.bytes) (operands (texts os))) h.kind
      ∙ op-good (0 + length word.bytes) os k;
}

address-good : (place : ℕ) (offset base : Op) → IsOp offset → IsOp base → list_any is_bad_number (lexemes_after 32 place (address_bytes offset base)) ≡ false
address-good place offset base h k =
    let p = place + length offset.bytes in
    ap (list_any is_bad_number) (lexemes-token place offset.bytes (40 ∷ (base.bytes ++ 41 ∷ [])) h.word (refl, refl))
    ∙ good-some offset.kind place offset.bytes (lexemes_after 32 p (40 ∷ (base.bytes ++ 41 ∷ []))) h.kind
    ∙ ap (list_any is_bad_number) (lexemes-apart 40 (p + 1) (base.bytes ++ 41 ∷ []) refl ∙ lexemes-token (p + 1) base.bytes (41 ∷ []) k.word (refl, refl))
    ∙ good-some base.kind (p + 1) base.bytes (lexemes_after 32 (p + 1 + length base.bytes) (41 ∷ [])) k.kind

pub access-good : (word first offset base : Op) → IsOp word → IsOp first → IsOp offset → IsOp base → IsGoodLine (access word.bytes first.bytes offset base)
access-good word first offset base h f k b =
    let p = 0 + length word.bytes in
    let q = p + 1 + length first.bytes in
    let last = address_bytes offset base in
    let base-plain : ArePlain (base.bytes ++ 41 ∷ []) = ArePlain-append base.bytes (41 ∷ []) (ArePlain-token base.bytes b.word) (refl, refl, refl, tt) in
    let last-plain : ArePlain last = ArePlain-append offset.bytes (40 ∷ (base.bytes ++ 41 ∷ [])) (ArePlain-token offset.bytes k.word) (refl, refl, refl, base-plain) in
    let rest-plain : ArePlain (44 ∷ 32 ∷ (last ++ [])) = (refl, refl, refl, (refl, refl, refl, ArePlain-append last [] last-plain tt)) in
    record {
      plain = ArePlain-append word.bytes (32 ∷ (first.bytes ++ (44 ∷ 32 ∷ (last ++ [])))) (ArePlain-token word.bytes h.word)
          (refl, refl, refl, ArePlain-append first.bytes (44 ∷ 32 ∷ (last ++ [])) (ArePlain-token first.bytes f.word) rest-plain);
      numbers = ap (list_any is_bad_number) (lexemes-token 0 word.bytes (32 ∷ (first.bytes ++ (44 ∷ 32 ∷ (last ++ [])))) h.word (refl, refl))
          ∙ good-some word.kind 0 word.bytes (lexemes_after 32 p (32 ∷ (first.bytes ++ (44 ∷ 32 ∷ (last ++ []))))) h.kind
          ∙ ap (list_any is_bad_number) (lexemes-token (p + 1) first.bytes (44 ∷ 32 ∷ (last ++ [])) f.word (refl, refl))
          ∙ good-some first.kind (p + 1) first.bytes (lexemes_after 32 q (44 ∷ 32 ∷ (last ++ []))) f.kind
          ∙ ap (λ (bs : List ℕ). list_any is_bad_number (lexemes_after 32 (q + 1 + 1) bs)) (append-nil last)
          ∙ address-good (q + 1 + 1) offset base k b;
    }
