-- The numbers of a text's lines of good form rise.
use Rattle.std.proofs.Common.{◌≡◌, ℕ, ◌+◌, ◌≤◌, Bool, ◌&&◌, nat_lt, nat_eq, List, [], ◌∷◌, map, length, Option, Some, None, Result, Ok, Err, refl, subst, arith}
use Rattle.std.specs.List.{filter_map}
use Rattle.std.proofs.lemmas.Bool.{cond_both}
use Rattle.src_text.specs.Lexeme.{token_of, lexemes_of}
use Rattle.src_text.specs.Line as line_of_text
use Rattle.src_text.specs.Line.{cut, line_of, numbered, lines_of}
use Rattle.src_text.specs.declared.line.Line.{Line}
use Rattle.src_text.specs.declared.line.LineFault.{LineFault}
use Rattle.src_text.specs.declared.token.Token.{Token}
use Rattle.rv_assembler.specs.declared.fault.SourceFault.{SourceFault}
use Rattle.rv_assembler.specs.declared.fault.SourceFault as fault
use Rattle.rv_assembler.specs.declared.statement.Statement.{Statement}
use Rattle.rv_assembler.specs.declared.parsing.Saying.{Saying}
use Rattle.rv_assembler.specs.declared.parsing.Reading.{Reading}
use Rattle.rv_assembler.specs.declared.parsing.Reading.TheVariants.{Bad, Good}
use Rattle.rv_assembler.specs.Shape.{is_name, is_colon, is_plain}
use Rattle.rv_assembler.specs.Reading.{statement_in, said, labelled, read_tokens, read_line, reading_of, version_line}
use Rattle.rv_assembler.specs.Source.{sayings}
use Rattle.rv_assembler.proofs.CountLemmas.{number-of}
use Rattle.rv_assembler.proofs.DoubledLemmas.{AreRising}

-- what a line of this number says
abbrev IsAt : ℕ → Reading → Type 0
IsAt n (Bad f) = Unit {0}
IsAt n (Good s) = s.line ≡ n

said-at : (n : ℕ) (r : Result Statement SourceFault) → IsAt n (said n r)
said-at n (Ok s) = refl
said-at n (Err f) = tt

labelled-at : (text : List ℕ) (n : ℕ) (t : Token) (r : Result Statement SourceFault) → IsAt n (labelled text n t r)
labelled-at text n t (Ok s) = cond_both (is_plain text t) (Good (record { line = n; label = Some t; statement = s })) (Bad (fault.TheVariants.BadOperand n)) (IsAt n) (λ e. refl) (λ e. tt)
labelled-at text n t (Err f) = tt

tokens-at : (v : Bool) (text : List ℕ) (n : ℕ) (ts : List Token) → IsAt n (read_tokens v text n ts)
tokens-at v text n [] = said-at n (statement_in v text n [])
tokens-at v text n (t ∷ []) = said-at n (statement_in v text n (t ∷ []))
tokens-at v text n (t ∷ u ∷ ts) =
    cond_both (is_name t.kind && is_colon u.kind) (labelled text n t (statement_in v text n ts)) (said n (statement_in v text n (t ∷ u ∷ ts))) (IsAt n)
    (λ e. labelled-at text n t (statement_in v text n ts)) (λ e. said-at n (statement_in v text n (t ∷ u ∷ ts)))

line-at : (v : Bool) (text : List ℕ) (n : ℕ) (ts : List Token) (f : Option LineFault) → IsAt n (read_line v text n ts f)
line-at v text n ts (Some f) = tt
line-at v text n ts None = tokens-at v text n ts

reading-at : (version : ℕ) (text : List ℕ) (l : Line) → IsAt l.number (reading_of version text l)
reading-at version text l =
    cond_both (nat_eq l.number version) _ (read_line (nat_lt 0 version) text l.number l.tokens l.fault) (IsAt l.number) (λ e. refl) (λ e. line-at (nat_lt 0 version) text l.number l.tokens l.fault)

rising-less : (lo hi : ℕ) (ss : List Saying) → lo ≤ hi → AreRising hi ss → AreRising lo ss
rising-less lo hi [] l h = tt
rising-less lo hi (s ∷ ss) l h = let low = h.0 in (omega arith, h.1)

rising-next : (n : ℕ) (r : Reading) (rs : List Reading) → IsAt n r → AreRising (n + 1) (sayings rs) → AreRising n (sayings (r ∷ rs))
rising-next n (Bad f) rs at h = rising-less n (n + 1) (sayings rs) (omega arith) h
rising-next n (Good s) rs at h = (omega arith, rising-less (s.line + 1) (n + 1) (sayings rs) (omega arith) h)

rising-from : (version : ℕ) (text : List ℕ) (number place : ℕ) (ls : List (List ℕ)) → AreRising number (sayings (map (reading_of version text) (numbered number place ls)))
rising-from version text number place [] = tt
rising-from version text number place (l ∷ ls) =
    rising-next number (reading_of version text (line_of number place l)) (map (reading_of version text) (numbered (number + 1) (place + (length l + 1)) ls))
    (subst (λ (n : ℕ). IsAt n (reading_of version text (line_of number place l))) (number-of number (filter_map token_of (lexemes_of place l)) (line_of_text.fault_of number l)) (reading-at version text (line_of number place l)))
    (rising-from version text (number + 1) (place + (length l + 1)) ls)

pub lines-rise : (text : List ℕ) → AreRising 1 (sayings (map (reading_of (version_line text (lines_of text)) text) (lines_of text)))
lines-rise text = rising-from (version_line text (lines_of text)) text 1 0 (cut text)
