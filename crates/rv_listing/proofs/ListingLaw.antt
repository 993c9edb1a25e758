-- The listing of a program is a source text of it.
use Rattle.std.proofs.Common.{◌≡◌, ℕ, ◌+◌, ◌≤◌, Bool, true, false, cond, ltb, ◌&&◌, List, [], ◌∷◌, ◌++◌, length, map, None, codes, bytes_eq, refl, sym, ap, ◌∙◌, append-nil, arith}
use Rattle.std.specs.Prelude.{Result, Ok, Err, pos}
use Rattle.std.proofs.lemmas.Bool.{le-ltb}
use Rattle.std.proofs.lemmas.Bool.Decides.{nat_tests}
use Rattle.src_text.specs.Line.{numbered, line_of}
use Rattle.src_text.specs.declared.line.Line.{Line}
use Rattle.src_text.specs.declared.token.Token.{Token}
use Rattle.src_text.specs.declared.token.TokenKind.TheVariants.{Name, Number}
use Rattle.region_table.specs.Program.{ProgramParts, names_of, IsProgram}
use Rattle.rv_assembler.specs.declared.fault.SourceFault.{SourceFault}
use Rattle.rv_assembler.specs.declared.fault.SourceFault as fault
use Rattle.rv_assembler.specs.declared.statement.Statement.{Statement}
use Rattle.rv_assembler.specs.declared.draft.Draft.{Draft}
use Rattle.rv_assembler.specs.Operand.{bytes_of}
use Rattle.rv_assembler.specs.Gathering.{no_count, meaning_in}
use Rattle.rv_assembler.specs.Reading.{reading_of, is_version_of, version_line}
use Rattle.rv_assembler.specs.Adding.{no_draft, total, program_in, draft_of}
use Rattle.rv_assembler.specs.Finishing.{finished_program}
use Rattle.rv_assembler.specs.Source.{source}
use Rattle.rv_assembler.proofs.AgreeLemmas.{source-added}
use Rattle.rv_listing.specs.Statement.{statement}
use Rattle.rv_listing.specs.Listing.{text_of, listed_lines, listing_of}
use Rattle.rv_listing.specs.Law.{FitsSourceLimits, AreDeclaredNames, HasWords}
use Rattle.rv_listing.proofs.LexLemmas.{AllPlain, cut-text}
use Rattle.rv_listing.proofs.TokenLemmas.{token, Op, IsOp, statement-lexed, statement-read, IsGoodLine, statement-good}
use Rattle.rv_listing.proofs.KindLemmas.{token-tested}
use Rattle.rv_listing.proofs.DirectiveLemmas.{nm}
use Rattle.rv_listing.proofs.ReadLemmas.{SaidFrom, tokens_at, line-read, no-version-line}
use Rattle.rv_listing.proofs.CodeSection.{all-short, add_words}
use Rattle.rv_listing.proofs.BodySection.{body_lines, AreSaid, IsReadable, phased_draft, program-again, body-said, total-body}
use Rattle.rv_listing.proofs.ReadableLemmas.{readable}

plain-said : (text : List ℕ) (place : ℕ) (ls : List (List ℕ)) (ss : List Statement) → SaidFrom text place ls ss → AllPlain ls
plain-said text place [] ss h = tt
plain-said text place (l ∷ ls) [] h = absurd h
plain-said text place (l ∷ ls) (s ∷ ss) h = let good : IsGoodLine l = h.0 in (good.plain, plain-said text (place + (length l + 1)) ls ss h.3)

-- the draft of a text by its lines, where line number `version` is the version line
abbrev draft_by : List ℕ → ℕ → List Line → Result Draft SourceFault
draft_by text version ls = total (ltb 0 version) text (meaning_in text no_count (map (reading_of version text) ls)) no_draft (map (reading_of version text) ls)

draft-lines : (lines : List (List ℕ)) → AllPlain lines → draft_of (text_of lines) ≡ draft_by (text_of lines) (version_line (text_of lines) (numbered 1 0 lines)) (numbered 1 0 lines)
draft-lines lines plain = ap (λ (ls : List (List ℕ)). draft_by (text_of lines) (version_line (text_of lines) (numbered 1 0 ls)) (numbered 1 0 ls)) (cut-text lines plain)

source-by : (lines : List (List ℕ)) (d : Draft) (p : ProgramParts) → length (text_of lines) ≤ 1048576 → draft_of (text_of lines) ≡ Ok d → finished_program d ≡ p → source (text_of lines) ≡ Ok p
source-by lines d p l e f =
    let text = text_of lines in
    let small : ltb 1048576 (length text) ≡ false = le-ltb 1048576 (length text) l in
    source-added text
    ∙ ap (λ (b : Bool). cond b (Err fault.TheVariants.TooLarge) (program_in (draft_of text))) small
    ∙ ap program_in e
    ∙ ap (λ (x : ProgramParts). Ok x) f

-- at most 256 regions: version 1
version-1 : (p : ProgramParts) → IsReadable p → length p.regions ≤ 256 → FitsSourceLimits (body_lines p) → source (text_of (body_lines p)) ≡ Ok p
version-1 p h few w =
    let lines = body_lines p in
    let text = text_of lines in
    let short = all-short lines w in
    let whole : text ≡ text ++ [] = sym (append-nil text) in
    let l = w.lines in
    let said : AreSaid text 0 lines = body-said p h 0 1 [] text 0 refl whole (omega arith) (omega arith) short few in
    let draft : draft_of text ≡ Ok (add_words (phased_draft p) p.code) =
    draft-lines lines (plain-said text 0 lines said.statements said.said)
    ∙ ap (λ (v : ℕ). draft_by text v (numbered 1 0 lines)) (no-version-line text lines said.statements said.said)
    ∙ total-body p h 0 1 [] text 0 refl whole (omega arith) (omega arith) short few in
    source-by lines (add_words (phased_draft p) p.code) p w.bytes draft (program-again p h)

-- ---- more regions: version 2

abbrev two : Op
two = record { kind = Number (pos 2); bytes = codes "2" }

version-op : IsOp (nm (codes ".version"))
version-op = record { word = token-tested (codes ".version") refl; kind = refl }

two-op : IsOp two
two-op = record { word = token-tested (codes "2") refl; kind = refl }

abbrev version_text : List ℕ
version_text = statement (codes ".version") (codes "2" ∷ [])

version-good : IsGoodLine version_text
version-good = statement-good (nm (codes ".version")) (two ∷ []) version-op (two-op, tt)

abbrev version_tokens : List Token
version_tokens = token Name 0 (codes ".version") ∷ token (Number (pos 2)) 9 (codes "2") ∷ []

version-tokens : tokens_at 0 version_text ≡ version_tokens
version-tokens = statement-lexed 0 (nm (codes ".version")) (two ∷ []) version-op (two-op, tt)

abbrev version_read : Line
version_read = record { number = 1; tokens = version_tokens; fault = None }

version-read : line_of 1 0 version_text ≡ version_read
version-read = line-read 1 0 version_text version-good (omega arith) (omega arith) ∙ ap (λ (ts : List Token). let l : Line = record { number = 1; tokens = ts; fault = None } in l) version-tokens

version-found : (text rest : List ℕ) → text ≡ version_text ++ rest → is_version_of text version_tokens ≡ true
version-found text rest e =
    let read = statement-read text [] (nm (codes ".version")) (two ∷ []) rest 0 e refl in
    ap (λ (x : List ℕ). bytes_eq x (codes ".version") && bytes_eq (bytes_of text (token (Number (pos 2)) 9 (codes "2"))) (codes "2")) read.0
    ∙ ap (λ (x : List ℕ). bytes_eq x (codes "2")) read.1.0

version-2 : (p : ProgramParts) → IsReadable p → FitsSourceLimits (version_text ∷ body_lines p) → source (text_of (version_text ∷ body_lines p)) ≡ Ok p
version-2 p h w =
    let body = body_lines p in
    let lines = version_text ∷ body in
    let text = text_of lines in
    let short = all-short lines w in
    let front : List ℕ = version_text ++ 10 ∷ [] in
    let whole : text ≡ front ++ (text_of body ++ []) = ap (λ (x : List ℕ). front ++ x) (sym (append-nil (text_of body))) in
    let l = w.lines in
    let said : AreSaid text 11 body = body-said p h 1 2 front text 11 refl whole (omega arith) (omega arith) short.1 h.regions in
    let rest = numbered 2 11 body in
    let draft : draft_of text ≡ Ok (add_words (phased_draft p) p.code) =
    draft-lines lines (version-good.plain, plain-said text 11 body said.statements said.said)
    ∙ ap (λ (x : Line). draft_by text (version_line text (x ∷ rest)) (x ∷ rest)) version-read
    ∙ ap (λ (b : Bool). draft_by text (cond b 1 0) (version_read ∷ rest)) (version-found text (10 ∷ text_of body) refl)
    ∙ total-body p h 1 2 front text 11 refl whole (omega arith) (omega arith) short.1 h.regions in
    source-by lines (add_words (phased_draft p) p.code) p w.bytes draft (program-again p h)

by-version : (p : ProgramParts) (b : Bool) → ltb 256 (length p.regions) ≡ b → IsReadable p → FitsSourceLimits (cond b (version_text ∷ []) [] ++ body_lines p) → source (text_of (cond b (version_text ∷ []) [] ++ body_lines p)) ≡ Ok p
by-version p true e h w = version-2 p h w
by-version p false e h w = version-1 p h (grind (arith, nat_tests)) w

-- a program that is listed is assembled to itself
pub listing-again : (p : ProgramParts) → IsProgram p → HasWords p → AreDeclaredNames (names_of p) → FitsSourceLimits (listed_lines p) → source (listing_of p) ≡ Ok p
unfolding listed_lines
listing-again p h w n l = by-version p (ltb 256 (length p.regions)) refl (readable p h w n) l
