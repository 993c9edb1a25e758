-- One line more, and what names mean.
use Rattle.std.proofs.Common.{◌≡◌, ℕ, Bool, ◌+◌, ◌<◌, List, ◌∷◌, length, map, drop, get_or, sym, Option, Some, None, Result, Ok, Err, nat_lt, refl, ap, ◌∙◌}
use Rattle.std.proofs.lemmas.List.{drop_more}
use Rattle.rv_assembler.specs.declared.fault.SourceFault.{SourceFault}
use Rattle.rv_assembler.specs.declared.parsing.Reading.{Reading}
use Rattle.rv_assembler.specs.declared.parsing.Reading.TheVariants.{Bad, Good}
use Rattle.rv_assembler.specs.declared.names.Meaning.{Meaning}
use Rattle.rv_assembler.specs.declared.draft.Draft.{Draft}
use Rattle.src_text.specs.declared.line.Line.{Line}
use Rattle.src_text.specs.Line.{lines_of}
use Rattle.rv_assembler.specs.Reading.{version_line, reading_of}
use Rattle.rv_assembler.specs.Gathering.{no_count, meaning_in}
use Rattle.rv_assembler.specs.Adding.{no_draft, draft_after, fault_on_line, unless_fault, total, draft_of}
use Rattle.rv_assembler.specs.AddedLine.{draft_behind}

-- a line with a fault ends the sum, and one without is added
pub total-stopped : (version_2 : Bool) (text : List ℕ) (names : List ℕ → Option Meaning) (d : Draft) (r : Reading) (rs : List Reading) (f : SourceFault) → draft_behind version_2 text names d r ≡ Err f → total version_2 text names d (r ∷ rs) ≡ Err f
total-stopped version_2 text names d (Bad g) rs f e = e
total-stopped version_2 text names d (Good s) rs f e = step (fault_on_line version_2 text names d s) e
  where
    after : Draft
    after = draft_after text names d s.statement

    step : (o : Option SourceFault) → unless_fault o (Ok after) ≡ Err f → unless_fault o (total version_2 text names after rs) ≡ Err f
    step (Some g) e = e
    step None e = absurd cc

pub total-onward : (version_2 : Bool) (text : List ℕ) (names : List ℕ → Option Meaning) (d b : Draft) (r : Reading) (rs : List Reading) → draft_behind version_2 text names d r ≡ Ok b → total version_2 text names d (r ∷ rs) ≡ total version_2 text names b rs
total-onward version_2 text names d b (Bad g) rs e = absurd cc
total-onward version_2 text names d b (Good s) rs e = step (fault_on_line version_2 text names d s) e
  where
    after : Draft
    after = draft_after text names d s.statement

    step : (o : Option SourceFault) → unless_fault o (Ok after) ≡ Ok b → unless_fault o (total version_2 text names after rs) ≡ total version_2 text names b rs
    step (Some g) e = absurd cc
    step None e = let same : after ≡ b = cc in ap (λ (x : Draft). total version_2 text names x rs) same

-- tables in which all names mean the same give the same
pub total-same : (version_2 : Bool) (text : List ℕ) (f g : List ℕ → Option Meaning) (d : Draft) (rs : List Reading) → ((q : List ℕ) → f q ≡ g q) → total version_2 text f d rs ≡ total version_2 text g d rs
total-same version_2 text f g d rs h = let e : f ≡ g = λ i q. h q i in ap (λ (n : List ℕ → Option Meaning). total version_2 text n d rs) e

-- what the lines and a table of the names give is what the text gives
pub draft-from : (text : List ℕ) (ls : List Line) (version : ℕ) (rs : List Reading) (f : List ℕ → Option Meaning) → ls ≡ lines_of text → version ≡ version_line text ls → rs ≡ map (reading_of version text) ls
    → ((q : List ℕ) → f q ≡ meaning_in text no_count rs q) → total (nat_lt 0 version) text f no_draft rs ≡ draft_of text
draft-from text ls version rs f l e r h = total-same (nat_lt 0 version) text f (meaning_in text no_count rs) no_draft rs h ∙ rw (r, e, l) refl

module _ (version_2 : Bool) (text : List ℕ) (names : List ℕ → Option Meaning) (d : Draft) (rs : List Reading) (i : ℕ) (r : Reading) (sum : Result Draft SourceFault) (l : i < length rs) (e : r ≡ get_or rs i r) (h : total version_2 text names d (drop i rs) ≡ sum) where
  with-reading : total version_2 text names d (r ∷ drop (i + 1) rs) ≡ sum
  with-reading = ap (λ (x : Reading). total version_2 text names d (x ∷ drop (i + 1) rs)) e ∙ ap (λ (xs : List Reading). total version_2 text names d xs) (sym (drop_more rs i r l)) ∙ h

  pub lines-stopped : (f : SourceFault) → draft_behind version_2 text names d r ≡ Err f → sum ≡ Err f
  lines-stopped f g = sym with-reading ∙ total-stopped version_2 text names d r (drop (i + 1) rs) f g

  pub lines-onward : (b : Draft) → draft_behind version_2 text names d r ≡ Ok b → total version_2 text names b (drop (i + 1) rs) ≡ sum
  lines-onward b g = sym (total-onward version_2 text names d b r (drop (i + 1) rs) g) ∙ with-reading
