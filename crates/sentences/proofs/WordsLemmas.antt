-- The number of words that is named of a region is the one that the language's definition tests an index or an interval by.
use Rattle.std.proofs.Common.{◌≡◌, ℕ, ℤ, pos, negsuc, int_le, int_lt, true, not, ◌&&◌, List, Option, Some, None, refl, sym, ap, ◌∙◌, option_map, find}
use Rattle.std.proofs.lemmas.Bool.{false≢true}
use Rattle.std.proofs.lemmas.Option.{none-some, same_Some}
use Rattle.src_text.specs.declared.token.Token.{Token}
use Rattle.rv_assembler.specs.declared.draft.Span.{Span}
use Rattle.rv_assembler.specs.declared.statement.Effect.{Effect}
use Rattle.rv_assembler.specs.declared.statement.Statement as statement
use Rattle.rv_assembler.specs.declared.names.Meaning.{Meaning}
use Rattle.rv_assembler.specs.declared.names.Meaning as meaning
use Rattle.rv_assembler.specs.Number.{natural_of, is_within}
use Rattle.rv_assembler.specs.Operand.{bytes_of}
use Rattle.rv_assembler.specs.Named.{region_span}
use Rattle.rv_assembler.specs.Declarations.{meaning_of}
use Rattle.rv_assembler.specs.Source.{sayings, readings}
use Rattle.rv_assembler.specs.Fault.{word_far, extent_far}
use Rattle.sentences.specs.declared.known.Known.{Known}
use Rattle.sentences.specs.declared.known.Sort.{Sort}
use Rattle.sentences.specs.declared.known.Sort as sort
use Rattle.sentences.specs.declared.findings.Cause.{Cause}
use Rattle.sentences.specs.declared.findings.Cause as cause
use Rattle.sentences.specs.declared.findings.Finding.{Finding}
use Rattle.sentences.specs.Findings.{finding_at, is_number_token, is_number_behind, interval_part, interval_from, words_of_sort, words_of_region, out_of_range_at}
use Rattle.sentences.specs.Known.{known_in}
use Rattle.sentences.specs.Ranges.{IsMeantAs}
use Rattle.sentences.proofs.NameLemmas.{not-meant, meant-as}

natural-back : (z : ℤ) → int_le (pos 0) z ≡ true → z ≡ pos (natural_of z)
natural-back (pos n) e = refl
natural-back (negsuc n) e = absurd (false≢true e)

by_sort : (p : Span) (s : Sort) (line : ℕ) (m : Meaning) → IsMeantAs s line m → region_span (Some m) ≡ Some p → int_le (pos 0) p.len ≡ true → p.len ≡ pos (words_of_sort s)
by_sort p (sort.TheVariants.Region len) line (meaning.TheVariants.Region number start n) is e positive =
    let same : n ≡ p.len = ap (λ (y : Span). y.len) (same_Some (record { start = start; len = n }) p e) in
    natural-back p.len positive ∙ ap (λ (z : ℤ). pos (natural_of z)) (sym same ∙ is)
by_sort p (sort.TheVariants.Region len) line (meaning.TheVariants.Label l place) is e positive = absurd is
by_sort p (sort.TheVariants.Region len) line (meaning.TheVariants.Lock number) is e positive = absurd is
by_sort p sort.TheVariants.Label line (meaning.TheVariants.Label l place) is e positive = absurd (none-some p e)
by_sort p sort.TheVariants.Label line (meaning.TheVariants.Region number start n) is e positive = absurd is
by_sort p sort.TheVariants.Label line (meaning.TheVariants.Lock number) is e positive = absurd is
by_sort p sort.TheVariants.Lock line (meaning.TheVariants.Lock number) is e positive = absurd (none-some p e)
by_sort p sort.TheVariants.Lock line (meaning.TheVariants.Label l place) is e positive = absurd is
by_sort p sort.TheVariants.Lock line (meaning.TheVariants.Region number start n) is e positive = absurd is

-- a region has as many words as the line says that declares it
words-named : (text name : List ℕ) (p : Span) → region_span (meaning_of text (sayings (readings text)) name) ≡ Some p → int_le (pos 0) p.len ≡ true
    → p.len ≡ pos (words_of_region (known_in text name))
words-named text name p e positive = by_known (known_in text name) refl
  where
    by_known : (o : Option Known) → known_in text name ≡ o → p.len ≡ pos (words_of_region o)
    by_known None is = absurd (none-some p (sym (ap region_span (not-meant text name is)) ∙ e))
    by_known (Some k) is =
        let m = meant-as text name k is in
        by_sort p k.sort k.line m.0 m.2 (sym (ap region_span m.1) ∙ e) positive

index-is : (n words : ℕ) (o : Option Token) (x : Finding) → option_map (finding_at (cause.TheVariants.Index n)) o ≡ Some x → x.cause ≡ cause.TheVariants.Index words → n ≡ words
index-is n words None x e is = absurd (none-some x e)
index-is n words (Some t) x e is =
    let same : cause.TheVariants.Index n ≡ cause.TheVariants.Index words = ap (λ (y : Finding). y.cause) (same_Some (finding_at (cause.TheVariants.Index n) t) x e) ∙ is in
    cc

interval-is : (n words : ℕ) (ts : List Token) (o : Option Token) (x : Finding) → interval_from (cause.TheVariants.Interval n) ts o ≡ Some x
    → x.cause ≡ cause.TheVariants.Interval words → n ≡ words
interval-is n words ts None x e is = absurd (none-some x e)
interval-is n words ts (Some t) x e is =
    let found : Finding = record { part = interval_part t (find (is_number_behind t.start) ts); cause = cause.TheVariants.Interval n } in
    let same : cause.TheVariants.Interval n ≡ cause.TheVariants.Interval words = ap (λ (y : Finding). y.cause) (same_Some found x e) ∙ is in
    cc

pub index-tested : (text bytes : List ℕ) (ts : List Token) (region : Token) (index : ℤ) (value : ℕ) (x : Finding) (words : ℕ) (p : Span)
    → out_of_range_at text bytes ts (statement.TheVariants.Word region index value) ≡ Some x → x.cause ≡ cause.TheVariants.Index words
    → region_span (meaning_of text (sayings (readings text)) (bytes_of bytes region)) ≡ Some p → int_le (pos 0) p.len ≡ true
    → word_far (Some p) index ≡ not (is_within (pos 0) (pos words) index)
unfolding out_of_range_at
index-tested text bytes ts region index value x words p e is span positive =
    let n = words_of_region (known_in text (bytes_of bytes region)) in
    let one = index-is n words (find is_number_token ts) x e is in
    let len = words-named text (bytes_of bytes region) p span positive ∙ ap (λ (k : ℕ). pos k) one in
    ap (λ (z : ℤ). not (int_le (pos 0) index && int_lt index z)) len

pub interval-tested : (text bytes : List ℕ) (ts : List Token) (u : Effect) (count : ℕ) (x : Finding) (words : ℕ) (p : Span)
    → out_of_range_at text bytes ts (statement.TheVariants.Uses u) ≡ Some x → x.cause ≡ cause.TheVariants.Interval words
    → region_span (meaning_of text (sayings (readings text)) (bytes_of bytes u.region)) ≡ Some p → int_le (pos 0) p.len ≡ true
    → extent_far (Some p) u.extent count ≡ extent_far (Some (record { start = p.start; len = pos words })) u.extent count
unfolding out_of_range_at
interval-tested text bytes ts u count x words p e is span positive =
    let n = words_of_region (known_in text (bytes_of bytes u.region)) in
    let one = interval-is n words ts (find is_number_token ts) x e is in
    let len = words-named text (bytes_of bytes u.region) p span positive ∙ ap (λ (k : ℕ). pos k) one in
    ap (λ (z : ℤ). extent_far (Some (record { start = p.start; len = z })) u.extent count) len
