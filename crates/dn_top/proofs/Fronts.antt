-- What is answered to as much of a text as is read is what is answered to the text.
use Rattle.std.proofs.Common.{◌≡◌, ◌⊎◌, inl, inr, ℕ, ◌<◌, ◌≤◌, nat_lt, Bool, true, false, List, [], ◌++◌, length, Option, Some, None, IfSome, Ok, Err, refl, sym, ap, subst, ◌∙◌, arith, length-append, append-nil}
use Rattle.std.proofs.lemmas.Bool.Decides.{nat_tests}
use Rattle.std.specs.Io.KnownBytes.{Consumes, IsAtEnd}
use Rattle.rv_assembler.specs.declared.fault.SourceFault as fault
use Rattle.rv_assembler.specs.Source.{source}
use Rattle.region_table.specs.Program.{ProgramParts}
use Rattle.run_replay.specs.declared.trace.TraceFault.{TraceFault}
use Rattle.run_replay.specs.declared.trace.TraceFault.TheVariants.{TooLarge}
use Rattle.run_replay.specs.declared.refusal.TraceRefusal.TheVariants.{Fault}
use Rattle.run_replay.specs.Faults.{HasFault}
use Rattle.run_replay.specs.Refusal.{refusal_text}
use Rattle.run_replay.proofs.Single.{one-fault}
use Rattle.dn_top.specs.declared.options.Mode.{Mode}
use Rattle.dn_top.specs.declared.options.Mode as mode
use Rattle.dn_top.specs.declared.options.Options.{Options}
use Rattle.dn_top.specs.declared.output.Output.{Output}
use Rattle.checked_runs.specs.Documents.{IsRefusedDocument}
use Rattle.dn_top.specs.Answers.{IsReplayed, done_in, refused_in, most_read}
use Rattle.run_report.specs.Texts.{HasProgram, HasChecked, IsNoProgram, IsUnfit}
use Rattle.program_outside.specs.Outside.{SourceState, IsRead}
use Rattle.dn_top.specs.Serving.{text_by, text_to_answer, read_by, obtained_by, IsObtained}
use Rattle.dn_top.proofs.OneReplay.{no-fault_of_document}

-- ---- texts that are too large

pub source-large : (x : List ℕ) → 1048576 < length x → source x ≡ Err fault.TheVariants.TooLarge
source-large x more = let test : nat_lt 1048576 (length x) ≡ true = grind (arith, nat_tests) in rw test

-- a text with a program isn't too large
pub source-small : (x : List ℕ) (P : ProgramParts) → source x ≡ Ok P → length x ≤ 1048576
source-small x P e = by_test (nat_lt 1048576 (length x)) refl
  where
    by_test : (b : Bool) → nat_lt 1048576 (length x) ≡ b → length x ≤ 1048576
    by_test true test = let more : 1048576 < length x = grind (arith, nat_tests) in let large = source-large x more in cc
    by_test false test = grind (arith, nat_tests)

-- what is left of a text that was read whole
left_none : (t text : List ℕ) (left : Option (List ℕ)) → Consumes (Some t) left text → (length text < 1048577 → IsAtEnd left) → length t ≤ 1048576 → left ≡ Some []
left_none t text None bytes whole less = absurd bytes
left_none t text (Some rest) bytes whole less =
    let counted = ap length bytes in
    let ends = whole (omega (arith, length-append text rest)) in
    ap Some ends

-- what was read has the source of the text
same_source : (t text : List ℕ) (left : Option (List ℕ)) → Consumes (Some t) left text → (length text < 1048577 → IsAtEnd left) → source text ≡ source t
same_source t text None bytes whole = absurd bytes
same_source t text (Some rest) bytes whole = by_test (nat_lt (length text) 1048577) refl
  where
    by_test : (b : Bool) → nat_lt (length text) 1048577 ≡ b → source text ≡ source t
    by_test true test =
        let ends : rest ≡ [] = whole (grind (arith, nat_tests)) in
        ap source (sym (bytes ∙ ap (λ r. text ++ r) ends ∙ append-nil text))
    by_test false test =
        let long : 1048577 ≤ length text = grind (arith, nat_tests) in
        let counted = ap length bytes in
        source-large text (omega arith) ∙ sym (source-large t (omega (arith, length-append text rest)))

-- what was read of a text that isn't too large is the text
same_text : (t text : List ℕ) (left : Option (List ℕ)) → Consumes (Some t) left text → (length text < 1048577 → IsAtEnd left) → length text ≤ 1048576 → text ≡ t
same_text t text None bytes whole less = absurd bytes
same_text t text (Some rest) bytes whole less =
    let ends : rest ≡ [] = whole (omega (arith, less)) in
    sym (bytes ∙ ap (λ r. text ++ r) ends ∙ append-nil text)

-- both texts have the same program or the same fault, and where there is a program they are one, and the source was read to its end
record AreAlike (after : SourceState) (text t : List ℕ) : Type 0 where
  same : source text ≡ source t
  equal : (P : ProgramParts) → source text ≡ Ok P → text ≡ t
  whole : (P : ProgramParts) → source t ≡ Ok P → after.bytes ≡ Some []

are-alike : (before after : SourceState) (text t : List ℕ) → before.bytes ≡ Some t → IsRead before after 1048577 text → AreAlike after text t
are-alike before after text t is read =
    let bytes : Consumes (Some t) after.bytes text = subst (λ (x : Option (List ℕ)). Consumes x after.bytes text) is read.bytes in
    record {
      same = same_source t text after.bytes bytes read.whole;
      equal = λ P e. same_text t text after.bytes bytes read.whole (source-small text P e);
      whole = λ P e. left_none t text after.bytes bytes read.whole (source-small t P e);
    }

-- ---- what holds of a text by its source

program-alike : (text t : List ℕ) (Holds : ProgramParts → Type 0) → source text ≡ source t → HasProgram text Holds → HasProgram t Holds
program-alike text t Holds e h = record { program = h.program; is = sym e ∙ h.is; holds = h.holds }

pub checked-alike : (text t : List ℕ) (Holds : ProgramParts → Type 0) → source text ≡ source t → HasChecked text Holds → HasChecked t Holds
checked-alike text t Holds e h = record { program = h.program; is = sym e ∙ h.is; checked = h.checked; holds = h.holds }

no_program-alike : (text t line : List ℕ) → source text ≡ source t → IsNoProgram text line → IsNoProgram t line
no_program-alike text t line e h = record { fault = h.fault; is = sym e ∙ h.is; says = h.says }

pub unfit-alike : (text t line : List ℕ) → source text ≡ source t → IsUnfit text line → IsUnfit t line
unfit-alike text t line e (inl h) = inl (no_program-alike text t line e h)
unfit-alike text t line e (inr h) = inr (program-alike text t _ e h)

-- ---- documents

-- the document was read whole, or it is too large, as is what was read of it
abbrev IsReadDocument : Option (List ℕ) → List ℕ → List ℕ → Type 0
IsReadDocument left text t = ((text ≡ t) × (left ≡ Some [])) ⊎ (HasFault text TooLarge × HasFault t TooLarge)

read-document : (t text : List ℕ) (left : Option (List ℕ)) → Consumes (Some t) left text → (length text < 536870913 → IsAtEnd left) → IsReadDocument left text t
read-document t text None bytes whole = absurd bytes
read-document t text (Some rest) bytes whole = by_test (nat_lt (length text) 536870913) refl
  where
    by_test : (b : Bool) → nat_lt (length text) 536870913 ≡ b → IsReadDocument (Some rest) text t
    by_test true test =
        let ends : rest ≡ [] = whole (grind (arith, nat_tests)) in
        inl (sym (bytes ∙ ap (λ r. text ++ r) ends ∙ append-nil text), ap Some ends)
    by_test false test =
        let long : 536870913 ≤ length text = grind (arith, nat_tests) in
        let counted = ap length bytes in
        inr (omega (arith, long), omega (arith, long, counted, length-append text rest))

-- what is too large is no document, and refused by one line
replayed-small : (x : List ℕ) (out : Output) → HasFault x TooLarge → IsReplayed x out → ⊥
replayed-small x out large is = no-fault_of_document x is.trace TooLarge is.is large

large-line : (x line : List ℕ) → HasFault x TooLarge → IsRefusedDocument x line → line ≡ refusal_text (Fault TooLarge)
large-line x line large (inl was) = was.says ∙ ap (λ (f : TraceFault). refusal_text (Fault f)) (one-fault x was.fault TooLarge was.is large)
large-line x line large (inr was) = absurd (no-fault_of_document x was.trace TooLarge was.is large)

large-refused : (x line : List ℕ) → HasFault x TooLarge → line ≡ refusal_text (Fault TooLarge) → IsRefusedDocument x line
large-refused x line large says = inl (record { fault = TooLarge; is = large; says = says })

document-done : (left : Option (List ℕ)) (text t : List ℕ) (out : Output) → IsReadDocument left text t → IsReplayed text out → IsReplayed t out
document-done left text t out (inl (same, ends)) is = subst (λ (x : List ℕ). IsReplayed x out) same is
document-done left text t out (inr (large, more)) is = absurd (replayed-small text out large is)

document-refused : (left : Option (List ℕ)) (text t line : List ℕ) → IsReadDocument left text t → IsRefusedDocument text line → IsRefusedDocument t line
document-refused left text t line (inl (same, ends)) was = subst (λ (x : List ℕ). IsRefusedDocument x line) same was
document-refused left text t line (inr (large, more)) was = large-refused t line more (large-line text line large was)

document-read : (left : Option (List ℕ)) (text t : List ℕ) (out : Output) → IsReadDocument left text t → IsReplayed t out → left ≡ Some []
document-read left text t out (inl (same, ends)) is = ends
document-read left text t out (inr (large, more)) is = absurd (replayed-small t out more is)

-- ---- by the mode

-- what a mode answers to the first text it answers to the second, and where it does something the source was read so
pub record AnswersAlike (m : Mode) (o : Options) (before after : SourceState) (text t : List ℕ) : Type 0 where
  pub done : (out : Output) → done_in m o text out → done_in m o t out
  pub refused : (line : List ℕ) → refused_in m text line → refused_in m t line
  pub read : (out : Output) → done_in m o t out → read_by (most_read m) before after

-- what a mode reads of a text is answered as the text
answers-read : (m : Mode) (o : Options) (before after : SourceState) (text t : List ℕ) (most : ℕ) → most_read m ≡ Some most → before.bytes ≡ Some t → IsRead before after most text → AnswersAlike m o before after text t
answers-read mode.TheVariants.Run o before after text t most e is read =
    let a = are-alike before after text t is (let m : most ≡ 1048577 = cc in rw m at read) in
    record { done = λ out. checked-alike text t _ a.same; refused = λ line. unfit-alike text t line a.same; read = λ out h. a.whole h.program h.is }
answers-read mode.TheVariants.Work o before after text t most e is read = absurd cc
answers-read mode.TheVariants.Check o before after text t most e is read =
    let a = are-alike before after text t is (let m : most ≡ 1048577 = cc in rw m at read) in
    record { done = λ out. checked-alike text t _ a.same; refused = λ line. unfit-alike text t line a.same; read = λ out h. a.whole h.program h.is }
answers-read mode.TheVariants.List o before after text t most e is read =
    let a = are-alike before after text t is (let m : most ≡ 1048577 = cc in rw m at read) in
    record { done = λ out. program-alike text t _ a.same; refused = λ line. no_program-alike text t line a.same; read = λ out h. a.whole h.program h.is }
answers-read mode.TheVariants.Flat o before after text t most e is read =
    let a = are-alike before after text t is (let m : most ≡ 1048577 = cc in rw m at read) in
    record { done = λ out. checked-alike text t _ a.same; refused = λ line. unfit-alike text t line a.same; read = λ out h. a.whole h.program h.is }
answers-read mode.TheVariants.Trace o before after text t most e is read =
    let a = are-alike before after text t is (let m : most ≡ 1048577 = cc in rw m at read) in
    record { done = λ out h. subst (λ (x : List ℕ). done_in mode.TheVariants.Trace o x out) (a.equal h.program h.is) h; refused = λ line. unfit-alike text t line a.same; read = λ out h. a.whole h.program h.is }
answers-read mode.TheVariants.Replay o before after text t most e is read =
    let whole : IsRead before after 536870913 text = (let m : most ≡ 536870913 = cc in rw m at read) in
    let bytes : Consumes (Some t) after.bytes text = subst (λ (x : Option (List ℕ)). Consumes x after.bytes text) is whole.bytes in
    let a = read-document t text after.bytes bytes whole.whole in
    record { done = λ out. document-done after.bytes text t out a; refused = λ line. document-refused after.bytes text t line a; read = λ out. document-read after.bytes text t out a }
answers-read mode.TheVariants.Time o before after text t most e is read =
    let a = are-alike before after text t is (let m : most ≡ 1048577 = cc in rw m at read) in
    record { done = λ out. checked-alike text t _ a.same; refused = λ line. unfit-alike text t line a.same; read = λ out h. a.whole h.program h.is }
answers-read mode.TheVariants.Prove o before after text t most e is read =
    let a = are-alike before after text t is (let m : most ≡ 1048577 = cc in rw m at read) in
    record { done = λ out. checked-alike text t _ a.same; refused = λ line. unfit-alike text t line a.same; read = λ out h. a.whole h.program h.is }

-- the text that was taken is answered as the text that the options are about
pub taken-alike : (o : Options) (before after : SourceState) (text : List ℕ) → IsObtained o before after text → IfSome (text_to_answer o before) (λ t. AnswersAlike o.mode o before after text t)
taken-alike o before after text taken = by_most (most_read o.mode) refl taken
  where
    by_most : (x : Option ℕ) → most_read o.mode ≡ x → obtained_by x o.size before after text → IfSome (text_by x o.size before.bytes) (λ t. AnswersAlike o.mode o before after text t)
    by_most None e h =
        record {
          done = λ out d. subst (λ (x : List ℕ). done_in o.mode o x out) h.0 d;
          refused = λ line r. subst (λ (x : List ℕ). refused_in o.mode x line) h.0 r;
          read = λ out d. subst (λ (x : Option ℕ). read_by x before after) (sym e) h.1;
        }
    by_most (Some most) e h = by_told before.bytes refl
      where
        by_told : (told : Option (List ℕ)) → before.bytes ≡ told → IfSome told (λ t. AnswersAlike o.mode o before after text t)
        by_told None is = tt
        by_told (Some t) is = answers-read o.mode o before after text t most e is h
