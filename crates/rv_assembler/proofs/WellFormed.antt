-- What stands before a line of good form has 32 bits, and a text without a fault is a well-formed program.
use Rattle.std.proofs.Common.{◌≡◌, ◌≤◌, ◌+◌, ℕ, Bool, true, false, cond, nat_lt, List, [], ◌∷◌, ◌++◌, length, map, Option, None, Some, Result, Ok, Err, refl, subst, sym, ◌∙◌, length-append, arith}
use Rattle.std.specs.List.{All}
use Rattle.std.proofs.lemmas.List.Elements.{All-nil, All-cons}
use Rattle.std.proofs.lemmas.List.Sums.{count_by-le-length}
use Rattle.region_table.specs.Program.{ProgramParts, IsProgram}
use Rattle.src_text.specs.Line.{lines_of}
use Rattle.rv_assembler.specs.declared.fault.SourceFault.{SourceFault}
use Rattle.rv_assembler.specs.declared.fault.SourceFault as fault
use Rattle.rv_assembler.specs.declared.parsing.Saying.{Saying}
use Rattle.rv_assembler.specs.declared.parsing.Reading.{Reading}
use Rattle.rv_assembler.specs.declared.parsing.Reading.TheVariants.{Bad, Good}
use Rattle.rv_assembler.specs.declared.names.Meaning.{Meaning}
use Rattle.rv_assembler.specs.declared.draft.Draft.{Draft}
use Rattle.rv_assembler.specs.Reading.{version_line, reading_of}
use Rattle.rv_assembler.specs.Fault.{limit_fault}
use Rattle.rv_assembler.specs.Testing.{draft_fault}
use Rattle.rv_assembler.specs.Adding.{no_draft, draft_after, fault_on_line, unless_fault, total, program_in, draft_of}
use Rattle.rv_assembler.specs.Adding as adding
use Rattle.rv_assembler.specs.Finishing.{finished_program}
use Rattle.rv_assembler.specs.Placed.{placed_behind}
use Rattle.rv_assembler.specs.Counts.{is_region, is_lock, is_phase, regions_in, locks_in, phases_in, HasFewBefore}
use Rattle.rv_assembler.specs.Source.{source}
use Rattle.rv_assembler.proofs.TableLemmas.{place, code-bound, data-bound}
use Rattle.rv_assembler.specs.Whole.{IsWholeDraft}
use Rattle.rv_assembler.proofs.SoundLemmas.{Sound, sound-none, sound-after, IsWithin, within-none, within, whole}
use Rattle.rv_assembler.proofs.UseLemmas.{both-none, within-limits}
use Rattle.rv_assembler.proofs.AgreeLemmas.{source-added}

-- ---- what stands before a line

pub few-before : (ss before : List Saying) → length before + length ss ≤ 65536 → All HasFewBefore (placed_behind before ss)
few-before [] before few = All-nil HasFewBefore
few-before (s ∷ ss) before few =
    let code = code-bound before in
    let words = data-bound before in
    let regions : regions_in before ≤ length before = count_by-le-length (λ (t : Saying). is_region t.statement) before in
    let locks : locks_in before ≤ length before = count_by-le-length (λ (t : Saying). is_lock t.statement) before in
    let phases : phases_in before ≤ length before = count_by-le-length (λ (t : Saying). is_phase t.statement) before in
    let longer : length (before ++ s ∷ []) ≡ length before + 1 = length-append before (s ∷ []) in
    All-cons HasFewBefore (place before s) (placed_behind (before ++ s ∷ []) ss)
    (record { code = omega arith; words = omega arith; regions = omega arith; locks = omega arith; phases = omega arith })
    (few-before ss (before ++ s ∷ []) (omega arith))

-- ---- a text without a fault

record IsSound (names : List ℕ → Option Meaning) (d : Draft) : Type 0 where
  sound : Sound names d
  within : IsWithin d

total-sound : (v : Bool) (text : List ℕ) (names : List ℕ → Option Meaning) (d e : Draft) (rs : List Reading) → IsSound names d → total v text names d rs ≡ Ok e → IsSound names e
total-sound v text names d e [] h is = let same : d ≡ e = cc in subst (IsSound names) same h
total-sound v text names d e (Bad f ∷ rs) h is = absurd cc
total-sound v text names d e (Good s ∷ rs) h is =
    by_fault (fault_on_line v text names d s) refl is (total-sound v text names (draft_after text names d s.statement) e rs)
  where
    adds : Draft
    adds = draft_after text names d s.statement

    by_fault : (o : Option SourceFault) → fault_on_line v text names d s ≡ o → unless_fault o (total v text names adds rs) ≡ Ok e → (IsSound names adds → total v text names adds rs ≡ Ok e → IsSound names e) → IsSound names e
    by_fault (Some f) o is rest = absurd cc
    by_fault None o is rest =
        let none = both-none (draft_fault text names d s) (limit_fault v adds s.line) o in
        rest (record { sound = sound-after text names d s h.sound h.within none.0; within = within v adds (within-limits v adds s.line none.1) }) is

-- lines without a fault add up to a well-formed program
pub total-whole : (v : Bool) (text : List ℕ) (names : List ℕ → Option Meaning) (d : Draft) (rs : List Reading) → total v text names no_draft rs ≡ Ok d → IsWholeDraft d
total-whole v text names d rs is =
    let sound = total-sound v text names no_draft d rs (record { sound = sound-none names; within = within-none }) is in
    whole names d sound.sound sound.within

pub draft-whole : (text : List ℕ) (d : Draft) → draft_of text ≡ Ok d → IsWholeDraft d
draft-whole text d is =
    let ls = lines_of text in
    let version = version_line text ls in
    total-whole (nat_lt 0 version) text (adding.gathered_names text) d (map (reading_of version text) ls) is

draft-sound : (text : List ℕ) (d : Draft) → draft_of text ≡ Ok d → IsProgram (finished_program d)
draft-sound text d is = (draft-whole text d is).program

-- a text's program is well formed
pub source-well-formed : (text : List ℕ) (P : ProgramParts) → source text ≡ Ok P → IsProgram P
source-well-formed text P is = by_size (nat_lt 1048576 (length text)) (sym (source-added text) ∙ is)
  where
    by_draft : (r : Result Draft SourceFault) → draft_of text ≡ r → program_in r ≡ Ok P → IsProgram P
    by_draft (Ok d) e f = let same : finished_program d ≡ P = cc in subst IsProgram same (draft-sound text d e)
    by_draft (Err g) e f = absurd cc

    by_size : (c : Bool) → cond c (Err fault.TheVariants.TooLarge) (program_in (draft_of text)) ≡ Ok P → IsProgram P
    by_size true e = absurd cc
    by_size false e = by_draft (draft_of text) refl e
