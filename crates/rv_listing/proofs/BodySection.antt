-- All sections of a listing but its version line: what they say, and the program that they add up to.
use Rattle.std.proofs.Common.{◌≡◌, ℕ, ◌+◌, ◌<◌, ◌≤◌, ltb, List, [], ◌++◌, length, map, replicate, Option, refl, sym, ap, ◌∙◌, subst, append-nil, length-append, arith}
use Rattle.std.specs.Prelude.{Ok}
use Rattle.std.specs.List.{flat_map, range_with_len}
use Rattle.src_text.specs.Line.{numbered}
use Rattle.region_table.specs.Program.{ProgramParts, AreTiled}
use Rattle.rv_assembler.specs.declared.statement.Statement.{Statement}
use Rattle.rv_assembler.specs.declared.parsing.Reading.{Reading}
use Rattle.rv_assembler.specs.declared.names.Meaning.{Meaning}
use Rattle.rv_assembler.specs.declared.draft.Draft.{Draft}
use Rattle.rv_assembler.specs.declared.names.Count.{Count}
use Rattle.rv_assembler.specs.declared.draft.Start.{Start}
use Rattle.rv_assembler.specs.declared.draft.Claim.{Claim}
use Rattle.rv_assembler.specs.declared.draft.FirstValue.{FirstValue}
use Rattle.rv_assembler.specs.Gathering.{no_count, meaning_in}
use Rattle.rv_assembler.specs.Reading.{reading_of}
use Rattle.rv_assembler.specs.Adding.{no_draft, total}
use Rattle.rv_assembler.specs.Fault.{most_regions}
use Rattle.rv_assembler.specs.Finishing.{phase_within, with_first_values, finished_program}
use Rattle.rv_listing.specs.Instruction.{code_line}
use Rattle.rv_listing.specs.Listing.{text_of, region_line, region_values, lock_line, phase_lines}
use Rattle.rv_listing.specs.Law.{AreCodeWords}
use Rattle.rv_listing.proofs.ReadLemmas.{SaidFrom, sayings, said-readings}
use Rattle.rv_listing.proofs.CodeSection.{AreShort, CodeSaid, code-said, instructions, add_words, total-code, program-words}
use Rattle.rv_listing.proofs.RegionSection.{IsWithin}
use Rattle.rv_listing.proofs.DeclarationLemmas.{region_statements, lock_statements, region_names, KnowRegions, KnowLocks, EachDiffers, AreDistinct, total-regions, total-locks, know-regions, skip-regions, know-locks}
use Rattle.rv_listing.proofs.MemoryLemmas.{region_first_values, stored-memory, values-by-region}
use Rattle.rv_listing.proofs.SetLines.{AreNamed}
use Rattle.rv_listing.proofs.ValueLines.{add_values}
use Rattle.rv_listing.proofs.EffectLines.{short-left, short-right, front-text, back-text, back-place}
use Rattle.rv_listing.proofs.GuardedLines.{LocksDeclared}
use Rattle.rv_listing.proofs.AddsLemmas.{Adds, size, said-append, front-readings}
use Rattle.rv_listing.proofs.AllPhaseLines.{IsAt, ArePhases, add_phases_of, task_count, phases-add}
use Rattle.rv_listing.proofs.DeclarationLines.{RegionsSaid, regions-said, LocksSaid, locks-said, region-values-add}
use Rattle.rv_listing.proofs.ClaimLemmas.{ArePhasesOf, claims_of_phases, starts_of_phases, phases-again}
use Rattle.rv_listing.proofs.DraftLemmas.{with_regions, with_locks, regions-added, locks-added, phases-leave, phases-counted, phases-started, phases-claimed, phases-within, within-others, program-parts}
use Rattle.rv_listing.proofs.NameLemmas.{distinct-front, distinct-back, others, know-locks-by}

-- the sections
abbrev pub regions_part : ProgramParts → List (List ℕ)
regions_part p = map region_line p.regions

abbrev pub values_part : ProgramParts → List (List ℕ)
values_part p = flat_map (region_values p.memory) p.regions

abbrev pub locks_part : ProgramParts → List (List ℕ)
locks_part p = map lock_line p.locks

abbrev pub phases_part : ProgramParts → List (List ℕ)
phases_part p = flat_map (phase_lines p.regions p.locks) p.phases

abbrev pub code_part : ProgramParts → List (List ℕ)
code_part p = map code_line p.code

abbrev pub from_phases : ProgramParts → List (List ℕ)
from_phases p = phases_part p ++ code_part p

abbrev pub from_locks : ProgramParts → List (List ℕ)
from_locks p = locks_part p ++ from_phases p

abbrev pub from_values : ProgramParts → List (List ℕ)
from_values p = values_part p ++ from_locks p

abbrev pub body_lines : ProgramParts → List (List ℕ)
body_lines p = regions_part p ++ from_values p

-- what the lines need of a program
pub record IsReadable (p : ProgramParts) : Type 0 where
  pub tiled : AreTiled 0 p.regions (length p.memory)
  pub most : length p.memory ≤ 65536
  pub regions : length p.regions ≤ 4096
  pub locks : length p.locks ≤ 32
  pub phases : length p.phases ≤ 64
  pub tasks : task_count p.phases ≤ 64
  pub code : length p.code ≤ 16384
  pub words : AreCodeWords p.memory
  pub code_words : AreCodeWords p.code
  pub named : AreNamed p.regions
  pub declared : LocksDeclared p.locks
  pub distinct : AreDistinct (region_names p.regions ++ p.locks)
  pub numbers : ArePhases p.phases
  pub effects : ArePhasesOf (length p.memory) (length p.locks) p.phases

-- the lines from a place of the text on say some statements
pub record AreSaid (text : List ℕ) (place : ℕ) (lines : List (List ℕ)) : Type 0 where
  pub statements : List Statement
  pub said : SaidFrom text place lines statements

-- the drafts behind the declarations and behind the phases
abbrev pub declared_draft : ProgramParts → Draft
declared_draft p =
    with_locks (record (with_regions no_draft p.regions (length p.memory) (0 + length p.regions)) { values = flat_map (region_first_values p.memory) p.regions }) p.locks (0 + length p.locks)

abbrev pub phased_draft : ProgramParts → Draft
phased_draft p = add_phases_of p.regions (length p.locks) (declared_draft p) p.phases

-- the program of the last draft is the program
pub program-again : (p : ProgramParts) → IsReadable p → finished_program (add_words (phased_draft p) p.code) ≡ p
program-again p h =
    let d = phased_draft p in
    let rest = phases-leave p.regions (length p.locks) (declared_draft p) p.phases in
    let words : d.count.words ≡ length p.memory = ap (λ (x : Draft). x.count.words) rest in
    let values : d.values ≡ flat_map (region_first_values p.memory) p.regions = ap (λ (x : Draft). x.values) rest in
    let code : d.code ≡ [] = ap (λ (x : Draft). x.code) rest in
    let regions : d.regions ≡ p.regions = ap (λ (x : Draft). x.regions) rest in
    let locks : d.locks ≡ p.locks = ap (λ (x : Draft). x.locks) rest in
    let phases : d.phases ≡ length p.phases = phases-counted p.regions (length p.locks) (declared_draft p) p.phases ∙ omega arith in
    let tasks : d.tasks ≡ starts_of_phases 1 p.phases = phases-started p.regions (length p.locks) (declared_draft p) p.phases in
    let claims : d.claims ≡ claims_of_phases p.regions (length p.locks) 1 p.phases = phases-claimed p.regions (length p.locks) (declared_draft p) p.phases in
    let memory : with_first_values (replicate d.count.words 0) d.values ≡ p.memory =
    ap (λ (n : ℕ). with_first_values (replicate n 0) d.values) words
    ∙ ap (with_first_values (replicate (length p.memory) 0)) (values ∙ values-by-region p.memory 0 p.regions h.tiled (omega arith))
    ∙ stored-memory p.memory in
    let all : map (phase_within d.count.words (length d.locks) d.claims d.tasks) (range_with_len 1 d.phases) ≡ p.phases =
    ap (λ (n : ℕ). map (phase_within n (length d.locks) d.claims d.tasks) (range_with_len 1 d.phases)) words
    ∙ ap (λ (ls : List (List ℕ)). map (phase_within (length p.memory) (length ls) d.claims d.tasks) (range_with_len 1 d.phases)) locks
    ∙ ap (λ (cs : List Claim). map (phase_within (length p.memory) (length p.locks) cs d.tasks) (range_with_len 1 d.phases)) claims
    ∙ ap (λ (ss : List Start). map (phase_within (length p.memory) (length p.locks) (claims_of_phases p.regions (length p.locks) 1 p.phases) ss) (range_with_len 1 d.phases)) tasks
    ∙ ap (λ (n : ℕ). map (phase_within (length p.memory) (length p.locks) (claims_of_phases p.regions (length p.locks) 1 p.phases) (starts_of_phases 1 p.phases)) (range_with_len 1 n)) phases
    ∙ phases-again p.regions (length p.memory) (length p.locks) h.tiled p.phases 1 [] [] (λ q l. tt) (λ s l. tt) h.effects in
    program-words d p.code
    ∙ ap (λ (x : ProgramParts). record x { code = d.code ++ p.code }) (program-parts d p.memory p.regions p.locks p.phases memory regions locks all)
    ∙ ap (λ (c : List ℕ). record p { code = c ++ p.code }) code

module _ (p : ProgramParts) (h : IsReadable p) (version number : ℕ) (front text : List ℕ) (place : ℕ) (begins : place ≡ length front) (whole : text ≡ front ++ (text_of (body_lines p) ++ [])) (behind : version < number) (few : number + length (body_lines p) ≤ 65537) (short : AreShort (body_lines p)) (room : length p.regions ≤ most_regions (ltb 0 version)) where
  abbrev readings_from : ℕ → ℕ → List (List ℕ) → List Reading
  readings_from n at lines = map (reading_of version text) (numbered n at lines)

  abbrev body_names : List ℕ → Option Meaning
  body_names = meaning_in text no_count (readings_from number place (body_lines p))

  -- where the sections begin
  abbrev values_place : ℕ
  values_place = place + size (regions_part p)

  abbrev locks_place : ℕ
  locks_place = values_place + size (values_part p)

  abbrev phases_place : ℕ
  phases_place = locks_place + size (locks_part p)

  abbrev code_place : ℕ
  code_place = phases_place + size (phases_part p)

  abbrev values_number : ℕ
  values_number = number + length (regions_part p)

  abbrev locks_number : ℕ
  locks_number = values_number + length (values_part p)

  abbrev phases_number : ℕ
  phases_number = locks_number + length (locks_part p)

  abbrev code_number : ℕ
  code_number = phases_number + length (phases_part p)

  abbrev values_front : List ℕ
  values_front = front ++ text_of (regions_part p)

  abbrev locks_front : List ℕ
  locks_front = values_front ++ text_of (values_part p)

  abbrev phases_front : List ℕ
  phases_front = locks_front ++ text_of (locks_part p)

  abbrev code_front : List ℕ
  code_front = phases_front ++ text_of (phases_part p)

  abbrev values_short : AreShort (from_values p)
  values_short = short-right (regions_part p) (from_values p) short

  abbrev locks_short : AreShort (from_locks p)
  locks_short = short-right (values_part p) (from_locks p) values_short

  abbrev phases_short : AreShort (from_phases p)
  phases_short = short-right (locks_part p) (from_phases p) locks_short

  lengths-sum : (number + length (regions_part p) ≤ 65537) × (values_number + length (values_part p) ≤ 65537) × (locks_number + length (locks_part p) ≤ 65537) × (phases_number + length (phases_part p) ≤ 65537) × (code_number + length (code_part p) ≤ 65537)
  lengths-sum =
      let a = length-append (regions_part p) (from_values p) in
      let b = length-append (values_part p) (from_locks p) in
      let c = length-append (locks_part p) (from_phases p) in
      let d = length-append (phases_part p) (code_part p) in
      (omega arith, omega arith, omega arith, omega arith, omega arith)

  values-text : text ≡ values_front ++ (text_of (from_values p) ++ [])
  values-text = back-text text front (regions_part p) (from_values p) [] whole

  locks-text : text ≡ locks_front ++ (text_of (from_locks p) ++ [])
  locks-text = back-text text values_front (values_part p) (from_locks p) [] values-text

  phases-text : text ≡ phases_front ++ (text_of (from_phases p) ++ [])
  phases-text = back-text text locks_front (locks_part p) (from_phases p) [] locks-text

  code-text : text ≡ code_front ++ text_of (code_part p)
  code-text = back-text text phases_front (phases_part p) (code_part p) [] phases-text ∙ ap (λ (x : List ℕ). code_front ++ x) (append-nil (text_of (code_part p)))

  values-begin : values_place ≡ length values_front
  values-begin = back-place front (regions_part p) place begins

  locks-begin : locks_place ≡ length locks_front
  locks-begin = back-place values_front (values_part p) values_place values-begin

  phases-begin : phases_place ≡ length phases_front
  phases-begin = back-place locks_front (locks_part p) locks_place locks-begin

  code-begin : code_place ≡ length code_front
  code-begin = back-place phases_front (phases_part p) phases_place phases-begin

  -- the regions
  body-regions : RegionsSaid text place p.regions
  body-regions =
      regions-said text p.regions 0 (length p.memory) front (text_of (from_values p) ++ []) place h.tiled h.most h.named begins (front-text text front (regions_part p) (from_values p) [] whole) (short-left (regions_part p) (from_values p) short)

  abbrev regions_said : List Statement
  regions_said = region_statements body-regions.tokens p.regions

  read-regions : readings_from number place (body_lines p) ≡ sayings number regions_said ++ readings_from values_number values_place (from_values p)
  read-regions = front-readings text version number place (regions_part p) regions_said (from_values p) behind lengths-sum.0 body-regions.said

  known-regions : KnowRegions body_names 0 p.regions
  known-regions =
      subst (λ (rd : List Reading). KnowRegions (meaning_in text no_count rd) 0 p.regions) (sym read-regions)
      (know-regions text no_count number body-regions.tokens p.regions (readings_from values_number values_place (from_values p)) (length p.memory) body-regions.named h.tiled h.most (omega (arith, h.regions)) (distinct-front (region_names p.regions) p.locks h.distinct))

  abbrev body_values : List FirstValue
  body_values = flat_map (region_first_values p.memory) p.regions

  -- the first values
  body-values : Adds (ltb 0 version) text body_names values_place (values_part p) (IsWithin (ltb 0 version)) (λ d. add_values d body_values)
  body-values =
      region-values-add (ltb 0 version) text body_names p.memory p.regions 0 0 values_front (text_of (from_locks p) ++ []) values_place h.tiled h.most h.words h.named known-regions values-begin (front-text text values_front (values_part p) (from_locks p) [] values-text) (short-left (values_part p) (from_locks p) values_short)

  read-values : readings_from values_number values_place (from_values p) ≡ sayings values_number body-values.statements ++ readings_from locks_number locks_place (from_locks p)
  read-values = front-readings text version values_number values_place (values_part p) body-values.statements (from_locks p) (omega arith) lengths-sum.1 body-values.said

  -- the locks
  body-locks : LocksSaid text locks_place p.locks
  body-locks =
      locks-said text p.locks locks_front (text_of (from_phases p) ++ []) locks_place h.declared locks-begin (front-text text locks_front (locks_part p) (from_phases p) [] locks-text) (short-left (locks_part p) (from_phases p) locks_short)

  abbrev locks_said : List Statement
  locks_said = lock_statements body-locks.tokens

  read-locks : readings_from locks_number locks_place (from_locks p) ≡ sayings locks_number locks_said ++ readings_from phases_number phases_place (from_phases p)
  read-locks = front-readings text version locks_number locks_place (locks_part p) locks_said (from_phases p) (omega arith) lengths-sum.2 body-locks.said

  -- what is counted behind the regions
  abbrev regions_count : Count
  regions_count = record { code = 0; words = length p.memory; regions = 0 + length p.regions; locks = 0 }

  past-regions : (q : List ℕ) → EachDiffers q p.regions → body_names q ≡ meaning_in text regions_count (sayings locks_number locks_said ++ readings_from phases_number phases_place (from_phases p)) q
  past-regions q d =
      ap (λ (rd : List Reading). meaning_in text no_count rd q) read-regions
      ∙ skip-regions text no_count number body-regions.tokens p.regions (readings_from values_number values_place (from_values p)) (length p.memory) q body-regions.named h.tiled h.most (omega (arith, h.regions)) d
      ∙ ap (λ (rd : List Reading). meaning_in text regions_count rd q) read-values
      ∙ body-values.silent regions_count q values_number (readings_from locks_number locks_place (from_locks p))
      ∙ ap (λ (rd : List Reading). meaning_in text regions_count rd q) read-locks

  known-locks : KnowLocks body_names 0 p.locks
  known-locks =
      know-locks-by body_names (meaning_in text regions_count (sayings locks_number locks_said ++ readings_from phases_number phases_place (from_phases p))) p.regions 0 p.locks past-regions (others p.regions p.locks h.distinct)
      (know-locks text regions_count locks_number body-locks.tokens p.locks (readings_from phases_number phases_place (from_phases p)) body-locks.named (omega (arith, h.locks)) (distinct-back (region_names p.regions) p.locks h.distinct))

  -- the phases
  body-phases : Adds (ltb 0 version) text body_names phases_place (phases_part p) (λ d. IsAt (ltb 0 version) d 0 (task_count p.phases)) (λ d. add_phases_of p.regions (length p.locks) d p.phases)
  body-phases =
      phases-add (ltb 0 version) text body_names p.regions (length p.memory) h.tiled h.most h.named known-regions p.locks h.declared known-locks p.phases 0 phases_front (text_of (code_part p) ++ []) phases_place (omega (arith, h.phases)) h.numbers phases-begin
      (front-text text phases_front (phases_part p) (code_part p) [] phases-text) (short-left (phases_part p) (code_part p) phases_short)

  read-phases : readings_from phases_number phases_place (from_phases p) ≡ sayings phases_number body-phases.statements ++ readings_from code_number code_place (code_part p)
  read-phases = front-readings text version phases_number phases_place (phases_part p) body-phases.statements (code_part p) (omega arith) lengths-sum.3 body-phases.said

  -- the code
  body-code : CodeSaid text code_place p.code
  body-code = code-said text code_front code_place p.code h.code_words (short-right (phases_part p) (code_part p) phases_short) code-begin code-text

  read-code : readings_from code_number code_place (code_part p) ≡ sayings code_number (instructions body-code.codes)
  read-code = said-readings text version code_number code_place (code_part p) (instructions body-code.codes) (omega arith) lengths-sum.4 body-code.said

  abbrev body_statements : List Statement
  body_statements = regions_said ++ (body-values.statements ++ (locks_said ++ (body-phases.statements ++ instructions body-code.codes)))

  -- all lines are said
  pub body-said : AreSaid text place (body_lines p)
  body-said = record {
    statements = body_statements;
    said = said-append text place (regions_part p) regions_said (from_values p) (body-values.statements ++ (locks_said ++ (body-phases.statements ++ instructions body-code.codes))) body-regions.said
        (said-append text values_place (values_part p) body-values.statements (from_locks p) (locks_said ++ (body-phases.statements ++ instructions body-code.codes)) body-values.said
        (said-append text locks_place (locks_part p) locks_said (from_phases p) (body-phases.statements ++ instructions body-code.codes) body-locks.said
        (said-append text phases_place (phases_part p) body-phases.statements (code_part p) (instructions body-code.codes) body-phases.said body-code.said)));
  }

  total-declared : total (ltb 0 version) text body_names no_draft (readings_from number place (body_lines p)) ≡ total (ltb 0 version) text body_names (declared_draft p) (readings_from phases_number phases_place (from_phases p))
  total-declared =
      let v = ltb 0 version in
      let none : IsWithin v no_draft = record { code = omega arith; words = omega arith; regions = omega arith; locks = omega arith; phases = omega arith; tasks = omega arith } in
      let d1 : Draft = with_regions no_draft p.regions (length p.memory) (0 + length p.regions) in
      let w1 : IsWithin v d1 = record { code = omega arith; words = h.most; regions = room; locks = omega arith; phases = omega arith; tasks = omega arith } in
      let d2 : Draft = add_values d1 body_values in
      let w2 : IsWithin v d2 = record { code = omega arith; words = h.most; regions = room; locks = omega arith; phases = omega arith; tasks = omega arith } in
      ap (total v text body_names no_draft) read-regions
      ∙ total-regions v text body_names no_draft number body-regions.tokens p.regions (readings_from values_number values_place (from_values p)) (length p.memory) body-regions.named h.tiled h.most refl (omega (arith, room)) known-regions none
      ∙ ap (λ (d : Draft). total v text body_names d (readings_from values_number values_place (from_values p))) (regions-added no_draft p.regions (length p.memory) h.tiled)
      ∙ ap (total v text body_names d1) read-values
      ∙ body-values.adds d1 values_number (readings_from locks_number locks_place (from_locks p)) w1
      ∙ ap (total v text body_names d2) read-locks
      ∙ total-locks v text body_names d2 locks_number body-locks.tokens p.locks (readings_from phases_number phases_place (from_phases p)) body-locks.named refl (omega (arith, h.locks)) known-locks w2
      ∙ ap (λ (d : Draft). total v text body_names d (readings_from phases_number phases_place (from_phases p))) (locks-added d2 p.locks)

  -- all lines add up to the last draft
  pub total-body : total (ltb 0 version) text body_names no_draft (readings_from number place (body_lines p)) ≡ Ok (add_words (phased_draft p) p.code)
  total-body =
      let v = ltb 0 version in
      let d3 : Draft = declared_draft p in
      let d4 : Draft = phased_draft p in
      let w3 : IsWithin v d3 = record { code = omega arith; words = h.most; regions = room; locks = h.locks; phases = omega arith; tasks = omega arith } in
      let at3 : IsAt v d3 0 (task_count p.phases) = record { within = w3; at = refl; fresh = λ q c l. refl; few = omega (arith, h.tasks) } in
      let w4 : IsWithin v d4 = phases-within v p.regions (length p.locks) d3 p.phases 0 (omega (arith, h.phases)) at3 in
      let rest = phases-leave p.regions (length p.locks) d3 p.phases in
      let code : d4.code ≡ [] = ap (λ (x : Draft). x.code) rest in
      let long : length d4.code ≡ 0 = ap length code in
      let count : d4.count.code ≡ 0 = ap (λ (x : Draft). x.count.code) rest in
      let size-fits = h.code in
      total-declared
      ∙ ap (total v text body_names d3) read-phases
      ∙ body-phases.adds d3 phases_number (readings_from code_number code_place (code_part p)) at3
      ∙ ap (total v text body_names d4) read-code
      ∙ total-code v text body_names d4 code_number body-code.codes p.code body-code.gives (omega arith) (omega arith) (within-others v d4 w4)
