-- What the definition says of task i of a family is what the assembler makes from task to task.
use Rattle.std.proofs.Common.{◌≡◌, ℕ, zero, suc, ◌+◌, ◌*◌, ◌%◌, ◌^◌, ◌≤◌, Bool, true, ◌&&◌, ℤ, pos, ◌+ℤ◌, List, [], ◌∷◌, map, refl, ap, ◌∙◌, arith}
use Rattle.std.proofs.lemmas.Int.{ints}
use Rattle.std.specs.Prelude.{◌*ℤ◌, Some}
use Rattle.std.specs.List.{list_all, range_with_len}
use lib.IntN.{suc_ℤ, suc_ℤ-*ℤ}
use Rattle.rv_assembler.specs.declared.statement.Extent.{Extent}
use Rattle.rv_assembler.specs.declared.draft.Start.{Start}
use Rattle.rv_assembler.specs.declared.draft.Usage.{Usage}
use Rattle.rv_assembler.specs.declared.draft.Claim.{Claim}
use Rattle.rv_assembler.specs.declared.draft.Cores.{Cores}
use Rattle.rv_assembler.specs.declared.draft.Span.{Span}
use Rattle.rv_assembler.specs.Number.{natural_of, is_interval}
use Rattle.rv_assembler.specs.Gathering.{more}
use Rattle.rv_assembler.specs.Drafting.{members}
use Rattle.rv_assembler.specs.Rows.{start_at, starts, from_index, to_index, moved_by, use_at, uses_of}
use Rattle.rv_assembler.specs.Fault.{fits_at, stepped_fits}

-- a number moved on i times by a step
abbrev moved : ℤ → ℤ → ℕ → ℤ
moved z step i = z +ℤ pos i *ℤ step

at-first : (z step : ℤ) → moved z step 0 ≡ z
at-first z step = omega (arith, ints)

at-next : (z step : ℤ) (i : ℕ) → moved z step (i + 1) ≡ moved z step i +ℤ step
at-next z step i =
    let once : suc_ℤ (pos i) *ℤ step ≡ pos i *ℤ step +ℤ step = suc_ℤ-*ℤ (pos i) step in
    let next : pos (i + 1) ≡ suc_ℤ (pos i) = ap pos (omega arith) in
    ap (λ (k : ℤ). z +ℤ k *ℤ step) next ∙ ap (λ (k : ℤ). z +ℤ k) once ∙ omega (arith, ints)

-- ---- the intervals of a family's tasks are within a region

abbrev pub fits_from : ℤ → ℤ → ℤ → ℤ → ℕ → Bool
fits_from len step lo hi zero = true
fits_from len step lo hi (suc n) = is_interval lo hi len && fits_from len step (lo +ℤ step) (hi +ℤ step) n

fits-on : (len step lo hi : ℤ) (n k : ℕ) → list_all (fits_at len step lo hi) (range_with_len k n) ≡ fits_from len step (moved lo step k) (moved hi step k) n
fits-on len step lo hi zero k = refl
fits-on len step lo hi (suc n) k =
    ap (λ (b : Bool). is_interval (moved lo step k) (moved hi step k) len && b)
    (fits-on len step lo hi n (k + 1) ∙ (λ i. fits_from len step (at-next lo step k i) (at-next hi step k i) n))

pub fits-index : (len step lo hi : ℤ) (n : ℕ) → stepped_fits len step lo hi n ≡ fits_from len step lo hi n
fits-index len step lo hi n = fits-on len step lo hi n 0 ∙ (λ i. fits_from len step (at-first lo step i) (at-first hi step i) n)

-- ---- the words that a family's tasks use

abbrev pub uses_from : ℕ → ℕ → Usage → ℕ → ℤ → ℤ → ℤ → ℕ → List Claim
uses_from phase core usage start lo hi step zero = []
uses_from phase core usage start lo hi step (suc n) =
    record { phase = phase; core = core; usage = usage; lo = start + natural_of lo; hi = start + natural_of hi }
    ∷ uses_from phase (core + 1) usage start (lo +ℤ step) (hi +ℤ step) step n

module _ (phase : ℕ) (family : Cores) (u : Usage) (p : Span) (e : Extent) where
  abbrev low_at : ℕ → ℤ
  low_at k = moved (from_index e) (moved_by e) k

  abbrev high_at : ℕ → ℤ
  high_at k = moved (to_index p.len e) (moved_by e) k

  uses-on : (n k : ℕ) → map (use_at phase family u p e) (range_with_len k n) ≡ uses_from phase (family.first + k) u p.start (low_at k) (high_at k) (moved_by e) n
  uses-on zero k = refl
  uses-on (suc n) k =
      let core : family.first + (k + 1) ≡ family.first + k + 1 = omega arith in
      ap (λ (cs : List Claim). use_at phase family u p e k ∷ cs)
      (uses-on n (k + 1) ∙ (λ i. uses_from phase (core i) u p.start (at-next (from_index e) (moved_by e) k i) (at-next (to_index p.len e) (moved_by e) k i) (moved_by e) n))

  pub uses-index : uses_of phase family (Some p) (Some u) e ≡ uses_from phase family.first u p.start (from_index e) (to_index p.len e) (moved_by e) family.count
  uses-index =
      let core : family.first + 0 ≡ family.first = omega arith in
      uses-on family.count 0 ∙ (λ i. uses_from phase (core i) u p.start (at-first (from_index e) (moved_by e) i) (at-first (to_index p.len e) (moved_by e) i) (moved_by e) family.count)

-- ---- the tasks of a family

module _ (t : Start) (step : ℕ) where
  abbrev task_from : ℕ → ℕ → Start
  task_from core arg = record { phase = t.phase; core = core; entry = t.entry; arg = arg }

  starts-on : (n k : ℕ) → t.core + k + n ≤ 16 → map (start_at t step) (range_with_len k n) ≡ members (start_at t step k) step n
  starts-on zero k l = refl
  starts-on (suc n) k l =
      let core : t.core + (k + 1) ≡ more (t.core + k) 1 = omega arith in
      let arg : (t.arg + (k + 1) * step) % 2 ^ 32 ≡ ((t.arg + k * step) % 2 ^ 32 + step) % 2 ^ 32 = omega arith in
      ap (λ (ts : List Start). start_at t step k ∷ ts)
      (starts-on n (k + 1) (omega arith) ∙ (λ i. members (task_from (core i) (arg i)) step n))

  pub members-same : (n : ℕ) → t.core + n ≤ 16 → starts t step n ≡ members (task_from t.core (t.arg % 2 ^ 32)) step n
  members-same n l =
      let core : t.core + 0 ≡ t.core = omega arith in
      let arg : (t.arg + 0 * step) % 2 ^ 32 ≡ t.arg % 2 ^ 32 = omega arith in
      starts-on n 0 (omega arith) ∙ (λ i. members (task_from (core i) (arg i)) step n)
