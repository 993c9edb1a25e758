-- The lines of phases, tasks and their effects give them.
use Rattle.std.proofs.Common.{◌≡◌, ℕ, ◌+◌, ◌-◌, ◌%◌, ◌^◌, ◌<◌, ◌≤◌, min, Bool, true, false, not, cond, eqb, ◌||◌, List, [], ◌∷◌, ◌++◌, Option, Some, None, is_none, refl, ap, ◌∙◌, arith}
use Rattle.std.specs.Prelude.{pos, int_le, int_lt}
use Rattle.std.proofs.lemmas.Int.{ints}
use Rattle.region_table.specs.declared.declared.Region.{Region}
use Rattle.rv_assembler.specs.declared.fault.SourceFault as fault
use Rattle.rv_assembler.specs.declared.parsing.Reading.{Reading}
use Rattle.rv_assembler.specs.declared.names.Meaning.{Meaning}
use Rattle.rv_assembler.specs.declared.draft.Draft.{Draft}
use Rattle.rv_assembler.specs.declared.draft.Claim.{Claim}
use Rattle.rv_assembler.specs.declared.draft.Usage.{Usage}
use Rattle.rv_assembler.specs.declared.statement.Effect.{Effect}
use Rattle.rv_assembler.specs.declared.draft.Cores.{Cores}
use Rattle.rv_assembler.specs.declared.statement.Statement as in_statement
use Rattle.rv_assembler.specs.declared.statement.Extent as in_extent
use Rattle.rv_assembler.specs.declared.names.Meaning as in_meaning
use Rattle.rv_assembler.specs.Number.{wrapped, is_interval}
use Rattle.rv_assembler.specs.Gathering.{more}
use Rattle.rv_assembler.specs.Operand.{bytes_of}
use Rattle.rv_assembler.specs.Named.{no_cores, region_span, usage_of}
use Rattle.rv_assembler.specs.Drafting.{claims_for}
use Rattle.rv_assembler.specs.Adding.{draft_after, total}
use Rattle.rv_assembler.specs.Fault.{lock_lost, extent_far, over_limit}
use Rattle.rv_assembler.specs.Testing.{draft_fault}
use Rattle.rv_listing.proofs.MoreLines.{total-more}
use Rattle.rv_listing.proofs.CodeLemmas.{wrapped-pos}
use Rattle.rv_listing.proofs.ReadLemmas.{sayings}
use Rattle.rv_listing.proofs.RegionSection.{IsWithin, within-limits}

abbrev pub add_phase : Draft → Draft
add_phase d = record d { phases = d.phases + 1; family = no_cores }

abbrev pub claim_in : Draft → Usage → ℕ → ℕ → Claim
claim_in d u lo hi = record { phase = d.phases; core = d.family.first; usage = u; lo = lo; hi = hi }

abbrev pub add_claim : Draft → Usage → ℕ → ℕ → Draft
add_claim d u lo hi = record d { claims = d.claims ++ claim_in d u lo hi ∷ [] }

interval-true : (lo hi len : ℕ) → lo < hi → hi ≤ len → is_interval (pos lo) (pos hi) (pos len) ≡ true
interval-true lo hi len l m =
    let a : int_le (pos 0) (pos lo) ≡ true = grind (arith, ints) in
    let b : int_lt (pos lo) (pos hi) ≡ true = grind (arith, ints) in
    let c : int_le (pos hi) (pos len) ≡ true = grind (arith, ints) in
    rw (a, b, c) refl

module _ (v : Bool) (text : List ℕ) (names : List ℕ → Option Meaning) (d : Draft) where
  -- one phase more
  pub total-phase : (n : ℕ) (rs : List Reading) → d.phases ≤ 64 → IsWithin v (add_phase d) → total v text names d (sayings n (in_statement.TheVariants.Phase ∷ []) ++ rs) ≡ total v text names (add_phase d) rs
  total-phase n rs few w =
      let count : more d.phases 1 ≡ d.phases + 1 = (let s : min (d.phases + 1) (2 ^ 32 - 1) ≡ d.phases + 1 = omega arith in s) in
      let a : draft_after text names d in_statement.TheVariants.Phase ≡ add_phase d = ap (λ (x : ℕ). record d { phases = x; family = no_cores }) count in
      total-more v text names d (record { line = n; label = None; statement = in_statement.TheVariants.Phase }) rs refl (ap (over_limit v) a ∙ within-limits v (add_phase d) w)
      ∙ ap (λ (x : Draft). total v text names x rs) a

  module _ (e : Effect) (r : Region) (k lo hi : ℕ) (u : Usage) (found : names (bytes_of text e.region) ≡ Some (in_meaning.TheVariants.Region k r.start (pos r.len))) (extent : e.extent ≡ in_extent.TheVariants.Part (pos lo) (pos hi))
      (usage : usage_of text names e ≡ Some u) (lock : lock_lost text names e.lock ≡ false) (some : lo < hi) (within : hi ≤ r.len) (ends : r.start + r.len ≤ 65536) (one : d.family.count ≡ 1) where
    use-fault : (n : ℕ) → draft_fault text names d (record { line = n; label = None; statement = in_statement.TheVariants.Uses e }) ≡ None
    use-fault n =
        ap (λ (o : Option Meaning). cond (extent_far (region_span o) e.extent d.family.count) (Some (fault.TheVariants.OutOfRange n)) (cond (is_none (region_span o) || lock_lost text names e.lock) (Some (fault.TheVariants.UnknownName n)) (cond (eqb d.family.count 0) (Some (fault.TheVariants.Misplaced n)) None))) found
        ∙ ap (λ x. cond (extent_far (Some (record { start = r.start; len = pos r.len })) x d.family.count) (Some (fault.TheVariants.OutOfRange n)) (cond (lock_lost text names e.lock) (Some (fault.TheVariants.UnknownName n)) (cond (eqb d.family.count 0) (Some (fault.TheVariants.Misplaced n)) None))) extent
        ∙ ap (λ (b : Bool). cond (not b) (Some (fault.TheVariants.OutOfRange n)) (cond (lock_lost text names e.lock) (Some (fault.TheVariants.UnknownName n)) (cond (eqb d.family.count 0) (Some (fault.TheVariants.Misplaced n)) None))) (interval-true lo hi r.len some within)
        ∙ ap (λ (b : Bool). cond b (Some (fault.TheVariants.UnknownName n)) (cond (eqb d.family.count 0) (Some (fault.TheVariants.Misplaced n)) None)) lock
        ∙ ap (λ (c : ℕ). cond (eqb c 0) (Some (fault.TheVariants.Misplaced n)) None) one

    at-place : (i : ℕ) → i ≤ r.len → (r.start + wrapped (pos i)) % 2 ^ 32 ≡ r.start + i
    at-place i l =
        let w : wrapped (pos i) ≡ i = wrapped-pos i (omega arith) in
        ap (λ (y : ℕ). (r.start + y) % 2 ^ 32) w ∙ (let s : (r.start + i) % 2 ^ 32 ≡ r.start + i = omega arith in s)

    after-use : draft_after text names d (in_statement.TheVariants.Uses e) ≡ add_claim d u (r.start + lo) (r.start + hi)
    after-use =
        ap (λ (o : Option Meaning). record d { claims = d.claims ++ claims_for d.phases d.family (region_span o) (usage_of text names e) e.extent }) found
        ∙ ap (λ (o : Option Usage). record d { claims = d.claims ++ claims_for d.phases d.family (Some (record { start = r.start; len = pos r.len })) o e.extent }) usage
        ∙ ap (λ x. record d { claims = d.claims ++ claims_for d.phases d.family (Some (record { start = r.start; len = pos r.len })) (Some u) x }) extent
        ∙ ap (λ (c : ℕ). record d { claims = d.claims ++ claims_for d.phases (let f : Cores = record { first = d.family.first; count = c } in f) (Some (record { start = r.start; len = pos r.len })) (Some u) (in_extent.TheVariants.Part (pos lo) (pos hi)) }) one
        ∙ ap (λ (y : ℕ). record d { claims = d.claims ++ claim_in d u y ((r.start + wrapped (pos hi)) % 2 ^ 32) ∷ [] }) (at-place lo (omega arith))
        ∙ ap (λ (y : ℕ). record d { claims = d.claims ++ claim_in d u (r.start + lo) y ∷ [] }) (at-place hi within)

    -- one effect more
    pub total-use : (n : ℕ) (rs : List Reading) → IsWithin v d → total v text names d (sayings n (in_statement.TheVariants.Uses e ∷ []) ++ rs) ≡ total v text names (add_claim d u (r.start + lo) (r.start + hi)) rs
    total-use n rs w =
        let a = after-use in
        let next : IsWithin v (add_claim d u (r.start + lo) (r.start + hi)) = record { code = w.code; words = w.words; regions = w.regions; locks = w.locks; phases = w.phases; tasks = w.tasks } in
        total-more v text names d (record { line = n; label = None; statement = in_statement.TheVariants.Uses e }) rs (use-fault n) (ap (over_limit v) a ∙ within-limits v (add_claim d u (r.start + lo) (r.start + hi)) next)
        ∙ ap (λ (y : Draft). total v text names y rs) a
