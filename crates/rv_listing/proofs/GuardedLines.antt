-- The lines of all effects of a task.
use Rattle.std.proofs.Common.{◌≡◌, ℕ, ◌+◌, ◌≤◌, Bool, true, false, List, [], ◌∷◌, ◌++◌, length, Option, Some, None, sym, ap, append_assoc, append-nil, codes}
use Rattle.region_table.specs.declared.declared.Region.{Region}
use Rattle.region_table.specs.declared.declared.Effects.{Effects}
use Rattle.region_table.specs.Program.{AreTiled}
use Rattle.rv_assembler.specs.declared.names.Meaning.{Meaning}
use Rattle.rv_assembler.specs.declared.draft.Draft.{Draft}
use Rattle.rv_assembler.specs.declared.draft.Claim.{Claim}
use Rattle.rv_assembler.specs.declared.draft.Usage as in_usage
use Rattle.rv_listing.specs.Listing.{text_of, set_lines, all_guarded_lines, effect_lines}
use Rattle.rv_listing.specs.Law.{is_declared_name}
use Rattle.rv_listing.proofs.KindLemmas.{reads-kind, writes-kind, guarded_reads-kind, guarded_writes-kind}
use Rattle.rv_listing.proofs.CodeSection.{AreShort}
use Rattle.rv_listing.proofs.CutSetLemmas.{cut_set}
use Rattle.rv_listing.proofs.DeclarationLemmas.{KnowRegions, KnowLocks}
use Rattle.rv_listing.proofs.EffectLemmas.{claims_with}
use Rattle.rv_listing.proofs.TaskEffects.{set_at, guarded_claims, task_claims}
use Rattle.rv_listing.proofs.SetLines.{IsUsing, AreNamed}
use Rattle.rv_listing.proofs.EffectLines.{plain-gives, guarded-gives, short-left, short-right, front-text, back-text, back-place, set-adds}
use Rattle.rv_listing.proofs.AddsLemmas.{Adds, size, adds-none, adds-join, adds-as}

-- a draft with more claims of the current task
abbrev pub more_claims : Draft → (ℕ → ℕ → List Claim) → Draft
more_claims d f = record d { claims = d.claims ++ f d.phases d.family.first }

abbrev pub LocksDeclared : List (List ℕ) → Type 0
LocksDeclared [] = Unit {0}
LocksDeclared (l ∷ ls) = (is_declared_name l ≡ true) × LocksDeclared ls

using-more : (v : Bool) (d : Draft) (f : ℕ → ℕ → List Claim) → IsUsing v d → IsUsing v (more_claims d f)
using-more v d f h =
    let w = h.within in
    record { within = record { code = w.code; words = w.words; regions = w.regions; locks = w.locks; phases = w.phases; tasks = w.tasks }; one = h.one }

module _ (v : Bool) (text : List ℕ) (names : List ℕ → Option Meaning) where
  abbrev pub Claims : ℕ → List (List ℕ) → (ℕ → ℕ → List Claim) → Type 0
  Claims place lines f = Adds v text names place lines (IsUsing v) (λ d. more_claims d f)

  pub claims-none : (place : ℕ) → Claims place [] (λ p c. [])
  claims-none place =
      adds-as v text names place [] (IsUsing v) (IsUsing v) (λ d. d) (λ d. more_claims d (λ p c. [])) (adds-none v text names place (IsUsing v)) (λ d h. h)
      (λ d. ap (λ (l : List Claim). record d { claims = l }) (sym (append-nil d.claims)))

  pub claims-join : (place : ℕ) (a b : List (List ℕ)) (f g : ℕ → ℕ → List Claim) → Claims place a f → Claims (place + size a) b g → Claims place (a ++ b) (λ p c. f p c ++ g p c)
  claims-join place a b f g x y =
      adds-as v text names place (a ++ b) (λ d. IsUsing v d × IsUsing v (more_claims d f)) (IsUsing v) (λ d. more_claims (more_claims d f) g) (λ d. more_claims d (λ p c. f p c ++ g p c))
      (adds-join v text names place a b (IsUsing v) (IsUsing v) (λ d. more_claims d f) (λ d. more_claims d g) x y)
      (λ d h. (h, using-more v d f h))
      (λ d. ap (λ (l : List Claim). record d { claims = l }) (append_assoc d.claims (f d.phases d.family.first) (g d.phases d.family.first)))

  pub claims-group : (place : ℕ) (lines : List (List ℕ)) (f g h : ℕ → ℕ → List Claim) → Claims place lines (λ p c. (f p c ++ g p c) ++ h p c) → Claims place lines (λ p c. f p c ++ (g p c ++ h p c))
  claims-group place lines f g h x =
      adds-as v text names place lines (IsUsing v) (IsUsing v) (λ d. more_claims d (λ p c. (f p c ++ g p c) ++ h p c)) (λ d. more_claims d (λ p c. f p c ++ (g p c ++ h p c))) x (λ d k. k)
      (λ d. ap (λ (l : List Claim). record d { claims = d.claims ++ l }) (append_assoc (f d.phases d.family.first) (g d.phases d.family.first) (h d.phases d.family.first)))

  module _ (rs : List Region) (end : ℕ) (tiled : AreTiled 0 rs end) (most : end ≤ 65536) (named : AreNamed rs) (known : KnowRegions names 0 rs) (e : Effects) where
    pub guarded-adds : (ls : List (List ℕ)) (k : ℕ) (before rest : List ℕ) (place : ℕ) → LocksDeclared ls → KnowLocks names k ls → place ≡ length before → text ≡ before ++ (text_of (all_guarded_lines rs e k ls) ++ rest) → AreShort (all_guarded_lines rs e k ls)
        → Claims place (all_guarded_lines rs e k ls) (λ p c. guarded_claims rs p c e k (length ls))
    guarded-adds [] k before rest place dl kl s q short = claims-none place
    guarded-adds (l ∷ ls) k before rest place dl kl s q short =
        let a = set_lines (codes ".greads") (Some l) rs (set_at e.guarded_reads k) in
        let b = set_lines (codes ".gwrites") (Some l) rs (set_at e.guarded_writes k) in
        let c = all_guarded_lines rs e (k + 1) ls in
        let ab-text = front-text text before (a ++ b) c rest q in
        let ab-short = short-left (a ++ b) c short in
        let x = set-adds v text names (codes ".greads") (Some l) (in_usage.TheVariants.GuardedReads k) (guarded-gives text names (codes ".greads") false l k guarded_reads-kind dl.0 kl.0) rs end tiled most named known (set_at e.guarded_reads k) before (text_of b ++ (text_of c ++ rest)) place s (front-text text before a b (text_of c ++ rest) ab-text) (short-left a b ab-short) in
        let y = set-adds v text names (codes ".gwrites") (Some l) (in_usage.TheVariants.GuardedWrites k) (guarded-gives text names (codes ".gwrites") true l k guarded_writes-kind dl.0 kl.0) rs end tiled most named known (set_at e.guarded_writes k) (before ++ text_of a) (text_of c ++ rest) (place + size a) (back-place before a place s) (back-text text before a b (text_of c ++ rest) ab-text) (short-right a b ab-short) in
        let z = guarded-adds ls (k + 1) (before ++ text_of (a ++ b)) rest (place + size (a ++ b)) dl.1 kl.1 (back-place before (a ++ b) place s) (back-text text before (a ++ b) c rest q) (short-right (a ++ b) c short) in
        claims-group place ((a ++ b) ++ c) (λ p o. claims_with p o (in_usage.TheVariants.GuardedReads k) (cut_set rs (set_at e.guarded_reads k))) (λ p o. claims_with p o (in_usage.TheVariants.GuardedWrites k) (cut_set rs (set_at e.guarded_writes k))) (λ p o. guarded_claims rs p o e (k + 1) (length ls))
        (claims-join place (a ++ b) c (λ p o. claims_with p o (in_usage.TheVariants.GuardedReads k) (cut_set rs (set_at e.guarded_reads k)) ++ claims_with p o (in_usage.TheVariants.GuardedWrites k) (cut_set rs (set_at e.guarded_writes k))) (λ p o. guarded_claims rs p o e (k + 1) (length ls))
        (claims-join place a b (λ p o. claims_with p o (in_usage.TheVariants.GuardedReads k) (cut_set rs (set_at e.guarded_reads k))) (λ p o. claims_with p o (in_usage.TheVariants.GuardedWrites k) (cut_set rs (set_at e.guarded_writes k))) x y) z)

    -- the lines of all effects of a task
    pub effects-add : (ls : List (List ℕ)) (before rest : List ℕ) (place : ℕ) → LocksDeclared ls → KnowLocks names 0 ls → place ≡ length before → text ≡ before ++ (text_of (effect_lines rs ls e) ++ rest) → AreShort (effect_lines rs ls e)
        → Claims place (effect_lines rs ls e) (λ p c. task_claims rs p c e (length ls))
    effects-add ls before rest place dl kl s q short =
        let a = set_lines (codes ".reads") None rs e.reads in
        let b = set_lines (codes ".writes") None rs e.writes in
        let c = all_guarded_lines rs e 0 ls in
        let x = set-adds v text names (codes ".reads") None in_usage.TheVariants.Reads (plain-gives text names (codes ".reads") false reads-kind) rs end tiled most named known e.reads before (text_of (b ++ c) ++ rest) place s (front-text text before a (b ++ c) rest q) (short-left a (b ++ c) short) in
        let back = back-text text before a (b ++ c) rest q in
        let back-short = short-right a (b ++ c) short in
        let y = set-adds v text names (codes ".writes") None in_usage.TheVariants.Writes (plain-gives text names (codes ".writes") true writes-kind) rs end tiled most named known e.writes (before ++ text_of a) (text_of c ++ rest) (place + size a) (back-place before a place s) (front-text text (before ++ text_of a) b c rest back) (short-left b c back-short) in
        let z = guarded-adds ls 0 ((before ++ text_of a) ++ text_of b) rest (place + size a + size b) dl kl (back-place (before ++ text_of a) b (place + size a) (back-place before a place s)) (back-text text (before ++ text_of a) b c rest back) (short-right b c back-short) in
        claims-join place a (b ++ c) (λ p o. claims_with p o in_usage.TheVariants.Reads (cut_set rs e.reads)) (λ p o. claims_with p o in_usage.TheVariants.Writes (cut_set rs e.writes) ++ guarded_claims rs p o e 0 (length ls)) x
        (claims-join (place + size a) b c (λ p o. claims_with p o in_usage.TheVariants.Writes (cut_set rs e.writes)) (λ p o. guarded_claims rs p o e 0 (length ls)) y z)
