-- The lines of a set of words that a task uses.
use Rattle.std.proofs.Common.{◌≡◌, ℕ, ◌+◌, ◌-◌, ◌^◌, ◌<◌, ◌≤◌, min, max, Bool, true, false, cond, ltb, List, [], ◌∷◌, ◌++◌, length, map, Option, Some, None, refl, sym, ap, ◌∙◌, append_assoc, append-nil, arith}
use Rattle.std.specs.Prelude.{pos}
use Rattle.std.specs.List.{cons_option}
use Rattle.std.proofs.lemmas.Bool.{ltb-true}
use Rattle.region_table.specs.declared.interval.Interval.{Interval}
use Rattle.region_table.specs.declared.declared.Region.{Region}
use Rattle.region_table.specs.Program.{AreTiled}
use Rattle.rv_assembler.specs.declared.names.Meaning.{Meaning}
use Rattle.rv_assembler.specs.declared.draft.Draft.{Draft}
use Rattle.rv_assembler.specs.declared.draft.Usage.{Usage}
use Rattle.rv_assembler.specs.declared.draft.Claim.{Claim}
use Rattle.rv_assembler.specs.declared.statement.Effect.{Effect}
use Rattle.rv_assembler.specs.declared.statement.Extent as in_extent
use Rattle.rv_assembler.specs.declared.statement.Statement as in_statement
use Rattle.rv_assembler.specs.declared.names.Meaning as in_meaning
use Rattle.rv_assembler.specs.Operand.{bytes_of}
use Rattle.rv_assembler.specs.Named.{usage_of}
use Rattle.rv_assembler.specs.Fault.{lock_lost}
use Rattle.rv_listing.specs.Listing.{text_of, use_line, interval_lines}
use Rattle.rv_listing.specs.Law.{is_declared_name}
use Rattle.rv_listing.proofs.TokenLemmas.{IsGoodLine}
use Rattle.rv_listing.proofs.KindLemmas.{IsSaid}
use Rattle.rv_listing.proofs.ReadLemmas.{tokens_at}
use Rattle.rv_listing.proofs.CodeSection.{AreShort}
use Rattle.rv_listing.proofs.RegionSection.{IsWithin}
use Rattle.rv_listing.proofs.UseSection.{claim_in, add_claim, total-use}
use Rattle.rv_listing.proofs.CutSetLemmas.{cut_parts}
use Rattle.rv_listing.proofs.DeclarationLemmas.{KnowRegions}
use Rattle.rv_listing.proofs.ValueLines.{behind-line, behind-lines, behind-size}
use Rattle.rv_listing.proofs.AddsLemmas.{Adds, size, adds-none, adds-join, adds-as, adds-one}

-- what a line of an effect is read as: words of the named region, with this usage
pub record SaysUse (text : List ℕ) (names : List ℕ → Option Meaning) (line : List ℕ) (place : ℕ) (n : List ℕ) (lo hi : ℕ) (u : Usage) : Type 0 where
  pub effect : Effect
  pub said : IsSaid text (tokens_at place line) (in_statement.TheVariants.Uses effect)
  pub region : bytes_of text effect.region ≡ n
  pub extent : effect.extent ≡ in_extent.TheVariants.Part (pos lo) (pos hi)
  pub usage : usage_of text names effect ≡ Some u
  pub lock : lock_lost text names effect.lock ≡ false

-- a word and a lock that give a usage, wherever the line stands
pub record GivesUse (text : List ℕ) (names : List ℕ → Option Meaning) (w : List ℕ) (lock : Option (List ℕ)) (u : Usage) : Type 0 where
  pub good : (n : List ℕ) (lo hi : ℕ) → is_declared_name n ≡ true → lo < 2 ^ 32 → hi < 2 ^ 32 → IsGoodLine (use_line w lock n lo hi)
  pub says : (before rest : List ℕ) (place : ℕ) (n : List ℕ) (lo hi : ℕ) → place ≡ length before → is_declared_name n ≡ true → lo < 2 ^ 32 → hi < 2 ^ 32 → text ≡ before ++ (use_line w lock n lo hi ++ rest) → SaysUse text names (use_line w lock n lo hi) place n lo hi u

abbrev pub drafted : Draft → Usage → Interval → Claim
drafted d u i = claim_in d u i.lo i.hi

abbrev pub add_claims : Draft → Usage → List Interval → Draft
add_claims d u is = record d { claims = d.claims ++ map (drafted d u) is }

pub record IsUsing (v : Bool) (d : Draft) : Type 0 where
  pub within : IsWithin v d
  pub one : d.family.count ≡ 1

pub using-claims : (v : Bool) (d : Draft) (u : Usage) (is : List Interval) → IsUsing v d → IsUsing v (add_claims d u is)
using-claims v d u is h =
    let w = h.within in
    record { within = record { code = w.code; words = w.words; regions = w.regions; locks = w.locks; phases = w.phases; tasks = w.tasks }; one = h.one }

abbrev pub AreNamed : List Region → Type 0
AreNamed [] = Unit {0}
AreNamed (r ∷ rs) = (is_declared_name r.name ≡ true) × AreNamed rs

tiled-last : (a : ℕ) (xs : List Region) (b : ℕ) → AreTiled a xs b → a ≤ b
tiled-last a [] b t = omega arith
tiled-last a (x ∷ xs) b t = let e = tiled-last (x.start + x.len) xs b t.2 in omega arith

module _ (v : Bool) (text : List ℕ) (names : List ℕ → Option Meaning) (w : List ℕ) (lock : Option (List ℕ)) (u : Usage) (gives : GivesUse text names w lock u) (i : Interval) where
  abbrev Uses : ℕ → List (List ℕ) → List Interval → Type 0
  Uses place lines is = Adds v text names place lines (IsUsing v) (λ d. add_claims d u is)

  nothing : (place : ℕ) → Uses place [] []
  nothing place =
      adds-as v text names place [] (IsUsing v) (IsUsing v) (λ d. d) (λ d. add_claims d u []) (adds-none v text names place (IsUsing v)) (λ d h. h)
      (λ d. ap (λ (l : List Claim). record d { claims = l }) (sym (append-nil d.claims)))

  part-by : (b : Bool) (r : Region) (k : ℕ) (ls : List (List ℕ)) (is : List Interval) (before rest : List ℕ) (place : ℕ) → ltb (max i.lo r.start) (min i.hi (r.start + r.len)) ≡ b → place ≡ length before
      → is_declared_name r.name ≡ true → r.start + r.len ≤ 65536 → names r.name ≡ Some (in_meaning.TheVariants.Region k r.start (pos r.len))
      → text ≡ before ++ (text_of (cons_option (cond b (Some (use_line w lock r.name (max i.lo r.start - r.start) (min i.hi (r.start + r.len) - r.start))) None) ls) ++ rest)
      → AreShort (cons_option (cond b (Some (use_line w lock r.name (max i.lo r.start - r.start) (min i.hi (r.start + r.len) - r.start))) None) ls)
      → ((before' : List ℕ) (place' : ℕ) → place' ≡ length before' → text ≡ before' ++ (text_of ls ++ rest) → AreShort ls → Uses place' ls is)
      → Uses place (cons_option (cond b (Some (use_line w lock r.name (max i.lo r.start - r.start) (min i.hi (r.start + r.len) - r.start))) None) ls)
      (cons_option (cond b (Some (record { lo = max i.lo r.start; hi = min i.hi (r.start + r.len) })) None) is)
  part-by false r k ls is before rest place b s named ends known e short next = next before place s e short
  part-by true r k ls is before rest place b s named ends known e short next =
      let some : max i.lo r.start < min i.hi (r.start + r.len) = ltb-true (max i.lo r.start) (min i.hi (r.start + r.len)) b in
      let lo = max i.lo r.start - r.start in
      let hi = min i.hi (r.start + r.len) - r.start in
      let line = use_line w lock r.name lo hi in
      let said = gives.says before (10 ∷ (text_of ls ++ rest)) place r.name lo hi s named (omega arith) (omega arith) (behind-line text before line ls rest e) in
      let found : names (bytes_of text said.effect.region) ≡ Some (in_meaning.TheVariants.Region k r.start (pos r.len)) = ap names said.region ∙ known in
      let j : Interval = record { lo = max i.lo r.start; hi = min i.hi (r.start + r.len) } in
      let low : r.start + lo ≡ max i.lo r.start = omega arith in
      let high : r.start + hi ≡ min i.hi (r.start + r.len) = omega arith in
      let one = adds-one v text names place line (in_statement.TheVariants.Uses said.effect) (IsUsing v) (λ d. add_claim d u (r.start + lo) (r.start + hi)) (gives.good r.name lo hi named (omega arith) (omega arith)) short.0 said.said
      (λ d n left h. total-use v text names d said.effect r k lo hi u found said.extent said.usage said.lock (omega arith) (omega arith) ends h.one n left h.within) (λ c q n left. refl) in
      let first = adds-as v text names place (line ∷ []) (IsUsing v) (IsUsing v) (λ d. add_claim d u (r.start + lo) (r.start + hi)) (λ d. add_claims d u (j ∷ [])) one (λ d h. h)
      (λ d. ap (λ (x : ℕ). record d { claims = d.claims ++ claim_in d u x (r.start + hi) ∷ [] }) low ∙ ap (λ (x : ℕ). record d { claims = d.claims ++ claim_in d u j.lo x ∷ [] }) high) in
      adds-as v text names place (line ∷ ls) (λ d. IsUsing v d × IsUsing v (add_claims d u (j ∷ []))) (IsUsing v) (λ d. add_claims (add_claims d u (j ∷ [])) u is) (λ d. add_claims d u (j ∷ is))
      (adds-join v text names place (line ∷ []) ls (IsUsing v) (IsUsing v) (λ d. add_claims d u (j ∷ [])) (λ d. add_claims d u is) first
      (next (before ++ (line ++ 10 ∷ [])) (place + size (line ∷ [])) (behind-size before line place s) (behind-lines text before line ls rest e) short.1))
      (λ d h. (h, using-claims v d u (j ∷ []) h))
      (λ d. ap (λ (l : List Claim). record d { claims = l }) (append_assoc d.claims (drafted d u j ∷ []) (map (drafted d u) is)))

  -- the lines of an interval's parts
  pub interval-adds : (rs : List Region) (k from end : ℕ) (before rest : List ℕ) (place : ℕ) → place ≡ length before → AreTiled from rs end → end ≤ 65536 → AreNamed rs → KnowRegions names k rs
      → text ≡ before ++ (text_of (interval_lines w lock rs i) ++ rest) → AreShort (interval_lines w lock rs i) → Uses place (interval_lines w lock rs i) (cut_parts rs i)
  interval-adds [] k from end before rest place s t most named known e short = nothing place
  interval-adds (r ∷ rs) k from end before rest place s t most named known e short =
      let last = tiled-last (r.start + r.len) rs end t.2 in
      part-by (ltb (max i.lo r.start) (min i.hi (r.start + r.len))) r k (interval_lines w lock rs i) (cut_parts rs i) before rest place refl s named.0 (omega arith) known.0 e short
      (λ before' place' s' e' short'. interval-adds rs (k + 1) (r.start + r.len) end before' rest place' s' t.2 most named.1 known.1 e' short')
