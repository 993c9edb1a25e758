-- The claims of a task give its effects.
use Rattle.std.proofs.Common.{◌≡◌, ℕ, Bool, true, false, cond, ltb, leb, ◌&&◌, List, [], ◌∷◌, ◌++◌, map, Option, Some, None, refl, ap, ◌∙◌}
use Rattle.std.specs.List.{All, filter_map, cons_option}
use Rattle.std.proofs.lemmas.Bool.{lt-ltb, le-leb}
use Rattle.std.proofs.lemmas.List.Elements.{All-head, All-tail}
use Rattle.region_table.specs.declared.interval.Interval.{Interval}
use Rattle.region_table.specs.declared.declared.Region.{Region}
use Rattle.region_table.specs.Words.{IsCanonical}
use Rattle.region_table.specs.Program.{AreTiled, LiesIn}
use Rattle.rv_assembler.specs.declared.draft.Usage.{Usage}
use Rattle.rv_assembler.specs.declared.draft.Claim.{Claim}
use Rattle.rv_assembler.specs.Union.{united}
use Rattle.rv_assembler.specs.Program.{same_usage}
use Rattle.rv_assembler.specs.Finishing.{interval_within, words_within}
use Rattle.rv_assembler.proofs.UnionLemmas.{IsSome}
use Rattle.rv_listing.proofs.CutSetLemmas.{cut_set, set-some, cut-united}

-- claims of one usage
abbrev pub claim_with : ℕ → ℕ → Usage → Interval → Claim
claim_with p core u i = record { phase = p; core = core; usage = u; lo = i.lo; hi = i.hi }

abbrev pub claims_with : ℕ → ℕ → Usage → List Interval → List Claim
claims_with p core u is = map (claim_with p core u) is

kept-by : {Y : Type 0} (o : Option Y) (all a b : List Y) → all ≡ a ++ b → cons_option o all ≡ cons_option o a ++ b
kept-by None all a b e = e
kept-by (Some y) all a b e = ap (λ l. y ∷ l) e

pub kept-append : {X Y : Type 0} (f : X → Option Y) (xs ys : List X) → filter_map f (xs ++ ys) ≡ filter_map f xs ++ filter_map f ys
kept-append f [] ys = refl
kept-append f (x ∷ xs) ys = kept-by (f x) (filter_map f (xs ++ ys)) (filter_map f xs) (filter_map f ys) (kept-append f xs ys)

module _ (words p core : ℕ) where
  -- claims of the usage give their words
  pub own-claims : (u : Usage) (is : List Interval) → same_usage u u ≡ true → All (IsSome words) is → filter_map (interval_within words u) (claims_with p core u is) ≡ is
  own-claims u [] s a = refl
  own-claims u (i ∷ is) s a =
      let h : IsSome words i = All-head (IsSome words) i is a in
      ap (λ (b : Bool). cons_option (cond (b && (ltb i.lo i.hi && leb i.hi words)) (Some (let q : Interval = record { lo = i.lo; hi = i.hi } in q)) None) (filter_map (interval_within words u) (claims_with p core u is))) s
      ∙ ap (λ (b : Bool). cons_option (cond (b && leb i.hi words) (Some (let q : Interval = record { lo = i.lo; hi = i.hi } in q)) None) (filter_map (interval_within words u) (claims_with p core u is))) (lt-ltb i.lo i.hi h.0)
      ∙ ap (λ (b : Bool). cons_option (cond b (Some (let q : Interval = record { lo = i.lo; hi = i.hi } in q)) None) (filter_map (interval_within words u) (claims_with p core u is))) (le-leb i.hi words h.1)
      ∙ ap (λ (l : List Interval). i ∷ l) (own-claims u is s (All-tail (IsSome words) i is a))

  -- and claims of another usage none
  pub other-claims : (u w : Usage) (is : List Interval) → same_usage u w ≡ false → filter_map (interval_within words w) (claims_with p core u is) ≡ []
  other-claims u w [] s = refl
  other-claims u w (i ∷ is) s =
      ap (λ (b : Bool). cons_option (cond (b && (ltb i.lo i.hi && leb i.hi words)) (Some (let q : Interval = record { lo = i.lo; hi = i.hi } in q)) None) (filter_map (interval_within words w) (claims_with p core u is))) s
      ∙ other-claims u w is s

-- the words of a set that is claimed part by part are the set
pub claimed-set : (rs : List Region) (words p core : ℕ) (u : Usage) (set : List Interval) → same_usage u u ≡ true → AreTiled 0 rs words → LiesIn words set → IsCanonical set → words_within words (claims_with p core u (cut_set rs set)) u ≡ set
claimed-set rs words p core u set s t h c = ap united (own-claims words p core u (cut_set rs set) s (set-some rs words set t)) ∙ cut-united rs words set t h c
