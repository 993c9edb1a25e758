-- One turn of a loop that goes so many times.
use Rattle.std.proofs.Common.{◌≡◌, ℕ, zero, suc, ◌+◌, ◌-◌, ◌<◌, Bool, true, false, ◌&&◌, ℤ, ◌+ℤ◌, List, [], ◌∷◌, ◌++◌, map, Option, Some, None, refl, ap, sym, ◌∙◌, append_assoc, append-nil, arith}
use Rattle.std.specs.Option.{option_to_list}
use Rattle.std.specs.List.{range_with_len, cons_option}
use Rattle.rv_assembler.specs.declared.draft.Start.{Start}
use Rattle.rv_assembler.specs.declared.draft.Claim.{Claim}
use Rattle.rv_assembler.specs.Number.{is_interval}
use Rattle.rv_assembler.specs.Drafting.{next_task, members, next_claim, claimed}
use Rattle.rv_assembler.specs.Fault.{stepped_fits}
use Rattle.rv_assembler.proofs.IndexLemmas.{fits-index}

pub stepped_more : (len step lo hi : ℤ) (n : ℕ) → 0 < n → stepped_fits len step lo hi n ≡ (is_interval lo hi len && stepped_fits len step (lo +ℤ step) (hi +ℤ step) (n - 1))
stepped_more len step lo hi zero l = absurd (omega arith)
stepped_more len step lo hi (suc n) l =
    let e : suc n - 1 ≡ n = omega arith in
    fits-index len step lo hi (suc n)
    ∙ ap (λ (b : Bool). is_interval lo hi len && b) (sym (fits-index len step (lo +ℤ step) (hi +ℤ step) n) ∙ ap (stepped_fits len step (lo +ℤ step) (hi +ℤ step)) (sym e))

pub members_step : (done : List Start) (t : Start) (step n k : ℕ) (all : List Start) → n ≡ suc k → done ++ members t step n ≡ all → (done ++ t ∷ []) ++ members (next_task t step) step k ≡ all
members_step done t step n k all e h =
    let s : done ++ members t step (suc k) ≡ all = rw e at h in append_assoc done (t ∷ []) (members (next_task t step) step k) ∙ s

pub claimed_step : (done : List Claim) (c : Claim) (step n k : ℕ) (all : List Claim) → n ≡ suc k → done ++ claimed c step n ≡ all → (done ++ c ∷ []) ++ claimed (next_claim c step) step k ≡ all
claimed_step done c step n k all e h =
    let s : done ++ claimed c step (suc k) ≡ all = rw e at h in append_assoc done (c ∷ []) (claimed (next_claim c step) step k) ∙ s

pub stepped_join : (len step lo hi : ℤ) (n : ℕ) (inside rest : Bool) → 0 < n → inside ≡ is_interval lo hi len → inside ≡ true → rest ≡ stepped_fits len step (lo +ℤ step) (hi +ℤ step) (n - 1) → rest ≡ stepped_fits len step lo hi n
stepped_join len step lo hi n inside rest l e i r = let s : is_interval lo hi len ≡ true = sym e ∙ i in r ∙ sym (stepped_more len step lo hi n l ∙ rw s refl)

pub stepped_off : (len step lo hi : ℤ) (n : ℕ) (inside : Bool) → 0 < n → inside ≡ is_interval lo hi len → inside ≡ false → false ≡ stepped_fits len step lo hi n
stepped_off len step lo hi n inside l e i = let s : is_interval lo hi len ≡ false = sym e ∙ i in sym (stepped_more len step lo hi n l ∙ rw s refl)

pub map_step : {X : Type 0} (f : ℕ → X) (done : List X) (a n k : ℕ) (all : List X) → n ≡ suc k → done ++ map f (range_with_len a n) ≡ all → (done ++ f a ∷ []) ++ map f (range_with_len (a + 1) k) ≡ all
map_step f done a n k all e h =
    let s : done ++ map f (range_with_len a (suc k)) ≡ all = rw e at h in append_assoc done (f a ∷ []) (map f (range_with_len (a + 1) k)) ∙ s

pub one-more : {X : Type 0} (done rest : List X) (o : Option X) → (done ++ option_to_list o) ++ rest ≡ done ++ cons_option o rest
one-more done rest None = ap (λ xs. xs ++ rest) (append-nil done)
one-more done rest (Some x) = append_assoc done (x ∷ []) rest
