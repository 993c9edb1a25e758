-- The first values of a listing make up the memory.
use Rattle.std.proofs.Common.{◌≡◌, ℕ, ◌+◌, ◌-◌, ◌≤◌, Bool, true, false, cond, eqb, List, [], ◌∷◌, ◌++◌, length, take, drop, refl, sym, ap, ◌∙◌, append_assoc, length-append, length-take, take-append-drop, drop-drop, arith}
use Rattle.std.specs.Prelude.{replicate, slice_set}
use Rattle.std.specs.List.{flat_map, slice_range}
use borrow.Author.Tests.{eqb-true}
use Rattle.std.proofs.lemmas.List.{length-drop}
use Rattle.region_table.specs.declared.declared.Region.{Region}
use Rattle.region_table.specs.Program.{AreTiled}
use Rattle.rv_assembler.specs.declared.draft.FirstValue.{FirstValue}
use Rattle.rv_assembler.specs.Finishing.{with_first_values}

abbrev pub first_value : ℕ → ℕ → FirstValue
first_value w x = record { word = w; value = x }

-- the values of words from one on, but for those that are 0
abbrev pub values_from : ℕ → List ℕ → List FirstValue
values_from w [] = []
values_from w (x ∷ xs) = cond (eqb x 0) [] (first_value w x ∷ []) ++ values_from (w + 1) xs

set-behind : (done rest : List ℕ) (y x : ℕ) → slice_set (done ++ y ∷ rest) (length done) x ≡ done ++ x ∷ rest
set-behind [] rest y x = refl
set-behind (d ∷ done) rest y x = ap (λ (l : List ℕ). d ∷ l) (set-behind done rest y x)

stored-step : (done xs : List ℕ) (x : ℕ) (b : Bool) → eqb x 0 ≡ b → ((e : List ℕ) → with_first_values (e ++ replicate (length xs) 0) (values_from (length e) xs) ≡ e ++ xs)
    → with_first_values (done ++ 0 ∷ replicate (length xs) 0) (cond b [] (first_value (length done) x ∷ []) ++ values_from (length done + 1) xs) ≡ done ++ x ∷ xs
stored-step done xs x true z next =
    let zero-is : x ≡ 0 = eqb-true x 0 z in
    let long : length (done ++ 0 ∷ []) ≡ length done + 1 = length-append done (0 ∷ []) in
    ap (λ (m : List ℕ). with_first_values m (values_from (length done + 1) xs)) (sym (append_assoc done (0 ∷ []) (replicate (length xs) 0)))
    ∙ ap (λ (n : ℕ). with_first_values ((done ++ 0 ∷ []) ++ replicate (length xs) 0) (values_from n xs)) (sym long)
    ∙ next (done ++ 0 ∷ [])
    ∙ append_assoc done (0 ∷ []) xs
    ∙ ap (λ (n : ℕ). done ++ n ∷ xs) (sym zero-is)
stored-step done xs x false z next =
    let long : length (done ++ x ∷ []) ≡ length done + 1 = length-append done (x ∷ []) in
    ap (λ (m : List ℕ). with_first_values m (values_from (length done + 1) xs)) (set-behind done (replicate (length xs) 0) 0 x ∙ sym (append_assoc done (x ∷ []) (replicate (length xs) 0)))
    ∙ ap (λ (n : ℕ). with_first_values ((done ++ x ∷ []) ++ replicate (length xs) 0) (values_from n xs)) (sym long)
    ∙ next (done ++ x ∷ [])
    ∙ append_assoc done (x ∷ []) xs

-- behind words that are done, the values of the rest stored in zeros are the rest
pub stored-values : (xs done : List ℕ) → with_first_values (done ++ replicate (length xs) 0) (values_from (length done) xs) ≡ done ++ xs
stored-values [] done = refl
stored-values (x ∷ xs) done = stored-step done xs x (eqb x 0) refl (λ e. stored-values xs e)

-- the memory of a listing: its values stored in as many zeros
pub stored-memory : (memory : List ℕ) → with_first_values (replicate (length memory) 0) (values_from 0 memory) ≡ memory
stored-memory memory = stored-values memory []

values-append : (w : ℕ) (xs ys : List ℕ) → values_from w (xs ++ ys) ≡ values_from w xs ++ values_from (w + length xs) ys
values-append w [] ys = let e : w ≡ w + 0 = omega arith in ap (λ (n : ℕ). values_from n ys) e
values-append w (x ∷ xs) ys =
    let here = cond (eqb x 0) [] (first_value w x ∷ []) in
    let e : w + 1 + length xs ≡ w + length (x ∷ xs) = omega arith in
    ap (λ (vs : List FirstValue). here ++ vs) (values-append (w + 1) xs ys ∙ ap (λ (n : ℕ). values_from (w + 1) xs ++ values_from n ys) e)
    ∙ sym (append_assoc here (values_from (w + 1) xs) (values_from (w + length (x ∷ xs)) ys))

-- the values of a region's words
abbrev pub region_first_values : List ℕ → Region → List FirstValue
region_first_values memory r = values_from r.start (slice_range memory r.start (r.start + r.len))

tiled-last : (a : ℕ) (xs : List Region) (b : ℕ) → AreTiled a xs b → a ≤ b
tiled-last a [] b t = omega arith
tiled-last a (x ∷ xs) b t = let e = tiled-last (x.start + x.len) xs b t.2 in omega arith

nothing : (w : ℕ) (xs : List ℕ) → length xs ≡ 0 → values_from w xs ≡ []
nothing w [] e = refl
nothing w (x ∷ xs) e = absurd (omega arith)

-- region by region the values are those of the whole memory
pub values-by-region : (memory : List ℕ) (from : ℕ) (rs : List Region) → AreTiled from rs (length memory) → from ≤ length memory → flat_map (region_first_values memory) rs ≡ values_from from (drop from memory)
values-by-region memory from [] t l =
    let none : length (drop from memory) ≡ 0 = omega (arith, length-drop from memory) in
    sym (nothing from (drop from memory) none)
values-by-region memory from (r ∷ rs) t l =
    let mid = r.start + r.len in
    let ends : mid ≤ length memory = tiled-last mid rs (length memory) t.2 in
    let count : mid - r.start ≡ r.len = omega arith in
    let part : slice_range memory r.start mid ≡ take r.len (drop r.start memory) = ap (λ (n : ℕ). take n (drop r.start memory)) count in
    let size : length (drop r.start memory) ≡ length memory - r.start = length-drop r.start memory in
    let whole : drop r.start memory ≡ take r.len (drop r.start memory) ++ drop r.len (drop r.start memory) = sym (take-append-drop r.len (drop r.start memory)) in
    let taken : length (take r.len (drop r.start memory)) ≡ r.len = omega (arith, length-take {A = ℕ} r.len (drop r.start memory)) in
    let sum : r.len + r.start ≡ mid = omega arith in
    let rest : drop r.len (drop r.start memory) ≡ drop mid memory = drop-drop r.len r.start memory ∙ ap (λ (n : ℕ). drop n memory) (let s : r.start + r.len ≡ mid = refl in s) in
    ap (λ (xs : List ℕ). values_from r.start xs ++ flat_map (region_first_values memory) rs) part
    ∙ ap (λ (vs : List FirstValue). values_from r.start (take r.len (drop r.start memory)) ++ vs) (values-by-region memory mid rs t.2 ends ∙ ap (values_from mid) (sym rest))
    ∙ ap (λ (n : ℕ). values_from r.start (take r.len (drop r.start memory)) ++ values_from n (drop r.len (drop r.start memory))) (ap (λ (n : ℕ). r.start + n) (sym taken))
    ∙ sym (values-append r.start (take r.len (drop r.start memory)) (drop r.len (drop r.start memory)))
    ∙ ap (values_from r.start) (sym whole)
    ∙ ap (λ (n : ℕ). values_from n (drop n memory)) t.0
