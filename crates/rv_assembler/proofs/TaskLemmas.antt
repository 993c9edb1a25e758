-- A program has no more tasks than its lines declare.
use Rattle.std.proofs.Common.{◌≡◌, ℕ, zero, suc, ◌+◌, ◌<◌, ◌≤◌, ◌&&◌, Bool, true, false, eqb, cond, List, [], ◌∷◌, length, map, filter_map, option_map, Option, Some, None, find, refl, ◌∙◌, ap, arith, ⊎_elim, length-append}
use Rattle.std.specs.List.{range_with_len, cons_option}
use Rattle.std.proofs.lemmas.Bool.{cases_Bool}
use borrow.Author.Tests.{eqb-true}
use Rattle.region_table.specs.Program.{tasks_of}
use Rattle.rv_assembler.specs.declared.draft.Start.{Start}
use Rattle.rv_assembler.specs.declared.draft.Claim.{Claim}
use Rattle.rv_assembler.specs.Program.{is_task}
use Rattle.rv_assembler.specs.Finishing.{task_within, core_task_within, phase_within}

grows : {X : Type 0} (o : Option X) (xs : List X) → length xs ≤ length (cons_option o xs)
grows None xs = omega arith
grows (Some x) xs = omega arith

grows-once : {X : Type 0} (o : Option X) (xs : List X) → length (cons_option o xs) ≤ 1 + length xs
grows-once None xs = omega arith
grows-once (Some x) xs = omega arith

grows-alike : {X : Type 0} (o : Option X) (xs ys : List X) → length xs ≤ 1 + length ys → length (cons_option o xs) ≤ 1 + length (cons_option o ys)
grows-alike None xs ys h = h
grows-alike (Some x) xs ys h = omega arith

differs : (a b : ℕ) → (a ≡ b → ⊥) → eqb a b ≡ false
differs a b h = ⊎_elim (λ (e : eqb a b ≡ true). absurd (h (eqb-true a b e))) (λ (e : eqb a b ≡ false). e) (cases_Bool (eqb a b))

and_none : (a b : Bool) → b ≡ false → (a && b) ≡ false
and_none true b e = e
and_none false b e = refl

module _ (words locks : ℕ) (claims : List Claim) (t : Start) (ts : List Start) where
  passed : (p c : ℕ) → (eqb t.phase p && eqb t.core c) ≡ false → core_task_within words locks claims (t ∷ ts) p c ≡ core_task_within words locks claims ts p c
  passed p c e = ap (λ b. option_map (task_within words locks claims) (cond b (Some t) (find (is_task p c) ts))) e

  other-phase : (p : ℕ) → eqb t.phase p ≡ false → (cs : List ℕ) → filter_map (core_task_within words locks claims (t ∷ ts) p) cs ≡ filter_map (core_task_within words locks claims ts p) cs
  other-phase p e [] = refl
  other-phase p e (c ∷ cs) =
      let h : core_task_within words locks claims (t ∷ ts) p c ≡ core_task_within words locks claims ts p c = passed p c (ap (λ b. b && eqb t.core c) e) in
      ap (λ o. cons_option o (filter_map (core_task_within words locks claims (t ∷ ts) p) cs)) h
      ∙ ap (λ xs. cons_option (core_task_within words locks claims ts p c) xs) (other-phase p e cs)

  later-cores : (p a n : ℕ) → t.core < a → filter_map (core_task_within words locks claims (t ∷ ts) p) (range_with_len a n) ≡ filter_map (core_task_within words locks claims ts p) (range_with_len a n)
  later-cores p a zero l = refl
  later-cores p a (suc n) l =
      let h : core_task_within words locks claims (t ∷ ts) p a ≡ core_task_within words locks claims ts p a = passed p a (and_none (eqb t.phase p) (eqb t.core a) (differs t.core a (λ e. omega arith))) in
      ap (λ o. cons_option o (filter_map (core_task_within words locks claims (t ∷ ts) p) (range_with_len (a + 1) n))) h
      ∙ ap (λ xs. cons_option (core_task_within words locks claims ts p a) xs) (later-cores p (a + 1) n (omega arith))

  one-more : (p a n : ℕ) → length (filter_map (core_task_within words locks claims (t ∷ ts) p) (range_with_len a n)) ≤ 1 + length (filter_map (core_task_within words locks claims ts p) (range_with_len a n))
  one-more p a zero = omega arith
  one-more p a (suc n) =
      ⊎_elim
      (λ (e : eqb t.core a ≡ true).
      let l : t.core ≡ a = eqb-true t.core a e in
      let s : filter_map (core_task_within words locks claims (t ∷ ts) p) (range_with_len (a + 1) n) ≡ filter_map (core_task_within words locks claims ts p) (range_with_len (a + 1) n) = later-cores p (a + 1) n (omega arith) in
      let u : length (filter_map (core_task_within words locks claims (t ∷ ts) p) (range_with_len (a + 1) n)) ≡ length (filter_map (core_task_within words locks claims ts p) (range_with_len (a + 1) n)) = ap (λ xs. length xs) s in
      let v = grows-once (core_task_within words locks claims (t ∷ ts) p a) (filter_map (core_task_within words locks claims (t ∷ ts) p) (range_with_len (a + 1) n)) in
      let w = grows (core_task_within words locks claims ts p a) (filter_map (core_task_within words locks claims ts p) (range_with_len (a + 1) n)) in
      omega arith)
      (λ (e : eqb t.core a ≡ false).
      let h : core_task_within words locks claims (t ∷ ts) p a ≡ core_task_within words locks claims ts p a = passed p a (and_none (eqb t.phase p) (eqb t.core a) e) in
      let u : length (filter_map (core_task_within words locks claims (t ∷ ts) p) (range_with_len a (suc n))) ≡ length (cons_option (core_task_within words locks claims ts p a) (filter_map (core_task_within words locks claims (t ∷ ts) p) (range_with_len (a + 1) n))) =
      ap (λ o. length (cons_option o (filter_map (core_task_within words locks claims (t ∷ ts) p) (range_with_len (a + 1) n)))) h in
      let v = grows-alike (core_task_within words locks claims ts p a) (filter_map (core_task_within words locks claims (t ∷ ts) p) (range_with_len (a + 1) n)) (filter_map (core_task_within words locks claims ts p) (range_with_len (a + 1) n)) (one-more p (a + 1) n) in
      omega arith)
      (cases_Bool (eqb t.core a))

-- how many tasks there are in phases from one number on
many : ℕ → ℕ → List Claim → List Start → ℕ → ℕ → ℕ
many words locks claims ts a zero = 0
many words locks claims ts a (suc n) = length (filter_map (core_task_within words locks claims ts a) (range_with_len 0 16)) + many words locks claims ts (a + 1) n

many-of : (words locks : ℕ) (claims : List Claim) (ts : List Start) (a n : ℕ) → length (tasks_of (map (phase_within words locks claims ts) (range_with_len a n))) ≡ many words locks claims ts a n
unfolding many
many-of words locks claims ts a zero = refl
many-of words locks claims ts a (suc n) =
    length-append (filter_map (core_task_within words locks claims ts a) (range_with_len 0 16)) (tasks_of (map (phase_within words locks claims ts) (range_with_len (a + 1) n)))
    ∙ ap (λ k. length (filter_map (core_task_within words locks claims ts a) (range_with_len 0 16)) + k) (many-of words locks claims ts (a + 1) n)

no-tasks : (words locks : ℕ) (claims : List Claim) (p : ℕ) (cs : List ℕ) → length (filter_map (core_task_within words locks claims [] p) cs) ≡ 0
no-tasks words locks claims p [] = refl
no-tasks words locks claims p (c ∷ cs) = no-tasks words locks claims p cs

many-none : (words locks : ℕ) (claims : List Claim) (a n : ℕ) → many words locks claims [] a n ≡ 0
unfolding many
many-none words locks claims a zero = refl
many-none words locks claims a (suc n) =
    let e = no-tasks words locks claims a (range_with_len 0 16) in
    let f = many-none words locks claims (a + 1) n in
    omega arith

later-phases : (words locks : ℕ) (claims : List Claim) (t : Start) (ts : List Start) (a n : ℕ) → t.phase < a → many words locks claims (t ∷ ts) a n ≡ many words locks claims ts a n
unfolding many
later-phases words locks claims t ts a zero l = refl
later-phases words locks claims t ts a (suc n) l =
    let e : length (filter_map (core_task_within words locks claims (t ∷ ts) a) (range_with_len 0 16)) ≡ length (filter_map (core_task_within words locks claims ts a) (range_with_len 0 16)) =
    ap (λ xs. length xs) (other-phase words locks claims t ts a (differs t.phase a (λ e. omega arith)) (range_with_len 0 16)) in
    let f = later-phases words locks claims t ts (a + 1) n (omega arith) in
    omega arith

many-more : (words locks : ℕ) (claims : List Claim) (t : Start) (ts : List Start) (a n : ℕ) → many words locks claims (t ∷ ts) a n ≤ 1 + many words locks claims ts a n
unfolding many
many-more words locks claims t ts a zero = omega arith
many-more words locks claims t ts a (suc n) =
    ⊎_elim
    (λ (e : eqb t.phase a ≡ true).
    let l : t.phase ≡ a = eqb-true t.phase a e in
    let u = one-more words locks claims t ts a 0 16 in
    let v = later-phases words locks claims t ts (a + 1) n (omega arith) in
    omega arith)
    (λ (e : eqb t.phase a ≡ false).
    let u : length (filter_map (core_task_within words locks claims (t ∷ ts) a) (range_with_len 0 16)) ≡ length (filter_map (core_task_within words locks claims ts a) (range_with_len 0 16)) =
    ap (λ xs. length xs) (other-phase words locks claims t ts a e (range_with_len 0 16)) in
    let v = many-more words locks claims t ts (a + 1) n in
    omega arith)
    (cases_Bool (eqb t.phase a))

many-within : (words locks : ℕ) (claims : List Claim) (ts : List Start) (a n : ℕ) → many words locks claims ts a n ≤ length ts
many-within words locks claims [] a n = let e = many-none words locks claims a n in omega arith
many-within words locks claims (t ∷ ts) a n =
    let e = many-more words locks claims t ts a n in
    let f = many-within words locks claims ts a n in
    omega arith

-- the phases of a program have at most as many tasks as were declared
pub tasks-within : (words locks : ℕ) (claims : List Claim) (ts : List Start) (a n : ℕ) → length (tasks_of (map (phase_within words locks claims ts) (range_with_len a n))) ≤ length ts
tasks-within words locks claims ts a n =
    let e = many-of words locks claims ts a n in
    let f = many-within words locks claims ts a n in
    omega arith
