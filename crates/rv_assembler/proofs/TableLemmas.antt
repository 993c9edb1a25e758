-- One line more in each table.
use Rattle.std.proofs.Common.{◌≡◌, ℕ, ◌+◌, ◌*◌, ◌≤◌, List, [], ◌∷◌, ◌++◌, length, cond, Bool, ℤ, Option, Some, None, sum_by, flat_map, filter_map, unwrap_or, refl, sym, ◌∙◌, ap, append_assoc, append-nil, arith}
use Rattle.std.specs.List.{last_or, cons_option}
use Rattle.std.proofs.lemmas.Grind.{flat_map-append}
use Rattle.std.proofs.lemmas.List.Sums.{sum_by-cons, sum_by_push}
use Rattle.std.proofs.lemmas.List.Elements.{filter_map-append}
use Rattle.std.proofs.lemmas.Bool.{cond_both}
use Rattle.rv_assembler.specs.declared.statement.Code.{Code}
use Rattle.rv_assembler.specs.declared.statement.Code.TheVariants.{LoadNumber, LoadAddress}
use Rattle.rv_assembler.specs.declared.statement.Statement.{Statement}
use Rattle.rv_assembler.specs.declared.statement.Statement as statement
use Rattle.rv_assembler.specs.declared.parsing.Saying.{Saying}
use Rattle.rv_assembler.specs.declared.draft.Cores.{Cores}
use Rattle.rv_assembler.specs.Number.{natural_of, is_length}
use Rattle.rv_assembler.specs.Size.{code_word_count}
use Rattle.rv_assembler.specs.Named.{no_cores}
use Rattle.rv_assembler.specs.Placed.{Placed, placed_behind, placed}
use Rattle.rv_assembler.specs.Counts.{region_words, code_size, data_size, is_region, is_lock, code_words, data_words, counts_in, current_family, family_in}
use Rattle.rv_assembler.proofs.SoundLemmas.{length-words, length-counted}

module _ {X : Type 0} where
  abbrev pub place : List X → X → Placed X
  place before x = record { before = before; here = x }

  behind-more : (b xs : List X) (x : X) → placed_behind b (xs ++ x ∷ []) ≡ placed_behind b xs ++ place (b ++ xs) x ∷ []
  behind-more b [] x = ap (λ (ys : List X). place ys x ∷ []) (sym (append-nil b))
  behind-more b (y ∷ ys) x =
      ap (λ (ps : List (Placed X)). place b y ∷ ps)
      (behind-more (b ++ y ∷ []) ys x ∙ ap (λ (zs : List X). placed_behind (b ++ y ∷ []) ys ++ place zs x ∷ []) (append_assoc b (y ∷ []) ys))

  pub table-more : {A : Type 0} (f : Placed X → List A) (xs : List X) (x : X) → flat_map f (placed (xs ++ x ∷ [])) ≡ flat_map f (placed xs) ++ f (place xs x)
  table-more {A} f xs x =
      ap (flat_map f) (behind-more [] xs x) ∙ flat_map-append f (placed xs) (place xs x ∷ []) ∙ ap (λ (l : List A). flat_map f (placed xs) ++ l) (append-nil (f (place xs x)))

  pub table-same : {A : Type 0} (f : Placed X → List A) (xs : List X) (x : X) → f (place xs x) ≡ [] → flat_map f (placed (xs ++ x ∷ [])) ≡ flat_map f (placed xs)
  table-same {A} f xs x e = table-more f xs x ∙ ap (λ (l : List A). flat_map f (placed xs) ++ l) e ∙ append-nil (flat_map f (placed xs))

  pub sum-same : (f : X → ℕ) (xs : List X) (x : X) → f x ≡ 0 → sum_by f (xs ++ x ∷ []) ≡ sum_by f xs
  sum-same f xs x e = let p = sum_by_push f xs x in omega arith

-- ---- the current tasks

last-more : {A : Type 0} (o : Option A) (xs : List A) (x : A) → last_or o (xs ++ x ∷ []) ≡ Some x
last-more o [] x = refl
last-more o (y ∷ ys) x = last-more (Some y) ys x

abbrev opened_by : Saying → Option Cores
opened_by s = current_family s.statement

pub family-same : (ss : List Saying) (s : Saying) → current_family s.statement ≡ None → family_in (ss ++ s ∷ []) ≡ family_in ss
family-same ss s e =
    ap (λ (cs : List Cores). unwrap_or (last_or None cs) no_cores)
    (filter_map-append opened_by ss (s ∷ []) ∙ ap (λ (o : Option Cores). filter_map opened_by ss ++ cons_option o []) e ∙ append-nil (filter_map opened_by ss))

pub family-new : (ss : List Saying) (s : Saying) (c : Cores) → current_family s.statement ≡ Some c → family_in (ss ++ s ∷ []) ≡ c
family-new ss s c e =
    ap (λ (cs : List Cores). unwrap_or (last_or None cs) no_cores)
    (filter_map-append opened_by ss (s ∷ []) ∙ ap (λ (o : Option Cores). filter_map opened_by ss ++ cons_option o []) e)
    ∙ ap (λ (o : Option Cores). unwrap_or o no_cores) (last-more None (filter_map opened_by ss) c)

-- ---- the counts

-- how much one more of a kind counts
abbrev pub tally : Bool → ℕ
tally b = cond b 1 0

pub counts-same : (ss : List Saying) (s : Saying) → code_size s.statement ≡ 0 → data_size s.statement ≡ 0 → tally (is_region s.statement) ≡ 0 → tally (is_lock s.statement) ≡ 0
    → counts_in (ss ++ s ∷ []) ≡ counts_in ss
counts-same ss s c d r l =
    λ i. record {
      code = sum-same (λ (s : Saying). code_size s.statement) ss s c i;
      words = sum-same (λ (s : Saying). data_size s.statement) ss s d i;
      regions = sum-same (λ (s : Saying). tally (is_region s.statement)) ss s r i;
      locks = sum-same (λ (s : Saying). tally (is_lock s.statement)) ss s l i;
    }

pub two-at_most : (k : Code) → code_word_count k ≤ 2
two-at_most (LoadNumber rd n) = omega arith
two-at_most (LoadAddress rd n) = omega arith
two-at_most _ = omega arith

code-at_most : (s : Statement) → code_size s ≤ 2
code-at_most (statement.TheVariants.Instruction k) = two-at_most k
code-at_most _ = omega arith

pub length-at_most : (len : ℤ) → region_words len ≤ 65536
length-at_most len =
    cond_both (is_length len) (natural_of len) 0 (λ (n : ℕ). n ≤ 65536) (λ e. let same = length-counted len e in let l = (length-words len e).1 in omega arith) (λ e. omega arith)

data-at_most : (s : Statement) → data_size s ≤ 65536
data-at_most (statement.TheVariants.Region name len) = length-at_most len
data-at_most _ = omega arith

pub code-bound : (ss : List Saying) → code_words ss ≤ 2 * length ss
code-bound [] = omega arith
code-bound (s ∷ ss) =
    let p : code_words (s ∷ ss) ≡ code_size s.statement + code_words ss = sum_by-cons (λ (s : Saying). code_size s.statement) s ss in
    let q = code-bound ss in
    let r = code-at_most s.statement in
    omega arith

pub data-bound : (ss : List Saying) → data_words ss ≤ 65536 * length ss
data-bound [] = omega arith
data-bound (s ∷ ss) =
    let p : data_words (s ∷ ss) ≡ data_size s.statement + data_words ss = sum_by-cons (λ (s : Saying). data_size s.statement) s ss in
    let q = data-bound ss in
    let r = data-at_most s.statement in
    omega arith
