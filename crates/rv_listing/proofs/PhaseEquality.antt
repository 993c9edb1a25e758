-- The tasks and claims of a listing make up the phases again.
use Rattle.std.proofs.Common.{◌≡◌, ℕ, zero, suc, ◌+◌, ◌<◌, ◌≤◌, Bool, true, false, cond, eqb, ◌&&◌, List, [], ◌∷◌, ◌++◌, map, filter, find, filter_map, option_map, Option, Some, None, refl, ap, ◌∙◌, arith}
use Rattle.std.specs.List.{range_with_len, cons_option}
use Rattle.std.proofs.lemmas.Bool.Decides.{nat_tests}
use borrow.Author.Tests.{eqb-true}
use Rattle.region_table.specs.declared.declared.TaskDecl.{TaskDecl}
use Rattle.rv_assembler.specs.declared.draft.Start.{Start}
use Rattle.rv_assembler.specs.declared.draft.Claim.{Claim}
use Rattle.rv_assembler.specs.Program.{is_task, is_claim_of}

-- the start of a task in a phase
abbrev pub start_of : ℕ → TaskDecl → Start
start_of p t = record { phase = p; core = t.core.0; entry = t.entry; arg = t.arg }

-- ---- claims

-- every claim is of this task, or none is
abbrev pub Are : Bool → Start → List Claim → Type 0
Are b s [] = Unit {0}
Are b s (c ∷ cs) = (is_claim_of s c ≡ b) × Are b s cs

abbrev pub NoneOf : Start → List Claim → Type 0
NoneOf s cs = Are false s cs

abbrev pub AllOf : Start → List Claim → Type 0
AllOf s cs = Are true s cs

pub Are-append : (r : Bool) (s : Start) (a b : List Claim) → Are r s a → Are r s b → Are r s (a ++ b)
Are-append r s [] b h k = k
Are-append r s (c ∷ a) b h k = (h.0, Are-append r s a b h.1 k)

pub filter-none : (s : Start) (cs : List Claim) → NoneOf s cs → filter (is_claim_of s) cs ≡ []
filter-none s [] h = refl
filter-none s (c ∷ cs) h = ap (λ (b : Bool). cond b (c ∷ filter (is_claim_of s) cs) (filter (is_claim_of s) cs)) h.0 ∙ filter-none s cs h.1

pub filter-past : (s : Start) (a b : List Claim) → NoneOf s a → filter (is_claim_of s) (a ++ b) ≡ filter (is_claim_of s) b
filter-past s [] b h = refl
filter-past s (c ∷ a) b h = ap (λ (t : Bool). cond t (c ∷ filter (is_claim_of s) (a ++ b)) (filter (is_claim_of s) (a ++ b))) h.0 ∙ filter-past s a b h.1

pub filter-own : (s : Start) (a b : List Claim) → AllOf s a → NoneOf s b → filter (is_claim_of s) (a ++ b) ≡ a
filter-own s [] b h k = filter-none s b k
filter-own s (c ∷ a) b h k =
    ap (λ (t : Bool). cond t (c ∷ filter (is_claim_of s) (a ++ b)) (filter (is_claim_of s) (a ++ b))) h.0
    ∙ ap (λ (l : List Claim). c ∷ l) (filter-own s a b h.1 k)

-- ---- tasks by their cores

-- the tasks stand in rising order of their cores, on cores from one on and below another
abbrev pub RiseFrom : ℕ → ℕ → List TaskDecl → Type 0
RiseFrom a end [] = Unit {0}
RiseFrom a end (t ∷ ts) = (a ≤ t.core.0) × (t.core.0 < end) × RiseFrom (t.core.0 + 1) end ts

rise-later : (a b end : ℕ) (ts : List TaskDecl) → a ≤ b → RiseFrom b end ts → RiseFrom a end ts
rise-later a b end [] l h = tt
rise-later a b end (t ∷ ts) l h = (omega arith, h.1, h.2)

unlike : (a b : ℕ) → a < b → eqb b a ≡ false
unlike a b l = grind (arith, nat_tests)

alike : (a : ℕ) → eqb a a ≡ true
alike a = grind (arith, nat_tests)

abbrev pub starts_of : ℕ → List TaskDecl → List Start
starts_of p ts = map (start_of p) ts

-- no task from core a on is on a core before it
find-none : (p c a end : ℕ) (ts : List TaskDecl) → c < a → RiseFrom a end ts → find (is_task p c) (starts_of p ts) ≡ None
find-none p c a end [] l h = refl
find-none p c a end (t ∷ ts) l h =
    let e : (eqb p p && eqb t.core.0 c) ≡ false = ap (λ (b : Bool). b && eqb t.core.0 c) (alike p) ∙ unlike c t.core.0 (omega arith) in
    ap (λ (b : Bool). cond b (Some (start_of p t)) (find (is_task p c) (starts_of p ts))) e ∙ find-none p c (t.core.0 + 1) end ts (omega arith) h.2

find-past : (p c : ℕ) (t : TaskDecl) (ts : List TaskDecl) → t.core.0 < c → find (is_task p c) (starts_of p (t ∷ ts)) ≡ find (is_task p c) (starts_of p ts)
find-past p c t ts l =
    let e : eqb t.core.0 c ≡ false = grind (arith, nat_tests) in
    let f : (eqb p p && eqb t.core.0 c) ≡ false = ap (λ (b : Bool). b && eqb t.core.0 c) (alike p) ∙ e in
    ap (λ (b : Bool). cond b (Some (start_of p t)) (find (is_task p c) (starts_of p ts))) f

find-here : (p c : ℕ) (t : TaskDecl) (ts : List TaskDecl) → t.core.0 ≡ c → find (is_task p c) (starts_of p (t ∷ ts)) ≡ Some (start_of p t)
find-here p c t ts e =
    let f : (eqb p p && eqb t.core.0 c) ≡ true = ap (λ (b : Bool). b && eqb t.core.0 c) (alike p) ∙ ap (λ (x : ℕ). eqb x c) e ∙ alike c in
    ap (λ (b : Bool). cond b (Some (start_of p t)) (find (is_task p c) (starts_of p ts))) f

module _ (p : ℕ) (f : Start → TaskDecl) where
  abbrev found_at : List TaskDecl → ℕ → Option TaskDecl
  found_at ts c = option_map f (find (is_task p c) (starts_of p ts))

  later-cores : (t : TaskDecl) (ts : List TaskDecl) (a n : ℕ) → t.core.0 < a → filter_map (found_at (t ∷ ts)) (range_with_len a n) ≡ filter_map (found_at ts) (range_with_len a n)
  later-cores t ts a zero l = refl
  later-cores t ts a (suc n) l =
      ap (λ (o : Option Start). cons_option (option_map f o) (filter_map (found_at (t ∷ ts)) (range_with_len (a + 1) n))) (find-past p a t ts l)
      ∙ ap (λ (xs : List TaskDecl). cons_option (found_at ts a) xs) (later-cores t ts (a + 1) n (omega arith))

  by-core : (b : Bool) (a n end : ℕ) (t : TaskDecl) (ts : List TaskDecl) → eqb t.core.0 a ≡ b → a + suc n ≡ end → RiseFrom a end (t ∷ ts)
      → (RiseFrom (a + 1) end ts → filter_map (found_at ts) (range_with_len (a + 1) n) ≡ map f (starts_of p ts))
      → (RiseFrom (a + 1) end (t ∷ ts) → filter_map (found_at (t ∷ ts)) (range_with_len (a + 1) n) ≡ map f (starts_of p (t ∷ ts)))
      → filter_map (found_at (t ∷ ts)) (range_with_len a (suc n)) ≡ map f (starts_of p (t ∷ ts))
  by-core true a n end t ts b s h here past =
      let e : t.core.0 ≡ a = eqb-true t.core.0 a b in
      ap (λ (o : Option Start). cons_option (option_map f o) (filter_map (found_at (t ∷ ts)) (range_with_len (a + 1) n))) (find-here p a t ts e)
      ∙ ap (λ (xs : List TaskDecl). f (start_of p t) ∷ xs) (later-cores t ts (a + 1) n (omega arith) ∙ here (rise-later (a + 1) (t.core.0 + 1) end ts (omega arith) h.2))
  by-core false a n end t ts b s h here past =
      let l : a + 1 ≤ t.core.0 = (let k : a ≤ t.core.0 = h.0 in grind (arith, nat_tests)) in
      ap (λ (o : Option Start). cons_option (option_map f o) (filter_map (found_at (t ∷ ts)) (range_with_len (a + 1) n))) (find-none p a (a + 1) end (t ∷ ts) (omega arith) (l, h.1, h.2))
      ∙ past (l, h.1, h.2)

  none-found : (a n : ℕ) → filter_map (found_at []) (range_with_len a n) ≡ []
  none-found a zero = refl
  none-found a (suc n) = none-found (a + 1) n

  -- by their cores the tasks come in their order
  pub tasks-by-core : (n a end : ℕ) (ts : List TaskDecl) → a + n ≡ end → RiseFrom a end ts → filter_map (found_at ts) (range_with_len a n) ≡ map f (starts_of p ts)
  tasks-by-core zero a end [] s h = refl
  tasks-by-core zero a end (t ∷ ts) s h = absurd (omega arith)
  tasks-by-core (suc n) a end [] s h = none-found a (suc n)
  tasks-by-core (suc n) a end (t ∷ ts) s h =
      by-core (eqb t.core.0 a) a n end t ts refl s h (λ r. tasks-by-core n (a + 1) end ts (omega arith) r) (λ r. tasks-by-core n (a + 1) end (t ∷ ts) (omega arith) r)
