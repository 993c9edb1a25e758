-- What happened to the entries of a core, row by row.
use Rattle.std.proofs.Common.{◌≡◌, ◌≢◌, ℕ, ◌+◌, ◌<◌, ◌≤◌, ◌==◌, Bool, true, false, cond, nat_lt, List, [], ◌∷◌, length, get_or, set, Option, Some, None, refl, sym, ap, ◌∙◌, arith}
use Rattle.std.specs.List.{fold, enumerate_from}
use Rattle.std.specs.Option.{option_or}
use Rattle.std.proofs.lemmas.Bool.Decides.{nat_tests}
use Rattle.std.proofs.lemmas.List.{get_or-set_same, get_or-set_other, set-set, set_past, set-get_or, length-set, ext_get_or, length-map, get_or-map}
use Rattle.std.proofs.lemmas.List.FromFn.{length-enumerate_from, get_or-enumerate_from}
use Rattle.region_table.specs.declared.interval.Interval.{Interval}
use Rattle.word_cache.specs.declared.row.Entry.{Entry}
use Rattle.word_cache.specs.Cache.{Pair, lookup, AreDifferent}
use Rattle.registration_protocol.specs.Node.{NodeParts}
use Rattle.run_account.specs.declared.departure.Departure.{Departure}
use Rattle.run_account.specs.declared.departure.Occasion.{Occasion}
use Rattle.run_account.specs.Departures.{Departures, departed, row_departed, departures_with}
use Rattle.run_account.specs.Copies.{has_gone, why_at, gone_pair}
use Rattle.run_account.proofs.Tallied.{set-commute}

zero-plus : (n : ℕ) → 0 + n ≡ n
zero-plus n = omega arith

-- ---- a row

length-row : (gone : ℕ → Option Departure) (row : List (Option Departure)) → length (row_departed gone row) ≡ length row
unfolding row_departed
length-row gone row = length-map (enumerate_from 0 row) (λ (last : ℕ × Option Departure). option_or (gone last.0) last.1) ∙ length-enumerate_from 0 row

get-row : (gone : ℕ → Option Departure) (row : List (Option Departure)) (w : ℕ) → w < length row → get_or (row_departed gone row) w None ≡ option_or (gone w) (get_or row w None)
unfolding row_departed
get-row gone row w inside =
    get_or-map (λ (last : ℕ × Option Departure). option_or (gone last.0) last.1) (enumerate_from 0 row) w (0, None) None (rw (length-enumerate_from 0 row) inside)
    ∙ rw (get_or-enumerate_from 0 row w (0, None) inside, zero-plus w) refl

-- a row that has at each place what a function says
row-is : (gone : ℕ → Option Departure) (row other : List (Option Departure)) → length other ≡ length row
    → ((w : ℕ) → w < length row → get_or other w None ≡ option_or (gone w) (get_or row w None)) → row_departed gone row ≡ other
row-is gone row other long each =
    ext_get_or None (row_departed gone row) other (length-row gone row ∙ sym long)
    (λ w inside. let within : w < length row = rw (sym (length-row gone row)) inside in get-row gone row w within ∙ sym (each w within))

-- ---- all rows

length-rows : (gone : ℕ → ℕ → Option Departure) (D : Departures) → length (departures_with gone D) ≡ length D
unfolding departures_with
length-rows gone D = length-map (enumerate_from 0 D) (λ (row : ℕ × List (Option Departure)). row_departed (gone row.0) row.1) ∙ length-enumerate_from 0 D

get-rows : (gone : ℕ → ℕ → Option Departure) (D : Departures) (c : ℕ) → c < length D → get_or (departures_with gone D) c [] ≡ row_departed (gone c) (get_or D c [])
unfolding departures_with
get-rows gone D c inside =
    get_or-map (λ (row : ℕ × List (Option Departure)). row_departed (gone row.0) row.1) (enumerate_from 0 D) c (0, []) [] (rw (length-enumerate_from 0 D) inside)
    ∙ rw (get_or-enumerate_from 0 D c (0, []) inside, zero-plus c) refl

rows-are : (gone : ℕ → ℕ → Option Departure) (D other : Departures) → length other ≡ length D
    → ((c : ℕ) → c < length D → row_departed (gone c) (get_or D c []) ≡ get_or other c []) → departures_with gone D ≡ other
rows-are gone D other long each =
    ext_get_or [] (departures_with gone D) other (length-rows gone D ∙ sym long)
    (λ c inside. let within : c < length D = rw (sym (length-rows gone D)) inside in get-rows gone D c within ∙ each c within)

-- nothing goes
pub none-gone : (gone : ℕ → ℕ → Option Departure) (D : Departures) → ((c w : ℕ) → gone c w ≡ None) → departures_with gone D ≡ D
none-gone gone D none = rows-are gone D D refl (λ c inside. row-is (gone c) (get_or D c []) (get_or D c []) refl (λ w within. rw (none c w) refl))

-- entries of one core go
one-core : (gone : ℕ → ℕ → Option Departure) (D : Departures) (core : ℕ) (row : List (Option Departure)) → ((c w : ℕ) → c ≢ core → gone c w ≡ None)
    → row_departed (gone core) (get_or D core []) ≡ row → departures_with gone D ≡ set D core row
one-core gone D core row others here =
    rows-are gone D (set D core row) (length-set D core row) (λ c inside. by_core c inside (core == c) refl)
  where
    by_core : (c : ℕ) → c < length D → (t : Bool) → (core == c) ≡ t → row_departed (gone c) (get_or D c []) ≡ get_or (set D core row) c []
    by_core c inside true e =
        let same : c ≡ core = grind (arith, nat_tests) in
        rw same (here ∙ sym (get_or-set_same D core row [] (rw (sym same) inside)))
    by_core c inside false e =
        let other : c ≢ core = grind (arith, nat_tests) in
        row-is (gone c) (get_or D c []) (get_or D c []) refl (λ w within. rw (others c w other) refl) ∙ sym (get_or-set_other D core c row [] other)

-- the entry of one word
pub one-gone : (gone : ℕ → ℕ → Option Departure) (D : Departures) (core word : ℕ) (why : Departure) → ((c w : ℕ) → c ≢ core → gone c w ≡ None)
    → ((w : ℕ) → gone core w ≡ cond (word == w) (Some why) None) → departures_with gone D ≡ departed D core word why
one-gone gone D core word why others here = one-core gone D core (set (get_or D core []) word (Some why)) others
    (row-is (gone core) (get_or D core []) (set (get_or D core []) word (Some why)) (length-set (get_or D core []) word (Some why)) (λ w inside. by_word w inside (word == w) refl))
  where
    by_word : (w : ℕ) → w < length (get_or D core []) → (t : Bool) → (word == w) ≡ t
        → get_or (set (get_or D core []) word (Some why)) w None ≡ option_or (gone core w) (get_or (get_or D core []) w None)
    by_word w inside true e =
        let same : w ≡ word = grind (arith, nat_tests) in
        rw (here w, e) (rw same (get_or-set_same (get_or D core []) word (Some why) None (rw (sym same) inside)))
    by_word w inside false e =
        let other : w ≢ word = grind (arith, nat_tests) in
        rw (here w, e) (get_or-set_other (get_or D core []) word w (Some why) None other)

-- ---- copies, one by one

past-rows : (D : Departures) (core word : ℕ) (why : Departure) → length D ≤ core → departed D core word why ≡ D
past-rows D core word why out = set_past D core (set (get_or D core []) word (Some why)) out

-- in any order
departed-commute : (D : Departures) (core v w : ℕ) (why : Departure) → departed (departed D core v why) core w why ≡ departed (departed D core w why) core v why
departed-commute D core v w why = by_core (nat_lt core (length D)) refl where
  row : List (Option Departure)
  row = get_or D core []

  twice : (a b : ℕ) → core < length D → departed (departed D core a why) core b why ≡ set D core (set (set row a (Some why)) b (Some why))
  twice a b inside =
      rw (get_or-set_same D core (set row a (Some why)) [] inside) (set-set D core (set row a (Some why)) (set (set row a (Some why)) b (Some why)))

  swapped : (t : Bool) → (v == w) ≡ t → set (set row v (Some why)) w (Some why) ≡ set (set row w (Some why)) v (Some why)
  swapped true e = let same : v ≡ w = grind (arith, nat_tests) in rw same refl
  swapped false e = let other : v ≢ w = grind (arith, nat_tests) in set-commute row v w (Some why) (Some why) other

  by_core : (t : Bool) → nat_lt core (length D) ≡ t → departed (departed D core v why) core w why ≡ departed (departed D core w why) core v why
  by_core true e =
      let inside : core < length D = grind (arith, nat_tests) in
      twice v w inside ∙ ap (λ (r : List (Option Departure)). set D core r) (swapped (v == w) refl) ∙ sym (twice w v inside)
  by_core false e =
      let out : length D ≤ core = grind (arith, nat_tests) in
      ap (λ E. departed E core w why) (past-rows D core v why out) ∙ past-rows D core w why out
      ∙ sym (ap (λ E. departed E core v why) (past-rows D core w why out) ∙ past-rows D core v why out)

module _ (n : NodeParts) (o : Occasion) (words : List Interval) where
  pub gone-commute : (D : Departures) (p q : Pair) → gone_pair n o words (gone_pair n o words D p) q ≡ gone_pair n o words (gone_pair n o words D q) p
  gone-commute D p q = by_tests (has_gone n o words p) (has_gone n o words q) where
    by_tests : (t u : Bool)
        → cond u (departed (cond t (departed D n.core p.0.0 (why_at o)) D) n.core q.0.0 (why_at o)) (cond t (departed D n.core p.0.0 (why_at o)) D)
        ≡ cond t (departed (cond u (departed D n.core q.0.0 (why_at o)) D) n.core p.0.0 (why_at o)) (cond u (departed D n.core q.0.0 (why_at o)) D)
    by_tests true true = departed-commute D n.core p.0.0 q.0.0 (why_at o)
    by_tests true false = refl
    by_tests false true = refl
    by_tests false false = refl

  abbrev row_pair : List (Option Departure) → Pair → List (Option Departure)
  row_pair row p = cond (has_gone n o words p) (set row p.0.0 (Some (why_at o))) row

  fold-past : (ps : List Pair) (D : Departures) → length D ≤ n.core → fold (gone_pair n o words) D ps ≡ D
  fold-past [] D out = refl
  fold-past (p ∷ ps) D out = by_test (has_gone n o words p) (fold-past ps D out) where
    by_test : (t : Bool) → fold (gone_pair n o words) D ps ≡ D → fold (gone_pair n o words) (cond t (departed D n.core p.0.0 (why_at o)) D) ps ≡ D
    by_test true rest = ap (λ (E : Departures). fold (gone_pair n o words) E ps) (past-rows D n.core p.0.0 (why_at o) out) ∙ rest
    by_test false rest = rest

  fold-row : (ps : List Pair) (D : Departures) → n.core < length D → fold (gone_pair n o words) D ps ≡ set D n.core (fold row_pair (get_or D n.core []) ps)
  fold-row [] D inside = sym (set-get_or D n.core [])
  fold-row (p ∷ ps) D inside = by_test (has_gone n o words p) (fold-row ps) where
    r : List (Option Departure)
    r = set (get_or D n.core []) p.0.0 (Some (why_at o))

    by_test : (t : Bool) → ((E : Departures) → n.core < length E → fold (gone_pair n o words) E ps ≡ set E n.core (fold row_pair (get_or E n.core []) ps))
        → fold (gone_pair n o words) (cond t (departed D n.core p.0.0 (why_at o)) D) ps ≡ set D n.core (fold row_pair (cond t r (get_or D n.core [])) ps)
    by_test true rest =
        rest (set D n.core r) (rw (length-set D n.core r) inside)
        ∙ ap (λ (row : List (Option Departure)). set (set D n.core r) n.core (fold row_pair row ps)) (get_or-set_same D n.core r [] inside)
        ∙ set-set D n.core r (fold row_pair r ps)
    by_test false rest = rest D inside

  -- why the entry of a word goes
  abbrev pub gone_entry : ℕ → Option Entry → Option Departure
  gone_entry w None = None
  gone_entry w (Some e) = cond (has_gone n o words (record { 0 = w }, e)) (Some (why_at o)) None

  length-fold : (ps : List Pair) (row : List (Option Departure)) → length (fold row_pair row ps) ≡ length row
  length-fold [] row = refl
  length-fold (p ∷ ps) row = by_test (has_gone n o words p) (length-fold ps) where
    by_test : (t : Bool) → ((r : List (Option Departure)) → length (fold row_pair r ps) ≡ length r) → length (fold row_pair (cond t (set row p.0.0 (Some (why_at o))) row) ps) ≡ length row
    by_test true rest = rest (set row p.0.0 (Some (why_at o))) ∙ length-set row p.0.0 (Some (why_at o))
    by_test false rest = rest row

  get-fold : (ps : List Pair) (row : List (Option Departure)) (w : ℕ) → AreDifferent ps → w < length row
      → get_or (fold row_pair row ps) w None ≡ option_or (gone_entry w (lookup w ps)) (get_or row w None)
  get-fold [] row w apart inside = refl
  get-fold (p ∷ ps) row w apart inside = by_word (p.0.0 == w) refl (λ r within. get-fold ps r w apart.1 within) where
    Rest : Type 0
    Rest = (r : List (Option Departure)) → w < length r → get_or (fold row_pair r ps) w None ≡ option_or (gone_entry w (lookup w ps)) (get_or r w None)

    here : (t : Bool) → Rest → lookup w ps ≡ None → p.0.0 ≡ w
        → get_or (fold row_pair (cond t (set row p.0.0 (Some (why_at o))) row) ps) w None ≡ option_or (cond t (Some (why_at o)) None) (get_or row w None)
    here true rest none same =
        rest (set row p.0.0 (Some (why_at o))) (rw (length-set row p.0.0 (Some (why_at o))) inside)
        ∙ ap (λ (e : Option Entry). option_or (gone_entry w e) (get_or (set row p.0.0 (Some (why_at o))) w None)) none
        ∙ ap (λ (v : ℕ). get_or (set row v (Some (why_at o))) w None) same
        ∙ get_or-set_same row w (Some (why_at o)) None inside
    here false rest none same = rest row inside ∙ ap (λ (e : Option Entry). option_or (gone_entry w e) (get_or row w None)) none

    there : (t : Bool) → Rest → w ≢ p.0.0
        → get_or (fold row_pair (cond t (set row p.0.0 (Some (why_at o))) row) ps) w None ≡ option_or (gone_entry w (lookup w ps)) (get_or row w None)
    there true rest other =
        rest (set row p.0.0 (Some (why_at o))) (rw (length-set row p.0.0 (Some (why_at o))) inside)
        ∙ ap (λ (x : Option Departure). option_or (gone_entry w (lookup w ps)) x) (get_or-set_other row p.0.0 w (Some (why_at o)) None other)
    there false rest other = rest row inside

    gone-at : (v : ℕ) (e : Entry) → v ≡ w → cond {A = Option Departure} (has_gone n o words (record { 0 = v }, e)) (Some (why_at o)) None ≡ gone_entry w (Some e)
    gone-at v e same = ap (λ (x : ℕ). cond {A = Option Departure} (has_gone n o words (record { 0 = x }, e)) (Some (why_at o)) None) same

    by_word : (t : Bool) → (p.0.0 == w) ≡ t → Rest
        → get_or (fold row_pair (row_pair row p) ps) w None ≡ option_or (gone_entry w (cond t (Some p.1) (lookup w ps))) (get_or row w None)
    by_word true e rest =
        let same : p.0.0 ≡ w = grind (arith, nat_tests) in
        here (has_gone n o words p) rest (ap (λ (v : ℕ). lookup v ps) (sym same) ∙ apart.0) same
        ∙ ap (λ (x : Option Departure). option_or x (get_or row w None)) (gone-at p.0.0 p.1 same)
    by_word false e rest = there (has_gone n o words p) rest (grind (arith, nat_tests))

  -- the copies of a core go, and nothing else
  pub copies-gone : (gone : ℕ → ℕ → Option Departure) (D : Departures) (ps : List Pair) → AreDifferent ps → ((c w : ℕ) → c ≢ n.core → gone c w ≡ None)
      → ((w : ℕ) → gone n.core w ≡ gone_entry w (lookup w ps)) → departures_with gone D ≡ fold (gone_pair n o words) D ps
  copies-gone gone D ps apart others here = by_core (nat_lt n.core (length D)) refl where
    row : List (Option Departure)
    row = get_or D n.core []

    by_core : (t : Bool) → nat_lt n.core (length D) ≡ t → departures_with gone D ≡ fold (gone_pair n o words) D ps
    by_core true e =
        let inside : n.core < length D = grind (arith, nat_tests) in
        one-core gone D n.core (fold row_pair row ps) others
        (row-is (gone n.core) row (fold row_pair row ps) (length-fold ps row) (λ w within. get-fold ps row w apart within ∙ rw (here w) refl))
        ∙ sym (fold-row ps D inside)
    by_core false e =
        let out : length D ≤ n.core = grind (arith, nat_tests) in
        one-core gone D n.core (row_departed (gone n.core) row) others refl ∙ set_past D n.core (row_departed (gone n.core) row) out ∙ sym (fold-past ps D out)
