-- Cells whose sections end, and the words of which a task has stored values.
use Rattle.std.proofs.Common.{◌≡◌, ◌≢◌, ℕ, zero, suc, ◌+◌, ◌<◌, ◌==◌, Bool, true, false, ◌&&◌, ◌||◌, not, if◌then◌else◌, List, [], ◌∷◌, ◌++◌, length, map, take, get_or, slice_set, Option, None, refl, sym, ap, ◌∙◌, subst, arith}
use Rattle.std.specs.List.{All, filter}
use Rattle.std.proofs.lemmas.Bool.{false≢true, eqb-true}
use Rattle.std.proofs.lemmas.Bool.Decides.{nat_tests}
use Rattle.std.proofs.lemmas.List.{get_or-set_same, get_or-set_other, length-map}
use Rattle.std.proofs.lemmas.List.Elements.{All-nil, All-filter}
use Rattle.std.proofs.lemmas.List.Folds.{list_any_more, list_any-append}
use Rattle.region_table.specs.Plan.{task_guards}
use Rattle.common_outcomes.specs.declared.value.Value.{Value}
use Rattle.common_outcomes.specs.declared.value.Cell.{Cell}
use Rattle.common_outcomes.specs.declared.value.Effect.{Effect}
use Rattle.common_outcomes.specs.declared.value.Effect.TheVariants.{Kept, Added, Set, Other}
use Rattle.common_outcomes.specs.Values.{effect_of, joined_effect}
use Rattle.common_outcomes.specs.Alone.{Setup, cell_at, untouched, is_shared, closed, closed_by, placed_from}
use Rattle.common_outcomes.proofs.Leaving.{placed-at, closed-none}
use Rattle.common_outcomes.proofs.Moving.{closed-map}
use Rattle.outcomes_top.specs.Tracks.{is_listed, IsTracked}

-- ---- a section that ends

pub kept-right : (e : Effect) → joined_effect e Kept ≡ e
kept-right Kept = refl
kept-right (Added a) = refl
kept-right (Set a) = refl
kept-right Other = refl

closed-again : (c : Cell) → closed (closed c) ≡ closed c
closed-again c = ap (λ (e : Effect). the_closed e) (kept-right (joined_effect c.effect (effect_of c.stored)))
  where
    the_closed : Effect → Cell
    the_closed e = record { stored = None; effect = e }

closed-empty : (c : Cell) → c.stored ≡ None → closed c ≡ c
closed-empty c e = ap with_effect same ∙ ap with_stored (sym e)
  where
    with_effect : Effect → Cell
    with_effect x = record { stored = None; effect = x }

    with_stored : Option Value → Cell
    with_stored s = record { stored = s; effect = c.effect }

    same : joined_effect c.effect (effect_of c.stored) ≡ c.effect
    same = ap (λ (s : Option Value). joined_effect c.effect (effect_of s)) e ∙ kept-right c.effect

-- by the tests of a word
closes-again : (S : Setup) (lock w : ℕ) (c : Cell) → closed_by S lock w (closed_by S lock w c) ≡ closed_by S lock w c
closes-again S lock w c = by_test (is_shared S.phase S.decl w && task_guards S.decl lock w)
  where
    by_test : (b : Bool) → (if b then closed (if b then closed c else c) else (if b then closed c else c)) ≡ (if b then closed c else c)
    by_test true = closed-again c
    by_test false = refl

closes-empty : (S : Setup) (lock w : ℕ) (c : Cell) → c.stored ≡ None → closed_by S lock w c ≡ c
closes-empty S lock w c e = by_test (is_shared S.phase S.decl w && task_guards S.decl lock w)
  where
    by_test : (b : Bool) → (if b then closed c else c) ≡ c
    by_test true = closed-empty c e
    by_test false = refl

closes-unshared : (S : Setup) (lock w : ℕ) (c : Cell) → is_shared S.phase S.decl w ≡ false → closed_by S lock w c ≡ c
closes-unshared S lock w c e = ap (λ (b : Bool). if b && task_guards S.decl lock w then closed c else c) e

closes-unguarded : (S : Setup) (lock w : ℕ) (c : Cell) → task_guards S.decl lock w ≡ false → closed_by S lock w c ≡ c
closes-unguarded S lock w c e = by_test (is_shared S.phase S.decl w) (task_guards S.decl lock w) e
  where
    by_test : (a b : Bool) → b ≡ false → (if a && b then closed c else c) ≡ c
    by_test true b e = ap (λ (x : Bool). if x then closed c else c) e
    by_test false b e = refl

closes-guarded : (S : Setup) (lock w : ℕ) (c : Cell) → is_shared S.phase S.decl w ≡ true → task_guards S.decl lock w ≡ true → closed_by S lock w c ≡ closed c
closes-guarded S lock w c e f = ap (λ (b : Bool). if b && task_guards S.decl lock w then closed c else c) e ∙ ap (λ (b : Bool). if b then closed c else c) f

-- ---- lists of cells

suc-same : (a b : ℕ) → suc a ≡ suc b → a ≡ b
suc-same a b e = omega arith

pub same-cells : (xs ys : List Cell) → length xs ≡ length ys → ((w : ℕ) → cell_at xs w ≡ cell_at ys w) → xs ≡ ys
same-cells [] [] l h = refl
same-cells [] (y ∷ ys) l h = absurd (omega arith)
same-cells (x ∷ xs) [] l h = absurd (omega arith)
same-cells (x ∷ xs) (y ∷ ys) l h =
    let rest : xs ≡ ys = same-cells xs ys (suc-same (length xs) (length ys) l) (λ w. h (suc w)) in
    ap (λ (z : Cell). z ∷ xs) (h zero) ∙ ap (λ (zs : List Cell). y ∷ zs) rest

pub placed-length : (i : ℕ) (f : ℕ → Cell → Cell) (xs : List Cell) → length (placed_from i f xs) ≡ length xs
placed-length i f [] = refl
placed-length i f (x ∷ xs) = ap suc (placed-length (i + 1) f xs)

placed-here : (S : Setup) (lock : ℕ) (cells : List Cell) (w : ℕ) → cell_at (placed_from 0 (closed_by S lock) cells) w ≡ closed_by S lock w (cell_at cells w)
placed-here S lock cells w =
    let e : 0 + w ≡ w = omega arith in
    placed-at 0 (closed_by S lock) cells w (closed-none S lock) ∙ ap (λ (k : ℕ). closed_by S lock k (cell_at cells w)) e

pub set-at : (cells : List Cell) (x w : ℕ) (c : Cell) → x < length cells → cell_at (slice_set cells x c) w ≡ (if w == x then c else cell_at cells w)
set-at cells x w c l = by_test (w == x) refl
  where
    by_test : (b : Bool) → (w == x) ≡ b → cell_at (slice_set cells x c) w ≡ (if b then c else cell_at cells w)
    by_test true e =
        let same : w ≡ x = eqb-true w x e in
        subst (λ (k : ℕ). cell_at (slice_set cells x c) k ≡ c) (sym same) (get_or-set_same cells x c untouched l)
    by_test false e =
        let other : w ≢ x = λ s. false≢true (sym e ∙ grind (arith, nat_tests)) in
        get_or-set_other cells x w c untouched other

-- ---- words of a list

flip : (a b : ℕ) → (a == b) ≡ (b == a)
flip a b = grind (arith, nat_tests)

or-false : (b : Bool) → (b || false) ≡ b
or-false true = refl
or-false false = refl

listed-more : (listed : List ℕ) (i x w : ℕ) → i < length listed → x ≡ get_or listed i x → is_listed (take (i + 1) listed) w ≡ (is_listed (take i listed) w || (w == x))
listed-more listed i x w l is =
    list_any_more (λ (v : ℕ). v == w) listed i x l ∙ ap (λ (v : ℕ). is_listed (take i listed) w || (v == w)) (sym is)
    ∙ ap (λ (b : Bool). is_listed (take i listed) w || b) (flip x w)

listed-append : (xs ys : List ℕ) (w : ℕ) → is_listed (xs ++ ys) w ≡ (is_listed xs w || is_listed ys w)
listed-append xs ys w = list_any-append (λ (v : ℕ). v == w) xs ys

-- ---- the listed words are closed, one after the other

pick : (C : Cell → Cell) → ((c : Cell) → C (C c) ≡ C c) → (p q r : Bool) → r ≡ (p || q) → (o n m : Cell) → n ≡ (if p then C o else o) → m ≡ (if q then C n else n) → m ≡ (if r then C o else o)
pick C again p q r is o n m a b = subst (λ (x : Bool). m ≡ (if x then C o else o)) (sym is) (by_tests p q a b)
  where
    by_tests : (p q : Bool) → n ≡ (if p then C o else o) → m ≡ (if q then C n else n) → m ≡ (if p || q then C o else o)
    by_tests true true a b = b ∙ ap C a ∙ again o
    by_tests true false a b = b ∙ a
    by_tests false true a b = b ∙ ap C a
    by_tests false false a b = b ∙ a

pub close-one : (S : Setup) (lock : ℕ) (old now new : List Cell) (listed : List ℕ) (i x : ℕ) → i < length listed → x ≡ get_or listed i x
    → ((w : ℕ) → cell_at now w ≡ (if is_listed (take i listed) w then closed_by S lock w (cell_at old w) else cell_at old w))
    → ((w : ℕ) → cell_at new w ≡ (if w == x then closed_by S lock w (cell_at now w) else cell_at now w))
    → (w : ℕ) → cell_at new w ≡ (if is_listed (take (i + 1) listed) w then closed_by S lock w (cell_at old w) else cell_at old w)
close-one S lock old now new listed i x l is before one w =
    pick (closed_by S lock w) (closes-again S lock w) (is_listed (take i listed) w) (w == x) (is_listed (take (i + 1) listed) w) (listed-more listed i x w l is)
    (cell_at old w) (cell_at now w) (cell_at new w) (before w) (one w)

-- a word of which the section is to end, and one of which it isn't
pub one-closed : (S : Setup) (lock : ℕ) (now : List Cell) (x : ℕ) (c : Cell) → x < length now → is_shared S.phase S.decl x ≡ true → task_guards S.decl lock x ≡ true → c ≡ closed (cell_at now x)
    → (w : ℕ) → cell_at (slice_set now x c) w ≡ (if w == x then closed_by S lock w (cell_at now w) else cell_at now w)
one-closed S lock now x c l shared guarded is w = set-at now x w c l ∙ by_test (w == x) refl
  where
    by_test : (b : Bool) → (w == x) ≡ b → (if b then c else cell_at now w) ≡ (if b then closed_by S lock w (cell_at now w) else cell_at now w)
    by_test true e =
        let same : w ≡ x = eqb-true w x e in
        subst (λ (k : ℕ). c ≡ closed_by S lock k (cell_at now k)) (sym same) (is ∙ sym (closes-guarded S lock x (cell_at now x) shared guarded))
    by_test false e = refl

pub none-closed : (S : Setup) (lock : ℕ) (now : List Cell) (x : ℕ) → (is_shared S.phase S.decl x && task_guards S.decl lock x) ≡ false
    → (w : ℕ) → cell_at now w ≡ (if w == x then closed_by S lock w (cell_at now w) else cell_at now w)
none-closed S lock now x no' w = by_test (w == x) refl
  where
    by_test : (b : Bool) → (w == x) ≡ b → cell_at now w ≡ (if b then closed_by S lock w (cell_at now w) else cell_at now w)
    by_test true e =
        let same : w ≡ x = eqb-true w x e in
        let stays : closed_by S lock x (cell_at now x) ≡ cell_at now x = ap (λ (b : Bool). if b then closed (cell_at now x) else cell_at now x) no' in
        subst (λ (k : ℕ). cell_at now k ≡ closed_by S lock k (cell_at now k)) (sym same) (sym stays)
    by_test false e = refl

-- all of them
pub all-closed : (S : Setup) (lock : ℕ) (old new : List Cell) (listed : List ℕ) → IsTracked S old listed → length new ≡ length old
    → ((w : ℕ) → cell_at new w ≡ (if is_listed listed w then closed_by S lock w (cell_at old w) else cell_at old w))
    → new ≡ placed_from 0 (closed_by S lock) old
all-closed S lock old new listed tracked l each =
    same-cells new (placed_from 0 (closed_by S lock) old) (l ∙ sym (placed-length 0 (closed_by S lock) old)) (λ w. cell w ∙ sym (placed-here S lock old w))
  where
    unlisted : (w : ℕ) → is_listed listed w ≡ false → (b : Bool) → is_shared S.phase S.decl w ≡ b → cell_at old w ≡ closed_by S lock w (cell_at old w)
    unlisted w e true s = sym (closes-empty S lock w (cell_at old w) (tracked.rest w s e))
    unlisted w e false s = sym (closes-unshared S lock w (cell_at old w) s)

    by_test : (w : ℕ) (b : Bool) → is_listed listed w ≡ b → (if b then closed_by S lock w (cell_at old w) else cell_at old w) ≡ closed_by S lock w (cell_at old w)
    by_test w true e = refl
    by_test w false e = unlisted w e (is_shared S.phase S.decl w) refl

    cell : (w : ℕ) → cell_at new w ≡ closed_by S lock w (cell_at old w)
    cell w = each w ∙ by_test w (is_listed listed w) refl

-- ---- what is listed

All-length : (n m : ℕ) (xs : List ℕ) → n ≡ m → All (λ (w : ℕ). w < n) xs → All (λ (w : ℕ). w < m) xs
All-length n m xs e h = subst (λ (k : ℕ). All (λ (w : ℕ). w < k) xs) e h

-- a stored word that needn't be listed, or is listed already
pub stored-tracked : (S : Setup) (cells : List Cell) (listed : List ℕ) (x : ℕ) (c : Cell) → IsTracked S cells listed → x < length cells → length (slice_set cells x c) ≡ length cells
    → (is_shared S.phase S.decl x ≡ true → (cell_at cells x).stored ≢ None) → IsTracked S (slice_set cells x c) listed
stored-tracked S cells listed x c h l same has' = record { within = All-length (length cells) (length (slice_set cells x c)) listed (sym same) h.within; rest = rest }
  where
    by_test : (w : ℕ) → is_shared S.phase S.decl w ≡ true → is_listed listed w ≡ false → (b : Bool) → (w == x) ≡ b → (if b then c else cell_at cells w).stored ≡ None
    by_test w s e true t =
        let is : w ≡ x = eqb-true w x t in
        absurd (has' (subst (λ (k : ℕ). is_shared S.phase S.decl k ≡ true) is s) (subst (λ (k : ℕ). (cell_at cells k).stored ≡ None) is (h.rest w s e)))
    by_test w s e false t = h.rest w s e

    rest : (w : ℕ) → is_shared S.phase S.decl w ≡ true → is_listed listed w ≡ false → (cell_at (slice_set cells x c) w).stored ≡ None
    rest w s e = ap (λ (y : Cell). y.stored) (set-at cells x w c l) ∙ by_test w s e (w == x) refl

or-left : (a b : Bool) → (a || b) ≡ false → a ≡ false
or-left true b e = absurd (false≢true (sym e))
or-left false b e = refl

or-right : (a b : Bool) → (a || b) ≡ false → b ≡ false
or-right true b e = absurd (false≢true (sym e))
or-right false b e = e

-- a stored word that is listed now
pub listed-tracked : (S : Setup) (cells : List Cell) (listed : List ℕ) (x : ℕ) (c : Cell) → IsTracked S cells listed → x < length cells → length (slice_set cells x c) ≡ length cells
    → All (λ (w : ℕ). w < length cells) (listed ++ x ∷ []) → IsTracked S (slice_set cells x c) (listed ++ x ∷ [])
listed-tracked S cells listed x c h l same all = record { within = All-length (length cells) (length (slice_set cells x c)) (listed ++ x ∷ []) (sym same) all; rest = rest }
  where
    by_test : (w : ℕ) → is_shared S.phase S.decl w ≡ true → is_listed listed w ≡ false → (x == w || false) ≡ false → (b : Bool) → (w == x) ≡ b → (if b then c else cell_at cells w).stored ≡ None
    by_test w s e f true t = absurd (false≢true (sym f ∙ or-false (x == w) ∙ flip x w ∙ t))
    by_test w s e f false t = h.rest w s e

    rest : (w : ℕ) → is_shared S.phase S.decl w ≡ true → is_listed (listed ++ x ∷ []) w ≡ false → (cell_at (slice_set cells x c) w).stored ≡ None
    rest w s e =
        let both : (is_listed listed w || (x == w || false)) ≡ false = sym (listed-append listed (x ∷ []) w) ∙ e in
        ap (λ (y : Cell). y.stored) (set-at cells x w c l)
        ∙ by_test w s (or-left (is_listed listed w) (x == w || false) both) (or-right (is_listed listed w) (x == w || false) both) (w == x) refl

filter-listed : (keep : ℕ → Bool) (xs : List ℕ) (w : ℕ) → keep w ≡ true → is_listed (filter keep xs) w ≡ is_listed xs w
filter-listed keep [] w k = refl
filter-listed keep (x ∷ xs) w k = by_test (keep x) refl (filter-listed keep xs w k)
  where
    other : keep x ≡ false → (b : Bool) → (x == w) ≡ b → b ≡ false
    other f true e = let is : x ≡ w = eqb-true x w e in absurd (false≢true (sym f ∙ ap keep is ∙ k))
    other f false e = refl

    by_test : (b : Bool) → keep x ≡ b → is_listed (filter keep xs) w ≡ is_listed xs w → is_listed (if b then x ∷ filter keep xs else filter keep xs) w ≡ (x == w || is_listed xs w)
    by_test true e again = ap (λ (y : Bool). x == w || y) again
    by_test false e again = again ∙ ap (λ (y : Bool). y || is_listed xs w) (sym (other e (x == w) refl))

-- the words that the lock guards are no longer listed at the end of its section
pub left-tracked : (S : Setup) (lock : ℕ) (cells : List Cell) (listed left : List ℕ) → IsTracked S cells listed → left ≡ filter (λ (w : ℕ). not (task_guards S.decl lock w)) listed
    → IsTracked S (placed_from 0 (closed_by S lock) cells) left
left-tracked S lock cells listed left h is = subst (IsTracked S (placed_from 0 (closed_by S lock) cells)) (sym is) (record { within = within; rest = rest })
  where
    keep : ℕ → Bool
    keep w = not (task_guards S.decl lock w)

    within : All (λ (w : ℕ). w < length (placed_from 0 (closed_by S lock) cells)) (filter keep listed)
    within = All-length (length cells) (length (placed_from 0 (closed_by S lock) cells)) (filter keep listed) (sym (placed-length 0 (closed_by S lock) cells))
        (All-filter keep (λ (w : ℕ). w < length cells) listed h.within)

    cell : (w : ℕ) → cell_at (placed_from 0 (closed_by S lock) cells) w ≡ closed_by S lock w (cell_at cells w)
    cell w = placed-here S lock cells w

    by_test : (w : ℕ) → is_shared S.phase S.decl w ≡ true → is_listed (filter keep listed) w ≡ false → (b : Bool) → task_guards S.decl lock w ≡ b → (closed_by S lock w (cell_at cells w)).stored ≡ None
    by_test w s e true g = ap (λ (c : Cell). c.stored) (closes-guarded S lock w (cell_at cells w) s g)
    by_test w s e false g =
        let kept : keep w ≡ true = ap not g in
        ap (λ (c : Cell). c.stored) (closes-unguarded S lock w (cell_at cells w) g) ∙ h.rest w s (sym (filter-listed keep listed w kept) ∙ e)

    rest : (w : ℕ) → is_shared S.phase S.decl w ≡ true → is_listed (filter keep listed) w ≡ false → (cell_at (placed_from 0 (closed_by S lock) cells) w).stored ≡ None
    rest w s e = ap (λ (c : Cell). c.stored) (cell w) ∙ by_test w s e (task_guards S.decl lock w) refl

-- ---- at the start, and at the end

pub none-tracked : (S : Setup) (cells : List Cell) → ((w : ℕ) → (cell_at cells w).stored ≡ None) → IsTracked S cells []
none-tracked S cells h = record { within = All-nil (λ (w : ℕ). w < length cells); rest = λ w s e. h w }

pub all-empty : (S : Setup) (cells : List Cell) (listed : List ℕ) → IsTracked S cells listed → IsTracked S (map closed cells) listed
all-empty S cells listed h = record {
  within = All-length (length cells) (length (map closed cells)) listed (sym (length-map cells closed)) h.within;
  rest = λ w s e. ap (λ (c : Cell). c.stored) (closed-map cells w);
}
