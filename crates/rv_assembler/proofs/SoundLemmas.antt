-- What the lines add up to is a well-formed program, as long as no line has a fault.
use Rattle.std.proofs.Common.{if◌then◌else◌, ◌≡◌, ◌≢◌, ℕ, zero, suc, ◌+◌, ◌%◌, ◌^◌, ◌<◌, ◌≤◌, ◌||◌, not, Bool, true, false, eqb, ltb, ℤ, pos, negsuc, int_le, List, [], ◌∷◌, ◌++◌, length, map, replicate, set, Option, Some, None, refl, sym, ◌∙◌, ap, arith, length-append}
use Rattle.std.specs.List.{All, AllPairs, range_with_len}
use Rattle.std.proofs.lemmas.Bool.{and_parts, ltb-false, leb-true}
use Rattle.std.proofs.lemmas.List.{length-map, length-set, length-replicate}
use Rattle.std.proofs.lemmas.List.FromFn.{length-range_with_len}
use Rattle.std.proofs.lemmas.List.Elements.{All-nil, All-cons, All-append}
use Rattle.std.proofs.lemmas.List.Kept.{AllPairs-cons}
use borrow.Author.Tests.{eqb-true}
use Rattle.region_table.specs.declared.declared.Region.{Region}
use Rattle.region_table.specs.Program.{AreTiled}
use Rattle.rv_assembler.specs.declared.statement.Statement.{Statement}
use Rattle.rv_assembler.specs.declared.statement.Statement as statement
use Rattle.rv_assembler.specs.declared.parsing.Saying.{Saying}
use Rattle.rv_assembler.specs.declared.names.Meaning.{Meaning}
use Rattle.rv_assembler.specs.declared.names.Meaning as meaning
use Rattle.rv_assembler.specs.declared.draft.FirstValue.{FirstValue}
use Rattle.rv_assembler.specs.declared.draft.Draft.{Draft}
use Rattle.rv_assembler.specs.declared.draft.Start.{Start}
use Rattle.rv_assembler.specs.Number.{natural_of, wrapped, is_within, is_length}
use Rattle.rv_assembler.specs.Counts.{region_words}
use Rattle.rv_assembler.specs.Emission.{label_index}
use Rattle.rv_assembler.specs.Gathering.{more}
use Rattle.rv_assembler.specs.Drafting.{wrapped_entry_at, wrapped_entry_by, wrapped_entry, next_task, members}
use Rattle.rv_assembler.specs.Operand.{bytes_of}
use Rattle.src_text.specs.declared.token.TokenKind.{TokenKind}
use Rattle.src_text.specs.declared.token.TokenKind as token
use Rattle.rv_assembler.specs.Adding.{no_draft, draft_after}
use Rattle.rv_assembler.specs.Fault.{is_address, entry_far, are_cores, out_of_range, unknown, misplaced, most_regions, over_limit}
use Rattle.rv_assembler.specs.Testing.{region_doubled, lock_doubled, name_doubled, label_of_doubled, doubled_by_meaning, draft_fault}
use Rattle.rv_assembler.specs.Finishing.{with_first_values, finished_program}
use Rattle.rv_assembler.specs.Whole.{IsWholeDraft}
use Rattle.rv_assembler.proofs.PhaseLemmas.{IsAligned, phases-well}
use Rattle.rv_assembler.proofs.TaskLemmas.{tasks-within}

-- the name of each region means the region of its number, from a number on
abbrev pub AreRegions : (List ℕ → Option Meaning) → ℕ → List Region → Type 0
AreRegions names k [] = Unit {0}
AreRegions names k (r ∷ rs) = (region_doubled (names r.name) k ≡ false) × AreRegions names (k + 1) rs

abbrev pub AreLocks : (List ℕ → Option Meaning) → ℕ → List (List ℕ) → Type 0
AreLocks names k [] = Unit {0}
AreLocks names k (l ∷ ls) = (lock_doubled (names l) k ≡ false) × AreLocks names (k + 1) ls

pub record Sound (names : List ℕ → Option Meaning) (d : Draft) : Type 0 where
  pub region_count : length d.regions ≡ d.count.regions
  pub lock_count : length d.locks ≡ d.count.locks
  pub tiled : AreTiled 0 d.regions d.count.words
  pub regions : AreRegions names 0 d.regions
  pub locks : AreLocks names 0 d.locks
  pub aligned : All IsAligned d.tasks

pub sound-none : (names : List ℕ → Option Meaning) → Sound names no_draft
sound-none names = record { region_count = refl; lock_count = refl; tiled = refl; regions = tt; locks = tt; aligned = All-nil IsAligned }

pub not-false : (b : Bool) → not b ≡ false → b ≡ true
not-false true e = refl
not-false false e = absurd cc

pub or-none : (a b : Bool) → (a || b) ≡ false → (a ≡ false) × (b ≡ false)
or-none true b e = absurd cc
or-none false b e = (refl, e)

regions-push : (names : List ℕ → Option Meaning) (k : ℕ) (rs : List Region) (r : Region) (j : ℕ) → j ≡ k + length rs → AreRegions names k rs → region_doubled (names r.name) j ≡ false → AreRegions names k (rs ++ r ∷ [])
regions-push names k [] r j e a h = let s : j ≡ k = omega arith in (rw s at h, tt)
regions-push names k (q ∷ rs) r j e a h = (a.0, regions-push names (k + 1) rs r j (omega arith) a.1 h)

locks-push : (names : List ℕ → Option Meaning) (k : ℕ) (ls : List (List ℕ)) (l : List ℕ) (j : ℕ) → j ≡ k + length ls → AreLocks names k ls → lock_doubled (names l) j ≡ false → AreLocks names k (ls ++ l ∷ [])
locks-push names k [] l j e a h = let s : j ≡ k = omega arith in (rw s at h, tt)
locks-push names k (q ∷ ls) l j e a h = (a.0, locks-push names (k + 1) ls l j (omega arith) a.1 h)

tiled-push : (from : ℕ) (rs : List Region) (r : Region) (end : ℕ) → AreTiled from rs end → r.start ≡ end → 0 < r.len → AreTiled from (rs ++ r ∷ []) (end + r.len)
tiled-push from [] r end t e h = (e ∙ sym t, h, ap (λ n. n + r.len) e)
tiled-push from (q ∷ rs) r end t e h = (t.0, t.1, tiled-push (q.start + q.len) rs r end t.2 e h)

region-same : (m : Option Meaning) (j k : ℕ) → region_doubled m j ≡ false → region_doubled m k ≡ false → j ≡ k
region-same None j k a b = absurd cc
region-same (Some (meaning.TheVariants.Label line place)) j k a b = absurd cc
region-same (Some (meaning.TheVariants.Region first start len)) j k a b = sym (eqb-true first j (not-false (eqb first j) a)) ∙ eqb-true first k (not-false (eqb first k) b)
region-same (Some (meaning.TheVariants.Lock first)) j k a b = absurd cc

lock-same : (m : Option Meaning) (j k : ℕ) → lock_doubled m j ≡ false → lock_doubled m k ≡ false → j ≡ k
lock-same None j k a b = absurd cc
lock-same (Some (meaning.TheVariants.Label line place)) j k a b = absurd cc
lock-same (Some (meaning.TheVariants.Region first start len)) j k a b = absurd cc
lock-same (Some (meaning.TheVariants.Lock first)) j k a b = sym (eqb-true first j (not-false (eqb first j) a)) ∙ eqb-true first k (not-false (eqb first k) b)

region-or_lock : (m : Option Meaning) (j k : ℕ) → region_doubled m j ≡ false → lock_doubled m k ≡ false → ⊥
region-or_lock None j k a b = cc
region-or_lock (Some (meaning.TheVariants.Label line place)) j k a b = cc
region-or_lock (Some (meaning.TheVariants.Region first start len)) j k a b = cc
region-or_lock (Some (meaning.TheVariants.Lock first)) j k a b = cc

abbrev region_names : List Region → List (List ℕ)
region_names rs = map (λ (r : Region). r.name) rs

no-later : (names : List ℕ → Option Meaning) (k : ℕ) (rs : List Region) (q : List ℕ) (j : ℕ) → AreRegions names k rs → region_doubled (names q) j ≡ false → j < k → All (λ (p : List ℕ). q ≢ p) (region_names rs)
no-later names k [] q j a h l = All-nil (λ (p : List ℕ). q ≢ p)
no-later names k (r ∷ rs) q j a h l =
    All-cons (λ (p : List ℕ). q ≢ p) r.name (region_names rs)
    (λ e. let b : region_doubled (names q) k ≡ false = rw e a.0 in let s = region-same (names q) j k h b in omega arith)
    (no-later names (k + 1) rs q j a.1 h (omega arith))

no-lock : (names : List ℕ → Option Meaning) (k : ℕ) (ls : List (List ℕ)) (q : List ℕ) (j : ℕ) → AreLocks names k ls → region_doubled (names q) j ≡ false → All (λ (p : List ℕ). q ≢ p) ls
no-lock names k [] q j a h = All-nil (λ (p : List ℕ). q ≢ p)
no-lock names k (l ∷ ls) q j a h =
    All-cons (λ (p : List ℕ). q ≢ p) l ls
    (λ e. let b : lock_doubled (names q) k ≡ false = rw e a.0 in region-or_lock (names q) j k h b)
    (no-lock names (k + 1) ls q j a.1 h)

no-later_lock : (names : List ℕ → Option Meaning) (k : ℕ) (ls : List (List ℕ)) (q : List ℕ) (j : ℕ) → AreLocks names k ls → lock_doubled (names q) j ≡ false → j < k → All (λ (p : List ℕ). q ≢ p) ls
no-later_lock names k [] q j a h l = All-nil (λ (p : List ℕ). q ≢ p)
no-later_lock names k (m ∷ ls) q j a h l =
    All-cons (λ (p : List ℕ). q ≢ p) m ls
    (λ e. let b : lock_doubled (names q) k ≡ false = rw e a.0 in let s = lock-same (names q) j k h b in omega arith)
    (no-later_lock names (k + 1) ls q j a.1 h (omega arith))

abbrev Differ : List ℕ → List ℕ → Type 0
Differ a b = a ≢ b

locks-distinct : (names : List ℕ → Option Meaning) (k : ℕ) (ls : List (List ℕ)) → AreLocks names k ls → AllPairs Differ ls
locks-distinct names k [] a = λ i j d l m. absurd (omega arith)
locks-distinct names k (l ∷ ls) a =
    AllPairs-cons Differ l ls (no-later_lock names (k + 1) ls l k a.1 a.0 (omega arith)) (locks-distinct names (k + 1) ls a.1)

names-distinct : (names : List ℕ → Option Meaning) (k : ℕ) (rs : List Region) (ls : List (List ℕ)) → AreRegions names k rs → AreLocks names 0 ls → AllPairs Differ (region_names rs ++ ls)
names-distinct names k [] ls a b = locks-distinct names 0 ls b
names-distinct names k (r ∷ rs) ls a b =
    AllPairs-cons Differ r.name (region_names rs ++ ls)
    (All-append (λ (p : List ℕ). r.name ≢ p) (region_names rs) ls (no-later names (k + 1) rs r.name k a.1 a.0 (omega arith)) (no-lock names 0 ls r.name k b a.0))
    (names-distinct names (k + 1) rs ls a.1 b)

pub length-words : (z : ℤ) → is_length z ≡ true → (0 < wrapped z) × (wrapped z ≤ 65536)
length-words (pos n) e =
    let p = and_parts (int_le (pos 1) (pos n)) (int_le (pos n) (pos 65536)) e in
    let low : 1 ≤ n = leb-true 1 n p.0 in
    let high : n ≤ 65536 = leb-true n 65536 p.1 in
    (omega arith, omega arith)
length-words (negsuc n) e =
    let p = and_parts (int_le (pos 1) (negsuc n)) (int_le (negsuc n) (pos 65536)) e in
    let f : false ≡ true = p.0 in
    absurd cc

pub length-counted : (z : ℤ) → is_length z ≡ true → natural_of z ≡ wrapped z
length-counted (pos n) e =
    let p = and_parts (int_le (pos 1) (pos n)) (int_le (pos n) (pos 65536)) e in
    let high : n ≤ 65536 = leb-true n 65536 p.1 in
    omega arith
length-counted (negsuc n) e =
    let p = and_parts (int_le (pos 1) (negsuc n)) (int_le (negsuc n) (pos 65536)) e in
    let f : false ≡ true = p.0 in
    absurd cc

-- the entries of tasks are addresses of words
place-aligned : (o : Option ℕ) → wrapped_entry_at o % 4 ≡ 0
place-aligned (Some place) = omega arith
place-aligned None = omega arith

number-aligned : (n : ℤ) → is_address n ≡ true → wrapped n % 4 ≡ 0
number-aligned (pos n) e =
    let p = and_parts (is_within (pos 0) (pos 0x1_0000_0000) (pos n)) (eqb (n % 4) 0) e in
    let whole : n % 4 ≡ 0 = eqb-true (n % 4) 0 p.1 in
    omega arith
number-aligned (negsuc n) e = let no : false ≡ true = e in absurd cc

kind-aligned : (names : List ℕ → Option Meaning) (name : List ℕ) (k : TokenKind) → entry_far k ≡ false → wrapped_entry_by names name k % 4 ≡ 0
kind-aligned names name (token.TheVariants.Number n) e = number-aligned n (not-false (is_address n) e)
kind-aligned names name token.TheVariants.Name e = place-aligned (label_index (names name))
kind-aligned names name token.TheVariants.Comma e = place-aligned (label_index (names name))
kind-aligned names name token.TheVariants.Colon e = place-aligned (label_index (names name))
kind-aligned names name token.TheVariants.Left e = place-aligned (label_index (names name))
kind-aligned names name token.TheVariants.Right e = place-aligned (label_index (names name))

members-aligned : (t : Start) (step n : ℕ) → IsAligned t → All IsAligned (members t step n)
members-aligned t step zero a = All-nil IsAligned
members-aligned t step (suc n) a = All-cons IsAligned t (members (next_task t step) step n) a (members-aligned (next_task t step) step n a)

sound-statement : (text : List ℕ) (names : List ℕ → Option Meaning) (d : Draft) (s : Statement) → Sound names d → out_of_range text names d s ≡ false → name_doubled text names d.count s ≡ false
    → d.count.words ≤ 65536 → length d.regions ≤ 4096 → length d.locks ≤ 32 → Sound names (draft_after text names d s)
sound-statement text names d statement.TheVariants.Nothing h o n w r l = record { region_count = h.region_count; lock_count = h.lock_count; tiled = h.tiled; regions = h.regions; locks = h.locks; aligned = h.aligned }
sound-statement text names d (statement.TheVariants.Instruction k) h o n w r l = record { region_count = h.region_count; lock_count = h.lock_count; tiled = h.tiled; regions = h.regions; locks = h.locks; aligned = h.aligned }
sound-statement text names d (statement.TheVariants.Region name len) h o n w r l =
    let m : is_length len ≡ true = not-false (is_length len) o in
    let b = length-words len m in
    let region : Region = record { name = bytes_of text name; start = d.count.words; len = wrapped len } in
    let e : region_words len ≡ wrapped len = rw m (length-counted len m) in
    let rc : length d.regions ≡ d.count.regions = h.region_count in
    let words : more d.count.words (region_words len) ≡ d.count.words + wrapped len = rw e (let low = b.0 in let high = b.1 in omega arith) in
    let appended : length (d.regions ++ region ∷ []) ≡ length d.regions + 1 = length-append d.regions (region ∷ []) in
    record {
      region_count = appended ∙ (omega arith);
      lock_count = h.lock_count;
      tiled = rw words (tiled-push 0 d.regions region d.count.words h.tiled refl b.0);
      regions = regions-push names 0 d.regions region d.count.regions (omega arith) h.regions n;
      locks = h.locks;
      aligned = h.aligned;
    }
sound-statement text names d (statement.TheVariants.Word region index value) h o n w r l = record { region_count = h.region_count; lock_count = h.lock_count; tiled = h.tiled; regions = h.regions; locks = h.locks; aligned = h.aligned }
sound-statement text names d (statement.TheVariants.Lock name) h o n w r l =
    let lc : length d.locks ≡ d.count.locks = h.lock_count in
    let appended : length (d.locks ++ bytes_of text name ∷ []) ≡ length d.locks + 1 = length-append d.locks (bytes_of text name ∷ []) in
    record {
      region_count = h.region_count;
      lock_count = appended ∙ (omega arith);
      tiled = h.tiled;
      regions = h.regions;
      locks = locks-push names 0 d.locks (bytes_of text name) d.count.locks (omega arith) h.locks n;
      aligned = h.aligned;
    }
sound-statement text names d statement.TheVariants.Phase h o n w r l = record { region_count = h.region_count; lock_count = h.lock_count; tiled = h.tiled; regions = h.regions; locks = h.locks; aligned = h.aligned }
sound-statement text names d (statement.TheVariants.Tasks f) h o n w r l =
    let first : Start = record { phase = d.phases; core = wrapped f.core; entry = wrapped_entry text names f.entry; arg = f.arg % 2 ^ 32 } in
    let entry : IsAligned first = kind-aligned names (bytes_of text f.entry) f.entry.kind (or-none (not (are_cores f)) (entry_far f.entry.kind) o).1 in
    record {
      region_count = h.region_count;
      lock_count = h.lock_count;
      tiled = h.tiled;
      regions = h.regions;
      locks = h.locks;
      aligned = All-append IsAligned d.tasks (members first f.step (wrapped f.count)) h.aligned (members-aligned first f.step (wrapped f.count) entry);
    }
sound-statement text names d (statement.TheVariants.Uses e) h o n w r l = record { region_count = h.region_count; lock_count = h.lock_count; tiled = h.tiled; regions = h.regions; locks = h.locks; aligned = h.aligned }

pub first-none : {X : Type 0} (a b c e : Bool) (w x y z : X) → (if a then Some w else (if b then Some x else (if c then Some y else (if e then Some z else None)))) ≡ None → (a ≡ false) × (b ≡ false)
first-none true b c e w x y z h = absurd cc
first-none false true c e w x y z h = absurd cc
first-none false false c e w x y z h = (refl, refl)

-- a draft within the limits
pub record IsWithin (d : Draft) : Type 0 where
  pub code : length d.code ≤ 16384
  pub words : d.count.words ≤ 65536
  pub regions : length d.regions ≤ 4096
  pub locks : length d.locks ≤ 32
  pub phases : d.phases ≤ 64
  pub tasks : length d.tasks ≤ 64

pub within-none : IsWithin no_draft
within-none = record { code = omega arith; words = omega arith; regions = omega arith; locks = omega arith; phases = omega arith; tasks = omega arith }

most-within : (version_2 : Bool) → most_regions version_2 ≤ 4096
most-within true = omega arith
most-within false = omega arith

pub within : (version_2 : Bool) (d : Draft) → over_limit version_2 d ≡ false → IsWithin d
within version_2 d e =
    let p = or-none (ltb 16384 (length d.code)) _ e in
    let q = or-none (ltb 65536 d.count.words) _ p.1 in
    let r = or-none (ltb (most_regions version_2) (length d.regions)) _ q.1 in
    let s = or-none (ltb 32 (length d.locks)) _ r.1 in
    let t = or-none (ltb 64 d.phases) (ltb 64 (length d.tasks)) s.1 in
    let most = most-within version_2 in
    let some : length d.regions ≤ most_regions version_2 = ltb-false (most_regions version_2) (length d.regions) r.0 in
    record {
      code = ltb-false 16384 (length d.code) p.0;
      words = ltb-false 65536 d.count.words q.0;
      regions = omega arith;
      locks = ltb-false 32 (length d.locks) s.0;
      phases = ltb-false 64 d.phases t.0;
      tasks = ltb-false 64 (length d.tasks) t.1;
    }

pub sound-after : (text : List ℕ) (names : List ℕ → Option Meaning) (d : Draft) (s : Saying) → Sound names d → IsWithin d → draft_fault text names d s ≡ None → Sound names (draft_after text names d s.statement)
sound-after text names d s h w e =
    let p = first-none (out_of_range text names d s.statement) (doubled_by_meaning text names d.count s) (unknown text names d.count.code s.statement) (misplaced d s.statement) _ _ _ _ e in
    let q = or-none (label_of_doubled text names s.line s.label) (name_doubled text names d.count s.statement) p.1 in
    sound-statement text names d s.statement h p.0 q.1 w.words w.regions w.locks

length-stored : (memory : List ℕ) (vs : List FirstValue) → length (with_first_values memory vs) ≡ length memory
length-stored memory [] = refl
length-stored memory (v ∷ vs) = length-stored (set memory v.word v.value) vs ∙ length-set memory v.word v.value

-- such lines add up to a well-formed program
pub whole : (names : List ℕ → Option Meaning) (d : Draft) → Sound names d → IsWithin d → IsWholeDraft d
whole names d h w =
    let memory : length (with_first_values (replicate d.count.words 0) d.values) ≡ d.count.words = length-stored (replicate d.count.words 0) d.values ∙ length-replicate d.count.words 0 in
    let phases : length (finished_program d).phases ≡ d.phases = length-map (range_with_len 1 d.phases) _ ∙ length-range_with_len 1 d.phases in
    let tasks = tasks-within d.count.words (length d.locks) d.claims d.tasks 1 d.phases in
    record {
      words = w.words;
      locks = w.locks;
      phases = w.phases;
      program = record {
        code = w.code;
        memory = rw memory w.words;
        regions = w.regions;
        locks = w.locks;
        phases = rw phases w.phases;
        tasks = let few = w.tasks in omega arith;
        tiled = rw memory h.tiled;
        names = names-distinct names 0 d.regions d.locks h.regions h.locks;
        each_phase = rw memory (phases-well d.count.words (length d.locks) d.claims d.tasks (range_with_len 1 d.phases) h.aligned);
      };
    }
