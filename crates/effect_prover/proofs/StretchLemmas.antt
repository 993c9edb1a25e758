-- Stretches of words, and the addresses that lie in them.
use Rattle.std.proofs.Common.{◌≡◌, ℕ, zero, suc, ◌+◌, ◌-◌, ◌*◌, ◌/◌, ◌%◌, ◌^◌, ◌<◌, ◌≤◌, max, Bool, true, false, ◌&&◌, ◌||◌, nat_lt, nat_le, List, [], ◌∷◌, ◌++◌, length, get_or, take, slice_get, Some, None, refl, sym, ap, ◌∙◌, subst, arith, ⊎_elim, Decides}
use Rattle.std.proofs.lemmas.Bool.{true≢false, false≢true, cases_lt, or_left, or_right, or_from, and_from, and_left, and_right, le-leb, lt-ltb, le-ltb, lt-leb, cond-true, cond-false}
use Rattle.std.proofs.lemmas.List.{take_more, take_all, length-take-le}
use Rattle.std.specs.List.{All}
use Rattle.std.proofs.lemmas.List.Elements.{All-nil, All-cons}
use Rattle.std.proofs.lemmas.Option.{none-some, same_Some}
use Rattle.region_table.specs.declared.declared.TaskDecl.{TaskDecl}
use Rattle.effect_prover.specs.declared.usable.Access.{Access}
use Rattle.rv_isa.specs.declared.instr.Width.{Width}
use Rattle.rv_isa.specs.declared.instr.Width as width
use Rattle.region_table.specs.declared.interval.Interval.{Interval}
use Rattle.region_table.specs.Words.{has, in_interval, AreApart}
use Rattle.rv_core.specs.Access.{is_held, under}
use Rattle.rv_core.proofs.HighLocks.{holds-high}
use Rattle.rv_core.specs.Address.{data_at, size_of}
use Rattle.effect_prover.specs.declared.range.Range.{Range}
use Rattle.effect_prover.specs.Inside.{IsAllowed, AreAllowed}
use Rattle.effect_prover.specs.Stretch.{IsStretch, may_use, AreUsable, HasWord, IsLastMultiple, IsFirstMultiple}

-- ---- stretches

pub stretch-none : (test : ℕ → Bool) (word : ℕ) → test word ≡ false → IsStretch test word word
stretch-none test word e = record { from = omega arith; all = λ w l h. absurd (omega arith); none = λ _. e }

pub stretch-one : (test : ℕ → Bool) (word : ℕ) → test word ≡ true → IsStretch test word (word + 1)
stretch-one test word e =
    record {
      from = omega arith;
      all = λ w l h. subst (λ (k : ℕ). test k ≡ true) (let same : word ≡ w = omega arith in same) e;
      none = λ same. absurd (omega arith);
    }

pub stretch-or : (a b : ℕ → Bool) (word e f : ℕ) → IsStretch a word e → IsStretch b word f → IsStretch (λ w. a w || b w) word (max e f)
stretch-or a b word e f h k =
    let one' = h.from in
    let two = k.from in
    record {
      from = omega arith;
      all = λ w l m.
          ⊎_elim
          (λ (first : w < e). or_left (a w) (b w) (h.all w l first))
          (λ (past : e ≤ w). or_right (a w) (b w) (k.all w l (omega arith)))
          (cases_lt w e);
      none = λ same. or_from (a word) (b word) (h.none (omega arith)) (k.none (omega arith));
    }

has-at : (is : List Interval) (k : ℕ) (i : Interval) (w : ℕ) → slice_get is k ≡ Some i → i.lo ≤ w → w < i.hi → has is w ≡ true
has-at [] k i w e l h = absurd (none-some i e)
has-at (j ∷ is) zero i w e l h =
    let same : j ≡ i = same_Some j i e in
    or_left (in_interval j w) (has is w)
    (subst (λ (x : Interval). in_interval x w ≡ true) (sym same) (and_from (nat_le i.lo w) (nat_lt w i.hi) (le-leb i.lo w l) (lt-ltb w i.hi h)))
has-at (j ∷ is) (suc k) i w e l h = or_right (in_interval j w) (has is w) (has-at is k i w e l h)

pub stretch-interval : (is : List Interval) (k : ℕ) (i : Interval) (word : ℕ) → slice_get is k ≡ Some i → i.lo ≤ word → word < i.hi → IsStretch (has is) word i.hi
stretch-interval is k i word e l h =
    record { from = omega arith; all = λ w m n. has-at is k i w e (omega arith) n; none = λ same. absurd (omega arith) }

pub stretch-same : (a b : ℕ → Bool) (word e : ℕ) → ((w : ℕ) → b w ≡ a w) → IsStretch a word e → IsStretch b word e
stretch-same a b word e same h = record { from = h.from; all = λ w l m. same w ∙ h.all w l m; none = λ f. same word ∙ h.none f }

-- a set whose lock is held, and one whose lock isn't
pub stretch-held : (held lock : ℕ) (is : List Interval) (word e : ℕ) → is_held held lock ≡ true → IsStretch (has is) word e → IsStretch (λ w. is_held held lock && has is w) word e
stretch-held held lock is word e h s = stretch-same (has is) (λ w. is_held held lock && has is w) word e (λ w. ap (λ (b : Bool). b && has is w) h) s

pub stretch-free : (held lock : ℕ) (is : List Interval) (word : ℕ) → is_held held lock ≡ false → IsStretch (λ w. is_held held lock && has is w) word word
stretch-free held lock is word h = stretch-none (λ w. is_held held lock && has is w) word (ap (λ (b : Bool). b && has is word) h)

pub stretch-high : (held lock : ℕ) (is : List Interval) (word : ℕ) → held < 2 ^ 32 → 32 ≤ lock → IsStretch (λ w. is_held held lock && has is w) word word
stretch-high held lock is word small high = stretch-free held lock is word (holds-high held lock small high)

pub or-none : (a : Bool) → (a || false) ≡ a
or-none true = refl
or-none false = refl

pub or-assoc : (a b c : Bool) → (a || (b || c)) ≡ ((a || b) || c)
or-assoc true b c = refl
or-assoc false b c = refl

-- one more set
under-push : (ss : List (List Interval)) (s : List Interval) (first held w : ℕ) → under (ss ++ s ∷ []) first held w ≡ (under ss first held w || (is_held held (first + length ss) && has s w))
under-push [] s first held w =
    or-none (is_held held first && has s w) ∙ ap (λ (n : ℕ). is_held held n && has s w) (let e : first ≡ first + 0 = omega arith in e)
under-push (t ∷ ss) s first held w =
    let here : Bool = is_held held first && has t w in
    let rest : Bool = under ss (first + 1) held w in
    ap (λ (b : Bool). here || b) (under-push ss s (first + 1) held w)
    ∙ or-assoc here rest (is_held held (first + 1 + length ss) && has s w)
    ∙ ap (λ (n : ℕ). (here || rest) || (is_held held n && has s w)) (let e : first + 1 + length ss ≡ first + suc (length ss) = omega arith in e)

-- one more set of a lock
pub under-more : (sets : List (List Interval)) (k : ℕ) (s : List Interval) (held w : ℕ) → s ≡ get_or sets k s → k < length sets
    → under (take (k + 1) sets) 0 held w ≡ (under (take k sets) 0 held w || (is_held held k && has s w))
under-more sets k s held w is within =
    ap (λ (ss : List (List Interval)). under ss 0 held w) (take_more sets k s within ∙ ap (λ (x : List Interval). take k sets ++ x ∷ []) (sym is))
    ∙ under-push (take k sets) s 0 held w
    ∙ ap (λ (n : ℕ). under (take k sets) 0 held w || (is_held held n && has s w)) (let l = length-take-le k sets (omega arith) in let e : 0 + length (take k sets) ≡ k = omega arith in e)

pub stretch-push : (sets : List (List Interval)) (k : ℕ) (s : List Interval) (held word e f : ℕ) → s ≡ get_or sets k s → k < length sets → IsStretch (under (take k sets) 0 held) word e
    → IsStretch (λ w. is_held held k && has s w) word f → IsStretch (under (take (k + 1) sets) 0 held) word (max e f)
stretch-push sets k s held word e f is within h g =
    stretch-same (λ w. under (take k sets) 0 held w || (is_held held k && has s w)) (under (take (k + 1) sets) 0 held) word (max e f)
    (λ w. under-more sets k s held w is within)
    (stretch-or (under (take k sets) 0 held) (λ w. is_held held k && has s w) word e f h g)

pub stretch-first : (sets : List (List Interval)) (held word : ℕ) → IsStretch (under (take 0 sets) 0 held) word word
stretch-first sets held word = stretch-none (under (take 0 sets) 0 held) word refl

pub stretch-all : (sets : List (List Interval)) (k held word e : ℕ) → length sets ≤ k → IsStretch (under (take k sets) 0 held) word e → IsStretch (under sets 0 held) word e
stretch-all sets k held word e past h = subst (λ (ss : List (List Interval)). IsStretch (under ss 0 held) word e) (take_all k sets past) h

-- ---- from stretch to stretch

pub usable-no : (access : Access) (d : TaskDecl) (held first last word : ℕ) → first ≤ word → word ≤ last → may_use access d held word ≡ false → Decides false (AreUsable access d held first last)
usable-no access d held first last word l h none = (λ e. absurd (false≢true e), λ k. absurd (true≢false (sym (k word l h) ∙ none)))

pub usable-yes : (access : Access) (d : TaskDecl) (held first last word : ℕ) → last < word → ((w : ℕ) → first ≤ w → w < word → may_use access d held w ≡ true)
    → Decides true (AreUsable access d held first last)
usable-yes access d held first last word past h = (λ e w l m. h w l (omega arith), λ k. refl)

pub usable-more : (access : Access) (d : TaskDecl) (held first word end : ℕ) → ((w : ℕ) → first ≤ w → w < word → may_use access d held w ≡ true) → IsStretch (may_use access d held) word end
    → (w : ℕ) → first ≤ w → w < end → may_use access d held w ≡ true
usable-more access d held first word end h s w l m =
    ⊎_elim (λ (before : w < word). h w l before) (λ (past : word ≤ w). s.all w past m) (cases_lt w word)

pub in-no : (set : List Interval) (first last word : ℕ) → first ≤ word → word ≤ last → has set word ≡ false → Decides false ((w : ℕ) → first ≤ w → w ≤ last → has set w ≡ true)
in-no set first last word l h none = (λ e. absurd (false≢true e), λ k. absurd (true≢false (sym (k word l h) ∙ none)))

pub in-yes : (set : List Interval) (first last word : ℕ) → last < word → ((w : ℕ) → first ≤ w → w < word → has set w ≡ true) → Decides true ((w : ℕ) → first ≤ w → w ≤ last → has set w ≡ true)
in-yes set first last word past h = (λ e w l m. h w l (omega arith), λ k. refl)

pub in-more : (set : List Interval) (first word end : ℕ) → ((w : ℕ) → first ≤ w → w < word → has set w ≡ true) → IsStretch (has set) word end → (w : ℕ) → first ≤ w → w < end → has set w ≡ true
in-more set first word end h s w l m =
    ⊎_elim (λ (before : w < word). h w l before) (λ (past : word ≤ w). s.all w past m) (cases_lt w word)

-- ---- one set of several

-- each interval of a set has a word
pub words-some : (from : ℕ) (is : List Interval) → AreApart from is → All HasWord is
words-some from [] a = All-nil HasWord
words-some from (i ∷ is) a = All-cons HasWord i is a.1 (words-some (i.hi + 1) is a.2)

-- ---- addresses

data-some : (words address word : ℕ) → 268435456 ≤ address → (address - 268435456) / 4 ≡ word → word < words → data_at words address ≡ Some word
data-some words address word l is h =
    cond-true (nat_le 268435456 address && nat_lt ((address - 268435456) / 4) words) (Some ((address - 268435456) / 4)) None
    (and_from (nat_le 268435456 address) (nat_lt ((address - 268435456) / 4) words) (le-leb 268435456 address l) (lt-ltb ((address - 268435456) / 4) words (omega arith)))
    ∙ ap Some is

data-low : (words address : ℕ) → address < 268435456 → data_at words address ≡ None
data-low words address l =
    cond-false (nat_le 268435456 address && nat_lt ((address - 268435456) / 4) words) (Some ((address - 268435456) / 4)) None
    (and_left (nat_le 268435456 address) (nat_lt ((address - 268435456) / 4) words) (lt-leb 268435456 address l))

data-high : (words address : ℕ) → words ≤ (address - 268435456) / 4 → data_at words address ≡ None
data-high words address l =
    cond-false (nat_le 268435456 address && nat_lt ((address - 268435456) / 4) words) (Some ((address - 268435456) / 4)) None
    (and_right (nat_le 268435456 address) (nat_lt ((address - 268435456) / 4) words) (le-ltb ((address - 268435456) / 4) words l))

word-multiple : (w : Width) (v : ℕ) → (268435456 + 4 * v) % size_of w ≡ 0
word-multiple width.TheVariants.B v = omega arith
word-multiple width.TheVariants.H v = omega arith
word-multiple width.TheVariants.W v = omega arith
word-multiple width.TheVariants.Bu v = omega arith
word-multiple width.TheVariants.Hu v = omega arith

pub allowed-none : (allowed : ℕ → Bool) (words : ℕ) (w : Width) (range : Range) (last : ℕ) → IsLastMultiple w range.hi last → last < range.lo → Decides true (AreAllowed allowed words w range)
allowed-none allowed words w range last h past =
    (λ e address inside multiple. let m = h.greatest address inside.high multiple in let l = inside.low in absurd (omega arith), λ k. refl)

pub allowed-low : (allowed : ℕ → Bool) (words : ℕ) (w : Width) (range : Range) (first last : ℕ) → IsLastMultiple w range.hi last → IsFirstMultiple w range.lo first → first ≤ last
    → first < 268435456 → Decides false (AreAllowed allowed words w range)
allowed-low allowed words w range first last h f l low = (
  λ e. absurd (false≢true e),
  λ k.
      let a = f.within in
      let b = h.within in
      absurd (subst (IsAllowed allowed) (data-low words first low) (k first (record { low = a; high = omega arith }) f.multiple)),
)

pub allowed-high : (allowed : ℕ → Bool) (words : ℕ) (w : Width) (range : Range) (first last : ℕ) → IsLastMultiple w range.hi last → IsFirstMultiple w range.lo first → first ≤ last
    → words ≤ (last - 268435456) / 4 → Decides false (AreAllowed allowed words w range)
allowed-high allowed words w range first last h f l high = (
  λ e. absurd (false≢true e),
  λ k.
      let a = f.within in
      let b = h.within in
      absurd (subst (IsAllowed allowed) (data-high words last high) (k last (record { low = omega arith; high = b }) h.multiple)),
)

pub allowed-some : (access : Access) (d : TaskDecl) (held words : ℕ) (w : Width) (range : Range) (first last : ℕ) (b : Bool) → IsLastMultiple w range.hi last → IsFirstMultiple w range.lo first
    → first ≤ last → 268435456 ≤ first → (last - 268435456) / 4 < words → Decides b (AreUsable access d held ((first - 268435456) / 4) ((last - 268435456) / 4))
    → Decides b (AreAllowed (may_use access d held) words w range)
allowed-some access d held words w range first last b h f l low high k = (λ e. inside (k.0 e), λ all. k.1 (λ v m n. usable all v m n))
  where
    allowed : ℕ → Bool
    allowed = may_use access d held

    inside : AreUsable access d held ((first - 268435456) / 4) ((last - 268435456) / 4) → AreAllowed allowed words w range
    inside usable_all address has multiple =
        let a = f.least address has.low multiple in
        let z = h.greatest address has.high multiple in
        subst (IsAllowed allowed) (sym (data-some words address ((address - 268435456) / 4) (omega arith) refl (omega arith)))
        (usable_all ((address - 268435456) / 4) (omega arith) (omega arith))

    usable : AreAllowed allowed words w range → (v : ℕ) → (first - 268435456) / 4 ≤ v → v ≤ (last - 268435456) / 4 → allowed v ≡ true
    usable all v m n =
        let p = f.within in
        let q = h.within in
        ⊎_elim
        (λ (early : 268435456 + 4 * v < first).
        subst (IsAllowed allowed) (data-some words first v low (omega arith) (omega arith)) (all first (record { low = p; high = omega arith }) f.multiple))
        (λ (late : first ≤ 268435456 + 4 * v).
        subst (IsAllowed allowed) (data-some words (268435456 + 4 * v) v (omega arith) (omega arith) (omega arith))
        (all (268435456 + 4 * v) (record { low = omega arith; high = omega arith }) (word-multiple w v)))
        (cases_lt (268435456 + 4 * v) first)

pub ruleset stretches = (stretch-none, stretch-one, stretch-or, stretch-interval, stretch-held, stretch-free, stretch-high)

pub ruleset usable = (usable-no, usable-yes, usable-more)

pub ruleset within = (in-no, in-yes, in-more)

pub ruleset allowing = (allowed-none, allowed-low, allowed-high, allowed-some)
