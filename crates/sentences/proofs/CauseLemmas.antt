-- What the sentences on an access say of effects and locks holds by the rules of access.
use Rattle.std.proofs.Common.{◌≡◌, ℕ, zero, suc, ◌+◌, Bool, true, false, cond, ◌&&◌, ◌||◌, List, [], ◌∷◌, get_or, Option, Some, None, refl, sym, subst, arith}
use Rattle.std.specs.Option.{option_or}
use Rattle.std.proofs.lemmas.Bool.{true≢false, false≢true, and_from, and_right, or_left, or_right, or_from, false_from_ne_true}
use Rattle.std.proofs.lemmas.Option.{none-some, same_Some}
use Rattle.region_table.specs.declared.interval.Interval.{Interval}
use Rattle.region_table.specs.declared.declared.TaskDecl.{TaskDecl}
use Rattle.region_table.specs.Plan.{uses_plainly, task_guards}
use Rattle.region_table.specs.Words.{has}
use Rattle.rv_core.specs.Access.{is_held, under, may_load, may_store}
use Rattle.sentences.specs.declared.uses.Access.{Access}
use Rattle.sentences.specs.declared.uses.Access.TheVariants.{Load, Store}
use Rattle.sentences.specs.declared.uses.OwnUse.{OwnUse}
use Rattle.sentences.specs.declared.uses.OwnUse.TheVariants.{Free, Guarded, ReadUnder, ReadOnly, Undeclared}
use Rattle.sentences.specs.Uses.{may_use, lock_from, own_lock, guarded_use, store_under, own_use}
use Rattle.sentences.specs.Causes.{IsUndeclaredBy, DeclaresPlainly, DeclaresUnder}

-- ---- the first set that has a word

pub found-set : (n : ℕ) (ss : List (List Interval)) (w l : ℕ) → lock_from n ss w ≡ Some l → (i : ℕ) × (l ≡ n + i) × (has (get_or ss i []) w ≡ true)
found-set n [] w l e = absurd (none-some l e)
found-set n (s ∷ ss) w l e = by (has s w) refl e (λ f. found-set (n + 1) ss w l f)
  where
    by : (b : Bool) → has s w ≡ b → cond b (Some n) (lock_from (n + 1) ss w) ≡ Some l
        → (lock_from (n + 1) ss w ≡ Some l → (i : ℕ) × (l ≡ n + 1 + i) × (has (get_or ss i []) w ≡ true)) → (i : ℕ) × (l ≡ n + i) × (has (get_or (s ∷ ss) i []) w ≡ true)
    by true h e later = let same = same_Some n l e in (0, omega (arith, same), h)
    by false h e later = let r = later e in let place = r.1 in (suc r.0, omega (arith, place), r.2)

pub no-set : (n : ℕ) (ss : List (List Interval)) (w i : ℕ) → lock_from n ss w ≡ None → has (get_or ss i []) w ≡ false
no-set n [] w i e = refl
no-set n (s ∷ ss) w i e = by (has s w) refl e i (λ k f. no-set (n + 1) ss w k f)
  where
    by : (b : Bool) → has s w ≡ b → cond b (Some n) (lock_from (n + 1) ss w) ≡ None → (i : ℕ) → ((k : ℕ) → lock_from (n + 1) ss w ≡ None → has (get_or ss k []) w ≡ false)
        → has (get_or (s ∷ ss) i []) w ≡ false
    by true h e i later = absurd (none-some n (sym e))
    by false h e zero later = h
    by false h e (suc i) later = later i e

at-place : (held f i g : ℕ) → f + i ≡ g → is_held held (f + i) ≡ true → is_held held g ≡ true
at-place held f i g e h = subst (λ (l : ℕ). is_held held l ≡ true) e h

pub under-held : (ss : List (List Interval)) (f held w i : ℕ) → has (get_or ss i []) w ≡ true → is_held held (f + i) ≡ true → under ss f held w ≡ true
under-held [] f held w i h k = absurd (false≢true h)
under-held (s ∷ ss) f held w zero h k =
    or_left (is_held held f && has s w) (under ss (f + 1) held w) (and_from (is_held held f) (has s w) (at-place held f 0 f (omega arith) k) h)
under-held (s ∷ ss) f held w (suc i) h k =
    or_right (is_held held f && has s w) (under ss (f + 1) held w)
    (under-held ss (f + 1) held w i h (subst (λ (l : ℕ). is_held held l ≡ true) (let e : f + suc i ≡ f + 1 + i = omega arith in e) k))

pub under-none : (n : ℕ) (ss : List (List Interval)) (f held w : ℕ) → lock_from n ss w ≡ None → under ss f held w ≡ false
under-none n [] f held w e = refl
under-none n (s ∷ ss) f held w e = by (has s w) refl e (λ k. under-none (n + 1) ss (f + 1) held w k)
  where
    by : (b : Bool) → has s w ≡ b → cond b (Some n) (lock_from (n + 1) ss w) ≡ None → (lock_from (n + 1) ss w ≡ None → under ss (f + 1) held w ≡ false)
        → under (s ∷ ss) f held w ≡ false
    by true h e later = absurd (none-some n (sym e))
    by false h e later = or_from (is_held held f && has s w) (under ss (f + 1) held w) (and_right (is_held held f) (has s w) h) (later e)

-- the lock of the first set that has the word is held
pub under-lock : (ss : List (List Interval)) (held w lock : ℕ) → lock_from 0 ss w ≡ Some lock → is_held held lock ≡ true → under ss 0 held w ≡ true
under-lock ss held w lock e h =
    let r = found-set 0 ss w lock e in
    under-held ss 0 held w r.0 r.2 (subst (λ (l : ℕ). is_held held l ≡ true) r.1 h)

-- ---- rights

load-reads : (d : TaskDecl) (held w : ℕ) → has d.effects.reads w ≡ true → may_load d held w ≡ true
load-reads d held w h =
    or_left (uses_plainly d w || under d.effects.guarded_reads 0 held w) (under d.effects.guarded_writes 0 held w)
    (or_left (uses_plainly d w) (under d.effects.guarded_reads 0 held w) (or_left (has d.effects.reads w) (has d.effects.writes w) h))

load-writes : (d : TaskDecl) (held w : ℕ) → has d.effects.writes w ≡ true → may_load d held w ≡ true
load-writes d held w h =
    or_left (uses_plainly d w || under d.effects.guarded_reads 0 held w) (under d.effects.guarded_writes 0 held w)
    (or_left (uses_plainly d w) (under d.effects.guarded_reads 0 held w) (or_right (has d.effects.reads w) (has d.effects.writes w) h))

load-greads : (d : TaskDecl) (held w : ℕ) → under d.effects.guarded_reads 0 held w ≡ true → may_load d held w ≡ true
load-greads d held w h =
    or_left (uses_plainly d w || under d.effects.guarded_reads 0 held w) (under d.effects.guarded_writes 0 held w)
    (or_right (uses_plainly d w) (under d.effects.guarded_reads 0 held w) h)

load-gwrites : (d : TaskDecl) (held w : ℕ) → under d.effects.guarded_writes 0 held w ≡ true → may_load d held w ≡ true
load-gwrites d held w h = or_right (uses_plainly d w || under d.effects.guarded_reads 0 held w) (under d.effects.guarded_writes 0 held w) h

store-writes : (d : TaskDecl) (held w : ℕ) → has d.effects.writes w ≡ true → may_store d held w ≡ true
store-writes d held w h = or_left (has d.effects.writes w) (under d.effects.guarded_writes 0 held w) h

store-gwrites : (d : TaskDecl) (held w : ℕ) → under d.effects.guarded_writes 0 held w ≡ true → may_store d held w ≡ true
store-gwrites d held w h = or_right (has d.effects.writes w) (under d.effects.guarded_writes 0 held w) h

-- an effect that is named as the remedy gives the right
pub plain-right : (a : Access) (d : TaskDecl) (held w : ℕ) → DeclaresPlainly a d w → may_use a d held w ≡ true
plain-right Load d held w h = load-reads d held w h
plain-right Store d held w h = store-writes d held w h

pub guarded-right : (a : Access) (d : TaskDecl) (held lock w : ℕ) → DeclaresUnder a lock d w → is_held held lock ≡ true → may_use a d held w ≡ true
guarded-right Load d held lock w h k =
    load-greads d held w (under-held d.effects.guarded_reads 0 held w lock h (subst (λ (l : ℕ). is_held held l ≡ true) (let e : lock ≡ 0 + lock = omega arith in e) k))
guarded-right Store d held lock w h k =
    store-gwrites d held w (under-held d.effects.guarded_writes 0 held w lock h (subst (λ (l : ℕ). is_held held l ≡ true) (let e : lock ≡ 0 + lock = omega arith in e) k))

-- ---- what the task declares

-- what a use says
abbrev pub Says : Access → TaskDecl → ℕ → OwnUse → Type 0
Says a d w Free = (held : ℕ) → may_use a d held w ≡ true
Says a d w (Guarded lock) = (held : ℕ) → is_held held lock ≡ true → may_use a d held w ≡ true
Says a d w (ReadUnder lock) = (held : ℕ) → (may_store d held w ≡ false) × (is_held held lock ≡ true → may_load d held w ≡ true)
Says a d w ReadOnly = (held : ℕ) → (may_store d held w ≡ false) × (may_load d held w ≡ true)
Says a d w Undeclared = IsUndeclaredBy d w

unguarded : (d : TaskDecl) (w lock : ℕ) → lock_from 0 d.effects.guarded_writes w ≡ None → lock_from 0 d.effects.guarded_reads w ≡ None → task_guards d lock w ≡ false
unguarded d w lock stores loads =
    or_from (has (get_or d.effects.guarded_reads lock []) w) (has (get_or d.effects.guarded_writes lock []) w)
    (no-set 0 d.effects.guarded_reads w lock loads) (no-set 0 d.effects.guarded_writes w lock stores)

undeclared : (d : TaskDecl) (w : ℕ) → has d.effects.writes w ≡ false → has d.effects.reads w ≡ false → lock_from 0 d.effects.guarded_writes w ≡ None
    → lock_from 0 d.effects.guarded_reads w ≡ None → IsUndeclaredBy d w
undeclared d w writes reads stores loads =
    record { plain = or_from (has d.effects.reads w) (has d.effects.writes w) reads writes; guarded = λ lock. unguarded d w lock stores loads }

load-guarded : (d : TaskDecl) (w : ℕ) (x y : Option ℕ) → lock_from 0 d.effects.guarded_writes w ≡ x → lock_from 0 d.effects.guarded_reads w ≡ y
    → has d.effects.writes w ≡ false → has d.effects.reads w ≡ false → Says Load d w (guarded_use (option_or x y))
load-guarded d w (Some lock) y e f writes reads = λ held h. load-gwrites d held w (under-lock d.effects.guarded_writes held w lock e h)
load-guarded d w None (Some lock) e f writes reads = λ held h. load-greads d held w (under-lock d.effects.guarded_reads held w lock f h)
load-guarded d w None None e f writes reads = undeclared d w writes reads e f

load-says : (d : TaskDecl) (w : ℕ) (b c : Bool) → has d.effects.writes w ≡ b → has d.effects.reads w ≡ c
    → Says Load d w (cond (b || c) Free (guarded_use (own_lock d.effects w)))
load-says d w true c e f = λ held. load-writes d held w e
load-says d w false true e f = λ held. load-reads d held w f
load-says d w false false e f = load-guarded d w (lock_from 0 d.effects.guarded_writes w) (lock_from 0 d.effects.guarded_reads w) refl refl e f

no-store : (d : TaskDecl) (held w : ℕ) → has d.effects.writes w ≡ false → lock_from 0 d.effects.guarded_writes w ≡ None → may_store d held w ≡ false
no-store d held w writes stores =
    or_from (has d.effects.writes w) (under d.effects.guarded_writes 0 held w) writes (under-none 0 d.effects.guarded_writes 0 held w stores)

store-under : (d : TaskDecl) (w : ℕ) (x y : Option ℕ) (c : Bool) → lock_from 0 d.effects.guarded_writes w ≡ x → lock_from 0 d.effects.guarded_reads w ≡ y
    → has d.effects.reads w ≡ c → has d.effects.writes w ≡ false → Says Store d w (store_under x y c)
store-under d w (Some lock) y c e f reads writes = λ held h. store-gwrites d held w (under-lock d.effects.guarded_writes held w lock e h)
store-under d w None (Some lock) c e f reads writes =
    λ held. (no-store d held w writes e, λ h. load-greads d held w (under-lock d.effects.guarded_reads held w lock f h))
store-under d w None None true e f reads writes = λ held. (no-store d held w writes e, load-reads d held w reads)
store-under d w None None false e f reads writes = undeclared d w writes reads e f

store-says : (d : TaskDecl) (w : ℕ) (b : Bool) → has d.effects.writes w ≡ b
    → Says Store d w (cond b Free (store_under (lock_from 0 d.effects.guarded_writes w) (lock_from 0 d.effects.guarded_reads w) (has d.effects.reads w)))
store-says d w true e = λ held. store-writes d held w e
store-says d w false e =
    store-under d w (lock_from 0 d.effects.guarded_writes w) (lock_from 0 d.effects.guarded_reads w) (has d.effects.reads w) refl refl refl e

own-says : (a : Access) (d : TaskDecl) (w : ℕ) → Says a d w (own_use a d.effects w)
own-says Load d w = load-says d w (has d.effects.writes w) (has d.effects.reads w) refl refl
own-says Store d w = store-says d w (has d.effects.writes w) refl

-- what one use says, where the use is this one
pub own-is : (a : Access) (d : TaskDecl) (w : ℕ) (u : OwnUse) → own_use a d.effects w ≡ u → Says a d w u
own-is a d w u e = subst (Says a d w) e (own-says a d w)

pub free-may : (a : Access) (d : TaskDecl) (held w : ℕ) → own_use a d.effects w ≡ Free → may_use a d held w ≡ true
free-may a d held w e = own-is a d w Free e held

pub held-may : (a : Access) (d : TaskDecl) (held w lock : ℕ) → own_use a d.effects w ≡ Guarded lock → is_held held lock ≡ true → may_use a d held w ≡ true
held-may a d held w lock e h = own-is a d w (Guarded lock) e held h

pub not-held : (a : Access) (d : TaskDecl) (held w lock : ℕ) → own_use a d.effects w ≡ Guarded lock → may_use a d held w ≡ false → is_held held lock ≡ false
not-held a d held w lock e trapped =
    false_from_ne_true (is_held held lock) (λ h. true≢false (subst (λ (b : Bool). b ≡ false) (held-may a d held w lock e h) trapped))

pub read-under : (a : Access) (d : TaskDecl) (held w lock : ℕ) → own_use a d.effects w ≡ ReadUnder lock
    → (may_store d held w ≡ false) × (is_held held lock ≡ true → may_load d held w ≡ true)
read-under a d held w lock e = own-is a d w (ReadUnder lock) e held

pub read-only : (a : Access) (d : TaskDecl) (held w : ℕ) → own_use a d.effects w ≡ ReadOnly → (may_store d held w ≡ false) × (may_load d held w ≡ true)
read-only a d held w e = own-is a d w ReadOnly e held

pub is-undeclared : (a : Access) (d : TaskDecl) (w : ℕ) → own_use a d.effects w ≡ Undeclared → IsUndeclaredBy d w
is-undeclared a d w e = own-is a d w Undeclared e
