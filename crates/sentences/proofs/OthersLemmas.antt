-- What the sentences on an access say of the other tasks of the phase holds of their effects.
use Rattle.std.proofs.Common.{◌≡◌, ◌≢◌, ℕ, zero, suc, Bool, true, false, cond, not, ◌&&◌, ◌==◌, List, [], ◌∷◌, get_or, Option, Some, None, refl, sym, subst, ◌∙◌, arith}
use Rattle.std.specs.List.{IsAmong}
use Rattle.std.specs.Option.{option_or}
use Rattle.std.proofs.lemmas.Bool.{true≢false, and_parts, eqb-true, eqb-false, not-true, or_left, or_right, or_from}
use Rattle.std.proofs.lemmas.Option.{none-some, same_Some}
use Rattle.region_table.specs.declared.declared.TaskDecl.{TaskDecl}
use Rattle.region_table.specs.Plan.{uses_plainly, task_guards}
use Rattle.region_table.specs.Words.{has}
use Rattle.sentences.specs.declared.uses.Access.{Access}
use Rattle.sentences.specs.declared.uses.Access.TheVariants.{Load, Store}
use Rattle.sentences.specs.declared.others_use.Others.{Others}
use Rattle.sentences.specs.declared.others_use.Others.TheVariants.{Guarding, Contending, Reading, Nobody}
use Rattle.sentences.specs.declared.others_use.Guardian.{Guardian}
use Rattle.sentences.specs.Uses.{lock_from, own_lock, guardian_by, guardian_among, opposes, is_contender, contender_among, is_reader, reader_among, others_by, others_among}
use Rattle.sentences.specs.Causes.{IsUndeclaredBy, HasTask, UsesPlainlySo, IsPlainlyFree}
use Rattle.sentences.proofs.CauseLemmas.{found-set, no-set}

-- ---- tasks among others

first : (t : TaskDecl) (ts : List TaskDecl) → IsAmong (t ∷ ts) t
first t ts = (0, (omega arith, refl))

later : (t : TaskDecl) (ts : List TaskDecl) (x : TaskDecl) → IsAmong ts x → IsAmong (t ∷ ts) x
later t ts x h = let within = h.1.0 in (suc h.0, (omega (arith, within), h.1.1))

further : (t : TaskDecl) (ts : List TaskDecl) (core : ℕ) (P : TaskDecl → Type 0) → HasTask ts core P → HasTask (t ∷ ts) core P
further t ts core P h = record { task = h.task; among = later t ts h.task h.among; own = h.own; passes = h.passes }

-- what holds of the first task and of the later ones holds of all
all-of : (t : TaskDecl) (ts : List TaskDecl) (P : TaskDecl → Type 0) → P t → ((x : TaskDecl) → IsAmong ts x → P x) → (x : TaskDecl) → IsAmong (t ∷ ts) x → P x
all-of t ts P here rest x (zero, h) = subst P (sym h.1) here
all-of t ts P here rest x (suc i, h) = let within = h.0 in rest x (i, (omega (arith, within), h.1))

-- ---- locks that guard the word

no-lock : (x y : Option ℕ) → option_or x y ≡ None → (x ≡ None) × (y ≡ None)
no-lock None y e = (refl, e)
no-lock (Some l) y e = absurd (none-some l (sym e))

unguarded : (t : TaskDecl) (w : ℕ) → own_lock t.effects w ≡ None → (lock : ℕ) → task_guards t lock w ≡ false
unguarded t w e lock =
    let n = no-lock (lock_from 0 t.effects.guarded_writes w) (lock_from 0 t.effects.guarded_reads w) e in
    or_from (has (get_or t.effects.guarded_reads lock []) w) (has (get_or t.effects.guarded_writes lock []) w)
    (no-set 0 t.effects.guarded_reads w lock n.1) (no-set 0 t.effects.guarded_writes w lock n.0)

guards-by : (t : TaskDecl) (w lock : ℕ) (x y : Option ℕ) → lock_from 0 t.effects.guarded_writes w ≡ x → lock_from 0 t.effects.guarded_reads w ≡ y
    → option_or x y ≡ Some lock → task_guards t lock w ≡ true
guards-by t w lock (Some l) y e f g =
    let r = found-set 0 t.effects.guarded_writes w lock (e ∙ g) in
    or_right (has (get_or t.effects.guarded_reads lock []) w) (has (get_or t.effects.guarded_writes lock []) w)
    (subst (λ (i : ℕ). has (get_or t.effects.guarded_writes i []) w ≡ true) (let m = r.1 in let same : r.0 ≡ lock = omega (arith, m) in same) r.2)
guards-by t w lock None y e f g =
    let r = found-set 0 t.effects.guarded_reads w lock (f ∙ g) in
    or_left (has (get_or t.effects.guarded_reads lock []) w) (has (get_or t.effects.guarded_writes lock []) w)
    (subst (λ (i : ℕ). has (get_or t.effects.guarded_reads i []) w ≡ true) (let m = r.1 in let same : r.0 ≡ lock = omega (arith, m) in same) r.2)

guards : (t : TaskDecl) (w lock : ℕ) → own_lock t.effects w ≡ Some lock → task_guards t lock w ≡ true
guards t w lock e = guards-by t w lock (lock_from 0 t.effects.guarded_writes w) (lock_from 0 t.effects.guarded_reads w) refl refl e

pub none-guards : (ts : List TaskDecl) (w : ℕ) → guardian_among ts w ≡ None → (t : TaskDecl) → IsAmong ts t → (lock : ℕ) → task_guards t lock w ≡ false
none-guards [] w e = λ t among lock. let l = among.1.0 in absurd (omega (arith, l))
none-guards (t ∷ ts) w e = by (own_lock t.effects w) refl e (λ f. none-guards ts w f)
  where
    by : (o : Option ℕ) → own_lock t.effects w ≡ o → option_or (guardian_by t.core.0 o) (guardian_among ts w) ≡ None
        → (guardian_among ts w ≡ None → (x : TaskDecl) → IsAmong ts x → (lock : ℕ) → task_guards x lock w ≡ false)
        → (x : TaskDecl) → IsAmong (t ∷ ts) x → (lock : ℕ) → task_guards x lock w ≡ false
    by None o e rest = all-of t ts (λ (x : TaskDecl). (lock : ℕ) → task_guards x lock w ≡ false) (unguarded t w o) (rest e)
    by (Some l) o e rest = absurd (none-some (record { core = t.core.0; lock = l }) (sym e))

pub some-guards : (ts : List TaskDecl) (w : ℕ) (g : Guardian) → guardian_among ts w ≡ Some g → HasTask ts g.core (λ t. task_guards t g.lock w ≡ true)
some-guards [] w g e = absurd (none-some g e)
some-guards (t ∷ ts) w g e = by (own_lock t.effects w) refl e (λ f. some-guards ts w g f)
  where
    here : (l : ℕ) → own_lock t.effects w ≡ Some l → HasTask (t ∷ ts) t.core.0 (λ t. task_guards t l w ≡ true)
    here l o = record { task = t; among = first t ts; own = refl; passes = guards t w l o }

    by : (x : Option ℕ) → own_lock t.effects w ≡ x → option_or (guardian_by t.core.0 x) (guardian_among ts w) ≡ Some g
        → (guardian_among ts w ≡ Some g → HasTask ts g.core (λ t. task_guards t g.lock w ≡ true)) → HasTask (t ∷ ts) g.core (λ t. task_guards t g.lock w ≡ true)
    by None o e rest = further t ts g.core (λ t. task_guards t g.lock w ≡ true) (rest e)
    by (Some l) o e rest =
        subst (λ (g : Guardian). HasTask (t ∷ ts) g.core (λ t. task_guards t g.lock w ≡ true)) (same_Some (record { core = t.core.0; lock = l }) g e) (here l o)

-- ---- tasks that use the word plainly

-- a search for a task of another core that passes a test
apart : (core : ℕ) (t : TaskDecl) (b : Bool) → (not (t.core.0 == core) && b) ≡ false → t.core.0 ≢ core → b ≡ false
apart core t b e other = by (t.core.0 == core) refl e
  where
    by : (c : Bool) → (t.core.0 == core) ≡ c → (not c && b) ≡ false → b ≡ false
    by true c e = absurd (other (eqb-true t.core.0 core c))
    by false c e = e

both : (core : ℕ) (t : TaskDecl) (b : Bool) → (not (t.core.0 == core) && b) ≡ true → (t.core.0 ≢ core) × (b ≡ true)
both core t b e = let p = and_parts (not (t.core.0 == core)) b e in (eqb-false t.core.0 core (not-true (t.core.0 == core) p.0), p.1)

contends-so : (a : Access) (t : TaskDecl) (w : ℕ) → opposes a t w ≡ true → UsesPlainlySo a t w
contends-so Load t w e = e
contends-so Store t w e = e

not-so : (a : Access) (t : TaskDecl) (w : ℕ) → opposes a t w ≡ false → UsesPlainlySo a t w → ⊥
not-so Load t w e h = true≢false (sym h ∙ e)
not-so Store t w e h = true≢false (sym h ∙ e)

pub none-contends : (a : Access) (core : ℕ) (ts : List TaskDecl) (w : ℕ) → contender_among a core ts w ≡ None → (t : TaskDecl) → IsAmong ts t → t.core.0 ≢ core
    → opposes a t w ≡ false
none-contends a core [] w e = λ t among other. let l = among.1.0 in absurd (omega (arith, l))
none-contends a core (t ∷ ts) w e = by (is_contender a core t w) refl e (λ f. none-contends a core ts w f)
  where
    by : (b : Bool) → is_contender a core t w ≡ b → cond b (Some t.core.0) (contender_among a core ts w) ≡ None
        → (contender_among a core ts w ≡ None → (x : TaskDecl) → IsAmong ts x → x.core.0 ≢ core → opposes a x w ≡ false)
        → (x : TaskDecl) → IsAmong (t ∷ ts) x → x.core.0 ≢ core → opposes a x w ≡ false
    by true b e rest = absurd (none-some t.core.0 (sym e))
    by false b e rest = all-of t ts (λ (x : TaskDecl). x.core.0 ≢ core → opposes a x w ≡ false) (apart core t (opposes a t w) b) (rest e)

-- the task that is found is of another core
abbrev pub IsFoundSo : (TaskDecl → Type 0) → ℕ → List TaskDecl → ℕ → Type 0
IsFoundSo P core ts c = HasTask ts c P × (c ≢ core)

pub some-contends : (a : Access) (core : ℕ) (ts : List TaskDecl) (w c : ℕ) → contender_among a core ts w ≡ Some c → IsFoundSo (λ t. UsesPlainlySo a t w) core ts c
some-contends a core [] w c e = absurd (none-some c e)
some-contends a core (t ∷ ts) w c e = by (is_contender a core t w) refl e (λ f. some-contends a core ts w c f)
  where
    by : (b : Bool) → is_contender a core t w ≡ b → cond b (Some t.core.0) (contender_among a core ts w) ≡ Some c
        → (contender_among a core ts w ≡ Some c → IsFoundSo (λ t. UsesPlainlySo a t w) core ts c) → IsFoundSo (λ t. UsesPlainlySo a t w) core (t ∷ ts) c
    by true b e rest =
        let p = both core t (opposes a t w) b in
        let same = same_Some t.core.0 c e in
        (record { task = t; among = first t ts; own = same; passes = contends-so a t w p.1 }, λ h. p.0 (same ∙ h))
    by false b e rest = let r = rest e in (further t ts c (λ t. UsesPlainlySo a t w) r.0, r.1)

pub none-reads : (core : ℕ) (ts : List TaskDecl) (w : ℕ) → reader_among core ts w ≡ None → (t : TaskDecl) → IsAmong ts t → t.core.0 ≢ core → has t.effects.reads w ≡ false
none-reads core [] w e = λ t among other. let l = among.1.0 in absurd (omega (arith, l))
none-reads core (t ∷ ts) w e = by (is_reader core t w) refl e (λ f. none-reads core ts w f)
  where
    by : (b : Bool) → is_reader core t w ≡ b → cond b (Some t.core.0) (reader_among core ts w) ≡ None
        → (reader_among core ts w ≡ None → (x : TaskDecl) → IsAmong ts x → x.core.0 ≢ core → has x.effects.reads w ≡ false)
        → (x : TaskDecl) → IsAmong (t ∷ ts) x → x.core.0 ≢ core → has x.effects.reads w ≡ false
    by true b e rest = absurd (none-some t.core.0 (sym e))
    by false b e rest = all-of t ts (λ (x : TaskDecl). x.core.0 ≢ core → has x.effects.reads w ≡ false) (apart core t (has t.effects.reads w) b) (rest e)

pub some-reads : (core : ℕ) (ts : List TaskDecl) (w c : ℕ) → reader_among core ts w ≡ Some c → IsFoundSo (λ t. has t.effects.reads w ≡ true) core ts c
some-reads core [] w c e = absurd (none-some c e)
some-reads core (t ∷ ts) w c e = by (is_reader core t w) refl e (λ f. some-reads core ts w c f)
  where
    by : (b : Bool) → is_reader core t w ≡ b → cond b (Some t.core.0) (reader_among core ts w) ≡ Some c
        → (reader_among core ts w ≡ Some c → IsFoundSo (λ t. has t.effects.reads w ≡ true) core ts c) → IsFoundSo (λ t. has t.effects.reads w ≡ true) core (t ∷ ts) c
    by true b e rest =
        let p = both core t (has t.effects.reads w) b in
        let same = same_Some t.core.0 c e in
        (record { task = t; among = first t ts; own = same; passes = p.1 }, λ h. p.0 (same ∙ h))
    by false b e rest = let r = rest e in (further t ts c (λ t. has t.effects.reads w ≡ true) r.0, r.1)

-- ---- what is said of the others

abbrev pub Tells : Access → ℕ → List TaskDecl → ℕ → Others → Type 0
Tells a core ts w (Guarding g) = HasTask ts g.core (λ t. task_guards t g.lock w ≡ true)
Tells a core ts w (Contending c) = IsFoundSo (λ t. UsesPlainlySo a t w) core ts c
Tells a core ts w (Reading c) = IsFoundSo (λ t. has t.effects.reads w ≡ true) core ts c × IsPlainlyFree a core ts w
Tells a core ts w Nobody = ((t : TaskDecl) → IsAmong ts t → t.core.0 ≢ core → IsUndeclaredBy t w) × IsPlainlyFree a core ts w

plainly-free : (a : Access) (core : ℕ) (ts : List TaskDecl) (w : ℕ) → guardian_among ts w ≡ None → contender_among a core ts w ≡ None → IsPlainlyFree a core ts w
plainly-free a core ts w g c =
    record {
      unguarded = λ t lock among. none-guards ts w g t among lock;
      apart = λ t among other. not-so a t w (none-contends a core ts w c t among other);
    }

unused : (a : Access) (t : TaskDecl) (w : ℕ) → opposes a t w ≡ false → has t.effects.reads w ≡ false → uses_plainly t w ≡ false
unused Load t w c r = or_from (has t.effects.reads w) (has t.effects.writes w) r c
unused Store t w c r = c

tells-by : (a : Access) (core : ℕ) (ts : List TaskDecl) (w : ℕ) (g : Option Guardian) (c r : Option ℕ) → guardian_among ts w ≡ g → contender_among a core ts w ≡ c
    → reader_among core ts w ≡ r → Tells a core ts w (others_by g c r)
tells-by a core ts w (Some g) c r e f h = some-guards ts w g e
tells-by a core ts w None (Some c) r e f h = some-contends a core ts w c f
tells-by a core ts w None None (Some r) e f h = (some-reads core ts w r h, plainly-free a core ts w e f)
tells-by a core ts w None None None e f h = (
  λ t among other.
      record {
        plain = unused a t w (none-contends a core ts w f t among other) (none-reads core ts w h t among other);
        guarded = none-guards ts w e t among;
      },
  plainly-free a core ts w e f,
)

pub others-are : (a : Access) (core : ℕ) (ts : List TaskDecl) (w : ℕ) (o : Others) → others_among a core ts w ≡ o → Tells a core ts w o
others-are a core ts w o e =
    subst (Tells a core ts w) e (tells-by a core ts w (guardian_among ts w) (contender_among a core ts w) (reader_among core ts w) refl refl refl)
