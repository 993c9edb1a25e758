-- A phase, from the outlines of its tasks and what they did together.
use Rattle.std.proofs.Common.{◌≡◌, ℕ, zero, suc, ◌+◌, ◌<◌, Bool, true, false, ◌&&◌, ◌||◌, if◌then◌else◌, List, [], ◌∷◌, ◌++◌, length, map, drop, get_or, slice_index_or, Option, Some, None, refl, sym, ap, ◌∙◌, subst, arith}
use Rattle.std.specs.List.{find, list_any, list_all}
use Rattle.std.specs.Option.{option_or, option_map}
use Rattle.std.proofs.lemmas.List.{drop_more}
use Rattle.std.proofs.lemmas.List.Folds.{list_all-map}
use Rattle.region_table.specs.Program.{ProgramParts}
use Rattle.region_table.specs.declared.declared.TaskDecl.{TaskDecl}
use Rattle.region_table.specs.declared.declared.Phase.{Phase}
use Rattle.rv_core.specs.declared.ending.TaskEnd.{TaskEnd}
use Rattle.rv_core.specs.Access.{is_held}
use Rattle.common_outcomes.specs.declared.value.Value.{Value}
use Rattle.common_outcomes.specs.declared.value.Effect.{Effect}
use Rattle.common_outcomes.specs.declared.value.Effect.TheVariants.{Kept}
use Rattle.common_outcomes.specs.declared.answer.Open.{Open}
use Rattle.common_outcomes.specs.declared.answer.Open.TheVariants.{Held, Stuck}
use Rattle.common_outcomes.specs.declared.answer.Outcomes.{Outcomes}
use Rattle.common_outcomes.specs.declared.answer.Outcomes as answer
use Rattle.common_outcomes.specs.Values.{known, joined_effect, applied}
use Rattle.common_outcomes.specs.Alone.{cell_at}
use Rattle.common_outcomes.specs.Phases.{Summary, summary, summaries, effects_at, after_from, is_control_open, takes_elsewhere, leads, leads_to, is_on_circle}
use Rattle.common_outcomes.specs.Answer.{locks_up_to, control_of, held_lock, first_held, first_stuck, open_of, end_alone, settled_with, has_ended_well, answer_by, answer_from}
use Rattle.common_outcomes.proofs.EffectLemmas.{joined-assoc}
use Rattle.common_outcomes.proofs.Opening.{map-over}
use Rattle.common_outcomes.proofs.Summing.{after-here}
use Rattle.outcomes_top.specs.declared.phase.Progress.TheVariants.{Over, Goes}
use Rattle.outcomes_top.specs.Effects.{effect_at, AreEffectsOf, without_words, outline_alone, answer_after}
use Rattle.outcomes_top.proofs.TrackLemmas.{kept-right}

-- ---- lists

find-same : {X : Type 0} (p q : X → Bool) (xs : List X) → ((x : X) → p x ≡ q x) → find p xs ≡ find q xs
find-same p q [] h = refl
find-same p q (x ∷ xs) h =
    ap (λ (b : Bool). if b then Some x else find p xs) (h x) ∙ ap (λ (o : Option _). if q x then Some x else o) (find-same p q xs h)

any-map : {X Y : Type 0} (p : Y → Bool) (g : X → Y) (xs : List X) → list_any p (map g xs) ≡ list_any (λ (x : X). p (g x)) xs
any-map p g [] = refl
any-map p g (x ∷ xs) = ap (λ (b : Bool). p (g x) || b) (any-map p g xs)

-- ---- without words a phase is open for the same reason

control-same : (n : ℕ) (rs : List Summary) → option_map (control_of n) (find is_control_open (map without_words rs)) ≡ option_map (control_of n) (find is_control_open rs)
control-same n [] = refl
control-same n (r ∷ rs) = by_test (is_control_open r) (control-same n rs)
  where
    by_test : (b : Bool) → option_map (control_of n) (find is_control_open (map without_words rs)) ≡ option_map (control_of n) (find is_control_open rs)
        → option_map (control_of n) (if b then Some (without_words r) else find is_control_open (map without_words rs)) ≡ option_map (control_of n) (if b then Some r else find is_control_open rs)
    by_test true again = refl
    by_test false again = again

lock-same : (all : List Summary) (r : Summary) → held_lock (map without_words all) (without_words r) ≡ held_lock all r
lock-same all r =
    find-same (λ (l : ℕ). is_held r.alone.state.held l && list_any (takes_elsewhere r.decl l) (map without_words all)) (λ (l : ℕ). is_held r.alone.state.held l && list_any (takes_elsewhere r.decl l) all) locks_up_to
    (λ (l : ℕ). ap (λ (b : Bool). is_held r.alone.state.held l && b) (any-map (takes_elsewhere r.decl l) without_words all))

held-same : (n : ℕ) (all rs : List Summary) → first_held n (map without_words all) (map without_words rs) ≡ first_held n all rs
held-same n all [] = refl
held-same n all (r ∷ rs) =
    ap (λ (o : Option ℕ). option_or (option_map (λ (l : ℕ). Held (record { 0 = n }) r.decl.core (record { 0 = l })) o) (first_held n (map without_words all) (map without_words rs))) (lock-same all r)
    ∙ ap (option_or (option_map (λ (l : ℕ). Held (record { 0 = n }) r.decl.core (record { 0 = l })) (held_lock all r))) (held-same n all rs)

pub leads-same : (rs : List Summary) (n a b : ℕ) → leads (map without_words rs) n a b ≡ leads rs n a b
leads-same rs zero a b = any-map (λ (r : Summary). is_held (slice_index_or r.alone.over b 0) a) without_words rs
leads-same rs (suc n) a b =
    ap (λ (x : Bool). x || (leads (map without_words rs) n a n && leads (map without_words rs) n n b)) (leads-same rs n a b)
    ∙ ap (λ (x : Bool). leads rs n a b || (x && leads (map without_words rs) n n b)) (leads-same rs n a n)
    ∙ ap (λ (x : Bool). leads rs n a b || (leads rs n a n && x)) (leads-same rs n n b)

circle-same : (rs : List Summary) (l : ℕ) → is_on_circle (map without_words rs) l ≡ is_on_circle rs l
unfolding leads_to
circle-same rs l = leads-same rs 32 l l

stuck-same : (n : ℕ) (rs : List Summary) → first_stuck n (map without_words rs) ≡ first_stuck n rs
stuck-same n rs =
    ap (option_map (λ (l : ℕ). Stuck (record { 0 = n }) (record { 0 = l }))) (find-same (is_on_circle (map without_words rs)) (is_on_circle rs) locks_up_to (circle-same rs))

pub open-same : (n : ℕ) (rs : List Summary) → open_of n (map without_words rs) ≡ open_of n rs
open-same n rs =
    ap (λ (o : Option Open). option_or o (option_or (first_held n (map without_words rs) (map without_words rs)) (first_stuck n (map without_words rs)))) (control-same n rs)
    ∙ ap (λ (o : Option Open). option_or (option_map (control_of n) (find is_control_open rs)) (option_or o (first_stuck n (map without_words rs)))) (held-same n rs rs)
    ∙ ap (λ (o : Option Open). option_or (option_map (control_of n) (find is_control_open rs)) (option_or (first_held n rs rs) o)) (stuck-same n rs)

pub ends-same : (n : ℕ) (rs : List Summary) → map (end_alone n) (map without_words rs) ≡ map (end_alone n) rs
ends-same n rs = map-over (end_alone n) without_words rs

pub well-same : (rs : List Summary) → list_all has_ended_well (map without_words rs) ≡ list_all has_ended_well rs
well-same rs = list_all-map has_ended_well without_words rs

pub outlines : (P : ProgramParts) (fuel : ℕ) (p : Phase) (first : List Value) → map (outline_alone P fuel p first) p.tasks ≡ map without_words (summaries P fuel p first)
outlines P fuel p first = sym (map-over without_words (summary P fuel p first) p.tasks)

-- ---- what the tasks did, one after the other

-- with what the tasks from place k on do, the effects so far are those of all
abbrev pub Leads : List Summary → List Summary → List Effect → Type 0
Leads all left effects = (w : ℕ) → w < length effects → joined_effect (effect_at effects w) (effects_at left w) ≡ effects_at all w

pub none-leads : (all : List Summary) (effects : List Effect) → ((w : ℕ) → effect_at effects w ≡ Kept) → Leads all all effects
none-leads all effects none w l = ap (λ (e : Effect). joined_effect e (effects_at all w)) (none w)

pub one-leads : (all left : List Summary) (r : Summary) (before after : List Effect) → length after ≡ length before
    → ((w : ℕ) → w < length before → effect_at after w ≡ joined_effect (effect_at before w) (cell_at r.alone.cells w).effect)
    → Leads all (r ∷ left) before → Leads all left after
one-leads all left r before after same each h w l =
    let low : w < length before = omega (arith, same) in
    ap (λ (e : Effect). joined_effect e (effects_at left w)) (each w low)
    ∙ joined-assoc (effect_at before w) (cell_at r.alone.cells w).effect (effects_at left w) ∙ h w low

pub all-lead : (all : List Summary) (effects : List Effect) → Leads all [] effects → AreEffectsOf all effects
all-lead all effects h w l = sym (kept-right (effect_at effects w)) ∙ h w l

-- one task more
pub task-leads : (P : ProgramParts) (fuel : ℕ) (p : Phase) (first : List Value) (tasks : List TaskDecl) (k : ℕ) (d : TaskDecl) (before after : List Effect) → k < length tasks → d ≡ get_or tasks k d
    → length after ≡ length before
    → ((w : ℕ) → w < length before → effect_at after w ≡ joined_effect (effect_at before w) (cell_at (summary P fuel p first d).alone.cells w).effect)
    → Leads (summaries P fuel p first) (map (summary P fuel p first) (drop k tasks)) before
    → Leads (summaries P fuel p first) (map (summary P fuel p first) (drop (k + 1) tasks)) after
task-leads P fuel p first tasks k d before after low is same each h =
    let next : drop k tasks ≡ d ∷ drop (k + 1) tasks = drop_more tasks k d low ∙ ap (λ (x : TaskDecl). x ∷ drop (k + 1) tasks) (sym is) in
    one-leads (summaries P fuel p first) (map (summary P fuel p first) (drop (k + 1) tasks)) (summary P fuel p first d) before after same each
    (subst (λ (ts : List TaskDecl). Leads (summaries P fuel p first) (map (summary P fuel p first) ts) before) next h)

-- ---- memory after the phase

suc-same : (a b : ℕ) → suc a ≡ suc b → a ≡ b
suc-same a b e = omega arith

same-values : (xs ys : List Value) → length xs ≡ length ys → ((w : ℕ) → w < length xs → slice_index_or xs w (known 0) ≡ slice_index_or ys w (known 0)) → xs ≡ ys
same-values [] [] l h = refl
same-values [] (y ∷ ys) l h = absurd (omega arith)
same-values (x ∷ xs) [] l h = absurd (omega arith)
same-values (x ∷ xs) (y ∷ ys) l h =
    let rest : xs ≡ ys = same-values xs ys (suc-same (length xs) (length ys) l) (λ w low. h (suc w) (omega arith)) in
    ap (λ (z : Value). z ∷ xs) (h zero (omega arith)) ∙ ap (λ (zs : List Value). y ∷ zs) rest

pub after-length : (k : ℕ) (rs : List Summary) (vs : List Value) → length (after_from k rs vs) ≡ length vs
after-length k rs [] = refl
after-length k rs (v ∷ vs) = ap suc (after-length (k + 1) rs vs)

pub memory-after : (rs : List Summary) (effects : List Effect) (old new : List Value) → length effects ≡ length old → length new ≡ length old → AreEffectsOf rs effects
    → ((w : ℕ) → w < length old → slice_index_or new w (known 0) ≡ applied (effect_at effects w) (slice_index_or old w (known 0)))
    → new ≡ after_from 0 rs old
memory-after rs effects old new count same are each =
    same-values new (after_from 0 rs old) (same ∙ sym (after-length 0 rs old))
    (λ w low.
    let inside : w < length old = omega (arith, same) in
    let counted : w < length effects = omega (arith, count, inside) in
    each w inside ∙ ap (λ (e : Effect). applied e (slice_index_or old w (known 0))) (are w counted) ∙ sym (after-here rs old w inside))

-- ---- the answer goes on

-- what a phase has come to
pub record HasGone (P : ProgramParts) (fuel n : ℕ) (p : Phase) (rs : List Summary) (ends now : List TaskEnd) (first after : List Value) : Type 0 where
  pub open' : open_of n rs ≡ None
  pub ends_now : now ≡ ends ++ map (end_alone n) rs
  pub memory_now : after ≡ after_from 0 rs first

is-open : (P : ProgramParts) (fuel n : ℕ) (p : Phase) (left : List Phase) (ends : List TaskEnd) (first : List Value) (why : Open) → open_of n (summaries P fuel p first) ≡ Some why
    → answer.TheVariants.Open why ≡ answer_from P fuel n (p ∷ left) ends first
is-open P fuel n p left ends first why e =
    let rs = summaries P fuel p first in
    let now = ends ++ map (end_alone n) rs in
    let after = after_from 0 rs first in
    sym (ap (λ (o : Option Open). answer_by o (list_all has_ended_well rs) (settled_with now after) (answer_from P fuel (n + 1) left now after)) e)

is-over : (P : ProgramParts) (fuel n : ℕ) (p : Phase) (left : List Phase) (ends now : List TaskEnd) (first after : List Value) → HasGone P fuel n p (summaries P fuel p first) ends now first after
    → list_all has_ended_well (summaries P fuel p first) ≡ false → settled_with now after ≡ answer_from P fuel n (p ∷ left) ends first
is-over P fuel n p left ends now first after h e =
    let rs = summaries P fuel p first in
    let ns = ends ++ map (end_alone n) rs in
    let as' = after_from 0 rs first in
    ap (λ (x : List TaskEnd). settled_with x after) h.ends_now ∙ ap (settled_with ns) h.memory_now
    ∙ sym (ap (λ (o : Option Open). answer_by o (list_all has_ended_well rs) (settled_with ns as') (answer_from P fuel (n + 1) left ns as')) h.open'
    ∙ ap (λ (b : Bool). answer_by None b (settled_with ns as') (answer_from P fuel (n + 1) left ns as')) e)

goes-on : (P : ProgramParts) (fuel n : ℕ) (p : Phase) (left : List Phase) (ends now : List TaskEnd) (first after : List Value) → HasGone P fuel n p (summaries P fuel p first) ends now first after
    → list_all has_ended_well (summaries P fuel p first) ≡ true → answer_from P fuel (n + 1) left now after ≡ answer_from P fuel n (p ∷ left) ends first
goes-on P fuel n p left ends now first after h e =
    let rs = summaries P fuel p first in
    let ns = ends ++ map (end_alone n) rs in
    let as' = after_from 0 rs first in
    ap (λ (x : List TaskEnd). answer_from P fuel (n + 1) left x after) h.ends_now ∙ ap (answer_from P fuel (n + 1) left ns) h.memory_now
    ∙ sym (ap (λ (o : Option Open). answer_by o (list_all has_ended_well rs) (settled_with ns as') (answer_from P fuel (n + 1) left ns as')) h.open'
    ∙ ap (λ (b : Bool). answer_by None b (settled_with ns as') (answer_from P fuel (n + 1) left ns as')) e)

-- ---- the same from the outlines of the tasks

abbrev pub AreOutlines : ProgramParts → ℕ → Phase → List Value → List Summary → Type 0
AreOutlines P fuel p first all = all ≡ map (outline_alone P fuel p first) p.tasks

pub are-bare : (P : ProgramParts) (fuel : ℕ) (p : Phase) (first : List Value) (all : List Summary) → AreOutlines P fuel p first all → all ≡ map without_words (summaries P fuel p first)
are-bare P fuel p first all is = is ∙ outlines P fuel p first

pub opens-so : (P : ProgramParts) (fuel n : ℕ) (p : Phase) (first : List Value) (all : List Summary) (o : Option Open) → AreOutlines P fuel p first all → o ≡ open_of n all → open_of n (summaries P fuel p first) ≡ o
opens-so P fuel n p first all o is found =
    sym (open-same n (summaries P fuel p first)) ∙ ap (open_of n) (sym (are-bare P fuel p first all is)) ∙ sym found

pub outlines-open : (P : ProgramParts) (fuel n : ℕ) (p : Phase) (left : List Phase) (ends : List TaskEnd) (first : List Value) (all : List Summary) (why : Open) → AreOutlines P fuel p first all → Some why ≡ open_of n all
    → answer.TheVariants.Open why ≡ answer_from P fuel n (p ∷ left) ends first
outlines-open P fuel n p left ends first all why is found = is-open P fuel n p left ends first why (opens-so P fuel n p first all (Some why) is found)

-- a phase that isn't open, and what its tasks did
pub record HasOutlines (P : ProgramParts) (fuel n : ℕ) (p : Phase) (ends now : List TaskEnd) (first after : List Value) (all : List Summary) (effects : List Effect) : Type 0 where
  pub outlines_are : AreOutlines P fuel p first all
  pub not_open : None ≡ open_of n all
  pub effects_are : AreEffectsOf (summaries P fuel p first) effects
  pub count : length effects ≡ length first
  pub ends_now : now ≡ ends ++ map (end_alone n) all
  pub words : length after ≡ length first
  pub each : (w : ℕ) → w < length first → slice_index_or after w (known 0) ≡ applied (effect_at effects w) (slice_index_or first w (known 0))

gone : (P : ProgramParts) (fuel n : ℕ) (p : Phase) (ends now : List TaskEnd) (first after : List Value) (all : List Summary) (effects : List Effect) → HasOutlines P fuel n p ends now first after all effects
    → HasGone P fuel n p (summaries P fuel p first) ends now first after
gone P fuel n p ends now first after all effects h =
    let rs = summaries P fuel p first in
    record {
      open' = opens-so P fuel n p first all None h.outlines_are h.not_open;
      ends_now = h.ends_now ∙ ap (λ (xs : List Summary). ends ++ map (end_alone n) xs) (are-bare P fuel p first all h.outlines_are) ∙ ap (λ (xs : List TaskEnd). ends ++ xs) (ends-same n rs);
      memory_now = memory-after rs effects first after h.count h.words h.effects_are h.each;
    }

pub well-so : (P : ProgramParts) (fuel : ℕ) (p : Phase) (first : List Value) (all : List Summary) → AreOutlines P fuel p first all → list_all has_ended_well (summaries P fuel p first) ≡ list_all has_ended_well all
well-so P fuel p first all is = sym (well-same (summaries P fuel p first)) ∙ ap (list_all has_ended_well) (sym (are-bare P fuel p first all is))

outlines-over : (P : ProgramParts) (fuel n : ℕ) (p : Phase) (left : List Phase) (ends now : List TaskEnd) (first after : List Value) (all : List Summary) (effects : List Effect)
    → HasOutlines P fuel n p ends now first after all effects → list_all has_ended_well all ≡ false → settled_with now after ≡ answer_from P fuel n (p ∷ left) ends first
outlines-over P fuel n p left ends now first after all effects h well =
    is-over P fuel n p left ends now first after (gone P fuel n p ends now first after all effects h) (well-so P fuel p first all h.outlines_are ∙ well)

outlines-go : (P : ProgramParts) (fuel n : ℕ) (p : Phase) (left : List Phase) (ends now : List TaskEnd) (first after : List Value) (all : List Summary) (effects : List Effect)
    → HasOutlines P fuel n p ends now first after all effects → list_all has_ended_well all ≡ true → answer_from P fuel (n + 1) left now after ≡ answer_from P fuel n (p ∷ left) ends first
outlines-go P fuel n p left ends now first after all effects h well =
    goes-on P fuel n p left ends now first after (gone P fuel n p ends now first after all effects h) (well-so P fuel p first all h.outlines_are ∙ well)

-- the same, by whether all tasks finished
pub outlines-after : (P : ProgramParts) (fuel n : ℕ) (p : Phase) (left : List Phase) (ends now : List TaskEnd) (first after : List Value) (all : List Summary) (effects : List Effect)
    → HasOutlines P fuel n p ends now first after all effects → (well : Bool) → list_all has_ended_well all ≡ well
    → answer_after (if well then Goes else Over) P fuel n left now after ≡ answer_from P fuel n (p ∷ left) ends first
outlines-after P fuel n p left ends now first after all effects h true well = outlines-go P fuel n p left ends now first after all effects h well
outlines-after P fuel n p left ends now first after all effects h false well = outlines-over P fuel n p left ends now first after all effects h well
