-- Which words a segment changes, and which words it depends on.
use Rattle.std.proofs.Common.{◌≡◌, ℕ, zero, suc, ◌<◌, Bool, true, false, List, length, get_or, set, Option, Some, None, refl, sym, ap, ◌∙◌, subst, ⊎_elim}
use Rattle.std.proofs.lemmas.Bool.{cases_eq}
use Rattle.std.proofs.lemmas.Grind.{same_number_lists}
use Rattle.std.proofs.lemmas.List.{get_or-set_same, get_or-set_other, length-set}
use Rattle.region_table.specs.Program.{ProgramParts}
use Rattle.rv_core.specs.declared.need.Need.{Need}
use Rattle.rv_core.specs.declared.need.Need as need
use Rattle.rv_core.specs.Access.{may_load, may_store}
use Rattle.rv_core.specs.Step.{loaded_of, merged_of}
use Rattle.flat_machine.specs.Step.{Started, At, wish, in_load, step_by, flat_step, flat_steps, segment}
use Rattle.flat_machine.specs.Laws.{at_memory, IsAlike}
use Rattle.flat_machine.proofs.Rights.{step-after, stores-after, loads-after, told, store-loads, both-ways, not-true}

-- ---- words that a task may not store

pub step-frame : (P : ProgramParts) (fuel : ℕ) (s : At) (w : ℕ) → may_store s.task.decl s.task.state.held w ≡ false → get_or (flat_step P fuel s).memory w 0 ≡ get_or s.memory w 0
step-frame P fuel s w no_store = by_wish (wish P fuel s.task) refl
  where
    by_wish : (o : Option Need) → wish P fuel s.task ≡ o → get_or (step_by P s o).memory w 0 ≡ get_or s.memory w 0
    by_wish None e = refl
    by_wish (Some need.TheVariants.Local) e = refl
    by_wish (Some (need.TheVariants.Load word)) e = refl
    by_wish (Some (need.TheVariants.Store word whole)) e =
        let stores = (told P fuel s.task (need.TheVariants.Store word whole) e).1 in
        get_or-set_other s.memory word.0 w _ 0 (λ same. both-ways (may_store s.task.decl s.task.state.held w) no_store
        (subst (λ (x : ℕ). may_store s.task.decl s.task.state.held x ≡ true) (sym same) stores))
    by_wish (Some (need.TheVariants.Acquire lock)) e = refl
    by_wish (Some (need.TheVariants.Release lock)) e = refl
    by_wish (Some (need.TheVariants.End by)) e = refl

pub steps-frame : (P : ProgramParts) (fuel n : ℕ) (s : At) (w : ℕ) → may_store s.task.decl s.task.state.held w ≡ false → get_or (flat_steps P fuel n s).memory w 0 ≡ get_or s.memory w 0
steps-frame P fuel zero s w no_store = refl
steps-frame P fuel (suc n) s w no_store =
    steps-frame P fuel n (flat_step P fuel s) w (stores-after s.task (flat_step P fuel s).task w (step-after P fuel s) no_store)
    ∙ step-frame P fuel s w no_store

pub segment-frame : (P : ProgramParts) (fuel : ℕ) (s : At) (w : ℕ) → may_store s.task.decl s.task.state.held w ≡ false → get_or (segment P fuel s).memory w 0 ≡ get_or s.memory w 0
unfolding segment
segment-frame P fuel s w no_store = steps-frame P fuel (suc fuel) s w no_store

-- ---- memories that agree on the words that a task may load

pub record Agree (r : Started) (m n : List ℕ) : Type 0 where
  pub on : (w : ℕ) → may_load r.decl r.state.held w ≡ true → get_or m w 0 ≡ get_or n w 0

set-alike : (m n : List ℕ) (v w x y : ℕ) → v < length m → v < length n → x ≡ y → get_or m w 0 ≡ get_or n w 0 → get_or (set m v x) w 0 ≡ get_or (set n v y) w 0
set-alike m n v w x y in_m in_n e agree =
    ⊎_elim
    (λ (same : w ≡ v).
    let read : List ℕ → ℕ → ℕ = λ l i. get_or l i 0 in
    ap (read (set m v x)) same ∙ get_or-set_same m v x 0 in_m ∙ e ∙ sym (get_or-set_same n v y 0 in_n) ∙ ap (read (set n v y)) (sym same))
    (λ (apart : w ≡ v → ⊥). get_or-set_other m v w x 0 apart ∙ agree ∙ sym (get_or-set_other n v w y 0 apart))
    (cases_eq w v)

step-alike : (P : ProgramParts) (fuel : ℕ) (r : Started) (m n : List ℕ) → length m ≡ length P.memory → length n ≡ length P.memory → Agree r m n
    → IsAlike m n (flat_step P fuel (at_memory r m)) (flat_step P fuel (at_memory r n))
step-alike P fuel r m n in_m in_n agree = by_wish (wish P fuel r) refl
  where
    by_wish : (o : Option Need) → wish P fuel r ≡ o → IsAlike m n (step_by P (at_memory r m) o) (step_by P (at_memory r n) o)
    by_wish None e = record { task = refl; left = refl; right = refl; kept = λ w h. h }
    by_wish (Some need.TheVariants.Local) e = record { task = refl; left = refl; right = refl; kept = λ w h. h }
    by_wish (Some (need.TheVariants.Load word)) e =
        let same = agree.on word.0 (told P fuel r (need.TheVariants.Load word) e).1 in
        let after : ℕ → Started = λ value. in_load r (loaded_of P value r.state) (record { word = word; value = value }) in
        record { task = ap after same; left = refl; right = refl; kept = λ w h. h }
    by_wish (Some (need.TheVariants.Store word whole)) e =
        let a = told P fuel r (need.TheVariants.Store word whole) e in
        let same = agree.on word.0 (store-loads r.decl r.state.held word.0 a.1) in
        let merges : ℕ → ℕ = λ old. merged_of P old r.state in
        let within_m : word.0 < length m = subst (λ (k : ℕ). word.0 < k) (sym in_m) a.0 in
        let within_n : word.0 < length n = subst (λ (k : ℕ). word.0 < k) (sym in_n) a.0 in
        record {
          task = refl;
          left = length-set m word.0 _;
          right = length-set n word.0 _;
          kept = λ w h. set-alike m n word.0 w _ _ within_m within_n (ap merges same) h;
        }
    by_wish (Some (need.TheVariants.Acquire lock)) e = record { task = refl; left = refl; right = refl; kept = λ w h. h }
    by_wish (Some (need.TheVariants.Release lock)) e = record { task = refl; left = refl; right = refl; kept = λ w h. h }
    by_wish (Some (need.TheVariants.End by)) e = record { task = refl; left = refl; right = refl; kept = λ w h. h }

pub steps-alike : (P : ProgramParts) (fuel k : ℕ) (r : Started) (m n : List ℕ) → length m ≡ length P.memory → length n ≡ length P.memory → Agree r m n
    → IsAlike m n (flat_steps P fuel k (at_memory r m)) (flat_steps P fuel k (at_memory r n))
steps-alike P fuel zero r m n in_m in_n agree = record { task = refl; left = refl; right = refl; kept = λ w h. h }
steps-alike P fuel (suc k) r m n in_m in_n agree =
    let one = step-alike P fuel r m n in_m in_n agree in
    let a : At = flat_step P fuel (at_memory r m) in
    let b : At = flat_step P fuel (at_memory r n) in
    let still_agree : Agree a.task a.memory b.memory =
    record { on = λ w h. one.kept w (agree.on w (loads-after r a.task w (step-after P fuel (at_memory r m)) h)) } in
    let more = steps-alike P fuel k a.task a.memory b.memory (one.left ∙ in_m) (one.right ∙ in_n) still_agree in
    let ends : At → Type 0 = λ x. IsAlike m n (flat_steps P fuel k a) (flat_steps P fuel k x) in
    let same : at_memory a.task b.memory ≡ b = ap (λ (t : Started). at_memory t b.memory) one.task in
    let alike : IsAlike m n (flat_steps P fuel k a) (flat_steps P fuel k (at_memory a.task b.memory)) =
    record {
      task = more.task;
      left = more.left ∙ one.left;
      right = more.right ∙ one.right;
      kept = λ w h. more.kept w (one.kept w h);
    } in
    subst ends same alike

pub segment-alike : (P : ProgramParts) (fuel : ℕ) (r : Started) (m n : List ℕ) → length m ≡ length P.memory → length n ≡ length P.memory → Agree r m n
    → IsAlike m n (segment P fuel (at_memory r m)) (segment P fuel (at_memory r n))
unfolding segment
segment-alike P fuel r m n in_m in_n agree = steps-alike P fuel (suc fuel) r m n in_m in_n agree

pub segment-size : (P : ProgramParts) (fuel : ℕ) (r : Started) (m : List ℕ) → length m ≡ length P.memory → length (segment P fuel (at_memory r m)).memory ≡ length P.memory
segment-size P fuel r m in_m = (segment-alike P fuel r m m in_m in_m (record { on = λ w h. refl })).left ∙ in_m

-- ---- two tasks that keep out of each other's words

pub record KeepsOut (a b : Started) : Type 0 where
  pub out : (w : ℕ) → may_store a.decl a.state.held w ≡ true → may_load b.decl b.state.held w ≡ false

-- what another task leaves of the words that a task may load
pub agree-after : (P : ProgramParts) (fuel : ℕ) (a b : Started) (m : List ℕ) → KeepsOut a b → Agree b (segment P fuel (at_memory a m)).memory m
agree-after P fuel a b m apart =
    record {
      on = λ w h. segment-frame P fuel (at_memory a m) w
          (not-true (may_store a.decl a.state.held w) (λ e. both-ways (may_load b.decl b.state.held w) (apart.out w e) h));
    }

pub no-store : (a b : Started) (w : ℕ) → KeepsOut a b → may_store a.decl a.state.held w ≡ true → may_store b.decl b.state.held w ≡ false
no-store a b w apart e =
    not-true (may_store b.decl b.state.held w) (λ f. both-ways (may_load b.decl b.state.held w) (apart.out w e) (store-loads b.decl b.state.held w f))

-- a word after both segments, in either order
swapped-word : (P : ProgramParts) (fuel : ℕ) (a b : Started) (m : List ℕ) (w : ℕ) (x : Bool) → length m ≡ length P.memory → KeepsOut a b → KeepsOut b a → may_store a.decl a.state.held w ≡ x
    → get_or (segment P fuel (at_memory b (segment P fuel (at_memory a m)).memory)).memory w 0
    ≡ get_or (segment P fuel (at_memory a (segment P fuel (at_memory b m)).memory)).memory w 0
swapped-word P fuel a b m w true in_m ab ba e =
    let after_a = (segment P fuel (at_memory a m)).memory in
    let after_b = (segment P fuel (at_memory b m)).memory in
    let b_leaves = no-store a b w ab e in
    let alike = segment-alike P fuel a m after_b in_m (segment-size P fuel b m in_m)
    (record { on = λ v h. sym ((agree-after P fuel b a m ba).on v h) }) in
    segment-frame P fuel (at_memory b after_a) w b_leaves ∙ alike.kept w (sym (segment-frame P fuel (at_memory b m) w b_leaves))
swapped-word P fuel a b m w false in_m ab ba e =
    let after_a = (segment P fuel (at_memory a m)).memory in
    let after_b = (segment P fuel (at_memory b m)).memory in
    let alike = segment-alike P fuel b after_a m (segment-size P fuel a m in_m) in_m (agree-after P fuel a b m ab) in
    alike.kept w (segment-frame P fuel (at_memory a m) w e) ∙ sym (segment-frame P fuel (at_memory a after_b) w e)

pub swapped-memory : (P : ProgramParts) (fuel : ℕ) (a b : Started) (m : List ℕ) → length m ≡ length P.memory → KeepsOut a b → KeepsOut b a
    → (segment P fuel (at_memory b (segment P fuel (at_memory a m)).memory)).memory ≡ (segment P fuel (at_memory a (segment P fuel (at_memory b m)).memory)).memory
swapped-memory P fuel a b m in_m ab ba =
    same_number_lists _ _
    (segment-size P fuel b (segment P fuel (at_memory a m)).memory (segment-size P fuel a m in_m) ∙ sym (segment-size P fuel a (segment P fuel (at_memory b m)).memory (segment-size P fuel b m in_m)))
    (λ w within. swapped-word P fuel a b m w (may_store a.decl a.state.held w) in_m ab ba refl)

pub second-task : (P : ProgramParts) (fuel : ℕ) (a b : Started) (m : List ℕ) → length m ≡ length P.memory → KeepsOut a b
    → (segment P fuel (at_memory b (segment P fuel (at_memory a m)).memory)).task ≡ (segment P fuel (at_memory b m)).task
second-task P fuel a b m in_m ab =
    (segment-alike P fuel b (segment P fuel (at_memory a m)).memory m (segment-size P fuel a m in_m) in_m (agree-after P fuel a b m ab)).task

-- a step of one task leaves the segment of the other as it was
pub other-kept : (P : ProgramParts) (fuel : ℕ) (a b : Started) (m : List ℕ) → length m ≡ length P.memory → KeepsOut a b
    → IsAlike (flat_step P fuel (at_memory a m)).memory m (segment P fuel (at_memory b (flat_step P fuel (at_memory a m)).memory)) (segment P fuel (at_memory b m))
other-kept P fuel a b m in_m apart =
    let size = (step-alike P fuel a m m in_m in_m (record { on = λ w h. refl })).left ∙ in_m in
    segment-alike P fuel b (flat_step P fuel (at_memory a m)).memory m size in_m
    (record {
      on = λ w h. step-frame P fuel (at_memory a m) w
          (not-true (may_store a.decl a.state.held w) (λ e. both-ways (may_load b.decl b.state.held w) (apart.out w e) h));
    })
