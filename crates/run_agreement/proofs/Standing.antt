-- Tasks as they stand: the same for the same states and loads.
use Rattle.std.proofs.Common.{◌≡◌, ℕ, zero, suc, ◌+◌, ◌<◌, ◌==◌, ◌&&◌, Bool, true, false, cond, List, [], ◌∷◌, ◌++◌, length, map, take, slice_get, Some, refl, sym, ap, ◌∙◌, arith}
use Rattle.std.specs.List.{IsAmong}
use Rattle.std.proofs.lemmas.Bool.{eqb-true}
use Rattle.std.proofs.lemmas.Bool.Decides.{nat_tests}
use Rattle.std.proofs.lemmas.List.{append_assoc, append-nil}
use Rattle.std.proofs.lemmas.Option.{none-some, same_Some}
use Rattle.dn_base.specs.declared.ids.LoadSeen.{LoadSeen}
use Rattle.region_table.specs.declared.declared.TaskDecl.{TaskDecl}
use Rattle.region_table.specs.declared.declared.Phase.{Phase}
use Rattle.rv_core.specs.declared.task.TaskState.{TaskState}
use Rattle.flat_machine.specs.Step.{Started}
use Rattle.run_agreement.specs.Agreed.{States, Loads, stands, tasks_from}

-- what two functions say is the same for each element of a list
pub map-same : {X Y : Type 0} (f g : X → Y) (xs : List X) → ((x : X) → IsAmong xs x → f x ≡ g x) → map f xs ≡ map g xs
map-same f g [] same = refl
map-same {X} {Y} f g (x ∷ xs) same =
    let first : f x ≡ g x = same x (0, (omega arith, refl)) in
    let rest : map f xs ≡ map g xs = map-same f g xs (λ y among. same y (suc among.0, (let l = among.1.0 in omega arith, among.1.1))) in
    ap (λ (y : Y). y ∷ map f xs) first ∙ ap (λ (ys : List Y). g x ∷ ys) rest

-- a core's task of a phase is the same
pub record SameAt (K K' : States) (L L' : Loads) (phase c : ℕ) : Type 0 where
  pub state : K' phase c ≡ K phase c
  pub load : L' phase c ≡ L phase c

pub stands-same : (K K' : States) (L L' : Loads) (phase : ℕ) (d : TaskDecl) → SameAt K K' L L' phase d.core.0 → stands K' L' phase d ≡ stands K L phase d
stands-same K K' L L' phase d h =
    let task : TaskState → List LoadSeen → Started = λ t ls. record { phase = record { 0 = phase }; decl = d; state = t; loads = ls } in
    ap (λ (t : TaskState). task t (L' phase d.core.0)) h.state ∙ ap (task (K phase d.core.0)) h.load

pub tasks-same : (K K' : States) (L L' : Loads) (phase : ℕ) (ps : List Phase) → ((q c : ℕ) → q < phase + length ps → SameAt K K' L L' q c) → tasks_from K' L' phase ps ≡ tasks_from K L phase ps
tasks-same K K' L L' phase [] same = refl
tasks-same K K' L L' phase (p ∷ ps) same =
    let first : map (stands K' L' phase) p.tasks ≡ map (stands K L phase) p.tasks =
    map-same (stands K' L' phase) (stands K L phase) p.tasks (λ d among. stands-same K K' L L' phase d (same phase d.core.0 (omega arith))) in
    let rest : tasks_from K' L' (phase + 1) ps ≡ tasks_from K L (phase + 1) ps = tasks-same K K' L L' (phase + 1) ps (λ q c before. same q c (omega (arith, before))) in
    ap (λ (xs : List Started). xs ++ tasks_from K' L' (phase + 1) ps) first ∙ ap (λ (xs : List Started). map (stands K L phase) p.tasks ++ xs) rest

-- the tasks of one phase more
pub tasks-next : (K : States) (L : Loads) (first k : ℕ) (ps : List Phase) (p : Phase) → slice_get ps k ≡ Some p
    → tasks_from K L first (take (suc k) ps) ≡ tasks_from K L first (take k ps) ++ map (stands K L (first + k)) p.tasks
tasks-next K L first k [] p there = absurd (none-some p there)
tasks-next K L first zero (x ∷ ps) p there =
    let one : x ≡ p = same_Some x p there in
    let none : first ≡ first + zero = omega arith in
    append-nil (map (stands K L first) x.tasks) ∙ ap (λ (y : Phase). map (stands K L first) y.tasks) one ∙ ap (λ (y : ℕ). map (stands K L y) p.tasks) none
tasks-next K L first (suc k) (x ∷ ps) p there =
    let rest = tasks-next K L (first + 1) k ps p there in
    let number : first + 1 + k ≡ first + suc k = omega arith in
    ap (λ (ys : List Started). map (stands K L first) x.tasks ++ ys) (rest ∙ ap (λ (y : ℕ). tasks_from K L (first + 1) (take k ps) ++ map (stands K L y) p.tasks) number)
    ∙ sym (append_assoc (map (stands K L first) x.tasks) (tasks_from K L (first + 1) (take k ps)) (map (stands K L (first + suc k)) p.tasks))

-- ---- one task changes

-- the state of one core's task of a phase is another
abbrev pub with_state : States → ℕ → ℕ → TaskState → States
with_state K phase core t q c = cond ((phase == q) && (core == c)) t (K q c)

pub with-own : (K : States) (phase core : ℕ) (t : TaskState) → with_state K phase core t phase core ≡ t
with-own K phase core t = by_tests (phase == phase) refl (core == core) refl where
  by_tests : (x : Bool) → (phase == phase) ≡ x → (y : Bool) → (core == core) ≡ y → with_state K phase core t phase core ≡ t
  by_tests true e true f = rw (e, f) refl
  by_tests true e false f = absurd (grind (arith, nat_tests, f))
  by_tests false e y f = absurd (grind (arith, nat_tests, e))

pub with-other : (K : States) (phase core : ℕ) (t : TaskState) (q c : ℕ) → (q ≡ phase → c ≡ core → ⊥) → with_state K phase core t q c ≡ K q c
with-other K phase core t q c apart = by_tests (phase == q) refl (core == c) refl where
  by_tests : (x : Bool) → (phase == q) ≡ x → (y : Bool) → (core == c) ≡ y → with_state K phase core t q c ≡ K q c
  by_tests true e true f = absurd (apart (sym (eqb-true phase q e)) (sym (eqb-true core c f)))
  by_tests true e false f = rw (e, f) refl
  by_tests false e y f = rw (e) refl

-- one core's task of a phase changes, and no other
pub record ChangesAt (K K' : States) (L L' : Loads) (phase core : ℕ) (t : TaskState) (loads : List LoadSeen) : Type 0 where
  pub state : K' phase core ≡ t
  pub load : L' phase core ≡ loads
  pub others : (q c : ℕ) → (q ≡ phase → c ≡ core → ⊥) → SameAt K K' L L' q c
