-- The noted ends of tasks, as they are listed one after another.
use Rattle.std.proofs.Common.{◌≡◌, ℕ, suc, ◌+◌, ◌<◌, List, ◌∷◌, ◌++◌, length, drop, get_or, slice_get, Option, Some, None, refl, sym, ap, ◌∙◌, arith}
use Rattle.std.proofs.Math.Seq.{drop-cons}
use Rattle.std.proofs.lemmas.List.{append_assoc}
use Rattle.std.specs.List.{filter_map, cons_option}
use Rattle.region_table.specs.declared.declared.TaskDecl.{TaskDecl}
use Rattle.region_table.specs.declared.declared.Phase.{Phase}
use Rattle.rv_core.specs.declared.ending.TaskEnd.{TaskEnd}
use Rattle.run_agreement.specs.Agreed.{listed}
use Rattle.dn_machine.specs.Ends.{EndTable, end_index, end_in, noted_ends}

-- an item or none before the others
cons-listed : {X : Type 0} (o : Option X) (xs : List X) → cons_option o xs ≡ listed o ++ xs
cons-listed None xs = refl
cons-listed (Some x) xs = refl

drop-one : {X : Type 0} (xs : List X) (i : ℕ) (d : X) → i < length xs → drop i xs ≡ get_or xs i d ∷ drop (i + 1) xs
drop-one xs i d low =
    let on : suc i ≡ i + 1 = omega arith in
    rw (← on) (drop-cons xs i d low)

-- one more task of a phase
pub task-more : (f : TaskDecl → Option TaskEnd) (out : List TaskEnd) (ds : List TaskDecl) (i : ℕ) (d : TaskDecl) (all : List TaskEnd) → d ≡ get_or ds i d → i < length ds → out ++ filter_map f (drop i ds) ≡ all
    → (out ++ listed (f d)) ++ filter_map f (drop (i + 1) ds) ≡ all
task-more f out ds i d all item low is =
    let left : filter_map f (drop i ds) ≡ listed (f d) ++ filter_map f (drop (i + 1) ds) =
    ap (filter_map f) (drop-one ds i d low ∙ ap (λ (x : TaskDecl). x ∷ drop (i + 1) ds) (sym item)) ∙ cons-listed (f d) (filter_map f (drop (i + 1) ds)) in
    append_assoc out (listed (f d)) (filter_map f (drop (i + 1) ds)) ∙ ap (λ (xs : List TaskEnd). out ++ xs) (sym left) ∙ is

-- one more phase
pub phase-more : (table : EndTable) (out : List TaskEnd) (number : ℕ) (ps : List Phase) (i : ℕ) (p : Phase) (all : List TaskEnd) → p ≡ get_or ps i p → i < length ps → out ++ noted_ends table number (drop i ps) ≡ all
    → (out ++ filter_map (λ (d : TaskDecl). end_in (slice_get table (end_index number d.core.0))) p.tasks) ++ noted_ends table (number + 1) (drop (i + 1) ps) ≡ all
phase-more table out number ps i p all item low is =
    let left : noted_ends table number (drop i ps)
    ≡ filter_map (λ (d : TaskDecl). end_in (slice_get table (end_index number d.core.0))) p.tasks ++ noted_ends table (number + 1) (drop (i + 1) ps) =
    ap (noted_ends table number) (drop-one ps i p low ∙ ap (λ (x : Phase). x ∷ drop (i + 1) ps) (sym item)) in
    append_assoc out (filter_map (λ (d : TaskDecl). end_in (slice_get table (end_index number d.core.0))) p.tasks) (noted_ends table (number + 1) (drop (i + 1) ps))
    ∙ ap (λ (xs : List TaskEnd). out ++ xs) (sym left)
    ∙ is
