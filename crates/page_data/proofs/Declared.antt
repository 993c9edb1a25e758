-- What the tasks of phases declare, as one list.
use Rattle.std.proofs.Common.{◌≡◌, ℕ, Bool, true, false, ◌+◌, List, [], ◌∷◌, ◌++◌, map, codes, refl, sym, ap, ◌∙◌, append_assoc}
use Rattle.region_table.specs.declared.declared.Phase.{Phase}
use Rattle.region_table.specs.declared.declared.TaskDecl.{TaskDecl}
use Rattle.page_data.specs.Json.{gap, item_texts, list_text}
use Rattle.page_data.specs.Data.{effects_item, effects_items, effects_list, is_still_first, numbered_item, numbered_tasks}

never-again : {X : Type 0} (xs : List X) → is_still_first false xs ≡ false
never-again [] = refl
never-again (x ∷ xs) = refl

-- the items of two lists, one after the other
items-both : {X : Type 0} (f : X → List ℕ) (first : Bool) (xs ys : List X) → item_texts f first (xs ++ ys) ≡ item_texts f first xs ++ item_texts f (is_still_first first xs) ys
items-both {X} f first [] ys = refl
items-both {X} f first (x ∷ xs) ys =
    ap (λ (l : List ℕ). gap first ++ (f x ++ l)) (items-both f false xs ys ∙ ap (λ (b : Bool). item_texts f false xs ++ item_texts f b ys) (never-again xs))
    ∙ ap (λ (l : List ℕ). gap first ++ l) (sym (append_assoc (f x) (item_texts f false xs) (item_texts f false ys)))
    ∙ sym (append_assoc (gap first) (f x ++ item_texts f false xs) (item_texts f false ys))

-- the tasks of one phase
items-numbered : (number : ℕ) (first : Bool) (ts : List TaskDecl) → item_texts numbered_item first (map (λ (t : TaskDecl). (number, t)) ts) ≡ item_texts (effects_item number) first ts
items-numbered number first [] = refl
items-numbered number first (t ∷ ts) = ap (λ (l : List ℕ). gap first ++ (effects_item number t ++ l)) (items-numbered number false ts)

first-numbered : (number : ℕ) (first : Bool) (ts : List TaskDecl) → is_still_first {X = ℕ × TaskDecl} first (map (λ (t : TaskDecl). (number, t)) ts) ≡ is_still_first first ts
first-numbered number first [] = refl
first-numbered number first (t ∷ ts) = refl

items-of : (number : ℕ) (first : Bool) (phases : List Phase) → effects_items first number phases ≡ item_texts numbered_item first (numbered_tasks number phases)
items-of number first [] = refl
items-of number first (p ∷ ps) =
    let own = map (λ (t : TaskDecl). (number, t)) p.tasks in
    let later = numbered_tasks (number + 1) ps in
    sym (items-both numbered_item first own later
    ∙ ap (λ (l : List ℕ). l ++ item_texts numbered_item (is_still_first first own) later) (items-numbered number first p.tasks)
    ∙ ap (λ (b : Bool). item_texts (effects_item number) first p.tasks ++ item_texts numbered_item b later) (first-numbered number first p.tasks)
    ∙ ap (λ (l : List ℕ). item_texts (effects_item number) first p.tasks ++ l) (sym (items-of (number + 1) (is_still_first first p.tasks) ps)))

pub one-list : (phases : List Phase) → effects_list phases ≡ list_text numbered_item (numbered_tasks 0 phases)
unfolding effects_list list_text
one-list phases = ap (λ (l : List ℕ). codes "[" ++ (l ++ codes "]")) (items-of 0 true phases)
