-- A claim with too many lines has no document: each line has a byte at least.
use Rattle.std.proofs.Common.{ℕ, ◌≤◌, ◌<◌, List, [], ◌∷◌, ◌++◌, flat_map, length, get_or, codes, Some, arith, length-append}
use Rattle.std.specs.Fmt.{decimal}
use Rattle.std.proofs.lemmas.List.Folds.{length-flat_map-take}
use Rattle.dn_base.specs.declared.ids.LoadSeen.{LoadSeen}
use Rattle.flat_machine.specs.declared.ending.TaskLoads.{TaskLoads}
use Rattle.text_pieces.specs.Pieces.{newline, space, hexadecimal}
use Rattle.text_pieces.specs.Field.{field}
use Rattle.claims.specs.declared.claim.Claim.{Claim}
use Rattle.claims.specs.Claim.{most_bytes, head_of, head_text, three_fields, grant_row, load_row, task_head_row, head_of_task, task_rows, loads_head_row, loads_text, claim_text}

-- ---- a line

ends-some : (front behind : List ℕ) → 1 ≤ length behind → 1 ≤ length (front ++ behind)
ends-some front behind some = let both = length-append front behind in omega (arith, some, both)

field-some : (name : List ℕ) (end' number : ℕ) → 1 ≤ length (field name (end' ∷ []) number)
unfolding field
field-some name end' number = ends-some (name ++ decimal number) (end' ∷ []) (omega arith)

three-some : (name : List ℕ) (first second third : ℕ) → 1 ≤ length (three_fields name first second third)
unfolding three_fields
three-some name first second third = ends-some (field name space first ++ field [] space second) (field [] newline third) (field-some [] 10 third)

load-some : (s : LoadSeen) → 1 ≤ length (load_row s)
unfolding load_row
load-some s = ends-some (field [] space s.word.0 ++ hexadecimal s.value) newline (omega arith)

-- ---- lines

lines-long : {X : Type 0} (row : X → List ℕ) (xs : List X) → ((x : X) → 1 ≤ length (row x)) → length xs ≤ length (flat_map row xs)
lines-long row [] some = omega arith
lines-long row (x ∷ xs) some =
    let rest = lines-long row xs some in
    let one = some x in
    let both = length-append (row x) (flat_map row xs) in
    omega (arith, rest, one, both)

-- ---- a task

pub many-loads : (t : TaskLoads) → most_bytes < length t.loads → most_bytes < length (task_rows t)
unfolding task_rows
many-loads t many =
    let lines = lines-long load_row t.loads load-some in
    let both = length-append (task_head_row (head_of_task t)) (flat_map load_row t.loads) in
    omega (arith, many, lines, both)

-- the rows of one task are some of all rows
pub a-task : (ts : List TaskLoads) (i : ℕ) (d : TaskLoads) → i < length ts → most_bytes < length (task_rows (get_or ts i d)) → most_bytes < length (flat_map task_rows ts)
a-task ts i d within large = let some = length-flat_map-take task_rows ts i d within in omega (arith, large, some)

-- ---- what is said of loads

task-some : (t : TaskLoads) → 1 ≤ length (task_rows t)
unfolding task_rows
task-some t =
    let head = three-some (codes "task ") (head_of_task t).phase.0 (head_of_task t).core.0 (head_of_task t).count in
    let both = length-append (task_head_row (head_of_task t)) (flat_map load_row t.loads) in
    omega (arith, head, both)

pub many-tasks : (ts : List TaskLoads) → most_bytes < length ts → most_bytes < length (loads_text (Some ts))
unfolding loads_text
many-tasks ts many =
    let lines = lines-long task_rows ts task-some in
    let both = length-append (loads_head_row (Some (length ts))) (flat_map task_rows ts) in
    omega (arith, many, lines, both)

-- ---- the claim

claim-long : (c : Claim) → length (flat_map grant_row c.grants) ≤ length (claim_text c)
unfolding claim_text
claim-long c =
    let head = length-append (head_text (head_of c)) (flat_map grant_row c.grants) in
    let loads = length-append (head_text (head_of c) ++ flat_map grant_row c.grants) (loads_text c.loads) in
    let answer = length-append (head_text (head_of c) ++ flat_map grant_row c.grants ++ loads_text c.loads) c.answer in
    omega (arith, head, loads, answer)

pub many-grants : (c : Claim) → most_bytes < length c.grants → most_bytes < length (claim_text c)
many-grants c many =
    let lines = lines-long grant_row c.grants (λ g. three-some (codes "grant ") g.phase.0 g.core.0 g.lock.0) in
    let all = claim-long c in
    omega (arith, many, lines, all)
