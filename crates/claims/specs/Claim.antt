-- The claim of a run: what it may tell, and how that is written.
use Rattle.std.specs.Prelude.{◌≡◌, ℕ, ◌≤◌, All, List, [], ◌++◌, length, codes, flat_map, Option, Some, None, IfSome}
use Rattle.dn_base.specs.declared.ids.Grant.{Grant}
use Rattle.dn_base.specs.declared.ids.LoadSeen.{LoadSeen}
use Rattle.flat_machine.specs.declared.ending.TaskLoads.{TaskLoads}
use Rattle.text_pieces.specs.Pieces.{newline, space, hexadecimal}
use Rattle.text_pieces.specs.Base16.{IsWord}
use Rattle.text_pieces.specs.Field.{field, IsFrom}
use Rattle.text_pieces.specs.Parts.{IsSource, source_part}
use Rattle.claims.specs.declared.claim.Question.{Question}
use Rattle.claims.specs.declared.claim.Claim.{Claim}
use Rattle.claims.specs.declared.rows.TaskHead.{TaskHead}

-- ---- what may be told

-- a claim has at most 536,870,912 bytes
abbrev pub most_bytes : ℕ
most_bytes = 536870912

-- numbers are below 2^32
abbrev pub IsNumber : ℕ → Type 0
IsNumber n = IsFrom 0 4294967295 n

-- what a claim is about: a source text of at most 1,048,576 bytes, each of whose tasks may retire 1 to 32,768 instructions
pub record IsQuestion (q : Question) : Type 0 where
  pub fuel : IsFrom 1 32768 q.fuel
  pub text : IsSource q.text

-- a question, and how many grants follow
pub record Head : Type 0 where
  pub question : Question
  pub count : ℕ

pub record IsHead (h : Head) : Type 0 where
  pub question : IsQuestion h.question
  pub count : IsNumber h.count

pub record IsGrant (g : Grant) : Type 0 where
  pub phase : IsNumber g.phase.0
  pub core : IsNumber g.core.0
  pub lock : IsNumber g.lock.0

pub record IsLoad (s : LoadSeen) : Type 0 where
  pub word : IsNumber s.word.0
  pub value : IsWord s.value

-- a task, and how many loads of it follow
pub record IsTaskHead (h : TaskHead) : Type 0 where
  pub phase : IsNumber h.phase.0
  pub core : IsNumber h.core.0
  pub count : IsNumber h.count

abbrev pub head_of_task : TaskLoads → TaskHead
head_of_task t = record { phase = t.phase; core = t.core; count = length t.loads }

pub record IsTask (t : TaskLoads) : Type 0 where
  pub head : IsTaskHead (head_of_task t)
  pub loads : All IsLoad t.loads

-- of how many tasks loads are claimed; None if nothing is claimed of loads
abbrev pub IsLoadsHead : Option ℕ → Type 0
IsLoadsHead count = IfSome count IsNumber

abbrev pub head_of_loads : Option (List TaskLoads) → Option ℕ
head_of_loads None = None
head_of_loads (Some tasks) = Some (length tasks)

abbrev pub IsLoads : Option (List TaskLoads) → Type 0
IsLoads None = Unit {0}
IsLoads (Some tasks) = IsNumber (length tasks) × All IsTask tasks

abbrev pub head_of : Claim → Head
head_of c = record { question = c.question; count = length c.grants }

pub record IsClaim (c : Claim) : Type 0 where
  pub head : IsHead (head_of c)
  pub grants : All IsGrant c.grants
  pub loads : IsLoads c.loads

-- ---- how it is written

-- the first line: the kind of document, and its version
unfoldable pub title : List ℕ
title = codes "denovo-claim 1" ++ newline

unfoldable pub question_text : Question → List ℕ
question_text q = title ++ field (codes "fuel ") newline q.fuel ++ source_part q.text

unfoldable pub head_text : Head → List ℕ
head_text h = question_text h.question ++ field (codes "grants ") newline h.count

-- three numbers, the first after a name, end a line
unfoldable pub three_fields : List ℕ → ℕ → ℕ → ℕ → List ℕ
three_fields name first second third = field name space first ++ field [] space second ++ field [] newline third

-- a grant: its phase, its core and its lock
abbrev pub grant_row : Grant → List ℕ
grant_row g = three_fields (codes "grant ") g.phase.0 g.core.0 g.lock.0

-- a load: its word and the word's value
unfoldable pub load_row : LoadSeen → List ℕ
load_row s = field [] space s.word.0 ++ hexadecimal s.value ++ newline

abbrev pub task_head_row : TaskHead → List ℕ
task_head_row h = three_fields (codes "task ") h.phase.0 h.core.0 h.count

-- the loads of a task, after the line with its phase, its core and their number
unfoldable pub task_rows : TaskLoads → List ℕ
task_rows t = task_head_row (head_of_task t) ++ flat_map load_row t.loads

unfoldable pub loads_head_row : Option ℕ → List ℕ
loads_head_row None = codes "loads none" ++ newline
loads_head_row (Some count) = field (codes "loads ") newline count

abbrev pub tasks_text : Option (List TaskLoads) → List ℕ
tasks_text None = []
tasks_text (Some tasks) = flat_map task_rows tasks

unfoldable pub loads_text : Option (List TaskLoads) → List ℕ
loads_text loads = loads_head_row (head_of_loads loads) ++ tasks_text loads

-- the claim: its head, a line for each grant, what it says of loads, and the answer as it is
unfoldable pub claim_text : Claim → List ℕ
claim_text c = head_text (head_of c) ++ flat_map grant_row c.grants ++ loads_text c.loads ++ c.answer

-- the bytes are the document of a claim
pub record IsClaimDocument (bytes : List ℕ) (c : Claim) : Type 0 where
  pub told : IsClaim c
  pub within : length bytes ≤ most_bytes
  pub is : bytes ≡ claim_text c
