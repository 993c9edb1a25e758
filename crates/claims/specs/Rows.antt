-- What the reader of a claim's lines finds, part by part.
use Rattle.std.specs.Prelude.{◌≡◌, ℕ, List, [], ◌∷◌, ◌++◌, Option, Some, None, length}
use Rattle.dn_base.specs.declared.ids.Grant.{Grant}
use Rattle.flat_machine.specs.declared.ending.TaskLoads.{TaskLoads}
use Rattle.text_pieces.specs.Field.{Stands, NoneStands}
use Rattle.text_pieces.specs.Parts.{StandAll, IsBrokenAt}
use Rattle.claims.specs.declared.claim.ClaimFault.{ClaimFault}
use Rattle.claims.specs.declared.claim.ClaimFault.TheVariants.{Grant as NoGrant, Loads as NoLoads, Task as NoTask, Load as NoLoad, Memory}
use Rattle.claims.specs.declared.head.Heading.{Heading}
use Rattle.claims.specs.declared.head.Opening.{Opening}
use Rattle.claims.specs.declared.claim.Question.{Question}
use Rattle.claims.specs.Claim.{Head, IsNumber, three_fields, IsGrant, grant_row, IsLoadsHead, loads_head_row, IsTask, task_rows, IsTaskHead, task_head_row, IsLoad, load_row}
use Rattle.claims.specs.Faults.{BeginsWithGrants, IsBrokenLoad}

abbrev pub asked_by : Opening → Question
asked_by o = record { fuel = o.fuel; text = o.text.now }

abbrev pub told_by : Heading → Head
told_by h = record { question = record { fuel = h.fuel; text = h.text.now }; count = h.count }

-- the bytes begin with three numbers, which end a line, and the rest follows
pub record StandThree (name bytes : List ℕ) (first second third : ℕ) (rest : List ℕ) : Type 0 where
  pub first_from : IsNumber first
  pub second_from : IsNumber second
  pub third_from : IsNumber third
  pub parts : bytes ≡ three_fields name first second third ++ rest

-- these are `count` values, one after the other
pub record AreCounted {X : Type 0} (Fits : X → Type 0) (write : X → List ℕ) (bytes : List ℕ) (count : ℕ) (xs : List X) (rest : List ℕ) : Type 0 where
  pub stand : StandAll Fits write bytes xs rest
  pub all : length xs ≡ count

-- a question and the grants behind it were read
abbrev pub IsFront : List ℕ → Opening → List Grant → Type 0
IsFront bytes o grants = BeginsWithGrants bytes (record { question = asked_by o; count = length grants }) grants o.rest.now

-- one more task was read
pub record IsTaskMore (bytes : List ℕ) (before after : List TaskLoads) (rest : List ℕ) : Type 0 where
  pub task : TaskLoads
  pub stands : Stands IsTask task_rows bytes task rest
  pub more : after ≡ before ++ task ∷ []

-- why some bytes aren't the lines of `count` grants
abbrev pub FailsGrants : List ℕ → ℕ → ClaimFault → Type 0
FailsGrants bytes count (NoGrant number) = (rest : List ℕ) × IsBrokenAt IsGrant grant_row bytes count number rest
FailsGrants bytes count Memory = Unit {0}
FailsGrants bytes count _ = ⊥

-- why some bytes aren't the lines of `count` loads of this task
abbrev pub FailsLoads : List ℕ → ℕ → ℕ → ClaimFault → Type 0
FailsLoads bytes count place (NoLoad task number) = (task ≡ place) × (rest : List ℕ) × IsBrokenAt IsLoad load_row bytes count number rest
FailsLoads bytes count place Memory = Unit {0}
FailsLoads bytes count place _ = ⊥

-- why some bytes don't begin with a task, which should be the one of this number
abbrev pub FailsTask : List ℕ → ℕ → ClaimFault → Type 0
FailsTask bytes place (NoTask number) = (number ≡ place) × NoneStands IsTaskHead task_head_row bytes
FailsTask bytes place (NoLoad task number) = (task ≡ place) × IsBrokenLoad bytes number
FailsTask bytes place Memory = Unit {0}
FailsTask bytes place _ = ⊥

-- why some bytes aren't `count` tasks
abbrev pub FailsTasks : List ℕ → ℕ → ClaimFault → Type 0
FailsTasks bytes count (NoTask number) = (rest : List ℕ) × IsBrokenAt IsTask task_rows bytes count number rest × NoneStands IsTaskHead task_head_row rest
FailsTasks bytes count (NoLoad task number) = (rest : List ℕ) × IsBrokenAt IsTask task_rows bytes count task rest × IsBrokenLoad rest number
FailsTasks bytes count Memory = Unit {0}
FailsTasks bytes count _ = ⊥

-- the line that says how many tasks there are, the tasks, and the rest
pub record HasTasks (bytes : List ℕ) (told : List TaskLoads) (rest : List ℕ) : Type 0 where
  pub behind : List ℕ
  pub head : Stands IsLoadsHead loads_head_row bytes (Some (length told)) behind
  pub tasks : StandAll IsTask task_rows behind told rest

-- the line that says how many tasks there are, which aren't all there
pub record HasBrokenTasks (bytes : List ℕ) (f : ClaimFault) : Type 0 where
  pub count : ℕ
  pub behind : List ℕ
  pub head : Stands IsLoadsHead loads_head_row bytes (Some count) behind
  pub fails : FailsTasks behind count f

-- what a claim says of loads, and after that its answer
abbrev pub IsLoadsPart : List ℕ → Option (List TaskLoads) → List ℕ → Type 0
IsLoadsPart bytes None rest = Stands IsLoadsHead loads_head_row bytes None rest
IsLoadsPart bytes (Some tasks) rest = HasTasks bytes tasks rest

-- why some bytes don't begin with what a claim may say of loads
abbrev pub FailsPart : List ℕ → ClaimFault → Type 0
FailsPart bytes NoLoads = NoneStands IsLoadsHead loads_head_row bytes
FailsPart bytes (NoTask number) = HasBrokenTasks bytes (NoTask number)
FailsPart bytes (NoLoad task number) = HasBrokenTasks bytes (NoLoad task number)
FailsPart bytes Memory = Unit {0}
FailsPart bytes _ = ⊥
