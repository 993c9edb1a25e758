-- What the types of a program guarantee, besides that it is well formed.
use Rattle.std.specs.Prelude.{ℕ, ◌^◌, ◌<◌, List, [], ◌∷◌}
use Rattle.std.specs.List.{All}
use Rattle.region_table.specs.declared.declared.Effects.{Effects}
use Rattle.region_table.specs.declared.declared.TaskDecl.{TaskDecl}
use Rattle.region_table.specs.Words.{IsCanonical}
use Rattle.region_table.specs.Program.{ProgramParts, tasks_of}

-- each is a number of 32 bits, as the words of every program are
abbrev pub AreCodeWords : List ℕ → Type 0
AreCodeWords [] = Unit {0}
AreCodeWords (w ∷ ws) = (w < 2 ^ 32) × AreCodeWords ws

-- each set of words is canonical, as every value of the type `WordSet` is
pub record AreCanonical (e : Effects) : Type 0 where
  pub reads : IsCanonical e.reads
  pub writes : IsCanonical e.writes
  pub guarded_reads : All IsCanonical e.guarded_reads
  pub guarded_writes : All IsCanonical e.guarded_writes

-- the entry and the argument are numbers of 32 bits, and the sets are canonical
pub record IsOfWords (t : TaskDecl) : Type 0 where
  pub entry : t.entry < 2 ^ 32
  pub arg : t.arg < 2 ^ 32
  pub effects : AreCanonical t.effects

-- what the types of a `Program` guarantee besides `IsProgram`: numbers of 32 bits, and canonical sets of words
pub record HasWords (p : ProgramParts) : Type 0 where
  pub code : AreCodeWords p.code
  pub memory : AreCodeWords p.memory
  pub tasks : All IsOfWords (tasks_of p.phases)
