-- That the numbers of a program have 32 bits.
use Rattle.std.proofs.Common.{ℕ, suc, ◌^◌, ◌<◌, ◌≤◌, Fits, w32, List, [], ◌∷◌, length, get_or, take, subst, arith}
use Rattle.std.specs.List.{All}
use Rattle.std.proofs.lemmas.List.{take_all}
use Rattle.std.proofs.lemmas.List.Elements.{All-head, All-tail, All-append}
use Rattle.region_table.specs.declared.declared.Phase.{Phase}
use Rattle.region_table.specs.Program.{tasks_of}
use Rattle.region_table.specs.Numbers.{AreCodeWords, IsOfWords}

word-fits : (w : ℕ) → Fits w32 w → w < 2 ^ 32
word-fits w h = omega (arith, h)

pub words-fit : (ws : List ℕ) → ((i : ℕ) → Fits w32 (get_or ws i 0)) → AreCodeWords ws
words-fit [] h = tt
words-fit (w ∷ ws) h = (word-fits w (h 0), words-fit ws (λ i. h (suc i)))

pub all-taken : {X : Type 0} (P : X → Type 0) (i : ℕ) (xs : List X) → length xs ≤ i → All P (take i xs) → All P xs
all-taken P i xs l h = subst (All P) (take_all i xs l) h

-- all tasks of a phase are so
abbrev pub AreOfWords : Phase → Type 0
AreOfWords p = All IsOfWords p.tasks

pub tasks-of_phases : (phs : List Phase) → All AreOfWords phs → All IsOfWords (tasks_of phs)
tasks-of_phases [] h = λ k d l. absurd (omega arith)
tasks-of_phases (p ∷ phs) h =
    All-append IsOfWords p.tasks (tasks_of phs) (All-head AreOfWords p phs h) (tasks-of_phases phs (All-tail AreOfWords p phs h))
