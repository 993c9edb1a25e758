-- That an effect on a line claims a word for a task, by the tables of the language's definition.
use Rattle.std.specs.Prelude.{◌≡◌, ◌⊎◌, ℕ, ◌+◌, true, List, ◌∷◌, ◌++◌, Option, Some, slice_get, IfSome}
use Rattle.std.specs.List.{IsAmong}
use Rattle.effect_checker.specs.declared.fault.CheckFault.{CheckFault}
use Rattle.effect_checker.specs.declared.fault.CheckFault.TheVariants.{PlainConflict, GuardedPlain, TwoLocks}
use Rattle.rv_assembler.specs.declared.parsing.Saying.{Saying}
use Rattle.rv_assembler.specs.declared.draft.Claim.{Claim}
use Rattle.rv_assembler.specs.declared.draft.Usage.{Usage}
use Rattle.rv_assembler.specs.declared.draft.Usage.TheVariants.{Reads, Writes, GuardedReads, GuardedWrites}
use Rattle.rv_assembler.specs.declared.names.Meaning.{Meaning}
use Rattle.rv_assembler.specs.Named.{lock_number}
use Rattle.rv_assembler.specs.Declarations.{meaning_of}
use Rattle.rv_assembler.specs.Source.{readings, sayings}
use Rattle.rv_assembler.specs.Tables.{claim_at}
use Rattle.text_places.specs.declared.places.TaskPlace.{TaskPlace}
use Rattle.text_places.specs.Places.{text_places}
use Rattle.sentences.specs.declared.claims.Contender.{Contender}
use Rattle.sentences.specs.declared.claims.Way.{Way}
use Rattle.sentences.specs.declared.claims.Way.TheVariants.{Stores, Plainly, Under}
use Rattle.sentences.specs.Claims.{claim_has}

-- the task that contends is a task of the text
abbrev pub IsTaskOf : List ℕ → Contender → Type 0
IsTaskOf text c = IfSome c.task (IsAmong (text_places text).tasks)

-- the claim is the task's; the tables number phases from 1
pub record IsClaimForTask (t : TaskPlace) (k : Claim) : Type 0 where
  pub phase : k.phase ≡ t.phase + 1
  pub core : k.core ≡ t.core

-- a use of the tables is of this way: for plain stores; plain; or under the lock that the name of the lock means
abbrev pub IsUsedSo : (List ℕ → Option Meaning) → List (List ℕ) → Way → Usage → Type 0
IsUsedSo names locks Stores u = u ≡ Writes
IsUsedSo names locks Plainly u = (u ≡ Reads) ⊎ (u ≡ Writes)
IsUsedSo names locks (Under number) u =
    (name : List ℕ) × (k : ℕ) × (slice_get locks number ≡ Some name) × (lock_number (names name) ≡ Some k) × ((u ≡ GuardedReads k) ⊎ (u ≡ GuardedWrites k))

-- a line of good form gives the tables a claim that has the word, for the task, in the way of the conflict
pub record IsClaimedOn (text : List ℕ) (locks : List (List ℕ)) (c : Contender) (word line : ℕ) : Type 0 where
  pub before : List Saying
  pub here : Saying
  pub behind : List Saying
  pub lines_are : sayings (readings text) ≡ before ++ here ∷ behind
  pub named : here.line ≡ line
  pub claim : Claim
  pub given : IsAmong (claim_at text (meaning_of text (sayings (readings text))) (record { before = before; here = here })) claim
  pub has : claim_has claim word ≡ true
  pub task : TaskPlace
  pub one : c.task ≡ Some task
  pub own : IsClaimForTask task claim
  pub way : IsUsedSo (meaning_of text (sayings (readings text))) locks c.way claim.usage

-- the word of a conflict
abbrev pub conflict_word : CheckFault → ℕ
conflict_word (PlainConflict phase a b w) = w.0
conflict_word (GuardedPlain phase lock core w) = w.0
conflict_word (TwoLocks phase a b w) = w.0
