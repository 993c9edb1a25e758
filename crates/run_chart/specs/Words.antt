-- What an actor holds for each word, and how that changes.
use Rattle.std.specs.Prelude.{ℕ, ◌+◌, ◌==◌, Bool, true, false, List, [], ◌∷◌, length, map, slice_get, Option, Some, None, if◌then◌else◌}
use Rattle.std.specs.List.{range_with_len}
use Rattle.message_net.specs.declared.actor.Actor.{Actor}
use Rattle.message_net.specs.declared.actor.Actor.TheVariants as actor
use Rattle.word_cache.specs.declared.row.Entry as entry
use Rattle.word_cache.specs.declared.row.Entry.{Entry}
use Rattle.registry_bank.specs.declared.bank.BankWord as home
use Rattle.registry_bank.specs.declared.bank.BankWord.{BankWord}
use Rattle.machine_rules.specs.State.{State, entry_at, word_in}
use Rattle.run_chart.specs.declared.states.WordState.{WordState}
use Rattle.run_chart.specs.declared.states.WordState.TheVariants.{Absent, Valid, Touched, Registered, Pending, Leaving, Home, At}
use Rattle.run_chart.specs.declared.states.WordChange.{WordChange}
use Rattle.run_chart.specs.declared.words.HeldWord.{HeldWord}

-- what a core holds for a word, by the entry of its cache
abbrev pub of_entry : Option Entry → WordState
of_entry None = Absent
of_entry (Some (entry.TheVariants.Valid value false)) = Valid value
of_entry (Some (entry.TheVariants.Valid value true)) = Touched value
of_entry (Some (entry.TheVariants.Registered value false)) = Registered value
of_entry (Some (entry.TheVariants.Registered value true)) = Pending value
of_entry (Some (entry.TheVariants.Leaving value)) = Leaving value

-- what a word's home holds for it
abbrev pub of_home : Option BankWord → WordState
of_home None = Absent
of_home (Some (home.TheVariants.Home value)) = Home value
of_home (Some (home.TheVariants.Reg core)) = At core

-- what an actor holds for a word in a state
abbrev pub word_state : State → Actor → ℕ → WordState
word_state S (actor.Core core) w = of_entry (entry_at S core.0 w)
word_state S (actor.Bank bank) w = of_home (word_in w (slice_get S.banks bank.0))
word_state S actor.Keeper w = Absent

-- the same for all data words
abbrev pub word_states : State → Actor → List WordState
word_states S a = map (word_state S a) (range_with_len 0 (length S.setting.program.memory))

-- whether two of these are the same
abbrev pub same_state : WordState → WordState → Bool
same_state Absent Absent = true
same_state (Valid a) (Valid b) = a == b
same_state (Touched a) (Touched b) = a == b
same_state (Registered a) (Registered b) = a == b
same_state (Pending a) (Pending b) = a == b
same_state (Leaving a) (Leaving b) = a == b
same_state (Home a) (Home b) = a == b
same_state (At a) (At b) = a.0 == b.0
same_state _ _ = false

-- a word's change, if it is one, before other changes
abbrev pub with_change : ℕ → WordState → WordState → List WordChange → List WordChange
with_change w before after rest = if same_state before after then rest else record { word = record { 0 = w }; before = before; after = after } ∷ rest

-- the changes of the words from number w on, which had these states and have those that `after` says
abbrev pub changes_from : (ℕ → WordState) → ℕ → List WordState → List WordChange
changes_from after w [] = []
changes_from after w (before ∷ befores) = with_change w before (after w) (changes_from after (w + 1) befores)

-- the changes of all words for an actor, from one state to another
abbrev pub changes_in : State → State → Actor → List WordChange
changes_in S T a = changes_from (word_state T a) 0 (word_states S a)

-- ---- the same, from only the words that may change

-- what an actor has for these words
abbrev pub held_word : State → Actor → ℕ → HeldWord
held_word S a w = record { word = record { 0 = w }; state = word_state S a w }

abbrev pub held_words : State → Actor → List ℕ → List HeldWord
held_words S a words = map (held_word S a) words

-- the changes of these words, which have now what `after` says
abbrev pub changes_among : (ℕ → WordState) → List HeldWord → List WordChange
changes_among after [] = []
changes_among after (h ∷ hs) = with_change h.word.0 h.state (after h.word.0) (changes_among after hs)
