-- The value of each data word: as a state shows it, and by the stores of a run.
use Rattle.std.specs.Prelude.{ℕ, true, List, [], ◌∷◌, length, map, slice_get, slice_set, Option, Some, None}
use Rattle.std.specs.Option.{option_or}
use Rattle.std.specs.List.{range_with_len}
use Rattle.dn_base.specs.declared.ids.WordId.{WordId}
use Rattle.message_net.specs.declared.event.Event.{Event}
use Rattle.message_net.specs.declared.event.Event.TheVariants.{Instr}
use Rattle.word_cache.specs.declared.row.Entry.{Entry}
use Rattle.word_cache.specs.declared.row.Entry.TheVariants.{Valid, Registered, Leaving}
use Rattle.registry_bank.specs.declared.bank.BankWord.{BankWord}
use Rattle.registry_bank.specs.declared.bank.BankWord.TheVariants.{Home, Reg}
use Rattle.registration_protocol.specs.Node.{NodeParts, Setting, entry_of}
use Rattle.registration_protocol.specs.OwnEvents.{written_now}
use Rattle.machine_rules.specs.State.{State, entry_at, home_at}

-- the value of a pending entry
abbrev pub pending_value : Option Entry → Option ℕ
pending_value (Some (Registered value true)) = Some value
pending_value _ = None

-- the value that some core is about to register for a word
abbrev pub pending_among : List NodeParts → ℕ → Option ℕ
pending_among [] w = None
pending_among (n ∷ ns) w = option_or (pending_value (entry_of n w)) (pending_among ns w)

-- the value of the entry that a core has of a word
abbrev pub value_in_entry : Option Entry → ℕ
value_in_entry None = 0
value_in_entry (Some (Valid value marked)) = value
value_in_entry (Some (Registered value pending)) = value
value_in_entry (Some (Leaving value)) = value

-- the value that the home of a word holds, or that its registrant's entry has
abbrev pub kept_value : State → ℕ → Option BankWord → ℕ
kept_value S w None = 0
kept_value S w (Some (Home value)) = value
kept_value S w (Some (Reg core)) = value_in_entry (entry_at S core.0 w)

abbrev pub value_or_kept : State → ℕ → Option ℕ → ℕ
value_or_kept S w (Some value) = value
value_or_kept S w None = kept_value S w (home_at S w)

-- the value of a word in a state: that of its pending entry if some core has one; otherwise the one at its home; or else the
-- one in its registrant's entry
unfoldable pub word_value : State → ℕ → ℕ
word_value S w = value_or_kept S w (pending_among S.nodes w)

-- all data words of a state
abbrev pub memory_of : State → List ℕ
memory_of S = map (word_value S) (range_with_len 0 (length S.setting.program.memory))

-- the word that the instruction of a core stores, if it is a store that retires, and its new value
abbrev pub store_of : Setting → Option NodeParts → Option (WordId × ℕ)
store_of C None = None
store_of C (Some n) = written_now C n

unfoldable pub store_in : State → Event → Option (WordId × ℕ)
store_in S (Instr core) = store_of S.setting (slice_get S.nodes core.0)
store_in S _ = None

-- a memory after a store, if there is one
abbrev pub with_store : Option (WordId × ℕ) → List ℕ → List ℕ
with_store None memory = memory
with_store (Some (word, value)) memory = slice_set memory word.0 value
