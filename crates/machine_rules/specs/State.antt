-- A state of the machine: its cores' nodes, its banks, the keeper of its barrier, and the mails in flight.
use Rattle.std.specs.Prelude.{ℕ, ◌+◌, ◌%◌, List, [], length, map, replicate, slice_get, Option, Some, None}
use Rattle.std.specs.List.{range_with_len}
use Rattle.message_net.specs.declared.message.Mail.{Mail}
use Rattle.word_cache.specs.declared.row.Entry.{Entry}
use Rattle.queue_lock.specs.Lock.{Lock}
use Rattle.registry_bank.specs.declared.bank.BankWord.{BankWord}
use Rattle.registry_bank.specs.Bank.{BankParts, bank_word, bank_lock, initial_bank}
use Rattle.phase_barrier.specs.Barrier.{Barrier}
use Rattle.phase_barrier.specs.Barrier.{initial_barrier}
use Rattle.registration_protocol.specs.Node.{NodeParts, Setting, entry_of, initial_node}

-- the program with its plans, shape and fuel; the nodes and the banks, in the order of their numbers; the keeper; the mails in
-- flight; and the number of the next mail of each actor: cores, banks, keeper
pub record State : Type 0 where
  pub setting : Setting
  pub nodes : List NodeParts
  pub banks : List BankParts
  pub keeper : Barrier
  pub mails : List Mail
  pub numbers : List ℕ

-- the banks when a run begins
abbrev pub initial_banks : Setting → List BankParts
initial_banks C = map (λ (bank : ℕ). initial_bank bank C.shape.banks C.shape.cores C.program.memory (length C.program.locks)) (range_with_len 0 C.shape.banks)

-- the machine when a run begins: each node is in the first phase, the banks hold the initial memory, and no mail is in flight
unfoldable pub initial_state : Setting → State
initial_state C =
    record {
      setting = C;
      nodes = map (initial_node C) (range_with_len 0 C.shape.cores);
      banks = initial_banks C;
      keeper = initial_barrier C.shape.cores (length C.program.phases);
      mails = [];
      numbers = replicate (C.shape.cores + C.shape.banks + 1) 0;
    }

-- the entry that a core has of a word
abbrev pub entry_in : ℕ → Option NodeParts → Option Entry
entry_in w None = None
entry_in w (Some n) = entry_of n w

abbrev pub entry_at : State → ℕ → ℕ → Option Entry
entry_at S core w = entry_in w (slice_get S.nodes core)

-- what the home of a word holds for it, and a lock at its home
abbrev pub word_in : ℕ → Option BankParts → Option BankWord
word_in w None = None
word_in w (Some b) = bank_word b w

abbrev pub home_at : State → ℕ → Option BankWord
home_at S w = word_in w (slice_get S.banks (w % S.setting.shape.banks))

abbrev pub lock_in : ℕ → Option BankParts → Option Lock
lock_in l None = None
lock_in l (Some b) = bank_lock b l

abbrev pub lock_at : State → ℕ → Option Lock
lock_at S l = lock_in l (slice_get S.banks (l % S.setting.shape.banks))
