-- How many events there have been, against what the tasks have retired: each event, and each one that is still to come of a
-- mail, of an entry and of a place in a queue, is paid by an instruction that has retired or is lent until one retires.
use Rattle.std.proofs.Common.{◌≡◌, ◌⊎◌, ℕ, zero, suc, ◌+◌, ◌*◌, ◌≤◌, Bool, true, false, length, slice_get, sum_by, Option, Some, None}
use Rattle.std.specs.Prelude.{count_by}
use Rattle.std.specs.Option.{is_some}
use Rattle.rv_core.specs.declared.task.TaskState.{TaskState}
use Rattle.message_net.specs.declared.message.Message.TheVariants.{ReadReq, ReadFwd, DataReply, RegReq, RegFwd, WriteBack, Acquire}
use Rattle.message_net.specs.declared.message.Outgoing.{Outgoing}
use Rattle.word_cache.specs.declared.row.Entry.{Entry}
use Rattle.word_cache.specs.declared.row.Entry.TheVariants.{Leaving}
use Rattle.word_cache.specs.Cache.{Pair}
use Rattle.queue_lock.specs.Lock.{Lock}
use Rattle.registry_bank.specs.declared.bank.BankWord.{BankWord}
use Rattle.registry_bank.specs.declared.bank.BankWord.TheVariants.{Reg}
use Rattle.registration_protocol.specs.declared.node.NodeWait as wait
use Rattle.registration_protocol.specs.declared.node.NodeWait.{NodeWait}
use Rattle.registration_protocol.specs.Node.{NodeParts}
use Rattle.machine_rules.specs.State.{State, home_at, lock_at}
use Rattle.machine_rules.specs.Flight.{Test, bit, flight}
use Rattle.machine_rules.specs.Sound.{rounds}
use Rattle.machine_rules.proofs.Bits.{passes}

-- ---- mails: 1 for each, 1 more for a RegFwd, WriteBack or Acquire, 2 more for a RegReq, 3 more for a DataReply, 4 more for a
-- ReadReq, 6 more where its word has a registrant, and 5 more for a ReadFwd

abbrev pub is_any : Test
is_any to message = true

abbrev pub is_handed : Test
is_handed to (RegFwd word core) = true
is_handed to (WriteBack word value core) = true
is_handed to (Acquire lock core) = true
is_handed to _ = false

abbrev pub is_register : Test
is_register to (RegReq word core) = true
is_register to _ = false

abbrev pub is_reply : Test
is_reply to (DataReply word value) = true
is_reply to _ = false

abbrev pub is_seek : Test
is_seek to (ReadReq word reader) = true
is_seek to _ = false

abbrev pub is_pass : Test
is_pass to (ReadFwd word reader) = true
is_pass to _ = false

abbrev pub is_owned : Option BankWord → Bool
is_owned (Some (Reg core)) = true
is_owned _ = false

abbrev pub seeks_owned : State → Test
seeks_owned S to (ReadReq word reader) = is_owned (home_at S word.0)
seeks_owned S to _ = false

abbrev pub mail_cost : State → ℕ
mail_cost S =
    flight S is_any + flight S is_handed + 2 * flight S is_register + 3 * flight S is_reply + 4 * flight S is_seek + 5 * flight S is_pass + 2 * flight S (seeks_owned S)

abbrev pub cost_of : State → Option Outgoing → ℕ
cost_of S out =
    passes is_any out + passes is_handed out + 2 * passes is_register out + 3 * passes is_reply out + 4 * passes is_seek out + 5 * passes is_pass out + 2 * passes (seeks_owned S) out

-- ---- nodes: 3 for each entry that isn't Leaving

abbrev pub is_work : Entry → Bool
is_work (Leaving value) = false
is_work _ = true

abbrev pub works : Pair → Bool
works p = is_work p.1

abbrev pub debt : NodeParts → ℕ
debt n = 3 * count_by works n.cache.pairs

-- 12 for each instruction that has retired, and 1 for the end of a task
abbrev pub earned : Option TaskState → ℕ
earned None = 0
earned (Some t) = 12 * t.retired + bit (is_some t.end)

-- 8 are lent while a word is awaited or has come, and 3 while a lock is awaited
abbrev pub lent : NodeWait → ℕ
lent wait.TheVariants.None = 0
lent (wait.TheVariants.Reading word) = 8
lent (wait.TheVariants.Filled word) = 8
lent (wait.TheVariants.Locking lock) = 3

-- 2 for each arrival
abbrev pub credit : NodeParts → ℕ
credit n = earned n.task + lent n.waiting + 2 * (n.phase + bit n.arrived)

-- ---- locks: 1 for each place in a queue

abbrev pub queue_in : Option Lock → ℕ
queue_in None = 0
queue_in (Some h) = length h.queue

abbrev pub total : (ℕ → ℕ) → ℕ → ℕ
total f zero = 0
total f (suc n) = total f n + f n

abbrev pub queue_cost : State → ℕ
queue_cost S = total (λ (l : ℕ). queue_in (lock_at S l)) (length S.setting.program.locks)

-- ---- all of it: after so many events, where the tasks of ended phases have earned `past`

pub record Spent (S : State) (made past : ℕ) : Type 0 where
  pub paid : made + (mail_cost S + sum_by debt S.nodes + queue_cost S) ≤ past + sum_by credit S.nodes + S.setting.shape.cores * rounds S

-- what a task has earned whose phase ends for its core at an event; 0 where no phase ends for a core
pub record EndsPhase (S T : State) (core : ℕ) (n m : NodeParts) : Type 0 where
  pub found : slice_get S.nodes core ≡ Some n
  pub now : slice_get T.nodes core ≡ Some m
  pub next_phase : m.phase ≡ n.phase + 1

abbrev pub HasEarned : State → State → ℕ → Type 0
HasEarned S T due = (due ≡ 0) ⊎ ((core : ℕ) × (n : NodeParts) × (m : NodeParts) × EndsPhase S T core n m × (due ≡ earned n.task))

-- one event more
pub record Spends (S T : State) (made past : ℕ) : Type 0 where
  pub due : ℕ
  pub earns : HasEarned S T due
  pub spent : Spent T (made + 1) (past + due)
