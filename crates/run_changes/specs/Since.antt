-- How a state differs from the initial state of its machine: the changes that lead from there to it.
use Rattle.std.specs.Prelude.{ℕ, zero, suc, ◌+◌, ◌%◌, false, List, [], ◌∷◌, ◌++◌, length, map, replicate, slice_get, Option, Some, None}
use Rattle.std.specs.List.{filter}
use Rattle.message_net.specs.declared.actor.Actor.{Actor}
use Rattle.message_net.specs.declared.actor.Actor.TheVariants as actor
use Rattle.rv_core.specs.declared.task.End.{End}
use Rattle.rv_core.specs.declared.task.TaskState.{TaskState}
use Rattle.write_signature.specs.Signature.{empty}
use Rattle.registry_bank.specs.declared.bank.BankWord.TheVariants.{Home}
use Rattle.registration_protocol.specs.declared.node.NodeWait.TheVariants as wait
use Rattle.registration_protocol.specs.Node.{NodeParts}
use Rattle.machine_rules.specs.State.{State, home_at, lock_at}
use Rattle.run_changes.specs.declared.change.ActorChanges.{ActorChanges}
use Rattle.run_changes.specs.declared.change.Change.{Change}
use Rattle.run_changes.specs.declared.change.Change.TheVariants as change
use Rattle.run_changes.specs.declared.look.LockLook.{LockLook}
use Rattle.run_changes.specs.Changes.{home_change, queue_change, barrier_change, wait_change, lock_changes, locks_held, flag_change}
use Rattle.word_cache.specs.Cache.{Cache, Pair, in_set}

-- the changes of an actor, if there are any
abbrev pub changes_of : Actor → List Change → List ActorChanges
changes_of a [] = []
changes_of a (c ∷ cs) = record { actor = a; changes = c ∷ cs } ∷ []

-- every entry that a cache has
abbrev pub pair_held : Pair → Change
pair_held p = change.Holds p.0 p.1

-- of this many sets from one on: set by set, in each the least recently used first
abbrev pub held_from : Cache → ℕ → ℕ → List Change
held_from c set zero = []
held_from c set (suc n) = map pair_held (filter (in_set c.sets set) c.pairs) ++ held_from c (set + 1) n

-- how a task has ended, and where it is; the end comes first, since the instruction that finishes a task retires
abbrev pub end_since : Option End → List Change
end_since None = []
end_since (Some by) = change.Ended by ∷ []

abbrev pub task_since : Option TaskState → List Change
task_since None = []
task_since (Some t) = end_since t.end ++ change.At t.pc t.retired ∷ []

-- how a node differs from one in which its phase begins without entries
abbrev pub node_since : NodeParts → List Change
node_since n =
    change.Begins (record { 0 = n.phase })
    ∷ (held_from n.cache 0 n.cache.sets
    ++ (task_since n.task
    ++ (wait_change wait.None n.waiting
    ++ (lock_changes 0 (locks_held n.task) (replicate (length n.signatures) (empty n.phase)) 0 n.signatures
    ++ (flag_change false n.arrived change.Arrived ++ flag_change false n.halted change.Halted)))))

abbrev pub core_since : ℕ → Option NodeParts → List ActorChanges
core_since core None = []
core_since core (Some n) = changes_of (actor.Core (record { 0 = core })) (node_since n)

-- of this many cores from one on
abbrev pub cores_since : State → ℕ → ℕ → List ActorChanges
cores_since S core zero = []
cores_since S core (suc n) = core_since core (slice_get S.nodes core) ++ cores_since S (core + 1) n

-- the bank of a word or a lock
abbrev pub home_of : State → ℕ → Actor
home_of S number = actor.Bank (record { 0 = number % S.setting.shape.banks })

-- a word at its home, compared with its initial value
abbrev pub word_since : State → ℕ → ℕ → List ActorChanges
word_since S w value = changes_of (home_of S w) (home_change (record { 0 = w }) (Some (Home value)) (home_at S w))

-- the words from one on, compared with their initial values
abbrev pub words_since : State → ℕ → List ℕ → List ActorChanges
words_since S w [] = []
words_since S w (value ∷ values) = word_since S w value ++ words_since S (w + 1) values

-- a lock that is free, and whose signature is the empty one of phase 0
abbrev pub free_look : LockLook
free_look = record { holder = None; waiting = 0; kept = empty 0 }

-- a lock at its home
abbrev pub lock_since : State → ℕ → List ActorChanges
lock_since S l = changes_of (home_of S l) (queue_change (record { 0 = l }) free_look (lock_at S l))

-- of this many locks from one on
abbrev pub locks_since : State → ℕ → ℕ → List ActorChanges
locks_since S l zero = []
locks_since S l (suc n) = lock_since S l ++ locks_since S (l + 1) n

-- the changes of all actors: the cores, the homes of words and locks, and the keeper
unfoldable pub changes_since : State → List ActorChanges
changes_since S =
    cores_since S 0 S.setting.shape.cores
    ++ (words_since S 0 S.setting.program.memory
    ++ (locks_since S 0 (length S.setting.program.locks)
    ++ changes_of actor.Keeper (barrier_change S.keeper ∷ [])))
