-- What is different of a state from the machine's beginning leads to the state.
use Rattle.std.proofs.Common.{◌≡◌, ℕ, zero, suc, ◌+◌, ◌%◌, ◌<◌, ◌≤◌, ◌==◌, ◌&&◌, nat_lt, Bool, true, false, cond, List, [], ◌∷◌, ◌++◌, length, slice_get, slice_index_or, Option, Some, None, refl, sym, ap, subst, ◌∙◌, arith}
use Rattle.std.specs.List.{fold}
use Rattle.std.specs.Option.{is_some}
use Rattle.std.proofs.lemmas.Bool.{ltb-true, ltb-false}
use Rattle.std.proofs.lemmas.Bool.Decides.{nat_tests}
use Rattle.std.proofs.lemmas.List.{length-replicate}
use Rattle.std.proofs.lemmas.List.Concat.{flat_map-append}
use Rattle.std.proofs.lemmas.Option.{none-some, slice_get_past, slice_get-get_or}
use Rattle.dn_base.specs.declared.ids.BankId.{BankId}
use Rattle.dn_base.specs.declared.ids.CoreId.{CoreId}
use Rattle.message_net.specs.declared.actor.Actor.{Actor}
use Rattle.message_net.specs.declared.actor.Actor.TheVariants.{Core, Bank, Keeper}
use Rattle.message_net.specs.Id.{same_actor}
use Rattle.queue_lock.specs.Lock.{Lock, free_lock}
use Rattle.registry_bank.specs.declared.bank.BankWord.{BankWord}
use Rattle.registry_bank.specs.declared.bank.BankWord.TheVariants.{Home}
use Rattle.registry_bank.specs.Bank.{BankParts, first_word}
use Rattle.phase_barrier.specs.Barrier.{initial_barrier}
use Rattle.registration_protocol.specs.Node.{NodeParts}
use Rattle.machine_rules.specs.State.{State, initial_state, home_at, lock_in, lock_at}
use Rattle.machine_rules.specs.Sound.{IsMachine}
use Rattle.machine_rules.proofs.OpenedFacts.{opened-node, opened-home, opened-lock}
use Rattle.run_changes.specs.declared.change.ActorChanges.{ActorChanges}
use Rattle.run_changes.specs.declared.change.Change.{Change}
use Rattle.run_changes.specs.Changes.{home_change, queue_change, barrier_change, same_holder}
use Rattle.run_changes.specs.Applied.{home_step, lock_step, keeper_step}
use Rattle.run_changes.specs.Since.{changes_of, node_since, core_since, cores_since, home_of, word_since, words_since, free_look, lock_since, locks_since, changes_since}
use Rattle.run_changes.specs.Leads.{own_changes, changes_for, NodeLed, Leads}
use Rattle.run_changes.proofs.Applied.{Every, Leaves, all-append, steady, skip, behind}
use Rattle.run_changes.proofs.Listed.{nothing_behind}
use Rattle.run_changes.proofs.Homes.{StaysThere, here, home-else, lock-told}
use Rattle.run_changes.proofs.Locks.{IsApart, below-apart, above-apart}
use Rattle.run_changes.proofs.LockHomes.{QueueMoves, lock-here, lock-else, word-told}
use Rattle.run_changes.proofs.Keepers.{keeper-told}
use Rattle.run_changes.proofs.Begun.{node-begun}

-- ---- the changes of one actor

pub for-append : (a : Actor) (xs ys : List ActorChanges) → changes_for a (xs ++ ys) ≡ changes_for a xs ++ changes_for a ys
for-append a xs ys = flat_map-append (own_changes a) xs ys

either-way : {X : Type 0} (t : Bool) (x : X) → x ≡ cond t x x
either-way true x = refl
either-way false x = refl

pub for-one : (a b : Actor) (cs : List Change) → changes_for a (changes_of b cs) ≡ cond (same_actor b a) cs []
for-one a b [] = either-way (same_actor b a) []
for-one a b (c ∷ cs) = nothing_behind (cond (same_actor b a) (c ∷ cs) [])

for-other : (a b : Actor) (cs : List Change) → same_actor b a ≡ false → changes_for a (changes_of b cs) ≡ []
for-other a b cs other = for-one a b cs ∙ rw (other) refl

for-own : (a b : Actor) (cs : List Change) → same_actor b a ≡ true → changes_for a (changes_of b cs) ≡ cs
for-own a b cs same = for-one a b cs ∙ rw (same) refl

-- two parts, the first or the second of which has nothing of the actor
first-none : (a : Actor) (xs ys : List ActorChanges) → changes_for a xs ≡ [] → changes_for a (xs ++ ys) ≡ changes_for a ys
first-none a xs ys none = for-append a xs ys ∙ ap (λ (cs : List Change). cs ++ changes_for a ys) none

second-none : (a : Actor) (xs ys : List ActorChanges) → changes_for a ys ≡ [] → changes_for a (xs ++ ys) ≡ changes_for a xs
second-none a xs ys none = for-append a xs ys ∙ ap (λ (cs : List Change). changes_for a xs ++ cs) none ∙ nothing_behind (changes_for a xs)

both-none : (a : Actor) (xs ys : List ActorChanges) → changes_for a xs ≡ [] → changes_for a ys ≡ [] → changes_for a (xs ++ ys) ≡ []
both-none a xs ys none nothing = first-none a xs ys none ∙ nothing

module _ (S : State) (a : Actor) where
  -- an actor that is no core, and one that is no bank
  no-cores : ((core : CoreId) → same_actor (Core core) a ≡ false) → (first count : ℕ) → changes_for a (cores_since S first count) ≡ []
  no-cores other first zero = refl
  no-cores other first (suc count) = both-none a (core_since first (slice_get S.nodes first)) (cores_since S (first + 1) count) (by_node (slice_get S.nodes first)) (no-cores other (first + 1) count) where
    by_node : (o : Option NodeParts) → changes_for a (core_since first o) ≡ []
    by_node None = refl
    by_node (Some n) = for-other a (Core (record { 0 = first })) (node_since n) (other (record { 0 = first }))

  no-words : ((bank : BankId) → same_actor (Bank bank) a ≡ false) → (w : ℕ) (values : List ℕ) → changes_for a (words_since S w values) ≡ []
  no-words other w [] = refl
  no-words other w (value ∷ values) =
      both-none a (word_since S w value) (words_since S (w + 1) values)
      (for-other a (home_of S w) (home_change (record { 0 = w }) (Some (Home value)) (home_at S w)) (other (record { 0 = w % S.setting.shape.banks }))) (no-words other (w + 1) values)

  no-locks : ((bank : BankId) → same_actor (Bank bank) a ≡ false) → (l count : ℕ) → changes_for a (locks_since S l count) ≡ []
  no-locks other l zero = refl
  no-locks other l (suc count) =
      both-none a (lock_since S l) (locks_since S (l + 1) count)
      (for-other a (home_of S l) (queue_change (record { 0 = l }) free_look (lock_at S l)) (other (record { 0 = l % S.setting.shape.banks }))) (no-locks other (l + 1) count)

-- ---- cores

module _ (S : State) (core : CoreId) where
  core-else : (first : ℕ) (o : Option NodeParts) → (first == core.0) ≡ false → changes_for (Core core) (core_since first o) ≡ []
  core-else first None other = refl
  core-else first (Some n) other = for-other (Core core) (Core (record { 0 = first })) (node_since n) other

  cores-past : (first count : ℕ) → core.0 < first → changes_for (Core core) (cores_since S first count) ≡ []
  cores-past first zero past = refl
  cores-past first (suc count) past =
      both-none (Core core) (core_since first (slice_get S.nodes first)) (cores_since S (first + 1) count) (core-else first (slice_get S.nodes first) (grind (arith, nat_tests, past))) (cores-past (first + 1) count (omega (arith, past)))

  core-own : (n : NodeParts) (first : ℕ) (o : Option NodeParts) → o ≡ Some n → (first == core.0) ≡ true → changes_for (Core core) (core_since first o) ≡ node_since n
  core-own n first o is same = ap (λ (p : Option NodeParts). changes_for (Core core) (core_since first p)) is ∙ for-own (Core core) (Core (record { 0 = first })) (node_since n) same

  cores-from : (n : NodeParts) (first count i : ℕ) → first + i ≡ core.0 → i < count → slice_get S.nodes core.0 ≡ Some n → changes_for (Core core) (cores_since S first count) ≡ node_since n
  cores-from n first zero i at within found = absurd (omega (arith, within))
  cores-from n first (suc count) zero at within found =
      let same : core.0 ≡ first = omega (arith, at) in
      second-none (Core core) (core_since first (slice_get S.nodes first)) (cores_since S (first + 1) count) (cores-past (first + 1) count (omega (arith, same)))
      ∙ core-own n first (slice_get S.nodes first) (rw (same) at found) (grind (arith, nat_tests, same))
  cores-from n first (suc count) (suc i) at within found =
      first-none (Core core) (core_since first (slice_get S.nodes first)) (cores_since S (first + 1) count) (core-else first (slice_get S.nodes first) (grind (arith, nat_tests, at)))
      ∙ cores-from n (first + 1) count i (omega (arith, at)) (omega (arith, within)) found

  keeper-none : changes_for (Core core) (changes_of Keeper (barrier_change S.keeper ∷ [])) ≡ []
  keeper-none = for-other (Core core) Keeper (barrier_change S.keeper ∷ []) refl

  pub core-changes : (n : NodeParts) → core.0 < S.setting.shape.cores → slice_get S.nodes core.0 ≡ Some n → changes_for (Core core) (changes_since S) ≡ node_since n
  unfolding changes_since
  core-changes n below found =
      second-none (Core core) (cores_since S 0 S.setting.shape.cores) _
      (both-none (Core core) (words_since S 0 S.setting.program.memory) _ (no-words S (Core core) (λ b. refl) 0 S.setting.program.memory)
      (both-none (Core core) (locks_since S 0 (length S.setting.program.locks)) _ (no-locks S (Core core) (λ b. refl) 0 (length S.setting.program.locks)) keeper-none))
      ∙ cores-from n 0 S.setting.shape.cores core.0 (omega arith) below found

pub keeper-changes : (S : State) → changes_for Keeper (changes_since S) ≡ barrier_change S.keeper ∷ []
unfolding changes_since
keeper-changes S =
    first-none Keeper (cores_since S 0 S.setting.shape.cores) _ (no-cores S Keeper (λ c. refl) 0 S.setting.shape.cores)
    ∙ first-none Keeper (words_since S 0 S.setting.program.memory) _ (no-words S Keeper (λ b. refl) 0 S.setting.program.memory)
    ∙ first-none Keeper (locks_since S 0 (length S.setting.program.locks)) _ (no-locks S Keeper (λ b. refl) 0 (length S.setting.program.locks))
    ∙ for-own Keeper Keeper (barrier_change S.keeper ∷ []) refl

-- ---- banks

-- of a bank there are the changes of words, and then those of locks
bank-changes : (S : State) (bank : BankId) → changes_for (Bank bank) (changes_since S)
    ≡ changes_for (Bank bank) (words_since S 0 S.setting.program.memory) ++ changes_for (Bank bank) (locks_since S 0 (length S.setting.program.locks))
unfolding changes_since
bank-changes S bank =
    first-none (Bank bank) (cores_since S 0 S.setting.shape.cores) _ (no-cores S (Bank bank) (λ c. refl) 0 S.setting.shape.cores)
    ∙ for-append (Bank bank) (words_since S 0 S.setting.program.memory) _
    ∙ ap (λ (cs : List Change). changes_for (Bank bank) (words_since S 0 S.setting.program.memory) ++ cs)
    (second-none (Bank bank) (locks_since S 0 (length S.setting.program.locks)) _ (for-other (Bank bank) Keeper (barrier_change S.keeper ∷ []) refl))

-- what holds of each change of a part holds of those of one actor
all-own : (P : Change → Type 0) (a b : Actor) (cs : List Change) → Every P cs → Every P (changes_for a (changes_of b cs))
all-own P a b cs all = subst (Every P) (sym (for-one a b cs)) (by_test (same_actor b a)) where
  by_test : (t : Bool) → Every P (cond t cs [])
  by_test true = all
  by_test false = tt

all-both : (P : Change → Type 0) (a : Actor) (xs ys : List ActorChanges) → Every P (changes_for a xs) → Every P (changes_for a ys) → Every P (changes_for a (xs ++ ys))
all-both P a xs ys p q = subst (Every P) (sym (for-append a xs ys)) (all-append P (changes_for a xs) (changes_for a ys) p q)

same-home : (S : State) (v w : ℕ) → v ≡ w → same_actor (home_of S v) (home_of S w) ≡ true
same-home S v w same = grind (arith, nat_tests, same)

stays : (x y : BankWord) → StaysThere (Some x) (Some y)
stays x y = tt

module _ (S : State) (w : ℕ) where
  words-apart : (v : ℕ) (values : List ℕ) → IsApart w v (length values) → Every (Leaves (home_step w)) (changes_for (home_of S w) (words_since S v values))
  words-apart v [] out = tt
  words-apart v (value ∷ values) out =
      all-both (Leaves (home_step w)) (home_of S w) (word_since S v value) (words_since S (v + 1) values)
      (all-own (Leaves (home_step w)) (home_of S w) (home_of S v) (home_change (record { 0 = v }) (Some (Home value)) (home_at S v))
      (home-else w (record { 0 = v }) (Some (Home value)) (home_at S v) (out v (omega arith) (omega arith))))
      (words-apart (v + 1) values (λ j from within. out j (omega (arith, from)) (omega (arith, within))))

  word-own : (value : ℕ) (x : BankWord) → home_at S w ≡ Some x → fold (home_step w) (Some (Home value)) (changes_for (home_of S w) (word_since S w value)) ≡ home_at S w
  word-own value x is =
      ap (fold (home_step w) (Some (Home value))) (for-own (home_of S w) (home_of S w) (home_change (record { 0 = w }) (Some (Home value)) (home_at S w)) (same-home S w w refl))
      ∙ here w (record { 0 = w }) (Some (Home value)) (home_at S w) (grind (arith, nat_tests)) (rw (is) (stays (Home value) x))

  words-from : (v : ℕ) (values : List ℕ) (i value : ℕ) (x : BankWord) → v + i ≡ w → slice_get values i ≡ Some value → home_at S w ≡ Some x
      → fold (home_step w) (Some (Home value)) (changes_for (home_of S w) (words_since S v values)) ≡ home_at S w
  words-from v [] i value x at is there = absurd (none-some value is)
  words-from v (first ∷ values) zero value x at is there =
      let same : v ≡ w = omega (arith, at) in
      let one : first ≡ value = cc in
      ap (fold (home_step w) (Some (Home value))) (for-append (home_of S w) (word_since S v first) (words_since S (v + 1) values))
      ∙ behind (home_step w) (Some (Home value)) (home_at S w) (changes_for (home_of S w) (word_since S v first)) _
      (rw (same, one) (word-own value x there))
      (words-apart (v + 1) values (below-apart w (v + 1) (length values) (omega (arith, same))))
  words-from v (first ∷ values) (suc i) value x at is there =
      ap (fold (home_step w) (Some (Home value))) (for-append (home_of S w) (word_since S v first) (words_since S (v + 1) values))
      ∙ skip (home_step w) (Some (Home value)) (changes_for (home_of S w) (word_since S v first)) _
      (all-own (Leaves (home_step w)) (home_of S w) (home_of S v) (home_change (record { 0 = v }) (Some (Home first)) (home_at S v))
      (home-else w (record { 0 = v }) (Some (Home first)) (home_at S v) (grind (arith, nat_tests, at))))
      ∙ words-from (v + 1) values i value x (omega (arith, at)) is there

  -- locks say nothing of a word
  locks-told : (l count : ℕ) → Every (Leaves (home_step w)) (changes_for (home_of S w) (locks_since S l count))
  locks-told l zero = tt
  locks-told l (suc count) =
      all-both (Leaves (home_step w)) (home_of S w) (lock_since S l) (locks_since S (l + 1) count)
      (all-own (Leaves (home_step w)) (home_of S w) (home_of S l) (queue_change (record { 0 = l }) free_look (lock_at S l)) (lock-told w (record { 0 = l }) free_look (lock_at S l)))
      (locks-told (l + 1) count)

module _ (S : State) (l : ℕ) where
  locks-apart : (v count : ℕ) → IsApart l v count → Every (Leaves (lock_step l)) (changes_for (home_of S l) (locks_since S v count))
  locks-apart v zero out = tt
  locks-apart v (suc count) out =
      all-both (Leaves (lock_step l)) (home_of S l) (lock_since S v) (locks_since S (v + 1) count)
      (all-own (Leaves (lock_step l)) (home_of S l) (home_of S v) (queue_change (record { 0 = v }) free_look (lock_at S v)) (lock-else l (record { 0 = v }) free_look (lock_at S v) (out v (omega arith) (omega arith))))
      (locks-apart (v + 1) count (λ j from within. out j (omega (arith, from)) (omega (arith, within))))

  free-moves : (cores : ℕ) (k : Lock) → k.capacity ≡ cores → QueueMoves (free_lock cores) k
  free-moves cores k room =
      record { capacity = room; holder = λ e. by_holder k.holder (length k.queue) e; queue = λ e. by_queue k.queue (same_holder None k.holder) e } where
        by_holder : (o : Option CoreId) (count : ℕ) → (same_holder None o && (0 == count)) ≡ true → None ≡ o
        by_holder None count e = refl
        by_holder (Some d) count e = absurd (cc)

        by_queue : (queue : List CoreId) (b : Bool) → (b && (0 == length queue)) ≡ true → [] ≡ queue
        by_queue [] b e = refl
        by_queue (d ∷ ds) true e = absurd (grind (arith, nat_tests, e))
        by_queue (d ∷ ds) false e = absurd (cc)

  lock-own : (cores : ℕ) (k : Lock) → k.capacity ≡ cores → lock_at S l ≡ Some k → fold (lock_step l) (Some (free_lock cores)) (changes_for (home_of S l) (lock_since S l)) ≡ lock_at S l
  lock-own cores k room is =
      ap (fold (lock_step l) (Some (free_lock cores))) (for-own (home_of S l) (home_of S l) (queue_change (record { 0 = l }) free_look (lock_at S l)) (same-home S l l refl))
      ∙ ap (λ (o : Option Lock). fold (lock_step l) (Some (free_lock cores)) (queue_change (record { 0 = l }) free_look o)) is
      ∙ lock-here l (record { 0 = l }) (free_lock cores) k (grind (arith, nat_tests)) (free-moves cores k room) ∙ sym is

  locks-from : (cores : ℕ) (k : Lock) (v count i : ℕ) → k.capacity ≡ cores → lock_at S l ≡ Some k → v + i ≡ l → i < count
      → fold (lock_step l) (Some (free_lock cores)) (changes_for (home_of S l) (locks_since S v count)) ≡ lock_at S l
  locks-from cores k v zero i room is at within = absurd (omega (arith, within))
  locks-from cores k v (suc count) zero room is at within =
      let same : v ≡ l = omega (arith, at) in
      ap (fold (lock_step l) (Some (free_lock cores))) (for-append (home_of S l) (lock_since S v) (locks_since S (v + 1) count))
      ∙ behind (lock_step l) (Some (free_lock cores)) (lock_at S l) (changes_for (home_of S l) (lock_since S v)) _
      (rw (same) (lock-own cores k room is))
      (locks-apart (v + 1) count (below-apart l (v + 1) count (omega (arith, same))))
  locks-from cores k v (suc count) (suc i) room is at within =
      ap (fold (lock_step l) (Some (free_lock cores))) (for-append (home_of S l) (lock_since S v) (locks_since S (v + 1) count))
      ∙ skip (lock_step l) (Some (free_lock cores)) (changes_for (home_of S l) (lock_since S v)) _
      (all-own (Leaves (lock_step l)) (home_of S l) (home_of S v) (queue_change (record { 0 = v }) free_look (lock_at S v)) (lock-else l (record { 0 = v }) free_look (lock_at S v) (grind (arith, nat_tests, at))))
      ∙ locks-from cores k (v + 1) count i room is (omega (arith, at)) (omega (arith, within))

  -- words say nothing of a lock
  words-told : (w : ℕ) (values : List ℕ) → Every (Leaves (lock_step l)) (changes_for (home_of S l) (words_since S w values))
  words-told w [] = tt
  words-told w (value ∷ values) =
      all-both (Leaves (lock_step l)) (home_of S l) (word_since S w value) (words_since S (w + 1) values)
      (all-own (Leaves (lock_step l)) (home_of S l) (home_of S w) (home_change (record { 0 = w }) (Some (Home value)) (home_at S w)) (word-told l (record { 0 = w }) (Some (Home value)) (home_at S w)))
      (words-told (w + 1) values)

-- ---- the whole state

there-is : {X : Type 0} (o : Option X) → is_some o ≡ true → (x : X) × (o ≡ Some x)
there-is None e = absurd (cc)
there-is (Some x) e = (x, refl)

there-is-none : {X : Type 0} (o : Option X) → is_some o ≡ false → o ≡ None
there-is-none None e = refl
there-is-none (Some x) e = absurd (cc)

homes-begun : (S : State) → IsMachine S → (w : ℕ) → fold (home_step w) (home_at (initial_state S.setting) w) (changes_for (home_of S w) (changes_since S)) ≡ home_at S w
homes-begun S machine w =
    ap (fold (home_step w) (home_at (initial_state S.setting) w)) (bank-changes S (record { 0 = w % S.setting.shape.banks }))
    ∙ ap (λ (x : Option BankWord). fold (home_step w) x (words ++ locks)) (opened-home S.setting w machine.context)
    ∙ behind (home_step w) (first_word (slice_get S.setting.program.memory w)) (home_at S w) words locks (by_test (nat_lt w (length S.setting.program.memory)) refl) (locks-told S w 0 (length S.setting.program.locks))
  where
    words : List Change
    words = changes_for (home_of S w) (words_since S 0 S.setting.program.memory)

    locks : List Change
    locks = changes_for (home_of S w) (locks_since S 0 (length S.setting.program.locks))

    by_test : (t : Bool) → nat_lt w (length S.setting.program.memory) ≡ t → fold (home_step w) (first_word (slice_get S.setting.program.memory w)) (changes_for (home_of S w) (words_since S 0 S.setting.program.memory)) ≡ home_at S w
    by_test true e =
        let value = slice_index_or S.setting.program.memory w 0 in
        let first : slice_get S.setting.program.memory w ≡ Some value = slice_get-get_or S.setting.program.memory w 0 (ltb-true w (length S.setting.program.memory) e) in
        let now = there-is (home_at S w) (machine.words w ∙ e) in
        rw (first) (words-from S w 0 S.setting.program.memory w value now.0 (omega arith) first now.1)
    by_test false e =
        let above : length S.setting.program.memory ≤ w = ltb-false w (length S.setting.program.memory) e in
        ap (λ (o : Option ℕ). fold (home_step w) (first_word o) (changes_for (home_of S w) (words_since S 0 S.setting.program.memory))) (slice_get_past S.setting.program.memory w above)
        ∙ steady (home_step w) None _ (words-apart S w 0 S.setting.program.memory (above-apart w 0 (length S.setting.program.memory) (omega (arith, above))))
        ∙ sym (there-is-none (home_at S w) (machine.words w ∙ e))

-- as many cores may wait as there are
room-in : (S : State) → IsMachine S → (l : ℕ) (k : Lock) → lock_at S l ≡ Some k → k.capacity ≡ S.setting.shape.cores
room-in S machine l k is = by_bank (slice_get S.banks (l % S.setting.shape.banks)) refl is where
  by_bank : (o : Option BankParts) → slice_get S.banks (l % S.setting.shape.banks) ≡ o → lock_in l o ≡ Some k → k.capacity ≡ S.setting.shape.cores
  by_bank None found is = absurd (cc)
  by_bank (Some b) found is =
      let at = machine.bank (l % S.setting.shape.banks) b found in
      (at.well.locks l k is).room ∙ at.cores

locks-begun : (S : State) → IsMachine S → (l : ℕ) → fold (lock_step l) (lock_at (initial_state S.setting) l) (changes_for (home_of S l) (changes_since S)) ≡ lock_at S l
locks-begun S machine l =
    ap (fold (lock_step l) (lock_at (initial_state S.setting) l)) (bank-changes S (record { 0 = l % S.setting.shape.banks }))
    ∙ ap (λ (x : Option Lock). fold (lock_step l) x (words ++ locks)) (opened-lock S.setting l machine.context)
    ∙ skip (lock_step l) (cond (nat_lt l (length S.setting.program.locks)) (Some (free_lock S.setting.shape.cores)) None) words locks (words-told S l 0 S.setting.program.memory)
    ∙ by_test (nat_lt l (length S.setting.program.locks)) refl
  where
    words : List Change
    words = changes_for (home_of S l) (words_since S 0 S.setting.program.memory)

    locks : List Change
    locks = changes_for (home_of S l) (locks_since S 0 (length S.setting.program.locks))

    by_test : (t : Bool) → nat_lt l (length S.setting.program.locks) ≡ t
        → fold (lock_step l) (cond t (Some (free_lock S.setting.shape.cores)) None) (changes_for (home_of S l) (locks_since S 0 (length S.setting.program.locks))) ≡ lock_at S l
    by_test true e =
        let now = there-is (lock_at S l) (machine.locks l ∙ e) in
        locks-from S l S.setting.shape.cores now.0 0 (length S.setting.program.locks) l (room-in S machine l now.0 now.1) now.1 (omega arith) (ltb-true l (length S.setting.program.locks) e)
    by_test false e =
        let above : length S.setting.program.locks ≤ l = ltb-false l (length S.setting.program.locks) e in
        steady (lock_step l) None _ (locks-apart S l 0 (length S.setting.program.locks) (above-apart l 0 (length S.setting.program.locks) (omega (arith, above))))
        ∙ sym (there-is-none (lock_at S l) (machine.locks l ∙ e))

node-led : (S : State) → IsMachine S → (core : CoreId) (n m : NodeParts) → slice_get (initial_state S.setting).nodes core.0 ≡ Some n → slice_get S.nodes core.0 ≡ Some m
    → NodeLed S.setting.program n (changes_for (Core core) (changes_since S)) m
node-led S machine core n m was found =
    let new = opened-node S.setting core.0 n was in
    let at = machine.node core.0 m found in
    let some : 0 < m.cache.sets = omega (arith, at.fits.sets, machine.context.some_sets) in
    rw (new.is, core-changes S core m new.below found) (node-begun S.setting core.0 m at.fits at.core some)

pub start-leads : (S : State) → IsMachine S → Leads (initial_state S.setting) (changes_since S) S
unfolding initial_state
start-leads S machine =
    record {
      cores = λ core n m was found. node-led S machine core n m was found;
      homes = λ w. homes-begun S machine w;
      locks = λ l. locks-begun S machine l;
      keeper =
          ap (fold keeper_step (initial_barrier S.setting.shape.cores (length S.setting.program.phases))) (keeper-changes S)
          ∙ keeper-told (initial_barrier S.setting.shape.cores (length S.setting.program.phases)) S.keeper machine.phases (machine.cores ∙ sym (length-replicate S.setting.shape.cores false));
    }
