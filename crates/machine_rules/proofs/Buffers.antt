-- The mails in flight are few. Each is for an entry of a core's cache, for what a core waits for, or the release of a lock's holder.
use Rattle.std.proofs.Common.{◌≡◌, ℕ, zero, suc, ◌+◌, ◌*◌, ◌%◌, ◌<◌, ◌≤◌, ◌==◌, ◌&&◌, not, Bool, true, false, nat_lt, List, [], ◌∷◌, length, slice_get, sum_by, Option, Some, None, refl, sym, ap, subst, ◌∙◌, arith}
use Rattle.std.specs.Option.{is_some}
use Rattle.std.proofs.lemmas.Bool.{eqb-true}
use Rattle.std.proofs.lemmas.Bool.Decides.{nat_tests}
use Rattle.std.proofs.lemmas.Nat.{mod_below, mod-mul-add}
use Rattle.std.proofs.lemmas.List.Sums.{sum_by-cons, sum_by-le}
use Rattle.dn_base.specs.declared.ids.CoreId.{CoreId}
use Rattle.message_net.specs.declared.actor.Actor.{Actor}
use Rattle.message_net.specs.declared.actor.Actor.TheVariants.{Core, Bank, Keeper}
use Rattle.message_net.specs.declared.event.Event.{Event}
use Rattle.message_net.specs.declared.message.Mail.{Mail}
use Rattle.message_net.specs.declared.message.Message.{Message}
use Rattle.message_net.specs.declared.message.Message.TheVariants.{ReadReq, ReadFwd, DataReply, RegReq, RegFwd, RegAck, WriteBack, WbAck, Acquire, Release, Grant, Arrived, Go, Halt}
use Rattle.word_cache.specs.declared.row.Entry.{Entry}
use Rattle.word_cache.specs.Cache.{Cache, Pair, IsCache, shares_set, set_count}
use Rattle.word_cache.proofs.LookLemmas.{pair-of}
use Rattle.queue_lock.specs.Lock.{Lock, holder_count}
use Rattle.registration_protocol.specs.declared.node.NodeWait as wait
use Rattle.registration_protocol.specs.declared.node.NodeWait.{NodeWait}
use Rattle.registration_protocol.specs.Node.{NodeParts, Setting, entry_of}
use Rattle.machine_rules.specs.State.{State, initial_state, entry_in, entry_at, lock_at}
use Rattle.machine_rules.specs.Flight.{Test, bit, mail_count, flight, weighs, is_to, is_reg_req_of, is_reg_fwd_of, is_reg_ack_to, is_write_back_of, is_wb_ack_to, is_read_req_of, is_read_fwd_of, is_data_reply_to, is_acquire_of, is_release_of, is_grant_to, is_arrival_of, is_go_to, is_halt_to}
use Rattle.machine_rules.specs.Coherent.{node_is_locking, is_locking, holder_in, is_alive}
use Rattle.machine_rules.specs.Runs.{after, IsRun}
use Rattle.machine_rules.specs.Sound.{IsWellFormed}
use Rattle.machine_rules.specs.Buffers.{entries_most, core_mails_most, mails_most}
use Rattle.machine_rules.proofs.Bits.{pending_bit, leaving_bit, is_reading, reading_in}
use Rattle.machine_rules.proofs.BitLemmas.{entry-bits}
use Rattle.machine_rules.proofs.Invariant.{Invariant, is_right, is_lost, is_core}
use Rattle.machine_rules.proofs.Found.{item-within, sums-within}
use Rattle.machine_rules.proofs.WordCore.{same-number}
use Rattle.machine_rules.proofs.AddressOutcomes.{there-by}
use Rattle.machine_rules.proofs.Spending.{total}
use Rattle.machine_rules.proofs.Totals.{total-part}
use Rattle.machine_rules.proofs.OpenedFacts.{opened-setting}
use Rattle.machine_rules.proofs.RunsKept.{memory_over, run-setting}
use Rattle.machine_rules.proofs.RunsCoherent.{first_memory, well-all}

-- ---- sums

pub sum-none : {X : Type 0} (xs : List X) → sum_by (λ (x : X). 0) xs ≡ 0
sum-none [] = refl
sum-none {X} (x ∷ xs) = omega (arith, sum-none xs, sum_by-cons (λ (y : X). 0) x xs)

pub sum-both : {X : Type 0} (f g : X → ℕ) (xs : List X) → sum_by (λ (x : X). f x + g x) xs ≡ sum_by f xs + sum_by g xs
sum-both f g [] = refl
sum-both {X} f g (x ∷ xs) = omega (arith, sum-both f g xs, sum_by-cons (λ (y : X). f y + g y) x xs, sum_by-cons f x xs, sum_by-cons g x xs)

-- the order of two sums doesn't matter
sum-swap : {X Y : Type 0} (f : X → Y → ℕ) (xs : List X) (ys : List Y) → sum_by (λ (x : X). sum_by (f x) ys) xs ≡ sum_by (λ (y : Y). sum_by (λ (x : X). f x y) xs) ys
sum-swap {X} {Y} f [] ys = sym (sum-none ys)
sum-swap {X} {Y} f (x ∷ xs) ys =
    omega (
      arith,
      sum-swap f xs ys,
      sum_by-cons (λ (z : X). sum_by (f z) ys) x xs,
      sum-both (f x) (λ (y : Y). sum_by (λ (z : X). f z y) xs) ys,
      each ys,
    )
  where
    each : (zs : List Y) → sum_by (λ (y : Y). sum_by (λ (z : X). f z y) (x ∷ xs)) zs ≡ sum_by (λ (y : Y). f x y + sum_by (λ (z : X). f z y) xs) zs
    each [] = refl
    each (z ∷ zs) =
        omega (
          arith,
          each zs,
          sum_by-cons (λ (w : X). f w z) x xs,
          sum_by-cons (λ (y : Y). sum_by (λ (w : X). f w y) (x ∷ xs)) z zs,
          sum_by-cons (λ (y : Y). f x y + sum_by (λ (w : X). f w y) xs) z zs,
        )

pub sum-total : {X : Type 0} (f : ℕ → X → ℕ) (xs : List X) (n : ℕ) → sum_by (λ (x : X). total (λ (k : ℕ). f k x) n) xs ≡ total (λ (k : ℕ). sum_by (f k) xs) n
sum-total f xs zero = sum-none xs
sum-total {X} f xs (suc n) = omega (arith, sum-total f xs n, sum-both (λ (x : X). total (λ (k : ℕ). f k x) n) (f n) xs)

pub total-most : (f : ℕ → ℕ) (n most : ℕ) → ((k : ℕ) → f k ≤ most) → total f n ≤ n * most
total-most f zero most each = omega arith
total-most f (suc n) most each = omega (arith, total-most f n most each, each n)

items : {X : Type 0} (xs : List X) → length xs ≡ sum_by (λ (x : X). 1) xs
items [] = refl
items {X} (x ∷ xs) = omega (arith, items xs, sum_by-cons (λ (y : X). 1) x xs)

-- ---- a cache has no more pairs than places

same-set : (x sets : ℕ) → 0 < sets → (x % sets) % sets ≡ x % sets
same-set x sets some =
    let none : 0 * sets + x % sets ≡ x % sets = omega arith in
    ap (λ (k : ℕ). k % sets) (sym none) ∙ mod-mul-add 0 sets (x % sets) (mod_below x sets some)

in-some-set : (sets : ℕ) (p : Pair) → 0 < sets → 1 ≤ total (λ (s : ℕ). bit (shares_set sets s p)) sets
in-some-set sets p some =
    let own : (p.0.0 % sets == (p.0.0 % sets) % sets) ≡ true = ap (λ (k : ℕ). p.0.0 % sets == k) (same-set p.0.0 sets some) ∙ same-number (p.0.0 % sets) in
    let one : bit (shares_set sets (p.0.0 % sets) p) ≡ 1 = ap bit own in
    omega (arith, one, total-part (λ (s : ℕ). bit (shares_set sets s p)) sets (p.0.0 % sets) (mod_below p.0.0 sets some))

pub pairs-few : (c : Cache) → IsCache c → 0 < c.sets → length c.pairs ≤ c.sets * c.ways
pairs-few c is some =
    omega (
      arith,
      items c.pairs,
      sums-within (λ (p : Pair). 1) (λ (p : Pair). total (λ (s : ℕ). bit (shares_set c.sets s p)) c.sets) c.pairs (λ i p there. in-some-set c.sets p some),
      sum-total (λ (s : ℕ) (p : Pair). bit (shares_set c.sets s p)) c.pairs c.sets,
      total-most (λ (s : ℕ). set_count c.sets s c.pairs) c.sets c.ways is.within,
    )

-- ---- the mails of a core: for an entry of its cache, and for what it waits for; and the releases

abbrev pub is_entry_mail_of : ℕ → Test
is_entry_mail_of c to (RegReq word core) = core.0 == c
is_entry_mail_of c to (RegFwd word core) = core.0 == c
is_entry_mail_of c to (RegAck word) = is_to c to
is_entry_mail_of c to (WriteBack word value core) = core.0 == c
is_entry_mail_of c to (WbAck word) = is_to c to
is_entry_mail_of c to _ = false

abbrev pub is_awaited_by : ℕ → Test
is_awaited_by c to (ReadReq word reader) = reader.0 == c
is_awaited_by c to (ReadFwd word reader) = reader.0 == c
is_awaited_by c to (DataReply word value) = is_to c to
is_awaited_by c to (Acquire lock core) = core.0 == c
is_awaited_by c to (Grant lock signature) = is_to c to
is_awaited_by c to (Arrived core bad) = core.0 == c
is_awaited_by c to (Go phase) = is_to c to
is_awaited_by c to Halt = is_to c to
is_awaited_by c to _ = false

abbrev pub is_release : Test
is_release to (Release lock core signature) = true
is_release to _ = false

-- the mails of a core
abbrev pub of_core : ℕ → Mail → ℕ
of_core c m = mail_count (is_entry_mail_of c) m + mail_count (is_awaited_by c) m

-- the same for one word, one lock, and the barrier, as the rows of the invariant count them
abbrev entry_mails : ℕ → ℕ → Mail → ℕ
entry_mails w c m =
    mail_count (is_reg_req_of w c) m + mail_count (is_reg_fwd_of w c) m + mail_count (is_reg_ack_to w c) m + mail_count (is_write_back_of w c) m + mail_count (is_wb_ack_to w c) m

abbrev read_mails : ℕ → ℕ → Mail → ℕ
read_mails w c m = mail_count (is_read_req_of w c) m + mail_count (is_read_fwd_of w c) m + mail_count (is_data_reply_to w c) m

abbrev lock_mails : ℕ → ℕ → Mail → ℕ
lock_mails l c m = mail_count (is_acquire_of l c) m + mail_count (is_grant_to l c) m

abbrev phase_mails : ℕ → Mail → ℕ
phase_mails c m = mail_count (is_arrival_of c) m + mail_count (is_go_to c) m + mail_count (is_halt_to c) m

-- the word and the lock that a message names
abbrev word_of : Message → ℕ
word_of (ReadReq word reader) = word.0
word_of (ReadFwd word reader) = word.0
word_of (DataReply word value) = word.0
word_of (RegReq word core) = word.0
word_of (RegFwd word core) = word.0
word_of (RegAck word) = word.0
word_of (WriteBack word value core) = word.0
word_of (WbAck word) = word.0
word_of _ = 0

abbrev lock_of : Message → ℕ
lock_of (Acquire lock core) = lock.0
lock_of (Release lock core signature) = lock.0
lock_of (Grant lock signature) = lock.0
lock_of _ = 0

-- a mail of a kind is one for the word or the lock that it names
by-word : (c : ℕ) (to : Actor) (message : Message)
    → bit (is_entry_mail_of c to message)
    ≤ bit (is_reg_req_of (word_of message) c to message) + bit (is_reg_fwd_of (word_of message) c to message) + bit (is_reg_ack_to (word_of message) c to message) + bit (is_write_back_of (word_of message) c to message) + bit (is_wb_ack_to (word_of message) c to message)
by-word c to (RegReq word core) = rw (same-number word.0) (omega arith)
by-word c to (RegFwd word core) = rw (same-number word.0) (omega arith)
by-word c to (RegAck word) = rw (same-number word.0) (omega arith)
by-word c to (WriteBack word value core) = rw (same-number word.0) (omega arith)
by-word c to (WbAck word) = rw (same-number word.0) (omega arith)
by-word c to (ReadReq word reader) = omega arith
by-word c to (ReadFwd word reader) = omega arith
by-word c to (DataReply word value) = omega arith
by-word c to (Acquire lock core) = omega arith
by-word c to (Release lock core signature) = omega arith
by-word c to (Grant lock signature) = omega arith
by-word c to (Arrived core bad) = omega arith
by-word c to (Go phase) = omega arith
by-word c to Halt = omega arith

by-need : (c : ℕ) (to : Actor) (message : Message)
    → bit (is_awaited_by c to message)
    ≤ bit (is_read_req_of (word_of message) c to message) + bit (is_read_fwd_of (word_of message) c to message) + bit (is_data_reply_to (word_of message) c to message)
    + (bit (is_acquire_of (lock_of message) c to message) + bit (is_grant_to (lock_of message) c to message))
    + (bit (is_arrival_of c to message) + bit (is_go_to c to message) + bit (is_halt_to c to message))
by-need c to (ReadReq word reader) = rw (same-number word.0) (omega arith)
by-need c to (ReadFwd word reader) = rw (same-number word.0) (omega arith)
by-need c to (DataReply word value) = rw (same-number word.0) (omega arith)
by-need c to (Acquire lock core) = rw (same-number lock.0) (omega arith)
by-need c to (Grant lock signature) = rw (same-number lock.0) (omega arith)
by-need c to (Arrived core bad) = omega arith
by-need c to (Go phase) = omega arith
by-need c to Halt = omega arith
by-need c to (RegReq word core) = omega arith
by-need c to (RegFwd word core) = omega arith
by-need c to (RegAck word) = omega arith
by-need c to (WriteBack word value core) = omega arith
by-need c to (WbAck word) = omega arith
by-need c to (Release lock core signature) = omega arith

-- the releases of one lock
abbrev is_release_of_lock : ℕ → Test
is_release_of_lock l to (Release lock core signature) = lock.0 == l
is_release_of_lock l to _ = false

-- the core that a release names
abbrev core_named : Message → ℕ
core_named (Release lock core signature) = core.0
core_named _ = 0

by-core : (l : ℕ) (to : Actor) (message : Message) → bit (is_release_of_lock l to message) ≤ bit (is_release_of l (core_named message) to message)
by-core l to (Release lock core signature) = by_test (lock.0 == l) where
  by_test : (x : Bool) → bit x ≤ bit (x && (core.0 == core.0))
  by_test true = rw (same-number core.0) (omega arith)
  by_test false = omega arith
by-core l to (ReadReq word reader) = omega arith
by-core l to (ReadFwd word reader) = omega arith
by-core l to (DataReply word value) = omega arith
by-core l to (RegReq word core) = omega arith
by-core l to (RegFwd word core) = omega arith
by-core l to (RegAck word) = omega arith
by-core l to (WriteBack word value core) = omega arith
by-core l to (WbAck word) = omega arith
by-core l to (Acquire lock core) = omega arith
by-core l to (Grant lock signature) = omega arith
by-core l to (Arrived core bad) = omega arith
by-core l to (Go phase) = omega arith
by-core l to Halt = omega arith

-- the core that a mail is for
abbrev pub core_in : Actor → ℕ
core_in (Core core) = core.0
core_in _ = 0

abbrev pub core_of : Actor → Message → ℕ
core_of to (ReadReq word reader) = reader.0
core_of to (ReadFwd word reader) = reader.0
core_of to (RegReq word core) = core.0
core_of to (RegFwd word core) = core.0
core_of to (WriteBack word value core) = core.0
core_of to (Acquire lock core) = core.0
core_of to (Release lock core signature) = core.0
core_of to (Arrived core bad) = core.0
core_of to _ = core_in to

to-itself : (cores : ℕ) (to : Actor) → is_core cores to ≡ true → is_to (core_in to) to ≡ true
to-itself cores (Core core) right = same-number core.0
to-itself cores (Bank bank) right = absurd (cc)
to-itself cores Keeper right = absurd (cc)

-- a mail that goes right is one of the three kinds
kinds : (cores banks : ℕ) (to : Actor) (message : Message) → is_right cores banks to message ≡ true
    → 1 ≤ bit (is_entry_mail_of (core_of to message) to message) + bit (is_awaited_by (core_of to message) to message) + bit (is_release to message)
kinds cores banks to (ReadReq word reader) right = rw (same-number reader.0) (omega arith)
kinds cores banks to (ReadFwd word reader) right = rw (same-number reader.0) (omega arith)
kinds cores banks to (DataReply word value) right = rw (to-itself cores to right) (omega arith)
kinds cores banks to (RegReq word core) right = rw (same-number core.0) (omega arith)
kinds cores banks to (RegFwd word core) right = rw (same-number core.0) (omega arith)
kinds cores banks to (RegAck word) right = rw (to-itself cores to right) (omega arith)
kinds cores banks to (WriteBack word value core) right = rw (same-number core.0) (omega arith)
kinds cores banks to (WbAck word) right = rw (to-itself cores to right) (omega arith)
kinds cores banks to (Acquire lock core) right = rw (same-number core.0) (omega arith)
kinds cores banks to (Release lock core signature) right = omega arith
kinds cores banks to (Grant lock signature) right = rw (to-itself cores to right) (omega arith)
kinds cores banks to (Arrived core bad) right = rw (same-number core.0) (omega arith)
kinds cores banks to (Go phase) right = rw (to-itself cores to right) (omega arith)
kinds cores banks to Halt right = rw (to-itself cores to right) (omega arith)

lock-kind : (to : Actor) (message : Message) → bit (is_release to message) ≤ bit (is_release_of_lock (lock_of message) to message)
lock-kind to (Release lock core signature) = rw (same-number lock.0) (omega arith)
lock-kind to (ReadReq word reader) = omega arith
lock-kind to (ReadFwd word reader) = omega arith
lock-kind to (DataReply word value) = omega arith
lock-kind to (RegReq word core) = omega arith
lock-kind to (RegFwd word core) = omega arith
lock-kind to (RegAck word) = omega arith
lock-kind to (WriteBack word value core) = omega arith
lock-kind to (WbAck word) = omega arith
lock-kind to (Acquire lock core) = omega arith
lock-kind to (Grant lock signature) = omega arith
lock-kind to (Arrived core bad) = omega arith
lock-kind to (Go phase) = omega arith
lock-kind to Halt = omega arith

-- ---- what the rows say of all mails of a kind

abbrev pub pairs_in : Option NodeParts → List Pair
pairs_in None = []
pairs_in (Some n) = n.cache.pairs

module _ (S : State) (M : ℕ → ℕ) (inv : Invariant S M) where
  entry-row : (w c : ℕ) → weighs S (entry_mails w c) ≡ pending_bit (entry_at S c w) + leaving_bit (entry_at S c w)
  entry-row w c =
      let two : Mail → ℕ = λ m. mail_count (is_reg_req_of w c) m + mail_count (is_reg_fwd_of w c) m in
      let three : Mail → ℕ = λ m. two m + mail_count (is_reg_ack_to w c) m in
      let four : Mail → ℕ = λ m. three m + mail_count (is_write_back_of w c) m in
      omega (
        arith,
        sum-both four (mail_count (is_wb_ack_to w c)) S.mails,
        sum-both three (mail_count (is_write_back_of w c)) S.mails,
        sum-both two (mail_count (is_reg_ack_to w c)) S.mails,
        sum-both (mail_count (is_reg_req_of w c)) (mail_count (is_reg_fwd_of w c)) S.mails,
        inv.words.row w c,
      )

  read-row : (w c : ℕ) → weighs S (read_mails w c) ≡ reading_in w (slice_get S.nodes c)
  read-row w c =
      let two : Mail → ℕ = λ m. mail_count (is_read_req_of w c) m + mail_count (is_read_fwd_of w c) m in
      omega (arith, sum-both two (mail_count (is_data_reply_to w c)) S.mails, sum-both (mail_count (is_read_req_of w c)) (mail_count (is_read_fwd_of w c)) S.mails, inv.reads.row w c)

  lock-row : (l c : ℕ) → weighs S (lock_mails l c) ≤ bit (node_is_locking l (slice_get S.nodes c))
  lock-row l c = omega (arith, sum-both (mail_count (is_acquire_of l c)) (mail_count (is_grant_to l c)) S.mails, inv.locks.row l c)

  phase-row : (c : ℕ) → weighs S (phase_mails c) ≤ bit (is_alive (slice_get S.nodes c))
  phase-row c =
      let two : Mail → ℕ = λ m. mail_count (is_arrival_of c) m + mail_count (is_go_to c) m in
      omega (arith, sum-both two (mail_count (is_halt_to c)) S.mails, sum-both (mail_count (is_arrival_of c)) (mail_count (is_go_to c)) S.mails, inv.phases.row c)

  -- ---- for the entries of a cache

  pair-there : (o : Option NodeParts) (w : ℕ) → 1 ≤ pending_bit (entry_in w o) + leaving_bit (entry_in w o) → (i : ℕ) × (p : Pair) × (slice_get (pairs_in o) i ≡ Some p) × (p.0.0 ≡ w)
  pair-there None w some = absurd (omega (arith, some))
  pair-there (Some n) w some = by_entry (entry_of n w) refl where
    by_entry : (e : Option Entry) → entry_of n w ≡ e → (i : ℕ) × (p : Pair) × (slice_get n.cache.pairs i ≡ Some p) × (p.0.0 ≡ w)
    by_entry None is = absurd (omega (arith, some, ap pending_bit is, ap leaving_bit is))
    by_entry (Some e) is = let at' = pair-of w e n.cache.pairs is in (at'.0, (record { 0 = w }, e), at'.1, refl)

  pub entries-few : (c : ℕ) → flight S (is_entry_mail_of c) ≤ length (pairs_in (slice_get S.nodes c))
  entries-few c =
      omega (
        arith,
        sums-within (mail_count (is_entry_mail_of c)) (λ (m : Mail). sum_by (λ (p : Pair). entry_mails p.0.0 c m) pairs) S.mails each,
        sum-swap (λ (m : Mail) (p : Pair). entry_mails p.0.0 c m) S.mails pairs,
        sum_by-le (λ (p : Pair). weighs S (entry_mails p.0.0 c)) 1 pairs (λ i p within. one _),
      )
    where
      pairs : List Pair
      pairs = pairs_in (slice_get S.nodes c)

      one : (w : ℕ) → weighs S (entry_mails w c) ≤ 1
      one w = omega (arith, entry-row w c, entry-bits (entry_at S c w))

      each : (place : ℕ) (m : Mail) → slice_get S.mails place ≡ Some m → mail_count (is_entry_mail_of c) m ≤ sum_by (λ (p : Pair). entry_mails p.0.0 c m) pairs
      each place m there = by_count (entry_mails (word_of m.message) c m) refl where
        by_count : (k : ℕ) → entry_mails (word_of m.message) c m ≡ k → mail_count (is_entry_mail_of c) m ≤ sum_by (λ (p : Pair). entry_mails p.0.0 c m) pairs
        by_count zero e = omega (arith, e, by-word c m.to m.message)
        by_count (suc k) e =
            let some = item-within (entry_mails (word_of m.message) c) S.mails place m there in
            let found = pair-there (slice_get S.nodes c) (word_of m.message) (omega (arith, some, e, entry-row (word_of m.message) c)) in
            omega (
              arith,
              by-word c m.to m.message,
              item-within (λ (p : Pair). entry_mails p.0.0 c m) pairs found.0 found.1 found.2,
              ap (λ (w : ℕ). entry_mails w c m) found.3,
            )

  -- ---- for what a core waits for

  -- a core that waits for a word or a lock hasn't arrived
  still : (c : ℕ) (n : NodeParts) → slice_get S.nodes c ≡ Some n → (n.waiting ≡ wait.TheVariants.None → ⊥) → bit (is_alive (slice_get S.nodes c)) ≡ 0
  still c n found waits = by_arrived n.arrived refl where
    by_arrived : (x : Bool) → n.arrived ≡ x → bit (is_alive (slice_get S.nodes c)) ≡ 0
    by_arrived true e = absurd (waits (inv.phases.arrived c n found e).waiting)
    by_arrived false e = rw (found, e) refl

  pub awaited-few : (c : ℕ) → flight S (is_awaited_by c) ≤ 1
  awaited-few c = by_node (slice_get S.nodes c) refl where
    bit-most : (b : Bool) → bit b ≤ 1
    bit-most true = omega arith
    bit-most false = omega arith

    reads : (place : ℕ) (m : Mail) (w : ℕ) → slice_get S.mails place ≡ Some m → read_mails w c m ≤ reading_in w (slice_get S.nodes c)
    reads place m w there = omega (arith, item-within (read_mails w c) S.mails place m there, read-row w c)

    locks : (place : ℕ) (m : Mail) (l : ℕ) → slice_get S.mails place ≡ Some m → lock_mails l c m ≤ bit (node_is_locking l (slice_get S.nodes c))
    locks place m l there = omega (arith, item-within (lock_mails l c) S.mails place m there, lock-row l c)

    phases : (place : ℕ) (m : Mail) → slice_get S.mails place ≡ Some m → phase_mails c m ≤ bit (is_alive (slice_get S.nodes c))
    phases place m there = omega (arith, item-within (phase_mails c) S.mails place m there, phase-row c)

    -- who waits for no word and no lock has only the mails of the barrier
    at-barrier : ((w : ℕ) → reading_in w (slice_get S.nodes c) ≡ 0) → ((l : ℕ) → bit (node_is_locking l (slice_get S.nodes c)) ≡ 0) → flight S (is_awaited_by c) ≤ 1
    at-barrier no_read no_lock =
        omega (
          arith,
          sums-within (mail_count (is_awaited_by c)) (phase_mails c) S.mails (λ place m there.
              omega (arith, by-need c m.to m.message, reads place m (word_of m.message) there, no_read (word_of m.message), locks place m (lock_of m.message) there, no_lock (lock_of m.message))),
          phase-row c,
          bit-most (is_alive (slice_get S.nodes c)),
        )

    by_node : (o : Option NodeParts) → slice_get S.nodes c ≡ o → flight S (is_awaited_by c) ≤ 1
    by_node None found = at-barrier (λ w. ap (reading_in w) found) (λ l. ap (λ (o : Option NodeParts). bit (node_is_locking l o)) found)
    by_node (Some n) found = by_wait n.waiting refl where
      read-is : (w : ℕ) (x : NodeWait) → n.waiting ≡ x → reading_in w (slice_get S.nodes c) ≡ bit (is_reading w x)
      read-is w x is = ap (reading_in w) found ∙ ap (λ (y : NodeWait). bit (is_reading w y)) is

      lock-is : (l : ℕ) (x : NodeWait) → n.waiting ≡ x → bit (node_is_locking l (slice_get S.nodes c)) ≡ bit (is_locking l x)
      lock-is l x is = ap (λ (o : Option NodeParts). bit (node_is_locking l o)) found ∙ ap (λ (y : NodeWait). bit (is_locking l y)) is

      by_wait : (x : NodeWait) → n.waiting ≡ x → flight S (is_awaited_by c) ≤ 1
      by_wait wait.TheVariants.None is = at-barrier (λ w. read-is w wait.TheVariants.None is) (λ l. lock-is l wait.TheVariants.None is)
      by_wait (wait.TheVariants.Filled word) is = at-barrier (λ w. read-is w (wait.TheVariants.Filled word) is) (λ l. lock-is l (wait.TheVariants.Filled word) is)
      by_wait (wait.TheVariants.Reading word) is =
          omega (
            arith,
            sums-within (mail_count (is_awaited_by c)) (read_mails word.0 c) S.mails each,
            read-row word.0 c,
            read-is word.0 (wait.TheVariants.Reading word) is,
            bit-most (word.0 == word.0),
          )
        where
          none-alive : bit (is_alive (slice_get S.nodes c)) ≡ 0
          none-alive = still c n found (λ no. let never = sym is ∙ no in cc)

          of-word : (m : Mail) (w : ℕ) (x : Bool) → (word.0 == w) ≡ x → read_mails w c m ≤ bit x → read_mails w c m ≤ read_mails word.0 c m
          of-word m w true e low = let same = ap (λ (v : ℕ). read_mails v c m) (eqb-true word.0 w e) in omega (arith, same)
          of-word m w false e low = omega (arith, low)

          each : (place : ℕ) (m : Mail) → slice_get S.mails place ≡ Some m → mail_count (is_awaited_by c) m ≤ read_mails word.0 c m
          each place m there =
              omega (
                arith,
                by-need c m.to m.message,
                of-word m (word_of m.message) (word.0 == word_of m.message) refl (omega (arith, reads place m (word_of m.message) there, read-is (word_of m.message) (wait.TheVariants.Reading word) is)),
                locks place m (lock_of m.message) there,
                lock-is (lock_of m.message) (wait.TheVariants.Reading word) is,
                phases place m there,
                none-alive,
              )
      by_wait (wait.TheVariants.Locking lock) is =
          omega (
            arith,
            sums-within (mail_count (is_awaited_by c)) (lock_mails lock.0 c) S.mails each,
            lock-row lock.0 c,
            lock-is lock.0 (wait.TheVariants.Locking lock) is,
            bit-most (lock.0 == lock.0),
          )
        where
          none-alive : bit (is_alive (slice_get S.nodes c)) ≡ 0
          none-alive = still c n found (λ no. let never = sym is ∙ no in cc)

          of-lock : (m : Mail) (l : ℕ) (x : Bool) → (lock.0 == l) ≡ x → lock_mails l c m ≤ bit x → lock_mails l c m ≤ lock_mails lock.0 c m
          of-lock m l true e low = let same = ap (λ (k : ℕ). lock_mails k c m) (eqb-true lock.0 l e) in omega (arith, same)
          of-lock m l false e low = omega (arith, low)

          each : (place : ℕ) (m : Mail) → slice_get S.mails place ≡ Some m → mail_count (is_awaited_by c) m ≤ lock_mails lock.0 c m
          each place m there =
              omega (
                arith,
                by-need c m.to m.message,
                of-lock m (lock_of m.message) (lock.0 == lock_of m.message) refl (omega (arith, locks place m (lock_of m.message) there, lock-is (lock_of m.message) (wait.TheVariants.Locking lock) is)),
                reads place m (word_of m.message) there,
                read-is (word_of m.message) (wait.TheVariants.Locking lock) is,
                phases place m there,
                none-alive,
              )

  -- ---- for the locks

  -- a release is one of its lock by its core
  of-holder : (place : ℕ) (m : Mail) (l c : ℕ) → slice_get S.mails place ≡ Some m → mail_count (is_release_of l c) m ≤ holder_in c (lock_at S l)
  of-holder place m l c there = omega (arith, item-within (mail_count (is_release_of l c)) S.mails place m there, inv.locks.row l c)

  release-few : (l : ℕ) → flight S (is_release_of_lock l) ≤ 1
  release-few l = by_lock (lock_at S l) refl where
    by_holder : (o : Option CoreId) → ((c : ℕ) → holder_in c (lock_at S l) ≡ holder_count c o) → flight S (is_release_of_lock l) ≤ 1
    by_holder None is =
        let none = sums-within (mail_count (is_release_of_lock l)) (λ (m : Mail). 0) S.mails (λ place m there.
        omega (arith, by-core l m.to m.message, of-holder place m l (core_named m.message) there, is (core_named m.message))) in
        omega (arith, none, sum-none S.mails)
    by_holder (Some d) is =
        omega (
          arith,
          sums-within (mail_count (is_release_of_lock l)) (mail_count (is_release_of l d.0)) S.mails (λ place m there.
              same m (core_named m.message) (d.0 == core_named m.message) refl (by-core l m.to m.message) (omega (arith, of-holder place m l (core_named m.message) there, is (core_named m.message)))),
          inv.locks.row l d.0,
          is d.0,
          one,
        )
      where
        one : bit (d.0 == d.0) ≡ 1
        one = ap bit (same-number d.0)

        same : (m : Mail) (k : ℕ) (x : Bool) → (d.0 == k) ≡ x → mail_count (is_release_of_lock l) m ≤ mail_count (is_release_of l k) m → mail_count (is_release_of l k) m ≤ bit x
            → mail_count (is_release_of_lock l) m ≤ mail_count (is_release_of l d.0) m
        same m k true e up low = omega (arith, up, ap (λ (v : ℕ). mail_count (is_release_of l v) m) (eqb-true d.0 k e))
        same m k false e up low = omega (arith, up, low)

    by_lock : (o : Option Lock) → lock_at S l ≡ o → flight S (is_release_of_lock l) ≤ 1
    by_lock None is = by_holder None (λ c. ap (holder_in c) is)
    by_lock (Some h) is = by_holder h.holder (λ c. ap (holder_in c) is)

  -- the lock of a release is one of the program's
  lock-there : (l c : ℕ) → 1 ≤ holder_in c (lock_at S l) → l < length S.setting.program.locks
  lock-there l c some = by_lock (lock_at S l) refl where
    by_lock : (o : Option Lock) → lock_at S l ≡ o → l < length S.setting.program.locks
    by_lock None is = absurd (omega (arith, some, ap (holder_in c) is))
    by_lock (Some h) is = let own : nat_lt l (length S.setting.program.locks) ≡ true = sym (inv.machine.locks l) ∙ ap is_some is in grind (arith, nat_tests, own)

  pub releases-few : flight S is_release ≤ length S.setting.program.locks
  releases-few =
      omega (
        arith,
        sums-within (mail_count is_release) (λ (m : Mail). total (λ (l : ℕ). mail_count (is_release_of_lock l) m) locks) S.mails each,
        sum-total (λ (l : ℕ). mail_count (is_release_of_lock l)) S.mails locks,
        total-most (λ (l : ℕ). flight S (is_release_of_lock l)) locks 1 release-few,
      )
    where
      locks : ℕ
      locks = length S.setting.program.locks

      each : (place : ℕ) (m : Mail) → slice_get S.mails place ≡ Some m → mail_count is_release m ≤ total (λ (l : ℕ). mail_count (is_release_of_lock l) m) locks
      each place m there = by_count (mail_count (is_release_of_lock l) m) refl where
        l : ℕ
        l = lock_of m.message

        by_count : (k : ℕ) → mail_count (is_release_of_lock l) m ≡ k → mail_count is_release m ≤ total (λ (x : ℕ). mail_count (is_release_of_lock x) m) locks
        by_count zero e = omega (arith, lock-kind m.to m.message, e)
        by_count (suc k) e =
            let within = lock-there l (core_named m.message) (omega (arith, e, by-core l m.to m.message, of-holder place m l (core_named m.message) there)) in
            omega (arith, lock-kind m.to m.message, total-part (λ (x : ℕ). mail_count (is_release_of_lock x) m) locks l within)

  -- ---- all mails

  not-lost : (b : Bool) → bit (not b) ≤ 0 → b ≡ true
  not-lost true none = refl
  not-lost false none = absurd (omega (arith, none))

  pub goes-right : (place : ℕ) (m : Mail) → slice_get S.mails place ≡ Some m → is_right S.setting.shape.cores S.setting.shape.banks m.to m.message ≡ true
  goes-right place m there =
      not-lost (is_right S.setting.shape.cores S.setting.shape.banks m.to m.message)
      (omega (arith, item-within (mail_count (is_lost S.setting.shape.cores S.setting.shape.banks)) S.mails place m there, inv.addressed))

  -- a core that a mail is for is one of the machine
  pub core-there : (place : ℕ) (m : Mail) (c : ℕ) → slice_get S.mails place ≡ Some m → 1 ≤ of_core c m → c < S.setting.shape.cores
  core-there place m c there some =
      let w = word_of m.message in
      let l = lock_of m.message in
      let within = there-by S c
      (λ (o : Option NodeParts). pending_bit (entry_in w o) + leaving_bit (entry_in w o) + reading_in w o + bit (node_is_locking l o) + bit (is_alive o)) refl
      (omega (
        arith,
        some,
        by-word c m.to m.message,
        by-need c m.to m.message,
        item-within (entry_mails w c) S.mails place m there,
        entry-row w c,
        item-within (read_mails w c) S.mails place m there,
        read-row w c,
        item-within (lock_mails l c) S.mails place m there,
        lock-row l c,
        item-within (phase_mails c) S.mails place m there,
        phase-row c,
      )) in
      omega (arith, within, inv.machine.nodes)

  pub each-one : (place : ℕ) (m : Mail) → slice_get S.mails place ≡ Some m → 1 ≤ total (λ (c : ℕ). of_core c m) S.setting.shape.cores + mail_count is_release m
  each-one place m there = by_count (of_core c m) refl where
    c : ℕ
    c = core_of m.to m.message

    kind : 1 ≤ of_core c m + mail_count is_release m
    kind = kinds S.setting.shape.cores S.setting.shape.banks m.to m.message (goes-right place m there)

    by_count : (k : ℕ) → of_core c m ≡ k → 1 ≤ total (λ (x : ℕ). of_core x m) S.setting.shape.cores + mail_count is_release m
    by_count zero e = omega (arith, kind, e)
    by_count (suc k) e =
        let within = core-there place m c there (omega (arith, e)) in
        omega (arith, e, total-part (λ (x : ℕ). of_core x m) S.setting.shape.cores c within)

  pub cache-few : (c : ℕ) → length (pairs_in (slice_get S.nodes c)) ≤ entries_most S.setting
  cache-few c = by_node (slice_get S.nodes c) refl where
    by_node : (o : Option NodeParts) → slice_get S.nodes c ≡ o → length (pairs_in (slice_get S.nodes c)) ≤ entries_most S.setting
    by_node None found = omega (arith, ap (λ (o : Option NodeParts). length (pairs_in o)) found)
    by_node (Some n) found =
        let fits = (inv.machine.node c n found).fits in
        let few = pairs-few n.cache fits.cache (omega (arith, fits.sets, inv.machine.context.some_sets)) in
        let same : n.cache.sets * n.cache.ways ≡ entries_most S.setting = ap (λ (x : ℕ). x * n.cache.ways) fits.sets ∙ ap (λ (x : ℕ). S.setting.shape.sets * x) fits.ways in
        omega (arith, few, same, ap (λ (o : Option NodeParts). length (pairs_in o)) found)

  pub core-few : (c : ℕ) → weighs S (of_core c) ≤ core_mails_most S.setting
  core-few c = omega (arith, sum-both (mail_count (is_entry_mail_of c)) (mail_count (is_awaited_by c)) S.mails, entries-few c, cache-few c, awaited-few c)

  pub mails-few : length S.mails ≤ mails_most S.setting
  mails-few =
      omega (
        arith,
        items S.mails,
        sums-within (λ (m : Mail). 1) (λ (m : Mail). total (λ (c : ℕ). of_core c m) S.setting.shape.cores + mail_count is_release m) S.mails each-one,
        sum-both (λ (m : Mail). total (λ (c : ℕ). of_core c m) S.setting.shape.cores) (mail_count is_release) S.mails,
        sum-total of_core S.mails S.setting.shape.cores,
        total-most (λ (c : ℕ). weighs S (of_core c)) S.setting.shape.cores (core_mails_most S.setting) core-few,
        releases-few,
      )

-- ---- every run

pub well-mails : (C : Setting) (events : List Event) → IsWellFormed C → IsRun (initial_state C) events → length (after (initial_state C) events).mails ≤ mails_most C
well-mails C events well run =
    let S : State = after (initial_state C) events in
    let few = mails-few S (memory_over (first_memory C) (initial_state C) events) (well-all C events well run).1 in
    subst (λ (D : Setting). length S.mails ≤ mails_most D) (run-setting (initial_state C) events ∙ opened-setting C) few
