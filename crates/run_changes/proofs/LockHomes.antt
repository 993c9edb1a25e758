-- The changes of an event lead from what its bank's locks were to what they are.
use Rattle.std.proofs.Common.{◌≡◌, ℕ, suc, ◌<◌, ◌==◌, ◌||◌, ◌&&◌, nat_lt, nat_le, Bool, true, false, cond, List, [], ◌∷◌, ◌++◌, length, slice_get, Option, Some, None, refl, sym, ap, ◌∙◌, arith, length-append}
use Rattle.std.proofs.lemmas.Bool.Decides.{nat_tests}
use Rattle.std.proofs.lemmas.Option.{same_Some}
use Rattle.std.specs.List.{fold}
use Rattle.dn_base.specs.declared.ids.BankId.{BankId}
use Rattle.dn_base.specs.declared.ids.CoreId.{CoreId}
use Rattle.dn_base.specs.declared.ids.LoadSeen.{LoadSeen}
use Rattle.dn_base.specs.declared.ids.LockId.{LockId}
use Rattle.dn_base.specs.declared.ids.WordId.{WordId}
use Rattle.write_signature.specs.declared.signature.Signature.{Signature}
use Rattle.write_signature.specs.Signature.{same_signature, joined}
use Rattle.message_net.specs.declared.actor.Actor.TheVariants.{Bank}
use Rattle.message_net.specs.declared.actor.MailId.{MailId}
use Rattle.message_net.specs.declared.event.Event.{Event}
use Rattle.message_net.specs.declared.event.Event.TheVariants.{Instr, Evict, Arrive, Handle}
use Rattle.message_net.specs.declared.message.Mail.{Mail}
use Rattle.message_net.specs.declared.message.Message.{Message}
use Rattle.message_net.specs.declared.message.Message.TheVariants as message
use Rattle.message_net.specs.declared.message.Outgoing.{Outgoing}
use Rattle.queue_lock.specs.Lock.{Lock, waits, is_core, asked, acquired, handed_on, given_up, released}
use Rattle.registry_bank.specs.declared.bank.BankWord.{BankWord}
use Rattle.registry_bank.specs.Bank.{BankParts, bank_word, bank_lock, with_lock, acquires, releases, from_core, bank_gets}
use Rattle.registry_bank.proofs.ChangeLemmas.{lock-changed}
use Rattle.registry_bank.proofs.RowLemmas.{read-changes_nothing, lock-at_register, lock-at_write_back}
use Rattle.machine_rules.specs.State.{State, word_in}
use Rattle.machine_rules.specs.Next.{next, enabled, seen_in}
use Rattle.machine_rules.specs.Sound.{IsMachine}
use Rattle.machine_rules.proofs.Steps.{Handled, handled, bank-step}
use Rattle.dn_machine.specs.Actors.{actor_in}
use Rattle.run_changes.specs.declared.change.Change.TheVariants as change
use Rattle.run_changes.specs.declared.look.LockLook.{LockLook}
use Rattle.run_changes.specs.Looks.{bank_look, lock_look}
use Rattle.run_changes.specs.Changes.{change_unless, same_content, home_change, same_holder, same_queue, queue_change, changes_by}
use Rattle.run_changes.specs.Events.{event_changes}
use Rattle.run_changes.specs.Applied.{lock_step}
use Rattle.run_changes.proofs.Applied.{Every, Leaves, all-append, all-unless, steady}
use Rattle.run_changes.proofs.Homes.{looks-mail, no-core}
use Rattle.run_changes.proofs.Locks.{signatures-same}

-- what is looked at of a lock
abbrev pub look_of : Lock → LockLook
look_of h = record { holder = h.holder; waiting = length h.queue; kept = h.kept }

-- a lock that moves on so that as many cores wait with the same holder only where nothing of both has changed
pub record QueueMoves (h k : Lock) : Type 0 where
  pub capacity : k.capacity ≡ h.capacity
  pub holder : same_queue (look_of h) k ≡ true → h.holder ≡ k.holder
  pub queue : same_queue (look_of h) k ≡ true → h.queue ≡ k.queue

made : Option CoreId → List CoreId → ℕ → Signature → Option Lock
made holder queue capacity kept = Some (record { holder = holder; queue = queue; capacity = capacity; kept = kept })

same-parts : (o p : Option CoreId) (q r : List CoreId) (c d : ℕ) (s t : Signature) → o ≡ p → q ≡ r → c ≡ d → s ≡ t → made o q c s ≡ made p r d t
same-parts o p q r c d s t e f g i = rw (e, f, g, i) refl

one-lock : (h k : Lock) → h.holder ≡ k.holder → h.queue ≡ k.queue → h.capacity ≡ k.capacity → h.kept ≡ k.kept → Some h ≡ Some k
unfolding made
one-lock h k e f g i = same-parts h.holder k.holder h.queue k.queue h.capacity k.capacity h.kept k.kept e f g i

module _ (l : ℕ) where
  pub lock-here : (lock : LockId) (h k : Lock) → (lock.0 == l) ≡ true → QueueMoves h k → fold (lock_step l) (Some h) (queue_change lock (look_of h) (Some k)) ≡ Some k
  lock-here lock h k t moves = by_tests (same_queue (look_of h) k) (same_signature h.kept k.kept) refl refl where
    by_tests : (q s : Bool) → same_queue (look_of h) k ≡ q → same_signature h.kept k.kept ≡ s
        → fold (lock_step l) (Some h) (change_unless q (change.Queue lock k.holder k.queue) ++ change_unless s (change.Signed lock k.kept)) ≡ Some k
    by_tests true true e f = one-lock h k (moves.holder e) (moves.queue e) (sym moves.capacity) (signatures-same h.kept k.kept f)
    by_tests true false e f = rw (t) (one-lock (record h { kept = k.kept }) k (moves.holder e) (moves.queue e) (sym moves.capacity) refl)
    by_tests false true e f = rw (t) (one-lock (record h { holder = k.holder; queue = k.queue }) k refl refl (sym moves.capacity) (signatures-same h.kept k.kept f))
    by_tests false false e f = rw (t) (one-lock (record h { holder = k.holder; queue = k.queue; kept = k.kept }) k refl refl (sym moves.capacity) refl)

  pub lock-else : (lock : LockId) (look : LockLook) (o : Option Lock) → (lock.0 == l) ≡ false → Every (Leaves (lock_step l)) (queue_change lock look o)
  lock-else lock look None t = tt
  lock-else lock look (Some k) t =
      all-append (Leaves (lock_step l)) (change_unless (same_queue look k) (change.Queue lock k.holder k.queue)) _
      (all-unless (Leaves (lock_step l)) (same_queue look k) (change.Queue lock k.holder k.queue) (λ x. rw (t) refl))
      (all-unless (Leaves (lock_step l)) (same_signature look.kept k.kept) (change.Signed lock k.kept) (λ x. rw (t) refl))

  -- a word's change tells of no lock
  pub word-told : (word : WordId) (x y : Option BankWord) → Every (Leaves (lock_step l)) (home_change word x y)
  word-told word None y = tt
  word-told word (Some x) None = tt
  word-told word (Some x) (Some y) = all-unless (Leaves (lock_step l)) (same_content x y) (change.Home word y) (λ z. refl)

-- ---- how a lock moves

longer : (queue : List CoreId) (core : CoreId) → (length queue == length (queue ++ core ∷ [])) ≡ true → ⊥
longer queue core e = grind (arith, nat_tests, e, length-append queue (core ∷ []))

second : (a b : Bool) → (a && b) ≡ true → b ≡ true
second true b e = e
second false b e = cc

first : (a b : Bool) → (a && b) ≡ true → a ≡ true
first true b e = refl
first false b e = cc

pub rests : (h : Lock) → QueueMoves h h
rests h = record { capacity = refl; holder = λ e. refl; queue = λ e. refl }

acquire-moves : (h : Lock) (core : CoreId) → QueueMoves h (acquired h core).0
acquire-moves h core = by_holder h.holder refl where
  by_test : (t : Bool) → QueueMoves h (cond t h (record h { queue = h.queue ++ core ∷ [] }))
  by_test true = rests h
  by_test false =
      record {
        capacity = refl;
        holder = λ e. refl;
        queue = λ e. absurd (longer h.queue core (second (same_holder h.holder h.holder) (length h.queue == length (h.queue ++ core ∷ [])) e));
      }

  taken : (o : Option CoreId) → o ≡ None → same_holder o (Some core) ≡ true → ⊥
  taken None is e = cc
  taken (Some d) is e = cc

  by_holder : (o : Option CoreId) → h.holder ≡ o → QueueMoves h (asked h core o).0
  by_holder (Some d) is = by_test (waits core.0 h.queue || nat_le h.capacity (length h.queue))
  by_holder None is =
      record {
        capacity = refl;
        holder = λ e. absurd (taken h.holder is (first (same_holder h.holder (Some core)) (length h.queue == length h.queue) e));
        queue = λ e. refl;
      }

release-moves : (h : Lock) (core : CoreId) (s : Signature) → QueueMoves h (released h core s).0
release-moves h core s = by_holder h.holder refl where
  freed : (o : Option CoreId) (d : CoreId) → o ≡ Some d → same_holder o None ≡ true → ⊥
  freed None d is e = cc
  freed (Some c) d is e = cc

  shorter : (queue : List CoreId) (next : CoreId) (others : List CoreId) → queue ≡ next ∷ others → (length queue == length others) ≡ true → ⊥
  shorter queue next others is e =
      let long : length queue ≡ suc (length others) = ap length is in
      grind (arith, nat_tests, e, long)

  by_queue : (d : CoreId) → h.holder ≡ Some d → (queue : List CoreId) → h.queue ≡ queue → QueueMoves h (handed_on (record h { kept = joined h.kept s }) queue).0
  by_queue d is [] end =
      record {
        capacity = refl;
        holder = λ e. absurd (freed h.holder d is (first (same_holder h.holder None) (length h.queue == length h.queue) e));
        queue = λ e. refl;
      }
  by_queue d is (next ∷ others) more =
      record {
        capacity = refl;
        holder = λ e. absurd (shorter h.queue next others more (second (same_holder h.holder (Some next)) (length h.queue == length others) e));
        queue = λ e. absurd (shorter h.queue next others more (second (same_holder h.holder (Some next)) (length h.queue == length others) e));
      }

  by_test : (d : CoreId) → h.holder ≡ Some d → (t : Bool) → QueueMoves h (cond t (handed_on (record h { kept = joined h.kept s }) h.queue) (h, None)).0
  by_test d is true = by_queue d is h.queue refl
  by_test d is false = rests h

  by_holder : (o : Option CoreId) → h.holder ≡ o → QueueMoves h (given_up h core s o).0
  by_holder None is = rests h
  by_holder (Some d) is = by_test d is (is_core core.0 d)

-- ---- banks

-- a bank of which one lock alone moves on, if it is there
record MovesLock (b c : BankParts) (lock : LockId) : Type 0 where
  others : (v : ℕ) → (lock.0 == v) ≡ false → bank_lock c v ≡ bank_lock b v
  none : bank_lock b lock.0 ≡ None → bank_lock c lock.0 ≡ None
  moves : (h : Lock) → bank_lock b lock.0 ≡ Some h → (k : Lock) × (bank_lock c lock.0 ≡ Some k) × QueueMoves h k

same-bank : (b : BankParts) (lock : LockId) → MovesLock b b lock
same-bank b lock = record { others = λ v out. refl; none = λ e. e; moves = λ h is. (h, is, rests h) }

changes : (b : BankParts) (lock : LockId) (h k : Lock) → 0 < b.banks → bank_lock b lock.0 ≡ Some h → QueueMoves h k → MovesLock b (with_lock b lock.0 k) lock
changes b lock h k some is moves =
    let same : (lock.0 == lock.0) ≡ true = grind (arith, nat_tests) in
    let now : bank_lock (with_lock b lock.0 k) lock.0 ≡ Some k = lock-changed b lock.0 lock.0 h k some is ∙ rw (same) refl in
    record {
      others = λ v out. lock-changed b lock.0 v h k some is ∙ rw (out) refl;
      none = λ e. absurd (never (bank_lock b lock.0) h e is);
      moves = λ g was. let one : g ≡ h = same_Some g h (sym was ∙ is) in (k, now, rw (one) moves);
    }
  where
    never : (o : Option Lock) (g : Lock) → o ≡ None → o ≡ Some g → ⊥
    never o g e f = cc

of-core : (b : BankParts) (core : CoreId) (row : BankParts × Option Outgoing) (lock : LockId) → MovesLock b row.0 lock → MovesLock b (from_core b core row).0 lock
of-core b core row lock moves = by_test (nat_lt core.0 b.cores) where
  by_test : (t : Bool) → MovesLock b (cond t row (b, None)).0 lock
  by_test true = moves
  by_test false = same-bank b lock

acquired-one : (b : BankParts) (lock : LockId) (core : CoreId) → 0 < b.banks → (o : Option Lock) → bank_lock b lock.0 ≡ o → MovesLock b (acquires b lock core o).0 lock
acquired-one b lock core some None is = same-bank b lock
acquired-one b lock core some (Some h) is = changes b lock h (acquired h core).0 some is (acquire-moves h core)

released-one : (b : BankParts) (lock : LockId) (core : CoreId) (s : Signature) → 0 < b.banks → (o : Option Lock) → bank_lock b lock.0 ≡ o → MovesLock b (releases b lock core s o).0 lock
released-one b lock core s some None is = same-bank b lock
released-one b lock core s some (Some h) is = changes b lock h (released h core s).0 some is (release-moves h core s)

module _ (l : ℕ) where
  moved : (b c : BankParts) (lock : LockId) (h : Lock) → bank_lock b lock.0 ≡ Some h → MovesLock b c lock
      → fold (lock_step l) (bank_lock b l) (queue_change lock (look_of h) (bank_lock c lock.0)) ≡ bank_lock c l
  moved b c lock h is moves = by_test (lock.0 == l) refl where
    by_test : (t : Bool) → (lock.0 == l) ≡ t → fold (lock_step l) (bank_lock b l) (queue_change lock (look_of h) (bank_lock c lock.0)) ≡ bank_lock c l
    by_test true t =
        let same : lock.0 ≡ l = grind (arith, nat_tests, t) in
        let m = moves.moves h is in
        ap (λ (x : Option Lock). fold (lock_step l) x (queue_change lock (look_of h) (bank_lock c lock.0))) (ap (λ (v : ℕ). bank_lock b v) (sym same) ∙ is)
        ∙ ap (λ (x : Option Lock). fold (lock_step l) (Some h) (queue_change lock (look_of h) x)) m.1
        ∙ lock-here l lock h m.0 t m.2 ∙ sym m.1 ∙ ap (λ (v : ℕ). bank_lock c v) same
    by_test false t = steady (lock_step l) (bank_lock b l) _ (lock-else l lock (look_of h) (bank_lock c lock.0) t) ∙ sym (moves.others l t)

  looked : (T : State) (bank : BankId) (b c : BankParts) (lock : LockId) (seen : Option LoadSeen) → slice_get T.banks bank.0 ≡ Some c → MovesLock b c lock
      → (o : Option Lock) → bank_lock b lock.0 ≡ o → fold (lock_step l) (bank_lock b l) (changes_by (lock_look bank lock o) seen T) ≡ bank_lock c l
  unfolding changes_by
  looked T bank b c lock seen there moves None is = by_test (lock.0 == l) refl where
    by_test : (t : Bool) → (lock.0 == l) ≡ t → bank_lock b l ≡ bank_lock c l
    by_test false t = sym (moves.others l t)
    by_test true t =
        let same : lock.0 ≡ l = grind (arith, nat_tests, t) in
        ap (λ (v : ℕ). bank_lock b v) (sym same) ∙ is ∙ sym (moves.none is) ∙ ap (λ (v : ℕ). bank_lock c v) same
  looked T bank b c lock seen there moves (Some h) is = rw (there) (moved b c lock h is moves)

  by-message : (T : State) (bank : BankId) (b : BankParts) (m : Message) (seen : Option LoadSeen) → 0 < b.banks → slice_get T.banks bank.0 ≡ Some (bank_gets b m).0
      → fold (lock_step l) (bank_lock b l) (changes_by (bank_look bank m (Some b)) seen T) ≡ bank_lock (bank_gets b m).0 l
  unfolding changes_by bank_gets
  by-message T bank b (message.Acquire lock core) seen some there =
      looked T bank b _ lock seen there (of-core b core (acquires b lock core (bank_lock b lock.0)) lock (acquired-one b lock core some (bank_lock b lock.0) refl)) (bank_lock b lock.0) refl
  by-message T bank b (message.Release lock core s) seen some there =
      looked T bank b _ lock seen there (of-core b core (releases b lock core s (bank_lock b lock.0)) lock (released-one b lock core s some (bank_lock b lock.0) refl)) (bank_lock b lock.0) refl
  by-message T bank b (message.RegReq word core) seen some there =
      steady (lock_step l) (bank_lock b l) _ (word-told l word (bank_word b word.0) (word_in word.0 (slice_get T.banks bank.0))) ∙ sym (lock-at_register b word core l)
  by-message T bank b (message.WriteBack word value core) seen some there =
      steady (lock_step l) (bank_lock b l) _ (word-told l word (bank_word b word.0) (word_in word.0 (slice_get T.banks bank.0))) ∙ sym (lock-at_write_back b word value core l)
  by-message T bank b (message.ReadReq word reader) seen some there = sym (ap (λ (x : BankParts). bank_lock x l) (read-changes_nothing b word reader))
  by-message T bank b (message.ReadFwd word reader) seen some there = refl
  by-message T bank b (message.DataReply word value) seen some there = refl
  by-message T bank b (message.RegFwd word core) seen some there = refl
  by-message T bank b (message.RegAck word) seen some there = refl
  by-message T bank b (message.WbAck word) seen some there = refl
  by-message T bank b (message.Grant lock s) seen some there = refl
  by-message T bank b (message.Arrived core bad) seen some there = refl
  by-message T bank b (message.Go phase) seen some there = refl
  by-message T bank b message.Halt seen some there = refl

  by-mail : (S : State) (id : MailId) (m : Mail) (bank : BankId) (b : BankParts) → IsMachine S → Handled S id m → m.to ≡ Bank bank → slice_get S.banks bank.0 ≡ Some b
      → (k : BankParts) → slice_get (next S (Handle id)).banks bank.0 ≡ Some k → fold (lock_step l) (bank_lock b l) (event_changes S (Handle id)) ≡ bank_lock k l
  unfolding event_changes
  by-mail S id m bank b machine h to found k there =
      let at = machine.bank bank.0 b found in
      let some : 0 < b.banks = omega (arith, at.banks, machine.context.some_banks) in
      let same : (bank.0 == bank.0) ≡ true = grind (arith, nat_tests) in
      let left : slice_get (next S (Handle id)).banks bank.0 ≡ Some (bank_gets b m.message).0 = (bank-step S id m bank b h to found).banks bank.0 ∙ rw (same) refl in
      rw (looks-mail S id m bank b h.took to found)
      (by-message (next S (Handle id)) bank b m.message (seen_in S (Handle id)) some left ∙ ap (λ (x : BankParts). bank_lock x l) (same_Some (bank_gets b m.message).0 k (sym left ∙ there)))

pub locks-led : (S : State) (e : Event) (bank : BankId) (b : BankParts) → IsMachine S → enabled S e ≡ true → actor_in S e ≡ Some (Bank bank) → slice_get S.banks bank.0 ≡ Some b
    → (k : BankParts) → slice_get (next S e).banks bank.0 ≡ Some k → (l : ℕ) → fold (lock_step l) (bank_lock b l) (event_changes S e) ≡ bank_lock k l
unfolding actor_in
locks-led S (Instr c) bank b machine may is found k there l = no-core c bank is
locks-led S (Evict c word) bank b machine may is found k there l = no-core c bank is
locks-led S (Arrive c) bank b machine may is found k there l = no-core c bank is
locks-led S (Handle id) bank b machine may is found k there l =
    let took = handled S id may in
    by-mail l S id took.0 bank b machine took.1 (same_Some took.0.to (Bank bank) (rw (took.1.took) at is)) found k there
