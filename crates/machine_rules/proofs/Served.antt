-- Locks are first come, first served: the cores whose requests have been handled are those that have acquired the lock, and then
-- those that wait, in their order.
use Rattle.std.proofs.Common.{◌≡◌, ◌⊎◌, inl, inr, ℕ, zero, suc, ◌+◌, ◌%◌, ◌≤◌, ◌==◌, nat_lt, Bool, true, false, cond, List, [], ◌∷◌, ◌++◌, length, slice_get, Option, Some, None, refl, sym, ap, subst, ◌∙◌, arith}
use Rattle.std.proofs.lemmas.Bool.{eqb-true}
use Rattle.std.proofs.lemmas.Bool.Decides.{nat_tests}
use Rattle.std.proofs.lemmas.Option.{same_Some, none-some}
use Rattle.dn_base.specs.declared.ids.CoreId.{CoreId}
use Rattle.dn_base.specs.declared.ids.LockId.{LockId}
use Rattle.dn_base.specs.declared.ids.BankId.{BankId}
use Rattle.dn_base.specs.declared.ids.WordId.{WordId}
use Rattle.dn_base.specs.declared.ids.Grant.{Grant as Granted}
use Rattle.dn_base.specs.declared.ids.LoadSeen.{LoadSeen}
use Rattle.write_signature.specs.declared.signature.Signature.{Signature}
use Rattle.phase_barrier.specs.Barrier.{Barrier}
use Rattle.registry_bank.specs.declared.bank.BankWord.{BankWord}
use Rattle.message_net.specs.declared.actor.Actor.{Actor}
use Rattle.message_net.specs.declared.actor.Actor.TheVariants.{Core, Bank, Keeper}
use Rattle.message_net.specs.declared.event.Event.{Event}
use Rattle.message_net.specs.declared.event.Event.TheVariants.{Instr, Evict, Arrive, Handle}
use Rattle.message_net.specs.declared.message.Mail.{Mail}
use Rattle.message_net.specs.Pool.{removed}
use Rattle.message_net.specs.declared.message.Message.{Message}
use Rattle.message_net.specs.declared.message.Message.TheVariants.{ReadReq, ReadFwd, DataReply, RegReq, RegFwd, RegAck, WriteBack, WbAck, Acquire, Release, Grant, Arrived, Go, Halt}
use Rattle.message_net.specs.declared.message.Outgoing.{Outgoing}
use Rattle.message_net.specs.Mail.{to_core}
use Rattle.queue_lock.specs.Lock.{Lock, holder_count}
use Rattle.registry_bank.specs.Bank.{BankParts}
use Rattle.registration_protocol.specs.Node.{NodeParts, Setting}
use Rattle.registration_protocol.specs.Messages.{holds_now}
use Rattle.registration_protocol.specs.Parts.{retired_so_far}
use Rattle.machine_rules.specs.State.{State, initial_state, lock_at, lock_in}
use Rattle.machine_rules.specs.Next.{next, enabled}
use Rattle.machine_rules.specs.Memory.{store_in}
use Rattle.machine_rules.specs.Runs.{after, IsRun}
use Rattle.machine_rules.specs.Flight.{Test, bit, flight, is_grant_to, is_release_of}
use Rattle.machine_rules.specs.Coherent.{holder_in}
use Rattle.machine_rules.specs.Sound.{IsSound, IsWellFormed, IsShaped}
use Rattle.machine_rules.specs.Actions.{Access, LockAction, Action, acquires, releases, arrives, starts, accesses}
use Rattle.machine_rules.specs.Accesses.{access_in, synchronizes_at, synchronizes_to, synchronizes_with, synchronization_in, action_in, actions_of}
use Rattle.machine_rules.specs.Fair.{Request, request_by, request_with, request_in, asks_for, acquires_it, asked_of, acquired_of, IsFirstComeFirstServed, WaitsFor}
use Rattle.machine_rules.proofs.Invariant.{Invariant}
use Rattle.machine_rules.proofs.Bits.{passes}
use Rattle.machine_rules.proofs.Steps.{NodeStep}
use Rattle.machine_rules.proofs.Outcomes.{Outcomes, Tells, WordStep, LockStep, BarrierStep, to_all, at_core, at_bank, stored_to}
use Rattle.machine_rules.proofs.Dispatch.{ways}
use Rattle.machine_rules.proofs.SoundEvents.{sound-next}
use Rattle.machine_rules.proofs.Kept.{kept}
use Rattle.machine_rules.proofs.OpenedSound.{opened-sound}
use Rattle.machine_rules.proofs.OpenedInvariant.{lock-free, opened-invariant}
use Rattle.machine_rules.proofs.RunsCoherent.{first_memory}
use Rattle.machine_rules.proofs.RunsKept.{memory_over, run-kept}
use Rattle.machine_rules.proofs.WordCore.{same-number}
use Rattle.machine_rules.proofs.ActionsDone.{either-way, no-action}
use Rattle.machine_rules.proofs.PathLemmas.{at-front}
use Rattle.machine_rules.proofs.ReadOff.{read-none, read-some, run-front}

-- ---- who waits

abbrev pub numbers : List CoreId → List ℕ
numbers [] = []
numbers (c ∷ rest) = c.0 ∷ numbers rest

-- the cores that wait for a lock whose requests have been handled: the holder if its grant is in flight, and the queue
abbrev pub waiting_by : State → ℕ → Lock → Option CoreId → List ℕ
waiting_by S l h None = []
waiting_by S l h (Some c) = cond (nat_lt 0 (flight S (is_grant_to l c.0))) (c.0 ∷ numbers h.queue) (numbers h.queue)

abbrev pub waiting_at : State → ℕ → Option Lock → List ℕ
waiting_at S l None = []
waiting_at S l (Some h) = waiting_by S l h h.holder

abbrev pub waiting : State → ℕ → List ℕ
waiting S l = waiting_at S l (lock_at S l)

abbrev pub listed : Option ℕ → List ℕ
listed None = []
listed (Some n) = n ∷ []

abbrev pub acquirer : ℕ → Option Action → Option ℕ
acquirer l None = None
acquirer l (Some a) = acquires_it l a

-- an event keeps the order: who asks goes to the end, and who acquires was the first
abbrev pub KeepsTurns : State → State → Option Action → Option Request → Type 0
KeepsTurns S T sync request = (l : ℕ) → waiting S l ++ listed (asks_for l request) ≡ listed (acquirer l sync) ++ waiting T l

-- ---- the lists

append-nil : (xs : List ℕ) → xs ++ [] ≡ xs
append-nil [] = refl
append-nil (x ∷ xs) = ap (λ (ys : List ℕ). x ∷ ys) (append-nil xs)

append-assoc : (xs ys zs : List ℕ) → (xs ++ ys) ++ zs ≡ xs ++ (ys ++ zs)
append-assoc [] ys zs = refl
append-assoc (x ∷ xs) ys zs = ap (λ (us : List ℕ). x ∷ us) (append-assoc xs ys zs)

numbers-last : (queue : List CoreId) (core : CoreId) → numbers (queue ++ core ∷ []) ≡ numbers queue ++ core.0 ∷ []
numbers-last [] core = refl
numbers-last (c ∷ rest) core = ap (λ (xs : List ℕ). c.0 ∷ xs) (numbers-last rest core)

-- ---- events that leave the lock's home and its grants

same-waiting : (S T : State) (l : ℕ) → lock_at T l ≡ lock_at S l → ((c : ℕ) → flight T (is_grant_to l c) ≡ flight S (is_grant_to l c)) → waiting T l ≡ waiting S l
same-waiting S T l home grants = ap (waiting_at T l) home ∙ by_lock (lock_at S l) where
  by_holder : (h : Lock) (o : Option CoreId) → waiting_by T l h o ≡ waiting_by S l h o
  by_holder h None = refl
  by_holder h (Some c) = ap (λ (n : ℕ). cond (nat_lt 0 n) (c.0 ∷ numbers h.queue) (numbers h.queue)) (grants c.0)

  by_lock : (o : Option Lock) → waiting_at T l o ≡ waiting_at S l o
  by_lock None = refl
  by_lock (Some h) = by_holder h h.holder

silent : (S T : State) (sync : Option Action) → ((l : ℕ) → listed (acquirer l sync) ≡ []) → ((l : ℕ) → waiting T l ≡ waiting S l) → KeepsTurns S T sync None
silent S T sync none same l = append-nil (waiting S l) ∙ (sym (same l) ∙ ap (λ (xs : List ℕ). xs ++ waiting T l) (sym (none l)))

same-flights : (S T : State) (left sent : Option Outgoing) → ((p : Test) → flight T p + passes p left ≡ flight S p + passes p sent) → (l c : ℕ) → passes (is_grant_to l c) left ≡ 0 → passes (is_grant_to l c) sent ≡ 0
    → flight T (is_grant_to l c) ≡ flight S (is_grant_to l c)
same-flights S T left sent flown l c out into = omega (arith, flown (is_grant_to l c), out, into)

by-node : (S T : State) (sync : Option Action) {core : ℕ} {n m : NodeParts} {left sent : Option Outgoing} → NodeStep S T core n m left sent → ((l c : ℕ) → passes (is_grant_to l c) left ≡ 0) → ((l c : ℕ) → passes (is_grant_to l c) sent ≡ 0)
    → ((l : ℕ) → listed (acquirer l sync) ≡ []) → KeepsTurns S T sync None
by-node S T sync {core} {n} {m} {left} {sent} step out into none =
    silent S T sync none (λ l. same-waiting S T l (rw (step.banks, step.setting) refl) (λ c. same-flights S T left sent step.flown l c (out l c) (into l c)))

by-word : (S T : State) {w : ℕ} {content : BankWord} {left sent : Option Outgoing} → WordStep S T w content left sent → ((l c : ℕ) → passes (is_grant_to l c) left ≡ 0) → ((l c : ℕ) → passes (is_grant_to l c) sent ≡ 0)
    → KeepsTurns S T None None
by-word S T {left = left} {sent = sent} step out into = silent S T None (λ l. refl) (λ l. same-waiting S T l (step.locks l) (λ c. same-flights S T left sent step.flown l c (out l c) (into l c)))

none-to-all : (l c cores : ℕ) (m : Message) → ((a : Actor) → is_grant_to l c a m ≡ false) → to_all (is_grant_to l c) cores (Some m) ≡ 0
none-to-all l c zero m none = refl
none-to-all l c (suc k) m none =
    let last : bit (is_grant_to l c (Core (record { 0 = k })) m) ≡ 0 = ap bit (none (Core (record { 0 = k }))) in
    omega (arith, none-to-all l c k m none, last)

none-at-all : (l c cores : ℕ) → to_all (is_grant_to l c) cores None ≡ 0
none-at-all l c zero = refl
none-at-all l c (suc k) = refl

by-barrier : (S T : State) {k : Barrier} {left : Option Outgoing} {sent : Option Message} → BarrierStep S T k left sent → ((l c : ℕ) → passes (is_grant_to l c) left ≡ 0) → ((l c : ℕ) → to_all (is_grant_to l c) S.setting.shape.cores sent ≡ 0)
    → KeepsTurns S T None None
by-barrier S T {left = left} {sent = sent} step out into =
    silent S T None (λ l. refl) (λ l. same-waiting S T l (rw (step.banks, step.setting) refl) (λ c. omega (arith, step.flown (is_grant_to l c), out l c, into l c)))

-- ---- the lock's home

-- nobody waits for a free lock
free-queue : (S : State) (M : ℕ → ℕ) (l : ℕ) (h : Lock) → Invariant S M → lock_at S l ≡ Some h → h.holder ≡ None → h.queue ≡ []
free-queue S M l h inv there free = by_bank (slice_get S.banks (l % S.setting.shape.banks)) refl there where
  by_bank : (o : Option BankParts) → slice_get S.banks (l % S.setting.shape.banks) ≡ o → lock_in l o ≡ Some h → h.queue ≡ []
  by_bank None found is = absurd (none-some h is)
  by_bank (Some b) found is = (((inv.machine.bank (l % S.setting.shape.banks) b found).well).locks l h is).lock.free free

-- another lock than the one whose home changes
other-lock : (S T : State) (l k : ℕ) {state : Lock} {left sent : Option Outgoing} → LockStep S T l state left sent → (l == k) ≡ false → ((c : ℕ) → passes (is_grant_to k c) left ≡ 0) → ((c : ℕ) → passes (is_grant_to k c) sent ≡ 0)
    → waiting T k ≡ waiting S k
other-lock S T l k {left = left} {sent = sent} step apart out into =
    same-waiting S T k (step.locks k ∙ rw (apart) refl) (λ c. same-flights S T left sent step.flown k c (out c) (into c))

-- who is granted a lock waits for it first
granted-first : (T : State) (l : ℕ) (h : Lock) (c : CoreId) → h.holder ≡ Some c → lock_at T l ≡ Some h → 1 ≤ flight T (is_grant_to l c.0) → waiting T l ≡ c.0 ∷ numbers h.queue
granted-first T l h c held there some =
    let yes : nat_lt 0 (flight T (is_grant_to l c.0)) ≡ true = grind (arith, nat_tests, some) in
    ap (waiting_at T l) there ∙ (ap (waiting_by T l h) held ∙ rw (yes) refl)

taken-first : (T : State) (l : ℕ) (h : Lock) (c : CoreId) → h.holder ≡ Some c → lock_at T l ≡ Some h → flight T (is_grant_to l c.0) ≡ 0 → waiting T l ≡ numbers h.queue
taken-first T l h c held there none =
    let no : nat_lt 0 (flight T (is_grant_to l c.0)) ≡ false = grind (arith, nat_tests, none) in
    ap (waiting_at T l) there ∙ (ap (waiting_by T l h) held ∙ rw (no) refl)

one-each : (S : State) (M : ℕ → ℕ) (l : ℕ) (h : Lock) (c : CoreId) → Invariant S M → lock_at S l ≡ Some h → h.holder ≡ Some c → flight S (is_grant_to l c.0) + flight S (is_release_of l c.0) ≤ 1
one-each S M l h c inv there held =
    let one : holder_in c.0 (lock_at S l) ≡ 1 = ap (holder_in c.0) there ∙ (ap (holder_count c.0) held ∙ rw (same-number c.0) refl) in
    omega (arith, inv.locks.row l c.0, one)

-- a free lock is asked for: it is granted at once
asked-free : (S T : State) (M : ℕ → ℕ) (bank : BankId) (lock : LockId) (core : CoreId) (h : Lock) → Invariant S M → lock_at S lock.0 ≡ Some h → h.holder ≡ None
    → LockStep S T lock.0 (record h { holder = Some core }) (at_bank bank (Acquire lock core)) (to_core core (Grant lock h.kept)) → KeepsTurns S T None (Some (record { core = core.0; lock = lock.0 }))
asked-free S T M bank lock core h inv there free step l = by_lock (lock.0 == l) refl where
  by_lock : (x : Bool) → (lock.0 == l) ≡ x → waiting S l ++ listed (asks_for l (Some (record { core = core.0; lock = lock.0 }))) ≡ waiting T l
  by_lock false e =
      rw (e) (append-nil (waiting S l) ∙ sym (other-lock S T lock.0 l step e (λ c. refl) (λ c. rw (e) refl)))
  by_lock true e = rw (e) (ap (λ (xs : List ℕ). xs ++ core.0 ∷ []) before ∙ sym now) where
    same : lock.0 ≡ l
    same = eqb-true lock.0 l e

    here : lock_at S l ≡ Some h
    here = ap (lock_at S) (sym same) ∙ there

    before : waiting S l ≡ []
    before = ap (waiting_at S l) here ∙ ap (waiting_by S l h) free

    sent : 1 ≤ flight T (is_grant_to l core.0)
    sent = let moved = rw (e, same-number core.0) at (step.flown (is_grant_to l core.0)) in omega (arith, moved)

    now : waiting T l ≡ core.0 ∷ []
    now =
        granted-first T l (record h { holder = Some core }) core refl (step.locks l ∙ rw (e) refl) sent
        ∙ ap (λ (q : List CoreId). core.0 ∷ numbers q) (free-queue S M l h inv here free)

-- a held lock is asked for: the core goes to the end of the queue
asked-held : (S T : State) (M : ℕ → ℕ) (bank : BankId) (lock : LockId) (core holder : CoreId) (h : Lock) → lock_at S lock.0 ≡ Some h → h.holder ≡ Some holder
    → LockStep S T lock.0 (record h { queue = h.queue ++ core ∷ [] }) (at_bank bank (Acquire lock core)) None → KeepsTurns S T None (Some (record { core = core.0; lock = lock.0 }))
asked-held S T M bank lock core holder h there held step l = by_lock (lock.0 == l) refl where
  state : Lock
  state = record h { queue = h.queue ++ core ∷ [] }

  grants : (c : ℕ) → flight T (is_grant_to l c) ≡ flight S (is_grant_to l c)
  grants c = same-flights S T (at_bank bank (Acquire lock core)) None step.flown l c refl refl

  by_lock : (x : Bool) → (lock.0 == l) ≡ x → waiting S l ++ listed (asks_for l (Some (record { core = core.0; lock = lock.0 }))) ≡ waiting T l
  by_lock false e = rw (e) (append-nil (waiting S l) ∙ sym (other-lock S T lock.0 l step e (λ c. refl) (λ c. refl)))
  by_lock true e = rw (e) (ap (λ (xs : List ℕ). xs ++ core.0 ∷ []) before ∙ (longer (nat_lt 0 (flight S (is_grant_to l holder.0))) ∙ sym now)) where
    before : waiting S l ≡ cond (nat_lt 0 (flight S (is_grant_to l holder.0))) (holder.0 ∷ numbers h.queue) (numbers h.queue)
    before = ap (waiting_at S l) (ap (lock_at S) (sym (eqb-true lock.0 l e)) ∙ there) ∙ ap (waiting_by S l h) held

    home : lock_at T l ≡ Some state
    home = step.locks l ∙ rw (e) refl

    longer : (b : Bool) → cond b (holder.0 ∷ numbers h.queue) (numbers h.queue) ++ core.0 ∷ [] ≡ cond b (holder.0 ∷ numbers (h.queue ++ core ∷ [])) (numbers (h.queue ++ core ∷ []))
    longer true = ap (λ (xs : List ℕ). holder.0 ∷ xs) (sym (numbers-last h.queue core))
    longer false = sym (numbers-last h.queue core)

    now : waiting T l ≡ cond (nat_lt 0 (flight S (is_grant_to l holder.0))) (holder.0 ∷ numbers (h.queue ++ core ∷ [])) (numbers (h.queue ++ core ∷ []))
    now =
        ap (waiting_at T l) home
        ∙ (ap (waiting_by T l state) held ∙ ap (λ (n : ℕ). cond (nat_lt 0 n) (holder.0 ∷ numbers state.queue) (numbers state.queue)) (grants holder.0))

-- a lock is released, and nobody waits for it
released-free : (S T : State) (M : ℕ → ℕ) (bank : BankId) (lock : LockId) (core holder : CoreId) (s carried : Signature) (h : Lock) → Invariant S M → lock_at S lock.0 ≡ Some h → h.holder ≡ Some holder → holder.0 ≡ core.0
    → h.queue ≡ [] → LockStep S T lock.0 (record h { holder = None; kept = carried }) (at_bank bank (Release lock core s)) None → KeepsTurns S T None None
released-free S T M bank lock core holder s carried h inv there held own queue step = silent S T None (λ l. refl) same where
  same : (l : ℕ) → waiting T l ≡ waiting S l
  same l = by_lock (lock.0 == l) refl where
    by_lock : (x : Bool) → (lock.0 == l) ≡ x → waiting T l ≡ waiting S l
    by_lock false e = other-lock S T lock.0 l step e (λ c. refl) (λ c. refl)
    by_lock true e = ap (waiting_at T l) now ∙ sym (taken-first S l h holder held here none ∙ ap numbers queue) where
      now : lock_at T l ≡ Some (record h { holder = None; kept = carried })
      now = step.locks l ∙ rw (e) refl

      here : lock_at S l ≡ Some h
      here = ap (lock_at S) (sym (eqb-true lock.0 l e)) ∙ there

      gives : 1 ≤ flight S (is_release_of l holder.0)
      gives = let moved = rw (e, own, same-number core.0) at (step.flown (is_release_of l holder.0)) in rw (own) (omega (arith, moved))

      none : flight S (is_grant_to l holder.0) ≡ 0
      none = omega (arith, gives, one-each S M l h holder inv here held)

-- or it is granted to the first core of the queue
released-on : (S T : State) (M : ℕ → ℕ) (bank : BankId) (lock : LockId) (core holder waiter : CoreId) (others : List CoreId) (s carried : Signature) (h : Lock) → Invariant S M → lock_at S lock.0 ≡ Some h → h.holder ≡ Some holder
    → holder.0 ≡ core.0 → h.queue ≡ waiter ∷ others
    → LockStep S T lock.0 (record h { holder = Some waiter; queue = others; kept = carried }) (at_bank bank (Release lock core s)) (to_core waiter (Grant lock carried)) → KeepsTurns S T None None
released-on S T M bank lock core holder waiter others s carried h inv there held own queue step = silent S T None (λ l. refl) same where
  same : (l : ℕ) → waiting T l ≡ waiting S l
  same l = by_lock (lock.0 == l) refl where
    by_lock : (x : Bool) → (lock.0 == l) ≡ x → waiting T l ≡ waiting S l
    by_lock false e = other-lock S T lock.0 l step e (λ c. refl) (λ c. rw (e) refl)
    by_lock true e =
        granted-first T l (record h { holder = Some waiter; queue = others; kept = carried }) waiter refl (step.locks l ∙ rw (e) refl) sent
        ∙ sym (taken-first S l h holder held here none ∙ ap numbers queue)
      where
        here : lock_at S l ≡ Some h
        here = ap (lock_at S) (sym (eqb-true lock.0 l e)) ∙ there

        gives : 1 ≤ flight S (is_release_of l holder.0)
        gives = let moved = rw (e, own, same-number core.0) at (step.flown (is_release_of l holder.0)) in rw (own) (omega (arith, moved))

        none : flight S (is_grant_to l holder.0) ≡ 0
        none = omega (arith, gives, one-each S M l h holder inv here held)

        sent : 1 ≤ flight T (is_grant_to l waiter.0)
        sent = let moved = rw (e, same-number waiter.0) at (step.flown (is_grant_to l waiter.0)) in omega (arith, moved)

-- ---- a grant is taken

held-by : (o : Option Lock) (k : ℕ) → 1 ≤ holder_in k o → (h : Lock) × (c : CoreId) × (o ≡ Some h) × (h.holder ≡ Some c) × (c.0 ≡ k)
held-by None k some = absurd (omega (arith, some))
held-by (Some h) k some = by_holder h.holder refl some where
  by_holder : (o : Option CoreId) → h.holder ≡ o → 1 ≤ holder_count k o → (g : Lock) × (c : CoreId) × (Some h ≡ Some g) × (g.holder ≡ Some c) × (c.0 ≡ k)
  by_holder None is one = absurd (omega (arith, one))
  by_holder (Some c) is one = by_core (c.0 == k) refl one where
    by_core : (x : Bool) → (c.0 == k) ≡ x → 1 ≤ (cond x 1 0) → (g : Lock) × (d : CoreId) × (Some h ≡ Some g) × (g.holder ≡ Some d) × (d.0 ≡ k)
    by_core true e one = (h, c, refl, is, eqb-true c.0 k e)
    by_core false e one = absurd (omega (arith, one))

takes-turn : (S T : State) (M : ℕ → ℕ) (core : CoreId) (n m : NodeParts) (lock : LockId) (s : Signature) (x : LockAction) → Invariant S M → x.core ≡ core.0 → x.lock ≡ lock.0
    → NodeStep S T core.0 n m (at_core core (Grant lock s)) None → KeepsTurns S T (Some (acquires x)) None
takes-turn S T M core n m lock s x inv by of step l = by_lock (lock.0 == l) refl where
  same_home : lock_at T l ≡ lock_at S l
  same_home = rw (step.banks, step.setting) refl

  by_lock : (t : Bool) → (lock.0 == l) ≡ t → waiting S l ++ [] ≡ listed (acquires_it l (acquires x)) ++ waiting T l
  by_lock false e =
      rw (of, e) (append-nil (waiting S l) ∙ sym (same-waiting S T l same_home (λ c. same-flights S T (at_core core (Grant lock s)) None step.flown l c (rw (e) refl) refl)))
  by_lock true e = rw (of, e, by) (append-nil (waiting S l) ∙ (before ∙ sym now)) where
    moved : flight T (is_grant_to l core.0) + 1 ≡ flight S (is_grant_to l core.0)
    moved = let all = rw (e, same-number core.0) at (step.flown (is_grant_to l core.0)) in omega (arith, all)

    h : (h : Lock) × (c : CoreId) × (lock_at S l ≡ Some h) × (h.holder ≡ Some c) × (c.0 ≡ core.0)
    h = held-by (lock_at S l) core.0 (omega (arith, moved, inv.locks.row l core.0))

    most : flight S (is_grant_to l h.1.0) + flight S (is_release_of l h.1.0) ≤ 1
    most = one-each S M l h.0 h.1 inv h.2 h.3

    here : flight S (is_grant_to l h.1.0) ≡ flight S (is_grant_to l core.0)
    here = ap (λ (k : ℕ). flight S (is_grant_to l k)) h.4

    there : flight T (is_grant_to l h.1.0) ≡ flight T (is_grant_to l core.0)
    there = ap (λ (k : ℕ). flight T (is_grant_to l k)) h.4

    before : waiting S l ≡ core.0 ∷ numbers h.0.queue
    before = granted-first S l h.0 h.1 h.3 h.2 (omega (arith, here, moved)) ∙ ap (λ (k : ℕ). k ∷ numbers h.0.queue) h.4

    now : core.0 ∷ waiting T l ≡ core.0 ∷ numbers h.0.queue
    now = ap (λ (xs : List ℕ). core.0 ∷ xs) (taken-first T l h.0 h.1 h.3 (same_home ∙ h.2) (omega (arith, there, here, moved, most)))

-- ---- every event

turns-outcomes : (S : State) (M : ℕ → ℕ) (e : Event) → Invariant S M → Outcomes S M e (λ M'. KeepsTurns S (next S e) (synchronization_in S e) (request_in S e))
turns-outcomes S M e inv =
    record {
      local = λ core n d t h told step. plainly told (by-node S T None step (λ l c. refl) (λ l c. refl) (λ l. refl));
      ends = λ core n d t by h told step. plainly told (by-node S T None step (λ l c. refl) (λ l c. refl) (λ l. refl));
      load_copy = λ core n d t word value marked h is told step. plainly told (by-node S T None step (λ l c. refl) (λ l c. refl) (λ l. refl));
      load_own = λ core n d t word value pending h is told step. plainly told (by-node S T None step (λ l c. refl) (λ l c. refl) (λ l. refl));
      miss = λ core n d t word needs which h none room told step. plainly told (by-node S T None step (λ l c. refl) (λ l c. refl) (λ l. refl));
      store_new = λ core n d t word value h none room is told step. plainly told (by-node S T None step (λ l c. refl) (λ l c. refl) (λ l. refl));
      store_copy = λ core n d t word whole old value marked h entry is told step. plainly told (by-node S T None step (λ l c. refl) (λ l c. refl) (λ l. refl));
      store_own = λ core n d t word whole old value pending h entry is told step. plainly told (by-node S T None step (λ l c. refl) (λ l c. refl) (λ l. refl));
      acquire = λ core n d t lock h told step. plainly told (by-node S T None step (λ l c. refl) (λ l c. refl) (λ l. refl));
      release = λ core n d t lock h settled told step.
          plainly told (by-node S T (Some (releases (record { phase = n.phase; core = core.0; place = retired_so_far n.task; lock = lock.0 }))) step (λ l c. refl) (λ l c. refl) (λ l. refl));
      evict_copy = λ core n word value marked found active waits is told step. plainly told (by-node S T None step (λ l c. refl) (λ l c. refl) (λ l. refl));
      evict_own = λ core n word value found active waits is told step. plainly told (by-node S T None step (λ l c. refl) (λ l c. refl) (λ l. refl));
      arrive = λ core n found awake absent done settled told step. plainly told (by-node S T (Some (arrives (record { phase = n.phase; core = core.0 }))) step (λ l c. refl) (λ l c. refl) (λ l. refl));
      reply = λ core n word value found waits none room told step. plainly told (by-node S T None step (λ l c. refl) (λ l c. refl) (λ l. refl));
      acknowledge = λ core n word value found is told step. plainly told (by-node S T None step (λ l c. refl) (λ l c. refl) (λ l. refl));
      forward = λ core other n word value found is told step. plainly told (by-node S T None step (λ l c. refl) (λ l c. refl) (λ l. refl));
      forward_past = λ core other n word found none told step. plainly told (by-node S T None step (λ l c. refl) (λ l c. refl) (λ l. refl));
      answer = λ core reader n word value found is told step. plainly told (by-node S T None step (λ l c. refl) (λ l c. refl) (λ l. refl));
      bounce = λ core reader n word found none told step. plainly told (by-node S T None step (λ l c. refl) (λ l c. refl) (λ l. refl));
      freed = λ core n word value found is told step. plainly told (by-node S T None step (λ l c. refl) (λ l c. refl) (λ l. refl));
      grant = λ core n d t lock s found waits task open' declares wants awake absent told step.
          plainly told (takes-turn S T M core n (holds_now S.setting n t lock s).0 lock s (record { phase = n.phase; core = core.0; place = retired_so_far n.task; lock = lock.0 }) inv refl refl step);
      go = λ core n phase found awake there right later within told step. plainly told (by-node S T (Some (starts (record { phase = phase.0; core = core.0 }))) step (λ l c. refl) (λ l c. refl) (λ l. refl));
      halt = λ core n found awake there told step. plainly told (by-node S T None step (λ l c. refl) (λ l c. refl) (λ l. refl));
      read_home = λ bank word reader value is told step. plainly told (by-word S T step (λ l c. refl) (λ l c. refl));
      read_owned = λ bank word reader owner is told step. plainly told (by-word S T step (λ l c. refl) (λ l c. refl));
      register_home = λ bank word core value is told step. plainly told (by-word S T step (λ l c. refl) (λ l c. refl));
      register_owned = λ bank word core owner is other told step. plainly told (by-word S T step (λ l c. refl) (λ l c. refl));
      write_back = λ bank word core value is told step. plainly told (by-word S T step (λ l c. refl) (λ l c. refl));
      write_past = λ bank word core value content is other told step. plainly told (by-word S T step (λ l c. refl) (λ l c. refl));
      acquire_free = λ bank lock core h is none told step. plainly told (asked-free S T M bank lock core h inv is none step);
      acquire_held = λ bank lock core holder h is held told step. plainly told (asked-held S T M bank lock core holder h is held step);
      release_last = λ bank lock core holder s h is held same none told step. plainly told (released-free S T M bank lock core holder s _ h inv is held same none step);
      release_on = λ bank lock core holder waiter others s h is held same queue told step. plainly told (released-on S T M bank lock core holder waiter others s _ h inv is held same queue step);
      arrived = λ core bad new missing told step. plainly told (by-barrier S T step (λ l c. refl) (λ l c. none-at-all l c S.setting.shape.cores));
      all_go = λ core bad new whole on told step. plainly told (by-barrier S T step (λ l c. refl) (λ l c. none-to-all l c S.setting.shape.cores (Go (record { 0 = S.keeper.phase + 1 })) (λ a. refl)));
      all_halt = λ core bad new whole over told step. plainly told (by-barrier S T step (λ l c. refl) (λ l c. none-to-all l c S.setting.shape.cores Halt (λ a. refl)));
    }
  where
    T : State
    T = next S e

    plainly : {seen : Option LoadSeen} {granted : Option Granted} {store : Option (WordId × ℕ)} {sync : Option Action} {request : Option Request} → Tells S e seen granted store sync request → KeepsTurns S T sync request
        → KeepsTurns S T (synchronization_in S e) (request_in S e)
    plainly {request = request} told keeps = subst (λ (o : Option Action). KeepsTurns S T o (request_in S e)) (sym told.synchronization_is) (subst (KeepsTurns S T _) (sym told.request_is) keeps)

pub turns : (S : State) (M : ℕ → ℕ) (e : Event) → Invariant S M → enabled S e ≡ true → KeepsTurns S (next S e) (synchronization_in S e) (request_in S e)
turns S M e inv may = ways S M e (λ M'. KeepsTurns S (next S e) (synchronization_in S e) (request_in S e)) inv may (turns-outcomes S M e inv)

-- ---- every run

asked-first : (l : ℕ) (S : State) (e : Event) (es : List Event) → asked_of l S (e ∷ es) ≡ listed (asks_for l (request_in S e)) ++ asked_of l (next S e) es
asked-first l S e es = by_request (asks_for l (request_in S e)) refl where
  by_request : (o : Option ℕ) → asks_for l (request_in S e) ≡ o → asked_of l S (e ∷ es) ≡ listed o ++ asked_of l (next S e) es
  by_request None is = read-none (λ T f. asks_for l (request_in T f)) S e es is
  by_request (Some c) is = read-some (λ T f. asks_for l (request_in T f)) S e es c is

acquired-one : (l : ℕ) (a : Action) (actions : List Action) → acquired_of l (a ∷ actions) ≡ listed (acquires_it l a) ++ acquired_of l actions
acquired-one l a actions = by_acquire (acquires_it l a) refl where
  by_acquire : (o : Option ℕ) → acquires_it l a ≡ o → acquired_of l (a ∷ actions) ≡ listed o ++ acquired_of l actions
  by_acquire None is = rw (is) refl
  by_acquire (Some c) is = rw (is) refl

acquired-first : (l : ℕ) (S : State) (e : Event) (es : List Event) → acquired_of l (actions_of S (e ∷ es)) ≡ listed (acquirer l (synchronization_in S e)) ++ acquired_of l (actions_of (next S e) es)
acquired-first l S e es = by_action (action_in S e) refl where
  by_action : (o : Option Action) → action_in S e ≡ o → acquired_of l (actions_of S (e ∷ es)) ≡ listed (acquirer l (synchronization_in S e)) ++ acquired_of l (actions_of (next S e) es)
  by_action None is =
      ap (acquired_of l) (read-none action_in S e es is) ∙ ap (λ (o : Option Action). listed (acquirer l o) ++ acquired_of l (actions_of (next S e) es)) (sym (no-action S e is))
  by_action (Some a) is = ap (acquired_of l) (read-some action_in S e es a is) ∙ (acquired-one l a (actions_of (next S e) es) ∙ ap (λ (o : Option ℕ). listed o ++ acquired_of l (actions_of (next S e) es)) (by_part (either-way S e a is))) where
    by_part : (synchronization_in S e ≡ Some a) ⊎ ((b : Access) × (synchronization_in S e ≡ None) × (access_in S e ≡ Some b) × (a ≡ accesses b)) → acquires_it l a ≡ acquirer l (synchronization_in S e)
    by_part (inl one) = ap (acquirer l) (sym one)
    by_part (inr (b, none, one, same)) = ap (acquires_it l) same ∙ ap (acquirer l) (sym none)

served : (S : State) (M : ℕ → ℕ) (count : ℕ) (events : List Event) (l : ℕ) → IsSound S count → Invariant S M → IsRun S events
    → waiting S l ++ asked_of l S events ≡ acquired_of l (actions_of S events) ++ waiting (after S events) l
served S M count [] l sound inv run = append-nil (waiting S l)
served S M count (e ∷ es) l sound inv run =
    let later = sound-next S count e sound run.0 in
    let again = served (next S e) (stored_to (store_in S e) M) (count + 1) es l later (kept S M e inv run.0 later.machine) run.1 in
    let asked : List ℕ = listed (asks_for l (request_in S e)) in
    let acquired : List ℕ = listed (acquirer l (synchronization_in S e)) in
    ap (λ (xs : List ℕ). waiting S l ++ xs) (asked-first l S e es)
    ∙ (sym (append-assoc (waiting S l) asked (asked_of l (next S e) es))
    ∙ (ap (λ (xs : List ℕ). xs ++ asked_of l (next S e) es) (turns S M e inv run.0 l)
    ∙ (append-assoc acquired (waiting (next S e) l) (asked_of l (next S e) es)
    ∙ (ap (λ (xs : List ℕ). acquired ++ xs) again
    ∙ (sym (append-assoc acquired (acquired_of l (actions_of (next S e) es)) (waiting (after (next S e) es) l))
    ∙ ap (λ (xs : List ℕ). xs ++ waiting (after (next S e) es) l) (sym (acquired-first l S e es)))))))

-- nobody waits first
opened-waiting : (C : Setting) (l : ℕ) → IsShaped C → waiting (initial_state C) l ≡ []
opened-waiting C l shaped = by_lock (lock_at (initial_state C) l) refl where
  by_lock : (o : Option Lock) → lock_at (initial_state C) l ≡ o → waiting_at (initial_state C) l o ≡ []
  by_lock None is = refl
  by_lock (Some h) is = ap (waiting_by (initial_state C) l h) (ap (λ (k : Lock). k.holder) (lock-free C l h shaped is))

all-asked : (C : Setting) (events : List Event) (l : ℕ) → IsWellFormed C → IsRun (initial_state C) events
    → asked_of l (initial_state C) events ≡ acquired_of l (actions_of (initial_state C) events) ++ waiting (after (initial_state C) events) l
all-asked C events l well run =
    ap (λ (xs : List ℕ). xs ++ asked_of l (initial_state C) events) (sym (opened-waiting C l well.context))
    ∙ served (initial_state C) (first_memory C) 0 events l (opened-sound C well) (opened-invariant C well) run

pub well-served : (C : Setting) (events : List Event) (l : ℕ) → IsWellFormed C → IsRun (initial_state C) events → IsFirstComeFirstServed (asked_of l (initial_state C) events) (acquired_of l (actions_of (initial_state C) events))
well-served C events l well run = (waiting (after (initial_state C) events) l, all-asked C events l well run)

-- ---- how long a core waits

-- who asks for a lock does nothing else by that event
request-quiet : (S : State) (e : Event) (r : Request) → request_in S e ≡ Some r → synchronization_in S e ≡ None
unfolding request_in synchronization_in
request-quiet S (Instr core) r is = absurd (none-some r is)
request-quiet S (Evict core word) r is = absurd (none-some r is)
request-quiet S (Arrive core) r is = absurd (none-some r is)
request-quiet S (Handle id) r is = by_mail (removed id S.mails).0 is where
  by_node : (core : CoreId) (lock : LockId) (c : CoreId) (o : Option NodeParts) → synchronizes_at S.setting core (Acquire lock c) o ≡ None
  by_node core lock c None = refl
  by_node core lock c (Some n) = refl

  by_message : (a : Actor) (message : Message) → request_by message ≡ Some r → synchronizes_to S a message ≡ None
  by_message (Core core) (Acquire lock c) is = by_node core lock c (slice_get S.nodes core.0)
  by_message (Bank bank) (Acquire lock c) is = refl
  by_message Keeper (Acquire lock c) is = refl
  by_message a (ReadReq word reader) is = absurd (none-some r is)
  by_message a (ReadFwd word reader) is = absurd (none-some r is)
  by_message a (DataReply word value) is = absurd (none-some r is)
  by_message a (RegReq word c) is = absurd (none-some r is)
  by_message a (RegFwd word c) is = absurd (none-some r is)
  by_message a (RegAck word) is = absurd (none-some r is)
  by_message a (WriteBack word value c) is = absurd (none-some r is)
  by_message a (WbAck word) is = absurd (none-some r is)
  by_message a (Release lock c s) is = absurd (none-some r is)
  by_message a (Grant lock s) is = absurd (none-some r is)
  by_message a (Arrived c bad) is = absurd (none-some r is)
  by_message a (Go phase) is = absurd (none-some r is)
  by_message a Halt is = absurd (none-some r is)

  by_mail : (o : Option Mail) → request_with o ≡ Some r → synchronizes_with S o ≡ None
  by_mail None is = absurd (none-some r is)
  by_mail (Some m) is = by_message m.to m.message is

asked-quiet : (S : State) (e : Event) (l core : ℕ) → asks_for l (request_in S e) ≡ Some core → synchronization_in S e ≡ None
asked-quiet S e l core is = by_request (request_in S e) refl is where
  by_request : (o : Option Request) → request_in S e ≡ o → asks_for l o ≡ Some core → synchronization_in S e ≡ None
  by_request None has asks = absurd (none-some core asks)
  by_request (Some r) has asks = request-quiet S e r has

at-turn : (before : List ℕ) (core : ℕ) (rest : List ℕ) → slice_get ((before ++ core ∷ []) ++ rest) (length before) ≡ Some core
at-turn [] core rest = refl
at-turn (b ∷ before) core rest = at-turn before core rest

length-more : (xs ys : List ℕ) → length (xs ++ ys) ≡ length xs + length ys
length-more [] ys = omega arith
length-more (x ∷ xs) ys = omega (arith, length-more xs ys)

pub well-turn : (C : Setting) (past later : List Event) (e : Event) (ahead : ℕ) → IsWellFormed C → IsRun (initial_state C) (past ++ e ∷ later) → WaitsFor (initial_state C) past e later ahead
well-turn C past later e ahead well run lock core next_one asks counted turn = same_Some next_one core (sym (at-front A (waiting (after T later) lock) ahead next_one turn) ∙ (ap (λ (xs : List ℕ). slice_get xs ahead) (sym rest) ∙ mine)) where
  S : State
  S = initial_state C

  U : State
  U = after S past

  T : State
  T = next U e

  M : ℕ → ℕ
  M = memory_over (first_memory C) S past

  A : List ℕ
  A = acquired_of lock (actions_of T later)

  parts : IsRun S past × (enabled U e ≡ true) × IsRun T later
  parts = run-front S past later e run

  here : IsSound U (0 + length past) × Invariant U M
  here = run-kept S (first_memory C) 0 past (opened-sound C well) (opened-invariant C well) parts.0

  sound : IsSound T (0 + length past + 1)
  sound = sound-next U (0 + length past) e here.0 parts.1

  good : Invariant T (stored_to (store_in U e) M)
  good = kept U M e here.1 parts.1 sound.machine

  before : asked_of lock S past ≡ acquired_of lock (actions_of S past) ++ waiting U lock
  before = all-asked C past lock well parts.0

  long : length (waiting U lock) ≡ ahead
  long = omega (arith, counted, ap length before, length-more (acquired_of lock (actions_of S past)) (waiting U lock))

  now : waiting U lock ++ core ∷ [] ≡ waiting T lock
  now =
      ap (λ (o : Option ℕ). waiting U lock ++ listed o) (sym asks)
      ∙ (turns U M e here.1 parts.1 lock ∙ ap (λ (o : Option Action). listed (acquirer lock o) ++ waiting T lock) (asked-quiet U e lock core asks))

  rest : (waiting U lock ++ core ∷ []) ++ asked_of lock T later ≡ A ++ waiting (after T later) lock
  rest = ap (λ (xs : List ℕ). xs ++ asked_of lock T later) now ∙ served T (stored_to (store_in U e) M) (0 + length past + 1) later lock sound good parts.2

  mine : slice_get ((waiting U lock ++ core ∷ []) ++ asked_of lock T later) ahead ≡ Some core
  mine = ap (slice_get ((waiting U lock ++ core ∷ []) ++ asked_of lock T later)) (sym long) ∙ at-turn (waiting U lock) core (asked_of lock T later)
