-- The changes of an event lead from the whole state before it to the whole state after it, and those of a run from its first state to its
-- last.
use Rattle.std.proofs.Common.{◌≡◌, ◌≢◌, ℕ, zero, suc, ◌+◌, ◌%◌, ◌<◌, ◌==◌, Bool, true, false, cond, List, [], ◌∷◌, ◌++◌, length, slice_get, slice_index_or, Option, Some, None, refl, sym, ap, subst, ◌∙◌, arith}
use Rattle.std.specs.List.{fold}
use Rattle.std.specs.Option.{option_map}
use Rattle.std.proofs.lemmas.Bool.Decides.{nat_tests}
use Rattle.std.proofs.lemmas.Nat.{mod_below}
use Rattle.std.proofs.lemmas.List.Sums.{fold-append}
use Rattle.std.proofs.lemmas.Option.{none-some, same_Some, slice_get_within, slice_get-get_or}
use Rattle.dn_base.specs.declared.ids.BankId.{BankId}
use Rattle.dn_base.specs.declared.ids.CoreId.{CoreId}
use Rattle.message_net.specs.declared.actor.Actor.{Actor}
use Rattle.message_net.specs.declared.actor.Actor.TheVariants.{Core, Bank, Keeper}
use Rattle.message_net.specs.declared.event.Event.{Event}
use Rattle.message_net.specs.declared.event.Event.TheVariants.{Instr, Evict, Arrive, Handle}
use Rattle.message_net.specs.Id.{same_actor}
use Rattle.message_net.proofs.PoolLemmas.{same_actor-true, same_actor-refl}
use Rattle.region_table.specs.Program.{ProgramParts}
use Rattle.registry_bank.specs.Bank.{BankParts, bank_gets}
use Rattle.registration_protocol.specs.Node.{NodeParts, entry_of, signature_of}
use Rattle.rv_core.specs.Access.{is_held}
use Rattle.machine_rules.specs.State.{State, initial_state, word_in, home_at, lock_in, lock_at}
use Rattle.machine_rules.specs.Next.{next, enabled}
use Rattle.machine_rules.specs.Runs.{after, IsRun}
use Rattle.machine_rules.specs.Sound.{IsMachine, IsSound}
use Rattle.machine_rules.proofs.OpenedFacts.{opened-setting}
use Rattle.machine_rules.proofs.OpenedSound.{opened-machine}
use Rattle.machine_rules.proofs.RunsKept.{same-setting}
use Rattle.machine_rules.proofs.SoundEvents.{sound-next}
use Rattle.machine_rules.proofs.Steps.{handled, bank-step}
use Rattle.dn_machine.specs.Actors.{actor_in}
use Rattle.run_changes.specs.declared.change.ActorChanges.{ActorChanges}
use Rattle.run_changes.specs.declared.change.Change.{Change}
use Rattle.run_changes.specs.Changes.{locks_held}
use Rattle.run_changes.specs.Events.{event_changes, maker_of}
use Rattle.run_changes.specs.Applied.{entry_step, phase_step, wait_step, arrived_step, halted_step, hold_step, signature_step, home_step, lock_step, keeper_step}
use Rattle.run_changes.specs.Since.{home_of, changes_since}
use Rattle.run_changes.specs.Leads.{task_shown, task_step, NodeLed, changes_for, Leads, changes_told, changes_along}
use Rattle.run_changes.proofs.Alone.{cores-alone, banks-alone, keeper-alone}
use Rattle.run_changes.proofs.Listed.{nothing_behind}
use Rattle.run_changes.proofs.Homes.{homes-led, no-core}
use Rattle.run_changes.proofs.LockHomes.{locks-led}
use Rattle.run_changes.proofs.Keepers.{keeper-led}
use Rattle.run_changes.proofs.Led.{node-follows}
use Rattle.run_changes.proofs.Start.{for-append, start-leads}

-- ---- no change, and changes one after the other

node-rests : (P : ProgramParts) (n : NodeParts) → NodeLed P n [] n
node-rests P n =
    record {
      status = record { phase = refl; waiting = refl; arrived = refl; halted = refl };
      task = refl;
      held = λ l. refl;
      signatures = λ l. refl;
      entries = λ w. refl;
    }

on : {X : Type 0} (step : X → Change → X) (x y z : X) (cs ds : List Change) → fold step x cs ≡ y → fold step y ds ≡ z → fold step x (cs ++ ds) ≡ z
on step x y z cs ds first second = fold-append step x cs ds ∙ ap (λ v. fold step v ds) first ∙ second

node-on : (P : ProgramParts) (n m p : NodeParts) (cs ds : List Change) → m.core ≡ n.core → NodeLed P n cs m → NodeLed P m ds p → NodeLed P n (cs ++ ds) p
node-on P n m p cs ds same a b =
    record {
      status =
          record {
            phase = on phase_step n.phase m.phase p.phase cs ds a.status.phase b.status.phase;
            waiting = on wait_step n.waiting m.waiting p.waiting cs ds a.status.waiting b.status.waiting;
            arrived = on arrived_step n.arrived m.arrived p.arrived cs ds a.status.arrived b.status.arrived;
            halted = on halted_step n.halted m.halted p.halted cs ds a.status.halted b.status.halted;
          };
      task =
          on (task_step P n.core) (option_map task_shown n.task) (option_map task_shown m.task) (option_map task_shown p.task) cs ds a.task
          (ap (λ (core : ℕ). fold (task_step P core) (option_map task_shown m.task) ds) (sym same) ∙ b.task);
      held = λ l. on (hold_step l) (is_held (locks_held n.task) l) (is_held (locks_held m.task) l) (is_held (locks_held p.task) l) cs ds (a.held l) (b.held l);
      signatures = λ l. on (signature_step l) (signature_of n l) (signature_of m l) (signature_of p l) cs ds (a.signatures l) (b.signatures l);
      entries = λ w. on (entry_step w) (entry_of n w) (entry_of m w) (entry_of p w) cs ds (a.entries w) (b.entries w);
    }

node-there : (S T : State) → IsMachine S → IsMachine T → T.setting ≡ S.setting → (core : ℕ) (n : NodeParts) → slice_get S.nodes core ≡ Some n
    → (m : NodeParts) × (slice_get T.nodes core ≡ Some m) × (m.core ≡ n.core)
node-there S T here there same core n found =
    let cores : T.setting.shape.cores ≡ S.setting.shape.cores = rw (same) refl in
    let within : core < length T.nodes = omega (arith, slice_get_within S.nodes core n found, here.nodes, there.nodes, cores) in
    let m = slice_index_or T.nodes core n in
    let stands : slice_get T.nodes core ≡ Some m = slice_get-get_or T.nodes core n within in
    (m, stands, (there.node core m stands).core ∙ sym (here.node core n found).core)

leads-on : (S T U : State) (xs ys : List ActorChanges) → IsMachine S → IsMachine T → T.setting ≡ S.setting → Leads S xs T → Leads T ys U → Leads S (xs ++ ys) U
leads-on S T U xs ys here there same a b =
    record {
      cores = λ core n p was is.
          let m = node-there S T here there same core.0 n was in
          subst (λ (cs : List Change). NodeLed S.setting.program n cs p) (sym (for-append (Core core) xs ys))
          (node-on S.setting.program n m.0 p (changes_for (Core core) xs) (changes_for (Core core) ys) m.2 (a.cores core n m.0 was m.1)
          (subst (λ (P : ProgramParts). NodeLed P m.0 (changes_for (Core core) ys) p) (ap (λ (C : _). C.program) same) (b.cores core m.0 p m.1 is)));
      homes = λ w.
          ap (fold (home_step w) (home_at S w)) (for-append (home_of S w) xs ys)
          ∙ on (home_step w) (home_at S w) (home_at T w) (home_at U w) (changes_for (home_of S w) xs) (changes_for (home_of S w) ys) (a.homes w)
          (ap (λ (h : Actor). fold (home_step w) (home_at T w) (changes_for h ys)) (sym (home-same w)) ∙ b.homes w);
      locks = λ l.
          ap (fold (lock_step l) (lock_at S l)) (for-append (home_of S l) xs ys)
          ∙ on (lock_step l) (lock_at S l) (lock_at T l) (lock_at U l) (changes_for (home_of S l) xs) (changes_for (home_of S l) ys) (a.locks l)
          (ap (λ (h : Actor). fold (lock_step l) (lock_at T l) (changes_for h ys)) (sym (home-same l)) ∙ b.locks l);
      keeper =
          ap (fold keeper_step S.keeper) (for-append Keeper xs ys)
          ∙ on keeper_step S.keeper T.keeper U.keeper (changes_for Keeper xs) (changes_for Keeper ys) a.keeper b.keeper;
    }
  where
    home-same : (number : ℕ) → home_of T number ≡ home_of S number
    home-same number = rw (same) refl

-- ---- an event

-- an event that may come is some actor's
made-by : (S : State) (e : Event) → enabled S e ≡ true → (a : Actor) × (actor_in S e ≡ Some a)
unfolding actor_in
made-by S (Instr core) may = (Core core, refl)
made-by S (Evict core word) may = (Core core, refl)
made-by S (Arrive core) may = (Core core, refl)
made-by S (Handle id) may = let took = handled S id may in (took.0.to, rw (took.1.took) refl)

told-own : (S : State) (e : Event) (a b : Actor) → actor_in S e ≡ Some a → changes_for b (changes_told S e ∷ []) ≡ cond (same_actor a b) (event_changes S e) []
told-own S e a b is =
    nothing_behind (cond (same_actor (maker_of (actor_in S e)) b) (event_changes S e) [])
    ∙ ap (λ (o : Option Actor). cond (same_actor (maker_of o) b) (event_changes S e) []) is

others : (a b : Actor) → same_actor a b ≡ false → Some a ≢ Some b
others a b apart is =
    let same : a ≡ b = same_Some a b is in
    let both : same_actor a b ≡ true = rw (same) (same_actor-refl b) in
    absurd (cc)

-- a bank that handles a mail is there then
bank-there : (S : State) (e : Event) (bank : BankId) (b : BankParts) → enabled S e ≡ true → actor_in S e ≡ Some (Bank bank) → slice_get S.banks bank.0 ≡ Some b
    → (c : BankParts) × (slice_get (next S e).banks bank.0 ≡ Some c)
unfolding actor_in
bank-there S (Instr core) bank b may is found = no-core core bank is
bank-there S (Evict core word) bank b may is found = no-core core bank is
bank-there S (Arrive core) bank b may is found = no-core core bank is
bank-there S (Handle id) bank b may is found =
    let took = handled S id may in
    let to : took.0.to ≡ Bank bank = same_Some took.0.to (Bank bank) (rw (took.1.took) at is) in
    let same : (bank.0 == bank.0) ≡ true = grind (arith, nat_tests) in
    ((bank_gets b took.0.message).0, (bank-step S id took.0 bank b took.1 to found).banks bank.0 ∙ rw (same) refl)

module _ (S : State) (e : Event) (machine : IsMachine S) (may : enabled S e ≡ true) (a : Actor) (is : actor_in S e ≡ Some a) where
  own : (b : Actor) → same_actor a b ≡ true → (actor_in S e ≡ Some b) × (changes_for b (changes_told S e ∷ []) ≡ event_changes S e)
  own b t = (is ∙ ap (λ (x : Actor). Some x) (same_actor-true a b t), told-own S e a b is ∙ rw (t) refl)

  alone : (b : Actor) → same_actor a b ≡ false → (actor_in S e ≢ Some b) × (changes_for b (changes_told S e ∷ []) ≡ [])
  alone b t = ((λ same. others a b t (sym is ∙ same)), told-own S e a b is ∙ rw (t) refl)

  core-led : (core : CoreId) (n m : NodeParts) → slice_get S.nodes core.0 ≡ Some n → slice_get (next S e).nodes core.0 ≡ Some m → NodeLed S.setting.program n (changes_for (Core core) (changes_told S e ∷ [])) m
  core-led core n m was now = by_test (same_actor a (Core core)) refl where
    by_test : (t : Bool) → same_actor a (Core core) ≡ t → NodeLed S.setting.program n (changes_for (Core core) (changes_told S e ∷ [])) m
    by_test true t =
        let mine = own (Core core) t in
        subst (λ (cs : List Change). NodeLed S.setting.program n cs m) (sym mine.1) (node-follows S e core n machine may mine.0 was m now)
    by_test false t =
        let other = alone (Core core) t in
        let same : n ≡ m = same_Some n m (sym was ∙ sym (cores-alone S e core other.0) ∙ now) in
        subst (λ (cs : List Change). NodeLed S.setting.program n cs m) (sym other.1) (subst (λ (k : NodeParts). NodeLed S.setting.program n [] k) same (node-rests S.setting.program n))

  -- the bank of a number, which is there
  bank-of : (number : ℕ) → (b : BankParts) × (slice_get S.banks (number % S.setting.shape.banks) ≡ Some b)
  bank-of number =
      let below : number % S.setting.shape.banks < S.setting.shape.banks = mod_below number S.setting.shape.banks machine.context.some_banks in
      by_bank (slice_get S.banks (number % S.setting.shape.banks)) refl (omega (arith, below, machine.banks))
    where
      past : (xs : List BankParts) (i : ℕ) → slice_get xs i ≡ None → i < length xs → ⊥
      past [] i none within = absurd (omega (arith, within))
      past (x ∷ xs) zero none within = none-some x (sym none)
      past (x ∷ xs) (suc i) none within = past xs i none (omega (arith, within))

      by_bank : (o : Option BankParts) → slice_get S.banks (number % S.setting.shape.banks) ≡ o → number % S.setting.shape.banks < length S.banks → (b : BankParts) × (slice_get S.banks (number % S.setting.shape.banks) ≡ Some b)
      by_bank (Some b) found within = (b, found)
      by_bank None found within = absurd (past S.banks (number % S.setting.shape.banks) found within)

  setting-kept : (number : ℕ) → number % (next S e).setting.shape.banks ≡ number % S.setting.shape.banks
  setting-kept number = rw (same-setting S e) refl

  home-led : (w : ℕ) → fold (home_step w) (home_at S w) (changes_for (home_of S w) (changes_told S e ∷ [])) ≡ home_at (next S e) w
  home-led w = by_test (same_actor a (home_of S w)) refl ∙ ap (λ (k : ℕ). word_in w (slice_get (next S e).banks k)) (sym (setting-kept w)) where
    by_test : (t : Bool) → same_actor a (home_of S w) ≡ t → fold (home_step w) (home_at S w) (changes_for (home_of S w) (changes_told S e ∷ [])) ≡ word_in w (slice_get (next S e).banks (w % S.setting.shape.banks))
    by_test true t =
        let mine = own (home_of S w) t in
        let b = bank-of w in
        let c = bank-there S e (record { 0 = w % S.setting.shape.banks }) b.0 may mine.0 b.1 in
        ap (fold (home_step w) (home_at S w)) mine.1 ∙ ap (λ (o : Option BankParts). fold (home_step w) (word_in w o) (event_changes S e)) b.1
        ∙ homes-led S e (record { 0 = w % S.setting.shape.banks }) b.0 machine may mine.0 b.1 c.0 c.1 w ∙ ap (word_in w) (sym c.1)
    by_test false t =
        let other = alone (home_of S w) t in
        ap (fold (home_step w) (home_at S w)) other.1 ∙ ap (word_in w) (sym (banks-alone S e (record { 0 = w % S.setting.shape.banks }) other.0))

  lock-led : (l : ℕ) → fold (lock_step l) (lock_at S l) (changes_for (home_of S l) (changes_told S e ∷ [])) ≡ lock_at (next S e) l
  lock-led l = by_test (same_actor a (home_of S l)) refl ∙ ap (λ (k : ℕ). lock_in l (slice_get (next S e).banks k)) (sym (setting-kept l)) where
    by_test : (t : Bool) → same_actor a (home_of S l) ≡ t → fold (lock_step l) (lock_at S l) (changes_for (home_of S l) (changes_told S e ∷ [])) ≡ lock_in l (slice_get (next S e).banks (l % S.setting.shape.banks))
    by_test true t =
        let mine = own (home_of S l) t in
        let b = bank-of l in
        let c = bank-there S e (record { 0 = l % S.setting.shape.banks }) b.0 may mine.0 b.1 in
        ap (fold (lock_step l) (lock_at S l)) mine.1 ∙ ap (λ (o : Option BankParts). fold (lock_step l) (lock_in l o) (event_changes S e)) b.1
        ∙ locks-led S e (record { 0 = l % S.setting.shape.banks }) b.0 machine may mine.0 b.1 c.0 c.1 l ∙ ap (lock_in l) (sym c.1)
    by_test false t =
        let other = alone (home_of S l) t in
        ap (fold (lock_step l) (lock_at S l)) other.1 ∙ ap (lock_in l) (sym (banks-alone S e (record { 0 = l % S.setting.shape.banks }) other.0))

  barrier-led : fold keeper_step S.keeper (changes_for Keeper (changes_told S e ∷ [])) ≡ (next S e).keeper
  barrier-led = by_test (same_actor a Keeper) refl where
    by_test : (t : Bool) → same_actor a Keeper ≡ t → fold keeper_step S.keeper (changes_for Keeper (changes_told S e ∷ [])) ≡ (next S e).keeper
    by_test true t = let mine = own Keeper t in ap (fold keeper_step S.keeper) mine.1 ∙ keeper-led S e may mine.0
    by_test false t = let other = alone Keeper t in ap (fold keeper_step S.keeper) other.1 ∙ sym (keeper-alone S e other.0)

  all-led : Leads S (changes_told S e ∷ []) (next S e)
  all-led = record { cores = λ core n m was now. core-led core n m was now; homes = λ w. home-led w; locks = λ l. lock-led l; keeper = barrier-led }

pub event-leads : (S : State) (e : Event) → IsMachine S → enabled S e ≡ true → Leads S (changes_told S e ∷ []) (next S e)
event-leads S e machine may = let a = made-by S e may in all-led S e machine may a.0 a.1

-- ---- a run

run-leads : (S : State) (made : ℕ) (events : List Event) → IsSound S made → IsRun S events → Leads S (changes_along S events) (after S events)
run-leads S made [] sound run = record { cores = λ core n m was now. let same : n ≡ m = same_Some n m (sym was ∙ now) in subst (λ (k : NodeParts). NodeLed S.setting.program n [] k) same (node-rests S.setting.program n); homes = λ w. refl; locks = λ l. refl; keeper = refl }
run-leads S made (e ∷ es) sound run =
    let later = sound-next S made e sound run.0 in
    leads-on S (next S e) (after (next S e) es) (changes_told S e ∷ []) (changes_along (next S e) es) sound.machine later.machine (same-setting S e) (event-leads S e sound.machine run.0)
    (run-leads (next S e) (made + 1) es later run.1)

pub start-and-run : (S : State) (made : ℕ) (events : List Event) → IsSound S made → IsRun S events → Leads (initial_state S.setting) (changes_since S ++ changes_along S events) (after S events)
start-and-run S made events sound run =
    leads-on (initial_state S.setting) S (after S events) (changes_since S) (changes_along S events) (opened-machine S.setting sound.machine.context sound.machine.program sound.machine.checked) sound.machine
    (sym (opened-setting S.setting)) (start-leads S sound.machine) (run-leads S made events sound run)
