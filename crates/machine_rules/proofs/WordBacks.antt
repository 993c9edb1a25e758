-- The good words after an eviction of a registered word, and after each event of a word's home.
use Rattle.std.proofs.Common.{◌≡◌, ◌≢◌, ℕ, ◌%◌, ◌≤◌, ◌==◌, Bool, true, false, cond, Option, Some, None, refl, sym, ap, subst, ◌∙◌, arith}
use Rattle.std.proofs.lemmas.Bool.{eqb-true}
use Rattle.std.proofs.lemmas.Bool.Decides.{nat_tests}
use Rattle.dn_base.specs.declared.ids.WordId.{WordId}
use Rattle.dn_base.specs.declared.ids.CoreId.{CoreId}
use Rattle.dn_base.specs.declared.ids.BankId.{BankId}
use Rattle.message_net.specs.declared.actor.Actor.TheVariants.{Core, Bank}
use Rattle.message_net.specs.declared.message.Message.TheVariants.{RegReq, RegFwd, RegAck, WriteBack, WbAck}
use Rattle.message_net.specs.declared.message.Outgoing.{Outgoing}
use Rattle.message_net.specs.Mail.{to_core, to_home}
use Rattle.word_cache.specs.declared.row.Entry.{Entry}
use Rattle.word_cache.specs.declared.row.Entry.TheVariants.{Registered, Leaving}
use Rattle.registry_bank.specs.declared.bank.BankWord.{BankWord}
use Rattle.registry_bank.specs.declared.bank.BankWord.TheVariants.{Home, Reg}
use Rattle.registration_protocol.specs.Node.{NodeParts, entry_of}
use Rattle.registration_protocol.specs.Messages.{with_entry}
use Rattle.machine_rules.specs.State.{State, entry_at, home_at}
use Rattle.machine_rules.specs.Flight.{flight, is_write_back_of, is_write_back_with}
use Rattle.machine_rules.specs.Coherent.{MayStore}
use Rattle.machine_rules.proofs.Bits.{passes, pending_bit, leaving_bit, owner_bit}
use Rattle.machine_rules.proofs.Invariant.{WordsGood, WordRow, word_counts}
use Rattle.machine_rules.proofs.Steps.{NodeStep}
use Rattle.machine_rules.proofs.Outcomes.{WordStep, at_bank}
use Rattle.machine_rules.proofs.WordEvents.{flows, IsAside, WordEvent, rows}
use Rattle.machine_rules.proofs.WordCore.{same-number, evicted-row}
use Rattle.machine_rules.proofs.WordHome.{AtHome, home-registered, owned-registered, written-back, written-past}
use Rattle.machine_rules.proofs.WordGood.{single-calm, AreValued, valued-within, valued-taken, pending-one, right-kept}
use Rattle.machine_rules.proofs.WordRights.{keeps-same, right-nodes}
use Rattle.machine_rules.proofs.WordQuiet.{aside, aside-none}
use Rattle.machine_rules.proofs.WordSteps.{EntryStep, at-core, word-event, core-good, calm}
use Rattle.machine_rules.proofs.WordMoves.{changed-now}

-- a registered word leaves, and its write-back goes
pub evicted-good : (S T : State) (core : CoreId) (n : NodeParts) (word : WordId) (value : ℕ) → entry_of n word.0 ≡ Some (Registered value false)
    → NodeStep S T core.0 n (with_entry n word.0 (Leaving value)) None (to_home S.setting.shape.banks word.0 (WriteBack word value core)) → WordsGood S → WordsGood T
evicted-good S T core n word value was step g =
    core-good S T core.0 n (with_entry n word.0 (Leaving value)) word.0 (Some (Registered value false)) (Some (Leaving value)) None sent h g
    (evicted-row S T word core value (record { 0 = word.0 % S.setting.shape.banks }) (at-core S T core.0 n _ word.0 _ _ _ _ h) g)
    (single-calm S T g.single less) valued rights
  where
    sent : Option Outgoing
    sent = to_home S.setting.shape.banks word.0 (WriteBack word value core)

    h : EntryStep S T core.0 n (with_entry n word.0 (Leaving value)) word.0 (Some (Registered value false)) (Some (Leaving value)) None (to_home S.setting.shape.banks word.0 (WriteBack word value core))
    h = record { step = step; was = was; now = changed-now n word.0 (Registered value false) (Leaving value) was; came = λ v e. aside-none v; went = λ v e. aside v _ (WriteBack word value core) e }

    less : (d v : ℕ) → pending_bit (entry_at T d v) ≤ pending_bit (entry_at S d v)
    less = calm S T core.0 n _ word.0 _ _ _ _ h (omega arith)

    rights : (d v : ℕ) → pending_bit (entry_at T d v) ≡ 1 → MayStore T d v
    rights d v one =
        right-kept S T core.0 n (with_entry n word.0 (Leaving value)) None (to_home S.setting.shape.banks word.0 (WriteBack word value core)) step refl
        (keeps-same n (with_entry n word.0 (Leaving value)) refl) d v (g.right d v (omega (arith, one, less d v, pending-one (entry_at S d v))))

    valued : AreValued T
    valued v d x is = by_tests (word.0 == v) refl (core.0 == d) refl where
      by_tests : (p : Bool) → (word.0 == v) ≡ p → (q : Bool) → (core.0 == d) ≡ q → flight T (is_write_back_with v d x) ≡ flight T (is_write_back_of v d)
      by_tests true e true f =
          let now = rw (e, f) at ((word-event S T core.0 n _ word.0 _ _ _ _ h).entries d v) in
          let same : (value == x) ≡ true = value-same (sym now ∙ is) in
          let all = rw (e, f) at (step.flown (is_write_back_of v d)) in
          let some = rw (e, f, same) at (step.flown (is_write_back_with v d x)) in
          let was_here = subst (λ (c : ℕ). entry_at S c v ≡ Some (Registered value false)) (eqb-true core.0 d f) (subst (λ (w : ℕ). entry_at S core.0 w ≡ Some (Registered value false)) (eqb-true word.0 v e) (at-core S T core.0 n _ word.0 _ _ _ _ h).was) in
          omega (arith, all, some, g.row v d, ap leaving_bit was_here, valued-within S v d x)
        where
          value-same : Some (Leaving value) ≡ Some (Leaving x) → (value == x) ≡ true
          value-same is = let one : value ≡ x = cc in grind (arith, nat_tests, one)
      by_tests true e false f =
          let now = rw (e, f) at ((word-event S T core.0 n _ word.0 _ _ _ _ h).entries d v) in
          let all = rw (e, f) at (step.flown (is_write_back_of v d)) in
          let some = rw (e, f) at (step.flown (is_write_back_with v d x)) in
          omega (arith, all, some, g.valued v d x (sym now ∙ is))
      by_tests false e q f =
          let now = rw (e) at ((word-event S T core.0 n _ word.0 _ _ _ _ h).entries d v) in
          let all = rw (e) at (step.flown (is_write_back_of v d)) in
          let some = rw (e) at (step.flown (is_write_back_with v d x)) in
          omega (arith, all, some, g.valued v d x (sym now ∙ is))

-- ---- the home of a word

same-entries : (S T : State) → T.nodes ≡ S.nodes → (d v : ℕ) → entry_at T d v ≡ entry_at S d v
same-entries S T nodes d v = rw (nodes) refl

-- an event of the word's home
pub record HomeStep (S T : State) (w : ℕ) (old new : BankWord) (left sent : Option Outgoing) : Type 0 where
  pub step : WordStep S T w new left sent
  pub was : home_at S w ≡ Some old
  pub came : (v : ℕ) → (w == v) ≡ false → IsAside v left
  pub went : (v : ℕ) → (w == v) ≡ false → IsAside v sent

pub at-home : (S T : State) (w : ℕ) (old new : BankWord) (left sent : Option Outgoing) → HomeStep S T w old new left sent → AtHome S T w old new left sent
at-home S T w old new left sent h =
    record {
      was = h.was;
      is = rw (same-number w) at (h.step.homes w);
      entries = λ d. same-entries S T h.step.nodes d w;
      flows = flows S T left sent h.step.flown w;
    }

home-event : (S T : State) (w : ℕ) (old new : BankWord) (left sent : Option Outgoing) → HomeStep S T w old new left sent → WordEvent S T w 0 (λ e. e) (Some new) left sent
home-event S T w old new left sent h =
    record {
      entries = λ d v. same-entries S T h.step.nodes d v ∙ either (w == v) (0 == d) (entry_at S d v);
      homes = h.step.homes;
      flown = h.step.flown;
      came = h.came;
      went = h.went;
    }
  where
    either : (x y : Bool) (e : Option Entry) → e ≡ cond x (cond y e e) e
    either true true e = refl
    either true false e = refl
    either false y e = refl

home-good : (S T : State) (w : ℕ) (old new : BankWord) (left sent : Option Outgoing) → HomeStep S T w old new left sent → WordsGood S
    → ((d : ℕ) → WordRow (word_counts T w d)) → ((d v : ℕ) → passes (is_write_back_of v d) sent ≡ 0) → ((d v value : ℕ) → passes (is_write_back_with v d value) sent ≡ 0) → WordsGood T
home-good S T w old new left sent h g own none none_valued =
    record {
      row = rows S T w 0 (λ e. e) (Some new) left sent (home-event S T w old new left sent h) g own;
      single = single-calm S T g.single (λ d v. omega (arith, ap pending_bit (same-entries S T h.step.nodes d v)));
      valued = valued-taken S T left sent g.valued h.step.flown (same-entries S T h.step.nodes) none none_valued;
      right = λ d v one. right-nodes S T h.step.setting h.step.nodes d v (g.right d v (ap pending_bit (sym (same-entries S T h.step.nodes d v)) ∙ one));
    }

pub registered-home-good : (S T : State) (word : WordId) (core : CoreId) (bank : BankId) (value : ℕ) → home_at S word.0 ≡ Some (Home value)
    → WordStep S T word.0 (Reg core) (at_bank bank (RegReq word core)) (to_core core (RegAck word)) → WordsGood S → WordsGood T
registered-home-good S T word core bank value was step g =
    let h : HomeStep S T word.0 (Home value) (Reg core) (at_bank bank (RegReq word core)) (to_core core (RegAck word)) =
    record { step = step; was = was; came = λ v e. aside v (Bank bank) (RegReq word core) e; went = λ v e. aside v (Core core) (RegAck word) e } in
    home-good S T word.0 (Home value) (Reg core) (at_bank bank (RegReq word core)) (to_core core (RegAck word)) h g
    (home-registered S T word core bank value (at-home S T word.0 _ _ _ _ h) g) (λ d v. refl) (λ d v x. refl)

pub registered-owned-good : (S T : State) (word : WordId) (core owner : CoreId) (bank : BankId) → home_at S word.0 ≡ Some (Reg owner) → owner.0 ≢ core.0
    → WordStep S T word.0 (Reg core) (at_bank bank (RegReq word core)) (to_core owner (RegFwd word core)) → WordsGood S → WordsGood T
registered-owned-good S T word core owner bank was other step g =
    let h : HomeStep S T word.0 (Reg owner) (Reg core) (at_bank bank (RegReq word core)) (to_core owner (RegFwd word core)) =
    record { step = step; was = was; came = λ v e. aside v (Bank bank) (RegReq word core) e; went = λ v e. aside v (Core owner) (RegFwd word core) e } in
    let apart : (owner.0 == core.0) ≡ false = grind (arith, nat_tests, other) in
    home-good S T word.0 (Reg owner) (Reg core) (at_bank bank (RegReq word core)) (to_core owner (RegFwd word core)) h g
    (owned-registered S T word core owner bank (at-home S T word.0 _ _ _ _ h) apart g) (λ d v. refl) (λ d v x. refl)

pub written-back-good : (S T : State) (word : WordId) (core : CoreId) (bank : BankId) (value : ℕ) → home_at S word.0 ≡ Some (Reg core)
    → WordStep S T word.0 (Home value) (at_bank bank (WriteBack word value core)) (to_core core (WbAck word)) → WordsGood S → WordsGood T
written-back-good S T word core bank value was step g =
    let h : HomeStep S T word.0 (Reg core) (Home value) (at_bank bank (WriteBack word value core)) (to_core core (WbAck word)) =
    record { step = step; was = was; came = λ v e. aside v (Bank bank) (WriteBack word value core) e; went = λ v e. aside v (Core core) (WbAck word) e } in
    home-good S T word.0 (Reg core) (Home value) (at_bank bank (WriteBack word value core)) (to_core core (WbAck word)) h g
    (written-back S T word core bank value (at-home S T word.0 _ _ _ _ h) g) (λ d v. refl) (λ d v x. refl)

pub written-past-good : (S T : State) (word : WordId) (core : CoreId) (bank : BankId) (value : ℕ) (content : BankWord) → home_at S word.0 ≡ Some content → owner_bit core.0 (Some content) ≡ 0
    → WordStep S T word.0 content (at_bank bank (WriteBack word value core)) (to_core core (WbAck word)) → WordsGood S → WordsGood T
written-past-good S T word core bank value content was past step g =
    let h : HomeStep S T word.0 content content (at_bank bank (WriteBack word value core)) (to_core core (WbAck word)) =
    record { step = step; was = was; came = λ v e. aside v (Bank bank) (WriteBack word value core) e; went = λ v e. aside v (Core core) (WbAck word) e } in
    home-good S T word.0 content content (at_bank bank (WriteBack word value core)) (to_core core (WbAck word)) h g
    (written-past S T word core bank value content (at-home S T word.0 _ _ _ _ h) past g) (λ d v. refl) (λ d v x. refl)
