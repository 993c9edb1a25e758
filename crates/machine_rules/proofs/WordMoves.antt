-- The good words after each event that concerns one word.
use Rattle.std.proofs.Common.{◌≡◌, ℕ, ◌+◌, ◌%◌, ◌≤◌, ◌==◌, ◌&&◌, Bool, true, false, cond, Option, Some, None, refl, sym, ap, subst, ◌∙◌, arith}
use Rattle.std.proofs.lemmas.Bool.{eqb-true}
use Rattle.std.specs.Option.{option_map}
use Rattle.dn_base.specs.declared.ids.WordId.{WordId}
use Rattle.dn_base.specs.declared.ids.CoreId.{CoreId}
use Rattle.region_table.specs.declared.declared.TaskDecl.{TaskDecl}
use Rattle.rv_core.specs.declared.task.TaskState.{TaskState}
use Rattle.rv_core.specs.declared.need.Need as need
use Rattle.rv_core.specs.Access.{may_store}
use Rattle.rv_core.specs.Step.{advanced}
use Rattle.rv_core.proofs.Completions.{advanced-held, store-allowed}
use Rattle.message_net.specs.declared.actor.Actor.{Actor}
use Rattle.message_net.specs.declared.actor.Actor.TheVariants.{Core}
use Rattle.message_net.specs.declared.message.Message.TheVariants.{RegReq, RegFwd, RegAck, WbAck}
use Rattle.message_net.specs.declared.message.Outgoing.{Outgoing}
use Rattle.message_net.specs.Mail.{to_core, to_home}
use Rattle.word_cache.specs.declared.row.Entry.{Entry}
use Rattle.word_cache.specs.declared.row.Entry.TheVariants.{Registered, Leaving}
use Rattle.word_cache.proofs.LookLemmas.{lookup-without, lookup-changed}
use Rattle.registration_protocol.specs.Node.{NodeParts, entry_of}
use Rattle.registration_protocol.specs.OwnEvents.{stored}
use Rattle.registration_protocol.specs.Messages.{with_entry, lacking}
use Rattle.registration_protocol.proofs.EntryLemmas.{store-entry}
use Rattle.machine_rules.specs.State.{State, entry_in, entry_at, home_at}
use Rattle.machine_rules.specs.Flight.{is_write_back_of, is_write_back_with}
use Rattle.machine_rules.specs.Coherent.{MayStore}
use Rattle.machine_rules.proofs.Bits.{passes, pending_bit, settled_bit, leaving_bit, known_bit, owner_bit}
use Rattle.machine_rules.proofs.Invariant.{WordsGood, WordRow, word_counts}
use Rattle.machine_rules.proofs.Steps.{NodeStep}
use Rattle.machine_rules.proofs.Outcomes.{IsActing, at_core}
use Rattle.machine_rules.proofs.WordEvents.{IsAside, entry-node}
use Rattle.machine_rules.proofs.WordCore.{AtCore, same-number, acknowledged-row, freed-row, registered-row, forwarded-row, passed-row}
use Rattle.machine_rules.proofs.WordGood.{single-calm, single-registered, valued-still, pending-one, right-kept, KeepsRights}
use Rattle.machine_rules.proofs.WordRights.{keeps-same, keeps-held}
use Rattle.machine_rules.proofs.WordQuiet.{aside, aside-none}
use Rattle.machine_rules.proofs.WordSteps.{EntryStep, at-core, word-event, core-good, calm, still}

-- ---- entries

pub changed-now : (n : NodeParts) (w : ℕ) (old e : Entry) → entry_of n w ≡ Some old → (v : ℕ) → entry_of (with_entry n w e) v ≡ cond (w == v) (Some e) (entry_of n v)
changed-now n w old e was v =
    lookup-changed w v e n.cache.pairs ∙ ap (λ (o : Option Entry). cond (w == v) (option_map (λ (_ : Entry). e) o) (entry_of n v)) was

pub same-now : (n : NodeParts) (w : ℕ) (old : Option Entry) → entry_of n w ≡ old → (v : ℕ) → entry_of n v ≡ cond (w == v) old (entry_of n v)
same-now n w old was v = by_test (w == v) refl where
  by_test : (x : Bool) → (w == v) ≡ x → entry_of n v ≡ cond x old (entry_of n v)
  by_test true e = subst (λ (x : ℕ). entry_of n x ≡ old) (eqb-true w v e) was
  by_test false e = refl

-- ---- events in which nothing begins to be pending, and no write-back comes or goes

-- no write-back is among what comes and goes
pub record NoBack (out : Option Outgoing) : Type 0 where
  pub none : (d v : ℕ) → passes (is_write_back_of v d) out ≡ 0
  pub none_valued : (d v value : ℕ) → passes (is_write_back_with v d value) out ≡ 0

calm-good : (S T : State) (core : ℕ) (n m : NodeParts) (w : ℕ) (old new : Option Entry) (left sent : Option Outgoing) → EntryStep S T core n m w old new left sent → WordsGood S
    → ((d : ℕ) → WordRow (word_counts T w d)) → pending_bit new ≤ pending_bit old
    → ((d v value : ℕ) → entry_at T d v ≡ Some (Leaving value) → entry_at S d v ≡ Some (Leaving value))
    → NoBack left → NoBack sent → m.phase ≡ n.phase → KeepsRights n m → WordsGood T
calm-good S T core n m w old new left sent h g own less stays came went phase keeps =
    core-good S T core n m w old new left sent h g own
    (single-calm S T g.single (calm S T core n m w old new left sent h less))
    (valued-still S T left sent g.valued h.step.flown stays (λ d v. (came.none d v, went.none d v)) (λ d v value. (came.none_valued d v value, went.none_valued d v value)))
    rights
  where
    rights : (d v : ℕ) → pending_bit (entry_at T d v) ≡ 1 → MayStore T d v
    rights d v one =
        let before : pending_bit (entry_at S d v) ≡ 1 = omega (arith, one, calm S T core n m w old new left sent h less d v, pending-one (entry_at S d v)) in
        right-kept S T core n m left sent h.step phase keeps d v (g.right d v before)

no-back : NoBack None
no-back = record { none = λ d v. refl; none_valued = λ d v value. refl }

back-ack : (to : Actor) (word : WordId) → NoBack (Some (record { to = to; message = RegAck word }))
back-ack to word = record { none = λ d v. refl; none_valued = λ d v value. refl }

back-forward : (to : Actor) (word : WordId) (core : CoreId) → NoBack (Some (record { to = to; message = RegFwd word core }))
back-forward to word core = record { none = λ d v. refl; none_valued = λ d v value. refl }

back-freed : (to : Actor) (word : WordId) → NoBack (Some (record { to = to; message = WbAck word }))
back-freed to word = record { none = λ d v. refl; none_valued = λ d v value. refl }

pub acknowledged-good : (S T : State) (core : CoreId) (n : NodeParts) (word : WordId) (value : ℕ) → entry_of n word.0 ≡ Some (Registered value true)
    → NodeStep S T core.0 n (with_entry n word.0 (Registered value false)) (at_core core (RegAck word)) None → WordsGood S → WordsGood T
acknowledged-good S T core n word value was step g =
    let h : EntryStep S T core.0 n (with_entry n word.0 (Registered value false)) word.0 (Some (Registered value true)) (Some (Registered value false)) (at_core core (RegAck word)) None =
    record { step = step; was = was; now = changed-now n word.0 (Registered value true) (Registered value false) was; came = λ v e. aside v (Core core) (RegAck word) e; went = λ v e. aside-none v } in
    calm-good S T core.0 n _ word.0 (Some (Registered value true)) (Some (Registered value false)) (at_core core (RegAck word)) None h g
    (acknowledged-row S T word core value (at-core S T core.0 n _ word.0 _ _ _ _ h) g) (omega arith)
    (still S T core.0 n _ word.0 _ _ _ _ h refl) (back-ack (Core core) word) no-back refl (keeps-same n (with_entry n word.0 (Registered value false)) refl)

pub freed-good : (S T : State) (core : CoreId) (n : NodeParts) (word : WordId) (value : ℕ) → entry_of n word.0 ≡ Some (Leaving value)
    → NodeStep S T core.0 n (lacking n word.0) (at_core core (WbAck word)) None → WordsGood S → WordsGood T
freed-good S T core n word value was step g =
    let h : EntryStep S T core.0 n (lacking n word.0) word.0 (Some (Leaving value)) None (at_core core (WbAck word)) None =
    record { step = step; was = was; now = λ v. lookup-without word.0 v n.cache.pairs; came = λ v e. aside v (Core core) (WbAck word) e; went = λ v e. aside-none v } in
    calm-good S T core.0 n (lacking n word.0) word.0 (Some (Leaving value)) None (at_core core (WbAck word)) None h g
    (freed-row S T word core value (at-core S T core.0 n _ word.0 _ _ _ _ h) g) (omega arith)
    (still S T core.0 n _ word.0 _ _ _ _ h refl) (back-freed (Core core) word) no-back refl (keeps-same n (lacking n word.0) refl)

pub forwarded-good : (S T : State) (core other : CoreId) (n : NodeParts) (word : WordId) (value : ℕ) → entry_of n word.0 ≡ Some (Registered value false)
    → NodeStep S T core.0 n (lacking n word.0) (at_core core (RegFwd word other)) (to_core other (RegAck word)) → WordsGood S → WordsGood T
forwarded-good S T core other n word value was step g =
    let h : EntryStep S T core.0 n (lacking n word.0) word.0 (Some (Registered value false)) None (at_core core (RegFwd word other)) (to_core other (RegAck word)) =
    record { step = step; was = was; now = λ v. lookup-without word.0 v n.cache.pairs; came = λ v e. aside v (Core core) (RegFwd word other) e; went = λ v e. aside v (Core other) (RegAck word) e } in
    calm-good S T core.0 n (lacking n word.0) word.0 (Some (Registered value false)) None (at_core core (RegFwd word other)) (to_core other (RegAck word)) h g
    (forwarded-row S T word core other value (at-core S T core.0 n _ word.0 _ _ _ _ h) g) (omega arith)
    (still S T core.0 n _ word.0 _ _ _ _ h refl) (back-forward (Core core) word other) (back-ack (Core other) word) refl (keeps-same n (lacking n word.0) refl)

pub passed-good : (S T : State) (core other : CoreId) (n : NodeParts) (word : WordId) → settled_bit (entry_of n word.0) ≡ 0
    → NodeStep S T core.0 n n (at_core core (RegFwd word other)) (to_core other (RegAck word)) → WordsGood S → WordsGood T
passed-good S T core other n word unsettled step g =
    let old = entry_of n word.0 in
    let h : EntryStep S T core.0 n n word.0 (entry_of n word.0) (entry_of n word.0) (at_core core (RegFwd word other)) (to_core other (RegAck word)) =
    record { step = step; was = refl; now = same-now n word.0 (entry_of n word.0) refl; came = λ v e. aside v (Core core) (RegFwd word other) e; went = λ v e. aside v (Core other) (RegAck word) e } in
    calm-good S T core.0 n n word.0 (entry_of n word.0) (entry_of n word.0) (at_core core (RegFwd word other)) (to_core other (RegAck word)) h g
    (passed-row S T word core other (entry_of n word.0) (at-core S T core.0 n n word.0 _ _ _ _ h) unsettled g) (omega arith)
    stays (back-forward (Core core) word other) (back-ack (Core other) word) refl (keeps-same n n refl)
  where
    stays : (d v value : ℕ) → entry_at T d v ≡ Some (Leaving value) → entry_at S d v ≡ Some (Leaving value)
    stays d v value is = by_test (core.0 == d) refl where
      by_test : (x : Bool) → (core.0 == d) ≡ x → entry_at S d v ≡ Some (Leaving value)
      by_test true e =
          subst (λ (x : ℕ). entry_at S x v ≡ entry_of n v) (eqb-true core.0 d e) (ap (entry_in v) step.found)
          ∙ sym (rw (e) at (entry-node S T core.0 n n _ _ step d v)) ∙ is
      by_test false e = sym (rw (e) at (entry-node S T core.0 n n _ _ step d v)) ∙ is

-- ---- stores

-- a store to a word that is registered: its value changes
rewritten-row : (S T : State) (word : WordId) (core : CoreId) (old value : ℕ) (pending : Bool)
    → AtCore S T word.0 core.0 (Some (Registered old pending)) (Some (Registered value pending)) None None → WordsGood S → (d : ℕ) → WordRow (word_counts T word.0 d)
rewritten-row S T word core old value pending h g d = by_core (core.0 == d) refl where
  by_core : (x : Bool) → (core.0 == d) ≡ x → WordRow (word_counts T word.0 d)
  by_core true e =
      let moved = h.flows d in
      let same : core.0 ≡ d = eqb-true core.0 d e in
      let was = rw (same) at h.was in
      let is = rw (same) at h.is in
      omega (arith, moved, g.row word.0 d, ap pending_bit was, ap settled_bit was, ap leaving_bit was, ap pending_bit is, ap settled_bit is, ap leaving_bit is, ap known_bit h.home, ap (owner_bit d) h.home)
  by_core false e =
      let moved = h.flows d in
      let entry = h.others d e in
      omega (arith, moved, g.row word.0 d, ap pending_bit entry, ap settled_bit entry, ap leaving_bit entry, ap known_bit h.home, ap (owner_bit d) h.home)

store-step : (S T : State) (core : ℕ) (n : NodeParts) (d : TaskDecl) (t : TaskState) (word : WordId) (old : Option Entry) (e : Entry) (sent : Option Outgoing)
    → NodeStep S T core n (stored S.setting n d t word e) None sent → entry_of n word.0 ≡ old → ((v : ℕ) → (word.0 == v) ≡ false → IsAside v sent)
    → EntryStep S T core n (stored S.setting n d t word e) word.0 old (Some e) None sent
store-step S T core n d t word old e sent step was went =
    record { step = step; was = was; now = store-entry S.setting n d t word e; came = λ v apart. aside-none v; went = went }

store-held : (S : State) (core : CoreId) (n : NodeParts) (d : TaskDecl) (t : TaskState) (word : WordId) (whole : Bool) → IsActing S core n d t (need.TheVariants.Store word whole)
    → (advanced S.setting.program t).held ≡ t.held
store-held S core n d t word whole acts = advanced-held S.setting.program d S.setting.fuel t (need.TheVariants.Store word whole) acts.wants tt

pub rewritten-good : (S T : State) (core : CoreId) (n : NodeParts) (d : TaskDecl) (t : TaskState) (word : WordId) (whole : Bool) (old value : ℕ) (pending : Bool)
    → IsActing S core n d t (need.TheVariants.Store word whole) → entry_of n word.0 ≡ Some (Registered old pending)
    → NodeStep S T core.0 n (stored S.setting n d t word (Registered value pending)) None None → WordsGood S → WordsGood T
rewritten-good S T core n d t word whole old value pending acts was step g =
    let h = store-step S T core.0 n d t word (Some (Registered old pending)) (Registered value pending) None step was (λ v e. aside-none v) in
    calm-good S T core.0 n (stored S.setting n d t word (Registered value pending)) word.0 (Some (Registered old pending)) (Some (Registered value pending)) None None h g
    (rewritten-row S T word core old value pending (at-core S T core.0 n _ word.0 _ _ _ _ h) g) (omega arith)
    (still S T core.0 n _ word.0 _ _ _ _ h refl) no-back no-back refl
    (keeps-held n (stored S.setting n d t word (Registered value pending)) t (advanced S.setting.program t) acts.task refl (store-held S core n d t word whole acts))

back-ask : (to : Actor) (word : WordId) (core : CoreId) → NoBack (Some (record { to = to; message = RegReq word core }))
back-ask to word core = record { none = λ d v. refl; none_valued = λ d v value. refl }

-- a store to a word that becomes registered, and that nobody else has pending
pub registered-good : (S T : State) (core : CoreId) (n : NodeParts) (d : TaskDecl) (t : TaskState) (word : WordId) (whole : Bool) (old : Option Entry) (value : ℕ)
    → IsActing S core n d t (need.TheVariants.Store word whole) → entry_of n word.0 ≡ old → pending_bit old + settled_bit old + leaving_bit old ≡ 0
    → 1 ≤ known_bit (home_at S word.0) → ((c : ℕ) → (core.0 == c) ≡ false → pending_bit (entry_at S c word.0) ≡ 0)
    → NodeStep S T core.0 n (stored S.setting n d t word (Registered value true)) None (to_home S.setting.shape.banks word.0 (RegReq word core)) → WordsGood S → WordsGood T
registered-good S T core n d t word whole old value acts was quiet known alone step g =
    core-good S T core.0 n m word.0 old (Some (Registered value true)) None sent h g
    (registered-row S T word core value (record { 0 = word.0 % S.setting.shape.banks }) old (at-core S T core.0 n _ word.0 _ _ _ _ h) quiet known g)
    (single-registered S T word.0 core.0 g.single alone less)
    (valued-still S T None sent g.valued step.flown (still S T core.0 n _ word.0 _ _ _ _ h refl)
    (λ d v. (refl, refl)) (λ d v value. (refl, refl)))
    rights
  where
    m : NodeParts
    m = stored S.setting n d t word (Registered value true)

    sent : Option Outgoing
    sent = to_home S.setting.shape.banks word.0 (RegReq word core)

    h : EntryStep S T core.0 n (stored S.setting n d t word (Registered value true)) word.0 old (Some (Registered value true)) None (to_home S.setting.shape.banks word.0 (RegReq word core))
    h = store-step S T core.0 n d t word old (Registered value true) (to_home S.setting.shape.banks word.0 (RegReq word core)) step was (λ v e. aside v _ (RegReq word core) e)

    held : (advanced S.setting.program t).held ≡ t.held
    held = store-held S core n d t word whole acts

    less : (c v : ℕ) → (core.0 == c) && (word.0 == v) ≡ false → pending_bit (entry_at T c v) ≤ pending_bit (entry_at S c v)
    less c v apart = by_tests (word.0 == v) refl (core.0 == c) refl apart where
      by_tests : (x : Bool) → (word.0 == v) ≡ x → (y : Bool) → (core.0 == c) ≡ y → y && x ≡ false → pending_bit (entry_at T c v) ≤ pending_bit (entry_at S c v)
      by_tests true e true f apart = absurd (cc)
      by_tests true e false f apart =
          let now = rw (e, f) at ((word-event S T core.0 n _ word.0 _ _ _ _ h).entries c v) in
          omega (arith, ap pending_bit now)
      by_tests false e y f apart =
          let now = rw (e) at ((word-event S T core.0 n _ word.0 _ _ _ _ h).entries c v) in
          omega (arith, ap pending_bit now)

    own : MayStore T core.0 word.0
    own =
        record {
          node = stored S.setting n d t word (Registered value true);
          found = rw (same-number core.0) at (step.nodes core.0);
          task = advanced S.setting.program t;
          has = refl;
          decl = d;
          declares = rw (step.setting) acts.declares;
          right = subst (λ (x : ℕ). may_store d x word.0 ≡ true) (sym held) (store-allowed S.setting.program d S.setting.fuel t word whole acts.wants).1;
        }

    others : (c v : ℕ) → pending_bit (entry_at S c v) ≡ 1 → MayStore T c v
    others c v one =
        right-kept S T core.0 n (stored S.setting n d t word (Registered value true)) None (to_home S.setting.shape.banks word.0 (RegReq word core)) step refl
        (keeps-held n (stored S.setting n d t word (Registered value true)) t (advanced S.setting.program t) acts.task refl held) c v (g.right c v one)

    rights : (c v : ℕ) → pending_bit (entry_at T c v) ≡ 1 → MayStore T c v
    rights c v one = by_tests (word.0 == v) refl (core.0 == c) refl where
      before : (core.0 == c) && (word.0 == v) ≡ false → MayStore T c v
      before apart = others c v (omega (arith, one, less c v apart, pending-one (entry_at S c v)))

      by_tests : (x : Bool) → (word.0 == v) ≡ x → (y : Bool) → (core.0 == c) ≡ y → MayStore T c v
      by_tests true e true f = subst (λ (x : ℕ). MayStore T c x) (eqb-true word.0 v e) (subst (λ (x : ℕ). MayStore T x word.0) (eqb-true core.0 c f) own)
      by_tests true e false f = before (rw (e, f) refl)
      by_tests false e true f = before (rw (e, f) refl)
      by_tests false e false f = before (rw (e, f) refl)
