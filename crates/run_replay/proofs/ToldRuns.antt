-- The events of a run of the machine are within the limits of a document.
use Rattle.std.proofs.Common.{◌≡◌, ℕ, ◌+◌, ◌<◌, ◌≤◌, nat_lt, Bool, true, false, List, [], ◌∷◌, length, slice_get, slice_index, Option, Some, None, refl, sym, ap, subst, arith}
use Rattle.std.specs.List.{All}
use Rattle.std.specs.Option.{is_some}
use Rattle.std.proofs.Math.Nat.{mul-le-mul}
use Rattle.std.proofs.lemmas.Bool.Decides.{nat_tests}
use Rattle.std.proofs.lemmas.Option.{slice_get_within}
use Rattle.std.proofs.lemmas.List.Elements.{All-cons, All-nil}
use Rattle.message_net.specs.declared.actor.Actor.{Actor}
use Rattle.message_net.specs.declared.actor.Actor.TheVariants.{Core, Bank, Keeper}
use Rattle.message_net.specs.declared.actor.MailId.{MailId}
use Rattle.message_net.specs.declared.event.Event.{Event}
use Rattle.message_net.specs.declared.event.Event.TheVariants.{Instr, Evict, Arrive, Handle}
use Rattle.message_net.specs.declared.message.Mail.{Mail}
use Rattle.message_net.specs.Mail.{has_actor}
use Rattle.word_cache.specs.declared.row.Entry.{Entry}
use Rattle.word_cache.specs.declared.row.Entry.TheVariants.{Valid, Registered, Leaving}
use Rattle.word_cache.specs.Cache.{may_go}
use Rattle.registry_bank.specs.declared.bank.BankWord.{BankWord}
use Rattle.phase_barrier.specs.Barrier.{all_arrived}
use Rattle.registration_protocol.specs.Node.{NodeParts, Setting, entry_of}
use Rattle.registration_protocol.specs.OwnEvents.{may_instr, may_evict, may_arrive}
use Rattle.registration_protocol.proofs.InstrLemmas.{may-evict}
use Rattle.machine_rules.specs.State.{State, entry_in, home_at, initial_state}
use Rattle.machine_rules.specs.Next.{next, enabled, when_there, actor_index_in}
use Rattle.machine_rules.specs.Memory.{store_in}
use Rattle.machine_rules.specs.Runs.{IsRun}
use Rattle.machine_rules.specs.Flight.{bit}
use Rattle.machine_rules.specs.Sound.{IsSound, IsReady, IsMachine, rounds}
use Rattle.machine_rules.proofs.Bits.{valid_bit, settled_bit, known_bit}
use Rattle.machine_rules.proofs.Invariant.{Invariant}
use Rattle.machine_rules.proofs.Outcomes.{stored_to}
use Rattle.machine_rules.proofs.Steps.{Handled, handled}
use Rattle.machine_rules.proofs.Dispatch.{ways}
use Rattle.machine_rules.proofs.Kept.{kept}
use Rattle.machine_rules.proofs.SoundEvents.{sound-next}
use Rattle.machine_rules.proofs.OpenedFacts.{opened-setting}
use Rattle.machine_rules.proofs.AnySize.{well-formed}
use Rattle.machine_rules.proofs.OpenedSound.{opened-sound}
use Rattle.machine_rules.proofs.OpenedInvariant.{opened-invariant}
use Rattle.machine_rules.proofs.RunsKept.{same-setting}
use Rattle.machine_rules.proofs.RunsCoherent.{first_memory}
use Rattle.machine_rules.proofs.BoundRuns.{run-ends}
use Rattle.run_replay.specs.Document.{FitsDocument, IsMail, IsNamed}
use Rattle.run_replay.proofs.ToldCopies.{AreOfProgram, known, copies-outcomes, opened-copies}
use Rattle.run_replay.proofs.ToldMails.{AreSent, sent-next, sender-there, opened-sent}

-- a node is there and passes a test
record IsThere (S : State) (core : ℕ) (test : NodeParts → Bool) : Type 0 where
  node : NodeParts
  found : slice_get S.nodes core ≡ Some node
  passes : test node ≡ true

there : (S : State) (core : ℕ) (test : NodeParts → Bool) → when_there test (slice_get S.nodes core) ≡ true → IsThere S core test
there S core test may = by_node (slice_get S.nodes core) refl may where
  by_node : (o : Option NodeParts) → slice_get S.nodes core ≡ o → when_there test o ≡ true → IsThere S core test
  by_node None is may = absurd (cc)
  by_node (Some n) is may = record { node = n; found = is; passes = may }

-- whose node is there is a core with a number below 16
low-core : (S : State) (core : ℕ) (n : NodeParts) → IsMachine S → S.setting.shape.cores ≤ 16 → slice_get S.nodes core ≡ Some n → core < 16
low-core S core n good few found = omega (arith, slice_get_within S.nodes core n found, good.nodes, few)

-- ---- words that go

-- a word with a home is one of the program, of which there are at most 65,536
known-word : (S : State) (w : ℕ) → IsReady S.setting → 1 ≤ known S.setting w → w < 65536
known-word S w ready some = by_test (nat_lt w (length S.setting.program.memory)) refl some where
  by_test : (x : Bool) → nat_lt w (length S.setting.program.memory) ≡ x → 1 ≤ bit x → w < 65536
  by_test true e some = let within : w < length S.setting.program.memory = grind (arith, nat_tests, e) in omega (arith, within, ready.program.memory)
  by_test false e some = absurd (omega (arith, some))

home-word : (S : State) (w : ℕ) → IsMachine S → known_bit (home_at S w) ≤ known S.setting w
home-word S w good = by_home (home_at S w) (good.words w) where
  by_home : (o : Option BankWord) → is_some o ≡ nat_lt w (length S.setting.program.memory) → known_bit o ≤ known S.setting w
  by_home None is = omega arith
  by_home (Some content) is = omega (arith, ap bit is)

going-word : (S : State) (M : ℕ → ℕ) (core w : ℕ) (n : NodeParts) → IsReady S.setting → Invariant S M → AreOfProgram S → slice_get S.nodes core ≡ Some n → may_go (entry_of n w) ≡ true → w < 65536
going-word S M core w n ready inv copies found goes = known-word S w ready (by_entry (entry_of n w) refl goes) where
  by_entry : (e : Option Entry) → entry_of n w ≡ e → may_go e ≡ true → 1 ≤ known S.setting w
  by_entry None is goes = absurd (cc)
  by_entry (Some (Valid value marked)) is goes = omega (arith, copies core w, ap (λ (o : Option NodeParts). valid_bit (entry_in w o)) found, ap valid_bit is)
  by_entry (Some (Registered value true)) is goes = absurd (cc)
  by_entry (Some (Registered value false)) is goes =
      omega (arith, inv.words.row w core, home-word S w inv.machine, ap (λ (o : Option NodeParts). settled_bit (entry_in w o)) found, ap settled_bit is)
  by_entry (Some (Leaving value)) is goes = absurd (cc)

-- ---- mails

low-actor : (cores banks : ℕ) (a : Actor) → cores ≤ 16 → banks ≤ 16 → has_actor cores banks a ≡ true → IsNamed a
low-actor cores banks (Core core) few also is = grind (arith, nat_tests, few, is)
low-actor cores banks (Bank bank) few also is = grind (arith, nat_tests, also, is)
low-actor cores banks Keeper few also is = tt

low-number : (S : State) (made place : ℕ) → IsReady S.setting → IsSound S made → S.setting.shape.cores ≤ 16 → made ≤ 25169664 → slice_index S.numbers place ≤ 25170704
low-number S made place ready sound few short =
    omega (arith, short, sound.sent place, mul-le-mul few turns)
  where
    one : (b : Bool) → bit b ≤ 1
    one true = omega arith
    one false = omega arith

    turns : rounds S ≤ 65
    turns = omega (arith, sound.within, ready.program.phases, one (all_arrived S.keeper))

told-mail : (S : State) (made : ℕ) (id : MailId) → IsReady S.setting → IsSound S made → AreSent S → S.setting.shape.cores ≤ 16 → made ≤ 25169664 → enabled S (Handle id) ≡ true → IsMail id
told-mail S made id ready sound sent few short may = by_mail (handled S id may) where
  by_mail : (m : Mail) × Handled S id m → IsMail id
  by_mail (m, h) =
      subst IsMail h.named (
        low-actor S.setting.shape.cores S.setting.shape.banks m.id.sender few ready.context.most_banks (sender-there S h.place m sent h.there),
        omega (arith, sound.machine.numbered h.place m h.there, low-number S made (actor_index_in S m.id.sender) ready sound few short),
      )

-- ---- every event

told-event : (S : State) (M : ℕ → ℕ) (made : ℕ) (e : Event) → IsReady S.setting → IsSound S made → Invariant S M → AreOfProgram S → AreSent S → S.setting.shape.cores ≤ 16 → made ≤ 25169664 → enabled S e ≡ true → FitsDocument e
unfolding enabled
told-event S M made (Instr core) ready sound inv copies sent few short may =
    let at = there S core.0 (may_instr S.setting) may in
    low-core S core.0 at.node inv.machine few at.found
told-event S M made (Evict core word) ready sound inv copies sent few short may =
    let at = there S core.0 (λ n. may_evict S.setting n word.0) may in
    (low-core S core.0 at.node inv.machine few at.found, going-word S M core.0 word.0 at.node ready inv copies at.found (may-evict S.setting at.node word.0 at.passes).evictable)
told-event S M made (Arrive core) ready sound inv copies sent few short may =
    let at = there S core.0 may_arrive may in
    low-core S core.0 at.node inv.machine few at.found
told-event S M made (Handle id) ready sound inv copies sent few short may = told-mail S made id ready sound sent few short may

told-events : (S : State) (M : ℕ → ℕ) (made : ℕ) (events : List Event) → IsReady S.setting → IsSound S made → Invariant S M → AreOfProgram S → AreSent S → S.setting.shape.cores ≤ 16 → made + length events ≤ 25169664
    → IsRun S events → All FitsDocument events
told-events S M made [] ready sound inv copies sent few short run = All-nil FitsDocument
told-events S M made (e ∷ es) ready sound inv copies sent few short run =
    let later = sound-next S made e sound run.0 in
    let first = told-event S M made e ready sound inv copies sent few (omega (arith, short)) run.0 in
    let rest = told-events (next S e) (stored_to (store_in S e) M) (made + 1) es (subst IsReady (sym (same-setting S e)) ready) later
    (kept S M e inv run.0 later.machine)
    (ways S M e (λ M'. AreOfProgram (next S e)) inv run.0 (copies-outcomes S M e inv copies))
    (sent-next S e inv.machine run.0 sent)
    (omega (arith, few, ap (λ (C : Setting). C.shape.cores) (same-setting S e))) (omega (arith, short)) run.1 in
    All-cons FitsDocument e es first rest

pub run-told : (C : Setting) (events : List Event) → IsReady C → C.shape.cores ≤ 16 → IsRun (initial_state C) events → All FitsDocument events
run-told C events ready few run =
    told-events (initial_state C) (first_memory C) 0 events (subst IsReady (sym (opened-setting C)) ready) (opened-sound C (well-formed C ready)) (opened-invariant C (well-formed C ready))
    (opened-copies C) (opened-sent C) (omega (arith, few, ap (λ (x : Setting). x.shape.cores) (opened-setting C))) (omega (arith, run-ends C events ready run)) run
