-- What is known of copies as a phase ends, and as a core begins the next one.
use Rattle.std.proofs.Common.{◌≡◌, ◌⊎◌, inl, inr, ℕ, ◌+◌, ◌≤◌, ◌&&◌, ◌||◌, not, Bool, true, false, cond, List, [], slice_get, slice_index_or, Option, Some, None, refl, sym, ap, subst, ◌∙◌, arith}
use Rattle.std.specs.List.{IsAmong}
use Rattle.std.specs.Option.{option_map}
use Rattle.std.proofs.lemmas.Bool.{or_left, or_right}
use Rattle.dn_base.specs.declared.ids.CoreId.{CoreId}
use Rattle.dn_base.specs.declared.ids.PhaseId.{PhaseId}
use Rattle.region_table.specs.declared.interval.Interval.{Interval}
use Rattle.region_table.specs.declared.declared.TaskDecl.{TaskDecl}
use Rattle.region_table.specs.declared.declared.Phase.{Phase}
use Rattle.region_table.specs.Words.{has}
use Rattle.region_table.specs.Plan.{task_writes, uses_plainly}
use Rattle.region_table.specs.Tasks.{declared, IsDeclaration}
use Rattle.region_table.proofs.TaskLemmas.{declared-tells}
use Rattle.region_table.proofs.WrittenLemmas.{plan-at, guarded-writes}
use Rattle.machine_rules.proofs.Planned.{planned-word}
use Rattle.effect_checker.proofs.SeparationLemmas.{phase-checked, plain_words_apart, guarded_words_apart}
use Rattle.rv_core.specs.Access.{is_held}
use Rattle.rv_core.specs.Task.{started}
use Rattle.rv_core.proofs.HeldLemmas.{holds-none}
use Rattle.message_net.specs.declared.message.Message.{Message}
use Rattle.message_net.specs.declared.message.Message.TheVariants.{Arrived, Go}
use Rattle.message_net.specs.declared.message.Outgoing.{Outgoing}
use Rattle.word_cache.specs.declared.row.Entry.{Entry}
use Rattle.word_cache.specs.declared.row.Entry.TheVariants.{Valid, Registered, Leaving}
use Rattle.word_cache.specs.Cache.{entry_after_phase}
use Rattle.phase_barrier.specs.Barrier.{Barrier, with_arrival, in_next_phase, all_arrived}
use Rattle.registration_protocol.specs.Node.{NodeParts, entry_of}
use Rattle.registration_protocol.specs.Messages.{begins, written_in}
use Rattle.registration_protocol.specs.Parts.{held_locks}
use Rattle.registration_protocol.proofs.MessageLemmas.{begin-entries}
use Rattle.machine_rules.specs.State.{State, entry_in, entry_at}
use Rattle.machine_rules.specs.Flight.{bit, flight, is_arrival_of, is_go_to}
use Rattle.machine_rules.specs.Coherent.{IsBehind, HasWriter, holds_lock, has_lock, is_alive}
use Rattle.machine_rules.proofs.Invariant.{Invariant, CopiesGood, MayHaveWritten, MayBeOld, carried_by}
use Rattle.machine_rules.proofs.Steps.{NodeStep}
use Rattle.machine_rules.proofs.Outcomes.{BarrierStep, at_core, at_keeper}
use Rattle.machine_rules.proofs.WordCore.{same-number}
use Rattle.machine_rules.proofs.PhaseWhole.{none-posted, arriving, in-flight, IsWhole, is-whole, there-within}
use Rattle.machine_rules.proofs.CopyFrames.{uses-kept, writer-kept, guarded-kept}
use Rattle.machine_rules.proofs.CopyNodes.{KeepsSigned, node-now, copies-node, fresh-other, own-entry, signed-by}
use Rattle.machine_rules.proofs.CopyGrants.{none-carried}

-- ---- what the tasks of one phase may do to each other's words

one-phase : (S : State) (p a b : ℕ) (x y : TaskDecl) → (one : IsDeclaration S.setting.program p a x) → (two : IsDeclaration S.setting.program p b y) → IsAmong one.phase.tasks y
one-phase S p a b x y one two = subst (λ (q : Phase). IsAmong q.tasks y) (some-same two.phase one.phase (sym two.there ∙ one.there)) two.among where
  some-same : (p q : Phase) → Some p ≡ Some q → p ≡ q
  some-same p q e = cc

-- a word that one core's task writes plainly, or under a lock, is used plainly by no other core's task
plain-apart : (S : State) (M : ℕ → ℕ) (c w : ℕ) (u : TaskDecl) → Invariant S M → HasWriter S c w → declared S.setting.program S.keeper.phase c ≡ Some u → uses_plainly u w ≡ true → ⊥
plain-apart S M c w u inv writer declares uses =
    let one = declared-tells S.setting.program S.keeper.phase writer.core writer.decl writer.declares in
    let two = declared-tells S.setting.program S.keeper.phase c u declares in
    plain_words_apart one.phase writer.decl u w (phase-checked S.setting.program one.phase inv.machine.checked one.known) one.among (one-phase S S.keeper.phase writer.core c writer.decl u one two)
    (λ same. writer.other (sym one.own ∙ same ∙ two.own)) writer.writes uses

guarded-apart : (S : State) (M : ℕ → ℕ) (c w : ℕ) (u : TaskDecl) → Invariant S M → MayHaveWritten S c w → declared S.setting.program S.keeper.phase c ≡ Some u → uses_plainly u w ≡ true → ⊥
guarded-apart S M c w u inv may declares uses =
    let one = declared-tells S.setting.program S.keeper.phase may.core may.decl may.declares in
    let two = declared-tells S.setting.program S.keeper.phase c u declares in
    guarded_words_apart one.phase may.decl u may.lock w (phase-checked S.setting.program one.phase inv.machine.checked one.known) one.among (one-phase S S.keeper.phase may.core c may.decl u one two)
    (or_right (has (slice_index_or may.decl.effects.guarded_reads may.lock []) w) (has (slice_index_or may.decl.effects.guarded_writes may.lock []) w) may.writes) uses

-- a word that some task of the keeper's phase writes is in the phase's plan
in-plan : (S : State) (M : ℕ → ℕ) (core w : ℕ) (x : TaskDecl) → Invariant S M → declared S.setting.program S.keeper.phase core ≡ Some x → task_writes x w ≡ true
    → has (written_in (slice_get S.setting.plans S.keeper.phase)) w ≡ true
in-plan S M core w x inv declares writes =
    let told = declared-tells S.setting.program S.keeper.phase core x declares in
    let found = plan-at S.setting.program S.setting.plans S.keeper.phase told.phase inv.machine.context.plans told.there in
    rw (found.there) (planned-word S.setting.program told.phase found.plan x w inv.machine.program told.known told.among found.is writes)

-- ---- the last arrival: whatever may be old is behind then

pub copies-together : (S T : State) (M : ℕ → ℕ) (core : CoreId) (bad : Bool) → Invariant S M → slice_get S.keeper.arrived core.0 ≡ Some false → all_arrived (with_arrival core.0 bad S.keeper) ≡ true
    → BarrierStep S T (in_next_phase (with_arrival core.0 bad S.keeper)) (at_keeper (Arrived core bad)) (Some (Go (record { 0 = S.keeper.phase + 1 }))) → CopiesGood T M
copies-together S T M core bad inv new whole step =
    record {
      marked = λ c w value is. uses-kept S T c w step.setting (kept c) (inv.copies.marked c w value (sym (entries c w) ∙ is));
      fresh = λ c w value marked is. by_node c w value marked (sym (entries c w) ∙ is) (slice_get S.nodes c) refl;
    }
  where
    go : Message
    go = Go (record { 0 = S.keeper.phase + 1 })

    k : Barrier
    k = in_next_phase (with_arrival core.0 bad S.keeper)

    all : IsWhole S core.0
    all = is-whole S core.0 bad inv.machine inv.phases (arriving S core.0 bad inv.machine new)
        (in-flight S T k core bad (Some go) step (none-posted (is_arrival_of core.0) go (λ d. refl) S.setting.shape.cores)) whole

    phase_is : T.keeper.phase ≡ S.keeper.phase + 1
    phase_is = ap (λ (x : Barrier). x.phase) step.keeper

    entries : (c w : ℕ) → entry_at T c w ≡ entry_at S c w
    entries c w = ap (λ (ns : List NodeParts). entry_in w (slice_get ns c)) step.nodes

    nodes_at : (c : ℕ) → slice_get T.nodes c ≡ slice_get S.nodes c
    nodes_at c = ap (λ (ns : List NodeParts). slice_get ns c) step.nodes

    kept : (c : ℕ) (n : NodeParts) → slice_get S.nodes c ≡ Some n → (m : NodeParts) × (slice_get T.nodes c ≡ Some m) × (m.phase ≡ n.phase)
    kept c n found = (n, nodes_at c ∙ found, refl)

    -- each core is in the keeper's phase
    together : (c : ℕ) (n : NodeParts) → slice_get S.nodes c ≡ Some n → n.phase ≡ S.keeper.phase
    together c n found = omega (arith, inv.phases.phase c n found (by_halted n.halted refl), all.going c) where
      by_halted : (x : Bool) → n.halted ≡ x → n.halted ≡ false
      by_halted false is = is
      by_halted true is =
          let dead : bit (is_alive (slice_get S.nodes c)) ≡ 0 = rw (found, is) (by_arrived n.arrived) in
          absurd (omega (arith, dead, all.alive c, there-within S c n inv.machine found))
        where
          by_arrived : (x : Bool) → bit (x && false) ≡ 0
          by_arrived true = refl
          by_arrived false = refl

    -- the plain uses of a core's task
    unmarked : (c w value : ℕ) (marked : Bool) → entry_at S c w ≡ Some (Valid value marked)
        → ((u : TaskDecl) → declared S.setting.program S.keeper.phase c ≡ Some u → uses_plainly u w ≡ true → ⊥) → marked ≡ false
    unmarked c w value false is never = refl
    unmarked c w value true is never =
        let uses = inv.copies.marked c w value is in
        let declares : declared S.setting.program S.keeper.phase c ≡ Some uses.decl = subst (λ (x : ℕ). declared S.setting.program x c ≡ Some uses.decl) (together c uses.node uses.found) uses.declares in
        absurd (never uses.decl declares uses.plain)

    behind : (c w value : ℕ) (marked : Bool) (n : NodeParts) → slice_get S.nodes c ≡ Some n → has (written_in (slice_get S.setting.plans S.keeper.phase)) w ≡ true → marked ≡ false → IsBehind T c w marked
    behind c w value marked n found written none =
        record {
          node = n;
          found = nodes_at c ∙ found;
          phase = omega (arith, together c n found, phase_is);
          written = rw (step.setting, together c n found) written;
          unmarked = none;
        }

    by_reason : (c w value : ℕ) (marked : Bool) (n : NodeParts) → entry_at S c w ≡ Some (Valid value marked) → slice_get S.nodes c ≡ Some n → (value ≡ M w) ⊎ MayBeOld S c w marked
        → (value ≡ M w) ⊎ MayBeOld T c w marked
    by_reason c w value marked n is found (inl same) = inl same
    by_reason c w value marked n is found (inr (inl before)) = absurd (omega (arith, before.phase, together c before.node before.found))
    by_reason c w value marked n is found (inr (inr (inl writer))) =
        let writes : task_writes writer.decl w ≡ true = or_left (has writer.decl.effects.writes w) _ writer.writes in
        inr (inl (behind c w value marked n found (in-plan S M writer.core w writer.decl inv writer.declares writes)
        (unmarked c w value marked is (λ u declares uses. plain-apart S M c w u inv writer declares uses))))
    by_reason c w value marked n is found (inr (inr (inr may))) =
        inr (inl (behind c w value marked n found (in-plan S M may.core w may.decl inv may.declares (guarded-writes may.decl may.lock w may.writes))
        (unmarked c w value marked is (λ u declares uses. guarded-apart S M c w u inv may declares uses))))

    by_node : (c w value : ℕ) (marked : Bool) → entry_at S c w ≡ Some (Valid value marked) → (o : Option NodeParts) → slice_get S.nodes c ≡ o → (value ≡ M w) ⊎ MayBeOld T c w marked
    by_node c w value marked is None found = let none : entry_at S c w ≡ None = ap (entry_in w) found in absurd (cc)
    by_node c w value marked is (Some n) found = by_reason c w value marked n is found (inv.copies.fresh c w value marked is)

-- ---- Go: what is kept was marked, or isn't written, and is unmarked then

record WasCopy (words : List Interval) (w value : ℕ) (marked : Bool) (e : Option Entry) : Type 0 where
  old : Bool
  was : e ≡ Some (Valid value old)
  stays : (old || not (has words w)) ≡ true
  unmarked : marked ≡ false

after-phase : (words : List Interval) (w : ℕ) (e : Option Entry) (value : ℕ) (marked : Bool) → entry_after_phase words w e ≡ Some (Valid value marked) → WasCopy words w value marked e
after-phase words w None value marked is = absurd (cc)
after-phase words w (Some (Valid x old)) value marked is = by_test old (has words w) refl refl is where
  by_test : (o h : Bool) → old ≡ o → has words w ≡ h → cond (o || not h) (Some (Valid x false)) None ≡ Some (Valid value marked) → WasCopy words w value marked (Some (Valid x old))
  by_test true h is_old is_in is = record { old = true; was = rw (is_old) (by_value is); stays = refl; unmarked = by_mark is } where
    by_value : Some (Valid x false) ≡ Some (Valid value marked) → Some (Valid x true) ≡ Some (Valid value true)
    by_value e = let same : x ≡ value = cc in ap (λ (v : ℕ). Some (Valid v true)) same

    by_mark : Some (Valid x false) ≡ Some (Valid value marked) → marked ≡ false
    by_mark e = cc
  by_test false true is_old is_in is = absurd (cc)
  by_test false false is_old is_in is = record { old = false; was = rw (is_old) (by_value is); stays = rw (is_in) refl; unmarked = by_mark is } where
    by_value : Some (Valid x false) ≡ Some (Valid value marked) → Some (Valid x false) ≡ Some (Valid value false)
    by_value e = let same : x ≡ value = cc in ap (λ (v : ℕ). Some (Valid v false)) same

    by_mark : Some (Valid x false) ≡ Some (Valid value marked) → marked ≡ false
    by_mark e = cc
after-phase words w (Some (Registered x y)) value marked is = absurd (cc)
after-phase words w (Some (Leaving x)) value marked is = absurd (cc)

starts-free : (o : Option TaskDecl) → held_locks (option_map started o) ≡ 0
starts-free None = refl
starts-free (Some d) = refl

pub copies-begun : (S T : State) (M : ℕ → ℕ) (core : CoreId) (n : NodeParts) (phase : PhaseId) → Invariant S M → NodeStep S T core.0 n (begins S.setting n phase.0) (at_core core (Go phase)) None → CopiesGood T M
copies-begun S T M core n phase inv step =
    copies-node S T M M core.0 n m left None inv.copies step
    (λ w value is. (let a = after w value true is in let wrong = a.unmarked in absurd (cc)))
    (λ w value marked is. own_fresh w value marked (after w value marked is))
    (fresh-other S T M core.0 n m left None inv.copies step signed)
  where
    m : NodeParts
    m = begins S.setting n phase.0

    left : Option Outgoing
    left = at_core core (Go phase)

    words : List Interval
    words = written_in (slice_get S.setting.plans n.phase)

    after : (w value : ℕ) (marked : Bool) → entry_of m w ≡ Some (Valid value marked) → WasCopy words w value marked (entry_of n w)
    after w value marked is = after-phase words w (entry_of n w) value marked (sym (begin-entries S.setting n phase.0 w ((inv.machine.node core.0 n step.found).fits).cache) ∙ is)

    going : 1 ≤ flight S (is_go_to core.0)
    going = let came = rw (same-number core.0) at (step.flown (is_go_to core.0)) in omega (arith, came)

    free : held_locks n.task ≡ 0
    free = inv.phases.unlocked core.0 n step.found going

    carries : (l w : ℕ) → carried_by l w S.keeper.phase n ≤ carried_by l w S.keeper.phase m + 0
    carries l w =
        let none : is_held (held_locks n.task) l ≡ false = ap (λ (x : ℕ). is_held x l) free ∙ holds-none l in
        omega (arith, none-carried l w S.keeper.phase n (ap bit none))

    signed : KeepsSigned S T
    signed = signed-by S T core.0 n m left None step carries (λ l w. refl)

    unheld : (l : ℕ) → has_lock T core.0 l ≡ false
    unheld l =
        ap (λ (o : Option NodeParts). holds_lock l o) (node-now S T core.0 n m left None step)
        ∙ ap (λ (x : ℕ). is_held x l) (starts-free (declared S.setting.program phase.0 n.core)) ∙ holds-none l

    one : (a b : NodeParts) → Some a ≡ Some b → a ≡ b
    one a b e = cc

    by_reason : (w value : ℕ) (marked : Bool) (a : WasCopy words w value marked (entry_of n w)) → (value ≡ M w) ⊎ MayBeOld S core.0 w a.old → (value ≡ M w) ⊎ MayBeOld T core.0 w marked
    by_reason w value marked a (inl same) = inl same
    by_reason w value marked a (inr (inl behind)) =
        let same : behind.node ≡ n = one behind.node n (sym behind.found ∙ step.found) in
        let written : has words w ≡ true = subst (λ (x : NodeParts). has (written_in (slice_get S.setting.plans x.phase)) w ≡ true) same behind.written in
        let goes_away : (a.old || not (has words w)) ≡ false = rw (behind.unmarked, written) refl in
        let stays = a.stays in
        absurd (cc)
    by_reason w value marked a (inr (inr (inl writer))) = inr (inr (inl (writer-kept S T core.0 w step.setting (rw (step.keeper) refl) writer)))
    by_reason w value marked a (inr (inr (inr may))) =
        inr (inr (inr (guarded-kept S T core.0 w step.setting (rw (step.keeper) refl) may (unheld may.lock) (signed may.lock w may.signed))))

    own_fresh : (w value : ℕ) (marked : Bool) → WasCopy words w value marked (entry_of n w) → (value ≡ M w) ⊎ MayBeOld T core.0 w marked
    own_fresh w value marked a = by_reason w value marked a (inv.copies.fresh core.0 w value a.old (own-entry S core.0 n w step.found ∙ a.was))
