-- How each task stood when its node last had it, by what is noted of each event.
use Rattle.std.proofs.Common.{◌≡◌, ℕ, suc, ◌+◌, ◌≤◌, ◌*◌, ◌<◌, ◌==◌, Bool, true, false, cond, List, [], ◌∷◌, ◌++◌, length, slice_get, set, Option, Some, None, refl, sym, ap, ◌∙◌, arith}
use Rattle.std.specs.Option.{option_or}
use Rattle.std.specs.List.{filter_map, cons_option}
use Rattle.std.proofs.lemmas.Bool.Decides.{nat_tests}
use Rattle.std.proofs.lemmas.Option.{none-some, same_Some, slice_get_within}
use Rattle.dn_base.specs.declared.ids.CoreId.{CoreId}
use Rattle.region_table.specs.declared.declared.TaskDecl.{TaskDecl}
use Rattle.region_table.specs.declared.declared.Phase.{Phase}
use Rattle.rv_core.specs.declared.ending.TaskEnd.{TaskEnd}
use Rattle.message_net.specs.declared.actor.Actor.{Actor}
use Rattle.message_net.specs.declared.actor.Actor.TheVariants.{Core, Bank, Keeper}
use Rattle.message_net.specs.declared.event.Event.{Event}
use Rattle.message_net.specs.declared.event.Event.TheVariants.{Instr, Evict, Arrive, Handle}
use Rattle.message_net.specs.declared.message.Mail.{Mail}
use Rattle.message_net.specs.declared.message.Message.{Message}
use Rattle.message_net.specs.Pool.{removed}
use Rattle.registry_bank.specs.Bank.{BankParts}
use Rattle.registration_protocol.specs.Node.{NodeParts}
use Rattle.registration_protocol.specs.OwnEvents.{end_of, end_by, shown_by}
use Rattle.rv_core.specs.declared.task.TaskState.{TaskState}
use Rattle.rv_core.specs.declared.ending.EndShown.{EndShown}
use Rattle.machine_rules.specs.State.{State}
use Rattle.machine_rules.specs.Next.{next, does_instr, does_evict, does_arrive, core_gets, bank_handles, gets, handles}
use Rattle.machine_rules.specs.Runs.{after, end_in_phase, last_end, ends_from}
use Rattle.dn_machine.specs.Actors.{receiver_of, actor_in}
use Rattle.dn_machine.specs.Ends.{EndTable, end_index, with_end, AreLastEnds, end_at, end_in, noted_ends}
use Rattle.dn_machine.specs.Log.{core_of, core_in, end_there}
use Rattle.dn_machine.proofs.ListItems.{get-set, get-put}

-- ---- how a task stood last, with one event more

later-twice : {X : Type 0} (a b c : Option X) → option_or (option_or a b) c ≡ option_or a (option_or b c)
later-twice None b c = refl
later-twice (Some x) b c = refl

later-same : {X : Type 0} (a : Option X) → a ≡ option_or a a
later-same None = refl
later-same (Some x) = refl

pub last-more : (phase core : ℕ) (S : State) (events : List Event) (e : Event)
    → last_end phase core S (events ++ e ∷ []) ≡ option_or (end_in_phase phase (slice_get (next (after S events) e).nodes core)) (last_end phase core S events)
last-more phase core S [] e = refl
last-more phase core S (x ∷ xs) e =
    ap (λ (o : Option TaskEnd). option_or o (end_in_phase phase (slice_get S.nodes core))) (last-more phase core (next S x) xs e)
    ∙ later-twice (end_in_phase phase (slice_get (next (after (next S x) xs) e).nodes core)) (last_end phase core (next S x) xs) (end_in_phase phase (slice_get S.nodes core))

-- what the last state shows of a task is in it
last-shown : (phase core : ℕ) (S : State) (events : List Event)
    → last_end phase core S events ≡ option_or (end_in_phase phase (slice_get (after S events).nodes core)) (last_end phase core S events)
last-shown phase core S [] = later-same (end_in_phase phase (slice_get S.nodes core))
last-shown phase core S (x ∷ xs) =
    ap (λ (o : Option TaskEnd). option_or o (end_in_phase phase (slice_get S.nodes core))) (last-shown phase core (next S x) xs)
    ∙ later-twice (end_in_phase phase (slice_get (after (next S x) xs).nodes core)) (last_end phase core (next S x) xs) (end_in_phase phase (slice_get S.nodes core))

-- ---- an event changes one core's node at the most

other-put : {X : Type 0} (xs : List X) (i j : ℕ) (y : X) → (i == j) ≡ false → slice_get (set xs i y) j ≡ slice_get xs j
other-put xs i j y apart = grind (arith, nat_tests, get-set xs i j y, apart)

apart : (a : CoreId) (core : ℕ) → (Some a ≡ Some (record { 0 = core }) → ⊥) → (a.0 == core) ≡ false
apart a core other = by_test (a.0 == core) refl where
  by_test : (t : Bool) → (a.0 == core) ≡ t → (a.0 == core) ≡ false
  by_test false e = e
  by_test true e =
      let same : a.0 ≡ core = grind (arith, nat_tests) in
      absurd (other (ap (λ (n : ℕ). let c : CoreId = record { 0 = n } in Some c) same))

-- an event changes no other core than this one
abbrev pub NotOf : Option CoreId → ℕ → Type 0
NotOf o core = o ≡ Some (record { 0 = core }) → ⊥

instr-frame : (S : State) (c : CoreId) (core : ℕ) (o : Option NodeParts) → NotOf (Some c) core → slice_get (does_instr S c o).nodes core ≡ slice_get S.nodes core
instr-frame S c core None other = refl
instr-frame S c core (Some n) other = other-put S.nodes c.0 core _ (apart c core other)

evict-frame : (S : State) (c : CoreId) (word : _) (core : ℕ) (o : Option NodeParts) → NotOf (Some c) core → slice_get (does_evict S c word o).nodes core ≡ slice_get S.nodes core
evict-frame S c word core None other = refl
evict-frame S c word core (Some n) other = other-put S.nodes c.0 core _ (apart c core other)

arrive-frame : (S : State) (c : CoreId) (core : ℕ) (o : Option NodeParts) → NotOf (Some c) core → slice_get (does_arrive S c o).nodes core ≡ slice_get S.nodes core
arrive-frame S c core None other = refl
arrive-frame S c core (Some n) other = other-put S.nodes c.0 core _ (apart c core other)

core-frame : (S : State) (c : CoreId) (message : Message) (core : ℕ) (o : Option NodeParts) → NotOf (Some c) core → slice_get (core_gets S c message o).nodes core ≡ slice_get S.nodes core
core-frame S c message core None other = refl
core-frame S c message core (Some n) other = other-put S.nodes c.0 core _ (apart c core other)

bank-frame : (S : State) (from : Actor) (bank : ℕ) (message : Message) (core : ℕ) (o : Option BankParts) → slice_get (bank_handles S from bank message o).nodes core ≡ slice_get S.nodes core
bank-frame S from bank message core None = refl
bank-frame S from bank message core (Some b) = refl

gets-frame : (S : State) (to : Actor) (message : Message) (core : ℕ) → NotOf (core_of (Some to)) core → slice_get (gets S to message).nodes core ≡ slice_get S.nodes core
gets-frame S (Core c) message core other = core-frame S c message core (slice_get S.nodes c.0) other
gets-frame S (Bank b) message core other = bank-frame S (Bank b) b.0 message core (slice_get S.banks b.0)
gets-frame S Keeper message core other = refl

handles-frame : (S : State) (took : Option Mail × List Mail) (core : ℕ) → NotOf (core_of (receiver_of took.0)) core → slice_get (handles S took).nodes core ≡ slice_get S.nodes core
handles-frame S (None, rest) core other = refl
handles-frame S (Some m, rest) core other = gets-frame (record S { mails = rest }) m.to m.message core other

pub next-frame : (S : State) (e : Event) (core : ℕ) → NotOf (core_in S e) core → slice_get (next S e).nodes core ≡ slice_get S.nodes core
unfolding next actor_in
next-frame S (Instr c) core other = instr-frame S c core (slice_get S.nodes c.0) other
next-frame S (Evict c word) core other = evict-frame S c word core (slice_get S.nodes c.0) other
next-frame S (Arrive c) core other = arrive-frame S c core (slice_get S.nodes c.0) other
next-frame S (Handle id) core other = handles-frame S (removed id S.mails) core other

-- ---- the table

-- an end is of its node's phase and core
record IsEndOf (n : NodeParts) (x : TaskEnd) : Type 0 where
  phase : x.phase.0 ≡ n.phase
  core : x.core.0 ≡ n.core

end-of : (n : NodeParts) (x : TaskEnd) → end_of n n.task ≡ Some x → IsEndOf n x
end-of n x is = by_task n.task is where
  by_shown : (t : TaskState) (o : Option EndShown) → end_by n t o ≡ Some x → IsEndOf n x
  by_shown t None e = absurd (none-some x e)
  by_shown t (Some s) e = let same = same_Some _ x e in rw (← same) record { phase = refl; core = refl }

  by_task : (o : Option TaskState) → end_of n o ≡ Some x → IsEndOf n x
  by_task None e = absurd (none-some x e)
  by_task (Some t) e = by_shown t (shown_by t.end n.waiting) e

-- no end is shown where the task shows none
none-in : (phase : ℕ) (n : NodeParts) → end_of n n.task ≡ None → end_in_phase phase (Some n) ≡ None
none-in phase n none = by_test (n.phase == phase) where
  by_test : (t : Bool) → cond t (end_of n n.task) None ≡ None
  by_test true = none
  by_test false = refl

-- the end of another core or phase is elsewhere
pub elsewhere : (table : EndTable) (x : TaskEnd) (phase core : ℕ) → x.core.0 < 16 → core < 16 → ((x.phase.0 ≡ phase) → (x.core.0 ≡ core) → ⊥) → slice_get (with_end (Some x) table) (end_index phase core) ≡ slice_get table (end_index phase core)
elsewhere table x phase core low small other =
    other-put table (end_index x.phase.0 x.core.0) (end_index phase core) (Some x) (by_test (end_index x.phase.0 x.core.0 == end_index phase core) refl)
  where
    by_test : (t : Bool) → (end_index x.phase.0 x.core.0 == end_index phase core) ≡ t → (end_index x.phase.0 x.core.0 == end_index phase core) ≡ false
    by_test false e = e
    by_test true e =
        let same : 16 * x.phase.0 + x.core.0 ≡ 16 * phase + core = grind (arith, nat_tests) in
        absurd (other (omega (arith, same, low, small)) (omega (arith, same, low, small)))

-- the place of the end itself
there : (table : EndTable) (x : TaskEnd) (phase core : ℕ) (old : Option TaskEnd) → x.phase.0 ≡ phase → x.core.0 ≡ core → slice_get table (end_index phase core) ≡ Some old
    → slice_get (with_end (Some x) table) (end_index phase core) ≡ Some (Some x)
there table x phase core old in_phase of_core is =
    let inside = slice_get_within table (end_index phase core) old is in
    let same : end_index x.phase.0 x.core.0 ≡ end_index phase core = omega (arith, in_phase, of_core) in
    rw same (get-put table (end_index phase core) (Some x) inside)

-- ---- one event more

-- the end that is shown of a core by a node in its place
node-noted : (S : State) (events : List Event) (table : EndTable) (phase core : ℕ) (n : NodeParts) → n.core ≡ core → core < 16
    → slice_get table (end_index phase core) ≡ Some (last_end phase core S events)
    → slice_get (with_end (end_of n n.task) table) (end_index phase core) ≡ Some (option_or (end_in_phase phase (Some n)) (last_end phase core S events))
node-noted S events table phase core n place small is = by_end (end_of n n.task) refl where
  by_test : (x : TaskEnd) (t : Bool) → end_of n n.task ≡ Some x → IsEndOf n x → (n.phase == phase) ≡ t
      → slice_get (with_end (Some x) table) (end_index phase core) ≡ Some (option_or (cond t (end_of n n.task) None) (last_end phase core S events))
  by_test x true e of test =
      let here : x.phase.0 ≡ phase = grind (arith, nat_tests, of.phase, test) in
      rw e (there table x phase core (last_end phase core S events) here (of.core ∙ place) is)
  by_test x false e of test =
      elsewhere table x phase core (omega (arith, of.core, place, small)) small (λ same _. absurd (let hit : (n.phase == phase) ≡ true = grind (arith, nat_tests, of.phase, same) in cc)) ∙ is

  by_end : (o : Option TaskEnd) → end_of n n.task ≡ o
      → slice_get (with_end o table) (end_index phase core) ≡ Some (option_or (end_in_phase phase (Some n)) (last_end phase core S events))
  by_end None e = rw (none-in phase n e) is
  by_end (Some x) e = by_test x (n.phase == phase) e (end-of n x e) refl

-- each node is in its place, and there are at most sixteen
pub record AreInPlace (S : State) : Type 0 where
  pub place : (core : ℕ) (n : NodeParts) → slice_get S.nodes core ≡ Some n → n.core ≡ core
  pub few : (core : ℕ) (n : NodeParts) → slice_get S.nodes core ≡ Some n → core < 16

-- of a core that the event doesn't change nothing new is noted
other-noted : (S : State) (events : List Event) (table : EndTable) (e : Event) (phase core : ℕ) → slice_get (next (after S events) e).nodes core ≡ slice_get (after S events).nodes core
    → slice_get table (end_index phase core) ≡ Some (last_end phase core S events)
    → slice_get table (end_index phase core) ≡ Some (option_or (end_in_phase phase (slice_get (next (after S events) e).nodes core)) (last_end phase core S events))
other-noted S events table e phase core frame is = rw frame (is ∙ ap (λ (o : Option TaskEnd). Some o) (last-shown phase core S events))

core-noted : (S : State) (events : List Event) (table : EndTable) (e : Event) (c : CoreId) (phase core : ℕ) → AreInPlace (next (after S events) e) → core_in (after S events) e ≡ Some c → core < 16
    → slice_get table (end_index phase core) ≡ Some (last_end phase core S events)
    → slice_get (with_end (end_at (slice_get (next (after S events) e).nodes c.0)) table) (end_index phase core)
    ≡ Some (option_or (end_in_phase phase (slice_get (next (after S events) e).nodes core)) (last_end phase core S events))
core-noted S events table e c phase core well own small is = by_core (c.0 == core) refl where
  T : State
  T = next (after S events) e

  same_node : c.0 ≡ core → (o : Option NodeParts) → slice_get T.nodes core ≡ o
      → slice_get (with_end (end_at o) table) (end_index phase core) ≡ Some (option_or (end_in_phase phase o) (last_end phase core S events))
  same_node here None e = is
  same_node here (Some n) e = node-noted S events table phase core n (well.place core n e) small is

  other_end : NotOf (Some c) core → (o : Option NodeParts) → slice_get T.nodes c.0 ≡ o → slice_get (with_end (end_at o) table) (end_index phase core) ≡ slice_get table (end_index phase core)
  other_end other None e = refl
  other_end other (Some n) e = by_end (end_of n n.task) refl where
    by_end : (x : Option TaskEnd) → end_of n n.task ≡ x → slice_get (with_end x table) (end_index phase core) ≡ slice_get table (end_index phase core)
    by_end None shown = refl
    by_end (Some x) shown =
        let of = end-of n x shown in
        let place = well.place c.0 n e in
        let low = well.few c.0 n e in
        elsewhere table x phase core (omega (arith, of.core, place, low)) small
        (λ _ same. other (ap (λ (k : ℕ). let y : CoreId = record { 0 = k } in Some y) (sym place ∙ sym of.core ∙ same)))

  by_core : (t : Bool) → (c.0 == core) ≡ t
      → slice_get (with_end (end_at (slice_get T.nodes c.0)) table) (end_index phase core) ≡ Some (option_or (end_in_phase phase (slice_get T.nodes core)) (last_end phase core S events))
  by_core true test =
      let same : c.0 ≡ core = grind (arith, nat_tests, test) in
      rw same (same_node same (slice_get T.nodes core) refl)
  by_core false test =
      let other : NotOf (Some c) core = λ eq. absurd (let hit : (c.0 == core) ≡ true = grind (arith, nat_tests, ap (λ (x : CoreId). x.0) (same_Some c (record { 0 = core }) eq)) in cc) in
      other_end other (slice_get T.nodes c.0) refl
      ∙ other-noted S events table e phase core (next-frame (after S events) e core (λ eq. other (sym own ∙ eq))) is

pub noted-ends : (S : State) (events : List Event) (table : EndTable) (e : Event) → AreInPlace (next (after S events) e) → AreLastEnds S events table
    → AreLastEnds S (events ++ e ∷ []) (with_end (end_there (next (after S events) e) (core_in (after S events) e)) table)
noted-ends S events table e well are phase core low small = by_core (core_in (after S events) e) refl ∙ sym (ap (λ (o : Option TaskEnd). Some o) (last-more phase core S events e)) where
  is : slice_get table (end_index phase core) ≡ Some (last_end phase core S events)
  is = are phase core low small

  by_core : (o : Option CoreId) → core_in (after S events) e ≡ o
      → slice_get (with_end (end_there (next (after S events) e) o) table) (end_index phase core)
      ≡ Some (option_or (end_in_phase phase (slice_get (next (after S events) e).nodes core)) (last_end phase core S events))
  by_core None own = other-noted S events table e phase core (next-frame (after S events) e core (λ eq. none-some (record { 0 = core }) (sym own ∙ eq))) is
  by_core (Some c) own = core-noted S events table e c phase core well own small is

-- ---- as a run begins and ends

-- the ends that are noted of some phases are the last ones
pub listed : (S : State) (events : List Event) (table : EndTable) (phase : ℕ) (ps : List Phase) → AreLastEnds S events table → phase + length ps ≤ length S.setting.program.phases
    → ((i : ℕ) (p : Phase) (d : TaskDecl) (k : ℕ) → slice_get ps i ≡ Some p → slice_get p.tasks k ≡ Some d → d.core.0 < 16)
    → noted_ends table phase ps ≡ ends_from phase ps S events
listed S events table phase [] are inside few = refl
listed S events table phase (p ∷ ps) are inside few =
    both (filter_map (λ (d : TaskDecl). end_in (slice_get table (end_index phase d.core.0))) p.tasks)
    (filter_map (λ (d : TaskDecl). last_end phase d.core.0 S events) p.tasks)
    (noted_ends table (phase + 1) ps)
    (ends_from (phase + 1) ps S events)
    (tasks p.tasks (λ d k there. few 0 p d k refl there))
    (listed S events table (phase + 1) ps are (omega (arith, inside)) (λ i x d k there task. few (suc i) x d k there task))
  where
    both : (a b c d : List TaskEnd) → a ≡ b → c ≡ d → a ++ c ≡ b ++ d
    both a b c d one two = ap (λ (x : List TaskEnd). x ++ c) one ∙ ap (λ (x : List TaskEnd). b ++ x) two

    low : phase < length S.setting.program.phases
    low = omega (arith, inside)

    tasks : (ds : List TaskDecl) → ((d : TaskDecl) (k : ℕ) → slice_get ds k ≡ Some d → d.core.0 < 16)
        → filter_map (λ (d : TaskDecl). end_in (slice_get table (end_index phase d.core.0))) ds ≡ filter_map (λ (d : TaskDecl). last_end phase d.core.0 S events) ds
    tasks [] small = refl
    tasks (d ∷ ds) small =
        ap (λ (o : Option (Option TaskEnd)). cons_option (end_in o) (filter_map (λ (x : TaskDecl). end_in (slice_get table (end_index phase x.core.0))) ds)) (are phase d.core.0 low (small d 0 refl))
        ∙ ap (cons_option (last_end phase d.core.0 S events)) (tasks ds (λ x k there. small x (suc k) there))
