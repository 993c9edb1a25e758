-- The changes of an event lead from the entries that its core had to those that it has.
use Rattle.std.proofs.Common.{◌≡◌, ℕ, ◌<◌, ◌==◌, true, List, [], ◌∷◌, slice_get, Option, Some, None, IfSome, refl, sym, ap, subst, ◌∙◌, arith}
use Rattle.std.proofs.lemmas.Bool.Decides.{nat_tests}
use Rattle.std.proofs.lemmas.Option.{same_Some}
use Rattle.std.specs.List.{fold}
use Rattle.std.specs.Option.{option_map}
use Rattle.dn_base.specs.declared.ids.CoreId.{CoreId}
use Rattle.dn_base.specs.declared.ids.WordId.{WordId}
use Rattle.rv_core.specs.declared.need.Need.{Need}
use Rattle.rv_core.specs.declared.task.TaskState.{TaskState}
use Rattle.message_net.specs.declared.actor.Actor.{Actor}
use Rattle.message_net.specs.declared.actor.Actor.TheVariants.{Core}
use Rattle.message_net.specs.declared.actor.MailId.{MailId}
use Rattle.message_net.specs.declared.event.Event.{Event}
use Rattle.message_net.specs.declared.event.Event.TheVariants.{Instr, Evict, Arrive, Handle}
use Rattle.message_net.specs.declared.message.Mail.{Mail}
use Rattle.message_net.specs.Pool.{removed}
use Rattle.rv_core.specs.Access.{is_held}
use Rattle.registration_protocol.specs.Fit.{Fits, HoldsOwn}
use Rattle.registration_protocol.specs.Node.{NodeParts, entry_of, need_now, signature_of}
use Rattle.registration_protocol.specs.OwnEvents.{instructed, evicted, arrives, may_instr}
use Rattle.registration_protocol.specs.Messages.{node_gets}
use Rattle.registration_protocol.proofs.FitLemmas.{instr-fits, evict-fits, arrive-fits, gets-fits}
use Rattle.machine_rules.specs.State.{State}
use Rattle.machine_rules.specs.Next.{next, enabled, seen_in}
use Rattle.machine_rules.specs.Sound.{IsMachine}
use Rattle.machine_rules.proofs.Steps.{NodeStep, Handled, handled, instr-step, evict-step, arrive-step, core-step}
use Rattle.dn_machine.specs.Actors.{actor_in}
use Rattle.run_changes.specs.declared.look.EntryBefore.{EntryBefore}
use Rattle.run_changes.specs.declared.look.Look.TheVariants.{Node}
use Rattle.run_changes.specs.Looks.{node_look, words_needed, words_of_message, entry_before, look_at}
use Rattle.run_changes.specs.Changes.{locks_held, core_changes, changes_by}
use Rattle.run_changes.specs.Events.{event_changes}
use Rattle.run_changes.specs.Applied.{entry_step, hold_step, signature_step, AreLookedAt, StatusFollows, TaskFollows}
use Rattle.run_changes.specs.Leads.{task_shown, task_step, NodeLed}
use Rattle.run_changes.proofs.Applied.{entries-lead}
use Rattle.run_changes.proofs.Status.{StatusMoves, status-leads, moves-instr, moves-evict, moves-arrive, moves-message}
use Rattle.run_changes.proofs.Task.{TaskMoves, task-leads, tasks-instr, tasks-evict, tasks-arrive, tasks-message}
use Rattle.run_changes.proofs.Locks.{held-leads, signs-lead}
use Rattle.run_changes.proofs.Shown.{TaskBegins, shown-leads, begun-instr, begun-evict, begun-arrive, begun-message}
use Rattle.run_changes.proofs.Looked.{looked-instr, looked-evict, looked-arrive, looked-message}

-- a core that was looked at so: the words that weren't looked at stay, and its flags move as they may
record IsLook (S : State) (e : Event) (c : CoreId) (n : NodeParts) : Type 0 where
  after : NodeParts
  needs : Option Need
  words : List EntryBefore
  look : look_at S e ≡ Node c (node_look n needs words)
  there : slice_get (next S e).nodes c.0 ≡ Some after
  looked : AreLookedAt n after words
  moves : StatusMoves n after
  tasks : TaskMoves n after
  fits : Fits S.setting after
  begun : TaskBegins S.setting n after

by-look : (S : State) (e : Event) (c : CoreId) (n m : NodeParts) (needs : Option Need) (es : List EntryBefore) → look_at S e ≡ Node c (node_look n needs es) → slice_get (next S e).nodes c.0 ≡ Some m
    → event_changes S e ≡ core_changes (node_look n needs es) (seen_in S e) (Some m)
unfolding event_changes changes_by
by-look S e c n m needs es look there = rw (look, there) refl

-- the node that a step leaves at its core
left-there : {S T : State} (core : ℕ) (n m : NodeParts) {left sent : Option _} → NodeStep S T core n m left sent → slice_get T.nodes core ≡ Some m
left-there core n m step =
    let same : (core == core) ≡ true = grind (arith, nat_tests) in
    step.nodes core ∙ rw (same) refl

looks-instr : (S : State) (c : CoreId) (n : NodeParts) → slice_get S.nodes c.0 ≡ Some n → look_at S (Instr c) ≡ Node c (node_look n (need_now S.setting n) (words_needed n (need_now S.setting n)))
unfolding look_at
looks-instr S c n found = rw (found) refl

ready : (S : State) (c : CoreId) (n : NodeParts) → enabled S (Instr c) ≡ true → slice_get S.nodes c.0 ≡ Some n → may_instr S.setting n ≡ true
unfolding enabled
ready S c n may found = rw (found) at may

own-instr : (S : State) (c : CoreId) (n : NodeParts) → Fits S.setting n → enabled S (Instr c) ≡ true → slice_get S.nodes c.0 ≡ Some n → IsLook S (Instr c) c n
own-instr S c n fit may found =
    record {
      after = (instructed S.setting n).0;
      needs = need_now S.setting n;
      words = words_needed n (need_now S.setting n);
      look = looks-instr S c n found;
      there = left-there c.0 n (instructed S.setting n).0 (instr-step S c n found);
      looked = looked-instr S.setting n (ready S c n may found);
      moves = moves-instr S.setting n;
      tasks = tasks-instr S.setting n (ready S c n may found);
      fits = instr-fits S.setting n fit (ready S c n may found);
      begun = begun-instr S.setting n;
    }

looks-evict : (S : State) (c : CoreId) (word : WordId) (n : NodeParts) → slice_get S.nodes c.0 ≡ Some n → look_at S (Evict c word) ≡ Node c (node_look n None (entry_before n word ∷ []))
unfolding look_at
looks-evict S c word n found = rw (found) refl

own-evict : (S : State) (c : CoreId) (word : WordId) (n : NodeParts) → Fits S.setting n → slice_get S.nodes c.0 ≡ Some n → IsLook S (Evict c word) c n
own-evict S c word n fit found =
    record {
      after = (evicted S.setting n word).0;
      needs = None;
      words = entry_before n word ∷ [];
      look = looks-evict S c word n found;
      there = left-there c.0 n (evicted S.setting n word).0 (evict-step S c word n found);
      looked = looked-evict S.setting n word;
      moves = moves-evict S.setting n word;
      tasks = tasks-evict S.setting n word;
      fits = evict-fits S.setting n word fit;
      begun = begun-evict S.setting n word;
    }

looks-arrive : (S : State) (c : CoreId) (n : NodeParts) → slice_get S.nodes c.0 ≡ Some n → look_at S (Arrive c) ≡ Node c (node_look n None [])
unfolding look_at
looks-arrive S c n found = rw (found) refl

own-arrive : (S : State) (c : CoreId) (n : NodeParts) → Fits S.setting n → slice_get S.nodes c.0 ≡ Some n → IsLook S (Arrive c) c n
own-arrive S c n fit found =
    record {
      after = (arrives n).0;
      needs = None;
      words = [];
      look = looks-arrive S c n found;
      there = left-there c.0 n (arrives n).0 (arrive-step S c n found);
      looked = looked-arrive n;
      moves = moves-arrive n;
      tasks = tasks-arrive n;
      fits = arrive-fits S.setting n fit;
      begun = begun-arrive S.setting n;
    }

looks-mail : (S : State) (id : MailId) (m : Mail) (c : CoreId) (n : NodeParts) → (removed id S.mails).0 ≡ Some m → m.to ≡ Core c → slice_get S.nodes c.0 ≡ Some n
    → look_at S (Handle id) ≡ Node c (node_look n None (words_of_message n m.message))
unfolding look_at
looks-mail S id m c n took to found = rw (took, to, found) refl

by-mail : (S : State) (id : MailId) (m : Mail) (c : CoreId) (n : NodeParts) → IsMachine S → Handled S id m → m.to ≡ Core c → slice_get S.nodes c.0 ≡ Some n → IsLook S (Handle id) c n
by-mail S id m c n machine h to found =
    let fits : Fits S.setting n = (machine.node c.0 n found).fits in
    let some : 0 < n.cache.sets = omega (arith, fits.sets, machine.context.some_sets) in
    record {
      after = (node_gets S.setting n m.message).0;
      needs = None;
      words = words_of_message n m.message;
      look = looks-mail S id m c n h.took to found;
      there = left-there c.0 n (node_gets S.setting n m.message).0 (core-step S id m c n h to found);
      looked = looked-message S.setting n m.message fits.cache some;
      moves = moves-message S.setting n m.message;
      tasks = tasks-message S.setting n m.message fits.waiting;
      fits = gets-fits S.setting n m.message fits;
      begun = begun-message S.setting n m.message;
    }

-- the core of an actor, or this one
the_core : CoreId → Option Actor → CoreId
the_core c (Some (Core d)) = d
the_core c _ = c

same-core : (c d : CoreId) → Some (Core d) ≡ Some (Core c) → c ≡ d
unfolding the_core
same-core c d e = sym (ap (λ (o : Option Actor). the_core c o) e)

is-look : (S : State) (e : Event) (c : CoreId) (n : NodeParts) → IsMachine S → enabled S e ≡ true → actor_in S e ≡ Some (Core c) → slice_get S.nodes c.0 ≡ Some n → IsLook S e c n
unfolding actor_in
is-look S (Instr d) c n machine may is found = rw (same-core c d is) (own-instr S d n (machine.node c.0 n found).fits may (rw (same-core c d is) at found))
is-look S (Evict d word) c n machine may is found = rw (same-core c d is) (own-evict S d word n (machine.node c.0 n found).fits (rw (same-core c d is) at found))
is-look S (Arrive d) c n machine may is found = rw (same-core c d is) (own-arrive S d n (machine.node c.0 n found).fits (rw (same-core c d is) at found))
is-look S (Handle id) c n machine may is found =
    let took = handled S id may in
    by-mail S id took.0 c n machine took.1 (same_Some took.0.to (Core c) (rw (took.1.took) at is)) found

-- the entries, and the phase, the wait and the flags
pub led : (S : State) (e : Event) (c : CoreId) (n : NodeParts) → IsMachine S → enabled S e ≡ true → actor_in S e ≡ Some (Core c) → slice_get S.nodes c.0 ≡ Some n
    → (k : NodeParts) → slice_get (next S e).nodes c.0 ≡ Some k → (w : ℕ) → fold (entry_step w) (entry_of n w) (event_changes S e) ≡ entry_of k w
led S e c n machine may is found k here w =
    let l = is-look S e c n machine may is found in
    ap (fold (entry_step w) (entry_of n w)) (by-look S e c n l.after l.needs l.words l.look l.there)
    ∙ entries-lead n l.after l.needs l.words (seen_in S e) w l.looked ∙ ap (λ (x : NodeParts). entry_of x w) (same_Some l.after k (sym l.there ∙ here))

pub followed : (S : State) (e : Event) (c : CoreId) (n : NodeParts) → IsMachine S → enabled S e ≡ true → actor_in S e ≡ Some (Core c) → slice_get S.nodes c.0 ≡ Some n
    → (k : NodeParts) → slice_get (next S e).nodes c.0 ≡ Some k → StatusFollows n (event_changes S e) k
followed S e c n machine may is found k here =
    let l = is-look S e c n machine may is found in
    rw (by-look S e c n l.after l.needs l.words l.look l.there, ← same_Some l.after k (sym l.there ∙ here)) (status-leads n l.after l.needs l.words (seen_in S e) l.moves)

-- the task
pub tasked : (S : State) (e : Event) (c : CoreId) (n : NodeParts) → IsMachine S → enabled S e ≡ true → actor_in S e ≡ Some (Core c) → slice_get S.nodes c.0 ≡ Some n
    → (k : NodeParts) → slice_get (next S e).nodes c.0 ≡ Some k → (t u : TaskState) → k.phase ≡ n.phase → n.task ≡ Some t → k.task ≡ Some u → TaskFollows t (event_changes S e) u
tasked S e c n machine may is found k here t u stays has leaves =
    let l = is-look S e c n machine may is found in
    let one : l.after ≡ k = same_Some l.after k (sym l.there ∙ here) in
    let phase : (n.phase == l.after.phase) ≡ true = grind (arith, nat_tests, one, stays) in
    rw (by-look S e c n l.after l.needs l.words l.look l.there) (task-leads n l.after l.needs l.words (seen_in S e) t u l.tasks phase has (ap (λ (x : NodeParts). x.task) one ∙ leaves))

-- the locks that its task holds, and its signatures
module _ (S : State) (e : Event) (c : CoreId) (n : NodeParts) (machine : IsMachine S) (may : enabled S e ≡ true) (is : actor_in S e ≡ Some (Core c)) (found : slice_get S.nodes c.0 ≡ Some n) where
  looks : IsLook S e c n
  looks = is-look S e c n machine may is found

  pub held-led : (k : NodeParts) → slice_get (next S e).nodes c.0 ≡ Some k → (l : ℕ) → fold (hold_step l) (is_held (locks_held n.task) l) (event_changes S e) ≡ is_held (locks_held k.task) l
  held-led k here l =
      let look = looks in
      let fit : Fits S.setting n = (machine.node c.0 n found).fits in
      ap (fold (hold_step l) (is_held (locks_held n.task) l)) (by-look S e c n look.after look.needs look.words look.look look.there)
      ∙ held-leads n look.after look.needs look.words (seen_in S e) l look.moves
      (subst (λ (count : ℕ). IfSome n.task (HoldsOwn count)) (sym look.fits.signatures) fit.held)
      (subst (λ (count : ℕ). IfSome look.after.task (HoldsOwn count)) (sym look.fits.signatures) look.fits.held)
      ∙ ap (λ (x : NodeParts). is_held (locks_held x.task) l) (same_Some look.after k (sym look.there ∙ here))

  pub signs-led : (k : NodeParts) → slice_get (next S e).nodes c.0 ≡ Some k → (l : ℕ) → fold (signature_step l) (signature_of n l) (event_changes S e) ≡ signature_of k l
  signs-led k here l =
      let look = looks in
      ap (fold (signature_step l) (signature_of n l)) (by-look S e c n look.after look.needs look.words look.look look.there)
      ∙ signs-lead n look.after look.needs look.words (seen_in S e) l look.moves ((machine.node c.0 n found).fits.signatures ∙ sym look.fits.signatures)
      ∙ ap (λ (x : NodeParts). signature_of x l) (same_Some look.after k (sym look.there ∙ here))

  shown-led : (k : NodeParts) → slice_get (next S e).nodes c.0 ≡ Some k → fold (task_step S.setting.program n.core) (option_map task_shown n.task) (event_changes S e) ≡ option_map task_shown k.task
  shown-led k here =
      let look = looks in
      ap (fold (task_step S.setting.program n.core) (option_map task_shown n.task)) (by-look S e c n look.after look.needs look.words look.look look.there)
      ∙ shown-leads S.setting n look.after look.needs look.words (seen_in S e) look.tasks look.begun (machine.node c.0 n found).fits look.fits
      ∙ ap (λ (x : NodeParts). option_map task_shown x.task) (same_Some look.after k (sym look.there ∙ here))

  -- the whole core
  pub node-follows : (k : NodeParts) → slice_get (next S e).nodes c.0 ≡ Some k → NodeLed S.setting.program n (event_changes S e) k
  node-follows k here =
      record {
        status = followed S e c n machine may is found k here;
        task = shown-led k here;
        held = λ l. held-led k here l;
        signatures = λ l. signs-led k here l;
        entries = λ w. led S e c n machine may is found k here w;
      }
