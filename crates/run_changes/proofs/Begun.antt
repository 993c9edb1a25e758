-- What is different of a node from one in which its phase begins leads to the node.
use Rattle.std.proofs.Common.{◌≡◌, ℕ, zero, suc, ◌+◌, ◌<◌, ◌==◌, ◌||◌, Bool, true, false, List, [], ◌∷◌, ◌++◌, length, map, replicate, slice_index_or, Option, Some, None, IfSome, refl, sym, ap, subst, ◌∙◌, arith}
use mathlib.Core.Logic.{inl}
use Rattle.std.specs.List.{fold, filter}
use Rattle.std.specs.Option.{option_map, is_some}
use Rattle.std.proofs.lemmas.Bool.Decides.{nat_tests}
use Rattle.std.proofs.lemmas.List.{append_assoc, length-replicate}
use Rattle.dn_base.specs.declared.ids.LockId.{LockId}
use Rattle.dn_base.specs.declared.ids.WordId.{WordId}
use Rattle.region_table.specs.declared.declared.TaskDecl.{TaskDecl}
use Rattle.region_table.specs.Program.{ProgramParts}
use Rattle.region_table.specs.Tasks.{declared}
use Rattle.rv_core.specs.declared.task.End.{End}
use Rattle.rv_core.specs.declared.task.TaskState.{TaskState}
use Rattle.rv_core.specs.Access.{is_held}
use Rattle.rv_core.proofs.HeldLemmas.{holds-none}
use Rattle.write_signature.specs.declared.signature.Signature.{Signature}
use Rattle.write_signature.specs.Signature.{empty}
use Rattle.word_cache.specs.declared.row.Entry.{Entry}
use Rattle.word_cache.specs.Cache.{Cache, Pair, in_set}
use Rattle.registration_protocol.specs.declared.node.NodeWait.{NodeWait}
use Rattle.registration_protocol.specs.declared.node.NodeWait.TheVariants as wait
use Rattle.registration_protocol.specs.Node.{NodeParts, Setting, entry_of, signature_of, initial_node}
use Rattle.registration_protocol.specs.Fit.{Fits, HoldsOwn}
use Rattle.run_changes.specs.declared.change.Change.{Change}
use Rattle.run_changes.specs.declared.change.Change.TheVariants as change
use Rattle.run_changes.specs.declared.look.EntryBefore.{EntryBefore}
use Rattle.run_changes.specs.Looks.{pair_before, cached_from, cached}
use Rattle.run_changes.specs.Changes.{change_before, entry_changes, wait_change, same_wait, locks_held, lock_changes, flag_change}
use Rattle.run_changes.specs.Applied.{entry_step, phase_step, wait_step, arrived_step, halted_step, hold_step, signature_step, AreEntriesOf, is_among, StatusFollows}
use Rattle.run_changes.specs.Since.{pair_held, held_from, end_since, task_since, node_since}
use Rattle.run_changes.specs.Leads.{TaskShown, task_shown, task_started, task_step, NodeLed}
use Rattle.run_changes.proofs.Applied.{Every, Leaves, all-append, all-flag, all-locks, all-unless, steady, skip, behind, sweep, wait-leads, arrived-leads}
use Rattle.run_changes.proofs.Cached.{EachPair, Owns, owned, each-filter, cached-others}
use Rattle.run_changes.proofs.Locks.{holds-on, signs-on, unheld}

-- ---- the parts of the list

module _ (P : Change → Type 0) where
  all-pairs : ((w : WordId) (e : Entry) → P (change.Holds w e)) → (ps : List Pair) → Every P (map pair_held ps)
  all-pairs holds [] = tt
  all-pairs holds (p ∷ ps) = (holds p.0 p.1, all-pairs holds ps)

  all-held : ((w : WordId) (e : Entry) → P (change.Holds w e)) → (c : Cache) (set count : ℕ) → Every P (held_from c set count)
  all-held holds c set zero = tt
  all-held holds c set (suc count) =
      all-append P (map pair_held (filter (in_set c.sets set) c.pairs)) (held_from c (set + 1) count) (all-pairs holds (filter (in_set c.sets set) c.pairs)) (all-held holds c (set + 1) count)

  all-end : ((by : End) → P (change.Ended by)) → (e : Option End) → Every P (end_since e)
  all-end ended None = tt
  all-end ended (Some by) = (ended by, tt)

  all-task : ((by : End) → P (change.Ended by)) → ((pc retired : ℕ) → P (change.At pc retired)) → (t : Option TaskState) → Every P (task_since t)
  all-task ended at None = tt
  all-task ended at (Some t) = all-append P (end_since t.end) (change.At t.pc t.retired ∷ []) (all-end ended t.end) (at t.pc t.retired, tt)

module _ {X : Type 0} (step : X → Change → X) (n : NodeParts) where
  abbrev held : List Change
  held = held_from n.cache 0 n.cache.sets

  abbrev waits : List Change
  waits = wait_change wait.None n.waiting

  abbrev locks : List Change
  locks = lock_changes 0 (locks_held n.task) (replicate (length n.signatures) (empty n.phase)) 0 n.signatures

  abbrev flags : List Change
  flags = flag_change false n.arrived change.Arrived ++ flag_change false n.halted change.Halted

  leaves-flags : Leaves step change.Arrived → Leaves step change.Halted → Every (Leaves step) flags
  leaves-flags arrived halted =
      all-append (Leaves step) (flag_change false n.arrived change.Arrived) _ (all-flag (Leaves step) false n.arrived change.Arrived arrived) (all-flag (Leaves step) false n.halted change.Halted halted)

  leaves-locks : ((l : LockId) → Leaves step (change.Takes l)) → ((l : LockId) → Leaves step (change.Gives l)) → ((l : LockId) (s : Signature) → Leaves step (change.Signed l s)) → Every (Leaves step) locks
  leaves-locks takes gives signed = all-locks (Leaves step) takes gives signed 0 (locks_held n.task) (replicate (length n.signatures) (empty n.phase)) 0 n.signatures

  leaves-waits : ((x : NodeWait) → Leaves step (change.Waits x)) → Every (Leaves step) waits
  leaves-waits w = all-unless (Leaves step) (same_wait wait.None n.waiting) (change.Waits n.waiting) (w n.waiting)

  -- what is left once the entries, the task, the wait and the locks are left out
  to-task : (x : X) → ((w : WordId) (e : Entry) → Leaves step (change.Holds w e)) → fold step x (held ++ (task_since n.task ++ (waits ++ (locks ++ flags)))) ≡ fold step x (task_since n.task ++ (waits ++ (locks ++ flags)))
  to-task x holds = skip step x held _ (all-held (Leaves step) holds n.cache 0 n.cache.sets)

  to-waits : (x : X) → ((w : WordId) (e : Entry) → Leaves step (change.Holds w e)) → ((by : End) → Leaves step (change.Ended by)) → ((pc retired : ℕ) → Leaves step (change.At pc retired))
      → fold step x (held ++ (task_since n.task ++ (waits ++ (locks ++ flags)))) ≡ fold step x (waits ++ (locks ++ flags))
  to-waits x holds ended at = to-task x holds ∙ skip step x (task_since n.task) _ (all-task (Leaves step) ended at n.task)

-- ---- entries

-- words of which nothing is said yet
abbrev unsaid : List EntryBefore → List EntryBefore
unsaid es = map (λ (e : EntryBefore). record { word = e.word; entry = None }) es

pairs-told : (n : NodeParts) (ps : List Pair) → EachPair (Owns n.cache.pairs) ps → map pair_held ps ≡ entry_changes n (unsaid (map pair_before ps))
unfolding Owns
pairs-told n [] all = refl
pairs-told n (p ∷ ps) all = rw (all.0) (ap (λ (cs : List Change). change.Holds p.0 p.1 ∷ cs) (pairs-told n ps all.1))

held-told : (n : NodeParts) (set count : ℕ) → EachPair (Owns n.cache.pairs) n.cache.pairs → held_from n.cache set count ≡ entry_changes n (unsaid (cached_from n.cache set count))
held-told n set zero all = refl
held-told n set (suc count) all =
    ap (λ (cs : List Change). cs ++ held_from n.cache (set + 1) count) (pairs-told n (filter (in_set n.cache.sets set) n.cache.pairs) (each-filter (Owns n.cache.pairs) (in_set n.cache.sets set) n.cache.pairs all))
    ∙ ap (λ (cs : List Change). entry_changes n (unsaid (map pair_before (filter (in_set n.cache.sets set) n.cache.pairs))) ++ cs) (held-told n (set + 1) count all)
    ∙ sym (joined (map pair_before (filter (in_set n.cache.sets set) n.cache.pairs)) (cached_from n.cache (set + 1) count))
  where
    joined : (es fs : List EntryBefore) → entry_changes n (unsaid (es ++ fs)) ≡ entry_changes n (unsaid es) ++ entry_changes n (unsaid fs)
    joined [] fs = refl
    joined (e ∷ es) fs =
        let first = change_before n (record { word = e.word; entry = None }) in
        ap (λ (cs : List Change). first ++ cs) (joined es fs) ∙ sym (append_assoc first (entry_changes n (unsaid es)) (entry_changes n (unsaid fs)))

unsaid-among : (w : ℕ) (es : List EntryBefore) → is_among w (unsaid es) ≡ is_among w es
unsaid-among w [] = refl
unsaid-among w (e ∷ es) = ap (λ (b : Bool). (e.word.0 == w) || b) (unsaid-among w es)

none-yet : (C : Setting) (c : ℕ) (es : List EntryBefore) → AreEntriesOf (initial_node C c) (unsaid es)
none-yet C c [] = tt
none-yet C c (e ∷ es) = (refl, none-yet C c es)

-- a task that is shown to have ended so
abbrev shown_so : TaskState → Option End → Option TaskShown
shown_so t end = Some (record { pc = t.pc; retired = t.retired; end = end })

module _ (C : Setting) (c : ℕ) (n : NodeParts) (fit : Fits C n) where
  -- what is left behind the entries says nothing of them
  behind-entries : (w : ℕ) → Every (Leaves (entry_step w)) (task_since n.task ++ (waits (entry_step w) n ++ (locks (entry_step w) n ++ flags (entry_step w) n)))
  behind-entries w =
      all-append (Leaves (entry_step w)) (task_since n.task) _ (all-task (Leaves (entry_step w)) (λ by x. refl) (λ pc k x. refl) n.task)
      (all-append (Leaves (entry_step w)) (waits (entry_step w) n) _ (leaves-waits (entry_step w) n (λ y x. refl))
      (all-append (Leaves (entry_step w)) (locks (entry_step w) n) _ (leaves-locks (entry_step w) n (λ l x. refl) (λ l x. refl) (λ l s x. refl)) (leaves-flags (entry_step w) n (λ x. refl) (λ x. refl))))

  pub entries-begun : (w : ℕ) → 0 < n.cache.sets → fold (entry_step w) (entry_of (initial_node C c) w) (node_since n) ≡ entry_of n w
  entries-begun w some =
      behind (entry_step w) None (entry_of n w) (held_from n.cache 0 n.cache.sets) _
      (ap (fold (entry_step w) None) (held-told n 0 n.cache.sets (owned n.cache.pairs fit.cache.apart))
      ∙ sweep (initial_node C c) n w (unsaid (cached n.cache)) (none-yet C c (cached n.cache)) None (inl refl)
      (λ out. sym (cached-others n.cache w some (sym (unsaid-among w (cached n.cache)) ∙ out))))
      (behind-entries w)

  -- ---- phase, wait and flags

  pub status-begun : (n.halted ≡ false → (length C.program.phases == 0) ≡ false) → StatusFollows (initial_node C c) (node_since n) n
  status-begun runs =
      record {
        phase =
            steady phase_step n.phase _
            (all-append (Leaves phase_step) (held_from n.cache 0 n.cache.sets) _ (all-held (Leaves phase_step) (λ w e x. refl) n.cache 0 n.cache.sets)
            (all-append (Leaves phase_step) (task_since n.task) _ (all-task (Leaves phase_step) (λ by x. refl) (λ pc k x. refl) n.task)
            (all-append (Leaves phase_step) (waits phase_step n) _ (leaves-waits phase_step n (λ y x. refl))
            (all-append (Leaves phase_step) (locks phase_step n) _ (leaves-locks phase_step n (λ l x. refl) (λ l x. refl) (λ l s x. refl)) (leaves-flags phase_step n (λ x. refl) (λ x. refl))))));
        waiting =
            to-waits wait_step n wait.None (λ w e x. refl) (λ by x. refl) (λ pc k x. refl)
            ∙ behind wait_step wait.None n.waiting (waits wait_step n) _ (wait-leads wait.None n.waiting)
            (all-append (Leaves wait_step) (locks wait_step n) _ (leaves-locks wait_step n (λ l x. refl) (λ l x. refl) (λ l s x. refl)) (leaves-flags wait_step n (λ x. refl) (λ x. refl)));
        arrived =
            to-waits arrived_step n false (λ w e x. refl) (λ by x. refl) (λ pc k x. refl)
            ∙ skip arrived_step false (waits arrived_step n) _ (leaves-waits arrived_step n (λ y x. refl))
            ∙ skip arrived_step false (locks arrived_step n) _ (leaves-locks arrived_step n (λ l x. refl) (λ l x. refl) (λ l s x. refl))
            ∙ behind arrived_step false n.arrived (flag_change false n.arrived change.Arrived) _ (arrived-leads false n.arrived (λ e. rises e))
            (all-flag (Leaves arrived_step) false n.halted change.Halted (λ x. refl));
        halted =
            to-waits halted_step n (length C.program.phases == 0) (λ w e x. refl) (λ by x. refl) (λ pc k x. refl)
            ∙ skip halted_step (length C.program.phases == 0) (waits halted_step n) _ (leaves-waits halted_step n (λ y x. refl))
            ∙ skip halted_step (length C.program.phases == 0) (locks halted_step n) _ (leaves-locks halted_step n (λ l x. refl) (λ l x. refl) (λ l s x. refl))
            ∙ skip halted_step (length C.program.phases == 0) (flag_change false n.arrived change.Arrived) _ (all-flag (Leaves halted_step) false n.arrived change.Arrived (λ x. refl))
            ∙ by_halted n.halted (length C.program.phases == 0) runs;
      }
    where
      rises : {A : Type 0} → false ≡ true → A
      rises e = cc

      by_halted : (h b : Bool) → (h ≡ false → b ≡ false) → fold halted_step b (flag_change false h change.Halted) ≡ h
      by_halted true b runs = refl
      by_halted false b runs = runs refl

  -- ---- locks and signatures

  to-locks : {X : Type 0} (step : X → Change → X) (x : X) → ((w : WordId) (e : Entry) → Leaves step (change.Holds w e)) → ((by : End) → Leaves step (change.Ended by)) → ((pc retired : ℕ) → Leaves step (change.At pc retired))
      → ((y : NodeWait) → Leaves step (change.Waits y)) → Leaves step change.Arrived → Leaves step change.Halted → (y : X)
      → fold step x (lock_changes 0 (locks_held n.task) (replicate (length n.signatures) (empty n.phase)) 0 n.signatures) ≡ y
      → fold step x (held step n ++ (task_since n.task ++ (waits step n ++ (locks step n ++ flags step n)))) ≡ y
  to-locks step x holds ended at w arrived halted y is =
      to-waits step n x holds ended at ∙ skip step x (waits step n) _ (leaves-waits step n w) ∙ behind step x y (locks step n) _ is (leaves-flags step n arrived halted)

  pub held-begun : (l : ℕ) (x : Bool) → fold (hold_step l) x (node_since n) ≡ is_held (locks_held n.task) l
  held-begun l x =
      let own : IfSome n.task (HoldsOwn (length n.signatures)) = subst (λ (count : ℕ). IfSome n.task (HoldsOwn count)) (sym fit.signatures) fit.held in
      to-locks (hold_step l) false (λ w e y. refl) (λ by y. refl) (λ pc k y. refl) (λ v y. refl) (λ y. refl) (λ y. refl) (is_held (locks_held n.task) l)
      (ap (λ (b : Bool). fold (hold_step l) b (locks (hold_step l) n)) (sym (holds-none l))
      ∙ holds-on l 0 (locks_held n.task) (replicate (length n.signatures) (empty n.phase)) n.signatures (λ past. holds-none l ∙ sym (unheld l n.task (length n.signatures) own past)))

  empty-at : (count l : ℕ) (s : Signature) → slice_index_or (replicate count s) l s ≡ s
  empty-at zero l s = refl
  empty-at (suc count) zero s = refl
  empty-at (suc count) (suc l) s = empty-at count l s

  pub signs-begun : (l : ℕ) (x : Signature) → fold (signature_step l) x (node_since n) ≡ signature_of n l
  signs-begun l x =
      to-locks (signature_step l) (empty n.phase) (λ w e y. refl) (λ by y. refl) (λ pc k y. refl) (λ v y. refl) (λ y. refl) (λ y. refl) (signature_of n l)
      (ap (λ (s : Signature). fold (signature_step l) s (locks (signature_step l) n)) (sym (empty-at (length n.signatures) l (empty n.phase)))
      ∙ signs-on l 0 (locks_held n.task) (replicate (length n.signatures) (empty n.phase)) n.signatures (empty n.phase) (length-replicate (length n.signatures) (empty n.phase)))

  -- ---- the task

  shown-at : (P : ProgramParts) (d : TaskDecl) (t : TaskState) (e : Option End) → t.end ≡ e → fold (task_step P n.core) (Some (task_started d)) (end_since e ++ change.At t.pc t.retired ∷ []) ≡ Some (task_shown t)
  shown-at P d t None is = ap (λ (e : Option End). shown_so t e) (sym is)
  shown-at P d t (Some by) is = ap (λ (e : Option End). shown_so t e) (sym is)

  pub task-begun : (x : Option TaskShown) → fold (task_step C.program n.core) x (node_since n) ≡ option_map task_shown n.task
  task-begun x =
      to-task (task_step C.program n.core) n (option_map task_started (declared C.program n.phase n.core)) (λ w e y. refl)
      ∙ behind (task_step C.program n.core) _ (option_map task_shown n.task) (task_since n.task) _ (by_task n.task (declared C.program n.phase n.core) fit.task)
      (all-append (Leaves (task_step C.program n.core)) (waits (task_step C.program n.core) n) _ (leaves-waits (task_step C.program n.core) n (λ v y. refl))
      (all-append (Leaves (task_step C.program n.core)) (locks (task_step C.program n.core) n) _ (leaves-locks (task_step C.program n.core) n (λ l y. refl) (λ l y. refl) (λ l s y. refl))
      (leaves-flags (task_step C.program n.core) n (λ y. refl) (λ y. refl))))
    where
      by_task : (o : Option TaskState) (d : Option TaskDecl) → is_some o ≡ is_some d → fold (task_step C.program n.core) (option_map task_started d) (task_since o) ≡ option_map task_shown o
      by_task None None is = refl
      by_task None (Some d) is = absurd (cc)
      by_task (Some t) None is = absurd (cc)
      by_task (Some t) (Some d) is = shown-at C.program d t t.end refl

-- a node of a machine, from its beginning
pub node-begun : (C : Setting) (c : ℕ) (n : NodeParts) → Fits C n → n.core ≡ c → 0 < n.cache.sets → NodeLed C.program (initial_node C c) (node_since n) n
node-begun C c n fit place some =
    record {
      status = status-begun C c n fit runs;
      task = ap (λ (k : ℕ). fold (task_step C.program k) (option_map task_shown (initial_node C c).task) (node_since n)) (sym place) ∙ task-begun C c n fit (option_map task_shown (initial_node C c).task);
      held = λ l. held-begun C c n fit l (is_held (locks_held (initial_node C c).task) l);
      signatures = λ l. signs-begun C c n fit l (signature_of (initial_node C c) l);
      entries = λ w. entries-begun C c n fit w some;
    }
  where
    runs : n.halted ≡ false → (length C.program.phases == 0) ≡ false
    runs going = let below : n.phase < length C.program.phases = fit.phase going in grind (arith, nat_tests, below)
