-- Every event keeps what is known of words.
use Rattle.std.proofs.Common.{◌≡◌, ℕ, ◌==◌, ◌&&◌, ◌||◌, not, Bool, true, false, cond, List, Option, Some, None, refl, sym, ap, subst, ◌∙◌}
use Rattle.std.proofs.lemmas.Bool.{eqb-true}
use Rattle.dn_base.specs.declared.ids.CoreId.{CoreId}
use Rattle.region_table.specs.declared.interval.Interval.{Interval}
use Rattle.region_table.specs.Words.{has}
use Rattle.region_table.specs.declared.declared.TaskDecl.{TaskDecl}
use Rattle.rv_core.specs.declared.task.TaskState.{TaskState}
use Rattle.rv_core.specs.declared.need.Need.{Need}
use Rattle.write_signature.specs.declared.signature.Signature.{Signature}
use Rattle.write_signature.specs.Signature.{may_hold}
use Rattle.message_net.specs.declared.message.Outgoing.{Outgoing}
use Rattle.word_cache.specs.declared.row.Entry.{Entry}
use Rattle.word_cache.specs.declared.row.Entry.TheVariants.{Valid, Registered, Leaving}
use Rattle.word_cache.specs.Cache.{entry_after_phase, entry_after_grant}
use Rattle.word_cache.proofs.LookLemmas.{lookup-without}
use Rattle.registration_protocol.specs.Node.{NodeParts, entry_of}
use Rattle.registration_protocol.specs.Messages.{lacking}
use Rattle.machine_rules.specs.State.{State}
use Rattle.machine_rules.proofs.Invariant.{WordsGood}
use Rattle.machine_rules.proofs.Steps.{NodeStep}
use Rattle.machine_rules.proofs.Outcomes.{IsActing}
use Rattle.machine_rules.proofs.WordEvents.{IsAside}
use Rattle.machine_rules.proofs.WordGood.{right-kept, KeepsRights}
use Rattle.machine_rules.proofs.WordRights.{keeps-held}
use Rattle.machine_rules.proofs.WordQuiet.{owned_part, aside-none, quiet-node}

-- ---- steps of a core that leave what isn't a copy

-- a task's step: no entry changes, and no mail comes
pub task-step : (S T : State) (core : ℕ) (n m : NodeParts) (sent : Option Outgoing) → NodeStep S T core n m None sent → WordsGood S → m.cache ≡ n.cache → m.phase ≡ n.phase
    → KeepsRights n m → ((v : ℕ) → IsAside v sent) → WordsGood T
task-step S T core n m sent step g cache phase keeps went =
    quiet-node S T core n m None sent step g (λ v. rw (cache) refl) aside-none went
    (λ d w one. right-kept S T core n m None sent step phase keeps d w (g.right d w one))

-- an instruction that changes the task alone
pub advanced-good : (S T : State) (core : CoreId) (n : NodeParts) (d : TaskDecl) (t u : TaskState) (x : Need) → IsActing S core n d t x → NodeStep S T core.0 n (record n { task = Some u }) None None
    → u.held ≡ t.held → WordsGood S → WordsGood T
advanced-good S T core n d t u x acts step held g =
    task-step S T core.0 n (record n { task = Some u }) None step g refl refl (keeps-held n (record n { task = Some u }) t u acts.task refl held) aside-none

-- an access of a copy or of a word that is registered
pub loaded-good : (S T : State) (core : CoreId) (n m : NodeParts) (d : TaskDecl) (t u : TaskState) (x : Need) → IsActing S core n d t x → NodeStep S T core.0 n m None None
    → ((v : ℕ) → owned_part (entry_of m v) ≡ owned_part (entry_of n v)) → m.phase ≡ n.phase → m.task ≡ Some u → u.held ≡ t.held → WordsGood S → WordsGood T
loaded-good S T core n m d t u x acts step same phase task held g =
    quiet-node S T core.0 n m None None step g same aside-none aside-none
    (λ c w one. right-kept S T core.0 n m None None step phase (keeps-held n m t u acts.task task held) c w (g.right c w one))

-- a copy takes a word's place that has none but a copy
pub put-part : (n m : NodeParts) (w : ℕ) (e : Entry) → ((v : ℕ) → entry_of m v ≡ cond (w == v) (Some e) (entry_of n v)) → owned_part (Some e) ≡ None → owned_part (entry_of n w) ≡ None
    → (v : ℕ) → owned_part (entry_of m v) ≡ owned_part (entry_of n v)
put-part n m w e now copy none v = by_test (w == v) refl where
  by_test : (x : Bool) → (w == v) ≡ x → owned_part (entry_of m v) ≡ owned_part (entry_of n v)
  by_test true f = ap owned_part (rw (f) at (now v)) ∙ copy ∙ sym (subst (λ (x : ℕ). owned_part (entry_of n x) ≡ None) (eqb-true w v f) none)
  by_test false f = ap owned_part (rw (f) at (now v))

-- a copy goes
pub lacking-part : (n : NodeParts) (w : ℕ) → owned_part (entry_of n w) ≡ None → (v : ℕ) → owned_part (entry_of (lacking n w) v) ≡ owned_part (entry_of n v)
lacking-part n w none v = by_test (w == v) refl where
  by_test : (x : Bool) → (w == v) ≡ x → owned_part (entry_of (lacking n w) v) ≡ owned_part (entry_of n v)
  by_test true f = ap owned_part (rw (f) at (lookup-without w v n.cache.pairs)) ∙ sym (subst (λ (x : ℕ). owned_part (entry_of n x) ≡ None) (eqb-true w v f) none)
  by_test false f = ap owned_part (rw (f) at (lookup-without w v n.cache.pairs))

-- a phase's end and a grant take copies alone
pub phase-part : (words : List Interval) (w : ℕ) (e : Option Entry) → owned_part (entry_after_phase words w e) ≡ owned_part e
phase-part words w None = refl
phase-part words w (Some (Valid value true)) = refl
phase-part words w (Some (Valid value false)) = by_test (has words w) where
  by_test : (x : Bool) → owned_part (cond (false || not x) (Some (Valid value false)) None) ≡ None
  by_test true = refl
  by_test false = refl
phase-part words w (Some (Registered value pending)) = refl
phase-part words w (Some (Leaving value)) = refl

pub grant-part : (s : Signature) (phase : ℕ) (words : List Interval) (w : ℕ) (e : Option Entry) → owned_part (entry_after_grant s phase words w e) ≡ owned_part e
grant-part s phase words w None = refl
grant-part s phase words w (Some (Valid value marked)) = by_test (has words w && may_hold s w phase) where
  by_test : (x : Bool) → owned_part (cond x None (Some (Valid value marked))) ≡ None
  by_test true = refl
  by_test false = refl
grant-part s phase words w (Some (Registered value pending)) = refl
grant-part s phase words w (Some (Leaving value)) = refl
