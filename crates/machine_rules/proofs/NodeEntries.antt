-- What a node's step leaves of the words that it has registered or is giving back.
use Rattle.std.proofs.Common.{◌≡◌, ℕ, ◌==◌, ◌&&◌, ◌||◌, not, Bool, true, false, cond, List, slice_get, Option, Some, None, refl, sym, ap, subst, ◌∙◌}
use Rattle.std.proofs.lemmas.Bool.{eqb-true}
use Rattle.std.specs.Option.{option_map}
use Rattle.region_table.specs.declared.interval.Interval.{Interval}
use Rattle.region_table.specs.Words.{has}
use Rattle.write_signature.specs.declared.signature.Signature.{Signature}
use Rattle.write_signature.specs.Signature.{may_hold}
use Rattle.message_net.specs.declared.message.Outgoing.{Outgoing}
use Rattle.word_cache.specs.declared.row.Entry.{Entry}
use Rattle.word_cache.specs.declared.row.Entry.TheVariants.{Valid, Registered, Leaving}
use Rattle.word_cache.specs.Cache.{entry_after_phase, entry_after_grant}
use Rattle.word_cache.proofs.LookLemmas.{lookup-changed}
use Rattle.registration_protocol.specs.Node.{NodeParts, entry_of}
use Rattle.registration_protocol.specs.Messages.{with_entry}
use Rattle.machine_rules.specs.State.{State, entry_in, entry_at}
use Rattle.machine_rules.specs.Coherent.{owned_value}
use Rattle.machine_rules.proofs.Bits.{pending_bit}
use Rattle.machine_rules.proofs.Steps.{NodeStep}
use Rattle.machine_rules.proofs.WordEvents.{entry-node}

-- a node has as many pending words as before, and no word registered or leaving with another value than before
pub record IsCalm (n m : NodeParts) : Type 0 where
  pub pending : (v : ℕ) → pending_bit (entry_of m v) ≡ pending_bit (entry_of n v)
  pub owned : (v value : ℕ) → owned_value (entry_of m v) ≡ Some value → owned_value (entry_of n v) ≡ Some value

pub calm-same : (n m : NodeParts) → ((v : ℕ) → entry_of m v ≡ entry_of n v) → IsCalm n m
calm-same n m same =
    record {
      pending = λ v. ap pending_bit (same v);
      owned = λ v value is. sym (ap owned_value (same v)) ∙ is;
    }

-- the entry of one word changes
pub calm-at : (n m : NodeParts) (w : ℕ) (e : Option Entry) → ((v : ℕ) → entry_of m v ≡ cond (w == v) e (entry_of n v)) → pending_bit e ≡ pending_bit (entry_of n w)
    → ((value : ℕ) → owned_value e ≡ Some value → owned_value (entry_of n w) ≡ Some value) → IsCalm n m
calm-at n m w e now pending owned =
    record {
      pending = λ v. by_pending v (w == v) refl;
      owned = λ v value. by_owned v value (w == v) refl;
    }
  where
    by_pending : (v : ℕ) (x : Bool) → (w == v) ≡ x → pending_bit (entry_of m v) ≡ pending_bit (entry_of n v)
    by_pending v true f = ap pending_bit (rw (f) at (now v)) ∙ subst (λ (x : ℕ). pending_bit e ≡ pending_bit (entry_of n x)) (eqb-true w v f) pending
    by_pending v false f = ap pending_bit (rw (f) at (now v))

    by_owned : (v value : ℕ) (x : Bool) → (w == v) ≡ x → owned_value (entry_of m v) ≡ Some value → owned_value (entry_of n v) ≡ Some value
    by_owned v value true f is =
        subst (λ (x : ℕ). owned_value (entry_of n x) ≡ Some value) (eqb-true w v f) (owned value (sym (ap owned_value (rw (f) at (now v))) ∙ is))
    by_owned v value false f is = sym (ap owned_value (rw (f) at (now v))) ∙ is

-- an entry that is there becomes another
pub changed-now : (n : NodeParts) (w : ℕ) (old e : Entry) → entry_of n w ≡ Some old → (v : ℕ) → entry_of (with_entry n w e) v ≡ cond (w == v) (Some e) (entry_of n v)
changed-now n w old e is v = lookup-changed w v e n.cache.pairs ∙ ap (λ (o : Option Entry). cond (w == v) (option_map (λ (_ : Entry). e) o) (entry_of n v)) is

-- the end of a phase and a grant take copies alone
pub calm-entries : (n m : NodeParts) (f : ℕ → Option Entry → Option Entry) → ((v : ℕ) → entry_of m v ≡ f v (entry_of n v)) → ((v : ℕ) (e : Option Entry) → pending_bit (f v e) ≡ pending_bit e)
    → ((v : ℕ) (e : Option Entry) → owned_value (f v e) ≡ owned_value e) → IsCalm n m
calm-entries n m f now pending owned =
    record {
      pending = λ v. ap pending_bit (now v) ∙ pending v (entry_of n v);
      owned = λ v value is. sym (owned v (entry_of n v)) ∙ (sym (ap owned_value (now v)) ∙ is);
    }

pub phase-pending : (words : List Interval) (w : ℕ) (e : Option Entry) → pending_bit (entry_after_phase words w e) ≡ pending_bit e
phase-pending words w None = refl
phase-pending words w (Some (Valid value true)) = refl
phase-pending words w (Some (Valid value false)) = by_test (has words w) where
  by_test : (x : Bool) → pending_bit (cond (false || not x) (Some (Valid value false)) None) ≡ 0
  by_test true = refl
  by_test false = refl
phase-pending words w (Some (Registered value pending)) = refl
phase-pending words w (Some (Leaving value)) = refl

pub phase-owned : (words : List Interval) (w : ℕ) (e : Option Entry) → owned_value (entry_after_phase words w e) ≡ owned_value e
phase-owned words w None = refl
phase-owned words w (Some (Valid value true)) = refl
phase-owned words w (Some (Valid value false)) = by_test (has words w) where
  by_test : (x : Bool) → owned_value (cond (false || not x) (Some (Valid value false)) None) ≡ None
  by_test true = refl
  by_test false = refl
phase-owned words w (Some (Registered value pending)) = refl
phase-owned words w (Some (Leaving value)) = refl

pub grant-pending : (s : Signature) (phase : ℕ) (words : List Interval) (w : ℕ) (e : Option Entry) → pending_bit (entry_after_grant s phase words w e) ≡ pending_bit e
grant-pending s phase words w None = refl
grant-pending s phase words w (Some (Valid value marked)) = by_test (has words w && may_hold s w phase) where
  by_test : (x : Bool) → pending_bit (cond x None (Some (Valid value marked))) ≡ 0
  by_test true = refl
  by_test false = refl
grant-pending s phase words w (Some (Registered value pending)) = refl
grant-pending s phase words w (Some (Leaving value)) = refl

pub grant-owned : (s : Signature) (phase : ℕ) (words : List Interval) (w : ℕ) (e : Option Entry) → owned_value (entry_after_grant s phase words w e) ≡ owned_value e
grant-owned s phase words w None = refl
grant-owned s phase words w (Some (Valid value marked)) = by_test (has words w && may_hold s w phase) where
  by_test : (x : Bool) → owned_value (cond x None (Some (Valid value marked))) ≡ None
  by_test true = refl
  by_test false = refl
grant-owned s phase words w (Some (Registered value pending)) = refl
grant-owned s phase words w (Some (Leaving value)) = refl

-- ---- the same of a state

pub record IsCalmState (S T : State) : Type 0 where
  pub pending : (d v : ℕ) → pending_bit (entry_at T d v) ≡ pending_bit (entry_at S d v)
  pub owned : (d v value : ℕ) → owned_value (entry_at T d v) ≡ Some value → owned_value (entry_at S d v) ≡ Some value

pub entry-own : (S : State) (core d : ℕ) (n : NodeParts) (v : ℕ) → slice_get S.nodes core ≡ Some n → (core == d) ≡ true → entry_at S d v ≡ entry_of n v
entry-own S core d n v found e = subst (λ (x : ℕ). entry_at S x v ≡ entry_of n v) (eqb-true core d e) (ap (entry_in v) found)

pub calm-node : (S T : State) (core : ℕ) (n m : NodeParts) (left sent : Option Outgoing) → NodeStep S T core n m left sent → IsCalm n m → IsCalmState S T
calm-node S T core n m left sent step calm =
    record {
      pending = λ d v. by_pending d v (core == d) refl;
      owned = λ d v value. by_owned d v value (core == d) refl;
    }
  where
    by_pending : (d v : ℕ) (x : Bool) → (core == d) ≡ x → pending_bit (entry_at T d v) ≡ pending_bit (entry_at S d v)
    by_pending d v true e =
        ap pending_bit (rw (e) at (entry-node S T core n m left sent step d v)) ∙ calm.pending v ∙ sym (ap pending_bit (entry-own S core d n v step.found e))
    by_pending d v false e = ap pending_bit (rw (e) at (entry-node S T core n m left sent step d v))

    by_owned : (d v value : ℕ) (x : Bool) → (core == d) ≡ x → owned_value (entry_at T d v) ≡ Some value → owned_value (entry_at S d v) ≡ Some value
    by_owned d v value true e is =
        ap owned_value (entry-own S core d n v step.found e) ∙ calm.owned v value (sym (ap owned_value (rw (e) at (entry-node S T core n m left sent step d v))) ∙ is)
    by_owned d v value false e is = sym (ap owned_value (rw (e) at (entry-node S T core n m left sent step d v))) ∙ is

pub calm-nodes : (S T : State) → T.nodes ≡ S.nodes → IsCalmState S T
calm-nodes S T nodes =
    record {
      pending = λ d v. ap pending_bit (same d v);
      owned = λ d v value is. sym (ap owned_value (same d v)) ∙ is;
    }
  where
    same : (d v : ℕ) → entry_at T d v ≡ entry_at S d v
    same d v = ap (λ (ns : List NodeParts). entry_in v (slice_get ns d)) nodes
