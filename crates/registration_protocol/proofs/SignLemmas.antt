-- The signature that a node has for each lock, after each event.
use Rattle.std.proofs.Common.{◌≡◌, ℕ, zero, suc, ◌+◌, ◌<◌, ◌==◌, Bool, true, false, cond, ◌&&◌, List, [], ◌∷◌, length, slice_index_or, slice_set, refl, sym, ap, ◌∙◌, subst, arith}
use Rattle.std.specs.List.{All}
use Rattle.std.proofs.Math.ListN.{replicate}
use Rattle.std.proofs.lemmas.Bool.{eqb-true, eqb-false}
use Rattle.std.proofs.lemmas.List.{get_or-set_same, get_or-set_other}
use Rattle.std.proofs.lemmas.List.Elements.{All-replicate, All-head, All-tail}
use Rattle.dn_base.specs.declared.ids.WordId.{WordId}
use Rattle.dn_base.specs.declared.ids.LockId.{LockId}
use Rattle.region_table.specs.Words.{has}
use Rattle.region_table.specs.declared.declared.TaskDecl.{TaskDecl}
use Rattle.rv_core.specs.Access.{is_held}
use Rattle.rv_core.specs.declared.task.TaskState.{TaskState}
use Rattle.write_signature.specs.declared.signature.Signature.{Signature}
use Rattle.write_signature.specs.Signature.{tag, empty, may_hold, inserted, in_phase}
use Rattle.write_signature.proofs.SignatureLemmas.{tag-empty, inserted_holds, inserted_keeps}
use Rattle.word_cache.specs.declared.row.Entry.{Entry}
use Rattle.registration_protocol.specs.Node.{NodeParts, Setting, signature_of}
use Rattle.registration_protocol.specs.Fit.{Fits, IsOfPhase}
use Rattle.registration_protocol.specs.OwnEvents.{noted, noted_at, stored}
use Rattle.registration_protocol.specs.Messages.{holds_now, begins}

all_or : {X : Type 0} (P : X → Type 0) (xs : List X) (i : ℕ) (d : X) → All P xs → P d → P (slice_index_or xs i d)
all_or P [] i d all own = own
all_or P (x ∷ xs) zero d all own = All-head P x xs all
all_or P (x ∷ xs) (suc i) d all own = all_or P xs i d (All-tail P x xs all) own

-- the signature that a node has for a lock is of the node's phase
pub signature-tag : (C : Setting) (n : NodeParts) (lock : ℕ) → Fits C n → tag (signature_of n lock) ≡ n.phase
signature-tag C n lock fit = all_or (IsOfPhase n.phase) n.signatures lock (empty n.phase) fit.tags (tag-empty n.phase)

-- every signature is empty as a phase begins
pub begin-signature : (C : Setting) (n : NodeParts) (phase lock : ℕ) → signature_of (begins C n phase) lock ≡ empty phase
begin-signature C n phase lock =
    let Same : Signature → Type 0 = λ (s : Signature). s ≡ empty phase in
    all_or Same (replicate (length C.program.locks) (empty phase)) lock (empty phase) (All-replicate Same (length C.program.locks) (empty phase) refl) refl

-- a grant gives the lock's signature, and leaves the others
pub grant-signature : (C : Setting) (n : NodeParts) (t : TaskState) (lock : LockId) (s : Signature) (l : ℕ) → lock.0 < length n.signatures
    → signature_of (holds_now C n t lock s).0 l ≡ cond (lock.0 == l) (in_phase n.phase s) (signature_of n l)
grant-signature C n t lock s l within = by_test (lock.0 == l) refl
  where
    by_test : (b : Bool) → (lock.0 == l) ≡ b → slice_index_or (slice_set n.signatures lock.0 (in_phase n.phase s)) l (empty n.phase) ≡ cond b (in_phase n.phase s) (slice_index_or n.signatures l (empty n.phase))
    by_test true test =
        let same : lock.0 ≡ l = eqb-true lock.0 l test in
        subst (λ (k : ℕ). slice_index_or (slice_set n.signatures lock.0 (in_phase n.phase s)) k (empty n.phase) ≡ in_phase n.phase s) same
        (get_or-set_same n.signatures lock.0 (in_phase n.phase s) (empty n.phase) within)
    by_test false test = get_or-set_other n.signatures lock.0 l (in_phase n.phase s) (empty n.phase) (λ e. eqb-false lock.0 l test (sym e))

noted_index : (d : TaskDecl) (held w phase l i : ℕ) (ss : List Signature) (s : Signature) → i < length ss
    → slice_index_or (noted d held w phase l ss) i s ≡ noted_at d held w phase (l + i) (slice_index_or ss i s)
noted_index d held w phase l i [] s within = absurd (omega arith)
noted_index d held w phase l zero (a ∷ ss) s within =
    let same : l ≡ l + 0 = omega arith in
    ap (λ (k : ℕ). noted_at d held w phase k a) same
noted_index d held w phase l (suc i) (a ∷ ss) s within =
    let same : l + 1 + i ≡ l + suc i = omega arith in
    noted_index d held w phase (l + 1) i ss s (omega arith) ∙ ap (λ (k : ℕ). noted_at d held w phase k (slice_index_or ss i s)) same

-- a store notes its word in the signature of each lock
pub store-signature : (C : Setting) (n : NodeParts) (d : TaskDecl) (t : TaskState) (word : WordId) (e : Entry) (lock : ℕ) → lock < length n.signatures
    → signature_of (stored C n d t word e) lock ≡ noted_at d t.held word.0 n.phase lock (signature_of n lock)
store-signature C n d t word e lock within =
    let same : 0 + lock ≡ lock = omega arith in
    noted_index d t.held word.0 n.phase 0 lock n.signatures (empty n.phase) within
    ∙ ap (λ (k : ℕ). noted_at d t.held word.0 n.phase k (slice_index_or n.signatures lock (empty n.phase))) same

-- the signature of a held lock that guards the word for the task's stores has the word then
pub noted-holds : (d : TaskDecl) (held w phase lock : ℕ) (s : Signature) → is_held held lock ≡ true → has (slice_index_or d.effects.guarded_writes lock []) w ≡ true
    → may_hold (noted_at d held w phase lock s) w phase ≡ true
noted-holds d held w phase lock s own guards = rw (own, guards) (inserted_holds s w phase)

-- and each signature keeps what it has of the phase
pub noted-keeps : (d : TaskDecl) (held w phase lock v : ℕ) (s : Signature) → may_hold s v phase ≡ true → may_hold (noted_at d held w phase lock s) v phase ≡ true
noted-keeps d held w phase lock v s has_it = by_test (is_held held lock && has (slice_index_or d.effects.guarded_writes lock []) w)
  where
    by_test : (b : Bool) → may_hold (cond b (inserted s w phase) s) v phase ≡ true
    by_test true = inserted_keeps s v w phase has_it
    by_test false = has_it
