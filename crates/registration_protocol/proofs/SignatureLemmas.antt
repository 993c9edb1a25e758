-- The signatures of a node, one after the other.
use Rattle.std.proofs.Common.{◌≡◌, ℕ, zero, suc, ◌+◌, ◌<◌, ◌≤◌, Bool, true, false, ◌&&◌, cond, List, [], ◌∷◌, ◌++◌, length, drop, take, slice_get, slice_set, slice_index_or, Option, Some, None, refl, sym, ◌∙◌, subst, ap, add-one, arith}
use Rattle.std.proofs.Math.ListN.{replicate}
use Rattle.std.proofs.lemmas.List.Elements.{All-nil, All-cons, All-head, All-tail}
use Rattle.std.specs.List.{All}
use Rattle.std.specs.Option.{option_map}
use Rattle.region_table.specs.Words.{has}
use Rattle.region_table.specs.declared.declared.TaskDecl.{TaskDecl}
use Rattle.rv_core.specs.Access.{is_held}
use Rattle.rv_core.proofs.HeldLemmas.{holds-none}
use Rattle.write_signature.specs.Signature.{tag, inserted}
use Rattle.write_signature.proofs.SignatureLemmas.{tag-inserted}
use Rattle.write_signature.specs.declared.signature.Signature.{Signature}
use Rattle.registration_protocol.specs.Fit.{IsOfPhase}
use Rattle.registration_protocol.specs.OwnEvents.{noted, noted_at}

fill_suc : {X : Type 0} (n : ℕ) (d : List X) (v : X) → n < length d → slice_set (replicate n v ++ drop n d) n v ≡ replicate (suc n) v ++ drop (suc n) d
fill_suc n [] v within = absurd (omega arith)
fill_suc zero (x ∷ d) v within = refl
fill_suc (suc n) (x ∷ d) v within = ap (λ xs. v ∷ xs) (fill_suc n d v (omega arith))

-- one more of a list is overwritten by one value
pub fill_next : {X : Type 0} (n : ℕ) (d : List X) (v : X) → n < length d → slice_set (replicate n v ++ drop n d) n v ≡ replicate (n + 1) v ++ drop (n + 1) d
fill_next n d v within = rw add-one (fill_suc n d v within)

noted_suc : (d : TaskDecl) (held w phase i l : ℕ) (ss : List Signature) (s : Signature) → i < length ss
    → take (suc i) (slice_set ss i (noted_at d held w phase l (slice_index_or ss i s))) ++ noted d held w phase (l + 1) (drop (suc i) (slice_set ss i (noted_at d held w phase l (slice_index_or ss i s))))
    ≡ take i ss ++ noted d held w phase l (drop i ss)
noted_suc d held w phase i l [] s within = absurd (omega arith)
noted_suc d held w phase zero l (a ∷ ss) s within = refl
noted_suc d held w phase (suc i) l (a ∷ ss) s within = ap (λ xs. a ∷ xs) (noted_suc d held w phase i l ss s (omega arith))

-- one more signature is noted
pub noted_next : (d : TaskDecl) (held w phase i : ℕ) (ss : List Signature) (s : Signature) → i < length ss
    → take (i + 1) (slice_set ss i (noted_at d held w phase i (slice_index_or ss i s))) ++ noted d held w phase (i + 1) (drop (i + 1) (slice_set ss i (noted_at d held w phase i (slice_index_or ss i s))))
    ≡ take i ss ++ noted d held w phase i (drop i ss)
noted_next d held w phase i ss s within =
    let more = noted_suc d held w phase i i ss s within in
    let F : ℕ → Type 0 =
    λ k. take k (slice_set ss i (noted_at d held w phase i (slice_index_or ss i s))) ++ noted d held w phase (i + 1) (drop k (slice_set ss i (noted_at d held w phase i (slice_index_or ss i s))))
    ≡ take i ss ++ noted d held w phase i (drop i ss) in
    let next : suc i ≡ i + 1 = omega arith in
    subst F next more

-- a task that holds no lock notes nothing
pub noted-free : (d : TaskDecl) (w phase l : ℕ) (ss : List Signature) → noted d 0 w phase l ss ≡ ss
noted-free d w phase l [] = refl
noted-free d w phase l (s ∷ ss) =
    let one : noted_at d 0 w phase l s ≡ s =
    ap (λ (b : Bool). cond (b && has (slice_index_or d.effects.guarded_writes l []) w) (inserted s w phase) s) (holds-none l) in
    ap (λ (x : Signature). x ∷ noted d 0 w phase (l + 1) ss) one ∙ ap (λ (xs : List Signature). s ∷ xs) (noted-free d w phase (l + 1) ss)

-- there are as many signatures after a store
pub length-noted : (d : TaskDecl) (held w phase l : ℕ) (ss : List Signature) → length (noted d held w phase l ss) ≡ length ss
length-noted d held w phase l [] = refl
length-noted d held w phase l (s ∷ ss) = ap suc (length-noted d held w phase (l + 1) ss)

-- a store's signatures are of the node's phase
noted_tag : (d : TaskDecl) (held w phase l : ℕ) (s : Signature) → tag s ≡ phase → tag (noted_at d held w phase l s) ≡ phase
noted_tag d held w phase l s is = by_test (is_held held l && has (slice_index_or d.effects.guarded_writes l []) w)
  where
    by_test : (b : Bool) → tag (cond b (inserted s w phase) s) ≡ phase
    by_test true = tag-inserted s w phase
    by_test false = is

pub noted-tags : (d : TaskDecl) (held w phase l : ℕ) (ss : List Signature) → All (IsOfPhase phase) ss → All (IsOfPhase phase) (noted d held w phase l ss)
noted-tags d held w phase l [] all = All-nil (IsOfPhase phase)
noted-tags d held w phase l (s ∷ ss) all =
    All-cons (IsOfPhase phase) _ _ (noted_tag d held w phase l s (All-head (IsOfPhase phase) s ss all)) (noted-tags d held w phase (l + 1) ss (All-tail (IsOfPhase phase) s ss all))

-- the signature of a lock after a store
noted_get : (d : TaskDecl) (held w phase l i : ℕ) (ss : List Signature) → slice_get (noted d held w phase l ss) i ≡ option_map (noted_at d held w phase (l + i)) (slice_get ss i)
noted_get d held w phase l i [] = refl
noted_get d held w phase l zero (s ∷ ss) =
    let same : l + 0 ≡ l = omega arith in
    ap (λ (k : ℕ). let o : Option Signature = Some (noted_at d held w phase k s) in o) (sym same)
noted_get d held w phase l (suc i) (s ∷ ss) =
    let same : l + 1 + i ≡ l + suc i = omega arith in
    noted_get d held w phase (l + 1) i ss ∙ ap (λ (k : ℕ). option_map (noted_at d held w phase k) (slice_get ss i)) same

pub noted-get : (d : TaskDecl) (held w phase i : ℕ) (ss : List Signature) → slice_get (noted d held w phase 0 ss) i ≡ option_map (noted_at d held w phase i) (slice_get ss i)
noted-get d held w phase i ss =
    let same : 0 + i ≡ i = omega arith in
    noted_get d held w phase 0 i ss ∙ ap (λ (k : ℕ). option_map (noted_at d held w phase k) (slice_get ss i)) same

-- past the end of a list there is the default
pub none-or : {X : Type 0} (i : ℕ) (xs : List X) (x : X) → slice_get xs i ≡ None → slice_index_or xs i x ≡ x
none-or i [] x e = refl
none-or zero (y ∷ xs) x e = absurd (cc)
none-or (suc i) (y ∷ xs) x e = none-or i xs x e

pub get-past : {X : Type 0} (i : ℕ) (xs : List X) → length xs ≤ i → slice_get xs i ≡ None
get-past i [] past = refl
get-past zero (y ∷ xs) past = absurd (omega arith)
get-past (suc i) (y ∷ xs) past = get-past i xs (omega arith)
