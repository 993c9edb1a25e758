-- The reasons for which a copy may be old, and what an event leaves of them.
use Rattle.std.proofs.Common.{◌≡◌, ◌⊎◌, inl, inr, ℕ, zero, suc, ◌+◌, ◌≤◌, ◌==◌, Bool, true, false, cond, List, [], ◌∷◌, slice_get, sum_by, Option, Some, None, refl, sym, ap, ◌∙◌, arith}
use Rattle.std.proofs.lemmas.Bool.Decides.{nat_tests}
use Rattle.std.proofs.lemmas.List.Sums.{sum_by-cons}
use Rattle.message_net.specs.declared.message.Outgoing.{Outgoing}
use Rattle.registration_protocol.specs.Node.{NodeParts}
use Rattle.machine_rules.specs.State.{State, entry_in, entry_at}
use Rattle.machine_rules.specs.Coherent.{UsesPlainly, IsBehind, HasWriter, holds_lock, has_lock}
use Rattle.machine_rules.proofs.Bits.{passes}
use Rattle.machine_rules.proofs.Invariant.{CopiesGood, MayHaveWritten, MayBeOld, carriers, carried_by, is_carrying}
use Rattle.machine_rules.proofs.Steps.{NodeStep}

-- ---- sums over the nodes

sum-same : (f : NodeParts → ℕ) (xs ys : List NodeParts) → ((d : ℕ) → slice_get ys d ≡ slice_get xs d) → sum_by f ys ≡ sum_by f xs
sum-same f [] [] same = refl
sum-same f [] (y ∷ ys) same = let wrong = same 0 in absurd (cc)
sum-same f (x ∷ xs) [] same = let wrong = same 0 in absurd (cc)
sum-same f (x ∷ xs) (y ∷ ys) same =
    let head : y ≡ x = some-same y x (same 0) in
    omega (arith, ap f head, sum-same f xs ys (λ d. same (suc d)), sum_by-cons f x xs, sum_by-cons f y ys)
  where
    some-same : (a b : NodeParts) → Some a ≡ Some b → a ≡ b
    some-same a b e = cc

-- one of them becomes another
pub sum-changed : (f : NodeParts → ℕ) (xs ys : List NodeParts) (i : ℕ) (n m : NodeParts) → slice_get xs i ≡ Some n
    → ((d : ℕ) → slice_get ys d ≡ cond (i == d) (Some m) (slice_get xs d)) → sum_by f ys + f n ≡ sum_by f xs + f m
sum-changed f [] ys i n m found now = absurd (cc)
sum-changed f (x ∷ xs) [] i n m found now = absurd (by_test (i == 0) (now 0)) where
  by_test : (t : Bool) → None ≡ cond t (Some m) (Some x) → ⊥
  by_test true e = cc
  by_test false e = cc
sum-changed f (x ∷ xs) (y ∷ ys) zero n m found now =
    let head : y ≡ m = some-same y m (now 0) in
    let old : x ≡ n = some-same x n found in
    omega (arith, ap f head, ap f old, sum-same f xs ys (λ d. rest d), sum_by-cons f x xs, sum_by-cons f y ys)
  where
    some-same : (a b : NodeParts) → Some a ≡ Some b → a ≡ b
    some-same a b e = cc

    rest : (d : ℕ) → slice_get ys d ≡ slice_get xs d
    rest d = let apart : (0 == suc d) ≡ false = grind (arith, nat_tests) in rw (apart) at (now (suc d))
sum-changed f (x ∷ xs) (y ∷ ys) (suc i) n m found now =
    let apart : (suc i == 0) ≡ false = grind (arith, nat_tests) in
    let head : y ≡ x = some-same y x (rw (apart) at (now 0)) in
    omega (arith, ap f head, sum-changed f xs ys i n m found (λ d. rest d), sum_by-cons f x xs, sum_by-cons f y ys)
  where
    some-same : (a b : NodeParts) → Some a ≡ Some b → a ≡ b
    some-same a b e = cc

    rest : (d : ℕ) → slice_get ys d ≡ cond (i == d) (Some m) (slice_get xs d)
    rest d = let same : (suc i == suc d) ≡ (i == d) = grind (arith, nat_tests) in rw (same) at (now (suc d))

-- ---- how many signatures of a lock have a word

pub carriers-node : (S T : State) (core : ℕ) (n m : NodeParts) (left sent : Option Outgoing) → NodeStep S T core n m left sent → (l w : ℕ)
    → carriers T l w + (carried_by l w S.keeper.phase n + passes (is_carrying l w S.keeper.phase) left)
    ≡ carriers S l w + (carried_by l w S.keeper.phase m + passes (is_carrying l w S.keeper.phase) sent)
carriers-node S T core n m left sent step l w =
    rw (step.keeper, step.setting, step.banks)
    (omega (arith, sum-changed (carried_by l w S.keeper.phase) S.nodes T.nodes core n m step.found step.nodes, step.flown (is_carrying l w S.keeper.phase)))

-- ---- reasons

-- what an event leaves of a core c: its phase and the keeper's, and it holds no more locks than before
pub record LeavesCore (S T : State) (c : ℕ) : Type 0 where
  pub setting : T.setting ≡ S.setting
  pub keeper : T.keeper.phase ≡ S.keeper.phase
  pub node : (n : NodeParts) → slice_get S.nodes c ≡ Some n → (m : NodeParts) × (slice_get T.nodes c ≡ Some m) × (m.phase ≡ n.phase)
  pub unheld : (l : ℕ) → has_lock S c l ≡ false → has_lock T c l ≡ false

pub uses-kept : (S T : State) (c w : ℕ) → T.setting ≡ S.setting → ((n : NodeParts) → slice_get S.nodes c ≡ Some n → (m : NodeParts) × (slice_get T.nodes c ≡ Some m) × (m.phase ≡ n.phase))
    → UsesPlainly S c w → UsesPlainly T c w
uses-kept S T c w setting node uses =
    let now = node uses.node uses.found in
    record {
      node = now.0;
      found = now.1;
      decl = uses.decl;
      declares = rw (setting, now.2) uses.declares;
      plain = uses.plain;
    }

pub behind-kept : (S T : State) (c w : ℕ) (marked : Bool) → T.setting ≡ S.setting → T.keeper.phase ≡ S.keeper.phase
    → ((n : NodeParts) → slice_get S.nodes c ≡ Some n → (m : NodeParts) × (slice_get T.nodes c ≡ Some m) × (m.phase ≡ n.phase)) → IsBehind S c w marked → IsBehind T c w marked
behind-kept S T c w marked setting keeper node behind =
    let now = node behind.node behind.found in
    record {
      node = now.0;
      found = now.1;
      phase = omega (arith, now.2, behind.phase, keeper);
      written = rw (setting, now.2) behind.written;
      unmarked = behind.unmarked;
    }

pub writer-kept : (S T : State) (c w : ℕ) → T.setting ≡ S.setting → T.keeper.phase ≡ S.keeper.phase → HasWriter S c w → HasWriter T c w
writer-kept S T c w setting keeper writer =
    record {
      core = writer.core;
      other = writer.other;
      decl = writer.decl;
      declares = rw (setting, keeper) writer.declares;
      writes = writer.writes;
    }

pub guarded-kept : (S T : State) (c w : ℕ) → T.setting ≡ S.setting → T.keeper.phase ≡ S.keeper.phase → (may : MayHaveWritten S c w) → has_lock T c may.lock ≡ false
    → 1 ≤ carriers T may.lock w → MayHaveWritten T c w
guarded-kept S T c w setting keeper may unheld signed =
    record {
      core = may.core;
      other = may.other;
      decl = may.decl;
      declares = rw (setting, keeper) may.declares;
      lock = may.lock;
      writes = may.writes;
      unheld = unheld;
      signed = signed;
    }

pub reason-kept : (S T : State) (c w : ℕ) (marked : Bool) → LeavesCore S T c → ((l : ℕ) → 1 ≤ carriers S l w → 1 ≤ carriers T l w) → MayBeOld S c w marked → MayBeOld T c w marked
reason-kept S T c w marked h signed (inl behind) = inl (behind-kept S T c w marked h.setting h.keeper h.node behind)
reason-kept S T c w marked h signed (inr (inl writer)) = inr (inl (writer-kept S T c w h.setting h.keeper writer))
reason-kept S T c w marked h signed (inr (inr may)) = inr (inr (guarded-kept S T c w h.setting h.keeper may (h.unheld may.lock may.unheld) (signed may.lock may.signed)))

-- ---- an event that leaves all nodes

pub copies-still : (S T : State) (M : ℕ → ℕ) → CopiesGood S M → T.setting ≡ S.setting → T.nodes ≡ S.nodes → T.keeper.phase ≡ S.keeper.phase
    → ((l w : ℕ) → 1 ≤ carriers S l w → 1 ≤ carriers T l w) → CopiesGood T M
copies-still S T M g setting nodes keeper signed =
    record {
      marked = λ c w value is. uses-kept S T c w setting (node c) (g.marked c w value (sym (entries c w) ∙ is));
      fresh = λ c w value marked is. by_reason c w value marked (g.fresh c w value marked (sym (entries c w) ∙ is));
    }
  where
    entries : (c w : ℕ) → entry_at T c w ≡ entry_at S c w
    entries c w = ap (λ (ns : List NodeParts). entry_in w (slice_get ns c)) nodes

    node : (c : ℕ) (n : NodeParts) → slice_get S.nodes c ≡ Some n → (m : NodeParts) × (slice_get T.nodes c ≡ Some m) × (m.phase ≡ n.phase)
    node c n found = (n, ap (λ (ns : List NodeParts). slice_get ns c) nodes ∙ found, refl)

    leaves : (c : ℕ) → LeavesCore S T c
    leaves c = record { setting = setting; keeper = keeper; node = node c; unheld = λ l none. ap (λ (ns : List NodeParts). holds_lock l (slice_get ns c)) nodes ∙ none }

    by_reason : (c w value : ℕ) (marked : Bool) → (value ≡ M w) ⊎ MayBeOld S c w marked → (value ≡ M w) ⊎ MayBeOld T c w marked
    by_reason c w value marked (inl same) = inl same
    by_reason c w value marked (inr old) = inr (reason-kept S T c w marked (leaves c) (λ l. signed l w) old)
