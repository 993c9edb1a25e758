-- The actors of a machine: each stands once among them.
use Rattle.std.proofs.Common.{◌≡◌, ℕ, zero, suc, ◌+◌, ◌<◌, ◌==◌, nat_lt, cond, [], ◌∷◌, ◌++◌, map, get_or, refl, ap, subst, ◌∙◌, arith}
use Rattle.std.specs.Prelude.{sum_by, count_by, All}
use Rattle.std.specs.List.{range_with_len}
use Rattle.std.proofs.lemmas.Bool.Decides.{nat_tests}
use Rattle.std.proofs.lemmas.List.Sums.{sum_by-append, sum_by-cons}
use Rattle.std.proofs.lemmas.List.Elements.{All-nil, All-cons, All-append, All-map}
use Rattle.message_net.specs.declared.actor.Actor.{Actor}
use Rattle.message_net.specs.declared.actor.Actor.TheVariants.{Core, Bank, Keeper}
use Rattle.message_net.specs.Id.{same_actor}
use Rattle.message_net.specs.Mail.{has_actor}
use Rattle.registration_protocol.specs.Node.{Setting}
use Rattle.machine_rules.specs.Flight.{bit}
use Rattle.host_workers.specs.Members.{IsIn}
use Rattle.host_workers.specs.Rounds.{actors, core_at, bank_at}
use Rattle.std.proofs.lemmas.Option.{slice_get_within, get_or_from_slice_get}
use Rattle.message_net.proofs.PoolLemmas.{same_actor-true}
use Rattle.host_workers.proofs.SameMails.{passes}
use Rattle.host_workers.proofs.Weights.{sum-map, sum-zero, count-range, somewhere}
use Rattle.host_workers.proofs.Numbers.{is-below}

abbrev one_of : Actor → Actor → ℕ
one_of b a = cond (same_actor a b) 1 0

in_range : (m n : ℕ) → sum_by (λ k. cond (k == m) 1 0) (range_with_len 0 n) ≡ bit (nat_lt m n)
in_range m n =
    let count = count-range m 0 n in
    grind (arith, nat_tests, count)

-- among the cores, and among the banks
cores_with : (n : ℕ) (b : Actor) (m : ℕ) → sum_by (λ k. one_of b (core_at k)) (range_with_len 0 n) ≡ m → sum_by (one_of b) (map core_at (range_with_len 0 n)) ≡ m
cores_with n b m e = sum-map (one_of b) core_at (range_with_len 0 n) ∙ e

banks_with : (n : ℕ) (b : Actor) (m : ℕ) → sum_by (λ k. one_of b (bank_at k)) (range_with_len 0 n) ≡ m → sum_by (one_of b) (map bank_at (range_with_len 0 n)) ≡ m
banks_with n b m e = sum-map (one_of b) bank_at (range_with_len 0 n) ∙ e

all_with : (C : Setting) (b : Actor) (m n : ℕ) → sum_by (one_of b) (map core_at (range_with_len 0 C.shape.cores)) ≡ m → sum_by (one_of b) (map bank_at (range_with_len 0 C.shape.banks)) ≡ n
    → count_by (λ a. same_actor a b) (actors C) ≡ m + (n + one_of b Keeper)
all_with C b m n cores banks =
    let last = sum_by-cons (one_of b) Keeper [] in
    sum_by-append (one_of b) (map core_at (range_with_len 0 C.shape.cores)) (map bank_at (range_with_len 0 C.shape.banks) ++ Keeper ∷ [])
    ∙ omega (arith, cores, banks, last, sum_by-append (one_of b) (map bank_at (range_with_len 0 C.shape.banks)) (Keeper ∷ []))

-- each actor stands once among those of the machine if it is one of them, and else never
pub actor-once : (C : Setting) (b : Actor) → count_by (λ a. same_actor a b) (actors C) ≡ bit (has_actor C.shape.cores C.shape.banks b)
actor-once C (Core core) =
    let cores = cores_with C.shape.cores (Core core) (bit (nat_lt core.0 C.shape.cores)) (in_range core.0 C.shape.cores) in
    let banks = banks_with C.shape.banks (Core core) 0 (sum-zero (λ k. 0) (range_with_len 0 C.shape.banks) (λ k d within. refl)) in
    all_with C (Core core) (bit (nat_lt core.0 C.shape.cores)) 0 cores banks ∙ omega arith
actor-once C (Bank bank) =
    let cores = cores_with C.shape.cores (Bank bank) 0 (sum-zero (λ k. 0) (range_with_len 0 C.shape.cores) (λ k d within. refl)) in
    let banks = banks_with C.shape.banks (Bank bank) (bit (nat_lt bank.0 C.shape.banks)) (in_range bank.0 C.shape.banks) in
    all_with C (Bank bank) 0 (bit (nat_lt bank.0 C.shape.banks)) cores banks ∙ omega arith
actor-once C Keeper =
    let cores = cores_with C.shape.cores Keeper 0 (sum-zero (λ k. 0) (range_with_len 0 C.shape.cores) (λ k d within. refl)) in
    let banks = banks_with C.shape.banks Keeper 0 (sum-zero (λ k. 0) (range_with_len 0 C.shape.banks) (λ k d within. refl)) in
    all_with C Keeper 0 0 cores banks

-- numbers of a range
ranged : (P : ℕ → Type 0) (a n : ℕ) → ((k : ℕ) → k < a + n → P k) → All P (range_with_len a n)
ranged P a zero each = All-nil P
ranged P a (suc n) each = All-cons P a (range_with_len (a + 1) n) (each a (omega arith)) (ranged P (a + 1) n (λ k below. each k (omega (arith, below))))

pub in-range : (P : ℕ → Type 0) (n : ℕ) → ((k : ℕ) → k < n → P k) → All P (range_with_len 0 n)
in-range P n each = ranged P 0 n (λ k below. each k (omega (arith, below)))

pub all-inside : (C : Setting) → All (IsIn C) (actors C)
all-inside C =
    All-append (IsIn C) (map core_at (range_with_len 0 C.shape.cores)) (map bank_at (range_with_len 0 C.shape.banks) ++ Keeper ∷ [])
    (All-map (IsIn C) core_at (range_with_len 0 C.shape.cores) (in-range (λ k. IsIn C (core_at k)) C.shape.cores (λ k h. is-below k C.shape.cores h)))
    (All-append (IsIn C) (map bank_at (range_with_len 0 C.shape.banks)) (Keeper ∷ [])
    (All-map (IsIn C) bank_at (range_with_len 0 C.shape.banks) (in-range (λ k. IsIn C (bank_at k)) C.shape.banks (λ k h. is-below k C.shape.banks h)))
    (All-cons (IsIn C) Keeper [] refl (All-nil (IsIn C))))

-- what holds of all actors of the machine holds of each
pub each-actor : (C : Setting) (P : Actor → Type 0) → All P (actors C) → (a : Actor) → IsIn C a → P a
each-actor C P all a inside =
    let once : count_by (λ b. same_actor b a) (actors C) ≡ 1 = actor-once C a ∙ ap bit inside in
    let found = somewhere (λ b. bit (same_actor b a)) (actors C) (omega (arith, once)) in
    let is : found.1 ≡ a = same_actor-true found.1 a (passes (same_actor found.1 a) found.3) in
    let here : get_or (actors C) found.0 found.1 ≡ found.1 = get_or_from_slice_get (actors C) found.0 found.1 found.1 found.2 in
    subst P (here ∙ is) (all found.0 found.1 (slice_get_within (actors C) found.0 found.1 found.2))
