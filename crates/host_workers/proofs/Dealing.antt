-- How a roster is dealt out to crews, and gathered again.
use Rattle.std.proofs.Common.{◌≡◌, ◌≢◌, ℕ, zero, suc, ◌+◌, ◌<◌, ◌≤◌, ◌%◌, ◌==◌, true, List, [], ◌∷◌, ◌++◌, length, take, drop, reverse, slice_get, slice_set, Option, Some, None, if◌then◌else◌, option_map, refl, sym, ap, ◌∙◌, subst, arith, eq-eqb, ne_eqb}
use Rattle.std.proofs.lemmas.Option.{none-some, same_Some, slice_get_within, get_or_from_slice_get}
use Rattle.std.proofs.lemmas.List.{take_more, drop_more, append-nil, reverse-append, reverse-reverse, take_all, drop_all, same_from_push, length_push, length-append}
use Rattle.std.proofs.lemmas.List.Elements.{filter-append}
use Rattle.grant_log.specs.declared.log.Stamped.{Stamped}
use Rattle.message_net.specs.declared.actor.Actor.{Actor}
use Rattle.host_workers.specs.Rounds.{owner}
use Rattle.run_agreement.proofs.Places.{by-place, set-length, get-cases}
use Rattle.host_workers.specs.declared.crew.BankLog.{BankLog}
use Rattle.host_workers.specs.declared.crew.Crew.{Crew}
use Rattle.host_workers.specs.declared.owned.Owned.{Owned}
use Rattle.host_workers.specs.Crews.{keeper_log}
use Rattle.host_workers.specs.Rosters.{RosterParts, IsRoster, IsCrewOf, AreCrewsOf, owned_by, core_actor, bank_actor}

-- what holds of each element at its place, and of one more, holds of all
pub each-push : {X : Type 0} (P : ℕ → X → Type 0) (xs : List X) (x : X) → ((i : ℕ) (y : X) → slice_get xs i ≡ Some y → P i y) → P (length xs) x → (i : ℕ) (y : X) → slice_get (xs ++ x ∷ []) i ≡ Some y → P i y
each-push P [] x each here zero y there = subst (P zero) (same_Some x y there) here
each-push P [] x each here (suc i) y there = absurd (none-some y there)
each-push P (z ∷ zs) x each here zero y there = each zero y there
each-push {X} P (z ∷ zs) x each here (suc i) y there =
    let Behind : ℕ → X → Type 0 = λ k q. P (suc k) q in
    each-push Behind zs x (λ k q at'. each (suc k) q at') here i y there

-- one more is its owner's
pub owned-own : {A : Type 0} (actor : A → Actor) (workers k : ℕ) (xs : List A) (x : A) → owner workers (actor x) ≡ k → owned_by actor workers k (xs ++ x ∷ []) ≡ owned_by actor workers k xs ++ x ∷ []
owned-own {A} actor workers k xs x own =
    let test : (owner workers (actor x) == k) ≡ true = eq-eqb (owner workers (actor x)) k own in
    filter-append (λ (y : A). owner workers (actor y) == k) xs (x ∷ []) ∙ ap (λ (l : List A). owned_by actor workers k xs ++ l) (rw test refl)

-- and no other's
pub owned-other : {A : Type 0} (actor : A → Actor) (workers k : ℕ) (xs : List A) (x : A) → owner workers (actor x) ≢ k → owned_by actor workers k (xs ++ x ∷ []) ≡ owned_by actor workers k xs
owned-other {A} actor workers k xs x other =
    let test = ne_eqb (owner workers (actor x)) k other in
    filter-append (λ (y : A). owner workers (actor y) == k) xs (x ∷ []) ∙ (ap (λ (l : List A). owned_by actor workers k xs ++ l) (rw test refl) ∙ append-nil (owned_by actor workers k xs))

-- a roster of which one crew changes
pub crew-changed : (workers : ℕ) (old new : RosterParts) (crews : List Crew) (place : ℕ) (crew : Crew) → AreCrewsOf workers old crews → IsCrewOf workers new place crew
    → ((k : ℕ) (c : Crew) → k ≢ place → IsCrewOf workers old k c → IsCrewOf workers new k c) → AreCrewsOf workers new (slice_set crews place crew)
crew-changed workers old new crews place crew are own others = record {
  count = set-length crews place crew ∙ are.count;
  each = by-place (IsCrewOf workers new) crews place crew (λ y there. own) (λ k c apart there. others k c apart (are.each k c there));
}

-- a roster of no cores and no banks
abbrev pub nothing : List Stamped → RosterParts
nothing keeper = record { cores = []; banks = []; keeper = keeper }

pub none-begun : (keeper : List Stamped) → AreCrewsOf 0 (nothing keeper) []
none-begun keeper = record { count = refl; each = λ k c there. absurd (none-some c there) }

-- its crews with one more
pub crew-begun : (n : ℕ) (keeper : List Stamped) (crews : List Crew) (crew : Crew) → AreCrewsOf n (nothing keeper) crews → crew.worker ≡ n → crew.cores.items ≡ [] → crew.banks.items ≡ []
    → keeper_log crew ≡ (if n == 0 then Some keeper else None) → AreCrewsOf (n + 1) (nothing keeper) (crews ++ crew ∷ [])
crew-begun n keeper crews crew are worker cores banks log = record {
  count = length_push crews crew ∙ ap (λ m. m + 1) are.count;
  each =
      let one : IsCrewOf (n + 1) (nothing keeper) n crew = record { worker = worker; cores = cores; banks = banks; keeper = log } in
      each-push (IsCrewOf (n + 1) (nothing keeper)) crews crew
      (λ k c there. let had = are.each k c there in record { worker = had.worker; cores = had.cores; banks = had.banks; keeper = had.keeper })
      (subst (λ k. IsCrewOf (n + 1) (nothing keeper) k crew) (sym are.count) one);
}

-- a core is dealt to its owner's crew
pub core-dealt : (workers : ℕ) (roster : RosterParts) (crews : List Crew) (place : ℕ) (owned : Owned) (was now : Crew) → AreCrewsOf workers roster crews → slice_get crews place ≡ Some was
    → owner workers (core_actor owned) ≡ place → now.worker ≡ was.worker → now.cores.items ≡ was.cores.items ++ owned ∷ [] → now.banks.items ≡ was.banks.items → now.keeper ≡ was.keeper
    → AreCrewsOf workers (record roster { cores = roster.cores ++ owned ∷ [] }) (slice_set crews place now)
core-dealt workers roster crews place owned was now are there own worker cores banks keeper =
    let had = are.each place was there in
    crew-changed workers roster (record roster { cores = roster.cores ++ owned ∷ [] }) crews place now are
    (record {
      worker = worker ∙ had.worker;
      cores = cores ∙ (ap (λ (l : List Owned). l ++ owned ∷ []) had.cores ∙ sym (owned-own core_actor workers place roster.cores owned own));
      banks = banks ∙ had.banks;
      keeper = ap (λ k. option_map (λ log. log.items) k) keeper ∙ had.keeper;
    })
    (λ k c apart crew. record {
      worker = crew.worker;
      cores = crew.cores ∙ sym (owned-other core_actor workers k roster.cores owned (λ e. apart (sym e ∙ own)));
      banks = crew.banks;
      keeper = crew.keeper;
    })

-- so is a bank
pub bank-dealt : (workers : ℕ) (roster : RosterParts) (crews : List Crew) (place : ℕ) (owned : BankLog) (was now : Crew) → AreCrewsOf workers roster crews → slice_get crews place ≡ Some was
    → owner workers (bank_actor owned) ≡ place → now.worker ≡ was.worker → now.cores.items ≡ was.cores.items → now.banks.items ≡ was.banks.items ++ owned ∷ [] → now.keeper ≡ was.keeper
    → AreCrewsOf workers (record roster { banks = roster.banks ++ owned ∷ [] }) (slice_set crews place now)
bank-dealt workers roster crews place owned was now are there own worker cores banks keeper =
    let had = are.each place was there in
    crew-changed workers roster (record roster { banks = roster.banks ++ owned ∷ [] }) crews place now are
    (record {
      worker = worker ∙ had.worker;
      cores = cores ∙ had.cores;
      banks = banks ∙ (ap (λ (l : List BankLog). l ++ owned ∷ []) had.banks ∙ sym (owned-own bank_actor workers place roster.banks owned own));
      keeper = ap (λ k. option_map (λ log. log.items) k) keeper ∙ had.keeper;
    })
    (λ k c apart crew. record {
      worker = crew.worker;
      cores = crew.cores;
      banks = crew.banks ∙ sym (owned-other bank_actor workers k roster.banks owned (λ e. apart (sym e ∙ own)));
      keeper = crew.keeper;
    })

-- ---- the other way round
-- the front with one more
pub front-more : {A : Type 0} (xs : List A) (n : ℕ) (x : A) → slice_get xs n ≡ Some x → take (n + 1) xs ≡ take n xs ++ x ∷ []
front-more xs n x there = take_more xs n x (slice_get_within xs n x there) ∙ ap (λ (y : _). take n xs ++ y ∷ []) (get_or_from_slice_get xs n x x there)

-- the rest with one more, turned round
pub rest-more : {A : Type 0} (xs out : List A) (n : ℕ) (x : A) → slice_get xs n ≡ Some x → out ≡ reverse (drop (n + 1) xs) → out ++ x ∷ [] ≡ reverse (drop n xs)
rest-more {A} xs out n x there is =
    let split : drop n xs ≡ x ∷ drop (n + 1) xs = drop_more xs n x (slice_get_within xs n x there) ∙ ap (λ (y : A). y ∷ drop (n + 1) xs) (get_or_from_slice_get xs n x x there) in
    ap (λ (l : List A). l ++ x ∷ []) is ∙ (sym (reverse-append (x ∷ []) (drop (n + 1) xs)) ∙ ap reverse (sym split))

-- the last of a worker's is the last of all
pub last-own : {A : Type 0} (actor : A → Actor) (workers n : ℕ) (xs left : List A) (x y : A) → slice_get xs n ≡ Some x → left ++ y ∷ [] ≡ owned_by actor workers (owner workers (actor x)) (take (n + 1) xs) → (left ≡ owned_by actor workers (owner workers (actor x)) (take n xs)) × (y ≡ x)
last-own {A} actor workers n xs left x y there is =
    let k = owner workers (actor x) in
    same_from_push left (owned_by actor workers k (take n xs)) y x (is ∙ (ap (λ (l : List A). owned_by actor workers k l) (front-more xs n x there) ∙ owned-own actor workers k (take n xs) x refl))

-- the others have what they had
pub others-own : {A : Type 0} (actor : A → Actor) (workers n k : ℕ) (xs : List A) (x : A) → slice_get xs n ≡ Some x → owner workers (actor x) ≢ k → owned_by actor workers k (take (n + 1) xs) ≡ owned_by actor workers k (take n xs)
others-own {A} actor workers n k xs x there other =
    ap (λ (l : List A). owned_by actor workers k l) (front-more xs n x there) ∙ owned-other actor workers k (take n xs) x other

-- the last one's owner has one
pub some-own : {A : Type 0} (actor : A → Actor) (workers n place : ℕ) (xs own : List A) (x : A) → slice_get xs n ≡ Some x → owner workers (actor x) ≡ place → own ≡ owned_by actor workers place (take (n + 1) xs) → 0 < length own
some-own {A} actor workers n place xs own x there is have =
    let more = have ∙ (ap (λ (l : List A). owned_by actor workers place l) (front-more xs n x there) ∙ owned-own actor workers place (take n xs) x is) in
    rw (more, length-append) (omega arith)

-- ---- both
pub no-cores : (cores banks : ℕ) (roster : RosterParts) → IsRoster cores banks roster → IsRoster 0 banks (record roster { cores = [] })
no-cores cores banks roster is = record { core_count = refl; core_at = λ i o there. absurd (none-some o there); bank_count = is.bank_count; bank_at = is.bank_at }

-- what is left once the cores and the banks are taken back
pub all-gathered : (cores banks n : ℕ) (roster : RosterParts) (crews between left : List Crew) (cs : List Owned) (bs : List BankLog) → IsRoster cores banks roster → AreCrewsOf n roster crews → length between ≡ n
    → ((r : RosterParts) (m : ℕ) → IsRoster cores m r → AreCrewsOf n r crews → (cs ≡ r.cores) × AreCrewsOf n (record r { cores = [] }) between)
    → ((r : RosterParts) (m : ℕ) → IsRoster m banks r → AreCrewsOf (length between) r between → (bs ≡ r.banks) × AreCrewsOf (length between) (record r { banks = [] }) left)
    → (cs ≡ roster.cores) × (bs ≡ roster.banks) × AreCrewsOf n (nothing roster.keeper) left
all-gathered cores banks n roster crews between left cs bs is are same first second =
    let one = first roster banks is are in
    let two = second (record roster { cores = [] }) 0 (no-cores cores banks roster is) (subst (λ m. AreCrewsOf m (record roster { cores = [] }) between) (sym same) one.1) in
    (one.0, two.0, subst (λ m. AreCrewsOf m (nothing roster.keeper) left) same two.1)

-- the first crew has the keeper's log
pub first-keeper : (n : ℕ) (roster : RosterParts) (crews : List Crew) (first : Crew) → AreCrewsOf n roster crews → slice_get crews 0 ≡ Some first → keeper_log first ≡ Some roster.keeper
first-keeper n roster crews first are there = (are.each 0 first there).keeper

pub some-mapped : {A B : Type 0} (f : A → B) (o : Option A) (y : B) → option_map f o ≡ Some y → (x : A) × (o ≡ Some x) × (f x ≡ y)
some-mapped f None y is = absurd (none-some y is)
some-mapped f (Some x) y is = (x, refl, same_Some (f x) y is)

-- ---- cores are taken back one by one, the last first: n are left with the crews
abbrev pub CoresBack : ℕ → RosterParts → List Crew → List Owned → ℕ → Type 0
CoresBack workers roster crews out n = (out ≡ reverse (drop n roster.cores)) × AreCrewsOf workers (record roster { cores = take n roster.cores }) crews

pub cores-begun : (workers n : ℕ) (roster : RosterParts) (crews : List Crew) (out : List Owned) → length roster.cores ≤ n → out ≡ [] → AreCrewsOf workers roster crews → CoresBack workers roster crews out n
cores-begun workers n roster crews out long none are =
    (none ∙ ap reverse (sym (drop_all n roster.cores long)), subst (λ l. AreCrewsOf workers (record roster { cores = l }) crews) (sym (take_all n roster.cores long)) are)

pub cores-ended : (workers n : ℕ) (roster : RosterParts) (crews : List Crew) (out : List Owned) → n ≡ 0 → CoresBack workers roster crews out n → (reverse out ≡ roster.cores) × AreCrewsOf workers (record roster { cores = [] }) crews
cores-ended workers n roster crews out none back =
    let all : CoresBack workers roster crews out 0 = subst (λ m. CoresBack workers roster crews out m) none back in
    (ap reverse all.0 ∙ reverse-reverse roster.cores, all.1)

next-core : (count others n : ℕ) (roster : RosterParts) → IsRoster count others roster → n < count → (x : Owned) × (slice_get roster.cores n ≡ Some x) × (x.core.0 ≡ n)
next-core count others n roster is within =
    let found = get-cases roster.cores n (omega (arith, is.core_count)) in
    (found.0, found.1, is.core_at n found.0 found.1)

-- the owner of the next one has it
pub core-waits : (count others workers n place : ℕ) (roster : RosterParts) (crews : List Crew) (was : Crew) (out : List Owned) → IsRoster count others roster → n < count → n % workers ≡ place → slice_get crews place ≡ Some was
    → CoresBack workers roster crews out (n + 1) → 0 < length was.cores.items
core-waits count others workers n place roster crews was out is within own there back =
    let found = next-core count others n roster is within in
    some-own core_actor workers n place roster.cores was.cores.items found.0 found.1 (ap (λ m. m % workers) found.2 ∙ own) (back.1.each place was there).cores

pub core-gathered : (count others workers n place : ℕ) (roster : RosterParts) (crews : List Crew) (was now : Crew) (out : List Owned) (y : Owned) → IsRoster count others roster → n < count → n % workers ≡ place → slice_get crews place ≡ Some was
    → was.cores.items ≡ now.cores.items ++ y ∷ [] → now.worker ≡ was.worker → now.banks.items ≡ was.banks.items → now.keeper ≡ was.keeper
    → CoresBack workers roster crews out (n + 1) → CoresBack workers roster (slice_set crews place now) (out ++ y ∷ []) n
core-gathered count others workers n place roster crews was now out y is within at-place there pops worker banks keeper back =
    let found = next-core count others n roster is within in
    let x = found.0 in
    let own : owner workers (core_actor x) ≡ place = ap (λ m. m % workers) found.2 ∙ at-place in
    let had = back.1.each place was there in
    let last = last-own core_actor workers n roster.cores now.cores.items x y found.1 (sym pops ∙ (had.cores ∙ ap (λ k. owned_by core_actor workers k (take (n + 1) roster.cores)) (sym own))) in (
      ap (λ (z : Owned). out ++ z ∷ []) last.1 ∙ rest-more roster.cores out n x found.1 back.0,
      crew-changed workers (record roster { cores = take (n + 1) roster.cores }) (record roster { cores = take n roster.cores }) crews place now back.1
          (record {
            worker = worker ∙ had.worker;
            cores = last.0 ∙ ap (λ k. owned_by core_actor workers k (take n roster.cores)) own;
            banks = banks ∙ had.banks;
            keeper = ap (λ k. option_map (λ log. log.items) k) keeper ∙ had.keeper;
          })
          (λ k c apart crew. record {
            worker = crew.worker;
            cores = crew.cores ∙ others-own core_actor workers n k roster.cores x found.1 (λ e. apart (sym e ∙ own));
            banks = crew.banks;
            keeper = crew.keeper;
          }),
    )

-- ---- banks are taken back one by one, the last first: n are left with the crews
abbrev pub BanksBack : ℕ → RosterParts → List Crew → List BankLog → ℕ → Type 0
BanksBack workers roster crews out n = (out ≡ reverse (drop n roster.banks)) × AreCrewsOf workers (record roster { banks = take n roster.banks }) crews

pub banks-begun : (workers n : ℕ) (roster : RosterParts) (crews : List Crew) (out : List BankLog) → length roster.banks ≤ n → out ≡ [] → AreCrewsOf workers roster crews → BanksBack workers roster crews out n
banks-begun workers n roster crews out long none are =
    (none ∙ ap reverse (sym (drop_all n roster.banks long)), subst (λ l. AreCrewsOf workers (record roster { banks = l }) crews) (sym (take_all n roster.banks long)) are)

pub banks-ended : (workers n : ℕ) (roster : RosterParts) (crews : List Crew) (out : List BankLog) → n ≡ 0 → BanksBack workers roster crews out n → (reverse out ≡ roster.banks) × AreCrewsOf workers (record roster { banks = [] }) crews
banks-ended workers n roster crews out none back =
    let all : BanksBack workers roster crews out 0 = subst (λ m. BanksBack workers roster crews out m) none back in
    (ap reverse all.0 ∙ reverse-reverse roster.banks, all.1)

next-bank : (count others n : ℕ) (roster : RosterParts) → IsRoster others count roster → n < count → (x : BankLog) × (slice_get roster.banks n ≡ Some x) × (x.bank.0 ≡ n)
next-bank count others n roster is within =
    let found = get-cases roster.banks n (omega (arith, is.bank_count)) in
    (found.0, found.1, is.bank_at n found.0 found.1)

-- the owner of the next one has it
pub bank-waits : (count others workers n place : ℕ) (roster : RosterParts) (crews : List Crew) (was : Crew) (out : List BankLog) → IsRoster others count roster → n < count → n % workers ≡ place → slice_get crews place ≡ Some was
    → BanksBack workers roster crews out (n + 1) → 0 < length was.banks.items
bank-waits count others workers n place roster crews was out is within own there back =
    let found = next-bank count others n roster is within in
    some-own bank_actor workers n place roster.banks was.banks.items found.0 found.1 (ap (λ m. m % workers) found.2 ∙ own) (back.1.each place was there).banks

pub bank-gathered : (count others workers n place : ℕ) (roster : RosterParts) (crews : List Crew) (was now : Crew) (out : List BankLog) (y : BankLog) → IsRoster others count roster → n < count → n % workers ≡ place → slice_get crews place ≡ Some was
    → was.banks.items ≡ now.banks.items ++ y ∷ [] → now.worker ≡ was.worker → now.cores.items ≡ was.cores.items → now.keeper ≡ was.keeper
    → BanksBack workers roster crews out (n + 1) → BanksBack workers roster (slice_set crews place now) (out ++ y ∷ []) n
bank-gathered count others workers n place roster crews was now out y is within at-place there pops worker cores keeper back =
    let found = next-bank count others n roster is within in
    let x = found.0 in
    let own : owner workers (bank_actor x) ≡ place = ap (λ m. m % workers) found.2 ∙ at-place in
    let had = back.1.each place was there in
    let last = last-own bank_actor workers n roster.banks now.banks.items x y found.1 (sym pops ∙ (had.banks ∙ ap (λ k. owned_by bank_actor workers k (take (n + 1) roster.banks)) (sym own))) in (
      ap (λ (z : BankLog). out ++ z ∷ []) last.1 ∙ rest-more roster.banks out n x found.1 back.0,
      crew-changed workers (record roster { banks = take (n + 1) roster.banks }) (record roster { banks = take n roster.banks }) crews place now back.1
          (record {
            worker = worker ∙ had.worker;
            banks = last.0 ∙ ap (λ k. owned_by bank_actor workers k (take n roster.banks)) own;
            cores = cores ∙ had.cores;
            keeper = ap (λ k. option_map (λ log. log.items) k) keeper ∙ had.keeper;
          })
          (λ k c apart crew. record {
            worker = crew.worker;
            banks = crew.banks ∙ others-own bank_actor workers n k roster.banks x found.1 (λ e. apart (sym e ∙ own));
            cores = crew.cores;
            keeper = crew.keeper;
          }),
    )
