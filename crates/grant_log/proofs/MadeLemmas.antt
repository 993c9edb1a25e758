-- How logs are made, entry by entry and log by log.
use Rattle.std.proofs.Common.{◌≡◌, ◌≢◌, ◌<◌, List, [], ◌∷◌, sym, ap, ◌∙◌, arith}
use Rattle.std.specs.Prelude.{All, AllPairs}
use Rattle.std.proofs.lemmas.List.Elements.{All-cons}
use Rattle.std.proofs.lemmas.List.Kept.{AllPairs-cons}
use Rattle.message_net.specs.declared.actor.Actor.{Actor}
use Rattle.message_net.specs.declared.actor.Actor.TheVariants.{Core, Bank}
use Rattle.dn_base.specs.declared.ids.BankId.{BankId}
use Rattle.dn_base.specs.declared.ids.CoreId.{CoreId}
use Rattle.message_net.specs.Order.{group, number}
use Rattle.grant_log.specs.declared.log.Stamped.{Stamped}
use Rattle.grant_log.specs.Log.{IsLog, AreOfOtherActors, AreLogs}

nothing : {X : Type 0} (P : X → Type 0) → All P []
nothing P k d within = absurd (omega arith)

no_pairs : {X : Type 0} (R : X → X → Type 0) → AllPairs R []
no_pairs R i j d before within = absurd (omega arith)

-- no log
pub no_logs : AreLogs []
no_logs = record { each = nothing IsLog; apart = no_pairs AreOfOtherActors }

-- one more log
pub one_more_log : (log : List Stamped) (logs : List (List Stamped)) → IsLog log → All (AreOfOtherActors log) logs → AreLogs logs → AreLogs (log ∷ logs)
one_more_log log logs is apart are =
    record { each = All-cons IsLog log logs is are.each; apart = AllPairs-cons AreOfOtherActors log logs apart are.apart }

-- logs of different actors are apart
pub apart_by_actors : (a b : Actor) (log other : List Stamped) → a ≢ b → All (λ (e : Stamped). e.actor ≡ a) log → All (λ (e : Stamped). e.actor ≡ b) other → AreOfOtherActors log other
apart_by_actors a b log other differ of_a of_b k d within n e inside same = differ (sym (of_a k d within) ∙ same ∙ of_b n e inside)

-- logs of one and of two entries
pub one_entry : (e : Stamped) → IsLog (e ∷ [])
one_entry e = AllPairs-cons (λ (a b : Stamped). (a.actor ≡ b.actor) × (a.stamp < b.stamp)) e [] (nothing (λ b. (e.actor ≡ b.actor) × (e.stamp < b.stamp))) (no_pairs (λ (a b : Stamped). (a.actor ≡ b.actor) × (a.stamp < b.stamp)))

pub two_entries : (d e : Stamped) → d.actor ≡ e.actor → d.stamp < e.stamp → IsLog (d ∷ e ∷ [])
two_entries d e same less =
    AllPairs-cons (λ (a b : Stamped). (a.actor ≡ b.actor) × (a.stamp < b.stamp)) d (e ∷ [])
    (All-cons (λ b. (d.actor ≡ b.actor) × (d.stamp < b.stamp)) e [] (same, less) (nothing (λ b. (d.actor ≡ b.actor) × (d.stamp < b.stamp)))) (one_entry e)

-- who made the entries of a log
pub made_one : (a : Actor) (e : Stamped) → e.actor ≡ a → All (λ (x : Stamped). x.actor ≡ a) (e ∷ [])
made_one a e is = All-cons (λ (x : Stamped). x.actor ≡ a) e [] is (nothing (λ (x : Stamped). x.actor ≡ a))

pub made_two : (a : Actor) (d e : Stamped) → d.actor ≡ a → e.actor ≡ a → All (λ (x : Stamped). x.actor ≡ a) (d ∷ e ∷ [])
made_two a d e is also = All-cons (λ (x : Stamped). x.actor ≡ a) d (e ∷ []) is (made_one a e also)

-- a bank is no core, and cores differ by number
pub bank_is_no_core : (bank : BankId) (core : CoreId) → Bank bank ≢ Core core
bank_is_no_core bank core e =
    let groups : group (Bank bank) ≡ group (Core core) = ap group e in
    absurd (omega (arith, groups))

pub cores_differ : (a b : CoreId) → a.0 ≢ b.0 → Core a ≢ Core b
cores_differ a b differ e = differ (ap number e)

-- three logs, of one entry and of two and two
pub three_logs : (a b c : Actor) (x y z v w : Stamped) → a ≢ b → a ≢ c → b ≢ c → x.actor ≡ a → y.actor ≡ b → z.actor ≡ b → v.actor ≡ c → w.actor ≡ c
    → y.stamp < z.stamp → v.stamp < w.stamp → AreLogs ((x ∷ []) ∷ (y ∷ z ∷ []) ∷ (v ∷ w ∷ []) ∷ [])
three_logs a b c x y z v w ab ac bc xa yb zb vc wc rises also =
    one_more_log (x ∷ []) ((y ∷ z ∷ []) ∷ (v ∷ w ∷ []) ∷ []) (one_entry x)
    (All-cons (AreOfOtherActors (x ∷ [])) (y ∷ z ∷ []) ((v ∷ w ∷ []) ∷ []) (apart_by_actors a b (x ∷ []) (y ∷ z ∷ []) ab (made_one a x xa) (made_two b y z yb zb))
    (All-cons (AreOfOtherActors (x ∷ [])) (v ∷ w ∷ []) [] (apart_by_actors a c (x ∷ []) (v ∷ w ∷ []) ac (made_one a x xa) (made_two c v w vc wc)) (nothing (AreOfOtherActors (x ∷ [])))))
    (one_more_log (y ∷ z ∷ []) ((v ∷ w ∷ []) ∷ []) (two_entries y z (yb ∙ sym zb) rises)
    (All-cons (AreOfOtherActors (y ∷ z ∷ [])) (v ∷ w ∷ []) [] (apart_by_actors b c (y ∷ z ∷ []) (v ∷ w ∷ []) bc (made_two b y z yb zb) (made_two c v w vc wc)) (nothing (AreOfOtherActors (y ∷ z ∷ []))))
    (one_more_log (v ∷ w ∷ []) [] (two_entries v w (vc ∙ sym wc) also) (nothing (AreOfOtherActors (v ∷ w ∷ []))) no_logs))
