-- Each step and take of a history is a call of the worker that owns the object.
use Rattle.std.proofs.Common.{◌≡◌, ◌≢◌, ℕ, ◌<◌, ◌≤◌, Bool, true, false, ◌==◌, cond, List, [], ◌∷◌, get_or, refl, sym, ap, subst, ◌∙◌, arith}
use Rattle.std.specs.Prelude.{sum_by, filter, All, if◌then◌else◌}
use Rattle.std.specs.List.{range_with_len}
use Rattle.std.proofs.lemmas.Bool.{eqb-true, eqb-false}
use Rattle.std.proofs.lemmas.List.Elements.{filter_passes}
use Rattle.dn_base.specs.declared.ids.Shape.{Shape}
use Rattle.message_net.specs.declared.actor.Actor.{Actor}
use Rattle.message_net.specs.declared.actor.Actor.TheVariants.{Core, Bank, Keeper}
use Rattle.message_net.specs.Mail.{has_actor}
use Rattle.turn_lock.specs.History.{maker}
use Rattle.registration_protocol.specs.Node.{Setting}
use Rattle.machine_rules.specs.State.{State}
use Rattle.grant_log.specs.declared.posted.Posted.{Posted}
use Rattle.bank_hall.specs.Halls.{post_calls}
use Rattle.host_workers.specs.Acts.{Act, Took, Made, Stepped, Kept, is_act_of, act_done, no_calls, try_calls, posting, postings, posted_by, act_calls, calls_in}
use Rattle.host_workers.specs.Rounds.{Round, owner, HaveWorked, core_at, bank_at}
use Rattle.host_workers.specs.Owners.{AreOwners}
use Rattle.host_workers.proofs.Weights.{sum-zero, zero-sum}
use Rattle.host_workers.proofs.Actors.{in-range}
use Rattle.host_workers.proofs.Numbers.{turned}
use Rattle.host_workers.proofs.Shares.{by-passes}
use Rattle.host_workers.proofs.Traces.{sum-only}
use Rattle.host_workers.proofs.Moved.{bank_tried, bank_try, keeper_tried, keeper_try, port_tried, port_try}
use Rattle.host_workers.proofs.Joining.{others-rest}
use Rattle.host_workers.proofs.Beginning.{tried_at, tried-then}

-- posts are no tries, and an act tries its own actor alone
same-none : (t : Bool) (v : ℕ) → cond t v v ≡ v
same-none true v = refl
same-none false v = refl

post-tries : (a to : Actor) (number : ℕ) (p : Posted) (t : Bool) → tried_at a (if t then post_calls number p to else no_calls) ≡ 0
post-tries (Core c) to number p false = refl
post-tries (Bank b) to number p false = refl
post-tries Keeper to number p false = refl
post-tries (Core c) (Core d) number p true = sum-only port_try _ (d.0 == c.0) 0 refl ∙ same-none (d.0 == c.0) 0
post-tries (Core c) (Bank d) number p true = refl
post-tries (Core c) Keeper number p true = refl
post-tries (Bank b) (Core d) number p true = refl
post-tries (Bank b) (Bank d) number p true = sum-only bank_try _ (d.0 == b.0) 0 refl ∙ same-none (d.0 == b.0) 0
post-tries (Bank b) Keeper number p true = refl
post-tries Keeper (Core d) number p true = refl
post-tries Keeper (Bank d) number p true = refl
post-tries Keeper Keeper number p true = refl

no-tries : (a : Actor) → tried_at a no_calls ≡ 0
no-tries (Core c) = refl
no-tries (Bank b) = refl
no-tries Keeper = refl

posts-try : (shape : Shape) (a : Actor) (number : ℕ) (ps : List Posted) → tried_at a (postings shape number ps) ≡ 0
posts-try shape a number [] = no-tries a
posts-try shape a number (p ∷ ps) =
    omega (arith, tried-then a (posting shape number p) (postings shape number ps), post-tries a p.mail.to number p (has_actor shape.cores shape.banks p.mail.to), posts-try shape a number ps)

other-try : (a : Actor) (number : ℕ) (act : Act) → is_act_of a act ≡ false → tried_at a (try_calls number act) ≡ 0
other-try (Core c) number (Took core pick taken) other = sum-only port_try _ (core.0 == c.0) 1 refl ∙ ap (λ t. cond t 1 0) (turned core.0 c.0 ∙ other)
other-try (Core c) number (Made core event done) other = refl
other-try (Core c) number (Stepped bank pick handled) other = refl
other-try (Core c) number (Kept pick answer) other = refl
other-try (Bank b) number (Took core pick taken) other = refl
other-try (Bank b) number (Made core event done) other = refl
other-try (Bank b) number (Stepped bank pick handled) other = sum-only bank_try _ (bank.0 == b.0) 1 refl ∙ ap (λ t. cond t 1 0) (turned bank.0 b.0 ∙ other)
other-try (Bank b) number (Kept pick answer) other = refl
other-try Keeper number (Took core pick taken) other = refl
other-try Keeper number (Made core event done) other = refl
other-try Keeper number (Stepped bank pick handled) other = refl
other-try Keeper number (Kept pick answer) other = absurd (cc)

-- where no act is of an actor, none tries it
none-try : (shape : Shape) (a : Actor) (number : ℕ) (acts : List Act) → filter (is_act_of a) acts ≡ [] → tried_at a (calls_in shape number acts) ≡ 0
none-try shape a number [] none = no-tries a
none-try shape a number (act ∷ acts) none = by_test (is_act_of a act) refl (none-try shape a number acts) where
  by_test : (t : Bool) → is_act_of a act ≡ t → (filter (is_act_of a) acts ≡ [] → tried_at a (calls_in shape number acts) ≡ 0) → tried_at a (calls_in shape number (act ∷ acts)) ≡ 0
  by_test true e rest =
      let never : act ∷ filter (is_act_of a) acts ≡ [] = sym (ap (λ t. cond t (act ∷ filter (is_act_of a) acts) (filter (is_act_of a) acts)) e) ∙ none in
      absurd (cc)
  by_test false e rest =
      let later : filter (is_act_of a) acts ≡ [] = sym (ap (λ t. cond t (act ∷ filter (is_act_of a) acts) (filter (is_act_of a) acts)) e) ∙ none in
      omega (
        arith,
        tried-then a (act_calls shape number act) (calls_in shape number acts),
        tried-then a (try_calls number act) (postings shape number (posted_by (act_done shape act))),
        other-try a number act e,
        posts-try shape a number (posted_by (act_done shape act)),
        rest later,
      )

-- where only one pass tries something, each try is of that pass
module _ {X : Type 0} (pass : X → ℕ) (H : List X) (workers : ℕ) (named : All (λ e. pass e < workers) H) (try : X → ℕ) (own : ℕ) where
  abbrev strange : X → ℕ
  strange e = cond (pass e == own) 0 (try e)

  strange-less : (e : X) → try e ≡ 0 → strange e ≡ 0
  strange-less e none = ap (λ n. cond (pass e == own) 0 n) none ∙ same-none (pass e == own) 0

  pub owned-tries : ((k : ℕ) → k < workers → k ≢ own → sum_by try (filter (λ e. pass e == k) H) ≡ 0) → All (λ e. strange e ≡ 0) H
  owned-tries quiet = zero-sum strange H (sym (by-passes pass H workers named strange) ∙ sum-zero (λ k. sum_by strange (filter (λ e. pass e == k) H)) (range_with_len 0 workers) (in-range (λ k. sum_by strange (filter (λ e. pass e == k) H) ≡ 0) workers share)) where
    share : (k : ℕ) → k < workers → sum_by strange (filter (λ e. pass e == k) H) ≡ 0
    share k below = by_test (k == own) refl where
      by_test : (t : Bool) → (k == own) ≡ t → sum_by strange (filter (λ e. pass e == k) H) ≡ 0
      by_test true e =
          let is : k ≡ own = eqb-true k own e in
          subst (λ j. sum_by strange (filter (λ x. pass x == j) H) ≡ 0) (sym is)
          (sum-zero strange (filter (λ x. pass x == own) H) (λ i d within.
          ap (λ t. cond t 0 (try (get_or (filter (λ x. pass x == own) H) i d))) (filter_passes (λ x. pass x == own) H i d within)))
      by_test false e =
          let none = zero-sum try (filter (λ x. pass x == k) H) (quiet k below (eqb-false k own e)) in
          sum-zero strange (filter (λ x. pass x == k) H) (λ i d within. strange-less (get_or (filter (λ x. pass x == k) H) i d) (none i d within))

owns : (pass own n : ℕ) → cond (pass == own) 0 n ≡ 0 → n ≡ 1 → pass ≡ own
owns pass own n none one = by_test (pass == own) refl where
  by_test : (t : Bool) → (pass == own) ≡ t → pass ≡ own
  by_test true e = eqb-true pass own e
  by_test false e =
      let zero_is : n ≡ 0 = sym (ap (λ t. cond t 0 n) e) ∙ none in
      absurd (omega (arith, zero_is, one))

module _ (C : Setting) (S T : State) (r : Round) (some : 1 ≤ r.workers) (worked : HaveWorked C S T r) where
  rests : (a : Actor) (k : ℕ) → k < r.workers → k ≢ owner r.workers a → tried_at a (calls_in C.shape k (r.work k)) ≡ 0
  rests a k below other = none-try C.shape a k (r.work k) (others-rest C S T r some worked a k below other)

  pub have-owners : AreOwners r
  have-owners = record {
    banks = λ b i d within pick input. owns (maker (get_or (r.histories.banks b) i d)) (owner r.workers (bank_at b)) (bank_try (get_or (r.histories.banks b) i d))
        (owned-tries maker (r.histories.banks b) r.workers (worked.named.banks b) bank_try (owner r.workers (bank_at b))
        (λ k below other. ap (λ l. sum_by bank_try l) ((worked.calls k below).banks b) ∙ rests (bank_at b) k below other) i d within)
        (ap bank_tried input);
    ports = λ c i d within pick input. owns (maker (get_or (r.histories.ports c) i d)) (owner r.workers (core_at c)) (port_try (get_or (r.histories.ports c) i d))
        (owned-tries maker (r.histories.ports c) r.workers (worked.named.ports c) port_try (owner r.workers (core_at c))
        (λ k below other. ap (λ l. sum_by port_try l) ((worked.calls k below).ports c) ∙ rests (core_at c) k below other) i d within)
        (ap port_tried input);
    keeper = λ i d within pick input. owns (maker (get_or r.histories.keeper i d)) 0 (keeper_try (get_or r.histories.keeper i d))
        (owned-tries maker r.histories.keeper r.workers worked.named.keeper keeper_try 0
        (λ k below other. ap (λ l. sum_by keeper_try l) (worked.calls k below).keeper ∙ rests Keeper k below other) i d within)
        (ap keeper_tried input);
  }
