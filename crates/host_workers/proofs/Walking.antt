-- The one list is a run: its events may come one after the other.
use Rattle.std.proofs.Common.{◌≡◌, ℕ, zero, suc, ◌+◌, ◌≤◌, Bool, true, false, cond, List, [], ◌∷◌, ◌++◌, get_or, map, slice_get, Option, Some, None, refl, sym, ap, subst, ◌∙◌, arith}
use Rattle.std.specs.Prelude.{sum_by, filter, filter_map, All, AllPairs}
use Rattle.std.proofs.lemmas.List.Sums.{sum_by-cons, sum_by-append}
use Rattle.std.proofs.lemmas.List.Elements.{All-head, All-tail}
use Rattle.dn_base.specs.declared.ids.Grant.{Grant}
use Rattle.rv_core.specs.declared.ending.TaskEnd.{TaskEnd}
use Rattle.message_net.specs.declared.actor.Actor.{Actor}
use Rattle.message_net.specs.declared.event.Event.{Event}
use Rattle.message_net.specs.declared.event.EventKind.{EventKind}
use Rattle.message_net.specs.declared.message.Mail.{Mail}
use Rattle.message_net.specs.Id.{same_actor}
use Rattle.message_net.proofs.PoolLemmas.{same_actor-true, same_actor-refl}
use Rattle.registration_protocol.specs.Node.{Setting}
use Rattle.machine_rules.specs.State.{State}
use Rattle.machine_rules.specs.Next.{next, granted_in}
use Rattle.machine_rules.specs.Runs.{after, IsRun, read_off, kinds_of, grants_of}
use Rattle.grant_log.specs.declared.posted.Posted.{Posted}
use Rattle.host_workers.specs.Members.{Member, member, event_of, deed_kind, IsIn}
use Rattle.host_workers.specs.Steps.{Step, Done, stamp_of, Goes}
use Rattle.host_workers.specs.Rounds.{IsReached, end_observed}
use Rattle.host_workers.proofs.Moving.{handled}
use Rattle.host_workers.proofs.Weights.{filter-true, filter-false, sum-zero, zero-sum}
use Rattle.host_workers.proofs.Weaving.{step_actor, is_step_of}
use Rattle.host_workers.proofs.Reaching.{reached-next}
use Rattle.host_workers.proofs.ActSteps.{takes, gives, IsWell, IsSooner, late, in-time, Flows, Happens, happens, not-late, gives-all, sent-weighs, takes-mail}
use Rattle.host_workers.proofs.Mapped.{held}

abbrev pub step_event : Step → Event
step_event s = event_of s.deed

abbrev pub step_kind : Step → EventKind
step_kind s = deed_kind s.deed

abbrev pub step_grant : Step → Option Grant
step_grant s = s.done.stamped.granted

abbrev pub step_end : Step → Option TaskEnd
step_end s = s.done.end

-- what holds where so many of the steps have come: each actor's steps to come lead it to its end, and so do all steps what is
-- in flight
pub record Stands (C : Setting) (S : State) (n : ℕ) (clock : Actor → ℕ) (ps : List Posted) (ss : List Step) (left : List Posted) (y : Actor → Member) : Type 0 where
  pub reached : IsReached C S
  pub parts : (a : Actor) → IsIn C a → Goes C a (clock a) (member S a) (filter (is_step_of a) ss) (y a)
  pub well : All (IsWell C) ss
  pub rising : AllPairs IsSooner ss
  pub flows : Flows C S ps ss left
  pub fresh : sum_by (late n) ps ≡ 0
  pub early : (a : Actor) → IsIn C a → clock a ≤ n

-- what comes of the steps then
pub record Comes (C : Setting) (S : State) (n : ℕ) (ss : List Step) (left : List Posted) (y : Actor → Member) : Type 0 where
  pub run : IsRun S (map step_event ss)
  pub ends : (a : Actor) → IsIn C a → member (after S (map step_event ss)) a ≡ y a
  pub pool : (f : Mail → ℕ) → sum_by f (after S (map step_event ss)).mails ≡ sum_by (λ p. f p.mail) left
  pub kinds : map step_kind ss ≡ kinds_of S (map step_event ss)
  pub grants : filter_map step_grant ss ≡ grants_of S (map step_event ss)
  pub told : filter_map step_end ss ≡ read_off end_observed S (map step_event ss)
  pub early : (i : ℕ) (s : Step) → slice_get ss i ≡ Some s → stamp_of s ≤ n + i + 1

told-step : {X : Type 0} (tell : State → Event → Option X) (h : Step → Option X) (S : State) (s : Step) (ss : List Step) (es : List Event) (o : Option X)
    → h s ≡ o → tell S (step_event s) ≡ o → filter_map h ss ≡ read_off tell (next S (step_event s)) es → filter_map h (s ∷ ss) ≡ read_off tell S (step_event s ∷ es)
told-step tell h S s ss es None here there rest = rw (here, there) rest
told-step tell h S s ss es (Some x) here there rest = rw (here, there) (ap (λ l. x ∷ l) rest)

-- the clocks once a step of an actor has come
abbrev clock_with : Actor → ℕ → (Actor → ℕ) → Actor → ℕ
clock_with a stamp clock b = cond (same_actor b a) stamp (clock b)

-- one step
module _ (C : Setting) (S : State) (n : ℕ) (clock : Actor → ℕ) (ps : List Posted) (s : Step) (ss : List Step) (left : List Posted) (y : Actor → Member) (stands : Stands C S n clock ps (s ∷ ss) left y) where
  abbrev by : Actor
  by = step_actor s

  abbrev then_is : State
  then_is = next S (step_event s)

  inside : IsIn C by
  inside = (All-head (IsWell C) s ss stands.well).inside

  part : Goes C by (clock by) (member S by) (s ∷ filter (is_step_of by) ss) (y by)
  part = subst (λ l. Goes C by (clock by) (member S by) l (y by)) (filter-true (is_step_of by) s ss (same_actor-refl by)) (stands.parts by inside)

  happening : Happens C S by n ps s
  happening = happens C S by n (clock by) ps s ss left stands.reached stands.flows part.0 refl stands.well stands.rising stands.fresh (stands.early by inside)

  abbrev pool_then : List Posted
  pool_then = happening.rest ++ s.done.sent

  balanced : (f : Posted → ℕ) → sum_by f pool_then + takes f s ≡ sum_by f ps + gives C f s
  balanced f = omega (arith, sum_by-append f happening.rest s.done.sent, happening.balance f, gives-all C S by (clock by) s part.0 happening.moves f)

  flow_then : (f : Posted → ℕ) → sum_by (takes f) ss + sum_by f left ≡ sum_by f pool_then + sum_by (gives C f) ss
  flow_then f = omega (arith, stands.flows.flow f, balanced f, sum_by-cons (takes f) s ss, sum_by-cons (gives C f) s ss)

  pool_is : (f : Mail → ℕ) → sum_by (λ p. f p.mail) pool_then ≡ sum_by f then_is.mails
  pool_is f =
      let moved = happening.moves.pool f in
      let takes_it : takes (λ p. f p.mail) s ≡ handled f s.deed = takes-mail f s.deed in
      omega (arith, sum_by-append (λ (p : Posted). f p.mail) happening.rest s.done.sent, happening.balance (λ p. f p.mail), stands.flows.pool f, moved, takes_it, sent-weighs C S by (clock by) s part.0 f)

  early_too : (p : Posted) → late n p ≡ 0 → late (n + 1) p ≡ 0
  early_too p none = in-time (n + 1) p (omega (arith, not-late n p none))

  fresh_then : sum_by (late (n + 1)) pool_then ≡ 0
  fresh_then =
      let none : sum_by (late n) happening.rest ≡ 0 = omega (arith, happening.balance (late n), stands.fresh) in
      let rest = sum-zero (late (n + 1)) happening.rest (λ k d within. early_too (get_or happening.rest k d) (zero-sum (late n) happening.rest none k d within)) in
      let stamped = (All-head (IsWell C) s ss stands.well).stamped in
      let sent = sum-zero (late (n + 1)) s.done.sent (λ k d within. in-time (n + 1) (get_or s.done.sent k d) (omega (arith, happening.early, stamped k d within))) in
      omega (arith, sum_by-append (late (n + 1)) happening.rest s.done.sent, rest, sent)

  part_then : (b : Actor) → IsIn C b → Goes C b (clock_with by (stamp_of s) clock b) (member then_is b) (filter (is_step_of b) ss) (y b)
  part_then b within = by_test (same_actor b by) refl where
    by_test : (t : Bool) → same_actor b by ≡ t → Goes C b (cond t (stamp_of s) (clock b)) (member then_is b) (filter (is_step_of b) ss) (y b)
    by_test true e =
        let is : by ≡ b = sym (same_actor-true b by e) in
        subst (λ a. Goes C a (stamp_of s) (member then_is a) (filter (is_step_of a) ss) (y a)) is
        (subst (λ x. Goes C by (stamp_of s) x (filter (is_step_of by) ss) (y by)) (sym happening.moves.mine) part.1)
    by_test false e =
        subst (λ x. Goes C b (clock b) x (filter (is_step_of b) ss) (y b)) (sym (happening.moves.others b within e))
        (subst (λ l. Goes C b (clock b) (member S b) l (y b)) (filter-false (is_step_of b) s ss e) (stands.parts b within))

  early_then : (b : Actor) → IsIn C b → clock_with by (stamp_of s) clock b ≤ n + 1
  early_then b within = by_test (same_actor b by) where
    by_test : (t : Bool) → cond t (stamp_of s) (clock b) ≤ n + 1
    by_test true = happening.early
    by_test false = omega (arith, stands.early b within)

  stands_then : Stands C then_is (n + 1) (clock_with by (stamp_of s) clock) pool_then ss left y
  stands_then = record {
    reached = reached-next C S (step_event s) stands.reached happening.moves.enabled;
    parts = part_then;
    well = All-tail (IsWell C) s ss stands.well;
    rising = λ i j d before within. stands.rising (suc i) (suc j) d (omega (arith, before)) (omega (arith, within));
    flows = record { flow = flow_then; pool = pool_is };
    fresh = fresh_then;
    early = early_then;
  }

  abbrev Rest : Type 0
  Rest = Comes C then_is (n + 1) ss left y

  come : Rest → Comes C S n (s ∷ ss) left y
  come rest = record {
    run = (happening.moves.enabled, rest.run);
    ends = rest.ends;
    pool = rest.pool;
    kinds = λ i. sym happening.moves.kind i ∷ rest.kinds i;
    grants = told-step granted_in step_grant S s ss (map step_event ss) (step_grant s) refl (happening.moves.granted ∙ sym (ap (λ (d : Done). d.stamped.granted) part.0.tells)) rest.grants;
    told = told-step end_observed step_end S s ss (map step_event ss) (step_end s) refl (happening.moves.end ∙ sym (ap (λ (d : Done). d.end) part.0.tells)) rest.told;
    early = early_at;
  }
    where
      early_at : (i : ℕ) (t : Step) → slice_get (s ∷ ss) i ≡ Some t → stamp_of t ≤ n + i + 1
      early_at zero t here =
          let is : s ≡ t = ap (held s) here in
          omega (arith, happening.early, ap stamp_of is)
      early_at (suc i) t here = omega (arith, rest.early i t here)

-- the steps are those of a run
pub walk : (C : Setting) (ss : List Step) (S : State) (n : ℕ) (clock : Actor → ℕ) (ps : List Posted) (left : List Posted) (y : Actor → Member) → Stands C S n clock ps ss left y → Comes C S n ss left y
walk C [] S n clock ps left y stands = record {
  run = tt;
  ends = stands.parts;
  pool = λ f. omega (arith, stands.flows.flow (λ p. f p.mail), stands.flows.pool f);
  kinds = refl;
  grants = refl;
  told = refl;
  early = λ i s here. absurd (cc);
}
walk C (s ∷ ss) S n clock ps left y stands =
    come C S n clock ps s ss left y stands
    (walk C ss (next S (step_event s)) (n + 1) (clock_with (step_actor s) (stamp_of s) clock) (pool_then C S n clock ps s ss left y stands) left y (stands_then C S n clock ps s ss left y stands))
