-- A round is a run of the machine.
use Rattle.std.proofs.Common.{◌≡◌, ℕ, ◌+◌, ◌<◌, ◌≤◌, Bool, true, false, cond, List, [], ◌∷◌, length, get_or, map, slice_get, Some, refl, sym, ap, subst, ◌∙◌, arith}
use Rattle.std.specs.Prelude.{sum_by, filter, filter_map, flat_map, All, AllPairs, IsPermutation}
use Rattle.std.specs.List.{range_with_len}
use Rattle.std.proofs.lemmas.List.Sorted.{sum_by-IsPermutation}
use Rattle.std.proofs.lemmas.List.Elements.{All-nil, All-cons, All-map}
use Rattle.message_net.specs.declared.actor.Actor.{Actor}
use Rattle.message_net.specs.declared.event.Event.{Event}
use Rattle.message_net.specs.declared.message.Mail.{Mail}
use Rattle.message_net.specs.Id.{same_actor}
use Rattle.message_net.specs.Mail.{has_actor}
use Rattle.message_net.proofs.PoolLemmas.{same_actor-true, same_actor-refl}
use Rattle.grant_log.specs.declared.log.Stamped.{Stamped}
use Rattle.grant_log.specs.Log.{grants_in}
use Rattle.registration_protocol.specs.Node.{Setting}
use Rattle.machine_rules.specs.State.{State}
use Rattle.machine_rules.specs.Runs.{after, IsRun, read_off, grants_of, kinds_of}
use Rattle.grant_log.specs.declared.posted.Posted.{Posted}
use Rattle.host_workers.specs.Members.{Member, Deed, Handles, Makes, member, event_of, deed_kind, IsIn}
use Rattle.host_workers.specs.Steps.{Step, Done, stamp_of, deed_stamp, with_stamp, IsStep, Goes}
use Rattle.host_workers.specs.Acts.{events_by}
use Rattle.host_workers.specs.Rounds.{Round, owner, actors, IsReached, IsJoined, IsRoundOf, AreToldInOrder, IsNoLater, mail_in, noted_event, noted_kind, events_of, end_observed, end_of_done, done_by}
use Rattle.host_workers.proofs.Weights.{sum-map, sum-flat, sum-zero, zero-sum, sum-agree, sum-same, sum-both, parts-weigh, all-of-parts}
use Rattle.host_workers.proofs.SameMails.{same_elements}
use Rattle.host_workers.proofs.Actors.{actor-once, all-inside, each-actor}
use Rattle.host_workers.proofs.Mapped.{map-agree, map-map, filter_map-map, filter-map, pairs-map, all-map, stands-map, long-map, slice_get_at}
use Rattle.host_workers.proofs.Weaving.{step_note, step_actor, is_step_of, Woven, weave}
use Rattle.host_workers.proofs.ActSteps.{takes, deed_takes, deed_goes_to, given, gives, IsWell, IsSooner, late, weigh_in, stays_in, in-time}
use Rattle.host_workers.proofs.Reaching.{reached-run, reached-setting, reached-machine, reached-few}
use Rattle.host_workers.proofs.Walking.{Stands, Comes, walk, step_event, step_kind, step_grant, step_end}
use Rattle.host_workers.proofs.Objects.{step_done}
use Rattle.host_workers.proofs.Traces.{posts_at, weigh_to, sent_in}
use Rattle.host_workers.proofs.Joining.{PartOf, part-of, noted, posts-come, all-come, all-give}
use Rattle.host_workers.proofs.SameStates.{same-states}

-- what an actor's step notes is the actor's, and what it sends has its stamp
record IsStepOf (a : Actor) (s : Step) : Type 0 where
  actor : step_actor s ≡ a
  stamped : All (λ (p : Posted). p.stamp ≡ stamp_of s) s.done.sent
  event : s.done.stamped.event ≡ event_of s.deed
  kind : s.done.stamped.kind ≡ deed_kind s.deed

is-step : (C : Setting) (a : Actor) (clock : ℕ) (x : Member) (s : Step) → IsStep C a clock x s → IsStepOf a s
is-step C a clock x s step =
    let stamp : deed_stamp clock s.deed ≡ stamp_of s = sym (ap (λ (d : Done). d.stamped.stamp) step.tells) in
    record {
      actor = ap (λ (d : Done). d.stamped.actor) step.tells;
      stamped = subst (All (λ (p : Posted). p.stamp ≡ stamp_of s)) (sym (ap (λ (d : Done). d.sent) step.tells)) (All-map (λ (p : Posted). p.stamp ≡ stamp_of s) (with_stamp (deed_stamp clock s.deed)) _ (λ k d within. stamp));
      event = ap (λ (d : Done). d.stamped.event) step.tells;
      kind = ap (λ (d : Done). d.stamped.kind) step.tells;
    }

goes-steps : (C : Setting) (a : Actor) (clock : ℕ) (x : Member) (ss : List Step) (y : Member) → Goes C a clock x ss y → All (IsStepOf a) ss
goes-steps C a clock x [] y goes = All-nil (IsStepOf a)
goes-steps C a clock x (s ∷ ss) y goes = All-cons (IsStepOf a) s ss (is-step C a clock x s goes.0) (goes-steps C a (stamp_of s) _ ss y goes.1)

-- a mail that goes to another actor
abbrev unless : Bool → ℕ
unless b = cond b 0 1

abbrev stray : Actor → Posted → ℕ
stray a p = unless (same_actor a p.mail.to)

goes-to : (a : Actor) (d : Deed) → deed_takes (stray a) d ≡ 0 → deed_goes_to a d
goes-to a (Makes e) none = tt
goes-to a (Handles p) none = by_test (same_actor a p.mail.to) refl where
  by_test : (t : Bool) → same_actor a p.mail.to ≡ t → p.mail.to ≡ a
  by_test true e = sym (same_actor-true a p.mail.to e)
  by_test false e =
      let one : stray a p ≡ 1 = ap unless e in
      absurd (omega (arith, none, one))

no-stray : (a : Actor) (p : Posted) → p.mail.to ≡ a → stray a p ≡ 0
no-stray a p is = ap unless (ap (same_actor a) is ∙ same_actor-refl a)

never-stray : (a : Actor) (p : Posted) → weigh_to (stray a) a p ≡ 0
never-stray a p = by_test (same_actor a p.mail.to) where
  by_test : (t : Bool) → cond t (unless t) 0 ≡ 0
  by_test true = refl
  by_test false = refl

no-strays : (a : Actor) (ps : List Posted) → sum_by (weigh_to (stray a) a) ps ≡ 0
no-strays a ps = sum-zero (weigh_to (stray a) a) ps (λ k d small. never-stray a (get_or ps k d))

module _ (C : Setting) (S T : State) (r : Round) (reached : IsReached C S) (joined : IsJoined C S T r) where
  pub part : (a : Actor) → PartOf C S T r a
  part = part-of C S T r joined.some joined.worked joined.closed joined.merged (reached-machine C S reached) (reached-setting C S reached)

  woven : Woven r.merged (λ a. (part a).steps)
  woven = weave r.merged (λ a. (part a).steps) (λ a. (part a).notes)

  abbrev steps : List Step
  steps = woven.steps

  inside : All (λ s. IsIn C (step_actor s)) steps
  inside = all-map (λ (e : Stamped). IsIn C e.actor) step_note steps (subst (All (λ (e : Stamped). IsIn C e.actor)) (sym woven.notes) joined.merged.inside)

  -- ---- each step by itself

  strays : (a : Actor) → IsIn C a → sum_by (takes (stray a)) (part a).steps ≡ 0
  strays a within =
      let began : sum_by (stray a) (r.began a) ≡ 0 = sum-zero (stray a) (r.began a) (λ k d small. no-stray a (get_or (r.began a) k d) (joined.inboxes.addressed a within k d small)) in
      let came : posts_at (stray a) a r.histories ≡ 0 =
      posts-come C S T r joined.some joined.worked (stray a) a within
      ∙ sum-zero (λ k. sum_by (weigh_to (stray a) a) (sent_in C.shape (r.work k))) (range_with_len 0 r.workers) (λ k d small. no-strays a (sent_in C.shape (r.work (get_or (range_with_len 0 r.workers) k d)))) in
      omega (arith, (part a).flow within (stray a), began, came)

  well-part : (a : Actor) → IsIn C a → All (IsWell C) (part a).steps
  well-part a within k d small =
      let of = goes-steps C a 0 (member S a) (part a).steps (member T a) ((part a).goes within) k d small in
      let s = get_or (part a).steps k d in
      let goes : deed_goes_to a (get_or (part a).steps k d).deed = goes-to a (get_or (part a).steps k d).deed (zero-sum (takes (stray a)) (part a).steps (strays a within) k d small) in
      record {
        inside = ap (has_actor C.shape.cores C.shape.banks) of.actor ∙ within;
        addressed = subst (λ b. deed_goes_to b (get_or (part a).steps k d).deed) (sym of.actor) goes;
        stamped = of.stamped;
      }

  -- what holds of each actor's steps holds of all
  all-steps : (P : Step → Type 0) → ((a : Actor) → IsIn C a → All P (part a).steps) → All P steps
  all-steps P each = all-of-parts is_step_of step_actor (λ s. same_actor-refl (step_actor s)) P steps (λ a. subst (All P) (sym (woven.each a)) (by_test a (has_actor C.shape.cores C.shape.banks a) refl)) where
    by_test : (a : Actor) (t : Bool) → has_actor C.shape.cores C.shape.banks a ≡ t → All P (part a).steps
    by_test a true within = each a within
    by_test a false out = subst (All P) (sym ((part a).none out)) (All-nil P)

  record IsNoted (s : Step) : Type 0 where
    event : s.done.stamped.event ≡ event_of s.deed
    kind : s.done.stamped.kind ≡ deed_kind s.deed

  noted-well : All IsNoted steps
  noted-well = all-steps IsNoted (λ a within k d small.
      let of = goes-steps C a 0 (member S a) (part a).steps (member T a) ((part a).goes within) k d small in
      record { event = of.event; kind = of.kind })

  rising : AllPairs IsSooner steps
  rising = pairs-map IsNoLater step_note steps (subst (AllPairs IsNoLater) (sym woven.notes) joined.merged.rising)

  -- ---- what all steps take and give

  abbrev started : List Posted
  started = flat_map r.began (actors C)

  abbrev ended : List Posted
  ended = flat_map r.left (actors C)

  parted : (g : Step → ℕ) → sum_by (λ a. sum_by g (part a).steps) (actors C) ≡ sum_by g steps
  parted g =
      sum-same (λ a. sum_by g (part a).steps) (λ a. sum_by g (filter (is_step_of a) steps)) (actors C) (λ a. ap (λ l. sum_by g l) (sym (woven.each a)))
      ∙ parts-weigh is_step_of (λ s. has_actor C.shape.cores C.shape.banks (step_actor s)) (actors C) (λ s. actor-once C (step_actor s)) g steps inside

  given-by : (f : Posted → ℕ) (a : Actor) → IsIn C a → sum_by (given C f) (events_by C.shape a (r.work (owner r.workers a))) ≡ sum_by (gives C f) (part a).steps
  given-by f a within = ap (λ l. sum_by (given C f) l) (sym ((part a).told within)) ∙ sum-map (given C f) step_done (part a).steps

  comes-given : (f : Posted → ℕ) → sum_by (λ a. posts_at f a r.histories) (actors C) ≡ sum_by (gives C f) steps
  comes-given f =
      all-come C S T r joined.some joined.worked f
      ∙ (all-give C S T r joined.some joined.worked (given C f)
      ∙ (sum-agree (λ a. sum_by (given C f) (events_by C.shape a (r.work (owner r.workers a)))) (λ a. sum_by (gives C f) (part a).steps) (actors C) (λ k d small. given-by f (get_or (actors C) k d) (all-inside C k d small))
      ∙ parted (gives C f)))

  flow : (f : Posted → ℕ) → sum_by (takes f) steps + sum_by f ended ≡ sum_by f started + sum_by (gives C f) steps
  flow f =
      let each = sum-agree (λ a. sum_by (takes f) (part a).steps + sum_by f (r.left a)) (λ a. sum_by f (r.began a) + posts_at f a r.histories) (actors C) (λ k d small. (part (get_or (actors C) k d)).flow (all-inside C k d small) f) in
      omega (
        arith,
        each,
        parted (takes f),
        comes-given f,
        sum-flat f r.left (actors C),
        sum-flat f r.began (actors C),
        sum-both (λ a. sum_by (takes f) (part a).steps) (λ a. sum_by f (r.left a)) (actors C),
        sum-both (λ a. sum_by f (r.began a)) (λ a. posts_at f a r.histories) (actors C),
      )

  pool : (f : Mail → ℕ) → sum_by (λ p. f p.mail) started ≡ sum_by f S.mails
  pool f = sum_by-IsPermutation (λ (p : Posted). f p.mail) (map (with_stamp 0) S.mails) started joined.inboxes.began ∙ sum-map (λ (p : Posted). f p.mail) (with_stamp 0) S.mails

  fresh : sum_by (late 0) started ≡ 0
  fresh = sum_by-IsPermutation (late 0) (map (with_stamp 0) S.mails) started joined.inboxes.began ∙ (sum-map (late 0) (with_stamp 0) S.mails ∙ sum-zero (λ m. late 0 (with_stamp 0 m)) S.mails (λ k d small. refl))

  stands : Stands C S 0 (λ a. 0) started steps ended (member T)
  stands = record {
    reached = reached;
    parts = λ a within. subst (λ l. Goes C a 0 (member S a) l (member T a)) (sym (woven.each a)) ((part a).goes within);
    well = all-steps (IsWell C) well-part;
    rising = rising;
    flows = record { flow = flow; pool = pool };
    fresh = fresh;
    early = λ a within. omega arith;
  }

  comes : Comes C S 0 steps ended (member T)
  comes = walk C steps S 0 (λ a. 0) started ended (member T) stands

  -- ---- the events that the one list notes are theirs

  events : map step_event steps ≡ events_of r.merged
  events = sym (ap events_of (sym woven.notes) ∙ (map-map noted_event step_note steps ∙ map-agree (λ s. noted_event (step_note s)) step_event steps (λ k d small. (noted-well k d small).event)))

  run : IsRun S (events_of r.merged)
  run = subst (IsRun S) events comes.run

  abbrev end_is : State
  end_is = after S (events_of r.merged)

  end_reached : IsReached C end_is
  end_reached = reached-run C S (events_of r.merged) reached run

  mails : IsPermutation end_is.mails T.mails
  mails = same_elements end_is.mails T.mails (λ f.
      subst (λ es. sum_by f (after S es).mails ≡ sum_by (λ p. f p.mail) ended) events (comes.pool f)
      ∙ (sym (sum-map f mail_in ended) ∙ sym (sum_by-IsPermutation f (map mail_in ended) T.mails joined.inboxes.left)))

  members : (a : Actor) → IsIn C a → member end_is a ≡ member T a
  members a within = subst (λ es. member (after S es) a ≡ member T a) events (comes.ends a within)

  rest : T ≡ record end_is { mails = T.mails }
  rest =
      let first = reached-machine C S reached in
      let last = reached-machine C end_is end_reached in
      let set = reached-setting C S reached in
      let end_set = reached-setting C end_is end_reached in
      let cores : S.setting.shape.cores ≡ C.shape.cores = ap (λ (D : Setting). D.shape.cores) set in
      let banks : S.setting.shape.banks ≡ C.shape.banks = ap (λ (D : Setting). D.shape.banks) set in
      let end_cores : end_is.setting.shape.cores ≡ C.shape.cores = ap (λ (D : Setting). D.shape.cores) end_set in
      let end_banks : end_is.setting.shape.banks ≡ C.shape.banks = ap (λ (D : Setting). D.shape.banks) end_set in
      same-states C end_is T end_set joined.alike.setting (last.nodes ∙ end_cores) (joined.alike.nodes ∙ (first.nodes ∙ cores)) (last.banks ∙ end_banks) (joined.alike.banks ∙ (first.banks ∙ banks))
      (omega (arith, last.numbers, end_cores, end_banks)) (omega (arith, joined.alike.numbers, first.numbers, cores, banks)) members

  kinds : map noted_kind r.merged ≡ kinds_of S (events_of r.merged)
  kinds =
      ap (map noted_kind) (sym woven.notes)
      ∙ (map-map noted_kind step_note steps
      ∙ (map-agree (λ s. noted_kind (step_note s)) step_kind steps (λ k d small. (noted-well k d small).kind)
      ∙ subst (λ es. map step_kind steps ≡ kinds_of S es) events comes.kinds))

  grants : grants_in r.merged ≡ grants_of S (events_of r.merged)
  grants =
      ap grants_in (sym woven.notes)
      ∙ (filter_map-map (λ (e : Stamped). e.granted) step_note steps
      ∙ subst (λ es. filter_map step_grant steps ≡ grants_of S es) events comes.grants)

  tells : AreToldInOrder C S r (map step_done steps)
  tells = record {
    notes = sym (noted steps) ∙ woven.notes;
    parts = λ a within. filter-map (done_by a) step_done steps ∙ (ap (map step_done) (woven.each a) ∙ (part a).told within);
    ends = filter_map-map end_of_done step_done steps ∙ subst (λ es. filter_map step_end steps ≡ read_off end_observed S es) events comes.told;
  }

  early : (i : ℕ) (e : Stamped) → slice_get r.merged i ≡ Some e → e.stamp ≤ i + 1
  early i e here =
      let found = stands-map step_note steps i e (subst (λ l. slice_get l i ≡ Some e) (sym woven.notes) here) in
      let stamp : stamp_of found.0 ≡ e.stamp = ap (λ (x : Stamped). x.stamp) found.2 in
      omega (arith, comes.early i found.0 found.1, stamp)

  pub round-runs : IsRoundOf C S T r
  round-runs = record { run = run; mails = mails; rest = rest; kinds = kinds; grants = grants; told = map step_done steps; tells = tells; early = early }

  -- ---- no stamp is late

  length-events : length (events_of r.merged) ≡ length steps
  length-events = ap (λ (l : List Event). length l) (sym events) ∙ long-map step_event steps

  few : length steps ≤ 25169664
  few = omega (arith, length-events, reached-few C S (events_of r.merged) reached run)

  in-early : (s : Step) (place : ℕ) → slice_get steps place ≡ Some s → place < length steps → stamp_of s ≤ 25169664
  in-early s place here small = omega (arith, comes.early place s here, few, small)

  gives-early : (s : Step) → IsWell C s → stamp_of s ≤ 25169664 → gives C (late 25169664) s ≡ 0
  gives-early s well stamp = sum-zero (weigh_in C (late 25169664)) s.done.sent (λ k d small. nothing (get_or s.done.sent k d) (well.stamped k d small)) where
    nothing : (p : Posted) → p.stamp ≡ stamp_of s → weigh_in C (late 25169664) p ≡ 0
    nothing p is = by_in (stays_in C p.mail) where
      none : late 25169664 p ≡ 0
      none = in-time 25169664 p (omega (arith, is, stamp))

      by_in : (t : Bool) → cond t (late 25169664 p) 0 ≡ 0
      by_in true = none
      by_in false = refl

  all-early : All (λ s. gives C (late 25169664) s ≡ 0) steps
  all-early k d small = gives-early (get_or steps k d) (all-steps (IsWell C) well-part k d small) (in-early (get_or steps k d) k (slice_get_at steps k d small) small)

  pub posts-early : (a : Actor) → IsIn C a → posts_at (late 25169664) a r.histories ≡ 0
  posts-early a within =
      each-actor C (λ b. posts_at (late 25169664) b r.histories ≡ 0)
      (zero-sum (λ b. posts_at (late 25169664) b r.histories) (actors C) (comes-given (late 25169664) ∙ sum-zero (gives C (late 25169664)) steps all-early)) a within
