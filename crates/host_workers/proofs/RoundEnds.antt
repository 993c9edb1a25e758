-- How the tasks ended that arrived in a round, from what each worker saw of its cores.
use Rattle.std.proofs.Common.{◌≡◌, ℕ, ◌<◌, Bool, true, false, List, [], ◌∷◌, ◌++◌, length, map, get_or, Some, None, slice_get, All, refl, sym, ap, subst, ◌∙◌, true≢false}
use Rattle.std.specs.Prelude.{filter, filter_map, AllPairs}
use Rattle.std.proofs.lemmas.List.Elements.{All-nil, All-cons}
use Rattle.std.proofs.lemmas.Option.{slice_get_within, slice_get-get_or}
use Rattle.dn_base.specs.declared.ids.CoreId.{CoreId}
use Rattle.dn_base.specs.declared.ids.Shape.{Shape}
use Rattle.message_net.specs.declared.actor.Actor.{Actor}
use Rattle.message_net.specs.declared.actor.Actor.TheVariants.{Core, Bank, Keeper}
use Rattle.message_net.specs.Id.{same_actor}
use Rattle.message_net.proofs.PoolLemmas.{same_actor-refl, same_actor-true}
use Rattle.grant_log.specs.declared.log.Stamped.{Stamped}
use Rattle.registration_protocol.specs.Node.{Setting}
use Rattle.machine_rules.specs.State.{State}
use Rattle.host_workers.specs.declared.end_seen.EndSeen.{EndSeen}
use Rattle.host_workers.specs.Members.{IsIn}
use Rattle.host_workers.specs.Steps.{Done}
use Rattle.host_workers.specs.Acts.{Act, Took, Made, Stepped, Kept, is_act_of, actor_of, events_in, events_by, note_of}
use Rattle.host_workers.specs.Passes.{end_seen}
use Rattle.host_workers.specs.Rounds.{owner, core_at, IsJoined, AreToldInOrder, done_by}
use Rattle.host_workers.proofs.MachineParts.{there}
use Rattle.host_workers.proofs.Mapped.{long-map, all-map}
use Rattle.host_workers.proofs.Numbers.{below-bound, is-below}
use Rattle.host_workers.proofs.Weights.{filter-true, filter-false}
use Rattle.host_workers.specs.declared.finishing.Finished.{Finished}
use Rattle.host_workers.specs.Ends.{IsStampedBefore, EndIsOfCore, AreEndsOf}
use Rattle.host_workers.specs.Rosters.{core_ends}
use Rattle.host_workers.specs.Finishing.{IsRoundLeft}
use Rattle.host_workers.proofs.Chosen.{stands-taken, same-some, none-some}
use Rattle.host_workers.proofs.HallObjects.{mapped-at}
use Rattle.host_workers.proofs.Workers.{place-all, core-went}
use Rattle.host_workers.proofs.Together as together
use Rattle.host_workers.proofs.Together.{same-core}

abbrev is_core : Actor → Bool
is_core (Core core) = true
is_core _ = false

abbrev HasNoEnd : Done → Type 0
HasNoEnd d = d.end ≡ None

-- an act of a bank or of the keeper tells no end
quiet-one : (shape : Shape) (a : Actor) → is_core a ≡ false → (act : Act) (acts : List Act) → a ≡ actor_of act → All HasNoEnd (events_in shape acts) → All HasNoEnd (events_in shape (act ∷ acts))
quiet-one shape a other (Took core pick taken) acts is rest = absurd (true≢false (sym (ap is_core is) ∙ other))
quiet-one shape a other (Made core event done) acts is rest = absurd (true≢false (sym (ap is_core is) ∙ other))
quiet-one shape a other (Stepped bank pick None) acts is rest = rest
quiet-one shape a other (Stepped bank pick (Some h)) acts is rest = All-cons HasNoEnd _ (events_in shape acts) refl rest
quiet-one shape a other (Kept pick None) acts is rest = rest
quiet-one shape a other (Kept pick (Some n)) acts is rest = All-cons HasNoEnd _ (events_in shape acts) refl rest

quiet : (shape : Shape) (a : Actor) → is_core a ≡ false → (acts : List Act) → All HasNoEnd (events_by shape a acts)
quiet shape a other [] = All-nil HasNoEnd
quiet shape a other (act ∷ acts) = by (is_act_of a act) refl (quiet shape a other acts) where
  by : (t : Bool) → is_act_of a act ≡ t → All HasNoEnd (events_by shape a acts) → All HasNoEnd (events_by shape a (act ∷ acts))
  by true e rest = subst (λ l. All HasNoEnd (events_in shape l)) (sym (filter-true (is_act_of a) act acts e)) (quiet-one shape a other act (filter (is_act_of a) acts) (same_actor-true a (actor_of act) e) rest)
  by false e rest = subst (λ l. All HasNoEnd (events_in shape l)) (sym (filter-false (is_act_of a) act acts e)) rest

module _ (S M : State) (made workers : ℕ) (f : Finished) (left : IsRoundLeft S M made workers f) (merged : List Stamped)
    (joined : IsJoined M.setting S (together.T S M made workers f left) (together.round_with S M made workers f left merged))
    (rising : AllPairs IsStampedBefore merged) (told : List Done) (tells : AreToldInOrder M.setting S (together.round_with S M made workers f left merged) told) where
  abbrev C : Setting
  C = M.setting

  abbrev ends : List (List EndSeen)
  ends = map core_ends left.finished.roster.cores

  ends-long : length ends ≡ C.shape.cores
  ends-long = long-map core_ends left.finished.roster.cores ∙ left.finished.whole.core_count

  inside : All (λ (d : Done). IsIn C d.stamped.actor) told
  inside = all-map (λ (e : Stamped). IsIn C e.actor) note_of told (subst (All (λ (e : Stamped). IsIn C e.actor)) (sym tells.notes) joined.merged.inside)

  of-core : (i : ℕ) (d : Done) → slice_get told i ≡ Some d → EndIsOfCore (length ends) d
  of-core i d at = by d.stamped.actor refl where
    within-at : IsIn C d.stamped.actor
    within-at = place-all (λ (x : Done). IsIn C x.stamped.actor) told i d inside at

    silent : (a : Actor) → d.stamped.actor ≡ a → is_core a ≡ false → IsIn C a → d.end ≡ None
    silent a is other within =
        let own : done_by a d ≡ true = ap (same_actor a) is ∙ same_actor-refl a in
        let stands = stands-taken (done_by a) told i d at own in
        place-all HasNoEnd (filter (done_by a) told) stands.0 d (subst (All HasNoEnd) (sym (tells.parts a within)) (quiet C.shape a other (together.work S M made workers f left (owner workers a)))) stands.1

    by : (a : Actor) → d.stamped.actor ≡ a → EndIsOfCore (length ends) d
    by (Core core) is = λ end some.
        let within : IsIn C (Core core) = subst (IsIn C) is within-at in
        (core.0, subst (λ n. core.0 < n) (sym ends-long) (below-bound core.0 C.shape.cores within), is)
    by (Bank bank) is = λ end some. absurd (none-some end (sym (silent (Bank bank) is refl (subst (IsIn C) is within-at)) ∙ some))
    by Keeper is = λ end some. absurd (none-some end (sym (silent Keeper is refl (subst (IsIn C) is within-at)) ∙ some))

  seen : (i : ℕ) (es : List EndSeen) → slice_get ends i ≡ Some es → es ≡ filter_map end_seen (filter (done_by (core_at i)) told)
  seen i es at =
      let whole = together.whole S M made workers f left in
      let now = together.whole-then S M made workers f left in
      let small : i < C.shape.cores = subst (λ n. i < n) ends-long (slice_get_within ends i es at) in
      let o = there left.opened.roster.cores i (subst (λ n. i < n) (sym whole.core_count) small) in
      let p = there left.finished.roster.cores i (subst (λ n. i < n) (sym now.core_count) small) in
      let is : o.0.core ≡ record { 0 = i } = same-core o.0.core (record { 0 = i }) (whole.core_at i o.0 o.1) in
      let went = core-went C left.hall workers left.opened.roster left.finished.roster _ _ _ left.some whole now (together.acts S M made workers f left) (together.each S M made workers f left) i o.0 p.0 o.1 p.1 (together.owns S M made workers f left (Core o.0.core)) in
      let own : es ≡ core_ends p.0 = same-some es (core_ends p.0) (sym at ∙ mapped-at core_ends left.finished.roster.cores i p.0 p.1) in
      let within : IsIn C (core_at i) = is-below i C.shape.cores small in
      own ∙ (went.ends ∙ (ap (λ l. l ++ filter_map end_seen (events_by C.shape (Core o.0.core) (together.work S M made workers f left (owner workers (Core o.0.core))))) (left.opened.fresh.cores i o.0 o.1).ends
      ∙ (ap (λ (c : CoreId). filter_map end_seen (events_by C.shape (Core c) (together.work S M made workers f left (owner workers (Core c))))) is
      ∙ ap (filter_map end_seen) (sym (tells.parts (core_at i) within)))))

  pub ends-are : AreEndsOf merged ends told
  ends-are = record {
    notes = tells.notes;
    rising = rising;
    of_cores = λ k d within. of-core k (get_or told k d) (slice_get-get_or told k d within);
    seen = seen;
  }
