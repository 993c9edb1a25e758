-- The way back from the event that finishes last is the longest chain.
use Rattle.std.proofs.Common.{◌≡◌, inl, inr, Bool, true, false, nat_lt, ℕ, suc, ◌+◌, ◌<◌, ◌≤◌, List, [], ◌∷◌, length, sum_by, take, slice_get, Option, Some, None, refl, sym, ap, subst, ◌∙◌, arith}
use Rattle.std.proofs.lemmas.Bool.Decides.{nat_tests}
use Rattle.std.proofs.lemmas.List.{get_or_past}
use Rattle.std.proofs.lemmas.List.Sums.{sum_by-cons}
use Rattle.std.proofs.lemmas.Option.{none-some, same_Some, slice_get-map, slice_get_within}
use Rattle.std.specs.Option.{option_map}
use Rattle.message_net.specs.declared.actor.Actor.{Actor}
use Rattle.message_net.specs.declared.event.Event.{Event}
use Rattle.machine_rules.specs.State.{State}
use Rattle.run_timing.specs.declared.rows.Rows.{Rows}
use Rattle.run_timing.specs.declared.ticks.Ticks.{Ticks}
use Rattle.run_timing.specs.declared.timing.Link.{Link}
use Rattle.run_timing.specs.declared.timing.Timing.{Timing}
use Rattle.run_timing.specs.Chains.{IsChain, steps_cost, cost, last_of, IsFinish}
use Rattle.run_timing.specs.Depends.{state_at, actor_of_event, actor_at, kind_at, IsOwnBefore, IsSender, DependsOn}
use Rattle.run_timing.specs.Longest.{numbers_in, IsLinkOf, IsLongest}
use Rattle.run_timing.specs.Noted.{AreRowsOf}
use Rattle.run_timing.specs.Network.{told_delay}
use Rattle.run_timing.specs.Rows.{finish_in, before_in, behind, reach_of, ticks_of_link, AreInStep, AreSummed, IsWay, IsLatest}
use Rattle.run_timing.specs.Steps.{step_delay}
use Rattle.run_timing.specs.Ticks.{ticks_at, ticks_with}
use Rattle.run_timing.proofs.Longest.{AreRows, finishes, finish-is}
use Rattle.run_timing.proofs.WayBack.{Leads, reach-parts, leads-chain, leads-costs, leads-total, leads-end, leads-next, latest-longest, latest-least}
use Rattle.run_timing.proofs.Ways.{way-leads, way-link, way-ticks}

-- an event that depends on one comes after it, and is one of the list
actor-within : (S : State) (events : List Event) (i : ℕ) (a : Actor) → actor_at S events i ≡ Some a → i < length events
actor-within S events i a is = by_event (slice_get events i) refl is where
  by_event : (o : Option Event) → slice_get events i ≡ o → actor_of_event (state_at S events i) o ≡ Some a → i < length events
  by_event None e made = absurd (none-some a made)
  by_event (Some x) e made = slice_get_within events i x e

pub depends-within : (S : State) (events : List Event) (p i : ℕ) → DependsOn S events p i → (p < i) × (i < length events)
depends-within S events p i (inl own) = (own.earlier, actor-within S events i own.actor own.makes_next)
depends-within S events p i (inr sender) = (sender.earlier, slice_get_within events i _ sender.handled)

pub rows-of : (ticks : Ticks) (S : State) (events : List Event) (rows : Rows) → AreRowsOf ticks S events rows
    → AreRows (IsOwnBefore S events) (IsSender S events) (length events) (ticks_at ticks S events) (step_delay ticks S events) (finish_in rows) (before_in rows)
rows-of ticks S events rows noted = record { row = noted.row; earlier = depends-within S events }

pub in-step : (ticks : Ticks) (S : State) (events : List Event) (rows : Rows) → AreRowsOf ticks S events rows → AreInStep rows
in-step ticks S events rows noted =
    record { befores = noted.befores ∙ sym noted.finishes; kinds = noted.kinds ∙ sym noted.finishes; earlier = λ i p is. earlier i p is (nat_lt i (length events)) refl }
  where
    earlier : (i p : ℕ) → before_in rows i ≡ Some p → (t : Bool) → nat_lt i (length events) ≡ t → p < i
    earlier i p is true e = (depends-within S events p i ((noted.row i (grind (arith, nat_tests, e))).depends p is)).0
    earlier i p is false e =
        let past : length rows.befores ≤ i = grind (arith, nat_tests, e, noted.befores) in
        absurd (none-some p (sym (get_or_past rows.befores i None past) ∙ is))

pub summed : (ticks : Ticks) (S : State) (events : List Event) (rows : Rows) → AreRowsOf ticks S events rows → AreSummed ticks rows
summed ticks S events rows noted i kind within here =
    let below : i < length events = omega (arith, within, noted.finishes) in
    let told : kind_at S events i ≡ Some kind = sym (noted.kind i below) ∙ here in
    omega (arith, (noted.row i below).finish, ap (ticks_with ticks) told, reach-parts (finish_in rows) (step_delay ticks S events) i (before_in rows i))

-- the number of a link's event
link-number : (links : List Link) (k : ℕ) (link : Link) → slice_get links k ≡ Some link → slice_get (numbers_in links) k ≡ Some link.event
link-number links k link here = slice_get-map (λ (x : Link). x.event) links k ∙ ap (option_map (λ (x : Link). x.event)) here

pub way-longest : (ticks : Ticks) (S : State) (events : List Event) (rows : Rows) (last : Option ℕ) (timing : Timing) → length events ≤ 25169664 → AreRowsOf ticks S events rows
    → IsLatest (length events) (finish_in rows) last → IsWay rows None last timing.links.items → timing.total ≡ behind (finish_in rows) last
    → ((m : ℕ) → m + sum_by (ticks_of_link ticks) timing.links.items ≡ timing.total → timing.network ≡ told_delay ticks.network m) → IsLongest ticks S events timing
way-longest ticks S events rows last timing few noted latest way total network =
    record {
      chain = leads-chain Own Sender n t w f b all None last is leads;
      takes = omega (arith, leads-total Own Sender n t w f b all last is leads, total);
      longest = λ other chain. omega (arith, latest-longest Own Sender n t w f b all last latest other chain, total);
      network = network (steps_cost w is) (omega (arith, links-ticks timing.links.items kinds-are, leads-total Own Sender n t w f b all last is leads, total));
      finishes = finishes-at;
      links = links-are;
      least = least;
      own = own;
      bound = omega (arith, total, low last latest.within);
    }
  where
    Own : ℕ → ℕ → Type 0
    Own = IsOwnBefore S events

    Sender : ℕ → ℕ → Type 0
    Sender = IsSender S events

    n : ℕ
    n = length events

    t : ℕ → ℕ
    t = ticks_at ticks S events

    w : ℕ → ℕ → ℕ
    w = step_delay ticks S events

    f : ℕ → ℕ
    f = finish_in rows

    b : ℕ → Option ℕ
    b = before_in rows

    is : List ℕ
    is = numbers_in timing.links.items

    all : AreRows Own Sender n t w f b
    all = rows-of ticks S events rows noted

    leads : Leads n b None last is
    leads = subst (λ (x : ℕ). Leads x b None last is) noted.finishes (way-leads rows None last timing.links.items way)

    finishes-at : (k : ℕ) (link : Link) → slice_get timing.links.items k ≡ Some link → link.finish ≡ cost t w (take (k + 1) is)
    finishes-at k link here =
        let one : k + 1 ≡ suc k = omega arith in
        let told = way-link rows None last timing.links.items k link way here in
        rw one (omega (arith, told.1.finish, leads-costs Own Sender n t w f b all last is k link.event leads (link-number timing.links.items k link here)))

    links-are : (k : ℕ) (link : Link) → slice_get timing.links.items k ≡ Some link → IsLinkOf ticks S events link
    links-are k link here =
        let told = way-link rows None last timing.links.items k link way here in
        let within : link.event < n = omega (arith, told.1.within, noted.finishes) in
        record {
          kind = sym (noted.kind link.event within) ∙ told.1.kind;
          finish = subst (λ (x : ℕ). IsFinish (DependsOn S events) n t w link.event x) (sym told.1.finish) (finishes Own Sender n t w f b all link.event within);
        }

    kinds-are : (k : ℕ) (link : Link) → slice_get timing.links.items k ≡ Some link → kind_at S events link.event ≡ Some link.kind
    kinds-are k link here = (links-are k link here).kind

    -- the ticks of the links' kinds are those of their events
    links-ticks : (links : List Link) → ((k : ℕ) (link : Link) → slice_get links k ≡ Some link → kind_at S events link.event ≡ Some link.kind)
        → sum_by (ticks_of_link ticks) links ≡ sum_by t (numbers_in links)
    links-ticks [] kinds = refl
    links-ticks (link ∷ links) kinds =
        omega (
          arith,
          links-ticks links (λ k x here. kinds (suc k) x here),
          ap (ticks_with ticks) (kinds 0 link refl),
          sum_by-cons (ticks_of_link ticks) link links,
          sum_by-cons t link.event (numbers_in links),
        )

    low : (o : Option ℕ) → ((e : ℕ) → o ≡ Some e → e < n) → behind f o ≤ 176187648000000
    low None within = omega arith
    low (Some e) within = omega (arith, noted.small e (within e refl), within e refl, few)

    least-of : (o : Option ℕ) → last ≡ o → (other : List ℕ) (i j : ℕ) → IsChain (DependsOn S events) n other → cost t w other ≡ timing.total → last_of is ≡ Some i → last_of other ≡ Some j → i ≤ j
    least-of None e other i j chain same ends other_ends =
        let none : n ≡ 0 = latest.none e in
        absurd (nothing other chain other_ends none)
      where
        nothing : (c : List ℕ) → IsChain (DependsOn S events) n c → last_of c ≡ Some j → n ≡ 0 → ⊥
        nothing [] chain ends none = none-some j ends
        nothing (x ∷ xs) chain ends none = omega (arith, chain.0, none)
    least-of (Some e) at_end other i j chain same ends other_ends =
        let here : i ≡ e = leads-end n b None e i is (subst (λ (o : Option ℕ). Leads n b None o is) at_end leads) ends in
        let costs : cost t w other ≡ f e = omega (arith, same, total, ap (behind f) at_end) in
        let more = latest-least Own Sender n t w f b all e (subst (IsLatest n f) at_end latest) other j chain costs other_ends in
        omega (arith, here, more)

    least : (other : List ℕ) (i j : ℕ) → IsChain (DependsOn S events) n other → cost t w other ≡ timing.total → last_of is ≡ Some i → last_of other ≡ Some j → i ≤ j
    least = least-of last refl

    own : (k : ℕ) (before link : Link) (i j finish sent : ℕ) → slice_get timing.links.items k ≡ Some before → slice_get timing.links.items (k + 1) ≡ Some link → Own i link.event → Sender j link.event
        → IsFinish (DependsOn S events) n t w i finish → IsFinish (DependsOn S events) n t w j sent → finish + w i link.event ≡ sent + w j link.event → before.event ≡ i
    own k before link i j finish sent here next mine mail first second same =
        let one : k + 1 ≡ suc k = omega arith in
        let next_is : slice_get timing.links.items (suc k) ≡ Some link = subst (λ (x : ℕ). slice_get timing.links.items x ≡ Some link) one next in
        let told = way-link rows None last timing.links.items (suc k) link way next_is in
        let within : link.event < n = omega (arith, told.1.within, noted.finishes) in
        let alike : reach_of f w link.event i ≡ reach_of f w link.event j =
        omega (arith, same, finish-is Own Sender n t w f b all i finish first, finish-is Own Sender n t w f b all j sent second)
        in
        let chosen = (noted.row link.event within).own i j mine mail alike in
        let linked = leads-next n b None last is k before.event link.event leads (link-number timing.links.items k before here) (link-number timing.links.items (suc k) link next_is) in
        same_Some before.event i (sym linked ∙ chosen)
