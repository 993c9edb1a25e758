-- What is printed of a run's timing is lines of answers: a chain has at most one link for each event.
use Rattle.std.proofs.Common.{◌≡◌, ℕ, ◌+◌, ◌==◌, ◌<◌, ◌≤◌, Bool, true, false, cond, List, [], ◌∷◌, ◌++◌, map, flat_map, length, get_or, Option, Some, None, refl, sym, subst, ◌∙◌, arith}
use Rattle.std.proofs.lemmas.List.{append-nil, length-map}
use Rattle.std.proofs.lemmas.List.Elements.{All-nil, All-cons, All-map}
use Rattle.std.proofs.lemmas.Option.{none-some, same_Some, slice_get-get_or}
use Rattle.message_net.specs.declared.event.Event.{Event}
use Rattle.machine_rules.specs.State.{State}
use Rattle.run_report.specs.Summary.{count_line}
use Rattle.run_timing.specs.declared.ticks.Ticks.{Ticks}
use Rattle.run_timing.specs.declared.timing.Link.{Link}
use Rattle.run_timing.specs.declared.timing.Timing.{Timing}
use Rattle.run_timing.specs.Chains.{IsChainBehind, IsChain, steps_cost, cost, last_from, last_of}
use Rattle.run_timing.specs.Depends.{DependsOn}
use Rattle.run_timing.specs.Longest.{numbers_in, IsLinkOf, IsLongest}
use Rattle.run_timing.specs.Steps.{step_delay}
use Rattle.run_timing.specs.Text.{time_line, chain_line, network_line, link_line as timed_line, timing_of}
use Rattle.run_timing.specs.Ticks.{ticks_at}
use Rattle.run_timing.proofs.IsLongest.{depends-within}
use Rattle.text_places.specs.declared.places.Located.{Located}
use Rattle.explained_answer.specs.declared.line.AnswerLine as line
use Rattle.explained_answer.specs.declared.line.AnswerLine.{AnswerLine}
use Rattle.explained_answer.specs.declared.line.Count as count
use Rattle.explained_answer.specs.AnswerLines.{answer_line, link_line}
use Rattle.explained_answer.specs.Lines.{IsLineOf}
use Rattle.companion_laws.proofs.Ends.{number}
use Rattle.companion_laws.proofs.Runs.{AreLines, lines-append}

-- ---- chains

-- each number that depends on another is greater, and below n
module _ (Depends : ℕ → ℕ → Type 0) (n : ℕ) (later : (i j : ℕ) → Depends i j → (i < j) × (j < n)) where
  behind-length : (i : ℕ) (js : List ℕ) → i < n → IsChainBehind Depends i js → length js + i + 1 ≤ n
  behind-length i [] within h = omega (arith, within)
  behind-length i (j ∷ js) within h = let step = later i j h.0 in omega (arith, step.0, behind-length j js step.1 h.1)

  chain-length : (is : List ℕ) → IsChain Depends n is → length is ≤ n
  chain-length [] h = omega arith
  chain-length (i ∷ is) h = omega (arith, behind-length i is h.0 h.1)

  last-within : (i : ℕ) (js : List ℕ) → i < n → IsChainBehind Depends i js → last_from i js < n
  last-within i [] within h = within
  last-within i (j ∷ js) within h = last-within j js (later i j h.0).1 h.1

  chain-last : (is : List ℕ) (last : ℕ) → IsChain Depends n is → last_of is ≡ Some last → last < n
  chain-last [] last h e = absurd (none-some last e)
  chain-last (i ∷ is) last h e = subst (λ (x : ℕ). x < n) (same_Some (last_from i is) last e) (last-within i is h.0 h.1)

-- ---- lines

pub one-line : (l : Located) (x : AnswerLine) → IsLineOf l x → (bytes : List ℕ) → bytes ≡ answer_line x → AreLines l bytes
one-line l x of bytes is =
    record { lines = x ∷ []; are = All-cons (IsLineOf l) x [] of (All-nil (IsLineOf l)); is = is ∙ sym (append-nil (answer_line x)) }

abbrev link_shown : Link → AnswerLine
link_shown k = line.TheVariants.Link (record { event = k.event; kind = k.kind; finish = k.finish })

same-link : (k : Link) → timed_line k ≡ answer_line (link_shown k)
unfolding timed_line link_line
same-link k = refl

same-links : (ks : List Link) → flat_map timed_line ks ≡ flat_map answer_line (map link_shown ks)
same-links [] = refl
same-links (k ∷ ks) = λ i. same-link k i ++ same-links ks i

same-time : (total : ℕ) → time_line total ≡ answer_line (line.TheVariants.Time total)
unfolding time_line count_line
same-time total = refl

same-network : (ticks : ℕ) → network_line (Some ticks) ≡ answer_line (line.TheVariants.Network ticks)
unfolding network_line count_line
same-network ticks = refl

no-network : network_line None ≡ []
unfolding network_line
no-network = refl

same-chain : (links : ℕ) → chain_line links ≡ answer_line (line.TheVariants.Count count.TheVariants.Links links)
unfolding chain_line count_line
same-chain links = refl

timing-parts : (timing : Timing) → timing_of timing ≡ time_line timing.total ++ chain_line (length timing.links.items) ++ network_line timing.network ++ flat_map timed_line timing.links.items
unfolding timing_of
timing-parts timing = refl

module _ (l : Located) (ticks : Ticks) (S : State) (events : List Event) (few : length events ≤ 25169664) (timing : Timing) (longest : IsLongest ticks S events timing) where
  abbrev links : List Link
  links = timing.links.items

  abbrev n : ℕ
  n = length events

  -- no chain takes longer than the longest
  most-ticks : (chain : List ℕ) → IsChain (DependsOn S events) n chain → cost (ticks_at ticks S events) (step_delay ticks S events) chain ≤ 176187648000000
  most-ticks chain is = omega (arith, longest.longest chain is, longest.bound)

  time-printed : AreLines l (time_line timing.total)
  time-printed =
      one-line l (line.TheVariants.Time timing.total) (record { fits = record { low = omega arith; high = longest.bound }; of = refl }) (time_line timing.total) (same-time timing.total)

  chain-printed : AreLines l (chain_line (length links))
  chain-printed =
      let many = chain-length (DependsOn S events) n (depends-within S events) (numbers_in links) longest.chain in
      let size : length (numbers_in links) ≡ length links = length-map links (λ (k : Link). k.event) in
      one-line l (line.TheVariants.Count count.TheVariants.Links (length links)) (record { fits = number (length links) (omega (arith, few, many, size)); of = refl })
      (chain_line (length links)) (same-chain (length links))

  -- the delays are a part of the total
  network-lines : (latency : Bool) → AreLines l (network_line (cond latency None (Some (steps_cost (step_delay ticks S events) (numbers_in links)))))
  network-lines true = record { lines = []; are = All-nil (IsLineOf l); is = no-network }
  network-lines false =
      let delays = steps_cost (step_delay ticks S events) (numbers_in links) in
      let high : delays ≤ 176187648000000 = omega (arith, longest.takes, longest.bound) in
      one-line l (line.TheVariants.Network delays) (record { fits = record { low = omega arith; high = high }; of = refl }) (network_line (Some delays)) (same-network delays)

  network-printed : AreLines l (network_line timing.network)
  network-printed = subst (λ (o : Option ℕ). AreLines l (network_line o)) (sym longest.network) (network-lines (ticks.network.latency == 0))

  link-of : (k : Link) → IsLinkOf ticks S events k → IsLineOf l (link_shown k)
  link-of k is =
      let event = chain-last (DependsOn S events) n (depends-within S events) is.finish.chain k.event is.finish.is_chain is.finish.ends in
      let finish = most-ticks is.finish.chain is.finish.is_chain in
      record {
        fits =
            record {
              event = number k.event (omega (arith, few, event));
              finish = record { low = omega arith; high = omega (arith, finish, is.finish.costs) };
            };
        of = refl;
      }

  links-printed : AreLines l (flat_map timed_line links)
  links-printed =
      record {
        lines = map link_shown links;
        are = All-map (IsLineOf l) link_shown links (λ k d within. link-of (get_or links k d) (longest.links k (get_or links k d) (slice_get-get_or links k d within)));
        is = same-links links;
      }

  pub timing-printed : AreLines l (timing_of timing)
  timing-printed =
      subst (AreLines l) (sym (timing-parts timing))
      (lines-append l (time_line timing.total ++ chain_line (length links) ++ network_line timing.network) (flat_map timed_line links)
      (lines-append l (time_line timing.total ++ chain_line (length links)) (network_line timing.network)
      (lines-append l (time_line timing.total) (chain_line (length links)) time-printed chain-printed) network-printed) links-printed)
