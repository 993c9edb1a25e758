-- A run has one timing.
use Rattle.std.proofs.Common.{◌≡◌, ℕ, zero, suc, ◌+◌, ◌<◌, ◌≤◌, Bool, true, false, nat_lt, List, [], ◌∷◌, length, take, slice_get, Option, Some, refl, sym, ap, subst, ◌∙◌, arith}
use Rattle.std.proofs.lemmas.Bool.Decides.{nat_tests}
use Rattle.std.proofs.lemmas.Option.{none-some, same_Some}
use Rattle.dn_base.specs.declared.ids.Shape.{Shape}
use Rattle.message_net.specs.declared.actor.Actor.{Actor}
use Rattle.message_net.specs.declared.event.Event.{Event}
use Rattle.message_net.specs.declared.event.Event.TheVariants.{Handle}
use Rattle.region_table.specs.Program.{ProgramParts}
use Rattle.registration_protocol.specs.Node.{Setting}
use Rattle.machine_rules.specs.State.{State, initial_state}
use Rattle.machine_rules.specs.Next.{kind_in}
use Rattle.run_timing.specs.declared.ticks.Ticks.{Ticks}
use Rattle.run_timing.specs.declared.timing.Link.{Link}
use Rattle.run_timing.specs.declared.timing.Timing.{Timing}
use Rattle.run_timing.specs.Chains.{cost}
use Rattle.run_timing.specs.Depends.{state_at, kind_if_any, kind_at, IsOwnBefore, Sends, IsSender, DependsOn}
use Rattle.run_timing.specs.Longest.{FinishesAt, network_of, numbers_in, IsLongest, IsTimingOf}
use Rattle.run_timing.specs.Steps.{step_delay}
use Rattle.run_timing.specs.Ticks.{AreWithinLimits, ticks_of, ticks_with, ticks_at}
use Rattle.run_timing.proofs.IsLongest.{depends-within}
use Rattle.run_timing.proofs.OneChain.{AreSingle, IsFinishing, one-finish, one-chain}
use Rattle.dn_machine.proofs.OneSetting.{same-setting}

-- ---- each event takes some ticks, and depends on one of its own actor's and on one sender at the most

-- two numbers neither of which is less are one
neither-less : (p q : ℕ) → (p < q → ⊥) → (q < p → ⊥) → p ≡ q
neither-less p q first second = by_test (nat_lt p q) (nat_lt q p) refl refl where
  by_test : (s t : Bool) → nat_lt p q ≡ s → nat_lt q p ≡ t → p ≡ q
  by_test true t e f = absurd (first (grind (arith, nat_tests, e)))
  by_test false true e f = absurd (second (grind (arith, nat_tests, f)))
  by_test false false e f = grind (arith, nat_tests, e, f)

later-own : (S : State) (events : List Event) (p q i : ℕ) → IsOwnBefore S events p i → IsOwnBefore S events q i → p < q → ⊥
later-own S events p q i first second before =
    let same : second.actor ≡ first.actor = same_Some second.actor first.actor (sym second.makes_next ∙ first.makes_next) in
    first.none_between q before second.earlier (second.makes ∙ ap (λ (a : Actor). Some a) same)

-- the mail is in flight since the first of the two, and so the second doesn't send it
later-sender : (S : State) (events : List Event) (p q i : ℕ) → IsSender S events p i → IsSender S events q i → p < q → ⊥
later-sender S events p q i first second before =
    let handled : Handle second.id ≡ Handle first.id = same_Some (Handle second.id) (Handle first.id) (sym second.handled ∙ first.handled) in
    let same : second.id ≡ first.id = cc in
    let sent = subst (Sends S events q) same second.sent in
    omega (arith, sent.absent, first.in_flight q before (omega (arith, second.earlier)))

event-at : (events : List Event) (n : ℕ) → n < length events → (e : Event) × (slice_get events n ≡ Some e)
event-at [] n below = absurd (omega (arith, below))
event-at (x ∷ xs) zero below = (x, refl)
event-at (x ∷ xs) (suc n) below = event-at xs n (omega (arith, below))

some-ticks : (ticks : Ticks) (S : State) (events : List Event) (i : ℕ) → AreWithinLimits ticks → i < length events → 1 ≤ ticks_at ticks S events i
some-ticks ticks S events i limits below =
    let e = event-at events i below in
    let kind = kind_in (state_at S events i) e.0 in
    let takes : ticks_at ticks S events i ≡ ticks_of ticks kind = ap (λ (o : Option Event). ticks_with ticks (kind_if_any (state_at S events i) o)) e.1 in
    omega (arith, takes, (limits.events kind).0)

single : (ticks : Ticks) (S : State) (events : List Event) → AreWithinLimits ticks → AreSingle (IsOwnBefore S events) (IsSender S events) (length events) (ticks_at ticks S events)
single ticks S events limits =
    record {
      within = λ p i d. (depends-within S events p i d).1;
      one_own = λ p q i first second. neither-less p q (later-own S events p q i first second) (later-own S events q p i second first);
      one_sender = λ p q i first second. neither-less p q (later-sender S events p q i first second) (later-sender S events q p i second first);
      some = λ i below. some-ticks ticks S events i limits below;
    }

-- ---- the links of a longest chain

get-link : (links : List Link) (k i : ℕ) → slice_get (numbers_in links) k ≡ Some i → (link : Link) × (slice_get links k ≡ Some link) × (link.event ≡ i)
get-link [] k i here = absurd (none-some i here)
get-link (x ∷ xs) zero i here = (x, refl, same_Some x.event i here)
get-link (x ∷ xs) (suc k) i here = get-link xs k i here

finishing : (ticks : Ticks) (S : State) (events : List Event) (t : Timing) → IsLongest ticks S events t
    → IsFinishing (IsOwnBefore S events) (IsSender S events) (length events) (ticks_at ticks S events) (step_delay ticks S events) (numbers_in t.links.items)
finishing ticks S events t longest = record { chain = longest.chain; finish = finish; own = own } where
  finish : (k i : ℕ) → slice_get (numbers_in t.links.items) k ≡ Some i → FinishesAt ticks S events i (cost (ticks_at ticks S events) (step_delay ticks S events) (take (suc k) (numbers_in t.links.items)))
  finish k i here =
      let link = get-link t.links.items k i here in
      let one : k + 1 ≡ suc k = omega arith in
      let costs = subst (λ (m : ℕ). link.0.finish ≡ cost (ticks_at ticks S events) (step_delay ticks S events) (take m (numbers_in t.links.items))) one (longest.finishes k link.0 link.1) in
      subst (λ (f : ℕ). FinishesAt ticks S events i f) costs (subst (λ (j : ℕ). FinishesAt ticks S events j link.0.finish) link.2 (longest.links k link.0 link.1).finish)

  own : (k b i o s g h : ℕ) → slice_get (numbers_in t.links.items) k ≡ Some b → slice_get (numbers_in t.links.items) (suc k) ≡ Some i → IsOwnBefore S events o i → IsSender S events s i
      → FinishesAt ticks S events o g → FinishesAt ticks S events s h → g + step_delay ticks S events o i ≡ h + step_delay ticks S events s i → b ≡ o
  own k b i o s g h here next mine sent first second alike =
      let before = get-link t.links.items k b here in
      let link = get-link t.links.items (suc k) i next in
      let one : suc k ≡ k + 1 = omega arith in
      let next_is = subst (λ (m : ℕ). slice_get t.links.items m ≡ Some link.0) one link.1 in
      sym before.2
      ∙ longest.own k before.0 link.0 o s g h before.1 next_is (subst (IsOwnBefore S events o) (sym link.2) mine) (subst (IsSender S events s) (sym link.2) sent) first second
      (subst (λ (x : ℕ). g + step_delay ticks S events o x ≡ h + step_delay ticks S events s x) (sym link.2) alike)

same-links : (ls ms : List Link) → numbers_in ls ≡ numbers_in ms
    → ((k : ℕ) (l m : Link) → slice_get ls k ≡ Some l → slice_get ms k ≡ Some m → l.event ≡ m.event → l ≡ m) → ls ≡ ms
same-links [] [] same each = refl
same-links [] (m ∷ ms) same each = absurd (cc)
same-links (l ∷ ls) [] same each = absurd (cc)
same-links (l ∷ ls) (m ∷ ms) same each =
    let all : ◌≡◌ {A = List ℕ} (l.event ∷ numbers_in ls) (m.event ∷ numbers_in ms) = same in
    let event : l.event ≡ m.event = cc in
    let numbers : numbers_in ls ≡ numbers_in ms = cc in
    let first : l ≡ m = each 0 l m refl refl event in
    let rest : ls ≡ ms = same-links ls ms numbers (λ k x y here there is. each (suc k) x y here there is) in
    rw (first, rest) refl

link-same : (l m : Link) → l.event ≡ m.event → l.kind ≡ m.kind → l.finish ≡ m.finish → l ≡ m
link-same l m e k f =
    let same : record { event = l.event; kind = l.kind; finish = l.finish } ≡ m = rw (e, k, f) refl in same

-- ---- two longest chains

same-total : (ticks : Ticks) (S : State) (events : List Event) (t u : Timing) → IsLongest ticks S events t → IsLongest ticks S events u → t.total ≡ u.total
same-total ticks S events t u a b =
    omega (arith, a.takes, b.takes, a.longest (numbers_in u.links.items) b.chain, b.longest (numbers_in t.links.items) a.chain)

same-numbers : (ticks : Ticks) (S : State) (events : List Event) (t u : Timing) → AreWithinLimits ticks → IsLongest ticks S events t → IsLongest ticks S events u
    → numbers_in t.links.items ≡ numbers_in u.links.items
same-numbers ticks S events t u limits a b =
    let total = same-total ticks S events t u a b in
    one-chain (IsOwnBefore S events) (IsSender S events) (length events) (ticks_at ticks S events) (step_delay ticks S events) (single ticks S events limits) (numbers_in t.links.items) (numbers_in u.links.items)
    (finishing ticks S events t a) (finishing ticks S events u b) (a.takes ∙ (total ∙ sym b.takes))
    (λ i j ends other. omega (arith, a.least (numbers_in u.links.items) i j b.chain (b.takes ∙ sym total) ends other, b.least (numbers_in t.links.items) j i a.chain (a.takes ∙ total) other ends))

same-link : (ticks : Ticks) (S : State) (events : List Event) (t u : Timing) → IsLongest ticks S events t → IsLongest ticks S events u
    → (k : ℕ) (l m : Link) → slice_get t.links.items k ≡ Some l → slice_get u.links.items k ≡ Some m → l.event ≡ m.event → l ≡ m
same-link ticks S events t u a b k l m here there event =
    let first = a.links k l here in
    let second = b.links k m there in
    let kinds : kind_at S events l.event ≡ Some m.kind = subst (λ (i : ℕ). kind_at S events i ≡ Some m.kind) (sym event) second.kind in
    let finish = subst (λ (i : ℕ). FinishesAt ticks S events i m.finish) (sym event) second.finish in
    link-same l m event (same_Some l.kind m.kind (sym first.kind ∙ kinds))
    (one-finish (DependsOn S events) (length events) (ticks_at ticks S events) (step_delay ticks S events) l.event l.finish m.finish first.finish finish)

-- events have one longest chain
one-longest : (ticks : Ticks) (S : State) (events : List Event) (t u : Timing) → AreWithinLimits ticks → IsLongest ticks S events t → IsLongest ticks S events u
    → (t.total ≡ u.total) × (t.network ≡ u.network) × (t.links.items ≡ u.links.items)
one-longest ticks S events t u limits a b =
    let links : t.links.items ≡ u.links.items = same-links t.links.items u.links.items (same-numbers ticks S events t u limits a b) (same-link ticks S events t u a b) in
    (same-total ticks S events t u a b, a.network ∙ ap (λ (ls : List Link). network_of ticks S events (numbers_in ls)) links ∙ sym b.network, links)

-- and a program, a shape and fuel have one setting
pub one-timing : (P : ProgramParts) (machine : Shape) (most : ℕ) (events : List Event) (ticks : Ticks) (t u : Timing) → AreWithinLimits ticks → IsTimingOf P machine most events ticks t
    → IsTimingOf P machine most events ticks u → (t.total ≡ u.total) × (t.network ≡ u.network) × (t.links.items ≡ u.links.items)
one-timing P machine most events ticks t u limits is also =
    let same : also.setting ≡ is.setting = same-setting P machine most also.setting is.setting also.setting_is is.setting_is in
    one-longest ticks (initial_state is.setting) events t u limits is.longest (subst (λ (C : Setting). IsLongest ticks (initial_state C) events u) same also.longest)
