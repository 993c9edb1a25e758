-- Links that lead to an event, one by one, and the numbers of their events.
use Rattle.std.proofs.Common.{◌≡◌, ℕ, zero, suc, ◌+◌, ◌-◌, ◌<◌, ◌≤◌, Bool, true, false, nat_lt, List, [], ◌∷◌, ◌++◌, length, map, reverse, sum_by, slice_get, Option, Some, None, refl, sym, ap, subst, ◌∙◌, arith}
use Rattle.std.proofs.lemmas.Bool.Decides.{nat_tests}
use Rattle.std.proofs.lemmas.List.{reverse-append}
use Rattle.std.proofs.lemmas.List.Sums.{sum_by-cons}
use Rattle.std.proofs.lemmas.Option.{none-some, same_Some}
use Rattle.run_timing.specs.declared.rows.Rows.{Rows}
use Rattle.run_timing.specs.declared.ticks.Ticks.{Ticks}
use Rattle.run_timing.specs.declared.timing.Link.{Link}
use Rattle.run_timing.specs.Rows.{finish_in, before_in, behind, ticks_of_link, AreInStep, AreSummed, IsLinkIn, IsWay, IsLatest}
use Rattle.run_timing.proofs.WayBack.{Leads}

-- how far an event is from the beginning, at the most
abbrev pub steps_to : Option ℕ → ℕ
steps_to None = 0
steps_to (Some i) = i + 1

-- one more link before the others
pub way-more : (rows : Rows) (before last : Option ℕ) (links : List Link) (link : Link) → IsLinkIn rows before link → IsWay rows (Some link.event) last (reverse links)
    → IsWay rows before last (reverse (links ++ link ∷ []))
way-more rows before last links link is way =
    subst (IsWay rows before last) (sym (reverse-append links (link ∷ []))) (is, way)

-- the links lead on from an event, or from none
pub record IsWayFrom (rows : Rows) (next last : Option ℕ) (links : List Link) : Type 0 where
  pub within : (i : ℕ) → next ≡ Some i → i < length rows.finishes
  pub way : IsWay rows next last (reverse links)

-- from the event before it on with the event's link
pub way-step : (rows : Rows) (last next before : Option ℕ) (links more : List Link) (event : ℕ) (link : Link) → AreInStep rows → next ≡ Some event → link.event ≡ event → IsWayFrom rows next last links
    → link.finish ≡ finish_in rows event → slice_get rows.kinds event ≡ Some link.kind → before ≡ before_in rows event → more ≡ links ++ link ∷ [] → IsWayFrom rows before last more
way-step rows last next before links more event link step is named on here kind before_is more_is =
    let within : event < length rows.finishes = on.within event is in
    let told : IsLinkIn rows before link =
    record {
      within = omega (arith, within, named);
      before_is = ap (before_in rows) named ∙ sym before_is;
      finish = here ∙ ap (finish_in rows) (sym named);
      kind = ap (slice_get rows.kinds) named ∙ kind;
    }
    in
    let way : IsWay rows (Some link.event) last (reverse links) = subst (λ (o : Option ℕ). IsWay rows o last (reverse links)) (is ∙ ap (λ (x : ℕ). Some x) (sym named)) on.way in
    record {
      within = λ i before_at. omega (arith, step.earlier event i (sym before_is ∙ before_at), within);
      way = subst (λ (xs : List Link). IsWay rows before last (reverse xs)) (sym more_is) (way-more rows before last links link told way);
    }

-- the links' events take no more than what is between the one before them and the last
pub way-ticks : (ticks : Ticks) (rows : Rows) (before last : Option ℕ) (links : List Link) → AreSummed ticks rows → IsWay rows before last links
    → behind (finish_in rows) before + sum_by (ticks_of_link ticks) links ≤ behind (finish_in rows) last
way-ticks ticks rows before last [] sums way = omega (arith, ap (behind (finish_in rows)) way)
way-ticks ticks rows before last (link ∷ links) sums way =
    omega (
      arith,
      way-ticks ticks rows (Some link.event) last links sums way.1,
      sums link.event link.kind way.0.within way.0.kind,
      ap (behind (finish_in rows)) way.0.before_is,
      sum_by-cons (ticks_of_link ticks) link links,
    )

pub way-leads : (rows : Rows) (before last : Option ℕ) (links : List Link) → IsWay rows before last links
    → Leads (length rows.finishes) (before_in rows) before last (map (λ (link : Link). link.event) links)
way-leads rows before last [] way = way
way-leads rows before last (link ∷ links) way = (way.0.within, way.0.before_is, way-leads rows (Some link.event) last links way.1)

-- each link tells what is noted of its event
pub way-link : (rows : Rows) (before last : Option ℕ) (links : List Link) (k : ℕ) (link : Link) → IsWay rows before last links → slice_get links k ≡ Some link
    → (other : Option ℕ) × IsLinkIn rows other link
way-link rows before last [] k link way here = absurd (none-some link here)
way-link rows before last (x ∷ xs) zero link way here = let same : x ≡ link = same_Some x link here in (before, subst (IsLinkIn rows before) same way.0)
way-link rows before last (x ∷ xs) (suc k) link way here = way-link rows (Some x.event) last xs k link way.1 here

-- ---- the latest of some events, and one more

pub latest-none : (f : ℕ → ℕ) → IsLatest 0 f None
latest-none f =
    record {
      none = λ is. refl;
      within = λ e is. absurd (none-some e is);
      most = λ e i is within. absurd (none-some e is);
      first = λ e i is within. absurd (none-some e is);
    }

below-more : (f : ℕ → ℕ) (n i most : ℕ) → i < n + 1 → f n ≤ most → ((k : ℕ) → k < n → f k ≤ most) → f i ≤ most
below-more f n i most within new old = by_test (nat_lt i n) refl where
  by_test : (t : Bool) → nat_lt i n ≡ t → f i ≤ most
  by_test true e = old i (grind (arith, nat_tests, e))
  by_test false e =
      let same : n ≡ i = grind (arith, nat_tests, e, within) in
      subst (λ (x : ℕ). f x ≤ most) same new

pub latest-new : (f : ℕ → ℕ) (n : ℕ) (latest : Option ℕ) → IsLatest n f latest → behind f latest < f n → IsLatest (n + 1) f (Some n)
latest-new f n None was more =
    record {
      none = λ is. absurd (none-some n (sym is));
      within = λ e is. let same : n ≡ e = same_Some n e is in omega (arith, same);
      most = λ e i is within.
          let same : n ≡ e = same_Some n e is in
          let first : n ≡ i = omega (arith, was.none refl, within) in
          rw (← same, ← first) (omega arith);
      first = λ e i is within. let same : n ≡ e = same_Some n e is in absurd (omega (arith, was.none refl, within, same));
    }
latest-new f n (Some p) was more =
    record {
      none = λ is. absurd (none-some n (sym is));
      within = λ e is. let same : n ≡ e = same_Some n e is in omega (arith, same);
      most = λ e i is within.
          let same : n ≡ e = same_Some n e is in
          subst (λ (x : ℕ). f i ≤ f x) same (below-more f n i (f n) within (omega arith) (λ k below. omega (arith, was.most p k refl below, more)));
      first = λ e i is within.
          let same : n ≡ e = same_Some n e is in
          subst (λ (x : ℕ). f i < f x) same (omega (arith, was.most p i refl (omega (arith, within, same)), more));
    }

pub latest-same : (f : ℕ → ℕ) (n : ℕ) (latest : Option ℕ) → 1 ≤ f n → IsLatest n f latest → f n ≤ behind f latest → IsLatest (n + 1) f latest
latest-same f n None some was less = absurd (omega (arith, some, less))
latest-same f n (Some p) some was less =
    record {
      none = λ is. absurd (none-some p (sym is));
      within = λ e is. omega (arith, was.within e is);
      most = λ e i is within.
          let same : p ≡ e = same_Some p e is in
          below-more f n i (f e) within (subst (λ (x : ℕ). f n ≤ f x) same less) (λ k below. was.most e k is below);
      first = was.first;
    }
