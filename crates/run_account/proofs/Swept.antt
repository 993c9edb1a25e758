-- Copies that are looked at one by one, in any order, come to the items and departures of all of them.
use Rattle.std.proofs.Common.{◌≡◌, ℕ, suc, ◌+◌, ◌<◌, List, [], ◌∷◌, ◌++◌, refl, sym, ap, ◌∙◌}
use Rattle.std.specs.Prelude.{flat_map}
use Rattle.std.specs.List.{fold, filter}
use Rattle.std.proofs.lemmas.List.Sums.{fold-append}
use Rattle.region_table.specs.declared.interval.Interval.{Interval}
use Rattle.word_cache.specs.declared.row.Place.{Place}
use Rattle.word_cache.specs.Cache.{Pair, in_set}
use Rattle.word_cache.specs.Row.{pairs_of, pairs_by_use}
use Rattle.registration_protocol.specs.Node.{NodeParts}
use Rattle.machine_rules.specs.State.{State}
use Rattle.run_account.specs.Tallies.{Tallies, with_items}
use Rattle.run_account.specs.declared.departure.Occasion.{Occasion}
use Rattle.run_account.specs.Departures.{Departures}
use Rattle.run_account.specs.Events.{pair_items}
use Rattle.run_account.specs.Account.{Accounted}
use Rattle.run_account.specs.Copies.{gone_pair, pair_noted, pairs_noted}
use Rattle.run_account.proofs.Tallied.{items-then, lists-commute}
use Rattle.run_account.proofs.Walks.{of_sets, fold-by_use, fold-sets}
use Rattle.run_account.proofs.Gone.{gone-commute}

parts : (A : Accounted) (t u : Tallies) (D E : Departures) → t ≡ u → D ≡ E → record A { tallies = t; departures = D } ≡ record A { tallies = u; departures = E }
parts A t u D E a b = rw (a, b) refl

module _ (S : State) (n : NodeParts) (o : Occasion) (words : List Interval) where
  noted-commute : (A : Accounted) (p q : Pair) → pair_noted S n o words (pair_noted S n o words A p) q ≡ pair_noted S n o words (pair_noted S n o words A q) p
  unfolding pair_noted
  noted-commute A p q =
      parts A (with_items (with_items A.tallies (pair_items S n o words p)) (pair_items S n o words q)) (with_items (with_items A.tallies (pair_items S n o words q)) (pair_items S n o words p))
      (gone_pair n o words (gone_pair n o words A.departures p) q) (gone_pair n o words (gone_pair n o words A.departures q) p)
      (lists-commute A.tallies (pair_items S n o words p) (pair_items S n o words q)) (gone-commute n o words A.departures p q)

  pub places-noted : (A : Accounted) (row : List Place) → pairs_noted S n o words A (pairs_of row) ≡ pairs_noted S n o words A (pairs_by_use row)
  places-noted A row = fold-by_use (pair_noted S n o words) noted-commute row A

  pub sets-noted : (A : Accounted) (sets : ℕ) → 0 < sets → (ps : List Pair) → pairs_noted S n o words A (of_sets sets 0 sets ps) ≡ pairs_noted S n o words A ps
  sets-noted A sets some ps = fold-sets (pair_noted S n o words) noted-commute sets some ps A

  pub noted-split : (ps : List Pair) (A : Accounted)
      → pairs_noted S n o words A ps ≡ record A { tallies = with_items A.tallies (flat_map (pair_items S n o words) ps); departures = fold (gone_pair n o words) A.departures ps }
  unfolding pair_noted
  noted-split [] A = refl
  noted-split (p ∷ ps) A =
      noted-split ps (pair_noted S n o words A p) ∙ one-noted
    where
      one-noted : record (pair_noted S n o words A p) { tallies = with_items (pair_noted S n o words A p).tallies (flat_map (pair_items S n o words) ps); departures = fold (gone_pair n o words) (pair_noted S n o words A p).departures ps }
          ≡ record A { tallies = with_items A.tallies (pair_items S n o words p ++ flat_map (pair_items S n o words) ps); departures = fold (gone_pair n o words) (gone_pair n o words A.departures p) ps }
      one-noted =
          ap (λ (t : Tallies). record A { tallies = t; departures = fold (gone_pair n o words) (gone_pair n o words A.departures p) ps })
          (sym (items-then A.tallies (pair_items S n o words p) (flat_map (pair_items S n o words) ps)))

  -- one set more
  pub one-set : (A B : Accounted) (places : List Place) (sets set left all : ℕ) (ps : List Pair) → B ≡ pairs_noted S n o words A (pairs_of places)
      → pairs_by_use places ≡ filter (in_set sets set) ps → all ≡ suc left
      → pairs_noted S n o words B (of_sets sets (set + 1) left ps) ≡ pairs_noted S n o words A (of_sets sets set all ps)
  one-set A B places sets set left all ps is pairs count =
      ap (λ (C : Accounted). pairs_noted S n o words C (of_sets sets (set + 1) left ps))
      (is ∙ places-noted A places ∙ ap (λ (qs : List Pair). pairs_noted S n o words A qs) pairs)
      ∙ sym (fold-append (pair_noted S n o words) A (filter (in_set sets set) ps) (of_sets sets (set + 1) left ps))
      ∙ ap (λ (k : ℕ). pairs_noted S n o words A (of_sets sets set k ps)) (sym count)

  -- all sets
  pub all-sets : (A B : Accounted) (sets from none : ℕ) (ps : List Pair) → 0 < sets → none ≡ 0
      → pairs_noted S n o words B (of_sets sets from none ps) ≡ pairs_noted S n o words A (of_sets sets 0 sets ps)
      → B ≡ record A { tallies = with_items A.tallies (flat_map (pair_items S n o words) ps); departures = fold (gone_pair n o words) A.departures ps }
  all-sets A B sets from none ps some end led =
      ap (λ (k : ℕ). pairs_noted S n o words B (of_sets sets from k ps)) (sym end) ∙ led ∙ sets-noted A sets some ps ∙ noted-split ps A
