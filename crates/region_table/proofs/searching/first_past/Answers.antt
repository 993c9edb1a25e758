use Rattle.std.proofs.Common.{rules, ◌≡◌, ℕ, ◌<◌, ◌≤◌, true, false, List, Option, length, leb, ltb, get_or, sym, ◌∙◌, Some, None, unwrap_or, arith, Bor}
use Rattle.std.specs.Option.{is_some, option_copied}
use Rattle.std.specs.List.{find}
use Rattle.std.specs.List.Sorted.{IsPartitionPoint}
use Rattle.std.proofs.lemmas.Bool.{ltb-true, ltb-false}
use Rattle.std.proofs.lemmas.List.Sorted.{IsPartitionPoint-from_clause, IsPartitionedBy-leb}
use Rattle.region_table.specs.declared.interval.Interval.{Interval}
use Rattle.region_table.proofs.WordLemmas.{find-at, find-past, ends_rise}
use Rattle.region_table.proofs.searching.first_past.Goals as goal

-- what stands at the partition point is the first interval that ends behind the word
looked_up : (is : List Interval) (w p : ℕ) (r : Option (Bor Interval)) → is_some r ≡ ltb p (length is) → ((d : Interval) → unwrap_or (option_copied r) d ≡ get_or is p d)
    → IsPartitionPoint (λ (i : Interval). leb i.hi w ≡ true) (λ (i : Interval). leb i.hi w ≡ false) is p → option_copied r ≡ find (λ (i : Interval). ltb w i.hi) is
looked_up is w p None some at point =
    let past : length is ≤ p = ltb-false p (length is) (sym some) in
    sym (find-past is w (λ k d l h. point.0 k d l (omega arith)))
looked_up is w p (Some i) some at point =
    let within : p < length is = ltb-true p (length is) (sym some) in
    rw (at i.now) (sym (find-at is w p i.now within point.0 (point.1 p i.now (omega arith) within)))

pub returns : goal.returns
returns c =
    let w = c.args.word in
    let xs = c.args.intervals.now in
    let point = IsPartitionPoint-from_clause (λ (i : Interval). leb i.hi w) xs c.partition_point-place.result c.partition_point-place.ensures.partitioned (IsPartitionedBy-leb (λ (i : Interval). i.hi) xs w (ends_rise 0 xs c.requires)) (λ a r q k. search rules) in
    c.copied.ensures ∙ looked_up xs w c.partition_point-place.result c.get.result c.get.ensures.lookup.0 (c.get.ensures.lookup.4 (omega arith)) point
