use Rattle.std.proofs.Common.{◌≡◌, ℕ, slice_index_or, slice_set, sym, ◌∙◌, subst, arith, ⊎_elim}
use Rattle.std.proofs.lemmas.Bool.{cases_eq}
use Rattle.std.proofs.lemmas.List.{length-set, get_or-set_same, get_or-set_other}
use Rattle.effect_prover.specs.Range.{one}
use Rattle.effect_prover.specs.Row.{range_of}
use Rattle.effect_prover.specs.Sweep.{IsJoinedRange}
use Rattle.effect_prover.proofs.row.Row.join.Goals as goal

pub loop-number-preserved : goal.loop-number-preserved
loop-number-preserved c =
    let head = c.args.head in
    let argument = c.args.argument in
    let old = c.args.self.now in
    let given = c.args.given.now in
    let n = c.loop-number.number in
    let ranges = c.loop-number.ranges in
    let before = c.loop-number.invariant.count in
    let here : IsJoinedRange head argument (range_of old n) (range_of given n) c.join.result = c.join.ensures in
    record {
      count = length-set ranges n c.join.result ∙ before;
      done = λ r l.
          ⊎_elim
          (λ (same : r ≡ n).
          subst (λ (k : ℕ). IsJoinedRange head argument (range_of old k) (range_of given k) (slice_index_or (slice_set ranges n c.join.result) k (one 0))) (sym same)
          (subst (IsJoinedRange head argument (range_of old n) (range_of given n)) (sym (get_or-set_same ranges n c.join.result (one 0) (omega arith))) here))
          (λ (apart : r ≡ n → ⊥).
          subst (IsJoinedRange head argument (range_of old r) (range_of given r)) (sym (get_or-set_other ranges n r c.join.result (one 0) apart))
          (c.loop-number.invariant.done r (omega arith)))
          (cases_eq r n);
    }
