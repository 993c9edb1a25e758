use Rattle.std.proofs.Common.{◌≡◌, ℕ, ◌&&◌, Bool, cond, nat_lt, ap, ◌∙◌, arith}
use Rattle.std.specs.Prelude.{count_by}
use Rattle.std.specs.List.{range_with_len}
use Rattle.run_chart.specs.Places.{is_shown}
use Rattle.run_chart.proofs.Counted.{count-more}
use Rattle.run_chart.proofs.parts.Chart.shown_below.Goals as goal

pub loop-other-preserved : goal.loop-other-preserved
loop-other-preserved c =
    record {
      within = omega (arith, c.loop-other-test.true);
      count =
          omega (
            arith,
            c.loop-other.invariant.count,
            c.one_if-count.ensures.value,
            ap {B = ℕ} (λ (t : Bool). cond t 1 0) c.is_below.ensures,
            count-more (λ (i : ℕ). nat_lt i c.args.index && is_shown c.args.self.now.shown i) c.loop-other.other,
          );
      most = omega (arith, c.loop-other.invariant.most, c.one_if-count.ensures.most);
    }

pub returns-clause-value : goal.returns-clause-value
returns-clause-value c =
    let all : c.loop-other.other ≡ 32 = omega (arith, c.loop-other-test.false, c.loop-other.invariant.within) in
    c.loop-other.invariant.count ∙ ap (λ (n : ℕ). count_by (λ (i : ℕ). nat_lt i c.args.index && is_shown c.args.self.now.shown i) (range_with_len 0 n)) all
