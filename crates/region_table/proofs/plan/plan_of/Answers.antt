use Rattle.std.proofs.Common.{◌≡◌, List, length, sym, ap, ◌∙◌}
use Rattle.region_table.specs.declared.declared.Region.{Region}
use Rattle.region_table.specs.Words.{has, IsCanonical}
use Rattle.region_table.specs.Program.{AreTiled}
use Rattle.region_table.proofs.RegionLemmas.{written-overlapped}
use Rattle.region_table.proofs.plan.plan_of.Goals as goal

pub returns : goal.returns
returns c =
    let regions : List Region = c.as_slice.result.now in
    let same_regions : c.args.program.now.regions ≡ c.as_slice.result.now = ap (λ p. p.regions) (sym c.program.view_is) ∙ sym c.as_slice.ensures in
    let same_locks : length c.args.program.now.locks ≡ c.len.result = ap (λ p. length p.locks) (sym c.program.view_is) ∙ sym c.len.ensures in
    let tiled : AreTiled 0 c.as_slice.result.now (length c.program.inside.memory) = rw c.as_slice.ensures c.program.invariant.tiled in
    let canonical : IsCanonical c.intervals.result.now = rw c.intervals.ensures.value c.intervals.ensures.canonical in
    record {
      written = λ w. rw (c.in_ok-written.ensures w, same_regions)
          (written-overlapped c.as_slice.result.now (length c.program.inside.memory) c.args.phase.now c.intervals.result.now w tiled canonical
          (λ v. ap (λ s. has s v) c.intervals.ensures.value ∙ c.in_ok-touched.ensures v));
      by_lock = c.in_ok-guarded.ensures.count ∙ sym same_locks;
      guarded = λ lock w l. c.in_ok-guarded.ensures.words lock w (rw same_locks at l);
    }
