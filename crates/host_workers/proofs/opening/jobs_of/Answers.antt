use Rattle.std.proofs.Common.{◌≡◌, ◌++◌, [], ◌∷◌, length, map, ap, subst, arith, length-append, refl}
use Rattle.std.proofs.lemmas.List.{nil_from_length}
use Rattle.host_workers.specs.Opening.{crew_of, pass_of}
use Rattle.host_workers.proofs.MadeObjects.{made-more}
use Rattle.host_workers.proofs.opening.jobs_of.Goals as goal

pub loop-pass-preserved : goal.loop-pass-preserved
loop-pass-preserved c =
    let had = c.loop-pass.invariant in
    let passes = c.in-Some.ensures.items in
    let crews = c.in-Some-pop.ensures.items in
    let inserted = c.in_ok-insert.ensures.items in
    let fewer = length-append c.pop.new.self.items (c.in-Some.pass ∷ []) in
    let less = length-append c.pop-in-Some.new.self.items (c.in-Some-pop.crew ∷ []) in record {
      passes = made-more pass_of _ _ _ _ _ _ _ passes inserted refl had.passes;
      crews = made-more crew_of _ _ _ _ _ _ _ crews inserted refl had.crews;
      count = omega (arith, had.count, ap length passes, ap length crews, fewer, less);
    }

pub returns-clause-passes : goal.returns-clause-passes
returns-clause-passes c =
    let none : length c.loop-pass.passes.items ≡ 0 = omega (arith, c.in_default.ensures.cases.0, c.loop-pass.passes.ok.0) in
    subst (λ l. l ++ map pass_of c.loop-pass.jobs.items ≡ c.args.passes.items) (nil_from_length c.loop-pass.passes.items none) c.loop-pass.invariant.passes

pub returns-clause-crews : goal.returns-clause-crews
returns-clause-crews c =
    let none : length c.loop-pass.crews.items ≡ 0 = omega (arith, c.in_default.ensures.cases.0, c.loop-pass.passes.ok.0, c.loop-pass.invariant.count) in
    subst (λ l. l ++ map crew_of c.loop-pass.jobs.items ≡ c.args.crews.items) (nil_from_length c.loop-pass.crews.items none) c.loop-pass.invariant.crews
