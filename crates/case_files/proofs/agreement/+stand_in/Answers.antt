use Rattle.std.proofs.Common.{rules, below_more, List, ℕ, subst, sym}
use Rattle.case_files.specs.Standing.{StandIn}
use Rattle.case_files.proofs.StandingLemmas.{stands-here, stands-nowhere}
use Rattle.case_files.proofs.agreement.+stand_in.Goals as goal
use Rattle.case_files.proofs.agreement.+stand_in.Goals.{else-begins_a_line-via-then-begins_a_line+else-stand_in, else-begins_a_line-via-else-begins_a_line}

pub returns-then-stand_in : goal.returns-then-stand_in
returns-then-stand_in t c =
    let Stands : List ℕ → Type 0 = λ rest. StandIn c.in-Some.others.now rest in (
      λ _. stands-here c.args.parts.now c.in-Some.first.now c.in-Some.others.now c.args.bytes.now c.split_at.result.1.now c.loop-skipped.skipped
          (search rules) (search rules) (search rules) (search rules) (search rules) (c.if-begins_a_line.ensures.0 (search rules))
          (subst Stands c.split_at-then-begins_a_line.ensures.back (c.if-stand_in.ensures.0 (search rules))),
      λ _. search rules,
    )

pub loop-skipped-preserved : goal.loop-skipped-preserved
loop-skipped-preserved t c =
    below_more _ _ c.loop-skipped.invariant
    (elim c.else-begins_a_line.branch [
      | else-begins_a_line-via-then-begins_a_line+else-stand_in w ↦ λ begins stands.
          let Stands : List ℕ → Type 0 = λ rest. StandIn c.in-Some.others.now rest in
          search (rules, w.if-stand_in.ensures.1 (subst Stands (sym w.split_at-then-begins_a_line.ensures.back) stands))
      | else-begins_a_line-via-else-begins_a_line w ↦ λ begins stands. search (rules, w.if-begins_a_line.ensures.1 begins)
    ])

pub returns : goal.returns
returns t c = (
  λ no. search (rules, no),
  λ stands. absurd (stands-nowhere c.args.parts.now c.in-Some.first.now c.in-Some.others.now c.args.bytes.now c.split_at.result.1.now
      (search rules) (search rules) (search rules) (λ k less. c.loop-skipped.invariant k (search (rules, less))) stands),
)
