use Rattle.std.proofs.Common.{◌≡◌, ◌+◌, ◌≤◌, ℕ, List, length, ap, ◌∙◌, arith}
use Rattle.std.proofs.lemmas.List.{length-map, take_all}
use Rattle.run_timing.specs.declared.timing.Link.{Link}
use Rattle.run_timing.specs.Longest.{numbers_in, time_of}
use Rattle.run_timing.proofs.laws.the_time_is_the_greatest_finish.Goals as goal

pub returns-clause-none_later : goal.returns-clause-none_later
returns-clause-none_later c ticks S events t i finish longest finishes =
    omega (arith, longest.longest finishes.chain finishes.is_chain, finishes.costs)

pub returns-clause-last : goal.returns-clause-last
returns-clause-last c ticks S events t k link longest last here =
    let long : length (numbers_in t.links.items) ≤ k + 1 = omega (arith, last, length-map t.links.items (λ (x : Link). x.event)) in
    longest.finishes k link here ∙ (ap (time_of ticks S events) (take_all (k + 1) (numbers_in t.links.items) long) ∙ longest.takes)
