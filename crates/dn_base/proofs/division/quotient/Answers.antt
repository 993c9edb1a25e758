use Rattle.std.proofs.Common.{◌≡◌, ◌/◌, ℕ, ap, arith}
use Rattle.std.specs.Int.RustNames.{count_ones}
use Rattle.std.proofs.lemmas.Bool.Decides.{nat_tests}
use Rattle.dn_base.proofs.Powers.{power_of_two}
use Rattle.dn_base.proofs.division.quotient.Goals as goal

pub returns-then-is_power_of_two : goal.returns-then-is_power_of_two
returns-then-is_power_of_two c =
    let one : count_ones c.args.divisor ≡ 1 = grind (arith, nat_tests, c.if-is_power_of_two.true, c.is_power_of_two.ensures) in
    ap (λ (power : ℕ). c.args.number / power) (power_of_two 32 c.args.divisor c.ranges.divisor.fits one)
