-- The size of a slide whose columns and lines have room.
use Rattle.std.proofs.Common.{◌≡◌, ℕ, ◌+◌, ◌*◌, ◌/◌, ◌≤◌, max, sym, ap, subst, arith}
use Rattle.std.proofs.lemmas.Bool.Decides.{nat_tests}
use Rattle.message_net.specs.declared.actor.Actor.TheVariants.{Keeper}
use Rattle.run_chart.specs.declared.parts.Chart.{Chart}
use Rattle.run_chart.specs.declared.parts.Fit.{Fit}
use Rattle.run_chart.specs.declared.parts.Fit.TheVariants.{Slide}
use Rattle.run_chart.specs.Picture.{bottom, height, height_by, ninth, room, width, width_by}
use Rattle.run_chart.specs.Places.{place_of}

-- neither part of the greater of two is greater than a bound on both
max-within : (a b most : ℕ) → a ≤ most → b ≤ most → max a b ≤ most
max-within a b most first second = grind (arith, nat_tests, first, second)

ninth-within : (wide high : ℕ) → wide ≤ 1280 → high ≤ 720 → ninth wide high ≤ 80
ninth-within wide high across down =
    max-within ((wide + 15) / 16) ((high + 8) / 9) 80 (omega (arith, across)) (omega (arith, down))

pub slide-within : (chart : Chart) → chart.fit ≡ Slide → chart.lines ≤ 31 → place_of chart Keeper ≤ 5 → (width chart ≤ 1280) × (height chart ≤ 720)
slide-within chart slide lines columns = (
  subst (λ (fit : Fit). width_by fit (room chart) (bottom chart + 18) ≤ 1280) (sym slide) (omega (arith, parts)),
  subst (λ (fit : Fit). height_by fit (room chart) (bottom chart + 18) ≤ 720) (sym slide) (omega (arith, parts)),
)
  where
    parts : ninth (room chart) (bottom chart + 18) ≤ 80
    parts = ninth-within (room chart) (bottom chart + 18) (omega (arith, columns)) (omega (arith, lines))
