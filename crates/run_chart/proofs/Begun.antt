-- How a chart begins, on a machine at its start, and what is known of the machine on which it is drawn.
use Rattle.std.proofs.Common.{◌≡◌, ℕ, ◌*◌, ◌≤◌, Bool, true, false, List, [], ◌∷◌, length, Option, Some, None, refl, ap, ◌∙◌, arith, mul-le-mul}
use Rattle.phase_barrier.specs.Barrier.{all_arrived}
use Rattle.machine_rules.specs.Flight.{bit}
use Rattle.machine_rules.specs.Sound.{rounds}
use Rattle.run_chart.proofs.Noted.{same-lengths}
use Rattle.message_net.specs.declared.actor.Actor.{Actor}
use Rattle.message_net.specs.declared.event.Event.{Event}
use Rattle.machine_rules.specs.State.{State, initial_state}
use Rattle.machine_rules.specs.Next.{enabled}
use Rattle.machine_rules.specs.declared.stepped.Stepped.{Stepped}
use Rattle.machine_rules.proofs.RunsKept.{same-setting}
use Rattle.dn_machine.specs.Kept.{Made, IsKept}
use Rattle.dn_machine.specs.Tried.{IsTried}
use Rattle.run_chart.specs.declared.drawing.Drawing.{Drawing}
use Rattle.run_chart.specs.declared.drawing.Range.{Range}
use Rattle.run_chart.specs.declared.charting.Frame.{Frame}
use Rattle.run_chart.specs.declared.finishing.Columns.{Columns}
use Rattle.run_chart.specs.declared.parts.Chart.{Chart}
use Rattle.run_chart.specs.Charts.{drawn, chart_in, chart_of, IsFinishable}
use Rattle.run_chart.specs.Drawing.{with_row, with_rows}

made-is : (s t : State) (n k : ℕ) → s ≡ t → n ≡ k → ◌≡◌ {A = Made} (record { state = s; made = n }) (record { state = t; made = k })
made-is s t n k states counts = rw (states, counts) refl

-- what is drawn on a machine at its start is the chart of its setting
pub chart-of : (m : Made) (range : Range) (chain : List ℕ) (events : List Event) (columns : Columns) (frame : Frame) (chart : Chart) → m.state ≡ initial_state m.state.setting → m.made ≡ 0
    → frame ≡ record { shape = m.state.setting.shape; fuel = m.state.setting.fuel; range = range; events = length events; columns = columns }
    → chart ≡ chart_in frame (drawn m frame.range chain events) → chart ≡ chart_of m.state.setting events range chain columns
chart-of m range chain events columns frame chart opens none frames charts =
    let first : m ≡ record { state = initial_state m.state.setting; made = 0 } = made-is m.state (initial_state m.state.setting) m.made 0 opens none in
    charts ∙ ap (λ (f : Frame). chart_in f (drawn m f.range chain events)) frames
    ∙ ap (λ (x : Made). chart_in (record { shape = m.state.setting.shape; fuel = m.state.setting.fuel; range = range; events = length events; columns = columns }) (drawn x range chain events)) first

-- ---- events, and the rows of events, leave the setting of a machine

pub tried-setting : (S T : State) (e : Event) (came : Option (Actor × Stepped)) → IsTried S T e came → T.setting ≡ S.setting
tried-setting S T e None tried = ap (λ (U : State). U.setting) tried.1
tried-setting S T e (Some came) tried = ap (λ (U : State). U.setting) tried.state ∙ same-setting S e

pub rows-setting : (chain : List ℕ) (d : Drawing) (events : List Event) → (with_rows chain d events).machine.state.setting ≡ d.machine.state.setting
rows-setting chain d [] = refl
rows-setting chain d (e ∷ es) = by_test (enabled d.machine.state e) refl (rows-setting chain (with_row chain d e) es ∙ same-setting d.machine.state e) where
  by_test : (t : Bool) → enabled d.machine.state e ≡ t → (with_rows chain (with_row chain d e) es).machine.state.setting ≡ d.machine.state.setting
      → (with_rows chain d (e ∷ es)).machine.state.setting ≡ d.machine.state.setting
  by_test true may later = rw may later
  by_test false may later = rw may refl

-- ---- how many mails are in flight

bit-most : (b : Bool) → bit b ≤ 1
bit-most true = omega arith
bit-most false = omega arith

few-flying : (S : State) (made : ℕ) → IsKept S made → made ≤ 25173760 → length S.mails ≤ 25174800
few-flying S made kept few =
    let turns : rounds S ≤ 65 = omega (arith, kept.sound.within, kept.left.ready.program.phases, bit-most (all_arrived S.keeper)) in
    let letters : S.setting.shape.cores * rounds S ≤ 1040 = mul-le-mul kept.most turns in
    omega (arith, kept.sound.mails, letters, few)

pub few-noted : (d : Drawing) → IsKept d.machine.state d.machine.made → IsFinishable d → length d.sent ≤ 25174800
few-noted d kept fits = omega (arith, few-flying d.machine.state d.machine.made kept fits.made, same-lengths d.sent d.machine.state.mails fits.sent)
