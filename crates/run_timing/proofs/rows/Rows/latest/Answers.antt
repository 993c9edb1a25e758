use Rattle.std.proofs.Common.{◌≡◌, ◌≤◌, ◌<◌, ℕ, List, length, get_or, ap, arith}
use Rattle.run_timing.specs.Rows.{behind, finish_in}
use Rattle.run_timing.proofs.Ways.{latest-new, latest-same}
use Rattle.run_timing.proofs.rows.Rows.latest.Goals as goal
use Rattle.run_timing.proofs.rows.Rows.latest.Goals.{then-finish, else-finish}

pub loop-event-preserved : goal.loop-event-preserved
loop-event-preserved c =
    let f = finish_in c.args.self.now in
    let i = c.loop-event.event in
    let here : get_or c.as_slice-finish-items.result.now i 0 ≡ f i = ap (λ (xs : List ℕ). get_or xs i 0) c.as_slice-finish-items.ensures in
    let within : i < length c.args.self.now.finishes = omega (arith, ap (λ (xs : List ℕ). length xs) c.as_slice-finish-items.ensures, c.loop-event-test.true) in
    elim c.if-finish.branch [
      | then-finish w ↦
          (let later : behind f c.loop-event.latest < f i = omega (arith, w.if-finish.true, here, c.finish.ensures) in
          rw w.latest-is (latest-new f i c.loop-event.latest c.loop-event.invariant later))
      | else-finish w ↦
          (let no_later : f i ≤ behind f c.loop-event.latest = omega (arith, w.if-finish.false, here, c.finish.ensures) in
          rw w.latest-is (latest-same f i c.loop-event.latest (c.requires.some i within) c.loop-event.invariant no_later))
    ]
