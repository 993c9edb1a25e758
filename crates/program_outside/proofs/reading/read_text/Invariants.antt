use Rattle.std.proofs.Common.{◌≡◌, ◌≤◌, ◌-◌, vec_len, length}
use Rattle.std.specs.Io.KnownBytes.{Consumes}
use Rattle.program_outside.proofs.reading.read_text.Given as goal

abbrev pub invariant-loop-buf : goal.invariant-loop-buf
invariant-loop-buf g l =
    record {
      bytes : Consumes (g.S.Source.content l.fn.source) (g.S.Source.content l.source) l.text.items;
      within : length l.text.items ≤ l.most;
      faultless : g.S.Source.faults l.source ≡ g.S.Source.faults l.fn.source;
    }

abbrev pub decreases-loop-buf : goal.decreases-loop-buf
decreases-loop-buf g l = l.most - vec_len l.text
