-- The least table of a task is that of each task with its entry and argument.
use Rattle.std.proofs.Common.{◌≡◌, ℕ, List, Bool, length, replicate, slice_set, Some, sym, ap, ◌∙◌, subst}
use Rattle.region_table.specs.Program.{ProgramParts}
use Rattle.region_table.specs.declared.declared.TaskDecl.{TaskDecl}
use Rattle.effect_prover.specs.declared.row.Row.{Row}
use Rattle.effect_prover.specs.Range.{one}
use Rattle.effect_prover.specs.Row.{range_of, start_row, IsUnder}
use Rattle.effect_prover.specs.Table.{Table, row_at, IsHeadRange, IsTable, IsClosed, IsLeastTable}
use Rattle.effect_prover.specs.Blocks.{AreLed, filled}
use Rattle.effect_prover.specs.Kept.{AreLeaderRows}

started : ℕ → Row
started argument = record { ranges = slice_set (replicate 32 (one 0)) 10 (one argument); held = 0 }

start-same : (d e : TaskDecl) → e.arg ≡ d.arg → start_row e ≡ start_row d
unfolding started
start-same d e same = ap started same

shape-same : (P : ProgramParts) (d e : TaskDecl) (t : Table) → e.arg ≡ d.arg → IsTable P d t → IsTable P e t
shape-same P d e t same h =
    record { words = h.words; rows = h.rows; heads = λ i row head at' r l. subst (λ (a : ℕ). IsHeadRange a (range_of row r)) (sym same) (h.heads i row head at' r l) }

closed-same : (P : ProgramParts) (d e : TaskDecl) (t : Table) → e.entry ≡ d.entry → e.arg ≡ d.arg → IsClosed P d t → IsClosed P e t
closed-same P d e t entry same h =
    record {
      shape = shape-same P d e t same h.shape;
      entry = λ i within at'. subst (λ (row : Row). IsUnder (Some row) (row_at t i)) (sym (start-same d e same)) (h.entry i within (sym entry ∙ at'));
      passes = h.passes;
    }

least-same : (P : ProgramParts) (d e : TaskDecl) (t : Table) → e.entry ≡ d.entry → e.arg ≡ d.arg → IsLeastTable P d t → IsLeastTable P e t
least-same P d e t entry same h =
    record {
      closed = closed-same P d e t entry same h.closed;
      least = λ all closed. h.least all (closed-same P e d all (sym entry) (sym same) closed);
    }

pub task-table : (P : ProgramParts) (d : TaskDecl) (L : List Bool) (t : Table) → AreLed P.code (length P.code) L → length t ≡ length P.code → IsLeastTable P d (filled P L t)
    → (e : TaskDecl) → e.entry ≡ d.entry → e.arg ≡ d.arg → AreLeaderRows P e L t
task-table P d L t led words least e entry same = record { led = led; words = words; least = least-same P d e (filled P L t) entry same least }
