-- The row of each seed is of the run that denovo makes of it.
use Rattle.std.proofs.Common.{◌≡◌, inl, inr, ℕ, ◌+◌, ◌<◌, ◌≤◌, ◌==◌, Bool, true, false, List, [], ◌∷◌, ◌++◌, length, refl, sym, ap, ◌∙◌, subst, arith, append_assoc}
use Rattle.std.proofs.lemmas.Bool.{eqb-true, eqb-false}
use Rattle.region_table.specs.Program.{ProgramParts}
use Rattle.dn_machine.specs.declared.record.RunRecord.{RunRecord}
use Rattle.checked_runs.specs.Runs.{reported}
use Rattle.dn_top.specs.Runs.{IsRunFor, output_of_run}
use Rattle.sweep_top.specs.declared.options.Form.{Form}
use Rattle.sweep_top.specs.declared.options.Form.TheVariants.{Csv}
use Rattle.sweep_top.specs.declared.options.SweepOptions.{SweepOptions}
use Rattle.sweep_top.specs.declared.status.SweepStatus.TheVariants.{Swept, Refused}
use Rattle.sweep_top.specs.Runs.{options_at, AreRunsFrom}
use Rattle.sweep_top.specs.Table.{table_head, table_row, table_rows, runs_table}
use Rattle.sweep_top.specs.Answers.{SweepReply, sweep_text, IsSweepAnswer}
use Rattle.sweep_top.specs.Laws.{IsAsked, IsRowOfDenovo}

-- the row of a seed among those of runs
record IsRowAt (P : ProgramParts) (o : SweepOptions) (first : ℕ) (rs : List RunRecord) (seed : ℕ) : Type 0 where
  run : RunRecord
  is : IsRunFor P (options_at o seed) run
  above : List ℕ
  below : List ℕ
  rows : table_rows first rs ≡ above ++ table_row seed run ++ below

regrouped : (x a r b : List ℕ) → x ++ (a ++ r ++ b) ≡ x ++ a ++ r ++ b
regrouped x a r b = sym (ap (λ (t : List ℕ). t ++ b) (append_assoc x a r) ∙ append_assoc x (a ++ r) b)

row-at : (P : ProgramParts) (o : SweepOptions) (first : ℕ) (rs : List RunRecord) (seed : ℕ) → AreRunsFrom P o first rs → first ≤ seed → seed < first + length rs → IsRowAt P o first rs seed
row-at P o first [] seed each low high = absurd (omega (arith, low, high))
row-at P o first (q ∷ rs) seed each low high =
    by_test (first == seed) refl (λ later. row-at P o (first + 1) rs seed each.1 later (omega (arith, high)))
  where
    by_test : (t : Bool) → (first == seed) ≡ t → (first + 1 ≤ seed → IsRowAt P o (first + 1) rs seed) → IsRowAt P o first (q ∷ rs) seed
    by_test true e among =
        let same : first ≡ seed = eqb-true first seed e in
        record {
          run = q;
          is = subst (λ (n : ℕ). IsRunFor P (options_at o n) q) same each.0;
          above = [];
          below = table_rows (first + 1) rs;
          rows = ap (λ (n : ℕ). table_row n q ++ table_rows (first + 1) rs) same;
        }
    by_test false e among =
        let other = eqb-false first seed e in
        let later : first + 1 ≤ seed = omega (arith, low, other) in
        let k = among later in
        record {
          run = k.run;
          is = k.is;
          above = table_row first q ++ k.above;
          below = k.below;
          rows = ap (λ (t : List ℕ). table_row first q ++ t) k.rows ∙ regrouped (table_row first q) k.above (table_row seed k.run) k.below;
        }

in-table : (first : ℕ) (rs : List RunRecord) → runs_table first rs ≡ table_head ++ table_rows first rs
unfolding runs_table
in-table first rs = refl

pub row-of-denovo : (o : SweepOptions) (text : List ℕ) (out : SweepReply) (seed : ℕ) → IsSweepAnswer o text out → out.status ≡ Swept → o.form ≡ Csv → IsAsked o.seeds seed
    → IsRowOfDenovo o text seed out.bytes
row-of-denovo o text out seed (inl h) done csv asked =
    let count = h.holds.are.count in
    let k = row-at h.program o o.seeds.first h.holds.runs seed h.holds.are.each asked.from' (omega (arith, asked.to', count)) in
    let bytes : out.bytes ≡ table_head ++ table_rows o.seeds.first h.holds.runs =
    ap (λ (r : SweepReply). r.bytes) h.holds.answer ∙ ap (λ (f : Form). sweep_text f o.retired o.seeds.first h.holds.runs) csv ∙ in-table o.seeds.first h.holds.runs in
    record {
      said = output_of_run (reported k.run) k.run;
      answer = inl (record { program = h.program; is = h.is; checked = h.checked; holds = record { run = k.run; is = k.is; answer = refl } });
      run = k.run;
      hands = refl;
      prints = refl;
      above = table_head ++ k.above;
      below = k.below;
      row = bytes ∙ ap (λ (t : List ℕ). table_head ++ t) k.rows ∙ regrouped table_head k.above (table_row seed k.run) k.below;
    }
row-of-denovo o text out seed (inr h) done csv asked =
    let other : out.status ≡ Refused = ap (λ (r : SweepReply). r.status) h.answer in
    let bad : Refused ≡ Swept = sym other ∙ done in absurd cc
