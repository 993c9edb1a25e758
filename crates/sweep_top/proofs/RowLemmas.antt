-- The rows of seeds that follow each other.
use Rattle.std.proofs.Common.{◌≡◌, ℕ, ◌+◌, List, [], ◌∷◌, ◌++◌, length, Result, Ok, Err, OnOk, sym, ap, ◌∙◌, subst, arith, append_assoc, append-nil, length-append}
use Rattle.region_table.specs.Program.{ProgramParts}
use Rattle.dn_machine.specs.declared.record.RunRecord.{RunRecord}
use Rattle.dn_top.specs.Runs.{IsRunFor}
use Rattle.sweep_top.specs.declared.options.SweepOptions.{SweepOptions}
use Rattle.sweep_top.specs.Answers.{SweepReply, swept, IsSweepOf, IsTextOfRuns}
use Rattle.sweep_top.specs.Runs.{options_at, AreRunsFrom}
use Rattle.sweep_top.specs.Table.{table_row, table_rows, HasRunRow, HasRunRows}

module _ (P : ProgramParts) (o : SweepOptions) where
  -- one more run
  pub runs-on : (first : ℕ) (rs : List RunRecord) (r : RunRecord) → AreRunsFrom P o first rs → IsRunFor P (options_at o (first + length rs)) r → AreRunsFrom P o first (rs ++ r ∷ [])
  runs-on first [] r each is =
      let here : first + 0 ≡ first = omega arith in
      (subst (λ (n : ℕ). IsRunFor P (options_at o n) r) here is, tt)
  runs-on first (q ∷ rs) r each is =
      let here : first + length (q ∷ rs) ≡ first + 1 + length rs = omega arith in
      (each.0, runs-on (first + 1) rs r each.1 (subst (λ (n : ℕ). IsRunFor P (options_at o n) r) here is))

  -- and one more row
  pub rows-on : (first : ℕ) (rs : List RunRecord) (r : RunRecord) → table_rows first (rs ++ r ∷ []) ≡ table_rows first rs ++ table_row (first + length rs) r
  rows-on first [] r =
      let here : first ≡ first + 0 = omega arith in
      append-nil (table_row first r) ∙ ap (λ (n : ℕ). table_row n r) here
  rows-on first (q ∷ rs) r =
      let here : first + 1 + length rs ≡ first + length (q ∷ rs) = omega arith in
      ap (λ (t : List ℕ). table_row first q ++ t) (rows-on (first + 1) rs r)
      ∙ sym (append_assoc (table_row first q) (table_rows (first + 1) rs) (table_row (first + 1 + length rs) r))
      ∙ ap (λ (n : ℕ). table_row first q ++ table_rows (first + 1) rs ++ table_row n r) here

  pub no-rows : (first : ℕ) (before : List ℕ) → HasRunRows P o first first before before
  no-rows first before = record { runs = []; each = tt; count = omega arith; text = sym (append-nil before) }

  pub one-more : (first next : ℕ) (before mid now : List ℕ) → HasRunRows P o first next before mid → HasRunRow P o next mid now → HasRunRows P o first (next + 1) before now
  one-more first next before mid now h k =
      let long : length (h.runs ++ k.run ∷ []) ≡ length h.runs + 1 = length-append h.runs (k.run ∷ []) in
      record {
        runs = h.runs ++ k.run ∷ [];
        each = runs-on first h.runs k.run h.each (subst (λ (n : ℕ). IsRunFor P (options_at o n) k.run) (sym h.count) k.is);
        count = omega (arith, long, h.count);
        text = k.text ∙ ap (λ (t : List ℕ). t ++ table_row next k.run) h.text
            ∙ append_assoc before (table_rows first h.runs) (table_row next k.run)
            ∙ ap (λ (n : ℕ). before ++ (table_rows first h.runs ++ table_row n k.run)) (sym h.count)
            ∙ ap (λ (t : List ℕ). before ++ t) (sym (rows-on first h.runs k.run));
      }

  -- the same of the last row, if it was appended
  pub last-more : {A E : Type 0} → (first last : ℕ) (before mid now : List ℕ) (r : Result A E) → HasRunRows P o first last before mid → OnOk r (HasRunRow P o last mid now)
      → OnOk r (HasRunRows P o first (last + 1) before now)
  last-more first last before mid now (Ok done) h k = one-more first last before mid now h k
  last-more first last before mid now (Err e) h k = tt

-- what is printed of the runs is the whole answer
pub sweep-made : (P : ProgramParts) (o : SweepOptions) (text : List ℕ) (out : SweepReply) → IsTextOfRuns P o o.form text → out ≡ swept text → IsSweepOf P o out
sweep-made P o text out h is = record { runs = h.runs; are = h.are; answer = is ∙ ap swept h.is }
