-- What is printed of a tally is what is printed of its runs.
use Rattle.std.proofs.Common.{◌≡◌, ℕ, Bool, ◌+◌, List, [], ◌∷◌, ◌++◌, length, map, get_or, flat_map, Vec, Result, Ok, Err, IfOk, refl, sym, ap, ◌∙◌}
use Rattle.std.proofs.lemmas.List.{length-map}
use Rattle.message_net.specs.declared.event.EventKind as kind
use Rattle.message_net.specs.declared.event.EventKind.{EventKind}
use Rattle.message_net.specs.Kind.{kind_index}
use Rattle.region_table.specs.Program.{ProgramParts}
use Rattle.run_report.specs.Run.{all_kinds}
use Rattle.dn_machine.specs.declared.record.RunRecord.{RunRecord}
use Rattle.sweep_top.specs.declared.counts.AnswerCount.{AnswerCount}
use Rattle.sweep_top.specs.declared.options.Form.TheVariants.{Summary, Answers, Csv}
use Rattle.sweep_top.specs.declared.options.SweepOptions.{SweepOptions}
use Rattle.sweep_top.specs.declared.spread.Spread.{Spread}
use Rattle.sweep_top.specs.declared.tally.Tally.{Tally}
use Rattle.sweep_top.specs.Answers.{IsTextOfRuns}
use Rattle.sweep_top.specs.AnswerTable.{answer_row, answers_head, answers_table}
use Rattle.sweep_top.specs.Kept.{counted_answers, kind_spread_lines, tally_summary, HasTallied, IsTallyOf}
use Rattle.sweep_top.specs.Summary.{kind_spread_line, runs_summary}
use Rattle.sweep_top.specs.Table.{table_head, runs_table, HasRunRows}
use Rattle.sweep_top.specs.Tally.{CountedAnswer, different_answers, kind_of_runs, spread_of}

-- each kind has its place in a list of all
at-kind : (f : EventKind → Spread) (d : Spread) (k : EventKind) → get_or (map f all_kinds) (kind_index k) d ≡ f k
unfolding all_kinds
at-kind f d kind.TheVariants.Instr = refl
at-kind f d kind.TheVariants.Evict = refl
at-kind f d kind.TheVariants.Arrive = refl
at-kind f d kind.TheVariants.ReadReq = refl
at-kind f d kind.TheVariants.ReadFwd = refl
at-kind f d kind.TheVariants.DataReply = refl
at-kind f d kind.TheVariants.RegReq = refl
at-kind f d kind.TheVariants.RegFwd = refl
at-kind f d kind.TheVariants.RegAck = refl
at-kind f d kind.TheVariants.WriteBack = refl
at-kind f d kind.TheVariants.WbAck = refl
at-kind f d kind.TheVariants.Acquire = refl
at-kind f d kind.TheVariants.Release = refl
at-kind f d kind.TheVariants.Grant = refl
at-kind f d kind.TheVariants.Arrived = refl
at-kind f d kind.TheVariants.Go = refl
at-kind f d kind.TheVariants.Halt = refl

lines-of_kinds : (f : EventKind → Spread) (ks : List EventKind) → kind_spread_lines (map f all_kinds) ks ≡ flat_map (λ (k : EventKind). kind_spread_line k (f k)) ks
lines-of_kinds f [] = refl
lines-of_kinds f (k ∷ ks) =
    ap (λ (q : Spread). kind_spread_line k q ++ kind_spread_lines (map f all_kinds) ks) (at-kind f (spread_of []) k)
    ∙ ap (λ (t : List ℕ). kind_spread_line k (f k) ++ t) (lines-of_kinds f ks)

length-counted_answers : {A : Type 0} (es : List (Vec ℕ A × AnswerCount)) → length (counted_answers es) ≡ length es
length-counted_answers {A} es = length-map es (λ (e : Vec ℕ A × AnswerCount). (e.0.items, e.1))

pub summary-of_tally : (retired : Bool) (first : ℕ) (rs : List RunRecord) (t : Tally) → IsTallyOf retired first rs t → tally_summary t ≡ runs_summary retired first rs
unfolding tally_summary runs_summary
summary-of_tally retired first rs t is =
    let answers : length t.answers.entries ≡ length (different_answers retired first rs) = sym (length-counted_answers t.answers.entries) ∙ ap length is.answers in
    rw (is.runs, is.outcomes, answers, is.grants, is.sum, is.events, is.kinds, lines-of_kinds (λ (k : EventKind). spread_of (kind_of_runs rs k)) all_kinds) refl

answers-of_tally : (retired : Bool) (first : ℕ) (rs : List RunRecord) (t : Tally) → IsTallyOf retired first rs t → answers_head ++ flat_map answer_row (counted_answers t.answers.entries) ≡ answers_table retired first rs
unfolding answers_table
answers-of_tally retired first rs t is = ap (λ (es : List CountedAnswer). answers_head ++ flat_map answer_row es) is.answers

module _ (P : ProgramParts) (o : SweepOptions) where
  pub summed-up : (t : Tally) (text : List ℕ) → HasTallied P o o.seeds.first (o.seeds.last + 1) t → text ≡ tally_summary t → IsTextOfRuns P o Summary text
  summed-up t text h is = record { runs = h.runs; are = record { each = h.each; count = h.count }; is = is ∙ summary-of_tally o.retired o.seeds.first h.runs t h.is }

  pub answers-listed : (t : Tally) (text : List ℕ) → HasTallied P o o.seeds.first (o.seeds.last + 1) t → text ≡ answers_head ++ flat_map answer_row (counted_answers t.answers.entries)
      → IsTextOfRuns P o Answers text
  answers-listed t text h is = record { runs = h.runs; are = record { each = h.each; count = h.count }; is = is ∙ answers-of_tally o.retired o.seeds.first h.runs t h.is }

  pub runs-listed : (text : List ℕ) → HasRunRows P o o.seeds.first (o.seeds.last + 1) table_head text → IsTextOfRuns P o Csv text
  unfolding runs_table
  runs-listed text h = record { runs = h.runs; are = record { each = h.each; count = h.count }; is = h.text }

  -- the same, if there is a text
  pub summed-up-if : {A E : Type 0} → (r : Result (Vec ℕ A) E) (t : Tally) → HasTallied P o o.seeds.first (o.seeds.last + 1) t → IfOk r (λ (text : Vec ℕ A). text.items ≡ tally_summary t)
      → IfOk r (λ (text : Vec ℕ A). IsTextOfRuns P o Summary text.items)
  summed-up-if (Ok text) t h is = summed-up t text.items h is
  summed-up-if (Err e) t h is = tt

  pub answers-listed-if : {A E : Type 0} → (r : Result (Vec ℕ A) E) (t : Tally) → HasTallied P o o.seeds.first (o.seeds.last + 1) t
      → IfOk r (λ (text : Vec ℕ A). text.items ≡ answers_head ++ flat_map answer_row (counted_answers t.answers.entries)) → IfOk r (λ (text : Vec ℕ A). IsTextOfRuns P o Answers text.items)
  answers-listed-if (Ok text) t h is = answers-listed t text.items h is
  answers-listed-if (Err e) t h is = tt

  pub runs-listed-if : {A E : Type 0} → (r : Result (Vec ℕ A) E) → IfOk r (λ (text : Vec ℕ A). HasRunRows P o o.seeds.first (o.seeds.last + 1) table_head text.items)
      → IfOk r (λ (text : Vec ℕ A). IsTextOfRuns P o Csv text.items)
  runs-listed-if (Ok text) h = runs-listed text.items h
  runs-listed-if (Err e) h = tt
