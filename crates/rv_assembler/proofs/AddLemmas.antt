-- What a statement adds to the tables of the lines before it.
use Rattle.std.proofs.Common.{◌≡◌, ℕ, ◌+◌, ◌%◌, ◌^◌, ◌≤◌, List, [], ◌∷◌, length, Option, refl, ap, ◌∙◌, sum_by, flat_map, false, not, arith, ◌++◌}
use Rattle.std.proofs.lemmas.List.Sums.{sum_by_push, count_by-le-length}
use Rattle.src_text.specs.declared.token.Token.{Token}
use Rattle.region_table.specs.declared.declared.Region.{Region}
use Rattle.rv_assembler.specs.declared.statement.Family.{Family}
use Rattle.rv_assembler.specs.declared.draft.Start.{Start}
use Rattle.rv_assembler.specs.Operand.{bytes_of}
use Rattle.rv_assembler.specs.declared.statement.Statement.{Statement}
use Rattle.rv_assembler.specs.declared.statement.Statement as statement
use Rattle.rv_assembler.specs.declared.parsing.Saying.{Saying}
use Rattle.rv_assembler.specs.declared.names.Meaning.{Meaning}
use Rattle.rv_assembler.specs.Number.{natural_of, wrapped, is_length}
use Rattle.rv_assembler.specs.Gathering.{more}
use Rattle.rv_assembler.specs.Size.{code_word_count}
use Rattle.rv_assembler.specs.Named.{no_cores, task_entry}
use Rattle.rv_assembler.specs.Drafting.{wrapped_entry, members}
use Rattle.rv_assembler.specs.Counts.{region_words, code_size, data_size, is_region, is_lock, is_phase, code_words, data_words, regions_in, locks_in, phases_in, family_in}
use Rattle.rv_assembler.specs.Placed.{placed}
use Rattle.rv_assembler.specs.Rows.{starts}
use Rattle.rv_assembler.specs.Fault.{are_cores, entry_far, out_of_range}
use Rattle.rv_assembler.specs.Tables.{placed_code, region_at, lock_name_at, tasks_at}
use Rattle.rv_assembler.specs.Adding.{draft_after}
use Rattle.rv_assembler.proofs.SoundLemmas.{not-false, or-none, length-counted}
use Rattle.rv_assembler.proofs.WrappedTables.{wrapped_value_at, wrapped_claim_at, wrapped_tables}
use Rattle.rv_assembler.proofs.RangeLemmas.{family-cores}
use Rattle.rv_assembler.proofs.IndexLemmas.{members-same}
use Rattle.rv_assembler.proofs.NearLemmas.{IsNear, entry-same}
use Rattle.rv_assembler.proofs.TableLemmas.{tally, table-more, table-same, sum-same, family-same, family-new, counts-same, two-at_most, code-bound, length-at_most}

abbrev code_of : Saying → ℕ
code_of s = code_size s.statement

abbrev data_of : Saying → ℕ
data_of s = data_size s.statement

abbrev region_of : Saying → ℕ
region_of s = tally (is_region s.statement)

abbrev lock_of : Saying → ℕ
lock_of s = tally (is_lock s.statement)

abbrev phase_of : Saying → ℕ
phase_of s = tally (is_phase s.statement)

module _ (text : List ℕ) (names : List ℕ → Option Meaning) (near : (q : List ℕ) → IsNear (names q)) (ss : List Saying) (line : ℕ) (label : Option Token) where
  abbrev said : Statement → Saying
  said st = record { line = line; label = label; statement = st }

  abbrev region : Token → ℕ → Region
  region name len = record { name = bytes_of text name; start = data_words ss; len = len }

  abbrev first_task : Family → ℕ → ℕ → Start
  first_task f entry core = record { phase = phases_in ss; core = core; entry = entry; arg = f.arg }

  pub tables-more : (st : Statement) → length ss ≤ 65536 → data_words ss ≤ 65536 → out_of_range text names (wrapped_tables text names ss) st ≡ false
      → wrapped_tables text names (ss ++ said st ∷ []) ≡ draft_after text names (wrapped_tables text names ss) st
  tables-more statement.TheVariants.Nothing few small fits =
      let s = said statement.TheVariants.Nothing in
      λ i. record {
        code = table-same (placed_code text names) ss s refl i;
        regions = table-same (region_at text) ss s refl i;
        locks = table-same (lock_name_at text) ss s refl i;
        values = table-same (wrapped_value_at text names) ss s refl i;
        tasks = table-same (tasks_at text names) ss s refl i;
        claims = table-same (wrapped_claim_at text names) ss s refl i;
        phases = sum-same phase_of ss s refl i;
        family = family-same ss s refl i;
        count = counts-same ss s refl refl refl refl i;
      }
  tables-more (statement.TheVariants.Instruction k) few small fits =
      let s = said (statement.TheVariants.Instruction k) in
      let bound = code-bound ss in
      let size : code_word_count k ≤ 2 = two-at_most k in
      let pushed : sum_by code_of (ss ++ s ∷ []) ≡ code_words ss + code_word_count k = sum_by_push code_of ss s in
      let grown : sum_by code_of (ss ++ s ∷ []) ≡ more (code_words ss) (code_word_count k) = omega arith in
      λ i. record {
        code = table-more (placed_code text names) ss s i;
        regions = table-same (region_at text) ss s refl i;
        locks = table-same (lock_name_at text) ss s refl i;
        values = table-same (wrapped_value_at text names) ss s refl i;
        tasks = table-same (tasks_at text names) ss s refl i;
        claims = table-same (wrapped_claim_at text names) ss s refl i;
        phases = sum-same phase_of ss s refl i;
        family = family-same ss s refl i;
        count = record {
          code = grown i;
          words = sum-same data_of ss s refl i;
          regions = sum-same region_of ss s refl i;
          locks = sum-same lock_of ss s refl i;
        };
      }
  tables-more (statement.TheVariants.Region name len) few small fits =
      let s = said (statement.TheVariants.Region name len) in
      let size = length-at_most len in
      let most : regions_in ss ≤ length ss = count_by-le-length (λ (s : Saying). is_region s.statement) ss in
      let pushed : sum_by data_of (ss ++ s ∷ []) ≡ data_words ss + region_words len = sum_by_push data_of ss s in
      let grown : sum_by data_of (ss ++ s ∷ []) ≡ more (data_words ss) (region_words len) = omega arith in
      let counted : sum_by region_of (ss ++ s ∷ []) ≡ regions_in ss + 1 = sum_by_push region_of ss s in
      let one : sum_by region_of (ss ++ s ∷ []) ≡ more (regions_in ss) 1 = omega arith in
      let done : List Region = flat_map (region_at text) (placed ss) in
      let longer : flat_map (region_at text) (placed (ss ++ s ∷ [])) ≡ done ++ region name (wrapped len) ∷ [] =
      table-more (region_at text) ss s ∙ ap (λ (n : ℕ). done ++ region name n ∷ []) (length-counted len (not-false (is_length len) fits)) in
      λ i. record {
        code = table-same (placed_code text names) ss s refl i;
        regions = longer i;
        locks = table-same (lock_name_at text) ss s refl i;
        values = table-same (wrapped_value_at text names) ss s refl i;
        tasks = table-same (tasks_at text names) ss s refl i;
        claims = table-same (wrapped_claim_at text names) ss s refl i;
        phases = sum-same phase_of ss s refl i;
        family = family-same ss s refl i;
        count = record {
          code = sum-same code_of ss s refl i;
          words = grown i;
          regions = one i;
          locks = sum-same lock_of ss s refl i;
        };
      }
  tables-more (statement.TheVariants.Word region index value) few small fits =
      let s = said (statement.TheVariants.Word region index value) in
      λ i. record {
        code = table-same (placed_code text names) ss s refl i;
        regions = table-same (region_at text) ss s refl i;
        locks = table-same (lock_name_at text) ss s refl i;
        values = table-more (wrapped_value_at text names) ss s i;
        tasks = table-same (tasks_at text names) ss s refl i;
        claims = table-same (wrapped_claim_at text names) ss s refl i;
        phases = sum-same phase_of ss s refl i;
        family = family-same ss s refl i;
        count = counts-same ss s refl refl refl refl i;
      }
  tables-more (statement.TheVariants.Lock name) few small fits =
      let s = said (statement.TheVariants.Lock name) in
      let most : locks_in ss ≤ length ss = count_by-le-length (λ (s : Saying). is_lock s.statement) ss in
      let counted : sum_by lock_of (ss ++ s ∷ []) ≡ locks_in ss + 1 = sum_by_push lock_of ss s in
      let one : sum_by lock_of (ss ++ s ∷ []) ≡ more (locks_in ss) 1 = omega arith in
      λ i. record {
        code = table-same (placed_code text names) ss s refl i;
        regions = table-same (region_at text) ss s refl i;
        locks = table-more (lock_name_at text) ss s i;
        values = table-same (wrapped_value_at text names) ss s refl i;
        tasks = table-same (tasks_at text names) ss s refl i;
        claims = table-same (wrapped_claim_at text names) ss s refl i;
        phases = sum-same phase_of ss s refl i;
        family = family-same ss s refl i;
        count = record {
          code = sum-same code_of ss s refl i;
          words = sum-same data_of ss s refl i;
          regions = sum-same region_of ss s refl i;
          locks = one i;
        };
      }
  tables-more statement.TheVariants.Phase few small fits =
      let s = said statement.TheVariants.Phase in
      let most : phases_in ss ≤ length ss = count_by-le-length (λ (s : Saying). is_phase s.statement) ss in
      let counted : sum_by phase_of (ss ++ s ∷ []) ≡ phases_in ss + 1 = sum_by_push phase_of ss s in
      let one : sum_by phase_of (ss ++ s ∷ []) ≡ more (phases_in ss) 1 = omega arith in
      λ i. record {
        code = table-same (placed_code text names) ss s refl i;
        regions = table-same (region_at text) ss s refl i;
        locks = table-same (lock_name_at text) ss s refl i;
        values = table-same (wrapped_value_at text names) ss s refl i;
        tasks = table-same (tasks_at text names) ss s refl i;
        claims = table-same (wrapped_claim_at text names) ss s refl i;
        phases = one i;
        family = family-new ss s no_cores refl i;
        count = counts-same ss s refl refl refl refl i;
      }
  tables-more (statement.TheVariants.Tasks f) few small fits =
      let s = said (statement.TheVariants.Tasks f) in
      let few_cores = family-cores f fits in
      let done : List Start = flat_map (tasks_at text names) (placed ss) in
      let entry = wrapped_entry text names f.entry in
      let same : task_entry text names f.entry ≡ entry = entry-same text names near f.entry (or-none (not (are_cores f)) (entry_far f.entry.kind) fits).1 in
      let cores : starts (first_task f (task_entry text names f.entry) (natural_of f.core)) f.step (natural_of f.count) ≡ starts (first_task f entry (wrapped f.core)) f.step (wrapped f.count) =
      ap (λ (e : ℕ). starts (first_task f e (natural_of f.core)) f.step (natural_of f.count)) same
      ∙ ap (λ (c : ℕ). starts (first_task f entry c) f.step (natural_of f.count)) few_cores.core
      ∙ ap (λ (n : ℕ). starts (first_task f entry (wrapped f.core)) f.step n) few_cores.count in
      let grown : flat_map (tasks_at text names) (placed (ss ++ s ∷ [])) ≡ done ++ members (record { phase = phases_in ss; core = wrapped f.core; entry = entry; arg = f.arg % 2 ^ 32 }) f.step (wrapped f.count) =
      table-more (tasks_at text names) ss s ∙ ap (λ (ts : List Start). done ++ ts) (cores ∙ members-same (first_task f entry (wrapped f.core)) f.step (wrapped f.count) few_cores.few) in
      let family : family_in (ss ++ s ∷ []) ≡ record { first = wrapped f.core; count = wrapped f.count } =
      family-new ss s (record { first = natural_of f.core; count = natural_of f.count }) refl ∙ (λ i. record { first = few_cores.core i; count = few_cores.count i }) in
      λ i. record {
        code = table-same (placed_code text names) ss s refl i;
        regions = table-same (region_at text) ss s refl i;
        locks = table-same (lock_name_at text) ss s refl i;
        values = table-same (wrapped_value_at text names) ss s refl i;
        tasks = grown i;
        claims = table-same (wrapped_claim_at text names) ss s refl i;
        phases = sum-same phase_of ss s refl i;
        family = family i;
        count = counts-same ss s refl refl refl refl i;
      }
  tables-more (statement.TheVariants.Uses e) few small fits =
      let s = said (statement.TheVariants.Uses e) in
      λ i. record {
        code = table-same (placed_code text names) ss s refl i;
        regions = table-same (region_at text) ss s refl i;
        locks = table-same (lock_name_at text) ss s refl i;
        values = table-same (wrapped_value_at text names) ss s refl i;
        tasks = table-same (tasks_at text names) ss s refl i;
        claims = table-more (wrapped_claim_at text names) ss s i;
        phases = sum-same phase_of ss s refl i;
        family = family-same ss s refl i;
        count = counts-same ss s refl refl refl refl i;
      }
