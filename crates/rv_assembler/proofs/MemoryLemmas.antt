-- Storing the first values one by one gives each word that of the last line that names it.
use Rattle.std.proofs.Common.{◌≡◌, ℕ, ◌<◌, Bool, true, false, cond, eqb, List, [], ◌∷◌, length, map, replicate, set, get_or, Option, Some, None, filter_map, unwrap_or, sym, ap, ◌∙◌, ⊎_elim, arith, eq-eqb, eqb-true, length-set, get_or-set_other}
use Rattle.std.specs.List.{All, range_with_len, last_or, cons_option}
use Rattle.std.proofs.lemmas.Bool.{cases_Bool}
use Rattle.std.proofs.lemmas.List.{length-replicate, get_or-replicate}
use Rattle.std.proofs.lemmas.List.FromFn.{fill_by_all}
use Rattle.std.proofs.lemmas.Grind.{get_or-set_at}
use Rattle.rv_assembler.specs.declared.draft.FirstValue.{FirstValue}
use Rattle.rv_assembler.specs.declared.draft.Draft.{Draft}
use Rattle.rv_assembler.specs.Program.{value_for, first_value}
use Rattle.rv_assembler.specs.Finishing.{with_first_values, finished_program}
use Rattle.rv_assembler.specs.Program as program
use Rattle.rv_assembler.proofs.KeptLemmas.{IsInMemory, phase-same}

-- the value of a word: what was there, unless a first value names the word
abbrev value_after : Option ℕ → List FirstValue → ℕ → ℕ
value_after o vs w = unwrap_or (last_or o (filter_map (value_for w) vs)) 0

stored-at : (vs : List FirstValue) (m : List ℕ) (w : ℕ) (o : Option ℕ) → w < length m → get_or m w 0 ≡ unwrap_or o 0 → get_or (with_first_values m vs) w 0 ≡ value_after o vs w
stored-at [] m w o l h = h
stored-at (v ∷ vs) m w o l h =
    let long = length-set m v.word v.value in
    ⊎_elim
    (λ (e : eqb v.word w ≡ true).
    let same : v.word ≡ w = eqb-true v.word w e in
    stored-at vs (set m v.word v.value) w (Some v.value) (omega arith) (get_or-set_at m v.word w v.value 0 (sym same) (omega arith))
    ∙ ap (λ (b : Bool). unwrap_or (last_or o (cons_option (cond b (Some v.value) None) (filter_map (value_for w) vs))) 0) (sym e))
    (λ (e : eqb v.word w ≡ false).
    stored-at vs (set m v.word v.value) w o (omega arith) (get_or-set_other m v.word w v.value 0 (λ same. let t : eqb v.word w ≡ true = eq-eqb v.word w (sym same) in let no : true ≡ false = sym t ∙ e in absurd cc) ∙ h)
    ∙ ap (λ (b : Bool). unwrap_or (last_or o (cons_option (cond b (Some v.value) None) (filter_map (value_for w) vs))) 0) (sym e))
    (cases_Bool (eqb v.word w))

length-stored : (vs : List FirstValue) (m : List ℕ) → length (with_first_values m vs) ≡ length m
length-stored [] m = omega arith
length-stored (v ∷ vs) m = length-stored vs (set m v.word v.value) ∙ length-set m v.word v.value

first-values : (words : ℕ) (vs : List FirstValue) → with_first_values (replicate words 0) vs ≡ map (first_value vs) (range_with_len 0 words)
first-values words vs =
    let long : length (replicate words 0) ≡ words = length-replicate words 0 in
    fill_by_all (first_value vs) (with_first_values (replicate words 0) vs) words 0 (length-stored vs (replicate words 0) ∙ long)
    (λ w l. stored-at vs (replicate words 0) w None (omega (arith, long)) (get_or-replicate words w 0 0 l))

-- so both ways from the tables give one program, where claims are of words of the memory
pub finished : (d : Draft) → All (IsInMemory d.count.words) d.claims → finished_program d ≡ program.program_of d
finished d held =
    λ i. record {
      code = d.code;
      memory = first-values d.count.words d.values i;
      regions = d.regions;
      locks = d.locks;
      phases = map (λ (p : ℕ). phase-same d.count.words (length d.locks) d.claims held d.tasks p i) (range_with_len 1 d.phases);
    }
