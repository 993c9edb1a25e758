-- A task at its start fits the task alone at its start.
use Rattle.std.proofs.Common.{◌≡◌, ℕ, zero, suc, ◌^◌, ◌<◌, List, [], ◌∷◌, length, replicate, slice_index, slice_set, get_or, refl, sym, ap, ◌∙◌, subst, arith}
use Rattle.std.proofs.lemmas.Bool.{false≢true}
use Rattle.std.proofs.lemmas.List.{length-set, length-replicate}
use Rattle.std.proofs.lemmas.Option.{none-some}
use Rattle.region_table.specs.declared.declared.TaskDecl.{TaskDecl}
use Rattle.rv_core.specs.Task.{started}
use Rattle.rv_core.proofs.HeldLemmas.{holds-none}
use Rattle.flat_machine.specs.Step.{fresh}
use Rattle.common_outcomes.specs.declared.value.Kind.{Kind}
use Rattle.common_outcomes.specs.declared.value.Kind.TheVariants.{Known}
use Rattle.common_outcomes.specs.declared.value.Cell.{Cell}
use Rattle.common_outcomes.specs.Alone.{Setup, untouched, value_at_start, start_alone}
use Rattle.common_outcomes.specs.Agreeing.{DenotesBy, Denotes, AreRegisters, IsOfSection, FitsAlone}

pub all-same : {X : Type 0} (n i : ℕ) (x : X) → get_or (replicate n x) i x ≡ x
all-same zero i x = refl
all-same (suc n) zero x = refl
all-same (suc n) (suc i) x = all-same n i x

set-small : (bound : ℕ) (xs : List ℕ) (i x : ℕ) → ((r : ℕ) → slice_index xs r < bound) → x < bound → (r : ℕ) → slice_index (slice_set xs i x) r < bound
set-small bound [] i x h l r = h r
set-small bound (y ∷ xs) zero x h l zero = l
set-small bound (y ∷ xs) zero x h l (suc r) = h (suc r)
set-small bound (y ∷ xs) (suc i) x h l zero = h zero
set-small bound (y ∷ xs) (suc i) x h l (suc r) = set-small bound xs i x (λ (q : ℕ). h (suc q)) l r

pub start-registers : (d : TaskDecl) (base : ℕ → ℕ) → d.arg < 2 ^ 32 → AreRegisters (replicate 32 Known) (started d).regs base (started d).regs
start-registers d base arg =
    record {
      kinds_count = length-replicate {A = Kind} 32 Known;
      count = sized;
      run_count = sized;
      each = λ r. subst (λ (k : Kind). DenotesBy k (slice_index (started d).regs r) base (slice_index (started d).regs r)) (sym (all-same 32 r Known)) refl;
      small = set-small (2 ^ 32) (replicate 32 0) 10 d.arg (λ r. let z : slice_index (replicate 32 0) r ≡ 0 = all-same 32 r 0 in omega arith) arg;
    }
  where
    sized : length (started d).regs ≡ 32
    sized = length-set (replicate 32 0) 10 d.arg ∙ length-replicate {A = ℕ} 32 0

pub start-fits : (S : Setup) (base : ℕ → ℕ) (phase : ℕ) (m : List ℕ) → S.decl.arg < 2 ^ 32 → length m ≡ length S.program.memory → ((w : ℕ) → base w < 2 ^ 32) → ((w : ℕ) → Denotes (value_at_start S w) base (slice_index m w))
    → FitsAlone S base (start_alone S) (fresh phase S.decl) m
start-fits S base phase m arg count low firsts =
    record {
      decl = refl;
      state = refl;
      registers = start-registers S.decl base arg;
      taken = λ r. subst (IsOfSection S 0) (sym (all-same 32 r Known)) tt;
      words = length-replicate {A = Cell} (length S.program.memory) untouched ∙ sym count;
      base_small = low;
      stored = λ w v e. absurd (none-some v (sym (ap (λ (c : Cell). c.stored) (all-same (length S.program.memory) w untouched)) ∙ e));
      kept = λ w runs e shared inside. absurd (false≢true (sym (holds-none inside.lock) ∙ inside.holds));
      first = λ w runs e shared. firsts w;
    }
