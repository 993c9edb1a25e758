-- One instruction of a task alone, from a look at it.
use Rattle.std.proofs.Common.{◌≡◌, ◌≤◌, ℕ, Bool, true, length, None, sym, ap, ◌∙◌}
use Rattle.rv_core.specs.declared.need.Need.{Need}
use Rattle.rv_core.specs.declared.need.Next.{Next}
use Rattle.rv_core.specs.Kinds.{IsStore}
use Rattle.rv_core.specs.Next.{instr_within, IsNextOf}
use Rattle.rv_core.specs.Step.{merged_of}
use Rattle.rv_core.proofs.Looks.{look-tells}
use Rattle.common_outcomes.specs.declared.value.Kind.{Kind}
use Rattle.common_outcomes.specs.declared.value.Value.{Value}
use Rattle.common_outcomes.specs.Values.{kind_stored}
use Rattle.common_outcomes.specs.Alone.{Setup, Alone, is_shared, seen, is_settled_if, stored_value, closed_by, release_alone, alone_by, alone_step}
use Rattle.common_outcomes.proofs.Steps.{alone-goes}
use Rattle.outcomes_top.specs.Tracks.{IsWell}
use Rattle.outcomes_top.proofs.TrackLemmas.{placed-length}

abbrev pub the_value : Kind → ℕ → Value
the_value k n = record { kind = k; number = n }

-- what a store leaves, by the instruction of the look
pub stored-found : (S : Setup) (a : Alone) (w : ℕ) (next : Next) (before : Value) (shared : Bool) (k : Kind) (n : ℕ) → IsNextOf S.program S.decl S.fuel a.state next → IsStore next.need
    → before ≡ seen S a.cells w → shared ≡ is_shared S.phase S.decl w → k ≡ kind_stored a.kinds shared w before.kind next.instr → n ≡ merged_of S.program before.number a.state
    → the_value k n ≡ stored_value S a w
stored-found S a w next before shared k n look store seen-is shared-is kind number =
    ap (λ (x : Kind). the_value x n) kinds ∙ ap (λ (x : ℕ). the_value (stored_value S a w).kind x) numbers
  where
    kinds : k ≡ (stored_value S a w).kind
    kinds =
        kind ∙ ap (λ (b : Bool). kind_stored a.kinds b w before.kind next.instr) shared-is
        ∙ ap (λ (v : Value). kind_stored a.kinds (is_shared S.phase S.decl w) w v.kind next.instr) seen-is
        ∙ ap (kind_stored a.kinds (is_shared S.phase S.decl w) w (seen S a.cells w).kind) (look-tells S.program S.decl S.fuel a.state IsStore next (λ f. f) look store).instr

    numbers : n ≡ (stored_value S a w).number
    numbers = number ∙ ap (λ (v : Value). merged_of S.program v.number a.state) seen-is

-- a task that hasn't ended, and of which control is settled, goes on by the need of the look
pub goes-by : (S : Setup) (a : Alone) (next : Next) (n : Need) → a.state.end ≡ None → IsNextOf S.program S.decl S.fuel a.state next → is_settled_if a.kinds a.state next.instr ≡ true → next.need ≡ n
    → alone_by S a n ≡ alone_step S a
goes-by S a next n open' look settled is =
    let needs = sym is ∙ ap (λ (x : Next). x.need) look in
    let found : next.instr ≡ instr_within S.program S.fuel a.state = ap (λ (x : Next). x.instr) look in
    ap (alone_by S a) needs ∙ sym (alone-goes S a open' (ap (is_settled_if a.kinds a.state) (sym found) ∙ settled))

pub well-released : (S : Setup) (a b : Alone) (lock : ℕ) → IsWell S a → b ≡ release_alone S a lock → b.state.retired ≤ S.fuel → IsWell S b
well-released S a b lock h is low = record {
  words = ap (λ (x : Alone). length x.cells) is ∙ placed-length 0 (closed_by S lock) a.cells ∙ h.words;
  fuel = λ e. low;
}
