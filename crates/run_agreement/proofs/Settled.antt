-- A world whose tasks are all at rest is the state to which it leads.
use Rattle.std.proofs.Common.{◌≡◌, ℕ, Bool, true, false, List, get_or, slice_get, slice_index, Option, Some, None, refl, sym, ap, ◌∙◌}
use Rattle.std.specs.List.{list_any, list_all}
use Rattle.std.proofs.lemmas.Bool.{true≢false, false_from_ne_true}
use Rattle.std.proofs.lemmas.Grind.{same_number_lists}
use Rattle.std.proofs.lemmas.List.Folds.{Any-from_list_any, list_any_at, list_all_at}
use Rattle.std.proofs.lemmas.Option.{slice_get-get_or, slice_get_within, get_or_from_slice_get}
use Rattle.region_table.specs.Program.{ProgramParts}
use Rattle.rv_core.specs.declared.task.End.{End}
use Rattle.flat_machine.specs.Step.{Started, At, wish_unless}
use Rattle.flat_machine.specs.Phases.{Flat, finished_by, has_finished}
use Rattle.flat_machine.specs.Laws.{at_memory, EndsSegment}
use Rattle.flat_machine.proofs.SegmentLaws.{segment-still}
use Rattle.run_agreement.specs.Worlds.{stores, LeadsTo, IsResting}
use Rattle.run_agreement.proofs.Places.{same-places}
use Rattle.run_agreement.proofs.Keeping.{NoneStores}

-- a task that may store the word, or that none may
pub storing : (tasks : List Started) (w : ℕ) (G : Type 0) → ((i : ℕ) (r : Started) → slice_get tasks i ≡ Some r → stores r w ≡ true → G) → (NoneStores tasks w → G) → G
storing tasks w G some none = by_any (list_any (λ (r : Started). stores r w) tasks) refl
  where
    by_any : (b : Bool) → list_any (λ (r : Started). stores r w) tasks ≡ b → G
    by_any true e =
        let one = Any-from_list_any (λ (r : Started). stores r w) tasks e in
        some one.0 one.1 (slice_get-get_or tasks one.0 one.1 one.2 ∙ ap Some one.3) one.4
    by_any false e =
        none (λ i r there.
        let is : get_or tasks i r ≡ r = get_or_from_slice_get tasks i r r there in
        false_from_ne_true (stores r w) (λ may. true≢false (sym (list_any_at (λ (x : Started). stores x w) tasks i r (slice_get_within tasks i r there) (ap (λ (x : Started). stores x w) is ∙ may)) ∙ e)))

rested-memory : (P : ProgramParts) (fuel : ℕ) (W F : Flat) → IsResting P fuel W → LeadsTo P fuel W F → W.memory ≡ F.memory
rested-memory P fuel W F rest h =
    same_number_lists W.memory F.memory (h.words ∙ sym h.flat_words)
    (λ w within. storing W.tasks w (slice_index W.memory w ≡ slice_index F.memory w)
    (λ i r there may. ap (λ (x : At). slice_index x.memory w) (sym (segment-still P fuel (at_memory r W.memory) (rest i r there))) ∙ h.stored i r w there may)
    (λ none. h.kept w none))

rested-tasks : (P : ProgramParts) (fuel : ℕ) (W F : Flat) → IsResting P fuel W → LeadsTo P fuel W F → W.tasks ≡ F.tasks
rested-tasks P fuel W F rest h =
    same-places W.tasks F.tasks h.count
    (λ i r there. h.tasks i r there ∙ ap (λ (x : At). Some x.task) (segment-still P fuel (at_memory r W.memory) (rest i r there)))

same-flat : (W F : Flat) → W.begun ≡ F.begun → W.past ≡ F.past → W.tasks ≡ F.tasks → W.memory ≡ F.memory → W ≡ F
same-flat W F begun past tasks memory =
    let first : ℕ → Flat = λ n. record { begun = n; past = W.past; tasks = W.tasks; memory = W.memory } in
    let second : List Started → Flat = λ l. record { begun = F.begun; past = l; tasks = W.tasks; memory = W.memory } in
    let third : List Started → Flat = λ l. record { begun = F.begun; past = F.past; tasks = l; memory = W.memory } in
    let fourth : List ℕ → Flat = λ m. record { begun = F.begun; past = F.past; tasks = F.tasks; memory = m } in
    ap first begun ∙ ap second past ∙ ap third tasks ∙ ap fourth memory

pub rest-same : (P : ProgramParts) (fuel : ℕ) (W F : Flat) → IsResting P fuel W → LeadsTo P fuel W F → W ≡ F
rest-same P fuel W F rest h = same-flat W F h.begun h.past (rested-tasks P fuel W F rest h) (rested-memory P fuel W F rest h)

-- tasks that have finished are at rest
pub finished-rest : (P : ProgramParts) (fuel : ℕ) (W : Flat) → list_all has_finished W.tasks ≡ true → IsResting P fuel W
finished-rest P fuel W done i r there = by_end r.state.end refl
  where
    by_end : (o : Option End) → r.state.end ≡ o → EndsSegment (wish_unless P fuel r o)
    by_end (Some by) e = tt
    by_end None e =
        let is : get_or W.tasks i r ≡ r = get_or_from_slice_get W.tasks i r r there in
        let fails : has_finished (get_or W.tasks i r) ≡ false = ap has_finished is ∙ ap finished_by e in
        absurd (true≢false (sym done ∙ list_all_at has_finished W.tasks i r (slice_get_within W.tasks i r there) fails))
