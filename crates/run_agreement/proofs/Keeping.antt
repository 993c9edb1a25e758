-- A step of a task, and a new task in the place of one at rest, keep that a world leads to a state of the flat machine.
use Rattle.std.proofs.Common.{◌≡◌, ◌≢◌, ℕ, Bool, true, false, List, length, slice_get, slice_set, slice_index, Option, Some, None, refl, sym, ap, ◌∙◌, subst, ⊎_elim}
use Rattle.std.proofs.lemmas.Bool.{cases_eq}
use Rattle.std.proofs.lemmas.Option.{same_Some}
use Rattle.region_table.specs.Program.{ProgramParts}
use Rattle.region_table.specs.declared.declared.TaskDecl.{TaskDecl}
use Rattle.rv_core.specs.declared.need.Need.{Need}
use Rattle.rv_core.specs.declared.need.Need as need
use Rattle.rv_core.specs.Access.{may_store}
use Rattle.flat_machine.specs.Step.{Started, At, wish, step_by, flat_step, segment, IsWithin}
use Rattle.flat_machine.specs.Phases.{Flat}
use Rattle.flat_machine.specs.Grants.{with_task}
use Rattle.flat_machine.specs.Laws.{at_memory, EndsSegment}
use Rattle.flat_machine.proofs.Rest.{segment-step}
use Rattle.flat_machine.proofs.Rights.{may_store-less, store-loads, not-true, both-ways, step-after}
use Rattle.flat_machine.proofs.Frames.{Agree, KeepsOut, step-frame, segment-frame, segment-alike, segment-size, no-store, other-kept}
use Rattle.flat_machine.proofs.SegmentLaws.{segment-still}
use Rattle.run_agreement.specs.Worlds.{stores, loads, segment_alone, LeadsTo, stepped}
use Rattle.run_agreement.proofs.Places.{by-place, set-there, set-other, set-length}

-- no two of the tasks may use one word unless both only load it
abbrev pub AreSeparate : List Started → Type 0
AreSeparate tasks = (i j : ℕ) (a b : Started) → i ≢ j → slice_get tasks i ≡ Some a → slice_get tasks j ≡ Some b → KeepsOut a b

abbrev pub NoneStores : List Started → ℕ → Type 0
NoneStores tasks w = (i : ℕ) (r : Started) → slice_get tasks i ≡ Some r → stores r w ≡ false

-- a word that a task may store after a step it could store before
stores-before : (P : ProgramParts) (fuel : ℕ) (s : At) (w : ℕ) → stores (flat_step P fuel s).task w ≡ true → stores s.task w ≡ true
stores-before P fuel s w e =
    let after = step-after P fuel s in
    let held = (flat_step P fuel s).task.state.held in
    may_store-less s.task.decl held s.task.state.held w after.less (subst (λ (d : TaskDecl). may_store d held w ≡ true) after.decl e)

pub step-size : (P : ProgramParts) (fuel : ℕ) (s : At) → length (flat_step P fuel s).memory ≡ length s.memory
step-size P fuel s = by_wish (wish P fuel s.task)
  where
    by_wish : (o : Option Need) → length (step_by P s o).memory ≡ length s.memory
    by_wish None = refl
    by_wish (Some need.TheVariants.Local) = refl
    by_wish (Some (need.TheVariants.Load word)) = refl
    by_wish (Some (need.TheVariants.Store word whole)) = set-length s.memory word.0 _
    by_wish (Some (need.TheVariants.Acquire lock)) = refl
    by_wish (Some (need.TheVariants.Release lock)) = refl
    by_wish (Some (need.TheVariants.End by)) = refl

-- a step of a task keeps to what the world leads
pub step-kept : (P : ProgramParts) (fuel : ℕ) (W F : Flat) (i : ℕ) (r : Started) → AreSeparate W.tasks → slice_get W.tasks i ≡ Some r → IsWithin fuel r → LeadsTo P fuel W F
    → LeadsTo P fuel (stepped P fuel W i r) F
step-kept P fuel W F i r apart there within h =
    let m : List ℕ = W.memory in
    let start : At = at_memory r m in
    let s : At = flat_step P fuel start in
    let size : length s.memory ≡ length P.memory = step-size P fuel start ∙ h.words in
    let same : segment P fuel s ≡ segment P fuel start = segment-step P fuel start within in
    let from : (j : ℕ) (q : Started) → j ≢ i → slice_get W.tasks j ≡ Some q → KeepsOut r q = λ j q away at'. apart i j r q (λ e. away (sym e)) there at' in
    let alike = λ (j : ℕ) (q : Started) (away : j ≢ i) (at' : slice_get W.tasks j ≡ Some q). other-kept P fuel r q m h.words (from j q away at') in
    record {
      begun = h.begun;
      past = h.past;
      count = set-length W.tasks i s.task ∙ h.count;
      words = size;
      flat_words = h.flat_words;
      tasks =
          by-place (λ (j : ℕ) (q : Started). slice_get F.tasks j ≡ Some (segment_alone P fuel s.memory q).task) W.tasks i s.task
          (λ q at'. h.tasks i r there ∙ ap (λ (x : At). Some x.task) (sym same))
          (λ j q away at'. h.tasks j q at' ∙ ap Some (sym (alike j q away at').task));
      stored =
          λ j q w at' may. by-place (λ (j : ℕ) (q : Started). stores q w ≡ true → slice_index (segment_alone P fuel s.memory q).memory w ≡ slice_index F.memory w) W.tasks i s.task
          (λ q at' may. ap (λ (x : At). slice_index x.memory w) same ∙ h.stored i r w there (stores-before P fuel start w may))
          (λ j q away at' may. (alike j q away at').kept w (step-frame P fuel start w (no-store q r w (apart j i q r away at' there) may)) ∙ h.stored j q w at' may)
          j q at' may;
      kept =
          λ w none.
          let spent : stores s.task w ≡ false = none i s.task (set-there W.tasks i s.task r there) in
          let others : (j : ℕ) (q : Started) → j ≢ i → slice_get W.tasks j ≡ Some q → stores q w ≡ false = λ j q away at'. none j q (set-other W.tasks i j s.task away ∙ at') in
          by_right w spent others (stores r w) refl;
    }
  where
    all_others : (w : ℕ) → stores r w ≡ false → ((j : ℕ) (q : Started) → j ≢ i → slice_get W.tasks j ≡ Some q → stores q w ≡ false) → NoneStores W.tasks w
    all_others w lacks others j q at' =
        ⊎_elim (λ (e : j ≡ i). let is : r ≡ q = same_Some r q (sym there ∙ ap (slice_get W.tasks) (sym e) ∙ at') in subst (λ (x : Started). stores x w ≡ false) is lacks)
        (λ (away : j ≡ i → ⊥). others j q away at') (cases_eq j i)

    by_right : (w : ℕ) → stores (flat_step P fuel (at_memory r W.memory)).task w ≡ false → ((j : ℕ) (q : Started) → j ≢ i → slice_get W.tasks j ≡ Some q → stores q w ≡ false)
        → (b : Bool) → stores r w ≡ b → slice_index (flat_step P fuel (at_memory r W.memory)).memory w ≡ slice_index F.memory w
    by_right w spent others true may =
        let start : At = at_memory r W.memory in
        sym (segment-frame P fuel (flat_step P fuel start) w spent) ∙ ap (λ (x : At). slice_index x.memory w) (segment-step P fuel start within) ∙ h.stored i r w there may
    by_right w spent others false lacks = step-frame P fuel (at_memory r W.memory) w lacks ∙ h.kept w (all_others w lacks others)

-- a word that the task at place i may load has the value of F, where that task is at rest
rested-word : (P : ProgramParts) (fuel : ℕ) (W F : Flat) (i : ℕ) (r : Started) (w : ℕ) → slice_get W.tasks i ≡ Some r → EndsSegment (wish P fuel r) → LeadsTo P fuel W F
    → ((j : ℕ) (q : Started) → j ≢ i → slice_get W.tasks j ≡ Some q → stores q w ≡ false) → slice_index W.memory w ≡ slice_index F.memory w
rested-word P fuel W F i r w there rest h others = by_right (stores r w) refl
  where
    by_right : (b : Bool) → stores r w ≡ b → slice_index W.memory w ≡ slice_index F.memory w
    by_right true may = ap (λ (x : At). slice_index x.memory w) (sym (segment-still P fuel (at_memory r W.memory) rest)) ∙ h.stored i r w there may
    by_right false lacks =
        h.kept w (λ j q at'.
        ⊎_elim (λ (e : j ≡ i). let is : r ≡ q = same_Some r q (sym there ∙ ap (slice_get W.tasks) (sym e) ∙ at') in subst (λ (x : Started). stores x w ≡ false) is lacks)
        (λ (away : j ≡ i → ⊥). others j q away at') (cases_eq j i))

-- a new task in the place of one at rest, which goes on in F, keeps that the world leads to F
pub replace-kept : (P : ProgramParts) (fuel : ℕ) (W F : Flat) (i : ℕ) (r a : Started) → AreSeparate (slice_set W.tasks i a) → slice_get W.tasks i ≡ Some r → EndsSegment (wish P fuel r) → LeadsTo P fuel W F
    → LeadsTo P fuel (with_task W i (at_memory a W.memory)) (with_task F i (segment_alone P fuel F.memory a))
replace-kept P fuel W F i r a apart there rest h =
    let m : List ℕ = W.memory in
    let n : List ℕ = F.memory in
    let s : At = segment_alone P fuel n a in
    let now : slice_get (slice_set W.tasks i a) i ≡ Some a = set-there W.tasks i a r there in
    let from : (j : ℕ) (q : Started) → j ≢ i → slice_get W.tasks j ≡ Some q → KeepsOut q a = λ j q away at'. apart j i q a away (set-other W.tasks i j a away ∙ at') now in
    let into : (j : ℕ) (q : Started) → j ≢ i → slice_get W.tasks j ≡ Some q → KeepsOut a q = λ j q away at'. apart i j a q (λ e. away (sym e)) now (set-other W.tasks i j a away ∙ at') in
    let agree : Agree a m n =
    record {
      on = λ w may. rested-word P fuel W F i r w there rest h
          (λ j q away at'. not-true (stores q w) (λ e. both-ways (loads a w) ((from j q away at').out w e) may));
    } in
    let alike = segment-alike P fuel a m n h.words h.flat_words agree in
    let there' : slice_get F.tasks i ≡ Some (segment_alone P fuel m r).task = h.tasks i r there in
    record {
      begun = h.begun;
      past = h.past;
      count = set-length W.tasks i a ∙ h.count ∙ sym (set-length F.tasks i s.task);
      words = h.words;
      flat_words = segment-size P fuel a n h.flat_words;
      tasks =
          by-place (λ (j : ℕ) (q : Started). slice_get (slice_set F.tasks i s.task) j ≡ Some (segment_alone P fuel m q).task) W.tasks i a
          (λ q at'. set-there F.tasks i s.task (segment_alone P fuel m r).task there' ∙ ap Some (sym alike.task))
          (λ j q away at'. set-other F.tasks i j s.task away ∙ h.tasks j q at');
      stored =
          λ j q w at' may. by-place (λ (j : ℕ) (q : Started). stores q w ≡ true → slice_index (segment_alone P fuel m q).memory w ≡ slice_index s.memory w) W.tasks i a
          (λ q at' may. alike.kept w (agree.on w (store-loads a.decl a.state.held w may)))
          (λ j q away at' may. h.stored j q w at' may ∙ sym (segment-frame P fuel (at_memory a n) w (no-store q a w (from j q away at') may)))
          j q at' may;
      kept =
          λ w none.
          rested-word P fuel W F i r w there rest h (λ j q away at'. none j q (set-other W.tasks i j a away ∙ at'))
          ∙ sym (segment-frame P fuel (at_memory a n) w (none i a now));
    }
