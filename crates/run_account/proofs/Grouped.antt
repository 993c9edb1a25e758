-- Each item of a run is in one of the phases and in one of the cores, and each that has a word in one of the regions.
use Rattle.std.proofs.Common.{◌≡◌, ◌⊎◌, inl, inr, ℕ, zero, suc, ◌+◌, ◌<◌, true, false, cond, length, List, [], ◌∷◌, map, Some, refl, sym, ap, subst, ◌∙◌, arith}
use Rattle.std.specs.Prelude.{sum}
use Rattle.std.specs.List.{All, range_with_len}
use Rattle.std.proofs.lemmas.Bool.Decides.{nat_tests}
use Rattle.std.proofs.lemmas.List.Elements.{All-cons}
use Rattle.std.proofs.lemmas.List.Sums.{sum_by-cons}
use Rattle.std.proofs.lemmas.Option.{slice_get_within}
use Rattle.dn_base.specs.declared.ids.WordId.{WordId}
use Rattle.message_net.specs.declared.event.Event.{Event}
use Rattle.registration_protocol.specs.Node.{NodeParts, Setting}
use Rattle.machine_rules.specs.State.{State, initial_state}
use Rattle.machine_rules.specs.Next.{next, enabled}
use Rattle.machine_rules.specs.Runs.{IsRun}
use Rattle.machine_rules.specs.Sound.{IsReady, IsSound}
use Rattle.machine_rules.proofs.RunsKept.{run-setting}
use Rattle.machine_rules.proofs.RunsCoherent.{run-coherent}
use Rattle.machine_rules.proofs.SoundEvents.{sound-next}
use Rattle.machine_rules.proofs.OpenedSound.{opened-sound}
use Rattle.machine_rules.proofs.AnySize.{well-formed}
use Rattle.machine_rules.proofs.OpenedFacts.{opened-setting}
use Rattle.machine_rules.proofs.NoPhases.{no-phases-run}
use Rattle.run_account.specs.declared.item.Item.{Item}
use Rattle.run_account.specs.declared.item.Grouping.{Grouping}
use Rattle.run_account.specs.declared.item.Grouping.TheVariants as by
use Rattle.run_account.specs.declared.measure.Measure.{Measure}
use Rattle.run_account.specs.Measure.{same_measure}
use Rattle.run_account.specs.Items.{regions_from, counts_for, count_in, items_of_measure, sum_of_groups, IsGrouped}
use Rattle.run_account.proofs.Sums.{groups-sum}
use Rattle.run_account.proofs.Words.{word-lies}
use Rattle.run_account.specs.declared.departure.Handing.{Handing}
use Rattle.run_account.specs.declared.departure.Handing.TheVariants.{AtOnce, Queued}
use Rattle.run_account.specs.Events.{grant_measure, items_in}
use Rattle.run_account.specs.Departures.{Departures, no_departures, departures_after}
use Rattle.run_account.specs.Handings.{Handings, no_handings, handings_after}
use Rattle.run_account.specs.Account.{items_from, items_of_run, number_of_run, sum_of_run, is_of_words}
use Rattle.run_account.specs.Kinds.{StaysCoherent}
use Rattle.run_account.proofs.Without.{count-cons}
use Rattle.run_account.proofs.Known.{KnowsWords, AllNodes}
use Rattle.run_account.proofs.Belongs.{Each, each-append, HoldsByNode, items-are}
use Rattle.run_account.proofs.Staying.{IsPhased, next-kept, phases-stay, opened-phased, words-stay, opened-known}

-- ---- sums over the items of a measure, each of which is in a group

-- an item is in one of so many groups, or isn't of the measure
abbrev pub IsGroupedFor : List ℕ → Grouping → ℕ → Measure → Item → Type 0
IsGroupedFor regions by groups m item = IsGrouped regions by groups item ⊎ (same_measure m item.measure ≡ false)

none-plus : (a b : ℕ) → a ≡ b → 0 + a ≡ b
none-plus a b e = omega (arith, e)

module _ (regions : List ℕ) (by : Grouping) (groups : ℕ) (m : Measure) where
  -- the items that are in a group
  abbrev kept : (items : List Item) → Each (IsGroupedFor regions by groups m) items → List Item
  kept [] each = []
  kept (item ∷ items) (inl grouped, each) = item ∷ kept items each
  kept (item ∷ items) (inr other, each) = kept items each

  kept-grouped : (items : List Item) (each : Each (IsGroupedFor regions by groups m) items) → All (IsGrouped regions by groups) (kept items each)
  kept-grouped [] each = λ k d within. absurd (omega (arith, within))
  kept-grouped (item ∷ items) (inl grouped, each) = All-cons (IsGrouped regions by groups) item (kept items each) grouped (kept-grouped items each)
  kept-grouped (item ∷ items) (inr other, each) = kept-grouped items each

  kept-count : (items : List Item) (each : Each (IsGroupedFor regions by groups m) items) (group : ℕ) → count_in regions by m group items ≡ count_in regions by m group (kept items each)
  kept-count [] each group = refl
  kept-count (item ∷ items) (inl grouped, each) group =
      count-cons regions by m group item items
      ∙ ap (λ (k : ℕ). cond (counts_for regions by m group item) 1 0 + k) (kept-count items each group)
      ∙ sym (count-cons regions by m group item (kept items each))
  kept-count (item ∷ items) (inr other, each) group = count-cons regions by m group item items ∙ rw other (none-plus _ _ (kept-count items each group))

  kept-measured : (items : List Item) (each : Each (IsGroupedFor regions by groups m) items) → items_of_measure m items ≡ items_of_measure m (kept items each)
  kept-measured [] each = refl
  kept-measured (item ∷ items) (inl grouped, each) =
      sum_by-cons (λ (x : Item). cond (same_measure m x.measure) 1 0) item items
      ∙ ap (λ (k : ℕ). cond (same_measure m item.measure) 1 0 + k) (kept-measured items each)
      ∙ sym (sum_by-cons (λ (x : Item). cond (same_measure m x.measure) 1 0) item (kept items each))
  kept-measured (item ∷ items) (inr other, each) = sum_by-cons (λ (x : Item). cond (same_measure m x.measure) 1 0) item items ∙ rw other (none-plus _ _ (kept-measured items each))

  same-map : (f g : ℕ → ℕ) → ((k : ℕ) → f k ≡ g k) → (ks : List ℕ) → map f ks ≡ map g ks
  same-map f g same [] = refl
  same-map f g same (k ∷ ks) = rw (same k, same-map f g same ks) refl

  pub measured-sum : (items : List Item) → Each (IsGroupedFor regions by groups m) items → sum_of_groups regions by groups m items ≡ items_of_measure m items
  measured-sum items each =
      ap sum (same-map (λ (group : ℕ). count_in regions by m group items) (λ (group : ℕ). count_in regions by m group (kept items each)) (kept-count items each) (range_with_len 0 groups))
      ∙ groups-sum regions by groups m (kept items each) (kept-grouped items each)
      ∙ sym (kept-measured items each)

-- ---- the items of a run

-- what holds of the items of each state of a run holds of each item of the run
all-items : (P : Item → Type 0) (Good : State → Type 0) → ((S : State) (e : Event) → Good S → enabled S e ≡ true → Good (next S e)) → ((S : State) → Good S → HoldsByNode P S)
    → (S : State) (D : Departures) (H : Handings) (events : List Event) → Good S → AllNodes KnowsWords S → StaysCoherent S → IsRun S events → Each P (items_from S D H events)
all-items P Good stays holds S D H [] good known coherent run = tt
all-items P Good stays holds S D H (e ∷ es) good known coherent run =
    each-append P (items_in S D H e) (items_from (next S e) (departures_after S e D) (handings_after S e H) es) (items-are P S D H e (holds S good) known (coherent [] tt))
    (all-items P Good stays holds (next S e) (departures_after S e D) (handings_after S e H) es (stays S e good run.0) (next-kept KnowsWords words-stay S e run.0 known)
    (λ more runs. coherent (e ∷ more) (run.0, runs)) run.1)

-- a state of a setting of which something holds
record IsOf (C : Setting) (Q : State → Type 0) (S : State) : Type 0 where
  is : Q S
  setting : S.setting ≡ C

module _ (C : Setting) (ready : IsReady C) (events : List Event) (run : IsRun (initial_state C) events) where
  run-items : (P : Item → Type 0) (Q : State → Type 0) → ((S : State) (e : Event) → Q S → enabled S e ≡ true → Q (next S e)) → ((S : State) → IsOf C Q S → HoldsByNode P S)
      → Q (initial_state C) → Each P (items_from (initial_state C) (no_departures C) (no_handings C) events)
  run-items P Q stays holds first =
      all-items P (IsOf C Q) (λ S e good may. record { is = stays S e good.is may; setting = run-setting S (e ∷ []) ∙ good.setting }) holds (initial_state C) (no_departures C) (no_handings C) events
      (record { is = first; setting = opened-setting C }) (opened-known C) (λ more runs. run-coherent C more ready runs) run

  -- the same with the regions of the program
  abbrev For : Grouping → ℕ → Measure → Item → Type 0
  For by groups m item = IsGroupedFor (regions_from 0 C.program.regions) by groups m item

  -- ---- by core

  abbrev HasSound : State → Type 0
  HasSound S = (made : ℕ) × IsSound S made

  by-core : (m : Measure) (S : State) → IsOf C HasSound S → HoldsByNode (For by.Core C.shape.cores m) S
  by-core m S good c n found = record { word = λ measure word within. inl (n.core, refl, inside); grant = λ how. inl (n.core, refl, inside) } where
    inside : n.core < C.shape.cores
    inside = subst (λ (D : Setting). n.core < D.shape.cores) good.setting (good.is.1.machine.node c n found).fits.core

  cores-each : (m : Measure) → Each (For by.Core C.shape.cores m) (items_from (initial_state C) (no_departures C) (no_handings C) events)
  cores-each m =
      run-items (For by.Core C.shape.cores m) HasSound (λ S e sound may. (sound.0 + 1, sound-next S sound.0 e sound.1 may)) (by-core m)
      (0, opened-sound C (well-formed C ready))

  -- ---- by phase

  by-phase : (m : Measure) (S : State) → IsOf C (AllNodes IsPhased) S → HoldsByNode (For by.Phase (length C.program.phases) m) S
  by-phase m S good c n found = record { word = λ measure word within. inl (n.phase, refl, inside); grant = λ how. inl (n.phase, refl, inside) } where
    inside : n.phase < length C.program.phases
    inside = subst (λ (D : Setting). n.phase < length D.program.phases) good.setting (good.is c n found)

  phases-each : (m : Measure) (count : ℕ) → length C.program.phases ≡ count
      → Each (For by.Phase (length C.program.phases) m) (items_from (initial_state C) (no_departures C) (no_handings C) events)
  phases-each m zero none =
      subst (λ (es : List Event). Each (For by.Phase (length C.program.phases) m) (items_from (initial_state C) (no_departures C) (no_handings C) es)) (sym (no-phases-run C events none run)) tt
  phases-each m (suc k) some =
      run-items (For by.Phase (length C.program.phases) m) (AllNodes IsPhased) (λ S e phased may. next-kept IsPhased phases-stay S e may phased) (by-phase m) (opened-phased C (omega (arith, some)))

  -- ---- by region

  lies : (S : State) (m measure : Measure) (n : NodeParts) (word : WordId) → S.setting ≡ C → word.0 < length S.setting.program.memory
      → For by.Region (length C.program.regions) m (record { measure = measure; phase = record { 0 = n.phase }; core = record { 0 = n.core }; word = Some word })
  lies S m measure n word setting within =
      let inside : word.0 < length C.program.memory = subst (λ (D : Setting). word.0 < length D.program.memory) setting within in
      let region = word-lies C.program.regions (length C.program.memory) word.0 ready.program.tiled inside in
      inl (region.number, region.group, slice_get_within C.program.regions region.number region.region region.there)

  no-grant : (m : Measure) → is_of_words m ≡ true → (how : Handing) → same_measure m (grant_measure how) ≡ false
  no-grant m of_words AtOnce = grind (arith, nat_tests, of_words)
  no-grant m of_words Queued = grind (arith, nat_tests, of_words)

  by-region : (m : Measure) → is_of_words m ≡ true → (S : State) → IsOf C (λ T. Unit {0}) S → HoldsByNode (For by.Region (length C.program.regions) m) S
  by-region m of_words S good c n found = record { word = λ measure word within. lies S m measure n word good.setting within; grant = λ how. inr (no-grant m of_words how) }

  regions-each : (m : Measure) → is_of_words m ≡ true → Each (For by.Region (length C.program.regions) m) (items_from (initial_state C) (no_departures C) (no_handings C) events)
  regions-each m of_words = run-items (For by.Region (length C.program.regions) m) (λ T. Unit {0}) (λ S e good may. tt) (by-region m of_words) tt

pub phases-sum : (C : Setting) (events : List Event) (m : Measure) → IsReady C → IsRun (initial_state C) events → sum_of_run by.Phase m (initial_state C) events ≡ number_of_run m (initial_state C) events
unfolding initial_state
phases-sum C events m ready run =
    measured-sum (regions_from 0 C.program.regions) by.Phase (length C.program.phases) m (items_of_run (initial_state C) events) (phases-each C ready events run m (length C.program.phases) refl)

pub cores-sum : (C : Setting) (events : List Event) (m : Measure) → IsReady C → IsRun (initial_state C) events → sum_of_run by.Core m (initial_state C) events ≡ number_of_run m (initial_state C) events
unfolding initial_state
cores-sum C events m ready run =
    measured-sum (regions_from 0 C.program.regions) by.Core C.shape.cores m (items_of_run (initial_state C) events) (cores-each C ready events run m)

pub regions-sum : (C : Setting) (events : List Event) (m : Measure) → is_of_words m ≡ true → IsReady C → IsRun (initial_state C) events
    → sum_of_run by.Region m (initial_state C) events ≡ number_of_run m (initial_state C) events
unfolding initial_state
regions-sum C events m of_words ready run =
    measured-sum (regions_from 0 C.program.regions) by.Region (length C.program.regions) m (items_of_run (initial_state C) events) (regions-each C ready events run m of_words)
