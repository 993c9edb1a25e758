-- What is made on the machine of a document's run is made of the document's program and run.
use Rattle.std.proofs.Common.{◌≡◌, ℕ, List, Result, Ok, Err, IfOk, OnOk, sym, ap, subst, ◌∙◌}
use Rattle.region_table.specs.Program.{ProgramParts}
use Rattle.rv_assembler.specs.Source.{source}
use Rattle.effect_checker.specs.Checked.{IsChecked}
use Rattle.message_net.specs.declared.event.Event.{Event}
use Rattle.registration_protocol.specs.Node.{Setting}
use Rattle.machine_rules.specs.State.{State, initial_state}
use Rattle.machine_rules.specs.Runs.{after, IsRun}
use Rattle.machine_rules.proofs.OpenedFacts.{opened-setting}
use Rattle.machine_rules.proofs.RunsKept.{run-setting}
use Rattle.dn_machine.specs.Kept.{Made, IsKept, IsInitialMachine}
use Rattle.dn_machine.specs.Settings.{IsSettingOf}
use Rattle.run_replay.specs.declared.trace.Trace.{Trace}
use Rattle.run_timing.specs.declared.ticks.Ticks.{Ticks}
use Rattle.run_timing.specs.declared.timing.Timing.{Timing}
use Rattle.run_timing.specs.Longest.{IsLongest}
use Rattle.run_timing.specs.Finishes.{AreFinishes}
use Rattle.run_timing.proofs.Started.{setting-of}
use Rattle.run_account.specs.declared.item.Grouping.{Grouping}
use Rattle.run_account.specs.Account.{Accounted, no_account, account_of_run}
use Rattle.run_account.specs.Runs.{Listed, nothing_listed, count_of_run}
use Rattle.run_chart.specs.declared.charting.Charted.{Charted}
use Rattle.run_chart.specs.declared.drawing.Range.{Range}
use Rattle.run_chart.specs.declared.finishing.Columns.{Columns}
use Rattle.run_chart.specs.Charts.{chart_of, IsChartOf}
use Rattle.page_data.specs.declared.page.Page.{Page}
use Rattle.page_data.specs.Page.{page_text, IsPageOf}
use Rattle.page_data.specs.declared.run_data.RunData.{RunData}
use Rattle.page_data.specs.Data.{run_data_text, IsDataOf}
use Rattle.run_report.specs.Texts.{HasProgram}
use Rattle.checked_runs.specs.Documents.{shape_told, IsMachineTold}
use Rattle.run_report.proofs.OneProgram.{one-program}
use Rattle.view_top.specs.declared.documents.DocumentRun.{DocumentRun}
use Rattle.view_top.specs.declared.documents.KeptRun.{KeptRun}
use Rattle.view_top.specs.Answers.{IsAccountOf, IsListingOf}
use Rattle.view_top.specs.Kept.{AreKeptFinishes, IsKeptRun, IsKeptTiming, IsMachineOf, IsViewable}

-- a machine at its start is told of its own program
pub own-machine : (P : ProgramParts) (t : Trace) (m : Made) → IsInitialMachine P (shape_told P t.shape) t.shape.fuel m → IsMachineTold t m
own-machine P t m at = subst (λ (p : ProgramParts). IsInitialMachine p (shape_told p t.shape) t.shape.fuel m) (sym at.program_is) at

-- the machine on which the run of a document was made is that of the document's text
pub machine-of : (text : List ℕ) (t : Trace) (P : ProgramParts) (m n : Made) (k : KeptRun) → text ≡ t.text → source text ≡ Ok P → IsChecked P → IsInitialMachine P (shape_told P t.shape) t.shape.fuel m → IsKept m.state m.made
    → n.state.setting ≡ m.state.setting → IsKeptRun m.state.setting.program t k → IsMachineOf k n
machine-of text t P m n k same is checked at kept stays told =
    subst (λ (x : KeptRun). IsMachineOf x n) (sym told.is)
    (record {
      program = P;
      is = ap source (sym same) ∙ is;
      checked = checked;
      holds = subst (λ (C : Setting). IsSettingOf P (shape_told P t.shape) t.shape.fuel C) (sym stays) (setting-of P (shape_told P t.shape) t.shape.fuel m at kept);
    })

pub both-machine : {E : Type 0} (text : List ℕ) (t : Trace) (P : ProgramParts) (m : Made) (r : Result DocumentRun E) → text ≡ t.text → source text ≡ Ok P → IsChecked P → IsInitialMachine P (shape_told P t.shape) t.shape.fuel m
    → IsKept m.state m.made → IfOk r (λ told. told.machine.state.setting ≡ m.state.setting) → IfOk r (λ told. IsKeptRun m.state.setting.program t told.kept) → IfOk r (λ told. IsMachineOf told.kept told.machine)
both-machine text t P m (Ok d) same is checked at kept stays told = machine-of text t P m d.machine d.kept same is checked at kept stays told
both-machine text t P m (Err e) same is checked at kept stays told = tt

-- what holds, holds where a call gives something
pub always : {X E : Type 0} (r : Result X E) (Holds : Type 0) → Holds → OnOk r Holds
always (Ok x) Holds holds = holds
always (Err e) Holds holds = tt

module _ (k : KeptRun) (m : Made) where
  -- other events on it leave the machine that of the run
  pub stays : (n : Made) → n.state.setting ≡ m.state.setting → IsMachineOf k m → IsMachineOf k n
  stays n same is =
      record {
        program = is.program;
        is = is.is;
        checked = is.checked;
        holds = subst (λ (C : Setting). IsSettingOf is.program (shape_told is.program k.sizes) k.sizes.fuel C) (sym same) is.holds;
      }

  pub stays-ok : {X E : Type 0} (n : Made) (r : Result X E) → OnOk r (n.state.setting ≡ m.state.setting) → IsMachineOf k m → OnOk r (IsMachineOf k n)
  stays-ok n (Ok x) same is = stays n same is
  stays-ok n (Err e) same is = tt

  pub stays-after : {X E : Type 0} (n : Made) (events : List Event) (r : Result X E) → OnOk r (n.state ≡ after m.state events) → IsMachineOf k m → OnOk r (IsMachineOf k n)
  stays-after n events (Ok x) leads is = stays n (ap (λ (S : State). S.setting) leads ∙ run-setting m.state events) is
  stays-after n events (Err e) leads is = tt

  pub stays-charted : {E : Type 0} (r : Result Charted E) → IfOk r (λ charted. charted.machine.state.setting ≡ m.state.setting) → IsMachineOf k m → IfOk r (λ charted. IsMachineOf k charted.machine)
  stays-charted (Ok x) same is = stays x.machine same is
  stays-charted (Err e) same is = tt

  -- its program is that of the run's text
  pub program-of : (slice : List ℕ) (P : ProgramParts) → IsMachineOf k m → slice ≡ k.text → P ≡ m.state.setting.program → source slice ≡ Ok P
  program-of slice P is same own = ap source same ∙ is.is ∙ ap Ok (sym (own ∙ is.holds.program))

  -- it is set back to its start
  pub opened : (n : Made) → n.state ≡ initial_state m.state.setting → n.state.setting ≡ m.state.setting
  opened n at = ap (λ (S : State). S.setting) at ∙ opened-setting m.state.setting

  pub starts : (n : Made) → n.state ≡ initial_state m.state.setting → n.state ≡ initial_state n.state.setting
  starts n at = at ∙ ap initial_state (sym (opened n at))

  pub run-again : (n : Made) → n.state ≡ initial_state m.state.setting → IsMachineOf k m → IsViewable k → IsRun n.state k.run.events
  run-again n at is can =
      subst (λ (S : State). IsRun S k.run.events) (sym at)
      (can.run.holds m.state.setting
      (subst (λ (P : ProgramParts). IsSettingOf P (shape_told P k.sizes) k.sizes.fuel m.state.setting) (one-program k.text is.program can.run.program is.is can.run.is) is.holds))

  pub reset-is : {X E : Type 0} (n : Made) (r : Result X E) (Holds : Type 0) → (n.state ≡ initial_state m.state.setting → Holds) → OnOk r (n.state ≡ initial_state m.state.setting) → OnOk r Holds
  reset-is n (Ok x) Holds make at = make at
  reset-is n (Err e) Holds make at = tt

  -- what holds of the machine at its start and of the run's events holds of the program
  pub made-on : {X : Type 0} (events : List Event) (Here : State → List Event → X → Type 0) (Holds : ProgramParts → X → Type 0) (x : X) → IsMachineOf k m → m.state ≡ initial_state m.state.setting → events ≡ k.run.events
      → ((P : ProgramParts) → IsSettingOf P (shape_told P k.sizes) k.sizes.fuel m.state.setting → Here (initial_state m.state.setting) k.run.events x → Holds P x)
      → Here m.state events x → HasProgram k.text (λ P. Holds P x)
  made-on events Here Holds x is at same make here =
      let there = subst (λ (S : State). Here S k.run.events x) at (subst (λ (es : List Event). Here m.state es x) same here) in
      record { program = is.program; is = is.is; holds = make is.program is.holds there }

  pub all-made : {X E : Type 0} (events : List Event) (Here : State → List Event → X → Type 0) (Holds : ProgramParts → X → Type 0) (r : Result X E) → IsMachineOf k m → m.state ≡ initial_state m.state.setting → events ≡ k.run.events
      → ((P : ProgramParts) (x : X) → IsSettingOf P (shape_told P k.sizes) k.sizes.fuel m.state.setting → Here (initial_state m.state.setting) k.run.events x → Holds P x)
      → IfOk r (Here m.state events) → IfOk r (λ x. HasProgram k.text (λ P. Holds P x))
  all-made events Here Holds (Ok x) is at same make here = made-on events Here Holds x is at same (λ P. make P x) here
  all-made events Here Holds (Err e) is at same make here = tt

  pub timing-made : {E : Type 0} (events : List Event) (ticks : Ticks) (r : Result Timing E) → IsMachineOf k m → m.state ≡ initial_state m.state.setting → events ≡ k.run.events
      → IfOk r (IsLongest ticks m.state events) → IfOk r (λ timing. HasProgram k.text (IsKeptTiming k ticks timing))
  timing-made events ticks r is at same times =
      all-made events (λ (S : State) (es : List Event) (timing : Timing). IsLongest ticks S es timing) (λ (P : ProgramParts) (timing : Timing). IsKeptTiming k ticks timing P) r is at same
      (λ P timing setting longest. record { setting = m.state.setting; setting_is = setting; longest = longest }) times

  pub finishes-made : {E : Type 0} (events : List Event) (ticks : Ticks) (r : Result (List ℕ) E) → IsMachineOf k m → m.state ≡ initial_state m.state.setting → events ≡ k.run.events
      → IfOk r (AreFinishes ticks m.state events) → IfOk r (λ finishes. HasProgram k.text (AreKeptFinishes k ticks finishes))
  finishes-made events ticks r is at same are =
      all-made events (λ (S : State) (es : List Event) (finishes : List ℕ). AreFinishes ticks S es finishes) (λ (P : ProgramParts) (finishes : List ℕ). AreKeptFinishes k ticks finishes P) r is at same
      (λ P finishes setting are. record { setting = m.state.setting; setting_is = setting; are = are }) are

  pub chart-made : {E : Type 0} (events : List Event) (range : Range) (chain : List ℕ) (columns : Columns) (r : Result Charted E) → IsMachineOf k m → m.state ≡ initial_state m.state.setting → events ≡ k.run.events
      → IfOk r (λ x. x.chart ≡ chart_of m.state.setting events range chain columns)
      → IfOk r (λ x. HasProgram k.text (λ P. IsChartOf P (shape_told P k.sizes) k.sizes.fuel k.run.events range chain columns x.chart))
  chart-made events range chain columns r is at same charted =
      all-made events (λ (S : State) (es : List Event) (x : Charted). x.chart ≡ chart_of S.setting es range chain columns)
      (λ (P : ProgramParts) (x : Charted). IsChartOf P (shape_told P k.sizes) k.sizes.fuel k.run.events range chain columns x.chart) r is at same
      (λ P x setting says. record {
        setting = m.state.setting;
        setting_is = setting;
        is = says ∙ ap (λ (C : Setting). chart_of C k.run.events range chain columns) (opened-setting m.state.setting);
      })
      charted

  pub page-made : {E : Type 0} (events : List Event) (page : Page) (r : Result (List ℕ) E) → IsMachineOf k m → m.state ≡ initial_state m.state.setting → events ≡ k.run.events
      → IfOk r (λ text. text ≡ page_text m.state.setting events page) → IfOk r (λ bytes. HasProgram k.text (λ P. IsPageOf P (shape_told P k.sizes) k.sizes.fuel k.run.events page bytes))
  page-made events page r is at same told =
      all-made events (λ (S : State) (es : List Event) (text : List ℕ). text ≡ page_text S.setting es page) (λ (P : ProgramParts) (bytes : List ℕ). IsPageOf P (shape_told P k.sizes) k.sizes.fuel k.run.events page bytes) r is at same
      (λ P bytes setting says. record { setting = m.state.setting; setting_is = setting; is = says ∙ ap (λ (C : Setting). page_text C k.run.events page) (opened-setting m.state.setting) }) told

  pub data-made : {E : Type 0} (events : List Event) (d : RunData) (r : Result (List ℕ) E) → IsMachineOf k m → m.state ≡ initial_state m.state.setting → events ≡ k.run.events
      → IfOk r (λ text. text ≡ run_data_text m.state.setting events d) → IfOk r (λ bytes. HasProgram k.text (λ P. IsDataOf P (shape_told P k.sizes) k.sizes.fuel k.run.events d bytes))
  data-made events d r is at same told =
      all-made events (λ (S : State) (es : List Event) (text : List ℕ). text ≡ run_data_text S.setting es d) (λ (P : ProgramParts) (bytes : List ℕ). IsDataOf P (shape_told P k.sizes) k.sizes.fuel k.run.events d bytes) r is at same
      (λ P bytes setting says. record { setting = m.state.setting; setting_is = setting; is = says ∙ ap (λ (C : Setting). run_data_text C k.run.events d) (opened-setting m.state.setting) }) told

  pub account-made : {E : Type 0} (events : List Event) (by : Grouping) (r : Result Accounted E) → IsMachineOf k m → m.state ≡ initial_state m.state.setting → events ≡ k.run.events
      → IfOk r (λ x. x ≡ account_of_run m.state (no_account m.state.setting by) events) → IfOk r (λ x. HasProgram k.text (λ P. IsAccountOf P (shape_told P k.sizes) k.sizes.fuel k.run.events by x.tallies))
  account-made events by r is at same counted =
      all-made events (λ (S : State) (es : List Event) (x : Accounted). x ≡ account_of_run S (no_account S.setting by) es) (λ (P : ProgramParts) (x : Accounted). IsAccountOf P (shape_told P k.sizes) k.sizes.fuel k.run.events by x.tallies) r is at same
      (λ P x setting says. record {
        setting = m.state.setting;
        setting_is = setting;
        is = ap (λ (y : Accounted). y.tallies) (says ∙ ap (λ (C : Setting). account_of_run (initial_state m.state.setting) (no_account C by) k.run.events) (opened-setting m.state.setting));
      })
      counted

  pub listing-made : {E : Type 0} (events : List Event) (by : Grouping) (r : Result Listed E) → IsMachineOf k m → m.state ≡ initial_state m.state.setting → events ≡ k.run.events
      → IfOk r (λ x. x ≡ count_of_run m.state (nothing_listed m.state.setting by) events) → IfOk r (λ x. HasProgram k.text (λ P. IsListingOf P (shape_told P k.sizes) k.sizes.fuel k.run.events by x.tallies))
  listing-made events by r is at same counted =
      all-made events (λ (S : State) (es : List Event) (x : Listed). x ≡ count_of_run S (nothing_listed S.setting by) es) (λ (P : ProgramParts) (x : Listed). IsListingOf P (shape_told P k.sizes) k.sizes.fuel k.run.events by x.tallies) r is at same
      (λ P x setting says. record {
        setting = m.state.setting;
        setting_is = setting;
        is = ap (λ (y : Listed). y.tallies) (says ∙ ap (λ (C : Setting). count_of_run (initial_state m.state.setting) (nothing_listed C by) k.run.events) (opened-setting m.state.setting));
      })
      counted
