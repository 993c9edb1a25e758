-- The program's answer to options and a document.
use Rattle.std.specs.Prelude.{◌≡◌, ◌⊎◌, ℕ, ◌-◌, ◌<◌, ◌≤◌, ◌==◌, List, [], ◌++◌, length, if◌then◌else◌}
use Rattle.dn_base.specs.declared.ids.Shape.{Shape}
use Rattle.region_table.specs.Program.{ProgramParts}
use Rattle.text_places.specs.declared.places.Located.{Located}
use Rattle.text_places.specs.Places.{text_places}
use Rattle.message_net.specs.declared.event.Event.{Event}
use Rattle.registration_protocol.specs.Node.{Setting}
use Rattle.machine_rules.specs.State.{initial_state}
use Rattle.dn_machine.specs.declared.record.RunRecord.{RunRecord}
use Rattle.dn_machine.specs.Settings.{IsSettingOf}
use Rattle.run_replay.specs.declared.trace.Trace.{Trace}
use Rattle.run_replay.specs.declared.trace.TraceShape.{TraceShape}
use Rattle.run_timing.specs.declared.ticks.Ticks.{Ticks}
use Rattle.run_timing.specs.declared.timing.Timing.{Timing}
use Rattle.run_timing.specs.Ticks.{ticks_by}
use Rattle.run_timing.specs.Longest.{IsTimingOf, numbers_in}
use Rattle.run_timing.specs.Finishes.{AreFinishesOf}
use Rattle.run_account.specs.declared.item.Grouping.{Grouping}
use Rattle.run_account.specs.Tallies.{Tallies}
use Rattle.run_account.specs.Account.{no_account, account_of_run}
use Rattle.run_account.specs.declared.form.Form.{Form}
use Rattle.run_account.specs.declared.form.Form as form
use Rattle.run_account.specs.Forms.{account_text, lists_text, traffic_text}
use Rattle.run_account.specs.Runs.{nothing_listed, count_of_run}
use Rattle.run_chart.specs.declared.parts.Chart.{Chart}
use Rattle.run_chart.specs.Picture.{svg_of}
use Rattle.run_chart.specs.Choosing.{keeping_of, note_of}
use Rattle.run_chart.specs.Keeping.{kept_chart}
use Rattle.run_chart.specs.Slides.{columns_on, fitted}
use Rattle.run_chart.specs.declared.keeping.Keeping.{Keeping}
use Rattle.run_chart.specs.declared.drawing.Range.{Range}
use Rattle.run_chart.specs.Charts.{IsChartOf}
use Rattle.state_text.specs.declared.answer.StateAnswer.{StateAnswer}
use Rattle.state_text.specs.Reached.{IsAnswerOf}
use Rattle.state_text.specs.ForReaders.{answer_for_readers}
use Rattle.page_data.specs.declared.page.Page.{Page}
use Rattle.page_data.specs.Page.{IsPageOf}
use Rattle.page_data.specs.declared.run_data.RunData.{RunData}
use Rattle.page_data.specs.Data.{IsDataOf}
use Rattle.run_report.specs.Texts.{HasChecked, IsUnfit}
use Rattle.program_outside.specs.Serving.{usage_line}
use Rattle.checked_runs.specs.Documents.{IsRefusedDocument, HasTrace, IsNoDocument, IsRunTold, shape_told}
use Rattle.checked_runs.specs.Runs.{reported}
use Rattle.view_top.specs.Status.{Output}
use Rattle.view_top.specs.declared.lists.Numbers.{Numbers}
use Rattle.view_top.specs.declared.lists.Numbers as numbers
use Rattle.view_top.specs.declared.options.View.{View}
use Rattle.view_top.specs.declared.options.View.TheVariants as view
use Rattle.view_top.specs.declared.options.ChartOptions.{ChartOptions}
use Rattle.view_top.specs.declared.options.AccountOptions.{AccountOptions}
use Rattle.view_top.specs.declared.options.StateOptions.{StateOptions}
use Rattle.view_top.specs.declared.options.AnswerOptions.{AnswerOptions}
use Rattle.view_top.specs.declared.options.PageOptions.{PageOptions}
use Rattle.view_top.specs.declared.status.ViewStatus.{ViewStatus}
use Rattle.view_top.specs.declared.status.ViewStatus.TheVariants as status

-- ---- the run of a document

-- a document tells a complete run, and this holds of the run
pub record HasToldRun (P : ProgramParts) (t : Trace) (Holds : RunRecord → Type 0) : Type 0 where
  pub run : RunRecord
  pub told : IsRunTold P t run
  pub holds : Holds run

-- the program of a text, and the lines of its parts
abbrev pub located : ProgramParts → List ℕ → Located
located P text = record { program = P; places = text_places text }

-- the bytes are the document of a complete run of a checked program, and this holds of the program in its text, of what the document tells,
-- and of the run
abbrev pub HasKeptRun : List ℕ → (Located → Trace → RunRecord → Type 0) → Type 0
HasKeptRun document Holds = HasTrace document (λ t. HasChecked t.text (λ P. HasToldRun P t (Holds (located P t.text) t)))

-- ---- what is written

-- what was made of a run, whatever its outcome
abbrev pub made : List ℕ → Output
made bytes = record { status = status.Done; bytes = bytes }

-- what refuses the words
abbrev pub usage : Output
usage = record { status = status.Usage; bytes = usage_line }

-- ---- a chart

-- the range of events that the options ask for
abbrev pub range_for : ChartOptions → Range
range_for o = record { first = o.first; most = o.rows }

-- the ticks that options give to the kinds of event: those of a core's own, those that a bank handles, and all others
abbrev pub chart_ticks : ChartOptions → Ticks
chart_ticks o = ticks_by o.tick_core o.tick_bank o.tick_mail

-- the number of a run's last event; 0 where it has none
abbrev pub last_number : List Event → ℕ
last_number events = length events - 1

-- what the options keep of a chart, in the size that they ask for: on a slide no more than has room; the title says what is left out
abbrev pub kept_by_these : Keeping → ChartOptions → Located → Chart → Chart
kept_by_these K o L chart = kept_chart K (columns_on o.picture.fit o.picture.columns) o.picture.fit (note_of K L chart) chart

abbrev pub kept_by : ChartOptions → Located → Chart → Chart
kept_by o L chart = kept_by_these (fitted o.picture.fit (keeping_of o.picture.plain o.words o.actors L chart.shape) chart) o L chart

-- the output is the picture of what is kept of the run's chart, with the rows and the columns that the options ask for, and with marks
-- on the events of the run's longest chain; words, code words and locks have the names of the text
pub record IsPicture (L : Located) (s : TraceShape) (o : ChartOptions) (events : List Event) (out : Output) : Type 0 where
  pub within : o.first ≤ last_number events
  pub timing : Timing
  pub times : IsTimingOf L.program (shape_told L.program s) s.fuel events (chart_ticks o) timing
  pub chart : Chart
  pub is : IsChartOf L.program (shape_told L.program s) s.fuel events (range_for o) (numbers_in timing.links.items) o.picture.columns chart
  pub answer : out ≡ made (svg_of (kept_by o L chart) L)

-- the first row, or the page's first event, would be after the run's last event, and the words are refused
pub record IsPastEnd (first : ℕ) (events : List Event) (out : Output) : Type 0 where
  pub behind : last_number events < first
  pub answer : out ≡ usage

abbrev pub IsDrawn : Located → TraceShape → ChartOptions → RunRecord → Output → Type 0
IsDrawn L s o r out = IsPicture L s o r.events out ⊎ IsPastEnd o.first r.events out

-- ---- an account

-- the numbers are those of the account of these events, which come on the machine of this program, shape and fuel
pub record IsAccountOf (P : ProgramParts) (shape : Shape) (fuel : ℕ) (events : List Event) (by : Grouping) (tallies : Tallies) : Type 0 where
  pub setting : Setting
  pub setting_is : IsSettingOf P shape fuel setting
  pub is : tallies ≡ (account_of_run (initial_state setting) (no_account setting by) events).tallies

-- what comes before the numbers: in a text the report of the run, in csv nothing
abbrev pub heading_of : Form → RunRecord → List ℕ
heading_of form.TheVariants.Text r = reported r
heading_of form.TheVariants.Csv r = []

-- the output is the account of the run, in the groups and in the form that the options ask for
pub record IsAccount (P : ProgramParts) (s : TraceShape) (o : AccountOptions) (r : RunRecord) (out : Output) : Type 0 where
  pub tallies : Tallies
  pub counted : IsAccountOf P (shape_told P s) s.fuel r.events o.by tallies
  pub answer : out ≡ made (heading_of o.form r ++ account_text o.form P tallies)

-- ---- a run beside lists of sharers

-- the numbers are those of these events beside lists
pub record IsListingOf (P : ProgramParts) (shape : Shape) (fuel : ℕ) (events : List Event) (by : Grouping) (tallies : Tallies) : Type 0 where
  pub setting : Setting
  pub setting_is : IsSettingOf P shape fuel setting
  pub is : tallies ≡ (count_of_run (initial_state setting) (nothing_listed setting by) events).tallies

-- which of these numbers are printed: those of the run beside lists, or those of its traffic
abbrev pub text_of_numbers : Numbers → Form → ProgramParts → Tallies → List ℕ
text_of_numbers numbers.TheVariants.Lists form P t = lists_text form P t
text_of_numbers numbers.TheVariants.Traffic form P t = traffic_text form P t

-- the output is the run beside lists, or its traffic, in the groups and in the form that the options ask for
pub record IsBeside (which : Numbers) (P : ProgramParts) (s : TraceShape) (o : AccountOptions) (r : RunRecord) (out : Output) : Type 0 where
  pub tallies : Tallies
  pub counted : IsListingOf P (shape_told P s) s.fuel r.events o.by tallies
  pub answer : out ≡ made (heading_of o.form r ++ text_of_numbers which o.form P tallies)

-- ---- a state

-- whether the state is the one that was asked for, or that before an earlier event
abbrev pub status_at : ℕ → ℕ → ViewStatus
status_at asked place = if place == asked then status.Done else status.Unreached

-- the output is the state before the event that is asked for, or before the first that may not come
pub record IsShown (P : ProgramParts) (t : Trace) (o : StateOptions) (out : Output) : Type 0 where
  pub within : o.event ≤ length t.events
  pub shown : StateAnswer
  pub is : IsAnswerOf P (shape_told P t.shape) t.shape.fuel (text_places t.text) t.events o.event shown
  pub answer : out ≡ record { status = status_at o.event shown.event; bytes = shown.text.items }

-- the document has fewer events than the number that is asked for, so the words are refused
pub record IsBehindEnd (t : Trace) (o : StateOptions) (out : Output) : Type 0 where
  pub behind : length t.events < o.event
  pub answer : out ≡ usage

abbrev pub IsStateShown : ProgramParts → Trace → StateOptions → Output → Type 0
IsStateShown P t o out = IsShown P t o out ⊎ IsBehindEnd t o out

-- the bytes are no document, or its text has no program that may be run; the line says why
abbrev pub IsWithoutProgram : List ℕ → List ℕ → Type 0
IsWithoutProgram document line = IsNoDocument document line ⊎ HasTrace document (λ t. IsUnfit t.text line)

-- ---- an answer

-- the output is the run's answer for readers, with numbers in the base that the options ask for: these bytes and no others
abbrev pub IsForReaders : Located → List ℕ → AnswerOptions → RunRecord → Output → Type 0
IsForReaders L text o r out = out ≡ made (answer_for_readers o.base text L r.ending r.grants)

-- ---- a page

-- the ticks that options give to the kinds of event, as a chart's do
abbrev pub page_ticks : PageOptions → Ticks
page_ticks o = ticks_by o.tick_core o.tick_bank o.tick_mail

-- the page has no title, the text, how the run ended, the counts of its events, this timing of it by the options' ticks, and those events
-- that the options ask for
pub record IsPageFor (o : PageOptions) (text : List ℕ) (r : RunRecord) (timing : Timing) (p : Page) : Type 0 where
  pub name : p.name.now ≡ []
  pub source : p.source.now ≡ text
  pub ending : p.ending.now ≡ r.ending
  pub counts : p.counts ≡ r.counts
  pub tick_core : p.tick_core ≡ o.tick_core
  pub tick_bank : p.tick_bank ≡ o.tick_bank
  pub tick_mail : p.tick_mail ≡ o.tick_mail
  pub timed : p.timing.now ≡ timing
  pub first : p.first ≡ o.first
  pub most : p.most ≡ o.rows

-- the output is the data of that page, for the longest chain by the options' ticks: these bytes and no others. The HTML that a browser needs
-- around them is the same for every run, and isn't written by the program
pub record IsPageData (P : ProgramParts) (s : TraceShape) (text : List ℕ) (o : PageOptions) (r : RunRecord) (out : Output) : Type 0 where
  pub within : o.first ≤ last_number r.events
  pub timing : Timing
  pub times : IsTimingOf P (shape_told P s) s.fuel r.events (page_ticks o) timing
  pub page : Page
  pub asked : IsPageFor o text r timing page
  pub bytes : List ℕ
  pub is : IsPageOf P (shape_told P s) s.fuel r.events page bytes
  pub answer : out ≡ made bytes

abbrev pub IsPaged : ProgramParts → TraceShape → List ℕ → PageOptions → RunRecord → Output → Type 0
IsPaged P s text o r out = IsPageData P s text o r out ⊎ IsPastEnd o.first r.events out

-- ---- data for other programs

-- the data have the page that the options ask for; the line of a code word is the one whose statement gives it, and each event of the run has
-- this finish
pub record AreDataFor (o : PageOptions) (text : List ℕ) (r : RunRecord) (timing : Timing) (ends : List ℕ) (d : RunData) : Type 0 where
  pub page : IsPageFor o text r timing d.page
  pub places : d.places.now ≡ (text_places text).code
  pub finishes : d.finishes.now ≡ ends

-- the output is those data, for the longest chain and the finishes by the options' ticks: these bytes and no others
pub record AreDataTold (P : ProgramParts) (s : TraceShape) (text : List ℕ) (o : PageOptions) (r : RunRecord) (out : Output) : Type 0 where
  pub within : o.first ≤ last_number r.events
  pub timing : Timing
  pub times : IsTimingOf P (shape_told P s) s.fuel r.events (page_ticks o) timing
  pub finishes : List ℕ
  pub finish : AreFinishesOf P (shape_told P s) s.fuel r.events (page_ticks o) finishes
  pub told : RunData
  pub asked : AreDataFor o text r timing finishes told
  pub bytes : List ℕ
  pub is : IsDataOf P (shape_told P s) s.fuel r.events told bytes
  pub answer : out ≡ made bytes

abbrev pub IsToldAsData : ProgramParts → TraceShape → List ℕ → PageOptions → RunRecord → Output → Type 0
IsToldAsData P s text o r out = AreDataTold P s text o r out ⊎ IsPastEnd o.first r.events out

-- ---- a row for each mode

-- what each mode makes of a document
abbrev pub view_made : View → List ℕ → Output → Type 0
view_made (view.Chart o) document out = HasKeptRun document (λ L t r. IsDrawn L t.shape o r out)
view_made (view.Account o) document out = HasKeptRun document (λ L t r. IsAccount L.program t.shape o r out)
view_made (view.Lists o) document out = HasKeptRun document (λ L t r. IsBeside numbers.TheVariants.Lists L.program t.shape o r out)
view_made (view.Traffic o) document out = HasKeptRun document (λ L t r. IsBeside numbers.TheVariants.Traffic L.program t.shape o r out)
view_made (view.State o) document out = HasTrace document (λ t. HasChecked t.text (λ P. IsStateShown P t o out))
view_made (view.Answer o) document out = HasKeptRun document (λ L t r. IsForReaders L t.text o r out)
view_made (view.Page o) document out = HasKeptRun document (λ L t r. IsPaged L.program t.shape t.text o r out)
view_made (view.Data o) document out = HasKeptRun document (λ L t r. IsToldAsData L.program t.shape t.text o r out)

-- which documents each mode refuses, and with which line: those that the mode replay of denovo refuses, with its line. For a
-- state the events needn't be a run
abbrev pub view_refused : View → List ℕ → List ℕ → Type 0
view_refused (view.Chart o) document line = IsRefusedDocument document line
view_refused (view.Account o) document line = IsRefusedDocument document line
view_refused (view.Lists o) document line = IsRefusedDocument document line
view_refused (view.Traffic o) document line = IsRefusedDocument document line
view_refused (view.State o) document line = IsWithoutProgram document line
view_refused (view.Answer o) document line = IsRefusedDocument document line
view_refused (view.Page o) document line = IsRefusedDocument document line
view_refused (view.Data o) document line = IsRefusedDocument document line

-- ---- answers

pub record IsRefusal (v : View) (document : List ℕ) (out : Output) : Type 0 where
  pub line : List ℕ
  pub why : view_refused v document line
  pub answer : out ≡ record { status = status.Refused; bytes = line }

abbrev pub IsAnswer : View → List ℕ → Output → Type 0
IsAnswer v document out = view_made v document out ⊎ IsRefusal v document out
