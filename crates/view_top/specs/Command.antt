-- The command: its options, which lists of words it takes, and what they ask for.
use Rattle.std.specs.Prelude.{ℕ, List, [], codes, bytes_eq, Option, Some, None, option_and_then, option_map, if◌then◌else◌}
use Rattle.std.specs.Int.{IsInRange}
use Rattle.clap.specs.Walk.{Row, Text, first_of}
use Rattle.clap.specs.Simple.{App, new_app, with_rule}
use Rattle.run_account.specs.declared.item.Grouping.{Grouping}
use Rattle.run_account.specs.declared.item.Grouping.TheVariants as by
use Rattle.run_account.specs.declared.form.Form.{Form}
use Rattle.run_account.specs.declared.form.Form as form
use Rattle.run_chart.specs.declared.finishing.Columns.{Columns}
use Rattle.run_chart.specs.declared.finishing.Columns as columns
use Rattle.run_chart.specs.declared.keeping.PlainRows.{PlainRows}
use Rattle.run_chart.specs.declared.keeping.PlainRows as plain_rows
use Rattle.run_chart.specs.declared.parts.Fit.{Fit}
use Rattle.run_chart.specs.declared.parts.Fit as fit
use Rattle.state_text.specs.declared.base.Base.{Base}
use Rattle.state_text.specs.declared.base.Base as base
use Rattle.program_outside.specs.Words.{bare, faults_in, number_in, number_rule, open_number_rule, text_rule, values_in, where_taken}
use Rattle.view_top.specs.declared.options.View.{View}
use Rattle.view_top.specs.declared.options.View as view
use Rattle.view_top.specs.declared.options.ChartOptions.{ChartOptions}
use Rattle.view_top.specs.declared.options.PictureOptions.{PictureOptions}
use Rattle.view_top.specs.declared.options.AccountOptions.{AccountOptions}
use Rattle.view_top.specs.declared.options.StateOptions.{StateOptions}
use Rattle.view_top.specs.declared.options.AnswerOptions.{AnswerOptions}
use Rattle.view_top.specs.declared.options.PageOptions.{PageOptions}

-- ---- the command

-- the command `view` with its fifteen options; how many rows there are by default depends on the mode
unfoldable pub view_command : App
view_command =
    with_rule (with_rule (with_rule (with_rule (with_rule (with_rule (with_rule (with_rule (with_rule (with_rule (with_rule (with_rule (with_rule (with_rule (with_rule (bare (new_app (codes "view")))
    (text_rule (codes "mode") (codes "chart")))
    (number_rule (codes "first") (codes "0")))
    (open_number_rule (codes "rows")))
    (text_rule (codes "columns") (codes "all")))
    (text_rule (codes "plain") (codes "on")))
    (text_rule (codes "words") (codes "")))
    (text_rule (codes "actors") (codes "")))
    (text_rule (codes "fit") (codes "rows")))
    (number_rule (codes "tick-core") (codes "1")))
    (number_rule (codes "tick-bank") (codes "10")))
    (number_rule (codes "tick-mail") (codes "5")))
    (text_rule (codes "by") (codes "run")))
    (text_rule (codes "form") (codes "text")))
    (number_rule (codes "event") (codes "0")))
    (text_rule (codes "base") (codes "10"))

-- ---- what the values of its options ask for

-- the number that an option asks for, or the given default
abbrev pub where_given : Option Text → Option ℕ → ℕ → Option ℕ
where_given None asked otherwise = Some otherwise
where_given (Some text) asked otherwise = asked

-- how many rows are asked for, from 1 to `most`; `otherwise` is the default
abbrev pub rows_in : List Row → ℕ → ℕ → Option ℕ
rows_in rows otherwise most = where_given (first_of (codes "rows") rows) (number_in rows (codes "rows") 1 most) otherwise

-- the banks that have a column
abbrev pub columns_named : Text → Option Columns
columns_named text =
    if bytes_eq text (codes "all") then Some columns.TheVariants.All
    else if bytes_eq text (codes "used") then Some columns.TheVariants.Used
    else None

abbrev pub columns_in : List Row → Option Columns
columns_in rows = option_and_then columns_named (first_of (codes "columns") rows)

-- which plain instructions have rows, and how large the picture is
abbrev pub plain_named : Text → Option PlainRows
plain_named text =
    if bytes_eq text (codes "on") then Some plain_rows.TheVariants.All
    else if bytes_eq text (codes "lines") then Some plain_rows.TheVariants.Lines
    else if bytes_eq text (codes "off") then Some plain_rows.TheVariants.Hidden
    else None

abbrev pub plain_in : List Row → Option PlainRows
plain_in rows = option_and_then plain_named (first_of (codes "plain") rows)

abbrev pub fit_named : Text → Option Fit
fit_named text =
    if bytes_eq text (codes "rows") then Some fit.TheVariants.Rows
    else if bytes_eq text (codes "slide") then Some fit.TheVariants.Slide
    else None

abbrev pub fit_in : List Row → Option Fit
fit_in rows = option_and_then fit_named (first_of (codes "fit") rows)

-- how a chart is to be drawn
unfoldable pub picture_options_from : List Row → Option PictureOptions
picture_options_from rows =
    option_and_then (λ (shown : Columns).
    option_and_then (λ (plain : PlainRows).
    option_and_then (λ (size : Fit).
    Some (record { columns = shown; plain = plain; fit = size }))
    (fit_in rows))
    (plain_in rows))
    (columns_in rows)

-- what a chart that is drawn so is asked, where each number is in its range; its lists of names come later
unfoldable pub chart_options_from : List Row → PictureOptions → Option ChartOptions
chart_options_from rows picture =
    option_and_then (λ (first : ℕ).
    option_and_then (λ (most : ℕ).
    option_and_then (λ (tick_core : ℕ).
    option_and_then (λ (tick_bank : ℕ).
    option_and_then (λ (tick_mail : ℕ).
    Some (record { first = first; rows = most; picture = picture; words = []; actors = []; tick_core = tick_core; tick_bank = tick_bank; tick_mail = tick_mail }))
    (number_in rows (codes "tick-mail") 1 1000000))
    (number_in rows (codes "tick-bank") 1 1000000))
    (number_in rows (codes "tick-core") 1 1000000))
    (rows_in rows 1000 4096))
    (number_in rows (codes "first") 0 4294967295)

-- the groups that a text names, and the form
abbrev pub grouping_named : Text → Option Grouping
grouping_named text =
    if bytes_eq text (codes "run") then Some by.Run
    else if bytes_eq text (codes "phase") then Some by.Phase
    else if bytes_eq text (codes "core") then Some by.Core
    else if bytes_eq text (codes "region") then Some by.Region
    else None

abbrev pub form_named : Text → Option Form
form_named text =
    if bytes_eq text (codes "text") then Some form.TheVariants.Text
    else if bytes_eq text (codes "csv") then Some form.TheVariants.Csv
    else None

abbrev pub grouping_in : List Row → Option Grouping
grouping_in rows = option_and_then grouping_named (first_of (codes "by") rows)

abbrev pub form_in : List Row → Option Form
form_in rows = option_and_then form_named (first_of (codes "form") rows)

-- what an account is asked, a run beside lists, and its traffic
unfoldable pub account_options_from : List Row → Option AccountOptions
account_options_from rows =
    option_and_then (λ (grouping : Grouping).
    option_and_then (λ (form : Form).
    Some (record { by = grouping; form = form }))
    (form_in rows))
    (grouping_in rows)

-- what a state is asked
unfoldable pub state_options_from : List Row → Option StateOptions
state_options_from rows =
    option_and_then (λ (event : ℕ).
    Some (record { event = event }))
    (number_in rows (codes "event") 0 4294967295)

-- the base that a text names
abbrev pub base_named : Text → Option Base
base_named text =
    if bytes_eq text (codes "10") then Some base.TheVariants.Decimal
    else if bytes_eq text (codes "16") then Some base.TheVariants.Hexadecimal
    else None

abbrev pub base_in : List Row → Option Base
base_in rows = option_and_then base_named (first_of (codes "base") rows)

-- what an answer for readers is asked
unfoldable pub answer_options_from : List Row → Option AnswerOptions
answer_options_from rows =
    option_and_then (λ (b : Base).
    Some (record { base = b }))
    (base_in rows)

-- what a page is asked that has at most so many events, where each number is in its range; `otherwise` is the default of its events
unfoldable pub events_asked : List Row → ℕ → ℕ → Option PageOptions
events_asked rows otherwise most =
    option_and_then (λ (first : ℕ).
    option_and_then (λ (count : ℕ).
    option_and_then (λ (tick_core : ℕ).
    option_and_then (λ (tick_bank : ℕ).
    option_and_then (λ (tick_mail : ℕ).
    Some (record { first = first; rows = count; tick_core = tick_core; tick_bank = tick_bank; tick_mail = tick_mail }))
    (number_in rows (codes "tick-mail") 1 1000000))
    (number_in rows (codes "tick-bank") 1 1000000))
    (number_in rows (codes "tick-core") 1 1000000))
    (rows_in rows otherwise most))
    (number_in rows (codes "first") 0 4294967295)

-- what a page is asked
abbrev pub page_options_from : List Row → Option PageOptions
page_options_from rows = events_asked rows 4096 20000

-- what the data of a run are asked: all events where no word says how many, and no run has more than the greatest number
abbrev pub data_options_from : List Row → Option PageOptions
data_options_from rows = events_asked rows 4294967295 4294967295

-- the mode that a text names, if it isn't that of the data, with what its own options ask for
abbrev pub view_named : Option ChartOptions → AccountOptions → StateOptions → AnswerOptions → PageOptions → Text → Option View
view_named chart account state answer page text =
    if bytes_eq text (codes "chart") then option_map view.TheVariants.Chart chart
    else if bytes_eq text (codes "account") then Some (view.TheVariants.Account account)
    else if bytes_eq text (codes "lists") then Some (view.TheVariants.Lists account)
    else if bytes_eq text (codes "traffic") then Some (view.TheVariants.Traffic account)
    else if bytes_eq text (codes "state") then Some (view.TheVariants.State state)
    else if bytes_eq text (codes "answer") then Some (view.TheVariants.Answer answer)
    else if bytes_eq text (codes "page") then Some (view.TheVariants.Page page)
    else None

-- a mode in which the rows are at most those of a page
abbrev pub view_of_rows : List Row → PictureOptions → AccountOptions → StateOptions → AnswerOptions → Text → Option View
view_of_rows rows picture account state answer text =
    option_and_then (λ (page : PageOptions). view_named (chart_options_from rows picture) account state answer page text) (page_options_from rows)

-- the mode that a text names: the data of a run, or one in which the rows have a limit
abbrev pub view_by_mode : List Row → PictureOptions → AccountOptions → StateOptions → AnswerOptions → PageOptions → Text → Option View
view_by_mode rows picture account state answer all text =
    if bytes_eq text (codes "data") then Some (view.TheVariants.Data all) else view_of_rows rows picture account state answer text

-- what the values of all options ask for: each is in its range, also where the mode leaves it unused; the rows of a chart are fewer than those
-- of a page, and those of data have no limit
unfoldable pub view_from : List Row → Option View
view_from rows =
    option_and_then (λ (picture : PictureOptions).
    option_and_then (λ (account : AccountOptions).
    option_and_then (λ (state : StateOptions).
    option_and_then (λ (answer : AnswerOptions).
    option_and_then (λ (all : PageOptions).
    option_and_then (view_by_mode rows picture account state answer all)
    (first_of (codes "mode") rows))
    (data_options_from rows))
    (answer_options_from rows))
    (state_options_from rows))
    (account_options_from rows))
    (picture_options_from rows)

-- the text of an option: a list of names
abbrev pub text_or_none : Option Text → List ℕ
text_or_none None = []
text_or_none (Some text) = text

abbrev pub list_in : Text → List Row → List ℕ
list_in name rows = text_or_none (first_of name rows)

abbrev pub with_names : List Row → ChartOptions → ChartOptions
with_names rows o = record o { words = list_in (codes "words") rows; actors = list_in (codes "actors") rows }

-- a view with its lists of names, if it is a chart
abbrev pub with_lists : List Row → View → View
with_lists rows (view.TheVariants.Chart o) = view.TheVariants.Chart (with_names rows o)
with_lists rows v = v

-- what these words ask for, if the command takes them
unfoldable pub view_of : List Text → Option View
view_of words = where_taken (faults_in view_command words) (option_map (with_lists (values_in view_command words)) (view_from (values_in view_command words)))

-- ---- limits

-- each number of a chart is within its limits
pub record IsChartInRange (o : ChartOptions) : Type 0 where
  pub rows : IsInRange 1 4096 o.rows
  pub tick_core : IsInRange 1 1000000 o.tick_core
  pub tick_bank : IsInRange 1 1000000 o.tick_bank
  pub tick_mail : IsInRange 1 1000000 o.tick_mail

-- each number of a page is, which has at most so many events
pub record AreEventsInRange (most : ℕ) (o : PageOptions) : Type 0 where
  pub rows : IsInRange 1 most o.rows
  pub tick_core : IsInRange 1 1000000 o.tick_core
  pub tick_bank : IsInRange 1 1000000 o.tick_bank
  pub tick_mail : IsInRange 1 1000000 o.tick_mail

abbrev pub IsPageInRange : PageOptions → Type 0
IsPageInRange o = AreEventsInRange 20000 o

abbrev pub IsDataInRange : PageOptions → Type 0
IsDataInRange o = AreEventsInRange 4294967295 o

-- each number of a mode is; an account, lists, traffic, a state and an answer have none that is limited
abbrev pub IsViewInRange : View → Type 0
IsViewInRange (view.TheVariants.Chart o) = IsChartInRange o
IsViewInRange (view.TheVariants.Account o) = Unit {0}
IsViewInRange (view.TheVariants.Lists o) = Unit {0}
IsViewInRange (view.TheVariants.Traffic o) = Unit {0}
IsViewInRange (view.TheVariants.State o) = Unit {0}
IsViewInRange (view.TheVariants.Answer o) = Unit {0}
IsViewInRange (view.TheVariants.Page o) = IsPageInRange o
IsViewInRange (view.TheVariants.Data o) = IsDataInRange o
