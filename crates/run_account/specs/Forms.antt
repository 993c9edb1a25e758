-- An account as it is printed: as a table with a row for each measure and a column for each group, or as csv lines for other
-- programs. A run beside lists of sharers is printed in the same ways, with two columns for each group, and its traffic as an account is.
use Rattle.std.specs.Prelude.{ℕ, ◌-◌, List, [], ◌++◌, length, replicate, codes, flat_map, if◌then◌else◌, Bool, true, nat_lt}
use Rattle.std.specs.List.{range_with_len}
use Rattle.std.specs.Fmt.{decimal}
use Rattle.text_pieces.specs.Pieces.{newline, space}
use Rattle.region_table.specs.Program.{ProgramParts}
use Rattle.run_account.specs.declared.item.Grouping.{Grouping}
use Rattle.run_account.specs.declared.item.Grouping.TheVariants as by
use Rattle.run_account.specs.declared.measure.Measure.{Measure}
use Rattle.run_account.specs.Tallies.{Tallies, tally_of}
use Rattle.run_account.specs.declared.form.Form.{Form}
use Rattle.run_account.specs.declared.form.Form as form
use Rattle.run_account.specs.declared.list_row.ListRow.{ListRow}
use Rattle.run_account.specs.declared.list_row.ListRow.TheVariants.{Pair, Single}
use Rattle.run_account.specs.declared.traffic_row.TrafficRow.{TrafficRow}
use Rattle.run_account.specs.Traffic.{row_number, traffic_rows, traffic_word}
use Rattle.run_account.specs.Names.{measure_word, all_measures, list_measures, list_rows, row_word, grouping_word, group_name}

-- ---- the table

-- a text at the left end of 22 columns
unfoldable pub left_cell : List ℕ → List ℕ
left_cell text = text ++ replicate (22 - length text) 32

-- a text at the right end of 11 columns, after a space
unfoldable pub right_cell : List ℕ → List ℕ
right_cell text = space ++ replicate (11 - length text) 32 ++ text

abbrev pub name_cell : ProgramParts → Grouping → ℕ → List ℕ
name_cell P grouping group = right_cell (group_name P grouping group)

abbrev pub tally_cell : Tallies → Measure → ℕ → List ℕ
tally_cell t m group = right_cell (decimal (tally_of m group t))

-- what the groups are, and the name of each
unfoldable pub names_row : ProgramParts → Tallies → List ℕ
names_row P t = left_cell (grouping_word t.by) ++ flat_map (name_cell P t.by) (range_with_len 0 (length t.numbers)) ++ newline

-- the word of a measure, and its number in each group
unfoldable pub tallies_row : Tallies → Measure → List ℕ
tallies_row t m = left_cell (measure_word m) ++ flat_map (tally_cell t m) (range_with_len 0 (length t.numbers)) ++ newline

unfoldable pub table_text : ProgramParts → Tallies → List ℕ
table_text P t = names_row P t ++ flat_map (tallies_row t) all_measures

-- ---- the table of a run beside lists of sharers

-- two columns for each group: the run, and the same with lists
abbrev pub group_cells : ProgramParts → Grouping → ℕ → List ℕ
group_cells P grouping group = name_cell P grouping group ++ right_cell (codes "lists")

abbrev pub row_cells : Tallies → ListRow → ℕ → List ℕ
row_cells t (Pair here lists) group = tally_cell t here group ++ tally_cell t lists group
row_cells t (Single m) group = right_cell [] ++ tally_cell t m group

unfoldable pub groups_row : ProgramParts → Tallies → List ℕ
groups_row P t = left_cell (grouping_word t.by) ++ flat_map (group_cells P t.by) (range_with_len 0 (length t.numbers)) ++ newline

unfoldable pub list_row_text : Tallies → ListRow → List ℕ
list_row_text t row = left_cell (row_word row) ++ flat_map (row_cells t row) (range_with_len 0 (length t.numbers)) ++ newline

unfoldable pub lists_table_text : ProgramParts → Tallies → List ℕ
lists_table_text P t = groups_row P t ++ flat_map (list_row_text t) list_rows

-- ---- the table of traffic

abbrev pub traffic_cell : Tallies → TrafficRow → ℕ → List ℕ
traffic_cell t row group = right_cell (decimal (row_number t group row))

unfoldable pub traffic_row_text : Tallies → TrafficRow → List ℕ
traffic_row_text t row = left_cell (traffic_word row) ++ flat_map (traffic_cell t row) (range_with_len 0 (length t.numbers)) ++ newline

unfoldable pub traffic_table_text : ProgramParts → Tallies → List ℕ
traffic_table_text P t = names_row P t ++ flat_map (traffic_row_text t) traffic_rows

-- ---- the lines

unfoldable pub csv_head : List ℕ
csv_head = codes "measure,group,count" ++ newline

unfoldable pub csv_fields : List ℕ → List ℕ → ℕ → List ℕ
csv_fields measure group count = measure ++ codes "," ++ group ++ codes "," ++ decimal count ++ newline

-- by region a measure without items has no line
abbrev pub has_csv_line : Grouping → ℕ → Bool
has_csv_line by.Run count = true
has_csv_line by.Phase count = true
has_csv_line by.Core count = true
has_csv_line by.Region count = nat_lt 0 count

abbrev pub csv_line : ProgramParts → Tallies → Measure → ℕ → List ℕ
csv_line P t m group =
    if has_csv_line t.by (tally_of m group t) then csv_fields (measure_word m) (group_name P t.by group) (tally_of m group t) else []

-- the lines of a measure, group by group
abbrev pub csv_lines : ProgramParts → Tallies → Measure → List ℕ
csv_lines P t m = flat_map (csv_line P t m) (range_with_len 0 (length t.numbers))

unfoldable pub csv_text : List Measure → ProgramParts → Tallies → List ℕ
csv_text ms P t = csv_head ++ flat_map (csv_lines P t) ms

-- those of traffic
abbrev pub traffic_line : ProgramParts → Tallies → TrafficRow → ℕ → List ℕ
traffic_line P t row group =
    if has_csv_line t.by (row_number t group row) then csv_fields (traffic_word row) (group_name P t.by group) (row_number t group row) else []

abbrev pub traffic_lines : ProgramParts → Tallies → TrafficRow → List ℕ
traffic_lines P t row = flat_map (traffic_line P t row) (range_with_len 0 (length t.numbers))

unfoldable pub traffic_csv_text : ProgramParts → Tallies → List ℕ
traffic_csv_text P t = csv_head ++ flat_map (traffic_lines P t) traffic_rows

-- ---- both

abbrev pub account_text : Form → ProgramParts → Tallies → List ℕ
account_text form.TheVariants.Text P t = table_text P t
account_text form.TheVariants.Csv P t = csv_text all_measures P t

abbrev pub lists_text : Form → ProgramParts → Tallies → List ℕ
lists_text form.TheVariants.Text P t = lists_table_text P t
lists_text form.TheVariants.Csv P t = csv_text list_measures P t

abbrev pub traffic_text : Form → ProgramParts → Tallies → List ℕ
traffic_text form.TheVariants.Text P t = traffic_table_text P t
traffic_text form.TheVariants.Csv P t = traffic_csv_text P t
