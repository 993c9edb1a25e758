-- The timing of a run, as it is printed.
use Rattle.std.specs.Prelude.{ℕ, List, [], ◌++◌, codes, flat_map, length, Option, Some, None}
use Rattle.std.specs.Fmt.{decimal}
use Rattle.text_pieces.specs.Pieces.{newline, space}
use Rattle.run_report.specs.Run.{event_word}
use Rattle.run_timing.specs.declared.timing.Link.{Link}
use Rattle.run_timing.specs.declared.timing.Timing.{Timing}

unfoldable pub time_line : ℕ → List ℕ
time_line total = codes "time " ++ decimal total ++ newline

unfoldable pub chain_line : ℕ → List ℕ
chain_line links = codes "chain " ++ decimal links ++ newline

-- how many of the ticks messages are under way; told of a network with a latency alone
unfoldable pub network_line : Option ℕ → List ℕ
network_line None = []
network_line (Some ticks) = codes "network " ++ decimal ticks ++ newline

-- the number of the link's event, its kind, and when it finishes
unfoldable pub link_line : Link → List ℕ
link_line link =
    codes "link " ++ decimal link.event ++ space ++ event_word link.kind ++ space ++ decimal link.finish ++ newline

-- the total, how many links there are, how much of the total are delays, and a line for each link in their order
unfoldable pub timing_of : Timing → List ℕ
timing_of timing =
    time_line timing.total ++ chain_line (length timing.links.items) ++ network_line timing.network ++ flat_map link_line timing.links.items
