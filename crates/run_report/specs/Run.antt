-- The grants and the counts of a run, as they are printed.
use Rattle.std.specs.Prelude.{ℕ, List, [], ◌∷◌, ◌++◌, codes, flat_map, sum}
use Rattle.std.specs.Fmt.{decimal}
use Rattle.dn_base.specs.declared.ids.Grant.{Grant}
use Rattle.message_net.specs.declared.event.EventKind as kind
use Rattle.message_net.specs.declared.event.EventKind.{EventKind}
use Rattle.rv_core.specs.declared.ending.Ending.{Ending}
use Rattle.grant_log.specs.declared.counts.Counts.{Counts}
use Rattle.grant_log.specs.Counts.{kind_count}
use Rattle.text_pieces.specs.Pieces.{newline, space}
use Rattle.run_report.specs.Answer.{answer_of}
use Rattle.run_report.specs.Grants.{grant_lines}

abbrev pub event_word : EventKind → List ℕ
event_word kind.TheVariants.Instr = codes "instr"
event_word kind.TheVariants.Evict = codes "evict"
event_word kind.TheVariants.Arrive = codes "arrive"
event_word kind.TheVariants.ReadReq = codes "read-req"
event_word kind.TheVariants.ReadFwd = codes "read-fwd"
event_word kind.TheVariants.DataReply = codes "data-reply"
event_word kind.TheVariants.RegReq = codes "reg-req"
event_word kind.TheVariants.RegFwd = codes "reg-fwd"
event_word kind.TheVariants.RegAck = codes "reg-ack"
event_word kind.TheVariants.WriteBack = codes "write-back"
event_word kind.TheVariants.WbAck = codes "wb-ack"
event_word kind.TheVariants.Acquire = codes "acquire"
event_word kind.TheVariants.Release = codes "release"
event_word kind.TheVariants.Grant = codes "grant"
event_word kind.TheVariants.Arrived = codes "arrived"
event_word kind.TheVariants.Go = codes "go"
event_word kind.TheVariants.Halt = codes "halt"

-- the kinds of event, in the order in which their counts are printed
unfoldable pub all_kinds : List EventKind
all_kinds =
    kind.TheVariants.Instr ∷ kind.TheVariants.Evict ∷ kind.TheVariants.Arrive ∷ kind.TheVariants.ReadReq
    ∷ kind.TheVariants.ReadFwd ∷ kind.TheVariants.DataReply ∷ kind.TheVariants.RegReq ∷ kind.TheVariants.RegFwd
    ∷ kind.TheVariants.RegAck ∷ kind.TheVariants.WriteBack ∷ kind.TheVariants.WbAck ∷ kind.TheVariants.Acquire
    ∷ kind.TheVariants.Release ∷ kind.TheVariants.Grant ∷ kind.TheVariants.Arrived ∷ kind.TheVariants.Go
    ∷ kind.TheVariants.Halt ∷ []

-- a word, and how many events there were of its kind
unfoldable pub counted_line : List ℕ → ℕ → List ℕ
counted_line word count = codes "count " ++ word ++ space ++ decimal count ++ newline

-- how many events of a kind there were
abbrev pub kind_line : Counts → EventKind → List ℕ
kind_line counts k = counted_line (event_word k) (kind_count k counts)

-- how many events there were, and how many of each kind
abbrev pub counts_text : Counts → List ℕ
counts_text counts = counted_line (codes "events") (sum counts.kinds) ++ flat_map (kind_line counts) all_kinds

-- the grants of locks in their order, and the counts of events
unfoldable pub run_text : List Grant → Counts → List ℕ
run_text grants counts = grant_lines grants ++ counts_text counts

-- the answer of a run, then its grants and counts
unfoldable pub report_of : Ending → List Grant → Counts → List ℕ
report_of ending grants counts = answer_of ending ++ run_text grants counts
