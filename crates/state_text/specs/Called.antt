-- How a printed state names words, cores, mails and events.
use Rattle.std.specs.Prelude.{ℕ, List, [], ◌++◌, codes, Option, Some, None}
use Rattle.std.specs.Fmt.{decimal}
use Rattle.text_pieces.specs.Pieces.{space}
use Rattle.region_table.specs.Program.{ProgramParts}
use Rattle.message_net.specs.declared.actor.Actor.{Actor}
use Rattle.message_net.specs.declared.actor.Actor.TheVariants.{Core, Bank, Keeper}
use Rattle.message_net.specs.declared.actor.MailId.{MailId}
use Rattle.message_net.specs.declared.event.Event.{Event}
use Rattle.message_net.specs.declared.event.Event.TheVariants.{Instr, Evict, Arrive, Handle}
use Rattle.text_places.specs.declared.words.WordPlace.{WordPlace}
use Rattle.text_places.specs.Words.{word_place}
use Rattle.text_places.specs.Texts.{word_text}

-- a data word by its region and index, and its number: `m[3] (word 7)`; by its number alone if no region has it
unfoldable pub number_beside : ℕ → List ℕ
number_beside w = codes " (word " ++ decimal w ++ codes ")"

abbrev pub number_beside_place : ℕ → Option WordPlace → List ℕ
number_beside_place w None = []
number_beside_place w (Some p) = number_beside w

unfoldable pub data_word_text : ProgramParts → ℕ → List ℕ
data_word_text P w = word_text P.regions w ++ number_beside_place w (word_place P.regions w)

unfoldable pub numbered_core : ℕ → List ℕ
numbered_core core = codes "core " ++ decimal core

-- the receiver of a mail
unfoldable pub receiver_text : Actor → List ℕ
receiver_text (Core core) = numbered_core core.0
receiver_text (Bank bank) = codes "bank " ++ decimal bank.0
receiver_text Keeper = codes "keeper"

-- a mail by its sender and number, as in documents: `c 0 3`, `b 2 0`, `k 4`
unfoldable pub mail_name : Actor → ℕ → List ℕ
mail_name (Core core) number = codes "c " ++ decimal core.0 ++ space ++ decimal number
mail_name (Bank bank) number = codes "b " ++ decimal bank.0 ++ space ++ decimal number
mail_name Keeper number = codes "k " ++ decimal number

unfoldable pub numbered_mail : MailId → List ℕ
numbered_mail id = codes "mail " ++ mail_name id.sender id.number

-- an event, as in documents; an evicted word has its name after its number: `e 0 7 (m[3])`
unfoldable pub event_text : ProgramParts → Event → List ℕ
event_text P (Instr core) = codes "i " ++ decimal core.0
event_text P (Evict core word) = codes "e " ++ decimal core.0 ++ space ++ decimal word.0 ++ codes " (" ++ word_text P.regions word.0 ++ codes ")"
event_text P (Arrive core) = codes "a " ++ decimal core.0
event_text P (Handle id) = codes "h " ++ mail_name id.sender id.number
