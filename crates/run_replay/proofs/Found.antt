-- What was found in front of some bytes is the only such value there; and where the parts of a text aren't found, the text isn't.
use Rattle.std.proofs.Common.{◌≡◌, ℕ, ◌+◌, ◌^◌, ◌<◌, ◌≤◌, List, [], ◌∷◌, ◌++◌, codes, refl, sym, ap, ◌∙◌, arith, append_assoc}
use Rattle.std.proofs.lemmas.List.{append_cancel_left}
use Rattle.std.proofs.lemmas.List.Elements.{All-push}
use Rattle.std.proofs.lemmas.Grind.{flat_map-append}
use Rattle.message_net.specs.declared.actor.Actor.{Actor}
use Rattle.message_net.specs.declared.actor.Actor.TheVariants.{Core, Bank, Keeper}
use Rattle.message_net.specs.declared.actor.MailId.{MailId}
use Rattle.message_net.specs.declared.event.Event.{Event}
use Rattle.message_net.specs.declared.event.Event.TheVariants.{Instr, Evict, Arrive, Handle}
use Rattle.text_pieces.specs.Pieces.{newline, space}
use Rattle.text_pieces.specs.Field.{field, IsFrom, Stands, NoneStands}
use Rattle.text_pieces.specs.Parts.{source_part}
use Rattle.run_replay.specs.Document.{IsNamed, IsMail, FitsDocument, Head, title, shape_line, head_text, mail_line, event_line, event_lines}
use Rattle.run_replay.specs.Lines.{two_fields, StandTwo, mail_text, AreLines}
use Rattle.run_replay.proofs.Forms.{head-parts}

-- ---- one after another

pub two-parts : (name : List ℕ) (a b : ℕ) (r : List ℕ) → two_fields name a b ++ r ≡ field name space a ++ (field [] newline b ++ r)
unfolding two_fields
two-parts name a b r = append_assoc (field name space a) (field [] newline b) r

-- what stands in the head behind its first line, and behind the line of the shape
abbrev pub behind-shape : Head → List ℕ → List ℕ
behind-shape h rest = source_part h.text ++ (field (codes "events ") newline h.count ++ rest)

pub behind-title : (h : Head) (bytes behind rest : List ℕ) → bytes ≡ title ++ behind → bytes ≡ head_text h ++ rest → behind ≡ shape_line h.shape ++ behind-shape h rest
behind-title h bytes behind rest is parts = append_cancel_left title behind _ (sym is ∙ parts ∙ head-parts h rest)

-- ---- a mail and an event

module _ (bytes : List ℕ) where
  abbrev NoTwo : List ℕ → ℕ → Type 0
  NoTwo name most = (first second : ℕ) (rest : List ℕ) → StandTwo name most bytes first second rest → ⊥

  two : (name : List ℕ) (most a b : ℕ) (rest : List ℕ) → a < 16 → b ≤ most → bytes ≡ two_fields name a b ++ rest → StandTwo name most bytes a b rest
  two name most a b rest low fits is =
      record { first_from = record { low = omega arith; high = omega arith }; second_from = record { low = omega arith; high = fits }; parts = is }

  no-mail : (a : Actor) (n : ℕ) (rest : List ℕ) → NoTwo (codes "h c ") 4294967295 → NoTwo (codes "h b ") 4294967295
      → NoneStands (IsFrom 0 4294967295) (field (codes "h k ") (10 ∷ [])) bytes → IsNamed a → n < 2 ^ 32 → bytes ≡ mail_line a n ++ rest → ⊥
  unfolding mail_line two_fields
  no-mail (Core core) n rest no_core no_bank no_keeper named small is = no_core core.0 n rest (two (codes "h c ") 4294967295 core.0 n rest named (omega arith) is)
  no-mail (Bank bank) n rest no_core no_bank no_keeper named small is = no_bank bank.0 n rest (two (codes "h b ") 4294967295 bank.0 n rest named (omega arith) is)
  no-mail Keeper n rest no_core no_bank no_keeper named small is = no_keeper n rest (record { fits = record { low = omega arith; high = omega arith }; parts = is })

  pub none-mail : NoTwo (codes "h c ") 4294967295 → NoTwo (codes "h b ") 4294967295
      → NoneStands (IsFrom 0 4294967295) (field (codes "h k ") (10 ∷ [])) bytes → NoneStands IsMail mail_text bytes
  none-mail no_core no_bank no_keeper id rest found = no-mail id.sender id.number rest no_core no_bank no_keeper found.fits.0 found.fits.1 found.parts

  no-event : (e : Event) (rest : List ℕ) → NoneStands (IsFrom 0 15) (field (codes "i ") (10 ∷ [])) bytes → NoTwo (codes "e ") 65535
      → NoneStands (IsFrom 0 15) (field (codes "a ") (10 ∷ [])) bytes → NoneStands IsMail mail_text bytes → FitsDocument e → bytes ≡ event_line e ++ rest → ⊥
  unfolding event_line two_fields
  no-event (Instr core) rest no_instr no_evict no_arrive no_mail told is = no_instr core.0 rest (record { fits = record { low = omega arith; high = omega arith }; parts = is })
  no-event (Evict core word) rest no_instr no_evict no_arrive no_mail told is =
      no_evict core.0 word.0 rest (two (codes "e ") 65535 core.0 word.0 rest told.0 (omega (arith, told.1)) is)
  no-event (Arrive core) rest no_instr no_evict no_arrive no_mail told is = no_arrive core.0 rest (record { fits = record { low = omega arith; high = omega arith }; parts = is })
  no-event (Handle id) rest no_instr no_evict no_arrive no_mail told is = no_mail id rest (record { fits = told; parts = is })

  pub none-event : NoneStands (IsFrom 0 15) (field (codes "i ") (10 ∷ [])) bytes → NoTwo (codes "e ") 65535
      → NoneStands (IsFrom 0 15) (field (codes "a ") (10 ∷ [])) bytes → NoneStands IsMail mail_text bytes → NoneStands FitsDocument event_line bytes
  none-event no_instr no_evict no_arrive no_mail e rest found = no-event e rest no_instr no_evict no_arrive no_mail found.fits found.parts

  -- ---- what was found

  pub core-mail : (core number : ℕ) (rest : List ℕ) → StandTwo (codes "h c ") 4294967295 bytes core number rest
      → Stands IsMail mail_text bytes (record { sender = Core (record { 0 = core }); number = number }) rest
  unfolding mail_line two_fields
  core-mail core number rest found = record { fits = (omega (arith, found.first_from.high), omega (arith, found.second_from.high)); parts = found.parts }

  pub bank-mail : (bank number : ℕ) (rest : List ℕ) → StandTwo (codes "h b ") 4294967295 bytes bank number rest
      → Stands IsMail mail_text bytes (record { sender = Bank (record { 0 = bank }); number = number }) rest
  unfolding mail_line two_fields
  bank-mail bank number rest found = record { fits = (omega (arith, found.first_from.high), omega (arith, found.second_from.high)); parts = found.parts }

  pub keeper-mail : (number : ℕ) (rest : List ℕ) → Stands (IsFrom 0 4294967295) (field (codes "h k ") (10 ∷ [])) bytes number rest
      → Stands IsMail mail_text bytes (record { sender = Keeper; number = number }) rest
  unfolding mail_line
  keeper-mail number rest found = record { fits = (tt, omega (arith, found.fits.high)); parts = found.parts }

  pub instr-event : (core : ℕ) (rest : List ℕ) → Stands (IsFrom 0 15) (field (codes "i ") (10 ∷ [])) bytes core rest → Stands FitsDocument event_line bytes (Instr (record { 0 = core })) rest
  unfolding event_line
  instr-event core rest found = record { fits = omega (arith, found.fits.high); parts = found.parts }

  pub evict-event : (core word : ℕ) (rest : List ℕ) → StandTwo (codes "e ") 65535 bytes core word rest
      → Stands FitsDocument event_line bytes (Evict (record { 0 = core }) (record { 0 = word })) rest
  unfolding event_line two_fields
  evict-event core word rest found = record { fits = (omega (arith, found.first_from.high), omega (arith, found.second_from.high)); parts = found.parts }

  pub arrive-event : (core : ℕ) (rest : List ℕ) → Stands (IsFrom 0 15) (field (codes "a ") (10 ∷ [])) bytes core rest → Stands FitsDocument event_line bytes (Arrive (record { 0 = core })) rest
  unfolding event_line
  arrive-event core rest found = record { fits = omega (arith, found.fits.high); parts = found.parts }

  pub handle-event : (id : MailId) (rest : List ℕ) → Stands IsMail mail_text bytes id rest → Stands FitsDocument event_line bytes (Handle id) rest
  unfolding event_line
  handle-event id rest found = record { fits = found.fits; parts = found.parts }

-- ---- lines

pub lines-none : (bytes : List ℕ) → AreLines bytes [] bytes
lines-none bytes = record { told = λ k d low. absurd (omega (arith, low)); parts = refl }

pub lines-more : (bytes : List ℕ) (events : List Event) (rest : List ℕ) (e : Event) (more : List ℕ) → AreLines bytes events rest → Stands FitsDocument event_line rest e more
    → AreLines bytes (events ++ e ∷ []) more
lines-more bytes events rest e more lines found =
    record {
      told = All-push FitsDocument events e lines.told found.fits;
      parts =
          lines.parts ∙ ap (λ r. event_lines events ++ r) (found.parts ∙ ap (λ l. l ++ more) (sym (append-nil' (event_line e))))
          ∙ sym (append_assoc (event_lines events) (event_line e ++ []) more) ∙ ap (λ l. l ++ more) (sym (flat_map-append event_line events (e ∷ [])));
    }
  where
    append-nil' : (xs : List ℕ) → xs ++ [] ≡ xs
    append-nil' [] = refl
    append-nil' (x ∷ xs) = ap (λ ys. x ∷ ys) (append-nil' xs)
