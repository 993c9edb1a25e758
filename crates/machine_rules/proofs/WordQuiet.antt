-- Events that leave the words alone: no entry changes but copies, no home changes, and no mail of a word comes or goes.
use Rattle.std.proofs.Common.{◌≡◌, ℕ, ◌==◌, Bool, true, false, Option, Some, None, refl, sym, ap, subst, ◌∙◌, arith}
use Rattle.std.proofs.lemmas.Bool.{eqb-true}
use Rattle.message_net.specs.declared.actor.Actor.{Actor}
use Rattle.message_net.specs.declared.message.Message.{Message}
use Rattle.message_net.specs.declared.message.Message.TheVariants.{RegReq, RegFwd, RegAck, WriteBack, WbAck}
use Rattle.message_net.specs.declared.message.Outgoing.{Outgoing}
use Rattle.word_cache.specs.declared.row.Entry.{Entry}
use Rattle.word_cache.specs.declared.row.Entry.TheVariants.{Valid, Registered, Leaving}
use Rattle.registration_protocol.specs.Node.{NodeParts, entry_of}
use Rattle.machine_rules.specs.State.{State, entry_in, entry_at, home_at}
use Rattle.machine_rules.specs.Flight.{flight, is_reg_req_of, is_reg_fwd_of, is_reg_fwd_to, is_reg_ack_to, is_reg_fwd_to_itself, is_write_back_of, is_write_back_with, is_wb_ack_to}
use Rattle.machine_rules.specs.Coherent.{MayStore}
use Rattle.machine_rules.proofs.Bits.{pending_bit, settled_bit, leaving_bit, known_bit, owner_bit}
use Rattle.machine_rules.proofs.Invariant.{WordsGood}
use Rattle.machine_rules.proofs.Steps.{NodeStep}
use Rattle.machine_rules.proofs.WordEvents.{Flown, IsAside, entry-node}

-- what an entry says that isn't a copy
abbrev pub owned_part : Option Entry → Option Entry
owned_part None = None
owned_part (Some (Valid value marked)) = None
owned_part (Some (Registered value pending)) = Some (Registered value pending)
owned_part (Some (Leaving value)) = Some (Leaving value)

pub pending-part : (e : Option Entry) → pending_bit e ≡ pending_bit (owned_part e)
pending-part None = refl
pending-part (Some (Valid value marked)) = refl
pending-part (Some (Registered value pending)) = refl
pending-part (Some (Leaving value)) = refl

pub settled-part : (e : Option Entry) → settled_bit e ≡ settled_bit (owned_part e)
settled-part None = refl
settled-part (Some (Valid value marked)) = refl
settled-part (Some (Registered value pending)) = refl
settled-part (Some (Leaving value)) = refl

pub leaving-part : (e : Option Entry) → leaving_bit e ≡ leaving_bit (owned_part e)
leaving-part None = refl
leaving-part (Some (Valid value marked)) = refl
leaving-part (Some (Registered value pending)) = refl
leaving-part (Some (Leaving value)) = refl

part-leaving : (e : Option Entry) (value : ℕ) → owned_part e ≡ Some (Leaving value) → e ≡ Some (Leaving value)
part-leaving None value is = absurd (cc)
part-leaving (Some (Valid v marked)) value is = absurd (cc)
part-leaving (Some (Registered v pending)) value is = is
part-leaving (Some (Leaving v)) value is = is

-- the mails of words that are in flight are as many as before
pub record SameFlights (S T : State) : Type 0 where
  pub asked : (v d : ℕ) → flight T (is_reg_req_of v d) ≡ flight S (is_reg_req_of v d)
  pub forwarded : (v d : ℕ) → flight T (is_reg_fwd_of v d) ≡ flight S (is_reg_fwd_of v d)
  pub acked : (v d : ℕ) → flight T (is_reg_ack_to v d) ≡ flight S (is_reg_ack_to v d)
  pub sought : (v d : ℕ) → flight T (is_reg_fwd_to v d) ≡ flight S (is_reg_fwd_to v d)
  pub turned : (v d : ℕ) → flight T (is_reg_fwd_to_itself v d) ≡ flight S (is_reg_fwd_to_itself v d)
  pub written : (v d : ℕ) → flight T (is_write_back_of v d) ≡ flight S (is_write_back_of v d)
  pub valued : (v d value : ℕ) → flight T (is_write_back_with v d value) ≡ flight S (is_write_back_with v d value)
  pub freed : (v d : ℕ) → flight T (is_wb_ack_to v d) ≡ flight S (is_wb_ack_to v d)

pub same-flights : (S T : State) (left sent : Option Outgoing) → Flown S T left sent → ((v : ℕ) → IsAside v left) → ((v : ℕ) → IsAside v sent) → SameFlights S T
same-flights S T left sent flown came went =
    record {
      asked = λ v d. omega (arith, flown (is_reg_req_of v d), (came v).asked d, (went v).asked d);
      forwarded = λ v d. omega (arith, flown (is_reg_fwd_of v d), (came v).forwarded d, (went v).forwarded d);
      acked = λ v d. omega (arith, flown (is_reg_ack_to v d), (came v).acked d, (went v).acked d);
      sought = λ v d. omega (arith, flown (is_reg_fwd_to v d), (came v).sought d, (went v).sought d);
      turned = λ v d. omega (arith, flown (is_reg_fwd_to_itself v d), (came v).turned d, (went v).turned d);
      written = λ v d. omega (arith, flown (is_write_back_of v d), (came v).written d, (went v).written d);
      valued = λ v d value. omega (arith, flown (is_write_back_with v d value), (came v).valued d value, (went v).valued d value);
      freed = λ v d. omega (arith, flown (is_wb_ack_to v d), (came v).freed d, (went v).freed d);
    }

-- whether a message is of the registration or the write-back of word v
abbrev pub of_word : ℕ → Message → Bool
of_word v (RegReq word core) = word.0 == v
of_word v (RegFwd word core) = word.0 == v
of_word v (RegAck word) = word.0 == v
of_word v (WriteBack word value core) = word.0 == v
of_word v (WbAck word) = word.0 == v
of_word v _ = false

pub aside : (v : ℕ) (to : Actor) (message : Message) → of_word v message ≡ false → IsAside v (Some (record { to = to; message = message }))
aside v to (RegReq word core) e = record { asked = λ d. rw (e) refl; forwarded = λ d. refl; acked = λ d. refl; sought = λ d. refl; turned = λ d. refl; written = λ d. refl; valued = λ d value. refl; freed = λ d. refl }
aside v to (RegFwd word core) e = record { asked = λ d. refl; forwarded = λ d. rw (e) refl; acked = λ d. refl; sought = λ d. rw (e) refl; turned = λ d. rw (e) refl; written = λ d. refl; valued = λ d value. refl; freed = λ d. refl }
aside v to (RegAck word) e = record { asked = λ d. refl; forwarded = λ d. refl; acked = λ d. rw (e) refl; sought = λ d. refl; turned = λ d. refl; written = λ d. refl; valued = λ d value. refl; freed = λ d. refl }
aside v to (WriteBack word x core) e = record { asked = λ d. refl; forwarded = λ d. refl; acked = λ d. refl; sought = λ d. refl; turned = λ d. refl; written = λ d. rw (e) refl; valued = λ d value. rw (e) refl; freed = λ d. refl }
aside v to (WbAck word) e = record { asked = λ d. refl; forwarded = λ d. refl; acked = λ d. refl; sought = λ d. refl; turned = λ d. refl; written = λ d. refl; valued = λ d value. refl; freed = λ d. rw (e) refl }
aside v to _ e = record { asked = λ d. refl; forwarded = λ d. refl; acked = λ d. refl; sought = λ d. refl; turned = λ d. refl; written = λ d. refl; valued = λ d value. refl; freed = λ d. refl }

pub aside-none : (v : ℕ) → IsAside v None
aside-none v = record { asked = λ d. refl; forwarded = λ d. refl; acked = λ d. refl; sought = λ d. refl; turned = λ d. refl; written = λ d. refl; valued = λ d value. refl; freed = λ d. refl }

abbrev pub SameParts : State → State → Type 0
SameParts S T = (d v : ℕ) → owned_part (entry_at T d v) ≡ owned_part (entry_at S d v)

pub quiet : (S T : State) → WordsGood S → SameParts S T → ((v : ℕ) → home_at T v ≡ home_at S v) → SameFlights S T
    → ((d w : ℕ) → pending_bit (entry_at T d w) ≡ 1 → MayStore T d w) → WordsGood T
quiet S T g parts homes same right =
    record {
      row = λ w c. omega (
        arith,
        g.row w c,
        pendings c w,
        settleds c w,
        leavings c w,
        ap known_bit (homes w),
        ap (owner_bit c) (homes w),
        same.asked w c,
        same.forwarded w c,
        same.acked w c,
        same.sought w c,
        same.turned w c,
        same.written w c,
        same.freed w c,
      );
      single = λ w c d. omega (arith, g.single w c d, pendings c w, pendings d w);
      valued = λ w c value is. omega (
        arith,
        same.valued w c value,
        same.written w c,
        g.valued w c value (part-leaving (entry_at S c w) value (sym (parts c w) ∙ ap owned_part is)),
      );
      right = right;
    }
  where
    pendings : (d v : ℕ) → pending_bit (entry_at T d v) ≡ pending_bit (entry_at S d v)
    pendings d v = pending-part (entry_at T d v) ∙ ap pending_bit (parts d v) ∙ sym (pending-part (entry_at S d v))

    settleds : (d v : ℕ) → settled_bit (entry_at T d v) ≡ settled_bit (entry_at S d v)
    settleds d v = settled-part (entry_at T d v) ∙ ap settled_bit (parts d v) ∙ sym (settled-part (entry_at S d v))

    leavings : (d v : ℕ) → leaving_bit (entry_at T d v) ≡ leaving_bit (entry_at S d v)
    leavings d v = leaving-part (entry_at T d v) ∙ ap leaving_bit (parts d v) ∙ sym (leaving-part (entry_at S d v))

-- a node's step that changes nothing but copies
pub parts-node : (S T : State) (core : ℕ) (n m : NodeParts) (left sent : Option Outgoing) → NodeStep S T core n m left sent
    → ((v : ℕ) → owned_part (entry_of m v) ≡ owned_part (entry_of n v)) → SameParts S T
parts-node S T core n m left sent step same d v = by_test (core == d) refl where
  by_test : (x : Bool) → (core == d) ≡ x → owned_part (entry_at T d v) ≡ owned_part (entry_at S d v)
  by_test false e = ap owned_part (rw (e) at (entry-node S T core n m left sent step d v))
  by_test true e =
      let here : entry_at S d v ≡ entry_of n v = subst (λ (x : ℕ). entry_at S x v ≡ entry_of n v) (eqb-true core d e) (ap (entry_in v) step.found) in
      ap owned_part (rw (e) at (entry-node S T core n m left sent step d v)) ∙ same v ∙ sym (ap owned_part here)

pub home-node : (S T : State) (core : ℕ) (n m : NodeParts) (left sent : Option Outgoing) → NodeStep S T core n m left sent → (v : ℕ) → home_at T v ≡ home_at S v
home-node S T core n m left sent step v = rw (step.setting, step.banks) refl

pub quiet-node : (S T : State) (core : ℕ) (n m : NodeParts) (left sent : Option Outgoing) → NodeStep S T core n m left sent → WordsGood S
    → ((v : ℕ) → owned_part (entry_of m v) ≡ owned_part (entry_of n v)) → ((v : ℕ) → IsAside v left) → ((v : ℕ) → IsAside v sent)
    → ((d w : ℕ) → pending_bit (entry_at S d w) ≡ 1 → MayStore T d w) → WordsGood T
quiet-node S T core n m left sent step g same came went right =
    quiet S T g parts (home-node S T core n m left sent step) (same-flights S T left sent step.flown came went) rights
  where
    parts : SameParts S T
    parts = parts-node S T core n m left sent step same

    rights : (d w : ℕ) → pending_bit (entry_at T d w) ≡ 1 → MayStore T d w
    rights d w one =
        let pending = pending-part (entry_at T d w) ∙ ap pending_bit (parts d w) ∙ sym (pending-part (entry_at S d w)) in
        right d w (sym pending ∙ one)
