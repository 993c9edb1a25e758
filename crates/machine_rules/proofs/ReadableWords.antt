-- What is kept says that registrants, pending and leaving words are coherent.
use Rattle.std.proofs.Common.{◌≡◌, ◌⊎◌, inl, inr, ℕ, zero, suc, ◌+◌, ◌≤◌, true, false, Option, Some, None, refl, arith}
use Rattle.word_cache.specs.declared.row.Entry.{Entry}
use Rattle.word_cache.specs.declared.row.Entry.TheVariants.{Valid, Registered, Leaving}
use Rattle.machine_rules.specs.State.{State, entry_at, home_at}
use Rattle.machine_rules.specs.Flight.{flight, is_reg_fwd_to}
use Rattle.machine_rules.specs.Coherent.{IsPending, IsSettled, IsLeaving, IsRegistrant, AreRegistrants, ArePending, AreLeaving}
use Rattle.machine_rules.proofs.Bits.{pending_bit, settled_bit, leaving_bit, owner_bit}
use Rattle.machine_rules.proofs.BitLemmas.{owner-is, pending-bit, settled-bit, leaving-bit, owner-bit, one-bit}
use Rattle.machine_rules.proofs.Invariant.{WordsGood, WordRow, word_counts}

-- an entry that isn't Valid is one of three
three : (S : State) (c w : ℕ) → 1 ≤ pending_bit (entry_at S c w) + settled_bit (entry_at S c w) + leaving_bit (entry_at S c w)
    → IsPending S c w ⊎ (IsSettled S c w ⊎ ((value : ℕ) × IsLeaving S c w value))
three S c w some = by_entry (entry_at S c w) refl some where
  by_entry : (e : Option Entry) → entry_at S c w ≡ e → 1 ≤ pending_bit e + settled_bit e + leaving_bit e
      → IsPending S c w ⊎ (IsSettled S c w ⊎ ((value : ℕ) × IsLeaving S c w value))
  by_entry None is one = absurd (omega (arith, one))
  by_entry (Some (Valid value marked)) is one = absurd (omega (arith, one))
  by_entry (Some (Registered value true)) is one = inl (value, is)
  by_entry (Some (Registered value false)) is one = inr (inl (value, is))
  by_entry (Some (Leaving value)) is one = inr (inr (value, is))

pub registrants : (S : State) → WordsGood S → AreRegistrants S
registrants S g =
    record {
      has = λ c w owner. three S c w (omega (arith, g.row w c, owner-bit c (home_at S w) owner));
      hears = λ c w settled. by_owner c w (g.row w c) (settled-bit (entry_at S c w) settled.0 settled.1) (owner_bit c (home_at S w)) refl;
    }
  where
    by_owner : (c w : ℕ) → WordRow (word_counts S w c) → settled_bit (entry_at S c w) ≡ 1 → (x : ℕ) → owner_bit c (home_at S w) ≡ x
        → IsRegistrant S c w ⊎ (1 ≤ flight S (is_reg_fwd_to w c))
    by_owner c w row one zero is = inr (omega (arith, row, one, is))
    by_owner c w row one (suc x) is = inl (owner-is c (home_at S w) (omega (arith, is)))

pub pending : (S : State) → WordsGood S → ArePending S
pending S g =
    record {
      one_core = λ c d w here there. one-bit c d (omega (arith, g.single w c d, pending-bit (entry_at S c w) here.0 here.1, pending-bit (entry_at S d w) there.0 there.1));
      right = λ c w here. g.right c w (pending-bit (entry_at S c w) here.0 here.1);
      one_mail = λ c w here. omega (arith, g.row w c, pending-bit (entry_at S c w) here.0 here.1);
      before = λ c w here asked owner. absurd (omega (arith, g.row w c, asked, owner-bit c (home_at S w) owner));
      behind = λ c w here mail. owner-is c (home_at S w) (omega (arith, g.row w c, mail));
      elsewhere = λ c w. (g.row w c).elsewhere;
    }

pub leaving : (S : State) → WordsGood S → AreLeaving S
leaving S g =
    record {
      one_mail = λ c w value here. omega (arith, g.row w c, g.valued w c value here, leaving-bit (entry_at S c w) value here);
      given = λ c w value here mail owner. absurd (omega (arith, g.row w c, mail, owner-bit c (home_at S w) owner));
    }
