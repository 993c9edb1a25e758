-- What is kept says that a state shows the memory to which each store was applied.
use Rattle.std.proofs.Common.{◌≡◌, ℕ, zero, suc, ◌+◌, ◌≤◌, true, false, List, [], ◌∷◌, slice_get, Option, Some, None, refl, sym, ap, ◌∙◌, arith}
use Rattle.std.specs.Option.{option_or}
use Rattle.word_cache.specs.declared.row.Entry.{Entry}
use Rattle.word_cache.specs.declared.row.Entry.TheVariants.{Valid, Registered, Leaving}
use Rattle.registry_bank.specs.declared.bank.BankWord.{BankWord}
use Rattle.registry_bank.specs.declared.bank.BankWord.TheVariants.{Home, Reg}
use Rattle.registration_protocol.specs.Node.{NodeParts, entry_of}
use Rattle.machine_rules.specs.State.{State, entry_in, entry_at, home_at}
use Rattle.machine_rules.specs.Memory.{pending_value, pending_among, value_in_entry, kept_value, value_or_kept, word_value}
use Rattle.machine_rules.specs.Coherent.{owned_value}
use Rattle.machine_rules.proofs.Bits.{pending_bit, settled_bit, leaving_bit, owner_bit}
use Rattle.machine_rules.proofs.BitLemmas.{owner-bit}
use Rattle.machine_rules.proofs.Invariant.{WordsGood, ValuesGood, AllSettled}

-- a pending value among nodes is some node's
found-pending : (ns : List NodeParts) (w value : ℕ) → pending_among ns w ≡ Some value
    → (c : ℕ) × (entry_in w (slice_get ns c) ≡ Some (Registered value true))
found-pending [] w value is = absurd (cc)
found-pending (n ∷ ns) w value is = by_entry (found-pending ns w value) (entry_of n w) refl is where
  by_place : (c : ℕ) × (entry_in w (slice_get ns c) ≡ Some (Registered value true)) → (c : ℕ) × (entry_in w (slice_get (n ∷ ns) c) ≡ Some (Registered value true))
  by_place (c, here) = (suc c, here)

  by_entry : (pending_among ns w ≡ Some value → (c : ℕ) × (entry_in w (slice_get ns c) ≡ Some (Registered value true)))
      → (e : Option Entry) → entry_of n w ≡ e → option_or (pending_value e) (pending_among ns w) ≡ Some value
      → (c : ℕ) × (entry_in w (slice_get (n ∷ ns) c) ≡ Some (Registered value true))
  by_entry again None e rest = by_place (again rest)
  by_entry again (Some (Valid v marked)) e rest = by_place (again rest)
  by_entry again (Some (Registered v true)) e rest = let same : v ≡ value = cc in (zero, e ∙ ap (λ (x : ℕ). Some (Registered x true)) same)
  by_entry again (Some (Registered v false)) e rest = by_place (again rest)
  by_entry again (Some (Leaving v)) e rest = by_place (again rest)

-- where there is none no entry is pending
none-pending : (ns : List NodeParts) (w : ℕ) → pending_among ns w ≡ None → (c : ℕ) → pending_bit (entry_in w (slice_get ns c)) ≡ 0
none-pending [] w is c = refl
none-pending (n ∷ ns) w is c = by_entry (none-pending ns w) (entry_of n w) refl is c where
  later : ((d : ℕ) → pending_bit (entry_in w (slice_get ns d)) ≡ 0) → pending_bit (entry_of n w) ≡ 0 → (c : ℕ) → pending_bit (entry_in w (slice_get (n ∷ ns) c)) ≡ 0
  later rest here zero = here
  later rest here (suc c) = rest c

  by_entry : (pending_among ns w ≡ None → (d : ℕ) → pending_bit (entry_in w (slice_get ns d)) ≡ 0)
      → (e : Option Entry) → entry_of n w ≡ e → option_or (pending_value e) (pending_among ns w) ≡ None → (c : ℕ) → pending_bit (entry_in w (slice_get (n ∷ ns) c)) ≡ 0
  by_entry again None e rest c = later (again rest) (rw (e) refl) c
  by_entry again (Some (Valid v marked)) e rest c = later (again rest) (rw (e) refl) c
  by_entry again (Some (Registered v true)) e rest c = absurd (cc)
  by_entry again (Some (Registered v false)) e rest c = later (again rest) (rw (e) refl) c
  by_entry again (Some (Leaving v)) e rest c = later (again rest) (rw (e) refl) c

-- the value of a registrant's entry, where nothing is pending
owned : (e : Option Entry) (m : ℕ) → pending_bit e ≡ 0 → 1 ≤ pending_bit e + settled_bit e + leaving_bit e
    → ((value : ℕ) → owned_value e ≡ Some value → value ≡ m) → value_in_entry e ≡ m
owned None m none some is = absurd (omega (arith, some))
owned (Some (Valid value marked)) m none some is = absurd (omega (arith, some))
owned (Some (Registered value true)) m none some is = absurd (omega (arith, none))
owned (Some (Registered value false)) m none some is = is value refl
owned (Some (Leaving value)) m none some is = is value refl

pub value-is : (S : State) (M : ℕ → ℕ) → WordsGood S → ValuesGood S M → (w : ℕ) → word_value S w ≡ M w
unfolding word_value
value-is S M words g w = by_pending (pending_among S.nodes w) refl where
  by_home : AllSettled S w → (h : Option BankWord) → home_at S w ≡ h → kept_value S w h ≡ M w
  by_home all None is = sym (g.beyond w is)
  by_home all (Some (Home value)) is = g.home w value all is
  by_home all (Some (Reg core)) is =
      let owner : owner_bit core.0 (home_at S w) ≡ 1 = owner-bit core.0 (home_at S w) is in
      owned (entry_at S core.0 w) (M w) (all core.0) (omega (arith, owner, words.row w core.0)) (λ value has. g.owner w value core all is has)

  by_pending : (o : Option ℕ) → pending_among S.nodes w ≡ o → value_or_kept S w o ≡ M w
  by_pending (Some value) is = let at = found-pending S.nodes w value is in g.pending at.0 w value at.1
  by_pending None is = by_home (none-pending S.nodes w is) (home_at S w) refl
