-- What a table that notes how each task had ended as its core arrived has of one core's task of a phase, and how it stood when its
-- node last had it.
use Rattle.std.proofs.Common.{◌≡◌, ◌⊎◌, inl, inr, ℕ, ◌+◌, ◌<◌, ◌==◌, Bool, true, false, cond, Option, Some, None, refl, sym, ap, ◌∙◌, arith}
use Rattle.std.specs.Option.{option_or}
use Rattle.std.proofs.lemmas.Bool.Decides.{nat_tests}
use Rattle.rv_core.specs.declared.ending.TaskEnd.{TaskEnd}
use Rattle.registration_protocol.specs.Node.{NodeParts}
use Rattle.registration_protocol.specs.OwnEvents.{end_of}
use Rattle.machine_rules.specs.Runs.{end_in_phase}
use Rattle.host_workers.specs.Ends.{node_standing}
use Rattle.host_workers.proofs.Standing.{Stays, Begins, Arrives}

-- what is noted of a core's task of a phase, and how it stood last, by the core's node: the same in a phase that the node has left,
-- and in that at whose end it waits; nothing in one to which it hasn't come; and in the one in which it is at work nothing is noted,
-- and where it has no task there the task hasn't stood in any way
pub record IsNoted (phase : ℕ) (n : NodeParts) (seen last : Option TaskEnd) : Type 0 where
  pub past : phase < n.phase → seen ≡ last
  pub here : n.phase ≡ phase → n.arrived ≡ true → seen ≡ last
  pub unseen : n.phase ≡ phase → n.arrived ≡ false → seen ≡ None
  pub idle : n.phase ≡ phase → n.arrived ≡ false → n.task ≡ None → last ≡ None
  pub ahead : n.phase < phase → seen ≡ None
  pub never : n.phase < phase → last ≡ None

-- ---- how the task of a node stands in a phase

pub in-phase : (phase : ℕ) (n : NodeParts) → n.phase ≡ phase → end_in_phase phase (Some n) ≡ node_standing n
in-phase phase n is = let here : (n.phase == phase) ≡ true = grind (arith, nat_tests, is) in rw here refl

pub out-of-phase : (phase : ℕ) (n : NodeParts) → (n.phase ≡ phase → ⊥) → end_in_phase phase (Some n) ≡ None
out-of-phase phase n other = by_test (n.phase == phase) refl where
  by_test : (t : Bool) → (n.phase == phase) ≡ t → cond t (node_standing n) None ≡ None
  by_test false e = refl
  by_test true e = let same : n.phase ≡ phase = grind (arith, nat_tests, e) in absurd (other same)

nothing : (n : NodeParts) → n.task ≡ None → node_standing n ≡ None
nothing n none = ap (end_of n) none

shows-none : (phase : ℕ) (n : NodeParts) → node_standing n ≡ None → end_in_phase phase (Some n) ≡ None
shows-none phase n none = by_test (n.phase == phase) where
  by_test : (t : Bool) → cond t (node_standing n) None ≡ None
  by_test false = refl
  by_test true = none

-- what is shown of it is the last that was
later-none : (o last : Option TaskEnd) → o ≡ None → option_or o last ≡ last
later-none o last none = ap (λ (x : Option TaskEnd). option_or x last) none

-- ---- an event of the core

-- the last that was shown has what its node shows
abbrev pub IsLast : ℕ → NodeParts → Option TaskEnd → Type 0
IsLast phase n last = last ≡ option_or (end_in_phase phase (Some n)) last

pub stays-noted : (phase : ℕ) (n m : NodeParts) (seen last : Option TaskEnd) → (m.task ≡ None → n.task ≡ None) → Stays n m → IsLast phase n last → IsNoted phase n seen last
    → IsNoted phase m seen (option_or (end_in_phase phase (Some m)) last)
stays-noted phase n m seen last tasks stays shown noted =
    record { past = past; here = here; unseen = unseen; idle = idle; ahead = ahead; never = never }
  where
    apart : (m.phase ≡ phase → ⊥) → last ≡ option_or (end_in_phase phase (Some m)) last
    apart other = sym (later-none (end_in_phase phase (Some m)) last (out-of-phase phase m other))

    past : phase < m.phase → seen ≡ option_or (end_in_phase phase (Some m)) last
    past low = noted.past (omega (arith, low, stays.phase)) ∙ apart (λ same. omega (arith, low, same))

    here : m.phase ≡ phase → m.arrived ≡ true → seen ≡ option_or (end_in_phase phase (Some m)) last
    here same there =
        let before : n.phase ≡ phase = sym stays.phase ∙ same in
        let was : n.arrived ≡ true = sym stays.arrived ∙ there in
        let shows : end_in_phase phase (Some n) ≡ end_in_phase phase (Some m) = in-phase phase n before ∙ (sym (stays.shown was) ∙ sym (in-phase phase m same)) in
        noted.here before was ∙ (shown ∙ ap (λ (o : Option TaskEnd). option_or o last) shows)

    unseen : m.phase ≡ phase → m.arrived ≡ false → seen ≡ None
    unseen same absent = noted.unseen (sym stays.phase ∙ same) (sym stays.arrived ∙ absent)

    idle : m.phase ≡ phase → m.arrived ≡ false → m.task ≡ None → option_or (end_in_phase phase (Some m)) last ≡ None
    idle same absent none =
        later-none (end_in_phase phase (Some m)) last (shows-none phase m (nothing m none))
        ∙ noted.idle (sym stays.phase ∙ same) (sym stays.arrived ∙ absent) (tasks none)

    ahead : m.phase < phase → seen ≡ None
    ahead low = noted.ahead (omega (arith, low, stays.phase))

    never : m.phase < phase → option_or (end_in_phase phase (Some m)) last ≡ None
    never low = sym (apart (λ same. omega (arith, low, same))) ∙ noted.never (omega (arith, low, stays.phase))

pub begins-noted : (phase : ℕ) (n m : NodeParts) (seen last : Option TaskEnd) → Begins n m → IsNoted phase n seen last → IsNoted phase m seen (option_or (end_in_phase phase (Some m)) last)
begins-noted phase n m seen last begins noted =
    record { past = past; here = here; unseen = unseen; idle = idle; ahead = ahead; never = never }
  where
    same_last : last ≡ option_or (end_in_phase phase (Some m)) last
    same_last = sym (later-none (end_in_phase phase (Some m)) last (shows-none phase m begins.shown))

    by_place : phase < n.phase + 1 → (phase < n.phase) ⊎ (n.phase ≡ phase)
    by_place low = grind (arith, low)

    past_by : (phase < n.phase) ⊎ (n.phase ≡ phase) → seen ≡ last
    past_by (inl low) = noted.past low
    past_by (inr same) = noted.here same begins.arrived

    past : phase < m.phase → seen ≡ option_or (end_in_phase phase (Some m)) last
    past low = past_by (by_place (omega (arith, low, begins.phase))) ∙ same_last

    here : m.phase ≡ phase → m.arrived ≡ true → seen ≡ option_or (end_in_phase phase (Some m)) last
    here same there = let absent = begins.absent in absurd (cc)

    unseen : m.phase ≡ phase → m.arrived ≡ false → seen ≡ None
    unseen same absent = noted.ahead (omega (arith, same, begins.phase))

    idle : m.phase ≡ phase → m.arrived ≡ false → m.task ≡ None → option_or (end_in_phase phase (Some m)) last ≡ None
    idle same absent none = sym same_last ∙ noted.never (omega (arith, same, begins.phase))

    ahead : m.phase < phase → seen ≡ None
    ahead low = noted.ahead (omega (arith, low, begins.phase))

    never : m.phase < phase → option_or (end_in_phase phase (Some m)) last ≡ None
    never low = sym same_last ∙ noted.never (omega (arith, low, begins.phase))

-- the end with which a task arrives is noted
pub arrives-noted : (phase : ℕ) (n m : NodeParts) (seen last : Option TaskEnd) → Arrives n m → IsLast phase n last → IsNoted phase n seen last
    → IsNoted phase m (option_or (end_in_phase phase (Some n)) seen) (option_or (end_in_phase phase (Some m)) last)
arrives-noted phase n m seen last arrives shown noted =
    record { past = past; here = here; unseen = unseen; idle = idle; ahead = ahead; never = never }
  where
    last_apart : (m.phase ≡ phase → ⊥) → last ≡ option_or (end_in_phase phase (Some m)) last
    last_apart other = sym (later-none (end_in_phase phase (Some m)) last (out-of-phase phase m other))

    seen_apart : (n.phase ≡ phase → ⊥) → option_or (end_in_phase phase (Some n)) seen ≡ seen
    seen_apart other = later-none (end_in_phase phase (Some n)) seen (out-of-phase phase n other)

    past : phase < m.phase → option_or (end_in_phase phase (Some n)) seen ≡ option_or (end_in_phase phase (Some m)) last
    past low =
        seen_apart (λ same. omega (arith, low, same, arrives.phase))
        ∙ (noted.past (omega (arith, low, arrives.phase)) ∙ last_apart (λ same. omega (arith, low, same)))

    by_end : n.phase ≡ phase → (o : Option TaskEnd) → node_standing n ≡ o → option_or o seen ≡ option_or o last
    by_end same None none = noted.unseen same arrives.absent ∙ sym (noted.idle same arrives.absent (arrives.ended none))
    by_end same (Some e) is = refl

    here : m.phase ≡ phase → m.arrived ≡ true → option_or (end_in_phase phase (Some n)) seen ≡ option_or (end_in_phase phase (Some m)) last
    here same there =
        let before : n.phase ≡ phase = sym arrives.phase ∙ same in
        ap (λ (o : Option TaskEnd). option_or o seen) (in-phase phase n before)
        ∙ (by_end before (node_standing n) refl
        ∙ ap (λ (o : Option TaskEnd). option_or o last) (sym arrives.shown ∙ sym (in-phase phase m same)))

    unseen : m.phase ≡ phase → m.arrived ≡ false → option_or (end_in_phase phase (Some n)) seen ≡ None
    unseen same absent = let there = arrives.arrived in absurd (cc)

    idle : m.phase ≡ phase → m.arrived ≡ false → m.task ≡ None → option_or (end_in_phase phase (Some m)) last ≡ None
    idle same absent none = let there = arrives.arrived in absurd (cc)

    ahead : m.phase < phase → option_or (end_in_phase phase (Some n)) seen ≡ None
    ahead low = seen_apart (λ same. omega (arith, low, same, arrives.phase)) ∙ noted.ahead (omega (arith, low, arrives.phase))

    never : m.phase < phase → option_or (end_in_phase phase (Some m)) last ≡ None
    never low = sym (last_apart (λ same. omega (arith, low, same))) ∙ noted.never (omega (arith, low, arrives.phase))
