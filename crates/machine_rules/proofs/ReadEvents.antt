-- What is known of reads after an event, from what the event changes.
use Rattle.std.proofs.Common.{◌≡◌, ◌⊎◌, inl, inr, ℕ, ◌+◌, ◌≤◌, ◌==◌, Bool, true, false, cond, slice_get, Option, Some, None, refl, sym, ap, subst, ◌∙◌, arith}
use Rattle.std.specs.Option.{is_some}
use Rattle.std.proofs.lemmas.Bool.{eqb-true}
use Rattle.dn_base.specs.declared.ids.WordId.{WordId}
use Rattle.dn_base.specs.declared.ids.CoreId.{CoreId}
use Rattle.region_table.specs.declared.declared.TaskDecl.{TaskDecl}
use Rattle.rv_core.specs.declared.task.TaskState.{TaskState}
use Rattle.rv_core.specs.declared.need.Need as need
use Rattle.rv_core.specs.declared.need.Need.{Need}
use Rattle.message_net.specs.declared.message.Outgoing.{Outgoing}
use Rattle.word_cache.specs.declared.row.Entry.TheVariants.{Valid}
use Rattle.word_cache.specs.Cache.{has_room}
use Rattle.registration_protocol.specs.declared.node.NodeWait as wait
use Rattle.registration_protocol.specs.declared.node.NodeWait.{NodeWait}
use Rattle.registration_protocol.specs.Node.{NodeParts, Setting, entry_of, need_now, is_ready}
use Rattle.machine_rules.specs.State.{State, entry_at, home_at}
use Rattle.machine_rules.specs.Flight.{bit, flight, is_read_req_of, is_read_fwd_of, is_read_fwd_to, is_data_reply_to}
use Rattle.machine_rules.proofs.Bits.{passes, pending_bit, owner_bit, reading_in, is_reading}
use Rattle.machine_rules.proofs.Invariant.{Invariant, ReadsGood, ReadRow, read_counts}
use Rattle.machine_rules.proofs.Steps.{NodeStep}
use Rattle.machine_rules.proofs.Outcomes.{IsActing}
use Rattle.machine_rules.proofs.WordEvents.{Flown}
use Rattle.machine_rules.proofs.WordQuiet.{home-node}
use Rattle.machine_rules.proofs.NodeEntries.{IsCalm, calm-node}
use Rattle.machine_rules.proofs.ReadMails.{SameReads}

-- ---- what a node has that waits for a word, or has got it

abbrev pub WantsValue : Setting → NodeParts → WordId → Type 0
WantsValue C n word = (need_now C n ≡ Some (need.TheVariants.Load word)) ⊎ (need_now C n ≡ Some (need.TheVariants.Store word false))

abbrev pub IsMissing : Setting → NodeParts → WordId → Type 0
IsMissing C n word = (entry_of n word.0 ≡ None) × (has_room n.cache word.0 ≡ true) × WantsValue C n word

abbrev pub IsCopied : Setting → NodeParts → WordId → Type 0
IsCopied C n word = ((value : ℕ) × (marked : Bool) × (entry_of n word.0 ≡ Some (Valid value marked))) × WantsValue C n word

pub record WaitsWell (C : Setting) (n : NodeParts) : Type 0 where
  pub reading : (word : WordId) → n.waiting ≡ wait.TheVariants.Reading word → IsMissing C n word
  pub filled : (word : WordId) → n.waiting ≡ wait.TheVariants.Filled word → IsCopied C n word

pub waits-well : (S : State) (c : ℕ) (n : NodeParts) → ReadsGood S → slice_get S.nodes c ≡ Some n → WaitsWell S.setting n
waits-well S c n g found = record { reading = λ word is. g.reading c n word found is; filled = λ word is. g.filled c n word found is }

-- a node that waits for no word
abbrev pub waits_free : NodeWait → Bool
waits_free wait.TheVariants.None = true
waits_free (wait.TheVariants.Locking lock) = true
waits_free _ = false

pub well-free : (C : Setting) (n : NodeParts) → waits_free n.waiting ≡ true → WaitsWell C n
well-free C n free =
    record {
      reading = λ word is. let wrong = rw (is) at free in absurd (cc);
      filled = λ word is. let wrong = rw (is) at free in absurd (cc);
    }

-- a node that waits as before, with the same task: it gets no entry, loses no copy, and has as much room
pub well-same : (C : Setting) (n m : NodeParts) → WaitsWell C n → m.waiting ≡ n.waiting → m.phase ≡ n.phase → m.core ≡ n.core → m.task ≡ n.task
    → ((v : ℕ) → entry_of n v ≡ None → entry_of m v ≡ None) → ((v : ℕ) → has_room n.cache v ≡ true → has_room m.cache v ≡ true)
    → ((v value : ℕ) (marked : Bool) → entry_of n v ≡ Some (Valid value marked) → entry_of m v ≡ Some (Valid value marked)) → WaitsWell C m
well-same C n m well waits phase core task none room copy =
    record {
      reading = λ word is. let old = well.reading word (sym waits ∙ is) in (none word.0 old.0, room word.0 old.1, wants word old.2);
      filled = λ word is. let old = well.filled word (sym waits ∙ is) in ((old.0.0, old.0.1, copy word.0 old.0.0 old.0.1 old.0.2), wants word old.1);
    }
  where
    now : need_now C m ≡ need_now C n
    now = rw (phase, core, task) refl

    wants : (word : WordId) → WantsValue C n word → WantsValue C m word
    wants word (inl is) = inl (now ∙ is)
    wants word (inr is) = inr (now ∙ is)

-- ---- who acts

-- what the next instruction of a node that acts needs
pub acting-need : (S : State) (core : CoreId) (n : NodeParts) (d : TaskDecl) (t : TaskState) (needs : Need) → IsActing S core n d t needs → n.core ≡ core.0 → need_now S.setting n ≡ Some needs
acting-need S core n d t needs acts own = rw (acts.task, ended, own, acts.declares) (ap (λ (x : Need). Some x) acts.wants) where
  ended : is_some t.end ≡ false
  ended = rw (acts.open') refl

abbrev pub is_access : Need → Bool
is_access (need.TheVariants.Load word) = true
is_access (need.TheVariants.Store word whole) = true
is_access _ = false

-- it has got a word that it waited for only if it is about to load or store
pub acting-free : (S : State) (M : ℕ → ℕ) (core : CoreId) (n : NodeParts) (d : TaskDecl) (t : TaskState) (needs : Need) → Invariant S M → IsActing S core n d t needs → is_access needs ≡ false
    → waits_free n.waiting ≡ true
acting-free S M core n d t needs inv acts other = by_wait n.waiting refl acts.ready where
  now : need_now S.setting n ≡ Some needs
  now = acting-need S core n d t needs acts ((inv.machine.node core.0 n acts.found).core)

  no_access : (word : WordId) → WantsValue S.setting n word → ⊥
  no_access word (inl is) = let same : needs ≡ need.TheVariants.Load word = some-same needs (need.TheVariants.Load word) (sym now ∙ is) in let wrong = rw (same) at other in absurd (cc) where
    some-same : (x y : Need) → Some x ≡ Some y → x ≡ y
    some-same x y e = cc
  no_access word (inr is) = let same : needs ≡ need.TheVariants.Store word false = some-same needs (need.TheVariants.Store word false) (sym now ∙ is) in let wrong = rw (same) at other in absurd (cc) where
    some-same : (x y : Need) → Some x ≡ Some y → x ≡ y
    some-same x y e = cc

  by_wait : (waiting : NodeWait) → n.waiting ≡ waiting → is_ready waiting ≡ true → waits_free waiting ≡ true
  by_wait wait.TheVariants.None is ready = refl
  by_wait (wait.TheVariants.Locking lock) is ready = refl
  by_wait (wait.TheVariants.Reading word) is ready = absurd (cc)
  by_wait (wait.TheVariants.Filled word) is ready = absurd (no_access word (inv.reads.filled core.0 n word acts.found is).1)

-- whoever acts, or waits for no word, doesn't read
pub free-bit : (waiting : NodeWait) (w : ℕ) → waits_free waiting ≡ true → bit (is_reading w waiting) ≡ 0
free-bit wait.TheVariants.None w free = refl
free-bit (wait.TheVariants.Locking lock) w free = refl
free-bit (wait.TheVariants.Reading word) w free = absurd (cc)
free-bit (wait.TheVariants.Filled word) w free = absurd (cc)

pub ready-bit : (waiting : NodeWait) (w : ℕ) → is_ready waiting ≡ true → bit (is_reading w waiting) ≡ 0
ready-bit wait.TheVariants.None w ready = refl
ready-bit (wait.TheVariants.Locking lock) w ready = refl
ready-bit (wait.TheVariants.Reading word) w ready = absurd (cc)
ready-bit (wait.TheVariants.Filled word) w ready = refl

-- ---- rows

-- how many mails of the read of word w by core c a mail is
abbrev pub of_read_by : ℕ → ℕ → Option Outgoing → ℕ
of_read_by w c out = passes (is_read_req_of w c) out + passes (is_read_fwd_of w c) out + passes (is_data_reply_to w c) out

abbrev pub Carried : State → State → Option Outgoing → Option Outgoing → Type 0
Carried S T left sent =
    (w c : ℕ) → reading_in w (slice_get T.nodes c) + of_read_by w c left ≡ reading_in w (slice_get S.nodes c) + of_read_by w c sent

pub rows-carried : (S T : State) (left sent : Option Outgoing) → ReadsGood S → Flown S T left sent → Carried S T left sent → (w c : ℕ) → ReadRow (read_counts T w c)
rows-carried S T left sent g flown carried w c = omega (arith, g.row w c, flown (is_read_req_of w c), flown (is_read_fwd_of w c), flown (is_data_reply_to w c), carried w c)

pub rows-same : (S T : State) → ReadsGood S → SameReads S T → ((w c : ℕ) → reading_in w (slice_get T.nodes c) ≡ reading_in w (slice_get S.nodes c)) → (w c : ℕ) → ReadRow (read_counts T w c)
rows-same S T g same reading w c = omega (arith, g.row w c, same.sought w c, same.forwarded w c, same.replied w c, reading w c)

pub pair-same : (S T : State) → ReadsGood S → ((w d : ℕ) → flight T (is_read_fwd_to w d) ≤ flight S (is_read_fwd_to w d)) → ((v : ℕ) → home_at T v ≡ home_at S v)
    → (w d e : ℕ) → 1 ≤ flight T (is_read_fwd_to w d) → owner_bit e (home_at T w) ≤ bit (d == e)
pair-same S T g less homes w d e some = omega (arith, g.pair w d e (omega (arith, some, less w d)), ap (owner_bit e) (homes w))

-- ---- a core's step

pub reading-node : (S T : State) (core : ℕ) (n m : NodeParts) (left sent : Option Outgoing) → NodeStep S T core n m left sent
    → (w c : ℕ) → reading_in w (slice_get T.nodes c) ≡ cond (core == c) (bit (is_reading w m.waiting)) (reading_in w (slice_get S.nodes c))
reading-node S T core n m left sent step w c = by_test (core == c) refl where
  by_test : (x : Bool) → (core == c) ≡ x → reading_in w (slice_get T.nodes c) ≡ cond x (bit (is_reading w m.waiting)) (reading_in w (slice_get S.nodes c))
  by_test true e = ap (reading_in w) (rw (e) at (step.nodes c))
  by_test false e = ap (reading_in w) (rw (e) at (step.nodes c))

pub reading-own : (S : State) (core c : ℕ) (n : NodeParts) (w : ℕ) → slice_get S.nodes core ≡ Some n → (core == c) ≡ true → reading_in w (slice_get S.nodes c) ≡ bit (is_reading w n.waiting)
reading-own S core c n w found e = subst (λ (x : ℕ). reading_in w (slice_get S.nodes x) ≡ bit (is_reading w n.waiting)) (eqb-true core c e) (ap (reading_in w) found)

pub reading-same : (S T : State) (core : ℕ) (n m : NodeParts) (left sent : Option Outgoing) → NodeStep S T core n m left sent → ((w : ℕ) → bit (is_reading w m.waiting) ≡ bit (is_reading w n.waiting))
    → (w c : ℕ) → reading_in w (slice_get T.nodes c) ≡ reading_in w (slice_get S.nodes c)
reading-same S T core n m left sent step same w c = by_test (core == c) refl where
  by_test : (x : Bool) → (core == c) ≡ x → reading_in w (slice_get T.nodes c) ≡ reading_in w (slice_get S.nodes c)
  by_test true e = (rw (e) at (reading-node S T core n m left sent step w c)) ∙ same w ∙ sym (reading-own S core c n w step.found e)
  by_test false e = rw (e) at (reading-node S T core n m left sent step w c)

-- what the nodes that wait have
pub well-after : (S T : State) (core : ℕ) (n m : NodeParts) (left sent : Option Outgoing) → NodeStep S T core n m left sent → ReadsGood S → WaitsWell S.setting m
    → (c : ℕ) (k : NodeParts) → slice_get T.nodes c ≡ Some k → WaitsWell T.setting k
well-after S T core n m left sent step g well c k found = subst (λ (C : Setting). WaitsWell C k) (sym step.setting) (by_test (core == c) refl) where
  some-same : (x y : NodeParts) → Some x ≡ Some y → x ≡ y
  some-same x y e = cc

  by_test : (x : Bool) → (core == c) ≡ x → WaitsWell S.setting k
  by_test true e = subst (λ (x : NodeParts). WaitsWell S.setting x) (some-same m k (sym (rw (e) at (step.nodes c)) ∙ found)) well
  by_test false e = waits-well S c k g (sym (rw (e) at (step.nodes c)) ∙ found)

-- the good reads after a core's step
pub reads-node : (S T : State) (core : ℕ) (n m : NodeParts) (left sent : Option Outgoing) → NodeStep S T core n m left sent → ReadsGood S → WaitsWell S.setting m
    → ((w c : ℕ) → ReadRow (read_counts T w c)) → ((w c d : ℕ) → reading_in w (slice_get T.nodes c) + pending_bit (entry_at T d w) ≤ 1)
    → ((w d : ℕ) → flight T (is_read_fwd_to w d) ≤ flight S (is_read_fwd_to w d)) → ReadsGood T
reads-node S T core n m left sent step g well rows quiet less =
    record {
      row = rows;
      quiet = quiet;
      pair = pair-same S T g less (home-node S T core n m left sent step);
      reading = λ c k word found is. (well-after S T core n m left sent step g well c k found).reading word is;
      filled = λ c k word found is. (well-after S T core n m left sent step g well c k found).filled word is;
    }

-- a step that leaves the reads alone: no mail of a read comes or goes, and no word is newly pending
pub quiet-node : (S T : State) (core : ℕ) (n m : NodeParts) (left sent : Option Outgoing) → NodeStep S T core n m left sent → SameReads S T → ReadsGood S → WaitsWell S.setting m
    → ((w : ℕ) → bit (is_reading w m.waiting) ≡ bit (is_reading w n.waiting)) → ((d w : ℕ) → pending_bit (entry_at T d w) ≤ pending_bit (entry_at S d w)) → ReadsGood T
quiet-node S T core n m left sent step same g well reading calm =
    reads-node S T core n m left sent step g well
    (rows-same S T g same (reading-same S T core n m left sent step reading))
    (λ w c d. omega (arith, g.quiet w c d, reading-same S T core n m left sent step reading w c, calm d w))
    (λ w d. omega (arith, same.passed w d))

pub calm-quiet : (S T : State) (core : ℕ) (n m : NodeParts) (left sent : Option Outgoing) → NodeStep S T core n m left sent → SameReads S T → ReadsGood S → WaitsWell S.setting m
    → ((w : ℕ) → bit (is_reading w m.waiting) ≡ bit (is_reading w n.waiting)) → IsCalm n m → ReadsGood T
calm-quiet S T core n m left sent step same g well reading calm =
    quiet-node S T core n m left sent step same g well reading (λ d w. omega (arith, (calm-node S T core n m left sent step calm).pending d w))

-- ---- an event in which no core has a part

pub reads-nodes : (S T : State) → T.setting ≡ S.setting → T.nodes ≡ S.nodes → ReadsGood S → ((w c : ℕ) → ReadRow (read_counts T w c))
    → ((w d e : ℕ) → 1 ≤ flight T (is_read_fwd_to w d) → owner_bit e (home_at T w) ≤ bit (d == e)) → ReadsGood T
reads-nodes S T setting nodes g rows pair =
    record {
      row = rows;
      quiet = λ w c d. rw (nodes) (g.quiet w c d);
      pair = pair;
      reading = λ c k word found is. rw (setting) (g.reading c k word (rw (nodes) at found) is);
      filled = λ c k word found is. rw (setting) (g.filled c k word (rw (nodes) at found) is);
    }

pub quiet-nodes : (S T : State) → T.setting ≡ S.setting → T.nodes ≡ S.nodes → ((v : ℕ) → home_at T v ≡ home_at S v) → SameReads S T → ReadsGood S → ReadsGood T
quiet-nodes S T setting nodes homes same g =
    reads-nodes S T setting nodes g (rows-same S T g same (λ w c. rw (nodes) refl)) (pair-same S T g (λ w d. omega (arith, same.passed w d)) homes)
