-- A state stays one of the machine where one part of it changes.
use Rattle.std.proofs.Common.{◌≡◌, ℕ, zero, suc, ◌+◌, ◌/◌, ◌%◌, ◌<◌, ◌==◌, Bool, true, false, cond, List, [], ◌∷◌, length, slice_get, slice_set, Option, Some, None, refl, sym, ap, subst, ◌∙◌, arith, length-set}
use Rattle.std.specs.Option.{is_some}
use Rattle.std.proofs.lemmas.Bool.{eqb-true}
use Rattle.message_net.specs.declared.actor.Actor.{Actor}
use Rattle.message_net.specs.declared.actor.MailId.{MailId}
use Rattle.message_net.specs.declared.message.Outgoing.{Outgoing}
use Rattle.message_net.specs.Mail.{has_actor, all_mails}
use Rattle.message_net.proofs.PoolLemmas.{AreDistinct-taken}
use Rattle.message_net.proofs.MailLemmas.{actor_index-within}
use Rattle.registry_bank.specs.Bank.{BankParts, IsBank, bank_word, bank_lock}
use Rattle.registry_bank.proofs.KeptLemmas.{KeepsPlace}
use Rattle.phase_barrier.specs.Barrier.{Barrier}
use Rattle.registration_protocol.specs.Node.{NodeParts}
use Rattle.registration_protocol.specs.Fit.{Fits}
use Rattle.machine_rules.specs.State.{State, word_in, lock_in}
use Rattle.machine_rules.specs.Next.{actor_index_in, next_number}
use Rattle.machine_rules.specs.Sound.{IsMachine, IsNodeAt, IsBankAt}
use Rattle.machine_rules.proofs.Steps.{without_mail}
use Rattle.machine_rules.proofs.Lists.{get-set-there}
use Rattle.machine_rules.proofs.MachineMails.{distinct-sent, numbered-sent, numbered-taken, unused}

-- what is at a place doesn't tell how the rest of the machine stands
node-there : (S T : State) (place : ℕ) (n : NodeParts) → T.setting ≡ S.setting → IsNodeAt S place n → IsNodeAt T place n
node-there S T place n same at = record { fits = subst (λ C. Fits C n) (sym same) at.fits; core = at.core }

bank-there : (S T : State) (place : ℕ) (b : BankParts) → T.setting ≡ S.setting → IsBankAt S place b → IsBankAt T place b
bank-there S T place b same at =
    record { well = at.well; bank = at.bank; banks = rw (same) at.banks; cores = rw (same) at.cores }

-- ---- the mails

-- several messages of an actor are in flight, with its next numbers
abbrev pub posts_by : State → Actor → List Outgoing → State
posts_by S from sent =
    record S { mails = all_mails from (next_number S from) sent S.mails; numbers = slice_set S.numbers (actor_index_in S from) (next_number S from + length sent) }

pub machine-posts : (S : State) (from : Actor) (sent : List Outgoing) → has_actor S.setting.shape.cores S.setting.shape.banks from ≡ true → IsMachine S → IsMachine (posts_by S from sent)
machine-posts S from sent there good =
    record {
      context = good.context;
      program = good.program;
      checked = good.checked;
      nodes = good.nodes;
      banks = good.banks;
      numbers = length-set S.numbers (actor_index_in S from) (next_number S from + length sent) ∙ good.numbers;
      node = λ core n found. node-there S (posts_by S from sent) core n refl (good.node core n found);
      bank = λ bank b found. bank-there S (posts_by S from sent) bank b refl (good.bank bank b found);
      words = good.words;
      locks = good.locks;
      cores = good.cores;
      phases = good.phases;
      distinct = distinct-sent from (next_number S from) sent S.mails good.distinct (λ i past. unused (actor_index_in S) S.numbers S.mails from i good.numbered past);
      numbered = numbered-sent (actor_index_in S) S.numbers S.mails from sent within good.numbered;
    }
  where
    within : actor_index_in S from < length S.numbers
    within = omega (arith, good.numbers, actor_index-within S.setting.shape.cores S.setting.shape.banks from there)

pub machine-taken : (S : State) (id : MailId) → IsMachine S → IsMachine (without_mail S id)
machine-taken S id good =
    record {
      context = good.context;
      program = good.program;
      checked = good.checked;
      nodes = good.nodes;
      banks = good.banks;
      numbers = good.numbers;
      node = λ core n found. node-there S (without_mail S id) core n refl (good.node core n found);
      bank = λ bank b found. bank-there S (without_mail S id) bank b refl (good.bank bank b found);
      words = good.words;
      locks = good.locks;
      cores = good.cores;
      phases = good.phases;
      distinct = AreDistinct-taken id S.mails good.distinct;
      numbered = numbered-taken (actor_index_in S) S.numbers S.mails id good.numbered;
    }

-- ---- a node

abbrev pub with_node : State → ℕ → NodeParts → State
with_node S core n = record S { nodes = slice_set S.nodes core n }

pub machine-node : (S : State) (core : ℕ) (n m : NodeParts) → slice_get S.nodes core ≡ Some n → Fits S.setting m → m.core ≡ n.core → IsMachine S → IsMachine (with_node S core m)
machine-node S core n m found fits own good =
    record {
      context = good.context;
      program = good.program;
      checked = good.checked;
      nodes = length-set S.nodes core m ∙ good.nodes;
      banks = good.banks;
      numbers = good.numbers;
      node = λ d x there. by_core d x (core == d) refl (sym (get-set-there S.nodes core d n m found) ∙ there);
      bank = λ bank b there. bank-there S (with_node S core m) bank b refl (good.bank bank b there);
      words = good.words;
      locks = good.locks;
      cores = good.cores;
      phases = good.phases;
      distinct = good.distinct;
      numbered = good.numbered;
    }
  where
    by_core : (d : ℕ) (x : NodeParts) (t : Bool) → (core == d) ≡ t → cond t (Some m) (slice_get S.nodes d) ≡ Some x → IsNodeAt (with_node S core m) d x
    by_core d x true same is =
        let here : m ≡ x = cc in
        let at : IsNodeAt (with_node S core m) d m = record { fits = fits; core = own ∙ (good.node core n found).core ∙ eqb-true core d same } in
        subst (IsNodeAt (with_node S core m) d) here at
    by_core d x false other is = node-there S (with_node S core m) d x refl (good.node d x is)

-- ---- the keeper

abbrev pub with_keeper : State → Barrier → State
with_keeper S k = record S { keeper = k }

pub machine-keeper : (S : State) (k : Barrier) → length k.arrived ≡ length S.keeper.arrived → k.phases ≡ S.keeper.phases → IsMachine S → IsMachine (with_keeper S k)
machine-keeper S k cores phases good =
    record {
      context = good.context;
      program = good.program;
      checked = good.checked;
      nodes = good.nodes;
      banks = good.banks;
      numbers = good.numbers;
      node = λ core n found. node-there S (with_keeper S k) core n refl (good.node core n found);
      bank = λ bank b found. bank-there S (with_keeper S k) bank b refl (good.bank bank b found);
      words = good.words;
      locks = good.locks;
      cores = cores ∙ good.cores;
      phases = phases ∙ good.phases;
      distinct = good.distinct;
      numbered = good.numbered;
    }

-- ---- a bank

abbrev pub with_bank : State → ℕ → BankParts → State
with_bank S bank b = record S { banks = slice_set S.banks bank b }

-- whether an item is there is told by the length
some-length : {X : Type 0} (xs ys : List X) (i : ℕ) → length xs ≡ length ys → is_some (slice_get xs i) ≡ is_some (slice_get ys i)
some-length [] [] i same = refl
some-length [] (y ∷ ys) i same = absurd (omega (arith, same))
some-length (x ∷ xs) [] i same = absurd (omega (arith, same))
some-length (x ∷ xs) (y ∷ ys) zero same = refl
some-length (x ∷ xs) (y ∷ ys) (suc i) same = some-length xs ys i (omega (arith, same))

if-some : {X : Type 0} (t : Bool) (a b : Option X) → is_some a ≡ is_some b → is_some (cond t a None) ≡ is_some (cond t b None)
if-some true a b same = same
if-some false a b same = refl

word-there : (b c : BankParts) (w : ℕ) → KeepsPlace b c → is_some (bank_word c w) ≡ is_some (bank_word b w)
word-there b c w kept = rw (kept.bank, kept.banks) (if-some (w % b.banks == b.bank) (slice_get c.words (w / b.banks)) (slice_get b.words (w / b.banks)) (some-length c.words b.words (w / b.banks) kept.words))

lock-there : (b c : BankParts) (l : ℕ) → KeepsPlace b c → is_some (bank_lock c l) ≡ is_some (bank_lock b l)
lock-there b c l kept = rw (kept.bank, kept.banks) (if-some (l % b.banks == b.bank) (slice_get c.locks (l / b.banks)) (slice_get b.locks (l / b.banks)) (some-length c.locks b.locks (l / b.banks) kept.locks))

pub machine-bank : (S : State) (bank : ℕ) (b c : BankParts) → slice_get S.banks bank ≡ Some b → IsBank c → KeepsPlace b c → IsMachine S → IsMachine (with_bank S bank c)
machine-bank S bank b c found well kept good =
    record {
      context = good.context;
      program = good.program;
      checked = good.checked;
      nodes = good.nodes;
      banks = length-set S.banks bank c ∙ good.banks;
      numbers = good.numbers;
      node = λ core n there. node-there S (with_bank S bank c) core n refl (good.node core n there);
      bank = λ d x there. by_bank d x (bank == d) refl (sym (get-set-there S.banks bank d b c found) ∙ there);
      words = λ w. by_word w (bank == w % S.setting.shape.banks) refl ∙ good.words w;
      locks = λ l. by_lock l (bank == l % S.setting.shape.banks) refl ∙ good.locks l;
      cores = good.cores;
      phases = good.phases;
      distinct = good.distinct;
      numbered = good.numbered;
    }
  where
    by_bank : (d : ℕ) (x : BankParts) (t : Bool) → (bank == d) ≡ t → cond t (Some c) (slice_get S.banks d) ≡ Some x → IsBankAt (with_bank S bank c) d x
    by_bank d x true same is =
        let here : c ≡ x = cc in
        let old = good.bank bank b found in
        let at : IsBankAt (with_bank S bank c) d c =
        record { well = well; bank = kept.bank ∙ old.bank ∙ eqb-true bank d same; banks = kept.banks ∙ old.banks; cores = kept.cores ∙ old.cores } in
        subst (IsBankAt (with_bank S bank c) d) here at
    by_bank d x false other is = bank-there S (with_bank S bank c) d x refl (good.bank d x is)

    by_word : (w : ℕ) (t : Bool) → (bank == w % S.setting.shape.banks) ≡ t
        → is_some (word_in w (slice_get (slice_set S.banks bank c) (w % S.setting.shape.banks))) ≡ is_some (word_in w (slice_get S.banks (w % S.setting.shape.banks)))
    by_word w true same =
        let place : bank ≡ w % S.setting.shape.banks = eqb-true bank (w % S.setting.shape.banks) same in
        let now = get-set-there S.banks bank (w % S.setting.shape.banks) b c found in
        let old : slice_get S.banks (w % S.setting.shape.banks) ≡ Some b = subst (λ (x : ℕ). slice_get S.banks x ≡ Some b) place found in
        ap (λ (o : Option BankParts). is_some (word_in w o)) (now ∙ ap (λ (t : Bool). cond t (Some c) (slice_get S.banks (w % S.setting.shape.banks))) same)
        ∙ word-there b c w kept ∙ sym (ap (λ (o : Option BankParts). is_some (word_in w o)) old)
    by_word w false other =
        let now = get-set-there S.banks bank (w % S.setting.shape.banks) b c found in
        ap (λ (o : Option BankParts). is_some (word_in w o)) (now ∙ ap (λ (t : Bool). cond t (Some c) (slice_get S.banks (w % S.setting.shape.banks))) other)

    by_lock : (l : ℕ) (t : Bool) → (bank == l % S.setting.shape.banks) ≡ t
        → is_some (lock_in l (slice_get (slice_set S.banks bank c) (l % S.setting.shape.banks))) ≡ is_some (lock_in l (slice_get S.banks (l % S.setting.shape.banks)))
    by_lock l true same =
        let place : bank ≡ l % S.setting.shape.banks = eqb-true bank (l % S.setting.shape.banks) same in
        let now = get-set-there S.banks bank (l % S.setting.shape.banks) b c found in
        let old : slice_get S.banks (l % S.setting.shape.banks) ≡ Some b = subst (λ (x : ℕ). slice_get S.banks x ≡ Some b) place found in
        ap (λ (o : Option BankParts). is_some (lock_in l o)) (now ∙ ap (λ (t : Bool). cond t (Some c) (slice_get S.banks (l % S.setting.shape.banks))) same)
        ∙ lock-there b c l kept ∙ sym (ap (λ (o : Option BankParts). is_some (lock_in l o)) old)
    by_lock l false other =
        let now = get-set-there S.banks bank (l % S.setting.shape.banks) b c found in
        ap (λ (o : Option BankParts). is_some (lock_in l o)) (now ∙ ap (λ (t : Bool). cond t (Some c) (slice_get S.banks (l % S.setting.shape.banks))) other)
