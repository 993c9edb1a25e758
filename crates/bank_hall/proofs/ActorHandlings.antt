-- What a bank, the keeper and a port handle in a history of their calls.
use Rattle.std.proofs.Common.{◌≡◌, ℕ, ◌+◌, ◌*◌, ◌^◌, ◌<◌, ◌≤◌, true, List, [], ◌∷◌, ◌++◌, length, map, Option, Some, None, slice_get, sym, refl, ap, ◌∙◌, subst, arith}
use Rattle.std.specs.List.{All, sum_by, filter_map, cons_option}
use Rattle.std.proofs.lemmas.Bool.Decides.{nat_tests}
use Rattle.std.proofs.lemmas.List.Sums.{sum_by_push}
use Rattle.std.proofs.lemmas.List.Elements.{All-nil, All-cons}
use Rattle.message_net.specs.declared.actor.Actor.TheVariants.{Keeper, Bank}
use Rattle.message_net.specs.declared.message.Outgoing.{Outgoing}
use Rattle.phase_barrier.specs.declared.keeper.Verdict.{Verdict}
use Rattle.phase_barrier.specs.declared.keeper.Verdict.TheVariants.{Wait, Go, Halt}
use Rattle.phase_barrier.specs.Letters.{letter_count}
use Rattle.phase_barrier.specs.Barrier.{keeper_gets}
use Rattle.phase_barrier.proofs.CountLemmas.{cores-kept}
use Rattle.registry_bank.specs.Bank.{bank_gets}
use Rattle.registry_bank.proofs.KeptLemmas.{place-kept}
use Rattle.turn_lock.specs.History.{Legal}
use Rattle.grant_log.specs.declared.posted.Posted.{Posted}
use Rattle.bank_hall.specs.declared.bank.Handled.{Handled}
use Rattle.bank_hall.specs.declared.bank.BankIn as bank_in
use Rattle.bank_hall.specs.declared.bank.BankIn.{BankIn}
use Rattle.bank_hall.specs.declared.port.PortIn as port_in
use Rattle.bank_hall.specs.declared.port.PortIn.{PortIn}
use Rattle.bank_hall.specs.declared.keeper.KeeperIn as keeper_in
use Rattle.bank_hall.specs.declared.keeper.KeeperIn.{KeeperIn}
use Rattle.grant_log.specs.Stamps.{is_early}
use Rattle.grant_log.specs.Inbox.{picked_index, picked_out}
use Rattle.bank_hall.specs.Note.{KeeperNote}
use Rattle.bank_hall.specs.Banks as banks
use Rattle.bank_hall.specs.Banks.{BankState, bank_actor, bank_handles, bank_stepped, bank_call}
use Rattle.bank_hall.specs.Keepers.{KeeperState, keeper_handles, keeper_stepped, keeper_call}
use Rattle.bank_hall.specs.Ports.{port_call}
use Rattle.bank_hall.specs.Halls.{PortEntry, bank_answer, bank_next, port_answer, port_next, keeper_answer, keeper_next}
use Rattle.bank_hall.specs.Handlings.{Handling, BankGoes, handling_of, bank_may, bank_does, bank_alone, bank_handling, bank_put, bank_told, KeeperGoes, keeper_may, keeper_does, keeper_alone, keeper_handling, keeper_put, keeper_told, port_put, port_took}
use Rattle.bank_hall.proofs.HandlingLemmas.{Stamps, plus_zero, one_sum, weight_of, held, sum_option, taken_may, taken_weight, taken_none}

pushed : (f : Posted → ℕ) (inbox : List Posted) (p : Posted) → sum_by f (inbox ++ p ∷ []) + 0 ≡ sum_by f inbox + f p
pushed f inbox p = omega (arith, sum_by_push f inbox p)

sum_handling : {N : Type 0} (f : Posted → ℕ) (p : Posted) (o : Option N) (t : N) → o ≡ Some t → sum_by (λ (g : Handling N). f g.mail) (handling_of (Some p) o) ≡ f p
sum_handling {N} f p o t is = subst (λ q. sum_by (λ (g : Handling N). f g.mail) (handling_of (Some p) q) ≡ f p) (sym is) (one_sum (λ (g : Handling N). f g.mail) (record { mail = p; told = t }))

-- a bank
bank_step_goes : (s : BankState) (t : Option Posted × List Posted) (hs : List (Handling Handled)) (end : BankState) → ((p : Posted) → t.0 ≡ Some p → bank_may s p ≡ true) → BankGoes (bank_alone (bank_handles s t).0) hs end → BankGoes (bank_alone s) (handling_of t.0 (bank_handles s t).1 ++ hs) end
bank_step_goes s (None, inbox) hs end may goes = goes
bank_step_goes s (Some p, inbox) hs end may goes = ((may p refl, refl), goes)

bank_step_weight : (f : Posted → ℕ) (s : BankState) (t : Option Posted × List Posted) → (t.0 ≡ None → t.1 ≡ s.inbox) → sum_by f (bank_handles s t).0.inbox + sum_by (λ (g : Handling Handled). f g.mail) (handling_of t.0 (bank_handles s t).1) ≡ sum_by f t.1 + weight_of f t.0
bank_step_weight f s (None, inbox) kept = ap (λ l. sum_by f l + 0) (sym (kept refl))
bank_step_weight f s (Some p, inbox) kept = ap (λ n. sum_by f inbox + n) (sum_handling f p (bank_handles s (Some p, inbox)).1 _ refl)

bank_step_told : (s : BankState) (t : Option Posted × List Posted) (rest : List Handled) → cons_option (bank_told (bank_stepped (bank_handles s t)).1) rest ≡ map (λ (g : Handling Handled). g.told) (handling_of t.0 (bank_handles s t).1) ++ rest
bank_step_told s (None, inbox) rest = refl
bank_step_told s (Some p, inbox) rest = refl

pub bank_goes_one : (s : BankState) (i : BankIn) (hs : List (Handling Handled)) (end : BankState) → BankGoes (bank_alone (bank_next s i)) hs end → BankGoes (bank_alone s) (bank_handling s i ++ hs) end
unfolding bank_call
bank_goes_one s (bank_in.TheVariants.Post p) hs end goes = goes
bank_goes_one s (bank_in.TheVariants.Step pick) hs end goes = bank_step_goes s (picked_out (bank_may s) s.inbox pick) hs end (taken_may (bank_may s) s.inbox (picked_index s.inbox pick) (slice_get s.inbox (picked_index s.inbox pick))) goes

pub bank_told_one : (s : BankState) (i : BankIn) (rest : List Handled) → cons_option (bank_told (bank_answer s i)) rest ≡ map (λ (g : Handling Handled). g.told) (bank_handling s i) ++ rest
unfolding bank_call
bank_told_one s (bank_in.TheVariants.Post p) rest = refl
bank_told_one s (bank_in.TheVariants.Step pick) rest = bank_step_told s (picked_out (bank_may s) s.inbox pick) rest

pub bank_mails_one : (f : Posted → ℕ) (s : BankState) (i : BankIn) → sum_by f (bank_next s i).inbox + sum_by (λ (g : Handling Handled). f g.mail) (bank_handling s i) ≡ sum_by f s.inbox + weight_of f (bank_put i)
unfolding bank_call
bank_mails_one f s (bank_in.TheVariants.Post p) = pushed f s.inbox p
bank_mails_one f s (bank_in.TheVariants.Step pick) =
    let place = picked_index s.inbox pick in
    let found = slice_get s.inbox place in
    let step = bank_step_weight f s (picked_out (bank_may s) s.inbox pick) (taken_none (bank_may s) s.inbox place found) in
    omega (arith, step, taken_weight f (bank_may s) s.inbox place found refl)

pub bank_stamps : Stamps bank_may bank_does (λ (t : Handled). t.stamped) (λ (s : BankState). s.clock) (λ (s : BankState). bank_actor s.bank)
bank_stamps = record {
  limit = λ s p may. (grind (arith, nat_tests), grind (arith, nat_tests));
  stamp = λ s p t told. sym (ap (λ o. (held t o).stamped) told);
  clocks = λ s p. refl;
  actors = λ s p. ap (λ n. Bank (record { 0 = n })) (place-kept s.bank p.mail.message).bank;
}

bank_number : (n : ℕ) (sent : Option Outgoing) → (n ≤ banks.next_after n sent) × (banks.next_after n sent ≤ n + 1)
bank_number n None = (omega arith, omega arith)
bank_number n (Some out) = (omega arith, omega arith)

pub bank_numbers : (s end : BankState) (hs : List (Handling Handled)) → BankGoes s hs end → (s.next ≤ end.next) × (end.next ≤ s.next + length hs)
bank_numbers s end [] goes = subst (λ (e : BankState). (s.next ≤ e.next) × (e.next ≤ s.next + 0)) goes (omega arith, omega arith)
bank_numbers s end (h ∷ hs) goes =
    let sent = (bank_gets s.bank h.mail.mail.message).1 in
    let rest : (banks.next_after s.next sent ≤ end.next) × (end.next ≤ banks.next_after s.next sent + length hs) = bank_numbers (bank_does s h.mail).0 end hs goes.1 in
    let one = bank_number s.next sent in
    (omega (arith, rest.0, one.0), omega (arith, rest.1, one.1))

-- the keeper
keeper_step_goes : (s : KeeperState) (t : Option Posted × List Posted) (hs : List (Handling KeeperNote)) (end : KeeperState) → ((p : Posted) → t.0 ≡ Some p → keeper_may s p ≡ true) → KeeperGoes (keeper_alone (keeper_handles s t).0) hs end → KeeperGoes (keeper_alone s) (handling_of t.0 (keeper_handles s t).1 ++ hs) end
keeper_step_goes s (None, inbox) hs end may goes = goes
keeper_step_goes s (Some p, inbox) hs end may goes = ((may p refl, refl), goes)

keeper_step_weight : (f : Posted → ℕ) (s : KeeperState) (t : Option Posted × List Posted) → (t.0 ≡ None → t.1 ≡ s.inbox) → sum_by f (keeper_handles s t).0.inbox + sum_by (λ (g : Handling KeeperNote). f g.mail) (handling_of t.0 (keeper_handles s t).1) ≡ sum_by f t.1 + weight_of f t.0
keeper_step_weight f s (None, inbox) kept = ap (λ l. sum_by f l + 0) (sym (kept refl))
keeper_step_weight f s (Some p, inbox) kept = ap (λ n. sum_by f inbox + n) (sum_handling f p (keeper_handles s (Some p, inbox)).1 _ refl)

keeper_step_told : (s : KeeperState) (t : Option Posted × List Posted) (rest : List KeeperNote) → cons_option (keeper_told (keeper_stepped (keeper_handles s t)).1) rest ≡ map (λ (g : Handling KeeperNote). g.told) (handling_of t.0 (keeper_handles s t).1) ++ rest
keeper_step_told s (None, inbox) rest = refl
keeper_step_told s (Some p, inbox) rest = refl

pub keeper_goes_one : (s : KeeperState) (i : KeeperIn) (hs : List (Handling KeeperNote)) (end : KeeperState) → KeeperGoes (keeper_alone (keeper_next s i)) hs end → KeeperGoes (keeper_alone s) (keeper_handling s i ++ hs) end
unfolding keeper_call
keeper_goes_one s (keeper_in.TheVariants.Post p) hs end goes = goes
keeper_goes_one s (keeper_in.TheVariants.Step pick) hs end goes = keeper_step_goes s (picked_out (keeper_may s) s.inbox pick) hs end (taken_may (keeper_may s) s.inbox (picked_index s.inbox pick) (slice_get s.inbox (picked_index s.inbox pick))) goes

pub keeper_told_one : (s : KeeperState) (i : KeeperIn) (rest : List KeeperNote) → cons_option (keeper_told (keeper_answer s i)) rest ≡ map (λ (g : Handling KeeperNote). g.told) (keeper_handling s i) ++ rest
unfolding keeper_call
keeper_told_one s (keeper_in.TheVariants.Post p) rest = refl
keeper_told_one s (keeper_in.TheVariants.Step pick) rest = keeper_step_told s (picked_out (keeper_may s) s.inbox pick) rest

pub keeper_mails_one : (f : Posted → ℕ) (s : KeeperState) (i : KeeperIn) → sum_by f (keeper_next s i).inbox + sum_by (λ (g : Handling KeeperNote). f g.mail) (keeper_handling s i) ≡ sum_by f s.inbox + weight_of f (keeper_put i)
unfolding keeper_call
keeper_mails_one f s (keeper_in.TheVariants.Post p) = pushed f s.inbox p
keeper_mails_one f s (keeper_in.TheVariants.Step pick) =
    let place = picked_index s.inbox pick in
    let found = slice_get s.inbox place in
    let step = keeper_step_weight f s (picked_out (keeper_may s) s.inbox pick) (taken_none (keeper_may s) s.inbox place found) in
    omega (arith, step, taken_weight f (keeper_may s) s.inbox place found refl)

pub keeper_stamps : Stamps keeper_may keeper_does (λ (t : KeeperNote). t.stamped) (λ (s : KeeperState). s.clock) (λ (s : KeeperState). Keeper)
keeper_stamps = record {
  limit = λ s p may. (grind (arith, nat_tests), grind (arith, nat_tests));
  stamp = λ s p t told. sym (ap (λ o. (held t o).stamped) told);
  clocks = λ s p. refl;
  actors = λ s p. refl;
}

one_letter : (verdict : Verdict) (n cores : ℕ) → (n ≤ n + letter_count verdict * cores) × (n + letter_count verdict * cores ≤ n + cores)
one_letter Wait n cores = (omega arith, omega arith)
one_letter (Go phase) n cores = (omega arith, omega arith)
one_letter Halt n cores = (omega arith, omega arith)

one_more : (cores k : ℕ) → cores + cores * k ≡ cores * (k + 1)
one_more cores k = grind arith

pub keeper_numbers : (s end : KeeperState) (hs : List (Handling KeeperNote)) (cores : ℕ) → length s.keeper.arrived ≡ cores → KeeperGoes s hs end → (s.next ≤ end.next) × (end.next ≤ s.next + cores * length hs)
keeper_numbers s end [] cores same goes = subst (λ (e : KeeperState). (s.next ≤ e.next) × (e.next ≤ s.next + cores * 0)) goes (omega arith, omega arith)
keeper_numbers s end (h ∷ hs) cores same goes =
    let row = keeper_gets s.keeper h.mail.mail.message in
    let next = s.next + letter_count row.1 * length s.keeper.arrived in
    let rest : (next ≤ end.next) × (end.next ≤ next + cores * length hs) = keeper_numbers (keeper_does s h.mail).0 end hs cores (cores-kept s.keeper h.mail.mail.message ∙ same) goes.1 in
    let one = one_letter row.1 s.next (length s.keeper.arrived) in
    (omega (arith, rest.0, one.0), omega (arith, rest.1, one.1, same, one_more cores (length hs)))

-- a port
port_mails_one : (f : Posted → ℕ) (inbox : List Posted) (i : PortIn) → sum_by f (port_next inbox i) + weight_of f (port_took (port_answer inbox i)) ≡ sum_by f inbox + weight_of f (port_put i)
unfolding port_call
port_mails_one f inbox (port_in.TheVariants.Post p) = pushed f inbox p
port_mails_one f inbox (port_in.TheVariants.Take pick) = taken_weight f is_early inbox (picked_index inbox pick) (slice_get inbox (picked_index inbox pick)) refl ∙ sym (plus_zero (sum_by f inbox))

pub port_mails : (f : Posted → ℕ) (x y : List Posted) (h : List PortEntry) → Legal port_answer port_next x h y → sum_by f x + sum_by f (filter_map (λ (e : PortEntry). port_put e.input) h) ≡ sum_by f (filter_map (λ (e : PortEntry). port_took e.output) h) + sum_by f y
port_mails f x y [] l = subst (λ z. sum_by f x + 0 ≡ 0 + sum_by f z) l (omega arith)
port_mails f x y (e ∷ es) l =
    let here = port_mails_one f x e.input in
    let rest = port_mails f (port_next x e.input) y es l.1 in
    let puts = sum_option f (port_put e.input) (filter_map (λ (d : PortEntry). port_put d.input) es) in
    let takes = sum_option f (port_took e.output) (filter_map (λ (d : PortEntry). port_took d.output) es) in
    let told = ap (λ u. weight_of f (port_took u)) l.0 in
    omega (arith, here, rest, puts, takes, told)

abbrev IsEarly : Posted → Type 0
IsEarly p = p.stamp < 2 ^ 63

early_option : (o : Option Posted) (ps : List Posted) → ((p : Posted) → o ≡ Some p → IsEarly p) → All IsEarly ps → All IsEarly (cons_option o ps)
early_option None ps here rest = rest
early_option (Some p) ps here rest = All-cons IsEarly p ps (here p refl) rest

early_is : (p : Posted) → is_early p ≡ true → IsEarly p
early_is p e = grind (arith, nat_tests)

nothing_taken : {A : Type 0} (p : Posted) → None ≡ Some p → A
nothing_taken p e = absurd (subst is_none e tt) where
  is_none : Option Posted → Type 0
  is_none None = Unit {0}
  is_none (Some q) = ⊥

port_early_one : (inbox : List Posted) (i : PortIn) (p : Posted) → port_took (port_answer inbox i) ≡ Some p → IsEarly p
unfolding port_call
port_early_one inbox (port_in.TheVariants.Post q) p e = nothing_taken p e
port_early_one inbox (port_in.TheVariants.Take pick) p e = early_is p (taken_may is_early inbox (picked_index inbox pick) (slice_get inbox (picked_index inbox pick)) p e)

pub port_early : (x y : List Posted) (h : List PortEntry) → Legal port_answer port_next x h y → All IsEarly (filter_map (λ (e : PortEntry). port_took e.output) h)
port_early x y [] l = All-nil IsEarly
port_early x y (e ∷ es) l = early_option (port_took e.output) (filter_map (λ (d : PortEntry). port_took d.output) es) (λ p at. port_early_one x e.input p (ap port_took (sym l.0) ∙ at)) (port_early (port_next x e.input) y es l.1)
