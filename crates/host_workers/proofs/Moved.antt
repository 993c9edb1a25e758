-- An object whose inbox isn't empty, and which is far from spent, answers its first step or take.
use Rattle.std.proofs.Common.{◌≡◌, ℕ, ◌+◌, ◌^◌, ◌<◌, ◌≤◌, Bool, true, nat_lt, List, [], ◌∷◌, length, length-append, slice_get, Option, Some, None, refl, sym, ap, subst, ◌∙◌, arith}
use Rattle.std.specs.Prelude.{sum_by, filter_map, swap_remove}
use Rattle.std.proofs.lemmas.Bool.Decides.{nat_tests}
use Rattle.std.proofs.lemmas.List.Sums.{sum_by-cons, sum_by_push}
use Rattle.turn_lock.specs.History.{Legal}
use Rattle.grant_log.specs.declared.posted.Posted.{Posted}
use Rattle.bank_hall.specs.declared.bank.BankIn as bank_in
use Rattle.bank_hall.specs.declared.bank.BankIn.{BankIn}
use Rattle.bank_hall.specs.declared.bank.BankOut as bank_out
use Rattle.bank_hall.specs.declared.port.PortIn as port_in
use Rattle.bank_hall.specs.declared.port.PortIn.{PortIn}
use Rattle.bank_hall.specs.declared.port.PortOut as port_out
use Rattle.bank_hall.specs.declared.keeper.KeeperIn as keeper_in
use Rattle.bank_hall.specs.declared.keeper.KeeperIn.{KeeperIn}
use Rattle.bank_hall.specs.declared.keeper.KeeperOut as keeper_out
use Rattle.grant_log.specs.Stamps.{is_early, may_handle}
use Rattle.grant_log.specs.Inbox.{with_mail, picked_index, picked_out, picked_out_at}
use Rattle.bank_hall.specs.Banks.{BankState, bank_handles, bank_call}
use Rattle.bank_hall.specs.Keepers.{KeeperState, keeper_handles, keeper_call}
use Rattle.bank_hall.specs.Ports.{port_call}
use Rattle.bank_hall.specs.Halls.{BankEntry, PortEntry, KeeperEntry, bank_answer, bank_next, port_answer, port_next, keeper_answer, keeper_next}
use Rattle.host_workers.proofs.MachineParts.{there}
use Rattle.host_workers.proofs.Weights.{told-cons}
use Rattle.host_workers.proofs.SameMails.{sum-left}
use Rattle.host_workers.proofs.ActSteps.{late, not-late}
use Rattle.host_workers.proofs.Objects.{bank_posted, bank_post, bank_said, bank_told, keeper_posted, keeper_post, keeper_said, keeper_told, port_posted, port_post, port_said, port_told, taken_if}
use Rattle.host_workers.proofs.Numbers.{remainder}

-- a take or a step counts 1
abbrev pub bank_tried : BankIn → ℕ
bank_tried (bank_in.TheVariants.Post p) = 0
bank_tried (bank_in.TheVariants.Step pick) = 1

abbrev pub bank_try : BankEntry → ℕ
bank_try e = bank_tried e.input

abbrev pub keeper_tried : KeeperIn → ℕ
keeper_tried (keeper_in.TheVariants.Post p) = 0
keeper_tried (keeper_in.TheVariants.Step pick) = 1

abbrev pub keeper_try : KeeperEntry → ℕ
keeper_try e = keeper_tried e.input

abbrev pub port_tried : PortIn → ℕ
port_tried (port_in.TheVariants.Post p) = 0
port_tried (port_in.TheVariants.Take pick) = 1

abbrev pub port_try : PortEntry → ℕ
port_try e = port_tried e.input

-- no stamp is above the number of events that a run may have
abbrev pub far : Posted → ℕ
far p = late 25169664 p

pub taken-some : (may : Posted → Bool) (inbox : List Posted) (pick : ℕ) → 1 ≤ length inbox → ((place : ℕ) (p : Posted) → slice_get inbox place ≡ Some p → may p ≡ true)
    → (p : Posted) × (rest : List Posted) × (picked_out may inbox pick ≡ (Some p, rest))
taken-some may inbox pick some all =
    let at = there inbox (picked_index inbox pick) (remainder pick (length inbox) some) in (
      at.0,
      swap_remove inbox (picked_index inbox pick) at.0,
      ap (picked_out_at may inbox (picked_index inbox pick)) at.1 ∙ ap (λ t. taken_if t inbox (picked_index inbox pick) at.0) (all (picked_index inbox pick) at.0 at.1),
    )

pub soon : (inbox : List Posted) → sum_by far inbox ≡ 0 → (place : ℕ) (p : Posted) → slice_get inbox place ≡ Some p → p.stamp ≤ 25169664
soon inbox none place p here = not-late 25169664 p (omega (arith, none, sum-left far inbox place p here))

pub early-one : (p : Posted) → p.stamp ≤ 25169664 → is_early p ≡ true
early-one p stamp = grind (arith, nat_tests, stamp)

pub may-true : (clock next : ℕ) (p : Posted) → clock < 2 ^ 63 → next < 4294967000 → p.stamp ≤ 25169664 → may_handle clock next p ≡ true
may-true clock next p low few stamp =
    let first : nat_lt clock (2 ^ 63) ≡ true = grind (arith, nat_tests, low) in
    let second : nat_lt next 4294967000 ≡ true = grind (arith, nat_tests, few) in
    rw (first, second) (early-one p stamp)

never-none : {X Y : Type 0} (h : X → Option Y) (x : X) (xs : List X) (y : Y) → h x ≡ Some y → filter_map h (x ∷ xs) ≡ [] → ⊥
never-none h x xs y told none =
    let never : y ∷ filter_map h xs ≡ [] = sym (told-cons h x xs (Some y) told) ∙ none in
    cc

some-more : (inbox : List Posted) (p : Posted) → 1 ≤ length (with_mail inbox p)
some-more inbox p = omega (arith, length-append inbox (p ∷ []))

pub port-moves : (H : List PortEntry) (s t : List Posted) → Legal port_answer port_next s H t → 1 ≤ length s → sum_by far s ≡ 0 → sum_by (port_post far) H ≡ 0 → 1 ≤ sum_by port_try H → filter_map port_told H ≡ [] → ⊥
unfolding port_call
port-moves [] s t legal some early posts tries none = absurd (omega (arith, tries))
port-moves (e ∷ H) s t legal some early posts tries none = by_input e.input refl (port-moves H) where
  post-sum : sum_by (port_post far) (e ∷ H) ≡ port_post far e + sum_by (port_post far) H
  post-sum = sum_by-cons (port_post far) e H

  try-sum : sum_by port_try (e ∷ H) ≡ port_try e + sum_by port_try H
  try-sum = sum_by-cons port_try e H

  by_input : (input : PortIn) → e.input ≡ input
      → ((u v : List Posted) → Legal port_answer port_next u H v → 1 ≤ length u → sum_by far u ≡ 0 → sum_by (port_post far) H ≡ 0 → 1 ≤ sum_by port_try H → filter_map port_told H ≡ [] → ⊥) → ⊥
  by_input (port_in.TheVariants.Post p) input rest =
      let said : port_told e ≡ None = ap port_said (legal.0 ∙ ap (port_answer s) input) in
      let post : port_post far e ≡ far p = ap (port_posted far) input in
      let try : port_try e ≡ 0 = ap port_tried input in
      rest (with_mail s p) t (subst (λ u. Legal port_answer port_next u H t) (ap (port_next s) input) legal.1) (some-more s p)
      (omega (arith, early, posts, post, post-sum, sum_by_push far s p)) (omega (arith, posts, post-sum)) (omega (arith, tries, try, try-sum)) (sym (told-cons port_told e H None said) ∙ none)
  by_input (port_in.TheVariants.Take pick) input rest =
      let took = taken-some is_early s pick some (λ place p here. early-one p (soon s early place p here)) in
      let said : port_told e ≡ Some took.0 = ap port_said (legal.0 ∙ (ap (port_answer s) input ∙ ap (λ (x : Option Posted × List Posted). port_out.TheVariants.Taken x.0) took.2)) in
      never-none port_told e H took.0 said none

pub bank-moves : (H : List BankEntry) (s t : BankState) → Legal bank_answer bank_next s H t → 1 ≤ length s.inbox → s.clock < 2 ^ 63 → s.next < 4294967000 → sum_by far s.inbox ≡ 0 → sum_by (bank_post far) H ≡ 0 → 1 ≤ sum_by bank_try H
    → filter_map bank_told H ≡ [] → ⊥
unfolding bank_call
bank-moves [] s t legal some clock next early posts tries none = absurd (omega (arith, tries))
bank-moves (e ∷ H) s t legal some clock next early posts tries none = by_input e.input refl (bank-moves H) where
  post-sum : sum_by (bank_post far) (e ∷ H) ≡ bank_post far e + sum_by (bank_post far) H
  post-sum = sum_by-cons (bank_post far) e H

  try-sum : sum_by bank_try (e ∷ H) ≡ bank_try e + sum_by bank_try H
  try-sum = sum_by-cons bank_try e H

  by_input : (input : BankIn) → e.input ≡ input
      → ((u v : BankState) → Legal bank_answer bank_next u H v → 1 ≤ length u.inbox → u.clock < 2 ^ 63 → u.next < 4294967000 → sum_by far u.inbox ≡ 0 → sum_by (bank_post far) H ≡ 0 → 1 ≤ sum_by bank_try H → filter_map bank_told H ≡ [] → ⊥) → ⊥
  by_input (bank_in.TheVariants.Post p) input rest =
      let said : bank_told e ≡ None = ap bank_said (legal.0 ∙ ap (bank_answer s) input) in
      let post : bank_post far e ≡ far p = ap (bank_posted far) input in
      let try : bank_try e ≡ 0 = ap bank_tried input in
      rest (record s { inbox = with_mail s.inbox p }) t (subst (λ u. Legal bank_answer bank_next u H t) (ap (bank_next s) input) legal.1) (some-more s.inbox p) clock next
      (omega (arith, early, posts, post, post-sum, sum_by_push far s.inbox p)) (omega (arith, posts, post-sum)) (omega (arith, tries, try, try-sum)) (sym (told-cons bank_told e H None said) ∙ none)
  by_input (bank_in.TheVariants.Step pick) input rest =
      let took = taken-some (may_handle s.clock s.next) s.inbox pick some (λ place p here. may-true s.clock s.next p clock next (soon s.inbox early place p here)) in
      let said = ap bank_said (legal.0 ∙ (ap (bank_answer s) input ∙ ap (λ (x : Option Posted × List Posted). bank_out.TheVariants.Stepped (bank_handles s x).1) took.2)) in
      never-none bank_told e H _ said none

pub keeper-moves : (cores : ℕ) (H : List KeeperEntry) (s t : KeeperState) → Legal keeper_answer keeper_next s H t → 1 ≤ length s.inbox → s.clock < 2 ^ 63 → s.next < 4294967000 → sum_by far s.inbox ≡ 0 → sum_by (keeper_post far) H ≡ 0 → 1 ≤ sum_by keeper_try H
    → filter_map (keeper_told cores) H ≡ [] → ⊥
unfolding keeper_call
keeper-moves cores [] s t legal some clock next early posts tries none = absurd (omega (arith, tries))
keeper-moves cores (e ∷ H) s t legal some clock next early posts tries none = by_input e.input refl (keeper-moves cores H) where
  post-sum : sum_by (keeper_post far) (e ∷ H) ≡ keeper_post far e + sum_by (keeper_post far) H
  post-sum = sum_by-cons (keeper_post far) e H

  try-sum : sum_by keeper_try (e ∷ H) ≡ keeper_try e + sum_by keeper_try H
  try-sum = sum_by-cons keeper_try e H

  by_input : (input : KeeperIn) → e.input ≡ input
      → ((u v : KeeperState) → Legal keeper_answer keeper_next u H v → 1 ≤ length u.inbox → u.clock < 2 ^ 63 → u.next < 4294967000 → sum_by far u.inbox ≡ 0 → sum_by (keeper_post far) H ≡ 0 → 1 ≤ sum_by keeper_try H → filter_map (keeper_told cores) H ≡ [] → ⊥) → ⊥
  by_input (keeper_in.TheVariants.Post p) input rest =
      let said : keeper_told cores e ≡ None = ap (keeper_said cores) (legal.0 ∙ ap (keeper_answer s) input) in
      let post : keeper_post far e ≡ far p = ap (keeper_posted far) input in
      let try : keeper_try e ≡ 0 = ap keeper_tried input in
      rest (record s { inbox = with_mail s.inbox p }) t (subst (λ u. Legal keeper_answer keeper_next u H t) (ap (keeper_next s) input) legal.1) (some-more s.inbox p) clock next
      (omega (arith, early, posts, post, post-sum, sum_by_push far s.inbox p)) (omega (arith, posts, post-sum)) (omega (arith, tries, try, try-sum)) (sym (told-cons (keeper_told cores) e H None said) ∙ none)
  by_input (keeper_in.TheVariants.Step pick) input rest =
      let took = taken-some (may_handle s.clock s.next) s.inbox pick some (λ place p here. may-true s.clock s.next p clock next (soon s.inbox early place p here)) in
      let said = ap (keeper_said cores) (legal.0 ∙ (ap (keeper_answer s) input ∙ ap (λ (x : Option Posted × List Posted). keeper_out.TheVariants.Stepped (keeper_handles s x).1) took.2)) in
      never-none (keeper_told cores) e H _ said none
