-- One event of the one list: it may come where the list has come to, whatever the threads did.
use Rattle.std.proofs.Common.{◌≡◌, ℕ, suc, ◌+◌, ◌<◌, ◌≤◌, Bool, true, false, cond, nat_lt, List, [], ◌∷◌, get_or, map, slice_get, Some, refl, sym, ap, subst, ◌∙◌, arith}
use Rattle.std.specs.Prelude.{sum_by, All, AllPairs, swap_remove}
use Rattle.std.proofs.lemmas.Bool.Decides.{nat_tests}
use Rattle.std.proofs.lemmas.List.Sums.{sum_by-cons}
use Rattle.std.proofs.lemmas.List.Elements.{All-head, All-tail, All-cons}
use Rattle.message_net.specs.declared.actor.Actor.{Actor}
use Rattle.message_net.specs.declared.message.Mail.{Mail}
use Rattle.message_net.specs.Mail.{has_actor}
use Rattle.registration_protocol.specs.Node.{Setting}
use Rattle.machine_rules.specs.State.{State}
use Rattle.machine_rules.specs.Flight.{bit}
use Rattle.grant_log.specs.declared.posted.Posted.{Posted}
use Rattle.grant_log.specs.Stamps.{stamp_after}
use Rattle.host_workers.specs.Members.{Member, Deed, Handles, Makes, member, MayDo, IsIn}
use Rattle.host_workers.specs.Steps.{Step, Done, stamp_of, deed_stamp, with_stamp, IsStep}
use Rattle.host_workers.specs.Rounds.{IsReached}
use Rattle.host_workers.proofs.Moving.{Moves, handled, sends}
use Rattle.host_workers.proofs.MachineMoves.{handle-moves, own-moves}
use Rattle.host_workers.proofs.Weights.{somewhere, sum-map, sum-zero, sum-agree}
use Rattle.host_workers.proofs.SameMails.{same_mail, same_mail-true, same_mail-refl, same_posted, same_posted-true, same_posted-refl, other_stamp, passes, sum-left}
use Rattle.host_workers.proofs.Weaving.{step_actor}

-- what the mail weighs that a deed handles, with its stamp, and what the mails that an event sends to the machine's actors do
abbrev pub deed_takes : (Posted → ℕ) → Deed → ℕ
deed_takes f (Handles p) = f p
deed_takes f (Makes e) = 0

abbrev pub takes : (Posted → ℕ) → Step → ℕ
takes f s = deed_takes f s.deed

abbrev pub stays_in : Setting → Mail → Bool
stays_in C m = has_actor C.shape.cores C.shape.banks m.to

abbrev pub weigh_in : Setting → (Posted → ℕ) → Posted → ℕ
weigh_in C f p = cond (stays_in C p.mail) (f p) 0

abbrev pub given : Setting → (Posted → ℕ) → Done → ℕ
given C f d = sum_by (weigh_in C f) d.sent

abbrev pub gives : Setting → (Posted → ℕ) → Step → ℕ
gives C f s = given C f s.done

-- a mail that is handled goes to the actor that handles it
abbrev pub deed_goes_to : Actor → Deed → Type 0
deed_goes_to a (Handles p) = p.mail.to ≡ a
deed_goes_to a (Makes e) = Unit {0}

-- what is known of each step by itself: its actor is one of the machine's, what it handles is addressed to that actor, and
-- what it sends has its stamp
pub record IsWell (C : Setting) (s : Step) : Type 0 where
  pub inside : IsIn C (step_actor s)
  pub addressed : deed_goes_to (step_actor s) s.deed
  pub stamped : All (λ (p : Posted). p.stamp ≡ stamp_of s) s.done.sent

abbrev pub IsSooner : Step → Step → Type 0
IsSooner s t = stamp_of s ≤ stamp_of t

-- a weight of late mails
abbrev pub late : ℕ → Posted → ℕ
late n p = bit (nat_lt n p.stamp)

pub not-late : (n : ℕ) (p : Posted) → late n p ≡ 0 → p.stamp ≤ n
not-late n p none = by_test (nat_lt n p.stamp) refl where
  by_test : (t : Bool) → nat_lt n p.stamp ≡ t → p.stamp ≤ n
  by_test true e =
      let one : late n p ≡ 1 = ap bit e in
      absurd (omega (arith, none, one))
  by_test false e = grind (arith, nat_tests, e)

pub in-time : (n : ℕ) (p : Posted) → p.stamp ≤ n → late n p ≡ 0
in-time n p early =
    let no : nat_lt n p.stamp ≡ false = grind (arith, nat_tests, early) in
    ap bit no

-- none of the steps to come sends a mail that one of them handles
no-later : (C : Setting) (p : Posted) (ss : List Step) → All (IsWell C) ss → All (λ s. p.stamp < stamp_of s) ss → sum_by (gives C (λ q. bit (same_posted p q))) ss ≡ 0
no-later C p ss well after =
    sum-zero (gives C (λ q. bit (same_posted p q))) ss (λ k d within. quiet (get_or ss k d) (well k d within) (after k d within)) where
      nothing : (s : Step) (q : Posted) → p.stamp < stamp_of s → q.stamp ≡ stamp_of s → weigh_in C (λ r. bit (same_posted p r)) q ≡ 0
      nothing s q below is = by_in (stays_in C q.mail) where
        other : bit (same_posted p q) ≡ 0
        other = ap bit (other_stamp p q (omega (arith, below, is)))

        by_in : (t : Bool) → cond t (bit (same_posted p q)) 0 ≡ 0
        by_in true = other
        by_in false = refl

      quiet : (s : Step) → IsWell C s → p.stamp < stamp_of s → gives C (λ q. bit (same_posted p q)) s ≡ 0
      quiet s is below = sum-zero (weigh_in C (λ q. bit (same_posted p q))) s.done.sent (λ k d within. nothing s (get_or s.done.sent k d) below (is.stamped k d within))

-- what holds before the first of the steps: what they handle and leave over is what is in flight, and what they send
pub record Flows (C : Setting) (S : State) (ps : List Posted) (ss : List Step) (left : List Posted) : Type 0 where
  pub flow : (f : Posted → ℕ) → sum_by (takes f) ss + sum_by f left ≡ sum_by f ps + sum_by (gives C f) ss
  pub pool : (f : Mail → ℕ) → sum_by (λ p. f p.mail) ps ≡ sum_by f S.mails

-- so the mail that the first of them handles is in flight
pub record InFlight (S : State) (ps : List Posted) (p : Posted) : Type 0 where
  pub place : ℕ
  pub here : slice_get ps place ≡ Some p
  pub spot : ℕ
  pub there : slice_get S.mails spot ≡ Some p.mail

same-there : (m x : Mail) (mails : List Mail) (spot : ℕ) → slice_get mails spot ≡ Some x → 1 ≤ bit (same_mail m x) → slice_get mails spot ≡ Some m
same-there m x mails spot at same = subst (λ y. slice_get mails spot ≡ Some y) (sym (same_mail-true m x (passes (same_mail m x) same))) at

first-flies : (C : Setting) (S : State) (ps : List Posted) (s : Step) (ss : List Step) (left : List Posted) (p : Posted) → Flows C S ps (s ∷ ss) left → s.deed ≡ Handles p
    → All (IsWell C) (s ∷ ss) → AllPairs IsSooner (s ∷ ss) → p.stamp < stamp_of s → InFlight S ps p
first-flies C S ps s ss left p flows is well rising below =
    let one : bit (same_posted p p) ≡ 1 = ap bit (same_posted-refl p) in
    let first : takes (λ q. bit (same_posted p q)) s ≡ bit (same_posted p p) = ap (deed_takes (λ q. bit (same_posted p q))) is in
    let after : All (λ t. p.stamp < stamp_of t) (s ∷ ss) = All-cons (λ t. p.stamp < stamp_of t) s ss below (λ k d within. omega (arith, below, rising 0 (suc k) d (omega arith) (omega (arith, within)))) in
    let none = no-later C p (s ∷ ss) well after in
    let some : 1 ≤ sum_by (λ q. bit (same_posted p q)) ps =
    omega (arith, flows.flow (λ q. bit (same_posted p q)), sum_by-cons (takes (λ q. bit (same_posted p q))) s ss, first, one, none) in
    let found = somewhere (λ q. bit (same_posted p q)) ps some in
    let same : p ≡ found.1 = same_posted-true p found.1 (passes (same_posted p found.1) found.3) in
    let here : slice_get ps found.0 ≡ Some p = subst (λ q. slice_get ps found.0 ≡ Some q) (sym same) found.2 in
    let own : bit (same_mail p.mail p.mail) ≡ 1 = ap bit (same_mail-refl p.mail) in
    let heavy : 1 ≤ sum_by (λ m. bit (same_mail p.mail m)) S.mails =
    omega (arith, flows.pool (λ m. bit (same_mail p.mail m)), sum-left (λ q. bit (same_mail p.mail q.mail)) ps found.0 p here, own) in
    let mail = somewhere (λ m. bit (same_mail p.mail m)) S.mails heavy in
    record { place = found.0; here = here; spot = mail.0; there = same-there p.mail mail.1 S.mails mail.0 mail.2 mail.3 }

-- the first step happens: it moves the machine, its mail leaves those in flight, and its stamp isn't above the next number
pub record Happens (C : Setting) (S : State) (a : Actor) (n : ℕ) (ps : List Posted) (s : Step) : Type 0 where
  pub moves : Moves C S a s.deed
  pub rest : List Posted
  pub balance : (f : Posted → ℕ) → sum_by f rest + takes f s ≡ sum_by f ps
  pub early : stamp_of s ≤ n + 1

stamp-is : (C : Setting) (a : Actor) (clock : ℕ) (x : Member) (s : Step) → IsStep C a clock x s → stamp_of s ≡ deed_stamp clock s.deed
stamp-is C a clock x s step = ap (λ (d : Done). d.stamped.stamp) step.tells

pub happens : (C : Setting) (S : State) (a : Actor) (n clock : ℕ) (ps : List Posted) (s : Step) (ss : List Step) (left : List Posted) → IsReached C S → Flows C S ps (s ∷ ss) left
    → IsStep C a clock (member S a) s → step_actor s ≡ a → All (IsWell C) (s ∷ ss) → AllPairs IsSooner (s ∷ ss) → sum_by (late n) ps ≡ 0 → clock ≤ n → Happens C S a n ps s
happens C S a n clock ps s ss left reached flows step actor well rising fresh early =
    by_deed s.deed refl (stamp-is C a clock (member S a) s step) step.may (All-head (IsWell C) s ss well).addressed where
      by_deed : (deed : Deed) → s.deed ≡ deed → stamp_of s ≡ deed_stamp clock s.deed → MayDo C (member S a).parts s.deed → deed_goes_to (step_actor s) s.deed → Happens C S a n ps s
      by_deed (Handles p) is stamp may goes =
          let stamped : stamp_of s ≡ stamp_after clock p = stamp ∙ ap (deed_stamp clock) is in
          let to : p.mail.to ≡ a = subst (deed_goes_to (step_actor s)) is goes ∙ actor in
          let flies = first-flies C S ps s ss left p flows is well rising (omega (arith, stamped)) in
          let one : late n p ≡ 0 = omega (arith, fresh, sum-left (late n) ps flies.place p flies.here) in
          let own = not-late n p one in
          record {
            moves = subst (Moves C S a) (sym is) (subst (λ b. Moves C S b (Handles p)) to (handle-moves C S p flies.spot reached flies.there));
            rest = swap_remove ps flies.place p;
            balance = λ f. ap (λ d. sum_by f (swap_remove ps flies.place p) + deed_takes f d) is ∙ sum-left f ps flies.place p flies.here;
            early = omega (arith, stamped, own, early);
          }
      by_deed (Makes e) is stamp may goes =
          let stamped : stamp_of s ≡ clock + 1 = stamp ∙ ap (deed_stamp clock) is in
          record {
            moves = subst (Moves C S a) (sym is) (own-moves C S a e reached (subst (MayDo C (member S a).parts) is may));
            rest = ps;
            balance = λ f. ap (λ d. sum_by f ps + deed_takes f d) is ∙ omega arith;
            early = omega (arith, stamped, early);
          }

-- what a step sends to the machine's actors is all that it sends
pub gives-all : (C : Setting) (S : State) (a : Actor) (clock : ℕ) (s : Step) → IsStep C a clock (member S a) s → Moves C S a s.deed
    → (f : Posted → ℕ) → gives C f s ≡ sum_by f s.done.sent
gives-all C S a clock s step moves f =
    sum-agree (weigh_in C f) f s.done.sent (subst (λ sent. All (λ q. weigh_in C f q ≡ f q) sent) (sym sent_is) (inside (sends C S a s.deed) moves.inside)) where
      sent_is : s.done.sent ≡ map (with_stamp (deed_stamp clock s.deed)) (sends C S a s.deed)
      sent_is = ap (λ (d : Done). d.sent) step.tells

      inside : (ms : List Mail) → All (λ (m : Mail). IsIn C m.to) ms → All (λ q. weigh_in C f q ≡ f q) (map (with_stamp (deed_stamp clock s.deed)) ms)
      inside [] all = λ k d within. absurd (omega (arith, within))
      inside (m ∷ ms) all =
          let here : IsIn C m.to = All-head (λ (x : Mail). IsIn C x.to) m ms all in
          let one : weigh_in C f (with_stamp (deed_stamp clock s.deed) m) ≡ f (with_stamp (deed_stamp clock s.deed) m) = ap (λ b. cond b (f (with_stamp (deed_stamp clock s.deed) m)) 0) here in
          All-cons (λ q. weigh_in C f q ≡ f q) (with_stamp (deed_stamp clock s.deed) m) (map (with_stamp (deed_stamp clock s.deed)) ms) one (inside ms (All-tail (λ (x : Mail). IsIn C x.to) m ms all))

-- the mails that it sends weigh what the machine's do
pub sent-weighs : (C : Setting) (S : State) (a : Actor) (clock : ℕ) (s : Step) → IsStep C a clock (member S a) s → (f : Mail → ℕ)
    → sum_by (λ p. f p.mail) s.done.sent ≡ sum_by f (sends C S a s.deed)
sent-weighs C S a clock s step f =
    ap (λ (d : Done). sum_by (λ p. f p.mail) d.sent) step.tells ∙ sum-map (λ (p : Posted). f p.mail) (with_stamp (deed_stamp clock s.deed)) (sends C S a s.deed)

pub takes-mail : (f : Mail → ℕ) (d : Deed) → deed_takes (λ p. f p.mail) d ≡ handled f d
takes-mail f (Handles p) = refl
takes-mail f (Makes e) = refl
