-- What the calls of a worker's acts come to: of each object, what they put into its inbox, and what its steps or takes told.
use Rattle.std.proofs.Common.{◌≡◌, ℕ, ◌+◌, Bool, true, false, ◌==◌, cond, nat_lt, List, [], ◌∷◌, ◌++◌, map, Option, Some, None, refl, sym, ap, ◌∙◌, arith}
use Rattle.std.specs.Prelude.{sum_by, filter, filter_map, flat_map, option_map, if◌then◌else◌}
use Rattle.std.specs.List.{cons_option}
use Rattle.std.proofs.lemmas.Bool.Decides.{nat_tests}
use Rattle.std.proofs.lemmas.List.Sums.{sum_by-cons, sum_by-append}
use Rattle.std.proofs.lemmas.List.Elements.{filter_map-append}
use Rattle.dn_base.specs.declared.ids.CoreId.{CoreId}
use Rattle.dn_base.specs.declared.ids.BankId.{BankId}
use Rattle.dn_base.specs.declared.ids.Shape.{Shape}
use Rattle.message_net.specs.declared.actor.Actor.{Actor}
use Rattle.message_net.specs.declared.actor.Actor.TheVariants.{Core, Bank, Keeper}
use Rattle.message_net.specs.Id.{same_actor}
use Rattle.message_net.specs.Mail.{has_actor}
use Rattle.turn_lock.specs.History.{entry}
use Rattle.grant_log.specs.declared.posted.Posted.{Posted}
use Rattle.bank_hall.specs.declared.keeper.KeeperIn as keeper_in
use Rattle.bank_hall.specs.declared.keeper.KeeperOut as keeper_out
use Rattle.bank_hall.specs.Halls.{Calls, post_calls}
use Rattle.host_workers.specs.Members.{Deed, Handles, Makes}
use Rattle.host_workers.specs.Steps.{Done, Step}
use Rattle.host_workers.specs.Acts.{Act, Took, Made, Stepped, Kept, is_act_of, act_done, events_in, events_by, core_step, steps_by, no_calls, and_then, try_calls, posting, postings, posted_by, act_calls, calls_in, taken_mail, taken_step, taken_done, bank_done, keeper_done}
use Rattle.host_workers.proofs.Weights.{told-cons}
use Rattle.host_workers.proofs.ActSteps.{takes, deed_takes}
use Rattle.host_workers.proofs.Objects.{bank_post, bank_told, keeper_post, keeper_told, port_post, port_told, step_done}
use Rattle.host_workers.proofs.Numbers.{turned}

-- ---- what comes into the inbox of an actor

abbrev pub posts_at : (Posted → ℕ) → Actor → Calls → ℕ
posts_at f (Core core) calls = sum_by (port_post f) (calls.ports core.0)
posts_at f (Bank bank) calls = sum_by (bank_post f) (calls.banks bank.0)
posts_at f Keeper calls = sum_by (keeper_post f) calls.keeper

posts-then : (f : Posted → ℕ) (a : Actor) (first more : Calls) → posts_at f a (and_then first more) ≡ posts_at f a first + posts_at f a more
posts-then f (Core core) first more = sum_by-append (port_post f) (first.ports core.0) (more.ports core.0)
posts-then f (Bank bank) first more = sum_by-append (bank_post f) (first.banks bank.0) (more.banks bank.0)
posts-then f Keeper first more = sum_by-append (keeper_post f) first.keeper more.keeper

-- a list of one element or of none
abbrev pub only : {X : Type 0} → Bool → X → List X
only t x = if t then x ∷ [] else []

pub sum-only : {X : Type 0} (g : X → ℕ) (x : X) (t : Bool) (v : ℕ) → g x ≡ v → sum_by g (only t x) ≡ cond t v 0
sum-only g x true v is = omega (arith, is, sum_by-cons g x [])
sum-only g x false v is = refl

nothing-in : (t : Bool) (v : ℕ) → cond t v v ≡ v
nothing-in true v = refl
nothing-in false v = refl

zero-first : (n : ℕ) → n ≡ 0 + n
zero-first n = omega arith

tries-post-nothing : (f : Posted → ℕ) (a : Actor) (number : ℕ) (act : Act) → posts_at f a (try_calls number act) ≡ 0
tries-post-nothing f (Core c) number (Took core pick taken) = sum-only (port_post f) _ (core.0 == c.0) 0 refl ∙ nothing-in (core.0 == c.0) 0
tries-post-nothing f (Core c) number (Made core event done) = refl
tries-post-nothing f (Core c) number (Stepped bank pick handled) = refl
tries-post-nothing f (Core c) number (Kept pick answer) = refl
tries-post-nothing f (Bank b) number (Took core pick taken) = refl
tries-post-nothing f (Bank b) number (Made core event done) = refl
tries-post-nothing f (Bank b) number (Stepped bank pick handled) = sum-only (bank_post f) _ (bank.0 == b.0) 0 refl ∙ nothing-in (bank.0 == b.0) 0
tries-post-nothing f (Bank b) number (Kept pick answer) = refl
tries-post-nothing f Keeper number (Took core pick taken) = refl
tries-post-nothing f Keeper number (Made core event done) = refl
tries-post-nothing f Keeper number (Stepped bank pick handled) = refl
tries-post-nothing f Keeper number (Kept pick answer) = refl

abbrev posting_to : Shape → ℕ → Posted → Actor → Calls
posting_to shape number p to = if has_actor shape.cores shape.banks to then post_calls number p to else no_calls

-- a number that isn't below a bound is not one that is
above : (m n k : ℕ) → nat_lt m k ≡ true → nat_lt n k ≡ false → (m == n) ≡ false
above m n k below over = grind (arith, nat_tests, below, over)

posted-at : (shape : Shape) (f : Posted → ℕ) (a : Actor) (number : ℕ) (p : Posted) (to : Actor) → has_actor shape.cores shape.banks a ≡ true
    → posts_at f a (posting_to shape number p to) ≡ cond (same_actor a to) (f p) 0
posted-at shape f (Core c) number p (Core d) inside = by_has (nat_lt d.0 shape.cores) refl where
  by_has : (t : Bool) → nat_lt d.0 shape.cores ≡ t → posts_at f (Core c) (if t then post_calls number p (Core d) else no_calls) ≡ cond (c.0 == d.0) (f p) 0
  by_has true e = sum-only (port_post f) _ (d.0 == c.0) (f p) refl ∙ ap (λ b. cond b (f p) 0) (turned d.0 c.0)
  by_has false e = ap (λ b. cond b (f p) 0) (sym (above c.0 d.0 shape.cores inside e))
posted-at shape f (Core c) number p (Bank d) inside = by_has (nat_lt d.0 shape.banks) where
  by_has : (t : Bool) → posts_at f (Core c) (if t then post_calls number p (Bank d) else no_calls) ≡ 0
  by_has true = refl
  by_has false = refl
posted-at shape f (Core c) number p Keeper inside = refl
posted-at shape f (Bank b) number p (Core d) inside = by_has (nat_lt d.0 shape.cores) where
  by_has : (t : Bool) → posts_at f (Bank b) (if t then post_calls number p (Core d) else no_calls) ≡ 0
  by_has true = refl
  by_has false = refl
posted-at shape f (Bank b) number p (Bank d) inside = by_has (nat_lt d.0 shape.banks) refl where
  by_has : (t : Bool) → nat_lt d.0 shape.banks ≡ t → posts_at f (Bank b) (if t then post_calls number p (Bank d) else no_calls) ≡ cond (b.0 == d.0) (f p) 0
  by_has true e = sum-only (bank_post f) _ (d.0 == b.0) (f p) refl ∙ ap (λ t. cond t (f p) 0) (turned d.0 b.0)
  by_has false e = ap (λ t. cond t (f p) 0) (sym (above b.0 d.0 shape.banks inside e))
posted-at shape f (Bank b) number p Keeper inside = refl
posted-at shape f Keeper number p (Core d) inside = by_has (nat_lt d.0 shape.cores) where
  by_has : (t : Bool) → posts_at f Keeper (if t then post_calls number p (Core d) else no_calls) ≡ 0
  by_has true = refl
  by_has false = refl
posted-at shape f Keeper number p (Bank d) inside = by_has (nat_lt d.0 shape.banks) where
  by_has : (t : Bool) → posts_at f Keeper (if t then post_calls number p (Bank d) else no_calls) ≡ 0
  by_has true = refl
  by_has false = refl
posted-at shape f Keeper number p Keeper inside = sym (zero-first (f p))

-- what a mail weighs for the actor that it goes to
abbrev pub weigh_to : (Posted → ℕ) → Actor → Posted → ℕ
weigh_to f a p = cond (same_actor a p.mail.to) (f p) 0

posted-all : (shape : Shape) (f : Posted → ℕ) (a : Actor) (number : ℕ) (ps : List Posted) → has_actor shape.cores shape.banks a ≡ true → posts_at f a (postings shape number ps) ≡ sum_by (weigh_to f a) ps
posted-all shape f (Core c) number [] inside = refl
posted-all shape f (Bank b) number [] inside = refl
posted-all shape f Keeper number [] inside = refl
posted-all shape f a number (p ∷ ps) inside =
    posts-then f a (posting shape number p) (postings shape number ps)
    ∙ omega (arith, posted-at shape f a number p p.mail.to inside, posted-all shape f a number ps inside, sum_by-cons (weigh_to f a) p ps)

-- all mails that the events of acts sent
abbrev pub sent_in : Shape → List Act → List Posted
sent_in shape acts = flat_map (λ (d : Done). d.sent) (events_in shape acts)

sent-first : (shape : Shape) (f : Posted → ℕ) (act : Act) (acts : List Act) → sum_by f (sent_in shape (act ∷ acts)) ≡ sum_by f (posted_by (act_done shape act)) + sum_by f (sent_in shape acts)
sent-first shape f act acts = by_done (act_done shape act) refl where
  by_done : (o : Option Done) → act_done shape act ≡ o → sum_by f (sent_in shape (act ∷ acts)) ≡ sum_by f (posted_by o) + sum_by f (sent_in shape acts)
  by_done None e = ap (λ l. sum_by f (flat_map (λ (d : Done). d.sent) l)) (told-cons (act_done shape) act acts None e) ∙ zero-first (sum_by f (sent_in shape acts))
  by_done (Some d) e = ap (λ l. sum_by f (flat_map (λ (x : Done). x.sent) l)) (told-cons (act_done shape) act acts (Some d) e) ∙ sum_by-append f d.sent (sent_in shape acts)

-- into an inbox come just the mails that the events sent to its actor
pub posts-sent : (shape : Shape) (f : Posted → ℕ) (a : Actor) (number : ℕ) (acts : List Act) → has_actor shape.cores shape.banks a ≡ true
    → posts_at f a (calls_in shape number acts) ≡ sum_by (weigh_to f a) (sent_in shape acts)
posts-sent shape f (Core c) number [] inside = refl
posts-sent shape f (Bank b) number [] inside = refl
posts-sent shape f Keeper number [] inside = refl
posts-sent shape f a number (act ∷ acts) inside =
    posts-then f a (act_calls shape number act) (calls_in shape number acts)
    ∙ omega (
      arith,
      posts-then f a (try_calls number act) (postings shape number (posted_by (act_done shape act))),
      tries-post-nothing f a number act,
      posted-all shape f a number (posted_by (act_done shape act)) inside,
      posts-sent shape f a number acts inside,
      sent-first shape (weigh_to f a) act acts,
    )

-- ---- what the steps and takes tell

events-first : (shape : Shape) (a : Actor) (act : Act) (acts : List Act) (t : Bool) → is_act_of a act ≡ t
    → events_by shape a (act ∷ acts) ≡ cond t (cons_option (act_done shape act) (events_by shape a acts)) (events_by shape a acts)
events-first shape a act acts true e = ap (λ t. events_in shape (cond t (act ∷ filter (is_act_of a) acts) (filter (is_act_of a) acts))) e
events-first shape a act acts false e = ap (λ t. events_in shape (cond t (act ∷ filter (is_act_of a) acts) (filter (is_act_of a) acts))) e

one-told : {X Y : Type 0} (h : X → Option Y) (x : X) (t : Bool) (o : Option Y) (ys : List Y) → h x ≡ o → filter_map h (only t x) ++ ys ≡ cond t (cons_option o ys) ys
one-told h x true None ys is = ap (λ l. l ++ ys) (told-cons h x [] None is)
one-told h x true (Some y) ys is = ap (λ l. l ++ ys) (told-cons h x [] (Some y) is)
one-told h x false o ys is = refl

-- posts tell nothing
abbrev banks_tell : ℕ → Calls → List Done
banks_tell b calls = filter_map bank_told (calls.banks b)

abbrev keeper_tells : ℕ → Calls → List Done
keeper_tells cores calls = filter_map (keeper_told cores) calls.keeper

abbrev ports_tell : ℕ → Calls → List Posted
ports_tell c calls = filter_map port_told (calls.ports c)

quiet-only : {X Y : Type 0} (h : X → Option Y) (x : X) (t : Bool) → h x ≡ None → filter_map h (only t x) ≡ []
quiet-only h x true none = told-cons h x [] None none
quiet-only h x false none = refl

bank-post-tells : (shape : Shape) (b number : ℕ) (p : Posted) (to : Actor) (t : Bool) → banks_tell b (if t then post_calls number p to else no_calls) ≡ []
bank-post-tells shape b number p to false = refl
bank-post-tells shape b number p (Core d) true = refl
bank-post-tells shape b number p (Bank d) true = quiet-only bank_told _ (d.0 == b) refl
bank-post-tells shape b number p Keeper true = refl

keeper-post-tells : (shape : Shape) (number : ℕ) (p : Posted) (to : Actor) (t : Bool) → keeper_tells shape.cores (if t then post_calls number p to else no_calls) ≡ []
keeper-post-tells shape number p to false = refl
keeper-post-tells shape number p (Core d) true = refl
keeper-post-tells shape number p (Bank d) true = refl
keeper-post-tells shape number p Keeper true = refl

port-post-tells : (shape : Shape) (c number : ℕ) (p : Posted) (to : Actor) (t : Bool) → ports_tell c (if t then post_calls number p to else no_calls) ≡ []
port-post-tells shape c number p to false = refl
port-post-tells shape c number p (Core d) true = quiet-only port_told _ (d.0 == c) refl
port-post-tells shape c number p (Bank d) true = refl
port-post-tells shape c number p Keeper true = refl

bank-posts-tell : (shape : Shape) (b number : ℕ) (ps : List Posted) → banks_tell b (postings shape number ps) ≡ []
bank-posts-tell shape b number [] = refl
bank-posts-tell shape b number (p ∷ ps) =
    filter_map-append bank_told ((posting shape number p).banks b) ((postings shape number ps).banks b)
    ∙ (ap (λ l. l ++ banks_tell b (postings shape number ps)) (bank-post-tells shape b number p p.mail.to (has_actor shape.cores shape.banks p.mail.to)) ∙ bank-posts-tell shape b number ps)

keeper-posts-tell : (shape : Shape) (number : ℕ) (ps : List Posted) → keeper_tells shape.cores (postings shape number ps) ≡ []
keeper-posts-tell shape number [] = refl
keeper-posts-tell shape number (p ∷ ps) =
    filter_map-append (keeper_told shape.cores) (posting shape number p).keeper (postings shape number ps).keeper
    ∙ (ap (λ l. l ++ keeper_tells shape.cores (postings shape number ps)) (keeper-post-tells shape number p p.mail.to (has_actor shape.cores shape.banks p.mail.to)) ∙ keeper-posts-tell shape number ps)

port-posts-tell : (shape : Shape) (c number : ℕ) (ps : List Posted) → ports_tell c (postings shape number ps) ≡ []
port-posts-tell shape c number [] = refl
port-posts-tell shape c number (p ∷ ps) =
    filter_map-append port_told ((posting shape number p).ports c) ((postings shape number ps).ports c)
    ∙ (ap (λ l. l ++ ports_tell c (postings shape number ps)) (port-post-tells shape c number p p.mail.to (has_actor shape.cores shape.banks p.mail.to)) ∙ port-posts-tell shape c number ps)

no-more : {Y : Type 0} (first posts rest : List Y) → posts ≡ [] → (first ++ posts) ++ rest ≡ first ++ rest
no-more [] posts rest none = ap (λ l. l ++ rest) none
no-more (y ∷ first) posts rest none = ap (λ l. y ∷ l) (no-more first posts rest none)

-- a bank's calls of acts tell the events of the bank's acts
pub bank-tells : (shape : Shape) (b : BankId) (number : ℕ) (acts : List Act) → banks_tell b.0 (calls_in shape number acts) ≡ events_by shape (Bank b) acts
bank-tells shape b number [] = refl
bank-tells shape b number (act ∷ acts) = parts ∙ (no-more (banks_tell b.0 (try_calls number act)) (banks_tell b.0 (postings shape number (posted_by (act_done shape act)))) (banks_tell b.0 (calls_in shape number acts)) (bank-posts-tell shape b.0 number (posted_by (act_done shape act)))
    ∙ (ap (λ l. banks_tell b.0 (try_calls number act) ++ l) (bank-tells shape b number acts) ∙ by_act act)) where
      parts : banks_tell b.0 (calls_in shape number (act ∷ acts)) ≡ (banks_tell b.0 (try_calls number act) ++ banks_tell b.0 (postings shape number (posted_by (act_done shape act)))) ++ banks_tell b.0 (calls_in shape number acts)
      parts = filter_map-append bank_told ((act_calls shape number act).banks b.0) ((calls_in shape number acts).banks b.0)
          ∙ ap (λ l. l ++ banks_tell b.0 (calls_in shape number acts)) (filter_map-append bank_told ((try_calls number act).banks b.0) ((postings shape number (posted_by (act_done shape act))).banks b.0))

      by_act : (one : Act) → banks_tell b.0 (try_calls number one) ++ events_by shape (Bank b) acts ≡ events_by shape (Bank b) (one ∷ acts)
      by_act (Took core pick taken) = refl
      by_act (Made core event done) = refl
      by_act (Kept pick answer) = refl
      by_act (Stepped bank pick handled) =
          one-told bank_told _ (bank.0 == b.0) (option_map bank_done handled) (events_by shape (Bank b) acts) refl
          ∙ (ap (λ t. cond t (cons_option (option_map bank_done handled) (events_by shape (Bank b) acts)) (events_by shape (Bank b) acts)) (turned bank.0 b.0)
          ∙ sym (events-first shape (Bank b) (Stepped bank pick handled) acts (b.0 == bank.0) refl))

pub keeper-tells : (shape : Shape) (number : ℕ) (acts : List Act) → keeper_tells shape.cores (calls_in shape number acts) ≡ events_by shape Keeper acts
keeper-tells shape number [] = refl
keeper-tells shape number (act ∷ acts) = parts ∙ (no-more (keeper_tells shape.cores (try_calls number act)) (keeper_tells shape.cores (postings shape number (posted_by (act_done shape act)))) (keeper_tells shape.cores (calls_in shape number acts)) (keeper-posts-tell shape number (posted_by (act_done shape act)))
    ∙ (ap (λ l. keeper_tells shape.cores (try_calls number act) ++ l) (keeper-tells shape number acts) ∙ by_act act)) where
      parts : keeper_tells shape.cores (calls_in shape number (act ∷ acts)) ≡ (keeper_tells shape.cores (try_calls number act) ++ keeper_tells shape.cores (postings shape number (posted_by (act_done shape act)))) ++ keeper_tells shape.cores (calls_in shape number acts)
      parts = filter_map-append (keeper_told shape.cores) (act_calls shape number act).keeper (calls_in shape number acts).keeper
          ∙ ap (λ l. l ++ keeper_tells shape.cores (calls_in shape number acts)) (filter_map-append (keeper_told shape.cores) (try_calls number act).keeper (postings shape number (posted_by (act_done shape act))).keeper)

      by_act : (one : Act) → keeper_tells shape.cores (try_calls number one) ++ events_by shape Keeper acts ≡ events_by shape Keeper (one ∷ acts)
      by_act (Took core pick taken) = refl
      by_act (Made core event done) = refl
      by_act (Stepped bank pick handled) = refl
      by_act (Kept pick answer) = one-told (keeper_told shape.cores) (entry number (keeper_in.TheVariants.Step pick) (keeper_out.TheVariants.Stepped answer)) true (option_map (keeper_done shape.cores) answer) (events_by shape Keeper acts) refl

-- the mails that a core's steps handle
abbrev pub deed_mail : Deed → Option Posted
deed_mail (Handles p) = Some p
deed_mail (Makes e) = None

abbrev pub handled_in : Step → Option Posted
handled_in s = deed_mail s.deed

steps-first : (core : CoreId) (act : Act) (acts : List Act) (t : Bool) → is_act_of (Core core) act ≡ t
    → steps_by core (act ∷ acts) ≡ cond t (cons_option (core_step act) (steps_by core acts)) (steps_by core acts)
steps-first core act acts true e = ap (λ t. filter_map core_step (cond t (act ∷ filter (is_act_of (Core core)) acts) (filter (is_act_of (Core core)) acts))) e
steps-first core act acts false e = ap (λ t. filter_map core_step (cond t (act ∷ filter (is_act_of (Core core)) acts) (filter (is_act_of (Core core)) acts))) e

pub port-tells : (shape : Shape) (core : CoreId) (number : ℕ) (acts : List Act) → ports_tell core.0 (calls_in shape number acts) ≡ filter_map handled_in (steps_by core acts)
port-tells shape core number [] = refl
port-tells shape core number (act ∷ acts) = parts ∙ (no-more (ports_tell core.0 (try_calls number act)) (ports_tell core.0 (postings shape number (posted_by (act_done shape act)))) (ports_tell core.0 (calls_in shape number acts)) (port-posts-tell shape core.0 number (posted_by (act_done shape act)))
    ∙ (ap (λ l. ports_tell core.0 (try_calls number act) ++ l) (port-tells shape core number acts) ∙ by_act act)) where
      parts : ports_tell core.0 (calls_in shape number (act ∷ acts)) ≡ (ports_tell core.0 (try_calls number act) ++ ports_tell core.0 (postings shape number (posted_by (act_done shape act)))) ++ ports_tell core.0 (calls_in shape number acts)
      parts = filter_map-append port_told ((act_calls shape number act).ports core.0) ((calls_in shape number acts).ports core.0)
          ∙ ap (λ l. l ++ ports_tell core.0 (calls_in shape number acts)) (filter_map-append port_told ((try_calls number act).ports core.0) ((postings shape number (posted_by (act_done shape act))).ports core.0))

      made-quiet : (t : Bool) (s : Step) → handled_in s ≡ None → filter_map handled_in (steps_by core acts) ≡ filter_map handled_in (cond t (s ∷ steps_by core acts) (steps_by core acts))
      made-quiet true s none = sym (told-cons handled_in s (steps_by core acts) None none)
      made-quiet false s none = refl

      took-told : (t : Bool) (taken : Option (Posted × Done)) → cond t (cons_option (option_map taken_mail taken) (filter_map handled_in (steps_by core acts))) (filter_map handled_in (steps_by core acts))
          ≡ filter_map handled_in (cond t (cons_option (option_map taken_step taken) (steps_by core acts)) (steps_by core acts))
      took-told true None = refl
      took-told true (Some x) = refl
      took-told false taken = refl

      by_act : (one : Act) → ports_tell core.0 (try_calls number one) ++ filter_map handled_in (steps_by core acts) ≡ filter_map handled_in (steps_by core (one ∷ acts))
      by_act (Took c pick taken) =
          one-told port_told _ (c.0 == core.0) (option_map taken_mail taken) (filter_map handled_in (steps_by core acts)) refl
          ∙ (ap (λ t. cond t (cons_option (option_map taken_mail taken) (filter_map handled_in (steps_by core acts))) (filter_map handled_in (steps_by core acts))) (turned c.0 core.0)
          ∙ (took-told (core.0 == c.0) taken ∙ ap (filter_map handled_in) (sym (steps-first core (Took c pick taken) acts (core.0 == c.0) refl))))
      by_act (Made c event done) =
          made-quiet (core.0 == c.0) (record { deed = Makes event; done = done }) refl ∙ ap (filter_map handled_in) (sym (steps-first core (Made c event done) acts (core.0 == c.0) refl))
      by_act (Stepped bank pick handled) = refl
      by_act (Kept pick answer) = refl

-- they weigh what the steps take
pub takes-handled : (f : Posted → ℕ) (ss : List Step) → sum_by (takes f) ss ≡ sum_by f (filter_map handled_in ss)
takes-handled f [] = refl
takes-handled f (s ∷ ss) = by_deed s.deed refl (takes-handled f ss) where
  by_deed : (d : Deed) → s.deed ≡ d → sum_by (takes f) ss ≡ sum_by f (filter_map handled_in ss) → sum_by (takes f) (s ∷ ss) ≡ sum_by f (filter_map handled_in (s ∷ ss))
  by_deed (Handles p) is rest =
      let here : takes f s ≡ f p = ap (deed_takes f) is in
      let told : handled_in s ≡ Some p = ap deed_mail is in
      sum_by-cons (takes f) s ss ∙ (omega (arith, here, rest, sum_by-cons f p (filter_map handled_in ss)) ∙ ap (λ l. sum_by f l) (sym (told-cons handled_in s ss (Some p) told)))
  by_deed (Makes e) is rest =
      let here : takes f s ≡ 0 = ap (deed_takes f) is in
      let told : handled_in s ≡ None = ap deed_mail is in
      sum_by-cons (takes f) s ss ∙ (omega (arith, here, rest) ∙ ap (λ l. sum_by f l) (sym (told-cons handled_in s ss None told)))

-- a core's steps tell the events of its acts
pub steps-tell : (shape : Shape) (core : CoreId) (acts : List Act) → map step_done (steps_by core acts) ≡ events_by shape (Core core) acts
steps-tell shape core [] = refl
steps-tell shape core (act ∷ acts) = by_act act (steps-tell shape core acts) where
  took-told : (t : Bool) (taken : Option (Posted × Done)) → map step_done (steps_by core acts) ≡ events_by shape (Core core) acts
      → map step_done (cond t (cons_option (option_map taken_step taken) (steps_by core acts)) (steps_by core acts)) ≡ cond t (cons_option (option_map taken_done taken) (events_by shape (Core core) acts)) (events_by shape (Core core) acts)
  took-told true None rest = rest
  took-told true (Some x) rest = ap (λ l. x.1 ∷ l) rest
  took-told false taken rest = rest

  made-told : (t : Bool) (s : Step) → map step_done (steps_by core acts) ≡ events_by shape (Core core) acts
      → map step_done (cond t (s ∷ steps_by core acts) (steps_by core acts)) ≡ cond t (s.done ∷ events_by shape (Core core) acts) (events_by shape (Core core) acts)
  made-told true s rest = ap (λ l. s.done ∷ l) rest
  made-told false s rest = rest

  by_act : (one : Act) → map step_done (steps_by core acts) ≡ events_by shape (Core core) acts → map step_done (steps_by core (one ∷ acts)) ≡ events_by shape (Core core) (one ∷ acts)
  by_act (Took c pick taken) rest =
      ap (map step_done) (steps-first core (Took c pick taken) acts (core.0 == c.0) refl)
      ∙ (took-told (core.0 == c.0) taken rest ∙ sym (events-first shape (Core core) (Took c pick taken) acts (core.0 == c.0) refl))
  by_act (Made c event done) rest =
      ap (map step_done) (steps-first core (Made c event done) acts (core.0 == c.0) refl)
      ∙ (made-told (core.0 == c.0) (record { deed = Makes event; done = done }) rest ∙ sym (events-first shape (Core core) (Made c event done) acts (core.0 == c.0) refl))
  by_act (Stepped bank pick handled) rest = rest
  by_act (Kept pick answer) rest = rest
