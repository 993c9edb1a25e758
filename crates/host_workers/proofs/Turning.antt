-- What a take, an own event and a step come to, by the calls that were made.
use Rattle.std.proofs.Common.{◌≡◌, ℕ, ◌+◌, Bool, true, false, List, [], ◌∷◌, ◌++◌, filter_map, Option, Some, None, Result, Ok, Err, IfOk, OnErr, refl, sym, ◌∙◌, subst}
use Rattle.std.specs.Option.{option_to_list}
use Rattle.std.proofs.lemmas.List.{append-nil}
use Rattle.std.proofs.lemmas.Bool.{false≢true}
use Rattle.dn_base.specs.declared.ids.CoreId.{CoreId}
use Rattle.grant_log.specs.declared.log.Stamped.{Stamped}
use Rattle.message_net.specs.declared.event.Event.{Event}
use Rattle.message_net.specs.declared.event.Event.TheVariants.{Instr}
use Rattle.registration_protocol.specs.Node.{Setting}
use Rattle.registration_protocol.specs.Fit.{Fits}
use Rattle.registration_protocol.specs.OwnEvents.{own_event}
use Rattle.bank_hall.specs.declared.bank.Handled.{Handled}
use Rattle.grant_log.specs.declared.posted.Posted.{Posted}
use Rattle.bank_hall.specs.Note.{KeeperNote}
use Rattle.bank_hall.specs.Halls.{PassView, HasMadeCalls, pass_number}
use Rattle.host_workers.specs.Acts.{Act, Took, Made, Stepped, Kept, core_step, try_calls, postings, keeper_done}
use Rattle.host_workers.specs.Members.{Handles, Makes}
use Rattle.host_workers.specs.Steps.{Done}
use Rattle.grant_log.specs.Stamps.{has_numbers_left}
use Rattle.host_workers.specs.Passes.{Held, own_acts, taken_steps}
use Rattle.host_workers.specs.declared.crew.BankLog.{BankLog}
use Rattle.host_workers.specs.declared.owned.Owned.{Owned}
use Rattle.host_workers.specs.Crews.{held_of, owned_has_numbers}
use Rattle.host_workers.specs.Deeds.{HasMoved, step_of_deed, own_steps}
use Rattle.message_net.specs.declared.actor.Actor.TheVariants.{Core}
use Rattle.host_workers.specs.Work.{HasActed, HasTaken, HasMadeOwn, HasBegunPosts, AreOf, IsMoved, IsCoreServed, IsNotedBank, IsStepped, IsNotedKeeper, IsNotedIf, IsKeeperStep, IsKeeperServed, HasDoneActs, HasDonePartly}
use Rattle.host_workers.proofs.Calls.{made-none, acted-none, acted-one, begun-none, stopped-none, stopped-one, stopped-after}
use Rattle.host_workers.proofs.Moves.{moved-none, moved-both}
use Rattle.host_workers.proofs.Served.{turn-are, turn-acted, turn-moved, turn-is, turn_acts}

pub took-none : (C : Setting) (core : CoreId) (pick : ℕ) (a b : PassView) (h : Held) → HasMadeCalls a b (try_calls (pass_number a) (Took core pick None)) → pass_number b ≡ pass_number a → HasTaken C core pick a b h h 0
took-none C core pick a b h tries same = record { taken = None; moved = moved-none C core h; acted = acted-one C a b b (Took core pick None) 0 tries same (made-none b) refl }

pub took-some : (C : Setting) (core : CoreId) (pick : ℕ) (a b c : PassView) (had has : Held) (p : Posted) (sent : Option Posted)
    → HasMadeCalls a b (try_calls (pass_number a) (Took core pick (Some (p, (step_of_deed C core had (Handles p)).done)))) → pass_number b ≡ pass_number a
    → HasMoved C core (step_of_deed C core had (Handles p) ∷ []) had has → option_to_list sent ≡ (step_of_deed C core had (Handles p)).done.sent
    → HasMadeCalls b c (postings C.shape (pass_number b) (option_to_list sent)) → HasTaken C core pick a c had has 1
took-some C core pick a b c had has p sent tries same moved is posts = record {
  taken = Some (p, (step_of_deed C core had (Handles p)).done);
  moved = moved;
  acted = acted-one C a b c (Took core pick (Some (p, (step_of_deed C core had (Handles p)).done))) 1 tries same (subst (λ l. HasMadeCalls b c (postings C.shape (pass_number b) l)) is posts) refl;
}

-- any event of the core, for where there is none
some-done : (C : Setting) (core : CoreId) (h : Held) → Done
some-done C core h = (step_of_deed C core h (Makes (Instr core))).done

no-acts : (core : CoreId) (goes : Bool) (e : Option Event) (done : Done) → (goes ≡ false) → own_acts core goes e done ≡ []
no-acts core true e done is = absurd (false≢true (sym is))
no-acts core false (Some e) done is = refl
no-acts core false None done is = refl

no-steps : (goes : Bool) (e : Option Event) (done : Done) → (goes ≡ false) → own_steps goes e done ≡ []
no-steps true e done is = absurd (false≢true (sym is))
no-steps false (Some e) done is = refl
no-steps false None done is = refl

still-acts : (core : CoreId) (goes : Bool) (e : Option Event) (done : Done) → (e ≡ None) → own_acts core goes e done ≡ []
still-acts core true (Some e) done is = absurd (some-none is) where
  some-none : {z : Event} → Some z ≡ None → ⊥
  some-none w = cc
still-acts core true None done is = refl
still-acts core false (Some e) done is = refl
still-acts core false None done is = refl

still-steps : (goes : Bool) (e : Option Event) (done : Done) → (e ≡ None) → own_steps goes e done ≡ []
still-steps true (Some e) done is = absurd (some-none is) where
  some-none : {z : Event} → Some z ≡ None → ⊥
  some-none w = cc
still-steps true None done is = refl
still-steps false (Some e) done is = refl
still-steps false None done is = refl

own-nothing : (C : Setting) (core : CoreId) (a : PassView) (h : Held) → own_acts core (has_numbers_left h.clock h.next) (own_event C h.node) (some-done C core h) ≡ [] → own_steps (has_numbers_left h.clock h.next) (own_event C h.node) (some-done C core h) ≡ [] → HasMadeOwn C core a a h h 0
own-nothing C core a h acts steps = record {
  done = some-done C core h;
  moved = subst (λ l. HasMoved C core l h h) (sym steps) (moved-none C core h);
  acted = subst (λ l. HasActed C a a l 0) (sym acts) (acted-none C a);
}

pub own-spent : (C : Setting) (core : CoreId) (a : PassView) (h : Held) → has_numbers_left h.clock h.next ≡ false → HasMadeOwn C core a a h h 0
own-spent C core a h is = own-nothing C core a h (no-acts core (has_numbers_left h.clock h.next) (own_event C h.node) (some-done C core h) is) (no-steps (has_numbers_left h.clock h.next) (own_event C h.node) (some-done C core h) is)

pub own-still : (C : Setting) (core : CoreId) (a : PassView) (h : Held) → own_event C h.node ≡ None → HasMadeOwn C core a a h h 0
own-still C core a h is = own-nothing C core a h (still-acts core (has_numbers_left h.clock h.next) (own_event C h.node) (some-done C core h) is) (still-steps (has_numbers_left h.clock h.next) (own_event C h.node) (some-done C core h) is)

pub own-some : (C : Setting) (core : CoreId) (a b : PassView) (had has : Held) (e : Event) (sent : Option Posted)
    → has_numbers_left had.clock had.next ≡ true → own_event C had.node ≡ Some e
    → HasMoved C core (step_of_deed C core had (Makes e) ∷ []) had has → option_to_list sent ≡ (step_of_deed C core had (Makes e)).done.sent
    → HasMadeCalls a b (postings C.shape (pass_number a) (option_to_list sent)) → HasMadeOwn C core a b had has 1
own-some C core a b had has e sent goes own moved is posts =
    let done = (step_of_deed C core had (Makes e)).done in
    let acts : own_acts core (has_numbers_left had.clock had.next) (own_event C had.node) done ≡ Made core e done ∷ [] = rw (goes, own) refl in
    let steps : own_steps (has_numbers_left had.clock had.next) (own_event C had.node) done ≡ step_of_deed C core had (Makes e) ∷ [] = rw (goes, own) refl in record {
      done = done;
      moved = subst (λ l. HasMoved C core l had has) (sym steps) moved;
      acted = subst (λ l. HasActed C a b l 1) (sym acts) (acted-one C a a b (Made core e done) 1 (made-none a) refl (subst (λ l. HasMadeCalls a b (postings C.shape (pass_number a) l)) is posts) refl);
    }

-- nothing was done with a core
pub moves-not : (C : Setting) (o n : Owned) → n.core ≡ o.core → held_of n ≡ held_of o → Fits C n.node → IsMoved C o n []
moves-not C o n core held fits = record { core = core; fits = fits; own = tt; moved = subst (λ h. HasMoved C o.core [] (held_of o) h) (sym held) (moved-none C o.core (held_of o)) }

pub moves-none : (C : Setting) (o n : Owned) (p : PassView) → n.core ≡ o.core → held_of n ≡ held_of o → Fits C n.node → HasDonePartly (IsMoved C) C p p o n
moves-none C o n p core held fits = record { acts = []; stopped = stopped-none C p; does = moves-not C o n core held fits }

-- a mail was taken and handled, and there was no room to post what was sent
pub took-partly : (C : Setting) (o n : Owned) (pick : ℕ) (a b : PassView) (p : Posted)
    → HasMadeCalls a b (try_calls (pass_number a) (Took o.core pick (Some (p, (step_of_deed C o.core (held_of o) (Handles p)).done)))) → pass_number b ≡ pass_number a
    → n.core ≡ o.core → Fits C n.node → HasMoved C o.core (step_of_deed C o.core (held_of o) (Handles p) ∷ []) (held_of o) (held_of n) → HasDonePartly (IsMoved C) C a b o n
took-partly C o n pick a b p tries same core fits moved =
    let act = Took o.core pick (Some (p, (step_of_deed C o.core (held_of o) (Handles p)).done)) in record {
      acts = act ∷ [];
      stopped = stopped-one C a b b act tries same (begun-none C.shape b _);
      does = record { core = core; fits = fits; own = (refl, tt); moved = moved };
    }

-- an own event was made, and there was no room to post what was sent
pub made-partly : (C : Setting) (o n : Owned) (a : PassView) (e : Event)
    → n.core ≡ o.core → Fits C n.node → HasMoved C o.core (step_of_deed C o.core (held_of o) (Makes e) ∷ []) (held_of o) (held_of n) → HasDonePartly (IsMoved C) C a a o n
made-partly C o n a e core fits moved =
    let act = Made o.core e (step_of_deed C o.core (held_of o) (Makes e)).done in record {
      acts = act ∷ [];
      stopped = stopped-one C a a a act (made-none a) refl (begun-none C.shape a _);
      does = record { core = core; fits = fits; own = (refl, tt); moved = moved };
    }

-- a core as it was before room was made
pub from-held : (C : Setting) (o m n : Owned) (a b : PassView) → m.core ≡ o.core → held_of m ≡ held_of o → HasDonePartly (IsMoved C) C a b m n → HasDonePartly (IsMoved C) C a b o n
from-held C o m n a b core held p = record {
  acts = p.acts;
  stopped = p.stopped;
  does = record {
    core = p.does.core ∙ core;
    fits = p.does.fits;
    own = subst (λ (c : CoreId). AreOf (Core c) p.acts) core p.does.own;
    moved = subst (λ (c : CoreId). HasMoved C c (filter_map core_step p.acts) (held_of o) (held_of n)) core (subst (λ h. HasMoved C m.core (filter_map core_step p.acts) h (held_of n)) held p.does.moved);
  };
}

took-steps : (core : CoreId) (pick : ℕ) (taken : Option (Posted × Done)) (acts : List Act) → filter_map core_step (Took core pick taken ∷ acts) ≡ taken_steps taken ++ filter_map core_step acts
took-steps core pick None acts = refl
took-steps core pick (Some t) acts = refl

-- a take was made, and then the rest of the turn in part
pub turns-partly : (C : Setting) (o m n : Owned) (pick : ℕ) (a b c : PassView) (k : ℕ) → m.core ≡ o.core → HasTaken C o.core pick a b (held_of o) (held_of m) k → pass_number b ≡ pass_number a
    → HasDonePartly (IsMoved C) C b c m n → HasDonePartly (IsMoved C) C a c o n
turns-partly C o m n pick a b c k core t same p = record {
  acts = Took o.core pick t.taken ∷ p.acts;
  stopped = stopped-after C a b c (Took o.core pick t.taken ∷ []) p.acts k t.acted same p.stopped;
  does = record {
    core = p.does.core ∙ core;
    fits = p.does.fits;
    own = (refl, subst (λ (d : CoreId). AreOf (Core d) p.acts) core p.does.own);
    moved = subst (λ steps. HasMoved C o.core steps (held_of o) (held_of n)) (sym (took-steps o.core pick t.taken p.acts))
        (moved-both C o.core (taken_steps t.taken) (filter_map core_step p.acts) (held_of o) (held_of m) (held_of n) t.moved (subst (λ (d : CoreId). HasMoved C d (filter_map core_step p.acts) (held_of m) (held_of n)) core p.does.moved));
  };
}

-- a core had its turn
pub serves : (C : Setting) (o n : Owned) (pick : ℕ) (a b c : PassView) (mid : Held) (m k : ℕ) → n.core ≡ o.core → Fits C n.node → owned_has_numbers o ≡ true
    → HasTaken C o.core pick a b (held_of o) mid m → pass_number b ≡ pass_number a → HasMadeOwn C o.core b c mid (held_of n) k → HasDoneActs (IsCoreServed C) C a c o n (m + k)
serves C o n pick a b c mid m k core fits goes t same own = record {
  acts = turn_acts C o.core pick t.taken mid own.done;
  acted = turn-acted C o.core pick a b c (held_of o) mid (held_of n) m k t same own;
  does = record {
    moves = record {
      core = core;
      fits = fits;
      own = turn-are o.core pick t.taken (has_numbers_left mid.clock mid.next) (own_event C mid.node) own.done;
      moved = turn-moved C o.core pick a b c (held_of o) mid (held_of n) m k t own;
    };
    turn = λ e. turn-is C o.core pick a b c (held_of o) mid (held_of n) m k t own;
    stays = λ e. absurd (false≢true (sym e ∙ goes));
  };
}

pub stays : (C : Setting) (o : Owned) (a : PassView) → Fits C o.node → owned_has_numbers o ≡ false → HasDoneActs (IsCoreServed C) C a a o o 0
stays C o a fits spent = record {
  acts = [];
  acted = acted-none C a;
  does = record { moves = moves-not C o o refl refl fits; turn = λ e. absurd (false≢true (sym spent ∙ e)); stays = λ e. refl };
}

-- a bank's log tells of its step, and of nothing
stepped-notes : (C : Setting) (b d : BankLog) (pick : ℕ) (h : Handled) → d.bank ≡ b.bank → d.log.items ≡ b.log.items ++ h.stamped ∷ [] → IsNotedBank C b d (Stepped b.bank pick (Some h) ∷ [])
stepped-notes C b d pick h bank log = record { bank = bank; own = (refl, tt); log = log }

pub notes-not : (C : Setting) (b d : BankLog) → d.bank ≡ b.bank → d.log.items ≡ b.log.items → IsNotedBank C b d []
notes-not C b d bank log = record { bank = bank; own = tt; log = log ∙ sym (append-nil b.log.items) }

pub notes-none : (C : Setting) (b d : BankLog) (p : PassView) → d.bank ≡ b.bank → d.log.items ≡ b.log.items → HasDonePartly (IsNotedBank C) C p p b d
notes-none C b d p bank log = record { acts = []; stopped = stopped-none C p; does = notes-not C b d bank log }

-- a bank was stepped, and there was no room to post the reply
pub steps-partly : (C : Setting) (b d : BankLog) (pick : ℕ) (p q : PassView) (h : Handled) → d.bank ≡ b.bank → d.log.items ≡ b.log.items ++ h.stamped ∷ []
    → HasMadeCalls p q (try_calls (pass_number p) (Stepped b.bank pick (Some h))) → pass_number q ≡ pass_number p → HasDonePartly (IsNotedBank C) C p q b d
steps-partly C b d pick p q h bank log tries same =
    let act = Stepped b.bank pick (Some h) in
    record { acts = act ∷ []; stopped = stopped-one C p q q act tries same (begun-none C.shape q _); does = stepped-notes C b d pick h bank log }

-- a bank was stepped
pub steps : (C : Setting) (b d : BankLog) (pick : ℕ) (p q r : PassView) (h : Handled) → d.bank ≡ b.bank → d.log.items ≡ b.log.items ++ h.stamped ∷ []
    → HasMadeCalls p q (try_calls (pass_number p) (Stepped b.bank pick (Some h))) → pass_number q ≡ pass_number p → HasMadeCalls q r (postings C.shape (pass_number q) (option_to_list h.reply))
    → HasDoneActs (IsStepped C) C p r b d 1
steps C b d pick p q r h bank log tries same posts = record {
  acts = Stepped b.bank pick (Some h) ∷ [];
  acted = acted-one C p q r (Stepped b.bank pick (Some h)) 1 tries same posts refl;
  does = record { notes = stepped-notes C b d pick h bank log; pick = pick; handled = Some h; acts_are = refl };
}

pub steps-not : (C : Setting) (b d : BankLog) (pick : ℕ) (p q : PassView) → d.bank ≡ b.bank → d.log.items ≡ b.log.items
    → HasMadeCalls p q (try_calls (pass_number p) (Stepped b.bank pick None)) → pass_number q ≡ pass_number p → HasDoneActs (IsStepped C) C p q b d 0
steps-not C b d pick p q bank log tries same = record {
  acts = Stepped b.bank pick None ∷ [];
  acted = acted-one C p q q (Stepped b.bank pick None) 0 tries same (made-none q) refl;
  does = record { notes = record { bank = bank; own = (refl, tt); log = log ∙ sym (append-nil b.log.items) }; pick = pick; handled = None; acts_are = refl };
}

-- the keeper's log tells of nothing
pub keeps-none : (C : Setting) (had has : List Stamped) (p : PassView) → has ≡ had → HasDonePartly (IsNotedKeeper C) C p p had has
keeps-none C had has p log = record { acts = []; stopped = stopped-none C p; does = record { own = tt; log = log ∙ sym (append-nil had) } }

-- the keeper was stepped, and there was no room to post all letters
pub keeps-partly : (C : Setting) (had has : List Stamped) (pick : ℕ) (p q r : PassView) (n : KeeperNote) → has ≡ had ++ n.stamped ∷ []
    → HasMadeCalls p q (try_calls (pass_number p) (Kept pick (Some n))) → pass_number q ≡ pass_number p → HasBegunPosts C.shape q r (keeper_done C.shape.cores n).sent
    → HasDonePartly (IsNotedKeeper C) C p r had has
keeps-partly C had has pick p q r n log tries same posts =
    let act = Kept pick (Some n) in record { acts = act ∷ []; stopped = stopped-one C p q r act tries same posts; does = record { own = (refl, tt); log = log } }

-- the keeper was stepped
pub keeps : (C : Setting) (had has : List Stamped) (pick : ℕ) (p q r : PassView) (n : KeeperNote) → has ≡ had ++ n.stamped ∷ []
    → HasMadeCalls p q (try_calls (pass_number p) (Kept pick (Some n))) → pass_number q ≡ pass_number p → HasMadeCalls q r (postings C.shape (pass_number q) (keeper_done C.shape.cores n).sent)
    → HasDoneActs (IsKeeperStep C) C p r had has 1
keeps C had has pick p q r n log tries same posts = record {
  acts = Kept pick (Some n) ∷ [];
  acted = acted-one C p q r (Kept pick (Some n)) 1 tries same posts refl;
  does = record { notes = record { own = (refl, tt); log = log }; pick = pick; note = Some n; acts_are = refl };
}

pub keeps-not : (C : Setting) (had has : List Stamped) (pick : ℕ) (p q : PassView) → has ≡ had
    → HasMadeCalls p q (try_calls (pass_number p) (Kept pick None)) → pass_number q ≡ pass_number p → HasDoneActs (IsKeeperStep C) C p q had has 0
keeps-not C had has pick p q log tries same = record {
  acts = Kept pick None ∷ [];
  acted = acted-one C p q q (Kept pick None) 0 tries same (made-none q) refl;
  does = record { notes = record { own = (refl, tt); log = log ∙ sym (append-nil had) }; pick = pick; note = None; acts_are = refl };
}

-- the keeper was stepped, if the worker has it
pub kept-not : (C : Setting) (p : PassView) → HasDoneActs (IsKeeperServed C) C p p None None 0
kept-not C p = record { acts = []; acted = acted-none C p; does = refl }

pub kept-if : {E : Type 0} (C : Setting) (p q : PassView) (had has : List Stamped) (r : Result ℕ E) → IfOk r (HasDoneActs (IsKeeperStep C) C p q had has) → IfOk r (HasDoneActs (IsKeeperServed C) C p q (Some had) (Some has))
kept-if C p q had has (Ok count) done = record { acts = done.acts; acted = done.acted; does = done.does }
kept-if C p q had has (Err e) done = tt

pub kept-partly-if : {E : Type 0} (C : Setting) (p q : PassView) (had has : List Stamped) (r : Result ℕ E) → OnErr r (HasDonePartly (IsNotedKeeper C) C p q had has) → OnErr r (HasDonePartly (IsNotedIf C) C p q (Some had) (Some has))
kept-partly-if C p q had has (Ok count) done = tt
kept-partly-if C p q had has (Err e) done = record { acts = done.acts; stopped = done.stopped; does = done.does }

-- nothing is noted of the keeper
pub noted-if-none : (C : Setting) (log : Option (List Stamped)) → IsNotedIf C log log []
noted-if-none C None = refl
noted-if-none C (Some log) = record { own = tt; log = sym (append-nil log) }
