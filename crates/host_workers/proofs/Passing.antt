-- The acts of several passes, one after the other.
use Rattle.std.proofs.Common.{◌≡◌, ℕ, zero, suc, List, [], ◌++◌, map, Option, Some, None, All, Contains, slice_get, refl, sym, ap, ◌∙◌, subst, arith, ◌<◌}
use Rattle.std.specs.Option.{option_map, is_some}
use Rattle.std.proofs.lemmas.List.{append_assoc, append-nil}
use Rattle.std.proofs.lemmas.List.Elements.{All-append}
use Rattle.std.proofs.lemmas.Option.{slice_get-map}
use Rattle.grant_log.specs.declared.log.Stamped.{Stamped}
use Rattle.message_net.specs.declared.actor.Actor.TheVariants.{Bank, Keeper}
use Rattle.registration_protocol.specs.Node.{Setting}
use Rattle.bank_hall.specs.Halls.{PassView, HasMadeCalls, pass_number}
use Rattle.host_workers.specs.Acts.{Act, actor_of, notes_by, calls_in}
use Rattle.host_workers.specs.Passes.{HasGone}
use Rattle.host_workers.specs.declared.crew.Crew.{Crew}
use Rattle.host_workers.specs.Crews.{held_of, owned_core, bank_of, keeper_log}
use Rattle.host_workers.specs.Pass.{actors_of, IsActOf, HasMore, IsCrewAfter, IsWork, HasWorked, HasWorkedOn}
use Rattle.host_workers.proofs.Appended.{calls-follow, notes-follow, cores-follow}
use Rattle.host_workers.proofs.Crewed.{is_some-map}

more-both : (xs ys : List Stamped) (a b c : Option (List Stamped)) → HasMore xs a b → HasMore ys b c → HasMore (xs ++ ys) a c
more-both xs ys None None None one two = tt
more-both xs ys (Some a) (Some b) (Some c) one two = two ∙ (ap (λ l. l ++ ys) one ∙ append_assoc a xs ys)
more-both xs ys None (Some b) c one two = absurd one
more-both xs ys (Some a) None c one two = absurd one
more-both xs ys None None (Some c) one two = absurd two
more-both xs ys (Some a) (Some b) None one two = absurd two

pub more-same : (xs : List Stamped) (a b : Option (List Stamped)) → HasMore xs a b → is_some b ≡ is_some a
more-same xs None None one = refl
more-same xs (Some a) (Some b) one = refl
more-same xs None (Some b) one = absurd one
more-same xs (Some a) None one = absurd one

-- the crew has the same actors
same-actors : (C : Setting) (had has : Crew) (acts : List Act) → IsCrewAfter C had has acts → actors_of has ≡ actors_of had
same-actors C had has acts work =
    let keeper : is_some has.keeper ≡ is_some had.keeper = sym (is_some-map _ has.keeper) ∙ (more-same _ (keeper_log had) (keeper_log has) work.keeper ∙ is_some-map _ had.keeper) in
    rw (work.same.cores, work.same.banks, keeper) refl

module _ {X : Type 0} where
  abbrev or_else : X → Option X → X
  or_else d None = d
  or_else d (Some x) = x

  abbrev is_none : Option X → Type 0
  is_none None = Unit {0}
  is_none (Some y) = ⊥

  none-some : (x : X) → None ≡ Some x → ⊥
  none-some x e = subst is_none e tt

-- where the values of two lists are the same, each place of one is a place of the other
pub stands-too : {A B : Type 0} (f : A → B) (xs ys : List A) → map f ys ≡ map f xs → (i : ℕ) (x : A) → slice_get xs i ≡ Some x → (y : A) × (slice_get ys i ≡ Some y) × (f y ≡ f x)
stands-too {A} f xs ys same i x at = by (slice_get ys i) refl (sym (slice_get-map f ys i) ∙ (ap (λ l. slice_get l i) same ∙ (slice_get-map f xs i ∙ ap (option_map f) at))) where
  by : (o : Option A) → slice_get ys i ≡ o → option_map f o ≡ Some (f x) → (y : A) × (slice_get ys i ≡ Some y) × (f y ≡ f x)
  by None e is = absurd (none-some (f x) is)
  by (Some y) e is = (y, e, ap (or_else (f x)) is)

-- a crew after acts and then others
crew-both : (C : Setting) (x y z : Crew) (xs ys : List Act) → IsCrewAfter C x y xs → IsCrewAfter C y z ys → IsCrewAfter C x z (xs ++ ys)
crew-both C x y z xs ys one two = record {
  own = All-append (IsActOf x) xs ys one.own (subst (λ all. All (λ act. Contains all (actor_of act)) ys) (same-actors C x y xs one) two.own);
  same = record { worker = two.same.worker ∙ one.same.worker; cores = two.same.cores ∙ one.same.cores; banks = two.same.banks ∙ one.same.banks };
  cores = λ i o q at now.
      let mid = stands-too owned_core x.cores.items y.cores.items one.same.cores i o at in
      cores-follow C xs ys o.core (held_of o) (held_of mid.0) (held_of q) (one.cores i o mid.0 at mid.1) (subst (λ core. HasGone C ys core (held_of mid.0) (held_of q)) mid.2 (two.cores i mid.0 q mid.1 now));
  banks = λ i o q at now.
      let mid = stands-too bank_of x.banks.items y.banks.items one.same.banks i o at in
      let late : q.log.items ≡ mid.0.log.items ++ notes_by C.shape (Bank o.bank) ys = subst (λ bank. q.log.items ≡ mid.0.log.items ++ notes_by C.shape (Bank bank) ys) mid.2 (two.banks i mid.0 q mid.1 now) in
      late ∙ (ap (λ l. l ++ notes_by C.shape (Bank o.bank) ys) (one.banks i o mid.0 at mid.1) ∙ (append_assoc o.log.items (notes_by C.shape (Bank o.bank) xs) (notes_by C.shape (Bank o.bank) ys) ∙ ap (λ l. o.log.items ++ l) (sym (notes-follow C.shape (Bank o.bank) xs ys))));
  keeper = subst (λ l. HasMore l (keeper_log x) (keeper_log z)) (sym (notes-follow C.shape Keeper xs ys)) (more-both (notes_by C.shape Keeper xs) (notes_by C.shape Keeper ys) (keeper_log x) (keeper_log y) (keeper_log z) one.keeper two.keeper);
}

-- acts after others
pub work-both : (C : Setting) (a b c : PassView) (x y z : Crew) (xs ys : List Act) → IsWork C a b x y xs → pass_number b ≡ pass_number a → IsWork C b c y z ys → IsWork C a c x z (xs ++ ys)
work-both C a b c x y z xs ys one number two = record {
  calls = calls-follow C.shape (pass_number a) xs ys a b c one.calls (subst (λ k. HasMadeCalls b c (calls_in C.shape k ys)) number two.calls);
  crew = crew-both C x y z xs ys one.crew two.crew;
}

-- one pass more
pub worked-on : (C : Setting) (a b c : PassView) (x y z : Crew) (passes count : ℕ) → (passes ≡ 0 → (b ≡ a) × (y ≡ x)) → (0 < passes → HasWorkedOn C a b x y) → pass_number b ≡ pass_number a → HasWorked C b c y z count → HasWorkedOn C a c x z
worked-on C a b c x y z zero count began had number one =
    let at = began refl in
    let alone : HasWorked C a c x z count = subst (λ p. HasWorked C p c x z count) at.0 (subst (λ w. HasWorked C b c w z count) at.1 one) in
    record { first = alone.acts; rest = []; work = subst (IsWork C a c x z) (sym (append-nil alone.acts)) alone.work; begun = alone.is_pass }
worked-on C a b c x y z (suc passes) count began had number one =
    let before = had (omega arith) in
    record {
      first = before.first;
      rest = before.rest ++ one.acts;
      work = subst (IsWork C a c x z) (append_assoc before.first before.rest one.acts) (work-both C a b c x y z (before.first ++ before.rest) one.acts before.work number one.work);
      begun = before.begun;
    }
