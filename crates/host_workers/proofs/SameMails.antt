-- A test that tells mails apart, and lists of mails that weigh the same.
use Rattle.std.proofs.Common.{◌≡◌, ℕ, ◌+◌, ◌<◌, ◌≤◌, Bool, true, false, ◌&&◌, ◌==◌, List, [], ◌∷◌, get_or, slice_get, Some, refl, sym, ap, subst, ◌∙◌, arith}
use Rattle.std.specs.Prelude.{sum_by, IsPermutation, swap_remove}
use Rattle.std.proofs.lemmas.Bool.Decides.{nat_tests}
use Rattle.std.proofs.lemmas.Option.{slice_get_within, get_or_from_slice_get}
use Rattle.std.proofs.lemmas.List.Sums.{sum_by-cons, sum_by-swap_remove}
use Rattle.std.proofs.lemmas.List.Sorted.{IsPermutation-refl, IsPermutation-cons, IsPermutation-sym, IsPermutation-trans, IsPermutation-swap_remove}
use Rattle.message_net.specs.declared.event.EventKind as kind
use Rattle.message_net.specs.declared.event.EventKind.{EventKind}
use Rattle.message_net.specs.declared.message.Message.{Message}
use Rattle.message_net.specs.declared.message.Message.TheVariants.{ReadReq, ReadFwd, DataReply, RegReq, RegFwd, RegAck, WriteBack, WbAck, Acquire, Release, Grant, Arrived, Go, Halt}
use Rattle.message_net.specs.declared.message.Mail.{Mail}
use Rattle.message_net.specs.Id.{same_actor, same_id}
use Rattle.message_net.specs.Kind.{kind_of, kind_index}
use Rattle.message_net.proofs.PoolLemmas.{same_actor-true, same_actor-refl, same_id-true, same_id-refl}
use Rattle.machine_rules.specs.Flight.{bit}
use Rattle.grant_log.specs.declared.posted.Posted.{Posted}
use Rattle.host_workers.proofs.Weights.{somewhere}

-- the kinds in their places
abbrev kinds : List EventKind
kinds = kind.TheVariants.Instr ∷ kind.TheVariants.Evict ∷ kind.TheVariants.Arrive ∷ kind.TheVariants.ReadReq ∷ kind.TheVariants.ReadFwd ∷ kind.TheVariants.DataReply ∷ kind.TheVariants.RegReq ∷ kind.TheVariants.RegFwd ∷ kind.TheVariants.RegAck ∷ kind.TheVariants.WriteBack ∷ kind.TheVariants.WbAck ∷ kind.TheVariants.Acquire ∷ kind.TheVariants.Release ∷ kind.TheVariants.Grant ∷ kind.TheVariants.Arrived ∷ kind.TheVariants.Go ∷ kind.TheVariants.Halt ∷ []

abbrev at_place : ℕ → EventKind
at_place n = get_or kinds n kind.TheVariants.Instr

placed : (k : EventKind) → at_place (kind_index k) ≡ k
placed kind.TheVariants.Instr = refl
placed kind.TheVariants.Evict = refl
placed kind.TheVariants.Arrive = refl
placed kind.TheVariants.ReadReq = refl
placed kind.TheVariants.ReadFwd = refl
placed kind.TheVariants.DataReply = refl
placed kind.TheVariants.RegReq = refl
placed kind.TheVariants.RegFwd = refl
placed kind.TheVariants.RegAck = refl
placed kind.TheVariants.WriteBack = refl
placed kind.TheVariants.WbAck = refl
placed kind.TheVariants.Acquire = refl
placed kind.TheVariants.Release = refl
placed kind.TheVariants.Grant = refl
placed kind.TheVariants.Arrived = refl
placed kind.TheVariants.Go = refl
placed kind.TheVariants.Halt = refl

-- what a message says besides its kind, and the message of a kind that says this
abbrev said : Message → List ℕ
said (ReadReq word reader) = word.0 ∷ reader.0 ∷ []
said (ReadFwd word reader) = word.0 ∷ reader.0 ∷ []
said (DataReply word value) = word.0 ∷ value ∷ []
said (RegReq word core) = word.0 ∷ core.0 ∷ []
said (RegFwd word core) = word.0 ∷ core.0 ∷ []
said (RegAck word) = word.0 ∷ []
said (WriteBack word value core) = word.0 ∷ value ∷ core.0 ∷ []
said (WbAck word) = word.0 ∷ []
said (Acquire lock core) = lock.0 ∷ core.0 ∷ []
said (Release lock core s) = lock.0 ∷ core.0 ∷ s.low ∷ s.high ∷ s.phase.0 ∷ []
said (Grant lock s) = lock.0 ∷ s.low ∷ s.high ∷ s.phase.0 ∷ []
said (Arrived core bad) = core.0 ∷ bit bad ∷ []
said (Go phase) = phase.0 ∷ []
said Halt = []

abbrev part : List ℕ → ℕ → ℕ
part xs i = get_or xs i 0

abbrev message_of : EventKind → List ℕ → Message
message_of kind.TheVariants.ReadReq xs = ReadReq (record { 0 = part xs 0 }) (record { 0 = part xs 1 })
message_of kind.TheVariants.ReadFwd xs = ReadFwd (record { 0 = part xs 0 }) (record { 0 = part xs 1 })
message_of kind.TheVariants.DataReply xs = DataReply (record { 0 = part xs 0 }) (part xs 1)
message_of kind.TheVariants.RegReq xs = RegReq (record { 0 = part xs 0 }) (record { 0 = part xs 1 })
message_of kind.TheVariants.RegFwd xs = RegFwd (record { 0 = part xs 0 }) (record { 0 = part xs 1 })
message_of kind.TheVariants.RegAck xs = RegAck (record { 0 = part xs 0 })
message_of kind.TheVariants.WriteBack xs = WriteBack (record { 0 = part xs 0 }) (part xs 1) (record { 0 = part xs 2 })
message_of kind.TheVariants.WbAck xs = WbAck (record { 0 = part xs 0 })
message_of kind.TheVariants.Acquire xs = Acquire (record { 0 = part xs 0 }) (record { 0 = part xs 1 })
message_of kind.TheVariants.Release xs = Release (record { 0 = part xs 0 }) (record { 0 = part xs 1 }) (record { low = part xs 2; high = part xs 3; phase = record { 0 = part xs 4 } })
message_of kind.TheVariants.Grant xs = Grant (record { 0 = part xs 0 }) (record { low = part xs 1; high = part xs 2; phase = record { 0 = part xs 3 } })
message_of kind.TheVariants.Arrived xs = Arrived (record { 0 = part xs 0 }) (part xs 1 == 1)
message_of kind.TheVariants.Go xs = Go (record { 0 = part xs 0 })
message_of kind.TheVariants.Halt xs = Halt
message_of kind.TheVariants.Instr xs = Halt
message_of kind.TheVariants.Evict xs = Halt
message_of kind.TheVariants.Arrive xs = Halt

recalled : (m : Message) → message_of (kind_of m) (said m) ≡ m
recalled (ReadReq word reader) = refl
recalled (ReadFwd word reader) = refl
recalled (DataReply word value) = refl
recalled (RegReq word core) = refl
recalled (RegFwd word core) = refl
recalled (RegAck word) = refl
recalled (WriteBack word value core) = refl
recalled (WbAck word) = refl
recalled (Acquire lock core) = refl
recalled (Release lock core s) = refl
recalled (Grant lock s) = refl
recalled (Arrived core true) = refl
recalled (Arrived core false) = refl
recalled (Go phase) = refl
recalled Halt = refl

abbrev same_numbers : List ℕ → List ℕ → Bool
same_numbers [] [] = true
same_numbers (x ∷ xs) (y ∷ ys) = (x == y) && same_numbers xs ys
same_numbers _ _ = false

both : (a b : Bool) → (a && b) ≡ true → (a ≡ true) × (b ≡ true)
both true true e = (refl, refl)
both true false e = cc
both false b e = cc

same_numbers-true : (xs ys : List ℕ) → same_numbers xs ys ≡ true → xs ≡ ys
same_numbers-true [] [] e = refl
same_numbers-true [] (y ∷ ys) e = cc
same_numbers-true (x ∷ xs) [] e = cc
same_numbers-true (x ∷ xs) (y ∷ ys) e =
    let parts = both (x == y) (same_numbers xs ys) e in
    let here : x ≡ y = grind (arith, nat_tests, parts.0) in
    ap (λ a. a ∷ xs) here ∙ ap (λ l. y ∷ l) (same_numbers-true xs ys parts.1)

pub itself : (n : ℕ) → (n == n) ≡ true
itself n = grind (arith, nat_tests)

same_numbers-refl : (xs : List ℕ) → same_numbers xs xs ≡ true
same_numbers-refl [] = refl
same_numbers-refl (x ∷ xs) = ap (λ b. b && same_numbers xs xs) (itself x) ∙ same_numbers-refl xs

-- a kind, with what the message says
abbrev same_message : Message → Message → Bool
same_message a b = (kind_index (kind_of a) == kind_index (kind_of b)) && same_numbers (said a) (said b)

same_message-true : (a b : Message) → same_message a b ≡ true → a ≡ b
same_message-true a b e =
    let parts = both (kind_index (kind_of a) == kind_index (kind_of b)) (same_numbers (said a) (said b)) e in
    let place : kind_index (kind_of a) ≡ kind_index (kind_of b) = grind (arith, nat_tests, parts.0) in
    let kinds_are : kind_of a ≡ kind_of b = sym (placed (kind_of a)) ∙ (ap at_place place ∙ placed (kind_of b)) in
    sym (recalled a) ∙ (ap (λ k. message_of k (said a)) kinds_are ∙ (ap (message_of (kind_of b)) (same_numbers-true (said a) (said b) parts.1) ∙ recalled b))

same_message-refl : (m : Message) → same_message m m ≡ true
same_message-refl m = ap (λ b. b && same_numbers (said m) (said m)) (itself (kind_index (kind_of m))) ∙ same_numbers-refl (said m)

unfoldable pub same_mail : Mail → Mail → Bool
same_mail a b = same_id a.id b.id && (same_actor a.to b.to && same_message a.message b.message)

pub same_mail-true : (a b : Mail) → same_mail a b ≡ true → a ≡ b
unfolding same_mail
same_mail-true a b e =
    let parts = both (same_id a.id b.id) (same_actor a.to b.to && same_message a.message b.message) e in
    let rest = both (same_actor a.to b.to) (same_message a.message b.message) parts.1 in
    let id : a.id ≡ b.id = same_id-true a.id b.id parts.0 in
    let to : a.to ≡ b.to = same_actor-true a.to b.to rest.0 in
    let message : a.message ≡ b.message = same_message-true a.message b.message rest.1 in
    λ i. record { id = id i; to = to i; message = message i }

pub same_mail-refl : (m : Mail) → same_mail m m ≡ true
unfolding same_mail
same_mail-refl m =
    ap (λ b. b && (same_actor m.to m.to && same_message m.message m.message)) (same_id-refl m.id)
    ∙ (ap (λ b. b && same_message m.message m.message) (same_actor-refl m.to) ∙ same_message-refl m.message)

unfoldable pub same_posted : Posted → Posted → Bool
same_posted p q = (p.stamp == q.stamp) && same_mail p.mail q.mail

pub same_posted-true : (p q : Posted) → same_posted p q ≡ true → p ≡ q
unfolding same_posted
same_posted-true p q e =
    let parts = both (p.stamp == q.stamp) (same_mail p.mail q.mail) e in
    let stamp : p.stamp ≡ q.stamp = grind (arith, nat_tests, parts.0) in
    let mail : p.mail ≡ q.mail = same_mail-true p.mail q.mail parts.1 in
    λ i. record { mail = mail i; stamp = stamp i }

pub same_posted-refl : (p : Posted) → same_posted p p ≡ true
unfolding same_posted
same_posted-refl p = ap (λ b. b && same_mail p.mail p.mail) (itself p.stamp) ∙ same_mail-refl p.mail

-- mails with different stamps differ
pub other_stamp : (p q : Posted) → p.stamp < q.stamp → same_posted p q ≡ false
unfolding same_posted
other_stamp p q below =
    let apart : (p.stamp == q.stamp) ≡ false = grind (arith, nat_tests, below) in
    ap (λ b. b && same_mail p.mail q.mail) apart

-- what passes weighs 1
pub passes : (b : Bool) → 1 ≤ bit b → b ≡ true
passes true some = refl
passes false some = absurd (omega (arith, some))

-- an element at a place leaves, and the others weigh what they weighed
pub sum-left : {X : Type 0} (f : X → ℕ) (xs : List X) (place : ℕ) (x : X) → slice_get xs place ≡ Some x → sum_by f (swap_remove xs place x) + f x ≡ sum_by f xs
sum-left f xs place x found =
    let within = slice_get_within xs place x found in
    let at : get_or xs place x ≡ x = get_or_from_slice_get xs place x x found in
    let moved = sum_by-swap_remove f xs place x within in
    rw at at moved

-- mails that weigh the same by every weight are the same mails
pub same_elements : (xs ys : List Mail) → ((f : Mail → ℕ) → sum_by f xs ≡ sum_by f ys) → IsPermutation xs ys
same_elements [] [] same = IsPermutation-refl []
same_elements [] (y ∷ ys) same =
    let none = same (λ m. 1) in
    absurd (omega (arith, none, sum_by-cons (λ (m : Mail). 1) y ys))
same_elements (x ∷ xs) ys same =
    let weight : Mail → ℕ = λ m. bit (same_mail x m) in
    let one : bit (same_mail x x) ≡ 1 = ap bit (same_mail-refl x) in
    let found = somewhere (λ m. bit (same_mail x m)) ys (omega (arith, same (λ m. bit (same_mail x m)), sum_by-cons (λ m. bit (same_mail x m)) x xs, one)) in
    let is : x ≡ found.1 = same_mail-true x found.1 (passes (same_mail x found.1) found.3) in
    let here : slice_get ys found.0 ≡ Some x = subst (λ m. slice_get ys found.0 ≡ Some m) (sym is) found.2 in
    let rest = same_elements xs (swap_remove ys found.0 x) (λ f. omega (arith, same f, sum_by-cons f x xs, sum-left f ys found.0 x here)) in
    let apart = IsPermutation-swap_remove ys found.0 x (slice_get_within ys found.0 x here) (sym (get_or_from_slice_get ys found.0 x x here)) in
    IsPermutation-trans (x ∷ xs) (x ∷ swap_remove ys found.0 x) ys (IsPermutation-cons x xs (swap_remove ys found.0 x) rest) (IsPermutation-sym ys (x ∷ swap_remove ys found.0 x) apart)
