-- What is answered to as much of a source as is read is what is answered to all that it has.
use Rattle.std.proofs.Common.{◌≡◌, inl, inr, ℕ, ◌<◌, ◌≤◌, nat_lt, Bool, true, false, List, [], ◌++◌, length, Option, Some, None, IfSome, refl, sym, ap, subst, ◌∙◌, arith, append-nil}
use Rattle.std.proofs.lemmas.Bool.Decides.{nat_tests}
use Rattle.std.specs.Io.KnownBytes.{Consumes, IsAtEnd}
use Rattle.program_outside.specs.declared.ends.Failure.{Failure}
use Rattle.program_outside.specs.declared.ends.Output.{Output}
use Rattle.program_outside.specs.Outside.{SourceState, Devices, GaveAtMost, IsRead}
use Rattle.program_outside.specs.Serving.{IsDone, IsEnough, IsInputServed, IsReadFor, IsServed, IsSourceServed, IsTakenFor}

stands : {O : Type 0} (IsAnswer : List ℕ → O → Type 0) (most : ℕ) (told left : Option (List ℕ)) (text : List ℕ) → IsEnough IsAnswer most → Consumes told left text → length text ≤ most
    → (length text < most → IsAtEnd left) → IfSome told (λ all. (out : O) → IsAnswer text out → IsAnswer all out)
stands IsAnswer most None left text enough bytes within whole = tt
stands IsAnswer most (Some all) None text enough bytes within whole = absurd bytes
stands IsAnswer most (Some all) (Some rest) text enough bytes within whole = λ out is. by_test out is (nat_lt (length text) most) refl
  where
    by_test : (out : _) → IsAnswer text out → (b : Bool) → nat_lt (length text) most ≡ b → IsAnswer all out
    by_test out is true test =
        let ends : rest ≡ [] = whole (grind (arith, nat_tests)) in
        subst (λ (x : List ℕ). IsAnswer x out) (sym (bytes ∙ ap (λ r. text ++ r) ends ∙ append-nil text)) is
    by_test out is false test =
        let full : length text ≡ most = grind (arith, nat_tests) in
        subst (λ (x : List ℕ). IsAnswer x out) (sym bytes) (enough text rest out full is)

module _ {E : Type 0} (told : Failure → E) where
  -- a text that was read stands for all that its source had
  pub read-for : (IsAnswer : List ℕ → Output E → Type 0) (most : ℕ) (before after : SourceState) (text : List ℕ) → IsEnough IsAnswer most → IsRead before after most text → IsReadFor told IsAnswer most before after text
  read-for IsAnswer most before after text enough read = record { read = read; all = stands IsAnswer most before.bytes after.bytes text enough read.bytes read.within read.whole }

  gave-few : (before after : SourceState) (most bound : ℕ) → most ≤ bound → GaveAtMost before after most → GaveAtMost before after bound
  gave-few before after most bound few gave = record { bytes = gave.bytes; taken = gave.taken; within = omega (arith, gave.within, few) }

  done-taken : (IsAnswer : List ℕ → Output E → Type 0) (most : ℕ) (before after : Devices) (status : E)
      → IsDone told (λ (old new : SourceState) (text : List ℕ). IsReadFor told IsAnswer most old new text) IsAnswer before after status
      → IsDone told (λ (old new : SourceState) (text : List ℕ). IsTakenFor told IsAnswer old new text) IsAnswer before after status
  done-taken IsAnswer most before after status (inl served) =
      inl (record {
        text = served.text;
        obtained = record { bytes = served.obtained.read.bytes; faultless = served.obtained.read.faultless; all = served.obtained.all };
        reply = served.reply;
      })
  done-taken IsAnswer most before after status (inr without) = inr without

  -- what a program does that reads no more than a document may have, in the words that serve every program
  pub input-served : (IsAnswer : List ℕ → Output E → Type 0) (most : ℕ) (before after : Devices) (status : E) → most ≤ 536870913
      → IsSourceServed told most IsAnswer before after status → IsInputServed told IsAnswer before after status
  input-served IsAnswer most before after status few (gave, done) = (gave-few before.source after.source most 536870913 few gave, done-taken IsAnswer most before after status done)
