-- A row of turns, one for each of several objects of one kind. A caller has a pass of each turn, and all its passes have one number.
use Rattle.std.specs.Prelude.{◌≡◌, ℕ, ◌+◌, ◌==◌, List, [], ◌∷◌, ◌++◌, length, map, All, Option, Some, None, slice_get, slice_set, if◌then◌else◌, ◌<◌}
use Rattle.turn_lock.specs.declared.entry.Entry.{Entry}
use Rattle.turn_lock.specs.History.{Legal, calls_by}
use Rattle.turn_lock.specs.Passes.{Sharing, Token, IsPassOf, IsSamePass, IsTold}

-- a caller's number, and its passes in the order of the turns
pub record Tokens (O I U : Type 0) : Type 0 where
  pub number : ℕ
  pub passes : List (Token O I U)

-- the caller's passes are passes of these turns, one of each, with its number
pub record HasPassesOf {O I U : Type 0} (turns : List (Sharing O)) (caller : Tokens O I U) : Type 0 where
  pub count : length caller.passes ≡ length turns
  pub each : (i : ℕ) (turn : Sharing O) (pass : Token O I U) → slice_get turns i ≡ Some turn → slice_get caller.passes i ≡ Some pass → IsPassOf turn pass × (pass.number ≡ caller.number)

module _ {O I U : Type 0} where
  abbrev pub made_by : Option (Token O I U) → List (Entry O I U)
  made_by None = []
  made_by (Some pass) = pass.made

  -- the calls that a caller made of the object at a place
  abbrev pub made_of : Tokens O I U → ℕ → List (Entry O I U)
  made_of caller place = made_by (slice_get caller.passes place)

  -- one call of the object at a place, and none of the others
  abbrev pub one_call : ℕ → Entry O I U → ℕ → List (Entry O I U)
  one_call place call i = if place == i then call ∷ [] else []

  -- no call
  abbrev pub no_call : ℕ → List (Entry O I U)
  no_call i = []

  -- the caller made exactly these further calls of each object
  abbrev pub HasMade : Tokens O I U → Tokens O I U → (ℕ → List (Entry O I U)) → Type 0
  HasMade old new more = (i : ℕ) → made_of new i ≡ made_of old i ++ more i

-- A call of the object at an index. The caller's pass of it has then seen a history that a single thread could have made. It
-- begins with what the pass had seen, and ends with this call, whose answer is that of the object's content at that point
pub record HasCalled {O I U C : Type 0} (content : O → C) (answer : C → I → U) (next : C → I → C) (turns : List (Sharing O)) (place : ℕ) (call : Entry O I U) (old new : List (Token O I U)) : Type 0 where
  pub turn : Sharing O
  pub before : Token O I U
  pub after : Token O I U
  pub object : slice_get turns place ≡ Some turn
  pub was : slice_get old place ≡ Some before
  pub now : new ≡ slice_set old place after
  pub same : IsSamePass before after
  pub between : List (Entry O I U)
  pub seen : after.seen ≡ (before.seen ++ between) ++ call ∷ []
  pub there : C
  pub legal : Legal answer next (content turn.opening) (before.seen ++ between) there
  pub answered : call.output ≡ answer there call.input
  pub made : after.made ≡ before.made ++ call ∷ []
  pub own : calls_by after.number after.seen ≡ after.made

-- the turns share these objects, in their order, each among this many passes
pub record AreShared {O : Type 0} (passes : ℕ) (objects : List O) (turns : List (Sharing O)) : Type 0 where
  pub opened : map (λ (t : Sharing O). t.opening) turns ≡ objects
  pub shared : All (λ (t : Sharing O). t.passes ≡ passes) turns

-- a caller with this number, whose passes of these turns have seen nothing and made no call
pub record IsNew {O I U : Type 0} (turns : List (Sharing O)) (number : ℕ) (caller : Tokens O I U) : Type 0 where
  pub fits : HasPassesOf turns caller
  pub numbered : caller.number ≡ number
  pub unused : All (λ (p : Token O I U). (p.seen ≡ []) × (p.made ≡ [])) caller.passes

module _ {O I U : Type 0} where
  -- such callers, with rising numbers from this one on
  abbrev pub AreNew : List (Sharing O) → ℕ → List (Tokens O I U) → Type 0
  AreNew turns number [] = Unit {0}
  AreNew turns number (c ∷ cs) = IsNew turns number c × AreNew turns (number + 1) cs

  -- each caller has one more pass, before its others
  abbrev pub handed : List (Tokens O I U) → List (Token O I U) → List (Tokens O I U)
  handed [] ps = []
  handed (c ∷ cs) [] = c ∷ cs
  handed (c ∷ cs) (p ∷ ps) = record c { passes = p ∷ c.passes } ∷ handed cs ps

  -- each caller has one more pass, after its others
  abbrev pub with_passes : List (Tokens O I U) → List (Token O I U) → List (Tokens O I U)
  with_passes [] ps = []
  with_passes (c ∷ cs) [] = c ∷ cs
  with_passes (c ∷ cs) (p ∷ ps) = record c { passes = c.passes ++ p ∷ [] } ∷ with_passes cs ps

  -- for each object, the history begins with what the pass has seen, and its calls by the pass are exactly those that the pass
  -- made, in order
  abbrev pub AreTold : List (List (Entry O I U)) → List (Token O I U) → Type 0
  AreTold [] [] = Unit {0}
  AreTold (h ∷ hs) (p ∷ ps) = IsTold h p × AreTold hs ps
  AreTold _ _ = ⊥

  -- for each object, a single thread could have made the history, from the object at the start to the one that is handed back,
  -- and each call is of one of the passes
  abbrev pub AreClosed : {C : Type 0} → (O → C) → (C → I → U) → (C → I → C) → List (Sharing O) → List O → List (List (Entry O I U)) → Type 0
  AreClosed content answer next [] [] [] = Unit {0}
  AreClosed content answer next (t ∷ ts) (o ∷ os) (h ∷ hs) =
      (Legal answer next (content t.opening) h (content o) × All (λ (e : Entry O I U). e.pass < t.passes) h) × AreClosed content answer next ts os hs
  AreClosed content answer next _ _ _ = ⊥

-- these are all callers of these turns
pub record AreAllCallers {O I U : Type 0} (turns : List (Sharing O)) (callers : List (Tokens O I U)) : Type 0 where
  pub fit : All (HasPassesOf turns) callers
  pub shared : All (λ (t : Sharing O). t.passes ≡ length callers) turns
