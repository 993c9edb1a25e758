-- What a history of calls is, and when it is one that a single thread could have made.
use Rattle.std.specs.Prelude.{◌≡◌, ℕ, ◌==◌, List, [], ◌∷◌, ◌++◌, filter}
use Rattle.turn_lock.specs.declared.entry.Entry.{Entry}

-- the history begins with what was seen
abbrev pub BeginsWith : {E : Type 0} → List E → List E → Type 0
BeginsWith {E} history seen = (rest : List E) × (history ≡ seen ++ rest)

-- the history begins with what was seen, and its last call is this one
abbrev pub EndsWith : {E : Type 0} → List E → E → List E → Type 0
EndsWith {E} seen call history = (between : List E) × (history ≡ (seen ++ between) ++ call ∷ [])

module _ {O I U : Type 0} where
  -- one call: the pass that made it, what it was given, and what it answered
  abbrev pub entry : ℕ → I → U → Entry O I U
  entry number input output = record { pass = number; input = input; output = output }

  abbrev pub maker : Entry O I U → ℕ
  maker e = e.pass

  -- the calls that one pass made, in their order
  abbrev pub calls_by : ℕ → List (Entry O I U) → List (Entry O I U)
  calls_by number history = filter (λ e. maker e == number) history

  -- the history gives the object's answers: applied one after the other from the content x, its inputs give its outputs, and
  -- the content y at the end
  abbrev pub Legal : {C : Type 0} → (C → I → U) → (C → I → C) → C → List (Entry O I U) → C → Type 0
  Legal answer next x [] y = x ≡ y
  Legal answer next x (e ∷ es) y = (e.output ≡ answer x e.input) × Legal answer next (next x e.input) es y

  -- the history ends with this call, whose output is the answer of the content to which the calls before it lead from x
  abbrev pub IsAnswered : {C : Type 0} → (C → I → U) → (C → I → C) → C → Entry O I U → List (Entry O I U) → Type 0
  IsAnswered {C} answer next x call history =
      (before : List (Entry O I U)) × (there : C) × (history ≡ before ++ call ∷ []) × Legal answer next x before there × (call.output ≡ answer there call.input)
