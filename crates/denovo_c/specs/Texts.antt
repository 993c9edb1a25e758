-- One text that the caller of a library holds, and the program explain served with it.
use Rattle.std.specs.Prelude.{ℕ, List, Option, Some}
use Rattle.dn_base.specs.declared.status.Status.{Status}
use Rattle.program_outside.specs.Outside.{Devices}
use Rattle.explain_top.specs.Serving.{Serves}
use Rattle.explain_top.specs.Texts.{TextsState, texts_at}

-- every name names this text, and no read of it fails
abbrev pub text_held : List ℕ → TextsState
text_held text = texts_at (λ name. Some text) 0

-- explain was served with the text under every name. What a later read of it would give doesn't matter: the call is over
pub record IsExplainServed (name : Option (List ℕ)) (text : List ℕ) (before after : Devices) (status : Status) : Type 0 where
  pub later : List ℕ
  pub serves : Serves name (text_held text) (text_held later) before after status
