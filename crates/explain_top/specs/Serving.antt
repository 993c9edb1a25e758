-- What a call of the program reads and writes, and what its status says of that.
use Rattle.std.specs.Prelude.{◌≡◌, ◌⊎◌, ℕ, List, Option, Some, None}
use Rattle.dn_base.specs.Faults.{Rose}
use Rattle.dn_base.specs.declared.status.Status.{Status}
use Rattle.dn_base.specs.declared.status.Status as status
use Rattle.program_outside.specs.Outside.{Devices, IsUntouched}
use Rattle.program_outside.specs.Serving.{AreWordsRefused, IsSourceServed}
use Rattle.program_outside.specs.Statuses.{status_told}
use Rattle.explain_top.specs.declared.texts.Texts as texts_trait
use Rattle.explain_top.specs.Answers.{IsOutput}
use Rattle.explain_top.specs.Texts.{TextsState, IsTextRead, texts_at}

-- the state of texts, by what their type tells
abbrev pub texts_of : {T : Type 0} → texts_trait.Ghosts T → T → TextsState
texts_of tells texts = texts_at (tells.text texts) (tells.faults texts)

-- the text with this name was read, to its end or to one byte more than a text may have, and the answer to it was explained
pub record IsTextServed (name : List ℕ) (texts texts_after : TextsState) (before after : Devices) (end_status : Status) : Type 0 where
  pub text : List ℕ
  pub read : IsTextRead (texts.text name) 1048577 text
  pub faultless : texts_after.faults ≡ texts.faults
  pub served : IsSourceServed status_told 536870913 (IsOutput text) before after end_status

-- the text couldn't be read, and the devices were left alone
abbrev pub IsTextUnread : TextsState → TextsState → Devices → Devices → Status → Type 0
IsTextUnread texts texts_after before after end_status =
    (end_status ≡ status.TheVariants.ReadFault) × (Rose texts.faults texts_after.faults × IsUntouched before after)

-- there was no memory for the words or the text, and the devices were left alone
abbrev pub IsTextUnheld : TextsState → TextsState → Devices → Devices → Status → Type 0
IsTextUnheld texts texts_after before after end_status =
    (end_status ≡ status.TheVariants.Memory) × ((texts_after.faults ≡ texts.faults) × IsUntouched before after)

abbrev pub IsNamedServed : List ℕ → TextsState → TextsState → Devices → Devices → Status → Type 0
IsNamedServed name texts texts_after before after end_status =
    IsTextServed name texts texts_after before after end_status
    ⊎ (IsTextUnread texts texts_after before after end_status ⊎ IsTextUnheld texts texts_after before after end_status)

-- how a call ends with the name of the text that its words give; None if the command doesn't take them: texts and source are
-- left alone then
abbrev pub Serves : Option (List ℕ) → TextsState → TextsState → Devices → Devices → Status → Type 0
Serves None texts texts_after before after end_status = IsUntouched texts texts_after × AreWordsRefused status_told before after end_status
Serves (Some name) texts texts_after before after end_status = IsNamedServed name texts texts_after before after end_status
