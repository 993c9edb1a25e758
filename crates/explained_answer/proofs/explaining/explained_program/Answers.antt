use Rattle.std.proofs.Common.{inl, inr, subst, MatchOption}
use Rattle.std.specs.Prelude.{Option}
use Rattle.explained_answer.specs.declared.explaining.Explained.{Explained}
use Rattle.explained_answer.specs.Explained.{IsNoListing, IsListingAnswer}
use Rattle.explained_answer.proofs.Steps.{if-ok}
use Rattle.explained_answer.proofs.explaining.explained_program.Goals as goal

pub returns-in-Some : goal.returns-in-Some
returns-in-Some c =
    let text = c.args.text.now in
    let l = c.args.located.now in
    let answer = c.args.answer.now in
    let is = subst (λ (o : Option Explained). MatchOption o (IsNoListing text l answer) (IsListingAnswer text l answer)) c.in-Some.is c.in_ok-listed.ensures in
    inl (record { located = l; is_located = c.requires.located; answer_is = is })

pub returns-in-None : goal.returns-in-None
returns-in-None c = if-ok c.explained_unlisted.result _ _ (λ e h. inr h) c.explained_unlisted.ensures
