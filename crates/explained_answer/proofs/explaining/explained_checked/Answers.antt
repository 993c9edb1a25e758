use Rattle.std.proofs.Common.{inl, inr, subst, MatchOption}
use Rattle.std.specs.Prelude.{Option}
use Rattle.explained_answer.specs.declared.explaining.Explained.{Explained}
use Rattle.explained_answer.specs.Explained.{IsNoTrace, IsTraceAnswer}
use Rattle.explained_answer.proofs.Steps.{if-ok}
use Rattle.explained_answer.proofs.explaining.explained_checked.Goals as goal

pub returns-in-Some : goal.returns-in-Some
returns-in-Some c =
    let text = c.args.text.now in
    let answer = c.args.answer.now in
    let is = subst (λ (o : Option Explained). MatchOption o (IsNoTrace text answer) (IsTraceAnswer text answer)) c.in-Some.is c.in_ok-found.ensures in
    inl (record {
      located = c.args.located.now;
      is_located = c.requires.located;
      is_checked = c.requires.checked;
      no_listing = c.requires.no_listing;
      answer_is = is;
    })

pub returns-in-None : goal.returns-in-None
returns-in-None c =
    let text = c.args.text.now in
    let answer = c.args.answer.now in
    let is = subst (λ (o : Option Explained). MatchOption o (IsNoTrace text answer) (IsTraceAnswer text answer)) c.in-None.is c.in_ok-found.ensures in
    if-ok c.explained_run.result _ _
    (λ e h. inr (record {
      located = c.args.located.now;
      is_located = c.requires.located;
      is_checked = c.requires.checked;
      no_listing = c.requires.no_listing;
      no_trace = is;
      answer_is = h;
    }))
    c.explained_run.ensures
