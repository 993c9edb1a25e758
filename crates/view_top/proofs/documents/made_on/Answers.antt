use Rattle.view_top.proofs.documents.made_on.Goals as goal

pub returns-in-Ok-clause-kept : goal.returns-in-Ok-clause-kept
returns-in-Ok-clause-kept c = c.in-Ok.ensures.kept

pub returns-in-Ok-clause-setting : goal.returns-in-Ok-clause-setting
returns-in-Ok-clause-setting c = c.in-Ok.ensures.setting

pub returns-in-Err-clause-stop : goal.returns-in-Err-clause-stop
returns-in-Err-clause-stop c = c.in-Err.ensures.stop
