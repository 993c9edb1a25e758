use Rattle.run_chart.proofs.Shown.{rows-shown, mails-shown, leaving-shown, waiting-shown}
use Rattle.run_chart.proofs.laws.rows_and_arrows_have_columns.Goals as goal

pub returns-clause-rows : goal.returns-clause-rows
returns-clause-rows c = λ C events range chain columns i row ready run here. rows-shown C events ready run range chain columns i row here

pub returns-clause-mails : goal.returns-clause-mails
returns-clause-mails c = λ C events range chain columns i row mail ready run here is. mails-shown C events ready run range chain columns i row mail here is

pub returns-clause-leaving : goal.returns-clause-leaving
returns-clause-leaving c = λ C events range chain columns i mail ready run here. leaving-shown C events ready run range chain columns i mail here

pub returns-clause-waiting : goal.returns-clause-waiting
returns-clause-waiting c = λ C events range chain columns i task ready run here. waiting-shown C events ready run range chain columns i task here
