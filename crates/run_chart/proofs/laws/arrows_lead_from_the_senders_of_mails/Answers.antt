use Rattle.run_chart.proofs.Shown.{rows-tell, mails-leave, all-leave}
use Rattle.run_chart.proofs.laws.arrows_lead_from_the_senders_of_mails.Goals as goal

pub returns-clause-rows : goal.returns-clause-rows
returns-clause-rows c = λ C events range chain columns i row ready run here. rows-tell C events ready run range chain columns i row here

pub returns-clause-leaving : goal.returns-clause-leaving
returns-clause-leaving c = λ C events range chain columns i mail ready run here. mails-leave C events ready run range chain columns i mail here

pub returns-clause-all_leaving : goal.returns-clause-all_leaving
returns-clause-all_leaving c = λ C events range chain columns ready run. all-leave C events ready run range chain columns
