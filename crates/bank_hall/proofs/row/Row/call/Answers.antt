use Rattle.bank_hall.proofs.RowLemmas.{keeps, called, made_more}
use Rattle.bank_hall.proofs.row.Row.call.Goals as goal

pub returns-clause-caller : goal.returns-clause-caller
returns-clause-caller g c = keeps _ _ _ _ _ _ _ _ _ c.self.view_is c.caller.view_is c.requires.caller c.requires.place c.index.ensures c.index_mut.ensures.value c.call.ensures.pass

pub returns-clause-call : goal.returns-clause-call
returns-clause-call g c = called _ _ _ _ _ _ _ _ _ _ _ _ _ c.call.result c.self.view_is c.caller.view_is c.requires.caller c.requires.place c.index.ensures c.index_mut.ensures.value c.call.ensures.pass c.call.ensures.legal c.call.ensures.seen c.call.ensures.made c.call.ensures.own

pub returns-clause-made : goal.returns-clause-made
returns-clause-made g c = made_more g.O.Object.content g.O.Object.answer g.O.Object.next _ _ _ _ _ _ _ _ _ _ c.call.result c.self.view_is c.caller.view_is c.requires.caller c.requires.place c.index.ensures c.index_mut.ensures.value c.call.ensures.made
