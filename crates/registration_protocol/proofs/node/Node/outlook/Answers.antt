use Rattle.registration_protocol.proofs.node.Node.outlook.Goals as goal

pub returns-in-Some-Store-clause-lacked : goal.returns-in-Some-Store-clause-lacked
returns-in-Some-Store-clause-lacked c =
    let known = rw c.in-Some-Store.is at c.in-Some-Store.field-0-is in
    rw (c.in-Some-Store.is, known) c.access-in-Some-Store.ensures.lacked

pub returns-in-Some-Store-clause-goes : goal.returns-in-Some-Store-clause-goes
returns-in-Some-Store-clause-goes c =
    let known = rw c.in-Some-Store.is at c.in-Some-Store.field-0-is in
    rw (c.in-Some-Store.is, known) c.access-in-Some-Store.ensures.goes
