use Rattle.state_text.proofs.conditions.word_wanting_room.Goals as goal

pub returns-in-Some-Store : goal.returns-in-Some-Store
returns-in-Some-Store c =
    let known = rw c.in-Some-Store.is at c.in-Some-Store.field-0-is in
    rw (c.in-Some-Store.is, known) c.word_without_room-in-Some-Store.ensures
