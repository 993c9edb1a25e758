use Rattle.std.specs.List.{range_with_len, filter_map}
use Rattle.bank_hall.specs.Note.{letter_to}
use Rattle.bank_hall.specs.Halls.{HasMadeCalls, pass_number}
use Rattle.host_workers.specs.Acts.{postings}
use Rattle.host_workers.specs.Work.{KeepsNumber}
use Rattle.host_workers.proofs.emitting.emit_letters.Given as goal

abbrev pub invariant-loop-core : goal.invariant-loop-core
invariant-loop-core g l = record {
  pass : KeepsNumber l.hall l.fn.pass l.pass;
  made : HasMadeCalls l.fn.pass l.pass (postings l.shape (pass_number l.fn.pass) (filter_map (letter_to l.handled) (range_with_len 0 l.core)));
}
