use Rattle.machine_rules.proofs.Refused.{no-store_buffering, no-message_passing, no-read_read, no-independent_reads}
use Rattle.machine_rules.proofs.litmus.forbidden_outcomes_have_no_sequential_order.Goals as goal

pub returns-clause-store_buffering : goal.returns-clause-store_buffering
returns-clause-store_buffering c = no-store_buffering

pub returns-clause-message_passing : goal.returns-clause-message_passing
returns-clause-message_passing c = no-message_passing

pub returns-clause-read_read : goal.returns-clause-read_read
returns-clause-read_read c = no-read_read

pub returns-clause-independent_reads : goal.returns-clause-independent_reads
returns-clause-independent_reads c = no-independent_reads
