use Rattle.run_replay.proofs.Single.{reads, refuses}
use Rattle.run_replay.proofs.parsing.read_trace.Goals as goal

pub returns-clause-read : goal.returns-clause-read
returns-clause-read c = reads c.args.bytes.now c.read.result c.read.ensures.ok c.read.ensures.err

pub returns-clause-refused : goal.returns-clause-refused
returns-clause-refused c = refuses c.args.bytes.now c.read.result c.read.ensures.ok c.read.ensures.err
