use Rattle.std.proofs.Common.{◌≡◌}
use Rattle.claims.specs.declared.claim.ClaimFault.TheVariants.{TooLarge as AreTooMany, Head as NoHead, Memory}
use Rattle.claims.specs.Claim.{IsClaimDocument}
use Rattle.claims.specs.Faults.{HasFault}
use Rattle.claims.proofs.Single.{one-claim, claim-fault, one-fault}
use Rattle.claims.proofs.Told.{answers, faults, told-exactly}
use Rattle.claims.proofs.parsing.read_claim.Goals as goal

pub returns-clause-read : goal.returns-clause-read
returns-clause-read c = answers (IsClaimDocument c.args.bytes.now) (HasFault c.args.bytes.now) (one-claim c.args.bytes.now) (claim-fault c.args.bytes.now) c.read.result c.read.ensures.ok c.read.ensures.err

pub returns-clause-refused : goal.returns-clause-refused
returns-clause-refused c = faults (IsClaimDocument c.args.bytes.now) (HasFault c.args.bytes.now) (one-fault c.args.bytes.now) (claim-fault c.args.bytes.now) c.read.result c.read.ensures.ok c.read.ensures.err

pub returns-clause-large : goal.returns-clause-large
returns-clause-large c = told-exactly (HasFault c.args.bytes.now) c.read.result AreTooMany (λ (e : AreTooMany ≡ Memory). cc) c.read.ensures.err c.read.ensures.large

pub returns-clause-head : goal.returns-clause-head
returns-clause-head c = told-exactly (HasFault c.args.bytes.now) c.read.result NoHead (λ (e : NoHead ≡ Memory). cc) c.read.ensures.err c.read.ensures.head
