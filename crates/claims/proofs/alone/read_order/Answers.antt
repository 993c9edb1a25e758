use Rattle.std.proofs.Common.{◌≡◌}
use Rattle.claims.specs.declared.claim.ClaimFault.TheVariants.{TooLarge as AreTooMany, Head as NoHead, Memory}
use Rattle.claims.specs.Alone.{IsOrderDocument, HasOrderFault}
use Rattle.claims.proofs.Fronts.{one-order, order-fault, one-order_fault}
use Rattle.claims.proofs.Told.{answers, faults, told-exactly}
use Rattle.claims.proofs.alone.read_order.Goals as goal

pub returns-clause-read : goal.returns-clause-read
returns-clause-read c = answers (IsOrderDocument c.args.bytes.now) (HasOrderFault c.args.bytes.now) (one-order c.args.bytes.now) (order-fault c.args.bytes.now) c.order.result c.order.ensures.ok c.order.ensures.err

pub returns-clause-refused : goal.returns-clause-refused
returns-clause-refused c = faults (IsOrderDocument c.args.bytes.now) (HasOrderFault c.args.bytes.now) (one-order_fault c.args.bytes.now) (order-fault c.args.bytes.now) c.order.result c.order.ensures.ok c.order.ensures.err

pub returns-clause-large : goal.returns-clause-large
returns-clause-large c = told-exactly (HasOrderFault c.args.bytes.now) c.order.result AreTooMany (λ (e : AreTooMany ≡ Memory). cc) c.order.ensures.err c.order.ensures.large

pub returns-clause-head : goal.returns-clause-head
returns-clause-head c = told-exactly (HasOrderFault c.args.bytes.now) c.order.result NoHead (λ (e : NoHead ≡ Memory). cc) c.order.ensures.err c.order.ensures.head
