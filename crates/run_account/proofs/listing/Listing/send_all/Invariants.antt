use Rattle.std.proofs.Common.{◌≡◌, drop}
use Rattle.run_account.specs.Counts.{messages_items}
use Rattle.run_account.specs.Runs.{listing}
use Rattle.run_account.proofs.listing.Listing.send_all.Given as goal

-- the kinds that are left lead to the end
abbrev pub invariant-loop-kind : goal.invariant-loop-kind
invariant-loop-kind l =
    listing l.self (messages_items l.access l.word (drop l.kind-index l.kinds)) ≡ listing l.fn.self (messages_items l.access l.word l.kinds)
