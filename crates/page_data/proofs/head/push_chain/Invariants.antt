use Rattle.std.proofs.Common.{◌≡◌, ◌++◌, drop, true}
use Rattle.page_data.specs.Page.{chain_texts}
use Rattle.page_data.proofs.head.push_chain.Given as goal

abbrev pub invariant-loop-link : goal.invariant-loop-link
invariant-loop-link l = l.out.items ++ chain_texts l.page l.first (drop l.link-index l.links) ≡ l.fn.out.items ++ chain_texts l.page true l.links
