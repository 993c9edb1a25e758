use Rattle.std.proofs.Common.{◌≡◌, ◌++◌, drop, flat_map}
use Rattle.state_text.specs.ForReaders.{named_grant_line}
use Rattle.state_text.proofs.readers_answer.push_grants.Given as goal

abbrev pub invariant-loop-grant : goal.invariant-loop-grant
invariant-loop-grant l =
    l.out.items ++ flat_map (named_grant_line l.locks) (drop l.grant-index l.grants) ≡ l.fn.out.items ++ flat_map (named_grant_line l.locks) l.grants
