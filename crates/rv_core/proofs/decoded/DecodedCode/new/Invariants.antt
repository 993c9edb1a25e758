use Rattle.std.proofs.Common.{◌≡◌, ◌++◌, map, drop}
use Rattle.rv_isa.specs.Encoding.{decoded}
use Rattle.rv_core.proofs.decoded.DecodedCode.new.Given as goal

abbrev pub invariant-loop-word : goal.invariant-loop-word
invariant-loop-word l = l.instrs.items ++ map decoded (drop l.word-index l.program.code) ≡ map decoded l.program.code
