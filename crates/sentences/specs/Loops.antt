-- The loop that an instruction is in, by the program's code words alone: a branch, or a jump that notes no return address, goes
-- back to an instruction at or before it, from an instruction at or behind it.
use Rattle.std.specs.Prelude.{◌≡◌, ℕ, zero, suc, ◌+◌, ◌%◌, ◌^◌, ◌≤◌, ◌==◌, ◌&&◌, ℤ, nat_le, List, [], ◌∷◌, slice_get, Option, Some, None, option_map, option_and_then, if◌then◌else◌}
use Rattle.std.specs.Option.{option_or}
use Rattle.rv_isa.specs.Encoding.{decoded}
use Rattle.rv_isa.specs.Word.{pattern}
use Rattle.rv_isa.specs.declared.instr.Instr as instr
use Rattle.rv_isa.specs.declared.instr.Instr.{Instr}
use Rattle.sentences.specs.declared.loops.Loop.{Loop}

-- a jump that writes x0 notes no return address
abbrev pub plain_offset : ℕ → ℤ → Option ℤ
plain_offset rd offset = if rd == 0 then Some offset else None

-- how far a branch goes, or a jump that notes no return address
abbrev pub jump_offset : Instr → Option ℤ
jump_offset (instr.TheVariants.Jal rd offset) = plain_offset rd offset
jump_offset (instr.TheVariants.Branch test a b offset) = Some offset
jump_offset _ = None

abbrev pub target_from : ℕ → ℤ → ℕ
target_from address offset = (address + pattern offset) % 2 ^ 32

-- where the code word at an address may go on, other than behind it
abbrev pub word_target : ℕ → ℕ → Option ℕ
word_target address word = option_map (target_from address) (option_and_then jump_offset (decoded word))

-- the loop that goes back from an address to this head, if that is one around the instruction at pc
abbrev pub loop_if : ℕ → ℕ → Option ℕ → Option Loop
loop_if pc address None = None
loop_if pc address (Some head) = if nat_le head pc && nat_le pc address then Some (record { head = head; back = address }) else None

abbrev pub address_behind : ℕ → ℕ
address_behind address = (address + 4) % 2 ^ 32

-- the first of these code words that closes a loop around the instruction at pc; the first word is at this address
abbrev pub loop_among : ℕ → ℕ → List ℕ → Option Loop
loop_among pc address [] = None
loop_among pc address (w ∷ ws) = option_or (loop_if pc address (word_target address w)) (loop_among pc (address_behind address) ws)

abbrev pub loop_around : List ℕ → ℕ → Option Loop
loop_around code pc = loop_among pc 0x1000 code

-- ---- what holds of a loop that is named

-- the address of the code word with this number, where the first is at an address
abbrev pub word_address : ℕ → ℕ → ℕ
word_address address zero = address
word_address address (suc n) = word_address (address_behind address) n

-- the instruction at pc is not before the head, and not behind the instruction that goes back to it, which is one of the code
pub record IsLoopAround (code : List ℕ) (pc first : ℕ) (l : Loop) : Type 0 where
  pub head : l.head ≤ pc
  pub back : pc ≤ l.back
  pub number : ℕ
  pub word : ℕ
  pub there : slice_get code number ≡ Some word
  pub at : l.back ≡ word_address first number
  pub goes : word_target l.back word ≡ Some l.head
