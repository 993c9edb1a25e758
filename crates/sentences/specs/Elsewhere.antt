-- Words that other assemblers take, or that take other operands there, and what this language has in their place.
use Rattle.std.specs.Prelude.{ℕ, Bool, List, [], ◌∷◌, Option, bytes_eq, find, codes}
use Rattle.sentences.specs.declared.elsewhere.Elsewhere.{Elsewhere}
use Rattle.sentences.specs.declared.elsewhere.Elsewhere.TheVariants as word

abbrev pub spelling : Elsewhere → List ℕ
spelling word.Data = codes ".data"
spelling word.Bss = codes ".bss"
spelling word.ReadOnlyData = codes ".rodata"
spelling word.Section = codes ".section"
spelling word.Text = codes ".text"
spelling word.Globl = codes ".globl"
spelling word.Global = codes ".global"
spelling word.Equ = codes ".equ"
spelling word.Set = codes ".set"
spelling word.Space = codes ".space"
spelling word.Zero = codes ".zero"
spelling word.Byte = codes ".byte"
spelling word.Half = codes ".half"
spelling word.Ascii = codes ".ascii"
spelling word.Asciz = codes ".asciz"
spelling word.StringWord = codes ".string"
spelling word.Align = codes ".align"
spelling word.Macro = codes ".macro"
spelling word.CallWord = codes "call"
spelling word.Tail = codes "tail"
spelling word.GreaterThan = codes "bgt"
spelling word.LessOrEqual = codes "ble"
spelling word.GreaterUnsigned = codes "bgtu"
spelling word.LessUnsigned = codes "bleu"
spelling word.GreaterThanZero = codes "bgtz"
spelling word.LessOrEqualZero = codes "blez"
spelling word.LessThanZero = codes "bltz"
spelling word.GreaterOrEqualZero = codes "bgez"
spelling word.SetGreaterZero = codes "sgtz"
spelling word.SetLessZero = codes "sltz"
spelling word.SubtractNumber = codes "subi"
spelling word.Multiply = codes "mul"
spelling word.MultiplyHigh = codes "mulh"
spelling word.Divide = codes "div"
spelling word.DivideUnsigned = codes "divu"
spelling word.Remainder = codes "rem"
spelling word.RemainderUnsigned = codes "remu"
spelling word.ReadControl = codes "csrr"
spelling word.WriteControl = codes "csrw"
spelling word.LoadReserved = codes "lr.w"
spelling word.StoreConditional = codes "sc.w"
spelling word.AtomicAdd = codes "amoadd.w"
spelling word.AtomicSwap = codes "amoswap.w"
spelling word.WordLine = codes ".word"
spelling word.Reads = codes ".reads"
spelling word.Writes = codes ".writes"
spelling word.Li = codes "li"
spelling word.Add = codes "add"
spelling word.Sub = codes "sub"
spelling word.Load = codes "lw"
spelling word.Store = codes "sw"
spelling word.JumpAndLink = codes "jal"
spelling word.JumpRegister = codes "jalr"
spelling word.FenceWord = codes "fence"
spelling word.Family = codes ".forall"

abbrev pub instead : Elsewhere → List ℕ
instead word.Data = codes "This language has no sections: `.region NAME, N` declares N words of data, and `.word NAME, INDEX, VALUE` gives one its first value."
instead word.Bss = codes "This language has no sections: `.region NAME, N` declares N words of data, and `.word NAME, INDEX, VALUE` gives one its first value."
instead word.ReadOnlyData = codes "This language has no sections: `.region NAME, N` declares N words of data, and `.word NAME, INDEX, VALUE` gives one its first value."
instead word.Section = codes "This language has no sections: `.region NAME, N` declares N words of data, and `.word NAME, INDEX, VALUE` gives one its first value."
instead word.Text = codes "This language has no sections: leave the line out."
instead word.Globl = codes "Leave the line out: `.task` names the label at which a task starts."
instead word.Global = codes "Leave the line out: `.task` names the label at which a task starts."
instead word.Equ = codes "This language has no named constants: write the number."
instead word.Set = codes "This language has no named constants: write the number."
instead word.Space = codes "Write `.region NAME, N` in its place, which declares N words."
instead word.Zero = codes "Write `.region NAME, N` in its place, which declares N words."
instead word.Byte = codes "Data are words of 32 bits: `.region NAME, N` declares N of them, and `.word NAME, INDEX, VALUE` gives one its first value."
instead word.Half = codes "Data are words of 32 bits: `.region NAME, N` declares N of them, and `.word NAME, INDEX, VALUE` gives one its first value."
instead word.Ascii = codes "Data are words of 32 bits: `.region NAME, N` declares N of them, and `.word NAME, INDEX, VALUE` gives one its first value."
instead word.Asciz = codes "Data are words of 32 bits: `.region NAME, N` declares N of them, and `.word NAME, INDEX, VALUE` gives one its first value."
instead word.StringWord = codes "Data are words of 32 bits: `.region NAME, N` declares N of them, and `.word NAME, INDEX, VALUE` gives one its first value."
instead word.Align = codes "Leave the line out: code and data are words at multiples of 4."
instead word.Macro = codes "This language has no macros: write the instructions."
instead word.CallWord = codes "Write `jal ra, LABEL` in its place."
instead word.Tail = codes "Write `j LABEL` in its place."
instead word.GreaterThan = codes "Exchange the registers of `blt`: `blt t1, t0, LABEL` is `bgt t0, t1, LABEL`."
instead word.LessOrEqual = codes "Exchange the registers of `bge`: `bge t1, t0, LABEL` is `ble t0, t1, LABEL`."
instead word.GreaterUnsigned = codes "Exchange the registers of `bltu`: `bltu t1, t0, LABEL` is `bgtu t0, t1, LABEL`."
instead word.LessUnsigned = codes "Exchange the registers of `bgeu`: `bgeu t1, t0, LABEL` is `bleu t0, t1, LABEL`."
instead word.GreaterThanZero = codes "Compare with the register zero: `blt zero, t0, LABEL` is `bgtz t0, LABEL`."
instead word.LessOrEqualZero = codes "Compare with the register zero: `bge zero, t0, LABEL` is `blez t0, LABEL`."
instead word.LessThanZero = codes "Compare with the register zero: `blt t0, zero, LABEL` is `bltz t0, LABEL`."
instead word.GreaterOrEqualZero = codes "Compare with the register zero: `bge t0, zero, LABEL` is `bgez t0, LABEL`."
instead word.SetGreaterZero = codes "Compare with the register zero: `slt t0, zero, t1` is `sgtz t0, t1`."
instead word.SetLessZero = codes "Compare with the register zero: `slt t0, t1, zero` is `sltz t0, t1`."
instead word.SubtractNumber = codes "Write `addi` with the negative number: `addi t0, t1, -4` is `subi t0, t1, 4`."
instead word.Multiply = codes "This language has no multiplication and no division: add in a loop, or shift by `slli` and `srli`."
instead word.MultiplyHigh = codes "This language has no multiplication and no division: add in a loop, or shift by `slli` and `srli`."
instead word.Divide = codes "This language has no multiplication and no division: add in a loop, or shift by `slli` and `srli`."
instead word.DivideUnsigned = codes "This language has no multiplication and no division: add in a loop, or shift by `slli` and `srli`."
instead word.Remainder = codes "This language has no multiplication and no division: add in a loop, or shift by `slli` and `srli`."
instead word.RemainderUnsigned = codes "This language has no multiplication and no division: add in a loop, or shift by `slli` and `srli`."
instead word.ReadControl = codes "There are no control registers such as `mhartid`: `.task` gives a task its argument, for example its core's number, and the task finds it in a0."
instead word.WriteControl = codes "There are no control registers such as `mhartid`: `.task` gives a task its argument, for example its core's number, and the task finds it in a0."
instead word.LoadReserved = codes "This language has no atomic instructions: acquire a lock by `ecall`, load and store, and release it."
instead word.StoreConditional = codes "This language has no atomic instructions: acquire a lock by `ecall`, load and store, and release it."
instead word.AtomicAdd = codes "This language has no atomic instructions: acquire a lock by `ecall`, load and store, and release it."
instead word.AtomicSwap = codes "This language has no atomic instructions: acquire a lock by `ecall`, load and store, and release it."
instead word.WordLine = codes "`.word NAME, INDEX, VALUE` gives a word of a region its first value, and `.region NAME, N` declares the region. Labels stand before instructions."
instead word.Reads = codes "An interval has two ends, as in `.reads m, 0, 2`. If the first name is a lock, write `.greads`."
instead word.Writes = codes "An interval has two ends, as in `.writes m, 0, 2`. If the first name is a lock, write `.gwrites`."
instead word.Li = codes "`li` takes a number. `la` puts the address of a label or a region into a register."
instead word.Add = codes "`add` takes registers. `addi` takes a number at the end."
instead word.Sub = codes "`sub` takes registers. `addi` with a negative number subtracts one: `addi t0, t1, -4`."
instead word.Load = codes "`lw` takes an offset and a register, as in `lw t0, 4(t1)`. `la` puts the address of a region into the register first."
instead word.Store = codes "`sw` takes an offset and a register, as in `sw t0, 4(t1)`. `la` puts the address of a region into the register first."
instead word.JumpAndLink = codes "`jal` takes the register for the return address first: `jal ra, LABEL`."
instead word.JumpRegister = codes "`jalr` takes the register for the return address, and then an offset with a register: `jalr ra, 0(t0)`. `jr t0` keeps no return address."
instead word.FenceWord = codes "Write `fence` alone: it has no operands here."
instead word.Family = codes "`.forall` takes the first core, the number of tasks, their entry, the argument of the first one and its step, as in `.forall 0, 4, work, 7, 1`. All cores are from 0 to 15. It needs `.version 2` as the first line that isn't blank."

abbrev pub is_spelled : List ℕ → Elsewhere → Bool
is_spelled bytes w = bytes_eq bytes (spelling w)

abbrev pub words_elsewhere : List Elsewhere
words_elsewhere =
    word.Data
    ∷ word.Bss
    ∷ word.ReadOnlyData
    ∷ word.Section
    ∷ word.Text
    ∷ word.Globl
    ∷ word.Global
    ∷ word.Equ
    ∷ word.Set
    ∷ word.Space
    ∷ word.Zero
    ∷ word.Byte
    ∷ word.Half
    ∷ word.Ascii
    ∷ word.Asciz
    ∷ word.StringWord
    ∷ word.Align
    ∷ word.Macro
    ∷ word.CallWord
    ∷ word.Tail
    ∷ word.GreaterThan
    ∷ word.LessOrEqual
    ∷ word.GreaterUnsigned
    ∷ word.LessUnsigned
    ∷ word.GreaterThanZero
    ∷ word.LessOrEqualZero
    ∷ word.LessThanZero
    ∷ word.GreaterOrEqualZero
    ∷ word.SetGreaterZero
    ∷ word.SetLessZero
    ∷ word.SubtractNumber
    ∷ word.Multiply
    ∷ word.MultiplyHigh
    ∷ word.Divide
    ∷ word.DivideUnsigned
    ∷ word.Remainder
    ∷ word.RemainderUnsigned
    ∷ word.ReadControl
    ∷ word.WriteControl
    ∷ word.LoadReserved
    ∷ word.StoreConditional
    ∷ word.AtomicAdd
    ∷ word.AtomicSwap
    ∷ word.WordLine
    ∷ word.Reads
    ∷ word.Writes
    ∷ word.Li
    ∷ word.Add
    ∷ word.Sub
    ∷ word.Load
    ∷ word.Store
    ∷ word.JumpAndLink
    ∷ word.JumpRegister
    ∷ word.FenceWord
    ∷ word.Family
    ∷ []

-- the word that is spelled so, if it is one of these
abbrev pub word_elsewhere : List ℕ → Option Elsewhere
word_elsewhere bytes = find (is_spelled bytes) words_elsewhere
