-- The text of a generated work, line by line.
use Rattle.std.specs.Prelude.{ℕ, ◌+◌, ◌*◌, List, [], ◌∷◌, ◌++◌, codes, flat_map}
use Rattle.std.specs.Fmt.{decimal}
use Rattle.std.specs.List.{range_with_len}

-- a line with its end
abbrev pub line : List ℕ → List ℕ
line text = text ++ 10 ∷ []

unfoldable pub region_line : List ℕ → ℕ → List ℕ
region_line name words = line (codes ".region " ++ name ++ codes ", " ++ decimal words)

-- a task begins at a label, and its argument is the index of the first word of its part
unfoldable pub task_line : List ℕ → ℕ → ℕ → List ℕ
task_line label part core = line (codes ".task " ++ decimal core ++ codes ", " ++ label ++ codes ", " ++ decimal (core * part))

unfoldable pub reads_line : List ℕ → List ℕ
reads_line region = line (codes ".reads " ++ region)

-- a task writes its part of a region, one of four
unfoldable pub writes_line : List ℕ → ℕ → ℕ → List ℕ
writes_line region part core =
    line (codes ".writes " ++ region ++ codes ", " ++ decimal (core * part) ++ codes ", " ++ decimal ((core + 1) * part))

-- a task that fills its part of region a
unfoldable pub filling_task : ℕ → ℕ → List ℕ
filling_task part core = task_line (codes "init") part core ++ writes_line (codes "a") part core

-- a task that writes to its part of one region the sums of neighbours of the other
unfoldable pub adding_task : List ℕ → List ℕ → List ℕ → ℕ → ℕ → List ℕ
adding_task label from to part core = task_line label part core ++ reads_line from ++ writes_line to part core

-- a phase has a task on each of the cores 0 to 3
unfoldable pub filling_phase : ℕ → List ℕ
filling_phase part = line (codes ".phase") ++ flat_map (filling_task part) (range_with_len 0 4)

unfoldable pub adding_phase : List ℕ → List ℕ → List ℕ → ℕ → List ℕ
adding_phase label from to part = line (codes ".phase") ++ flat_map (adding_task label from to part) (range_with_len 0 4)

-- the three phases: a is filled, b becomes sums of a, and a becomes sums of b
unfoldable pub declared_lines : ℕ → ℕ → List ℕ
declared_lines part words =
    region_line (codes "a") words
    ++ region_line (codes "b") words
    ++ filling_phase part
    ++ adding_phase (codes "first") (codes "a") (codes "b") part
    ++ adding_phase (codes "second") (codes "b") (codes "a") part

-- a number is put into a register
unfoldable pub number_line : List ℕ → ℕ → List ℕ
number_line register number = line (codes "li " ++ register ++ codes ", " ++ decimal number)

-- a task that fills its part has the address of the part's first word in t0
unfoldable pub filling_start : List ℕ
filling_start =
    line (codes "init:")
    ++ line (codes "la t0, a")
    ++ line (codes "slli t1, a0, 2")
    ++ line (codes "add t0, t0, t1")

-- and the value of that word in t3; word i becomes 3i + 1
unfoldable pub filling_loop : List ℕ
filling_loop =
    line (codes "slli t3, a0, 1")
    ++ line (codes "add t3, t3, a0")
    ++ line (codes "addi t3, t3, 1")
    ++ line (codes "i1:")
    ++ line (codes "sw t3, 0(t0)")
    ++ line (codes "addi t3, t3, 3")
    ++ line (codes "addi t0, t0, 4")
    ++ line (codes "addi t2, t2, -1")
    ++ line (codes "bnez t2, i1")
    ++ line (codes "li a7, 0")
    ++ line (codes "ecall")

unfoldable pub filling_code : ℕ → List ℕ
filling_code part = filling_start ++ number_line (codes "t2") part ++ filling_loop

-- the second phase reads a and writes b, the third reads b and writes a
unfoldable pub starting_code : List ℕ
starting_code =
    line (codes "first:")
    ++ line (codes "la s0, a")
    ++ line (codes "la s1, b")
    ++ line (codes "j body")
    ++ line (codes "second:")
    ++ line (codes "la s0, b")
    ++ line (codes "la s1, a")

-- word t1 of one region becomes the sum of the same word and the next one of the other; the first comes after the last
unfoldable pub adding_loop : List ℕ
adding_loop =
    line (codes "mv t1, a0")
    ++ line (codes "b1:")
    ++ line (codes "slli t5, t1, 2")
    ++ line (codes "add t6, s0, t5")
    ++ line (codes "lw a1, 0(t6)")
    ++ line (codes "addi t3, t1, 1")
    ++ line (codes "bne t3, t4, b2")
    ++ line (codes "mv t3, zero")
    ++ line (codes "b2:")
    ++ line (codes "slli a2, t3, 2")
    ++ line (codes "add a2, s0, a2")
    ++ line (codes "lw a3, 0(a2)")
    ++ line (codes "add a1, a1, a3")
    ++ line (codes "add t6, s1, t5")
    ++ line (codes "sw a1, 0(t6)")
    ++ line (codes "addi t1, t1, 1")
    ++ line (codes "addi t2, t2, -1")
    ++ line (codes "bnez t2, b1")
    ++ line (codes "li a7, 0")
    ++ line (codes "ecall")

unfoldable pub adding_code : ℕ → ℕ → List ℕ
adding_code part words = line (codes "body:") ++ number_line (codes "t2") part ++ number_line (codes "t4") words ++ adding_loop

-- the text on two regions of `words` words, of which each task has a part
unfoldable pub text_for : ℕ → ℕ → List ℕ
text_for part words = declared_lines part words ++ filling_code part ++ starting_code ++ adding_code part words

-- the work of a size
abbrev pub work_of : ℕ → List ℕ
work_of size = text_for (16 * size) (64 * size)
