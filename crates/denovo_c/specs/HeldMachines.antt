-- What a handle owns: the box behind its pointer, or nothing if the pointer is null.
use Rattle.std.specs.Prelude.{Option, None, Some}
use base.Fml.{Fml, ftrue, ffalse}
use denote.RattleType.{RattleType}
use denote.RawPtr.{Ptr, block_ptr, null_ptr}
use Rattle.std.specs.Box.Ownership.{box_owns}
use Rattle.std.specs.declared.alloc.Global.{Global}
use Rattle.std.specs.contracts.impls.GlobalAllocator.TheImpl.{ghosts}

-- a box at the pointer with this value, which the allocator may free; or a null pointer and no value
abbrev pub box_held : (R : RattleType) → Global → Ptr → Option R.Denot → Fml
box_held R alloc p (Some x) = box_owns (ghosts.dealloc_token alloc) R p x
box_held R alloc null_ptr None = ftrue
box_held R alloc (block_ptr b o) None = ffalse
