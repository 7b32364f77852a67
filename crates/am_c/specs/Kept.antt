-- What a pointer owns that C keeps. For the code alone: own choice.
use base.Fml.{Fml, ftrue}
use denote.RattleType.{RattleType}
use denote.RawPtr.{Ptr}
use Rattle.std.specs.declared.option.Option.{Option}
use Rattle.std.specs.declared.option.Option.TheVariants.{None, Some}
use Rattle.std.specs.declared.alloc.Global.{Global}
use Rattle.std.specs.contracts.impls.GlobalAllocator.TheImpl.{ghosts}
use Rattle.std.specs.Box.Ownership.{box_owns}

-- the heap of the C library
abbrev pub heap : Global
heap = record { memory = record { seal = tt } }

-- nothing, or a value in a block of its own, with the right to free it
module _ (R : RattleType) where
  abbrev pub keeps : Ptr → Option R.Denot → Fml
  keeps at None = ftrue
  keeps at (Some x) = box_owns (ghosts.dealloc_token heap) R at x
