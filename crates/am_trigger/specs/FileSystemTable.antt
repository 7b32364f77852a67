-- Each autofs, and the room that is made for more of them: own choice.
use Rattle.std.specs.Prelude.{ℕ, List}
use Rattle.am_trigger.specs.declared.autofs.Autofs.{Autofs}

-- each autofs, with the room for more
pub record FileSystemTable : Type 0 where
  -- in order of adding
  pub rows : List Autofs
  -- how many more take no memory
  pub room : ℕ
