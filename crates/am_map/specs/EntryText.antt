-- What a line of a map says (autofs(5), "SUN FORMAT").
use Rattle.std.specs.Prelude.{ℕ, List, Option}

-- the mount options without their dash, if there are any, and the location `host:path`
pub record EntryText : Type 0 where
  pub options : Option (List ℕ)
  pub host : List ℕ
  pub path : List ℕ

-- a key and its entry
pub record Row : Type 0 where
  pub key : List ℕ
  pub entry : EntryText
