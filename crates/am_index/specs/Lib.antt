pub mod Lists
pub mod Near
-- what contracts cite, passed on from one place
pub use Lists.{AddsTo, Drops, DropsLast, HasRoom, IsIndexOf, Joins, KeepsOtherRoom, ListsRise, Parts, PutsInto, SameLists, TakesFrom, but, front, has, listed, moved, number_at, numbered, with}
pub use Near.{IsBeside, StandsAt}
pub use declared.lists.Index.{Index}
