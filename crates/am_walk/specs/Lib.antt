pub mod Scene
pub mod Meet
pub mod Walks
pub mod Laws
pub mod View
-- what contracts cite, passed on from one place
pub use Laws.{IsIdle, IsOrderly, RestsAt, StopsWell}
pub use Meet.{at_autofs, at_directory, at_plain, at_site, at_trap, at_trigger, if_entered, if_failing, if_mounted, if_open, next_at}
pub use Scene.{autofs_at, has_names, with_traps, without_traps}
pub use Walks.{Stands, Stops, Visit, Walked, after, ended, fault_of, followed, onward, position_of, reached, settled, settled_within, visit_from, visit_of, walk_of}
pub use declared.stop.Next.{Next}
pub use declared.stop.Stop.{Stop}
