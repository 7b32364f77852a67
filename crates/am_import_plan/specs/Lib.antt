-- what contracts cite, passed on from one place
pub use declared.planner.Plan.{Plan}
