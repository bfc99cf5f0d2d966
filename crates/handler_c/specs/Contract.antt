-- The contract of an exported call is the by-value call's, at the table that is lent.
pub use Rattle.outcomes.specs.Contract.{Replies}
