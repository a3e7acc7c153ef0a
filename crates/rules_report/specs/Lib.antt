pub use Rattle.mkt_base.specs.Text
pub use Rattle.rules_file.specs.Faults
pub use Rattle.rules_file.specs.Rules
pub mod FaultLine
pub mod Tables
