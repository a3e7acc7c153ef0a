pub use Rattle.rules_file.specs.Rules
pub use Rattle.script_file.specs.Script
pub use Rattle.run_report.specs.Report
pub use Rattle.run_law.specs.Replayed
pub use Rattle.run_law.specs.Run
pub mod Entering
pub mod Nodes
pub mod Running
