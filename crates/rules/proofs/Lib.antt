pub mod MomentCases
