pub mod StatusRules
