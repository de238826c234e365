pub mod WattsRules
