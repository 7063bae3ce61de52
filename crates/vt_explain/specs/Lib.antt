pub mod LaterRules
