pub mod RouteValue
pub mod StepsValue
