-- Putting   texts written one behind the other
-- Fitting   the text of every message fits the room that `show` asks for: `shown-fits`
-- Showing   a line for each range, and which text it is
pub mod Putting
pub mod Fitting
pub mod Showing
