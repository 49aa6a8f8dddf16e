-- Windows   a window of the ids that a reply adds, and what they do to the needed list, `Windows.window_adds`
-- Counting  the windows counted
-- Unowned   the listed ids that no own item has, counted
pub mod Windows
pub mod Counting
pub mod Unowned
