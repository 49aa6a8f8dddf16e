-- Rising  the check of the order, id by id
-- Places  the place of an id in a list that rises, and the insertion there
-- Moved   bytes of a buffer moved on
pub mod Rising
pub mod Places
pub mod Moved
