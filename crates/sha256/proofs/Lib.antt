-- Laws of the definitions, that the functions' proofs cite: `Rounds` of the schedule and the rounds, `Padding` of the blocks of a padded
-- message.
pub mod Rounds
pub mod Padding
