-- Drive against draught.
-- ---- meaning
pub mod Game  -- a game of two sides in general: its plays, and what it is to be home or held off
pub mod Room  -- the rules of the room, and what is told of a start
pub mod Promises  -- what is told, in plays by the rules alone
pub mod Answers  -- each answer as a value or as refusal 27
-- ---- laws
pub mod GameLaws  -- what `wins` says of plays
pub mod FewestLaws  -- the fewest turns to come home
pub mod LeastLaws  -- the lowest number that passes a test
pub mod RoomLaws  -- what is told, case by case
pub mod WholeLaws  -- whole numbers as differences of two naturals
pub mod TableLaws  -- the code's table against the game
-- ---- inner words of proofs
pub mod TableInner  -- how the code keeps the states: a byte for each
