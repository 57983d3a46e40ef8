-- Actuators: what they are, the checks of them, and which controls give a body torque.
-- ---- meaning
pub mod Maps  -- actuator maps: blank values, what stands in the tables, the width of a control row
pub mod Prepare  -- checks 1 to 3: the counts, then each actuator's numbers and its axis; the map that they leave
pub mod Pyramid  -- the Jacobian of the gyro pyramid and its measure of singularity
pub mod Allocate  -- which controls give a body torque, and which actuators are served
pub mod Answers  -- each answer as a value, or as a refusal with its number and place
-- ---- laws
pub mod MapLaws  -- the bounds of a sized map's counts
pub mod ReadyLaws  -- what holds of a prepared map: the declared counts and gyros, limits that are finite and above 0
pub mod PyramidLaws  -- the skew's sine and cosine made once
