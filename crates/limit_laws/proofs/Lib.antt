-- Theorems on the definitions of specs/.
pub mod NestingLaws  -- a row held to one row of limits and then to another
pub mod Examples  -- three body torques under our limits and a lab's
