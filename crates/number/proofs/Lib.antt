-- Lemmas on plain numbers and on floats, which more than one proof cites.
mod Squares
mod Floats
mod Patterns
mod Cases
mod Scaled
