-- The theorems on the margins, which slepian and synthesis cite.
pub mod Theorems
