-- To be believed: Sums and Margins (definitions), the first part of Units, and the statements in proofs/Theorems. The rest proves them.
-- whole numbers of units
pub mod Distance
pub mod Integers
pub mod Units
-- the definitions
pub mod Sums
pub mod SumSteps
pub mod Margins
-- the error of one operation
pub mod RoundingError
pub mod FiniteOperands
pub mod Addition
pub mod Multiplication
pub mod Division
-- how errors add up
pub mod Approximation
pub mod ApproximateProducts
pub mod NormalProducts
pub mod ProductsOfApproximations
pub mod RunningSums
pub mod ColumnSums
-- the margins
pub mod Totals
pub mod AverageBound
pub mod GridBound
pub mod ExactTerms
pub mod MarginArithmetic
pub mod Examples
pub mod Controls
