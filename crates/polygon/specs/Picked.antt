-- The numbers of some indices, in the order of the indices: those that a test picks. Definitions only.
use Rattle.std.specs.Prelude.{Bool, cond, List, [], ◌∷◌, ◌++◌, ℕ, zero, suc, Float}

-- the numbers f j of the indices j below i that have t j
module _ (t : ℕ → Bool) (f : ℕ → Float) where
  unfoldable pub picked_before : ℕ → List Float
  picked_before zero = []
  picked_before (suc i) = picked_before i ++ cond (t i) (f i ∷ []) []
