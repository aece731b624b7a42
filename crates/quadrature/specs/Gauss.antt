-- Gauss–Legendre quadrature as the code works it out: P(n) by Bonnet's recursion, its roots by Newton's method, and the nodes and weights of
-- the answer by their index. Assumes nothing.
use Rattle.std.specs.Prelude.{Bool, false, cond, not, List, ℕ, ◌+◌, ◌-◌, ◌*◌, ◌/◌, ltb, eqb, get_or, Float, Ok, Result, ⊤}
use Rattle.std.specs.Float.{nan}
use Rattle.std.specs.Float.Ieee.{neg, le}
use Rattle.number.specs.Float64.{◌⊖◌, ◌⊗◌, ◌⊘◌, double, of_whole, zero64, one64}
use Rattle.number.specs.Sign.{magnitude_of}
use Rattle.refusal.specs.Numbers.{refuse}
use Rattle.refusal.specs.declared.Refusal.TheVariants.{Size, Length, Space}
use Rattle.storage.specs.Iterate.{iterate, iterate_until}
use Rattle.quadrature.specs.declared.gauss.Polynomials.{Polynomials}
use Rattle.quadrature.specs.declared.gauss.Newton.{Newton}
use Rattle.refusal.specs.declared.Refusal.{Refusal}

-- ---- the roots of P(n)
-- P(k) at z from p0 = P(k - 2) and p1 = P(k - 1): ((2k - 1) z P(k - 1) - (k - 1) P(k - 2)) / k
abbrev pub bonnet : ℕ → Float → Float → Float → Float
bonnet k z p0 p1 = (of_whole (2 * k - 1) ⊗ z ⊗ p1 ⊖ of_whole (k - 1) ⊗ p0) ⊘ of_whole k

-- P(k - 1) and P(k) as the code holds them
abbrev pub polynomials_of : Float → Float → Polynomials
polynomials_of p0 p1 = record { p0 = p0; p1 = p1 }

-- one turn of the recursion
unfoldable pub bonnet_turn : Float → ℕ → Polynomials → Polynomials
bonnet_turn z k p = polynomials_of p.p1 (bonnet k z p.p0 p.p1)

-- P(n - 1) and P(n) at z, by the recursion from P(0) = 1 and P(1) = z
unfoldable pub legendre : ℕ → Float → Polynomials
legendre n z = iterate (bonnet_turn z) 2 (n + 1) (polynomials_of one64 z)

-- P'(n) at z: n (z P(n) - P(n - 1)) / (z² - 1)
abbrev pub derivative : ℕ → Float → Float → Float → Float
derivative n z p0 p1 = of_whole n ⊗ (z ⊗ p1 ⊖ p0) ⊘ (z ⊗ z ⊖ one64)

-- a correction of at most 1e-16 is the last
abbrev pub is_last : Float → Bool
is_last step = le (magnitude_of step) (double 0x3c9c_d2b2_97d8_89bc)

-- the root z less P(n)/P'(n), where p0 = P(n - 1) and p1 = P(n)
unfoldable pub corrected : ℕ → Newton → Float → Float → Newton
corrected n s p0 p1 =
    let dp = derivative n s.z p0 p1 in
    let step = p1 ⊘ dp in
    record { z = s.z ⊖ step; dp = dp; settled = is_last step; count = s.count + 1 }

-- one correction by Newton's method, with P(n - 1) and P(n) worked out at the root so far
unfoldable pub newton_step : ℕ → Newton → Newton
newton_step n s = corrected n s (legendre n s.z).p0 (legendre n s.z).p1

-- the last correction was small enough
abbrev pub is_settled : Newton → Bool
is_settled s = s.settled

-- before the first correction
abbrev pub start : Float → Newton
start guess = record { z = guess; dp = zero64; settled = false; count = 0 }

-- the root of P(n) that at most 100 corrections reach from a guess
unfoldable pub legendre_root : ℕ → Float → Newton
legendre_root n guess = iterate_until is_settled (newton_step n) 100 (start guess)

-- a root that has settled stays, where others are corrected beside it
unfoldable pub unless_settled : ℕ → Newton → Float → Float → Newton
unless_settled n s p0 p1 = cond s.settled s (corrected n s p0 p1)

-- ---- the rule
-- how many roots are guessed: half of n, rounded up, the largest first
abbrev pub guess_count : ℕ → ℕ
guess_count n = (n + 1) / 2

-- the weight 2/((1 - z²) P'(n)²) of a root
abbrev pub weight_of : Float → Float → Float
weight_of z dp = double 0x4000_0000_0000_0000 ⊘ ((one64 ⊖ z ⊗ z) ⊗ dp ⊗ dp)

-- the root from guess i, and its weight
unfoldable pub upper_node : (ℕ → Float) → ℕ → ℕ → Float
upper_node guesses n i = (legendre_root n (guesses i)).z

unfoldable pub upper_weight : (ℕ → Float) → ℕ → ℕ → Float
upper_weight guesses n i = weight_of (legendre_root n (guesses i)).z (legendre_root n (guesses i)).dp

-- node j of the lower half from its mirror image: its negative, and +0 in the middle of an odd rule
abbrev pub lower_node : ℕ → ℕ → Float → Float
lower_node n j z = cond (eqb (j + j + 1) n) zero64 (neg z)

-- node j of the n, ascending: the lower half mirrors the upper
unfoldable pub gauss_node : (ℕ → Float) → ℕ → ℕ → Float
gauss_node guesses n j = cond (ltb j (guess_count n)) (lower_node n j (upper_node guesses n j)) (upper_node guesses n (n - 1 - j))

-- its weight
unfoldable pub gauss_weight : (ℕ → Float) → ℕ → ℕ → Float
gauss_weight guesses n j = cond (ltb j (guess_count n)) (upper_weight guesses n j) (upper_weight guesses n (n - 1 - j))

-- SIZE: more than 2701 nodes; LENGTH: not exactly one guess for each root of the upper half; SPACE: no room for n nodes, or for n weights
unfoldable pub gauss_check : ℕ → ℕ → ℕ → ℕ → Result ⊤ Refusal
gauss_check n guesses x w =
    refuse (ltb 2701 n) Size (refuse (not (eqb guesses (guess_count n))) Length (refuse (ltb x n) Space (refuse (ltb w n) Space (Ok tt))))

-- ---- what the passes over a list write, by what it holds before
-- from index half on: its front, mirrored
unfoldable pub mirror_from : ℕ → ℕ → List Float → ℕ → Float
mirror_from n half l i = get_or l (n - 1 - (half + i)) nan

-- from index 0 on: the lower half from its mirror image
unfoldable pub lower_from : ℕ → List Float → ℕ → Float
lower_from n l j = lower_node n j (get_or l j nan)
