-- The implicit QL iteration with Wilkinson shifts on a symmetric tridiagonal matrix (Golub & Van Loan, Algorithm 8.3.3; EISPACK's tql2), in the
-- order of the Rust's operations: d is the diagonal, e what stands beside it, and q is multiplied by the rotations. Definitions only.
use Rattle.std.specs.Prelude.{Bool, true, false, cond, not, ◌&&◌, List, ℕ, ◌+◌, ◌-◌, eqb, get_or, set, is_none, Float, None, Option, Some}
use Rattle.std.specs.Float.{nan}
use Rattle.std.specs.Float.Ieee.{lt, le, eq, neg}
use Rattle.number.specs.Float64.{◌⊕◌, ◌⊖◌, ◌⊗◌, ◌⊘◌, double, zero64, one64, two64}
use Rattle.number.specs.Sign.{magnitude_of}
use Rattle.number.specs.Hypot.{hypot_of}
use Rattle.storage.specs.Iterate.{iterate, iterate_until, iterate_down}
use Rattle.matrix.specs.Matrix.{rotate_columns}
use Rattle.ql.specs.declared.Rotation.{Rotation}

-- 2^-52
abbrev pub epsilon64 : Float
epsilon64 = double 0x3cb0_0000_0000_0000

abbrev pub at : List Float → ℕ → Float
at l i = get_or l i nan

pub data Tridiagonal : Type 0 where
  tridiagonal : (d e q : List Float) → Tridiagonal

-- the number beside the diagonal at m counts beside the two numbers of the diagonal there
unfoldable pub coupled : List Float → List Float → ℕ → Bool
coupled d e m = lt (epsilon64 ⊗ (magnitude_of (at d m) ⊕ magnitude_of (at d (m + 1)))) (magnitude_of (at e m))

unfoldable pub uncoupled : List Float → List Float → ℕ → Bool
uncoupled d e m = not (coupled d e m)

abbrev pub after : ℕ → ℕ
after m = m + 1

-- the end of the block that begins at l: the first m from l on that is not coupled to m + 1, or n - 1
unfoldable pub block_end : ℕ → ℕ → List Float → List Float → ℕ
block_end n l d e = iterate_until (uncoupled d e) after (n - (l + 1)) l

-- ---- one round on the block l .. m
-- r with the sign of g
abbrev pub signed : Float → Float → Float
signed g r = cond (le zero64 g) r (neg r)

unfoldable pub ratio : ℕ → List Float → List Float → Float
ratio l d e = (at d (l + 1) ⊖ at d l) ⊘ (two64 ⊗ at e l)

-- the last number of the block, less Wilkinson's shift, which is made of the ratio
unfoldable pub shifted : ℕ → ℕ → Float → List Float → List Float → Float
shifted l m g d e = at d m ⊖ at d l ⊕ at e l ⊘ (g ⊕ signed g (hypot_of g one64))

-- before the first rotation
abbrev pub start : Float → Rotation
start g = record { s = one64; c = one64; p = zero64; g = g }

-- the rotation that follows x: from the numbers d₀ at i and d₁ at i + 1 of the diagonal, from f and b, which are s and c times the number beside
-- it, and from the size r of f and g
unfoldable pub next : Rotation → Float → Float → Float → Float → Float → Rotation
next x d₀ d₁ f b r =
    let s = f ⊘ r in
    let c = x.g ⊘ r in
    let h = (d₀ ⊖ (d₁ ⊖ x.p)) ⊗ s ⊕ two64 ⊗ c ⊗ b in
    record { s = s; c = c; p = s ⊗ h; g = c ⊗ h ⊖ b }

-- the matrix, and the last rotation, which is none once the round has broken off
pub data Chase : Type 0 where
  chase : (t : Tridiagonal) (x : Option Rotation) → Chase

-- with y what is left of the diagonal's number at i + 1: that number, and the columns i and i + 1 of q
unfoldable pub rotated : ℕ → ℕ → Float → Rotation → List Float → List Float → List Float → Chase
rotated n i y x d e q = chase (tridiagonal (set d (i + 1) (y ⊕ x.p)) e (rotate_columns x.c x.s n i (i + 1) q)) (Some x)

-- the rotation of i and i + 1 where the size r is not zero; else f and g are zero, and the round breaks off
unfoldable pub rotate_by : ℕ → ℕ → ℕ → Float → Float → Float → Tridiagonal → Rotation → Chase
rotate_by n m i r f b (tridiagonal d e q) x =
    cond (eq r zero64)
    (chase (tridiagonal (set d (i + 1) (at d (i + 1) ⊖ x.p)) (set e m zero64) q) None)
    (rotated n i (at d (i + 1) ⊖ x.p) (next x (at d i) (at d (i + 1)) f b r) d e q)

-- the size stands beside the diagonal at i + 1 before
unfoldable pub rotate_sized : ℕ → ℕ → ℕ → Float → Float → Float → Tridiagonal → Rotation → Chase
rotate_sized n m i r f b (tridiagonal d e q) x = rotate_by n m i r f b (tridiagonal d (set e (i + 1) r) q) x

unfoldable pub rotate_at : ℕ → ℕ → ℕ → Chase → Chase
rotate_at n m i (chase t None) = chase t None
rotate_at n m i (chase (tridiagonal d e q) (Some x)) =
    rotate_sized n m i (hypot_of (x.s ⊗ at e i) x.g) (x.s ⊗ at e i) (x.c ⊗ at e i) (tridiagonal d e q) x

unfoldable pub broken_off : Chase → Bool
broken_off (chase t x) = is_none x

-- the rotations from m - 1 down to l
unfoldable pub rotations : ℕ → ℕ → ℕ → Chase → Chase
rotations n l m c = iterate_down broken_off (rotate_at n m) l (m - l) c

-- where the round did not break off: the numbers at l, and zero beside the diagonal at m
unfoldable pub closed : ℕ → ℕ → Chase → Tridiagonal
closed l m (chase t None) = t
closed l m (chase (tridiagonal d e q) (Some x)) = tridiagonal (set d l (at d l ⊖ x.p)) (set (set e l x.g) m zero64) q

unfoldable pub round : ℕ → ℕ → ℕ → Tridiagonal → Tridiagonal
round n l m (tridiagonal d e q) =
    closed l m (rotations n l m (chase (tridiagonal d e q) (Some (start (shifted l m (ratio l d e) d e)))))

-- ---- the rounds
-- the matrix, how many rounds there were, and whether the stopping test was met
pub data State : Type 0 where
  state : (t : Tridiagonal) (rounds : ℕ) (settled : Bool) → State

unfoldable pub end_in : ℕ → ℕ → Tridiagonal → ℕ
end_in n l (tridiagonal d e q) = block_end n l d e

-- a round for l, unless the block that begins at l has one number
unfoldable pub round_unless_alone : ℕ → ℕ → State → State
round_unless_alone n l (state t k met) = cond (eqb (end_in n l t) l) (state t k true) (state (round n l (end_in n l t) t) (k + 1) met)

unfoldable pub settled_in : State → Bool
settled_in (state t k met) = met

unfoldable pub rounds_in : State → ℕ
rounds_in (state t k met) = k

-- at most 100 rounds for l
unfoldable pub rounds : ℕ → ℕ → Tridiagonal → ℕ → State
rounds n l t k = iterate_until settled_in (round_unless_alone n l) 100 (state t k false)

-- what is so after l, where `before` tells whether every l before it settled
abbrev pub and_before : Bool → State → State
and_before before (state t k met) = state t k (before && met)

unfoldable pub rounds_at : ℕ → ℕ → State → State
rounds_at n l (state t k before) = and_before before (rounds n l t k)

-- all l: the matrix in the end, how many rounds there were, and whether every l settled
unfoldable pub iteration : ℕ → Tridiagonal → State
iteration n t = iterate (rounds_at n) 0 n (state t 0 true)
