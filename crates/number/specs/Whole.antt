-- Whole numbers as doubles: which are exact, and that a sum or a difference of such is what the exact one rounds to. Assumes nothing.
use Rattle.std.specs.Prelude.{◌≡◌, refl, true, false, ℕ, ◌+◌, ◌-◌, ◌*◌, ◌^◌, ◌≤◌, ◌<◌, T, pos, Float}
use Rattle.std.proofs.Common.{sym, ap, ap₂, ◌∙◌, true≢false, add-sub_of_le, lt_of_le_of_lt, mul-pos, mul-one, lt_of_lt_of_le, arith, le→leb, pow_pos, pow_mono, shl_lt, le-ltb}
use Rattle.std.specs.Float.{nan, inf, fin, binary64}
use Rattle.std.specs.Float.Ieee.{up, down, sum, add, sub, neg, of_int, in_float, of_bits}
use Rattle.std.specs.Float.Ieee.Fits.{down_pos}
use Rattle.std.specs.Float.Ieee.Exact.{HasValue, round_exact}
use Rattle.std.specs.Float.Ieee.Scale.{round_same}
use Rattle.number.specs.Float64.{◌⊕◌, ◌⊖◌, of_whole, zero64, one64}

-- a whole number up to 2^53 is cast without loss
pub whole : (n : ℕ) → n ≤ 9007199254740992 → T (in_float binary64 (pos n))
unfolding in_float
whole n h = le→leb n 9007199254740992 h

-- x is the whole number n
abbrev IsWhole : Float → ℕ → Type 0
IsWhole x n = HasValue x false n 1

is_whole : (n : ℕ) → n < 2 ^ 53 → IsWhole (of_whole n) n
unfolding of_int
is_whole n h =
    round_exact binary64 false n 1 n 1074 (pow_pos 0) h (lt_of_lt_of_le (shl_lt 53 1074 h) (pow_mono {i = 53 + 1074} {j = 1074 + 1024} (omega arith)))
    (sym (mul-one (n * 2 ^ 1074)))

-- ---- the exact results as fractions; M / c is a, and N / d is b
module _ (M c a N d b : ℕ) (g : M * 1 ≡ a * c) (h : N * 1 ≡ b * d) where
  over_left : M * d ≡ a * (c * d)
  over_left = ap (λ (x : ℕ). x * d) (sym (mul-one M) ∙ g) ∙ omega arith

  over_right : N * c ≡ b * (c * d)
  over_right = ap (λ (x : ℕ). x * c) (sym (mul-one N) ∙ h) ∙ omega arith

  sum_fraction : (M * d + N * c) * 1 ≡ (a + b) * (c * d)
  sum_fraction = omega (arith, over_left, over_right)

-- ---- the operations
add_whole : (x y : Float) (a b : ℕ) → IsWhole x a → IsWhole y b → x ⊕ y ≡ of_whole (a + b)
unfolding add sum of_int
add_whole nan y a b g h = absurd g
add_whole (inf s) y a b g h = absurd g
add_whole (fin s m e) nan a b g h = absurd h
add_whole (fin s m e) (inf t) a b g h = absurd h
add_whole (fin true m e) (fin t n d) a b g h = absurd (true≢false g.0)
add_whole (fin false m e) (fin true n d) a b g h = absurd (true≢false h.0)
add_whole (fin false m e) (fin false n d) a b g h =
    round_same binary64 false (m * up e * down d + n * up d * down e) (down e * down d) (a + b) 1 (mul-pos (down_pos e) (down_pos d)) (pow_pos 0)
    (sum_fraction (m * up e) (down e) a (n * up d) (down d) b g.1 h.1)

difference : (A B c b k : ℕ) → A ≡ (b + c) * k → B ≡ b * k → (B ≤ A) × ((A - B) * 1 ≡ c * k)
difference A B c b k g h = (omega arith, omega arith)

sub_whole : (x y : Float) (b c : ℕ) → IsWhole x (b + c) → IsWhole y b → x ⊖ y ≡ of_whole c
unfolding sub add sum neg of_int
sub_whole nan y b c g h = absurd g
sub_whole (inf s) y b c g h = absurd g
sub_whole (fin s m e) nan b c g h = absurd h
sub_whole (fin s m e) (inf t) b c g h = absurd h
sub_whole (fin true m e) (fin t n d) b c g h = absurd (true≢false g.0)
sub_whole (fin false m e) (fin true n d) b c g h = absurd (true≢false h.0)
sub_whole (fin false m e) (fin false n d) b c g h =
    let A = m * up e * down d in
    let B = n * up d * down e in
    let l = over_left (m * up e) (down e) (b + c) (n * up d) (down d) b g.1 h.1 in
    let r = over_right (m * up e) (down e) (b + c) (n * up d) (down d) b g.1 h.1 in
    let (le, is) = difference A B c b (down e * down d) l r in
    rw (le-ltb A B le) (round_same binary64 false (A - B) (down e * down d) c 1 (mul-pos (down_pos e) (down_pos d)) (pow_pos 0) is)

module _ (a b : ℕ) where
  pub whole_sum : a < 2 ^ 53 → b < 2 ^ 53 → of_whole a ⊕ of_whole b ≡ of_whole (a + b)
  whole_sum g h = add_whole (of_whole a) (of_whole b) a b (is_whole a g) (is_whole b h)

  pub whole_difference : a < 2 ^ 53 → b ≤ a → of_whole a ⊖ of_whole b ≡ of_whole (a - b)
  whole_difference g h =
      sub_whole (of_whole a) (of_whole b) b (a - b) (rw (add-sub_of_le h) (is_whole a g)) (is_whole b (lt_of_le_of_lt h g))

pub whole_zero : zero64 ≡ of_whole 0
unfolding of_bits of_int
whole_zero = refl

pub whole_one : one64 ≡ of_whole 1
unfolding of_bits of_int
whole_one = refl

-- a count that is carried as a double
pub whole_next : {x : Float} (a : ℕ) → x ≡ of_whole a → a < 2 ^ 53 → x ⊕ one64 ≡ of_whole (a + 1)
whole_next a e h = ap₂ ◌⊕◌ e whole_one ∙ whole_sum a 1 h (omega arith)
