-- The ranking order is a total order of the doubles: it is that of their places on a line of whole numbers, and two doubles at one place are
-- the same. Assumes nothing.
use Rattle.std.specs.Prelude.{◌≡◌, Bool, true, false, not, ◌&&◌, ◌||◌, cond, ℕ, ◌+◌, ◌-◌, ◌*◌, ◌/◌, ◌^◌, ◌≤◌, ◌<◌, ℤ, T, ltb, eqb, Float}
use Rattle.std.proofs.Math.Path.{refl, sym}
use Rattle.std.proofs.Common.{ap, ◌∙◌, subst, le_refl, le_trans, lt_trans, le_antisymm, mul-lt-mul_of_pos_right, mul-le-mul_right, lt_of_mul-lt-mul_right, le_of_mul-le-mul_right, arith, pow_pos, lt-ltb, le-ltb, eq-eqb, ltb-true, ltb-false}
use Rattle.std.proofs.Math.Nat.{mul-pos}
use Rattle.std.specs.Float.Ieee.{nan, binary64, up, down, is_nan, fits, lt, eq, below, level, size, to_bits, of_bits}
use Rattle.std.specs.Float.{inf, fin}
use Rattle.std.specs.Float.Ieee.Fits.{down_pos}
use Rattle.std.specs.Float.Ieee.Bits.{of_bits-to_bits}
use Rattle.number.specs.Sign.{negative}
use Rattle.number.specs.Order.{ranks_below}
use Rattle.number.specs.Units.{units_of, units_whole, units_under}

-- ---- tests with the same outcome
same_test : (a b U W : ℕ) → (a < b → U < W) → (b ≤ a → W ≤ U) → ltb a b ≡ ltb U W
same_test a b U W f g = go (ltb a b) refl
  where
    go : (t : Bool) → ltb a b ≡ t → t ≡ ltb U W
    go true h = sym (lt-ltb U W (f (ltb-true a b h)))
    go false h = sym (le-ltb U W (g (ltb-false a b h)))

-- where a·L is U-as-D and b·L is W-as-D, a and b compare as U and W do
cross_less : (a b U W L D : ℕ) → 0 < L → 0 < D → a * L ≡ U * D → b * L ≡ W * D → ltb a b ≡ ltb U W
cross_less a b U W L D l d p q =
    same_test a b U W
    (λ h. lt_of_mul-lt-mul_right D (subst (λ (x : ℕ). x < W * D) p (subst (λ (x : ℕ). a * L < x) q (mul-lt-mul_of_pos_right h l))))
    (λ h. le_of_mul-le-mul_right (subst (λ (x : ℕ). x ≤ U * D) q (subst (λ (x : ℕ). b * L ≤ x) p (mul-le-mul_right L h))) d)

cross : (U m u d w L : ℕ) → U * d ≡ m * u * L → m * u * w * L ≡ U * (d * w)
cross U m u d w L e = omega (arith, ap (λ (x : ℕ). x * w) e)

cross_swap : (W n u d w L : ℕ) → W * d ≡ n * u * L → n * u * w * L ≡ W * (w * d)
cross_swap W n u d w L e = omega (arith, ap (λ (x : ℕ). x * w) e)

or_and_false : (x y : Bool) → x || (y && false) ≡ x
or_and_false true y = refl
or_and_false false true = refl
or_and_false false false = refl

-- ---- the place of a double on a line of whole numbers, for a bound B on the units of a finite one: minus infinity, the negative numbers by
-- falling size, −0, +0, the positive ones by rising size, plus infinity, NaN
abbrev signed_place : ℕ → Bool → ℕ → ℕ
signed_place B true U = B - U
signed_place B false U = B + 1 + U

unfoldable place : ℕ → Float → ℕ
place B nan = B + B + 3
place B (inf true) = 0
place B (inf false) = B + B + 2
place B (fin s m e) = signed_place B s (units_of binary64 (fin s m e))

module _ (B a b U W : ℕ) (u : U < B) (v : W < B) (p : ltb a b ≡ ltb U W) (q : ltb b a ≡ ltb W U) where
  -- two zeros, the negative one first
  zeros : (t : Bool) → ltb 0 (a + b) ≡ t → t || (eqb a b && eqb a 0 && true) ≡ true
  zeros true h = refl
  zeros false h =
      let k = ltb-false 0 (a + b) h in
      let z : a ≡ 0 = omega arith in
      let e : a ≡ b = omega arith in
      rw (eq-eqb a b e, eq-eqb a 0 z) refl

  finite_below : (s t : Bool) → below s a t b || (level s a t b && (s && not t)) ≡ ltb (signed_place B s U) (signed_place B t W)
  finite_below false false =
      or_and_false (ltb a b) (level false a false b) ∙ p ∙ same_test U W (B + 1 + U) (B + 1 + W) (λ h. omega arith) (λ h. omega arith)
  finite_below false true = or_and_false false (level false a true b) ∙ sym (le-ltb (B + 1 + U) (B - W) (omega arith))
  finite_below true false = zeros (ltb 0 (a + b)) refl ∙ sym (lt-ltb (B - U) (B + 1 + W) (omega arith))
  finite_below true true =
      or_and_false (ltb b a) (level true a true b) ∙ q ∙ same_test W U (B - U) (B - W) (λ h. omega arith) (λ h. omega arith)

-- ---- for every double the units are below 2^1024 · 2^1074
abbrev bound : ℕ
bound = 2 ^ 1024 * 2 ^ 1074

module _ (B : ℕ) where
  -- of two finite doubles
  finite_place : (s t : Bool) (m n : ℕ) (e d : ℤ) → T (fits binary64 (fin s m e)) → T (fits binary64 (fin t n d))
      → units_of binary64 (fin s m e) < B → units_of binary64 (fin t n d) < B → ranks_below (fin s m e) (fin t n d) ≡ ltb (place B (fin s m e)) (place B (fin t n d))
  unfolding ranks_below place is_nan lt eq negative
  finite_place s t m n e d f g u w =
      let U = units_of binary64 (fin s m e) in
      let W = units_of binary64 (fin t n d) in
      let D = down e * down d in
      let L = 2 ^ 1074 in
      let pos : 0 < D = mul-pos (down_pos e) (down_pos d) in
      let p = cross U m (up e) (down e) (down d) L (units_whole binary64 s m e f) in
      let q = cross_swap W n (up d) (down d) (down e) L (units_whole binary64 t n d g) in
      finite_below B (m * up e * down d) (n * up d * down e) U W u w
      (cross_less (m * up e * down d) (n * up d * down e) U W L D (pow_pos 1074) pos p q)
      (cross_less (n * up d * down e) (m * up e * down d) W U L D (pow_pos 1074) pos q p) s t

  Under : Float → Type 0
  Under x = T (fits binary64 x) × (units_of binary64 x < B)

  signed_pos : (s : Bool) (U : ℕ) → U < B → 0 < signed_place B s U
  signed_pos true U h = omega arith
  signed_pos false U h = omega arith

  signed_most : (s : Bool) (U : ℕ) → U < B → signed_place B s U < B + B + 2
  signed_most true U h = omega arith
  signed_most false U h = omega arith

  place-below : (x y : Float) → Under x → Under y → ranks_below x y ≡ ltb (place B x) (place B y)
  unfolding ranks_below place is_nan lt eq negative Under
  place-below nan nan p q = sym (le-ltb (B + B + 3) (B + B + 3) (omega arith))
  place-below nan (inf true) p q = sym (le-ltb (B + B + 3) 0 (omega arith))
  place-below nan (inf false) p q = sym (le-ltb (B + B + 3) (B + B + 2) (omega arith))
  place-below nan (fin t n d) p q = sym (le-ltb (B + B + 3) (signed_place B t (units_of binary64 (fin t n d))) (omega (arith, signed_most t (units_of binary64 (fin t n d)) q.1)))
  place-below (inf true) nan p q = sym (lt-ltb 0 (B + B + 3) (omega arith))
  place-below (inf false) nan p q = sym (lt-ltb (B + B + 2) (B + B + 3) (omega arith))
  place-below (inf true) (inf true) p q = refl
  place-below (inf true) (inf false) p q = sym (lt-ltb 0 (B + B + 2) (omega arith))
  place-below (inf false) (inf true) p q = sym (le-ltb (B + B + 2) 0 (omega arith))
  place-below (inf false) (inf false) p q = sym (le-ltb (B + B + 2) (B + B + 2) (omega arith))
  place-below (inf true) (fin t n d) p q = sym (lt-ltb 0 (signed_place B t (units_of binary64 (fin t n d))) (signed_pos t (units_of binary64 (fin t n d)) q.1))
  place-below (inf false) (fin t n d) p q = sym (le-ltb (B + B + 2) (signed_place B t (units_of binary64 (fin t n d))) (omega (arith, signed_most t (units_of binary64 (fin t n d)) q.1)))
  place-below (fin s m e) nan p q = sym (lt-ltb (signed_place B s (units_of binary64 (fin s m e))) (B + B + 3) (omega (arith, signed_most s (units_of binary64 (fin s m e)) p.1)))
  place-below (fin s m e) (inf true) p q = sym (le-ltb (signed_place B s (units_of binary64 (fin s m e))) 0 (omega (arith, signed_pos s (units_of binary64 (fin s m e)) p.1)))
  place-below (fin s m e) (inf false) p q = sym (lt-ltb (signed_place B s (units_of binary64 (fin s m e))) (B + B + 2) (signed_most s (units_of binary64 (fin s m e)) p.1))
  place-below (fin s m e) (fin t n d) p q = finite_place s t m n e d p.0 q.0 p.1 q.1

-- ---- two doubles at one place are the same
abbrev bits_by : Bool → ℕ → ℕ
bits_by s U = cond s (2 ^ 63) 0 + (size U - 53) * 2 ^ 52 + U / 2 ^ (size U - 53)

by_units : (s t : Bool) (m n : ℕ) (e d : ℤ) → T (fits binary64 (fin s m e)) → T (fits binary64 (fin t n d)) → s ≡ t
    → units_of binary64 (fin s m e) ≡ units_of binary64 (fin t n d) → fin s m e ≡ fin t n d
by_units s t m n e d f g p q =
    sym (of_bits-to_bits binary64 (fin s m e) f)
    ∙ ap (of_bits binary64) (bits s m e ∙ ap (λ (b : Bool). bits_by b (units_of binary64 (fin s m e))) p ∙ ap (bits_by t) q ∙ sym (bits t n d))
    ∙ of_bits-to_bits binary64 (fin t n d) g
  where
    bits : (s : Bool) (m : ℕ) (e : ℤ) → to_bits binary64 (fin s m e) ≡ bits_by s (units_of binary64 (fin s m e))
    bits s m e = unfold to_bits in unfold units_of in refl

signed_same : (B : ℕ) (s t : Bool) (U W : ℕ) → U < B → W < B → signed_place B s U ≡ signed_place B t W → (s ≡ t) × (U ≡ W)
signed_same B true true U W u w e = (refl, omega arith)
signed_same B false false U W u w e = (refl, omega arith)
signed_same B true false U W u w e = absurd (omega arith)
signed_same B false true U W u w e = absurd (omega arith)

place_same : (B : ℕ) (x y : Float) → Under B x → Under B y → place B x ≡ place B y → x ≡ y
unfolding place Under
place_same B nan nan p q e = refl
place_same B nan (inf true) p q e = absurd (omega arith)
place_same B nan (inf false) p q e = absurd (omega arith)
place_same B nan (fin t n d) p q e = absurd (omega (arith, signed_most B t (units_of binary64 (fin t n d)) q.1))
place_same B (inf true) nan p q e = absurd (omega arith)
place_same B (inf false) nan p q e = absurd (omega arith)
place_same B (inf true) (inf true) p q e = refl
place_same B (inf true) (inf false) p q e = absurd (omega arith)
place_same B (inf false) (inf true) p q e = absurd (omega arith)
place_same B (inf false) (inf false) p q e = refl
place_same B (inf true) (fin t n d) p q e = absurd (omega (arith, signed_pos B t (units_of binary64 (fin t n d)) q.1))
place_same B (inf false) (fin t n d) p q e = absurd (omega (arith, signed_most B t (units_of binary64 (fin t n d)) q.1))
place_same B (fin s m e') nan p q e = absurd (omega (arith, signed_most B s (units_of binary64 (fin s m e')) p.1))
place_same B (fin s m e') (inf true) p q e = absurd (omega (arith, signed_pos B s (units_of binary64 (fin s m e')) p.1))
place_same B (fin s m e') (inf false) p q e = absurd (omega (arith, signed_most B s (units_of binary64 (fin s m e')) p.1))
place_same B (fin s m e') (fin t n d) p q e =
    let k = signed_same B s t (units_of binary64 (fin s m e')) (units_of binary64 (fin t n d)) p.1 q.1 e in
    by_units s t m n e' d p.0 q.0 k.0 k.1

-- ---- the order of the doubles
under : (x : Float) → T (fits binary64 x) → Under bound x
unfolding Under units_of
under nan h = (h, mul-pos (pow_pos 1024) (pow_pos 1074))
under (inf s) h = (h, mul-pos (pow_pos 1024) (pow_pos 1074))
under (fin s m e) h = (h, units_under binary64 s m e h)

by_place : (x y : Float) → T (fits binary64 x) → T (fits binary64 y) → ranks_below x y ≡ ltb (place bound x) (place bound y)
by_place x y f g = place-below bound x y (under x f) (under y g)

pub below_irreflexive : (x : Float) → T (fits binary64 x) → ranks_below x x ≡ false
below_irreflexive x f = by_place x x f f ∙ le-ltb (place bound x) (place bound x) (le_refl (place bound x))

module _ (x y z : Float) (f : T (fits binary64 x)) (g : T (fits binary64 y)) (h : T (fits binary64 z)) where
  pub below_transitive : ranks_below x y ≡ true → ranks_below y z ≡ true → ranks_below x z ≡ true
  below_transitive p q =
      by_place x z f h
      ∙ lt-ltb (place bound x) (place bound z)
      (lt_trans (ltb-true (place bound x) (place bound y) (sym (by_place x y f g) ∙ p)) (ltb-true (place bound y) (place bound z) (sym (by_place y z g h) ∙ q)))

  pub not_below_transitive : ranks_below x y ≡ false → ranks_below y z ≡ false → ranks_below x z ≡ false
  not_below_transitive p q =
      by_place x z f h
      ∙ le-ltb (place bound x) (place bound z)
      (le_trans (ltb-false (place bound y) (place bound z) (sym (by_place y z g h) ∙ q)) (ltb-false (place bound x) (place bound y) (sym (by_place x y f g) ∙ p)))

-- of two doubles that are not the same one is below the other; all NaNs are the same
pub below_total : (x y : Float) → T (fits binary64 x) → T (fits binary64 y) → ranks_below x y ≡ false → ranks_below y x ≡ false → x ≡ y
below_total x y f g p q =
    place_same bound x y (under x f) (under y g)
    (le_antisymm (ltb-false (place bound y) (place bound x) (sym (by_place y x g f) ∙ q)) (ltb-false (place bound x) (place bound y) (sym (by_place x y f g) ∙ p)))
