-- The cases that `root` tells apart: what a pattern stands for where that is above zero, and `square_root` of what is not above zero. Assumes nothing.
use mathlib.Core.Path.{◌≡◌, refl, sym, ap, ◌∙◌, subst}
use mathlib.Core.Bool.{Bool, true, false, not, cond, true≢false, ◌&&◌, ◌||◌, beq}
use Prim.Native.Nat.{ℕ, zero, suc, ◌+◌, ◌*◌, ◌/◌, ◌%◌, ◌^◌, ◌≤◌, ◌<◌}
use native.Mathlib.Nat.{le_of_eq, lt_of_le_of_lt, lt_irrefl, mul-one, mul-pos, zero-mul, zero-lt-suc, mod-eq_of_lt, mul-le-mul_left, lt_of_mul-lt-mul_right, le_of_mul-le-mul_right}
use native.Mathlib.Omega.{arith}
use lib.Dec.{T, leb, ltb, eqb, lt→ltb, nleb→lt}
use lib.Pow.{pow_pos}
use lib.Ieee.{Float, nan, inf, fin, binary64, up, down, odd, fits, is_nan, of_fields, of_bits, to_bits, lt, eq, div}
use lib.Ieee.Fits.{up_pos, down_pos}
use lib.Ieee.Bits.{of_bits-to_bits}
use lib.Ieee.Exact.{HasValue, odd_sign}
use lib.Ieee.Positive.{positive, above, first_pos, value_pos}
use borrow.Author.Tests.{ltb-true, ltb-false, lt-ltb, eq-eqb, ne_eqb, eqb-true}
use Rattle.number.specs.Root.{root_of_units, square_root}
use Rattle.number.proofs.Squares.{same_test}
use Rattle.number.proofs.Patterns.{root_at}

yes : {b : Bool} → b ≡ true → T b
yes h = subst T (sym h) tt

-- ---- above zero
zero_left : (d : ℕ) → 0 * 1 * d ≡ 0
zero_left d = ap (λ (k : ℕ). k * d) (zero-mul 1) ∙ zero-mul d

pub is_above : (x : Float) → lt (of_bits binary64 0) x ≡ true → T (above x)
unfolding lt of_bits
is_above nan h = absurd (true≢false (sym h))
is_above (inf true) h = absurd (true≢false (sym h))
is_above (inf false) h = tt
is_above (fin true n d) h = absurd (true≢false (sym h))
is_above (fin false n d) h =
    lt→ltb 0 n (first_pos n (up d) (first_pos (n * up d) 1 (lt_of_le_of_lt (le_of_eq (sym (zero_left (down d)))) (ltb-true (0 * 1 * down d) (n * up d * 1) h))))

pub above_no_nan : (x : Float) → T (above x) → T (not (is_nan x))
unfolding is_nan
above_no_nan nan h = absurd h
above_no_nan (inf s) h = tt
above_no_nan (fin s m e) h = tt

sign_of : (y : Float) (s : Bool) (a c : ℕ) → T (above y) → HasValue y s a c → s ≡ false
sign_of nan s a c p h = absurd h
sign_of (inf t) s a c p h = absurd h
sign_of (fin true m e) s a c p h = absurd p
sign_of (fin false m e) s a c p h = sym h.0

finite_above : (y : Float) (s : Bool) (a c : ℕ) → T (above y) → HasValue y s a c → T (positive y)
finite_above nan s a c p h = absurd h
finite_above (inf t) s a c p h = absurd h
finite_above (fin true m e) s a c p h = absurd p
finite_above (fin false m e) s a c p h = p

-- ---- the sign's bit is clear
clear : (s : Bool) (x t : ℕ) → T (above (of_fields binary64 s x t)) → s ≡ false
unfolding of_fields
clear s zero t p = sign_of (odd 53 s t 0 1074) s (t * 2 ^ 0) (2 ^ 1074) p (odd_sign 53 s t 0 1074)
clear s (suc j) t p = go s (eqb (suc j) 2047) (eqb t 0) p
  where
    go : (s a b : Bool) → T (above (cond a (cond b (inf s) nan) (odd 53 s (2 ^ 52 + t) j 1074))) → s ≡ false
    go true true true p = absurd p
    go false true true p = refl
    go s true false p = absurd p
    go s false b p = sign_of (odd 53 s (2 ^ 52 + t) j 1074) s ((2 ^ 52 + t) * 2 ^ j) (2 ^ 1074) p (odd_sign 53 s (2 ^ 52 + t) j 1074)

of_bits_is : (b : ℕ) → of_bits binary64 b ≡ of_fields binary64 (leb (2 ^ 63) b) (b % 2 ^ 63 / 2 ^ 52) (b % 2 ^ 52)
unfolding of_bits
of_bits_is b = refl

-- a field of all ones
at_ones : (t : ℕ) → T (above (of_fields binary64 false 2047 t)) → of_fields binary64 false 2047 t ≡ inf false
unfolding of_fields
at_ones t p = go (eqb t 0) p
  where
    go : (b : Bool) → T (above (cond b (inf false) nan)) → cond b (inf false) nan ≡ inf false
    go true p = refl
    go false p = absurd p

at_zero : (t : ℕ) → of_fields binary64 false 0 t ≡ odd 53 false t 0 1074
unfolding of_fields
at_zero t = refl

under_ones : (j t : ℕ) → (suc j ≡ 2047 → ⊥) → of_fields binary64 false (suc j) t ≡ odd 53 false (2 ^ 52 + t) j 1074
unfolding of_fields
under_ones j t n = ap (λ (b : Bool). cond b (cond (eqb t 0) (inf false) nan) (odd 53 false (2 ^ 52 + t) j 1074)) (ne_eqb (suc j) 2047 n)

-- ---- a pattern of a value above zero
module _ (b : ℕ) (p : T (above (of_bits binary64 b))) where
  no_sign : leb (2 ^ 63) b ≡ false
  no_sign = clear (leb (2 ^ 63) b) (b % 2 ^ 63 / 2 ^ 52) (b % 2 ^ 52) (subst (λ (y : Float). T (above y)) (of_bits_is b) p)

  small : b < 2 ^ 63
  small = nleb→lt (2 ^ 63) b (subst (λ (a : Bool). T (not a)) (sym no_sign) tt)

  fields : of_bits binary64 b ≡ of_fields binary64 false (b / 2 ^ 52) (b % 2 ^ 52)
  fields =
      of_bits_is b
      ∙ ap (λ (s : Bool). of_fields binary64 s (b % 2 ^ 63 / 2 ^ 52) (b % 2 ^ 52)) no_sign
      ∙ ap (λ (x : ℕ). of_fields binary64 false (x / 2 ^ 52) (b % 2 ^ 52)) (mod-eq_of_lt small)

  as_fields : T (above (of_fields binary64 false (b / 2 ^ 52) (b % 2 ^ 52)))
  as_fields = subst (λ (y : Float). T (above y)) fields p

  top_is : b / 2 ^ 52 ≡ 2047 → of_bits binary64 b ≡ inf false
  top_is e =
      fields
      ∙ ap (λ (x : ℕ). of_fields binary64 false x (b % 2 ^ 52)) e
      ∙ at_ones (b % 2 ^ 52) (subst (λ (x : ℕ). T (above (of_fields binary64 false x (b % 2 ^ 52)))) e as_fields)

  low_is : b / 2 ^ 52 ≡ 0 → HasValue (of_bits binary64 b) false b (2 ^ 1074)
  low_is e =
      let t = b % 2 ^ 52 in
      let is : of_bits binary64 b ≡ odd 53 false t 0 1074 = fields ∙ ap (λ (x : ℕ). of_fields binary64 false x t) e ∙ at_zero t in
      let same : t * 2 ^ 0 ≡ b = mul-one t ∙ go b e in
      subst (λ (y : Float). HasValue y false b (2 ^ 1074)) (sym is) (subst (λ (a : ℕ). HasValue (odd 53 false t 0 1074) false a (2 ^ 1074)) same (odd_sign 53 false t 0 1074))
    where
      go : (b : ℕ) → b / 2 ^ 52 ≡ 0 → b % 2 ^ 52 ≡ b
      go b e = omega arith

  mid_is : (j : ℕ) → b / 2 ^ 52 ≡ suc j → (suc j ≡ 2047 → ⊥) → HasValue (of_bits binary64 b) false ((2 ^ 52 + b % 2 ^ 52) * 2 ^ j) (2 ^ 1074)
  mid_is j e n =
      let t = b % 2 ^ 52 in
      let is : of_bits binary64 b ≡ odd 53 false (2 ^ 52 + t) j 1074 = fields ∙ ap (λ (x : ℕ). of_fields binary64 false x t) e ∙ under_ones j t n in
      subst (λ (y : Float). HasValue y false ((2 ^ 52 + t) * 2 ^ j) (2 ^ 1074)) (sym is) (odd_sign 53 false (2 ^ 52 + t) j 1074)

-- ---- above the largest subnormal value, 2 ^ 52 - 1 of the smallest
pub normal_above : (x : Float) → lt (of_bits binary64 0x000f_ffff_ffff_ffff) x ≡ true → T (above x)
unfolding lt of_bits
normal_above nan h = absurd (true≢false (sym h))
normal_above (inf true) h = absurd (true≢false (sym h))
normal_above (inf false) h = tt
normal_above (fin true n d) h = absurd (true≢false (sym h))
normal_above (fin false n d) h =
    lt→ltb 0 n (first_pos n (up d) (first_pos (n * up d) (2 ^ 1074) (go (4503599627370495 * down d) (n * up d * 2 ^ 1074) (ltb-true (4503599627370495 * down d) (n * up d * 2 ^ 1074) h))))
  where
    go : (k m : ℕ) → k < m → 0 < m
    go k m h = omega arith

normal_test : (x : Float) (A : ℕ) → HasValue x false A (2 ^ 1074) → lt (of_bits binary64 0x000f_ffff_ffff_ffff) x ≡ ltb 4503599627370495 A
unfolding lt of_bits
normal_test nan A h = absurd h
normal_test (inf s) A h = absurd h
normal_test (fin true m e) A h = absurd (true≢false h.0)
normal_test (fin false m e) A h =
    same_test (4503599627370495 * down e) (m * up e * 2 ^ 1074) 4503599627370495 A
    (λ (g : 4503599627370495 * down e < m * up e * 2 ^ 1074). lt_of_mul-lt-mul_right (down e) (subst (λ (k : ℕ). 4503599627370495 * down e < k) h.1 g))
    (λ (g : m * up e * 2 ^ 1074 ≤ 4503599627370495 * down e). le_of_mul-le-mul_right (subst (λ (k : ℕ). k ≤ 4503599627370495 * down e) h.1 g) (down_pos e))
    (ltb (4503599627370495 * down e) (m * up e * 2 ^ 1074)) refl

infinite_test : lt (of_bits binary64 0x000f_ffff_ffff_ffff) (inf false) ≡ true
unfolding lt of_bits
infinite_test = refl

infinite : inf false ≡ square_root binary64 (inf false)
unfolding square_root
infinite = refl

-- ---- the same of a float and its pattern
module _ (x : Float) (F : T (fits binary64 x)) (p : T (above x)) where
  abbrev b : ℕ
  b = to_bits binary64 x

  same : of_bits binary64 b ≡ x
  same = of_bits-to_bits binary64 x F

  q : T (above (of_bits binary64 b))
  q = subst (λ (y : Float). T (above y)) (sym same) p

  pub bits_small : to_bits binary64 x < 2 ^ 63
  bits_small = small b q

  pub root_top : to_bits binary64 x / 2 ^ 52 ≡ 2047 → x ≡ square_root binary64 x
  root_top e = subst (λ (y : Float). y ≡ square_root binary64 y) (sym (top_is b q e) ∙ same) infinite

  value_low : to_bits binary64 x / 2 ^ 52 ≡ 0 → HasValue x false (to_bits binary64 x) (2 ^ 1074)
  value_low e = subst (λ (y : Float). HasValue y false b (2 ^ 1074)) same (low_is b q e)

  pub low_pos : to_bits binary64 x / 2 ^ 52 ≡ 0 → 0 < to_bits binary64 x
  low_pos e = value_pos x b (2 ^ 1074) (finite_above x false b (2 ^ 1074) p (value_low e)) (pow_pos 1074) (value_low e)

  pub root_low : to_bits binary64 x / 2 ^ 52 ≡ 0 → square_root binary64 x ≡ root_of_units binary64 (to_bits binary64 x)
  root_low e = root_at x b (value_low e) (low_pos e)

  value_mid : (j : ℕ) → to_bits binary64 x / 2 ^ 52 ≡ suc j → (suc j ≡ 2047 → ⊥) → HasValue x false ((2 ^ 52 + to_bits binary64 x % 2 ^ 52) * 2 ^ j) (2 ^ 1074)
  value_mid j e n = subst (λ (y : Float). HasValue y false ((2 ^ 52 + b % 2 ^ 52) * 2 ^ j) (2 ^ 1074)) same (mid_is b q j e n)

  pub root_mid : (j : ℕ) → to_bits binary64 x / 2 ^ 52 ≡ suc j → (suc j ≡ 2047 → ⊥) → square_root binary64 x ≡ root_of_units binary64 ((2 ^ 52 + to_bits binary64 x % 2 ^ 52) * 2 ^ j)
  root_mid j e n = root_at x ((2 ^ 52 + b % 2 ^ 52) * 2 ^ j) (value_mid j e n) (mul-pos (go (b % 2 ^ 52)) (pow_pos j))
    where
      go : (t : ℕ) → 0 < 2 ^ 52 + t
      go t = omega arith

  pub normal_bits : lt (of_bits binary64 0x000f_ffff_ffff_ffff) x ≡ true → to_bits binary64 x / 2 ^ 52 ≡ 0 → ⊥
  normal_bits h e = go b e (ltb-true 4503599627370495 b (sym (normal_test x b (value_low e)) ∙ h))
    where
      go : (b : ℕ) → b / 2 ^ 52 ≡ 0 → 4503599627370495 < b → ⊥
      go b e h = omega arith

  pub subnormal_bits : lt (of_bits binary64 0x000f_ffff_ffff_ffff) x ≡ false → to_bits binary64 x / 2 ^ 52 ≡ 0
  subnormal_bits h = go (b / 2 ^ 52) refl
    where
      least : (t j : ℕ) → (2 ^ 52 + t) * 1 ≤ (2 ^ 52 + t) * 2 ^ j → (2 ^ 52 + t) * 2 ^ j ≤ 4503599627370495 → ⊥
      least t j u v = omega arith

      up_there : (j : ℕ) → b / 2 ^ 52 ≡ suc j → (a : Bool) → eqb (suc j) 2047 ≡ a → ⊥
      up_there j i true k =
          let is : x ≡ inf false = sym same ∙ top_is b q (i ∙ eqb-true (suc j) 2047 k) in
          true≢false (sym infinite_test ∙ sym (ap (lt (of_bits binary64 0x000f_ffff_ffff_ffff)) is) ∙ h)
      up_there j i false k =
          let t = b % 2 ^ 52 in
          let v = value_mid j i (λ (m : suc j ≡ 2047). true≢false (sym (eq-eqb (suc j) 2047 m) ∙ k)) in
          least t j (mul-le-mul_left (2 ^ 52 + t) (pow_pos j)) (ltb-false 4503599627370495 ((2 ^ 52 + t) * 2 ^ j) (sym (normal_test x ((2 ^ 52 + t) * 2 ^ j) v) ∙ h))

      go : (e : ℕ) → b / 2 ^ 52 ≡ e → b / 2 ^ 52 ≡ 0
      go zero i = i
      go (suc j) i = absurd (up_there j i (eqb (suc j) 2047) refl)

-- ---- not above zero
both : (a b : Bool) → a && b ≡ true → a ≡ true
both true b h = refl
both false b h = h

pub root_zero : (x : Float) → eq x (of_bits binary64 0) ≡ true → x ≡ square_root binary64 x
unfolding eq of_bits square_root
root_zero nan h = refl
root_zero (inf s) h = absurd (true≢false (sym h))
root_zero (fin s zero e) h = refl
root_zero (fin s (suc m) e) h =
    absurd (lt_irrefl 0 (subst (λ (k : ℕ). 0 < k) (eqb-true (suc m * up e * 1) (0 * 1 * down e) (both (eqb (suc m * up e * 1) (0 * 1 * down e)) (beq s false || eqb (suc m * up e * 1) 0) h) ∙ zero_left (down e)) (mul-pos (mul-pos (zero-lt-suc m) (up_pos e)) (zero-lt-suc 0))))

zero_by_zero : div binary64 (of_bits binary64 0) (of_bits binary64 0) ≡ nan
unfolding div of_bits
zero_by_zero = refl

zero_right : (u : ℕ) → 0 * u * 1 ≡ 0
zero_right u = mul-one (0 * u) ∙ zero-mul u

level_zero : (s : Bool) (u d : ℕ) → eqb (0 * u * 1) (0 * 1 * d) && (beq s false || eqb (0 * u * 1) 0) ≡ true
level_zero s u d =
    ap (λ (a : Bool). a && (beq s false || eqb (0 * u * 1) 0)) (eq-eqb (0 * u * 1) (0 * 1 * d) (zero_right u ∙ sym (zero_left d)))
    ∙ ap (λ (a : Bool). beq s false || a) (eq-eqb (0 * u * 1) 0 (zero_right u))
    ∙ go s
  where
    go : (s : Bool) → beq s false || true ≡ true
    go true = refl
    go false = refl

has_none : (x : Float) → lt (of_bits binary64 0) x ≡ false → eq x (of_bits binary64 0) ≡ false → nan ≡ square_root binary64 x
unfolding lt eq of_bits square_root
has_none nan h k = refl
has_none (inf true) h k = refl
has_none (inf false) h k = absurd (true≢false h)
has_none (fin s zero e) h k = absurd (true≢false (sym (level_zero s (up e) (down e)) ∙ k))
has_none (fin true (suc m) e) h k = refl
has_none (fin false (suc m) e) h k =
    absurd (true≢false (sym (lt-ltb (0 * 1 * down e) (suc m * up e * 1) (lt_of_le_of_lt (le_of_eq (zero_left (down e))) (mul-pos (mul-pos (zero-lt-suc m) (up_pos e)) (zero-lt-suc 0)))) ∙ h))

pub root_none : (x : Float) → lt (of_bits binary64 0) x ≡ false → eq x (of_bits binary64 0) ≡ false → div binary64 (of_bits binary64 0) (of_bits binary64 0) ≡ square_root binary64 x
root_none x h k = zero_by_zero ∙ has_none x h k
