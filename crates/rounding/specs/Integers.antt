-- Integers as differences of natural numbers: `Difference z a b` says that z is a - b. Sums, products and sizes of integers are carried
-- over to a and b, where the arithmetic tactic reaches. Assumes nothing.
use Rattle.std.specs.Prelude.{◌≡◌, refl, Bool, true, false, not, cond, ℕ, zero, suc, ◌+◌, ◌-◌, ◌*◌, ◌≤◌, ◌<◌, ℤ, pos, negsuc, neg_ℤ, nat_abs, ◌+ℤ◌, ◌-ℤ◌, ◌*ℤ◌, T, ltb}
use Rattle.std.proofs.Common.{sym, ap, ap₂, ◌∙◌, arith, ltb→lt, nltb→le}
use Rattle.std.proofs.Math.IntN.{sub_ℕ}
use Rattle.rounding.specs.Distance.{dist}

-- z + b = a, without negative numbers
abbrev Balanced : ℤ → ℕ → ℕ → Type 0
Balanced (pos n) a b = a ≡ b + n
Balanced (negsuc n) a b = b ≡ a + suc n

-- z = a - b
pub record Difference (z : ℤ) (a b : ℕ) : Type 0 where
  balanced : Balanced z a b

-- the same numbers, written in another way
pub rewritten : {z : ℤ} {a b a' b' : ℕ} → Difference z a b → a ≡ a' → b ≡ b' → Difference z a' b'
rewritten d p q = rw (← p, ← q) d

pub difference_nat : (n : ℕ) → Difference (pos n) n 0
difference_nat n = record { balanced = omega arith }

sub_ℕ_balanced : (n m a b : ℕ) → a + m ≡ b + n → Balanced (sub_ℕ n m) a b
sub_ℕ_balanced n m a b e = go (ltb n m) (ltb→lt n m) (nltb→le n m)
  where
    go : (x : Bool) → (T x → n < m) → (T (not x) → m ≤ n) → Balanced (cond x (negsuc (m - suc n)) (pos (n - m))) a b
    go true h k = omega (arith, h tt)
    go false h k = omega (arith, k tt)

add-balanced : (z w : ℤ) (a b c d : ℕ) → Balanced z a b → Balanced w c d → Balanced (z +ℤ w) (a + c) (b + d)
add-balanced (pos n) (pos m) a b c d p q = omega arith
add-balanced (pos n) (negsuc m) a b c d p q = sub_ℕ_balanced n (suc m) (a + c) (b + d) (omega arith)
add-balanced (negsuc n) (pos m) a b c d p q = sub_ℕ_balanced m (suc n) (a + c) (b + d) (omega arith)
add-balanced (negsuc n) (negsuc m) a b c d p q = omega arith

pub difference_add : {z w : ℤ} {a b c d : ℕ} → Difference z a b → Difference w c d → Difference (z +ℤ w) (a + c) (b + d)
difference_add {z} {w} {a} {b} {c} {d} p q = record { balanced = add-balanced z w a b c d p.balanced q.balanced }

neg_balanced : (z : ℤ) (a b : ℕ) → Balanced z a b → Balanced (neg_ℤ z) b a
neg_balanced (pos zero) a b p = omega arith
neg_balanced (pos (suc n)) a b p = p
neg_balanced (negsuc n) a b p = p

pub difference_neg : {z : ℤ} {a b : ℕ} → Difference z a b → Difference (neg_ℤ z) b a
difference_neg {z} {a} {b} p = record { balanced = neg_balanced z a b p.balanced }

pub difference_sub : {z w : ℤ} {a b c d : ℕ} → Difference z a b → Difference w c d → Difference (z -ℤ w) (a + d) (b + c)
difference_sub p q = difference_add p (difference_neg q)

product : (n m a b c d : ℕ) → a ≡ b + n → c ≡ d + m → a * c + b * d ≡ a * d + b * c + n * m
product n m a b c d p q = omega (arith, ap₂ (λ (x y : ℕ). x * y) p q, ap (λ (x : ℕ). x * d) p, ap (λ (x : ℕ). b * x) q)

mul-balanced : (z w : ℤ) (a b c d : ℕ) → Balanced z a b → Balanced w c d → Balanced (z *ℤ w) (a * c + b * d) (a * d + b * c)
mul-balanced (pos n) (pos m) a b c d p q = product n m a b c d p q
mul-balanced (pos n) (negsuc m) a b c d p q = neg_balanced (pos (n * suc m)) (a * d + b * c) (a * c + b * d) (product n (suc m) a b d c p q)
mul-balanced (negsuc n) (pos m) a b c d p q =
    neg_balanced (pos (suc n * m)) (a * d + b * c) (a * c + b * d) (omega (arith, product (suc n) m b a c d p q))
mul-balanced (negsuc n) (negsuc m) a b c d p q = omega (arith, product (suc n) (suc m) b a d c p q)

pub difference_mul : {z w : ℤ} {a b c d : ℕ} → Difference z a b → Difference w c d → Difference (z *ℤ w) (a * c + b * d) (a * d + b * c)
difference_mul {z} {w} {a} {b} {c} {d} p q = record { balanced = mul-balanced z w a b c d p.balanced q.balanced }

-- times a natural number
pub difference_scale : {z : ℤ} {a b : ℕ} → Difference z a b → (k : ℕ) → Difference (z *ℤ pos k) (a * k) (b * k)
difference_scale p k = rewritten (difference_mul p (difference_nat k)) (omega arith) (omega arith)

-- one difference belongs to one integer
pub difference_unique : {z w : ℤ} {a b c d : ℕ} → Difference z a b → Difference w c d → a + d ≡ b + c → z ≡ w
difference_unique {z} {w} {a} {b} {c} {d} p q e = go z w p.balanced q.balanced
  where
    go : (z w : ℤ) → Balanced z a b → Balanced w c d → z ≡ w
    go (pos n) (pos m) p q = ap pos (omega (arith, e))
    go (pos n) (negsuc m) p q = absurd (omega (arith, e))
    go (negsuc n) (pos m) p q = absurd (omega (arith, e))
    go (negsuc n) (negsuc m) p q = ap negsuc (omega (arith, e))

-- ---- sizes
-- |a - b| is the distance of a and b
pub abs_difference : {z : ℤ} {a b : ℕ} → Difference z a b → nat_abs z ≡ dist a b
abs_difference {z} {a} {b} p = go z p.balanced
  where
    go : (z : ℤ) → Balanced z a b → nat_abs z ≡ dist a b
    go (pos n) p = omega arith
    go (negsuc n) p = omega arith

pub abs_neg : (z : ℤ) → nat_abs (neg_ℤ z) ≡ nat_abs z
abs_neg (pos zero) = refl
abs_neg (pos (suc n)) = refl
abs_neg (negsuc n) = refl

-- |z w| = |z| |w|
pub abs_mul : (z w : ℤ) → nat_abs (z *ℤ w) ≡ nat_abs z * nat_abs w
abs_mul (pos n) (pos m) = refl
abs_mul (pos n) (negsuc m) = abs_neg (pos (n * suc m))
abs_mul (negsuc n) (pos m) = abs_neg (pos (suc n * m))
abs_mul (negsuc n) (negsuc m) = refl

-- ---- the positive and the negative part of an integer: z = p - q and |z| = p + q
pub record Parts (z : ℤ) (p q : ℕ) : Type 0 where
  pub difference : Difference z p q
  pub size : p + q ≡ nat_abs z

pub parts_rewritten : {z : ℤ} {p q p' q' : ℕ} → Parts z p q → p ≡ p' → q ≡ q' → Parts z p' q'
parts_rewritten d e g = rw (← e, ← g) d

pub parts_mul : {z w : ℤ} {a b c d : ℕ} → Parts z a b → Parts w c d → Parts (z *ℤ w) (a * c + b * d) (a * d + b * c)
parts_mul {z} {w} {a} {b} {c} {d} h k = record {
  difference = difference_mul h.difference k.difference;
  size = multiply a b c d ∙ ap₂ (λ (x y : ℕ). x * y) h.size k.size ∙ sym (abs_mul z w);
}
  where
    multiply : (a b c d : ℕ) → a * c + b * d + (a * d + b * c) ≡ (a + b) * (c + d)
    multiply a b c d = omega arith
