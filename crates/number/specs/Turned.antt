-- Numbers that are the same or differ in their sign alone, where zeros of either sign are one number and NaN is NaN. Assumes nothing.
use Rattle.std.specs.Prelude.{◌≡◌, refl, ◌⊎◌, Bool, true, false, not, ◌&&◌, ◌||◌, cond, ℕ, ℤ, pos, T, eqb, Float}
use Rattle.std.proofs.Common.{ap, ◌∙◌, inl, inr}
use Rattle.std.specs.Bool.{beq}
use Rattle.std.specs.Float.{nan, inf, fin, binary64}
use Rattle.std.specs.Float.Ieee.{unlike, eq, is_nan, fits, neg, mul, of_bits}
use Rattle.std.specs.Float.Ieee.Scale.{finite}
use Rattle.number.specs.Float64.{◌⊗◌}
use Rattle.number.specs.Identities.{times_one, times_minus_one, zero_times}
use Rattle.number.specs.Order.{self_equal}
use Rattle.number.specs.Sign.{unit_of}

-- equal, as the language's == has it (zeros of either sign are), or both NaN
abbrev pub Alike : Float → Float → Type 0
Alike x y = (eq x y ≡ true) ⊎ (x ≡ nan) × (y ≡ nan)

-- y is x, with its sign turned where s; a zero of either sign is a zero of the other, turned or not
pub data Turned (s : Bool) : Float → Float → Type 0 where
  nans : Turned s nan nan
  infinities : (t : Bool) → Turned s (inf t) (inf (unlike s t))
  zeros : (t t' : Bool) → Turned s (fin t 0 (pos 0)) (fin t' 0 (pos 0))
  numbers : (t : Bool) (m : ℕ) (e : ℤ) → Turned s (fin t m e) (fin (unlike s t) m e)

-- x, with its sign turned where s
abbrev pub turned_if : Bool → Float → Float
turned_if s x = cond s (neg x) x

-- ---- in words of ==
zero_level : (s t : Bool) → eqb 0 0 && (beq s t || eqb 0 0) ≡ true
zero_level true true = refl
zero_level true false = refl
zero_level false true = refl
zero_level false false = refl

equal_zeros : (s t : Bool) → eq (fin s 0 (pos 0)) (fin t 0 (pos 0)) ≡ true
unfolding eq
equal_zeros s t = zero_level s t

same_number : (x y : Float) → is_nan x ≡ false → y ≡ x → Alike x y
same_number x y h e = inl (ap (eq x) e ∙ self_equal x ∙ ap not h)

-- a number whose sign is not turned is the same
pub turned_alike : {x y : Float} → Turned false x y → Alike x y
unfolding is_nan
turned_alike nans = inr (refl, refl)
turned_alike (infinities true) = same_number (inf true) _ refl refl
turned_alike (infinities false) = same_number (inf false) _ refl refl
turned_alike (zeros t t') = inl (equal_zeros t t')
turned_alike (numbers true m e) = same_number (fin true m e) _ refl refl
turned_alike (numbers false m e) = same_number (fin false m e) _ refl refl

-- a sign times 1 or -1
infinite_times : (s t : Bool) → Alike (inf (unlike s t)) (inf t ⊗ unit_of s)
unfolding mul neg of_bits eq
infinite_times true true = inl refl
infinite_times true false = inl refl
infinite_times false true = inl refl
infinite_times false false = inl refl

finite_unit : (s : Bool) → T (finite (unit_of s))
unfolding neg of_bits
finite_unit true = tt
finite_unit false = tt

zero_turns : (s t t' : Bool) → Alike (fin t' 0 (pos 0)) (fin t 0 (pos 0) ⊗ unit_of s)
zero_turns s t t' =
    let (v, e) = zero_times t (unit_of s) (finite_unit s) in
    inl (ap (eq (fin t' 0 (pos 0))) e ∙ equal_zeros t' v)

number_times : (s t : Bool) (m : ℕ) (e : ℤ) → T (fits binary64 (fin t m e)) → Alike (fin (unlike s t) m e) (fin t m e ⊗ unit_of s)
unfolding neg is_nan
number_times true true m e h = same_number (fin false m e) _ refl (times_minus_one (fin true m e) h)
number_times true false m e h = same_number (fin true m e) _ refl (times_minus_one (fin false m e) h)
number_times false true m e h = same_number (fin true m e) _ refl (times_one (fin true m e) h)
number_times false false m e h = same_number (fin false m e) _ refl (times_one (fin false m e) h)

-- y is x times -1 where s, and times 1 elsewhere
pub turned_times : (s : Bool) {x y : Float} → T (fits binary64 x) → Turned s x y → Alike y (x ⊗ unit_of s)
unfolding mul
turned_times s h nans = inr (refl, refl)
turned_times s h (infinities t) = infinite_times s t
turned_times s h (zeros t t') = zero_turns s t t'
turned_times s h (numbers t m e) = number_times s t m e h

-- x with its sign turned is y
pub turned_back : (s : Bool) {x y : Float} → Turned s x y → Turned false (turned_if s x) y
unfolding neg
turned_back true nans = nans
turned_back true (infinities true) = infinities false
turned_back true (infinities false) = infinities true
turned_back true (zeros t t') = zeros (not t) t'
turned_back true (numbers true m e) = numbers false m e
turned_back true (numbers false m e) = numbers true m e
turned_back false h = h

-- turned twice a number is what it was
pub turned_twice : (s : Bool) (x : Float) → turned_if s (turned_if s x) ≡ x
unfolding neg
turned_twice true nan = refl
turned_twice true (inf true) = refl
turned_twice true (inf false) = refl
turned_twice true (fin true m e) = refl
turned_twice true (fin false m e) = refl
turned_twice false x = refl
