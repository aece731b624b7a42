-- Digits, lines and their lengths, as the code stores them. Assumes nothing.
use mathlib.Core.Path.{◌≡◌, refl, sym, ap, ◌∙◌}
use Prim.Native.Nat.{ℕ, zero, suc, ◌+◌, ◌-◌, ◌*◌, ◌/◌, ◌%◌, ◌≤◌, ◌<◌}
use native.Mathlib.Nat.{not-suc-le-zero}
use native.Mathlib.Numerals.{add-one}
use native.Mathlib.Omega.{arith}
use mathlib.Core.List.{List, [], ◌∷◌, ◌++◌}
use lib.ListN.{length, get_or, set, drop, length-append, drop_of_length-le}
use lib.Seq.{set_comm, drop-cons}
use lib.Ieee.{Float, binary64, to_bits}
use borrow.Author.Tests.{lt-ltb, le-ltb}
use Rattle.refusal.specs.declared.Refusal.{Refusal}
use Rattle.refusal.specs.declared.Refusal.TheVariants.{Size, Length, Space, Place, Love, Short, Kind, After, Tide}
use Rattle.refusal.specs.Numbers.{refusal_number}
use Rattle.storage.specs.Store.{store, store_none, store_cons, store-append}
use Rattle.text.specs.Stored.{store_last}
use Rattle.text.specs.Digits.{decimal_digits, length_most}
use Rattle.variance_report.specs.Report.{hex_digit, hex_digits, line_of, lines_of, title_text, refused_text}

-- an element stored behind a list, before that list or after it
store_behind : (at : ℕ) (us d : List ℕ) (j v : ℕ) → at + length us ≤ j → store at us (set d j v) ≡ set (store at us d) j v
unfolding store
store_behind at [] d j v h = refl
store_behind at (u ∷ us) d j v h =
    ap (λ (l : List ℕ). store (at + 1) us l) (set_comm d j at v u (λ e. omega arith)) ∙ store_behind (at + 1) us (set d at u) j v (omega arith)

-- ---- hexadecimal digits

pub digit_low : (d : ℕ) → d < 10 → 48 + d ≡ hex_digit d
unfolding hex_digit
digit_low d h = rw (lt-ltb d 10 h) refl

pub digit_high : (d : ℕ) → 10 ≤ d → 87 + d ≡ hex_digit d
unfolding hex_digit
digit_high d h = rw (le-ltb d 10 h) refl

pub length_hex : (k x : ℕ) → length (hex_digits k x) ≡ k
unfolding hex_digits
length_hex zero x = refl
length_hex (suc k) x = length-append (hex_digits k (x / 16)) (hex_digit (x % 16) ∷ []) ∙ omega (arith, length_hex k (x / 16))

pub hex_turn : (d : List ℕ) (at k x v : ℕ) → 0 < k → v ≡ hex_digit (x % 16)
    → store at (hex_digits (k - 1) (x / 16)) (set d (at + (k - 1)) v) ≡ store at (hex_digits k x) d
unfolding hex_digits
hex_turn d at zero x v h e = absurd (not-suc-le-zero h)
hex_turn d at (suc k) x v h e =
    let n : suc k - 1 ≡ k = omega arith in
    let us : List ℕ = hex_digits k (x / 16) in
    let l : length us ≡ k = length_hex k (x / 16) in
    rw (n, e)
    (ap (λ (i : ℕ). store at us (set d (at + i) (hex_digit (x % 16)))) (sym l)
    ∙ store_behind at us d (at + length us) (hex_digit (x % 16)) (omega arith)
    ∙ store_last at us d (hex_digit (x % 16)))

pub hex_end : (d : List ℕ) (at k x : ℕ) → k ≤ 0 → d ≡ store at (hex_digits k x) d
unfolding hex_digits
hex_end d at zero x h = sym (store_none at d)
hex_end d at (suc k) x h = absurd (not-suc-le-zero h)

-- ---- a line

pub length_decimal : (n : ℕ) → n < 100 → length (decimal_digits n) ≤ 2
length_decimal n h = length_most 1 n h

pub length-line : (n bits : ℕ) → length (line_of n bits) ≡ length (decimal_digits n) + 18
unfolding line_of
length-line n bits =
    length-append (decimal_digits n) _ ∙ omega (arith, length-append (hex_digits 16 bits) (10 ∷ []), length_hex 16 bits)

-- a line by its parts
pub line_parts : (d d₁ d₂ : List ℕ) (at p n bits : ℕ) → p ≡ at + length (decimal_digits n) → d₁ ≡ store at (decimal_digits n) d
    → d₂ ≡ store (p + 1) (hex_digits 16 bits) (set d₁ p 32) → set d₂ (p + 17) 10 ≡ store at (line_of n bits) d
unfolding line_of
line_parts d d₁ d₂ at p n bits ep e₁ e₂ =
    let hs : List ℕ = hex_digits 16 bits in
    let q : p + 17 ≡ p + 1 + length hs = omega (arith, length_hex 16 bits) in
    rw (e₂, q)
    (store_last (p + 1) hs (set d₁ p 32) 10
    ∙ sym (store_cons p 32 (hs ++ (10 ∷ [])) d₁)
    ∙ rw (e₁, ep) (sym (store-append at (decimal_digits n) (32 ∷ (hs ++ (10 ∷ []))) d)))

-- ---- the lines: what is stored, with what is still to come

module _ (vs : List Float) (z : Float) (n at at' bits : ℕ) (h : n < length vs) (eb : bits ≡ to_bits binary64 (get_or vs n z))
    (ea : at' ≡ at + length (line_of n bits)) where
  lines_are : lines_of (drop n vs) n ≡ line_of n bits ++ lines_of (drop (n + 1) vs) (n + 1)
  unfolding lines_of
  lines_are = rw (drop-cons vs n z h, eb, add-one n) refl

  pub lines_turn : (d d' : List ℕ) → d' ≡ store at (line_of n bits) d
      → store at' (lines_of (drop (n + 1) vs) (n + 1)) d' ≡ store at (lines_of (drop n vs) n) d
  lines_turn d d' ed = rw (ed, ea, lines_are) (sym (store-append at (line_of n bits) (lines_of (drop (n + 1) vs) (n + 1)) d))

  pub lines_length : at' + length (lines_of (drop (n + 1) vs) (n + 1)) ≡ at + length (lines_of (drop n vs) n)
  lines_length = rw (ea, lines_are) (omega (arith, length-append (line_of n bits) (lines_of (drop (n + 1) vs) (n + 1))))

pub lines_none : (vs : List Float) (n : ℕ) → length vs ≤ n → lines_of (drop n vs) n ≡ []
unfolding lines_of
lines_none vs n h = rw (drop_of_length-le vs h) refl

pub lines_most : (vs : List Float) (n : ℕ) → n + length vs ≤ 100 → length (lines_of vs n) ≤ 20 * length vs
unfolding lines_of
lines_most [] n h = omega arith
lines_most (v ∷ vs) n h =
    let bits : ℕ = to_bits binary64 v in
    omega (arith, length-append (line_of n bits) (lines_of vs (n + 1)), length-line n bits, length_decimal n (omega arith), lines_most vs (n + 1) (omega arith))

-- ---- a refusal

pub number_small : (e : Refusal) → refusal_number e < 10
number_small Size = omega arith
number_small Length = omega arith
number_small Space = omega arith
number_small Place = omega arith
number_small Love = omega arith
number_small Short = omega arith
number_small Kind = omega arith
number_small After = omega arith
number_small Tide = omega arith

pub length_refused : (e : Refusal) → length (refused_text e) ≡ 10
unfolding refused_text
length_refused e = refl

pub refused_parts : (d d' : List ℕ) (e : Refusal) (k : ℕ) → k ≡ refusal_number e → d' ≡ store 0 (114 ∷ 101 ∷ 102 ∷ 117 ∷ 115 ∷ 101 ∷ 100 ∷ 32 ∷ []) d
    → set (set d' 8 (48 + k)) 9 10 ≡ store 0 (refused_text e) d
unfolding refused_text store
refused_parts d d' e k q p = rw (p, q) refl

pub length_title : length title_text ≡ 16
unfolding title_text
length_title = refl
