-- Little-endian numbers: the bytes of a number, the number of the bytes at an index, and that the two undo each other. Assumes nothing.
use Rattle.std.specs.Prelude.{◌≡◌, refl, ℕ, zero, suc, ◌+◌, ◌*◌, ◌/◌, ◌%◌, ◌^◌, ◌≤◌, ◌<◌, List, [], ◌∷◌, ◌++◌, length, get_or, take, drop}
use Rattle.std.proofs.Common.{sym, ap, ◌∙◌, add-zero, pow-suc, add-one, arith, length-drop, get_or-take, drop-cons, get_or-drop, drop-drop}
use Rattle.std.proofs.Math.Seq.{drop-append_seam}

-- the k bytes of x, the lowest first
unfoldable pub bytes_of : ℕ → ℕ → List ℕ
bytes_of zero x = []
bytes_of (suc k) x = x % 256 ∷ bytes_of k (x / 256)

-- the number whose k bytes stand in s from index at on, the lowest first
unfoldable pub number_at : ℕ → List ℕ → ℕ → ℕ
number_at zero s at = 0
number_at (suc k) s at = get_or s at 0 + 256 * number_at k s (at + 1)

-- the eight-byte numbers at the indices at, at + 17, at + 34, .., count of them: a record of a pair has 17 bytes
unfoldable pub words_at : List ℕ → ℕ → ℕ → List ℕ
words_at s zero at = []
words_at s (suc count) at = number_at 8 s at ∷ words_at s count (at + 17)

pub length_bytes : (k x : ℕ) → length (bytes_of k x) ≡ k
unfolding bytes_of
length_bytes zero x = refl
length_bytes (suc k) x = ap suc (length_bytes k (x / 256))

pub length_words : (s : List ℕ) (count at : ℕ) → length (words_at s count at) ≡ count
unfolding words_at
length_words s zero at = refl
length_words s (suc count) at = ap suc (length_words s count (at + 17))

-- a number that stands in the first K bytes
pub number_front : (k K : ℕ) (s : List ℕ) (at : ℕ) → at + k ≤ K → number_at k (take K s) at ≡ number_at k s at
unfolding number_at
number_front zero K s at h = refl
number_front (suc k) K s at h = rw (get_or-take K s at 0 (omega arith), number_front k K s (at + 1) (omega arith)) refl

-- every number of the list is below b
abbrev pub Below : ℕ → List ℕ → Type 0
Below b l = (i : ℕ) → get_or l i 0 < b

pub number_fits : (k : ℕ) (s : List ℕ) (at : ℕ) → Below 256 s → number_at k s at < 256 ^ k
unfolding number_at
number_fits zero s at b = omega arith
number_fits (suc k) s at b = rw pow-suc (omega (arith, b at, number_fits k s (at + 1) b))

pub words_fit : (s : List ℕ) (k at : ℕ) → Below 256 s → Below (2 ^ 64) (words_at s k at)
unfolding words_at
words_fit s zero at b i = omega arith
words_fit s (suc k) at b zero = number_fits 8 s at b
words_fit s (suc k) at b (suc i) = words_fit s k (at + 17) b i

-- ---- where s from index at on is a known list

module _ (s : List ℕ) (at : ℕ) where
  pub here_head : (a : ℕ) (l : List ℕ) → drop at s ≡ a ∷ l → get_or s at 0 ≡ a
  here_head a l p = ap (λ (n : ℕ). get_or s n 0) (sym (add-zero at)) ∙ sym (get_or-drop at s 0 0) ∙ ap (λ (x : List ℕ). get_or x 0 0) p

  pub here_tail : (a : ℕ) (l : List ℕ) → drop at s ≡ a ∷ l → drop (at + 1) s ≡ l
  here_tail a l p = sym (drop-drop 1 at s) ∙ ap (λ (x : List ℕ). drop 1 x) p

  pub here_long : (l : List ℕ) → drop at s ≡ l → 0 < length l → at + length l ≡ length s
  here_long l p h = omega (arith, length-drop at s, ap length p)

  pub here_rest : (k : ℕ) (u l : List ℕ) → length u ≡ k → drop at s ≡ u ++ l → drop (at + k) s ≡ l
  here_rest k u l e p =
      ap (λ (n : ℕ). drop (at + n) s) (sym e)
      ∙ sym (drop-drop (length u) at s)
      ∙ ap (λ (x : List ℕ). drop (length u) x) p
      ∙ drop-append_seam u l

  pub here_cons : at < length s → drop at s ≡ get_or s at 0 ∷ drop (at + 1) s
  here_cons h = drop-cons s at 0 h ∙ ap (λ (n : ℕ). get_or s at 0 ∷ drop n s) (sym (add-one at))

-- the number of a number's bytes is that number
pub number_here : (k : ℕ) (s : List ℕ) (at x : ℕ) (l : List ℕ) → x < 256 ^ k → drop at s ≡ bytes_of k x ++ l → number_at k s at ≡ x
unfolding bytes_of number_at
number_here zero s at x l h p = omega arith
number_here (suc k) s at x l h p =
    let head = here_head s at (x % 256) (bytes_of k (x / 256) ++ l) p in
    let q = rw pow-suc at h in
    let rest = number_here k s (at + 1) (x / 256) l (omega arith) (here_tail s at (x % 256) (bytes_of k (x / 256) ++ l) p) in
    omega arith

-- the bytes of the number at an index are the bytes that stand there
pub bytes_here : (k : ℕ) (s : List ℕ) (at : ℕ) → Below 256 s → at + k ≤ length s → drop at s ≡ bytes_of k (number_at k s at) ++ drop (at + k) s
unfolding bytes_of number_at
bytes_here zero s at b h = ap (λ (n : ℕ). drop n s) (sym (add-zero at))
bytes_here (suc k) s at b h =
    let small = b at in
    let low : (get_or s at 0 + 256 * number_at k s (at + 1)) % 256 ≡ get_or s at 0 = omega arith in
    let high : (get_or s at 0 + 256 * number_at k s (at + 1)) / 256 ≡ number_at k s (at + 1) = omega arith in
    let next : at + 1 + k ≡ at + suc k = omega arith in
    here_cons s at (omega arith) ∙ ap (λ (t : List ℕ). get_or s at 0 ∷ t) (bytes_here k s (at + 1) b (omega arith)) ∙ rw (low, high, next) refl
