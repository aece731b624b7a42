-- Words by their bytes as the code reads and stores them, and a turn of each loop. Assumes nothing.
use Rattle.std.specs.Prelude.{None, Option, Some, ℤ}
use mathlib.Core.Path.{◌≡◌, refl, sym, ap, ◌∙◌}
use Prim.Native.Nat.{ℕ, zero, suc, ◌+◌, ◌-◌, ◌*◌, ◌/◌, ◌%◌, ◌≤◌, ◌<◌}
use native.Mathlib.Nat.{add_assoc}
use native.Mathlib.Numerals.{add-one}
use Rattle.std.proofs.Common.{add-zero}
use native.Mathlib.Omega.{arith}
use mathlib.Core.List.{List, ◌∷◌, ◌++◌, append_assoc}
use lib.ListN.{length, get_or, set, take, drop, drop_of_length-le}
use lib.Seq.{drop-cons, drop-drop, get_or-take, get_or-drop, sets-eq}
use lib.IntN.{ℤ}
use borrow.Rule.Slice.PartMut.{put_mid}
use Rattle.std.specs.Int.{w64, to_le_bytes}
use Rattle.storage.specs.Store.{store, store_sets, store_none, store_cons, store-append}
use Rattle.days.specs.Days.{pattern_of}
use Rattle.coefficients.specs.Model.{tide_number}
use Rattle.model_file.specs.declared.FileHead.{FileHead}
use Rattle.model_file.specs.LittleEndian.{bytes_of, number_at, words_at, length_bytes}
use Rattle.model_file.specs.Format.{head_kind, head_size, date_bytes, head_bytes, pair_bytes, record_bytes, render}
use Rattle.model_file.specs.Head.{length_head_bytes}
use Rattle.model_file.specs.Body.{length_pair}

-- an element of the part of s that was copied from index at on
copied : (s b : List ℕ) (at k i : ℕ) → b ≡ take (at + k - at) (drop at s) → i < k → get_or b i 0 ≡ get_or s (at + i) 0
copied s b at k i e h =
    let n : at + k - at ≡ k = omega arith in
    rw (e, n) (get_or-take k (drop at s) i 0 h ∙ get_or-drop at s i 0)

pub word_of_eight : (s b : List ℕ) (at : ℕ) → b ≡ take (at + 8 - at) (drop at s)
    → get_or b 0 0 + get_or b 1 0 * 256 + get_or b 2 0 * 65536 + get_or b 3 0 * 16777216 + get_or b 4 0 * 4294967296 + get_or b 5 0 * 1099511627776
    + get_or b 6 0 * 281474976710656 + get_or b 7 0 * 72057594037927936
    ≡ number_at 8 s at
unfolding number_at
word_of_eight s b at e =
    let x : (i : ℕ) → i < 8 → get_or b i 0 ≡ get_or s (at + i) 0 = λ i h. copied s b at 8 i e h in
    rw (x 0 (omega arith), x 1 (omega arith), x 2 (omega arith), x 3 (omega arith), x 4 (omega arith), x 5 (omega arith), x 6 (omega arith), x 7 (omega arith), add-zero at)
    (simp add_assoc (omega arith))

pub pattern_of_four : (s : List ℕ) (at : ℕ)
    → get_or s at 0 + get_or s (at + 1) 0 * 256 + get_or s (at + 2) 0 * 65536 + get_or s (at + 3) 0 * 16777216 ≡ number_at 4 s at
unfolding number_at
pattern_of_four s at = simp add_assoc (omega arith)

pub degree_of_two : (s : List ℕ) (at : ℕ) → get_or s at 0 + get_or s (at + 1) 0 * 256 ≡ number_at 2 s at
unfolding number_at
degree_of_two s at = omega arith

-- std's bytes are those of the format
pub eight_bytes : (x : ℕ) → to_le_bytes w64 x ≡ bytes_of 8 x
unfolding bytes_of
eight_bytes x =
    let e2 : x / 256 / 256 ≡ x / 65536 = omega arith in
    let e3 : x / 65536 / 256 ≡ x / 16777216 = omega arith in
    let e4 : x / 16777216 / 256 ≡ x / 4294967296 = omega arith in
    let e5 : x / 4294967296 / 256 ≡ x / 1099511627776 = omega arith in
    let e6 : x / 1099511627776 / 256 ≡ x / 281474976710656 = omega arith in
    let e7 : x / 281474976710656 / 256 ≡ x / 72057594037927936 = omega arith in
    simp (e2, e3, e4, e5, e6, e7)

take_bytes : (k m x : ℕ) → take k (bytes_of (k + m) x) ≡ bytes_of k x
unfolding bytes_of
take_bytes zero m x = refl
take_bytes (suc k) m x = let e : suc k + m ≡ suc (k + m) = omega arith in rw e (ap (λ (l : List ℕ). x % 256 ∷ l) (take_bytes k m (x / 256)))

pub four_bytes : {l : List ℕ} (x : ℕ) → l ≡ to_le_bytes w64 x → take 4 l ≡ bytes_of 4 x
four_bytes x e = ap (take 4) (e ∙ eight_bytes x) ∙ take_bytes 4 4 x

pub two_bytes : {l : List ℕ} (x : ℕ) → l ≡ to_le_bytes w64 x → take 2 l ≡ bytes_of 2 x
two_bytes x e = ap (take 2) (e ∙ eight_bytes x) ∙ take_bytes 2 6 x

-- a part that was written over, from index at on
pub part_stored : (vs d ys : List ℕ) (at k : ℕ) → ys ≡ vs → length vs ≡ k → at + k ≤ length d → put_mid at (at + k - at) d ys ≡ store at vs d
part_stored vs d ys at k e l h =
    let n : at + k - at ≡ k = omega arith in
    rw (n, e)
    (ap (λ (r : List ℕ). take at d ++ (vs ++ r)) (drop-drop k at d ∙ ap (λ (j : ℕ). drop (at + j) d) (sym l))
    ∙ sym (append_assoc (take at d) vs _) ∙ sym (sets-eq vs d at (omega (arith, l, h))) ∙ sym (store_sets at vs d))

-- ---- the loop that reads the pairs: what is stored, with what is still to come

pub words_start : (b d : List ℕ) (count p q : ℕ) → p ≡ q → store 0 (words_at b (count - 0) p) d ≡ store 0 (words_at b count q) d
words_start b d count p q e = let n : count - 0 ≡ count = omega arith in rw (n, e) refl

pub words_turn : (b d : List ℕ) (k count p q v : ℕ) → k < count → v ≡ number_at 8 b p → q ≡ p + 17
    → store (k + 1) (words_at b (count - (k + 1)) q) (set d k v) ≡ store k (words_at b (count - k) p) d
unfolding words_at store
words_turn b d k count p q v h e f =
    let n : count - k ≡ suc (count - (k + 1)) = omega arith in
    rw (n, e, f) refl

pub words_end : (b d : List ℕ) (k count p : ℕ) → count ≤ k → d ≡ store k (words_at b (count - k) p) d
unfolding words_at store
words_end b d k count p h = let n : count - k ≡ 0 = omega arith in rw n refl

-- ---- the loop that writes the pairs

pub records_turn : (c s d d' : List ℕ) (k at : ℕ) → k < length c → length c ≡ length s → d' ≡ store at (pair_bytes (get_or c k 0) (get_or s k 0)) d
    → store (at + 17) (record_bytes (drop (k + 1) c) (drop (k + 1) s)) d' ≡ store at (record_bytes (drop k c) (drop k s)) d
unfolding record_bytes
records_turn c s d d' k at h e f =
    let l : k < length s = omega arith in
    let p : List ℕ = pair_bytes (get_or c k 0) (get_or s k 0) in
    let rest : List ℕ = record_bytes (drop (suc k) c) (drop (suc k) s) in
    rw (f, add-one, drop-cons c k 0 h, drop-cons s k 0 l)
    (ap (λ (n : ℕ). store (at + n) rest (store at p d)) (sym (length_pair (get_or c k 0) (get_or s k 0))) ∙ sym (store-append at p rest d))

pub records_end : (c s d : List ℕ) (k at : ℕ) → length c ≤ k → set d at 3 ≡ store at (record_bytes (drop k c) (drop k s)) d
unfolding record_bytes store
records_end c s d k at h = rw (drop_of_length-le c h) refl

-- ---- a record by its parts, and the file by its two

pub pair_parts : (d d' d'' : List ℕ) (at c s : ℕ) → d' ≡ store (at + 1) (bytes_of 8 c) (set d at 2) → d'' ≡ store (at + 9) (bytes_of 8 s) d'
    → d'' ≡ store at (pair_bytes c s) d
unfolding pair_bytes
pair_parts d d' d'' at c s e f =
    f ∙ ap (λ (l : List ℕ). store (at + 9) (bytes_of 8 s) l) (e ∙ sym (store_cons at 2 (bytes_of 8 c) d))
    ∙ ap (λ (n : ℕ). store (at + suc n) (bytes_of 8 s) (store at (2 ∷ bytes_of 8 c) d)) (sym (length_bytes 8 c))
    ∙ sym (store-append at (2 ∷ bytes_of 8 c) (bytes_of 8 s) d)

pub head_parts : (d d₁ d₂ d₃ d₄ : List ℕ) (h : FileHead) (k t : ℕ) → k ≡ head_kind h.date → d₁ ≡ store 1 (bytes_of 8 h.gm) (set d 0 k)
    → d₂ ≡ store 9 (bytes_of 8 h.radius) d₁ → t ≡ tide_number h.tide → d₃ ≡ store 18 (bytes_of 2 h.nmax) (set d₂ 17 t)
    → d₄ ≡ store 20 (date_bytes h.date) d₃ → d₄ ≡ store 0 (head_bytes h) d
unfolding head_bytes
head_parts d d₁ d₂ d₃ d₄ h k t j e f g i m =
    let k1 : ℕ = head_kind h.date in
    let g8 : List ℕ = bytes_of 8 h.gm in
    let r8 : List ℕ = bytes_of 8 h.radius in
    let n2 : List ℕ = bytes_of 2 h.nmax in
    let d4 : List ℕ = date_bytes h.date in
    let t3 : List ℕ = tide_number h.tide ∷ (n2 ++ d4) in
    m ∙ ap (λ (l : List ℕ). store 20 d4 l) i
    ∙ ap (λ (n : ℕ). store (18 + n) d4 (store 18 n2 (set d₂ 17 t))) (sym (length_bytes 2 h.nmax))
    ∙ sym (store-append 18 n2 d4 (set d₂ 17 t))
    ∙ sym (store_cons 17 t (n2 ++ d4) d₂)
    ∙ ap (λ (x : ℕ). store 17 (x ∷ (n2 ++ d4)) d₂) g
    ∙ ap (λ (l : List ℕ). store 17 t3 l) f
    ∙ ap (λ (n : ℕ). store (9 + n) t3 (store 9 r8 d₁)) (sym (length_bytes 8 h.radius))
    ∙ sym (store-append 9 r8 t3 d₁)
    ∙ ap (λ (l : List ℕ). store 9 (r8 ++ t3) l) (e ∙ ap (λ (x : ℕ). store 1 g8 (set d 0 x)) j ∙ sym (store_cons 0 k1 g8 d))
    ∙ ap (λ (n : ℕ). store (0 + suc n) (r8 ++ t3) (store 0 (k1 ∷ g8) d)) (sym (length_bytes 8 h.gm))
    ∙ sym (store-append 0 (k1 ∷ g8) (r8 ++ t3) d)

pub file_parts : (d d₁ d₂ : List ℕ) (h : FileHead) (c s : List ℕ) (start : ℕ) → start ≡ head_size h.date → d₁ ≡ store 0 (head_bytes h) d
    → d₂ ≡ store start (record_bytes c s) d₁ → d₂ ≡ store 0 (render h c s) d
unfolding render
file_parts d d₁ d₂ h c s start z p q =
    q ∙ ap (λ (l : List ℕ). store start (record_bytes c s) l) p
    ∙ ap (λ (n : ℕ). store n (record_bytes c s) (store 0 (head_bytes h) d)) (omega (arith, z, length_head_bytes h))
    ∙ sym (store-append 0 (head_bytes h) (record_bytes c s) d)

-- a date's bytes, by the date
pub no_date : (d : List ℕ) (t : Option ℤ) → t ≡ None → d ≡ store 20 (date_bytes t) d
no_date d t e = rw e (sym (store_none 20 d))

pub stated_date : (d d₁ : List ℕ) (t : Option ℤ) (days : ℤ) (x : ℕ) → t ≡ Some days → x ≡ pattern_of days → d₁ ≡ store 20 (bytes_of 4 x) d
    → d₁ ≡ store 20 (date_bytes t) d
stated_date d d₁ t days x e f g = rw e (g ∙ ap (λ (n : ℕ). store 20 (bytes_of 4 n) d) f)
