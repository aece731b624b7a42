-- The records behind the head: the answer on each way through their checks, how long an accepted file is, and that pairs and their records
-- say the same. Assumes nothing.
use Rattle.std.specs.Prelude.{◌≡◌, refl, Bool, true, false, not, List, [], ◌∷◌, ◌++◌, length, get_or, drop, Err, Ok, Result, ⊤}
use Rattle.std.proofs.Common.{sym, ap, ◌∙◌, not-suc-le-zero, append_assoc, length-append, drop_of_length-le}
use Prim.Native.Nat.{ℕ, zero, suc, ◌+◌, ◌-◌, ◌*◌, ◌^◌, ◌≤◌, ◌<◌}
use native.Mathlib.Omega.{arith}
use borrow.Author.Tests.{lt-ltb, le-ltb, ltb-false, lt-leb, le-leb, leb-false, eq-eqb, ne_eqb, eqb-true}
use Rattle.refusal.specs.declared.Refusal.{Refusal}
use Rattle.refusal.specs.declared.Refusal.TheVariants.{Short, Kind, After}
use Rattle.refusal.specs.Numbers.{refuse}
use Rattle.model_file.specs.LittleEndian.{bytes_of, number_at, words_at, length_bytes, Below, here_head, here_tail, here_long, here_rest, here_cons}
use Rattle.model_file.specs.LittleEndian.{number_here, bytes_here}
use Rattle.model_file.specs.Format.{body_of, pair_bytes, record_bytes}
use Rattle.model_file.specs.Head.{not_not}

module _ (s : List ℕ) (at : ℕ) where
  pub body_absent : (k : ℕ) → length s ≤ at → Err Short ≡ body_of s k at
  unfolding body_of refuse
  body_absent zero h = simp (le-leb (length s) at h)
  body_absent (suc k) h = simp (le-leb (length s) at h)

  pub pair_kind : (k : ℕ) → 0 < k → at < length s → (get_or s at 0 ≡ 2 → ⊥) → Err Kind ≡ body_of s k at
  unfolding body_of refuse
  pair_kind zero p h e = absurd (not-suc-le-zero p)
  pair_kind (suc k) p h e = simp (lt-leb (length s) at h, ne_eqb (get_or s at 0) 2 e)

  pub pair_short : (k : ℕ) → 0 < k → at < length s → get_or s at 0 ≡ 2 → length s < at + 17 → Err Short ≡ body_of s k at
  unfolding body_of refuse
  pair_short zero p h e b = absurd (not-suc-le-zero p)
  pair_short (suc k) p h e b = simp (lt-leb (length s) at h, eq-eqb (get_or s at 0) 2 e, lt-ltb (length s) (at + 17) b)

  pub pair_next : (k : ℕ) → 0 < k → at < length s → get_or s at 0 ≡ 2 → at + 17 ≤ length s → body_of s (k - 1) (at + 17) ≡ body_of s k at
  unfolding body_of refuse
  pair_next zero p h e b = absurd (not-suc-le-zero p)
  pair_next (suc k) p h e b =
      let z : suc k - 1 ≡ k = omega arith in
      simp (z, lt-leb (length s) at h, eq-eqb (get_or s at 0) 2 e, le-ltb (length s) (at + 17) b)

  pub end_kind : (k : ℕ) → k ≤ 0 → at < length s → (get_or s at 0 ≡ 3 → ⊥) → Err Kind ≡ body_of s k at
  unfolding body_of refuse
  end_kind zero p h e = simp (lt-leb (length s) at h, ne_eqb (get_or s at 0) 3 e)
  end_kind (suc k) p h e = absurd (not-suc-le-zero p)

  pub end_after : (k : ℕ) → k ≤ 0 → at < length s → get_or s at 0 ≡ 3 → at + 1 < length s → Err After ≡ body_of s k at
  unfolding body_of refuse
  end_after zero p h e b = simp (lt-leb (length s) at h, eq-eqb (get_or s at 0) 3 e, lt-ltb (at + 1) (length s) b)
  end_after (suc k) p h e b = absurd (not-suc-le-zero p)

  pub body_done : (k : ℕ) → k ≤ 0 → at < length s → get_or s at 0 ≡ 3 → length s ≤ at + 1 → Ok tt ≡ body_of s k at
  unfolding body_of refuse
  body_done zero p h e b = simp (lt-leb (length s) at h, eq-eqb (get_or s at 0) 3 e, le-ltb (at + 1) (length s) b)
  body_done (suc k) p h e b = absurd (not-suc-le-zero p)

-- ---- what accepted records say of the bytes

-- a ground that did not refuse does not hold
record Passed (reason : Bool) (x : Result ⊤ Refusal) : Type 0 where
  holds_not : reason ≡ false
  on : x ≡ Ok tt

passed : (reason : Bool) (e : Refusal) (x : Result ⊤ Refusal) → refuse reason e x ≡ Ok tt → Passed reason x
unfolding refuse
passed true e x p = let z : ◌≡◌ {A = ℕ} 0 1 = cc in absurd (omega arith)
passed false e x p = record { holds_not = refl; on = p }

-- an end where it is due, as the last byte
pub record EndHere (s : List ℕ) (at : ℕ) : Type 0 where
  pub kind : get_or s at 0 ≡ 3
  pub long : length s ≡ at + 1

pub end_here : (s : List ℕ) (at : ℕ) → body_of s zero at ≡ Ok tt → EndHere s at
unfolding body_of
end_here s at p =
    let p1 = passed _ _ _ p in
    let p2 = passed _ _ _ p1.on in
    let p3 = passed _ _ _ p2.on in
    let l1 : at < length s = leb-false (length s) at p1.holds_not in
    let l3 : length s ≤ at + 1 = ltb-false (at + 1) (length s) p3.holds_not in
    record { kind = eqb-true (get_or s at 0) 3 (not_not _ p2.holds_not); long = omega arith }

-- a pair where it is due, and accepted records behind it
pub record PairHere (s : List ℕ) (k at : ℕ) : Type 0 where
  pub kind : get_or s at 0 ≡ 2
  pub long : at + 17 ≤ length s
  pub behind : body_of s k (at + 17) ≡ Ok tt

pub pair_here : (s : List ℕ) (k at : ℕ) → body_of s (suc k) at ≡ Ok tt → PairHere s k at
unfolding body_of
pair_here s k at p =
    let p1 = passed _ _ _ p in
    let p2 = passed _ _ _ p1.on in
    let p3 = passed _ _ _ p2.on in
    record { kind = eqb-true (get_or s at 0) 2 (not_not _ p2.holds_not); long = ltb-false (length s) (at + 17) p3.holds_not; behind = p3.on }

-- how long a file is whose records are accepted
pub body_long : (s : List ℕ) (k at : ℕ) → body_of s k at ≡ Ok tt → length s ≡ at + 17 * k + 1
body_long s zero at p = omega (arith, end_here s at p)
body_long s (suc k) at p = let w = pair_here s k at p in omega (arith, body_long s k (at + 17) w.behind)

-- ---- from pairs to their records and back

pub length_pair : (c s : ℕ) → length (pair_bytes c s) ≡ 17
unfolding pair_bytes bytes_of
length_pair c s = refl

pub length_records : (c s : List ℕ) → length c ≡ length s → length (record_bytes c s) ≡ 1 + 17 * length c
unfolding record_bytes
length_records [] s e = refl
length_records (x ∷ c) [] e = let z : suc (length c) ≤ 0 = omega arith in absurd (not-suc-le-zero z)
length_records (x ∷ c) (y ∷ s) e =
    length-append (pair_bytes x y) (record_bytes c s) ∙ omega (arith, length_pair x y, length_records c s (omega arith))

-- the numbers of a pair, from its record
record PairOf (s : List ℕ) (at x y : ℕ) (rest : List ℕ) : Type 0 where
  kind : get_or s at 0 ≡ 2
  long : at + 17 ≤ length s
  x_is : number_at 8 s (at + 1) ≡ x
  y_is : number_at 8 s (at + 9) ≡ y
  behind : drop (at + 17) s ≡ rest

pair_of : (s : List ℕ) (at x y : ℕ) (rest : List ℕ) → x < 2 ^ 64 → y < 2 ^ 64 → drop at s ≡ pair_bytes x y ++ rest → PairOf s at x y rest
unfolding pair_bytes
pair_of s at x y rest hx hy p =
    let p1 : drop (at + 1) s ≡ bytes_of 8 x ++ (bytes_of 8 y ++ rest) = here_tail s at 2 _ p ∙ append_assoc (bytes_of 8 x) (bytes_of 8 y) rest in
    let e9 : at + 1 + 8 ≡ at + 9 = omega arith in
    let p9 : drop (at + 9) s ≡ bytes_of 8 y ++ rest = rw e9 at (here_rest s (at + 1) 8 (bytes_of 8 x) _ (length_bytes 8 x) p1) in
    let e17 : at + 9 + 8 ≡ at + 17 = omega arith in
    let long = here_long s (at + 9) _ p9 (rw length-append (omega (arith, length_bytes 8 y))) in
    record {
      kind = here_head s at 2 _ p;
      long = omega (arith, length-append (bytes_of 8 y) rest, length_bytes 8 y);
      x_is = number_here 8 s (at + 1) x _ hx p1;
      y_is = number_here 8 s (at + 9) y rest hy p9;
      behind = rw e17 at (here_rest s (at + 9) 8 (bytes_of 8 y) rest (length_bytes 8 y) p9);
    }

-- the records from index at on are accepted, and say c and d
pub record Records (s : List ℕ) (at : ℕ) (c d : List ℕ) : Type 0 where
  pub accepted : body_of s (length c) at ≡ Ok tt
  pub c_is : words_at s (length c) (at + 1) ≡ c
  pub d_is : words_at s (length c) (at + 9) ≡ d

pub records_of : (s : List ℕ) (at : ℕ) (c d : List ℕ) → length c ≡ length d → Below (2 ^ 64) c → Below (2 ^ 64) d → drop at s ≡ record_bytes c d
    → Records s at c d
unfolding record_bytes body_of refuse words_at
records_of s at [] [] e hc hd p =
    let long = here_long s at (3 ∷ []) p (omega arith) in
    record { accepted = sym (body_done s at 0 (omega arith) (omega arith) (here_head s at 3 [] p) (omega arith)); c_is = refl; d_is = refl }
records_of s at [] (y ∷ d) e hc hd p = let z : suc (length d) ≤ 0 = omega arith in absurd (not-suc-le-zero z)
records_of s at (x ∷ c) [] e hc hd p = let z : suc (length c) ≤ 0 = omega arith in absurd (not-suc-le-zero z)
records_of s at (x ∷ c) (y ∷ d) e hc hd p =
    let w = pair_of s at x y (record_bytes c d) (hc 0) (hd 0) p in
    let r = records_of s (at + 17) c d (omega arith) (λ i. hc (suc i)) (λ i. hd (suc i)) w.behind in
    let e1 : at + 1 + 17 ≡ at + 17 + 1 = omega arith in
    let e9 : at + 9 + 17 ≡ at + 17 + 9 = omega arith in
    let b1 = w.long in
    let b0 : at < length s = omega arith in
    record {
      accepted = simp (lt-leb (length s) at b0, eq-eqb (get_or s at 0) 2 w.kind, le-ltb (length s) (at + 17) b1) r.accepted;
      c_is = rw (e1, w.x_is, r.c_is) refl;
      d_is = rw (e9, w.y_is, r.d_is) refl;
    }

-- accepted records are those of the pairs that they say
pub records_back : (s : List ℕ) (k at : ℕ) → Below 256 s → body_of s k at ≡ Ok tt → drop at s ≡ record_bytes (words_at s k (at + 1)) (words_at s k (at + 9))
unfolding record_bytes words_at pair_bytes
records_back s zero at b p =
    let w = end_here s at p in
    let l : length s ≤ at + 1 = omega arith in
    here_cons s at (omega arith) ∙ rw (w.kind, drop_of_length-le s l) refl
records_back s (suc k) at b p =
    let w = pair_here s k at p in
    let long = w.long in
    let e9 : at + 1 + 8 ≡ at + 9 = omega arith in
    let e17 : at + 9 + 8 ≡ at + 17 = omega arith in
    let e1 : at + 17 + 1 ≡ at + 1 + 17 = omega arith in
    let e2 : at + 17 + 9 ≡ at + 9 + 17 = omega arith in
    let x = rw e9 at (bytes_here 8 s (at + 1) b (omega arith)) in
    let y = rw e17 at (bytes_here 8 s (at + 9) b (omega arith)) in
    let r = rw (e1, e2) at (records_back s k (at + 17) b w.behind) in
    here_cons s at (omega arith)
    ∙ rw (w.kind, x, y, r) (ap (λ (l : List ℕ). 2 ∷ l) (sym (append_assoc (bytes_of 8 (number_at 8 s (at + 1))) (bytes_of 8 (number_at 8 s (at + 9))) _)))
