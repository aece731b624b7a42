-- What the front of a file decides: an accepted file that is cut anywhere ends too early, and the bytes behind a first byte too many say
-- nothing more. Assumes nothing.
use Rattle.std.specs.Prelude.{◌≡◌, refl, not, ◌⊎◌, List, length, get_or, take, eqb, Err, Ok}
use Rattle.std.proofs.Common.{sym, ap, ◌∙◌, inl, inr, ⊎_elim, arith}
use Prim.Native.Nat.{ℕ, zero, suc, ◌+◌, ◌-◌, ◌*◌, ◌≤◌, ◌<◌, zero-le, suc-le-suc}
use Rattle.std.proofs.Math.Seq.{length-take-le, get_or-take}
use borrow.Author.Tests.{lt-ltb, le-ltb, lt-leb}
use Rattle.refusal.specs.declared.Refusal.TheVariants.{Short}
use Rattle.refusal.specs.Numbers.{refuse}
use Rattle.storage.specs.Answers.{size_is}
use Rattle.storage.specs.Triangle.{table_size}
use Rattle.model_file.specs.declared.FileHead.{FileHead}
use Rattle.model_file.specs.LittleEndian.{number_front}
use Rattle.model_file.specs.Dates.{size_least, size_of_kind, date_front}
use Rattle.model_file.specs.Format.{is_head, head_size, date_at, head_of, body_of, model, fault, parse}
use Rattle.model_file.specs.Head.{head_absent, head_body, headed, head_small}
use Rattle.model_file.specs.Body.{body_absent, pair_short, pair_next, end_here, pair_here}
use Rattle.model_file.specs.Answers.{refused_by_head, refused_by_body}
use Rattle.model_file.specs.RoundTrip.{accepted}

-- of two numbers the first is smaller, or it is not
pub lt_or_ge : (a b : ℕ) → (a < b) ⊎ (b ≤ a)
lt_or_ge a zero = inr zero-le
lt_or_ge zero (suc b) = inl (omega arith)
lt_or_ge (suc a) (suc b) = ⊎_elim (λ h. inl (suc-le-suc h)) (λ h. inr (suc-le-suc h)) (lt_or_ge a b)

module _ (K : ℕ) (s : List ℕ) where
  -- a head is decided by its own bytes
  pub head_front : head_size (date_at s) ≤ K → K ≤ length s → head_of (take K s) ≡ head_of s
  unfolding head_of refuse
  head_front h l =
      let least = size_least (date_at s) in
      let n = length-take-le K s l in
      let k0 = get_or-take K s 0 0 (omega arith) in
      let day = date_front (eqb (get_or s 0 0) 4) K s h in
      let k17 = get_or-take K s 17 0 (omega arith) in
      let g = number_front 8 K s 1 (omega arith) in
      let r = number_front 8 K s 9 (omega arith) in
      let d = number_front 2 K s 18 (omega arith) in
      simp (n, day, k0, k17, g, r, d, lt-leb K 0 (omega arith), lt-leb (length s) 0 (omega arith), le-ltb K (head_size (date_at s)) h, le-ltb (length s) (head_size (date_at s)) (omega arith))

  -- records are decided by the bytes up to the first one behind the end
  pub body_front : (k at : ℕ) → at + 17 * k + 1 < K → K ≤ length s → body_of (take K s) k at ≡ body_of s k at
  unfolding body_of refuse
  body_front zero at h l =
      let n = length-take-le K s l in
      let e = get_or-take K s at 0 (omega arith) in
      simp (n, e, lt-leb K at (omega arith), lt-leb (length s) at (omega arith), lt-ltb (at + 1) K (omega arith), lt-ltb (at + 1) (length s) (omega arith))
  body_front (suc k) at h l =
      let n = length-take-le K s l in
      let e = get_or-take K s at 0 (omega arith) in
      let r = body_front k (at + 17) (omega arith) l in
      simp (n, e, r, lt-leb K at (omega arith), lt-leb (length s) at (omega arith), le-ltb K (at + 17) (omega arith), le-ltb (length s) (at + 17) (omega arith))

  -- records that are cut end too early: before a pair, in it, or behind it
  cut_pair : (k at : ℕ) → get_or s at 0 ≡ 2 → K < length s → (at + 17 ≤ K → Err Short ≡ body_of (take K s) k (at + 17)) → (K < at + 1) ⊎ (at + 1 ≤ K)
      → (K < at + 17) ⊎ (at + 17 ≤ K) → Err Short ≡ body_of (take K s) (suc k) at
  cut_pair k at e l behind (inl h) b = body_absent (take K s) at (suc k) (omega (arith, length-take-le K s (omega arith)))
  cut_pair k at e l behind (inr h) (inl b) =
      let n = length-take-le K s (omega arith) in
      pair_short (take K s) at (suc k) (omega arith) (omega arith) (get_or-take K s at 0 (omega arith) ∙ e) (omega arith)
  cut_pair k at e l behind (inr h) (inr b) =
      let n = length-take-le K s (omega arith) in
      let j : suc k - 1 ≡ k = omega arith in
      behind b
      ∙ ap (λ (i : ℕ). body_of (take K s) i (at + 17)) (sym j)
      ∙ pair_next (take K s) at (suc k) (omega arith) (omega arith) (get_or-take K s at 0 (omega arith) ∙ e) (omega arith)

  body_cut : (k at : ℕ) → body_of s k at ≡ Ok tt → at ≤ K → K < length s → Err Short ≡ body_of (take K s) k at
  body_cut zero at p h l = let w = end_here s at p in body_absent (take K s) at 0 (omega (arith, length-take-le K s (omega arith)))
  body_cut (suc k) at p h l =
      let w = pair_here s k at p in
      cut_pair k at w.kind l (λ b. body_cut k (at + 17) w.behind b l) (lt_or_ge K (at + 1)) (lt_or_ge K (at + 17))

module _ (b : List ℕ) (h : FileHead) (c s : List ℕ) (p : parse b ≡ model h c s) (K : ℕ) (l : K < length b) where
  -- by where the cut is: before the head, in it, or behind it
  cut_by : (K < 1) ⊎ (1 ≤ K) → (K < head_size h.date) ⊎ (head_size h.date ≤ K) → parse (take K b) ≡ fault Short
  cut_by (inl x) y = refused_by_head (take K b) _ (head_absent (take K b) (omega (arith, length-take-le K b (omega arith)))) Short refl
  cut_by (inr x) (inl y) =
      let n = length-take-le K b (omega arith) in
      let w = headed b h (accepted b h c s p).head_is in
      let k0 = get_or-take K b 0 0 x in
      let size : head_size (date_at (take K b)) ≡ head_size h.date = size_of_kind (take K b) b k0 ∙ rw w.is refl in
      refused_by_head (take K b) _ (head_body (take K b) (omega arith) (ap (λ (i : ℕ). not (is_head i)) k0 ∙ ap not w.kind) (omega arith)) Short refl
  cut_by (inr x) (inr y) =
      let w = accepted b h c s p in
      let v = headed b h w.head_is in
      let size : head_size (date_at b) ≡ head_size h.date = rw v.is refl in
      let i : Ok h ≡ head_of (take K b) = sym (head_front K b (omega arith) (omega arith) ∙ w.head_is) in
      let k : ℕ = table_size h.nmax in
      refused_by_body (take K b) _ i h refl k (sym (size_is h.nmax (head_small b h w.head_is))) _ refl _
      (body_cut K b k (head_size h.date) w.body_is y l) Short refl

  -- an accepted file that is cut anywhere is refused by 6 SHORT
  pub parse_truncated : parse (take K b) ≡ fault Short
  parse_truncated = cut_by (lt_or_ge K 1) (lt_or_ge K (head_size h.date))
