-- Change request W6, on what calls of `truncated` hand back, whatever their lists held: cutting a field at A and then at B is cutting it at the smaller,
-- for every field and all cuts, above the field's degree and above 2700 too. Assumes nothing.
use Rattle.std.specs.Prelude.{◌≡◌, refl, List, ℕ, ◌+◌, ◌≤◌, min, length, take, Float, Ok, Result}
use Rattle.std.proofs.Common.{sym, ap, ap₂, ◌∙◌, subst, zero-add, arith, get_or-take}
use Rattle.std.specs.Float.{nan}
use Rattle.refusal.specs.Numbers.{after, done_then, outcome, value_if}
use Rattle.storage.specs.Answers.{size_of, size_is}
use Rattle.storage.specs.Checks.{tables_check, space_check, outputs_check, tables_done, outputs_passed}
use Rattle.storage.specs.Elements.{from, from_zero}
use Rattle.storage.specs.Fill.{fill, fill_same}
use Rattle.storage.specs.Filled.{filled, filled_in, filled_length}
use Rattle.storage.specs.Triangle.{table_size, row_start_monotone}
use Rattle.coefficients.specs.declared.Head.{Head}
use Rattle.coefficients.specs.Model.{made_of}
use Rattle.coefficients.specs.Values.{cut_head}
use Rattle.refusal.specs.declared.Refusal.{Refusal}

-- `truncated` at a cut, of the field with the head h and the lists c and s, with the lists x and y to write to, answers r and leaves x' and y': its
-- promise, which is proved by way of this record
pub record Cut (h : Head) (c s : List Float) (cut : ℕ) (x y : List Float) (r : Result Head Refusal) (x' y' : List Float) : Type 0 where
  pub answers : r ≡ value_if (outputs_check h.nmax (length c) (length s) (min cut h.nmax) (length x) (length y)) (cut_head h cut)
  pub leaves_c : x' ≡ after (outcome r) (fill 0 (from 0 c nan) (table_size (min cut h.nmax)) x) x
  pub leaves_s : y' ≡ after (outcome r) (fill 0 (from 0 s nan) (table_size (min cut h.nmax)) y) y

-- the promise as the call states it
pub cut_promise : (h : Head) (c s : List Float) (cut : ℕ) (x y : List Float) {r : Result Head Refusal} {x' y' : List Float} → Cut h c s cut x y r x' y'
    → (r ≡ value_if (outputs_check h.nmax (length c) (length s) (min cut h.nmax) (length x) (length y)) (cut_head h cut))
    × ((x' ≡ after (outcome r) (fill 0 (from 0 c nan) (table_size (min cut h.nmax)) x) x)
    × (y' ≡ after (outcome r) (fill 0 (from 0 s nan) (table_size (min cut h.nmax)) y) y))
cut_promise h c s cut x y w = (w.answers, (w.leaves_c, w.leaves_s))

-- ---- head, room and lists
-- the head of a cut of a cut, its date with it
pub head_cut : (h : Head) (A B : ℕ) → cut_head (cut_head h A) B ≡ cut_head h (min A B)
head_cut h A B =
    let e : min B (min A h.nmax) ≡ min (min A B) h.nmax = omega arith in
    ap (λ (n : ℕ). record { gm = h.gm; radius = h.radius; tide_system = h.tide_system; date = h.date; nmax = n }) e

-- where the lists that are read pass, the room decides
room_decides : (N clen slen top a b : ℕ) → Ok tt ≡ tables_check N clen slen → outputs_check N clen slen top a b ≡ space_check (size_of top) a b
unfolding outputs_check
room_decides N clen slen top a b h = sym (done_then h refl)

-- a list with a copy of the table up to degree n at its front: that part of it, and what a cut of the part at degree j copies
module _ (list out : List Float) {out' : List Float} (n : ℕ) (top : n ≤ 2700) (wrote : out' ≡ fill 0 (from 0 list nan) (table_size n) out)
    (room : size_of n ≤ length out) where
  part_length : length (take (table_size n) out') ≡ table_size n
  part_length = filled_length (filled 0 (from 0 list nan) (table_size n) out wrote) (omega (arith, size_is n top, room))

  part_copied : (j : ℕ) (v : List Float) → j ≤ n
      → fill 0 (from 0 (take (table_size n) out') nan) (table_size j) v ≡ fill 0 (from 0 list nan) (table_size j) v
  part_copied j v h =
      let less = row_start_monotone (j + 1) (n + 1) (omega arith) in
      let size = size_is n top in
      fill_same 0 (from 0 (take (table_size n) out') nan) (from 0 list nan) (table_size j) v
      (λ i b.
      from_zero (take (table_size n) out') nan i
      ∙ get_or-take (table_size n) out' i nan (omega arith)
      ∙ filled_in {i = i} {j = i} nan (filled 0 (from 0 list nan) (table_size n) out wrote) (omega arith) (sym (zero-add i)) (omega arith))

module _ (h : Head) (A B : ℕ) {c s x y x' y' v w v' w' : List Float} {r : Result Head Refusal} where
  -- the second cut is of the head that the first made
  cut_made : Cut h c s A x y (Ok (cut_head h A)) x' y' → Ok tt ≡ outputs_check h.nmax (length c) (length s) (min A h.nmax) (length x) (length y)
      → Cut (cut_head h A) (take (table_size (min A h.nmax)) x') (take (table_size (min A h.nmax)) y') B v w r v' w' → Cut h c s (min A B) v w r v' w'
  cut_made first ok second =
      let n = min A h.nmax in
      let o = outputs_passed h.nmax (length c) (length s) n (length x) (length y) ok in
      let t = o.tables in
      let top : n ≤ 2700 = omega (arith, t.top) in
      let e : min B n ≡ min (min A B) h.nmax = omega arith in
      let lc = part_length c x n top first.leaves_c o.first in
      let ls = part_length s y n top first.leaves_s o.second in
      let reads = room_decides n _ _ (min B n) (length v) (length w) (tables_done n _ _ top lc ls) in
      let whole = room_decides h.nmax (length c) (length s) (min (min A B) h.nmax) (length v) (length w) (tables_done h.nmax _ _ t.top t.c t.s) in
      record {
        answers =
            second.answers
            ∙ ap₂ value_if (reads ∙ ap (λ (j : ℕ). space_check (size_of j) (length v) (length w)) e ∙ sym whole) (head_cut h A B);
        leaves_c =
            second.leaves_c
            ∙ ap (λ (l : List Float). after (outcome r) l v) (part_copied c x n top first.leaves_c o.first (min B n) v (omega arith) ∙ ap (λ (j : ℕ). fill 0 (from 0 c nan) (table_size j) v) e);
        leaves_s =
            second.leaves_s
            ∙ ap (λ (l : List Float). after (outcome r) l w) (part_copied s y n top first.leaves_s o.second (min B n) w (omega arith) ∙ ap (λ (j : ℕ). fill 0 (from 0 s nan) (table_size j) w) e);
      }

  -- a field that is cut at A, and what was made of it cut at B, is handed back as it is by a cut at the smaller: the head, its date with it, the lists, and
  -- the answer, refused or not
  pub cut_cut : {k : Head} → Cut h c s A x y (Ok k) x' y' → Cut k (take (table_size k.nmax) x') (take (table_size k.nmax) y') B v w r v' w'
      → Cut h c s (min A B) v w r v' w'
  cut_cut {k} first second =
      let (ok, e) = made_of _ (cut_head h A) k first.answers in
      cut_made (subst (λ (z : Head). Cut h c s A x y (Ok z) x' y') e first) ok
      (subst (λ (z : Head). Cut z (take (table_size z.nmax) x') (take (table_size z.nmax) y') B v w r v' w') e second)

-- the promise leaves nothing open: two calls with the same lists hand back the same, so those of the cut of a cut and of the single cut
pub cut_determined : {h : Head} {c s : List Float} {cut : ℕ} {x y : List Float} {r r' : Result Head Refusal} {x₁ y₁ x₂ y₂ : List Float}
    → Cut h c s cut x y r x₁ y₁ → Cut h c s cut x y r' x₂ y₂ → (r ≡ r') × (x₁ ≡ x₂) × (y₁ ≡ y₂)
cut_determined {h} {c} {s} {cut} {x} {y} one two =
    let e = one.answers ∙ sym two.answers in (
      e,
      one.leaves_c ∙ ap (λ (z : Result Head Refusal). after (outcome z) (fill 0 (from 0 c nan) (table_size (min cut h.nmax)) x) x) e ∙ sym two.leaves_c,
      one.leaves_s ∙ ap (λ (z : Result Head Refusal). after (outcome z) (fill 0 (from 0 s nan) (table_size (min cut h.nmax)) y) y) e ∙ sym two.leaves_s,
    )
