-- The numbers that a test picks, counted and written one index after the other. Assumes nothing.
use Rattle.std.specs.Prelude.{◌≡◌, Bool, true, false, set, Float}
use Rattle.std.proofs.Math.Path.{refl, sym, ap}
use Rattle.std.proofs.Common.{◌∙◌, zero-add, add-one, length-append, length-set}
use mathlib.Core.List.{List, [], ◌∷◌, ◌++◌, append-nil}
use Prim.Native.Nat.{ℕ, zero, suc, ◌+◌, ◌-◌, ◌≤◌, ◌<◌}
use native.Mathlib.Omega.{arith}
use Rattle.std.proofs.Math.ListN.{length, get_or, get_or-append}
use Rattle.std.proofs.Math.Seq.{get_or-append_seam}
use Rattle.std.specs.Float.Ieee.{nan}
use Rattle.storage.specs.Elements.{from}
use Rattle.storage.specs.Filled.{Filled, filled_none, filled_more, filled_same, filled_to}
use Rattle.polygon.specs.Picked.{picked_before}

-- ---- what is picked, with one index more
module _ (t : ℕ → Bool) (f : ℕ → Float) (i : ℕ) where
  picked_more : t i ≡ true → picked_before t f (i + 1) ≡ picked_before t f i ++ (f i ∷ [])
  unfolding picked_before
  picked_more h = rw (add-one, picked_before, h) refl

  picked_same : t i ≡ false → picked_before t f (i + 1) ≡ picked_before t f i
  unfolding picked_before
  picked_same h = rw (add-one, picked_before, h) (append-nil (picked_before t f i))

  count_more : t i ≡ true → length (picked_before t f (i + 1)) ≡ length (picked_before t f i) + 1
  count_more h = ap length (picked_more h) ∙ length-append (picked_before t f i) (f i ∷ [])

  count_same : t i ≡ false → length (picked_before t f (i + 1)) ≡ length (picked_before t f i)
  count_same h = ap length (picked_same h)

  -- none or one more
  pub record Grows : Type 0 where
    pub least : length (picked_before t f i) ≤ length (picked_before t f (i + 1))
    pub most : length (picked_before t f (i + 1)) ≤ length (picked_before t f i) + 1

  grows : Grows
  grows = go (t i) refl
    where
      go : (b : Bool) → t i ≡ b → Grows
      go true h = let e = count_more h in record { least = omega arith; most = omega arith }
      go false h = let e = count_same h in record { least = omega arith; most = omega arith }

module _ (t : ℕ → Bool) (f : ℕ → Float) where
  -- no more than indices
  pub picked_few : (i : ℕ) → length (picked_before t f i) ≤ i
  unfolding picked_before
  picked_few zero = omega arith
  picked_few (suc i) = let h = picked_few i in let g = (grows t f i).most in let e = ap (λ (k : ℕ). length (picked_before t f k)) (add-one i) in omega arith

  -- no fewer with more indices
  pub picked_within : (i n : ℕ) → i ≤ n → length (picked_before t f i) ≤ length (picked_before t f n)
  picked_within i n h = let e : i + (n - i) ≡ n = omega arith in let g = ap (λ (k : ℕ). length (picked_before t f k)) e in omega (arith, go (n - i), g)
    where
      go : (d : ℕ) → length (picked_before t f i) ≤ length (picked_before t f (i + d))
      go zero = let e : i ≡ i + 0 = omega arith in let g = ap (λ (k : ℕ). length (picked_before t f k)) e in omega arith
      go (suc d) =
          let a = go d in
          let b = (grows t f (i + d)).least in
          let e : i + d + 1 ≡ i + suc d = omega arith in
          let g = ap (λ (k : ℕ). length (picked_before t f k)) e in
          omega arith

-- ---- counting
-- k picked before index i are r before the next
pub record Counted (t : ℕ → Bool) (f : ℕ → Float) (i k r : ℕ) : Type 0 where
  pub goes : k ≡ length (picked_before t f i) → r ≡ length (picked_before t f (i + 1))
  pub most : r ≤ k + 1

module _ (t : ℕ → Bool) (f : ℕ → Float) (i k : ℕ) where
  pub counted_more : {b : Bool} → b ≡ t i → b ≡ true → Counted t f i k (k + 1)
  counted_more e h = record { goes = λ c. let m = count_more t f i (sym e ∙ h) in omega arith; most = omega arith }

  pub counted_same : {b : Bool} → b ≡ t i → b ≡ false → Counted t f i k k
  counted_same e h = record { goes = λ c. c ∙ sym (count_same t f i (sym e ∙ h)); most = omega arith }

-- ---- writing
-- what is picked before index i, k numbers, at the front of a list
pub record PickedIn (t : ℕ → Bool) (f : ℕ → Float) (i k : ℕ) (d l : List Float) : Type 0 where
  pub count : k ≡ length (picked_before t f i)
  pub most : k ≤ i
  pub list : Filled 0 (from 0 (picked_before t f i) nan) k d l

-- what was picked before index i, written, and then what is before the next
pub record Written (t : ℕ → Bool) (f : ℕ → Float) (i k r : ℕ) (l l' : List Float) : Type 0 where
  pub goes : (d : List Float) → PickedIn t f i k d l → PickedIn t f (i + 1) r d l'
  pub most : r ≤ k + 1
  pub long : length l' ≡ length l

module _ (t : ℕ → Bool) (f : ℕ → Float) where
  pub picked_none : {d : List Float} → PickedIn t f 0 0 d d
  unfolding picked_before
  picked_none = record { count = refl; most = omega arith; list = filled_none }

  pub picked_to : {i j k : ℕ} {d l : List Float} → PickedIn t f i k d l → i ≡ j → PickedIn t f j k d l
  picked_to r e = rw e at r

  pub all_picked : {i n k : ℕ} {d l : List Float} → PickedIn t f i k d l → i ≡ n
      → Filled 0 (from 0 (picked_before t f n) nan) (length (picked_before t f n)) d l
  all_picked r e = let s = picked_to r e in filled_to s.list s.count

  module _ (i k : ℕ) where
    more : {x : Float} {d l : List Float} → PickedIn t f i k d l → t i ≡ true → x ≡ f i → PickedIn t f (i + 1) (k + 1) d (set l k x)
    unfolding from
    more {x} {d} {l} r h e =
        let old = picked_before t f i in
        let new = picked_before t f (i + 1) in
        let is = picked_more t f i h in
        let count = r.count in
        let longer = count_more t f i h in
        let last : x ≡ from 0 new nan k =
        e
        ∙ sym (get_or-append_seam old (f i) [] nan)
        ∙ ap (λ (y : List Float). get_or y (length old) nan) (sym is)
        ∙ ap (λ (j : ℕ). get_or new j nan) (sym (zero-add k ∙ count)) in
        let same : (j : ℕ) → j < k → from 0 old nan j ≡ from 0 new nan j =
        λ j b. sym (ap (λ (y : List Float). get_or y (0 + j) nan) is ∙ get_or-append old (f i ∷ []) nan (0 + j) (omega arith)) in
        record {
          count = omega arith;
          most = omega (arith, r.most);
          list = filled_more (filled_same (from 0 new nan) r.list same) (sym (zero-add k)) last;
        }

    pub stored : {b : Bool} {x : Float} {l : List Float} → b ≡ t i → b ≡ true → x ≡ f i → Written t f i k (k + 1) l (set l k x)
    stored {b} {x} {l} e h g = record { goes = λ d r. more r (sym e ∙ h) g; most = omega arith; long = length-set l k x }

    pub passed : {b : Bool} {l : List Float} → b ≡ t i → b ≡ false → Written t f i k k l l
    passed {b} {l} e h = record {
      goes = λ d r.
          let is = picked_same t f i (sym e ∙ h) in
          record {
            count = r.count ∙ ap length (sym is);
            most = omega (arith, r.most);
            list = filled_same (from 0 (picked_before t f (i + 1)) nan) r.list (λ j b. ap (λ (y : List Float). from 0 y nan j) (sym is));
          };
      most = omega arith;
      long = refl;
    }
