-- A list with consecutive elements replaced by the values of a function, and the laws that a loop which stores them asks for. Past its end
-- a list takes no element, so the length never changes, and only a read in the part that is filled asks that this part fits. Assumes nothing.
use Rattle.std.specs.Prelude.{◌≡◌, length, take, drop}
use Rattle.std.proofs.Math.Path.{refl, sym, ap}
use Rattle.std.proofs.Common.{◌∙◌, not-suc-le-zero, le_of_suc-le-suc, add-zero, add_assoc, add-suc, add-one, arith, take-append-drop}
use Prim.Native.Nat.{ℕ, zero, suc, ◌+◌, ◌≤◌, ◌<◌, zero-le, suc-le-suc}
use Rattle.std.proofs.Math.Nat.{zero-add, suc-add}
use mathlib.Core.List.{List, [], ◌∷◌, ◌++◌}
use Rattle.std.proofs.Math.ListN.{get_or, set}
use Rattle.std.proofs.Math.Seq.{drop-nil, take-nil}

module _ {A : Type 0} where
  -- d with its k elements from index at on replaced by F 0, F 1, .., F (k - 1)
  unfoldable pub fill : ℕ → (ℕ → A) → ℕ → List A → List A
  fill at F k [] = []
  fill (suc at) F k (x ∷ d) = x ∷ fill at F k d
  fill zero F zero (x ∷ d) = x ∷ d
  fill zero F (suc k) (x ∷ d) = F zero ∷ fill zero (λ j. F (suc j)) k d

  pub length-fill : (at : ℕ) (F : ℕ → A) (k : ℕ) (d : List A) → length (fill at F k d) ≡ length d
  unfolding fill
  length-fill at F k [] = refl
  length-fill (suc at) F k (x ∷ d) = ap suc (length-fill at F k d)
  length-fill zero F zero (x ∷ d) = refl
  length-fill zero F (suc k) (x ∷ d) = ap suc (length-fill zero (λ j. F (suc j)) k d)

  pub fill_none : (at : ℕ) (F : ℕ → A) (d : List A) → fill at F 0 d ≡ d
  unfolding fill
  fill_none at F [] = refl
  fill_none (suc at) F (x ∷ d) = ap (λ (t : List A). x ∷ t) (fill_none at F d)
  fill_none zero F (x ∷ d) = refl

  fill_suc : (at : ℕ) (F : ℕ → A) (k : ℕ) (d : List A) → set (fill at F k d) (at + k) (F k) ≡ fill at F (suc k) d
  unfolding fill
  fill_suc at F k [] = refl
  fill_suc (suc at) F k (x ∷ d) = rw suc-add (ap (λ (t : List A). x ∷ t) (fill_suc at F k d))
  fill_suc zero F zero (x ∷ d) = ap (λ (t : List A). F zero ∷ t) (sym (fill_none zero (λ j. F (suc j)) d))
  fill_suc zero F (suc k) (x ∷ d) =
      rw zero-add
      (ap (λ (i : ℕ). F zero ∷ set (fill zero (λ j. F (suc j)) k d) i (F (suc k))) (sym (zero-add k))
      ∙ ap (λ (t : List A). F zero ∷ t) (fill_suc zero (λ j. F (suc j)) k d))

  -- a store of the next element, and of the first
  pub fill_more : (at : ℕ) (F : ℕ → A) (k : ℕ) (d : List A) → set (fill at F k d) (at + k) (F k) ≡ fill at F (k + 1) d
  fill_more at F k d = rw add-one (fill_suc at F k d)

  pub fill_one : (at : ℕ) (F : ℕ → A) (d : List A) → set d at (F 0) ≡ fill at F 1 d
  fill_one at F d =
      ap (λ (l : List A). set l at (F 0)) (sym (fill_none at F d))
      ∙ ap (λ (i : ℕ). set (fill at F 0 d) i (F 0)) (sym (add-zero at))
      ∙ fill_more at F 0 d

  -- a read in the part that is filled
  pub fill_in : (at : ℕ) (F : ℕ → A) (k j : ℕ) (d : List A) (z : A) → j < k → at + j < length d → get_or (fill at F k d) (at + j) z ≡ F j
  unfolding fill
  fill_in at F k j [] z h l = absurd (not-suc-le-zero l)
  fill_in (suc at) F k j (x ∷ d) z h l = rw suc-add (fill_in at F k j d z h (le_of_suc-le-suc (rw suc-add at l)))
  fill_in zero F zero j (x ∷ d) z h l = absurd (not-suc-le-zero h)
  fill_in zero F (suc k) zero (x ∷ d) z h l = refl
  fill_in zero F (suc k) (suc j) (x ∷ d) z h l =
      rw zero-add
      (ap (λ (i : ℕ). get_or (fill zero (λ i. F (suc i)) k d) i z) (sym (zero-add j))
      ∙ fill_in zero (λ i. F (suc i)) k j d z (le_of_suc-le-suc h) (omega arith))

  -- a read past it
  pub fill_after : (at : ℕ) (F : ℕ → A) (k j : ℕ) (d : List A) (z : A) → at + k ≤ j → get_or (fill at F k d) j z ≡ get_or d j z
  unfolding fill
  fill_after at F k j [] z h = refl
  fill_after (suc at) F k zero (x ∷ d) z h = absurd (not-suc-le-zero (rw suc-add at h))
  fill_after (suc at) F k (suc j) (x ∷ d) z h = fill_after at F k j d z (le_of_suc-le-suc (rw suc-add at h))
  fill_after zero F zero j (x ∷ d) z h = refl
  fill_after zero F (suc k) zero (x ∷ d) z h = absurd (not-suc-le-zero (rw zero-add at h))
  fill_after zero F (suc k) (suc j) (x ∷ d) z h = fill_after zero (λ i. F (suc i)) k j d z (omega arith)

  -- a read before it
  pub fill_before : (at : ℕ) (F : ℕ → A) (k j : ℕ) (d : List A) (z : A) → j < at → get_or (fill at F k d) j z ≡ get_or d j z
  unfolding fill
  fill_before at F k j [] z h = refl
  fill_before (suc at) F k zero (x ∷ d) z h = refl
  fill_before (suc at) F k (suc j) (x ∷ d) z h = fill_before at F k j d z (le_of_suc-le-suc h)
  fill_before zero F k j (x ∷ d) z h = absurd (not-suc-le-zero h)

  -- what follows the part that is filled, and what stands before it
  pub drop-fill : (at : ℕ) (F : ℕ → A) (k j : ℕ) (d : List A) → at + k ≤ j → drop j (fill at F k d) ≡ drop j d
  unfolding fill
  drop-fill at F k j [] h = refl
  drop-fill (suc at) F k zero (x ∷ d) h = absurd (not-suc-le-zero (rw suc-add at h))
  drop-fill (suc at) F k (suc j) (x ∷ d) h = drop-fill at F k j d (le_of_suc-le-suc (rw suc-add at h))
  drop-fill zero F zero j (x ∷ d) h = refl
  drop-fill zero F (suc k) zero (x ∷ d) h = absurd (not-suc-le-zero (rw zero-add at h))
  drop-fill zero F (suc k) (suc j) (x ∷ d) h = drop-fill zero (λ i. F (suc i)) k j d (omega arith)

  pub take-fill : (at : ℕ) (F : ℕ → A) (k j : ℕ) (d : List A) → j ≤ at → take j (fill at F k d) ≡ take j d
  unfolding fill
  take-fill at F k j [] h = refl
  take-fill at F k zero (x ∷ d) h = refl
  take-fill (suc at) F k (suc j) (x ∷ d) h = ap (λ (t : List A). x ∷ t) (take-fill at F k j d (le_of_suc-le-suc h))
  take-fill zero F k (suc j) (x ∷ d) h = absurd (not-suc-le-zero h)

  -- k elements are the front of more, whatever stood in the two lists
  pub fill_front : (F : ℕ → A) (k j : ℕ) (d d' : List A) → k ≤ j → k ≤ length d → k ≤ length d' → take k (fill 0 F j d') ≡ take k (fill 0 F k d)
  unfolding fill
  fill_front F zero j d d' h l l' = refl
  fill_front F (suc k) j [] d' h l l' = absurd (not-suc-le-zero l)
  fill_front F (suc k) j (x ∷ d) [] h l l' = absurd (not-suc-le-zero l')
  fill_front F (suc k) zero (x ∷ d) (y ∷ d') h l l' = absurd (not-suc-le-zero h)
  fill_front F (suc k) (suc j) (x ∷ d) (y ∷ d') h l l' =
      ap (λ (t : List A). F zero ∷ t)
      (fill_front (λ i. F (suc i)) k j d d' (le_of_suc-le-suc h) (le_of_suc-le-suc l) (le_of_suc-le-suc l'))

  -- elements that are written over
  pub fill_again : (at : ℕ) (F G : ℕ → A) (j k : ℕ) (d : List A) → j ≤ k → fill at G k (fill at F j d) ≡ fill at G k d
  unfolding fill
  fill_again at F G j k [] h = refl
  fill_again (suc at) F G j k (x ∷ d) h = ap (λ (t : List A). x ∷ t) (fill_again at F G j k d h)
  fill_again zero F G zero k (x ∷ d) h = refl
  fill_again zero F G (suc j) zero (x ∷ d) h = absurd (not-suc-le-zero h)
  fill_again zero F G (suc j) (suc k) (x ∷ d) h =
      ap (λ (t : List A). G zero ∷ t) (fill_again zero (λ i. F (suc i)) (λ i. G (suc i)) j k d (le_of_suc-le-suc h))

  -- the same elements, said otherwise
  pub fill_same : (at : ℕ) (F G : ℕ → A) (k : ℕ) (d : List A) → ((i : ℕ) → i < k → F i ≡ G i) → fill at F k d ≡ fill at G k d
  unfolding fill
  fill_same at F G k [] e = refl
  fill_same (suc at) F G k (x ∷ d) e = ap (λ (t : List A). x ∷ t) (fill_same at F G k d e)
  fill_same zero F G zero (x ∷ d) e = refl
  fill_same zero F G (suc k) (x ∷ d) e =
      ap (λ (y : A). y ∷ fill zero (λ i. F (suc i)) k d) (e zero (suc-le-suc zero-le))
      ∙ ap (λ (t : List A). G zero ∷ t) (fill_same zero (λ i. F (suc i)) (λ i. G (suc i)) k d (λ i h. e (suc i) (suc-le-suc h)))

  -- k elements and the j after them, filled one after the other
  pub fill_join : (at : ℕ) (F G : ℕ → A) (k j : ℕ) (d : List A) → ((i : ℕ) → i < j → F (k + i) ≡ G i)
      → fill (at + k) G j (fill at F k d) ≡ fill at F (k + j) d
  fill_join at F G k zero d same = rw add-zero (fill_none (at + k) G (fill at F k d))
  fill_join at F G k (suc j) d same =
      sym (fill_suc (at + k) G j (fill at F k d))
      ∙ ap (λ (l : List A). set l (at + k + j) (G j)) (fill_join at F G k j d (λ i h. same i (omega arith)))
      ∙ ap (λ (y : A). set (fill at F (k + j) d) (at + k + j) y) (sym (same j (omega arith)))
      ∙ ap (λ (i : ℕ). set (fill at F (k + j) d) i (F (k + j))) (add_assoc at k j)
      ∙ fill_suc at F (k + j) d
      ∙ ap (λ (i : ℕ). fill at F i d) (sym (add-suc k j))

  -- two parts that are apart, filled in either order
  pub fill_swap : (at at' : ℕ) (F G : ℕ → A) (k j : ℕ) (d : List A) → at + k ≤ at' → fill at' G j (fill at F k d) ≡ fill at F k (fill at' G j d)
  unfolding fill
  fill_swap at at' F G k j [] h = refl
  fill_swap (suc at) zero F G k j (x ∷ d) h = absurd (not-suc-le-zero (rw suc-add at h))
  fill_swap (suc at) (suc at') F G k j (x ∷ d) h = ap (λ (t : List A). x ∷ t) (fill_swap at at' F G k j d (le_of_suc-le-suc (rw suc-add at h)))
  fill_swap zero at' F G zero j (x ∷ d) h = ap (fill at' G j) (fill_none zero F (x ∷ d)) ∙ sym (fill_none zero F (fill at' G j (x ∷ d)))
  fill_swap zero zero F G (suc k) j (x ∷ d) h = absurd (not-suc-le-zero (rw zero-add at h))
  fill_swap zero (suc at') F G (suc k) j (x ∷ d) h = ap (λ (t : List A). F zero ∷ t) (fill_swap zero at' (λ i. F (suc i)) G k j d (omega arith))

  fill-take : (F : ℕ → A) (k n : ℕ) (l : List A) → k ≤ n → fill 0 F k (take n l) ++ drop n l ≡ fill 0 F k l
  unfolding fill
  fill-take F k n [] h = rw (take-nil {A = A} n, drop-nil {A = A} n) refl
  fill-take F zero n (x ∷ l) h = rw fill_none (take-append-drop n (x ∷ l))
  fill-take F (suc k) zero (x ∷ l) h = absurd (not-suc-le-zero h)
  fill-take F (suc k) (suc n) (x ∷ l) h = ap (λ (t : List A). F zero ∷ t) (fill-take (λ i. F (suc i)) k n l (le_of_suc-le-suc h))

  -- the n elements from s on, lent, filled from their front and given back
  pub fill_part : (s : ℕ) (F : ℕ → A) (k n : ℕ) (l : List A) → k ≤ n
      → take s l ++ (fill 0 F k (take n (drop s l)) ++ drop n (drop s l)) ≡ fill s F k l
  unfolding fill
  fill_part zero F k n l h = fill-take F k n l h
  fill_part (suc s) F k n [] h = fill-take F k n [] h
  fill_part (suc s) F k n (x ∷ l) h = ap (λ (t : List A). x ∷ t) (fill_part s F k n l h)
