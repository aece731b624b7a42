-- `fill` as a loop's invariant has it: a record, so that a law finds its arguments by itself, with the length beside the equation, where
-- `omega` finds it. Assumes nothing.
use Rattle.std.specs.Prelude.{◌≡◌, refl, ℕ, zero, suc, ◌+◌, ◌-◌, ◌≤◌, ◌<◌, List, ◌++◌, length, get_or, set, take, drop}
use Rattle.std.proofs.Common.{sym, ap, subst, ◌∙◌, le_refl, add-zero, add-sub_of_le, add-one, arith, length-set, length-take-le}
use Rattle.std.proofs.lemmas.List.{set-get_or}
use Rattle.storage.specs.Fill.{fill, length-fill, fill_none, fill_more, fill_in, fill_before, fill_after, fill_join, fill_again, fill_same, fill_part}
use Rattle.storage.specs.Fill.{fill_swap}

-- l is d with its k elements from index at on replaced by F 0, F 1, .., F (k - 1)
pub record Filled {A : Type 0} (at : ℕ) (F : ℕ → A) (k : ℕ) (d l : List A) : Type 0 where
  pub is : l ≡ fill at F k d
  pub long : length l ≡ length d

pub filled : {A : Type 0} (at : ℕ) (F : ℕ → A) (k : ℕ) (d : List A) {l : List A} → l ≡ fill at F k d → Filled at F k d l
filled at F k d e = record { is = e; long = ap length e ∙ length-fill at F k d }

-- with nothing replaced
pub filled_none : {A : Type 0} {at : ℕ} {F : ℕ → A} {d : List A} → Filled at F 0 d d
filled_none {A} {at} {F} {d} = record { is = sym (fill_none at F d); long = refl }

module _ {A : Type 0} {at k : ℕ} {F : ℕ → A} {d l : List A} where
  -- with the next element stored
  pub filled_more : {i : ℕ} {v : A} → Filled at F k d l → i ≡ at + k → v ≡ F k → Filled at F (k + 1) d (set l i v)
  filled_more {i} {v} r p h = record {
    is = ap (λ (y : A). set l i y) h ∙ ap (λ (j : ℕ). set l j (F k)) p ∙ ap (λ (x : List A). set x (at + k) (F k)) r.is ∙ fill_more at F k d;
    long = length-set l i v ∙ r.long;
  }

  -- as many, said otherwise
  pub filled_to : {j : ℕ} → Filled at F k d l → k ≡ j → Filled at F j d l
  filled_to {j} r e = record { is = r.is ∙ ap (λ (i : ℕ). fill at F i d) e; long = r.long }

  -- from the same index, said otherwise
  pub filled_at : {at' : ℕ} → Filled at F k d l → at ≡ at' → Filled at' F k d l
  filled_at {at'} r e = record { is = r.is ∙ ap (λ (i : ℕ). fill i F k d) e; long = r.long }

  -- what is read in the part that is filled, before it and after it
  pub filled_in : {i j : ℕ} (z : A) → Filled at F k d l → j < k → i ≡ at + j → i < length d → get_or l i z ≡ F j
  filled_in {i} {j} z r h p b =
      ap (λ (x : List A). get_or x i z) r.is ∙ ap (λ (n : ℕ). get_or (fill at F k d) n z) p ∙ fill_in at F k j d z h (subst (λ (n : ℕ). n < length d) p b)

  pub filled_before : (i : ℕ) (z : A) → Filled at F k d l → i < at → get_or l i z ≡ get_or d i z
  filled_before i z r h = ap (λ (x : List A). get_or x i z) r.is ∙ fill_before at F k i d z h

  pub filled_after : (i : ℕ) (z : A) → Filled at F k d l → at + k ≤ i → get_or l i z ≡ get_or d i z
  filled_after i z r h = ap (λ (x : List A). get_or x i z) r.is ∙ fill_after at F k i d z h

  -- k elements, and then the j after them
  pub filled_join : {at' j : ℕ} {G : ℕ → A} {l' : List A} → Filled at F k d l → Filled at' G j l l' → at' ≡ at + k → ((i : ℕ) → i < j → F (k + i) ≡ G i)
      → Filled at F (k + j) d l'
  filled_join {at'} {j} {G} {l'} r s p same = record {
    is = s.is ∙ ap (λ (n : ℕ). fill n G j l) p ∙ ap (λ (x : List A). fill (at + k) G j x) r.is ∙ fill_join at F G k j d same;
    long = s.long ∙ r.long;
  }

  -- k elements, and then no fewer written over them
  pub filled_again : {j : ℕ} {G : ℕ → A} {l' : List A} → Filled at F k d l → Filled at G j l l' → k ≤ j → Filled at G j d l'
  filled_again {j} {G} {l'} r s h = record {
    is = s.is ∙ ap (λ (x : List A). fill at G j x) r.is ∙ fill_again at F G k j d h;
    long = s.long ∙ r.long;
  }

  -- k elements, and then the first j of them written over: H is the new ones, and the old ones past them
  pub filled_front : {j : ℕ} {G : ℕ → A} {l' : List A} (H : ℕ → A) → Filled at F k d l → Filled at G j l l' → j ≤ k → ((i : ℕ) → i < j → G i ≡ H i)
      → ((i : ℕ) → j ≤ i → i < k → F i ≡ H i) → Filled at H k d l'
  filled_front {j} {G} {l'} H r s h new old =
      let rest : ℕ → A = λ i. F (j + i) in
      let e : j + (k - j) ≡ k = add-sub_of_le h in
      let split : fill at F (j + (k - j)) d ≡ fill at F j (fill (at + j) rest (k - j) d) =
      sym (fill_join at F rest j (k - j) d (λ i b. refl)) ∙ fill_swap at (at + j) F rest j (k - j) d (le_refl (at + j)) in
      let over : fill at G j (fill at F (j + (k - j)) d) ≡ fill (at + j) rest (k - j) (fill at G j d) =
      ap (fill at G j) split
      ∙ fill_again at F G j j (fill (at + j) rest (k - j) d) (le_refl j)
      ∙ sym (fill_swap at (at + j) G rest j (k - j) d (le_refl (at + j))) in
      let whole : fill (at + j) rest (k - j) (fill at G j d) ≡ fill at H (j + (k - j)) d =
      ap (fill (at + j) rest (k - j)) (fill_same at G H j d new)
      ∙ fill_join at H rest j (k - j) d (λ i b. sym (old (j + i) (omega arith) (omega arith))) in
      filled at H k d (s.is ∙ ap (fill at G j) r.is ∙ rw (← e) (over ∙ whole))

  -- k elements, and then others past them: the others count as part of the list below
  pub filled_under : {at' j : ℕ} {G : ℕ → A} {l' : List A} → Filled at F k d l → Filled at' G j l l' → at + k ≤ at' → Filled at F k (fill at' G j d) l'
  filled_under {at'} {j} {G} {l'} r s h =
      filled at F k (fill at' G j d) (s.is ∙ ap (λ (x : List A). fill at' G j x) r.is ∙ fill_swap at at' F G k j d h)

  -- the same list below, said otherwise
  pub filled_base : {d' : List A} → Filled at F k d l → d ≡ d' → Filled at F k d' l
  filled_base {d'} r e = filled at F k d' (r.is ∙ ap (λ (x : List A). fill at F k x) e)

  -- the elements that stand there already, filled in once more
  pub filled_self : Filled at F k d l → Filled at F k l l
  filled_self r = record { is = r.is ∙ sym (fill_again at F F k k d (le_refl k)) ∙ ap (λ (x : List A). fill at F k x) (sym r.is); long = refl }

  -- the same elements, said otherwise
  pub filled_same : (G : ℕ → A) → Filled at F k d l → ((i : ℕ) → i < k → F i ≡ G i) → Filled at G k d l
  filled_same G r e = record { is = r.is ∙ fill_same at F G k d e; long = r.long }

-- with one element stored
pub filled_one : {A : Type 0} {at : ℕ} {F : ℕ → A} {v : A} (d : List A) → v ≡ F 0 → Filled at F 1 d (set d at v)
filled_one {A} {at} d h = filled_more filled_none (sym (add-zero at)) h

module _ {A : Type 0} where
  -- elements that stand from index at on fill it
  pub filled_standing : {F : ℕ → A} (z : A) (at : ℕ) (l : List A) (k : ℕ) → ((j : ℕ) → j < k → get_or l (at + j) z ≡ F j) → Filled at F k l l
  filled_standing z at l zero e = filled_none
  filled_standing {F} z at l (suc k) e =
      let more =
      filled_more {i = at + k} {v = get_or l (at + k) z} (filled_standing z at l k (λ j h. e j (omega arith))) (omega arith) (e k (omega arith)) in
      filled at F (suc k) l (sym (set-get_or l (at + k) z) ∙ more.is ∙ ap (λ (i : ℕ). fill at F i l) (add-one k))

  module _ (F : ℕ → A) (z : A) (at k n : ℕ) {G : ℕ → A} {l l' : List A} where
    -- the first k of n elements are written, and the others stand
    pub filled_first : Filled at G k l l' → k ≤ n → ((j : ℕ) → j < k → G j ≡ F j) → ((j : ℕ) → k ≤ j → j < n → get_or l (at + j) z ≡ F j) → Filled at F n l l'
    filled_first r h new old =
        let stands =
        filled_standing {F = λ j. F (k + j)} z (at + k) l' (n - k)
        (λ j b.
        let e : at + k + j ≡ at + (k + j) = omega arith in
        filled_after (at + k + j) z r (omega arith) ∙ ap (λ (i : ℕ). get_or l i z) e ∙ old (k + j) (omega arith) (omega arith)) in
        filled_to (filled_join (filled_same F r new) stands (omega arith) (λ j b. refl)) (add-sub_of_le h)

    -- the first k of n elements stand, and the others are written
    pub filled_last : {at' : ℕ} → Filled at' G (n - k) l l' → at' ≡ at + k → k ≤ n → ((j : ℕ) → j < k → get_or l (at + j) z ≡ F j)
        → ((j : ℕ) → j < n - k → F (k + j) ≡ G j) → Filled at F n l l'
    filled_last r p h old new = filled_to (filled_join (filled_standing z at l k old) r p new) (add-sub_of_le h)

-- the part that is filled, by itself
pub filled_length : {A : Type 0} {F : ℕ → A} {k : ℕ} {d l : List A} → Filled 0 F k d l → k ≤ length d → length (take k l) ≡ k
filled_length {k = k} {l = l} r h = let long = r.long in length-take-le k l (omega arith)

-- the n elements from s on, lent, filled from their front and given back
pub filled_part : {A : Type 0} {k : ℕ} {F : ℕ → A} {y : List A} (s n : ℕ) (w : List A) → Filled 0 F k (take n (drop s w)) y → k ≤ n
    → Filled s F k w (take s w ++ (y ++ drop n (drop s w)))
filled_part {A} {k} {F} s n w r h =
    filled s F k w (ap (λ (x : List A). take s w ++ (x ++ drop n (drop s w))) r.is ∙ fill_part s F k n w h)
