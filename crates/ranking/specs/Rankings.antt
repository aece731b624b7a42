-- A ranking of images, what all elements of a ranking have, and lists joined end to end in the order of a ranking. Assumes nothing.
use Rattle.std.specs.Prelude.{◌≡◌, Bool, T, get_or, take, drop, Float}
use Rattle.std.proofs.Math.Path.{refl, sym, ap}
use Rattle.std.proofs.Common.{◌∙◌, not-suc-le-zero, le_of_suc-le-suc, zero-lt-suc, add-one, arith, take-add, take-suc, get_or-append-add}
use Rattle.std.proofs.Math.Bool.{true, false}
use mathlib.Core.List.{List, [], ◌∷◌, ◌++◌, map, flatten, append_assoc, append-nil, map-append}
use Prim.Native.Nat.{ℕ, zero, suc, ◌+◌, ◌-◌, ◌≤◌, ◌<◌}
use Rattle.std.proofs.Math.ListN.{length, length-append, get_or-append}
use Rattle.number.specs.Ranking.{insert, ranking, insert_behind, insert_front, length-ranking}
use Rattle.storage.specs.Tabulate.{length-tabulate, get_d_tabulate}
use Rattle.ranking.specs.Places.{key_before, up_to, ranked_places}

-- every element of a list has the property P
unfoldable pub Every : {A : Type 0} → (A → Type 0) → List A → Type 0
Every P [] = T true
Every P (x ∷ l) = P x × Every P l

module _ {A : Type 0} (P : A → Type 0) where
  pub every-from : (z : A) (l : List A) → ((i : ℕ) → i < length l → P (get_or l i z)) → Every P l
  unfolding Every
  every-from z [] h = tt
  every-from z (x ∷ l) h = (h 0 (zero-lt-suc (length l)), every-from z l (λ i b. h (suc i) (omega arith)))

  pub every_at : (z : A) (l : List A) → Every P l → (i : ℕ) → i < length l → P (get_or l i z)
  unfolding Every
  every_at z [] h i b = absurd (not-suc-le-zero b)
  every_at z (x ∷ l) h zero b = h.0
  every_at z (x ∷ l) h (suc i) b = every_at z l h.1 i (le_of_suc-le-suc b)

  module _ (before : A → A → Bool) where
    every-insert : (x : A) (l : List A) → P x → Every P l → Every P (insert before x l)
    unfolding Every insert
    every-insert x [] p h = (p, tt)
    every-insert x (y ∷ l) p h = pick (before y x) refl (every-insert x l p h.1)
      where
        pick : (b : Bool) → before y x ≡ b → Every P (insert before x l) → Every P (insert before x (y ∷ l))
        pick true e r = rw (insert_behind before x y l e) (h.0, r)
        pick false e r = rw (insert_front before x y l e) (p, h)

    pub every-ranking : (l : List A) → Every P l → Every P (ranking before l)
    unfolding Every ranking
    every-ranking [] h = tt
    every-ranking (x ∷ l) h = every-insert x (ranking before l) h.0 (every-ranking l h.1)

    -- ranking commutes with a map that keeps the order
    module _ {B : Type 0} (f : A → B) (before' : B → B → Bool) (same : (a b : A) → P a → P b → before a b ≡ before' (f a) (f b)) where
      insert-map : (x : A) (l : List A) → P x → Every P l → map f (insert before x l) ≡ insert before' (f x) (map f l)
      unfolding Every insert
      insert-map x [] p h = refl
      insert-map x (y ∷ l) p h = pick (before y x) refl (insert-map x l p h.1)
        where
          pick : (b : Bool) → before y x ≡ b → map f (insert before x l) ≡ insert before' (f x) (map f l)
              → map f (insert before x (y ∷ l)) ≡ insert before' (f x) (f y ∷ map f l)
          pick true e r =
              ap (map f) (insert_behind before x y l e)
              ∙ ap (λ (t : List B). f y ∷ t) r
              ∙ sym (insert_behind before' (f x) (f y) (map f l) (sym (same y x h.0 p) ∙ e))
          pick false e r =
              ap (map f) (insert_front before x y l e) ∙ sym (insert_front before' (f x) (f y) (map f l) (sym (same y x h.0 p) ∙ e))

      pub ranking-map : (l : List A) → Every P l → map f (ranking before l) ≡ ranking before' (map f l)
      unfolding Every ranking
      ranking-map [] h = refl
      ranking-map (x ∷ l) h =
          insert-map x (ranking before l) h.0 (every-ranking l h.1) ∙ ap (insert before' (f x)) (ranking-map l h.1)

-- maps that agree on every element
pub map_same : {A B : Type 0} (P : A → Type 0) (f g : A → B) → ((a : A) → P a → f a ≡ g a) → (l : List A) → Every P l → map f l ≡ map g l
unfolding Every
map_same P f g e [] h = refl
map_same P f g e (x ∷ l) h = cc (e x h.0, map_same P f g e l h.1)

-- an element of a map
pub map_at : {A B : Type 0} (f : A → B) (l : List A) (i : ℕ) (y : B) (z : A) → i < length l → get_or (map f l) i y ≡ f (get_or l i z)
map_at f [] i y z h = absurd (not-suc-le-zero h)
map_at f (x ∷ l) zero y z h = refl
map_at f (x ∷ l) (suc i) y z h = map_at f l i y z (le_of_suc-le-suc h)

flatten_append : {A : Type 0} (k l : List (List A)) → flatten (k ++ l) ≡ flatten k ++ flatten l
unfolding flatten
flatten_append [] l = refl
flatten_append (x ∷ k) l = ap (λ (t : List _). x ++ t) (flatten_append k l) ∙ sym (append_assoc x (flatten k) (flatten l))

-- ---- the lists g a of the elements a, joined end to end
module _ {A B : Type 0} (g : A → List B) where
  abbrev pub joined : List A → List B
  joined l = flatten (map g l)

  pub joined-append : (k l : List A) → joined (k ++ l) ≡ joined k ++ joined l
  joined-append k l = ap flatten (map-append g k l) ∙ flatten_append (map g k) (map g l)

  joined-insert : (before : A → A → Bool) (x : A) (l : List A) → length (joined (insert before x l)) ≡ length (g x) + length (joined l)
  unfolding insert flatten
  joined-insert before x [] = length-append (g x) []
  joined-insert before x (y ∷ l) = pick (before y x) refl (joined-insert before x l)
    where
      pick : (b : Bool) → before y x ≡ b → length (joined (insert before x l)) ≡ length (g x) + length (joined l)
          → length (joined (insert before x (y ∷ l))) ≡ length (g x) + length (g y ++ joined l)
      pick true e r =
          ap (λ (t : List A). length (joined t)) (insert_behind before x y l e)
          ∙ length-append (g y) (joined (insert before x l))
          ∙ (let z = length-append (g y) (joined l) in omega arith)
      pick false e r = ap (λ (t : List A). length (joined t)) (insert_front before x y l e) ∙ length-append (g x) (g y ++ joined l)

  -- as many elements in any order
  pub joined-ranking : (before : A → A → Bool) (l : List A) → length (joined (ranking before l)) ≡ length (joined l)
  unfolding ranking flatten
  joined-ranking before [] = refl
  joined-ranking before (x ∷ l) =
      joined-insert before x (ranking before l) ∙ (let r = joined-ranking before l in let z = length-append (g x) (joined l) in omega arith)

  -- the lists of the first i elements, joined, and of one more
  pub joined_more : (l : List A) (i : ℕ) (z : A) → i < length l → joined (take (i + 1) l) ≡ joined (take i l) ++ g (get_or l i z)
  unfolding flatten
  joined_more l i z h =
      ap (λ (n : ℕ). joined (take n l)) (add-one i)
      ∙ ap joined (take-suc l i z h)
      ∙ joined-append (take i l) (get_or l i z ∷ [])
      ∙ ap (λ (t : List B). joined (take i l) ++ t) (append-nil (g (get_or l i z)))

  front : (l : List A) (i n : ℕ) → i ≤ n → joined (take n l) ≡ joined (take i l) ++ joined (take (n - i) (drop i l))
  front l i n h =
      let e : i + (n - i) ≡ n = omega arith in
      ap (λ (k : ℕ). joined (take k l)) (sym e) ∙ ap joined (take-add i (n - i) l) ∙ joined-append (take i l) (take (n - i) (drop i l))

  -- the list of element i within those of the first n
  pub joined-within : (l : List A) (i n : ℕ) (z : A) → i < n → i < length l → length (joined (take i l)) + length (g (get_or l i z)) ≤ length (joined (take n l))
  joined-within l i n z h b =
      let e = ap length (front l (i + 1) n (omega arith)) in
      let p = ap length (joined_more l i z b) in
      let q = length-append (joined (take (i + 1) l)) (joined (take (n - (i + 1)) (drop (i + 1) l))) in
      let r = length-append (joined (take i l)) (g (get_or l i z)) in
      omega arith

  pub joined_at : (l : List A) (i n : ℕ) (z : A) (j : ℕ) (y : B) → i < n → i < length l → j < length (g (get_or l i z))
      → get_or (joined (take n l)) (length (joined (take i l)) + j) y ≡ get_or (g (get_or l i z)) j y
  joined_at l i n z j y h b c =
      let r = length-append (joined (take i l)) (g (get_or l i z)) in
      let p = ap length (joined_more l i z b) in
      ap (λ (t : List B). get_or t (length (joined (take i l)) + j) y) (front l (i + 1) n (omega arith))
      ∙ get_or-append (joined (take (i + 1) l)) (joined (take (n - (i + 1)) (drop (i + 1) l))) y (length (joined (take i l)) + j) (omega arith)
      ∙ ap (λ (t : List B). get_or t (length (joined (take i l)) + j) y) (joined_more l i z b)
      ∙ get_or-append-add (joined (take i l)) (g (get_or l i z)) j y

-- ---- the ranked places of a list of keys
pub length_places : (keys : List Float) → length (ranked_places keys) ≡ length keys
unfolding ranked_places
length_places keys =
    let e : length keys - 0 ≡ length keys = omega arith in
    length-ranking (key_before keys) (up_to 0 (length keys)) ∙ length-tabulate (λ i. i) 0 (length keys) ∙ e

pub every-place : (keys : List Float) → Every (λ f. f < length keys) (ranked_places keys)
unfolding ranked_places
every-place keys =
    every-ranking (λ f. f < length keys) (key_before keys) (up_to 0 (length keys))
    (every-from (λ f. f < length keys) 0 (up_to 0 (length keys))
    (λ i b.
    let n = length-tabulate (λ i. i) 0 (length keys) in
    let at = get_d_tabulate (λ i. i) 0 (length keys) i 0 (omega arith) in
    omega arith))
