-- The rising ranking of a list of numbers, and that it is the falling one read from its end: numbers that rank equal are equal, every NaN among them.
-- Assumes nothing.
use Rattle.std.specs.Prelude.{◌≡◌, Bool, ℕ, zero, suc, ◌+◌, ◌-◌, ◌<◌, T, length, Float}
use Rattle.std.proofs.Math.Path.{refl, ap}
use Rattle.std.proofs.Common.{sym, ◌∙◌, true≢false, not-suc-le-zero, zero-add, arith, length-append, ext_get_or}
use Rattle.std.proofs.Math.Bool.{true, false}
use mathlib.Core.List.{List, [], ◌∷◌, ◌++◌, map}
use Rattle.std.proofs.Math.ListN.{get_or, get_or-append}
use Rattle.std.proofs.lemmas.List.{length-map}
use Rattle.std.proofs.Math.Seq.{get_or-append_seam}
use Rattle.std.specs.Float.{nan, binary64}
use Rattle.std.specs.Float.Ieee.{fits}
use Rattle.number.specs.Order.{ranks_below, ranks_before}
use Rattle.number.specs.OrderLaws.{below_irreflexive, below_total, below_transitive, not_below_transitive}
use Rattle.number.specs.Ranking.{insert, ranking, insert_behind, insert_front, length-ranking}
use Rattle.number.specs.RankingLaws.{NoneBefore, Sorted, ranking-sorted, falling}
use Rattle.storage.specs.Tabulate.{length-tabulate, get_d_tabulate}
use Rattle.ranking.specs.Places.{key_before, up_to, ranked_places, rising}
use Rattle.ranking.specs.Rankings.{map_at, length_places}

-- a list from its end to its front
unfoldable pub backwards : {A : Type 0} → List A → List A
backwards [] = []
backwards (x ∷ l) = backwards l ++ (x ∷ [])

pub length-backwards : {A : Type 0} (l : List A) → length (backwards l) ≡ length l
unfolding backwards
length-backwards [] = refl
length-backwards (x ∷ l) = let e = length-append (backwards l) (x ∷ []) in let h = length-backwards l in omega arith

pub backwards_at : {A : Type 0} (l : List A) (i : ℕ) (z : A) → i < length l → get_or (backwards l) (length l - (i + 1)) z ≡ get_or l i z
unfolding backwards
backwards_at [] i z h = absurd (not-suc-le-zero h)
backwards_at (x ∷ l) zero z h =
    let n = length-backwards l in
    let e : suc (length l) - (0 + 1) ≡ length (backwards l) = omega arith in
    ap (λ (k : ℕ). get_or (backwards l ++ (x ∷ [])) k z) e ∙ get_or-append_seam (backwards l) x [] z
backwards_at (x ∷ l) (suc i) z h =
    let n = length-backwards l in
    let e : suc (length l) - (suc i + 1) ≡ length l - (i + 1) = omega arith in
    ap (λ (k : ℕ). get_or (backwards l ++ (x ∷ [])) k z) e
    ∙ get_or-append (backwards l) (x ∷ []) z (length l - (i + 1)) (omega arith)
    ∙ backwards_at l i z (omega arith)

-- ---- one insertion, rising and falling
-- behind what comes before x it makes no difference what stands at the end
insert_before_last : (x y : Float) (k : List Float) → ranks_below y x ≡ false → insert ranks_below x (k ++ (y ∷ [])) ≡ insert ranks_below x k ++ (y ∷ [])
unfolding insert
insert_before_last x y [] h = insert_front ranks_below x y [] h
insert_before_last x y (z ∷ k) h = pick (ranks_below z x) refl (insert_before_last x y k h)
  where
    pick : (b : Bool) → ranks_below z x ≡ b → insert ranks_below x (k ++ (y ∷ [])) ≡ insert ranks_below x k ++ (y ∷ [])
        → insert ranks_below x (z ∷ (k ++ (y ∷ []))) ≡ insert ranks_below x (z ∷ k) ++ (y ∷ [])
    pick true p ih =
        insert_behind ranks_below x z (k ++ (y ∷ [])) p
        ∙ ap (λ (t : List Float). z ∷ t) ih
        ∙ ap (λ (t : List Float). t ++ (y ∷ [])) (sym (insert_behind ranks_below x z k p))
    pick false p ih =
        insert_front ranks_below x z (k ++ (y ∷ [])) p ∙ ap (λ (t : List Float). t ++ (y ∷ [])) (sym (insert_front ranks_below x z k p))

module _ (key : ℕ → Float) (doubles : (i : ℕ) → T (fits binary64 (key i))) where
  -- the falling order of places by their keys
  abbrev above : ℕ → ℕ → Bool
  above i j = ranks_before (key i) (key j)

  -- the keys of some places, from the last place to the first
  abbrev up : List ℕ → List Float
  up m = backwards (map key m)

  -- ---- a number that all are below comes last
  abbrev AllBelow : Float → List Float → Type 0
  AllBelow x [] = Unit
  AllBelow x (z ∷ k) = (ranks_below z x ≡ true) × AllBelow x k

  all_append : (x : Float) (k l : List Float) → AllBelow x k → AllBelow x l → AllBelow x (k ++ l)
  all_append x [] l h g = g
  all_append x (z ∷ k) l h g = (h.0, all_append x k l h.1 g)

  passes : (x : Float) (k : List Float) → AllBelow x k → insert ranks_below x k ≡ k ++ (x ∷ [])
  unfolding insert
  passes x [] h = refl
  passes x (z ∷ k) h = insert_behind ranks_below x z k h.0 ∙ ap (λ (t : List Float). z ∷ t) (passes x k h.1)

  -- of a falling list that begins with q: what q is below, all are
  under_first : (x : Float) (q r : ℕ) → T (fits binary64 x) → ranks_below (key q) x ≡ true → ranks_below (key q) (key r) ≡ false → ranks_below (key r) x ≡ true
  under_first x q r f h e = go (ranks_below (key r) x) refl
    where
      go : (b : Bool) → ranks_below (key r) x ≡ b → b ≡ true
      go true p = refl
      go false p = absurd (true≢false (sym h ∙ not_below_transitive (key q) (key r) x (doubles q) (doubles r) f e p))

  all_under : (x : Float) (q : ℕ) (m : List ℕ) → T (fits binary64 x) → ranks_below (key q) x ≡ true → NoneBefore above q m → AllBelow x (up m)
  unfolding backwards
  all_under x q [] f h n = tt
  all_under x q (r ∷ m) f h n = all_append x (up m) (key r ∷ []) (all_under x q m f h n.1) (under_first x q r f h n.0, tt)

  -- a number that none is above comes last
  none_above : (p q : ℕ) (m : List ℕ) → ranks_below (key p) (key q) ≡ false → NoneBefore above q m → Sorted above m
      → insert ranks_below (key p) (up (q ∷ m)) ≡ up (q ∷ m) ++ (key p ∷ [])
  unfolding insert backwards
  none_above p q [] h n s = above_first (ranks_below (key q) (key p)) refl
    where
      above_first : (b : Bool) → ranks_below (key q) (key p) ≡ b → insert ranks_below (key p) (key q ∷ []) ≡ key q ∷ key p ∷ []
      above_first true e = insert_behind ranks_below (key p) (key q) [] e
      above_first false e =
          let same = below_total (key p) (key q) (doubles p) (doubles q) h e in
          insert_front ranks_below (key p) (key q) [] e ∙ cc
  none_above p q (r ∷ m) h n s =
      pick (ranks_below (key q) (key p)) refl
      (none_above p r m (not_below_transitive (key p) (key q) (key r) (doubles p) (doubles q) (doubles r) h n.0) s.0 s.1)
    where
      pick : (b : Bool) → ranks_below (key q) (key p) ≡ b → insert ranks_below (key p) (up (r ∷ m)) ≡ up (r ∷ m) ++ (key p ∷ [])
          → insert ranks_below (key p) (up (r ∷ m) ++ (key q ∷ [])) ≡ up (r ∷ m) ++ (key q ∷ []) ++ (key p ∷ [])
      pick true e ih =
          passes (key p) (up (r ∷ m) ++ (key q ∷ []))
          (all_append (key p) (up (r ∷ m)) (key q ∷ []) (all_under (key p) q (r ∷ m) (doubles p) e n) (e, tt))
      pick false e ih =
          let same = below_total (key p) (key q) (doubles p) (doubles q) h e in
          insert_before_last (key p) (key q) (up (r ∷ m)) e
          ∙ ap (λ (t : List Float). t ++ (key q ∷ [])) ih
          ∙ ap (λ (y : Float). up (r ∷ m) ++ (key p ∷ []) ++ (y ∷ [])) (sym same)
          ∙ ap (λ (y : Float). up (r ∷ m) ++ (y ∷ []) ++ (key p ∷ [])) same

  not_both : (x y : Float) → T (fits binary64 x) → T (fits binary64 y) → ranks_below x y ≡ true → ranks_below y x ≡ false
  not_both x y f g h = go (ranks_below y x) refl
    where
      go : (b : Bool) → ranks_below y x ≡ b → b ≡ false
      go true p = absurd (true≢false (sym (below_transitive x y x f g f h p) ∙ below_irreflexive x f))
      go false p = refl

  -- ---- insertion into the falling list is insertion into the rising one
  insert_up : (p : ℕ) (m : List ℕ) → Sorted above m → insert ranks_below (key p) (up m) ≡ up (insert above p m)
  unfolding insert backwards
  insert_up p [] s = refl
  insert_up p (q ∷ m) s = pick (above q p) refl (insert_up p m s.1)
    where
      pick : (b : Bool) → above q p ≡ b → insert ranks_below (key p) (up m) ≡ up (insert above p m)
          → insert ranks_below (key p) (up m ++ (key q ∷ [])) ≡ up (insert above p (q ∷ m))
      pick true e ih =
          insert_before_last (key p) (key q) (up m) (not_both (key p) (key q) (doubles p) (doubles q) e)
          ∙ ap (λ (t : List Float). t ++ (key q ∷ [])) ih
          ∙ ap up (sym (insert_behind above p q m e))
      pick false e ih = none_above p q m e s.0 s.1 ∙ ap up (sym (insert_front above p q m e))

  rising_places : (l : List ℕ) → ranking ranks_below (map key l) ≡ up (ranking above l)
  unfolding ranking backwards
  rising_places [] = refl
  rising_places (p ∷ l) =
      ap (insert ranks_below (key p)) (rising_places l) ∙ insert_up p (ranking above l) (ranking-sorted above (falling key doubles) l)

-- ---- so a rising ranking is read from the ranked places, from the last to the first
all_keys : (keys : List Float) → map (λ i. get_or keys i nan) (up_to 0 (length keys)) ≡ keys
all_keys keys =
    let n = length-tabulate (λ i. i) 0 (length keys) in
    let m = length-map (up_to 0 (length keys)) (λ i. get_or keys i nan) in
    ext_get_or nan (map (λ i. get_or keys i nan) (up_to 0 (length keys))) keys (omega arith)
    (λ i h.
    map_at (λ i. get_or keys i nan) (up_to 0 (length keys)) i nan 0 (omega arith)
    ∙ ap (λ (k : ℕ). get_or keys k nan) (get_d_tabulate (λ i. i) 0 (length keys) i 0 (omega arith) ∙ zero-add i))

pub length-rising : (keys : List Float) → length (rising keys) ≡ length keys
unfolding rising
length-rising keys = length-ranking ranks_below keys

module _ (keys : List Float) (doubles : (i : ℕ) → T (fits binary64 (get_or keys i nan))) where
  pub rising_is : rising keys ≡ backwards (map (λ i. get_or keys i nan) (ranked_places keys))
  unfolding rising ranked_places key_before
  rising_is = ap (ranking ranks_below) (sym (all_keys keys)) ∙ rising_places (λ i. get_or keys i nan) doubles (up_to 0 (length keys))

  pub rising_at_lem : (i : ℕ) → i < length keys → get_or (rising keys) i nan ≡ get_or keys (get_or (ranked_places keys) (length keys - (i + 1)) 0) nan
  rising_at_lem i h =
      let places = ranked_places keys in
      let n = length_places keys in
      let m = length-map places (λ j. get_or keys j nan) in
      let read : (l : List Float) → length l ≡ length keys → get_or (backwards l) i nan ≡ get_or l (length keys - (i + 1)) nan =
      λ l e.
      let back : length l - (length keys - (i + 1) + 1) ≡ i = omega arith in
      ap (λ (k : ℕ). get_or (backwards l) k nan) (sym back) ∙ backwards_at l (length keys - (i + 1)) nan (omega arith) in
      ap (λ (l : List Float). get_or l i nan) rising_is
      ∙ read (map (λ j. get_or keys j nan) places) (m ∙ n)
      ∙ map_at (λ j. get_or keys j nan) places (length keys - (i + 1)) nan 0 (omega arith)
