-- A stable ranking is sorted, keeps every class of equals in its order, and is the only list that does both. Assumes nothing.
use Rattle.std.proofs.Math.Path.{◌≡◌, refl, sym, ap}
use Rattle.std.proofs.Common.{◌∙◌, true≢false}
use Rattle.std.specs.Prelude.{Bool, not, ◌&&◌, ℕ, T, Float}
use Rattle.std.proofs.Math.Bool.{true, false, cond}
use mathlib.Core.List.{List, [], ◌∷◌}
use native.Mathlib.Omega.{arith}
use borrow.Author.Tests.{not-true}
use Rattle.std.specs.Float.{binary64}
use Rattle.std.specs.Float.Ieee.{fits}
use Rattle.number.specs.Order.{ranks_before}
use Rattle.number.specs.OrderLaws.{below_irreflexive, below_transitive, not_below_transitive}
use Rattle.number.specs.Ranking.{Precedes, insert, ranking}

module _ {A : Type 0} (before : A → A → Bool) where
  -- no element of the list comes before x
  abbrev pub NoneBefore : A → List A → Type 0
  NoneBefore x [] = Unit
  NoneBefore x (y ∷ l) = (before y x ≡ false) × NoneBefore x l

  -- no element comes before one that stands ahead of it
  abbrev pub Sorted : List A → Type 0
  Sorted [] = Unit
  Sorted (x ∷ l) = NoneBefore x l × Sorted l

  -- neither comes before the other
  unfoldable pub alike : A → A → Bool
  alike z y = not (before y z) && not (before z y)

  -- the elements alike to z, as they stand in the list
  unfoldable pub equals : A → List A → List A
  equals z [] = []
  equals z (y ∷ l) = cond (alike z y) (y ∷ equals z l) (equals z l)

  module _ (o : Precedes before) where
    asymmetric : (x y : A) → before x y ≡ true → before y x ≡ false
    asymmetric x y h = go (before y x) refl
      where
        go : (t : Bool) → before y x ≡ t → t ≡ false
        go true k = absurd (true≢false (sym (o.transitive x y x h k) ∙ o.irreflexive x))
        go false k = refl

    -- ---- sorted
    none_lower : (x y : A) (l : List A) → before y x ≡ false → NoneBefore y l → NoneBefore x l
    none_lower x y [] h n = tt
    none_lower x y (z ∷ l) h n = (o.not_transitive z y x n.0 h, none_lower x y l h n.1)

    none_insert : (x y : A) (l : List A) → before x y ≡ false → NoneBefore y l → NoneBefore y (insert before x l)
    unfolding insert
    none_insert x y [] h n = (h, tt)
    none_insert x y (z ∷ l) h n = go (before z x) (none_insert x y l h n.1)
      where
        go : (t : Bool) → NoneBefore y (insert before x l) → NoneBefore y (elim t [ true ↦ z ∷ insert before x l | false ↦ x ∷ z ∷ l ])
        go true ih = (n.0, ih)
        go false ih = (h, n)

    insert-sorted : (x : A) (l : List A) → Sorted l → Sorted (insert before x l)
    unfolding insert
    insert-sorted x [] s = (tt, tt)
    insert-sorted x (y ∷ l) s = go (before y x) refl (insert-sorted x l s.1)
      where
        go : (t : Bool) → before y x ≡ t → Sorted (insert before x l) → Sorted (elim t [ true ↦ y ∷ insert before x l | false ↦ x ∷ y ∷ l ])
        go true h ih = (none_insert x y l (asymmetric y x h) s.0, ih)
        go false h ih = ((h, none_lower x y l h s.0), s)

    pub ranking-sorted : (l : List A) → Sorted (ranking before l)
    unfolding ranking
    ranking-sorted [] = tt
    ranking-sorted (x ∷ l) = insert-sorted x (ranking before l) (ranking-sorted l)

    -- ---- every class in its order
    both : (a b : Bool) → a && b ≡ true → (a ≡ true) × (b ≡ true)
    both true b h = (refl, h)
    both false b h = absurd (true≢false (sym h))

    -- what `alike` says
    neither : (z y : A) → alike z y ≡ true → (before y z ≡ false) × (before z y ≡ false)
    unfolding alike
    neither z y h = let k = both (not (before y z)) (not (before z y)) h in (not-true (before y z) k.0, not-true (before z y) k.1)

    pub alike_self : (z : A) → alike z z ≡ true
    unfolding alike
    alike_self z = rw (o.irreflexive z) refl

    level : {x y : A} → before y x ≡ false → before x y ≡ false → alike x y ≡ true
    unfolding alike
    level h k = rw (h, k) refl

    not_alike : (x y z : A) → before y x ≡ true → alike z x ≡ true → alike z y ≡ true → ⊥
    not_alike x y z h p q = true≢false (sym h ∙ o.not_transitive y z x (neither z y q).0 (neither z x p).1)

    insert-equals : (z x : A) (l : List A) → equals z (insert before x l) ≡ equals z (x ∷ l)
    unfolding insert equals
    insert-equals z x [] = refl
    insert-equals z x (y ∷ l) = go (before y x) refl (alike z x) refl (alike z y) refl (insert-equals z x l)
      where
        go : (t : Bool) → before y x ≡ t → (a : Bool) → alike z x ≡ a → (b : Bool) → alike z y ≡ b
            → equals z (insert before x l) ≡ cond a (x ∷ equals z l) (equals z l)
            → equals z (elim t [ true ↦ y ∷ insert before x l | false ↦ x ∷ y ∷ l ]) ≡ cond a (x ∷ cond b (y ∷ equals z l) (equals z l)) (cond b (y ∷ equals z l) (equals z l))
        go true h true p true q ih = absurd (not_alike x y z h p q)
        go true h true p false q ih = rw q ih
        go true h false p true q ih = rw q (ap (λ (k : List A). y ∷ k) ih)
        go true h false p false q ih = rw q ih
        go false h a p b q ih = rw (p, q) refl

    pub ranking-equals : (z : A) (l : List A) → equals z (ranking before l) ≡ equals z l
    unfolding ranking equals
    ranking-equals z [] = refl
    ranking-equals z (x ∷ l) =
        insert-equals z x (ranking before l) ∙ ap (λ (k : List A). cond (alike z x) (x ∷ k) k) (ranking-equals z l)

    -- ---- no other sorted list has the same classes
    -- where y comes before x, and nothing of the list before x, nothing of x and the list is alike to y
    none_alike : (x y : A) (k : List A) → before y x ≡ true → NoneBefore x k → equals y k ≡ []
    unfolding equals
    none_alike x y [] h n = refl
    none_alike x y (w ∷ k) h n = go (alike y w) refl (none_alike x y k h n.1)
      where
        go : (t : Bool) → alike y w ≡ t → equals y k ≡ [] → cond t (w ∷ equals y k) (equals y k) ≡ []
        go true p ih = absurd (true≢false (sym h ∙ o.not_transitive y w x (neither y w p).1 n.0))
        go false p ih = ih

    behind : (x y : A) → before y x ≡ true → alike y x ≡ false
    behind x y h = go (alike y x) refl
      where
        go : (t : Bool) → alike y x ≡ t → t ≡ false
        go true p = absurd (true≢false (sym h ∙ (neither y x p).1))
        go false p = refl

    -- the smaller head would be missing from the other list
    missing : (x y : A) (k l : List A) → before y x ≡ true → NoneBefore x k → equals y (x ∷ k) ≡ equals y (y ∷ l) → ⊥
    unfolding equals
    missing x y k l h n e =
        let a = behind x y h in
        let b = alike_self y in
        let c = none_alike x y k h n in
        let d : [] ≡ y ∷ equals y l = sym c ∙ rw (a, b) at e in
        let z : ◌≡◌ {A = ℕ} 0 1 = cc in
        omega arith

    tails : (x : A) (k l : List A) → ((z : A) → equals z (x ∷ k) ≡ equals z (x ∷ l)) → (z : A) → equals z k ≡ equals z l
    unfolding equals
    tails x k l e z = go (alike z x) (e z)
      where
        go : (t : Bool) → cond t (x ∷ equals z k) (equals z k) ≡ cond t (x ∷ equals z l) (equals z l) → equals z k ≡ equals z l
        go true p = cc
        go false p = p

    heads : (x y : A) (k l : List A) → alike x y ≡ true → equals x (x ∷ k) ≡ equals x (y ∷ l) → x ≡ y
    unfolding equals
    heads x y k l h e = let a = alike_self x in let d : x ∷ equals x k ≡ y ∷ equals x l = rw (a, h) at e in cc

    empty : (y : A) (l : List A) → [] ≡ equals y (y ∷ l) → ⊥
    unfolding equals
    empty y l e = let b = alike_self y in let d : [] ≡ y ∷ equals y l = rw b at e in let z : ◌≡◌ {A = ℕ} 0 1 = cc in omega arith

    pub sorted_unique : (k l : List A) → Sorted k → Sorted l → ((z : A) → equals z k ≡ equals z l) → k ≡ l
    unfolding equals
    sorted_unique [] [] p q e = refl
    sorted_unique [] (y ∷ l) p q e = absurd (empty y l (e y))
    sorted_unique (x ∷ k) [] p q e = absurd (empty x k (sym (e x)))
    sorted_unique (x ∷ k) (y ∷ l) p q e = pick (before y x) refl (before x y) refl (sorted_unique k l p.1 q.1)
      where
        pick : (a : Bool) → before y x ≡ a → (b : Bool) → before x y ≡ b → (((z : A) → equals z k ≡ equals z l) → k ≡ l) → x ∷ k ≡ y ∷ l
        pick true a b h ih = absurd (missing x y k l a p.0 (e y))
        pick false a true h ih = absurd (missing y x l k h q.0 (sym (e x)))
        pick false a false h ih =
            let s : alike x y ≡ true = level a h in
            let f : x ≡ y = heads x y k l s (e x) in
            let g : k ≡ l = ih (tails x k l (λ z. e z ∙ ap (λ (w : A). equals z (w ∷ l)) (sym f))) in
            cc

    -- so a list is the ranking of l exactly where it is sorted and has l's classes
    pub ranking_unique : (k l : List A) → Sorted k → ((z : A) → equals z k ≡ equals z l) → k ≡ ranking before l
    ranking_unique k l s e = sorted_unique k (ranking before l) s (ranking-sorted l) (λ z. e z ∙ sym (ranking-equals z l))

-- ---- a falling ranking by keys that are doubles
pub falling : {A : Type 0} (key : A → Float) → ((a : A) → T (fits binary64 (key a))) → Precedes (λ (a b : A). ranks_before (key a) (key b))
falling key f = record {
  irreflexive = λ a. below_irreflexive (key a) (f a);
  transitive = λ a b c p q. below_transitive (key c) (key b) (key a) (f c) (f b) (f a) q p;
  not_transitive = λ a b c p q. not_below_transitive (key c) (key b) (key a) (f c) (f b) (f a) q p;
}
