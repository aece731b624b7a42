-- A list with the elements of another list stored in it, as a writer leaves it. Assumes nothing.
use Rattle.std.specs.Prelude.{◌≡◌, set, drop}
use Rattle.std.proofs.Math.Path.{refl, sym, ap}
use Rattle.std.proofs.Common.{◌∙◌, add-zero, zero-add, add-one}
use Prim.Native.Nat.{ℕ, suc, ◌+◌, ◌≤◌}
use native.Mathlib.Omega.{arith}
use mathlib.Core.List.{List, [], ◌∷◌, ◌++◌}
use Rattle.std.proofs.Math.ListN.{length, get_or, length-set}
use Rattle.std.proofs.Math.Seq.{sets}
use Rattle.std.proofs.lemmas.List.Edits.{sets-eq}
use Rattle.storage.specs.Elements.{from}
use Rattle.storage.specs.Fill.{fill, fill_none, fill_one, fill_join}

module _ {A : Type 0} where
  -- d with the elements of vs stored from index at on
  unfoldable pub store : ℕ → List A → List A → List A
  store at [] d = d
  store at (v ∷ vs) d = store (at + 1) vs (set d at v)

  pub store_none : (at : ℕ) (d : List A) → store at [] d ≡ d
  unfolding store
  store_none at d = refl

  pub store_cons : (at : ℕ) (v : A) (vs d : List A) → store at (v ∷ vs) d ≡ store (at + 1) vs (set d at v)
  unfolding store
  store_cons at v vs d = refl

  pub length-store : (at : ℕ) (vs d : List A) → length (store at vs d) ≡ length d
  unfolding store
  length-store at [] d = refl
  length-store at (v ∷ vs) d = length-store (at + 1) vs (set d at v) ∙ length-set d at v

  -- one list, and another after it
  pub store-append : (at : ℕ) (us vs d : List A) → store at (us ++ vs) d ≡ store (at + length us) vs (store at us d)
  unfolding store
  store-append at [] vs d = ap (λ (i : ℕ). store i vs d) (sym (add-zero at))
  store-append at (u ∷ us) vs d =
      let e : at + 1 + length us ≡ at + suc (length us) = omega arith in
      store-append (at + 1) us vs (set d at u) ∙ ap (λ (i : ℕ). store i vs (store (at + 1) us (set d at u))) e

  pub store_sets : (at : ℕ) (vs d : List A) → store at vs d ≡ sets d at vs
  unfolding store
  store_sets at [] d = refl
  store_sets at (v ∷ vs) d = store_sets (at + 1) vs (set d at v) ∙ ap (λ (i : ℕ). sets (set d at v) i vs) (add-one at)

  -- a list stored at the front
  pub store_front : (vs d : List A) → length vs ≤ length d → store 0 vs d ≡ vs ++ drop (length vs) d
  store_front vs d h = store_sets 0 vs d ∙ sets-eq vs d 0 (rw zero-add h) ∙ ap (λ (i : ℕ). vs ++ drop i d) (zero-add (length vs))

  -- a fill whose elements are those of a list
  pub store-fill : (at : ℕ) (vs d : List A) (z : A) → store at vs d ≡ fill at (from 0 vs z) (length vs) d
  unfolding store from
  store-fill at [] d z = sym (fill_none at (from 0 [] z) d)
  store-fill at (v ∷ vs) d z =
      let F : ℕ → A = from 0 (v ∷ vs) z in
      let n : 1 + length vs ≡ suc (length vs) = omega arith in
      store-fill (at + 1) vs (set d at v) z
      ∙ ap (fill (at + 1) (from 0 vs z) (length vs)) (fill_one at F d)
      ∙ fill_join at F (from 0 vs z) 1 (length vs) d (λ i h. let j : 0 + (1 + i) ≡ suc (0 + i) = omega arith in ap (λ (n : ℕ). get_or (v ∷ vs) n z) j)
      ∙ ap (λ (k : ℕ). fill at F k d) n

  pub fill_front : (vs d : List A) (z : A) → length vs ≤ length d → fill 0 (from 0 vs z) (length vs) d ≡ vs ++ drop (length vs) d
  fill_front vs d z h = sym (store-fill 0 vs d z) ∙ store_front vs d h
