-- Lists that are stored element by element. Assumes nothing.
use Rattle.std.specs.Prelude.{◌≡◌, ℕ, suc, ◌+◌, ◌≤◌, ◌<◌, List, [], ◌∷◌, ◌++◌, length, get_or, set, take, drop}
use Rattle.std.proofs.Common.{sym, ap, ◌∙◌, add-one, arith, drop_of_length-le, drop-cons, length-take-le}
use Rattle.storage.specs.Store.{store, length-store, store_none, store_cons, store-append}

-- n elements at the front of l, in the two forms that a reader of `&l[..n]` asks for
abbrev pub Prefix : ℕ → List ℕ → Type 0
Prefix n l = (n ≤ length l) × (n ≡ length (take n l))

-- a text at the front of a list that has room for it
pub prefix-stored : (t d l : List ℕ) (n : ℕ) → l ≡ store 0 t d → n ≡ length t → length t ≤ length d → Prefix n l
prefix-stored t d l n e en h =
    let w : n ≤ length l = omega (arith, ap length e ∙ length-store 0 t d) in (w, sym (length-take-le n l w))

module _ {A : Type 0} where
  pub store_one : (at : ℕ) (v : A) (d : List A) → set d at v ≡ store at (v ∷ []) d
  store_one at v d = sym (store_cons at v [] d ∙ store_none (at + 1) (set d at v))

  -- one element behind a list that is stored
  pub store_last : (at : ℕ) (us d : List A) (v : A) → set (store at us d) (at + length us) v ≡ store at (us ++ (v ∷ [])) d
  store_last at us d v = store_one (at + length us) v (store at us d) ∙ sym (store-append at us (v ∷ []) d)

  -- a list stored where another one ends
  pub store_next : (at p : ℕ) (us vs d d' : List A) → p ≡ at + length us → d' ≡ store at us d → store p vs d' ≡ store at (us ++ vs) d
  store_next at p us vs d d' ep e = rw (ep, e) (sym (store-append at us vs d))

module _ {A : Type 0} (vs : List A) where
  -- a loop that stores the elements of vs one by one: what is stored, with what is still to come
  pub rest_turn : (d : List A) (i j j' : ℕ) (v z : A) → i < length vs → j' ≡ j + 1 → v ≡ get_or vs i z
      → store j' (drop (i + 1) vs) (set d j v) ≡ store j (drop i vs) d
  rest_turn d i j j' v z h e p =
      rw (e, p, add-one i)
      (sym (store_cons j (get_or vs i z) (drop (suc i) vs) d) ∙ ap (λ (l : List A). store j l d) (sym (drop-cons vs i z h)))

  pub rest_end : (d : List A) (i j : ℕ) → length vs ≤ i → d ≡ store j (drop i vs) d
  rest_end d i j h = sym (ap (λ (l : List A). store j l d) (drop_of_length-le vs h) ∙ store_none j d)
