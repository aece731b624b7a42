-- The ranked places as a list that was lent for them holds them, at its front. Assumes nothing.
use Rattle.std.specs.Prelude.{◌≡◌, List, ℕ, ◌+◌, ◌-◌, ◌≤◌, ◌<◌, T, length, get_or, take, drop, Float}
use Rattle.std.proofs.Common.{sym, ap, subst, ◌∙◌, zero-add, arith, length-drop, ext_get_or, get_or-take, length-take-le}
use Rattle.std.specs.Float.{nan, binary64}
use Rattle.std.specs.Float.Ieee.{fits}
use Rattle.storage.specs.Elements.{from, from_zero}
use Rattle.storage.specs.Filled.{Filled, filled_in}
use Rattle.ranking.specs.Places.{ranked_places, rising}
use Rattle.ranking.specs.Rankings.{length_places, every-place, every_at}
use Rattle.ranking.specs.Rising.{rising_at_lem}

-- the first n places are below n
pub record PlacesIn (n : ℕ) (places : List ℕ) : Type 0 where
  pub long : n ≤ length places
  pub inside : (i : ℕ) → i < n → get_or places i 0 < n

pub place_inside : {n j r : ℕ} {places : List ℕ} → PlacesIn n places → r ≡ get_or places j 0 → j < n → r < n
place_inside {j = j} p e h = let b = p.inside j h in omega arith

-- the places as the list that was lent for them holds them
module _ (keys : List Float) {d l : List ℕ} (r : Filled 0 (from 0 (ranked_places keys) 0) (length keys) d l) (h : length keys ≤ length d) where
  pub place_is : (i : ℕ) → i < length keys → get_or l i 0 ≡ get_or (ranked_places keys) i 0
  place_is i b = filled_in {j = i} 0 r b (sym (zero-add i)) (omega arith) ∙ from_zero (ranked_places keys) 0 i

  places_are : take (length keys) l ≡ ranked_places keys
  places_are =
      let long = r.long in
      let n = length-take-le (length keys) l (omega arith) in
      ext_get_or 0 (take (length keys) l) (ranked_places keys) (n ∙ sym (length_places keys))
      (λ i b. get_or-take (length keys) l i 0 (omega arith) ∙ place_is i (omega arith))

  pub places_in : PlacesIn (length keys) l
  places_in = record {
    long = omega (arith, r.long);
    inside = λ i b.
        let e = place_is i b in
        let g = every_at (λ f. f < length keys) 0 (ranked_places keys) (every-place keys) i (omega (arith, length_places keys)) in
        omega arith;
  }

  -- read from the last place on, the keys rise
  pub rises : ((i : ℕ) → T (fits binary64 (get_or keys i nan))) → (i : ℕ) → i < length keys
      → get_or keys (get_or l (length keys - (i + 1)) 0) nan ≡ get_or (rising keys) i nan
  rises doubles i b = ap (λ (p : ℕ). get_or keys p nan) (place_is (length keys - (i + 1)) (omega arith)) ∙ sym (rising_at_lem keys doubles i b)

-- a list holds the places P at its front
pub record RankedIn (n : ℕ) (P places : List ℕ) : Type 0 where
  pub is : take n places ≡ P
  pub at : (i : ℕ) → i < n → get_or places i 0 ≡ get_or P i 0
  pub valid : PlacesIn n places

pub ranked_in : (n at s : ℕ) (work : List Float) {d l : List ℕ} → s ≡ n → at + n ≤ length work
    → Filled 0 (from 0 (ranked_places (take s (drop at work))) 0) (length (take s (drop at work))) d l → n ≤ length d
    → RankedIn n (ranked_places (take n (drop at work))) l
ranked_in n at s work {d} {l} e h r b =
    let K = take n (drop at work) in
    let long : length K ≡ n = length-take-le n (drop at work) (omega (arith, length-drop at work)) in
    let q : Filled 0 (from 0 (ranked_places K) 0) (length K) d l =
    subst (λ (x : ℕ). Filled 0 (from 0 (ranked_places (take x (drop at work))) 0) (length (take x (drop at work))) d l) e r in
    record {
      is = ap (λ (x : ℕ). take x l) (sym long) ∙ places_are K q (omega arith);
      at = λ i g. place_is K q (omega arith) i (omega arith);
      valid = subst (λ (x : ℕ). PlacesIn x l) long (places_in K q (omega arith));
    }
