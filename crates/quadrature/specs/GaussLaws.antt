-- Laws of Gauss–Legendre quadrature: one for each way through Newton's method and through the checks, and how the passes over the lists join.
-- Assumes nothing.
use Rattle.std.specs.Prelude.{◌≡◌, Bool, true, false, List, ℕ, ◌+◌, ◌-◌, ◌≤◌, ◌<◌, length, get_or, Float, Err, Ok}
use Rattle.std.proofs.Math.Path.{refl, sym, ap}
use Rattle.std.proofs.Common.{subst, ◌∙◌, zero-add, arith}
use Rattle.std.proofs.Math.Bool.{cond}
use Rattle.std.specs.Float.{nan}
use borrow.Author.Tests.{lt-ltb, le-ltb, eq-eqb, ne_eqb}
use Rattle.refusal.specs.Numbers.{refuse}
use Rattle.refusal.specs.declared.Refusal.TheVariants.{Size, Length, Space}
use Rattle.storage.specs.Elements.{from}
use Rattle.storage.specs.Fill.{fill, fill_swap}
use Rattle.storage.specs.Filled.{Filled, filled, filled_to, filled_in, filled_before, filled_join, filled_again, filled_under, filled_same}
use Rattle.number.specs.Float64.{one64}
use Rattle.storage.specs.Iterate.{iterate, iterate_step, iterate_done, iterate_until, until_stop, until_step, until_done}
use Rattle.quadrature.specs.Gauss.{bonnet, bonnet_turn, polynomials_of, legendre, corrected, unless_settled, newton_step, is_settled, start}
use Rattle.quadrature.specs.Gauss.{legendre_root, guess_count, weight_of, upper_node, upper_weight, lower_node}
use Rattle.quadrature.specs.Gauss.{gauss_node, gauss_weight, gauss_check, mirror_from, lower_from}
use Rattle.quadrature.specs.declared.gauss.Polynomials.{Polynomials}
use Rattle.quadrature.specs.declared.gauss.Newton.{Newton}

-- ---- Bonnet's recursion
-- the turns from k on make of p0 and p1 what all make of 1 and z
pub record Recursion (n : ℕ) (z : Float) (k : ℕ) (p0 p1 : Float) : Type 0 where
  pub to_come : iterate (bonnet_turn z) k (n + 1) (polynomials_of p0 p1) ≡ legendre n z

pub recursion_start : (n : ℕ) (z : Float) → Recursion n z 2 one64 z
unfolding legendre
recursion_start n z = record { to_come = refl }

module _ {n k : ℕ} {z p0 p1 : Float} where
  pub recursion_turn : Recursion n z k p0 p1 → k ≤ n → Recursion n z (k + 1) p1 (bonnet k z p0 p1)
  unfolding bonnet_turn
  recursion_turn r h = record { to_come = sym (iterate_step (bonnet_turn z) k (n + 1) (polynomials_of p0 p1) (omega arith)) ∙ r.to_come }

  pub recursion_end : Recursion n z k p0 p1 → n < k → polynomials_of p0 p1 ≡ legendre n z
  recursion_end r h = sym (iterate_done (bonnet_turn z) k (n + 1) (polynomials_of p0 p1) (omega arith)) ∙ r.to_come

-- ---- Newton's method
-- after k corrections or fewer the state is s, and the corrections still to come reach the root
pub record Corrected (n : ℕ) (guess : Float) (k : ℕ) (s : Newton) : Type 0 where
  pub few : s.count ≤ k
  pub to_come : iterate_until is_settled (newton_step n) (100 - k) s ≡ legendre_root n guess

pub none_corrected : (n : ℕ) (guess : Float) {s : Newton} → s ≡ start guess → Corrected n guess 0 s
unfolding legendre_root
none_corrected n guess e = subst (Corrected n guess 0) (sym e) (record { few = omega arith; to_come = refl })

module _ {n k : ℕ} {guess : Float} {s : Newton} where
  -- one correction more
  pub one_corrected : {p : Polynomials} {r : Newton} → Corrected n guess k s → k < 100 → s.settled ≡ false → p ≡ legendre n s.z
      → r ≡ corrected n s p.p0 p.p1 → Corrected n guess (k + 1) r
  unfolding corrected newton_step
  one_corrected {p} {r} h b u e g =
      let count : r.count ≡ s.count + 1 = ap (λ (x : Newton). x.count) g in
      let step : r ≡ newton_step n s = g ∙ ap (λ (x : Polynomials). corrected n s x.p0 x.p1) e in
      record {
        few = omega arith;
        to_come = ap (iterate_until is_settled (newton_step n) (100 - (k + 1))) step ∙ sym (until_step is_settled (newton_step n) k 100 s b u) ∙ h.to_come;
      }

  one_stays : Corrected n guess k s → s.settled ≡ true → Corrected n guess (k + 1) s
  one_stays h u = record {
    few = omega arith;
    to_come = until_stop is_settled (newton_step n) (100 - (k + 1)) s u ∙ sym (until_stop is_settled (newton_step n) (100 - k) s u) ∙ h.to_come;
  }

  -- one correction more of those beside it
  pub all_corrected : {p : Polynomials} {r : Newton} → Corrected n guess k s → k < 100 → p ≡ legendre n s.z
      → r ≡ unless_settled n s p.p0 p.p1 → Corrected n guess (k + 1) r
  unfolding unless_settled
  all_corrected {p} {r} h b e g = by s.settled refl
    where
      known : {settled : Bool} → s.settled ≡ settled → r ≡ cond settled s (corrected n s p.p0 p.p1)
      known u = g ∙ ap (λ (x : Bool). cond x s (corrected n s p.p0 p.p1)) u

      by : (settled : Bool) → s.settled ≡ settled → Corrected n guess (k + 1) r
      by true u = subst (Corrected n guess (k + 1)) (sym (known u)) (one_stays h u)
      by false u = one_corrected h b u e (known u)

  -- the last correction was small, or there were 100
  pub root_settled : Corrected n guess k s → s.settled ≡ true → s ≡ legendre_root n guess
  root_settled h u = sym (until_stop is_settled (newton_step n) (100 - k) s u) ∙ h.to_come

  pub root_last : Corrected n guess k s → 100 ≤ k → s ≡ legendre_root n guess
  root_last h b = sym (until_done is_settled (newton_step n) k 100 s b) ∙ h.to_come

-- ---- the passes over the lists
module _ (guesses : ℕ → Float) (n j : ℕ) where
  node_lower : j < guess_count n → gauss_node guesses n j ≡ lower_node n j (upper_node guesses n j)
  unfolding gauss_node
  node_lower h = rw (lt-ltb j (guess_count n) h) refl

  node_upper : guess_count n ≤ j → gauss_node guesses n j ≡ upper_node guesses n (n - 1 - j)
  unfolding gauss_node
  node_upper h = rw (le-ltb j (guess_count n) h) refl

  weight_lower : j < guess_count n → gauss_weight guesses n j ≡ upper_weight guesses n j
  unfolding gauss_weight
  weight_lower h = rw (lt-ltb j (guess_count n) h) refl

  weight_upper : guess_count n ≤ j → gauss_weight guesses n j ≡ upper_weight guesses n (n - 1 - j)
  unfolding gauss_weight
  weight_upper h = rw (le-ltb j (guess_count n) h) refl

-- a, b, c, d stored from index at on, as the values of any function that has them
pub record FourStored (at : ℕ) (a b c d : Float) (old new : List Float) : Type 0 where
  pub filled_by : (F : ℕ → Float) → a ≡ F 0 → b ≡ F 1 → c ≡ F 2 → d ≡ F 3 → Filled at F 4 old new
  pub long : length new ≡ length old

-- a root from guess i, where the guesses stand from index at on, and its weight
module _ (g : List Float) (at n i : ℕ) {j : ℕ} {s : Newton} where
  pub root_node : j ≡ at + i → s ≡ legendre_root n (get_or g j nan) → s.z ≡ upper_node (from at g nan) n i
  unfolding upper_node from
  root_node p e = ap (λ (x : Newton). x.z) e ∙ ap (λ (k : ℕ). (legendre_root n (get_or g k nan)).z) p

  pub root_weight : j ≡ at + i → s ≡ legendre_root n (get_or g j nan) → weight_of s.z s.dp ≡ upper_weight (from at g nan) n i
  unfolding upper_weight from
  root_weight p e =
      ap (λ (x : Newton). weight_of x.z x.dp) e ∙ ap (λ (k : ℕ). weight_of (legendre_root n (get_or g k nan)).z (legendre_root n (get_or g k nan)).dp) p

-- the guesses from index at on, counted from there or from the front
module _ (g : List Float) (at n i : ℕ) where
  pub node_from : upper_node (from 0 g nan) n (at + i) ≡ upper_node (from at g nan) n i
  unfolding upper_node from
  node_from = ap (λ (k : ℕ). (legendre_root n (get_or g k nan)).z) (zero-add (at + i))

  pub weight_from : upper_weight (from 0 g nan) n (at + i) ≡ upper_weight (from at g nan) n i
  unfolding upper_weight from
  weight_from = ap (λ (k : ℕ). weight_of (legendre_root n (get_or g k nan)).z (legendre_root n (get_or g k nan)).dp) (zero-add (at + i))

-- what the mirror pass writes, where the front holds the values of F
mirror_of : {F : ℕ → Float} {n half : ℕ} {d l : List Float} → Filled 0 F half d l → n ≤ half + half → n ≤ length d
    → (i : ℕ) → i < n - half → mirror_from n half l i ≡ F (n - 1 - (half + i))
unfolding mirror_from
mirror_of r h b i u = filled_in nan r (omega arith) (omega arith) (omega arith)

-- the weights of the upper half, and their mirror image
pub weights_made : (guesses : ℕ → Float) {n half : ℕ} {d l l' : List Float} → half ≡ guess_count n → n ≤ length d
    → Filled 0 (upper_weight guesses n) half d l → Filled half (mirror_from n half l) (n - half) l l' → l' ≡ fill 0 (gauss_weight guesses n) n d
weights_made guesses {n} {half} e b r m =
    let front = filled_same (gauss_weight guesses n) r (λ i h. sym (weight_lower guesses n i (omega arith))) in
    let back : (i : ℕ) → i < n - half → gauss_weight guesses n (half + i) ≡ mirror_from n half _ i
    = λ i h. weight_upper guesses n (half + i) (omega arith) ∙ sym (mirror_of r (omega arith) b i h) in
    (filled_to {j = n} (filled_join front m (omega arith) back) (omega arith)).is

-- the roots, their mirror image, and then the lower half negated
pub nodes_made : (guesses : ℕ → Float) {n half : ℕ} {d l l' l'' : List Float} → half ≡ guess_count n → n ≤ length d
    → Filled 0 (upper_node guesses n) half d l → Filled half (mirror_from n half l) (n - half) l l' → Filled 0 (lower_from n l') half l' l''
    → l'' ≡ fill 0 (gauss_node guesses n) n d
unfolding lower_from
nodes_made guesses {n} {half} {d} {l} {l'} e b r m s =
    let under = filled_under r m (omega arith) in
    let same : (i : ℕ) → i < half → lower_from n l' i ≡ gauss_node guesses n i
    = λ i h. ap (lower_node n i) (filled_before i nan m h ∙ filled_in nan r h (omega arith) (omega arith)) ∙ sym (node_lower guesses n i (omega arith)) in
    let front = filled_again under (filled_same (gauss_node guesses n) s same) (omega arith) in
    let back : (i : ℕ) → i < n - half → gauss_node guesses n (half + i) ≡ mirror_from n half l i
    = λ i h. node_upper guesses n (half + i) (omega arith) ∙ sym (mirror_of r (omega arith) b i h) in
    front.is
    ∙ sym (fill_swap 0 half (gauss_node guesses n) (mirror_from n half l) half (n - half) d (omega arith))
    ∙ (filled_to {j = n} (filled_join (filled 0 (gauss_node guesses n) half d refl) (filled half (mirror_from n half l) (n - half) _ refl) (omega arith) back)
    (omega arith)).is

-- ---- one law for each way through the checks
module _ (n guesses x w : ℕ) where
  pub gauss_size : 2701 < n → Err Size ≡ gauss_check n guesses x w
  unfolding gauss_check refuse
  gauss_size h = simp (lt-ltb 2701 n h)

  pub gauss_length : n ≤ 2701 → (guesses ≡ guess_count n → ⊥) → Err Length ≡ gauss_check n guesses x w
  unfolding gauss_check refuse
  gauss_length h g = simp (le-ltb 2701 n h, ne_eqb guesses (guess_count n) g)

  pub gauss_nodes : n ≤ 2701 → guesses ≡ guess_count n → x < n → Err Space ≡ gauss_check n guesses x w
  unfolding gauss_check refuse
  gauss_nodes h g a = simp (le-ltb 2701 n h, eq-eqb guesses (guess_count n) g, lt-ltb x n a)

  pub gauss_weights : n ≤ 2701 → guesses ≡ guess_count n → n ≤ x → w < n → Err Space ≡ gauss_check n guesses x w
  unfolding gauss_check refuse
  gauss_weights h g a b = simp (le-ltb 2701 n h, eq-eqb guesses (guess_count n) g, le-ltb x n a, lt-ltb w n b)

  pub gauss_done : n ≤ 2701 → guesses ≡ guess_count n → n ≤ x → n ≤ w → Ok tt ≡ gauss_check n guesses x w
  unfolding gauss_check refuse
  gauss_done h g a b = simp (le-ltb 2701 n h, eq-eqb guesses (guess_count n) g, le-ltb x n a, le-ltb w n b)
