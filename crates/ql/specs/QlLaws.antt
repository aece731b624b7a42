-- What the lists of the code hold, and one law for each step of its functions. Assumes nothing.
use Rattle.std.specs.Prelude.{◌≡◌, Bool, true, false, cond, ◌&&◌, List, ℕ, ◌+◌, ◌-◌, ◌*◌, ◌≤◌, ◌<◌, eqb, length, set, Float, None, Option, Some}
use Rattle.std.proofs.Math.Path.{refl, ap}
use Rattle.std.proofs.Common.{sym, ◌∙◌, eq-eqb, ne_eqb}
use native.Mathlib.Omega.{arith}
use Rattle.std.proofs.Math.ListN.{length-set}
use Rattle.std.specs.Float.Ieee.{eq}
use Rattle.number.specs.Float64.{◌⊕◌, ◌⊖◌, ◌⊗◌, zero64}
use Rattle.number.specs.Hypot.{hypot_of}
use Rattle.storage.specs.Iterate.{iterate_until, until_stop, until_step, until_done}
use Rattle.matrix.specs.Layout.{transposed, Kept, Room, RowsRotated, kept_none, kept_then}
use Rattle.ql.specs.declared.Rotation.{Rotation}
use Rattle.ql.specs.Ql.{Tridiagonal, tridiagonal, at, block_end, ratio, shifted, start, next, Chase, chase, rotated, rotate_by, rotate_sized, rotate_at}
use Rattle.ql.specs.Ql.{rotations, closed, round, State, state, end_in, round_unless_alone, settled_in, rounds, and_before, rounds_at}

-- where a block ends, and that this is inside
pub record BlockEnd (n l : ℕ) (d e : List Float) (m : ℕ) : Type 0 where
  pub is : m ≡ block_end n l d e
  pub low : l ≤ m
  pub high : m < n

-- d and e have n numbers, and q has room for its matrix
pub record Lists (n : ℕ) (d e q : List Float) : Type 0 where
  pub of_d : length d ≡ n
  pub of_e : length e ≡ n
  pub of_q : Room n q

-- the matrix that the three lists hold, q column by column
abbrev pub held : ℕ → List Float → List Float → List Float → Tridiagonal
held n d e q = tridiagonal d e (transposed n q)

-- the lists hold what they should, and q, which was q₀, is as it was past its matrix
pub record Kept₃ (n : ℕ) (q₀ d e q : List Float) : Type 0 where
  pub of_d : length d ≡ n
  pub of_e : length e ≡ n
  pub of_q : Kept (n * n) q₀ q

pub record Became (n : ℕ) (c : Chase) (q₀ d e q : List Float) (x : Option Rotation) : Type 0 where
  pub is : chase (held n d e q) x ≡ c
  pub kept : Kept₃ n q₀ d e q

pub record Rounded (n : ℕ) (t : Tridiagonal) (q₀ d e q : List Float) : Type 0 where
  pub is : held n d e q ≡ t
  pub kept : Kept₃ n q₀ d e q

pub record Counted (n : ℕ) (s : State) (q₀ d e q : List Float) (k : ℕ) (met : Bool) : Type 0 where
  pub is : state (held n d e q) k met ≡ s
  pub kept : Kept₃ n q₀ d e q

-- d and e after the close of a round with the last rotation x
pub record Closed (l m : ℕ) (x : Option Rotation) (d₀ e₀ d e : List Float) : Type 0 where
  pub is : (q : List Float) → tridiagonal d e q ≡ closed l m (chase (tridiagonal d₀ e₀ q) x)
  pub of_d : length d ≡ length d₀
  pub of_e : length e ≡ length e₀

-- ---- one rotation
module _ (n m i : ℕ) (r f b : Float) (d e q : List Float) (x : Rotation) (a : Lists n d e q) where
  abbrev begun : Chase
  begun = rotate_by n m i r f b (held n d e q) x

  pub breaks : eq r zero64 ≡ true → Became n begun q (set d (i + 1) (at d (i + 1) ⊖ x.p)) (set e m zero64) q None
  unfolding rotate_by
  breaks h = record {
    is = rw h refl;
    kept = record { of_d = length-set d _ _ ∙ a.of_d; of_e = length-set e _ _ ∙ a.of_e; of_q = kept_none };
  }

  pub turns : {y : Rotation} {q' : List Float} → eq r zero64 ≡ false → y ≡ next x (at d i) (at d (i + 1)) f b r → RowsRotated y.c y.s n i (i + 1) q q'
      → Became n begun q (set d (i + 1) (at d (i + 1) ⊖ x.p ⊕ y.p)) e q' (Some y)
  unfolding rotate_by rotated
  turns h g k = record {
    is = rw (h, ← g, k.columns) refl;
    kept = record { of_d = length-set d _ _ ∙ a.of_d; of_e = a.of_e; of_q = k.kept };
  }

-- the size is stored before
pub sized_lists : {n : ℕ} {d e q : List Float} (i : ℕ) (r : Float) → Lists n d e q → Lists n d (set e i r) q
sized_lists {n} {d} {e} i r a = record { of_d = a.of_d; of_e = length-set e i r ∙ a.of_e; of_q = a.of_q }

module _ (n m i : ℕ) (r f b : Float) (d e q : List Float) (x : Rotation) where
  pub sized : {d' e' q' : List Float} {y : Option Rotation} → f ≡ x.s ⊗ at e i → b ≡ x.c ⊗ at e i → r ≡ hypot_of f x.g
      → Became n (rotate_by n m i r f b (held n d (set e (i + 1) r) q) x) q d' e' q' y → Became n (rotate_at n m i (chase (held n d e q) (Some x))) q d' e' q' y
  unfolding rotate_at rotate_sized
  sized g h k z = record { is = rw (← g, ← h, ← k) z.is; kept = z.kept }

-- ---- one round
module _ (l m : ℕ) (d e : List Float) where
  pub closed-broken : Closed l m None d e d e
  unfolding closed
  closed-broken = record { is = λ q. refl; of_d = refl; of_e = refl }

  pub closed_whole : (x : Rotation) → Closed l m (Some x) d e (set d l (at d l ⊖ x.p)) (set (set e l x.g) m zero64)
  unfolding closed
  closed_whole x = record { is = λ q. refl; of_d = length-set d _ _; of_e = length-set (set e l x.g) _ _ ∙ length-set e _ _ }

pub round_is : (n l m : ℕ) (d e q d' e' q' d'' e'' : List Float) {g h : Float} {x : Rotation} {y : Option Rotation} → h ≡ ratio l d e → g ≡ shifted l m h d e → x ≡ start g
    → chase (tridiagonal d' e' q') y ≡ rotations n l m (chase (tridiagonal d e q) (Some x)) → Closed l m y d' e' d'' e''
    → tridiagonal d'' e'' q' ≡ round n l m (tridiagonal d e q)
unfolding round
round_is n l m d e q d' e' q' d'' e'' eh eg ex ey ec = ec.is q' ∙ ap (closed l m) ey ∙ rw (ex, eg, eh) refl

-- ---- the rounds for l: k of them are done, and the stopping test was not met so far
module _ (n l done k m : ℕ) (d e q : List Float) (end : m ≡ block_end n l d e) where
  abbrev now : Tridiagonal
  now = tridiagonal d e q

  abbrev rest : ℕ → State → State
  rest j s = iterate_until settled_in (round_unless_alone n l) (100 - j) s

  one_turn : k < 100 → rest k (state now (done + k) false) ≡ rest (k + 1) (round_unless_alone n l (state now (done + k) false))
  unfolding settled_in
  one_turn h = until_step settled_in (round_unless_alone n l) k 100 (state now (done + k) false) h refl

  pub rounds_settled : k < 100 → m ≡ l → rest k (state now (done + k) false) ≡ state now (done + k) true
  unfolding round_unless_alone settled_in end_in
  rounds_settled h g =
      one_turn h
      ∙ ap (λ (b : Bool). rest (k + 1) (cond b (state now (done + k) true) (state (round n l (block_end n l d e) now) (done + k + 1) false)))
      (eq-eqb (block_end n l d e) l (sym end ∙ g))
      ∙ until_stop settled_in (round_unless_alone n l) (100 - (k + 1)) (state now (done + k) true) refl

  pub rounds_more : {t : Tridiagonal} → k < 100 → (m ≡ l → ⊥) → t ≡ round n l m now
      → rest k (state now (done + k) false) ≡ rest (k + 1) (state t (done + (k + 1)) false)
  unfolding round_unless_alone settled_in end_in
  rounds_more {t} h g r =
      let w : done + k + 1 ≡ done + (k + 1) = omega arith in
      one_turn h
      ∙ ap (λ (b : Bool). rest (k + 1) (cond b (state now (done + k) true) (state (round n l (block_end n l d e) now) (done + k + 1) false)))
      (ne_eqb (block_end n l d e) l (λ z. g (end ∙ z)))
      ∙ rw (← end, ← r, w) refl

pub rounds-left : (n l done k : ℕ) (t : Tridiagonal) → 100 ≤ k
    → iterate_until settled_in (round_unless_alone n l) (100 - k) (state t (done + k) false) ≡ state t (done + k) false
rounds-left n l done k t h = until_done settled_in (round_unless_alone n l) k 100 (state t (done + k) false) h

-- ---- all l
pub rounds_at_lem : (n l k : ℕ) (before : Bool) (t : Tridiagonal) {t' : Tridiagonal} {k' : ℕ} {met all : Bool} → state t' k' met ≡ rounds n l t k
    → all ≡ before && met → state t' k' all ≡ rounds_at n l (state t k before)
unfolding rounds_at
rounds_at_lem n l k before t e h = rw h (ap (and_before before) e)

-- ---- lists that are written keep their lengths
module _ {n : ℕ} {q₀ d e q : List Float} (k : Kept₃ n q₀ d e q) where
  pub lists_kept : {d₀ e₀ : List Float} → Lists n d₀ e₀ q₀ → Lists n d e q
  lists_kept a = record {
    of_d = k.of_d;
    of_e = k.of_e;
    of_q = record { small = a.of_q.small; long = omega (arith, a.of_q.long, k.of_q.long) };
  }

  pub all_kept : {d' e' q' : List Float} → Kept₃ n q d' e' q' → Kept₃ n q₀ d' e' q'
  all_kept h = record { of_d = h.of_d; of_e = h.of_e; of_q = kept_then k.of_q h.of_q }
