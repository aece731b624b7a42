-- The entries for derivatives at points: one point as a list of one, and numbers that go to a list. Assumes nothing.
use Rattle.std.specs.Prelude.{◌≡◌, refl, Bool, true, false, not, List, [], ◌∷◌, ℕ, ◌+◌, ◌*◌, ◌≤◌, ◌<◌, ltb, eqb, Float, Err, Ok, Result, ⊤}
use Rattle.std.proofs.Math.Path.{sym}
use Rattle.std.proofs.Common.{ap, ◌∙◌, arith, lt-ltb, le-ltb}
use Rattle.refusal.specs.Numbers.{refuse, refuse_yes, refuse_no, ◌and_then◌}
use Rattle.refusal.specs.declared.Refusal.TheVariants.{Length, Space}
use Rattle.storage.specs.Checks.{tables_check}
use Rattle.storage.specs.Fill.{fill, fill_same}
use Rattle.storage.specs.Triangle.{table_size}
use Rattle.storage.specs.Rectangle.{by_rows, by_row}
use Rattle.legendre.specs.Directions.{row_sine, row_cosine}
use Rattle.local.specs.declared.Partials.{Partials}
use Rattle.local.specs.Point.{point_at, component, along_cell, point_check_of, along_check_of}
use Rattle.refusal.specs.declared.Refusal.{Refusal}

-- SPACE for so many numbers
unfoldable pub out_check : (numbers out : ℕ) → Result ⊤ Refusal
out_check numbers out = refuse (ltb out numbers) Space (Ok tt)

-- the checks of one point that may use k tables of the working list, and SPACE for its numbers
unfoldable pub numbers_check : (k numbers nmax clen slen trig work out : ℕ) → Result ⊤ Refusal
numbers_check k numbers nmax clen slen trig work out = point_check_of k nmax clen slen trig work and_then out_check numbers out

-- four, for the first derivatives
abbrev pub point_check : (nmax clen slen trig work out : ℕ) → Result ⊤ Refusal
point_check = numbers_check 4 4

-- three, for a vector
abbrev pub three_check : ℕ → Result ⊤ Refusal
three_check = out_check 3

abbrev pub four : Float → Float → Float → Float → Partials
four v dr dlat dlon = record { v = v; dr = dr; dlat = dlat; dlon = dlon }

-- ---- one point is a list of one
last_space : (t : Result ⊤ Refusal) (a b c : Bool) → t and_then refuse {A = ⊤} a Length (refuse b Space (refuse c Space (Ok tt)))
    ≡ (t and_then refuse {A = ⊤} a Length (refuse b Space (Ok tt))) and_then refuse {A = ⊤} c Space (Ok tt)
unfolding refuse
last_space (Err e) a b c = refl
last_space (Ok _) true b c = refl
last_space (Ok _) false true c = refl
last_space (Ok _) false false c = refl

pub one_check : (k numbers nmax clen slen trig work out : ℕ)
    → along_check_of k numbers nmax clen slen 1 1 2 trig work out ≡ numbers_check k numbers nmax clen slen trig work out
unfolding along_check_of numbers_check point_check_of out_check refuse
one_check k numbers nmax clen slen trig work out =
    let e : 1 * (nmax + nmax + 2) ≡ nmax + nmax + 2 = omega arith in
    let f : numbers * 1 ≡ numbers = omega arith in
    rw (e, f) (last_space (tables_check nmax clen slen) (not (eqb trig (nmax + nmax + 2))) (ltb work (k * table_size nmax)) (ltb out numbers))

pub one_row : (F : ℕ → ℕ → Float) (numbers : ℕ) (out : List Float) → fill 0 (by_rows F numbers) (1 * numbers) out ≡ fill 0 (F 0) numbers out
one_row F numbers out =
    let f : 1 * numbers ≡ numbers = omega arith in
    rw f
    (fill_same 0 (by_rows F numbers) (F 0) numbers out
    (λ j h. let e : j ≡ 0 * numbers + j = omega arith in ap (by_rows F numbers) e ∙ by_row F numbers 0 j h))

module _ (gm radius : Float) (N : ℕ) (c s trig : List Float) (r t u : Float) where
  pub one_point : (out : List Float) → fill 0 (by_rows (along_cell gm radius N c s trig (r ∷ []) (t ∷ u ∷ [])) 4) (1 * 4) out
      ≡ fill 0 (component (point_at gm radius N c s trig 0 r t u)) 4 out
  unfolding along_cell row_sine row_cosine
  one_point = one_row (along_cell gm radius N c s trig (r ∷ []) (t ∷ u ∷ [])) 4

-- ---- so many numbers
module _ (numbers out : ℕ) where
  pub out_short : out < numbers → Err Space ≡ out_check numbers out
  unfolding out_check
  out_short h = sym (refuse_yes Space (Ok tt) (lt-ltb out numbers h))

  pub out_done : numbers ≤ out → Ok tt ≡ out_check numbers out
  unfolding out_check
  out_done h = sym (refuse_no Space (Ok tt) (le-ltb out numbers h))
