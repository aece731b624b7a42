-- The date of a head: its bytes and back, by its kind. Assumes nothing.
use Rattle.std.specs.Prelude.{◌≡◌, refl, Bool, true, false, cond, ◌||◌, ℤ, ℕ, ◌+◌, ◌≤◌, List, ◌++◌, length, get_or, take, drop, eqb, None, Option, Some}
use Rattle.std.proofs.Common.{sym, ap, ◌∙◌, arith, SFits, eq-eqb, ne_eqb, eqb-true}
use Rattle.std.specs.Int.{w32}
use Rattle.days.specs.Days.{pattern_of, days_of, days_back, pattern_back, pattern_fits, days_fit}
use Rattle.coefficients.specs.Model.{date_of}
use Rattle.model_file.specs.LittleEndian.{bytes_of, number_at, length_bytes, number_front, number_fits, Below, here_rest, number_here, bytes_here}
use Rattle.model_file.specs.Format.{is_head, head_kind, head_size, date_bytes, date_by, date_at}

-- a date as code can hold one: any count of 32 bits
abbrev pub DateFits : Option ℤ → Type 0
DateFits None = Unit {0}
DateFits (Some d) = SFits w32 d

pub size_least : (d : Option ℤ) → 20 ≤ head_size d
size_least None = omega arith
size_least (Some d) = omega arith

pub size_most : (d : Option ℤ) → head_size d ≤ 24
size_most None = omega arith
size_most (Some d) = omega arith

pub size_within : {r : ℕ} (d : Option ℤ) → r ≡ head_size d → r ≤ 24
size_within d e = omega (arith, e, size_most d)

pub length_date : (d : Option ℤ) → 20 + length (date_bytes d) ≡ head_size d
length_date None = refl
length_date (Some d) = ap (λ (n : ℕ). 20 + n) (length_bytes 4 (pattern_of d))

-- the kind of a head says whether it has a date
pub kind_head : (d : Option ℤ) → is_head (head_kind d) ≡ true
kind_head None = refl
kind_head (Some d) = refl

kind_by : (b : Bool) (k : ℕ) (s : List ℕ) → eqb k 4 ≡ b → (eqb k 1 || b) ≡ true → k ≡ head_kind (date_by b s)
kind_by true k s e h = eqb-true k 4 e
kind_by false k s e h = eqb-true k 1 (or_false (eqb k 1) h)
  where
    or_false : (a : Bool) → (a || false) ≡ true → a ≡ true
    or_false true p = refl
    or_false false p = p

pub kind_back : (s : List ℕ) → is_head (get_or s 0 0) ≡ true → get_or s 0 0 ≡ head_kind (date_at s)
kind_back s h = kind_by (eqb (get_or s 0 0) 4) (get_or s 0 0) s refl h

-- by the kind that the code reads
module _ (s : List ℕ) where
  pub date_stated : get_or s 0 0 ≡ 4 → date_at s ≡ Some (days_of (number_at 4 s 20))
  date_stated e = ap (λ (b : Bool). date_by b s) (eq-eqb (get_or s 0 0) 4 e)

  pub date_absent : (get_or s 0 0 ≡ 4 → ⊥) → date_at s ≡ None
  date_absent e = ap (λ (b : Bool). date_by b s) (ne_eqb (get_or s 0 0) 4 e)

-- how long a head is, by its kind alone
size_by : (b : Bool) (s t : List ℕ) → head_size (date_by b s) ≡ head_size (date_by b t)
size_by true s t = refl
size_by false s t = refl

pub size_of_kind : (s t : List ℕ) → get_or s 0 0 ≡ get_or t 0 0 → head_size (date_at s) ≡ head_size (date_at t)
size_of_kind s t e = ap (λ (k : ℕ). head_size (date_by (eqb k 4) s)) e ∙ size_by (eqb (get_or t 0 0) 4) s t

any_day : (b : Bool) (d e : ℤ) → head_size (cond b None (Some d)) ≡ head_size (cond b None (Some e))
any_day true d e = refl
any_day false d e = refl

pub size_of_any_day : (dated : ℕ) (d e : ℤ) → head_size (date_of dated d) ≡ head_size (date_of dated e)
size_of_any_day dated d e = any_day (eqb dated 0) d e

-- it stands in the head's own bytes
pub date_front : (b : Bool) (K : ℕ) (s : List ℕ) → head_size (date_by b s) ≤ K → date_by b (take K s) ≡ date_by b s
date_front true K s h = ap (λ (p : ℕ). Some (days_of p)) (number_front 4 K s 20 h)
date_front false K s h = refl

-- every pattern of its bytes is a date
fits_by : (b : Bool) (s : List ℕ) → Below 256 s → DateFits (date_by b s)
fits_by true s fit = days_fit (number_at 4 s 20) (number_fits 4 s 20 fit)
fits_by false s fit = tt

pub date_fits_at : (s : List ℕ) → Below 256 s → DateFits (date_at s)
date_fits_at s fit = fits_by (eqb (get_or s 0 0) 4) s fit

-- ---- from a date to its bytes and back
-- the date that a head of this kind has where the date's bytes stand behind N, and what stands behind them
pub record DateThen (s : List ℕ) (d : Option ℤ) (rest : List ℕ) : Type 0 where
  pub is : date_at s ≡ d
  pub behind : drop (head_size d) s ≡ rest

pub date_here : (d : Option ℤ) (s rest : List ℕ) → DateFits d → get_or s 0 0 ≡ head_kind d → drop 20 s ≡ date_bytes d ++ rest → DateThen s d rest
date_here None s rest f k p = record { is = ap (λ (b : Bool). date_by b s) (ap (λ (n : ℕ). eqb n 4) k); behind = p }
date_here (Some d) s rest f k p =
    let e = number_here 4 s 20 (pattern_of d) rest (pattern_fits d f) p in
    record {
      is = ap (λ (b : Bool). date_by b s) (ap (λ (n : ℕ). eqb n 4) k) ∙ ap (λ (n : ℕ). Some (days_of n)) e ∙ ap Some (days_back d f);
      behind = here_rest s 20 4 (bytes_of 4 (pattern_of d)) rest (length_bytes 4 (pattern_of d)) p;
    }

back_by : (b : Bool) (s : List ℕ) → Below 256 s → head_size (date_by b s) ≤ length s
    → drop 20 s ≡ date_bytes (date_by b s) ++ drop (head_size (date_by b s)) s
back_by true s fit h = bytes_here 4 s 20 fit h ∙ ap (λ (n : ℕ). bytes_of 4 n ++ drop 24 s) (sym (pattern_back (number_at 4 s 20) (number_fits 4 s 20 fit)))
back_by false s fit h = refl

pub date_back : (s : List ℕ) → Below 256 s → head_size (date_at s) ≤ length s → drop 20 s ≡ date_bytes (date_at s) ++ drop (head_size (date_at s)) s
date_back s fit h = back_by (eqb (get_or s 0 0) 4) s fit h
