-- Two ranked parts of a list merged element by element. Assumes nothing.
use Rattle.std.specs.Prelude.{◌≡◌, refl, Bool, true, false, ℕ, suc, ◌+◌, ◌≤◌, ◌<◌, length, get_or, drop}
use Rattle.std.proofs.Common.{sym, ◌∙◌, add-zero, add-one, arith, get_or-drop, drop-drop}
use Rattle.std.proofs.Math.Path.{ap}
use mathlib.Core.List.{List, [], ◌∷◌}
use Rattle.std.proofs.Math.Seq.{slice, slice_empty, slice-cons}
use Rattle.number.specs.Ranking.{merge, merge_first, merge_second, merge_none}

-- the next element of the merged parts i .. mid and j .. hi stands at index at, and the parts i' .. mid and j' .. hi are left
pub record Next (before : ℕ → ℕ → Bool) (src : List ℕ) (i mid j hi at i' j' : ℕ) : Type 0 where
  pub taken : merge before (slice i mid src) (slice j hi src) ≡ get_or src at 0 ∷ merge before (slice i' mid src) (slice j' hi src)
  pub one : i' + j' ≡ i + j + 1
  pub first : i' ≤ mid
  pub second : j' ≤ hi
  pub not_before : mid ≤ j'
  pub within : at < hi

module _ (before : ℕ → ℕ → Bool) (src : List ℕ) (i mid j hi : ℕ) (hs : hi ≤ length src) (hm : mid ≤ j) where
  pub first_of_both : i < mid → j < hi → before (get_or src j 0) (get_or src i 0) ≡ false → Next before src i mid j hi i (i + 1) j
  first_of_both h g e = record {
    taken =
        let p = slice-cons i mid src 0 h (omega arith) in
        let q = slice-cons j hi src 0 g hs in
        let m = merge_first before (get_or src i 0) (get_or src j 0) (slice (suc i) mid src) (slice (suc j) hi src) e in
        rw add-one cc;
    one = omega arith;
    first = omega arith;
    second = omega arith;
    not_before = hm;
    within = omega arith;
  }

  pub second_of_both : i < mid → j < hi → before (get_or src j 0) (get_or src i 0) ≡ true → Next before src i mid j hi j i (j + 1)
  second_of_both h g e = record {
    taken =
        let p = slice-cons i mid src 0 h (omega arith) in
        let q = slice-cons j hi src 0 g hs in
        let m = merge_second before (get_or src i 0) (get_or src j 0) (slice (suc i) mid src) (slice (suc j) hi src) e in
        rw add-one cc;
    one = omega arith;
    first = omega arith;
    second = omega arith;
    not_before = omega arith;
    within = g;
  }

  pub first_alone : i < mid → j ≡ hi → Next before src i mid j hi i (i + 1) j
  first_alone h g = record {
    taken =
        let p = slice-cons i mid src 0 h (omega arith) in
        let q : slice j hi src ≡ [] = ap (λ (k : ℕ). slice k hi src) g ∙ slice_empty hi src in
        let whole = merge_none before (slice i mid src) in
        let rest = merge_none before (slice (suc i) mid src) in
        rw add-one cc;
    one = omega arith;
    first = omega arith;
    second = omega arith;
    not_before = hm;
    within = omega arith;
  }

  pub second_alone : i ≡ mid → j < hi → Next before src i mid j hi j i (j + 1)
  unfolding merge
  second_alone h g = record {
    taken =
        let p : slice i mid src ≡ [] = ap (λ (k : ℕ). slice k mid src) h ∙ slice_empty mid src in
        let q = slice-cons j hi src 0 g hs in
        rw (p, add-one) q;
    one = omega arith;
    first = omega arith;
    second = omega arith;
    not_before = omega arith;
    within = g;
  }

-- the element at index n of a list whose rest from there on is known, and the rest after it
pub head_there : (m : List ℕ) (n : ℕ) {x : ℕ} {rest : List ℕ} → drop n m ≡ x ∷ rest → get_or m n 0 ≡ x
head_there m n {x} {rest} e =
    ap (λ (k : ℕ). get_or m k 0) (sym (add-zero n)) ∙ sym (get_or-drop n m 0 0) ∙ ap (λ (l : List ℕ). get_or l 0 0) e

pub tail_there : (m : List ℕ) (n : ℕ) {x : ℕ} {rest : List ℕ} → drop n m ≡ x ∷ rest → drop (n + 1) m ≡ rest
tail_there m n {x} {rest} e = sym (drop-drop 1 n m) ∙ ap (drop 1) e
