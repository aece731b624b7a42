-- Parts of lists that were stored or filled, and parts that are lent. Assumes nothing.
use mathlib.Core.Path.{◌≡◌, sym, ap, ◌∙◌}
use Prim.Native.Nat.{ℕ, ◌≤◌, ◌<◌}
use native.Mathlib.Nat.{zero-add}
use native.Mathlib.Omega.{arith}
use mathlib.Core.List.{List, ◌++◌}
use lib.ListN.{length, get_or, take, drop}
use lib.Seq.{take-append_seam, length-take-le}
use Rattle.storage.specs.Elements.{from}
use Rattle.storage.specs.Fill.{fill, fill_same}
use Rattle.storage.specs.Store.{store, length-store, store_front, fill_front}
use Rattle.storage.specs.Tabulate.{tabulate, length-tabulate, get_d_tabulate}

module _ {A : Type 0} (vs : List A) where
  -- the part of a list that a list was stored in
  pub take-stored : (d : List A) (t : ℕ) → length vs ≡ t → t ≤ length d → take t (store 0 vs d) ≡ vs
  take-stored d t e h =
      ap (λ (l : List A). take t l) (store_front vs d (omega arith))
      ∙ ap (λ (k : ℕ). take k (vs ++ drop (length vs) d)) (sym e)
      ∙ take-append_seam vs (drop (length vs) d)

value_at_lem : {A : Type 0} (F : ℕ → A) (k i : ℕ) (z : A) → i < k → from 0 (tabulate F 0 k) z i ≡ F i
unfolding from
value_at_lem F k i z l = ap (λ (j : ℕ). get_or (tabulate F 0 k) j z) (zero-add i) ∙ get_d_tabulate F 0 k i z (omega arith) ∙ ap F (zero-add i)

-- the part of a list that the values of a function were stored in
pub take_filled : {A : Type 0} (F : ℕ → A) (k : ℕ) (d : List A) (z : A) → k ≤ length d → take k (fill 0 F k d) ≡ tabulate F 0 k
take_filled {A} F k d z h =
    let vs : List A = tabulate F 0 k in
    let n : length vs ≡ k = length-tabulate F 0 k ∙ omega arith in
    let same : fill 0 F k d ≡ fill 0 (from 0 vs z) k d = fill_same 0 F (from 0 vs z) k d (λ i l. sym (value_at_lem F k i z l)) in
    let front : fill 0 (from 0 vs z) k d ≡ vs ++ drop (length vs) d =
    ap (λ (j : ℕ). fill 0 (from 0 vs z) j d) (sym n) ∙ fill_front vs d z (omega arith) in
    ap (λ (l : List A). take k l) (same ∙ front) ∙ ap (λ (j : ℕ). take j (vs ++ drop (length vs) d)) (sym n) ∙ take-append_seam vs (drop (length vs) d)

-- the first t elements of l, in the two forms that a lender of `&l[..t]` asks for
pub record Lent {A : Type 0} (t : ℕ) (l : List A) : Type 0 where
  pub within : t ≤ length l
  pub is : t ≡ length (take t l)

pub lent : {A : Type 0} (l : List A) (n t : ℕ) → length l ≡ n → t ≤ n → Lent t l
lent l n t e h = let w : t ≤ length l = omega arith in record { within = w; is = sym (length-take-le t l w) }

pub lent_stored : {A : Type 0} (vs l₀ l : List A) (t : ℕ) → l ≡ store 0 vs l₀ → t ≤ length l₀ → Lent t l
lent_stored vs l₀ l t e h = lent l (length l₀) t (ap length e ∙ length-store 0 vs l₀) h
