-- The working list of a call: the three tables and the sectoral numbers at its front, behind them the powers of u of the point at hand.
-- Assumes nothing.
use Rattle.std.specs.Prelude.{◌≡◌, refl, List, ℕ, ◌+◌, ◌≤◌, ◌<◌, length, get_or, take, drop, Float}
use Rattle.std.proofs.Common.{ap, ◌∙◌, zero-add, arith, get_or-take, get_or-drop}
use Rattle.std.specs.Float.{nan}
use Rattle.storage.specs.Fill.{drop-fill}
use Rattle.storage.specs.Filled.{Filled, filled_standing, filled_in, filled_before}
use Rattle.storage.specs.Triangle.{table_size, row_within}
use Rattle.recursion.specs.Recursion.{pmm, rescale}
use Rattle.recursion.specs.Tables.{second_table}
use Rattle.local.specs.Second.{second_size}
use Rattle.point_lists.specs.Tables.{TablesFirst, first_kept}

-- where the sectoral numbers start, and the powers of u
abbrev pub sectorals_at : ℕ → ℕ
sectorals_at N = table_size N + table_size N + table_size N

abbrev pub powers_at : ℕ → ℕ
powers_at N = sectorals_at N + (N + 1)

-- the tables and the sectoral numbers are in place
pub record Prepared (N : ℕ) (l : List Float) : Type 0 where
  pub first : TablesFirst N l
  pub sectorals : (m : ℕ) → m ≤ N → get_or l (sectorals_at N + m) nan ≡ pmm m

-- the powers end within the part that a call may use
pub powers_within : (N : ℕ) → N ≤ 2700 → powers_at N + (N + 1) ≤ second_size N
powers_within N h = omega (arith, row_within N N (omega arith) h)

module _ {N : ℕ} {l l' : List Float} where
  -- the sectoral numbers are filled in behind the tables
  pub prepared : TablesFirst N l → Filled (sectorals_at N) pmm (N + 1) l l' → sectorals_at N + (N + 1) ≤ length l → Prepared N l'
  prepared first r room = record {
    first = first_kept first r (omega arith);
    sectorals = λ m h. filled_in {j = m} nan r (omega arith) refl (omega arith);
  }

  pub sectorals_rest : Filled (sectorals_at N) pmm (N + 1) l l' → N ≤ 2700 → drop (second_size N) l' ≡ drop (second_size N) l
  sectorals_rest r h =
      ap (drop (second_size N)) r.is ∙ drop-fill (sectorals_at N) pmm (N + 1) (second_size N) l (omega (arith, powers_within N h))

  -- the powers of a point leave all that alone
  pub prepared_kept : {F : ℕ → Float} {k : ℕ} → Prepared N l → Filled (powers_at N) F k l l' → Prepared N l'
  prepared_kept p r = record {
    first = first_kept p.first r (omega arith);
    sectorals = λ m h. filled_before (sectorals_at N + m) nan r (omega arith) ∙ p.sectorals m h;
  }

-- what the passes of one or more points leave of the list
pub record Worked (N : ℕ) (l l' : List Float) : Type 0 where
  pub ready : Prepared N l'
  pub rest : drop (second_size N) l' ≡ drop (second_size N) l
  pub long : length l' ≡ length l

pub worked_none : {N : ℕ} {l : List Float} → Prepared N l → Worked N l l
worked_none p = record { ready = p; rest = refl; long = refl }

pub worked_more : {N : ℕ} {l l' l'' : List Float} → Worked N l l' → Worked N l' l'' → Worked N l l''
worked_more a b = record { ready = b.ready; rest = b.rest ∙ a.rest; long = b.long ∙ a.long }

-- the powers of u are filled in
pub worked_one : {N : ℕ} (u : Float) {l l' : List Float} → N ≤ 2700 → Prepared N l → Filled (powers_at N) (rescale u) (N + 1) l l' → Worked N l l'
worked_one {N} u {l} h p r = record {
  ready = prepared_kept p r;
  rest = ap (drop (second_size N)) r.is ∙ drop-fill (powers_at N) (rescale u) (N + 1) (second_size N) l (powers_within N h);
  long = r.long;
}

-- the part of the list from the sectoral numbers on, lent as what is behind the three tables, one after the other
abbrev sectorals_part : (total i j h : ℕ) → List Float → List Float
sectorals_part total i j h l = take h (drop total (take j (drop total (take i (drop total l)))))

module _ (N : ℕ) (l : List Float) (total count i j h : ℕ) (et : total ≡ table_size N) (ec : count ≡ N + 1) (hi : total + total + (count + count) ≤ i)
    (hj : total + (count + count) ≤ j) (hh : count + count ≤ h) where
  part_at : (k : ℕ) → k < count + count → get_or (sectorals_part total i j h l) k nan ≡ get_or l (sectorals_at N + k) nan
  part_at k b =
      let T = table_size N in
      let b₁ = take i (drop total l) in
      let w₁ = take j (drop total b₁) in
      let place : T + (T + (T + k)) ≡ sectorals_at N + k = omega arith in
      second_table N total h w₁ et k (omega arith)
      ∙ second_table N total j b₁ et (T + k) (omega arith)
      ∙ second_table N total i l et (T + (T + k)) (omega arith)
      ∙ ap (λ (x : ℕ). get_or l x nan) place

  pub sectorals_standing : Prepared N l → Filled 0 pmm (N + 1) (sectorals_part total i j h l) (sectorals_part total i j h l)
  sectorals_standing p =
      let part = sectorals_part total i j h l in
      filled_standing nan 0 part (N + 1)
      (λ m b. ap (λ (k : ℕ). get_or part k nan) (zero-add m) ∙ part_at m (omega arith) ∙ p.sectorals m (omega arith))

  pub powers_standing : (g : ℕ) (u : Float) {l₀ : List Float} → count ≤ g → Filled (powers_at N) (rescale u) (N + 1) l₀ l → powers_at N + (N + 1) ≤ length l₀
      → Filled 0 (rescale u) (N + 1) (take g (drop count (sectorals_part total i j h l))) (take g (drop count (sectorals_part total i j h l)))
  powers_standing g u hg r room =
      let part = sectorals_part total i j h l in
      filled_standing nan 0 (take g (drop count part)) (N + 1)
      (λ m b.
      let place : sectorals_at N + (count + m) ≡ powers_at N + m = omega arith in
      ap (λ (k : ℕ). get_or (take g (drop count part)) k nan) (zero-add m)
      ∙ get_or-take g (drop count part) m nan (omega arith)
      ∙ get_or-drop count part m nan
      ∙ part_at (count + m) (omega arith)
      ∙ filled_in {j = m} nan r b place (omega arith))
