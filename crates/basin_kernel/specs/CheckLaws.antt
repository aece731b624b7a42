-- The checks of a kernel: one law for each way through them, and what passed checks tell. Assumes nothing.
use Rattle.std.specs.Prelude.{◌≡◌, List, ℕ, ◌*◌, ◌≤◌, ◌<◌, ltb, length, drop, Float, Err, Ok, Result, ⊤}
use Rattle.std.proofs.Common.{sym, ap, ◌∙◌, lt-ltb, le-ltb}
use Rattle.std.proofs.Math.Dec.{nltb→le}
use Rattle.refusal.specs.Numbers.{after, behind, both, done_then, outcome, refused_then, value_if}
use Rattle.refusal.specs.declared.Refusal.{Refusal}
use Rattle.refusal.specs.declared.Refusal.TheVariants.{Space}
use Rattle.storage.specs.Checks.{stop, pass, past, space_first, space_second, space_done}
use Rattle.storage.specs.Checks.{room_check, room_space, room_passed}
use Rattle.storage.specs.Elements.{zero_at}
use Rattle.storage.specs.Fill.{fill}
use Rattle.storage.specs.Filled.{Filled, filled}
use Rattle.storage.specs.Triangle.{table_size}
use Rattle.matrix.specs.Layout.{Kept}
use Rattle.coefficients.specs.Model.{model_made}
use Rattle.coefficients.specs.declared.Head.{Head}
use Rattle.regions.specs.Checks.{nodes_check_to}
use Rattle.regions.specs.CheckLaws.{nodes_accepted}
use Rattle.regions.specs.Nodes.{NodeListsTo}
use Rattle.basin_kernel.specs.Kernel.{kernel_check}

-- what passed checks tell: a record, whose fields `omega` finds
pub record KernelFits (L nodes weights lats marks s c work kc ks : ℕ) : Type 0 where
  pub lists : NodeListsTo 2700 L nodes weights lats marks s c
  pub room : Ok tt ≡ room_check L kc ks
  pub of_work : 3 * table_size L ≤ work
  pub of_kc : table_size L ≤ kc
  pub of_ks : table_size L ≤ ks

module _ (L nodes weights lats marks s c work kc ks : ℕ) where
  abbrev of_nodes : Result ⊤ Refusal
  of_nodes = nodes_check_to 2700 L nodes weights lats marks s c

  abbrev of_kernel : Result ⊤ Refusal
  of_kernel = kernel_check L nodes weights lats marks s c work kc ks

  pub wrong_lists : (e : Refusal) → Err e ≡ of_nodes → Err e ≡ of_kernel
  unfolding kernel_check
  wrong_lists e h = refused_then e _ h

  module _ (d : Ok tt ≡ of_nodes) where
    pub short_work : work < 3 * table_size L → Err Space ≡ of_kernel
    unfolding kernel_check
    short_work h = done_then d (stop _ _ (lt-ltb work (3 * table_size L) h))

    module _ (h : 3 * table_size L ≤ work) where
      pub short_kc : kc < table_size L → Err Space ≡ of_kernel
      unfolding kernel_check
      short_kc g = done_then d (pass _ (le-ltb work (3 * table_size L) h) (space_first (table_size L) kc ks g))

      pub short_ks : table_size L ≤ kc → ks < table_size L → Err Space ≡ of_kernel
      unfolding kernel_check
      short_ks f g = done_then d (pass _ (le-ltb work (3 * table_size L) h) (space_second (table_size L) kc ks f g))

      pub kernel_done : table_size L ≤ kc → table_size L ≤ ks → Ok tt ≡ of_kernel
      unfolding kernel_check
      kernel_done f g = done_then d (pass _ (le-ltb work (3 * table_size L) h) (space_done (table_size L) kc ks f g))

  pub kernel_accepted : Ok tt ≡ of_kernel → KernelFits L nodes weights lats marks s c work kc ks
  unfolding kernel_check
  kernel_accepted h =
      let (d, g) = both of_nodes _ h in
      let (p, k) = past (ltb work (3 * table_size L)) Space _ g in
      let lists = nodes_accepted 2700 L nodes weights lats marks s c d in
      let room = k ∙ room_space L kc ks lists.top in
      let z = room_passed L kc ks room in
      record { lists = lists; room = room; of_work = nltb→le work (3 * table_size L) p; of_kc = z.first; of_ks = z.second }

-- ---- the answer
-- where there is room, the two tables are cleared for a field
pub cleared : (L : ℕ) (h : Head) (x y : List Float) {r : Result Head Refusal} {x' y' : List Float} → Ok tt ≡ room_check L (length x) (length y)
    → r ≡ value_if (room_check L (length x) (length y)) h → x' ≡ after (outcome r) (fill 0 zero_at (table_size L) x) x
    → y' ≡ after (outcome r) (fill 0 zero_at (table_size L) y) y
    → (r ≡ Ok h) × Filled 0 zero_at (table_size L) x x' × Filled 0 zero_at (table_size L) y y'
cleared L h x y {r} d e p q =
    let made : r ≡ Ok h = e ∙ sym (model_made h d) in
    let now : (l : List Float) → after (outcome r) (fill 0 zero_at (table_size L) l) l ≡ fill 0 zero_at (table_size L) l =
    λ l. ap (λ (m : Result Head Refusal). after (outcome m) (fill 0 zero_at (table_size L) l) l) made in
    (made, filled 0 zero_at (table_size L) x (p ∙ now x), filled 0 zero_at (table_size L) y (q ∙ now y))

-- what a call that made a field leaves in the lists
module _ {r : Result Head Refusal} {h : Head} (made : r ≡ Ok h) where
  pub made_after : (new old : List Float) {l : List Float} → l ≡ new → l ≡ after (outcome r) new old
  made_after new old p = p ∙ sym (ap (λ (m : Result Head Refusal). after (outcome m) new old) made)

  pub made_behind : {k : ℕ} {w l : List Float} → Kept k w l → behind (outcome r) k l ≡ behind (outcome r) k w
  made_behind {k} {w} {l} kept =
      let at : (x : List Float) → behind (outcome r) k x ≡ drop k x = λ x. ap (λ (m : Result Head Refusal). behind (outcome m) k x) made in
      at l ∙ kept.behind ∙ sym (at w)
