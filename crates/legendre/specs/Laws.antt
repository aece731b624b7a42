-- Change request W3, on what calls of `new` and `grow` hand back, whatever their lists held. Assumes nothing.
use Rattle.std.specs.Prelude.{◌≡◌, List, ℕ, ◌+◌, ◌≤◌, length, take, Float, Ok, Result, ⊤}
use Rattle.std.proofs.Common.{sym, ap, ◌∙◌, le_refl, arith}
use Rattle.refusal.specs.Numbers.{after}
use Rattle.storage.specs.Checks.{room_check, room_passed}
use Rattle.storage.specs.Fill.{fill, fill_again, length-fill}
use Rattle.storage.specs.Triangle.{table_size, along, row_start_monotone}
use Rattle.recursion.specs.Recursion.{a_cell, b_cell}
use Rattle.legendre.specs.Grown.{made, grown, grown_made, made_front}
use Rattle.refusal.specs.declared.Refusal.{Refusal}

-- `new` with the lists a and b answers r and leaves a' and b': its promise, which is proved by way of this record
pub record New (N : ℕ) (a b : List Float) (r : Result ⊤ Refusal) (a' b' : List Float) : Type 0 where
  pub answers : r ≡ room_check N (length a) (length b)
  pub leaves_a : a' ≡ after r (fill 0 (along a_cell) (table_size N) a) a
  pub leaves_b : b' ≡ after r (fill 0 (along b_cell) (table_size N) b) b

-- `grow` likewise
pub record Grow (n N : ℕ) (a b : List Float) (r : Result ⊤ Refusal) (a' b' : List Float) : Type 0 where
  pub answers : r ≡ room_check N (length a) (length b)
  pub leaves_a : a' ≡ after r (grown a_cell n N a) a
  pub leaves_b : b' ≡ after r (grown b_cell n N b) b

-- the two promises as the calls state them
pub new_promise : {N : ℕ} {a b a' b' : List Float} {r : Result ⊤ Refusal} → New N a b r a' b'
    → (r ≡ room_check N (length a) (length b))
    × ((a' ≡ after r (fill 0 (along a_cell) (table_size N) a) a) × (b' ≡ after r (fill 0 (along b_cell) (table_size N) b) b))
new_promise w = (w.answers, (w.leaves_a, w.leaves_b))

pub grow_promise : {n N : ℕ} {a b a' b' : List Float} {r : Result ⊤ Refusal} → Grow n N a b r a' b'
    → (r ≡ room_check N (length a) (length b)) × ((a' ≡ after r (grown a_cell n N a) a) × (b' ≡ after r (grown b_cell n N b) b))
grow_promise w = (w.answers, (w.leaves_a, w.leaves_b))

-- the tables of one degree are the front of those of any larger degree, bit by bit
pub new_front : (N M : ℕ) {a b a' b' c d c' d' : List Float} → N ≤ M → New N a b (Ok tt) a' b' → New M c d (Ok tt) c' d'
    → (take (table_size N) c' ≡ take (table_size N) a') × (take (table_size N) d' ≡ take (table_size N) b')
new_front N M {a} {b} {a'} {b'} {c} {d} h small large =
    let s = room_passed N (length a) (length b) small.answers in
    let l = room_passed M (length c) (length d) large.answers in
    let m = row_start_monotone (N + 1) (M + 1) (omega arith) in (
      ap (take (table_size N)) large.leaves_a
          ∙ made_front a_cell N M a c h (omega arith) (omega arith)
          ∙ ap (take (table_size N)) (sym small.leaves_a),
      ap (take (table_size N)) large.leaves_b
          ∙ made_front b_cell N M b d h (omega arith) (omega arith)
          ∙ ap (take (table_size N)) (sym small.leaves_b),
    )

-- what the list holds that `new` left
holds : (f : ℕ → ℕ → Float) (n : ℕ) (d : List Float) {l : List Float} → l ≡ made f n d → l ≡ made f n l
holds f n d {l} e =
    e ∙ sym (fill_again 0 (along f) (along f) (table_size n) (table_size n) d (le_refl (table_size n))) ∙ ap (made f n) (sym e)

-- `grow` from the degree of the tables hands back what `new` would with the same lists, also where it is refused
pub grow_is_new : (n N : ℕ) {a b c d a' b' : List Float} {r : Result ⊤ Refusal} → New n c d (Ok tt) a b → Grow n N a b r a' b' → New N a b r a' b'
grow_is_new n N {a} {b} {c} {d} {r = r} made_by by = record {
  answers = by.answers;
  leaves_a = by.leaves_a ∙ ap (λ (l : List Float). after r l a) (grown_made a_cell n N a (holds a_cell n c made_by.leaves_a));
  leaves_b = by.leaves_b ∙ ap (λ (l : List Float). after r l b) (grown_made b_cell n N b (holds b_cell n d made_by.leaves_b));
}

-- so tables that grow, one degree after another or by any steps up, are those that `new` makes at once of the lists before the first
pub grow_after_new : (n N : ℕ) {a b c d a' b' : List Float} → n ≤ N → New n c d (Ok tt) a b → Grow n N a b (Ok tt) a' b' → New N c d (Ok tt) a' b'
grow_after_new n N {a} {b} {c} {d} h made_by by =
    let at_once = grow_is_new n N made_by by in
    let m = row_start_monotone (n + 1) (N + 1) (omega arith) in record {
      answers =
          at_once.answers
          ∙ ap (λ (k : ℕ). room_check N k (length b)) (ap length made_by.leaves_a ∙ length-fill 0 (along a_cell) (table_size n) c)
          ∙ ap (λ (k : ℕ). room_check N (length c) k) (ap length made_by.leaves_b ∙ length-fill 0 (along b_cell) (table_size n) d);
      leaves_a = at_once.leaves_a ∙ ap (made a_cell N) made_by.leaves_a ∙ fill_again 0 (along a_cell) (along a_cell) (table_size n) (table_size N) c m;
      leaves_b = at_once.leaves_b ∙ ap (made b_cell N) made_by.leaves_b ∙ fill_again 0 (along b_cell) (along b_cell) (table_size n) (table_size N) d m;
    }
