-- There and back: the file of a model says that model, every bit; what an accepted file says makes that file again, every byte; and an
-- accepted file has 21 + 17 T bytes, or 25 + 17 T with a date. Assumes nothing.
use Rattle.std.specs.Prelude.{◌≡◌, refl, ℕ, ◌+◌, ◌*◌, ◌^◌, ◌≤◌, ◌<◌, List, ◌++◌, length, get_or, Err, Ok, Result, ⊤}
use Rattle.std.proofs.Common.{sym, ap, ◌∙◌, arith, length-append}
use Rattle.storage.specs.Triangle.{table_size}
use Rattle.model_file.specs.declared.FileHead.{FileHead}
use Rattle.model_file.specs.LittleEndian.{words_at, length_words, Below, number_fits, words_fit}
use Rattle.model_file.specs.Dates.{DateFits, date_fits_at}
use Rattle.model_file.specs.Format.{head_kind, head_size, file_size, head_of, body_of, model, parse_body, parse_head, parse, head_bytes, record_bytes, render}
use Rattle.model_file.specs.Head.{kind_of_head, headed, head_small, length_head_bytes, head_of_bytes, head_back}
use Rattle.model_file.specs.Body.{body_long, length_records, Records, records_of, records_back}
use Rattle.refusal.specs.declared.Refusal.{Refusal}

-- a model as code can hold one: patterns of 64 bits, any date, a degree that is not refused, and as many pairs as it asks for
pub record Sound (h : FileHead) (c s : List ℕ) : Type 0 where
  pub gm_fits : h.gm < 2 ^ 64
  pub radius_fits : h.radius < 2 ^ 64
  pub date_fits : DateFits h.date
  pub small : h.nmax ≤ 2700
  pub c_long : length c ≡ table_size h.nmax
  pub s_long : length s ≡ table_size h.nmax
  pub c_fits : Below (2 ^ 64) c
  pub s_fits : Below (2 ^ 64) s

-- an accepted file, taken apart
pub record Accepted (b : List ℕ) (h : FileHead) (c s : List ℕ) : Type 0 where
  pub head_is : head_of b ≡ Ok h
  pub body_is : body_of b (table_size h.nmax) (head_size h.date) ≡ Ok tt
  pub c_is : c ≡ words_at b (table_size h.nmax) (head_size h.date + 1)
  pub s_is : s ≡ words_at b (table_size h.nmax) (head_size h.date + 9)

by_body : (b : List ℕ) (g h : FileHead) (c s : List ℕ) (a : Result ⊤ Refusal) → head_of b ≡ Ok g → body_of b (table_size g.nmax) (head_size g.date) ≡ a
    → parse_body a g b ≡ model h c s → Accepted b h c s
by_body b g h c s (Ok _) p q r = let e : h ≡ g = cc in rw e (record { head_is = p; body_is = q; c_is = cc; s_is = cc })
by_body b g h c s (Err e) p q r = let z : ◌≡◌ {A = ℕ} 0 1 = cc in absurd (omega arith)

by_head : (b : List ℕ) (h : FileHead) (c s : List ℕ) (r : Result FileHead Refusal) → head_of b ≡ r → parse_head r b ≡ model h c s → Accepted b h c s
by_head b h c s (Ok g) p q = by_body b g h c s _ p refl q
by_head b h c s (Err e) p q = let z : ◌≡◌ {A = ℕ} 0 1 = cc in absurd (omega arith)

pub accepted : (b : List ℕ) (h : FileHead) (c s : List ℕ) → parse b ≡ model h c s → Accepted b h c s
unfolding parse
accepted b h c s p = by_head b h c s (head_of b) refl p

-- how many numbers an accepted file has
pub record TableOf (h : FileHead) (c s : List ℕ) : Type 0 where
  pub small : h.nmax ≤ 2700
  pub c_long : length c ≡ table_size h.nmax
  pub s_long : length s ≡ table_size h.nmax

pub parse_table : (b : List ℕ) (h : FileHead) (c s : List ℕ) → parse b ≡ model h c s → TableOf h c s
parse_table b h c s p =
    let w = accepted b h c s p in
    let k : ℕ = table_size h.nmax in
    let at : ℕ = head_size h.date in
    record { small = head_small b h w.head_is; c_long = ap length w.c_is ∙ length_words b k (at + 1); s_long = ap length w.s_is ∙ length_words b k (at + 9) }

-- how many bytes an accepted file has
pub parse-length : (b : List ℕ) (h : FileHead) (c s : List ℕ) → parse b ≡ model h c s → length b ≡ file_size h.date h.nmax
parse-length b h c s p = let w = accepted b h c s p in body_long b (table_size h.nmax) (head_size h.date) w.body_is

pub length-render : (h : FileHead) (c s : List ℕ) → length c ≡ length s → length (render h c s) ≡ head_size h.date + 17 * length c + 1
unfolding render
length-render h c s e = length-append (head_bytes h) (record_bytes c s) ∙ omega (arith, length_head_bytes h, length_records c s e)

parse_is : (b : List ℕ) (h : FileHead) (c s : List ℕ) → head_of b ≡ Ok h → length c ≡ table_size h.nmax → Records b (head_size h.date) c s → parse b ≡ model h c s
unfolding parse
parse_is b h c s i e w =
    let j : body_of b (table_size h.nmax) (head_size h.date) ≡ Ok tt = rw (← e) w.accepted in
    rw (i, j, ← e, w.c_is, w.d_is) refl

-- the writer's kind tells whether the model has a date
pub kind_of_file : (h : FileHead) (c s : List ℕ) → get_or (render h c s) 0 0 ≡ head_kind h.date
unfolding render
kind_of_file h c s = kind_of_head h (record_bytes c s)

-- the file of a model says that model, every bit
pub parse-render : (h : FileHead) (c s : List ℕ) → Sound h c s → parse (render h c s) ≡ model h c s
unfolding render
parse-render h c s o =
    let b : List ℕ = head_bytes h ++ record_bytes c s in
    let f = head_of_bytes h (record_bytes c s) o.gm_fits o.radius_fits o.date_fits o.small in
    parse_is b h c s f.is o.c_long (records_of b (head_size h.date) c s (o.c_long ∙ sym o.s_long) o.c_fits o.s_fits f.behind)

-- what an accepted file says makes that file again, every byte
pub render-parse : (b : List ℕ) (h : FileHead) (c s : List ℕ) → Below 256 b → parse b ≡ model h c s → render h c s ≡ b
unfolding render
render-parse b h c s fit p =
    let w = accepted b h c s p in
    let x = w.c_is in
    let y = w.s_is in
    rw (x, y) (rw (← records_back b (table_size h.nmax) (head_size h.date) fit w.body_is) (sym (head_back b h fit (headed b h w.head_is))))

-- what an accepted file says is a model
pub parse_sound : (b : List ℕ) (h : FileHead) (c s : List ℕ) → Below 256 b → parse b ≡ model h c s → Sound h c s
parse_sound b h c s fit p =
    let w = accepted b h c s p in
    let t = parse_table b h c s p in
    let y = headed b h w.head_is in
    let x = w.c_is in
    let z = w.s_is in
    record {
      gm_fits = rw y.is (number_fits 8 b 1 fit);
      radius_fits = rw y.is (number_fits 8 b 9 fit);
      date_fits = rw y.is (date_fits_at b fit);
      small = t.small;
      c_long = t.c_long;
      s_long = t.s_long;
      c_fits = rw x (words_fit b (table_size h.nmax) (head_size h.date + 1) fit);
      s_fits = rw z (words_fit b (table_size h.nmax) (head_size h.date + 9) fit);
    }
