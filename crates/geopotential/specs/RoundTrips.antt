-- Demand 2 at the entries for C: what `model_write` leaves, `model_read` reads back, and what `model_read` hands back of a file, `model_write` makes that
-- file of again; whatever stood in the lists before and however long they are. Assumes nothing.
use Rattle.std.specs.Prelude.{◌≡◌, refl, List, [], ◌∷◌, ℕ, ◌+◌, ◌*◌, ◌≤◌, ◌<◌, length, get_or, take, ℤ, None, Ok, Option, Some}
use Rattle.std.proofs.Common.{sym, ap, ap₂, ◌∙◌, arith, get_or-take, le-ltb}
use Rattle.refusal.specs.Numbers.{after, refuse, result_number}
use Rattle.storage.specs.Answers.{size_is}
use Rattle.storage.specs.Store.{store}
use Rattle.storage.specs.Triangle.{table_size}
use Rattle.days.specs.Days.{days_of, days_back}
use Rattle.coefficients.specs.Model.{tide_number, tide_small, tide_back, tide_forth, dated_number, date_of}
use Rattle.coefficients.specs.declared.TideSystem.{TideSystem}
use Rattle.model_file.specs.declared.FileHead.{FileHead}
use Rattle.model_file.specs.LittleEndian.{Below}
use Rattle.model_file.specs.Dates.{DateFits}
use Rattle.model_file.specs.Format.{head_size, file_size, model, parse, render}
use Rattle.model_file.specs.Answers.{c_of, s_of, write_done}
use Rattle.model_file.specs.RoundTrip.{Sound, TableOf, parse_table, parse-length, parse_sound, length-render, parse-render, render-parse}
use Rattle.model_file.specs.HandedBack.{stored_front}
use Rattle.geopotential.specs.Files.{date_bits, head_words, words_of, model_read, head_of_words, model_write_number, model_write_after}

-- ---- a head's words say the head: the day count goes by its 32 bits
date_of_words : (d : Option ℤ) → DateFits d → date_of (dated_number d) (days_of (date_bits d)) ≡ d
date_of_words None f = refl
date_of_words (Some z) f = ap Some (days_back z f)

with_parts : FileHead → TideSystem → Option ℤ → FileHead
with_parts h t d = record { gm = h.gm; radius = h.radius; tide = t; date = d; nmax = h.nmax }

pub words_back : (h : FileHead) → DateFits h.date
    → head_of_words h.gm h.radius (tide_number h.tide) (dated_number h.date) (days_of (date_bits h.date)) h.nmax ≡ h
unfolding with_parts
words_back h f = ap₂ (with_parts h) (tide_back h.tide) (date_of_words h.date f)

pub words_forth : (gm radius tide dated : ℕ) (days : ℤ) (nmax : ℕ) → tide ≤ 3 → head_words (head_of_words gm radius tide dated days nmax)
    ≡ gm ∷ radius ∷ tide ∷ nmax ∷ dated_number (date_of dated days) ∷ date_bits (date_of dated days) ∷ []
words_forth gm radius tide dated days nmax b =
    ap (λ (t : ℕ). gm ∷ radius ∷ t ∷ nmax ∷ dated_number (date_of dated days) ∷ date_bits (date_of dated days) ∷ []) (tide_forth tide b)

-- ---- what the two entries promise: a number, and the lists afterwards
pub record Read (b c₀ s₀ w₀ : List ℕ) (x : ℕ) (c₁ s₁ w₁ : List ℕ) : Type 0 where
  pub number : x ≡ result_number (model_read (parse b) (length c₀) (length s₀) (length w₀))
  pub of_c : c₁ ≡ after (model_read (parse b) (length c₀) (length s₀) (length w₀)) (store 0 (c_of (parse b)) c₀) c₀
  pub of_s : s₁ ≡ after (model_read (parse b) (length c₀) (length s₀) (length w₀)) (store 0 (s_of (parse b)) s₀) s₀
  pub of_head : w₁ ≡ after (model_read (parse b) (length c₀) (length s₀) (length w₀)) (store 0 (words_of (parse b)) w₀) w₀

pub record Written (gm radius tide dated : ℕ) (days : ℤ) (nmax : ℕ) (c s out : List ℕ) (x : ℕ) (out' : List ℕ) : Type 0 where
  pub number : x ≡ model_write_number tide dated days nmax c s out
  pub of_out : out' ≡ model_write_after gm radius tide dated days nmax c s out

-- ---- what `model_read` hands back of a file that says a model: its number is 0, and the fronts of its lists are the model
pub record Says (h : FileHead) (c s : List ℕ) (x : ℕ) (c₁ s₁ w₁ : List ℕ) : Type 0 where
  pub done : x ≡ 0
  pub of_c : take (table_size h.nmax) c₁ ≡ c
  pub of_s : take (table_size h.nmax) s₁ ≡ s
  pub of_head : take 6 w₁ ≡ head_words h

reads : (b : List ℕ) (h : FileHead) (c s c₀ s₀ w₀ : List ℕ) → parse b ≡ model h c s → TableOf h c s
    → table_size h.nmax ≤ length c₀ → table_size h.nmax ≤ length s₀ → 6 ≤ length w₀ → {x : ℕ} {c₁ s₁ w₁ : List ℕ} → Read b c₀ s₀ w₀ x c₁ s₁ w₁
    → Says h c s x c₁ s₁ w₁
unfolding model_read refuse
reads b h c s c₀ s₀ w₀ p t rc rs rw₀ {x} {c₁} {s₁} {w₁} r =
    let lc = t.c_long in
    let ls = t.s_long in
    let done : model_read (parse b) (length c₀) (length s₀) (length w₀) ≡ Ok tt =
    rw p (simp (le-ltb (length w₀) 6 rw₀, le-ltb (length c₀) (length c) (omega arith), le-ltb (length s₀) (length s) (omega arith))) in
    let ec : c₁ ≡ store 0 c c₀ = r.of_c ∙ rw done (rw p refl) in
    let es : s₁ ≡ store 0 s s₀ = r.of_s ∙ rw done (rw p refl) in
    let ew : w₁ ≡ store 0 (head_words h) w₀ = r.of_head ∙ rw done (rw p refl) in
    record {
      done = r.number ∙ ap result_number done;
      of_c = ap (take (table_size h.nmax)) ec ∙ stored_front c c₀ (table_size h.nmax) lc rc;
      of_s = ap (take (table_size h.nmax)) es ∙ stored_front s s₀ (table_size h.nmax) ls rs;
      of_head = ap (take 6) ew ∙ stored_front (head_words h) w₀ 6 refl rw₀;
    }

-- a model is written into a list with room: the number is 0, and the file stands at the list's front
writes : (gm radius tide dated : ℕ) (days : ℤ) (nmax : ℕ) (c s out : List ℕ) → tide ≤ 3 → Sound (head_of_words gm radius tide dated days nmax) c s
    → file_size (date_of dated days) nmax ≤ length out → {x : ℕ} {out' : List ℕ} → Written gm radius tide dated days nmax c s out x out'
    → (x ≡ 0) × (out' ≡ store 0 (render (head_of_words gm radius tide dated days nmax) c s) out)
unfolding model_write_number model_write_after
writes gm radius tide dated days nmax c s out t o room w =
    let n = sym (size_is nmax o.small) in
    let done = write_done (date_of dated days) nmax (length c) (length s) (length out) o.small (table_size nmax) n o.c_long o.s_long room in
    (w.number ∙ simp (le-ltb 3 tide t, ← done), w.of_out ∙ simp (le-ltb 3 tide t, ← done))

-- ---- written, then read
pub written_read : (gm radius tide dated : ℕ) (days : ℤ) (nmax : ℕ) (c s out : List ℕ) → tide ≤ 3 → Sound (head_of_words gm radius tide dated days nmax) c s
    → file_size (date_of dated days) nmax ≤ length out → {x : ℕ} {out' : List ℕ} → Written gm radius tide dated days nmax c s out x out'
    → (c₀ s₀ w₀ : List ℕ) → table_size nmax ≤ length c₀ → table_size nmax ≤ length s₀ → 6 ≤ length w₀
    → {y : ℕ} {c₁ s₁ w₁ : List ℕ} → Read (take (file_size (date_of dated days) nmax) out') c₀ s₀ w₀ y c₁ s₁ w₁
    → (x ≡ 0) × (y ≡ 0) × (take (table_size nmax) c₁ ≡ c) × (take (table_size nmax) s₁ ≡ s)
    × (take 6 w₁ ≡ gm ∷ radius ∷ tide ∷ nmax ∷ dated_number (date_of dated days) ∷ date_bits (date_of dated days) ∷ [])
written_read gm radius tide dated days nmax c s out t o room {x} {out'} w c₀ s₀ w₀ rc rs rw₀ r =
    let h = head_of_words gm radius tide dated days nmax in
    let k : ℕ = file_size (date_of dated days) nmax in
    let e = writes gm radius tide dated days nmax c s out t o room w in
    let long = length-render h c s (o.c_long ∙ sym o.s_long) ∙ ap (λ (n : ℕ). head_size (date_of dated days) + 17 * n + 1) o.c_long in
    let file : parse (take k out') ≡ model h c s =
    ap (λ (l : List ℕ). parse (take k l)) e.1
    ∙ ap parse (stored_front (render h c s) out k long room)
    ∙ parse-render h c s o in
    let y = reads _ h c s c₀ s₀ w₀ file (parse_table _ h c s file) rc rs rw₀ r in
    (e.0, y.done, y.of_c, y.of_s, y.of_head ∙ words_forth gm radius tide dated days nmax t)

-- ---- read, then written from the six words and the fronts of the two lists that were handed back
pub read_written : (b : List ℕ) (h : FileHead) (c s : List ℕ) → Below 256 b → parse b ≡ model h c s
    → (c₀ s₀ w₀ : List ℕ) → table_size h.nmax ≤ length c₀ → table_size h.nmax ≤ length s₀ → 6 ≤ length w₀
    → {y : ℕ} {c₁ s₁ w₁ : List ℕ} → Read b c₀ s₀ w₀ y c₁ s₁ w₁ → (out : List ℕ) → length b ≤ length out → {x : ℕ} {out' : List ℕ}
    → Written (get_or w₁ 0 0) (get_or w₁ 1 0) (get_or w₁ 2 0) (get_or w₁ 4 0) (days_of (get_or w₁ 5 0)) (get_or w₁ 3 0)
    (take (table_size (get_or w₁ 3 0)) c₁) (take (table_size (get_or w₁ 3 0)) s₁) out x out'
    → (y ≡ 0) × (x ≡ 0) × (take (length b) out' ≡ b)
read_written b h c s fit p c₀ s₀ w₀ rc rs rw₀ {y} {c₁} {s₁} {w₁} r out l {x} {out'} w =
    let k = reads b h c s c₀ s₀ w₀ p (parse_table b h c s p) rc rs rw₀ r in
    let word : (i : ℕ) → i < 6 → get_or w₁ i 0 ≡ get_or (head_words h) i 0 = λ i j. sym (get_or-take 6 w₁ i 0 j) ∙ ap (λ (v : List ℕ). get_or v i 0) k.of_head in
    let e0 : get_or w₁ 0 0 ≡ h.gm = word 0 (omega arith) in
    let e1 : get_or w₁ 1 0 ≡ h.radius = word 1 (omega arith) in
    let e2 : get_or w₁ 2 0 ≡ tide_number h.tide = word 2 (omega arith) in
    let e3 : get_or w₁ 3 0 ≡ h.nmax = word 3 (omega arith) in
    let e4 : get_or w₁ 4 0 ≡ dated_number h.date = word 4 (omega arith) in
    let e5 : get_or w₁ 5 0 ≡ date_bits h.date = word 5 (omega arith) in
    let v : Written h.gm h.radius (tide_number h.tide) (dated_number h.date) (days_of (date_bits h.date)) h.nmax c s out x out' =
    rw (e0, e1, e2, e3, e4, e5, k.of_c, k.of_s) at w in
    let o = parse_sound b h c s fit p in
    let back = words_back h o.date_fits in
    let sound : Sound (head_of_words h.gm h.radius (tide_number h.tide) (dated_number h.date) (days_of (date_bits h.date)) h.nmax) c s = rw back o in
    let same : head_size (date_of (dated_number h.date) (days_of (date_bits h.date))) ≡ head_size h.date = ap head_size (date_of_words h.date o.date_fits) in
    let e =
    writes h.gm h.radius (tide_number h.tide) (dated_number h.date) (days_of (date_bits h.date)) h.nmax c s out (tide_small h.tide) sound
    (omega (arith, same, parse-length b h c s p)) v in (
      k.done,
      e.0,
      ap (take (length b)) e.1
          ∙ ap (λ (g : FileHead). take (length b) (store 0 (render g c s) out)) back
          ∙ ap (λ (f : List ℕ). take (length b) (store 0 f out)) (render-parse b h c s fit p)
          ∙ stored_front b out (length b) refl l,
    )
