-- Demand 2: reading and writing a model file undo each other, stated on what the calls hand back: each premise is what a call promises, whatever stood
-- in the lists before and however long they are. NaN's payloads are patterns as any other. Assumes nothing.
use Rattle.std.specs.Prelude.{◌≡◌, refl, ℕ, ◌+◌, ◌*◌, ◌≤◌, List, length, take, drop, Ok, Result, ⊤}
use Rattle.std.proofs.Common.{sym, ap, ◌∙◌, arith, le-ltb}
use Rattle.std.proofs.Math.Seq.{take-append_seam}
use Rattle.refusal.specs.Numbers.{after, outcome, refuse}
use Rattle.storage.specs.Answers.{size_is}
use Rattle.storage.specs.Store.{store, store_front}
use Rattle.storage.specs.Triangle.{table_size}
use Rattle.model_file.specs.declared.FileHead.{FileHead}
use Rattle.model_file.specs.LittleEndian.{Below}
use Rattle.model_file.specs.Format.{head_size, file_size, Parsed, model, parse, render}
use Rattle.model_file.specs.Answers.{read_answer, c_of, s_of, write_answer, write_done}
use Rattle.model_file.specs.RoundTrip.{Sound, parse_table, parse-length, parse_sound, length-render, parse-render, render-parse}
use Rattle.refusal.specs.declared.Refusal.{Refusal}

-- the front of a list that a list was stored into
pub stored_front : (vs d : List ℕ) (k : ℕ) → length vs ≡ k → k ≤ length d → take k (store 0 vs d) ≡ vs
stored_front vs d k e h =
    ap (λ (n : ℕ). take n (store 0 vs d)) (sym e)
    ∙ ap (take (length vs)) (store_front vs d (omega (arith, e)))
    ∙ take-append_seam vs (drop (length vs) d)

-- what `read` hands back of the bytes b, in lists that held c₀ and s₀: its answer x, and the lists afterwards
pub record ReadBack (b : List ℕ) (c₀ s₀ : List ℕ) (x : Result FileHead Refusal) (c₁ s₁ : List ℕ) : Type 0 where
  pub answer : x ≡ read_answer (parse b) (length c₀) (length s₀)
  pub of_c : c₁ ≡ after (outcome x) (store 0 (c_of (parse b)) c₀) c₀
  pub of_s : s₁ ≡ after (outcome x) (store 0 (s_of (parse b)) s₀) s₀

-- that it says the model h, c, s: the answer is the head, and the fronts of the lists are c and s
pub record Says (h : FileHead) (c s : List ℕ) (x : Result FileHead Refusal) (c₁ s₁ : List ℕ) : Type 0 where
  pub answer : x ≡ Ok h
  pub of_c : take (table_size h.nmax) c₁ ≡ c
  pub of_s : take (table_size h.nmax) s₁ ≡ s

-- an accepted file, read into lists with room
says : (p : Parsed) (h : FileHead) (c s c₀ s₀ : List ℕ) {x : Result FileHead Refusal} {c₁ s₁ : List ℕ} → p ≡ model h c s
    → length c ≡ table_size h.nmax → length s ≡ table_size h.nmax → table_size h.nmax ≤ length c₀ → table_size h.nmax ≤ length s₀
    → x ≡ read_answer p (length c₀) (length s₀) → c₁ ≡ after (outcome x) (store 0 (c_of p) c₀) c₀ → s₁ ≡ after (outcome x) (store 0 (s_of p) s₀) s₀
    → Says h c s x c₁ s₁
unfolding refuse
says p h c s c₀ s₀ {x} {c₁} {s₁} e lc ls rc rs ex ec es =
    let m : x ≡ Ok h = ex ∙ rw e (simp (le-ltb (length c₀) (length c) (omega arith), le-ltb (length s₀) (length s) (omega arith))) in
    let cs : c₁ ≡ store 0 c c₀ = ec ∙ rw (m, e) refl in
    let ss : s₁ ≡ store 0 s s₀ = es ∙ rw (m, e) refl in
    record {
      answer = m;
      of_c = ap (take (table_size h.nmax)) cs ∙ stored_front c c₀ (table_size h.nmax) lc rc;
      of_s = ap (take (table_size h.nmax)) ss ∙ stored_front s s₀ (table_size h.nmax) ls rs;
    }

-- what `write` hands back of a model, in a list that held `out`: its answer a, and the list afterwards
pub record Wrote (h : FileHead) (c s out : List ℕ) (a : Result ⊤ Refusal) (out' : List ℕ) : Type 0 where
  pub answer : a ≡ write_answer h.date h.nmax (length c) (length s) (length out)
  pub of_out : out' ≡ after a (store 0 (render h c s) out) out

-- a model is written into a list with room: the file stands at its front
pub writes : (h : FileHead) (c s out : List ℕ) → Sound h c s → file_size h.date h.nmax ≤ length out → {a : Result ⊤ Refusal} {out' : List ℕ} → Wrote h c s out a out'
    → (a ≡ Ok tt) × (out' ≡ store 0 (render h c s) out)
writes h c s out o l w =
    let n = sym (size_is h.nmax o.small) in
    let done = sym (write_done h.date h.nmax (length c) (length s) (length out) o.small (table_size h.nmax) n o.c_long o.s_long l) in
    (w.answer ∙ done, w.of_out ∙ ap (λ (x : Result ⊤ Refusal). after x (store 0 (render h c s) out) out) (w.answer ∙ done))

-- `write`, then `read` of the file's bytes: it is written, and says the model
pub write_read : (h : FileHead) (c s out : List ℕ) → Sound h c s → file_size h.date h.nmax ≤ length out → {a : Result ⊤ Refusal} {out' : List ℕ} → Wrote h c s out a out'
    → {x : Result FileHead Refusal} {c₁ s₁ : List ℕ} (c₀ s₀ : List ℕ) → table_size h.nmax ≤ length c₀ → table_size h.nmax ≤ length s₀
    → ReadBack (take (file_size h.date h.nmax) out') c₀ s₀ x c₁ s₁ → (a ≡ Ok tt) × Says h c s x c₁ s₁
write_read h c s out o l {a} {out'} w c₀ s₀ rc rs r =
    let k : ℕ = file_size h.date h.nmax in
    let e = writes h c s out o l w in
    let long = length-render h c s (o.c_long ∙ sym o.s_long) ∙ ap (λ (n : ℕ). head_size h.date + 17 * n + 1) o.c_long in
    let file : parse (take k out') ≡ model h c s = ap (λ (b : List ℕ). parse (take k b)) e.1 ∙ ap parse (stored_front (render h c s) out k long l) ∙ parse-render h c s o in
    (e.0, says (parse (take k out')) h c s c₀ s₀ file o.c_long o.s_long rc rs r.answer r.of_c r.of_s)

-- `read` of an accepted file b, then `write` of what it handed back, the head and the fronts of the two lists: it is written, and is that file
pub read_write : (b : List ℕ) (h : FileHead) (c s c₀ s₀ : List ℕ) → Below 256 b → parse b ≡ model h c s
    → table_size h.nmax ≤ length c₀ → table_size h.nmax ≤ length s₀ → {x : Result FileHead Refusal} {c₁ s₁ : List ℕ} → ReadBack b c₀ s₀ x c₁ s₁
    → (out : List ℕ) → length b ≤ length out → {a : Result ⊤ Refusal} {out' : List ℕ}
    → Wrote h (take (table_size h.nmax) c₁) (take (table_size h.nmax) s₁) out a out'
    → (x ≡ Ok h) × (a ≡ Ok tt) × (take (length b) out' ≡ b)
read_write b h c s c₀ s₀ fit p rc rs {x} {c₁} {s₁} r out l {a} {out'} w =
    let t = parse_table b h c s p in
    let y = says (parse b) h c s c₀ s₀ p t.c_long t.s_long rc rs r.answer r.of_c r.of_s in
    let v : Wrote h c s out a out' = rw (y.of_c, y.of_s) at w in
    let e = writes h c s out (parse_sound b h c s fit p) (omega (arith, parse-length b h c s p)) v in (
      y.answer,
      e.0,
      ap (take (length b)) (e.1 ∙ ap (λ (f : List ℕ). store 0 f out) (render-parse b h c s fit p)) ∙ stored_front b out (length b) refl l,
    )
