-- The same as Enough for `model_read`, whose lengths are told by a file's head. Assumes nothing.
use Rattle.std.specs.Prelude.{◌≡◌, refl, List, [], ◌∷◌, ℕ, ◌≤◌, length, take, Ok, Result}
use Rattle.std.proofs.Common.{sym, ap, ◌∙◌, arith, le-ltb}
use Rattle.storage.specs.Triangle.{table_size}
use Rattle.model_file.specs.declared.FileHead.{FileHead}
use Rattle.model_file.specs.Head.{headed}
use Rattle.model_file.specs.Format.{head_size, file_size, date_at, head_of, parse, model}
use Rattle.model_file.specs.Answers.{read_answer}
use Rattle.model_file.specs.RoundTrip.{accepted, parse_table, parse-length}
use Rattle.model_file.specs.Truncation.{head_front}
use Rattle.lengths.specs.Lengths.{file_lengths, read_lengths}
use Rattle.refusal.specs.declared.Refusal.{Refusal}
use Rattle.refusal.specs.Numbers.{refuse}

-- lists with room for what a file says
read_room : (h : FileHead) (cs ss : List ℕ) (c s : ℕ) → length cs ≤ c → length ss ≤ s → read_answer (model h cs ss) c s ≡ Ok h
unfolding refuse
read_room h cs ss c s p q = simp (le-ltb c (length cs) p, le-ltb s (length ss) q)

-- an accepted file has as many bytes as are told, and is read with lists as long as told
pub record Read (file : List ℕ) (h : FileHead) (bytes c s head : ℕ) : Type 0 where
  pub long : length file ≡ bytes
  pub answers : Ok h ≡ read_answer (parse file) c s
  pub words : head ≡ 6

-- by its head's bytes or more
pub read_enough : (file : List ℕ) (h : FileHead) (cs ss : List ℕ) → parse file ≡ model h cs ss → (front : ℕ) → head_size h.date ≤ front → front ≤ length file
    → (bytes c s head : ℕ) → bytes ∷ c ∷ s ∷ head ∷ [] ≡ read_lengths (head_of (take front file))
    → Read file h bytes c s head
unfolding file_lengths
read_enough file h cs ss p front b l bytes c s head e =
    let w = (accepted file h cs ss p).head_is in
    let size : head_size (date_at file) ≡ head_size h.date = rw (headed file h w).is refl in
    let is = head_front front file (omega arith) l ∙ w in
    let t = parse_table file h cs ss p in
    let told : bytes ∷ c ∷ s ∷ head ∷ [] ≡ file_lengths h.date h.nmax = e ∙ ap (λ (r : Result FileHead Refusal). read_lengths r) is in
    let k : bytes ≡ file_size h.date h.nmax = cc in
    let u : c ≡ table_size h.nmax = cc in
    let v : s ≡ table_size h.nmax = cc in
    record {
      long = omega (arith, parse-length file h cs ss p);
      answers = rw p (sym (read_room h cs ss c s (omega (arith, t.c_long)) (omega (arith, t.s_long))));
      words = cc;
    }
