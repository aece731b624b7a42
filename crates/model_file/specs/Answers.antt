-- What `read` and `write` answer, what `read` leaves in a list, and the answer on each way through the checks. Assumes nothing.
use Rattle.std.specs.Prelude.{◌≡◌, not, ℕ, ◌+◌, ◌*◌, ◌≤◌, ◌<◌, List, [], length, ltb, eqb, Err, Ok, Option, Result, ℤ, ⊤}
use Rattle.std.proofs.Math.Path.{refl}
use Rattle.std.proofs.Common.{◌∙◌}
use borrow.Author.Tests.{lt-ltb, le-ltb, eq-eqb, ne_eqb}
use Rattle.refusal.specs.declared.Refusal.{Refusal}
use Rattle.refusal.specs.declared.Refusal.TheVariants.{Size, Length, Space}
use Rattle.refusal.specs.Numbers.{refuse}
use Rattle.storage.specs.Answers.{size_of, size_is}
use Rattle.storage.specs.Store.{store}
use Rattle.storage.specs.Triangle.{table_size}
use Rattle.model_file.specs.declared.FileHead.{FileHead}
use Rattle.model_file.specs.LittleEndian.{words_at, length_words}
use Rattle.model_file.specs.Format.{head_size, file_size, head_of, body_of, Parsed, model, fault, parse}
use Rattle.model_file.specs.Head.{head_small}
use Rattle.model_file.specs.Body.{body_long}

-- whether a file is accepted, or why it is refused
abbrev pub verdict_of : Parsed → Result ⊤ Refusal
verdict_of (model h c s) = Ok tt
verdict_of (fault e) = Err e

-- what `read` answers, by what the file says and by the lengths of the lists for c and s
abbrev pub read_answer : Parsed → ℕ → ℕ → Result FileHead Refusal
read_answer (model h c s) lc ls = refuse (ltb lc (length c)) Space (refuse (ltb ls (length s)) Space (Ok h))
read_answer (fault e) lc ls = Err e

-- the numbers c and s of a file, none where it is refused
abbrev pub c_of : Parsed → List ℕ
c_of (model h c s) = c
c_of (fault e) = []

abbrev pub s_of : Parsed → List ℕ
s_of (model h c s) = s
s_of (fault e) = []

-- what `write` answers, by the date, N, the lengths of c and s, and the length of the list for the file
unfoldable pub write_answer : Option ℤ → ℕ → ℕ → ℕ → ℕ → Result ⊤ Refusal
write_answer date nmax lc ls lo =
    refuse (ltb 2700 nmax) Size
    (refuse (not (eqb lc (table_size nmax))) Length
    (refuse (not (eqb ls (table_size nmax))) Length
    (refuse (ltb lo (file_size date nmax)) Space
    (Ok tt))))

-- ---- `read`, with the answers of the head's and of the records' checks as the code has them

-- a file whose checks are passed, with k pairs
pub record Readable (s : List ℕ) (h : FileHead) (k : ℕ) : Type 0 where
  pub is : parse s ≡ model h (words_at s k (head_size h.date + 1)) (words_at s k (head_size h.date + 9))
  pub long : length s ≡ head_size h.date + 17 * k + 1

module _ (s : List ℕ) (r : Result FileHead Refusal) (p : r ≡ head_of s) where
  pub refused_by_head : (e : Refusal) → r ≡ Err e → parse s ≡ fault e
  unfolding parse
  refused_by_head e q = let i : head_of s ≡ Err e = cc in rw i refl

  module _ (h : FileHead) (q : r ≡ Ok h) (k : ℕ) (n : k ≡ size_of h.nmax) (start : ℕ) (z : start ≡ head_size h.date) (a : Result ⊤ Refusal) (u : a ≡ body_of s k start) where
    pairs : k ≡ table_size h.nmax
    pairs = let i : head_of s ≡ Ok h = cc in n ∙ size_is h.nmax (head_small s h i)

    pub refused_by_body : (e : Refusal) → a ≡ Err e → parse s ≡ fault e
    unfolding parse
    refused_by_body e v =
        let i : head_of s ≡ Ok h = cc in
        let t = pairs in
        let j : body_of s (table_size h.nmax) (head_size h.date) ≡ Err e = cc in
        rw (i, j) refl

    pub readable : a ≡ Ok tt → Readable s h k
    unfolding parse
    readable v =
        let i : head_of s ≡ Ok h = cc in
        let t = pairs in
        let j : body_of s (table_size h.nmax) (head_size h.date) ≡ Ok tt = cc in
        let l : body_of s k (head_size h.date) ≡ Ok tt = cc in
        record { is = rw (i, j, t) refl; long = body_long s k (head_size h.date) l }

pub verdict_head : (s : List ℕ) (e : Refusal) → parse s ≡ fault e → Err e ≡ verdict_of (parse s)
verdict_head s e p = rw p refl

pub verdict_body : (s : List ℕ) (r : Result FileHead Refusal) → r ≡ head_of s → (h : FileHead) → r ≡ Ok h → (k : ℕ) → k ≡ size_of h.nmax
    → (start : ℕ) → start ≡ head_size h.date → (a : Result ⊤ Refusal) → a ≡ body_of s k start → a ≡ verdict_of (parse s)
verdict_body s r p h q k n start z (Ok _) u = let y = readable s r p h q k n start z (Ok tt) u refl in rw y.is refl
verdict_body s r p h q k n start z (Err e) u = let y = refused_by_body s r p h q k n start z (Err e) u e refl in rw y refl

pub read_fault : (s : List ℕ) (lc ls : ℕ) (e : Refusal) → parse s ≡ fault e → Err e ≡ read_answer (parse s) lc ls
read_fault s lc ls e p = rw p refl

module _ (s : List ℕ) (h : FileHead) (k : ℕ) (y : Readable s h k) where
  words : (at : ℕ) → length (words_at s k (head_size h.date + at)) ≡ k
  words at = length_words s k (head_size h.date + at)

  pub read_space_c : (lc ls : ℕ) → lc < k → Err Space ≡ read_answer (parse s) lc ls
  unfolding refuse
  read_space_c lc ls b = simp (y.is, words 1, lt-ltb lc k b)

  pub read_space_s : (lc ls : ℕ) → k ≤ lc → ls < k → Err Space ≡ read_answer (parse s) lc ls
  unfolding refuse
  read_space_s lc ls b d = simp (y.is, words 1, words 9, le-ltb lc k b, lt-ltb ls k d)

  pub read_done : (lc ls : ℕ) → k ≤ lc → k ≤ ls → Ok h ≡ read_answer (parse s) lc ls
  unfolding refuse
  read_done lc ls b d = simp (y.is, words 1, words 9, le-ltb lc k b, le-ltb ls k d)

  pub read_c : (start : ℕ) → start ≡ head_size h.date → (d d' : List ℕ) → d' ≡ store 0 (words_at s k (start + 1)) d → d' ≡ store 0 (c_of (parse s)) d
  read_c start z d d' e = rw (y.is, ← z) e

  pub read_s : (start : ℕ) → start ≡ head_size h.date → (d d' : List ℕ) → d' ≡ store 0 (words_at s k (start + 9)) d → d' ≡ store 0 (s_of (parse s)) d
  read_s start z d d' e = rw (y.is, ← z) e

-- ---- `write`

module _ (date : Option ℤ) (n lc ls lo : ℕ) where
  pub write_size : 2700 < n → Err Size ≡ write_answer date n lc ls lo
  unfolding write_answer refuse
  write_size h = simp (lt-ltb 2700 n h)

  module _ (h : n ≤ 2700) (k : ℕ) (t : k ≡ size_of n) where
    full : k ≡ table_size n
    full = t ∙ size_is n h

    pub write_length_c : (lc ≡ k → ⊥) → Err Length ≡ write_answer date n lc ls lo
    unfolding write_answer refuse
    write_length_c c = rw (← full) (simp (le-ltb 2700 n h, ne_eqb lc k c))

    pub write_length_s : lc ≡ k → (ls ≡ k → ⊥) → Err Length ≡ write_answer date n lc ls lo
    unfolding write_answer refuse
    write_length_s c s = rw (← full) (simp (le-ltb 2700 n h, eq-eqb lc k c, ne_eqb ls k s))

    pub write_space : lc ≡ k → ls ≡ k → lo < head_size date + 17 * k + 1 → Err Space ≡ write_answer date n lc ls lo
    unfolding write_answer refuse
    write_space c s o = rw (← full) (simp (le-ltb 2700 n h, eq-eqb lc k c, eq-eqb ls k s, lt-ltb lo (head_size date + 17 * k + 1) o))

    pub write_done : lc ≡ k → ls ≡ k → head_size date + 17 * k + 1 ≤ lo → Ok tt ≡ write_answer date n lc ls lo
    unfolding write_answer refuse
    write_done c s o = rw (← full) (simp (le-ltb 2700 n h, eq-eqb lc k c, eq-eqb ls k s, le-ltb lo (head_size date + 17 * k + 1) o))
