-- The model file by document 01, with the dates of document 02 (W1): what a file says or why it is refused, by position, front to back; and the file of a model. Definitions only.
use Rattle.std.specs.Prelude.{ℕ, zero, suc, ◌+◌, ◌*◌, Bool, not, cond, ◌||◌, List, [], ◌∷◌, ◌++◌, length, get_or, ltb, leb, eqb, Err, None, Ok, Option, Result, Some, ℤ, ⊤}
use Rattle.refusal.specs.declared.Refusal.{Refusal}
use Rattle.refusal.specs.declared.Refusal.TheVariants.{Size, Short, Kind, After}
use Rattle.refusal.specs.declared.Refusal.TheVariants.{Tide as BadTide}
use Rattle.refusal.specs.Numbers.{refuse}
use Rattle.storage.specs.Triangle.{table_size}
use Rattle.days.specs.Days.{pattern_of, days_of}
use Rattle.coefficients.specs.Model.{tide_number, tide_of}
use Rattle.model_file.specs.declared.FileHead.{FileHead}
use Rattle.model_file.specs.LittleEndian.{bytes_of, number_at, words_at}

-- ---- the head: kind 1 and a body of 19 bytes, or, of a model with a date, kind 4 and the same body followed by the day count in four bytes
abbrev pub is_head : ℕ → Bool
is_head kind = eqb kind 1 || eqb kind 4

abbrev pub head_kind : Option ℤ → ℕ
head_kind None = 1
head_kind (Some d) = 4

-- the bytes of the record, kind and body
abbrev pub head_size : Option ℤ → ℕ
head_size None = 20
head_size (Some d) = 24

abbrev pub date_bytes : Option ℤ → List ℕ
date_bytes None = []
date_bytes (Some d) = bytes_of 4 (pattern_of d)

-- the date of a head, by whether it has one; and by its kind
abbrev pub date_by : Bool → List ℕ → Option ℤ
date_by dated s = cond dated (Some (days_of (number_at 4 s 20))) None

abbrev pub date_at : List ℕ → Option ℤ
date_at s = date_by (eqb (get_or s 0 0) 4) s

-- the bytes of a file of N's size
abbrev pub file_size : Option ℤ → ℕ → ℕ
file_size date N = head_size date + 17 * table_size N + 1

-- the numbers of a head's body: gm, radius, tide and N, then the date
abbrev pub head_at : List ℕ → FileHead
head_at s = record { gm = number_at 8 s 1; radius = number_at 8 s 9; tide = tide_of (get_or s 17 0); date = date_at s; nmax = number_at 2 s 18 }

unfoldable pub head_of : List ℕ → Result FileHead Refusal
head_of s =
    refuse (leb (length s) 0) Short
    (refuse (not (is_head (get_or s 0 0))) Kind
    (refuse (ltb (length s) (head_size (date_at s))) Short
    (refuse (ltb 3 (get_or s 17 0)) BadTide (refuse (ltb 2700 (number_at 2 s 18)) Size
    (Ok (head_at s))))))

-- from index at on: so many pairs, each of kind 2 with a body of 16 bytes, then an end of kind 3 without a body, and nothing behind it
unfoldable pub body_of : List ℕ → ℕ → ℕ → Result ⊤ Refusal
body_of s zero at =
    refuse (leb (length s) at) Short
    (refuse (not (eqb (get_or s at 0) 3)) Kind
    (refuse (ltb (at + 1) (length s)) After
    (Ok tt)))
body_of s (suc count) at =
    refuse (leb (length s) at) Short
    (refuse (not (eqb (get_or s at 0) 2)) Kind
    (refuse (ltb (length s) (at + 17)) Short
    (body_of s count (at + 17))))

-- what a file says: a head with the lists c and s of its pairs, or why it is refused
pub data Parsed : Type 0 where
  model : FileHead → List ℕ → List ℕ → Parsed
  fault : Refusal → Parsed

-- behind an accepted head, by what its records say
abbrev pub parse_body : Result ⊤ Refusal → FileHead → List ℕ → Parsed
parse_body (Ok _) h s = model h (words_at s (table_size h.nmax) (head_size h.date + 1)) (words_at s (table_size h.nmax) (head_size h.date + 9))
parse_body (Err e) h s = fault e

abbrev pub parse_head : Result FileHead Refusal → List ℕ → Parsed
parse_head (Ok h) s = parse_body (body_of s (table_size h.nmax) (head_size h.date)) h s
parse_head (Err e) s = fault e

-- what the file s says
unfoldable pub parse : List ℕ → Parsed
parse s = parse_head (head_of s) s

-- the record of a head
unfoldable pub head_bytes : FileHead → List ℕ
head_bytes h =
    (head_kind h.date ∷ bytes_of 8 h.gm) ++ (bytes_of 8 h.radius ++ (tide_number h.tide ∷ (bytes_of 2 h.nmax ++ date_bytes h.date)))

-- the record of a pair
unfoldable pub pair_bytes : ℕ → ℕ → List ℕ
pair_bytes c s = (2 ∷ bytes_of 8 c) ++ bytes_of 8 s

-- the records of the pairs, and the end's
unfoldable pub record_bytes : List ℕ → List ℕ → List ℕ
record_bytes [] ss = 3 ∷ []
record_bytes (c ∷ cs) [] = 3 ∷ []
record_bytes (c ∷ cs) (s ∷ ss) = pair_bytes c s ++ record_bytes cs ss

-- the file of a model
unfoldable pub render : FileHead → List ℕ → List ℕ → List ℕ
render h c s = head_bytes h ++ record_bytes c s
