-- `head` meets its contract. Assumes nothing.
use Rattle.model_file.specs.Head.{head_absent, head_kind_lem, head_body, head_tide, head_size_lem, head_model}
use Rattle.model_file.specs.Dates.{size_least}
use Rattle.model_file.specs.Format.{date_at}
use native.Mathlib.Omega.{arith}
use borrow.Author.Rules.{rules}
use Rattle.model_file.proofs.head.Goals as goal

pub returns-then-bytes-eq0 : goal.returns-then-bytes-eq0
returns-then-bytes-eq0 c = head_absent c.args.bytes.now (omega arith)

pub returns-then-not-is_head : goal.returns-then-not-is_head
returns-then-not-is_head c = head_kind_lem c.args.bytes.now (omega arith) (cc)

pub returns-then-bytes-size_of_head : goal.returns-then-bytes-size_of_head
returns-then-bytes-size_of_head c =
    let a = c.args in
    let size-of-head = c.size_of_head in
    head_body a.bytes.now (omega arith) (cc) (omega (arith, size-of-head.ensures))

pub bounds-bytes-17 : goal.bounds-bytes-17
bounds-bytes-17 c =
    let size-of-head = c.size_of_head in
    let a = c.args in
    omega (arith, size-of-head.ensures, size_least (date_at a.bytes.now))

pub returns-then-tide-gt3 : goal.returns-then-tide-gt3
returns-then-tide-gt3 c =
    let a = c.args in
    let size-of-head = c.size_of_head in
    head_tide a.bytes.now (omega arith) (cc) (omega (arith, size-of-head.ensures)) (omega arith)

pub read_degree-nmax-requires : goal.read_degree-nmax-requires
read_degree-nmax-requires c =
    let size-of-head = c.size_of_head in
    let a = c.args in
    omega (arith, size-of-head.ensures, size_least (date_at a.bytes.now))

pub returns-then-nmax-gt-MAX_DEGREE : goal.returns-then-nmax-gt-MAX_DEGREE
returns-then-nmax-gt-MAX_DEGREE c =
    let a = c.args in
    let size-of-head = c.size_of_head in
    let read-degree = c.read_degree-nmax in
    head_size_lem a.bytes.now (omega arith) (cc) (omega (arith, size-of-head.ensures)) (omega arith) (omega (arith, read-degree.ensures))

pub read_word-requires : goal.read_word-requires
read_word-requires c =
    let size-of-head = c.size_of_head in
    let a = c.args in
    omega (arith, size-of-head.ensures, size_least (date_at a.bytes.now))

pub read_word-requires-2 : goal.read_word-requires-2
read_word-requires-2 c =
    let size-of-head = c.size_of_head in
    let a = c.args in
    omega (arith, size-of-head.ensures, size_least (date_at a.bytes.now))

pub read_date-requires : goal.read_date-requires
read_date-requires c = record { fact_1 = omega arith; fact_2 = omega (arith, c.size_of_head.ensures) }

pub returns : goal.returns
returns c =
    let a = c.args in
    let size-of-head = c.size_of_head in
    let read-degree = c.read_degree-nmax in
    cc (head_model a.bytes.now (omega arith) (cc) (omega (arith, size-of-head.ensures)) (omega arith) (omega (arith, read-degree.ensures)))
