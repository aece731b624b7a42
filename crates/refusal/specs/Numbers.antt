-- What calls answer, document 01's number of each refusal, and what a place holds after a call that may be refused. Assumes nothing.
use Rattle.std.specs.Prelude.{◌≡◌, refl, Bool, true, false, cond, ℕ, List, drop, Result, Ok, Err, ⊤}
use Rattle.std.proofs.Common.{sym, ap, subst, ◌∙◌, arith}
use Rattle.refusal.specs.declared.Refusal.{Refusal}
use Rattle.refusal.specs.declared.Refusal.TheVariants.{Size, Length, Space, Place, Love, Short, Kind, After, Tide}

abbrev pub refusal_number : Refusal → ℕ
refusal_number Size = 1
refusal_number Length = 2
refusal_number Space = 3
refusal_number Place = 4
refusal_number Love = 5
refusal_number Short = 6
refusal_number Kind = 7
refusal_number After = 8
refusal_number Tide = 9

-- 0 where the call is done
abbrev pub result_number : {A : Type 0} → Result A Refusal → ℕ
result_number (Ok x) = 0
result_number (Err e) = refusal_number e

-- no refusal has the number 0
pub refusal_above_0 : (e : Refusal) → refusal_number e ≡ 0 → ⊥
refusal_above_0 Size h = omega (arith, h)
refusal_above_0 Length h = omega (arith, h)
refusal_above_0 Space h = omega (arith, h)
refusal_above_0 Place h = omega (arith, h)
refusal_above_0 Love h = omega (arith, h)
refusal_above_0 Short h = omega (arith, h)
refusal_above_0 Kind h = omega (arith, h)
refusal_above_0 After h = omega (arith, h)
refusal_above_0 Tide h = omega (arith, h)

-- so 0 tells that a call is done
pub done_by_number : (a : Result ⊤ Refusal) → result_number a ≡ 0 → a ≡ Ok tt
done_by_number (Ok x) h = refl
done_by_number (Err e) h = absurd (refusal_above_0 e h)

-- whether a call is done, or why not, without what it hands back
abbrev pub outcome : {A : Type 0} → Result A Refusal → Result ⊤ Refusal
outcome (Ok x) = Ok tt
outcome (Err e) = Err e

-- a value, where the checks before it are passed
abbrev pub value_if : {A : Type 0} → Result ⊤ Refusal → A → Result A Refusal
value_if (Ok u) x = Ok x
value_if (Err e) x = Err e

-- the answer tells its checks, and has their number
pub outcome_is : {A : Type 0} (a : Result ⊤ Refusal) (x : A) {r : Result A Refusal} → r ≡ value_if a x → outcome r ≡ a
outcome_is {A} (Ok u) x e = ap (λ (r : Result A Refusal). outcome r) e
outcome_is {A} (Err f) x e = ap (λ (r : Result A Refusal). outcome r) e

pub number_is : {A : Type 0} (a : Result ⊤ Refusal) (x : A) {r : Result A Refusal} → r ≡ value_if a x → result_number r ≡ result_number a
number_is {A} (Ok u) x e = ap (λ (r : Result A Refusal). result_number r) e
number_is {A} (Err f) x e = ap (λ (r : Result A Refusal). result_number r) e

-- what a place that was lent for the value holds afterwards
abbrev pub value_after : {A : Type 0} → Result A Refusal → A → A
value_after (Ok x) old = x
value_after (Err e) old = old

-- what holds of every value that is answered holds of the place that was lent, where the call's number is 0
pub value_by_number : {A : Type 0} (P : A → Type 0) (a : Result A Refusal) (old : A) {x : ℕ} {now : A} → x ≡ result_number a → now ≡ value_after a old
    → ((v : A) → a ≡ Ok v → P v) → x ≡ 0 → P now
value_by_number P (Ok v) old p q holds h = subst P (sym q) (holds v refl)
value_by_number P (Err e) old p q holds h = absurd (refusal_above_0 e (sym p ∙ h))

-- what a list holds after a call that answered: what the work makes of it, or, refused, what it held
abbrev pub after {ℓ} : {A : Type ℓ} → Result ⊤ Refusal → A → A → A
after (Ok u) made old = made
after (Err e) made old = old

-- so for the place of a value
pub value_is : {A : Type 0} (a : Result ⊤ Refusal) (x old : A) {r : Result A Refusal} → r ≡ value_if a x → value_after r old ≡ after a x old
value_is {A} (Ok u) x old e = ap (λ (r : Result A Refusal). value_after r old) e
value_is {A} (Err f) x old e = ap (λ (r : Result A Refusal). value_after r old) e

-- the part of a working list that a call leaves alone: what stands behind the first k numbers or, refused, all
abbrev pub behind {ℓ} : {A : Type ℓ} → Result ⊤ Refusal → ℕ → List A → List A
behind (Ok u) k l = drop k l
behind (Err e) k l = l

-- a ground that holds refuses, before what comes after it is looked at
unfoldable pub refuse : {A : Type 0} → Bool → Refusal → Result A Refusal → Result A Refusal
refuse reason e other = cond reason (Err e) other

pub refuse_yes : {A : Type 0} {reason : Bool} (e : Refusal) (other : Result A Refusal) → reason ≡ true → refuse reason e other ≡ Err e
unfolding refuse
refuse_yes e other h = rw h refl

pub refuse_no : {A : Type 0} {reason : Bool} (e : Refusal) (other : Result A Refusal) → reason ≡ false → refuse reason e other ≡ other
unfolding refuse
refuse_no e other h = rw h refl

infixr 20 ◌and_then◌
-- the checks a, and where they are passed the checks b
abbrev pub ◌and_then◌ : {A : Type 0} → Result ⊤ Refusal → Result A Refusal → Result A Refusal
Ok u and_then b = b
Err e and_then b = Err e

pub both : (a b : Result ⊤ Refusal) → Ok tt ≡ a and_then b → (Ok tt ≡ a) × (Ok tt ≡ b)
both (Ok u) b h = (refl, h)
both (Err e) b h = absurd (let z : ◌≡◌ {A = ℕ} 0 1 = cc in omega arith)

-- a refusal of the first checks stands; where they are passed, what the others say does
pub refused_then : {A : Type 0} {a : Result ⊤ Refusal} (e : Refusal) (b : Result A Refusal) → Err e ≡ a → Err e ≡ a and_then b
refused_then e b h = ap (λ (x : Result ⊤ Refusal). x and_then b) h

pub done_then : {A : Type 0} {a : Result ⊤ Refusal} {b r : Result A Refusal} → Ok tt ≡ a → r ≡ b → r ≡ a and_then b
done_then {A} {a} {b} h g = g ∙ ap (λ (x : Result ⊤ Refusal). x and_then b) h
