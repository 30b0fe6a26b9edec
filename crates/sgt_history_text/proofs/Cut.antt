-- Texts by where they end: how many, one more, one of them.
use Rattle.std.proofs.Common.{suc, zero, ◌≡◌, ℕ, ◌-◌, ◌<◌, ◌≤◌, List, [], ◌∷◌, ◌++◌, length, take, drop, get_or, slice_get, Some, refl, ap, sym, ◌∙◌, subst, arith, length-drop, length-append}
use Rattle.std.proofs.lemmas.List.{take-append-le, drop-append-le, take_all, drop_at}
use Rattle.sgt_history_text.specs.Pool.{texts_from, begin_of, RiseTo}

pub length-texts : (begin : ℕ) (ends bytes : List ℕ) → length (texts_from begin ends bytes) ≡ length ends
length-texts begin [] bytes = refl
length-texts begin (end ∷ ends) bytes = ap suc (length-texts end ends bytes)

abbrev begin_from : ℕ → List ℕ → ℕ → ℕ
begin_from begin ends zero = begin
begin_from begin ends (suc n) = get_or ends n 0

at : (begin : ℕ) (ends bytes : List ℕ) (n : ℕ) → n < length ends
    → slice_get (texts_from begin ends bytes) n ≡ Some
    (take (get_or ends n 0 - begin_from begin ends n) (drop (begin_from begin ends n) bytes))
at begin [] bytes n h = absurd (omega arith)
at begin (end ∷ ends) bytes zero h = refl
at begin (end ∷ ends) bytes (suc zero) h = at end ends bytes zero (omega arith)
at begin (end ∷ ends) bytes (suc (suc n)) h = at end ends bytes (suc n) (omega arith)

same_begin : (ends : List ℕ) (n : ℕ) → begin_from 0 ends n ≡ begin_of ends n
same_begin ends zero = refl
same_begin ends (suc n) = refl

-- a text
pub text_at : (ends bytes : List ℕ) (n : ℕ) → n < length ends
    → slice_get (texts_from 0 ends bytes) n ≡ Some
    (take (get_or ends n 0 - begin_of ends n) (drop (begin_of ends n) bytes))
text_at ends bytes n h =
    subst (λ b. slice_get (texts_from 0 ends bytes) n ≡ Some (take (get_or ends n 0 - b) (drop b bytes)))
    (same_begin ends n) (at 0 ends bytes n h)

pub rise-le : (last begin : ℕ) (ends : List ℕ) → RiseTo last begin ends → begin ≤ last
rise-le last begin [] r = omega arith
rise-le last begin (e ∷ es) r = omega (arith, rise-le last e es r.1)

-- its end, and its begin before that
pub end-le : (last begin : ℕ) (ends : List ℕ) (n : ℕ) → RiseTo last begin ends → n < length ends
    → get_or ends n 0 ≤ last
end-le last begin [] n r h = absurd (omega arith)
end-le last begin (e ∷ es) zero r h = rise-le last e es r.1
end-le last begin (e ∷ es) (suc n) r h = end-le last e es n r.1 (omega arith)

begin-le' : (last begin : ℕ) (ends : List ℕ) (n : ℕ) → RiseTo last begin ends → n < length ends
    → begin_from begin ends n ≤ get_or ends n 0
begin-le' last begin [] n r h = absurd (omega arith)
begin-le' last begin (e ∷ es) zero r h = r.0
begin-le' last begin (e ∷ es) (suc zero) r h = begin-le' last e es zero r.1 (omega arith)
begin-le' last begin (e ∷ es) (suc (suc n)) r h = begin-le' last e es (suc n) r.1 (omega arith)

pub begin-le : (last : ℕ) (ends : List ℕ) (n : ℕ) → RiseTo last 0 ends → n < length ends
    → begin_of ends n ≤ get_or ends n 0
begin-le last ends n r h = subst (λ b. b ≤ get_or ends n 0) (same_begin ends n) (begin-le' last 0 ends n r h)

pub rise_push : (last more begin : ℕ) (ends : List ℕ) → RiseTo last begin ends → last ≤ more
    → RiseTo more begin (ends ++ more ∷ [])
rise_push last more begin [] r h = (omega arith, refl)
rise_push last more begin (e ∷ es) r h = (r.0, rise_push last more e es r.1 h)

take_more : (e from : ℕ) (bytes more : List ℕ) → e ≤ length bytes → from ≤ length bytes
    → take (e - from) (drop from (bytes ++ more)) ≡ take (e - from) (drop from bytes)
take_more e from bytes more h k =
    let one = drop-append-le from bytes more k in
    let room : e - from ≤ length (drop from bytes) = omega (arith, length-drop from bytes) in
    rw one (take-append-le (e - from) (drop from bytes) more room)

last_text : (begin end : ℕ) (bytes text : List ℕ) → begin ≡ length bytes → end ≡ length (bytes ++ text)
    → take (end - begin) (drop begin (bytes ++ text)) ≡ text
last_text begin end bytes text e f =
    ap (take (end - begin)) (drop_at bytes text begin (sym e))
    ∙ take_all (end - begin) text (omega (arith, length-append bytes text))

-- one more text
pub texts_push : (begin end : ℕ) (ends bytes text : List ℕ) → RiseTo (length bytes) begin ends
    → end ≡ length (bytes ++ text)
    → texts_from begin (ends ++ end ∷ []) (bytes ++ text) ≡ texts_from begin ends bytes ++ text ∷ []
texts_push begin end [] bytes text r f = ap (λ t. t ∷ []) (last_text begin end bytes text r f)
texts_push begin end (e ∷ es) bytes text r f =
    let first = take_more e begin bytes text (rise-le _ e es r.1) (omega (arith, rise-le _ e es r.1, r.0)) in
    let rest = texts_push e end es bytes text r.1 f in
    λ i. first i ∷ rest i
