-- Where the operations of a line stand, and the items of operations.
use Rattle.std.proofs.Common.{◌≡◌, ℕ, zero, suc, ◌+◌, ◌-◌, ◌<◌, ◌≤◌, List, [], ◌∷◌, Some, length, take, drop, refl, sym, ap, ◌∙◌, subst, arith, All, get_or, add-one}
use Rattle.std.specs.Prelude.{slice_get}
use Rattle.std.proofs.lemmas.Option.{same_Some, slice_get_within, get_or_from_slice_get, slice_get-get_or}
use Rattle.std.proofs.lemmas.List.Elements.{All-take, All-drop}
use Rattle.sgt_names.proofs.Lists.{within_at, element_at, All-next, All-weaken}
use Rattle.sgt_names.proofs.Places.{All_at}
use Rattle.sgt_history.specs.declared.history.Line.{Line}
use Rattle.sgt_history.specs.declared.history.Operation.{Operation}
use Rattle.sgt_history.specs.Transaction.{Transaction}
use Rattle.sgt_history.specs.Cut.{cut, end_of, EndsRise, EndWithin}
use Rattle.sgt_history_faults.specs.Mine.{IsItemBelow}

pub end_of-take : (from : ℕ) (lines : List Line) (m : ℕ) (k : Line) → slice_get lines m ≡ Some k
    → end_of from (take (suc m) lines) ≡ k.end
end_of-take from [] m k at = absurd (cc (at))
end_of-take from (l ∷ ls) zero k at = ap (λ (u : Line). u.end) (same_Some l k at)
end_of-take from (l ∷ ls) (suc m) k at = end_of-take l.end ls m k at

pub begin-most : (lines : List Line) (n : ℕ) (l : Line) → EndsRise lines → slice_get lines n ≡ Some l
    → end_of 0 (take n lines) ≤ l.end
begin-most lines zero l rise at = omega arith
begin-most lines (suc m) l rise at =
    let lt = slice_get_within lines (suc m) l at in
    let k = within_at lines m (omega (arith, lt)) in
    let less = rise m (suc m) k.0 (omega arith) lt in
    let one = get_or_from_slice_get lines m k.0 k.0 k.1 in
    let two = get_or_from_slice_get lines (suc m) l k.0 at in
    omega (arith, end_of-take 0 lines m k.0 k.1, less, ap (λ (u : Line). u.end) one, ap (λ (u : Line). u.end) two)

pub cut_at : (from : ℕ) (lines : List Line) (n : ℕ) (l : Line) (ops : List (Operation ℕ ℕ)) → slice_get lines n ≡ Some l
    → slice_get (cut from lines ops) n
    ≡ Some (record {
      commits = l.commits;
      operations =
          take (l.end - end_of from (take n lines)) (drop (end_of from (take n lines)) ops);
    })
cut_at from [] n l ops at = absurd (cc (at))
cut_at from (k ∷ ks) zero l ops at =
    ap (λ (u : Line). Some (record { commits = u.commits; operations = take (u.end - from) (drop from ops) }))
    (same_Some k l at)
cut_at from (k ∷ ks) (suc n) l ops at = cut_at k.end ks n l ops at

pub length-cut : (from : ℕ) (lines : List Line) (ops : List (Operation ℕ ℕ))
    → length (cut from lines ops) ≡ length lines
length-cut from [] ops = refl
length-cut from (l ∷ ls) ops = ap suc (length-cut l.end ls ops)

pub items-next : (items next k : ℕ) (xs : List (Operation ℕ ℕ)) (d : Operation ℕ ℕ) → k < length xs → items ≤ next
    → (get_or xs k d).item + 1 ≤ next
    → All (IsItemBelow items) (take k xs) → All (IsItemBelow next) (take (k + 1) xs)
items-next items next k xs d lt most this all =
    All-next (IsItemBelow next) xs k (get_or xs k d) (slice_get-get_or xs k d lt) (omega (arith, this))
    (All-weaken (IsItemBelow items) (IsItemBelow next) (take k xs) (λ o h. omega (arith, h, most)) all)

pub line-is : (lines : List Line) (n : ℕ) (l : Line) (begin : ℕ) (ops part : List (Operation ℕ ℕ))
    → slice_get lines n ≡ Some l
    → begin ≡ end_of 0 (take n lines) → part ≡ ops
    → slice_get (cut 0 lines ops) n ≡ Some (record {
      commits = l.commits;
      operations =
          take (l.end - begin) (drop begin part);
    })
line-is lines n l begin ops part at b p = rw (b, p) (cut_at 0 lines n l ops at)

pub begin-next : (lines : List Line) (n : ℕ) (l : Line) → n < length lines → l ≡ get_or lines n l
    → l.end ≡ end_of 0 (take (n + 1) lines)
begin-next lines n l lt is = rw add-one (sym (end_of-take 0 lines n l (element_at lines n l lt is)))

pub items-part : (items n k : ℕ) (ops part : List (Operation ℕ ℕ)) → part ≡ ops → All (IsItemBelow items) ops
    → All (IsItemBelow items) (take n (drop k part))
items-part items n k ops part same all =
    rw same (All-take (IsItemBelow items) n (drop k ops) (All-drop (IsItemBelow items) k ops all))
