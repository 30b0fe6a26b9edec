-- Operations cut into transactions: one operation more, one line more.
use Rattle.std.proofs.Common.{suc, ◌≡◌, ℕ, ◌-◌, ◌≤◌, List, [], ◌∷◌, ◌++◌, length, take, drop, refl, arith, length-drop}
use Rattle.std.proofs.lemmas.List.{take-append-le, drop-append-le, take_all}
use Rattle.std.proofs.Math.Seq.{drop-length}
use Rattle.sgt_history.specs.declared.history.Line.{Line}
use Rattle.sgt_history.specs.declared.history.Operation.{Operation}
use Rattle.sgt_history.specs.Cut.{cut, end_of, EndWithin}

first_within : (count : ℕ) (l : Line) (ls : List Line) → EndWithin count (l ∷ ls) → l.end ≤ count
first_within count l ls w = w 0 l (omega arith)

rest_within : (count : ℕ) (l : Line) (ls : List Line) → EndWithin count (l ∷ ls) → EndWithin count ls
rest_within count l ls w = λ k d h. w (suc k) d (omega arith)

take_more : (e from : ℕ) (ops more : List (Operation ℕ ℕ)) → e ≤ length ops → from ≤ length ops
    → take (e - from) (drop from (ops ++ more)) ≡ take (e - from) (drop from ops)
take_more e from ops more h k =
    let one = drop-append-le from ops more k in
    let room : e - from ≤ length (drop from ops) = omega (arith, length-drop from ops) in
    rw one (take-append-le (e - from) (drop from ops) more room)

-- the lines are as before where operations come behind them
pub cut-append_operations : (from : ℕ) (lines : List Line) (ops more : List (Operation ℕ ℕ))
    → from ≤ length ops → EndWithin (length ops) lines → cut from lines (ops ++ more) ≡ cut from lines ops
cut-append_operations from [] ops more h w = refl
cut-append_operations from (l ∷ ls) ops more h w =
    let here = first_within (length ops) l ls w in
    let first = take_more l.end from ops more here h in
    let rest = cut-append_operations l.end ls ops more here (rest_within (length ops) l ls w) in
    rw (first, rest) refl

pub end_of-append : (from : ℕ) (lines : List Line) (l : Line) → end_of from (lines ++ l ∷ []) ≡ l.end
end_of-append from [] l = refl
end_of-append from (k ∷ ks) l = end_of-append k.end ks l

pub end_of-within : (count from : ℕ) (lines : List Line) → from ≤ count → EndWithin count lines
    → end_of from lines ≤ count
end_of-within count from [] h w = h
end_of-within count from (l ∷ ls) h w =
    end_of-within count l.end ls (first_within count l ls w) (rest_within count l ls w)

-- a line more
pub cut-append_line : (from : ℕ) (lines : List Line) (l : Line) (ops : List (Operation ℕ ℕ))
    → cut from (lines ++ l ∷ []) ops
    ≡ cut from lines ops ++ record {
      commits = l.commits;
      operations =
          take (l.end - end_of from lines) (drop (end_of from lines) ops);
    } ∷ []
cut-append_line from [] l ops = refl
cut-append_line from (k ∷ ks) l ops =
    rw (cut-append_line k.end ks l ops) refl

-- a line that ends where the operations do has all behind the one before
pub cut-append_last : (from : ℕ) (lines : List Line) (l : Line) (ops : List (Operation ℕ ℕ)) → l.end ≡ length ops
    → cut from (lines ++ l ∷ []) ops
    ≡ cut from lines ops ++ record { commits = l.commits; operations = drop (end_of from lines) ops } ∷ []
cut-append_last from lines l ops e =
    let one = cut-append_line from lines l ops in
    let all = take_all (l.end - end_of from lines) (drop (end_of from lines) ops)
    (omega (arith, length-drop (end_of from lines) ops)) in
    rw (← all) one

pub drop_all : (n : ℕ) (ops : List (Operation ℕ ℕ)) → n ≡ length ops → drop n ops ≡ []
drop_all n ops e = rw e (drop-length ops)
