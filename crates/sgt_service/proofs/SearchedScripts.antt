-- The lines of scripts are finitely many too.
use Rattle.std.proofs.Common.{◌≡◌, ◌^◌, ℕ, suc, ◌+◌, ◌≤◌, List, [], ◌∷◌, ◌++◌, length, map, take, refl, arith, inl, inr}
use Rattle.std.specs.Prelude.{Any, slice_get}
use Rattle.std.specs.List.{join_with_byte}
use Rattle.std.proofs.lemmas.Bool.{cases_eq}
use Rattle.std.proofs.lemmas.List.{length-append}
use Rattle.std.proofs.lemmas.List.Elements.{All-from_recursion, recursion_from_All}
use Rattle.sgt_names.specs.Limits.{max_line}
use Rattle.sgt_names.specs.Name.{Name, IsName}
use Rattle.sgt_notation.specs.Scripts.{AreSourcesNamed, HasSource, IsOp, IsScript, Names, op_text, script_text}
use Rattle.sgt_notation.specs.Spelling.{IsSite, IsValue}
use Rattle.sgt_notation.specs.declared.script.Op.{Op}
use Rattle.sgt_notation.specs.declared.script.Op.TheVariants.{Read, Put, Add, Sum}
use Rattle.sgt_notation.specs.declared.script.Script.{Script}
use Rattle.sgt_notation.proofs.Decidable.{Decidable, decidable-as, decidable-both, decidable-three, decidable-each, decidable-Any, decidable-most, decidable-text, or_else, IsSearched, searched-below, searched-both}
use Rattle.sgt_input.proofs.SearchedSites.{IsUpTo, searched-lists, searched-places, up_to, up_to-all}

-- ---- operations

abbrev Place : Type 0
Place = ℕ × Name

abbrev IsPlace : Place → Type 0
IsPlace p = IsSite p.0 × IsName p.1

abbrev IsUpdate : Place × ℕ → Type 0
IsUpdate u = IsPlace u.0 × IsValue u.1

searched-updates : IsSearched (Place × ℕ) IsUpdate
searched-updates = searched-both IsPlace IsValue searched-places (searched-below (2 ^ 64))

abbrev IsSum : Place × (Place × ℕ) → Type 0
IsSum s = IsPlace s.0 × IsUpdate s.1

searched-sums : IsSearched (Place × (Place × ℕ)) IsSum
searched-sums = searched-both IsPlace IsUpdate searched-places searched-updates

abbrev read_of : Place → Op
read_of p = Read p.0 p.1

abbrev put_of : Place × ℕ → Op
put_of u = Put u.0.0 u.0.1 u.1

abbrev add_of : Place × ℕ → Op
add_of u = Add u.0.0 u.0.1 u.1

abbrev sum_of : Place × (Place × ℕ) → Op
sum_of s = Sum s.0.0 s.0.1 s.1.0.0 s.1.0.1 s.1.1

module _ (Q : Op → Type 0) where
  abbrev None_of : {A : Type 0} → (A → Type 0) → (A → Op) → Type 0
  None_of {A} Is make = ((a : A) × Is a × Q (make a)) → ⊥

  no-op : None_of IsPlace read_of → None_of IsUpdate put_of → None_of IsUpdate add_of → None_of IsSum sum_of
      → (op : Op) → IsOp op → Q op → ⊥
  no-op r p d u (Read s x) is q = r ((s, x), is, q)
  no-op r p d u (Put s x v) is q = p (((s, x), v), is, q)
  no-op r p d u (Add s x v) is q = d (((s, x), v), is, q)
  no-op r p d u (Sum s x t y v) is q = u (((s, x), ((t, y), v)), is, q)

  op-found : ((op : Op) → Decidable (Q op)) → Decidable ((op : Op) × IsOp op × Q op)
  op-found each =
      or_else (searched-places (λ p. Q (read_of p)) (λ p. each (read_of p))) (λ r. (read_of r.0, r.1, r.2)) (λ reads.
      or_else (searched-updates (λ u. Q (put_of u)) (λ u. each (put_of u))) (λ r. (put_of r.0, r.1, r.2)) (λ puts.
      or_else (searched-updates (λ u. Q (add_of u)) (λ u. each (add_of u))) (λ r. (add_of r.0, r.1, r.2)) (λ adds.
      or_else (searched-sums (λ s. Q (sum_of s)) (λ s. each (sum_of s))) (λ r. (sum_of r.0, r.1, r.2)) (λ sums.
      inr (λ r. no-op reads puts adds sums r.0 r.1 r.2)))))

searched-ops : IsSearched Op IsOp
searched-ops Q each = op-found Q each

-- ---- scripts

op-some : (op : Op) → 1 ≤ length (op_text op)
op-some (Read s x) = omega arith
op-some (Put s x v) = omega arith
op-some (Add s x v) = omega arith
op-some (Sum s x t y v) = omega arith

ops-room : (ops : List Op) → length ops ≤ length (join_with_byte 32 (map op_text ops))
ops-room [] = omega arith
ops-room (op ∷ []) = op-some op
ops-room (op ∷ next ∷ ops) =
    let rest = ops-room (next ∷ ops) in
    let all = length-append (op_text op) (32 ∷ join_with_byte 32 (map op_text (next ∷ ops))) in
    omega (arith, rest, all)

decidable-names : (t : ℕ) (y : Name) (op : Op) → Decidable (Names t y op)
decidable-names t y (Read s x) = decidable-both (cases_eq s t) (decidable-text x y)
decidable-names t y (Put s x v) = decidable-both (cases_eq s t) (decidable-text x y)
decidable-names t y (Add s x v) = inr (λ h. h)
decidable-names t y (Sum s x a b v) = decidable-both (cases_eq s t) (decidable-text x y)

decidable-source : (earlier : List Op) (op : Op) → Decidable (HasSource earlier op)
decidable-source earlier (Sum s x t y v) = decidable-Any (Names t y) (decidable-names t y) earlier
decidable-source earlier _ = inl tt

decidable-sources : (ops : List Op) → Decidable (AreSourcesNamed ops)
decidable-sources ops = decidable-each (λ n op. HasSource (take n ops) op) (λ n op. decidable-source (take n ops) op)
    ops

-- what makes operations a script
abbrev IsWhole : List Op → Type 0
IsWhole ops = (1 ≤ length ops) × (AreSourcesNamed ops × (length (script_text (record { operations = ops })) ≤ max_line))

decidable-whole : (ops : List Op) → Decidable (IsWhole ops)
decidable-whole ops =
    decidable-both (decidable-most 1 (length ops))
    (decidable-both (decidable-sources ops)
    (decidable-most (length (script_text (record { operations = ops }))) max_line))

few-ops : (s : Script) → IsScript s → length s.operations ≤ max_line
few-ops s is = let room = ops-room s.operations in let most = is.room in omega (arith, room, most)

pub searched-scripts : IsSearched Script IsScript
searched-scripts Q each =
    decidable-as (λ r. (
      record { operations = r.0 },
      record {
        each = All-from_recursion IsOp r.0 (up_to-all IsOp max_line r.0 r.1);
        some = r.2.0.0;
        named = r.2.0.1.0;
        room = r.2.0.1.1;
      },
      r.2.1,
    ))
    (λ r. (
      r.0.operations,
      up_to IsOp max_line r.0.operations (recursion_from_All IsOp r.0.operations r.1.each)
          (few-ops r.0 r.1),
      ((r.1.some, (r.1.named, r.1.room)), r.2),
    ))
    (searched-lists IsOp max_line searched-ops (λ (ops : List Op). IsWhole ops × Q (record { operations = ops }))
    (λ ops. decidable-both (decidable-whole ops) (each (record { operations = ops }))))
