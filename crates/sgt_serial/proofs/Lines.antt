-- Lines, written one after another.
use Rattle.std.proofs.Common.{◌≡◌, ℕ, ◌+◌, ◌<◌, List, [], ◌∷◌, ◌++◌, length, get_or, take, map, Option, Some, None, refl, sym, ap, ◌∙◌, append_assoc}
use Rattle.std.proofs.lemmas.List.{map-append, append-nil}
use Rattle.std.proofs.lemmas.List.Concat.{flat_map-append}
use Rattle.std.specs.Prelude.{slice_get}
use Rattle.std.specs.List.{filter_map}
use Rattle.std.proofs.lemmas.List.Elements.{filter_map-append}
use Rattle.sgt_names.proofs.Lists.{element_at, take_next}
use Rattle.sgt_notation.specs.Spelling.{text_of_lines}
use Rattle.sgt_serial.specs.private.Written.{with_lf}
use Rattle.sgt_notation.proofs.Texts.{text-append}

-- the line of one element more
text_of_lines-next : {A : Type 0} (line : A → List ℕ) (xs : List A) (i : ℕ) (x : A) → slice_get xs i ≡ Some x
    → text_of_lines (map line (take (i + 1) xs)) ≡ text_of_lines (map line (take i xs)) ++ (line x ++ 10 ∷ [])
text_of_lines-next line xs i x at =
    ap (λ ys. text_of_lines (map line ys)) (take_next xs i x at)
    ∙ ap text_of_lines (map-append line (take i xs) (x ∷ []))
    ∙ flat_map-append with_lf (map line (take i xs)) (line x ∷ [])
    ∙ ap (λ bytes. text_of_lines (map line (take i xs)) ++ bytes) (append-nil (with_lf (line x)))

-- behind what was written before
pub writes-line : {A : Type 0} (line : A → List ℕ) (xs : List A) (i : ℕ) (x : A) → i < length xs → x ≡ get_or xs i x
    → (before out new : List ℕ)
    → out ≡ before ++ text_of_lines (map line (take i xs)) → new ≡ out ++ with_lf (line x)
    → new ≡ before ++ text_of_lines (map line (take (i + 1) xs))
writes-line line xs i x within is before out new so_far wrote =
    wrote ∙ ap (λ bytes. bytes ++ with_lf (line x)) so_far
    ∙ append_assoc before (text_of_lines (map line (take i xs))) (with_lf (line x))
    ∙ ap (λ bytes. before ++ bytes) (sym (text_of_lines-next line xs i x (element_at xs i x within is)))

-- the lines of what is picked
module _ {A B : Type 0} (line : B → List ℕ) (pick : A → Option B) where
  abbrev pub picked_text : List A → List ℕ
  picked_text xs = text_of_lines (map line (filter_map pick xs))

  pub picked-none : (x : A) → pick x ≡ None → picked_text (x ∷ []) ≡ []
  picked-none x none = rw none refl

  pub picked-append : (xs ys : List A) → picked_text (xs ++ ys) ≡ picked_text xs ++ picked_text ys
  picked-append xs ys =
      ap (λ zs. text_of_lines (map line zs)) (filter_map-append pick xs ys)
      ∙ ap text_of_lines (map-append line (filter_map pick xs) (filter_map pick ys))
      ∙ text-append (map line (filter_map pick xs)) (map line (filter_map pick ys))
