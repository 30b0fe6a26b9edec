-- No markup stands in a text that is written.
use Rattle.std.proofs.Common.{◌≡◌, ◌⊎◌, ℕ, List, [], ◌∷◌, codes, inl, inr, map, refl, sym, subst}
use Rattle.std.specs.List.{All}
use Rattle.std.proofs.lemmas.Bool.{ne_eqb}
use Rattle.std.proofs.lemmas.Bool.Decides.{eqb_tells}
use Rattle.std.proofs.lemmas.List.Elements.{All-cons, All-nil, All-map}
use Rattle.std.proofs.lemmas.List.Folds.{flat_map-map}
use Rattle.sgt_markup.specs.Written.{IsClean, IsEntity, IsPlain, written, written_byte}

-- a byte that is no part of markup is written as it is
pub as-it-is : (b : ℕ) → IsPlain b → written_byte b ≡ b ∷ []
as-it-is b is = rw (ne_eqb b 60 is.0, ne_eqb b 62 is.1, ne_eqb b 38 is.2, ne_eqb b 34 is.3, ne_eqb b 39 is.4) refl

-- a byte is written by an entity, or it is no part of markup
pub forms : (b : ℕ) → IsEntity (written_byte b) ⊎ IsPlain b
forms b = elim (eqb_tells b 60) [
  | inl is ↦ (let e : written_byte b ≡ codes "&lt;" = rw is.0 refl in inl (inl e))
  | inr l ↦ elim (eqb_tells b 62) [
    | inl is ↦ (let e : written_byte b ≡ codes "&gt;" = rw (l.0, is.0) refl in inl (inr (inl e)))
    | inr g ↦ elim (eqb_tells b 38) [
      | inl is ↦ (let e : written_byte b ≡ codes "&amp;" = rw (l.0, g.0, is.0) refl in inl (inr (inr (inl e))))
      | inr a ↦ elim (eqb_tells b 34) [
        | inl is ↦ (let e : written_byte b ≡ codes "&quot;" = rw (l.0, g.0, a.0, is.0) refl in inl (inr (inr (inr (inl e)))))
        | inr q ↦ elim (eqb_tells b 39) [
          | inl is ↦ (let e : written_byte b ≡ codes "&#39;" = rw (l.0, g.0, a.0, q.0, is.0) refl in inl (inr (inr (inr (inr e)))))
          | inr s ↦ inr (l.1, g.1, a.1, q.1, s.1)
        ]
      ]
    ]
  ]
]

abbrev IsPiece : List ℕ → Type 0
IsPiece piece = IsEntity piece ⊎ All IsPlain piece

piece : (b : ℕ) → IsPiece (written_byte b)
piece b = elim (forms b) [
  | inl entity ↦ inl entity
  | inr is ↦ inr (subst (λ (t : List ℕ). All IsPlain t) (sym (as-it-is b is)) (All-cons IsPlain b [] is (All-nil IsPlain)))
]

pieces : (text : List ℕ) → All (λ b. IsPiece (written_byte b)) text
pieces [] = All-nil _
pieces (b ∷ text) = All-cons (λ b. IsPiece (written_byte b)) b text (piece b) (pieces text)

pub written-clean : (text : List ℕ) → IsClean (written text)
written-clean text = (
  map written_byte text,
  All-map IsPiece written_byte text (pieces text),
  sym (flat_map-map (λ (p : List ℕ). p) written_byte text),
)
