-- Text as it stands between markup.
use Rattle.std.specs.Prelude.{◌≡◌, ◌≢◌, ◌==◌, ◌⊎◌, ℕ, List, [], ◌∷◌, All, codes, flat_map, if◌then◌else◌}

-- a byte that is no part of markup
abbrev pub IsPlain : ℕ → Type 0
IsPlain b = (b ≢ 60) × (b ≢ 62) × (b ≢ 38) × (b ≢ 34) × (b ≢ 39)

-- what stands for one of the five bytes of markup: < > & " '
abbrev pub IsEntity : List ℕ → Type 0
IsEntity text = (text ≡ codes "&lt;") ⊎ (text ≡ codes "&gt;") ⊎ (text ≡ codes "&amp;") ⊎ (text ≡ codes "&quot;") ⊎ (text ≡ codes "&#39;")

-- none of the five bytes of markup stands in the text but in an entity
abbrev pub IsClean : List ℕ → Type 0
IsClean text = (pieces : List (List ℕ)) × All (λ piece. IsEntity piece ⊎ All IsPlain piece) pieces
    × (text ≡ flat_map (λ (piece : List ℕ). piece) pieces)

-- a byte as it is written: by its entity, where it has one
abbrev pub written_byte : ℕ → List ℕ
written_byte b =
    if b == 60 then codes "&lt;"
    else if b == 62 then codes "&gt;"
    else if b == 38 then codes "&amp;"
    else if b == 34 then codes "&quot;"
    else if b == 39 then codes "&#39;"
    else b ∷ []

-- a text as it is written
abbrev pub written : List ℕ → List ℕ
written text = flat_map written_byte text
