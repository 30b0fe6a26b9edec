-- Texts in which no title begins.
use Rattle.std.proofs.Common.{◌≡◌, ℕ, Bool, true, false, List, [], ◌∷◌, ◌++◌, codes, inl, inr, refl, sym, ap, ◌∙◌, append_assoc}
use Rattle.std.proofs.lemmas.Bool.{ne_eqb}
use Rattle.sgt_markup.specs.Escaped.{escaped, mended}
use Rattle.sgt_markup.specs.Written.{IsEntity, written, written_byte}
use Rattle.sgt_markup.proofs.Clean.{as-it-is, forms}
use Rattle.sgt_draw.specs.Picture.{foot_of}
use Rattle.sgt_history_picture.specs.Drawn.{HasNoTitle}
use Rattle.sgt_history_picture.specs.Private.{Bracket, Elsewhere, Found, IsQuiet, Letter, Seen, seen, sees}

pub sees-append : (so_far : Seen) (a b : List ℕ) → sees so_far (a ++ b) ≡ sees (sees so_far a) b
sees-append so_far [] b = refl
sees-append so_far (x ∷ a) b = sees-append (seen so_far x) a b

stays : (text : List ℕ) → sees Found text ≡ Found
stays [] = refl
stays (b ∷ text) = stays text

at_title : (so_far : Seen) (behind : List ℕ) → sees so_far (codes "<title>" ++ behind) ≡ sees Found behind
at_title Elsewhere behind = refl
at_title Bracket behind = refl
at_title Letter behind = refl
at_title Found behind = refl

apart : Found ≡ Elsewhere → ⊥
apart same = absurd cc

pub no-title : (text : List ℕ) → IsQuiet text → HasNoTitle text
no-title text quiet = λ front behind is.
    apart (sym (stays behind) ∙ sym (at_title (sees Elsewhere front) behind) ∙ sym (sees-append Elsewhere front (codes "<title>" ++ behind)) ∙ ap (sees Elsewhere) (sym is) ∙ quiet)

-- ---- what is quiet

pub quiet-append : (a b : List ℕ) → IsQuiet a → IsQuiet b → IsQuiet (a ++ b)
quiet-append a b first second = sees-append Elsewhere a b ∙ ap (λ (s : Seen). sees s b) first ∙ second

pub quiet-text : (text rest : List ℕ) → IsQuiet text → sees Elsewhere (text ++ rest) ≡ sees Elsewhere rest
quiet-text text rest quiet = sees-append Elsewhere text rest ∙ ap (λ (s : Seen). sees s rest) quiet

-- an entity, and what stands behind it
entity : (text rest : List ℕ) → IsEntity text → sees Elsewhere (text ++ rest) ≡ sees Elsewhere rest
entity text rest (inl is) = ap (λ (t : List ℕ). sees Elsewhere (t ++ rest)) is
entity text rest (inr (inl is)) = ap (λ (t : List ℕ). sees Elsewhere (t ++ rest)) is
entity text rest (inr (inr (inl is))) = ap (λ (t : List ℕ). sees Elsewhere (t ++ rest)) is
entity text rest (inr (inr (inr (inl is)))) = ap (λ (t : List ℕ). sees Elsewhere (t ++ rest)) is
entity text rest (inr (inr (inr (inr is)))) = ap (λ (t : List ℕ). sees Elsewhere (t ++ rest)) is

-- a byte as it is written
byte : (b : ℕ) (rest : List ℕ) → sees Elsewhere (written_byte b ++ rest) ≡ sees Elsewhere rest
byte b rest = elim (forms b) [
  | inl is ↦ entity (written_byte b) rest is
  | inr is ↦ (let f : sees Elsewhere (b ∷ rest) ≡ sees Elsewhere rest = rw (ne_eqb b 60 is.0) refl in
      ap (λ (t : List ℕ). sees Elsewhere (t ++ rest)) (as-it-is b is) ∙ f)
]

bytes : (text rest : List ℕ) → sees Elsewhere (written text ++ rest) ≡ sees Elsewhere rest
bytes [] rest = refl
bytes (b ∷ text) rest =
    ap (sees Elsewhere) (append_assoc (written_byte b) (written text) rest) ∙ byte b (written text ++ rest)
    ∙ bytes text rest

-- a name, and what stands behind it
pub quiet-name : (name rest : List ℕ) → sees Elsewhere (escaped name ++ rest) ≡ sees Elsewhere rest
quiet-name name rest = bytes (mended name) rest

pub quiet-foot : (is_dot : Bool) → IsQuiet (foot_of is_dot)
quiet-foot true = refl
quiet-foot false = refl
