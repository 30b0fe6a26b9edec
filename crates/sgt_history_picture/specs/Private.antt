-- A picture as far as it is made.
use Rattle.std.specs.Prelude.{◌≡◌, ◌==◌, ℕ, List, [], ◌∷◌, ◌++◌, if◌then◌else◌}
use Rattle.sgt_history_picture.specs.Drawn.{IsMoreTold}
use Rattle.sgt_history_picture.specs.Label.{box_text, name_text, title_text, words_text}
use Rattle.sgt_history_picture.specs.Told.{Step}

-- how much of `<ti` a text ends with, or that it stands somewhere in it
pub data Seen : Type 0 where
  Elsewhere : Seen
  Bracket : Seen
  Letter : Seen
  Found : Seen

abbrev pub seen : Seen → ℕ → Seen
seen Elsewhere b = if b == 60 then Bracket else Elsewhere
seen Bracket b = if b == 116 then Letter else if b == 60 then Bracket else Elsewhere
seen Letter b = if b == 105 then Found else if b == 60 then Bracket else Elsewhere
seen Found b = Found

abbrev pub sees : Seen → List ℕ → Seen
sees so_far [] = so_far
sees so_far (b ∷ text) = sees (seen so_far b) text

-- `<ti` neither stands in the text nor begins at its end
abbrev pub IsQuiet : List ℕ → Type 0
IsQuiet text = sees Elsewhere text ≡ Elsewhere

-- such a text stands behind what there was
abbrev pub Grows : (old new : List ℕ) → Type 0
Grows old new = (rest : List ℕ) × (new ≡ old ++ rest) × IsQuiet rest

-- the step stands there
pub record IsPut (s : Step) (old new : List ℕ) : Type 0 where
  pub front : List ℕ
  pub frame : List ℕ
  pub link : List ℕ
  pub arrow : List ℕ
  pub is : new ≡ old ++ (front ++ (name_text s.from ++ (frame ++ (box_text s.from ++ (link ++ (title_text s ++ (arrow
      ++ words_text s)))))))
  pub quiet_front : IsQuiet front
  pub quiet_frame : IsQuiet frame
  pub quiet_link : IsQuiet link
  pub quiet_arrow : IsQuiet arrow

-- these steps stand there, and what is quiet behind them
abbrev pub ArePut : List Step → (old new : List ℕ) → Type 0
ArePut [] old new = Grows old new
ArePut (s ∷ steps) old new = (between : List ℕ) × IsPut s old between × ArePut steps between new

-- what is quiet stands behind what there was, and tells how many steps are left out
abbrev pub IsMorePut : ℕ → (old new : List ℕ) → Type 0
IsMorePut more old new = Grows old new × IsMoreTold more new
