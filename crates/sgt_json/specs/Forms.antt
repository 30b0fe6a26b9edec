-- The lines of answers, and what each tells.
use Rattle.std.specs.Prelude.{ℕ, List, [], ◌∷◌, Option, Some, None, codes}
use Rattle.sgt_json.specs.Told.{Piece, Fixed, Blanks, Number, Json, Text, Rest, Fault, Member, told}

-- the first, if there is one, and else the second
abbrev pub or_else : Option (List ℕ) → Option (List ℕ) → Option (List ℕ)
or_else (Some text) other = Some text
or_else None other = other

abbrev pub or_nothing : Option (List ℕ) → List ℕ
or_nothing (Some text) = text
or_nothing None = []

-- `yes C committed R refused W withdrawn`
abbrev pub yes_form : List Piece
yes_form = Fixed (codes "yes ") ∷ Number (codes ",\"committed\":") ∷ Fixed (codes " committed ")
    ∷ Number (codes ",\"refused\":") ∷ Fixed (codes " refused ") ∷ Number (codes ",\"withdrawn\":")
    ∷ Fixed (codes " withdrawn") ∷ []

-- `yes C committed A aborted`
abbrev pub history_yes_form : List Piece
history_yes_form = Fixed (codes "yes ") ∷ Number (codes ",\"committed\":") ∷ Fixed (codes " committed ")
    ∷ Number (codes ",\"aborted\":") ∷ Fixed (codes " aborted") ∷ []

-- `a certificate exists: C committed R refused W withdrawn`
abbrev pub exists_form : List Piece
exists_form = Fixed (codes "a certificate exists: ") ∷ Number (codes ",\"committed\":")
    ∷ Fixed (codes " committed ") ∷ Number (codes ",\"refused\":") ∷ Fixed (codes " refused ")
    ∷ Number (codes ",\"withdrawn\":") ∷ Fixed (codes " withdrawn") ∷ []

-- `no line L FN`
abbrev pub no_line_form : List Piece
no_line_form = Fixed (codes "no line ") ∷ Number (codes ",\"line\":") ∷ Fixed (codes " ") ∷ Fault ∷ []

-- `no ranks`, `no G-single`
abbrev pub no_form : List Piece
no_form = Fixed (codes "no ") ∷ Fault ∷ []

-- `! L1 line L`
abbrev pub unread_form : List Piece
unread_form = Fixed (codes "! ") ∷ Text (codes ",\"fault\":") (codes " line ") ∷ Number (codes ",\"line\":")
    ∷ []

-- `A before B site S lines P Q`
abbrev pub before_form : List Piece
before_form = Number (codes ",\"from\":") ∷ Fixed (codes " before ") ∷ Number (codes ",\"to\":")
    ∷ Fixed (codes " site ") ∷ Number (codes ",\"site\":") ∷ Fixed (codes " lines ")
    ∷ Number (codes ",\"lines\":[") ∷ Fixed (codes " ") ∷ Number (codes ",") ∷ Member (codes "]") ∷ []

-- `A KIND B site S item X lines P Q`
abbrev pub conflict_form : List Piece
conflict_form = Number (codes ",\"from\":") ∷ Fixed (codes " ") ∷ Text (codes ",\"kind\":") (codes " ")
    ∷ Number (codes ",\"to\":") ∷ Fixed (codes " site ") ∷ Number (codes ",\"site\":") ∷ Fixed (codes " item ")
    ∷ Text (codes ",\"item\":") (codes " lines ") ∷ Number (codes ",\"lines\":[") ∷ Fixed (codes " ")
    ∷ Number (codes ",") ∷ Member (codes "]") ∷ []

-- `cTX site S line L`
abbrev pub commit_form : List Piece
commit_form = Fixed (codes "c") ∷ Number (codes ",\"tx\":") ∷ Fixed (codes " site ")
    ∷ Number (codes ",\"site\":") ∷ Fixed (codes " line ") ∷ Number (codes ",\"line\":")
    ∷ Member (codes ",\"end\":\"commit\"") ∷ []

-- `nTX site S line L`
abbrev pub refusal_form : List Piece
refusal_form = Fixed (codes "n") ∷ Number (codes ",\"tx\":") ∷ Fixed (codes " site ")
    ∷ Number (codes ",\"site\":") ∷ Fixed (codes " line ") ∷ Number (codes ",\"line\":")
    ∷ Member (codes ",\"end\":\"refuse\"") ∷ []

-- `aTX site S line L`
abbrev pub withdrawal_form : List Piece
withdrawal_form = Fixed (codes "a") ∷ Number (codes ",\"tx\":") ∷ Fixed (codes " site ")
    ∷ Number (codes ",\"site\":") ∷ Fixed (codes " line ") ∷ Number (codes ",\"line\":")
    ∷ Member (codes ",\"end\":\"withdraw\"") ∷ []

-- `FROM po TO session S lines I J`
abbrev pub session_form : List Piece
session_form = Json (codes ",\"from\":") ∷ Fixed (codes " po ") ∷ Json (codes ",\"to\":")
    ∷ Member (codes ",\"kind\":\"po\"") ∷ Fixed (codes " session ") ∷ Json (codes ",\"session\":")
    ∷ Fixed (codes " lines ") ∷ Number (codes ",\"lines\":[") ∷ Fixed (codes " ") ∷ Number (codes ",")
    ∷ Member (codes "]") ∷ []

-- `FROM rt TO done D begin B lines I J`
abbrev pub moment_form : List Piece
moment_form = Json (codes ",\"from\":") ∷ Fixed (codes " rt ") ∷ Json (codes ",\"to\":")
    ∷ Member (codes ",\"kind\":\"rt\"") ∷ Fixed (codes " done ") ∷ Number (codes ",\"done\":")
    ∷ Fixed (codes " begin ") ∷ Number (codes ",\"begin\":") ∷ Fixed (codes " lines ")
    ∷ Number (codes ",\"lines\":[") ∷ Fixed (codes " ") ∷ Number (codes ",") ∷ Member (codes "]") ∷ []

-- `FROM KIND TO ITEM V V' lines I J`
abbrev pub step_form : List Piece
step_form = Json (codes ",\"from\":") ∷ Fixed (codes " ") ∷ Text (codes ",\"kind\":") (codes " ")
    ∷ Json (codes ",\"to\":") ∷ Fixed (codes " ") ∷ Json (codes ",\"item\":") ∷ Fixed (codes " ")
    ∷ Number (codes ",\"versions\":[") ∷ Fixed (codes " ") ∷ Number (codes ",") ∷ Member (codes "]")
    ∷ Fixed (codes " lines ") ∷ Number (codes ",\"lines\":[") ∷ Fixed (codes " ") ∷ Number (codes ",")
    ∷ Member (codes "]") ∷ []

-- `line L ID r ITEM V`
abbrev pub operation_form : List Piece
operation_form = Fixed (codes "line ") ∷ Number (codes ",\"line\":") ∷ Fixed (codes " ")
    ∷ Json (codes ",\"tx\":") ∷ Fixed (codes " ") ∷ Text (codes ",\"operation\":") (codes " ")
    ∷ Json (codes ",\"item\":") ∷ Fixed (codes " ") ∷ Number (codes ",\"version\":") ∷ []

-- the same, and what is told behind it
abbrev pub told_form : List Piece
told_form = Fixed (codes "line ") ∷ Number (codes ",\"line\":") ∷ Fixed (codes " ") ∷ Json (codes ",\"tx\":")
    ∷ Fixed (codes " ") ∷ Text (codes ",\"operation\":") (codes " ") ∷ Json (codes ",\"item\":")
    ∷ Fixed (codes " ") ∷ Number (codes ",\"version\":") ∷ Fixed (codes " ") ∷ Rest (codes ",\"about\":") ∷ []

-- `order line L`
abbrev pub order_form : List Piece
order_form = Fixed (codes "order line ") ∷ Number (codes ",\"line\":") ∷ []

-- `  1 read x before 2 wrote it: site S, lines P and Q`
abbrev pub explained_form : List Piece
explained_form = Fixed (codes "  ") ∷ Number (codes ",\"from\":") ∷ Fixed (codes " ")
    ∷ Text (codes ",\"did\":") (codes " before ") ∷ Number (codes ",\"to\":") ∷ Fixed (codes " ")
    ∷ Text (codes ",\"then\":") (codes ": site ") ∷ Number (codes ",\"site\":") ∷ Fixed (codes ", lines ")
    ∷ Number (codes ",\"lines\":[") ∷ Fixed (codes " and ") ∷ Number (codes ",") ∷ Member (codes "]") ∷ []

-- `   7 | w1[alice]=20     transaction 1 wrote it`
abbrev pub shown_form : List Piece
shown_form = Blanks ∷ Number (codes ",\"line\":") ∷ Fixed (codes " | ") ∷ Rest (codes ",\"entry\":") ∷ []

-- the counts of a yes
abbrev pub yes_told : List ℕ → Option (List ℕ)
yes_told line = or_else (told yes_form line) (or_else (told history_yes_form line) (told exists_form line))

-- what is named behind a no, or of a line that can't be read
abbrev pub no_told : List ℕ → Option (List ℕ)
no_told line = or_else (told no_line_form line) (or_else (told no_form line) (told unread_form line))

-- a step of what `sgt certify` tells
abbrev pub cycle_told : List ℕ → Option (List ℕ)
cycle_told line = or_else (told before_form line) (told conflict_form line)

-- an end that could be decided next
abbrev pub end_told : List ℕ → Option (List ℕ)
end_told line = or_else (told commit_form line) (or_else (told refusal_form line) (told withdrawal_form line))

-- a step of what `sgt check` tells
abbrev pub step_told : List ℕ → Option (List ℕ)
step_told line = or_else (told session_form line) (or_else (told moment_form line) (told step_form line))

-- what `sgt check` tells of one line
abbrev pub operation_told : List ℕ → Option (List ℕ)
operation_told line = or_else (told operation_form line) (or_else (told told_form line) (told order_form line))

-- what `sgt explain` tells of two lines, or of one
abbrev pub explained_told : List ℕ → Option (List ℕ)
explained_told line = or_else (told explained_form line) (told shown_form line)

-- what a line tells that isn't the first
abbrev pub further_told : List ℕ → Option (List ℕ)
further_told line = or_else (cycle_told line) (or_else (end_told line) (or_else (step_told line)
    (or_else (operation_told line) (explained_told line))))

-- the members that a line tells, each with a comma in front
unfoldable pub members_of : List ℕ → List ℕ
members_of line = or_nothing (or_else (yes_told line) (or_else (no_told line) (further_told line)))
