-- What an explanation of logs writes.
use Rattle.std.specs.Prelude.{◌≡◌, ◌⊎◌, ℕ, Bool, IsTrue, List, [], ◌∷◌, ◌++◌, length, codes, Option, Some, None, IfSome}
use Rattle.std.specs.Io.KnownBytes.{Appends}
use Rattle.sgt_names.specs.Device.{AppendsOrForgets, WritesFront}
use Rattle.sgt_names.specs.declared.outcome.Outcome.{Outcome}
use Rattle.sgt_names.specs.declared.outcome.Outcome.TheVariants.{Yes, No, Unreadable}
use Rattle.sgt_notation.specs.Spelling.{HasNoLf}
use Rattle.sgt_bundle.specs.Text.{format_line}
use Rattle.sgt_certify.specs.Answer.{IsAnswer}
use Rattle.sgt_certify_faults.specs.Faults.{IsFaultless}
use Rattle.sgt_explain_transaction.specs.Dealings.{IsAnyOwn}

-- the text begins with these bytes
abbrev pub BeginsWith : (word text : List ℕ) → Type 0
BeginsWith word text = (rest : List ℕ) × (text ≡ word ++ rest)

-- how logs without a certificate begin: behind the first line of a format comes a line that begins as that of a
-- section does
abbrev pub logs_head : Bool → List ℕ
logs_head second = format_line second ++ 10 ∷ codes "site "

abbrev pub AreLogs : List ℕ → Type 0
AreLogs bytes = (second : Bool) × BeginsWith (logs_head second) bytes

-- these bytes are a front of that, so that more of them may make logs
abbrev pub IsOpenHead : List ℕ → Type 0
IsOpenHead bytes = (second : Bool) × BeginsWith bytes (logs_head second)

-- so far were logs told from all else: no read was made, or what had been read before the last one was such a front
abbrev pub IsPeeked : {R : Type 0} → (old new : R) → (text : List ℕ) → (last : ℕ) → Type 0
IsPeeked old new text last = (new ≡ old)
    ⊎ ((before came : List ℕ) × IsOpenHead before × (text ≡ before ++ came) × (length came ≡ last))

-- the line is the first of the text, without its LF
abbrev pub IsFirstLine : (text line : List ℕ) → Type 0
IsFirstLine text line = (rest : List ℕ) × HasNoLf line × (text ≡ line ++ 10 ∷ rest)

-- how the explanation of an answer of `certify` begins: of a yes with these words, of a no with the
-- answer's first line
abbrev pub IsHead : Outcome → (answer head : List ℕ) → Type 0
IsHead Yes answer head = head ≡ codes "a certificate exists: "
IsHead No answer head = (line : List ℕ) × IsFirstLine answer line × (head ≡ line ++ 10 ∷ [])
IsHead Unreadable answer head = ⊥

abbrev pub Begins : Outcome → (answer text : List ℕ) → Type 0
Begins outcome answer text = (head : List ℕ) × (more : List ℕ) × IsHead outcome answer head
    × (text ≡ head ++ more)

-- the text that bytes are explained by: it begins as the answer of `certify` to them says, whose
-- outcome it has
abbrev pub IsExplained : Option (List ℕ) → Outcome → List ℕ → Type 0
IsExplained told outcome text = (answer : List ℕ) × IfSome told (λ bytes. IsAnswer bytes outcome answer)
    × Begins outcome answer text

-- that text was written
abbrev pub WroteExplained : (told : Option (List ℕ)) → Outcome → (old new : Option (List ℕ)) → Type 0
WroteExplained told outcome old new = (text : List ℕ) × IsExplained told outcome text
    × Appends old new text

-- nothing was written, or a front of that text, and less than the whole
abbrev pub WroteExplainedFront : (told old new : Option (List ℕ)) → Type 0
WroteExplainedFront told old new = AppendsOrForgets old new []
    ⊎ ((outcome : Outcome) × (text : List ℕ) × IsExplained told outcome text × WritesFront old new text)

-- ---- a transaction that is asked for

-- whether it has an entry in the lines before this one; where none is asked for, that is so
abbrev pub IsFoundBefore : List ℕ → (number : ℕ) → Option ℕ → Bool → Type 0
IsFoundBefore bytes number None found = IsTrue found
IsFoundBefore bytes number (Some tx) found = IsAnyOwn bytes number tx found

-- whether it has an entry in logs without a fault
abbrev pub IsFound : List ℕ → Option ℕ → Bool → Type 0
IsFound bytes None found = IsTrue found
IsFound bytes (Some tx) found = IsFaultless bytes → IsAnyOwn bytes 18446744073709551615 tx found
