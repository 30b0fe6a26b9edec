-- What is told of what is asked for: of the refusals of a yes, and of one transaction.
use Rattle.std.specs.Prelude.{◌≡◌, ◌≢◌, ◌⊎◌, ◌↔◌, Bool, IsTrue, ℕ, ◌+◌, List, [], ◌++◌, All, length, Option, Some, None}
use Rattle.sgt_notation.specs.Spelling.{HasNoLf, text_of_lines}
use Rattle.sgt_explain_lines.specs.Numbered.{IsLineAt}
use Rattle.sgt_bundle.specs.Text.{certificate_text, sections_from, IsCertificate, Spells}
use Rattle.sgt_bundle.specs.declared.certificate.Certificate.{Certificate}
use Rattle.sgt_bundle.specs.declared.certificate.Decision.{Decision}
use Rattle.sgt_explain_decisions.specs.Fate.{TellsFate}
use Rattle.sgt_explain_decisions.specs.Placed.{HasDecisionOn}
use Rattle.sgt_explain_decisions.specs.Refusals.{TellsFirstRefusals, TellsRefusals}
use Rattle.sgt_explain_transaction.specs.Dealings.{TellsDealings, TellsOwn, own_of}
use Rattle.sgt_audit.specs.Faults.{FirstFault}
use Rattle.sgt_audit.specs.declared.verdict.Verdict.{Verdict}
use Rattle.sgt_audit.specs.declared.verdict.Verdict.TheVariants.{Yes, No}
use Rattle.sgt_bundle.specs.Parts.{Parts}
use Rattle.sgt_notation.specs.declared.SectionLine.{SectionLine}
use Rattle.sgt_explain.specs.declared.asked.Asked.{Asked}
use Rattle.sgt_explain.specs.declared.asked.Asked.TheVariants.{First, All as Each, Transaction}
use Rattle.sgt_explain.specs.Shown.{lines_before}

-- line 2 of the text is the certificate
abbrev pub HoldsCertificate : List ℕ → Certificate → Type 0
HoldsCertificate bytes c = IsCertificate c × IsLineAt bytes 2 (certificate_text c)

-- the lines of sections that are looked at: those before the first fault, and of a valid bundle all
abbrev pub AreSeen : List ℕ → Verdict → List SectionLine → Type 0
AreSeen bytes (No line f) lines = (first : FirstFault bytes line f) × (lines ≡ lines_before first.stage)
AreSeen bytes (Yes committed refused withdrawn) lines = (b : Parts) × Spells bytes b
    × (lines ≡ sections_from 0 b.sites)

-- the text in which entries are looked for: the lines before the first fault, and all of a valid
-- bundle
abbrev pub IsSeenText : List ℕ → Verdict → List ℕ → Type 0
IsSeenText bytes (No line f) seen = (lines : List (List ℕ)) (rest : List ℕ) → All HasNoLf lines
    → line ≡ length lines + 1 → bytes ≡ text_of_lines lines ++ rest → seen ≡ text_of_lines lines
IsSeenText bytes (Yes committed refused withdrawn) seen = seen ≡ bytes

-- the transaction that is asked for, if one is
abbrev pub transaction_in : Asked → Option ℕ
transaction_in First = None
transaction_in Each = None
transaction_in (Transaction tx) = Some tx

-- of these decisions each refusal is told with its cycle, or the first hundred; none where a transaction is asked for
abbrev pub TellsRefused : Asked → List Decision → List ℕ → (old new : List ℕ) → Type 0
TellsRefused First decisions bytes old new = TellsFirstRefusals decisions bytes old new
TellsRefused Each decisions bytes old new = TellsRefusals decisions bytes old new
TellsRefused (Transaction tx) decisions bytes old new = new ≡ old

-- what a yes means: the refusals of its certificate; nothing where none was refused
abbrev pub TellsYes : List ℕ → Asked → (refused : ℕ) → (old new : List ℕ) → Type 0
TellsYes bytes asked refused old new = ((refused ≡ 0) × (new ≡ old))
    ⊎ ((refused ≢ 0)
    × ((c : Certificate) → HoldsCertificate bytes c → TellsRefused asked c.decisions bytes old new))

abbrev pub TellsIfYes : List ℕ → Asked → Verdict → (old new : List ℕ) → Type 0
TellsIfYes bytes asked (Yes committed refused withdrawn) old new = TellsYes bytes asked refused old new
TellsIfYes bytes asked (No line f) old new = Unit {0}

-- by the certificate of line 2 its decision is told, and then its entries in those lines, all of
-- them, or that it has none there
pub record TellsTransaction (bytes : List ℕ) (v : Verdict) (tx : ℕ) (old new : List ℕ) : Type 0 where
  pub fate : List ℕ
  pub told : (c : Certificate) → HoldsCertificate bytes c
      → (seen : List ℕ) × IsSeenText bytes v seen × TellsFate c.decisions seen tx old fate
  pub dealings : TellsDealings tx fate new
  pub own : (lines : List SectionLine) → AreSeen bytes v lines
      → TellsOwn lines tx (own_of tx lines) fate new

-- nothing is told where none is asked for
abbrev pub TellsAsked : List ℕ → Verdict → Asked → (old new : List ℕ) → Type 0
TellsAsked bytes v First old new = new ≡ old
TellsAsked bytes v Each old new = new ≡ old
TellsAsked bytes v (Transaction tx) old new = TellsTransaction bytes v tx old new

-- the certificate of line 2 has a decision on the transaction
abbrev pub HasDecision : List ℕ → ℕ → Type 0
HasDecision bytes tx = (c : Certificate) × HoldsCertificate bytes c × HasDecisionOn c.decisions tx

-- the text has the transaction: a decision on it, or an entry of it in the lines that are looked at
abbrev pub HasTransaction : List ℕ → Verdict → ℕ → Type 0
HasTransaction bytes v tx = HasDecision bytes tx
    ⊎ ((lines : List SectionLine) × AreSeen bytes v lines × (own_of tx lines ≢ []))

-- whether the text has the transaction that is asked for; so it is where none is
abbrev pub IsFound : List ℕ → Verdict → Asked → Bool → Type 0
IsFound bytes v First found = IsTrue found
IsFound bytes v Each found = IsTrue found
IsFound bytes v (Transaction tx) found = IsTrue found ↔ HasTransaction bytes v tx

-- ---- for private clauses

-- the number of the line that those lines end before, the greatest there is where all are looked at
abbrev pub seen_before : Verdict → ℕ
seen_before (Yes committed refused withdrawn) = 18446744073709551615
seen_before (No line f) = line
