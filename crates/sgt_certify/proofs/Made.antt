-- What a text with a line put in shows of the bytes without it.
use Rattle.std.proofs.Common.{◌≡◌, ℕ, ◌≤◌, Bool, true, List, [], ◌∷◌, ◌++◌, length, map, Option, Some, None, IfSome, IfNone, sym, ap, ap₂, ◌∙◌, subst, inr, append_assoc}
use Rattle.std.proofs.lemmas.List.{append-nil}
use Rattle.std.proofs.lemmas.List.Elements.{All-nil}
use Rattle.sgt_names.specs.declared.outcome.Outcome.{Outcome}
use Rattle.sgt_names.specs.declared.outcome.Outcome.TheVariants.{No}
use Rattle.sgt_notation.specs.Spelling.{HasNoLf, line_text, text_of_lines}
use Rattle.sgt_names.specs.Limits.{max_sites}
use Rattle.sgt_notation.proofs.OneSpelling.{cut_at_byte}
use Rattle.sgt_audit.proofs.OneFault.{has_lf}
use Rattle.sgt_bundle.specs.Parts.{Parts}
use Rattle.sgt_bundle.specs.Text.{IsDecision, Spells, certificate_text, format_line, sections_from}
use Rattle.sgt_bundle.proofs.Reading.{certificate-one}
use Rattle.sgt_bundle.specs.declared.certificate.Certificate.{Certificate}
use Rattle.sgt_bundle.specs.Valid.{IsValid}
use Rattle.sgt_bundle.specs.declared.bundle.SiteLog.{SiteLog}
use Rattle.sgt_audit.specs.Spelled.{AnswersBundle}
use Rattle.sgt_certify_logs.specs.Certifiable.{AreCertifiable, HasNoCertificate, IsWithLine, SpellsLogs}
use Rattle.sgt_certify_logs.proofs.Cycles.{conflicts-no_cycle, ends-no_cycle}
use Rattle.sgt_certify_logs.proofs.Inserted.{logs-one, with-bundle, with-logs}
use Rattle.sgt_certify_logs.proofs.Stuck.{stuck-none}
use Rattle.sgt_audit.specs.declared.faults.Fault.{Fault}
use Rattle.sgt_audit.specs.Faults.{fault_number}
use Rattle.sgt_certify_faults.specs.Faults.{GoesOn, IsFirstFault}
use Rattle.sgt_certify_faults.proofs.NoCertificate.{fault-none}
use Rattle.sgt_certify.specs.Answer.{Excludes, IsAnswer, IsCertified, IsTaken, fault_text}
use Rattle.sgt_certify.specs.declared.refuting.Refusal.{Refusal}
use Rattle.sgt_certify.specs.declared.refuting.Refusal.TheVariants.{Order, Ranks, Walk}
use Rattle.sgt_notation.proofs.Texts.{has_no_lf, first_line}

-- two lines with their LFs, and a rest, put behind one another
pub put-together : (first second rest a b c d e : List ℕ) → a ≡ first → b ≡ a ++ 10 ∷ [] → c ≡ b ++ second
    → d ≡ c ++ 10 ∷ [] → e ≡ d ++ rest
    → e ≡ first ++ 10 ∷ (second ++ 10 ∷ rest)
put-together first second rest a b c d e ea eb ec ed ee =
    ee ∙ ap (λ (t : List ℕ). t ++ rest) (ed
    ∙ ap (λ (t : List ℕ). t ++ 10 ∷ []) (ec
    ∙ ap (λ (t : List ℕ). t ++ second) (eb ∙ ap (λ (t : List ℕ). t ++ 10 ∷ []) ea)))
    ∙ simp append_assoc

pub certified-from : (bytes text line : List ℕ) (b : Parts) → IsWithLine bytes line text → Spells text b → IsValid b
    → IsCertified bytes text
certified-from bytes text line b made s valid =
    let w = with-logs bytes line text b made s in
    record { bundle = b; logs = w.0; line = subst (λ l. IsWithLine bytes l text) w.1 made; spelled = s; valid = valid }

-- the logs of a bundle that was read are those of the bytes without its certificate
pub answers-logs : (bytes line text : List ℕ) (found : Option Parts) → IsWithLine bytes line text
    → AnswersBundle text found
    → IfSome found (λ b. SpellsLogs bytes b.sites)
answers-logs bytes line text None made answers = tt
answers-logs bytes line text (Some b) made answers = (with-logs bytes line text b made answers).0

-- where no bundle was read, the bytes spell no logs of so many sites
pub answers-none : (bytes text : List ℕ) (count : ℕ) (found : Option Parts)
    → IsWithLine bytes (certificate_text (record { decisions = []; sites = count })) text
    → AnswersBundle text found → IfNone found ((logs : List SiteLog) → SpellsLogs bytes logs → length logs ≡ count → ⊥)
answers-none bytes text count (Some b) made answers = tt
answers-none bytes text count None made answers =
    λ logs spelled many.
    let empty : Certificate = record { decisions = []; sites = count } in
    answers (record { certificate = empty; sites = logs }) (with-bundle bytes text empty logs made (
      subst (λ n. 1 ≤ n) many spelled.shape.some,
      subst (λ n. n ≤ max_sites) many spelled.shape.few,
      All-nil (IsDecision count),
    ) (sym many) spelled)

-- they are of as many sites as the certificate says with which they were read
pub answers-many : (bytes text : List ℕ) (count : ℕ) (found : Option Parts) → (1 ≤ count) × (count ≤ max_sites)
    → IsWithLine bytes (certificate_text (record { decisions = []; sites = count })) text → AnswersBundle text found
    → IfSome found (λ b. length b.sites ≡ count)
answers-many bytes text count None range made answers = tt
answers-many bytes text count (Some b) range made answers =
    let empty : Certificate = record { decisions = []; sites = count } in
    let line = (with-logs bytes (certificate_text empty) text b made answers).1 in
    let one = certificate-one empty b.certificate (range.0, range.1, All-nil (IsDecision count)) answers.certificate
    line in
    answers.shape.each ∙ sym (ap (λ (c : Certificate). c.sites) one)

-- logs have a line
pub no-logs : (bytes : List ℕ) → HasNoLf bytes → (logs : List SiteLog) → SpellsLogs bytes logs → ⊥
no-logs bytes none logs spelled =
    let body : List (List ℕ) = map line_text (sections_from 0 logs) in
    has_lf (format_line spelled.second) (text_of_lines body) (subst HasNoLf (spelled.text
    ∙ first_line (format_line spelled.second) body) none)

-- what excludes a certificate of the logs excludes one of the bytes
none-from : (bytes : List ℕ) (sites : List SiteLog) → SpellsLogs bytes sites → (AreCertifiable sites → ⊥)
    → HasNoCertificate bytes
none-from bytes sites spelled none other h can = none (subst AreCertifiable (logs-one bytes other sites h spelled) can)

pub none-shown : (refusal : Refusal) (bytes : List ℕ) (sites : List SiteLog) → SpellsLogs bytes sites
    → Excludes refusal sites → HasNoCertificate bytes
none-shown Order bytes sites spelled shown = none-from bytes sites spelled (ends-no_cycle sites shown)
none-shown Ranks bytes sites spelled shown = none-from bytes sites spelled (conflicts-no_cycle sites shown)
none-shown Walk bytes sites spelled shown = none-from bytes sites spelled (stuck-none sites shown.0 shown.1)

-- the answer to all texts that go on so is that to the bytes that were told
pub taken-answer : (told : Option (List ℕ)) (text written : List ℕ) (all : Bool) (outcome : Outcome)
    → IsTaken told text all
    → ((more : List ℕ) → GoesOn all more → IsAnswer (text ++ more) outcome written)
    → IfSome told (λ bytes. IsAnswer bytes outcome written)
taken-answer None text written all outcome taken answer = tt
taken-answer (Some bytes) text written all outcome (more, is, goes) answer =
    subst (λ t. IsAnswer t outcome written) (sym is) (answer more goes)

-- the answer to all texts with this fault is that to the bytes that were told
pub fault-answer : (told : Option (List ℕ)) (written : List ℕ) (line : ℕ) (fault : Fault) (outcome : Outcome)
    → IfSome told (λ bytes. IsFirstFault bytes line fault)
    → ((bytes : List ℕ) → IsFirstFault bytes line fault → IsAnswer bytes outcome written)
    → IfSome told (λ bytes. IsAnswer bytes outcome written)
fault-answer None written line fault outcome first answer = tt
fault-answer (Some bytes) written line fault outcome first answer = answer bytes first

-- the answer to a text is that to it with nothing behind it
pub whole-answer : (text written : List ℕ) (outcome : Outcome) → IsAnswer text outcome written → (more : List ℕ)
    → GoesOn true more → IsAnswer (text ++ more) outcome written
whole-answer text written outcome answer more none =
    subst (λ t. IsAnswer t outcome written) (sym (ap (λ (t : List ℕ). text ++ t) none ∙ append-nil text)) answer

-- the first fault that the bytes have
pub faulty-answer : (bytes written : List ℕ) (line : ℕ) (fault : Fault) → IsFirstFault bytes line fault
    → written ≡ fault_text line (fault_number fault) → IsAnswer bytes No written
faulty-answer bytes written line fault shown told =
    inr (record {
      line = line;
      fault = fault;
      told = told;
      shown = shown;
      none =
          fault-none bytes line fault shown.has;
    })

-- ---- the text again

-- a text with a line put in is that text, where its second line is taken out
pub without-line : (bytes line made first behind second rest : List ℕ) → IsWithLine bytes line made → HasNoLf first
    → made ≡ first ++ 10 ∷ behind → HasNoLf second → behind ≡ second ++ 10 ∷ rest
    → first ++ 10 ∷ rest ≡ bytes
without-line bytes line made first behind second rest w one cut two cut_behind =
    let outer = cut_at_byte 10 first w.front behind (line ++ 10 ∷ w.rest) (has_no_lf first one)
    (has_no_lf w.front w.first) (sym cut ∙ w.made) in
    let inner = cut_at_byte 10 second line rest w.rest (has_no_lf second two) (has_no_lf line w.one) (sym cut_behind
    ∙ outer.1) in
    ap₂ (λ (f r : List ℕ). f ++ 10 ∷ r) outer.0 inner.1 ∙ sym w.given

pub no-second : (bytes line made first behind : List ℕ) → IsWithLine bytes line made → HasNoLf first
    → made ≡ first ++ 10 ∷ behind → HasNoLf behind → ⊥
no-second bytes line made first behind w one cut none =
    let outer = cut_at_byte 10 first w.front behind (line ++ 10 ∷ w.rest) (has_no_lf first one)
    (has_no_lf w.front w.first) (sym cut ∙ w.made) in
    has_lf line w.rest (subst HasNoLf outer.1 none)
