-- What is decided of sound logs answers the bytes that spell them.
use Rattle.std.proofs.Common.{◌≡◌, ℕ, ◌≤◌, List, [], ◌∷◌, ◌++◌, length, All, Option, Some, None, IfSome, slice_get, refl, sym, subst, inl, inr}
use Rattle.std.specs.Prelude.{◌↔◌}
use Rattle.std.proofs.lemmas.Option.{slice_get_within}
use Rattle.std.specs.List.{AllByRecursion}
use Rattle.std.proofs.lemmas.List.Elements.{All-from_recursion, recursion_from_All}
use Rattle.sgt_names.proofs.Places.{All_at, All-from_at}
use Rattle.sgt_names.specs.Limits.{max_sites}
use Rattle.sgt_names.specs.declared.outcome.Outcome.{Outcome}
use Rattle.sgt_names.specs.declared.outcome.Outcome.TheVariants.{Yes, No, Unreadable}
use Rattle.sgt_bundle.specs.Text.{IsCertificate, IsDecision, IsStep, certificate_text}
use Rattle.sgt_bundle.specs.Valid.{AreLogged, IsValid}
use Rattle.sgt_bundle.specs.declared.certificate.Certificate.{Certificate}
use Rattle.sgt_bundle.specs.declared.certificate.Decision.{Decision}
use Rattle.sgt_bundle.specs.declared.certificate.Decision.TheVariants.{Commit, Refuse, Withdraw}
use Rattle.sgt_bundle.specs.declared.certificate.Step.{Step}
use Rattle.sgt_bundle.specs.declared.bundle.SiteLog.{SiteLog}
use Rattle.sgt_certify_faults.specs.Faults.{IsFaultless}
use Rattle.sgt_certify_logs.specs.Certifiable.{IsWithLine, SpellsLogs}
use Rattle.sgt_certify_logs.specs.Sound.{AreSound, SpellsSoundLogs}
use Rattle.sgt_certify_logs.proofs.Inserted.{logs-one, with-bundle}
use Rattle.sgt_certify.specs.Answer.{Excludes, HasCertificate, IsAnswer, IsCertified, IsCertifiedBy, IsFirst, refusal_text}
use Rattle.std.specs.List.{flat_map}
use Rattle.sgt_certify_logs.specs.Witness.{EndsBefore, PrecedesCommitted}
use Rattle.sgt_certify_greedy.proofs.Rings.{ring-cycle}
use Rattle.sgt_certify.specs.Lines.{AreLinesOf, IsShownBy, tx_line}
use Rattle.sgt_certify.specs.Reasons.{IsDecidedAnswer}
use Rattle.sgt_certify.specs.declared.refuting.Refusal.{Refusal}
use Rattle.sgt_certify.specs.declared.refuting.Refusal.TheVariants.{Order, Ranks, Walk}
use Rattle.sgt_certify.proofs.Made.{certified-from, none-shown}

-- the steps of a logged walk are at sites that there are
steps-within : (sites : List SiteLog) (t : ℕ) (walk : List Step) → AreLogged sites t walk
    → All (IsStep max_sites) walk → All (IsStep (length sites)) walk
steps-within sites t walk logged steps =
    All-from_recursion (IsStep (length sites)) walk
    (go t walk logged (recursion_from_All (IsStep max_sites) walk steps))
  where
    go : (t : ℕ) (walk : List Step) → AreLogged sites t walk → AllByRecursion (IsStep max_sites) walk
        → AllByRecursion (IsStep (length sites)) walk
    go t [] logged steps = tt
    go t (s ∷ walk) logged steps = (
      (steps.0.0, slice_get_within sites s.label.site logged.0.0 logged.0.1, steps.0.2),
      go s.to walk logged.1 steps.1,
    )

-- the decisions of a valid bundle are in their ranges
decision-within : (c : Certificate) (sites : List SiteLog) (n : ℕ) (d : Decision)
    → IsValid (record { certificate = c; sites = sites })
    → slice_get c.decisions n ≡ Some d → IsDecision max_sites d → IsDecision (length sites) d
decision-within c sites n (Commit t rank) valid at is = is
decision-within c sites n (Refuse t walk) valid at is =
    (is.0, steps-within sites t walk (valid.cycles n t walk at).1 is.1)
decision-within c sites n (Withdraw t) valid at is = is

-- a certificate that has a line and makes the logs valid is one of its format
pub certificate-within : (c : Certificate) (bytes : List ℕ) (sites : List SiteLog) → SpellsLogs bytes sites
    → IsValid (record { certificate = c; sites = sites })
    → c.sites ≡ length sites → All (IsDecision max_sites) c.decisions → IsCertificate c
certificate-within c bytes sites logs valid many ds = (
  subst (λ n. 1 ≤ n) (sym many) logs.shape.some,
  subst (λ n. n ≤ max_sites) (sym many) logs.shape.few,
  subst (λ n. All (IsDecision n) c.decisions) (sym many)
      (All-from_at (IsDecision (length sites)) c.decisions
      (λ n d at. decision-within c sites n d valid at (All_at (IsDecision max_sites) c.decisions n d ds at))),
)

-- the bytes with its line put in
pub certified-by : (c : Certificate) (bytes line text : List ℕ) → IsCertifiedBy bytes c
    → All (IsDecision max_sites) c.decisions → line ≡ certificate_text c
    → IsWithLine bytes line text → IsCertified bytes text
certified-by c bytes line text (sites, logs, valid, many) ds is made =
    let with = subst (λ l. IsWithLine bytes l text) is made in
    certified-from bytes text (certificate_text c) (record { certificate = c; sites = sites }) with
    (with-bundle bytes text c sites with (certificate-within c bytes sites logs valid many ds) many logs) valid

-- what the slow search shows excludes a certificate
pub shown-excludes : (refusal : Refusal) (sites : List SiteLog) (txs : List ℕ) → IsShownBy refusal sites txs
    → Excludes refusal sites
shown-excludes Order sites txs ring = ring-cycle (EndsBefore sites) txs ring
shown-excludes Ranks sites txs ring = ring-cycle (PrecedesCommitted sites) txs ring
shown-excludes Walk sites txs stuck = (txs, stuck)

pub brief-lines : (refusal : Refusal) (sites : List SiteLog) (txs lines : List ℕ) → IsShownBy refusal sites txs
    → lines ≡ flat_map tx_line txs
    → AreLinesOf refusal sites lines
brief-lines Order sites txs lines shown are = inr (txs, shown, are)
brief-lines Ranks sites txs lines shown are = inr (txs, shown, are)
brief-lines Walk sites txs lines shown are = inr (txs, shown, are)

-- what the logs have refuses the bytes
pub refused-by : (refusal : Refusal) (bytes lines text txs : List ℕ) (sites : List SiteLog)
    → text ≡ refusal_text refusal ++ lines → lines ≡ flat_map tx_line txs
    → IsFaultless bytes → SpellsLogs bytes sites → IsShownBy refusal sites txs → IsFirst refusal sites
    → IsAnswer bytes No text
refused-by refusal bytes lines text txs sites told are faultless logs shown first =
    let excludes = shown-excludes refusal sites txs shown in
    inl (record {
      refusal = refusal;
      lines = lines;
      told = told;
      sites = sites;
      logs = logs;
      faultless = faultless;
      shown = excludes;
      first = first;
      lines_are = brief-lines refusal sites txs lines shown are;
      none = none-shown refusal bytes sites logs excludes;
    })

pub told-yes : (bytes text : List ℕ) (outcome : Outcome) → (outcome ≡ Yes) × IsCertified bytes text
    → IsAnswer bytes outcome text × IsDecidedAnswer bytes outcome text
told-yes bytes text outcome (said, is) =
    subst (λ (o : Outcome). IsAnswer bytes o text × IsDecidedAnswer bytes o text) (sym said) (is, is)

pub told-no : (bytes text : List ℕ) (outcome : Outcome) (refusal : Refusal) (sites : List SiteLog) (txs : List ℕ)
    → (outcome ≡ No) × (text ≡ refusal_text refusal ++ flat_map tx_line txs) → IsFaultless bytes
    → SpellsLogs bytes sites → IsShownBy refusal sites txs
    → IsFirst refusal sites → IsAnswer bytes outcome text × IsDecidedAnswer bytes outcome text
told-no bytes text outcome refusal sites txs (said, told) faultless logs shown first =
    subst (λ (o : Outcome). IsAnswer bytes o text × IsDecidedAnswer bytes o text) (sym said) (
      refused-by refusal bytes (flat_map tx_line txs) text txs sites told refl faultless logs shown first,
      (refusal, sites, txs, logs, shown, first, told),
    )

-- the logs that sound bytes spell are sound
pub logs-sound : (bytes : List ℕ) (sites : List SiteLog) → SpellsLogs bytes sites → SpellsSoundLogs bytes
    → AreSound sites
logs-sound bytes sites logs (others, spelled, sound) = subst AreSound (logs-one bytes others sites spelled logs) sound

-- a yes is told exactly where there is a certificate
pub yes-exact : (bytes text : List ℕ) (outcome : Outcome) → IsAnswer bytes outcome text
    → (outcome ≡ Yes ↔ HasCertificate bytes)
yes-exact bytes text Yes answer = (
  λ _. (answer.bundle.sites, answer.logs, (answer.bundle.certificate, answer.valid)),
  λ _. refl,
)
yes-exact bytes text No (inl refused) = (λ no. absurd cc, λ has. absurd (refused.none has.0 has.1 has.2))
yes-exact bytes text No (inr faulty) = (λ no. absurd cc, λ has. absurd (faulty.none has.0 has.1 has.2))
yes-exact bytes text Unreadable answer = absurd answer

pub told-exact : (told : Option (List ℕ)) (text : List ℕ) (outcome : Outcome)
    → IfSome told (λ bytes. IsAnswer bytes outcome text)
    → IfSome told (λ bytes. outcome ≡ Yes ↔ HasCertificate bytes)
told-exact None text outcome answer = tt
told-exact (Some bytes) text outcome answer = yes-exact bytes text outcome answer
