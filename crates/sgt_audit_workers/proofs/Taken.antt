-- What the workers found, one after another.
use Rattle.std.proofs.Common.{◌≡◌, ℕ, suc, ◌+◌, ◌*◌, ◌≤◌, Bool, IsTrue, List, [], ◌∷◌, ◌++◌, length, map, Option, Some, None, IfSome, refl, sym, ap, ◌∙◌, subst, arith, zero-add}
use Rattle.std.specs.Prelude.{Result, Ok, Err, IfOk, ◌≢◌}
use Rattle.std.specs.Io.KnownBytes.{Consumes, IsAtEnd}
use Rattle.std.proofs.KnownBytes.{Consumes-nil, Consumes-trans}
use Rattle.std.proofs.Math.Nat.{mul-le-mul_right, suc-mul}
use Rattle.std.proofs.lemmas.List.{append-nil, length-append}
use Rattle.sgt_notation.specs.Spelling.{line_text, text_of_lines}
use Rattle.sgt_notation.specs.declared.SectionLine.{SectionLine}
use Rattle.sgt_bundle.specs.Text.{certificate_text, format_line, section_lines, sections_from}
use Rattle.sgt_bundle.specs.declared.bundle.SiteLog.{SiteLog}
use Rattle.sgt_bundle.specs.declared.certificate.Certificate.{Certificate}
use Rattle.sgt_bundle.specs.declared.certificate.Decision.{Decision}
use Rattle.sgt_audit.specs.Faults.{FirstFault, lines_so_far, reach, within}
use Rattle.sgt_audit.specs.Verdict.{IsVerdict, yes_of}
use Rattle.sgt_audit.specs.declared.faults.Fault.{Fault}
use Rattle.sgt_audit.specs.declared.verdict.Verdict.{Verdict}
use Rattle.sgt_audit.specs.declared.verdict.Verdict.TheVariants.{No}
use Rattle.sgt_audit.proofs.MayFollow.{sections-append}
use Rattle.sgt_audit.proofs.Verdicts.{verdict-one}
use Rattle.sgt_audit_sections.specs.Judged.{IsJudgedSection, IsWhole}
use Rattle.sgt_audit_sections.specs.Sections.{AllStepsAreFound, IsFaultlessCertificate, front_text}
use Rattle.sgt_audit_sections.specs.declared.judging.Judged.{Judged}
use Rattle.sgt_audit_sections.proofs.SectionFaults.{text-split}
use Rattle.sgt_audit_workers.specs.Reads.{Reader}
use Rattle.sgt_audit_workers.specs.Tallies.{Adds, IsTally, IsVerdictBehind}
use Rattle.sgt_audit_workers.specs.declared.job.Job.{Job}
use Rattle.sgt_audit_workers.specs.Head.{IsHead}
use Rattle.sgt_audit_workers.specs.declared.head.Head.{Head}
use Rattle.sgt_audit_workers.specs.declared.sections.Section.{Section}
use Rattle.sgt_audit_workers.specs.declared.tally.Tally.{Tally}
use Rattle.sgt_audit_workers.specs.private.Jobs.{HasJudged, IsGiven, IsIdle}
use Rattle.sgt_audit_workers.specs.private.Tallied.{IsAnswer, IsFound, IsTallied, second_size}
use Rattle.sgt_audit_workers.specs.private.Texts.{AreAhead, HasAsked}
use Rattle.sgt_audit_workers.proofs.Whole.{yes}
use Rattle.sgt_notation.proofs.Texts.{line_front}

-- ---- one more section

module _ (second : Bool) (c : Certificate) (logs : List SiteLog) (log : SiteLog) where
  one-more : sections_from 0 logs ++ section_lines (length logs) log ≡ sections_from 0 (logs ++ log ∷ [])
  one-more = sym (
      sections-append 0 logs (log ∷ [])
      ∙ ap (λ (ls : List SectionLine). sections_from 0 logs ++ ls) (append-nil (section_lines (0 + length logs) log)
      ∙ ap (λ j. section_lines j log) (zero-add (length logs)))
      )

  front-more : (told old new : Option (List ℕ)) (section : List ℕ) → Consumes told old (front_text second c logs)
      → Consumes old new section → section ≡ text_of_lines (map line_text (section_lines (length logs) log))
      → Consumes told new (front_text second c (logs ++ log ∷ []))
  front-more None old new section front is text = tt
  front-more (Some bytes) None new section front is text = absurd front
  front-more (Some bytes) (Some xs) None section front is text = absurd is
  front-more (Some bytes) (Some xs) (Some ys) section front is text =
      front ∙ ap (λ (t : List ℕ). front_text second c logs ++ t) (is ∙ ap (λ (s : List ℕ). s ++ ys) text)
      ∙ text-split second c logs (section_lines (length logs) log) ys
      ∙ ap (λ ls. text_of_lines (lines_so_far (within second c ls)) ++ ys) one-more

-- what is left of the text, where that is known
abbrev pub rest_of : Option (List ℕ) → List ℕ
rest_of None = []
rest_of (Some xs) = xs

pub rest-last : (new : Option (List ℕ)) → IsAtEnd new → rest_of new ≡ []
rest-last None ends = refl
rest-last (Some xs) ends = ends

-- the second line stands in front
pub second-within : (second : Bool) (c : Certificate) (logs : List SiteLog)
    → length (certificate_text c) ≤ length (front_text second c logs)
second-within second c logs =
    let lines = map line_text (sections_from 0 logs) in
    let all = front_text second c logs in
    let later = text_of_lines (certificate_text c ∷ lines) in
    let more = text_of_lines lines in
    omega (
      arith,
      ap length (line_front (format_line second) (certificate_text c ∷ lines) []),
      length-append all [],
      length-append (format_line second) (10 ∷ (later ++ [])),
      length-append later [],
      ap length (line_front (certificate_text c) lines []),
      length-append (certificate_text c) (10 ∷ (more ++ [])),
      length-append more [],
    )

-- ---- a verdict that was found

-- behind a front and a section
pub found-told : (second many : ℕ) (told old new : Option (List ℕ)) (front section : List ℕ) (v : Verdict)
    → Consumes told old front → Consumes old new section → length section ≤ many → second ≤ length front
    → IsVerdictBehind front (section ++ rest_of new) v → IsFound second told new many v
found-told second many None old new front section v first is short least verdict = tt
found-told second many (Some bytes) None new front section v first is short least verdict = absurd first
found-told second many (Some bytes) (Some xs) None front section v first is short least verdict = absurd is
found-told second many (Some bytes) (Some xs) (Some ys) front section v first is short least verdict =
    let all = front ++ (section ++ ys) in
    let here : IsFound second (Some all) (Some ys) many v = (
      verdict.0,
      λ n f fault. let far = verdict.1 n f fault in (
        omega (arith, far, least),
        omega (arith, far, short, length-append front (section ++ ys), length-append section ys),
      ),
    ) in
    subst (λ (b : List ℕ). IsFound second (Some b) (Some ys) many v)
    (sym (first ∙ ap (λ (t : List ℕ). front ++ t) is)) here

-- more was read behind it
pub found-on : (second many more all : ℕ) (told mid new : Option (List ℕ)) (bytes : List ℕ) (v : Verdict)
    → IsFound second told mid many v → Consumes mid new bytes → length bytes ≤ more → many + more ≤ all
    → IsFound second told new all v
found-on second many more all None mid new bytes v found read short le = tt
found-on second many more all (Some b) None new bytes v found read short le = absurd found
found-on second many more all (Some b) (Some xs) None bytes v found read short le = absurd read
found-on second many more all (Some b) (Some xs) (Some ys) bytes v found read short le = (
  found.0,
  λ n f fault. let far = found.1 n f fault in
      (far.0, omega (arith, far.1, short, le, ap length read, length-append bytes ys)),
)

-- one more, and then as many
pub times : (few many each : ℕ) → few + 1 ≤ many → each + few * each ≤ many * each
times few many each le =
    let fewer : suc few ≤ many = omega (arith, le) in
    omega (arith, suc-mul few each, mul-le-mul_right each fewer)

-- by how often the reader was asked
pub answer-of : (second many more all : ℕ) (first now : Reader) (left : Option (List ℕ)) (v : Verdict)
    → IsFound second first.told left many v → HasAsked first left more now → many + more ≤ all
    → IsAnswer second first now all v
answer-of second many more all first now left v found asked le = known first.told left found asked
  where
    known : (told left : Option (List ℕ)) → IsFound second told left many v
        → IfSome told (λ bytes. IfSome left (λ rest. now.asked + length rest ≤ first.asked + length bytes + more))
        → IfSome told (λ bytes. IsVerdict bytes v × ((n : ℕ) (f : Fault) (fault : FirstFault bytes n f)
        → (second ≤ reach bytes n f fault) × (now.asked ≤ first.asked + reach bytes n f fault + all)))
    known None left found asked = tt
    known (Some bytes) None found asked = absurd found
    known (Some bytes) (Some rest) found asked =
        (found.0, λ n f fault. let far = found.1 n f fault in (far.0, omega (arith, far.1, asked, le)))

pub answer-more : (second few many : ℕ) (first now : Reader) (v : Verdict) → IsAnswer second first now few v
    → few ≤ many → IsAnswer second first now many v
answer-more second few many first now v answer le = known first.told answer
  where
    known : (told : Option (List ℕ))
        → IfSome told (λ bytes. IsVerdict bytes v × ((n : ℕ) (f : Fault) (fault : FirstFault bytes n f)
        → (second ≤ reach bytes n f fault) × (now.asked ≤ first.asked + reach bytes n f fault + few)))
        → IfSome told (λ bytes. IsVerdict bytes v × ((n : ℕ) (f : Fault) (fault : FirstFault bytes n f)
        → (second ≤ reach bytes n f fault) × (now.asked ≤ first.asked + reach bytes n f fault + many)))
    known None answer = tt
    known (Some bytes) answer = (
      answer.0,
      λ n f fault. let far = answer.1 n f fault in
          (far.0, omega (arith, far.1, le)),
    )

-- ---- one more section, judged

module _ (h : Head) (told old new : Option (List ℕ)) (bytes : List ℕ) (t : Tally) (is : IsTallied h told old t)
    (came : Consumes old new bytes) where
  pub taken : (now : Tally) (more : List ℕ) → Adds h.second h.certificate is.logs bytes more now None
      → IsTallied h told new now × (now.whole ≡ t.whole + 1)
  taken now more added = (
    record {
      logs = is.logs ++ added.0 ∷ [];
      tally = added.1;
      front = front-more h.second h.certificate is.logs added.0 told old new bytes is.front came added.2;
    },
    omega (arith, added.1.whole, is.tally.whole, length-append is.logs (added.0 ∷ [])),
  )

  pub found : (many : ℕ) (v : Verdict) → length bytes ≤ many
      → IsVerdictBehind (front_text h.second h.certificate is.logs) (bytes ++ rest_of new) v
      → IsFound (second_size h) told new many v
  found many v short verdict =
      found-told (second_size h) many told old new (front_text h.second h.certificate is.logs) bytes v is.front came
      short (second-within h.second h.certificate is.logs) verdict

-- a job whose section was judged
module _ (h : Head) (most : ℕ) (told old new : Option (List ℕ)) (job : Job) (t : Tally) (is : IsTallied h told old t)
    (given : IsGiven most old t.whole job new) where
  pub at-logs : job.site ≡ length is.logs
  at-logs = given.site ∙ is.tally.whole

  pub ends-last : IsTrue job.section.is_last → rest_of new ≡ []
  ends-last last = rest-last new (given.section.last last)

  pub judged-at : (j : Judged) → HasJudged h job → job.judged ≡ Ok j
      → IsJudgedSection h.second h.certificate (length is.logs) job.section.bytes.items j
  judged-at j done same = subst (λ k. IsJudgedSection h.second h.certificate k job.section.bytes.items j) at-logs
      (subst (λ r. IfOk r (IsJudgedSection h.second h.certificate job.site job.section.bytes.items)) same done.judged)

pub idle-behind : (h : Head) (job : Job) (j : Judged) → HasJudged h job → job.judged ≡ Ok j → IsWhole j
    → IsIdle h (job.site + 1) job
idle-behind h job j done same whole =
    subst (λ r. IfOk r (λ j. IsWhole j → IsIdle h (job.site + 1) job)) same done.ready whole

-- nothing more was read
pub tallied-on : (h : Head) (told next new : Option (List ℕ)) (t : Tally) → IsTallied h told next t
    → Consumes next new [] → IsTallied h told new t
tallied-on h told next new t is none =
    let front = front_text h.second h.certificate is.logs in
    record {
      logs = is.logs;
      tally = is.tally;
      front =
          subst (λ (f : List ℕ). Consumes told new f) (append-nil front)
          (Consumes-trans told next new front [] is.front none);
    }

-- ---- the first section's tally

pub tallied-first : (h : Head) (told coming : Option (List ℕ)) (t : Tally) → IsHead h
    → ((second : Bool) (c : Certificate) → IsFaultlessCertificate c → IsTally second c [] t)
    → Consumes told coming (front_text h.second h.certificate []) → IsTallied h told coming t
tallied-first h told coming t is new front = record {
  logs = [];
  tally = new h.second h.certificate is.good;
  front =
      front;
}

-- ---- behind all sections

-- a yes has no fault
pub yes-found : (second many : ℕ) (told left : Option (List ℕ)) (bytes : List ℕ) (ds : List Decision)
    → Consumes told left bytes → IsAtEnd left → IsVerdict bytes (yes_of ds) → IsFound second told left many (yes_of ds)
yes-found second many None left bytes ds read ends verdict = tt
yes-found second many (Some all) None bytes ds read ends verdict = absurd read
yes-found second many (Some all) (Some rest) bytes ds read ends verdict =
    let same : all ≡ bytes = read ∙ ap (λ (r : List ℕ). bytes ++ r) ends ∙ append-nil bytes in
    let is : IsVerdict all (yes_of ds) = subst (λ (b : List ℕ). IsVerdict b (yes_of ds)) (sym same) verdict in
    (is, λ n f fault. absurd (no-both (verdict-one all (yes_of ds) (No n f) is fault)))
  where
    no-both : {n : ℕ} {f : Fault} → yes_of ds ≡ No n f → ⊥
    no-both e = cc

module _ (h : Head) (told coming : Option (List ℕ)) (t : Tally) (is : IsTallied h told coming t)
    (all : t.whole ≡ h.certificate.sites) where
  pub each : length is.logs ≡ h.certificate.sites
  each = sym is.tally.whole ∙ all

  -- a verdict on the text up to here, with what comes
  pub on-text : (v : Verdict) → ((more : List ℕ) → IsVerdictBehind (front_text h.second h.certificate is.logs) more v)
      → IsFound (second_size h) told coming 0 v
  on-text v verdict = found-told (second_size h) 0 told coming coming (front_text h.second h.certificate is.logs)
      [] v is.front (Consumes-nil coming) (omega arith) (second-within h.second h.certificate is.logs)
      (verdict (rest_of coming))

  yes-on : AllStepsAreFound h.certificate.decisions is.logs
      → IsVerdict (front_text h.second h.certificate is.logs) (yes_of h.certificate.decisions)
  yes-on = yes h.second h.certificate is.logs is.tally.certificate is.tally.faultless each

  -- nothing more comes
  pub yes-at-end : AllStepsAreFound h.certificate.decisions is.logs → IsAtEnd coming
      → IsFound (second_size h) told coming 0 (yes_of h.certificate.decisions)
  yes-at-end found ends =
      yes-found (second_size h) 0 told coming (front_text h.second h.certificate is.logs) h.certificate.decisions
      is.front ends (yes-on found)

  -- something does
  pub trails-behind : (v : Verdict) → IfSome coming (λ more. more ≢ [])
      → ((more : List ℕ) → more ≢ [] → IsVerdictBehind (front_text h.second h.certificate is.logs) more v)
      → IsFound (second_size h) told coming 0 v
  trails-behind v some verdict = behind told coming is.front some
    where
      behind : (told coming : Option (List ℕ)) → Consumes told coming (front_text h.second h.certificate is.logs)
          → IfSome coming (λ more. more ≢ []) → IsFound (second_size h) told coming 0 v
      behind None coming front some = tt
      behind (Some bytes) None front some = absurd front
      behind (Some bytes) (Some more) front some =
          found-told (second_size h) 0 (Some bytes) (Some more) (Some more)
          (front_text h.second h.certificate is.logs) [] v front refl (omega arith)
          (second-within h.second h.certificate is.logs) (verdict more some)

  pub trails-ok : {E : Type 0} (r : Result Verdict E) (P : Verdict → Type 0) → IfSome coming (λ more. more ≢ [])
      → ((more : List ℕ) → more ≢ [] → IfOk r (IsVerdictBehind (front_text h.second h.certificate is.logs) more))
      → ((v : Verdict) → IsFound (second_size h) told coming 0 v → P v) → IfOk r P
  trails-ok (Ok v) P some verdict holds = holds v (trails-behind v some verdict)
  trails-ok (Err e) P some verdict holds = tt

-- ---- what comes behind all sections

front-nil : (xs rest : List ℕ) → xs ++ rest ≡ [] → xs ≡ []
front-nil [] rest none = refl
front-nil (x ∷ xs) rest none = absurd (omega (arith, ap length none))

pub some-comes : (old next : Option (List ℕ)) (section : List ℕ) → Consumes old next section → section ≢ []
    → IfSome old (λ more. more ≢ [])
some-comes None next section is some = tt
some-comes (Some bytes) None section is some = absurd is
some-comes (Some bytes) (Some rest) section is some = λ none. some (front-nil section rest (sym is ∙ none))

pub ahead-comes : (most : ℕ) (from left : Option (List ℕ)) (ahead : List Section) → AreAhead most from ahead left
    → 1 ≤ length ahead → IfSome from (λ more. more ≢ [])
ahead-comes most from left [] are some = absurd (omega (arith, some))
ahead-comes most from left (s ∷ ahead) are some = some-comes from are.0 s.bytes.items are.1.bytes are.2
