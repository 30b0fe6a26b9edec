-- The replies to one line after another.
use Rattle.std.proofs.Common.{◌≡◌, ◌≢◌, ℕ, List, [], ◌∷◌, ◌++◌, refl, sym, ap, ap₂, ◌∙◌, subst, append_assoc}
use Rattle.std.specs.Prelude.{codes, All, map}
use Rattle.std.proofs.lemmas.List.{append-nil}
use Rattle.sgt_names.proofs.Lists.{All-from_map, All-weaken}
use Rattle.sgt_names.specs.declared.entry.Holding.{Holding}
use Rattle.sgt_names.specs.declared.outcome.Outcome.{Outcome}
use Rattle.sgt_names.specs.declared.outcome.Outcome.TheVariants as outcome
use Rattle.sgt_notation.specs.declared.event.SiteLine.{SiteLine}
use Rattle.sgt_site.specs.State.{AreItems}
use Rattle.sgt_site.specs.declared.fault.SiteFault.{SiteFault}
use Rattle.sgt_site.specs.declared.fault.SiteFault.TheVariants as site_fault
use Rattle.sgt_bundle.specs.Text.{text_of}
use Rattle.sgt_bundle.specs.Valid.{IsValid}
use Rattle.sgt_notation.specs.Events.{IsSiteLine}
use Rattle.sgt_notation.specs.Spelling.{text_of_lines}
use Rattle.sgt_notation.specs.declared.event.Event.{Event}
use Rattle.sgt_notation.specs.declared.event.EventLine.{EventLine}
use Rattle.sgt_notation.specs.declared.event.EventLine.TheVariants.{One, ToDecide}
use Rattle.sgt_core_model.specs.Core.{CoreState, bundle_of, fresh}
use Rattle.sgt_core_machine.specs.Machine.{GoesOn, Parts, RefusesSites, StandsFor}
use Rattle.sgt_core_model.specs.Step.{MayDecide, MayStep}
use Rattle.sgt_core_model.specs.declared.reply.Reply.{Reply}
use Rattle.sgt_core.specs.declared.input.Input.{Input}
use Rattle.sgt_core.specs.Replay.{EndsWith, IsRunText, MayAnswer, Replies}
use Rattle.sgt_core.specs.Reply.{reply_lines, reply_text}
use Rattle.sgt_core.specs.private.Running.{AnswersLine, WritesReplies}
use Rattle.sgt_notation.proofs.Texts.{text-append}

-- lines are answered, and then more
replies-append : (c d e : CoreState) (xs ys : List EventLine) (rs ss : List Reply) → Replies c xs rs d
    → Replies d ys ss e
    → Replies c (xs ++ ys) (rs ++ ss) e × (reply_lines (xs ++ ys) (rs ++ ss) ≡ reply_lines xs rs ++ reply_lines ys ss)
replies-append c d e [] ys [] ss run later = (subst (λ x. Replies x ys ss e) run later, refl)
replies-append c d e [] ys (r ∷ rs) ss run later = absurd run
replies-append c d e (x ∷ xs) ys [] ss run later = absurd run
replies-append c d e (x ∷ xs) ys (r ∷ rs) ss run later =
    let more = replies-append run.0 d e xs ys rs ss run.3 later in
    ((run.0, run.1, run.2, more.0), ap (λ ts. reply_text x r ∷ ts) more.1)

pub replies-none : (m : Parts) (text : List ℕ) → WritesReplies m [] m text text
replies-none m text c stands = (c, record { replies = []; run = refl; appended = sym (append-nil text) }, stands)

pub replies-then : (m n o : Parts) (xs ys : List EventLine) (text out out' : List ℕ) → WritesReplies m xs n text out
    → WritesReplies n ys o out out'
    → WritesReplies m (xs ++ ys) o text out'
replies-then m n o xs ys text out out' first later c stands =
    let (d, runs, there) = first c stands in
    let (e, more, then) = later d there in
    let both = replies-append c d e xs ys runs.replies more.replies runs.run more.run in (
      e,
      record {
        replies = runs.replies ++ more.replies;
        run = both.0;
        appended = more.appended ∙ ap (λ (t : List ℕ). t ++ text_of_lines (reply_lines ys more.replies)) runs.appended
            ∙ append_assoc text (text_of_lines (reply_lines xs runs.replies))
            (text_of_lines (reply_lines ys more.replies))
            ∙ ap (λ (t : List ℕ). text ++ t)
            (sym (text-append (reply_lines xs runs.replies) (reply_lines ys more.replies)))
            ∙ ap (λ ts. text ++ text_of_lines ts) (sym both.1);
      },
      then,
    )

-- the core answers what is asked of it
pub answers-step : (m n o : Parts) (line : EventLine) (e : Event) (reply told : Reply) → line ≡ One e → o ≡ n
    → told ≡ reply
    → GoesOn (λ c d. MayStep c e reply d) m n → GoesOn (λ c d. MayAnswer c line told d) m o
answers-step m n o line e reply told is same tells goes =
    subst (λ l. GoesOn (λ c d. MayAnswer c l told d) m o) (sym is)
    (subst (λ (p : Parts). GoesOn (λ c d. MayAnswer c (One e) told d) m p) (sym same)
    (subst (λ r. GoesOn (λ c d. MayAnswer c (One e) r d) m n) (sym tells) goes))

pub answers-to_decide : (m n o : Parts) (line : EventLine) (tx : ℕ) (reply told : Reply) → line ≡ ToDecide tx → o ≡ n
    → told ≡ reply
    → GoesOn (λ c d. MayDecide c tx reply d) m n → GoesOn (λ c d. MayAnswer c line told d) m o
answers-to_decide m n o line tx reply told is same tells goes =
    subst (λ l. GoesOn (λ c d. MayAnswer c l told d) m o) (sym is)
    (subst (λ (p : Parts). GoesOn (λ c d. MayAnswer c (ToDecide tx) told d) m p) (sym same)
    (subst (λ r. GoesOn (λ c d. MayAnswer c (ToDecide tx) r d) m n) (sym tells) goes))

pub replies-one : (m n : Parts) (line : EventLine) (reply : Reply) (out out' : List ℕ) → AnswersLine m line reply n
    → out' ≡ (out ++ reply_text line reply) ++ 10 ∷ [] → WritesReplies m (line ∷ []) n out out'
replies-one m n line reply out out' answers after c stands =
    let (d, may, there) = answers.0 c stands in (
      d,
      record {
        replies = reply ∷ [];
        run = (d, may, answers.1, refl);
        appended = after
            ∙ append_assoc out (reply_text line reply) (10 ∷ [])
            ∙ ap (λ (t : List ℕ). out ++ t) (sym (append-nil (reply_text line reply ++ 10 ∷ [])));
      },
      there,
    )

-- the run ends with the bundle
pub ends-valid : (m : Parts) (out mid bytes : List ℕ) → ((c : CoreState) → StandsFor m c → IsValid (bundle_of c))
    → ((c : CoreState) → StandsFor m c → c.certifier.active ≡ [])
    → ((c : CoreState) → StandsFor m c → bytes ≡ text_of (bundle_of c)) → mid ≡ out ++ codes "---\n"
    → (c : CoreState) → StandsFor m c → (ending : List ℕ) × EndsWith c outcome.Yes ending
    × (mid ++ bytes ≡ out ++ ending)
ends-valid m out mid bytes valid idle spelled first c stands = (
  codes "---\n" ++ text_of (bundle_of c),
  (idle c stands, valid c stands, refl),
  ap₂ (λ p q. p ++ q) first (spelled c stands) ∙ append_assoc out (codes "---\n") (text_of (bundle_of c)),
)

-- ---- the sites of an input are items that a core is made of

site-items : (ss : List SiteLine) → All IsSiteLine ss → All AreItems (map (λ l. l.items) ss)
site-items ss each = All-from_map AreItems (λ l. l.items) ss
    (All-weaken IsSiteLine (λ l. AreItems l.items) ss (λ l is. record { room = is.room; rising = is.rising }) each)

allowed : (items : List (List Holding)) (f : SiteFault) → All AreItems items → RefusesSites items f
    → f ≢ site_fault.Memory → ⊥
allowed items site_fault.BadItems each refused not = refused each
allowed items site_fault.Memory each refused not = not refl
allowed items f each refused not = refused

pub only-memory : (ss : List SiteLine) (f : SiteFault) → All IsSiteLine ss → RefusesSites (map (λ l. l.items) ss) f
    → f ≢ site_fault.Memory → ⊥
only-memory ss f each refused not = allowed (map (λ l. l.items) ss) f (site-items ss each) refused not

-- ---- a whole run

pub run-of : (input : Input) (o : Outcome) (m n : Parts) (sites : List SiteLine) (events : List EventLine)
    (start written text : List ℕ)
    → StandsFor m (fresh (map (λ l. l.items) sites)) → sites ≡ input.sites → events ≡ input.events → start ≡ []
    → WritesReplies m events n start written
    → ((c : CoreState) → StandsFor n c → (ending : List ℕ) × EndsWith c o ending × (text ≡ written ++ ending))
    → IsRunText input o text
run-of input o m n sites events start written text stands same-sites same empty writes ends =
    let (d, so, there) = writes (fresh (map (λ l. l.items) sites)) stands in
    let (ending, how, whole) = ends d there in
    let run = subst (λ es. Replies (fresh (map (λ l. l.items) sites)) es so.replies d) same so.run in
    record {
      replies = so.replies;
      last = d;
      ending = ending;
      run = subst (λ ss. Replies (fresh (map (λ l. l.items) ss)) input.events so.replies d) same-sites run;
      ends = how;
      whole = whole
          ∙ ap (λ t. t ++ ending) (so.appended
          ∙ ap₂ (λ s es. s ++ text_of_lines (reply_lines es so.replies)) empty same);
    }
