-- What stands behind a command's name, told in one way alone.
use Rattle.std.proofs.Common.{◌≡◌, ◌≢◌, ◌⊎◌, ◌∙◌, ℕ, Bool, true, false, List, [], ◌∷◌, ◌++◌, ◌==◌, Option, Some, None, ap, arith, codes, drop, inl, inr, length, length-append, map, refl, subst, sym, get_or, unwrap_or}
use Rattle.std.proofs.lemmas.List.{length_push}
use Rattle.std.proofs.lemmas.Bool.Decides.{Decides-eqb}
use Rattle.std.specs.Str.Parse.{IsNumeral, without_leading_plus}
use Rattle.sgt_audit.specs.declared.faults.Fault.TheVariants as fault
use Rattle.sgt_bundle.specs.declared.fault.CertFault.TheVariants as cert_fault
use Rattle.sgt_explain.specs.declared.topics.Anomaly.TheVariants as anomaly
use Rattle.sgt_explain.specs.declared.topics.Reply.TheVariants as reply
use Rattle.sgt_explain.specs.declared.topics.Topic.TheVariants.{Bundle, Line, Told, Found}
use Rattle.std.specs.Prelude.{IfOk, IfSome, Result, Ok, Err, IsErr}
use Rattle.sgt_explain.specs.Topics.{topic_name}
use Rattle.sgt_explain.specs.declared.asked.Asked.TheVariants as asking
use Rattle.sgt_explain.specs.declared.topics.Topic.{Topic}
use Rattle.sgt_line.specs.Names.{command_text}
use Rattle.sgt_line.specs.declared.name.CommandName.TheVariants as command
use Rattle.sgt_line.specs.declared.name.CommandName.{CommandName}
use Rattle.sgt_command_line.specs.Options.{SaysRun}
use Rattle.sgt_command_line.specs.Words.{Asks, Says, SaysTx, SaysWorkers, TellsPicture, TellsTx, command_of}
use Rattle.sgt_command_line.specs.declared.choice.Choice.{Choice}
use Rattle.sgt_command_line.specs.declared.choice.Choice.TheVariants.{Audit, AuditWith, Certify, Check, Draw, DrawWith, Explain, Replay, Rule, Run, Serial}
use Rattle.sgt_command_line.specs.private.Runs.{IsRunOf}
use Rattle.sgt_names.proofs.Elements.{some-weaker}

pub on_found : {A E : Type 0} (r : Result (Option A) E) (P Q : A → Type 0) → ((x : A) → P x → Q x)
    → IfOk r (λ o. IfSome o P) → IfOk r (λ o. IfSome o Q)
on_found (Ok o) P Q so holds = some-weaker o P Q so holds
on_found (Err e) P Q so holds = tt

-- `--workers` with a word that is no number of workers
pub no_workers : (options : List (List ℕ)) (w : List ℕ) → options ≡ codes "--workers" ∷ w ∷ [] → ((n : ℕ) → SaysWorkers w n → ⊥)
    → (choice : Choice) → command_of choice ≡ command.Audit → Says options choice → ⊥
no_workers options w e none Audit is says = omega (arith, ap length says, ap length e)
no_workers options w e none (AuditWith n) is (text, says, told) =
    let same : text ≡ w = ap (λ l. get_or l 1 text) (sym told ∙ e) in
    none n (subst (λ t. SaysWorkers t n) same says)
no_workers options w e none choice is says = absurd cc

-- `--tx` with a word
pub tx_apart : (words : List (List ℕ)) (w : List ℕ) (o : Option ℕ) → words ≡ codes "--tx" ∷ w ∷ [] → ((tx : ℕ) → SaysTx w tx → o ≡ Some tx)
    → (tx : ℕ) → TellsTx words tx → o ≡ Some tx
tx_apart words w o e all tx (text, says, inl apart) =
    let same : text ≡ w = ap (λ l. get_or l 1 text) (sym apart ∙ e) in
    all tx (subst (λ t. SaysTx t tx) same says)
tx_apart words w o e all tx (text, says, inr joined) = absurd (omega (arith, ap length joined, ap length e))

-- one word with `--tx=`
pub tx_joined : (words : List (List ℕ)) (w rest : List ℕ) (o : Option ℕ) → words ≡ w ∷ [] → w ≡ codes "--tx=" ++ rest
    → ((tx : ℕ) → SaysTx rest tx → o ≡ Some tx) → (tx : ℕ) → TellsTx words tx → o ≡ Some tx
tx_joined words w rest o e is all tx (text, says, inl apart) = absurd (omega (arith, ap length apart, ap length e))
tx_joined words w rest o e is all tx (text, says, inr joined) =
    let both : codes "--tx=" ++ text ≡ codes "--tx=" ++ rest = ap (λ l. get_or l 0 []) (sym joined ∙ e) ∙ is in
    all tx (subst (λ t. SaysTx t tx) (ap (drop 5) both) says)

-- the third letter of the first word
abbrev pub third : List (List ℕ) → ℕ
third words = get_or (get_or words 0 []) 2 0

-- the name of a rule begins with no dash
pub letter_of : (topic : Topic) → (rest : List ℕ) → topic_name topic ≡ codes "-" ++ rest → ⊥
letter_of (Bundle fault.Format) rest e = absurd (omega (arith, ap (λ (l : List ℕ). get_or l 0 0) e))
letter_of (Bundle f) rest e = absurd (omega (arith, ap (λ (l : List ℕ). get_or l 0 0) e))
letter_of (Line cert_fault.NotJson) rest e = absurd (omega (arith, ap (λ (l : List ℕ). get_or l 0 0) e))
letter_of (Line f) rest e = absurd (omega (arith, ap (λ (l : List ℕ). get_or l 0 0) e))
letter_of (Told reply.Unknown) rest e = absurd (omega (arith, ap (λ (l : List ℕ). get_or l 0 0) e))
letter_of (Told r) rest e = absurd (omega (arith, ap (λ (l : List ℕ). get_or l 0 0) e))
letter_of (Found anomaly.Internal) rest e = absurd (omega (arith, ap (λ (l : List ℕ). get_or l 0 0) e))
letter_of (Found a) rest e = absurd (omega (arith, ap (λ (l : List ℕ). get_or l 0 0) e))

-- neither all, nor a rule, nor a transaction
pub no_explained : (options : List (List ℕ)) → (options ≡ [] → ⊥) → options ≢ codes "--all" ∷ []
    → ((topic : Topic) → options ≢ topic_name topic ∷ []) → ((tx : ℕ) → TellsTx options tx → ⊥)
    → (choice : Choice) → command_of choice ≡ command.Explain → Says options choice → ⊥
no_explained options some not_all no_rule no_tx (Explain asking.First) is says = some says
no_explained options some not_all no_rule no_tx (Explain asking.All) is says = not_all says
no_explained options some not_all no_rule no_tx (Rule topic) is says = no_rule topic says
no_explained options some not_all no_rule no_tx (Explain (asking.Transaction tx)) is says = no_tx tx says
no_explained options some not_all no_rule no_tx choice is says = absurd cc

pub empty : {A : Type 0} (xs : List A) (b : Bool) → b ≡ (length xs == 0) → b ≡ true → xs ≡ []
empty [] b e is_true = refl
empty (x ∷ xs) b e is_true =
    let none = (Decides-eqb (length (x ∷ xs)) 0).0 (sym e ∙ is_true) in absurd (omega arith)

pub filled : {A : Type 0} (xs : List A) (b : Bool) → b ≡ (length xs == 0) → b ≡ false → xs ≡ [] → ⊥
filled [] b e is_false none = absurd (let bad : false ≡ true = sym is_false ∙ e in cc)
filled (x ∷ xs) b e is_false none = absurd cc

pub mapped_empty : {A B : Type 0} (f : A → B) (xs : List A) → xs ≡ [] → map f xs ≡ []
mapped_empty f xs e = ap (map f) e

pub mapped_some : {A B : Type 0} (f : A → B) (xs : List A) → (xs ≡ [] → ⊥) → map f xs ≡ [] → ⊥
mapped_some f [] some e = some refl
mapped_some f (x ∷ xs) some e = cc

-- a transaction's words do not begin with `--dot`, nor end with it
not_first : (behind : List (List ℕ)) (tx : ℕ) → TellsTx (codes "--dot" ∷ behind) tx → ⊥
not_first behind tx (text, says, inl apart) = absurd (omega (arith, ap third apart))
not_first behind tx (text, says, inr joined) = absurd (omega (arith, ap third joined))

no_number : (tx : ℕ) → SaysTx (codes "--dot") tx → ⊥
no_number tx says =
    let read = says.0 in
    let text : read.0 ≡ codes "--dot" = ap (λ o. unwrap_or o []) (sym read.1) in
    let numeral : IsNumeral 10 (without_leading_plus (codes "--dot")) = subst (λ t. IsNumeral 10 (without_leading_plus t)) text read.2 in
    absurd (omega (arith, numeral.1.0))

not_last : (before : List (List ℕ)) (tx : ℕ) → TellsTx (before ++ (codes "--dot" ∷ [])) tx → ⊥
not_last [] tx tells = not_first [] tx tells
not_last (a ∷ []) tx (text, says, inl apart) =
    let same : text ≡ codes "--dot" = ap (λ l. get_or l 1 text) (sym apart) in
    no_number tx (subst (λ t. SaysTx t tx) same says)
not_last (a ∷ []) tx (text, says, inr joined) = absurd (omega (arith, ap length joined))
not_last (a ∷ b ∷ rest) tx (text, says, inl apart) = absurd (omega (arith, ap length apart, length-append rest (codes "--dot" ∷ [])))
not_last (a ∷ b ∷ rest) tx (text, says, inr joined) = absurd (omega (arith, ap length joined, length-append rest (codes "--dot" ∷ [])))

snoc_front : {A : Type 0} (xs zs : List A) (y : A) → xs ++ (y ∷ []) ≡ zs ++ (y ∷ []) → xs ≡ zs
snoc_front [] [] y e = refl
snoc_front [] (z ∷ zs) y e = absurd (omega (arith, ap length e, length_push zs y))
snoc_front (x ∷ xs) [] y e = absurd (omega (arith, ap length e, length_push xs y))
snoc_front (x ∷ xs) (z ∷ zs) y e =
    let head : x ≡ z = ap (λ l. get_or l 0 x) e in
    let tail = snoc_front xs zs y (ap (drop 1) e) in cc

snoc_last : {A : Type 0} (xs zs : List A) (y w : A) → xs ++ (y ∷ []) ≡ zs ++ (w ∷ []) → y ≡ w
snoc_last [] [] y w e = ap (λ l. get_or l 0 y) e
snoc_last [] (z ∷ zs) y w e = absurd (omega (arith, ap length e, length_push zs w))
snoc_last (x ∷ xs) [] y w e = absurd (omega (arith, ap length e, length_push xs y))
snoc_last (x ∷ xs) (z ∷ zs) y w e = snoc_last xs zs y w (ap (drop 1) e)

-- `--dot` and something that is no transaction
pub no_dot_first : (options behind : List (List ℕ)) → options ≡ codes "--dot" ∷ behind → (behind ≡ [] → ⊥) → ((tx : ℕ) → TellsTx behind tx → ⊥)
    → (tx : Option ℕ) (is_dot : Bool) → TellsPicture options tx is_dot → ⊥
no_dot_first options behind e some no_tx None true tells = some (ap (drop 1) (sym e ∙ tells))
no_dot_first options behind e some no_tx None false tells = tells
no_dot_first options behind e some no_tx (Some tx) false tells = not_first behind tx (subst (λ o. TellsTx o tx) e tells)
no_dot_first options behind e some no_tx (Some tx) true (words, tells, inl first) =
    no_tx tx (subst (λ o. TellsTx o tx) (ap (drop 1) (sym first ∙ e)) tells)
no_dot_first options behind e some no_tx (Some tx) true ([], (text, says, inl apart), inr last) =
    absurd (omega (arith, ap length apart))
no_dot_first options behind e some no_tx (Some tx) true ([], (text, says, inr joined), inr last) =
    absurd (omega (arith, ap length joined))
no_dot_first options behind e some no_tx (Some tx) true (w ∷ words, tells, inr last) =
    let first : w ≡ codes "--dot" = ap (λ l. get_or l 0 w) (sym last ∙ e) in
    not_first words tx (subst (λ t. TellsTx (t ∷ words) tx) first tells)

-- something that is no transaction, and `--dot`
pub no_dot_last : (options before behind : List (List ℕ)) (first : List ℕ) → options ≡ first ∷ behind → (first ≡ codes "--dot" → ⊥)
    → options ≡ before ++ (codes "--dot" ∷ []) → ((tx : ℕ) → TellsTx before tx → ⊥)
    → (tx : Option ℕ) (is_dot : Bool) → TellsPicture options tx is_dot → ⊥
no_dot_last options before behind first e other last no_tx None true tells =
    other (ap (λ l. get_or l 0 first) (sym e ∙ tells))
no_dot_last options before behind first e other last no_tx None false tells = tells
no_dot_last options before behind first e other last no_tx (Some tx) false tells =
    not_last before tx (subst (λ o. TellsTx o tx) last tells)
no_dot_last options before behind first e other last no_tx (Some tx) true (words, tells, inl front) =
    other (ap (λ l. get_or l 0 first) (sym e ∙ front))
no_dot_last options before behind first e other last no_tx (Some tx) true (words, tells, inr back) =
    no_tx tx (subst (λ o. TellsTx o tx) (snoc_front words before (codes "--dot") (sym back ∙ last)) tells)

-- no `--dot`, and no transaction
pub no_dot : (options before behind : List (List ℕ)) (first last : List ℕ) → options ≡ first ∷ behind → (first ≡ codes "--dot" → ⊥)
    → options ≡ before ++ (last ∷ []) → (last ≡ codes "--dot" → ⊥) → ((tx : ℕ) → TellsTx options tx → ⊥)
    → (tx : Option ℕ) (is_dot : Bool) → TellsPicture options tx is_dot → ⊥
no_dot options before behind first last e other ends not_dot no_tx None true tells =
    other (ap (λ l. get_or l 0 first) (sym e ∙ tells))
no_dot options before behind first last e other ends not_dot no_tx None false tells = tells
no_dot options before behind first last e other ends not_dot no_tx (Some tx) false tells = no_tx tx tells
no_dot options before behind first last e other ends not_dot no_tx (Some tx) true (words, tells, inl front) =
    other (ap (λ l. get_or l 0 first) (sym e ∙ front))
no_dot options before behind first last e other ends not_dot no_tx (Some tx) true (words, tells, inr back) =
    not_dot (snoc_last before words last (codes "--dot") (sym ends ∙ back))

-- where nothing is found, nothing is told
pub none_told : {A : Type 0} (o : Option A) (P : A → Type 0) → o ≡ None → ((x : A) → P x → o ≡ Some x) → (x : A) → P x
    → ⊥
none_told {A = A} o P none all x holds =
    let bad : ◌≡◌ {A = Option A} None (Some x) = sym none ∙ all x holds in cc

-- the words of a run
pub asks_run : (words options : List (List ℕ)) → words ≡ codes "run" ∷ options → (choice : Choice) → IsRunOf words choice → Asks words choice
asks_run words options e (Run workers tries) says =
    inr (options, e, subst (λ (w : List (List ℕ)). SaysRun w workers tries) e says)
asks_run words options e choice says = absurd says

same_command : (r : Option CommandName) (a b : CommandName) → r ≡ Some a → r ≡ Some b → a ≡ b
same_command r a b one two = ap (λ o. unwrap_or o a) (sym one ∙ two)

-- words that name a run ask for a run alone
pub only_run : {E : Type 0} (words options : List (List ℕ)) (found : Option CommandName) (r : Result (Option Choice) E) → words ≡ codes "run" ∷ options
    → found ≡ Some command.Run → ((name : CommandName) → codes "run" ≡ command_text name → found ≡ Some name)
    → ((workers tries : ℕ) → SaysRun words workers tries → (r ≡ Ok (Some (Run workers tries))) ⊎ IsErr r)
    → (choice : Choice) → Asks words choice → (r ≡ Ok (Some choice)) ⊎ (IsErr r × (command_of choice ≡ command.Run))
only_run words options found r e is all runs choice (inl none) =
    absurd (omega (arith, ap length none.0, ap length e))
only_run words options found r e is all runs choice (inr (behind, named, says)) =
    let text : codes "run" ≡ command_text (command_of choice) = ap (λ l. get_or l 0 []) (sym e ∙ named) in
    let it : command_of choice ≡ command.Run = same_command found _ _ (all (command_of choice) text) is in
    go choice it named says
  where
    go : (c : Choice) → command_of c ≡ command.Run → words ≡ command_text (command_of c) ∷ behind → Says behind c
        → (r ≡ Ok (Some c)) ⊎ (IsErr r × (command_of c ≡ command.Run))
    go (Run workers tries) it' named' says' =
        elim (runs workers tries (subst (λ (w : List (List ℕ)). SaysRun w workers tries) (sym named') says')) [
          | inl ok ↦ inl ok
          | inr err ↦ inr (err, refl)
        ]
    go c it' named' says' = absurd cc
