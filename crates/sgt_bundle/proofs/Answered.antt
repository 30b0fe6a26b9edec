-- What follows from the answer to a value that was read from a line.
use Rattle.std.proofs.Common.{◌≡◌, ◌≢◌, ℕ, suc, ◌≤◌, ◌<◌, List, [], ◌∷◌, Option, Some, None, Bool, true, false, cond, Result, Ok, Err, IfOk, IfErr, MatchResult, option_map, option_and_then, codes, refl, sym, ap, ap₂, ◌∙◌, subst, arith, All, inl, inr, ◌⊎◌}
use Rattle.std.specs.Prelude.{nat_le, nat_lt, length, ◌&&◌, IsUtf8}
use Rattle.std.specs.List.{AllByRecursion, list_all}
use Rattle.std.specs.Str.{bytes_eq, is_utf8}
use Rattle.std.proofs.lemmas.Str.{IsUtf8-from_is_utf8, is_utf8-from_IsUtf8}
use Rattle.std.proofs.lemmas.List.Elements.{All-head, All-tail, All-from_recursion}
use Rattle.std.proofs.lemmas.Slice.Eq.{bytes_eq-Decides}
use Rattle.std.proofs.lemmas.Option.{option_and_then_some, cond_some, same_Some}
use Rattle.std.proofs.lemmas.Bool.{and_parts, and_from, leb-true, le-leb, lt-ltb, ltb-true, true≢false}
use Rattle.serde_json.specs.Data.{Data}
use Rattle.serde_json.specs.Find.{get, as_number, as_u64}
use Rattle.serde_json.specs.Read.{read}
use Rattle.sgt_names.specs.Name.{Name, IsName, is_name_byte, is_small_letter}
use Rattle.sgt_names.specs.declared.entry.Kind.{Kind}
use Rattle.sgt_names.specs.declared.entry.Kind.TheVariants.{Wr, Rw, Ww}
use Rattle.sgt_bundle.specs.declared.fault.CertFault.{CertFault}
use Rattle.sgt_bundle.specs.declared.fault.CertFault.TheVariants.{NotJson, Shape, Range, Memory}
use Rattle.sgt_bundle.specs.declared.certificate.Step.{Step}
use Rattle.sgt_bundle.specs.declared.certificate.Decision.{Decision}
use Rattle.sgt_bundle.specs.declared.certificate.Decision.TheVariants.{Commit, Refuse, Withdraw}
use Rattle.sgt_bundle.specs.declared.certificate.Certificate.{Certificate}
use Rattle.sgt_names.specs.Limits.{max_sites}
use Rattle.sgt_bundle.specs.Text.{kind_name, step_data, decision_data, certificate_data, certificate_text, IsStep, IsDecision, IsCertificate, items_data}
use Rattle.sgt_bundle.specs.Line.{ReadsAs, Refuses, is_commit_object, is_decision_object, is_refuse_object, is_certificate_object, is_step_object, items_list}
use Rattle.sgt_bundle.specs.Private.{Answers, answer_of, certificate_in, commit_in, decision_in, decisions_in, is_name, judged_as, kind_at, kind_if, list_at, name_at, name_if, refuse_in, step_in, text_at, tx_at, walk_in, whole_at, withdraw_in}
use Rattle.sgt_bundle.proofs.Reading.{read-certificate_text, certificate-one}
use Rattle.sgt_bundle.proofs.OneLine.{certificate-utf8}

-- ---- the data of a certificate has its shape

walk-shaped : (walk : List Step) → list_all is_step_object (items_list (items_data step_data walk)) ≡ true
walk-shaped [] = refl
walk-shaped (s ∷ walk) = walk-shaped walk

decision-shaped : (d : Decision) → is_decision_object (decision_data d) ≡ true
decision-shaped (Commit tx rank) = refl
decision-shaped (Refuse tx walk) = rw (walk-shaped walk) refl
decision-shaped (Withdraw tx) = refl

decisions-shaped : (ds : List Decision) → list_all is_decision_object (items_list (items_data decision_data ds)) ≡ true
decisions-shaped [] = refl
decisions-shaped (d ∷ ds) = rw (decision-shaped d, decisions-shaped ds) refl

certificate-shaped : (c : Certificate) → is_certificate_object (certificate_data c) ≡ true
certificate-shaped c = rw (decisions-shaped c.decisions) refl

-- ---- and the certificate is found in it

IsName-is_name : (x : Name) → IsName x → is_name x ≡ true
IsName-is_name [] h = absurd h
IsName-is_name (c ∷ cs) h =
    and_from (is_small_letter c && list_all is_name_byte cs) (nat_lt (length cs) 16)
    (and_from (is_small_letter c) (list_all is_name_byte cs) h.0 h.1) (lt-ltb (length cs) 16 h.2)

is_name-IsName : (x : Name) → is_name x ≡ true → IsName x
is_name-IsName [] h = absurd cc
is_name-IsName (c ∷ cs) h =
    let all = and_parts (is_small_letter c && list_all is_name_byte cs) (nat_lt (length cs) 16) h in
    let both = and_parts (is_small_letter c) (list_all is_name_byte cs) all.0 in
    (both.0, both.1, ltb-true (length cs) 16 all.1)

kind-back : (k : Kind) → kind_if (kind_name k) ≡ Some k
kind-back Wr = refl
kind-back Rw = refl
kind-back Ww = refl

step-back : (sites : ℕ) (s : Step) → IsStep sites s → step_in sites (step_data s) ≡ Some s
step-back sites s h =
    let name = IsName-is_name s.label.item h.0 in
    let site_low = le-leb 0 s.label.site (omega arith) in
    let site_high = lt-ltb s.label.site sites h.1 in
    let to_low = le-leb 1 s.to h.2.0 in
    let to_high = lt-ltb s.to 4294967296 h.2.1 in
    rw (name, kind-back s.label.kind, site_low, site_high, to_low, to_high) refl

walk-back : (sites : ℕ) (walk : List Step) → All (IsStep sites) walk
    → walk_in sites (items_list (items_data step_data walk)) ≡ Some walk
walk-back sites [] h = refl
walk-back sites (s ∷ walk) h =
    rw (step-back sites s (All-head (IsStep sites) s walk h), walk-back sites walk (All-tail (IsStep sites) s walk h))
    refl

decision-back : (sites : ℕ) (d : Decision) → IsDecision sites d → decision_in sites (decision_data d) ≡ Some d
decision-back sites (Commit tx rank) h =
    let low = le-leb 1 tx h.0.0 in
    let high = lt-ltb tx 4294967296 h.0.1 in
    let rank_low = le-leb 0 rank (omega arith) in
    let rank_high = lt-ltb rank 4294967296 h.1 in
    rw (low, high, rank_low, rank_high) refl
decision-back sites (Refuse tx walk) h =
    let low = le-leb 1 tx h.0.0 in
    let high = lt-ltb tx 4294967296 h.0.1 in
    rw (walk-shaped walk, low, high, walk-back sites walk h.1) refl
decision-back sites (Withdraw tx) h =
    let low = le-leb 1 tx h.0 in
    let high = lt-ltb tx 4294967296 h.1 in
    rw (low, high) refl

decisions-back : (sites : ℕ) (ds : List Decision) → All (IsDecision sites) ds
    → decisions_in sites (items_list (items_data decision_data ds)) ≡ Some ds
decisions-back sites [] h = refl
decisions-back sites (d ∷ ds) h = rw (
  decision-back sites d (All-head (IsDecision sites) d ds h),
  decisions-back sites ds (All-tail (IsDecision sites) d ds h),
) refl

certificate-back : (c : Certificate) → IsCertificate c → certificate_in (certificate_data c) ≡ Some c
certificate-back c h =
    let low = le-leb 1 c.sites h.0 in
    let high = lt-ltb c.sites (suc max_sites) (omega (arith, h.1)) in
    rw (low, high, decisions-back c.sites c.decisions h.2) refl

-- ---- what is found is in its range

option_map_some : {A B P : Type 0} (f : A → B) (o : Option A) (y : B) → option_map f o ≡ Some y
    → ((x : A) → o ≡ Some x → f x ≡ y → P) → P
option_map_some f None y e k = cc
option_map_some f (Some x) y e k = k x refl (cc)

whole-within : (key : List ℕ) (least limit : ℕ) (d : Data) (n : ℕ) → whole_at key least limit d ≡ Some n
    → (least ≤ n) × (n < limit)
whole-within key least limit d n e =
    option_and_then_some _ (option_and_then as_u64 (option_and_then as_number (get key d))) n e
    (λ m is chosen. let parts = cond_some _ m n chosen in let both =
    and_parts (nat_le least m) (nat_lt m limit) parts.0 in
    rw (← parts.1) (leb-true least m both.0, ltb-true m limit both.1))

name-within : (key : List ℕ) (d : Data) (x : Name) → name_at key d ≡ Some x → IsName x
name-within key d x e = option_and_then_some name_if (text_at key d) x e
    (λ s is chosen. let parts = cond_some (is_name s) s x chosen in subst IsName parts.1 (is_name-IsName s parts.0))

step-within : (sites : ℕ) (d : Data) (s : Step) → step_in sites d ≡ Some s → IsStep sites s
step-within sites d s e =
    option_and_then_some _ (name_at (codes "item") d) s e (λ x name rest. option_and_then_some _ (kind_at (codes "kind") d) s rest
    (λ k kind rest'. option_and_then_some _ (whole_at (codes "site") 0 sites d) s rest' (λ n site rest''. option_map_some _ (tx_at (codes "to") d) s rest''
    (λ to leads is. subst (IsStep sites) is (name-within (codes "item") d x name, (whole-within (codes "site") 0 sites d n site).1, whole-within (codes "to") 1 4294967296 d to leads)))))

walk-within : (sites : ℕ) (ds : List Data) (walk : List Step) → walk_in sites ds ≡ Some walk
    → AllByRecursion (IsStep sites) walk
walk-within sites [] [] e = tt
walk-within sites [] (x ∷ xs) e = cc
walk-within sites (d ∷ ds) ys e = option_and_then_some _ (step_in sites d) ys e
    (λ x found rest. option_map_some _ (walk_in sites ds) ys rest
    (λ xs later is. subst (AllByRecursion (IsStep sites)) is (
      step-within sites d x found,
      walk-within sites ds xs later,
    )))

commit-within : (sites : ℕ) (d : Data) (x : Decision) → commit_in d ≡ Some x → IsDecision sites x
commit-within sites d x e = option_and_then_some _ (tx_at (codes "commit") d) x e
    (λ tx found rest. option_map_some _ (whole_at (codes "rank") 0 4294967296 d) x rest
    (λ rank found' is. subst (IsDecision sites) is (whole-within (codes "commit") 1 4294967296 d tx found, (whole-within (codes "rank") 0 4294967296 d rank found').1)))

refuse-within : (sites : ℕ) (d : Data) (x : Decision) → refuse_in sites d ≡ Some x → IsDecision sites x
refuse-within sites d x e = option_and_then_some _ (tx_at (codes "refuse") d) x e
    (λ tx found rest. option_map_some _ (option_and_then (walk_in sites) (list_at (codes "walk") d)) x rest
    (λ walk all is. option_and_then_some (walk_in sites) (list_at (codes "walk") d) walk all
    (λ ds listed steps. subst (IsDecision sites) is (whole-within (codes "refuse") 1 4294967296 d tx found, All-from_recursion (IsStep sites) walk (walk-within sites ds walk steps)))))

withdraw-within : (sites : ℕ) (d : Data) (x : Decision) → withdraw_in d ≡ Some x → IsDecision sites x
withdraw-within sites d x e = option_map_some _ (tx_at (codes "withdraw") d) x e (λ tx found is. subst (IsDecision sites) is (whole-within (codes "withdraw") 1 4294967296 d tx found))

one_of_two : (sites : ℕ) (b : Bool) (d : Data) (x : Decision) → cond b (refuse_in sites d) (withdraw_in d) ≡ Some x
    → IsDecision sites x
one_of_two sites true d x e = refuse-within sites d x e
one_of_two sites false d x e = withdraw-within sites d x e

one_of_three : (sites : ℕ) (b c : Bool) (d : Data) (x : Decision)
    → cond b (commit_in d) (cond c (refuse_in sites d) (withdraw_in d)) ≡ Some x → IsDecision sites x
one_of_three sites true c d x e = commit-within sites d x e
one_of_three sites false c d x e = one_of_two sites c d x e

decisions-within : (sites : ℕ) (ds : List Data) (xs : List Decision) → decisions_in sites ds ≡ Some xs
    → AllByRecursion (IsDecision sites) xs
decisions-within sites [] [] e = tt
decisions-within sites [] (x ∷ xs) e = cc
decisions-within sites (d ∷ ds) ys e = option_and_then_some _ (decision_in sites d) ys e
    (λ x found rest. option_map_some _ (decisions_in sites ds) ys rest
    (λ xs later is. subst (AllByRecursion (IsDecision sites)) is
    (one_of_three sites (is_commit_object d) (is_refuse_object d) d x found, decisions-within sites ds xs later)))

certificate-within : (d : Data) (c : Certificate) → certificate_in d ≡ Some c → IsCertificate c
certificate-within d c e = option_and_then_some _ (whole_at (codes "sites") 1 (suc max_sites) d) c e
    (λ s sites rest. option_map_some _ (option_and_then (decisions_in s) (list_at (codes "decisions") d)) c rest
    (λ xs all is. option_and_then_some (decisions_in s) (list_at (codes "decisions") d) xs all
    (λ ds listed found. let a = whole-within (codes "sites") 1 (suc max_sites) d s sites in
    subst IsCertificate is (
      a.0,
      omega (arith, a.1),
      All-from_recursion (IsDecision s) xs (decisions-within s ds xs found),
    ))))

-- ---- the text of a certificate is read as its data

pub reads-certificate : (c : Certificate) → IsCertificate c → ReadsAs (certificate_text c) (certificate_data c)
reads-certificate c h = (certificate-utf8 c h, read-certificate_text c h)

-- what is read of such a text is that data
read-as : (bytes : List ℕ) (d : Data) (c : Certificate) → IsCertificate c → bytes ≡ certificate_text c
    → read bytes ≡ Some d → d ≡ certificate_data c
read-as bytes d c h e reads = same_Some d (certificate_data c) (sym reads ∙ ap read e ∙ read-certificate_text c h)

-- and the answer to it is the certificate
answered : (d : Data) (bytes : List ℕ) (c : Certificate) → IsCertificate c → bytes ≡ certificate_text c
    → read bytes ≡ Some d → answer_of d bytes ≡ Ok c
answered d bytes c h e reads =
    let is = read-as bytes d c h e reads in
    let equal = (bytes_eq-Decides (certificate_text c) bytes).1 (sym e) in
    ap (λ v. answer_of v bytes) is
    ∙ ap₂ (λ b o. cond b (judged_as o bytes) (Err Shape)) (certificate-shaped c) (certificate-back c h)
    ∙ ap (λ b. cond b (Ok c) (Err Range)) equal

-- ---- what each answer says

judged-ok : (o : Option Certificate) (bytes : List ℕ) (c : Certificate) → judged_as o bytes ≡ Ok c
    → (o ≡ Some c) × (bytes ≡ certificate_text c)
judged-ok None bytes c e = cc
judged-ok (Some x) bytes c e = chosen (bytes_eq (certificate_text x) bytes) refl e
  where
    chosen : (b : Bool) → bytes_eq (certificate_text x) bytes ≡ b → cond b (Ok x) (Err Range) ≡ Ok c
        → (Some x ≡ Some c) × (bytes ≡ certificate_text c)
    chosen true t e = let is : x ≡ c = cc e in (
      ap Some is,
      sym ((bytes_eq-Decides (certificate_text x) bytes).0 t)
          ∙ ap certificate_text is,
    )
    chosen false t e = cc e

judged-err : (o : Option Certificate) (bytes : List ℕ) (f : CertFault) → judged_as o bytes ≡ Err f → f ≡ Range
judged-err None bytes f e = cc
judged-err (Some x) bytes f e = chosen (bytes_eq (certificate_text x) bytes) e
  where
    chosen : (b : Bool) → cond b (Ok x) (Err Range) ≡ Err f → f ≡ Range
    chosen true e = cc e
    chosen false e = cc e

shaped-ok : (b : Bool) (o : Option Certificate) (bytes : List ℕ) (c : Certificate)
    → cond b (judged_as o bytes) (Err Shape) ≡ Ok c → (o ≡ Some c) × (bytes ≡ certificate_text c)
shaped-ok true o bytes c e = judged-ok o bytes c e
shaped-ok false o bytes c e = cc

shaped-err : (b : Bool) (o : Option Certificate) (bytes : List ℕ) (f : CertFault)
    → cond b (judged_as o bytes) (Err Shape) ≡ Err f → ((b ≡ true) × (f ≡ Range)) ⊎ ((b ≡ false) × (f ≡ Shape))
shaped-err true o bytes f e = inl (refl, judged-err o bytes f e)
shaped-err false o bytes f e = inr (refl, cc)

answered-ok : (d : Data) (bytes : List ℕ) (c : Certificate) → answer_of d bytes ≡ Ok c
    → IsCertificate c × (bytes ≡ certificate_text c)
answered-ok d bytes c e = let p = shaped-ok (is_certificate_object d) (certificate_in d) bytes c e in
    (certificate-within d c p.0, p.1)

no_certificate : (d : Data) (bytes : List ℕ) (f : CertFault) → answer_of d bytes ≡ Err f → read bytes ≡ Some d
    → (c : Certificate) → IsCertificate c → bytes ≡ certificate_text c → ⊥
no_certificate d bytes f e reads c h is = let both : Err f ≡ Ok c = sym e ∙ answered d bytes c h is reads in cc both

answered-err : (d : Data) (bytes : List ℕ) (f : CertFault) → answer_of d bytes ≡ Err f → ReadsAs bytes d
    → Refuses bytes f
answered-err d bytes f e reads =
    elim (shaped-err (is_certificate_object d) (certificate_in d) bytes f e) [
      | inl p ↦ subst (Refuses bytes) (sym p.1) ((d, reads, p.0), no_certificate d bytes f e reads.1)
      | inr p ↦ subst (Refuses bytes) (sym p.1) (d, reads, p.0)
    ]

pub answers-ok : (r : Result Certificate CertFault) (d : Data) (bytes : List ℕ) → Answers r (answer_of d bytes)
    → IfOk r (λ c. IsCertificate c × (bytes ≡ certificate_text c))
answers-ok (Ok c) d bytes e = answered-ok d bytes c e
answers-ok (Err f) d bytes e = tt

pub answers-refuses : (r : Result Certificate CertFault) (d : Data) (bytes : List ℕ) → Answers r (answer_of d bytes)
    → ReadsAs bytes d → IfErr r (Refuses bytes)
answers-refuses (Ok c) d bytes e reads = tt
answers-refuses (Err NotJson) d bytes e reads = answered-err d bytes NotJson e reads
answers-refuses (Err Shape) d bytes e reads = answered-err d bytes Shape e reads
answers-refuses (Err Range) d bytes e reads = answered-err d bytes Range e reads
answers-refuses (Err Memory) d bytes e reads = tt

-- ---- the answers exclude one another

pub not_refused : (bytes : List ℕ) (c : Certificate) (e : CertFault) → IsCertificate c → bytes ≡ certificate_text c
    → e ≢ Memory → Refuses bytes e → ⊥
not_refused bytes c NotJson h is plain why =
    why (certificate_data c) (subst (λ t. ReadsAs t (certificate_data c)) (sym is) (reads-certificate c h))
not_refused bytes c Shape h is plain why =
    let same = read-as bytes why.0 c h is why.1.1 in
    true≢false (sym (certificate-shaped c) ∙ ap is_certificate_object (sym same) ∙ why.2)
not_refused bytes c Range h is plain why = why.1 c h is
not_refused bytes c Memory h is plain why = plain refl

one_reading : (bytes : List ℕ) (d e : Data) → ReadsAs bytes d → ReadsAs bytes e → d ≡ e
one_reading bytes d e a b = same_Some d e (sym a.1 ∙ b.1)

pub refused_once : (bytes : List ℕ) (f e : CertFault) → Refuses bytes f → Refuses bytes e → e ≢ Memory
    → (f ≡ e) ⊎ (f ≡ Memory)
refused_once bytes Memory e a b plain = inr refl
refused_once bytes NotJson NotJson a b plain = inl refl
refused_once bytes NotJson Shape a b plain = absurd (a b.0 b.1)
refused_once bytes NotJson Range a b plain = absurd (a b.0.0 b.0.1)
refused_once bytes Shape NotJson a b plain = absurd (b a.0 a.1)
refused_once bytes Shape Shape a b plain = inl refl
refused_once bytes Shape Range a b plain =
    absurd (true≢false (sym b.0.2 ∙ ap is_certificate_object (one_reading bytes b.0.0 a.0 b.0.1 a.1) ∙ a.2))
refused_once bytes Range NotJson a b plain = absurd (b a.0.0 a.0.1)
refused_once bytes Range Shape a b plain =
    absurd (true≢false (sym a.0.2 ∙ ap is_certificate_object (one_reading bytes a.0.0 b.0 a.0.1 b.1) ∙ b.2))
refused_once bytes Range Range a b plain = inl refl
refused_once bytes f Memory a b plain = absurd (plain refl)

memory_or_not : (f : CertFault) → (f ≡ Memory) ⊎ (f ≢ Memory)
memory_or_not Memory = inl refl
memory_or_not NotJson = inr (λ e. cc)
memory_or_not Shape = inr (λ e. cc)
memory_or_not Range = inr (λ e. cc)

-- so an answer that says what holds of the line is the only one
pub only-answer : (r : Result Certificate CertFault) (bytes : List ℕ)
    → IfOk r (λ c. IsCertificate c × (bytes ≡ certificate_text c)) → IfErr r (Refuses bytes)
    → (c : Certificate) → IsCertificate c → bytes ≡ certificate_text c
    → MatchResult r (λ found. found ≡ c) (λ e. e ≡ Memory)
only-answer (Ok x) bytes ok err c h is = certificate-one x c ok.0 h (sym ok.1 ∙ is)
only-answer (Err f) bytes ok err c h is =
    elim (memory_or_not f) [ inl e ↦ e | inr plain ↦ absurd (not_refused bytes c f h is plain err) ]

pub each-fault : (r : Result Certificate CertFault) (bytes : List ℕ)
    → IfOk r (λ c. IsCertificate c × (bytes ≡ certificate_text c)) → IfErr r (Refuses bytes)
    → (e : CertFault) → e ≢ Memory → Refuses bytes e → MatchResult r (λ _. ⊥) (λ f. (f ≡ e) ⊎ (f ≡ Memory))
each-fault (Ok c) bytes ok err e plain why = not_refused bytes c e ok.0 ok.1 plain why
each-fault (Err f) bytes ok err e plain why = refused_once bytes f e err why plain

-- no value is read, so it is no certificate's line
pub unread : (bytes : List ℕ) (c : Certificate) → (IsUtf8 bytes → read bytes ≡ None) → IsCertificate c
    → bytes ≡ certificate_text c → ⊥
unread bytes c none h is = let both : None ≡ Some (certificate_data c) =
    sym (none (subst IsUtf8 (sym is) (certificate-utf8 c h))) ∙ (ap read is ∙ read-certificate_text c h) in cc both

-- ---- each line has an answer

abbrev Judged : List ℕ → Type 0
Judged bytes = ((c : Certificate) × IsCertificate c × (bytes ≡ certificate_text c))
    ⊎ ((e : CertFault) × (e ≢ Memory) × Refuses bytes e)

memory-not_range : Memory ≢ Range
memory-not_range e = cc

memory-not_shape : Memory ≢ Shape
memory-not_shape e = cc

judged-data : (bytes : List ℕ) (d : Data) → ReadsAs bytes d → (r : Result Certificate CertFault)
    → answer_of d bytes ≡ r → Judged bytes
judged-data bytes d reads (Ok c) e = let p = answered-ok d bytes c e in inl (c, p.0, p.1)
judged-data bytes d reads (Err Memory) e =
    absurd (elim (shaped-err (is_certificate_object d) (certificate_in d) bytes Memory e)
    [ inl p ↦ memory-not_range p.1 | inr p ↦ memory-not_shape p.1 ])
judged-data bytes d reads (Err f) e = inr (f, (λ m. cc), answered-err d bytes f e reads)

judged-read : (bytes : List ℕ) → IsUtf8 bytes → (o : Option Data) → read bytes ≡ o → Judged bytes
judged-read bytes text None e = inr (
  NotJson,
  (λ m. cc),
  λ d reads. let both : Some d ≡ None = sym reads.1
      ∙ e in cc both,
)
judged-read bytes text (Some d) e = judged-data bytes d (text, e) (answer_of d bytes) refl

judged-text : (bytes : List ℕ) (b : Bool) → is_utf8 bytes ≡ b → Judged bytes
judged-text bytes true e = judged-read bytes (IsUtf8-from_is_utf8 bytes e) (read bytes) refl
judged-text bytes false e =
    inr (NotJson, (λ m. cc), λ d reads. true≢false (sym (is_utf8-from_IsUtf8 bytes reads.0) ∙ e))

pub read_or_refused : (bytes : List ℕ) → Judged bytes
read_or_refused bytes = judged-text bytes (is_utf8 bytes) refl
