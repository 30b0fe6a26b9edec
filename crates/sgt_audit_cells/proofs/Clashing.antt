-- A conflict of two transactions, by what they did.
use Rattle.std.proofs.Common.{◌≡◌, ◌≢◌, ℕ, List, Some, None, Bool, true, false, IsTrue, refl, sym, ap, ap₂, ◌∙◌, Any, Contains}
use Rattle.std.specs.Prelude.{◌↔◌, slice_get, not, ◌&&◌}
use Rattle.std.proofs.lemmas.Bool.{false≢true}
use Rattle.sgt_names.proofs.Places.{Contains_at, Contains-from_at}
use Rattle.sgt_names.proofs.Lists.{Any_at, Any-from_at}
use Rattle.sgt_names.specs.Name.{Name}
use Rattle.sgt_names.specs.Entry.{tx_of, item_of, Reads, Writes, Clash}
use Rattle.sgt_names.specs.Log.{names, Conflicts}
use Rattle.sgt_names.specs.declared.entry.Entry.{Entry}
use Rattle.sgt_names.specs.declared.entry.Holding.{Holding}
use Rattle.sgt_names.specs.declared.entry.Kind.{Kind}
use Rattle.sgt_names.specs.declared.entry.Kind.TheVariants.{Wr, Rw, Ww}
use Rattle.sgt_bundle.specs.declared.certificate.Decision.{Decision}
use Rattle.sgt_audit_cells.specs.Records.{AreActs, deed_of}
use Rattle.sgt_audit_cells.specs.private.Deeds.{act, changes, adds, deeds_clash, ClashesWith}
use Rattle.sgt_audit_cells.specs.Tracks.{IsNumberOf, TracksOpen}
use Rattle.sgt_audit_cells.specs.declared.act.Act.{Act}
use Rattle.sgt_audit_cells.specs.declared.state.SiteState.{SiteState}
use Rattle.sgt_audit_cells.proofs.Doing.{change-written, read-read, deed-written, deed-read, adds-is}
use Rattle.sgt_notation.proofs.Texts.{clash_items}

and-decides : (a b : Bool) (P Q : Type 0) → IsTrue a ↔ P → IsTrue b ↔ Q → IsTrue (a && b) ↔ (P × Q)
and-decides true b P Q p q = (λ h. (p.0 refl, q.0 h), λ h. q.1 h.1)
and-decides false b P Q p q = (λ h. absurd (false≢true h), λ h. p.1 h.0)

not-both : (a b : Bool) → IsTrue (not (a && b)) ↔ (IsTrue a → IsTrue b → ⊥)
not-both true true = (λ h. absurd (false≢true h), λ h. absurd (h refl refl))
not-both true false = (λ h p q. false≢true q, λ h. refl)
not-both false b = (λ h p q. false≢true p, λ h. refl)

not-true : (b : Bool) → IsTrue (not b) → b ≡ false
not-true true h = absurd (false≢true h)
not-true false h = refl

module _ (e : Entry) (x : Name) (on : item_of e ≡ Some x) where
  write-decides : IsTrue (changes (deed_of e)) ↔ Writes x e
  write-decides = (λ h. deed-written e x on h, λ w. (change-written e x w).1)

  read-decides : IsTrue (not (changes (deed_of e))) ↔ Reads x e
  read-decides = (λ h. deed-read e x on (not-true (changes (deed_of e)) h), λ r. ap not (read-read e x r).1)

clash-deeds : (kind : Kind) (x : Name) (e f : Entry) → item_of e ≡ Some x → item_of f ≡ Some x
    → IsTrue (deeds_clash kind (deed_of e) (deed_of f)) ↔ Clash kind x e f
clash-deeds Wr x e f on_e on_f = and-decides (changes (deed_of e)) (not (changes (deed_of f))) (Writes x e)
    (Reads x f) (write-decides e x on_e) (read-decides f x on_f)
clash-deeds Rw x e f on_e on_f = and-decides (not (changes (deed_of e))) (changes (deed_of f)) (Reads x e)
    (Writes x f) (read-decides e x on_e) (write-decides f x on_f)
clash-deeds Ww x e f on_e on_f =
    let both = and-decides (changes (deed_of e)) (changes (deed_of f)) (Writes x e) (Writes x f)
    (write-decides e x on_e) (write-decides f x on_f) in
    let few = not-both (adds (deed_of e)) (adds (deed_of f)) in
    let all = and-decides (changes (deed_of e) && changes (deed_of f)) (not (adds (deed_of e) && adds (deed_of f)))
    (Writes x e × Writes x f) (IsTrue (adds (deed_of e)) → IsTrue (adds (deed_of f)) → ⊥) both few in (
      λ h. let r = all.0 h in (r.0.0, r.0.1, λ p q. r.1 (adds-is e ∙ p) (adds-is f ∙ q)),
      λ c. all.1 ((c.0, c.1), λ p q. c.2 (sym (adds-is e) ∙ p) (sym (adds-is f) ∙ q)),
    )

module _ (ns : List Name) (entries : List Entry) (a b : ℕ) (acts others : List Act) (is : AreActs ns entries a acts)
    (are : AreActs ns entries b others) (i : ℕ) (x : Name) (at : slice_get ns i ≡ Some x) (kind : Kind)
    (apart : a ≢ b) where
  abbrev IsMet : Act → Type 0
  IsMet c = (c.place ≡ i) × Any (ClashesWith kind c) others

  met-conflicts : Any IsMet acts → Conflicts entries kind x a b
  met-conflicts h =
      let first = Any_at IsMet acts h in
      let c = first.1 in
      let second = Any_at (ClashesWith kind c) others first.3.1 in
      let d = second.1 in
      let v = (is c).0 (Contains-from_at acts first.0 c first.2) in
      let w = (are d).0 (Contains-from_at others second.0 d second.2) in
      let on_v : item_of v.entry ≡ Some x = v.on ∙ sym v.item ∙ ap (slice_get ns) first.3.0 ∙ at in
      let on_w : item_of w.entry ≡ Some x = w.on ∙ sym w.item ∙ ap (slice_get ns) (second.3.0 ∙ first.3.0) ∙ at in
      record {
        p = c.at;
        q = d.at;
        e = v.entry;
        f = w.entry;
        before = second.3.1;
        first = v.here;
        second = w.here;
        from = v.of;
        to = w.of;
        apart = apart;
        clash = (clash-deeds kind x v.entry w.entry on_v on_w).0 (ap₂ (deeds_clash kind) (sym v.deed) (sym w.deed)
            ∙ second.3.2);
      }

  conflict-met : Conflicts entries kind x a b → Any IsMet acts
  conflict-met k =
      let on = clash_items kind x k.e k.f k.clash in
      let c : Act = act k.p i k.e in
      let d : Act = act k.q i k.f in
      let first =
      Contains_at acts c
      ((is c).1 (record {
        entry = k.e;
        name = x;
        here = k.first;
        of = k.from;
        item = at;
        on = on.0;
        deed =
            refl;
      })) in
      let second =
      Contains_at others d
      ((are d).1 (record {
        entry = k.f;
        name = x;
        here = k.second;
        of = k.to;
        item = at;
        on = on.1;
        deed =
            refl;
      })) in
      Any-from_at IsMet acts first.0 c first.1 (
        refl,
        Any-from_at (ClashesWith kind c) others second.0 d second.1 (
          refl,
          k.before,
          (clash-deeds kind x k.e k.f on.0 on.1).1 k.clash,
        ),
      )

  pub clash-decides : Any IsMet acts ↔ Conflicts entries kind x a b
  clash-decides = (met-conflicts, conflict-met)

-- an item of a conflict is listed, and who is not decided did nothing
module _ (ds : List Decision) (items : List Holding) (entries : List Entry) (s : SiteState)
    (t : TracksOpen ds items entries s) where
  pub conflict-listed : (kind : Kind) (x : Name) (a b : ℕ) → Conflicts entries kind x a b → Contains (names items) x
  conflict-listed kind x a b c =
      t.listed c.e (Contains-from_at entries c.p c.e c.first) x (clash_items kind x c.e c.f c.clash).0

  -- and is in no conflict
  undecided-entry : (tx p : ℕ) (e : Entry) → IsNumberOf ds tx None → slice_get entries p ≡ Some e → tx_of e ≡ tx → ⊥
  undecided-entry tx p e none at of = let by = t.decided e (Contains-from_at entries p e at) in
      none by.0 (by.1.0, by.1.1, by.1.2 ∙ of)

  pub undecided-first : (kind : Kind) (x : Name) (a b : ℕ) → IsNumberOf ds a None → Conflicts entries kind x a b → ⊥
  undecided-first kind x a b none k = undecided-entry a k.p k.e none k.first k.from

  pub undecided-second : (kind : Kind) (x : Name) (a b : ℕ) → IsNumberOf ds b None → Conflicts entries kind x a b → ⊥
  undecided-second kind x a b none k = undecided-entry b k.q k.f none k.second k.to
