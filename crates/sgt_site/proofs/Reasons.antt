-- A refused call has one reason.
use Rattle.std.proofs.Common.{◌≡◌, ℕ, List, refl}
use Rattle.sgt_names.specs.Name.{Name}
use Rattle.sgt_names.specs.declared.draft.Touch.{Touch}
use Rattle.sgt_names.specs.declared.entry.Holding.{Holding}
use Rattle.sgt_site.specs.State.{SiteState}
use Rattle.sgt_site.specs.Refused.{RefusesItems, RefusesRead, RefusesPledge}
use Rattle.sgt_site.specs.declared.fault.SiteFault.{SiteFault}
use Rattle.sgt_site.specs.declared.fault.SiteFault.TheVariants.{UnknownItem, ReadTwice, Ended, Memory, NotPledged, BadItems, PledgeOpen, DraftDiffers}

pub items-once : (items : List Holding) (f g : SiteFault) → RefusesItems items f → RefusesItems items g → f ≡ g
items-once items UnknownItem g a b = absurd a
items-once items ReadTwice g a b = absurd a
items-once items Ended g a b = absurd a
items-once items Memory UnknownItem a b = absurd b
items-once items Memory ReadTwice a b = absurd b
items-once items Memory Ended a b = absurd b
items-once items Memory Memory a b = refl
items-once items Memory NotPledged a b = absurd b
items-once items Memory BadItems a b = absurd (b a)
items-once items Memory PledgeOpen a b = absurd b
items-once items Memory DraftDiffers a b = absurd b
items-once items NotPledged g a b = absurd a
items-once items BadItems UnknownItem a b = absurd b
items-once items BadItems ReadTwice a b = absurd b
items-once items BadItems Ended a b = absurd b
items-once items BadItems Memory a b = absurd (a b)
items-once items BadItems NotPledged a b = absurd b
items-once items BadItems BadItems a b = refl
items-once items BadItems PledgeOpen a b = absurd b
items-once items BadItems DraftDiffers a b = absurd b
items-once items PledgeOpen g a b = absurd a
items-once items DraftDiffers g a b = absurd a

module _ (s : SiteState) (tx : ℕ) where
  pub read-once : (x : Name) (f g : SiteFault) → RefusesRead s tx x f → RefusesRead s tx x g → f ≡ g
  read-once x UnknownItem UnknownItem a b = refl
  read-once x UnknownItem ReadTwice a b = absurd (a b.0)
  read-once x UnknownItem Ended a b = absurd (a b.0.0)
  read-once x UnknownItem Memory a b = absurd (a b.known)
  read-once x UnknownItem NotPledged a b = absurd b
  read-once x UnknownItem BadItems a b = absurd b
  read-once x UnknownItem PledgeOpen a b = absurd (a b.0.0.0)
  read-once x UnknownItem DraftDiffers a b = absurd b
  read-once x ReadTwice UnknownItem a b = absurd (b a.0)
  read-once x ReadTwice ReadTwice a b = refl
  read-once x ReadTwice Ended a b = absurd (b.0.1 a.1)
  read-once x ReadTwice Memory a b = absurd (b.first a.1)
  read-once x ReadTwice NotPledged a b = absurd b
  read-once x ReadTwice BadItems a b = absurd b
  read-once x ReadTwice PledgeOpen a b = absurd (b.0.0.1 a.1)
  read-once x ReadTwice DraftDiffers a b = absurd b
  read-once x Ended UnknownItem a b = absurd (b a.0.0)
  read-once x Ended ReadTwice a b = absurd (a.0.1 b.1)
  read-once x Ended Ended a b = refl
  read-once x Ended Memory a b = absurd (b.active a.1)
  read-once x Ended NotPledged a b = absurd b
  read-once x Ended BadItems a b = absurd b
  read-once x Ended PledgeOpen a b = absurd (b.0.1 a.1)
  read-once x Ended DraftDiffers a b = absurd b
  read-once x Memory UnknownItem a b = absurd (b a.known)
  read-once x Memory ReadTwice a b = absurd (a.first b.1)
  read-once x Memory Ended a b = absurd (a.active b.1)
  read-once x Memory Memory a b = refl
  read-once x Memory NotPledged a b = absurd b
  read-once x Memory BadItems a b = absurd b
  read-once x Memory PledgeOpen a b = absurd (a.free b.1)
  read-once x Memory DraftDiffers a b = absurd b
  read-once x NotPledged g a b = absurd a
  read-once x BadItems g a b = absurd a
  read-once x PledgeOpen UnknownItem a b = absurd (b a.0.0.0)
  read-once x PledgeOpen ReadTwice a b = absurd (a.0.0.1 b.1)
  read-once x PledgeOpen Ended a b = absurd (a.0.1 b.1)
  read-once x PledgeOpen Memory a b = absurd (b.free a.1)
  read-once x PledgeOpen NotPledged a b = absurd b
  read-once x PledgeOpen BadItems a b = absurd b
  read-once x PledgeOpen PledgeOpen a b = refl
  read-once x PledgeOpen DraftDiffers a b = absurd b
  read-once x DraftDiffers g a b = absurd a

  pub pledge-once : (touched : List Touch) (f g : SiteFault) → RefusesPledge s tx touched f
      → RefusesPledge s tx touched g → f ≡ g
  pledge-once touched UnknownItem UnknownItem a b = refl
  pledge-once touched UnknownItem ReadTwice a b = absurd b
  pledge-once touched UnknownItem Ended a b = absurd (a b.0)
  pledge-once touched UnknownItem Memory a b = absurd (a b.known)
  pledge-once touched UnknownItem NotPledged a b = absurd b
  pledge-once touched UnknownItem BadItems a b = absurd b
  pledge-once touched UnknownItem PledgeOpen a b = absurd (a b.0.0)
  pledge-once touched UnknownItem DraftDiffers a b = absurd (a b.0.0.0)
  pledge-once touched ReadTwice g a b = absurd a
  pledge-once touched Ended UnknownItem a b = absurd (b a.0)
  pledge-once touched Ended ReadTwice a b = absurd b
  pledge-once touched Ended Ended a b = refl
  pledge-once touched Ended Memory a b = absurd (b.active a.1)
  pledge-once touched Ended NotPledged a b = absurd b
  pledge-once touched Ended BadItems a b = absurd b
  pledge-once touched Ended PledgeOpen a b = absurd (b.0.1 a.1)
  pledge-once touched Ended DraftDiffers a b = absurd (b.0.0.1 a.1)
  pledge-once touched Memory UnknownItem a b = absurd (b a.known)
  pledge-once touched Memory ReadTwice a b = absurd b
  pledge-once touched Memory Ended a b = absurd (a.active b.1)
  pledge-once touched Memory Memory a b = refl
  pledge-once touched Memory NotPledged a b = absurd b
  pledge-once touched Memory BadItems a b = absurd b
  pledge-once touched Memory PledgeOpen a b = absurd (b.1 a.free)
  pledge-once touched Memory DraftDiffers a b = absurd (b.1 a.same)
  pledge-once touched NotPledged g a b = absurd a
  pledge-once touched BadItems g a b = absurd a
  pledge-once touched PledgeOpen UnknownItem a b = absurd (b a.0.0)
  pledge-once touched PledgeOpen ReadTwice a b = absurd b
  pledge-once touched PledgeOpen Ended a b = absurd (a.0.1 b.1)
  pledge-once touched PledgeOpen Memory a b = absurd (a.1 b.free)
  pledge-once touched PledgeOpen NotPledged a b = absurd b
  pledge-once touched PledgeOpen BadItems a b = absurd b
  pledge-once touched PledgeOpen PledgeOpen a b = refl
  pledge-once touched PledgeOpen DraftDiffers a b = absurd (a.1 b.0.1)
  pledge-once touched DraftDiffers UnknownItem a b = absurd (b a.0.0.0)
  pledge-once touched DraftDiffers ReadTwice a b = absurd b
  pledge-once touched DraftDiffers Ended a b = absurd (a.0.0.1 b.1)
  pledge-once touched DraftDiffers Memory a b = absurd (a.1 b.same)
  pledge-once touched DraftDiffers NotPledged a b = absurd b
  pledge-once touched DraftDiffers BadItems a b = absurd b
  pledge-once touched DraftDiffers PledgeOpen a b = absurd (b.1 a.0.1)
  pledge-once touched DraftDiffers DraftDiffers a b = refl
