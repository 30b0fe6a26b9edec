-- What was read of the certificate's line.
use Rattle.std.specs.Prelude.{◌≡◌, ℕ, List, Result, Ok, Err}
use Rattle.sgt_bundle.specs.Text.{IsCertificate, certificate_text}
use Rattle.sgt_bundle.specs.declared.certificate.Certificate.{Certificate}
use Rattle.sgt_bundle.specs.declared.fault.CertFault.{CertFault}
use Rattle.sgt_bundle.specs.declared.fault.CertFault.TheVariants.{Memory}

-- the certificate that the line spells, or that it spells none. Want of memory claims nothing of it
abbrev pub IsReadingOf : List ℕ → Result Certificate CertFault → Type 0
IsReadingOf l (Ok c) = IsCertificate c × (l ≡ certificate_text c)
IsReadingOf l (Err Memory) = Unit {0}
IsReadingOf l (Err _) = (c : Certificate) → IsCertificate c → l ≡ certificate_text c → ⊥
