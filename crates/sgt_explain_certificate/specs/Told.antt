-- The names of the faults of a line that is no certificate.
use Rattle.std.specs.Prelude.{List, ℕ, codes}
use Rattle.sgt_bundle.specs.declared.fault.CertFault.{CertFault}
use Rattle.sgt_bundle.specs.declared.fault.CertFault.TheVariants.{NotJson, Shape, Range, Memory}

-- why a line is no certificate, by its name
abbrev pub fault_words : CertFault → List ℕ
fault_words NotJson = codes "Certificate: K1, "
fault_words Shape = codes "Certificate: K2, "
fault_words Range = codes "Certificate: K3, "
fault_words Memory = codes ""
