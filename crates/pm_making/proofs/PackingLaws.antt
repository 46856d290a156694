-- What was packed, or unpacked.
use Rattle.std.proofs.Common.{◌≡◌, ℕ, List, [], None, refl, sym, subst}
use Rattle.pm_pack.specs.Packed.{IsPacked}
use Rattle.pm_making.specs.Making.{MadeText}
use Rattle.pm_making.specs.Packing.{IsPackedOf, IsUnpackedOf}

pub packed_of : (stream bytes : List ℕ) (all : MadeText)
    → all ≡ record { bytes = bytes; notes = []; scale = None } → IsPacked bytes stream
    → IsPackedOf stream all
packed_of stream bytes all is packed =
    subst (IsPackedOf stream) (sym is) (record { is = packed; notes = refl; scale = refl })

pub unpacked_of : (packed bytes notes : List ℕ) (all : MadeText)
    → all ≡ record { bytes = bytes; notes = notes; scale = None } → notes ≡ []
    → IsPacked packed bytes
    → ((text : List ℕ) → IsPacked packed text → bytes ≡ text) → IsUnpackedOf packed all
unpacked_of packed bytes notes all is none packs alone =
    subst (IsUnpackedOf packed) (sym is)
    (record { is = packs; alone = alone; notes = none; scale = refl })
