-- Two quadrics together, whose eleven numbers are read back from their bits.
use Rattle.std.proofs.Common.{◌≡◌, ◌^◌, refl, ◌∙◌, ap, lit≤}
use Rattle.pm_quadric.specs.Sums.{Sums, plus_sums}
use Rattle.pm_quadric.proofs.Words.{sum_is}
use Rattle.pm_quadric.proofs.ReadBack.{sums_read}
use Rattle.pm_fine.specs.FineSums.{IsFineSmall}

sums_read-plus : (s t : Sums) → IsFineSmall s → IsFineSmall t → sums_read s t ≡ plus_sums s t
sums_read-plus s t h k =
    rw (
      sum_is s.xx t.xx (2 ^ 80) h.xx k.xx (lit≤ tt),
      sum_is s.xy t.xy (2 ^ 80) h.xy k.xy (lit≤ tt),
      sum_is s.xz t.xz (2 ^ 80) h.xz k.xz (lit≤ tt),
      sum_is s.x t.x (2 ^ 97) h.x k.x (lit≤ tt),
      sum_is s.yy t.yy (2 ^ 80) h.yy k.yy (lit≤ tt),
      sum_is s.yz t.yz (2 ^ 80) h.yz k.yz (lit≤ tt),
      sum_is s.y t.y (2 ^ 97) h.y k.y (lit≤ tt),
      sum_is s.zz t.zz (2 ^ 80) h.zz k.zz (lit≤ tt),
      sum_is s.z t.z (2 ^ 97) h.z k.z (lit≤ tt),
      sum_is s.one t.one (2 ^ 113) h.one k.one (lit≤ tt),
    ) refl

pub sums_read-is : (s t u v : Sums) → IsFineSmall s → IsFineSmall t → s ≡ u → t ≡ v
    → sums_read s t ≡ plus_sums u v
sums_read-is s t u v h k p q =
    sums_read-plus s t h k
    ∙ (ap (λ (r : Sums). plus_sums r t) p ∙ ap (λ (r : Sums). plus_sums u r) q)
