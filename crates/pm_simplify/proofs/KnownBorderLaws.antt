-- Vertices that are noted as being on the border, and what a note and a collapse change.
use Rattle.std.proofs.Common.{◌≡◌, ◌≢◌, ℕ, ◌<◌, true, false, Bool, List, inl, inr, sym, ◌∙◌}
use Rattle.std.proofs.lemmas.Grind.{common_steps}
use Rattle.std.proofs.Common.{subst}
use Rattle.std.proofs.Common.{arith, get_or-set_other}
use Rattle.std.specs.Prelude.{slice_set, replicate}
use Rattle.std.proofs.lemmas.Bool.{cases_eq, cases_lt, false≢true}
use Rattle.std.proofs.lemmas.List.{get_or_past, get_or-replicate, length-replicate}
use Rattle.pm_base.specs.Place.{Place}
use Rattle.pm_base.specs.Sides.{Net, next, to, Stands}
use Rattle.pm_base.proofs.Sides.{stands_next}
use Rattle.pm_runs.specs.Surfaces.{Surface, next_vertex, is_live, net_of_surface, IsSurface}
use Rattle.pm_runs.specs.Surfaces.{collapsed}
use Rattle.pm_runs.specs.Pairs.{IsLegalPair}
use Rattle.pm_runs.specs.Merged.{IsProper}
use Rattle.pm_runs.specs.Nearby.{IsOther}
use Rattle.pm_runs.proofs.Live.{live_below, corner_live, old_live, gone_first, gone_second}
use Rattle.pm_runs.proofs.Live.{next-after}
use Rattle.pm_runs.proofs.Living.{joined_live}
use Rattle.pm_shrink.specs.Obstacles.{IsBarred}
use Rattle.pm_simplify.specs.KnownBorder.{IsKnownBorder, AreOnBorder}
use Rattle.pm_simplify.proofs.BorderStays.{border_stays}

-- At first nothing is noted.
pub none_noted : (s : Surface) (n : ℕ) → AreOnBorder s (replicate n false)
none_noted s n v is =
    elim (cases_lt v n) [
      | inl low ↦ absurd (false≢true (sym (get_or-replicate n v false false low) ∙ is))
      | inr past ↦ grind (arith, common_steps, false≢true, get_or_past, length-replicate)
    ]

-- One vertex is noted.
pub noted_set :
    (s : Surface) (flags : List Bool) (w : ℕ) → IsKnownBorder s w → AreOnBorder s flags →
    AreOnBorder s (slice_set flags w true)
noted_set s flags w known on v is =
    elim (cases_eq v w) [
      | inl same ↦ subst (IsKnownBorder s) (sym same) known
      | inr ne ↦ on v (sym (get_or-set_other flags w v true false ne) ∙ is)
    ]

-- Both ends of a barred side are noted.
pub noted_ends :
    (s : Surface) (flags : List Bool) (e p q : ℕ) → IsSurface s → Stands (net_of_surface s) e →
    p ≡ (net_of_surface s).from e → q ≡ to (net_of_surface s) e →
    IsBarred (net_of_surface s) ((net_of_surface s).from e) (to (net_of_surface s) e) →
    AreOnBorder s flags → AreOnBorder s (slice_set (slice_set flags p true) q true)
noted_ends s flags e p q sound st is_p is_q barred on =
    let n : Net = net_of_surface s in
    let first = live_below s (n.from e) (corner_live s sound e st) in
    let second = live_below s (to n e) (corner_live s sound (next e) (stands_next n e st)) in
    let at_p : IsKnownBorder s p = subst (IsKnownBorder s) (sym is_p)
    (record { given = first; border = λ live. barred.first }) in
    let at_q : IsKnownBorder s q = subst (IsKnownBorder s) (sym is_q)
    (record { given = second; border = λ live. barred.second }) in
    noted_set s (slice_set flags p true) q at_q (noted_set s flags p at_p on)

-- What is noted stays right over a collapse.
pub noted_collapse :
    (s : Surface) (flags : List Bool) (a b : ℕ) (place : Place) → IsSurface s →
    IsProper (net_of_surface s) → IsLegalPair s a b place → AreOnBorder s flags →
    AreOnBorder (collapsed s a b place) flags
noted_collapse s flags a b place sound proper legal on v is =
    let (la, lb) = joined_live s sound a b legal.joined in
    let then : Surface = collapsed s a b place in
    let known = on v is in
    let low : v < next_vertex s = known.given in
    let more = next-after s a b place in
    record {
      given = omega (arith, low, more);
      border = λ live.
          let new : v ≢ next_vertex s = λ same. absurd (omega (arith, low, same)) in
          let first : v ≢ a = grind (arith, common_steps, gone_first, live_below) in
          let second : v ≢ b = grind (arith, common_steps, gone_second, live_below) in
          let other : IsOther s a b v =
          record { not_new = new; not_first = first; not_second = second } in
          let was : is_live s v ≡ true = sym (old_live s a b place v new first second) ∙ live in
          border_stays s sound proper a b place legal v other (known.border was);
    }
