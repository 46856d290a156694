-- The laws of geomorphs, each from the lemmas on its subject.
use Rattle.std.proofs.Common.{◌≡◌, ℕ, ◌<◌, Bool, List, ap}
use Rattle.std.proofs.Math.Path.{fun_ext}
use Rattle.std.specs.List.{flat_map}
use Rattle.pm_forest.specs.Forest.{Hierarchy}
use Rattle.pm_forest.specs.Places.{place_of_node}
use Rattle.pm_front.specs.Shown.{active_nodes}
use Rattle.pm_frame.specs.Frame.{node_line, shown_node}
use Rattle.pm_morph.specs.Elders.{elder_of}
use Rattle.pm_morph.specs.Interpolation.{morph_place_at}
use Rattle.pm_morph.specs.Texts.{moved_node}
use Rattle.pm_morph.specs.Laws as law
use Rattle.pm_morph.proofs.ElderLaws.{is_elder, only_elder}
use Rattle.pm_morph.proofs.FaceLaws.{elders_show}
use Rattle.pm_morph.proofs.LeastLaws.{none_part, part_none, first_unsplit, unsplit_first}
use Rattle.pm_morph.proofs.InterpolationLaws.{place_at_end, place_at_start}

pub elders : law.EachNodeHasOneElder
elders h shape T S marked front part v active = (
  is_elder h shape T S marked front part v active,
  only_elder h shape T S marked front part v
      active,
)

own_place : (h : Hierarchy) (T : ℕ → Bool) (b v : ℕ) → 0 < b
    → morph_place_at h T b b v ≡ place_of_node h v
unfolding morph_place_at
own_place h T b v some = place_at_end b (place_of_node h (elder_of h T v)) (place_of_node h v) some

own_line : (h : Hierarchy) (T : ℕ → Bool) (b v : ℕ) → 0 < b → moved_node h T b b v ≡ shown_node h v
own_line h T b v some = ap (node_line v) (own_place h T b v some)

pub ends : law.EndsAtTheFrame
ends h T S b some =
    ap (λ (line : ℕ → List ℕ). flat_map line (active_nodes h S))
    (fun_ext (λ v. own_line h T b v some))

pub starts : law.StartsAtElders
unfolding morph_place_at
starts h T b v some = place_at_start b (place_of_node h (elder_of h T v)) (place_of_node h v) some

pub faces : law.EldersShowTheMarkedFront
faces h shape T S marked front part = elders_show h shape T S marked front part

pub least : law.TheLeastIsNamed
least h T S =
    ((none_part h T S, part_none h T S), λ k. (first_unsplit h T S k, unsplit_first h T S k))
