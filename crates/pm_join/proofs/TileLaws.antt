-- What was simplified with its border kept is a part of a whole.
use Rattle.std.proofs.Common.{◌≡◌, ℕ, suc, Bool, List, [], ◌∷◌, map, None, Ok, refl, sym, ap, ◌∙◌}
use Rattle.std.proofs.Common.{subst}
use Rattle.std.specs.List.{All, AllZip}
use Rattle.std.proofs.lemmas.List.Elements.{All-nil, All-cons, All-head, All-tail}
use Rattle.pm_base.specs.Place.{Place}
use Rattle.pm_base.specs.Meshes.{Mesh}
use Rattle.pm_base.specs.Sides.{Net, net_of}
use Rattle.pm_base.specs.Fans.{IsOrientedManifold}
use Rattle.pm_forest.specs.Forest.{Hierarchy}
use Rattle.pm_forest.specs.Rules.{HasShape}
use Rattle.pm_beyond.specs.Moves.{IsClosed}
use Rattle.pm_policies.proofs.OneRun.{one_run_by_a_policy}
use Rattle.pm_fine_costs.specs.FinePolicy.{fine_keeping}
use Rattle.pm_session.specs.Script.{at_first}
use Rattle.pm_seams.specs.Joined.{together, renamed}
use Rattle.pm_worlds.specs.Worlds as worlds
use Rattle.pm_worlds.specs.Parts.{Part, IsPart, IsTileOfPart, whole_mesh, ShowWholeAlways}
use Rattle.pm_worlds.proofs.Parts as parts
use Rattle.pm_commands.specs.declared.asked.Border.TheVariants as borders
use Rattle.pm_commands.specs.Simplified.{IsSimplifiedWith}
use Rattle.pm_commands.proofs.SurfaceLaws.{one_surface}
use Rattle.pm_commands.proofs.SomeOutcomes.{surface_starts}
use Rattle.pm_commands.proofs.BorderLaws.{made_of}
use Rattle.pm_commands.proofs.FrameLaws.{scripts_closed, none_closed}
use Rattle.pm_join.specs.Tiles.{Tile, mesh_in, hierarchy_in, moved, LiesIn, whole_of, IsPlayedOn}
use Rattle.pm_join.specs.Tiles.{ArePlayed, IsShownBy, TilesShowTheWhole}

-- The hierarchy of a tile was made of its mesh.
simplified : (t : Tile) → IsSimplifiedWith borders.Kept (mesh_in t) t.target (hierarchy_in t)
simplified t =
    let Makes : Mesh → Hierarchy → Type 0 =
    λ m h. IsSimplifiedWith borders.Kept m t.target h in
    let (n, read, makes) =
    made_of Makes t.digits t.text (hierarchy_in t) (Ok (hierarchy_in t)) None refl refl
    t.made.shown.built in
    let both : Ok n ≡ Ok (mesh_in t) = (one_surface t.digits t.text read t.made.read).0 in
    let same : n ≡ mesh_in t = cc in
    subst (λ (m : Mesh). IsSimplifiedWith borders.Kept m t.target (hierarchy_in t)) same makes

abbrev part_of : Tile → Part
part_of t = record { mesh = mesh_in t; log = (simplified t).log; vertex = t.vertex }

is_part : (at : ℕ → Place) (most : ℕ) (t : Tile) → LiesIn at most t → IsPart most (part_of t)
is_part at most t lies =
    let is = simplified t in
    let known =
    one_run_by_a_policy (fine_keeping is.kept) (mesh_in t) t.target is.log is.run in
    record {
      start = surface_starts t.digits t.text (Ok (mesh_in t)) None t.made.read;
      run = known.run;
      spares = λ v on. known.spared v ((is.keeps v).1 on);
      shape = subst HasShape is.made t.made.firm.valid.shape;
      distinct = lies.distinct;
      below = lies.below;
    }

are_parts : (at : ℕ → Place) (most : ℕ) (ts : List Tile) → All (LiesIn at most) ts →
    All (IsPart most) (map part_of ts)
are_parts at most [] all = All-nil (IsPart most)
are_parts at most (t ∷ ts) all =
    All-cons (IsPart most) (part_of t) (map part_of ts)
    (is_part at most t (All-head (LiesIn at most) t ts all))
    (are_parts at most ts (All-tail (LiesIn at most) t ts all))

same_whole : (ts : List Tile) → whole_mesh (map part_of ts) ≡ whole_of ts
same_whole [] = refl
same_whole (t ∷ ts) =
    ap (together (renamed t.vertex (net_of (mesh_in t).faces))) (same_whole ts)

shown_by : (at : ℕ → Place) (most : ℕ) (t : Tile) (w : worlds.Tile) → LiesIn at most t →
    IsTileOfPart (part_of t) w → IsShownBy at t w
shown_by at most t w lies is = record {
  is =
      record {
        shows = is.shows ∙ sym (simplified t).made;
        distinct = is.distinct;
        corners = is.corners;
      };
  stands = λ v used. ap (moved t.offset) (is.corners v used).place ∙ lies.stands v used;
}

all_shown : (at : ℕ → Place) (most : ℕ) (ts : List Tile) (ws : List worlds.Tile) →
    All (LiesIn at most) ts → AllZip IsTileOfPart (map part_of ts) ws →
    AllZip (IsShownBy at) ts ws
all_shown at most [] [] all are = tt
all_shown at most [] (w ∷ ws) all are = are
all_shown at most (t ∷ ts) [] all are = are
all_shown at most (t ∷ ts) (w ∷ ws) all are = (
  shown_by at most t w (All-head (LiesIn at most) t ts all) are.0,
  all_shown at most ts ws (All-tail (LiesIn at most) t ts all) are.1,
)

-- Scripts lead to closed sets.
played_closed : (t : Tile) (T : ℕ → Bool) → IsPlayedOn (hierarchy_in t) T →
    IsClosed (hierarchy_in t) T
played_closed t T is =
    subst (λ (S : ℕ → Bool). IsClosed (hierarchy_in t) S) (sym is.split)
    (scripts_closed (hierarchy_in t) t.made.firm.valid is.grammar (at_first is.budget)
    (none_closed (hierarchy_in t)) is.lines).0

all_closed : (at : ℕ → Place) (ts : List Tile) (ws : List worlds.Tile) →
    AllZip (IsShownBy at) ts ws → (T : ℕ → ℕ → Bool) → ArePlayed ts T → worlds.AreClosed ws T
all_closed at [] [] are T played = tt
all_closed at [] (w ∷ ws) are T played = absurd are
all_closed at (t ∷ ts) [] are T played = absurd are
all_closed at (t ∷ ts) (w ∷ ws) are T played = (
  subst (λ (h : Hierarchy). IsClosed h (T 0)) (sym are.0.is.shows)
      (played_closed t (T 0) played.0),
  all_closed at ts ws are.1 (λ i. T (suc i)) played.1,
)

pub show_the_whole : TilesShowTheWhole
show_the_whole at most ts all manifold =
    let whole = same_whole ts in
    let (ws, are, show) =
    parts.show_the_whole most (map part_of ts) (are_parts at most ts all)
    (subst IsOrientedManifold (sym whole) manifold) in
    let shown = all_shown at most ts ws all are in
    let always : ShowWholeAlways (whole_of ts) ws =
    subst (λ (m : Net). ShowWholeAlways m ws) whole show in
    (ws, shown, always, λ T played. always T (all_closed at ts ws shown T played))
