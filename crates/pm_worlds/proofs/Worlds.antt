-- A world whose tiles go over, one after the other, from one choice of sets to another.
use Rattle.std.proofs.Common.{◌≡◌, ℕ, suc, ◌<◌, Bool, List, [], ◌∷◌, get_or, inl, inr, refl}
use Rattle.std.proofs.Common.{sym, ap, subst, arith}
use Rattle.std.specs.List.{All}
use Rattle.std.proofs.lemmas.List.Elements.{All-head, All-tail}
use Rattle.pm_base.specs.Sides.{Net, IsBorder}
use Rattle.pm_base.specs.Fans.{IsUsed}
use Rattle.pm_forest.specs.Forest.{Hierarchy, node_count}
use Rattle.pm_forest.specs.Fronts.{every}
use Rattle.pm_beyond.specs.Moves.{IsClosed}
use Rattle.pm_firm.specs.Firm.{shown_net}
use Rattle.pm_seams.specs.Joined.{together, no_faces, MeetsOnBorder}
use Rattle.pm_seams.proofs.Renaming as names
use Rattle.pm_seams.proofs.Gluing.{glued_surfaces, glued_borders}
use Rattle.pm_seams.proofs.Alike.{Becomes, alike_becomes, and_then, itself, then, from_left}
use Rattle.pm_seams.proofs.Alike.{from_right, pulled_out, beside_none, without_none, used_in}
use Rattle.pm_worlds.specs.Worlds.{Tile, IsBorderNode, IsTile, MeetOnBorders, IsWorld, AreClosed}
use Rattle.pm_worlds.specs.Worlds.{leaf_tile, shown_tile, leaf_world, shown_world}
use Rattle.pm_worlds.specs.Laws as law
use Rattle.pm_worlds.proofs.Tiles as tiles

-- Each node of the tile that is a vertex of the mesh is on the tile's border.
abbrev TouchesOnBorder : Net → Tile → Type 0
TouchesOnBorder m t =
    (v : ℕ) → v < node_count t.hierarchy → IsUsed m (t.vertex v) → IsBorderNode t.hierarchy v

-- A vertex that a tile shows is that of one of its nodes.
shown_node :
    (t : Tile) → IsTile t → (T : ℕ → Bool) → IsClosed t.hierarchy T → (x : ℕ) →
    IsUsed (shown_tile t T) x → (v : ℕ) × (v < node_count t.hierarchy) × (t.vertex v ≡ x)
shown_node t tile T closed x (e, s, at) =
    let h = t.hierarchy in
    let one = tiles.one_to_one h tile.firm tile.fixed t.vertex tile.distinct T closed in
    let was = names.old_stands t.vertex (shown_net h T) one e s in
    let v : ℕ = (shown_net h T).from e in
    (v, tiles.used_node h tile.firm tile.fixed T closed v (e, was, refl), at)

unused : (v : ℕ) → IsUsed no_faces v → ⊥
unused v (e, s, at) = let l = s.is_side in absurd (omega arith)

-- The first tile of a world, and the others.
module _ (t : Tile) (ts : List Tile) (world : IsWorld (t ∷ ts)) where
  first_tile : IsTile t
  first_tile = All-head IsTile t ts world.tiles

  first_meets : All (MeetOnBorders t) ts
  first_meets k d l = world.meet 0 (suc k) d (omega arith) (omega arith)

  other_tiles : IsWorld ts
  other_tiles = record {
    tiles = All-tail IsTile t ts world.tiles;
    meet = λ i j d l k. world.meet (suc i) (suc j) d (omega arith) (omega arith);
  }

-- The other tiles touch a tile on its border.
meets_world :
    (t : Tile) (ts : List Tile) → All (MeetOnBorders t) ts → IsWorld ts →
    (T : ℕ → ℕ → Bool) → AreClosed ts T →
    TouchesOnBorder (shown_world ts T) t
meets_world t [] apart world T closed v l used = absurd (unused (t.vertex v) used)
meets_world t (u ∷ us) apart world T (closed, rest) v l used =
    elim (used_in (shown_tile u (T 0)) (shown_world us (λ i. T (suc i))) (t.vertex v) used) [
      | inl here ↦
          let (w, k, is) = shown_node u (first_tile u us world) (T 0) closed (t.vertex v) here in
          (All-head (MeetOnBorders t) u us apart v w l k (sym is)).0
      | inr there ↦
          let others = All-tail (MeetOnBorders t) u us apart in
          meets_world t us others (other_tiles u us world) (λ i. T (suc i)) rest v l there
    ]

touches_both :
    (m n : Net) (t : Tile) → TouchesOnBorder m t → TouchesOnBorder n t →
    TouchesOnBorder (together m n) t
touches_both m n t first second v l used =
    elim (used_in m n (t.vertex v) used) [
      | inl here ↦ first v l here
      | inr there ↦ second v l there
    ]

-- One tile goes over from one closed set to another.
module _
    (t : Tile) (tile : IsTile t) (S T : ℕ → Bool)
    (first : IsClosed t.hierarchy S) (second : IsClosed t.hierarchy T)
  where
    abbrev h : Hierarchy
    h = t.hierarchy

    meets : (r : Net) → TouchesOnBorder r t → MeetsOnBorder (shown_tile t T) r
    meets r touches x used also =
        let (v, l, is) = shown_node t tile T second x used in
        let node = touches v l (subst (IsUsed r) (sym is) also) in
        subst (IsBorder (shown_tile t T)) is
        (tiles.vertex_on_border h tile.firm tile.fixed t.vertex tile.distinct T second v node)

    gone_over :
        (r : Net) → TouchesOnBorder r t →
        Becomes (together (shown_tile t S) r) (together (shown_tile t T) r)
    gone_over r touches whole =
        let old = shown_tile t S in
        let new = shown_tile t T in
        let stand =
        tiles.may_stand h tile.firm tile.fixed t.vertex tile.distinct S T first second in
        let manifold = tiles.manifold h tile.firm tile.fixed t.vertex tile.distinct T second in (
          glued_surfaces old new r stand (meets r touches) manifold whole,
          glued_borders old new r stand (meets r touches) manifold whole,
        )

-- A tile that shows something touches another on that one's border.
touches_tile :
    (s t : Tile) → MeetOnBorders s t → IsTile s → (T : ℕ → Bool) → IsClosed s.hierarchy T →
    TouchesOnBorder (shown_tile s T) t
touches_tile s t meets tile T closed v l used =
    let (w, k, is) = shown_node s tile T closed (t.vertex v) used in
    (meets w v k l is).1

touched :
    (m : Net) (t : Tile) → IsTile t → (T : ℕ → Bool) → IsClosed t.hierarchy T → (ts : List Tile) →
    All (TouchesOnBorder m) ts → All (MeetOnBorders t) ts →
    All (TouchesOnBorder (together m (shown_tile t T))) ts
touched m t tile T closed ts touches meet k d l =
    let u = get_or ts k d in
    touches_both m (shown_tile t T) u (touches k d l) (touches_tile t u (meet k d l) tile T closed)

-- The tiles go over one by one, beside those that have.
all_over :
    (done : Net) (ts : List Tile) → IsWorld ts → All (TouchesOnBorder done) ts →
    (S T : ℕ → ℕ → Bool) → AreClosed ts S → AreClosed ts T →
    Becomes (together done (shown_world ts S)) (together done (shown_world ts T))
all_over done [] world touches S T from until = alike_becomes _ _ (itself (together done no_faces))
all_over done (t ∷ ts) world touches S T (first, from) (second, until) =
    let tile = first_tile t ts world in
    let meet = first_meets t ts world in
    let left = other_tiles t ts world in
    let old = shown_tile t (S 0) in
    let new = shown_tile t (T 0) in
    let rest = shown_world ts (λ i. S (suc i)) in
    let others = shown_world ts (λ i. T (suc i)) in
    let here = All-head (TouchesOnBorder done) t ts touches in
    let there = meets_world t ts meet left (λ i. S (suc i)) from in
    let beside = touches_both done rest t here there in
    let back = then _ _ _ (pulled_out new done rest) (from_left done new rest) in
    let others_touch = All-tail (TouchesOnBorder done) t ts touches in
    let all_touch = touched done t tile (T 0) second ts others_touch meet in
    and_then _ _ _ (alike_becomes _ _ (pulled_out done old rest))
    (and_then _ _ _ (gone_over t tile (S 0) (T 0) first second (together done rest) beside)
    (and_then _ _ _ (alike_becomes _ _ back)
    (and_then _ _ _ (all_over (together done new) ts left all_touch _ _ from until)
    (alike_becomes _ _ (from_right done new others)))))

untouched : (ts : List Tile) → All (TouchesOnBorder no_faces) ts
untouched ts k d l v low used = absurd (unused ((get_or ts k d).vertex v) used)

pub stay_surfaces : law.WorldsStaySurfaces
stay_surfaces ts world S T from until =
    and_then _ _ _ (alike_becomes _ _ (beside_none (shown_world ts S)))
    (and_then _ _ _ (all_over no_faces ts world (untouched ts) S T from until)
    (alike_becomes _ _ (without_none (shown_world ts T))))

-- All records are a closed set, which shows the leaf mesh.
all_closed : (ts : List Tile) → AreClosed ts (λ i. every)
all_closed [] = tt
all_closed (t ∷ ts) = (λ j k l split needs. refl, all_closed ts)

all_shown : (ts : List Tile) → shown_world ts (λ i. every) ≡ leaf_world ts
all_shown [] = refl
all_shown (t ∷ ts) = ap (together (leaf_tile t)) (all_shown ts)

pub world_becomes :
    (ts : List Tile) → IsWorld ts → (T : ℕ → ℕ → Bool) → AreClosed ts T →
    Becomes (leaf_world ts) (shown_world ts T)
world_becomes ts world T closed =
    subst (λ m. Becomes m (shown_world ts T)) (all_shown ts)
    (stay_surfaces ts world (λ i. every) T (all_closed ts) closed)

pub world_surfaces : law.WorldsAreSurfaces
world_surfaces ts world manifold T closed = (world_becomes ts world T closed manifold).0

pub world_borders : law.WorldsKeepBorders
world_borders ts world manifold T closed = (world_becomes ts world T closed manifold).1
