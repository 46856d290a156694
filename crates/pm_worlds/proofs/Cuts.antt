-- The hierarchies of the pieces of a cut mesh are a world, whose leaf meshes are the pieces'
-- meshes with other numbers.
use Rattle.std.proofs.Common.{ℕ, suc, ◌<◌, Bool, List, [], ◌∷◌, length, get_or, map, sym, ap, ◌∙◌}
use Rattle.std.proofs.lemmas.Grind.{common_steps}
use Rattle.std.proofs.Common.{subst, arith}
use Rattle.std.specs.List.{All}
use Rattle.std.proofs.lemmas.List.Elements.{All-nil, All-cons, All-head, All-tail, All-map}
use Rattle.std.proofs.lemmas.List.Kept.{AllPairs-cons}
use Rattle.pm_base.specs.Sides.{Net, net_of, NoSideTwice, IsBorder}
use Rattle.pm_base.specs.Fans.{IsPairAt, IsUsed, IsOrientedManifold}
use Rattle.pm_forest.specs.Forest.{node_count}
use Rattle.pm_number.specs.Stages.{Run, run_of, IsMerging}
use Rattle.pm_number.specs.Numbering.{node_number, leaf_number, face_number, hierarchy_of_run}
use Rattle.pm_number.specs.Shown.{IsNumbered}
use Rattle.pm_number.proofs.FirmRuns.{are_firm}
use Rattle.pm_number.proofs.Merging.{merging}
use Rattle.pm_number.proofs.Whole.{numbered}
use Rattle.pm_seams.specs.Joined.{no_faces, IsOneToOneOn}
use Rattle.pm_seams.proofs.Renaming as names
use Rattle.pm_seams.proofs.Sums.{sums}
use Rattle.pm_seams.proofs.Chains.{AreWithin}
use Rattle.pm_seams.proofs.Shared.{on_border}
use Rattle.pm_seams.proofs.Alike.{AreAlike, Becomes, alike_becomes, and_then, then, beside}
use Rattle.pm_seams.proofs.Alike.{beside_first, itself}
use Rattle.pm_tiles.specs.Fixed.{HasFixedBorder}
use Rattle.pm_tiles.proofs.SparedBorders.{borders_fixed}
use Rattle.pm_worlds.specs.Worlds.{IsBorderNode, IsTile, MeetOnBorders, IsWorld, AreClosed}
use Rattle.pm_worlds.specs.Worlds.{leaf_tile, leaf_world, shown_world}
use Rattle.pm_worlds.specs.Cuts.{Piece, hierarchy_in, tile_of, piece_mesh, cut_mesh, IsPiece}
use Rattle.pm_worlds.specs.Cuts.{node_in, IsCornerNode, ShareCorners, AreCut}
use Rattle.pm_worlds.specs.Laws as law
use Rattle.pm_worlds.proofs.RunMeshes.{leaf_alike, border_leaf, border_root}
use Rattle.pm_worlds.proofs.Worlds.{world_becomes}

module _ (p : Piece) (piece : IsPiece p) where
  abbrev r : Run
  r = run_of p.mesh p.log

  abbrev IsNumberedBy : (ℕ → ℕ) → (ℕ → ℕ) → (ℕ → ℕ) → Type 0
  IsNumberedBy node leaf face = IsNumbered (run_of p.mesh p.log) (hierarchy_in p) node leaf face

  pub told : IsMerging (run_of p.mesh p.log)
  told = merging p.mesh p.log piece.start piece.run

  pub num : IsNumberedBy (node_number r) (leaf_number r) (face_number r)
  unfolding hierarchy_of_run
  num = numbered (run_of p.mesh p.log) told

  fixed : HasFixedBorder (hierarchy_in p)
  fixed = borders_fixed p.mesh piece.start p.log piece.run piece.spares

  is_tile : IsTile (tile_of p)
  is_tile = grind (arith, common_steps, are_firm, fixed)

  piece_alike : AreAlike (piece_mesh p) (leaf_tile (tile_of p))
  piece_alike =
      leaf_alike r (hierarchy_in p) (node_number r) (leaf_number r) (face_number r) told num
      p.vertex

  abbrev vertex_in : ℕ → ℕ
  vertex_in v = p.vertex (node_in p v)

  corner_lt : (v : ℕ) → IsUsed (net_of p.mesh.faces) v → v < length p.mesh.points
  corner_lt v (e, s, at) = subst (λ i. i < length p.mesh.points) at (told.vertex e s.is_side)

  node_lt : (v : ℕ) → v < length p.mesh.points → node_in p v < node_count (hierarchy_in p)
  node_lt v l = let n = num.node_there v l in let c = num.count in omega arith

  -- Vertices that faces of the mesh use are different vertices of the world.
  one_to_one : IsOneToOneOn (λ v. p.vertex (node_in p v)) (net_of p.mesh.faces)
  one_to_one x y ux uy is =
      let lx = corner_lt x ux in
      let ly = corner_lt y uy in
      num.node_once x y (omega arith) (omega arith)
      (piece.distinct (node_in p x) (node_in p y) (node_lt x lx) (node_lt y ly) is)

  pub corner_used : (v : ℕ) → IsCornerNode p v → IsUsed (piece_mesh p) (p.vertex v)
  corner_used v c =
      let (e, s, at) = c.used in
      let named = names.named_stands vertex_in (net_of p.mesh.faces) one_to_one e s in
      (e, named, ap vertex_in at ∙ ap p.vertex c.node)

  -- A corner that is on the border of the piece's mesh has a node on the tile's border.
  pub border_node :
      (v : ℕ) → IsCornerNode p v → IsBorder (piece_mesh p) (p.vertex v) →
      IsBorderNode (hierarchy_in p) v
  border_node v c border =
      let h = hierarchy_in p in
      let node = node_number r in
      let leaf = leaf_number r in
      let face = face_number r in
      let at_corner = subst (λ w. IsBorder (piece_mesh p) (p.vertex w)) (sym c.node) border in
      let on_border =
      names.on_border vertex_in (net_of p.mesh.faces) one_to_one c.corner c.used at_corner in
      record {
        leaf = leaf c.corner;
        border = border_leaf r h node leaf face told num c.corner on_border;
        root = border_root r h node leaf face told num fixed c.corner on_border ∙ c.node;
      }

-- The first piece of a cut mesh, and the others.
module _ (p : Piece) (ps : List Piece) (cut : AreCut (p ∷ ps)) where
  first_piece : IsPiece p
  first_piece = All-head IsPiece p ps cut.pieces

  first_shares : All (ShareCorners p) ps
  first_shares k d l = cut.share 0 (suc k) d (omega arith) (omega arith)

  other_pieces : AreCut ps
  other_pieces = record {
    pieces = All-tail IsPiece p ps cut.pieces;
    share = λ i j d l k. cut.share (suc i) (suc j) d (omega arith) (omega arith);
  }

-- The mesh of each piece is in the mesh that was cut.
abbrev IsIn : Net → Net → Type 0
IsIn m n = (v x y : ℕ) → IsPairAt m v x y → IsPairAt n v x y

all_in : (ps : List Piece) → All (λ p. IsIn (piece_mesh p) (cut_mesh ps)) ps
all_in [] = All-nil (λ p. IsIn (piece_mesh p) no_faces)
all_in (p ∷ ps) =
    let both = sums (piece_mesh p) (cut_mesh ps) in
    All-cons (λ q. IsIn (piece_mesh q) (cut_mesh (p ∷ ps))) p ps both.left
    (λ k d l v x y f. both.right v x y (all_in ps k d l v x y f))

-- Two pieces meet on their borders, since what was cut is an oriented manifold.
module _
    (whole : Net) (manifold : IsOrientedManifold whole) (p q : Piece)
    (first : IsPiece p) (second : IsPiece q)
    (both : AreWithin whole (piece_mesh p) (piece_mesh q)) (share : ShareCorners p q)
  where
    other_way : AreWithin whole (piece_mesh q) (piece_mesh p)
    other_way = record {
      left = both.right;
      right = both.left;
      apart = λ v x y z f g. both.apart v x z y g f;
    }

    meet_on_borders : MeetOnBorders (tile_of p) (tile_of q)
    meet_on_borders v w lv lw is =
        let (c, d) = share v w lv lw is in
        let at_p = corner_used p first v c in
        let at_q = corner_used q second w d in
        let mp = piece_mesh p in
        let mq = piece_mesh q in
        let p_too = subst (IsUsed mp) is at_p in
        let q_too = subst (IsUsed mq) (sym is) at_q in
        let of_p = on_border whole mp mq manifold both (p.vertex v) at_p q_too in
        let of_q = on_border whole mq mp manifold other_way (q.vertex w) at_q p_too in
        (border_node p first v c of_p, border_node q second w d of_q)

meet_rest :
    (whole : Net) → IsOrientedManifold whole → (p : Piece) (ps : List Piece) → IsPiece p →
    All IsPiece ps → All (ShareCorners p) ps → IsIn (cut_mesh (p ∷ ps)) whole →
    NoSideTwice (cut_mesh (p ∷ ps)) → All (λ q. MeetOnBorders (tile_of p) (tile_of q)) ps
meet_rest whole manifold p ps piece others share within once k d l =
    let q = get_or ps k d in
    let both = sums (piece_mesh p) (cut_mesh ps) in
    let inside = all_in ps k d l in
    let pair : AreWithin whole (piece_mesh p) (piece_mesh q) = record {
      left = λ v x y f. within v x y (both.left v x y f);
      right = λ v x y f. within v x y (both.right v x y (inside v x y f));
      apart = λ v x y z f g. both.apart once v x y z f (inside v x z g);
    } in
    meet_on_borders whole manifold p q piece (others k d l) pair (share k d l)

cut_world :
    (whole : Net) → IsOrientedManifold whole → (ps : List Piece) → AreCut ps →
    IsIn (cut_mesh ps) whole → NoSideTwice (cut_mesh ps) → IsWorld (map tile_of ps)
cut_world whole manifold [] cut within once =
    record { tiles = All-nil IsTile; meet = λ i j d l k. absurd (omega arith) }
cut_world whole manifold (p ∷ ps) cut within once =
    let both = sums (piece_mesh p) (cut_mesh ps) in
    let piece = first_piece p ps cut in
    let left = other_pieces p ps cut in
    let share = first_shares p ps cut in
    let meets = meet_rest whole manifold p ps piece left.pieces share within once in
    let others =
    cut_world whole manifold ps left (λ v x y f. within v x y (both.right v x y f))
    (both.once_right once) in
    let all = All-map (MeetOnBorders (tile_of p)) tile_of ps meets in
    record {
      tiles = All-cons IsTile (tile_of p) (map tile_of ps) (is_tile p piece) others.tiles;
      meet = AllPairs-cons MeetOnBorders (tile_of p) (map tile_of ps) all others.meet;
    }

cut_alike : (ps : List Piece) → AreCut ps → AreAlike (cut_mesh ps) (leaf_world (map tile_of ps))
cut_alike [] cut = itself no_faces
cut_alike (p ∷ ps) cut =
    let rest = cut_alike ps (other_pieces p ps cut) in
    let here = piece_alike p (first_piece p ps cut) in
    then _ _ _
    (beside_first (cut_mesh ps) (piece_mesh p) (leaf_tile (tile_of p)) here)
    (beside (leaf_tile (tile_of p)) (cut_mesh ps) (leaf_world (map tile_of ps)) rest)

pub cut_becomes :
    (ps : List Piece) → AreCut ps → (T : ℕ → ℕ → Bool) → AreClosed (map tile_of ps) T →
    Becomes (cut_mesh ps) (shown_world (map tile_of ps) T)
cut_becomes ps cut T closed manifold =
    let world =
    cut_world (cut_mesh ps) manifold ps cut (λ v x y f. f) manifold.no_side_twice in
    and_then _ _ _ (alike_becomes _ _ (cut_alike ps cut))
    (world_becomes (map tile_of ps) world T closed) manifold

pub cut_surfaces : law.CutMeshesAreShown
cut_surfaces ps cut manifold T closed = (cut_becomes ps cut T closed manifold).0

pub cut_borders : law.CutMeshesKeepBorders
cut_borders ps cut manifold T closed = (cut_becomes ps cut T closed manifold).1
