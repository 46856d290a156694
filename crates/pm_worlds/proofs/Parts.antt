-- Parts are pieces whose nodes have the numbers of the corners that they are.
use Rattle.std.proofs.Common.{◌≡◌, ℕ, ◌+◌, ◌<◌, ◌≤◌, Bool, List, [], ◌∷◌, length, map, eqb}
use Rattle.std.proofs.Common.{Option, Some, None, refl, sym, ap, ◌∙◌, subst, arith}
use Rattle.std.proofs.lemmas.Bool.{eq-eqb, eqb-true, lt-ltb, cond-true}
use Rattle.std.proofs.lemmas.List.{get_or_default}
use Rattle.std.specs.List.{All, AllZip}
use Rattle.std.proofs.lemmas.List.Elements.{All-nil, All-cons, All-head, All-tail}
use Rattle.pm_base.specs.Place.{origin, place_of}
use Rattle.pm_base.specs.Sides.{net_of, find_below}
use Rattle.pm_base.specs.Fans.{IsUsed}
use Rattle.pm_base.proofs.Search.{find_below-some, find_below-has}
use Rattle.pm_base.proofs.NetLaws.{mesh_side}
use Rattle.pm_forest.specs.Forest.{node_count}
use Rattle.pm_forest.specs.Places.{place_of_node}
use Rattle.pm_number.specs.Stages.{Run, run_of, IsMerging}
use Rattle.pm_number.specs.Numbering.{node_number, leaf_number, face_number, hierarchy_of_run}
use Rattle.pm_number.specs.Numbering.{place_number}
use Rattle.pm_number.specs.Shown.{IsNumbered}
use Rattle.pm_number.proofs.Merging.{merging}
use Rattle.pm_number.proofs.Whole.{numbered}
use Rattle.pm_number.proofs.NodeParts.{node-place}
use Rattle.pm_seams.specs.Joined.{no_faces}
use Rattle.pm_seams.proofs.Copies.{IsCopied}
use Rattle.pm_seams.proofs.Alike.{AreAlike, alike_becomes, and_then, copies_alike, then}
use Rattle.pm_seams.proofs.Alike.{beside, beside_first, itself}
use Rattle.pm_tiles.specs.Borders.{place_in}
use Rattle.pm_worlds.specs.Cuts.{Piece, hierarchy_in, node_in, tile_of, piece_mesh, cut_mesh}
use Rattle.pm_worlds.specs.Cuts.{IsCornerNode}
use Rattle.pm_worlds.specs.Names.{IsPieceAtCorners}
use Rattle.pm_worlds.specs.Parts.{Part, part_mesh, whole_mesh, IsPart, IsTileOfPart}
use Rattle.pm_worlds.specs.Laws as law
use Rattle.pm_worlds.proofs.Names.{named, at_corner, named_piece, all_named, are_cut, all_alike}
use Rattle.pm_worlds.proofs.Cuts.{cut_becomes}

-- The number of the vertex that was found.
name_found : (ℕ → ℕ) → Option ℕ → ℕ
name_found vertex None = 0
name_found vertex (Some v) = vertex v

-- The node is that of vertex v.
is_node : Part → ℕ → ℕ → Bool
is_node p n v = eqb (node_number (run_of p.mesh p.log) v) n

-- The number of a node: that of the vertex of the mesh that it is, if it is one.
number_of : Part → ℕ → ℕ
number_of p n = name_found p.vertex (find_below (is_node p n) (length p.mesh.points))

abbrev piece_of : Part → Piece
piece_of p = record { mesh = p.mesh; log = p.log; vertex = number_of p }

module _ (most : ℕ) (p : Part) (part : IsPart most p) where
  r : Run
  r = run_of p.mesh p.log

  told : IsMerging (run_of p.mesh p.log)
  told = merging p.mesh p.log part.start part.run

  num : IsNumbered (run_of p.mesh p.log) (hierarchy_of_run p.mesh p.log)
      (node_number (run_of p.mesh p.log)) (leaf_number (run_of p.mesh p.log))
      (face_number (run_of p.mesh p.log))
  unfolding hierarchy_of_run
  num = numbered (run_of p.mesh p.log) told

  corner_lt : (v : ℕ) → IsUsed (net_of p.mesh.faces) v → v < length p.mesh.points
  corner_lt v (e, s, at) = subst (λ i. i < length p.mesh.points) at (told.vertex e s.is_side)

  -- The node of a vertex is found to be that vertex.
  found : (v : ℕ) → v < length p.mesh.points →
      number_of p (node_number (run_of p.mesh p.log) v) ≡ p.vertex v
  unfolding number_of is_node name_found
  found v l =
      let n = node_number (run_of p.mesh p.log) v in
      let (k, is) = find_below-has (is_node p n) (length p.mesh.points) v l (eq-eqb n n refl) in
      let (same, below) = find_below-some (is_node p n) (length p.mesh.points) k is in
      let one : k ≡ v = num.node_once k v (omega arith) (omega arith) (eqb-true _ _ same) in
      ap (name_found p.vertex) is ∙ ap p.vertex one

  found_at : (v : ℕ) → IsUsed (net_of p.mesh.faces) v →
      (piece_of p).vertex (node_in (piece_of p) v) ≡ p.vertex v
  found_at v used = found v (corner_lt v used)

  at_corners : IsPieceAtCorners most (piece_of p)
  at_corners = record {
    start = part.start;
    run = part.run;
    spares = part.spares;
    shape = part.shape;
    distinct = λ x y ux uy is.
        part.distinct x y ux uy (sym (found_at x ux) ∙ is ∙ found_at y uy);
    below = λ v used. subst (λ n. n < most) (sym (found_at v used)) (part.below v used);
  }

  alike : AreAlike (part_mesh p) (piece_mesh (piece_of p))
  alike =
      let net = net_of p.mesh.faces in
      let copied : IsCopied (part_mesh p) (piece_mesh (piece_of p)) (λ x. x) (λ e. e) = record {
        is_side = λ e l. l;
        turns = λ e l. refl;
        named = λ e l.
            let s = (mesh_side p.mesh part.start.formed e l).0 in
            found_at (net.from e) (e, s, refl);
      } in
      copies_alike _ _ (λ e. e) copied (λ e l. (e, l, refl))

  node_lt : (v : ℕ) → v < length p.mesh.points →
      node_number (run_of p.mesh p.log) v < node_count (hierarchy_of_run p.mesh p.log)
  node_lt v l = let n = num.node_there v l in let c = num.count in omega arith

  corner_place : (v : ℕ) → v < length p.mesh.points →
      place_of_node (hierarchy_of_run p.mesh p.log) (node_number (run_of p.mesh p.log) v)
      ≡ place_in p.mesh v
  unfolding hierarchy_of_run place_number
  corner_place v l =
      node-place (run_of p.mesh p.log) told v (omega arith)
      ∙ cond-true _ _ _ (lt-ltb v (length p.mesh.points) l)
      ∙ get_or_default p.mesh.points v (place_of []) origin l

  is_tile_of : (start : ℕ) → most ≤ start →
      IsTileOfPart p (tile_of (named start (piece_of p)))
  is_tile_of start high =
      let piece = named_piece most start (piece_of p) at_corners high in
      record {
        shows = refl;
        distinct = piece.distinct;
        corners = λ v used.
            let n = node_number (run_of p.mesh p.log) v in
            let corner : IsCornerNode (piece_of p) n =
            record { corner = v; used = used; node = refl } in
            record {
              node = n;
              there = node_lt v (corner_lt v used);
              named =
                  at_corner most start (piece_of p) at_corners high n corner ∙ found_at v used;
              place = corner_place v (corner_lt v used);
            };
      }

pieces : (most : ℕ) (ps : List Part) → All (IsPart most) ps →
    All (IsPieceAtCorners most) (map piece_of ps)
pieces most [] all = All-nil (IsPieceAtCorners most)
pieces most (p ∷ ps) all =
    All-cons (IsPieceAtCorners most) (piece_of p) (map piece_of ps)
    (at_corners most p (All-head (IsPart most) p ps all))
    (pieces most ps (All-tail (IsPart most) p ps all))

whole_alike : (most : ℕ) (ps : List Part) → All (IsPart most) ps →
    AreAlike (whole_mesh ps) (cut_mesh (map piece_of ps))
whole_alike most [] all = itself no_faces
whole_alike most (p ∷ ps) all =
    let here = alike most p (All-head (IsPart most) p ps all) in
    let there = whole_alike most ps (All-tail (IsPart most) p ps all) in
    then _ _ _ (beside_first (whole_mesh ps) (part_mesh p) (piece_mesh (piece_of p)) here)
    (beside (piece_mesh (piece_of p)) (whole_mesh ps) (cut_mesh (map piece_of ps)) there)

tiles_of : (most start : ℕ) → most ≤ start → (ps : List Part) → All (IsPart most) ps →
    AllZip IsTileOfPart ps (map tile_of (all_named start (map piece_of ps)))
unfolding all_named
tiles_of most start high [] all = tt
tiles_of most start high (p ∷ ps) all =
    let after = start + node_count (hierarchy_in (piece_of p)) in (
      is_tile_of most p (All-head (IsPart most) p ps all) start high,
      tiles_of most after (omega arith) ps (All-tail (IsPart most) p ps all),
    )

pub show_the_whole : law.PartsShowTheWhole
show_the_whole most ps all manifold =
    let told = pieces most ps all in
    let qs = all_named most (map piece_of ps) in
    let cut = are_cut most most (omega arith) (map piece_of ps) told in
    let same : AreAlike (whole_mesh ps) (cut_mesh qs) =
    then _ _ _ (whole_alike most ps all) (all_alike most most (omega arith) (map piece_of ps) told)
    in (
      map tile_of qs,
      tiles_of most most (omega arith) ps all,
      λ T closed.
          let shown = and_then _ _ _ (alike_becomes _ _ same) (cut_becomes qs cut T closed) manifold
          in record { surface = shown.0; border = shown.1 },
    )
