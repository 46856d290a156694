-- Nodes that no corner has get numbers of their own, from a number on that grows from piece to
-- piece.
use Rattle.std.proofs.Common.{◌≡◌, ℕ, ◌+◌, ◌<◌, ◌≤◌, List, [], ◌∷◌, inl, inr, refl, sym, ap, ◌∙◌}
use Rattle.std.proofs.lemmas.Grind.{common_steps}
use Rattle.std.proofs.Common.{subst, arith}
use Rattle.std.specs.List.{All, AllZip}
use Rattle.std.proofs.lemmas.Bool.{cases_eq}
use Rattle.std.proofs.lemmas.List.Elements.{All-nil, All-cons, All-head, All-tail}
use Rattle.std.proofs.lemmas.List.Kept.{AllPairs-cons}
use Rattle.pm_base.specs.Sides.{side_count, Stands, net_of}
use Rattle.pm_base.proofs.Search.{Decided, search_below}
use Rattle.pm_base.proofs.TwinLaws.{stands?}
use Rattle.pm_base.proofs.NetLaws.{mesh_side}
use Rattle.pm_forest.specs.Forest.{node_count}
use Rattle.pm_seams.specs.Joined.{no_faces}
use Rattle.pm_seams.proofs.Copies.{IsCopied}
use Rattle.pm_seams.proofs.Alike.{AreAlike, alike_surfaces, copies_alike, then, beside}
use Rattle.pm_seams.proofs.Alike.{beside_first, itself}
use Rattle.pm_worlds.specs.Cuts.{Piece, hierarchy_in, node_in, IsPiece, IsCornerNode, ShareCorners}
use Rattle.pm_worlds.specs.Cuts.{piece_mesh, cut_mesh, AreCut}
use Rattle.pm_worlds.specs.Names.{IsPieceAtCorners, HasSameCorners}
use Rattle.pm_worlds.specs.Laws as law

module _ (p : Piece) where
  -- Whether a node is that of a corner.
  pub corner? : (v : ℕ) → Decided (IsCornerNode p v)
  corner? v =
      let net = net_of p.mesh.faces in
      elim (search_below (λ e. Stands net e × (node_in p (net.from e) ≡ v)) (λ e.
      elim (stands? net e) [
        | inr never ↦ inr (λ h. never h.0)
        | inl s ↦
            elim (cases_eq (node_in p (net.from e)) v) [
              | inl is ↦ inl (s, is)
              | inr never ↦ inr (λ h. never h.1)
            ]
      ]) (side_count net)) [
        | inl (e, l, (s, is)) ↦ inl (record { corner = net.from e; used = (e, s, refl); node = is })
        | inr none ↦ inr (λ c.
            let (e, s, at) = c.used in
            none e s.is_side (s, ap (node_in p) at ∙ c.node))
      ]

-- One of two numbers.
pub pick : {P : Type 0} → Decided P → ℕ → ℕ → ℕ
pick (inl h) a b = a
pick (inr never) a b = b

picked : {P : Type 0} (d : Decided P) (a b : ℕ) → P → pick d a b ≡ a
unfolding pick
picked (inl h) a b it = refl
picked (inr never) a b it = absurd (never it)

passed : {P : Type 0} (d : Decided P) (a b : ℕ) → (P → ⊥) → pick d a b ≡ b
unfolding pick
passed (inl h) a b none = absurd (none h)
passed (inr never) a b none = refl

-- The piece whose other nodes have the numbers from `from` on.
abbrev pub named : ℕ → Piece → Piece
named from p = record {
  mesh = p.mesh;
  log = p.log;
  vertex = λ v. pick (corner? p v) (p.vertex v) (from + v);
}

module _ (most from : ℕ) (p : Piece) (piece : IsPieceAtCorners most p) (high : most ≤ from) where
  pub at_corner : (v : ℕ) → IsCornerNode p v → (named from p).vertex v ≡ p.vertex v
  at_corner v c = picked (corner? p v) (p.vertex v) (from + v) c

  elsewhere : (v : ℕ) → (IsCornerNode p v → ⊥) → (named from p).vertex v ≡ from + v
  elsewhere v none = passed (corner? p v) (p.vertex v) (from + v) none

  corner_below : (v : ℕ) → IsCornerNode p v → p.vertex v < most
  corner_below v c = subst (λ w. p.vertex w < most) c.node (piece.below c.corner c.used)

  same_corner : (v w : ℕ) → IsCornerNode p v → IsCornerNode p w → p.vertex v ≡ p.vertex w → v ≡ w
  same_corner v w c d is =
      let corners = piece.distinct c.corner d.corner c.used d.used
      (ap p.vertex c.node ∙ is ∙ sym (ap p.vertex d.node)) in
      sym c.node ∙ ap (node_in p) corners ∙ d.node

  distinct : (v w : ℕ) → (named from p).vertex v ≡ (named from p).vertex w → v ≡ w
  distinct v w is =
      elim (corner? p v) [
        | inl c ↦
            let here = at_corner v c in
            let low = corner_below v c in
            elim (corner? p w) [
              | inl d ↦ same_corner v w c d (sym here ∙ is ∙ at_corner w d)
              | inr never ↦ (let there = elsewhere w never in absurd (omega arith))
            ]
        | inr none ↦
            let here = elsewhere v none in
            elim (corner? p w) [
              | inl d ↦ grind (arith, common_steps, at_corner, corner_below)
              | inr never ↦ (let there = elsewhere w never in omega arith)
            ]
      ]

  pub named_piece : IsPiece (named from p)
  named_piece = grind (arith, common_steps, distinct)

  same_corners : HasSameCorners p (named from p)
  same_corners = grind (arith, common_steps, at_corner)

-- Each side of the mesh runs between corners, so its ends have the same numbers.
named_alike :
    (most from : ℕ) (p : Piece) → IsPieceAtCorners most p → most ≤ from →
    AreAlike (piece_mesh p) (piece_mesh (named from p))
named_alike most from p piece high =
    let net = net_of p.mesh.faces in
    let copied : IsCopied (piece_mesh p) (piece_mesh (named from p)) (λ x. x) (λ e. e) = record {
      is_side = λ e l. l;
      turns = λ e l. refl;
      named = λ e l.
          let s = (mesh_side p.mesh piece.start.formed e l).0 in
          at_corner most from p piece high (node_in p (net.from e))
          (record { corner = net.from e; used = (e, s, refl); node = refl });
    } in
    copies_alike _ _ (λ e. e) copied (λ e l. (e, l, refl))

abbrev of_named : (from : ℕ) (p : Piece) (v : ℕ) → IsCornerNode p v → IsCornerNode (named from p) v
of_named from p v c = record { corner = c.corner; used = c.used; node = c.node }

-- Two pieces, the other nodes of the second numbered after those of the first.
module _
    (most from after : ℕ) (p q : Piece)
    (first : IsPieceAtCorners most p) (second : IsPieceAtCorners most q)
    (high : most ≤ from) (later : from + node_count (hierarchy_in p) ≤ after)
  where
    above : most ≤ after
    above = omega arith

    shared : ShareCorners (named from p) (named after q)
    shared v w lv lw is =
        elim (corner? p v) [
          | inl c ↦
              let here = at_corner most from p first high v c in
              let low = corner_below most from p first high v c in
              elim (corner? q w) [
                | inl d ↦ (of_named from p v c, of_named after q w d)
                | inr never ↦
                    let there = elsewhere most after q second above w never in
                    absurd (omega arith)
              ]
          | inr none ↦
              let here = elsewhere most from p first high v none in
              elim (corner? q w) [
                | inl d ↦
                    let there = at_corner most after q second above w d in
                    let low = corner_below most after q second above w d in
                    absurd (omega arith)
                | inr never ↦
                    let there = elsewhere most after q second above w never in
                    absurd (omega arith)
              ]
        ]

unfoldable pub all_named : ℕ → List Piece → List Piece
all_named from [] = []
all_named from (p ∷ ps) = named from p ∷ all_named (from + node_count (hierarchy_in p)) ps

module _ (most : ℕ) where
  shares :
      (from after : ℕ) (p : Piece) → IsPieceAtCorners most p → most ≤ from →
      from + node_count (hierarchy_in p) ≤ after → (ps : List Piece) →
      All (IsPieceAtCorners most) ps → All (ShareCorners (named from p)) (all_named after ps)
  unfolding all_named
  shares from after p piece high later [] others = All-nil (ShareCorners (named from p))
  shares from after p piece high later (q ∷ qs) others =
      let second = All-head (IsPieceAtCorners most) q qs others in
      let rest = All-tail (IsPieceAtCorners most) q qs others in
      let more = after + node_count (hierarchy_in q) in
      All-cons (ShareCorners (named from p)) (named after q) (all_named more qs)
      (shared most from after p q piece second high later)
      (shares from more p piece high (omega arith) qs rest)

  pub are_cut :
      (from : ℕ) → most ≤ from → (ps : List Piece) → All (IsPieceAtCorners most) ps →
      AreCut (all_named from ps)
  unfolding all_named
  are_cut from high [] all =
      record { pieces = All-nil IsPiece; share = λ i j d l k. absurd (omega arith) }
  are_cut from high (p ∷ ps) all =
      let piece = All-head (IsPieceAtCorners most) p ps all in
      let others = All-tail (IsPieceAtCorners most) p ps all in
      let after = from + node_count (hierarchy_in p) in
      let rest = are_cut after (omega arith) ps others in
      let share = shares from after p piece high (omega arith) ps others in
      record {
        pieces =
            All-cons IsPiece (named from p) (all_named after ps)
            (named_piece most from p piece high) rest.pieces;
        share = AllPairs-cons ShareCorners (named from p) (all_named after ps) share rest.share;
      }

  all_same :
      (from : ℕ) → most ≤ from → (ps : List Piece) → All (IsPieceAtCorners most) ps →
      AllZip HasSameCorners ps (all_named from ps)
  unfolding all_named
  all_same from high [] all = tt
  all_same from high (p ∷ ps) all =
      let piece = All-head (IsPieceAtCorners most) p ps all in
      let others = All-tail (IsPieceAtCorners most) p ps all in
      let after = from + node_count (hierarchy_in p) in
      (same_corners most from p piece high, all_same after (omega arith) ps others)

  pub all_alike :
      (from : ℕ) → most ≤ from → (ps : List Piece) → All (IsPieceAtCorners most) ps →
      AreAlike (cut_mesh ps) (cut_mesh (all_named from ps))
  unfolding all_named
  all_alike from high [] all = itself no_faces
  all_alike from high (p ∷ ps) all =
      let piece = All-head (IsPieceAtCorners most) p ps all in
      let others = All-tail (IsPieceAtCorners most) p ps all in
      let after = from + node_count (hierarchy_in p) in
      let here = named_alike most from p piece high in
      let there = all_alike after (omega arith) ps others in
      then _ _ _ (beside_first (cut_mesh ps) (piece_mesh p) (piece_mesh (named from p)) here)
      (beside (piece_mesh (named from p)) (cut_mesh ps) (cut_mesh (all_named after ps)) there)

pub nodes_named : law.NodesCanBeNamed
nodes_named most ps all =
    let alike = all_alike most most (omega arith) ps all in (
      all_named most ps,
      are_cut most most (omega arith) ps all,
      all_same most most (omega arith) ps all,
      alike_surfaces _ _ alike,
    )
