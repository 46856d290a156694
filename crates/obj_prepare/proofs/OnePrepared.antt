-- Two meshes that are prepared of one input are the same, and so are the numbers of what was done.
use Rattle.std.proofs.Common.{◌≡◌, ℕ, ◌<◌, inl, inr, sym, ap, ◌∙◌, subst, Bool, List, length, arith}
use Rattle.std.specs.Prelude.{slice_index_or}
use Rattle.std.proofs.lemmas.Bool.{cases_Bool, cases_order}
use Rattle.std.proofs.lemmas.Grind.{same_number_lists, common_steps}
use Rattle.pm_base.specs.declared.mesh.Corners.{Corners}
use Rattle.pm_base.specs.Place.{Place}
use Rattle.pm_base.specs.Meshes.{Mesh}
use Rattle.pm_base.specs.Sides.{net_of}
use Rattle.pm_fans.specs.Orders.{IsSplitMesh}
use Rattle.pm_fans.specs.Cuts.{cut_count}
use Rattle.pm_fans.proofs.OneSplit.{splits_are_one}
use Rattle.pm_turn.specs.Turning.{turned_by}
use Rattle.pm_turn.specs.Choice.{AreChosenTurns}
use Rattle.pm_turn.specs.Told.{AreTurnCounts}
use Rattle.pm_turn.proofs.OneChoice.{chosen_turns_are_one}
use Rattle.pm_turn.proofs.ToldAlways.{turn_counts_are_one}
use Rattle.obj_prepare.specs.declared.notes.Notes.{Notes}
use Rattle.obj_prepare.specs.Named.{is_some_corner}
use Rattle.obj_prepare.specs.Joining.{IsFirstAt, AreJoined, joined_faces}
use Rattle.obj_prepare.specs.Prepared.{staying, IsPrepared, joined_count, flat_count, double_count}
use Rattle.obj_prepare.specs.Prepared.{split_count, gone_count, IsPreparedWith}
use Rattle.obj_prepare.proofs.TurnedLaws.{turned_stand}

module _ (places : List Place) (faces : List Corners) where
  -- Of two first vertices at a place neither is before the other.
  one_first : (v u w : ℕ) → IsFirstAt places faces v u → IsFirstAt places faces v w → u ≡ w
  one_first v u w a b =
      elim (cases_order u w) [
        | inl same ↦ same
        | inr k ↦ elim k [
          | inl l ↦ absurd (b.least u l a.named a.same)
          | inr l ↦
              absurd (a.least w l b.named b.same)
        ]
      ]

  one_name : (names others : List ℕ) → AreJoined places faces names → AreJoined places faces others
      → (v : ℕ) → v < length names → slice_index_or names v 0 ≡ slice_index_or others v 0
  one_name names others a b v l =
      let low : v < length places = subst (λ k. v < k) a.all l in
      elim (cases_Bool (is_some_corner faces v)) [
        | inl named ↦ one_first v _ _ (a.each v low named) (b.each v low named)
        | inr out ↦ a.others v low out ∙ sym (b.others v low out)
      ]

  names_are_one : (names others : List ℕ) → AreJoined places faces names
      → AreJoined places faces others → names ≡ others
  names_are_one names others a b =
      same_number_lists names others (a.all ∙ sym b.all) (one_name names others a b)

-- The lists of which one mesh is made are those of which another one is.
record AreSame {places : List Place} {faces : List Corners} {m n : Mesh}
    (p : IsPrepared places faces m) (q : IsPrepared places faces n) : Type 0 where
  names : p.names ≡ q.names
  flags : p.flags ≡ q.flags
  faces_same : m.faces ≡ n.faces
  old : p.old ≡ q.old

are_same : (places : List Place) (faces : List Corners) (m n : Mesh) (p : IsPrepared places faces m)
    (q : IsPrepared places faces n) → AreSame p q
are_same places faces m n p q =
    let same = names_are_one places faces p.names q.names p.joined q.joined in
    let turns : AreChosenTurns (net_of (staying p.names faces)) places q.flags =
    subst (λ (names : List ℕ). AreChosenTurns (net_of (staying names faces)) places q.flags)
    (sym same) q.turns in
    let flags =
    chosen_turns_are_one (net_of (staying p.names faces)) places p.flags q.flags p.turns turns in
    let named : IsSplitMesh (net_of (turned_by q.flags (staying p.names faces))) n.faces q.old =
    subst (λ (names : List ℕ). IsSplitMesh
    (net_of (turned_by q.flags (staying names faces))) n.faces q.old) (sym same) q.split in
    let split : IsSplitMesh (net_of (turned_by p.flags (staying p.names faces))) n.faces q.old =
    subst (λ (bs : List Bool). IsSplitMesh
    (net_of (turned_by bs (staying p.names faces))) n.faces q.old) (sym flags) named in
    let (fs, old) = splits_are_one
    (net_of (turned_by p.flags (staying p.names faces))) m.faces n.faces p.old q.old
    (turned_stand p.flags (joined_faces p.names faces)) p.split split in
    record { names = same; flags = flags; faces_same = fs; old = old }

pub prepared_are_one : (places : List Place) (faces : List Corners) (m n : Mesh)
    → IsPrepared places faces m → IsPrepared places faces n → m ≡ n
prepared_are_one places faces m n p q = grind (arith, common_steps, are_same places faces m n p q)

-- Each number is told by the same lists.
pub notes_are_one : (places : List Place) (faces : List Corners) (m n : Mesh) (notes others : Notes)
    → IsPreparedWith places faces m notes → IsPreparedWith places faces n others → notes ≡ others
notes_are_one places faces m n notes others (p, a) (q, b) =
    let s = are_same places faces m n p q in
    let joined = a.joined ∙ ap (λ names. joined_count names faces) s.names ∙ sym b.joined in
    let flat = a.flat ∙ ap (λ names. flat_count names faces) s.names ∙ sym b.flat in
    let double = a.double ∙ ap (λ names. double_count names faces) s.names ∙ sym b.double in
    let told : AreTurnCounts (net_of (staying p.names faces)) places q.flags others.turns =
    grind (arith, common_steps) in
    let turns =
    turn_counts_are_one (net_of (staying p.names faces)) places p.flags notes.turns others.turns
    a.turns
    (subst
    (λ (bs : List Bool). AreTurnCounts (net_of (staying p.names faces)) places bs others.turns)
    (sym s.flags) told) in
    let cut = a.cut ∙ ap (λ names. cut_count (net_of (turned_by p.flags (staying names faces))))
    s.names
    ∙ ap (λ (bs : List Bool). cut_count (net_of (turned_by bs (staying q.names faces)))) s.flags
    ∙ sym b.cut in
    let split = a.split ∙ ap (λ names. split_count names faces p.old) s.names
    ∙ ap (split_count q.names faces) s.old ∙ sym b.split in
    let unnamed = a.unnamed ∙ sym b.unnamed in
    let gone = a.gone ∙ ap (λ names. gone_count names faces) s.names ∙ sym b.gone in
    λ i. record {
      joined = joined i;
      flat = flat i;
      double = double i;
      turns = turns i;
      cut = cut i;
      split = split i;
      unnamed = unnamed i;
      gone = gone i;
    }
