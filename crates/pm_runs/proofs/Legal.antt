-- Legal pairs: in terms of the link condition on nets, in either order, and as a matter of the
-- faces at the two ends.
use Rattle.std.proofs.Common.{◌≡◌, ℕ, inl, inr, sym, ap, ◌∙◌, arith}
use Rattle.std.proofs.lemmas.Grind.{common_steps}
use Rattle.pm_base.specs.Place.{Place}
use Rattle.pm_base.specs.Sides.{Net, face_of, next, prev, third, Stands, NoSideTwice, IsBorder}
use Rattle.pm_base.proofs.Sides.{stands_next}
use Rattle.pm_base.proofs.TwinLaws.{other_face}
use Rattle.pm_runs.specs.Surfaces.{Surface, net_of_surface}
use Rattle.pm_runs.specs.Pairs.{Runs, HasSide, Joined, Links, IsThird, HasFace, AreOnceOnBorder}
use Rattle.pm_runs.specs.Pairs.{StayUpright, IsPair, IsLegalPair}
use Rattle.pm_runs.specs.Merged.{IsLinkable}
use Rattle.pm_runs.proofs.Sides.{runs_next, runs_last}

-- A third corner is a common neighbour.
pub third-common : (m : Net) (a b w : ℕ) → IsThird m a b w → Joined m a w × Joined m b w
third-common m a b w (e, links, is) =
    elim links [
      | inl r ↦ (inr (prev e, runs_last m e a b w r is), inl (next e, runs_next m e a b w r is))
      | inr r ↦ (inl (next e, runs_next m e b a w r is), inr (prev e, runs_last m e b a w r is))
    ]

-- What is in the words of the two ends.
pub links-turned : (m : Net) (e a b : ℕ) → Links m e a b → Links m e b a
links-turned m e a b links = elim links [ inl r ↦ inr r | inr r ↦ inl r ]

pub joined-turned : (m : Net) (a b : ℕ) → Joined m a b → Joined m b a
joined-turned m a b j = elim j [ inl h ↦ inr h | inr h ↦ inl h ]

third-turned : (m : Net) (a b w : ℕ) → IsThird m a b w → IsThird m b a w
third-turned m a b w (e, links, is) = (e, links-turned m e a b links, is)

-- The three corners of a face may be named in the other order.
face-turned : (m : Net) (a b c : ℕ) → HasFace m a b c → HasFace m a c b
face-turned m a b c (e, st, is, way) = (e, st, is, elim way [ inl k ↦ inr k | inr k ↦ inl k ])

pair-turned : (a b p q : ℕ) → IsPair a b p q → IsPair b a p q
pair-turned a b p q pair = elim pair [ inl k ↦ inr k | inr k ↦ inl k ]

-- A pair is legal in either order.
pub legal-turned : (s : Surface) (a b : ℕ) (place : Place) → IsLegalPair s a b place
    → IsLegalPair s b a place
legal-turned s a b place ok =
    let m : Net = net_of_surface s in
    record {
      joined = joined-turned m a b ok.joined;
      common = λ w. (
        (λ j. third-turned m a b w ((ok.common w).0 (j.1, j.0))),
        (λ t. let j = (ok.common w).1 (third-turned m b a w t) in (j.1, j.0)),
      );
      border = λ x y e g l k. ok.border y x e g (links-turned m e b a l) (links-turned m g b a k);
      triangles = λ e g r w f k. ok.triangles g e w r (face-turned m a (third m e) (third m g) k)
          (face-turned m b (third m e) (third m g) f);
      single = λ e l. ok.single e (links-turned m e b a l);
      upright = λ e p q pair. ok.upright e p q (pair-turned b a p q pair);
    }

-- Where no directed side stands twice, the parts that speak of borders say the same in terms of
-- sides without a twin.
pub no_two_ways : (m : Net) (e g a b : ℕ) → Runs m e a b → Runs m g b a → face_of e ≡ face_of g → ⊥
no_two_ways m e g a b r w same = grind (arith, common_steps, other_face)

one_way : (m : Net) → NoSideTwice m → (e g a b : ℕ) → Runs m e a b → Runs m g a b
    → face_of e ≡ face_of g
one_way m once e g a b r w =
    ap face_of (once e g r.stands w.stands (r.begins ∙ sym w.begins) (r.ends ∙ sym w.ends))

pub border_once : (m : Net) → NoSideTwice m → (a b : ℕ)
    → (IsBorder m a → IsBorder m b → HasSide m a b → HasSide m b a → ⊥) → AreOnceOnBorder m a b
border_once m once a b not_both x y e g l k =
    elim l [
      | inl r ↦ elim k [
        | inl w ↦ one_way m once e g a b r w
        | inr w ↦
            absurd (not_both x y (e, r) (g, w))
      ]
      | inr r ↦ elim k [
        | inl w ↦ absurd (not_both x y (g, w) (e, r))
        | inr w ↦
            one_way m once e g b a r w
      ]
    ]

pub once_border : (m : Net) (a b : ℕ) → AreOnceOnBorder m a b → IsBorder m a → IsBorder m b
    → HasSide m a b → HasSide m b a → ⊥
once_border m a b once x y (e, r) (g, w) = no_two_ways m e g a b r w (once x y e g (inl r) (inr w))

pub link_stands : (m : Net) (e a b : ℕ) → Links m e a b → Stands m e
link_stands m e a b links = elim links [ inl r ↦ r.stands | inr r ↦ r.stands ]

-- A legal pair meets the link condition, and a pair that meets it is legal where no face turns
-- over.
pub legal-linkable : (s : Surface) (a b : ℕ) (place : Place) → IsLegalPair s a b place
    → IsLinkable (net_of_surface s) a b
legal-linkable s a b place ok =
    let m : Net = net_of_surface s in
    record {
      joined = ok.joined;
      apart = record { common = λ w j k. (ok.common w).0 (j, k); thirds = ok.triangles };
      border = once_border m a b ok.border;
      single = λ e l x y z.
          let st = link_stands m e a b l in
          ok.single e l (record { stands = st; alone = x })
          (record { stands = stands_next m e st; alone = y }) (record {
            stands =
                stands_next m (next e) (stands_next m e st);
            alone = z;
          });
    }

pub linkable-legal : (s : Surface) → NoSideTwice (net_of_surface s) → (a b : ℕ) (place : Place)
    → IsLinkable (net_of_surface s) a b → StayUpright s a b place → IsLegalPair s a b place
linkable-legal s once a b place ok upright =
    let m : Net = net_of_surface s in
    record {
      joined = ok.joined;
      common = λ w. ((λ j. ok.apart.common w j.0 j.1), third-common m a b w);
      border = border_once m once a b ok.border;
      triangles = ok.apart.thirds;
      single = λ e l x y z. ok.single e l x.alone y.alone z.alone;
      upright = upright;
    }
