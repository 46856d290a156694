-- The laws of walks, each from the lemmas on its subject.
use Rattle.std.proofs.Common.{ℕ, Option, None, Some, refl, arith}
use Rattle.std.proofs.lemmas.Grind.{common_steps}
use Rattle.pm_forest.specs.Forest.{Hierarchy}
use Rattle.pm_forest.specs.Fronts.{every}
use Rattle.pm_forest.proofs.Shown.{shown-apart}
use Rattle.pm_beyond.specs.Walks.{StopsAt, here}
use Rattle.pm_beyond.specs.WalkLaws as law
use Rattle.pm_beyond.proofs.Twins.{shown_every}
use Rattle.pm_beyond.proofs.Reaching.{back, Beyond-unique, Beyond-injective}
use Rattle.pm_beyond.proofs.Carried.{ends-carried}
use Rattle.pm_beyond.proofs.Found.{beyond-found, Crosses-from_walk, stands-from_beyond}
use Rattle.pm_beyond.proofs.Found.{beyond-from_stands}
use Rattle.pm_beyond.proofs.NoFaceTwice.{no_face_twice, at_most_all_faces}

pub one_beyond : law.OneStandsBeyond
one_beyond h shape once T front a l s =
    let found = beyond-found h shape once T front a l s in
    (found, λ r b. Beyond-unique h shape once T a r _ b found)

pub go_back : law.WalksGoBack
go_back h shape once T a b l s beyond =
    record { reaches = back h shape once T b l beyond.reaches refl; stops = s }

pub no_two : law.NoTwoShareABeyond
no_two h shape once T a b c l m s t v w = Beyond-injective h shape once T a b c l m s t v w

pub ends : law.EndsAreCarried
ends h shape T a b w = ends-carried h shape T b w refl

pub no_face : law.NoFaceIsMetTwice
no_face h shape once T front a r l s w stops =
    grind (arith, common_steps, at_most_all_faces, no_face_twice)

pub by_ancestors : law.WalksGoByAncestors
by_ancestors h shape once T front a r l s =
    let apart = shown-apart h shape T front a l s in (
      (
        stands-from_beyond h shape once T front a r apart,
        beyond-from_stands h shape once T front a r
            apart,
      ),
      λ w. Crosses-from_walk h shape once T front w apart,
    )

stops_in_full : (h : Hierarchy) (r : Option ℕ) → StopsAt h every r
stops_in_full h None = tt
stops_in_full h (Some b) = shown_every h b

pub full : law.TwinsStandInTheFullFront
full h shape once a l = record { reaches = here refl; stops = stops_in_full h _ }
