-- Laws of counting what was done.
use Rattle.std.proofs.Common.{◌≡◌, ℕ, suc, ◌+◌, ◌-◌, ◌==◌, ◌&&◌, not, Bool, true, false, List}
use Rattle.std.proofs.lemmas.Grind.{common_steps}
use Rattle.std.proofs.Common.{◌≤◌, [], length, refl, sym, ◌∙◌, ap, arith}
use Rattle.std.specs.Prelude.{slice_index_or}
use Rattle.std.specs.List.{filter}
use Rattle.std.proofs.lemmas.Bool.{and_from}
use Rattle.std.proofs.lemmas.List.{length-map}
use Rattle.pm_base.specs.declared.mesh.Corners.{Corners}
use Rattle.pm_base.specs.Sides.{net_of}
use Rattle.pm_base.specs.Counts.{count}
use Rattle.pm_base.proofs.Counted.{count_both}
use Rattle.pm_base.proofs.Counts.{count-true, count-false, count-zero, count_same}
use Rattle.pm_fans.specs.Kept.{is_flat, kept_of}
use Rattle.pm_fans.specs.Cuts.{cut_count}
use Rattle.pm_turn.specs.Turning.{turned_by}
use Rattle.obj_prepare.specs.Named.{is_some_corner, named_in}
use Rattle.obj_prepare.specs.Joining.{renamed, joined_faces}
use Rattle.obj_prepare.proofs.KeptCounts.{kept_and_flat}
use Rattle.obj_prepare.proofs.NamedLaws.{length-named_in, named_at}
use Rattle.obj_prepare.specs.Prepared.{staying, joined_count, flat_count, double_count}
use Rattle.obj_prepare.specs.Prepared.{unnamed_count, split_count, gone_count}
use Rattle.obj_prepare.specs.Pieces.{set_below, joined_below, gone_below}

-- One more number is counted, or not.

counted : (p : ℕ → Bool) (v n : ℕ) → n ≡ count p v → p v ≡ true → n + 1 ≡ count p (v + 1)
counted p v n is t = let next : v + 1 ≡ suc v =
    omega arith in omega (arith, is, ap (count p) next, count-true p v t)

passed : (p : ℕ → Bool) (v n : ℕ) → n ≡ count p v → p v ≡ false → n ≡ count p (v + 1)
passed p v n is f = let next : v + 1 ≡ suc v =
    omega arith in omega (arith, is, ap (count p) next, count-false p v f)

pub none_set : (flags : List Bool) → 0 ≡ set_below flags 0
unfolding set_below
none_set flags = sym (count-zero (λ v. slice_index_or flags v false))

pub set_next : (flags : List Bool) (v n : ℕ) → n ≡ set_below flags v
    → slice_index_or flags v false ≡ true → n + 1 ≡ set_below flags (v + 1)
unfolding set_below
set_next flags v n is t = counted (λ v. slice_index_or flags v false) v n is t

pub unset_next : (flags : List Bool) (v n : ℕ) → n ≡ set_below flags v
    → slice_index_or flags v false ≡ false → n ≡ set_below flags (v + 1)
unfolding set_below
unset_next flags v n is f = passed (λ v. slice_index_or flags v false) v n is f

pub none_joined : (flags : List Bool) (names : List ℕ) → 0 ≡ joined_below flags names 0
unfolding joined_below
none_joined flags names =
    sym (count-zero (λ v. slice_index_or flags v false && not (slice_index_or names v 0 == v)))

pub joined_next : (flags : List Bool) (names : List ℕ) (v n : ℕ) → n ≡ joined_below flags names v
    → slice_index_or flags v false ≡ true → not (slice_index_or names v 0 == v) ≡ true
    → n + 1 ≡ joined_below flags names (v + 1)
unfolding joined_below
joined_next flags names v n is t other =
    counted (λ v. slice_index_or flags v false && not (slice_index_or names v 0 == v)) v n is
    (and_from _ _ t other)

pub unnamed_next : (flags : List Bool) (names : List ℕ) (v n : ℕ) → n ≡ joined_below flags names v
    → slice_index_or flags v false ≡ false → n ≡ joined_below flags names (v + 1)
unfolding joined_below
unnamed_next flags names v n is f =
    passed (λ v. slice_index_or flags v false && not (slice_index_or names v 0 == v)) v n is
    (rw f refl)

pub itself_next : (flags : List Bool) (names : List ℕ) (v n : ℕ) → n ≡ joined_below flags names v
    → not (slice_index_or names v 0 == v) ≡ false → n ≡ joined_below flags names (v + 1)
unfolding joined_below
itself_next flags names v n is f = grind (arith, common_steps, passed)

pub none_gone : (before : List Bool) (names : List ℕ) (after : List Bool)
    → 0 ≡ gone_below before names after 0
unfolding gone_below
none_gone before names after = sym
    (count-zero (λ v. slice_index_or before v false && (slice_index_or names v 0 == v)
    && not (slice_index_or after v false)))

pub gone_next : (before : List Bool) (names : List ℕ) (after : List Bool) (v n : ℕ)
    → n ≡ gone_below before names after v
    → (slice_index_or before v false && (slice_index_or names v 0 == v)
    && not (slice_index_or after v false)) ≡ true → n + 1 ≡ gone_below before names after (v + 1)
unfolding gone_below
gone_next before names after v n is t = counted (λ v. slice_index_or before v false
    && (slice_index_or names v 0 == v) && not (slice_index_or after v false)) v n is t

pub there_next : (before : List Bool) (names : List ℕ) (after : List Bool) (v n : ℕ)
    → n ≡ gone_below before names after v
    → (slice_index_or before v false && (slice_index_or names v 0 == v)
    && not (slice_index_or after v false)) ≡ false → n ≡ gone_below before names after (v + 1)
unfolding gone_below
there_next before names after v n is f = passed (λ v. slice_index_or before v false
    && (slice_index_or names v 0 == v) && not (slice_index_or after v false)) v n is f

set_named : (fs : List Corners) (n : ℕ) → set_below (named_in fs n) (length (named_in fs n))
    ≡ count (is_some_corner fs) n
unfolding set_below
set_named fs n = grind (arith, common_steps, count_same, length-named_in, named_at)

joined_named : (fs : List Corners) (names : List ℕ)
    → joined_below (named_in fs (length names)) names (length names) ≡ joined_count names fs
unfolding joined_below joined_count
joined_named fs names = grind (arith, common_steps, count_same, named_at)

-- Each number of what was done, from what was counted. Lists that were lent are the same lists.

pub counted_joined : (faces : List Corners) (names again : List ℕ) (flags lent : List Bool)
    (vertices n : ℕ) → length names ≡ vertices → flags ≡ named_in faces vertices → lent ≡ flags
    → again ≡ names → n ≡ joined_below lent again (length again) → n ≡ joined_count names faces
counted_joined faces names again flags lent vertices n len are same same_names is =
    grind (arith, common_steps, joined_named)

pub counted_flat : (faces renamed again : List Corners) (names : List ℕ) (n : ℕ)
    → renamed ≡ joined_faces names faces → again ≡ renamed → n ≡ length (filter is_flat again)
    → n ≡ flat_count names faces
unfolding flat_count
counted_flat faces renamed again names n are same is =
    is ∙ ap (λ fs. length (filter is_flat fs)) (same ∙ are)

-- Faces that became edges and those that stay are among the faces.
pub flat_and_staying : (names : List ℕ) (faces : List Corners)
    → flat_count names faces + length (staying names faces) ≤ length faces
unfolding flat_count kept_of
flat_and_staying names faces =
    omega (arith, kept_and_flat [] (joined_faces names faces), length-map faces (renamed names))

pub counted_double : (faces stay : List Corners) (names : List ℕ) (flat n : ℕ)
    → flat ≡ flat_count names faces → stay ≡ staying names faces
    → n ≡ length faces - flat - length stay → n ≡ double_count names faces
unfolding double_count
counted_double faces stay names flat n flat_is stay_is is =
    is ∙ ap (λ f. length faces - f - length stay) flat_is
    ∙ ap (λ (fs : List Corners). length faces - flat_count names faces - length fs) stay_is

pub counted_cut : (faces stay turned again : List Corners) (names : List ℕ) (flags : List Bool)
    (n : ℕ) → stay ≡ staying names faces → turned ≡ turned_by flags stay → again ≡ turned
    → n ≡ cut_count (net_of again)
    → n ≡ cut_count (net_of (turned_by flags (staying names faces)))
counted_cut faces stay turned again names flags n stay_is turned_is same is =
    is ∙ ap (λ (fs : List Corners). cut_count (net_of fs)) (same ∙ turned_is
    ∙ ap (turned_by flags) stay_is)

-- How many flags are set of the vertices that a face names.
pub counted_set : (fs : List Corners) (flags lent : List Bool) (vertices n : ℕ)
    → flags ≡ named_in fs vertices → lent ≡ flags → n ≡ set_below lent (length lent)
    → n ≡ count (is_some_corner fs) vertices
counted_set fs flags lent vertices n are same is =
    is ∙ ap (λ bs. set_below bs (length bs)) (same ∙ are) ∙ set_named fs vertices

pub counted_split : (faces stay : List Corners) (names old : List ℕ) (flags lent : List Bool)
    (vertices set n : ℕ) → length names ≡ vertices → stay ≡ staying names faces
    → flags ≡ named_in stay vertices → lent ≡ flags → set ≡ set_below lent (length lent)
    → n ≡ length old - set → n ≡ split_count names faces old
unfolding split_count
counted_split faces stay names old flags lent vertices set n len stay_is are same set_is is =
    grind (arith, common_steps, counted_set)

pub counted_unnamed : (faces : List Corners) (flags lent : List Bool) (vertices set n : ℕ)
    → flags ≡ named_in faces vertices → lent ≡ flags → set ≡ set_below lent (length lent)
    → n ≡ vertices - set → n ≡ unnamed_count vertices faces
unfolding unnamed_count
counted_unnamed faces flags lent vertices set n are same set_is is =
    omega (
      arith,
      is,
      counted_set faces flags lent vertices set are same set_is,
      count_both (is_some_corner faces) vertices,
    )

gone_named : (fs stay : List Corners) (names : List ℕ) (n : ℕ)
    → gone_below (named_in fs n) names (named_in stay n) n
    ≡ count (λ v. is_some_corner fs v && (slice_index_or names v 0 == v)
    && not (is_some_corner stay v)) n
unfolding gone_below
gone_named fs stay names n = grind (arith, common_steps, count_same, named_at)

pub counted_gone : (faces stay : List Corners) (names again : List ℕ)
    (before lent after lent_after : List Bool) (vertices n : ℕ) → length names ≡ vertices
    → stay ≡ staying names faces
    → before ≡ named_in faces vertices → after ≡ named_in stay vertices → lent ≡ before
    → again ≡ names → lent_after ≡ after → n ≡ gone_below lent again lent_after (length again)
    → n ≡ gone_count names faces
unfolding gone_count
counted_gone faces stay names again before lent after lent_after vertices n len stay_is are later
    same same_names same_after is =
    grind (arith, common_steps, gone_named)
