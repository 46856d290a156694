-- What is read has no fault, and is spelled so.
use Rattle.std.proofs.Common.{◌≡◌, ◌≤◌, ℕ, zero, suc, eqb, ltb, ◌||◌, Bool, true, false, cond, List}
use Rattle.std.proofs.lemmas.Grind.{common_steps}
use Rattle.std.proofs.Common.{[], ◌∷◌, ◌++◌, Option, Some, None, Ok, Err, length, refl, ◌∙◌}
use Rattle.std.proofs.Common.{ap, subst, arith, append_assoc}
use Rattle.std.specs.List.{flat_map}
use Rattle.std.proofs.lemmas.Bool.{eqb-true, ne_eqb, ltb-false, or_parts}
use Rattle.std.proofs.lemmas.Option.{same_Some}
use Rattle.std.proofs.lemmas.Int.{of_z-to_z}
use Rattle.std.proofs.lemmas.List.{append-nil}
use Rattle.pm_forest.specs.declared.parts.Counts.{Counts}
use Rattle.pm_forest.specs.declared.parts.Root.{Root}
use Rattle.pm_forest.specs.declared.parts.Face.{Face}
use Rattle.pm_forest.specs.declared.parts.Shape.{Shape}
use Rattle.pm_forest.specs.Rules.{AllFit, root_fault, base_fault}
use Rattle.pm_format.specs.declared.stop.Stop.TheVariants as stops
use Rattle.pm_format.specs.Words.{AreWords}
use Rattle.pm_format.specs.Stream.{magic_word, root_words, base_words, version_words}
use Rattle.pm_format.specs.Reading.{root_at, base_at, whole, fitting, units_at, root_after}
use Rattle.pm_format.specs.Reading.{base_after, counts_at, told_digits, digits_at, digits_in}
use Rattle.pm_format.specs.Reading.{header_at}
use Rattle.pm_format.proofs.ReadingLaws.{Reader, same_Ok, then_read_ok, whole_ok, judged_ok}

-- What was read from the front: its words, and the words after it.
pub record Takes (ws text rest : List ℕ) : Type 0 where
  pub parts : ws ≡ text ++ rest
  pub rest_fits : AreWords rest

-- what is taken after one another
pub takes_both : (ws a mid b rest : List ℕ) → Takes ws a mid → Takes mid b rest
    → Takes ws (a ++ b) rest
takes_both ws a mid b rest first second = grind (arith, common_steps, append_assoc)

pub fitting_ok : {X : Type 0} (fault : X → Option Shape) (o : Option (X × List ℕ)) (u : X × List ℕ)
    →
    fitting fault o ≡ Ok u → (o ≡ Some u) × (fault u.0 ≡ None)
fitting_ok fault o u is = grind (arith, common_steps, judged_ok, then_read_ok, whole_ok)

-- One unit

pub root_takes : (ws : List ℕ) (u : Root × List ℕ) → AreWords ws → root_at ws ≡ Some u →
    Takes ws (root_words u.0) u.1
root_takes (x ∷ y ∷ z ∷ w ∷ n ∷ ws) u fit is = grind (arith, common_steps, of_z-to_z, same_Some)
root_takes [] u fit is = absurd cc
root_takes (x ∷ []) u fit is = absurd cc
root_takes (x ∷ y ∷ []) u fit is = absurd cc
root_takes (x ∷ y ∷ z ∷ []) u fit is = absurd cc
root_takes (x ∷ y ∷ z ∷ w ∷ []) u fit is = absurd cc

pub base_takes : (ws : List ℕ) (u : Face × List ℕ) → AreWords ws → base_at ws ≡ Some u →
    Takes ws (base_words u.0) u.1
base_takes (a ∷ b ∷ c ∷ i ∷ ws) u fit is = grind (arith, common_steps, same_Some)
base_takes [] u fit is = absurd cc
base_takes (a ∷ []) u fit is = absurd cc
base_takes (a ∷ b ∷ []) u fit is = absurd cc
base_takes (a ∷ b ∷ c ∷ []) u fit is = absurd cc

-- Units after one another

-- Each unit that is read has no fault, and its words are those that it takes.
abbrev pub Reads : {X : Type 0} → Reader X → (List X → X → Option Shape) → (X → List ℕ) → Type 0
Reads {X} read fault words =
    (before : List X) (ws : List ℕ) (u : X × List ℕ) → AreWords ws → read before ws ≡ Ok u →
    (fault before u.0 ≡ None) × Takes ws (words u.0) u.1

-- The n units that were read after others.
pub record Added {X : Type 0} (fault : List X → X → Option Shape) (words : X → List ℕ) (n : ℕ)
    (before all : List X) (ws rest : List ℕ) : Type 0 where
  pub more : List X
  pub all_is : all ≡ before ++ more
  pub count : length more ≡ n
  pub fits : AllFit fault before more
  pub takes : Takes ws (flat_map words more) rest

module _ {X : Type 0} (fault : List X → X → Option Shape) (words : X → List ℕ) where
  added_none : (before : List X) (ws : List ℕ) → AreWords ws
      → Added fault words 0 before before ws ws
  added_none before ws fit = grind (arith, common_steps, append-nil)

  added_one : (n : ℕ) (before all : List X) (x : X) (ws mid rest : List ℕ) → fault before x ≡ None →
      Takes ws (words x) mid → Added fault words n (before ++ x ∷ []) all mid rest →
      Added fault words (suc n) before all ws rest
  added_one n before all x ws mid rest good first others =
      grind (arith, common_steps, append_assoc, takes_both)

  pub units_take : (read : Reader X) → Reads read fault words
      → (n : ℕ) (before : List X) (ws : List ℕ)
      (u : List X × List ℕ) → AreWords ws → units_at read n before ws ≡ Ok u →
      Added fault words n before u.0 ws u.1
  unfolding units_at
  units_take read reads zero before ws u fit is =
      subst (λ (v : List X × List ℕ). Added fault words 0 before v.0 ws v.1) (same_Ok _ _ is)
      (added_none before ws fit)
  units_take read reads (suc n) before ws u fit is =
      then_read_ok _ (read before ws) u is (λ v was then_is.
      let one = reads before ws v fit was in
      let others = units_take read reads n (before ++ v.0 ∷ []) v.1 u one.1.rest_fits then_is in
      added_one n before u.0 v.0 ws v.1 u.1 one.0 one.1 others)

pub roots_read : (c : Counts) → Reads (root_after c) (root_fault c) root_words
roots_read c before ws u fit is =
    let g = fitting_ok (root_fault c before) (root_at ws) u is in
    (g.1, root_takes ws u fit g.0)

pub bases_read : (roots : List Root) → Reads (base_after roots) (base_fault roots) base_words
bases_read roots before ws u fit is =
    let g = fitting_ok (base_fault roots before) (base_at ws) u is in
    (g.1, base_takes ws u fit g.0)

-- A header

-- The words begin with the magic, if there are any.
abbrev pub BeginsWithMagic : List ℕ → Type 0
BeginsWithMagic ws = (w : ℕ) (rest : List ℕ) → ws ≡ w ∷ rest → w ≡ magic_word

-- The number of decimals that was read, and the words after it.
record DigitsTake (ws rest : List ℕ) (digits : ℕ) : Type 0 where
  few : digits ≤ 4
  parts : ws ≡ magic_word ∷ (version_words digits ++ rest)
  rest_fits : AreWords rest

pub record HeaderTakes (ws rest : List ℕ) (c : Counts) : Type 0 where
  pub digits : ℕ
  pub few : digits ≤ 4
  pub told : digits_in (digits_at ws) ≡ digits
  pub parts : ws ≡ magic_word
      ∷ (version_words digits ++ c.leaves ∷ c.roots ∷ c.bases ∷ c.records ∷ rest)
  pub rest_fits : AreWords rest

-- the counts that were read
record CountsTake (ws rest : List ℕ) (c : Counts) : Type 0 where
  parts : ws ≡ c.leaves ∷ c.roots ∷ c.bases ∷ c.records ∷ rest
  rest_fits : AreWords rest

counts_take : (ws : List ℕ) (u : Counts × List ℕ) → AreWords ws → counts_at ws ≡ Some u
    → CountsTake ws u.1 u.0
counts_take (l ∷ r ∷ b ∷ n ∷ ws) u fit is =
    subst (λ (w : Counts × List ℕ). CountsTake (l ∷ r ∷ b ∷ n ∷ ws) w.1 w.0) (same_Some _ _ is)
    (record { parts = refl; rest_fits = fit.1.1.1.1 })
counts_take [] u fit is = absurd cc
counts_take (l ∷ []) u fit is = absurd cc
counts_take (l ∷ r ∷ []) u fit is = absurd cc
counts_take (l ∷ r ∷ b ∷ []) u fit is = absurd cc

-- The words of version 2.
pub version_two : (d : ℕ) → version_words (suc d) ≡ 2 ∷ suc d ∷ []
version_two d = rw (ne_eqb (suc d) 0 (λ e. omega (arith, e))) refl

-- the word that tells the number of decimals
told_take : (bad : Bool) (d : ℕ) (ws : List ℕ) (u : ℕ × List ℕ) → (eqb d 0 || ltb 4 d) ≡ bad →
    cond bad (Err (stops.Digits d)) (Ok (d, ws)) ≡ Ok u → AreWords ws →
    (u.0 ≤ 4) × (2 ∷ d ∷ ws ≡ version_words u.0 ++ u.1) × AreWords u.1
told_take true d ws u bad is fit = absurd cc
told_take false zero ws u bad is fit = absurd cc
told_take false (suc d) ws u bad is fit =
    grind (arith, common_steps, ltb-false, or_parts, same_Ok, version_two)

version_take : (first second : Bool) (m v : ℕ) (ws : List ℕ) (u : ℕ × List ℕ) → eqb v 1 ≡ first
    → eqb v 2 ≡ second → m ≡ magic_word →
    cond first (Ok (0, ws)) (cond second (told_digits ws) (Err (stops.Version v))) ≡ Ok u
    → AreWords ws → DigitsTake (m ∷ v ∷ ws) u.1 u.0
version_take true second m v ws u one two at_m is fit =
    grind (arith, common_steps, eqb-true, same_Ok)
version_take false true m v (d ∷ ws) u one two at_m is fit =
    grind (arith, common_steps, eqb-true, told_take)
version_take false true m v [] u one two at_m is fit = absurd cc
version_take false false m v ws u one two at_m is fit = absurd cc

digits_take : (ws : List ℕ) (u : ℕ × List ℕ) → BeginsWithMagic ws → AreWords ws
    → digits_at ws ≡ Ok u → DigitsTake ws u.1 u.0
unfolding digits_at
digits_take (m ∷ v ∷ ws) u magic fit is =
    version_take (eqb v 1) (eqb v 2) m v ws u refl refl (magic m (v ∷ ws) refl) is fit.1.1
digits_take [] u magic fit is = absurd cc
digits_take (m ∷ []) u magic fit is = absurd cc

pub header_takes : (ws : List ℕ) (u : Counts × List ℕ) → BeginsWithMagic ws → AreWords ws
    → header_at ws ≡ Ok u →
    HeaderTakes ws u.1 u.0
unfolding header_at
header_takes ws u magic fit is =
    then_read_ok (λ (d : ℕ × List ℕ). whole (counts_at d.1)) (digits_at ws) u is (λ d was next.
    let t = digits_take ws d magic fit was in
    let counts = counts_take d.1 u t.rest_fits (whole_ok (counts_at d.1) u next) in
    record {
      digits = d.0;
      few = t.few;
      told = ap digits_in was;
      parts = t.parts ∙ ap (λ (l : List ℕ). magic_word ∷ (version_words d.0 ++ l)) counts.parts;
      rest_fits = counts.rest_fits;
    })
