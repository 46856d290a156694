-- Of each mesh it can be told which way round each patch is turned: mates are joined, faces are
-- counted patch by patch, and the counts decide.
use Rattle.std.proofs.Common.{◌≡◌, ℕ, ◌<◌, ◌≤◌, inl, inr, sym, ap, ◌∙◌, subst, Bool, false, not}
use Rattle.std.proofs.Common.{◌&&◌, List, Option, Some, None, length, map, slice_index_or, arith}
use Rattle.std.proofs.lemmas.Grind.{common_steps}
use Rattle.std.specs.Prelude.{pos, ◌==◌, ◌⊎◌, if◌then◌else◌}
use Rattle.std.specs.Option.{MatchOption}
use Rattle.std.specs.List.{range_with_len}
use Rattle.std.proofs.lemmas.Bool.{cases_lt}
use Rattle.std.proofs.lemmas.List.{length-map, get_or-map, get_or_past}
use Rattle.std.proofs.lemmas.List.FromFn.{length-range_with_len, get_or-range_with_len}
use Rattle.pm_base.specs.Place.{Place}
use Rattle.pm_base.specs.Counts.{count}
use Rattle.pm_base.specs.Sides.{Net, side_count}
use Rattle.pm_turn.specs.declared.patches.Root.{Root}
use Rattle.pm_turn.specs.declared.choice.Sums.{Sums}
use Rattle.pm_turn.specs.Turning.{AreTraced}
use Rattle.pm_turn.specs.Unions.{Elders, Up, AreElders, AreMated}
use Rattle.pm_turn.specs.Choice.{weight, total, area_at, volume_at, AreChosenTurns}
use Rattle.pm_turn.specs.Sums.{no_root, root_at, parity_at, is_bare, no_sums, AreSums, is_reversed}
use Rattle.pm_turn.specs.Sums.{chosen_flag}
use Rattle.pm_turn.specs.ChoiceLaws.{ChosenTurnsAreThere}
use Rattle.pm_turn.proofs.Joining.{up_below}
use Rattle.pm_turn.proofs.JoinedSides.{elders_traced}
use Rattle.pm_turn.proofs.TurnsThere.{mate?, up_of, all_grown}
use Rattle.pm_turn.proofs.Choosing.{chosen}

-- What a function gives for each number, as a list.
abbrev pub listed : {A : Type 0} → (ℕ → A) → ℕ → List A
listed g n = map g (range_with_len 0 n)

listed_long : {A : Type 0} (g : ℕ → A) (n : ℕ) → length (listed g n) ≡ n
listed_long g n = length-map (range_with_len 0 n) g ∙ length-range_with_len 0 n

listed_at : {A : Type 0} (g : ℕ → A) (n : ℕ) (d : A) (i : ℕ) → i < n
    → slice_index_or (listed g n) i d ≡ g i
listed_at g n d i l =
    get_or-map g (range_with_len 0 n) i 0 d (subst (λ k. i < k) (sym (length-range_with_len 0 n)) l)
    ∙ ap g (get_or-range_with_len 0 n i 0 l ∙ omega arith)

-- What is found, if anything.
abbrev pub IsFound : (ℕ → Type 0) → Type 0
IsFound P = ((k : ℕ) × P k) ⊎ ((k : ℕ) → P k → ⊥)

abbrev pub found : {P : ℕ → Type 0} → IsFound P → Option ℕ
found (inl (k, p)) = Some k
found (inr none) = None

found_told : {P : ℕ → Type 0} (d : IsFound P)
    → MatchOption (found d) ((k : ℕ) → P k → ⊥) (λ k. P k)
found_told (inl (k, p)) = p
found_told (inr none) = none

module _ (m : Net) (places : List Place) where
  abbrev pub mate_at : ℕ → Option ℕ
  mate_at e = found (mate? m e)

  abbrev pub mates : List (Option ℕ)
  mates = listed mate_at (side_count m)

  pub mated : AreMated m mates
  mated = grind (arith, common_steps, found_told, listed_at, listed_long, mate?)

  module _ (t : Elders) (s : AreElders m (side_count m) t) where
    abbrev pub root_of : ℕ → Root
    root_of f = record { face = (up_of t s.below f).0; parity = (up_of t s.below f).1 }

    abbrev pub roots : List Root
    roots = listed root_of m.faces

    root_is : (f : ℕ) → f < m.faces → slice_index_or roots f no_root ≡ root_of f
    root_is f l = listed_at root_of m.faces no_root f l

    way_up : (f : ℕ) → f < m.faces → Up t f (root_at roots f) (parity_at roots f)
    way_up f l =
        subst (λ (r : Root). Up t f r.face r.parity) (sym (root_is f l)) (up_of t s.below f).2

    below : (f : ℕ) → root_at roots f ≤ f
    below f =
        elim (cases_lt f m.faces) [
          | inl l ↦ up_below m (side_count m) t s f (root_at roots f) (parity_at roots f)
              (way_up f l)
          | inr k ↦ grind (arith, common_steps, get_or_past, listed_long)
        ]

    pub traced : AreTraced m (root_at roots) (parity_at roots) t.odd
    traced = elders_traced m t (root_at roots) (parity_at roots) s way_up below

    -- The sums over the patch for which face r stands.
    abbrev pub sums_of : ℕ → Sums
    sums_of r = record {
      even_area = weight (area_at m places)
          (λ f. (root_at roots f == r) && not (parity_at roots f)) m.faces;
      odd_area = weight (area_at m places) (λ f. (root_at roots f == r) && parity_at roots f)
          m.faces;
      odd = count (λ f. (root_at roots f == r) && parity_at roots f) m.faces;
      bare = count (λ f. (root_at roots f == r) && is_bare mates f) m.faces;
      volume = total
          (λ f. if root_at roots f == r then volume_at m places (parity_at roots f) f else pos 0)
          m.faces;
    }

    abbrev pub sums : List Sums
    sums = listed sums_of m.faces

    pub summed : AreSums m places mates roots m.faces sums
    summed = grind (arith, common_steps, listed_at, listed_long)

    abbrev pub flag_at : ℕ → Bool
    flag_at f =
        let r : ℕ = root_at roots f in
        chosen_flag (t.odd r) (is_reversed (slice_index_or sums r no_sums)) (parity_at roots f)

    abbrev pub flags : List Bool
    flags = listed flag_at m.faces

    chosen_there : AreChosenTurns m places flags
    chosen_there =
        chosen m places mates roots t.odd sums traced mated summed flags
        (listed_long flag_at m.faces) (λ f l. listed_at flag_at m.faces false f l)

pub chosen_turns_are_there : ChosenTurnsAreThere
chosen_turns_are_there m places =
    let (t, s) = all_grown m (side_count m) in
    (flags m places t s, chosen_there m places t s)
