-- The text of the triangles that a strip has entered, and the sides by which it enters those that
-- are left.
use Rattle.std.proofs.Common.{◌≡◌, ℕ, zero, suc, ◌+◌, ◌-◌, ◌<◌, ◌≤◌, Bool, true, not, List, [], ◌∷◌}
use Rattle.std.proofs.Common.{◌++◌, Option, Some, None, refl, sym, ap, ◌∙◌, subst, arith}
use Rattle.std.proofs.Common.{append_assoc}
use Rattle.std.proofs.lemmas.Grind.{flat_map-append, common_steps}
use Rattle.std.proofs.lemmas.List.{append-nil}
use Rattle.std.proofs.lemmas.List.Folds.{flat_map-map}
use Rattle.pm_base.specs.Sides.{face_of, next}
use Rattle.pm_io.specs.Bytes.{GainsPart, GainsThrough}
use Rattle.pm_io.proofs.PageLaws.{through_none, through_both, through_more, through_part}
use Rattle.pm_forest.specs.Fronts.{without}
use Rattle.pm_strips.specs.Strips.{free_beyond, exit_of, enter_by, entered, first_side, strip_from}
use Rattle.pm_strips.specs.Strips.{left_by}
use Rattle.pm_strips.specs.Shown.{strip_line}
use Rattle.pm_strips.specs.Texts.{first_text, node_entered, entered_text, line_end, line_of}
use Rattle.pm_strips.proofs.TakenLaws.{left_more, first_face}

-- The same text in other words.
pub part_as : (old new : Option (List ℕ)) (p a b : List ℕ) → b ≡ a → GainsPart old new (p ++ a)
    → GainsPart old new (p ++ b)
part_as old new p a b is part = subst (λ (l : List ℕ). GainsPart old new (p ++ l)) (sym is) part

pub through_as : (old new : Option (List ℕ)) (p q a b : List ℕ) → b ≡ a → GainsThrough old new p q a
    → GainsThrough old new p q b
through_as old new p q a b is through = subst (GainsThrough old new p q) (sym is) through

-- After some of at most n turns from a first exit.
pub record IsEntering (beyond : ℕ → Option ℕ) (node : ℕ → ℕ) (n turn : ℕ) (first : ℕ
    → Bool) (first_exit : ℕ) (free : ℕ → Bool) (is_odd : Bool) (exit : ℕ)
    (old new : Option (List ℕ)) (held holds : List ℕ) : Type 0 where
  pub done : List ℕ
  pub whole : entered beyond n first true first_exit ≡ done
      ++ entered beyond (n - turn) free is_odd exit
  pub left : free ≡ left_by first done
  pub text : GainsThrough old new held holds (entered_text node done)

-- Before the first turn.
pub entering_none : (beyond : ℕ → Option ℕ) (node : ℕ → ℕ) (n : ℕ) (free : ℕ → Bool) (exit : ℕ)
    (old : Option (List ℕ)) (held : List ℕ)
    → IsEntering beyond node n 0 free exit free true exit old old held held
entering_none beyond node n free exit old held = grind (arith, common_steps, through_none)

-- The next turn enters a triangle,
enters : (beyond : ℕ → Option ℕ) (n turn : ℕ) (free : ℕ → Bool) (is_odd : Bool) (exit g : ℕ)
    → turn < n → free_beyond beyond free exit ≡ Some g
    → entered beyond (n - turn) free is_odd exit ≡ g
    ∷ entered beyond (n - (turn + 1)) (without free (face_of g)) (not is_odd) (exit_of is_odd g)
enters beyond n turn free is_odd exit g low some = grind (arith, common_steps)

-- or the strip ends there.
ends_zero : (beyond : ℕ → Option ℕ) (m : ℕ) (free : ℕ → Bool) (is_odd : Bool) (exit : ℕ) → m ≡ 0
    → entered beyond m free is_odd exit ≡ []
ends_zero beyond m free is_odd exit is = ap (λ k. entered beyond k free is_odd exit) is

ends : (beyond : ℕ → Option ℕ) (m : ℕ) (free : ℕ → Bool) (is_odd : Bool) (exit : ℕ)
    → free_beyond beyond free exit ≡ None → entered beyond m free is_odd exit ≡ []
ends beyond zero free is_odd exit none = refl
ends beyond (suc m) free is_odd exit none =
    ap (λ (o : Option ℕ). enter_by
    (λ x. entered beyond m (without free (face_of x)) (not is_odd) (exit_of is_odd x)) o) none

module _ (beyond : ℕ → Option ℕ) (node : ℕ → ℕ) (n turn : ℕ) (first : ℕ → Bool) (first_exit : ℕ)
    (free : ℕ → Bool) (is_odd : Bool) (exit : ℕ) where
  abbrev all : List ℕ
  all = entered beyond n first true first_exit

  pub entering_more : (g : ℕ) (old mid new : Option (List ℕ)) (p q r : List ℕ) → turn < n
      → free_beyond beyond free exit ≡ Some g
      → IsEntering beyond node n turn first first_exit free is_odd exit old mid p q
      → GainsThrough mid new q r (node_entered node g)
      → IsEntering beyond node n (turn + 1) first first_exit (without free (face_of g)) (not is_odd)
      (exit_of is_odd g) old new p r
  entering_more g old mid new p q r low some so_far next_text =
      let later = entered beyond (n - (turn + 1)) (without free (face_of g)) (not is_odd)
      (exit_of is_odd g) in
      record {
        done = so_far.done ++ g ∷ [];
        whole = so_far.whole
            ∙ ap (λ gs. so_far.done ++ gs) (enters beyond n turn free is_odd exit g low some)
            ∙ sym (append_assoc so_far.done (g ∷ []) later);
        left = ap (λ (fs : ℕ → Bool). without fs (face_of g)) so_far.left
            ∙ sym (left_more first so_far.done (g ∷ []));
        text = subst (GainsThrough old new p r)
            (sym (flat_map-append (node_entered node) so_far.done (g ∷ [])
            ∙ ap (λ l. entered_text node so_far.done ++ l) (append-nil (node_entered node g))))
            (through_both old mid new p q r _ _ so_far.text next_text);
      }

  -- The sink failed within the node of the next triangle.
  pub entering_cut : (g : ℕ) (old mid new : Option (List ℕ)) (p q : List ℕ) → turn < n
      → free_beyond beyond free exit ≡ Some g
      → IsEntering beyond node n turn first first_exit free is_odd exit old mid p q
      → GainsPart mid new (q ++ node_entered node g)
      → GainsPart old new (p ++ entered_text node all)
  entering_cut g old mid new p q low some so_far part =
      let later = entered beyond (n - (turn + 1)) (without free (face_of g)) (not is_odd)
      (exit_of is_odd g) in
      let whole : entered_text node all ≡ (entered_text node so_far.done ++ node_entered node g)
      ++ entered_text node later =
      ap (entered_text node) (so_far.whole
      ∙ ap (λ gs. so_far.done ++ gs) (enters beyond n turn free is_odd exit g low some))
      ∙ flat_map-append (node_entered node) so_far.done (g ∷ later)
      ∙ sym (append_assoc (entered_text node so_far.done) (node_entered node g)
      (entered_text node later)) in
      subst (λ l. GainsPart old new (p ++ l)) (sym whole)
      (through_more old new p _ (entered_text node later)
      (through_part old mid new p q _ _ so_far.text part))

  finished : (old new : Option (List ℕ)) (p q : List ℕ)
      → (s : IsEntering beyond node n turn first first_exit free is_odd exit old new p q)
      → entered beyond (n - turn) free is_odd exit ≡ [] → all ≡ s.done
  finished old new p q s none = s.whole ∙ ap (λ gs. s.done ++ gs) none ∙ append-nil s.done

  entering_all : (old new : Option (List ℕ)) (p q : List ℕ)
      → IsEntering beyond node n turn first first_exit free is_odd exit old new p q
      → entered beyond (n - turn) free is_odd exit ≡ []
      → GainsThrough old new p q (entered_text node all) × (free ≡ left_by first all)
  entering_all old new p q s none = grind (arith, common_steps, finished)

  pub entering_ends : (old new : Option (List ℕ)) (p q : List ℕ)
      → IsEntering beyond node n turn first first_exit free is_odd exit old new p q
      → free_beyond beyond free exit ≡ None → GainsThrough old new p q (entered_text node all)
      × (free ≡ left_by first all)
  entering_ends old new p q s none =
      entering_all old new p q s (ends beyond (n - turn) free is_odd exit none)

  pub entering_past : (old new : Option (List ℕ)) (p q : List ℕ)
      → IsEntering beyond node n turn first first_exit free is_odd exit old new p q
      → n ≤ turn → GainsThrough old new p q (entered_text node all) × (free ≡ left_by first all)
  entering_past old new p q s past =
      entering_all old new p q s (ends_zero beyond (n - turn) free is_odd exit (omega arith))

-- The line of a strip by its parts.
regroup : (t a b c x : List ℕ) → (((t ++ a) ++ b) ++ c) ++ x ≡ t ++ (a ++ (b ++ (c ++ x)))
regroup t a b c x =
    append_assoc ((t ++ a) ++ b) c x ∙ append_assoc (t ++ a) b (c ++ x)
    ∙ append_assoc t a (b ++ (c ++ x))

pub line_parts : (node : ℕ → ℕ) (e : ℕ) (gs : List ℕ)
    → line_of node (e ∷ gs) ≡ (first_text node e ++ entered_text node gs) ++ line_end
unfolding first_text strip_line
line_parts node e gs = grind (arith, common_steps, flat_map-map, regroup)

-- A strip by the side with which it begins and its first exit, where others than face f are free.
module _ (beyond : ℕ → Option ℕ) (n : ℕ) (free others : ℕ → Bool) (f e exit : ℕ)
    (but : others ≡ without free f) (first : e ≡ first_side beyond others f) (leads : exit ≡ next e)
  where
    begins : e ≡ first_side beyond (without free f) f
    begins = first ∙ ap (λ (fs : ℕ → Bool). first_side beyond fs f) but

    pub strip_is : strip_from beyond n free f ≡ e ∷ entered beyond n others true exit
    strip_is = grind (arith, common_steps, begins)

    pub strip_left : left_by free (strip_from beyond n free f)
        ≡ left_by others (entered beyond n others true exit)
    strip_left = grind (arith, common_steps, begins, first_face, strip_is)

    pub strip_text : (node : ℕ → ℕ) → line_of node (strip_from beyond n free f)
        ≡ (first_text node e ++ entered_text node (entered beyond n others true exit)) ++ line_end
    strip_text node =
        ap (line_of node) strip_is ∙ line_parts node e (entered beyond n others true exit)
