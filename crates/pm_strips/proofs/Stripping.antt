-- The text of the strips that are told, and the strips of the faces that are left.
use Rattle.std.proofs.Common.{◌≡◌, ℕ, ◌+◌, ◌-◌, ◌<◌, ◌≤◌, Bool, true, false, List, [], ◌∷◌}
use Rattle.std.proofs.Common.{◌++◌, length, map, Option, sym, ap, ◌∙◌, subst, arith}
use Rattle.std.proofs.Common.{append_assoc, length-append}
use Rattle.std.specs.List.{flat_map}
use Rattle.std.proofs.lemmas.Bool.{cond-true, cond-false}
use Rattle.std.proofs.lemmas.Grind.{flat_map-append, common_steps}
use Rattle.std.proofs.lemmas.List.{append-nil, length-map}
use Rattle.std.proofs.lemmas.List.Folds.{flat_map-map}
use Rattle.pm_io.specs.Bytes.{GainsPart, GainsThrough}
use Rattle.pm_io.proofs.PageLaws.{through_none, through_both, through_more, through_part}
use Rattle.pm_forest.specs.Forest.{Hierarchy}
use Rattle.pm_forest.specs.Faces.{face_count}
use Rattle.pm_strips.specs.Strips.{strip_from, strips_from, left_by, listed_nodes}
use Rattle.pm_strips.specs.Shown.{is_there, beyond_in, strips_of, strip_line}
use Rattle.pm_strips.specs.Texts.{line_of}
use Rattle.pm_strips.proofs.TakenLaws.{left_less}

-- When the faces below `face` are free no longer.
pub record IsStripping (beyond : ℕ → Option ℕ) (node : ℕ → ℕ) (n face : ℕ) (first free : ℕ
    → Bool) (strips : ℕ) (old new : Option (List ℕ)) (held holds : List ℕ) : Type 0 where
  pub done : List (List ℕ)
  pub whole : strips_from beyond n n first 0 ≡ done ++ strips_from beyond n (n - face) free face
  pub left : (f : ℕ) → free f ≡ true → first f ≡ true
  pub count : strips ≡ length done
  pub few : strips ≤ face
  pub text : GainsThrough old new held holds (flat_map (line_of node) done)

pub stripping_none : (beyond : ℕ → Option ℕ) (node : ℕ → ℕ) (n : ℕ) (first free : ℕ
    → Bool) (old : Option (List ℕ)) (held : List ℕ) → free ≡ first
    → IsStripping beyond node n 0 first free 0 old old held held
stripping_none beyond node n first free old held is = grind (arith, common_steps, through_none)

module _ (beyond : ℕ → Option ℕ) (node : ℕ → ℕ) (n face : ℕ) (first free : ℕ → Bool) (strips : ℕ)
  where
    abbrev all : List (List ℕ)
    all = strips_from beyond n n first 0

    abbrev strip : List ℕ
    strip = strip_from beyond n free face

    abbrev later : (ℕ → Bool) → List (List ℕ)
    later left = strips_from beyond n (n - (face + 1)) left (face + 1)

    -- A strip begins at the next face, where it is free,
    begins : face < n → free face ≡ true → strips_from beyond n (n - face) free face ≡ strip
        ∷ later (left_by free strip)
    begins low is = grind (arith, common_steps, cond-true)

    -- and none where it isn't.
    skips : face < n → free face ≡ false → strips_from beyond n (n - face) free face ≡ later free
    skips low is = grind (arith, common_steps, cond-false)

    pub stripping_more : (after : ℕ → Bool) (old mid new : Option (List ℕ)) (p q r : List ℕ)
        → face < n → free face ≡ true → after ≡ left_by free strip
        → IsStripping beyond node n face first free strips old mid p q
        → GainsThrough mid new q r (line_of node strip)
        → IsStripping beyond node n (face + 1) first after (strips + 1) old new p r
    stripping_more after old mid new p q r low is left so_far next_text =
        record {
          done = so_far.done ++ strip ∷ [];
          whole = so_far.whole ∙ ap (λ ss. so_far.done ++ ss) (begins low is)
              ∙ sym (append_assoc so_far.done (strip ∷ []) (later (left_by free strip)))
              ∙ ap (λ fs. (so_far.done ++ strip ∷ []) ++ later fs) (sym left);
          left = λ f e. so_far.left f
              (left_less free strip f (ap (λ (fs : ℕ → Bool). fs f) (sym left) ∙ e));
          count = omega (arith, so_far.count, length-append so_far.done (strip ∷ []));
          few = omega (arith, so_far.few);
          text = subst (GainsThrough old new p r)
              (sym (flat_map-append (line_of node) so_far.done (strip ∷ [])
              ∙ ap (λ l. flat_map (line_of node) so_far.done ++ l)
              (append-nil (line_of node strip))))
              (through_both old mid new p q r _ _ so_far.text next_text);
        }

    pub stripping_pass : (old new : Option (List ℕ)) (p q : List ℕ) → face < n → free face ≡ false
        → IsStripping beyond node n face first free strips old new p q
        → IsStripping beyond node n (face + 1) first free strips old new p q
    stripping_pass old new p q low is so_far = grind (arith, common_steps, skips)

    -- The sink failed within the line of the next strip.
    pub stripping_cut : (old mid new : Option (List ℕ)) (p q : List ℕ) → face < n → free face ≡ true
        → IsStripping beyond node n face first free strips old mid p q
        → GainsPart mid new (q ++ line_of node strip)
        → GainsPart old new (p ++ flat_map strip_line (map (listed_nodes node) all))
    stripping_cut old mid new p q low is so_far part =
        let rest = later (left_by free strip) in
        let line = line_of node in
        let whole : flat_map strip_line (map (listed_nodes node) all)
        ≡ (flat_map line so_far.done ++ line strip) ++ flat_map line rest =
        flat_map-map strip_line (listed_nodes node) all
        ∙ ap (λ ss. flat_map line ss) (so_far.whole ∙ ap (λ ss. so_far.done ++ ss) (begins low is))
        ∙ flat_map-append line so_far.done (strip ∷ rest)
        ∙ sym (append_assoc (flat_map line so_far.done) (line strip) (flat_map line rest)) in
        subst (λ l. GainsPart old new (p ++ l)) (sym whole)
        (through_more old new p _ (flat_map line rest)
        (through_part old mid new p q _ _ so_far.text part))

    pub stripping_all : (old new : Option (List ℕ)) (p q : List ℕ) → n ≤ face
        → IsStripping beyond node n face first free strips old new p q
        → GainsThrough old new p q (flat_map strip_line (map (listed_nodes node) all))
        × (strips ≡ length (map (listed_nodes node) all))
    stripping_all old new p q past s =
        grind (arith, common_steps, append-nil, flat_map-map, length-map)

pub shown_strips : (h : Hierarchy) (T : ℕ → Bool) (first : ℕ → Bool) → first ≡ is_there h T
    → strips_from (beyond_in h T) (face_count h) (face_count h) first 0 ≡ strips_of h T
unfolding strips_of
shown_strips h T first is =
    ap (λ (fs : ℕ → Bool). strips_from (beyond_in h T) (face_count h) (face_count h) fs 0) is
