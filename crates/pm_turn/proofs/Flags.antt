-- Flags read from the ways up.
use Rattle.std.proofs.Common.{◌≡◌, ℕ, ◌+◌, ◌<◌, ◌≤◌, inl, inr, sym, ap, ◌∙◌, subst, Bool, false}
use Rattle.std.proofs.lemmas.Grind.{common_steps}
use Rattle.std.proofs.Common.{List, [], ◌∷◌, ◌++◌, length, slice_index_or, replicate, arith}
use Rattle.std.proofs.lemmas.Bool.{cases_eq, cases_lt, true≢false}
use Rattle.std.proofs.lemmas.List.{get_or_append_left, length-append, get_or-replicate, get_or_past}
use Rattle.std.proofs.Math.Seq.{get_or-append_seam}
use Rattle.pm_base.specs.Sides.{Net, side_count}
use Rattle.pm_turn.specs.Turning.{flag_of, flag_with, Way, stay, AreTurns, traced_flag}
use Rattle.pm_turn.specs.Unions.{Elders, Up, top, up, AreElders, AreShorter, IsFlagged, put}
use Rattle.pm_turn.specs.Unions.{elders_of}
use Rattle.pm_turn.proofs.Joining.{put_same, put_other}
use Rattle.pm_turn.proofs.JoinedSides.{elders_traced}
use Rattle.pm_turn.proofs.Traced.{traced_tables_turn}

-- The first n faces have their flags.
pub record AreFlagged (t : Elders) (n : ℕ) (flags : List Bool) : Type 0 where
  pub long : length flags ≡ n
  pub root : ℕ → ℕ
  pub parity : ℕ → Bool
  pub below : (f : ℕ) → root f ≤ f
  pub way : (f : ℕ) → f < n → Up t f (root f) (parity f)
  pub is : (f : ℕ) → f < n → flag_of flags f ≡ traced_flag root parity t.odd f

pub none_flagged : (t : Elders) (flags : List Bool) → flags ≡ [] → AreFlagged t 0 flags
none_flagged t flags none = record {
  long = ap length none;
  root = λ f. f;
  parity = λ f. false;
  below = λ f. omega arith;
  way = λ f l. absurd (omega (arith, l));
  is = λ f l. absurd (omega (arith, l));
}

-- The way up leads down in number.
pub low_root : (t : Elders) → ((x : ℕ) → t.elder x ≤ x) → (x r : ℕ) (p : Bool) → Up t x r p → r ≤ x
low_root t low x r p (top a) = omega arith
low_root t low x r p (up {p = i} k v) = let a = low_root t low (t.elder x) r i v in let b =
    low x in omega (arith, a, b)

pub flagged_more : (t u : Elders) (n : ℕ) (xs ys : List Bool) (flag : Bool) → AreShorter t u
    → ((x : ℕ) → t.elder x ≤ x)
    → AreFlagged t n xs → IsFlagged u n flag → ys ≡ xs ++ flag ∷ [] → AreFlagged u (n + 1) ys
flagged_more t u n xs ys flag s low h now new =
    let root : ℕ → ℕ = put h.root n now.root in
    let parity : ℕ → Bool = put h.parity n now.parity in
    let lr = low_root u (s.low low) n now.root now.parity now.way in
    record {
      long = ap length new ∙ length-append xs (flag ∷ []) ∙ ap (λ i. i + 1) h.long;
      root = root;
      parity = parity;
      below = λ f.
          elim (cases_eq f n) [
            | inl is ↦ let e : root f ≡ now.root =
                put_same h.root n f now.root is in omega (arith, e, lr, is)
            | inr ne ↦ let e : root f ≡ h.root f = put_other h.root n f now.root ne in let b =
                h.below f in omega (arith, e, b)
          ];
      way = λ f l.
          elim (cases_eq f n) [
            | inl is ↦ grind (arith, common_steps, put_same)
            | inr ne ↦
                subst (λ i. Up u f i (parity f)) (sym (put_other h.root n f now.root ne))
                (subst (λ (b : Bool). Up u f (h.root f) b)
                (sym (put_other h.parity n f now.parity ne))
                (s.ups f (h.root f) (h.parity f) (h.way f (omega (arith, l, ne)))))
          ];
      is = λ f l.
          elim (cases_eq f n) [
            | inl is ↦ grind (arith, common_steps, get_or-append_seam, put_same)
            | inr ne ↦
                let l' : f < n = omega (arith, l, ne) in
                let at : flag_of ys f ≡ flag_of xs f =
                grind (arith, common_steps, get_or_append_left) in
                at ∙ h.is f l'
                ∙ ap (λ (b : Bool). flag_with b (h.parity f)) (sym (s.odd (h.root f)))
                ∙ ap (λ i. flag_with (u.odd i) (h.parity f))
                (sym (put_other h.root n f now.root ne))
                ∙ ap (flag_with (u.odd (root f))) (sym (put_other h.parity n f now.parity ne))
          ];
    }

pub flagged_turn : (m : Net) (t : Elders) (n : ℕ) (flags : List Bool) → AreElders m (side_count m) t
    → n ≡ m.faces → AreFlagged t n flags → AreTurns m flags
flagged_turn m t n flags s all h =
    let in_n = λ (f : ℕ) (l : f < m.faces). subst (λ i. f < i) (sym all) l in
    let traced = elders_traced m t h.root h.parity s (λ f l. h.way f (in_n f l)) h.below in
    traced_tables_turn m flags h.root h.parity t.odd traced (h.long ∙ all)
    (λ f l. h.is f (in_n f l))

-- Each face in a patch of its own.
pub own_elders_begin : (m : Net) (faces : ℕ) (es : List ℕ) (ps os : List Bool) → m.faces ≡ faces
    → length es ≡ faces → ((x : ℕ) → x < faces → slice_index_or es x 0 ≡ x)
    → ps ≡ replicate faces false → os ≡ replicate faces false → AreElders m 0 (elders_of es ps os)
own_elders_begin m faces es ps os is long each pi oi = record {
  below = λ x.
      elim (cases_lt x faces) [
        | inl l ↦ let e = each x l in omega (arith, e)
        | inr k ↦ let e = get_or_past es x 0 (omega (arith, k, long)) in omega (arith, e)
      ];
  step = λ x l.
      let low : x < faces = omega (arith, l, is) in
      let even : slice_index_or ps x false ≡ false =
      ap (λ (bs : List Bool). slice_index_or bs x false) pi
      ∙ get_or-replicate faces x false false low in
      subst (λ i. Way m x i (slice_index_or ps x false)) (sym (each x low))
      (subst (λ (b : Bool). Way m x x b) (sym even) stay);
  twisted = λ x l set.
      let low : x < faces = omega (arith, l, is) in
      let un : slice_index_or os x false ≡ false =
      ap (λ (bs : List Bool). slice_index_or bs x false) oi
      ∙ get_or-replicate faces x false false low in
      absurd (true≢false (sym set ∙ un));
  joined = λ e k l a. absurd (omega (arith, l));
}
