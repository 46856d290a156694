-- What one more stamp changes.
use Rattle.std.proofs.Common.{◌≡◌, ◌≢◌, ℕ, ◌<◌, eqb, min, Option, Some, None, length}
use Rattle.std.proofs.Common.{slice_index_or, inl, inr, refl, sym, ap, ◌∙◌, subst, arith}
use Rattle.std.specs.Option.{IfSome}
use Rattle.std.proofs.Math.ListN.{set}
use Rattle.std.proofs.lemmas.Bool.{cases_eq, cases_lt, cond-true, cond-false, eq-eqb, ne_eqb}
use Rattle.std.proofs.lemmas.List.{get_or-set_same, get_or-set_other}
use Rattle.pm_base.specs.declared.ids.Side.{Side}
use Rattle.pm_twins.specs.Stamping.{no_stamp, side_to, stamped, lesser_of, IsUpTo}
use Rattle.pm_twins.specs.Stamping.{NoneStampedFrom, Stamps}

-- The lesser of two sides.
pub up_to_first : (a b : Option Side) (e : ℕ) → IsUpTo a e → IsUpTo (lesser_of a b) e
up_to_first None b e l = absurd l
up_to_first (Some a) None e l = l
up_to_first (Some a) (Some b) e l = omega (arith, l)

pub up_to_second : (a b : Option Side) (e : ℕ) → IsUpTo b e → IsUpTo (lesser_of a b) e
up_to_second None None e l = absurd l
up_to_second None (Some b) e l = l
up_to_second (Some a) None e l = absurd l
up_to_second (Some a) (Some b) e l = omega (arith, l)

pub lesser-either : (P : ℕ → Type 0) (a b : Option Side) → IfSome a (λ g. P g.0)
    → IfSome b (λ g. P g.0) → IfSome (lesser_of a b) (λ g. P g.0)
lesser-either P None None p q = tt
lesser-either P None (Some b) p q = q
lesser-either P (Some a) None p q = p
lesser-either P (Some a) (Some b) p q =
    elim (cases_lt a.0 b.0) [
      | inl lt ↦ (let is : min a.0 b.0 ≡ a.0 = omega (arith, lt) in subst P (sym is) p)
      | inr ge ↦ (let is : min a.0 b.0 ≡ b.0 = omega (arith, ge) in subst P (sym is) q)
    ]

-- The stamps with one more.
module _ (stamps : Stamps) (v w : ℕ) (f : Side) (next_repeat : Option Side)
    (low : w < length stamps.at) where
  abbrev pub with_stamp : Stamps
  with_stamp = record {
    at = set stamps.at w (record { side = f; target = v });
    repeat = next_repeat;
  }

  same_stamp : slice_index_or with_stamp.at w no_stamp ≡ record { side = f; target = v }
  same_stamp = get_or-set_same stamps.at w (record { side = f; target = v }) no_stamp low

  pub same_slot : stamped with_stamp v w ≡ Some f
  same_slot = ap (side_to v) same_stamp ∙ cond-true (eqb v v) (Some f) None (eq-eqb v v refl)

  -- It hides what another vertex stamped there.
  hidden_slot : (u : ℕ) → v ≢ u → stamped with_stamp u w ≡ None
  hidden_slot u ne =
      ap (side_to u) same_stamp ∙ cond-false (eqb v u) (Some f) None (ne_eqb v u ne)

  pub other_slot : (u x : ℕ) → x ≢ w → stamped with_stamp u x ≡ stamped stamps u x
  other_slot u x ne =
      ap (side_to u)
      (get_or-set_other stamps.at w x (record { side = f; target = v }) no_stamp ne)

  pub none_later : (n : ℕ) → v < n → NoneStampedFrom n stamps → NoneStampedFrom n with_stamp
  none_later n lt none u x le past =
      elim (cases_eq x w) [
        | inl same ↦ ap (stamped with_stamp u) same
            ∙ hidden_slot u (λ is. absurd (omega (arith, is, lt, le)))
        | inr ne ↦ other_slot u x ne ∙ none u x le past
      ]
