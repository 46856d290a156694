-- A corner at which nothing is to be done.
use Rattle.std.proofs.Common.{◌≡◌, ℕ, true, false, Option, Some, None, List, Bool, inl, inr, refl}
use Rattle.std.proofs.Common.{sym, subst, arith}
use Rattle.std.specs.Prelude.{is_some}
use Rattle.std.proofs.lemmas.Bool.{cases_lt, false≢true}
use Rattle.pm_base.specs.declared.log.Collapse.{Collapse}
use Rattle.pm_base.specs.Meshes.{Mesh}
use Rattle.pm_base.specs.Sides.{Net, next, prev, to, Stands, twin_of}
use Rattle.pm_base.proofs.Search.{option_cases}
use Rattle.pm_base.proofs.Sides.{stands_next}
use Rattle.pm_base.proofs.TwinLaws.{twin-is}
use Rattle.pm_queue.specs.declared.key.Key.{Key}
use Rattle.pm_queue.specs.Entries.{Entries, key_at}
use Rattle.pm_runs.specs.Surfaces.{Surface, net_of_surface, IsSurface}
use Rattle.pm_runs.proofs.Live.{corner_live}
use Rattle.pm_runs.proofs.Logs.{run-proper}
use Rattle.pm_policies.specs.Policies.{Policy}
use Rattle.pm_shrink.specs.Following.{IsAfter}
use Rattle.pm_shrink.specs.Obstacles.{IsBarred}
use Rattle.pm_shrink.specs.Shrinking.{Shrinking, net_at}
use Rattle.pm_simplify.specs.Choices.{net_after, IsDue, IsEntry}
use Rattle.pm_simplify.specs.Items.{item_of}
use Rattle.pm_simplify.specs.KnownBorder.{is_noted, AreOnBorder}
use Rattle.pm_simplify.specs.Walks.{IsRightBeside}
use Rattle.pm_simplify.proofs.PairLaws.{barred_due}
use Rattle.pm_simplify.proofs.Weighing.{entry_of_item}

-- An item that isn't in the queue has no key.
pub no_key : (k : Option Key) → is_some k ≡ false → k ≡ None
no_key None is = refl
no_key (Some key) is = absurd (false≢true (sym is))

module _
    (s : Shrinking) (sound : IsSurface s.surface) (flags : List Bool)
    (on : AreOnBorder s.surface flags) (e : ℕ) (st : Stands (net_at s) e)
    (start : is_noted flags ((net_at s).from e) ≡ true)
    (onto : is_noted flags (to (net_at s) e) ≡ true) (shared : twin_of (net_at s) e ≡ None
    → ⊥) where
  abbrev n : Net
  n = net_at s

  -- Both ends of the side are on the border, and two faces hold them.
  barred : IsBarred n (n.from e) (to n e)
  barred =
      let first = (on (n.from e) start).border (corner_live s.surface sound e st) in
      let ahead = corner_live s.surface sound (next e) (stands_next n e st) in
      let second = (on (to n e) onto).border ahead in
      elim (option_cases (twin_of n e)) [
        | inl none ↦ absurd (shared none)
        | inr (g, is) ↦
            let w = twin-is n e g is in
            record {
              first = first;
              second = second;
              forth = (e, record { stands = st; begins = refl; ends = refl });
              back = (g, record { stands = w.stands; begins = w.begins; ends = w.ends });
            }
      ]

  module _ (p : Policy) (m : Mesh) (log : List Collapse) (after : IsAfter m log s) where
    rest_due : IsDue p m log e None
    rest_due =
        let a : ℕ = n.from e in
        let b : ℕ = to n e in
        elim (cases_lt a b) [
          | inl low ↦
              barred_due p m log s after e a b
              (inl (record { stands = st; begins = refl; ends = refl })) low barred
          | inr high ↦
              let differ = st.first in
              barred_due p m log s after e b a
              (inr (record { stands = st; begins = refl; ends = refl }))
              (omega (arith, high, differ)) barred
        ]

    pub rest_right :
        (queue : Entries) → key_at queue (item_of (net_at s) e) ≡ None →
        (twin_of (net_at s) (prev e) ≡ None → ⊥) → IsRightBeside p m log queue e
    rest_right queue empty never =
        let once = (run-proper m after.start log after.run).once in
        let there : Stands (net_after m log) e =
        subst (λ (t : Surface). Stands (net_of_surface t) e) after.surface st in
        let none : key_at queue (item_of (net_after m log) e) ≡ None =
        subst (λ (t : Surface). key_at queue (item_of (net_of_surface t) e) ≡ None) after.surface
        empty in
        record {
          out = subst (IsEntry p m log (item_of (net_after m log) e)) (sym none)
              (entry_of_item p m log once e there None rest_due);
          back = λ is. absurd
              (never (subst (λ (t : Surface). twin_of (net_of_surface t) (prev e) ≡ None)
              (sym after.surface) is));
        }
