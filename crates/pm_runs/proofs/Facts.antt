-- What the proofs of splits need of nets: twins as three facts, and what a vertex leads to.
use Rattle.std.proofs.Common.{◌≡◌, ℕ, Option, Some, inl, inr, refl, arith}
use Rattle.std.proofs.lemmas.Grind.{common_steps}
use Rattle.pm_base.specs.Sides.{Net, side_count, to, third, Stands, NoSideTwice, twin_of}
use Rattle.pm_base.specs.Fans.{IsPairAt}
use Rattle.pm_base.specs.Rounds.{NoMirrorAt}
use Rattle.pm_base.proofs.Search.{Decided, search_below}
use Rattle.pm_base.proofs.TwinLaws.{stands?, twin-is, twin-one}
use Rattle.pm_runs.specs.Splits.{IsSplit}

-- A twin, as three facts in a row.
abbrev pub RunsBack : Net → ℕ → ℕ → Type 0
RunsBack m e g = Stands m g × (m.from g ≡ to m e) × (to m g ≡ m.from e)

pub is_twin : (m : Net) (e g : ℕ) → twin_of m e ≡ Some g → RunsBack m e g
is_twin m e g is = let w = twin-is m e g is in (w.stands, w.begins, w.ends)

pub one_twin : (m : Net) → NoSideTwice m → (e g : ℕ) → RunsBack m e g → twin_of m e ≡ Some g
one_twin m once e g w = twin-one m once e g (record { stands = w.0; begins = w.1; ends = w.2 })

pub twin_beyond : {n : Net} {t u s : ℕ} {beyond : ℕ → Option ℕ} → IsSplit n t u s beyond → (e g : ℕ)
    → Stands n e → beyond e ≡ Some g → RunsBack n e g
twin_beyond h e g st is = let w = h.ends e g st is in (w.stands, w.begins, w.ends)

-- No two faces of the net have the same corners.
abbrev pub HasNoMirror : Net → Type 0
HasNoMirror m = (v : ℕ) → NoMirrorAt m v

-- In some face v is followed by x.
abbrev pub Leads : Net → ℕ → ℕ → Type 0
Leads m v x = (y : ℕ) × IsPairAt m v x y

-- A side from v to x is a pair at v.
abbrev pub pair_from : (m : Net) (v x e : ℕ) → Stands m e → m.from e ≡ v → to m e ≡ x
    → IsPairAt m v x (third m e)
pair_from m v x e there at one =
    record { side = e; stands = there; at = at; one = one; two = refl }

pub leads_by : (m : Net) (v x e : ℕ) → Stands m e → m.from e ≡ v → to m e ≡ x → Leads m v x
leads_by m v x e there at one = (third m e, pair_from m v x e there at one)

pub leads? : (m : Net) (v x : ℕ) → Decided (Leads m v x)
leads? m v x =
    elim (search_below (λ e. Stands m e × (m.from e ≡ v) × (to m e ≡ x)) (λ e.
    elim (stands? m e) [
      | inr never ↦ inr (λ h. never h.0)
      | inl t ↦ grind (arith, common_steps)
    ]) (side_count m)) [
      | inl (e, l, (t, a, b)) ↦
          inl (leads_by m v x e t a b)
      | inr none ↦ inr (λ h. none h.1.side h.1.stands.is_side (h.1.stands, h.1.at, h.1.one))
    ]

pub begins? : (m : Net) (v e : ℕ) → Decided (Stands m e × (m.from e ≡ v))
begins? m v e = grind (arith, common_steps, stands? m e)
