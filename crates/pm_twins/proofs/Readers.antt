-- What an entry of the table means.
use Rattle.std.proofs.Common.{◌≡◌, ℕ, ◌<◌, Option, Some, None, length, sym, ◌∙◌, arith}
use Rattle.std.specs.Option.{MatchOption, option_map}
use Rattle.pm_base.specs.declared.ids.Side.{Side}
use Rattle.pm_base.specs.Sides.{Net, HasNoTwin, IsTwin}
use Rattle.pm_base.proofs.TwinLaws.{twin-is, twin-none}
use Rattle.pm_twins.specs.Table.{Table, twin_at, IsTableOf}

pub entry_means : (m : Net) (n e : ℕ) (t : Table) (r : Option Side) → IsTableOf m n t
    → e < length t.twins → option_map (λ s. s.0) r ≡ twin_at t e
    → MatchOption r (HasNoTwin m e) (λ s. IsTwin m e s.0)
entry_means m n e t None table l is =
    twin-none m e (sym (table.twins.each e (omega (arith, table.twins.sides))) ∙ sym is)
entry_means m n e t (Some s) table l is =
    twin-is m e s.0 (sym (table.twins.each e (omega (arith, table.twins.sides))) ∙ sym is)
