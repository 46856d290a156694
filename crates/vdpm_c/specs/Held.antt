-- What a slot owns.
use Rattle.std.specs.Prelude.{Option, Some, None}
use base.Fml.{Fml, ftrue}
use mir.Syntax.{Ty}
use denote.RawPtr.{Ptr}
use denote.RattleType.{RattleType}
use Rattle.std_alloc.specs.Box.Ownership.{box_owns}

-- A box stands at the place where a value is, and nothing where none is.
abbrev pub held : (Ty → Ptr → Fml) → (R : RattleType) → Ptr → Option R.Denot → Fml
held holds R p None = ftrue
held holds R p (Some x) = box_owns holds R p x
