-- A side is there where its number is.
use Rattle.std.proofs.Common.{◌≡◌, Option, Some, None, refl}
use Rattle.std.specs.Option.{option_map, is_none, is_some}
use Rattle.pm_base.specs.declared.ids.Side.{Side}

pub none_numbered : (r : Option Side) → is_none r ≡ is_none (option_map (λ s. s.0) r)
none_numbered None = refl
none_numbered (Some s) = refl

pub some_numbered : (r : Option Side) → is_some r ≡ is_some (option_map (λ s. s.0) r)
some_numbered None = refl
some_numbered (Some s) = refl
