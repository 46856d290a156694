-- Where an option comes from.
use Rattle.std.proofs.Common.{◌≡◌, Option, Some, None, refl}
use Rattle.std.specs.Option.{option_map, option_and_then}

pub record Came {A B : Type 0} (f : A → Option B) (o : Option A) (y : B) : Type 0 where
  pub from : A
  pub is : o ≡ Some from
  pub to : f from ≡ Some y

pub came : {A B : Type 0} (f : A → Option B) (o : Option A) (y : B) → option_and_then f o ≡ Some y
    → Came f o y
came f None y is = absurd cc
came f (Some x) y is = record { from = x; is = refl; to = is }

pub record Mapped {A B : Type 0} (f : A → B) (o : Option A) (y : B) : Type 0 where
  pub from : A
  pub is : o ≡ Some from
  pub to : f from ≡ y

pub mapped : {A B : Type 0} (f : A → B) (o : Option A) (y : B) → option_map f o ≡ Some y
    → Mapped f o y
mapped f None y is = absurd cc
mapped f (Some x) y is = record { from = x; is = refl; to = cc }
