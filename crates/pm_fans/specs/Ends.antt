-- The directed sides of a mesh by their two ends, and which of them stand once.
use Rattle.std.specs.Prelude.{◌≡◌, ◌≢◌, ℕ, ◌+◌, ◌*◌, ◌<◌, ◌⊎◌, Option, None, Some}
use Rattle.std.specs.Ordering.{nat_cmp}
use Rattle.std.specs.BTreeMap.{BTreeMap, get}
use Rattle.pm_base.specs.Sides.{Net, to}
use Rattle.pm_fans.specs.declared.glue.TheConstants.{SEVERAL, SHIFT}

-- A side's two ends as one number.
abbrev pub ends_key : ℕ → ℕ → ℕ
ends_key p q = p * SHIFT + q

abbrev pub ends_key_at : Net → ℕ → ℕ
ends_key_at m e = ends_key (m.from e) (to m e)

-- Of the first n sides this one alone has the key.
pub record IsAloneWithKey (m : Net) (n k v : ℕ) : Type 0 where
  pub in_range : v < n
  pub has : ends_key_at m v ≡ k
  pub alone : (e : ℕ) → e < n → ends_key_at m e ≡ k → e ≡ v

-- Two of the first n sides have the key, which is marked by a number that no side has.
pub record AreSeveral (m : Net) (n k v : ℕ) : Type 0 where
  pub mark : v ≡ SEVERAL
  pub one : ℕ
  pub other : ℕ
  pub one_in : one < n
  pub other_in : other < n
  pub differ : one ≢ other
  pub one_has : ends_key_at m one ≡ k
  pub other_has : ends_key_at m other ≡ k

abbrev pub IsNoted : Net → ℕ → ℕ → Option ℕ → Type 0
IsNoted m n k None = (e : ℕ) → e < n → ends_key_at m e ≢ k
IsNoted m n k (Some v) = IsAloneWithKey m n k v ⊎ AreSeveral m n k v

-- The map says of each key whether none of the first n sides has it, one alone, or several.
abbrev pub AreNoted : Net → ℕ → BTreeMap ℕ ℕ → Type 0
AreNoted m n map = (k : ℕ) → IsNoted m n k (get nat_cmp map k)
