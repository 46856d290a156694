-- Laws of what is passed over, line by line.
use Rattle.std.proofs.Common.{◌≡◌, ℕ, ◌+◌, ◌<◌, ◌≤◌, sym, ap, ◌∙◌, List, length, drop, get_or}
use Rattle.std.proofs.Math.ListN.{drop_of_length-le}
use Rattle.ply_read.specs.declared.declared.Declared.{Declared}
use Rattle.ply_read.specs.declared.declared.Declared.TheVariants as lines_of
use Rattle.ply_read.specs.declared.declared.Element.{Element}
use Rattle.ply_read.specs.declared.declared.Property.{Property}
use Rattle.ply_read.specs.declared.losses.Losses.{Losses}
use Rattle.ply_read.specs.Losses.{with_property, with_elements, losses_from}
use Rattle.ply_read.proofs.DeclaredLaws.{here}

module _ (ds : List Declared) (i : ℕ) (l whole : Losses) (el : Element)
    (so : losses_from l el (drop i ds) ≡ whole) where
  pub losses_element : (d : Declared) (next : Element) → i < length ds → d ≡ get_or ds i d
      → d ≡ lines_of.Element next
      → losses_from (with_elements l next.kind next.count) next (drop (i + 1) ds) ≡ whole
  losses_element d next below is same =
      ap (λ (more : List Declared). losses_from l el more)
      (sym (here ds i d (lines_of.Element next) below is same)) ∙ so

  pub losses_property : (d : Declared) (p : Property) → i < length ds → d ≡ get_or ds i d
      → d ≡ lines_of.Property p
      → losses_from (with_property l el p.role) el (drop (i + 1) ds) ≡ whole
  losses_property d p below is same =
      ap (λ (more : List Declared). losses_from l el more)
      (sym (here ds i d (lines_of.Property p) below is same)) ∙ so

  pub losses_end : length ds ≤ i → l ≡ whole
  losses_end all =
      ap (λ (more : List Declared). losses_from l el more) (sym (drop_of_length-le ds all)) ∙ so
