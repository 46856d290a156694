-- What of the elements that a header declares is passed over, by the names of their properties.
use Rattle.std.specs.Prelude.{ℕ, ◌+◌, ◌==◌, min, List, [], ◌∷◌, if◌then◌else◌}
use Rattle.ply_read.specs.declared.declared.Role.{Role}
use Rattle.ply_read.specs.declared.declared.Role.TheVariants as roles
use Rattle.ply_read.specs.declared.declared.Kind.{Kind}
use Rattle.ply_read.specs.declared.declared.Kind.TheVariants as kinds
use Rattle.ply_read.specs.declared.declared.Element.{Element}
use Rattle.ply_read.specs.declared.declared.Declared.{Declared}
use Rattle.ply_read.specs.declared.declared.Declared.TheVariants as lines_of
use Rattle.ply_read.specs.declared.losses.Losses.{Losses}

abbrev pub none_lost : Losses
none_lost = record {
  normals = 0;
  colours = 0;
  textures = 0;
  face_textures = 0;
  properties = 0;
  elements = 0;
}

-- So many more, which are told up to the greatest number of 32 bits.
abbrev pub more : ℕ → ℕ → ℕ
more n by = min (n + by) 4294967295

-- With a property that so many vertices have. Those of a normal tell one normal a vertex; so it is
-- with colours and texture coordinates.
abbrev pub of_vertices : Losses → ℕ → Role → Losses
of_vertices l n roles.X = l
of_vertices l n roles.Y = l
of_vertices l n roles.Z = l
of_vertices l n roles.Normal = record l { normals = n }
of_vertices l n roles.Colour = record l { colours = n }
of_vertices l n roles.Texture = record l { textures = n }
of_vertices l n _ = record l { properties = more l.properties 1 }

-- With a property that so many faces have.
abbrev pub of_faces : Losses → ℕ → Role → Losses
of_faces l n roles.Corners = l
of_faces l n roles.Texture = record l { face_textures = n }
of_faces l n _ = record l { properties = more l.properties 1 }

abbrev pub of_kind : Losses → Kind → ℕ → Role → Losses
of_kind l kinds.Vertex n role = of_vertices l n role
of_kind l kinds.Face n role = of_faces l n role
of_kind l kinds.Other n role = l

-- With a property of these elements, if there are any.
abbrev pub with_property : Losses → Element → Role → Losses
with_property l el role = if el.count == 0 then l else of_kind l el.kind el.count role

-- With elements that are passed over, if they are.
abbrev pub with_elements : Losses → Kind → ℕ → Losses
with_elements l kinds.Other n = record l { elements = more l.elements n }
with_elements l _ n = l

-- With what is declared from here on, of which the first properties are those of these elements.
abbrev pub losses_from : Losses → Element → List Declared → Losses
losses_from l el [] = l
losses_from l el (lines_of.Element next ∷ ds) =
    losses_from (with_elements l next.kind next.count) next ds
losses_from l el (lines_of.Property p ∷ ds) = losses_from (with_property l el p.role) el ds

abbrev pub no_elements : Element
no_elements = record { kind = kinds.Other; count = 0 }

-- What of all that is declared is passed over.
abbrev pub losses_of : List Declared → Losses
losses_of ds = losses_from none_lost no_elements ds
