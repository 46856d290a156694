-- What is passed over of a text: of which kind it is, and how often.
use Rattle.std.specs.Prelude.{ℕ, ◌+◌, ◌==◌, Bool, not, List, [], ◌∷◌, ◌&&◌, ◌||◌, nat_eq, nat_le}
use Rattle.std.specs.Prelude.{Option, Some, None, codes, if◌then◌else◌}
use Rattle.std.specs.Cmp.Lexicographic.{pointwise}
use Rattle.obj_scan.specs.declared.passed.Kind.{Kind}
use Rattle.obj_scan.specs.declared.passed.Kind.TheVariants as kinds
use Rattle.obj_scan.specs.declared.passed.PassedOver.{PassedOver}

-- The field is this word.
abbrev pub is_word : List ℕ → List ℕ → Bool
is_word word field = pointwise nat_eq field word

-- A to Z or a to z.
abbrev pub is_latin : ℕ → Bool
is_latin b = nat_le 65 b && nat_le b 90 || nat_le 97 b && nat_le b 122

-- What is left of a field without its bytes that aren't letters.
abbrev pub letters : List ℕ → List ℕ
letters [] = []
letters (b ∷ bs) = if is_latin b then b ∷ letters bs else letters bs

-- The words of lines that most programs write.
unfoldable pub is_common : List ℕ → Bool
is_common w =
    is_word (codes "v") w || is_word (codes "vt") w || is_word (codes "vn") w
    || is_word (codes "f") w

-- A field isn't such a word, but what is left of it without other bytes is.
unfoldable pub is_garbled : List ℕ → Bool
is_garbled w = not (is_common w) && is_common (letters w)

unfoldable pub is_group : List ℕ → Bool
is_group w =
    is_word (codes "g") w || is_word (codes "o") w || is_word (codes "s") w
    || is_word (codes "mg") w

-- Materials, and other attributes of how a face is shown.
unfoldable pub is_material : List ℕ → Bool
is_material w =
    is_word (codes "usemtl") w || is_word (codes "mtllib") w || is_word (codes "usemap") w
    || is_word (codes "maplib") w || is_word (codes "bevel") w || is_word (codes "c_interp") w
    || is_word (codes "d_interp") w || is_word (codes "lod") w || is_word (codes "shadow_obj") w
    || is_word (codes "trace_obj") w || is_word (codes "ctech") w || is_word (codes "stech") w

-- Lines and points.
unfoldable pub is_element : List ℕ → Bool
is_element w = is_word (codes "l") w || is_word (codes "p") w

-- Curves and surfaces, and what goes with them.
unfoldable pub is_curve : List ℕ → Bool
is_curve w =
    is_word (codes "curv") w || is_word (codes "curv2") w || is_word (codes "surf") w
    || is_word (codes "vp") w || is_word (codes "cstype") w || is_word (codes "deg") w
    || is_word (codes "bmat") w || is_word (codes "step") w || is_word (codes "parm") w
    || is_word (codes "trim") w || is_word (codes "hole") w || is_word (codes "scrv") w
    || is_word (codes "sp") w || is_word (codes "end") w || is_word (codes "con") w

-- Other files.
unfoldable pub is_call : List ℕ → Bool
is_call w = is_word (codes "call") w || is_word (codes "csh") w

-- What a line is that is neither a vertex nor a face, by its first word.
unfoldable pub kind_of : List ℕ → Kind
kind_of w =
    if is_word (codes "vt") w then kinds.Texture
    else if is_word (codes "vn") w then kinds.Normal
    else if is_group w then kinds.Group
    else if is_material w then kinds.Material
    else if is_element w then kinds.Element
    else if is_curve w then kinds.Curve
    else if is_call w then kinds.Call
    else kinds.Other

-- With one more of a kind, in the line with this number.
abbrev pub counted : PassedOver → ℕ → Kind → PassedOver
counted p line kinds.Weight = record p { weights = p.weights + 1 }
counted p line kinds.Colour = record p { colours = p.colours + 1 }
counted p line kinds.Texture = record p { textures = p.textures + 1 }
counted p line kinds.Normal = record p { normals = p.normals + 1 }
counted p line kinds.Group = record p { groups = p.groups + 1 }
counted p line kinds.Material = record p { materials = p.materials + 1 }
counted p line kinds.Element = record p { elements = p.elements + 1 }
counted p line kinds.Curve = record p { curves = p.curves + 1 }
counted p line kinds.Call = record p { calls = p.calls + 1 }
counted p line kinds.Other = record p {
  others = p.others + 1;
  first_other = if p.others == 0 then line else p.first_other;
}

-- With what is passed over of one line more, if anything is.
abbrev pub passed_after : PassedOver → ℕ → Option Kind → PassedOver
passed_after p line None = p
passed_after p line (Some kind) = counted p line kind

-- How many were counted.
unfoldable pub passed_count : PassedOver → ℕ
passed_count p = p.weights + p.colours + p.textures + p.normals + p.groups + p.materials
    + p.elements + p.curves + p.calls + p.others

-- Before the first line.
abbrev pub none_passed : PassedOver
none_passed = record {
  weights = 0;
  colours = 0;
  textures = 0;
  normals = 0;
  groups = 0;
  materials = 0;
  elements = 0;
  curves = 0;
  calls = 0;
  others = 0;
  first_other = 0;
  attributes = 0;
  properties = 0;
  other_elements = 0;
}
