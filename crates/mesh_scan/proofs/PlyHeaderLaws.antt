-- The header of a PLY file declares no more vertices than there may be.
use Rattle.std.proofs.Common.{◌≡◌, ℕ, ◌+◌, ◌≤◌, ◌⊎◌, Bool, true, false, not, ◌||◌, nat_lt}
use Rattle.std.proofs.Common.{List, [], ◌∷◌, ◌++◌, Option, Some, None, refl, sym, ◌∙◌}
use Rattle.std.proofs.Common.{subst, codes, arith, Result, Ok, Err, inl, inr, if◌then◌else◌}
use Rattle.std.proofs.lemmas.Bool.{ltb-false}
use Rattle.pm_io.specs.Digits.{unsigned_of}
use Rattle.ply_read.specs.declared.declared.Encoding.{Encoding}
use Rattle.ply_read.specs.declared.declared.Kind.{Kind}
use Rattle.ply_read.specs.declared.declared.Kind.TheVariants as kinds
use Rattle.ply_read.specs.declared.declared.Property.{Property}
use Rattle.ply_read.specs.declared.declared.Declared.{Declared}
use Rattle.ply_read.specs.declared.declared.Declared.TheVariants as lines_of
use Rattle.ply_read.specs.declared.opening.Opening.{Opening}
use Rattle.ply_read.specs.Header.{SoFar, at_start, with_format, format_line, with_element}
use Rattle.ply_read.specs.Header.{element_of, counted, element_line, with_opening, property_of}
use Rattle.ply_read.specs.Header.{list_line, single_line, property_line, after_words, Header}
use Rattle.ply_read.specs.Header.{with_encoding, ended, from_line, from_first, header_of}
use Rattle.ply_read.specs.Header.{list_of, single}
use Rattle.ply_read.specs.Lines.{Line, lines, words, is_word, one, two, three, is_only}
use Rattle.ply_read.specs.Names.{encoding_of, type_of, role_of, kind_of}
use Rattle.ply_read.specs.Opening.{with_property, is_complete}
use Rattle.ply_read.specs.Results.{◌>>=◌}

-- What comes next was answered, so it came.

pub bind_ok : {A B E : Type 0} (r : Result A E) (next : A → Result B E) (b : B)
    → (r >>= next) ≡ Ok b → (a : A) × (r ≡ Ok a) × (next a ≡ Ok b)
bind_ok (Ok a) next b is = (a, refl, is)
bind_ok (Err e) next b is = absurd (cc)

pub if_ok : {A E : Type 0} (test : Bool) (r : Result A E) (e : E) (a : A)
    → (if test then r else Err e) ≡ Ok a → r ≡ Ok a
if_ok true r e a is = is
if_ok false r e a is = absurd (cc)

pub else_ok : {A E : Type 0} (test : Bool) (r : Result A E) (e : E) (a : A)
    → (if test then Err e else r) ≡ Ok a → (test ≡ false) × (r ≡ Ok a)
else_ok true r e a is = absurd (cc)
else_ok false r e a is = (refl, is)

pub else_is : {A E : Type 0} (test : Bool) (e : E) (a b : A)
    → (if test then Err e else Ok a) ≡ Ok b → (test ≡ false) × (a ≡ b)
else_is true e a b is = absurd (cc)
else_is false e a b is = let same : a ≡ b = cc in (refl, same)

pub either_ok : {A E : Type 0} (test : Bool) (r q : Result A E) (a : A)
    → (if test then r else q) ≡ Ok a → (r ≡ Ok a) ⊎ (q ≡ Ok a)
either_ok true r q a is = inl is
either_ok false r q a is = inr is

-- How many vertices so many elements of a kind are, and those of all that is declared.
abbrev pub vertices_of : Kind → ℕ → ℕ
vertices_of kinds.Vertex n = n
vertices_of kinds.Face n = 0
vertices_of kinds.Other n = 0

abbrev pub vertex_total : List Declared → ℕ
vertex_total [] = 0
vertex_total (lines_of.Element el ∷ ds) = vertices_of el.kind el.count + vertex_total ds
vertex_total (lines_of.Property p ∷ ds) = vertex_total ds

total_more : (ds : List Declared) (d : Declared)
    → vertex_total (ds ++ d ∷ []) ≡ vertex_total ds + vertex_total (d ∷ [])
total_more [] d = omega arith
total_more (lines_of.Element el ∷ ds) d = omega (arith, total_more ds d)
total_more (lines_of.Property p ∷ ds) d = total_more ds d

-- The lines so far declare one element of vertices, or none.
record IsFit (s : SoFar) : Type 0 where
  none : s.vertices ≡ false → vertex_total s.declared ≡ 0
  few : vertex_total s.declared ≤ 1048576

-- A line that declares none.
same_total : (s : SoFar) (ds : List Declared) (b : Bool) (e : Option Encoding) (o : Opening)
    (f : Bool) → IsFit s → vertex_total ds ≡ vertex_total s.declared → b ≡ s.vertices
    → IsFit (record { encoding = e; declared = ds; opening = o; vertices = b; faces = f })
same_total s ds b e o f fit total flag = record {
  none = λ no. total ∙ fit.none (sym flag ∙ no);
  few = omega (arith, total, fit.few);
}

format_fits : (line : ℕ) (s t : SoFar) (old new : Option Encoding) → IsFit s
    → with_format line s old new ≡ Ok t → IsFit t
format_fits line s t None (Some e) fit is =
    let after : SoFar = record s { encoding = Some e } in
    let same : after ≡ t = cc in
    subst IsFit same (same_total s s.declared s.vertices (Some e) s.opening s.faces fit refl refl)
format_fits line s t None None fit is = absurd (cc)
format_fits line s t (Some old) new fit is = absurd (cc)

format_line_fits : (line : ℕ) (s t : SoFar) (w : Option (List ℕ × List ℕ)) → IsFit s
    → format_line line s w ≡ Ok t → IsFit t
format_line_fits line s t (Some w) fit is =
    format_fits line s t s.encoding (encoding_of w.0) fit (if_ok _ _ _ t is)
format_line_fits line s t None fit is = absurd (cc)

element_fits : (line : ℕ) (s t : SoFar) (kind : Kind) (count : ℕ) → IsFit s
    → element_of line s kind count ≡ Ok t → IsFit t
unfolding element_of
element_fits line s t kinds.Vertex count fit is =
    let (first, later) = else_ok s.vertices _ _ t is in
    let (room, made) = else_ok (nat_lt 1048576 count) _ _ t later in
    let after : SoFar = with_element (record s { vertices = true }) kinds.Vertex count in
    let same : after ≡ t = cc in
    let d : Declared = lines_of.Element (record { kind = kinds.Vertex; count = count }) in
    let total : vertex_total after.declared ≡ count =
    omega (arith, total_more s.declared d, fit.none first) in
    subst IsFit same (record {
      none = λ no. absurd (let e : true ≡ false = no in cc);
      few = omega (arith, total, ltb-false 1048576 count room);
    })
element_fits line s t kinds.Face count fit is =
    let (first, made) = else_ok (s.faces || not s.vertices) _ _ t is in
    let after : SoFar = with_element (record s { faces = true }) kinds.Face count in
    let same : after ≡ t = cc in
    let d : Declared = lines_of.Element (record { kind = kinds.Face; count = count }) in
    subst IsFit same (same_total s (s.declared ++ d ∷ []) s.vertices s.encoding after.opening true
    fit (omega (arith, total_more s.declared d)) refl)
element_fits line s t kinds.Other count fit is =
    let after : SoFar = with_element s kinds.Other count in
    let same : after ≡ t = cc in
    let d : Declared = lines_of.Element (record { kind = kinds.Other; count = count }) in
    subst IsFit same (same_total s (s.declared ++ d ∷ []) s.vertices s.encoding after.opening
    s.faces fit (omega (arith, total_more s.declared d)) refl)

counted_fits : (line : ℕ) (s t : SoFar) (name : List ℕ) (n : Option ℕ) → IsFit s
    → counted line s name n ≡ Ok t → IsFit t
counted_fits line s t name (Some count) fit is =
    element_fits line s t (kind_of name) count fit is
counted_fits line s t name None fit is = absurd (cc)

element_line_fits : (line : ℕ) (s t : SoFar) (w : Option (List ℕ × List ℕ)) → IsFit s
    → element_line line s w ≡ Ok t → IsFit t
element_line_fits line s t (Some w) fit is =
    let (complete, later) = else_ok (not (is_complete s.opening)) _ _ t is in
    let (mesh, made) = else_ok (is_word (codes "tristrips") w.0) _ _ t later in
    counted_fits line s t w.0 (unsigned_of 4294967295 w.1) fit made
element_line_fits line s t None fit is = absurd (cc)

opening_fits : (line : ℕ) (s t : SoFar) (p : Property) (o : Option Opening) → IsFit s
    → with_opening line s p o ≡ Ok t → IsFit t
opening_fits line s t p (Some o) fit is =
    let all = s.declared ++ lines_of.Property p ∷ [] in
    let after : SoFar = record s { opening = o; declared = all } in
    let same : after ≡ t = cc in
    subst IsFit same (same_total s (s.declared ++ lines_of.Property p ∷ []) s.vertices s.encoding o
    s.faces fit (omega (arith, total_more s.declared (lines_of.Property p))) refl)
opening_fits line s t p None fit is = absurd (cc)

property_fits : (line : ℕ) (s t : SoFar) (p : Option Property) → IsFit s
    → property_of line s p ≡ Ok t → IsFit t
property_fits line s t (Some p) fit is = opening_fits line s t p (with_property s.opening p) fit is
property_fits line s t None fit is = absurd (cc)

list_fits : (line : ℕ) (s t : SoFar) (w : Option (List ℕ × List ℕ × List ℕ)) → IsFit s
    → list_line line s w ≡ Ok t → IsFit t
list_fits line s t (Some w) fit is =
    property_fits line s t (list_of (role_of w.2) (type_of w.0) (type_of w.1)) fit is
list_fits line s t None fit is = absurd (cc)

single_fits : (line : ℕ) (s t : SoFar) (item : List ℕ) (w : Option (List ℕ)) → IsFit s
    → single_line line s item w ≡ Ok t → IsFit t
single_fits line s t item (Some name) fit is =
    property_fits line s t (single (role_of name) (type_of item)) fit is
single_fits line s t item None fit is = absurd (cc)

property_line_fits : (line : ℕ) (s t : SoFar) (ws : List (List ℕ)) → IsFit s
    → property_line line s ws ≡ Ok t → IsFit t
unfolding property_line
property_line_fits line s t [] fit is = absurd (cc)
property_line_fits line s t (first ∷ more) fit is =
    elim (either_ok (is_word (codes "list") first) _ _ t is) [
      | inl list ↦ list_fits line s t (three more) fit list
      | inr other ↦ single_fits line s t first (one more) fit other
    ]

words_fit : (line : ℕ) (s t : SoFar) (ws : List (List ℕ)) → IsFit s
    → after_words line s ws ≡ Ok t → IsFit t
unfolding after_words
words_fit line s t [] fit is = let e : s ≡ t = cc in subst IsFit e fit
words_fit line s t (word ∷ more) fit is =
    elim (either_ok (is_word (codes "comment") word || is_word (codes "obj_info") word) _ _ t is) [
      | inl remark ↦ let e : s ≡ t = cc in subst IsFit e fit
      | inr later ↦ elim (either_ok (is_word (codes "format") word) _ _ t later) [
        | inl format ↦ format_line_fits line s t (two more) fit format
        | inr later ↦ elim (either_ok (is_word (codes "element") word) _ _ t later) [
          | inl element ↦ element_line_fits line s t (two more) fit element
          | inr later ↦ property_line_fits line s t more fit
              (if_ok (is_word (codes "property") word) _ _ t later)
        ]
      ]
    ]

-- The header's end.
encoding_fits : (line : ℕ) (s : SoFar) (body : List ℕ) (e : Option Encoding) (h : Header) → IsFit s
    → with_encoding line s body e ≡ Ok h → vertex_total h.declared ≤ 1048576
encoding_fits line s body (Some e) h fit is =
    let all : Header = record { encoding = e; declared = s.declared; body = body } in
    let same : all ≡ h = cc in
    subst (λ (x : Header). vertex_total x.declared ≤ 1048576) same fit.few
encoding_fits line s body None h fit is = absurd (cc)

ended_fits : (line : ℕ) (s : SoFar) (body : List ℕ) (h : Header) → IsFit s
    → ended line s body ≡ Ok h → vertex_total h.declared ≤ 1048576
unfolding ended
ended_fits line s body h fit is =
    let (complete, later) = else_ok (not (is_complete s.opening)) _ _ h is in
    let (some, made) = else_ok (not s.vertices) _ _ h later in
    encoding_fits line s body s.encoding h fit made

lines_fit : (line : ℕ) (s : SoFar) (ls : List Line) (h : Header) → IsFit s
    → from_line line s ls ≡ Ok h → vertex_total h.declared ≤ 1048576
lines_fit line s [] h fit is = absurd (cc)
lines_fit line s (l ∷ more) h fit is =
    elim (either_ok (is_only (codes "end_header") (one (words l.text))) _ _ h is) [
      | inl end ↦ ended_fits line s l.after h fit end
      | inr later ↦
          let (t, taken, rest) = bind_ok (after_words line s (words l.text)) _ h later in
          lines_fit (line + 1) t more h (words_fit line s t (words l.text) fit taken) rest
    ]

first_fits : (ls : List Line) (h : Header) → from_first ls ≡ Ok h
    → vertex_total h.declared ≤ 1048576
first_fits [] h is = absurd (cc)
first_fits (l ∷ more) h is =
    lines_fit 2 at_start more h (record { none = λ no. refl; few = omega arith })
    (if_ok _ _ _ h is)

pub header_fits : (bytes : List ℕ) (h : Header) → header_of bytes ≡ Ok h
    → vertex_total h.declared ≤ 1048576
unfolding header_of
header_fits bytes h is = first_fits (lines bytes) h is
