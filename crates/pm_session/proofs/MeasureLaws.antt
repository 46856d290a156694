-- By which number of a node the views of a script judge, and that its tools have it.
use Rattle.std.proofs.Common.{◌≡◌, ℕ, ◌<◌, true, List, [], ◌∷◌, Option, Some, None, IfSome}
use Rattle.std.proofs.Common.{slice_index_or, sym, ap}
use Rattle.std.specs.Option.{is_some}
use Rattle.pm_forest.specs.Forest.{Hierarchy, node_count}
use Rattle.pm_io.specs.Digits.{unsigned_of}
use Rattle.pm_deviation.specs.Deviations.{Measures, AreMeasuresOf, AreDeviationsOf, has_deviations}
use Rattle.pm_deviation.specs.Deviations.{Deviations, deviations_in, deviation_of}
use Rattle.pm_view.specs.declared.measure.Measure.{Measure}
use Rattle.pm_view.specs.declared.measure.Measure.TheVariants as measures
use Rattle.pm_view.specs.declared.fields.ViewKind.{ViewKind}
use Rattle.pm_view.specs.Views.{View}
use Rattle.pm_view.specs.Fields.{spaced_fields, eye_of, planes_of, first_sil, view_in, view_of}
use Rattle.pm_session.specs.declared.grammar.Grammar.{Grammar}
use Rattle.pm_session.specs.declared.grammar.Grammar.TheVariants as grammars
use Rattle.pm_session.specs.Script.{has_measure}
use Rattle.pm_session.specs.Session.{HasItsMeasures}
use Rattle.pm_session.proofs.OptionLaws.{came, mapped}

by_error : (kind : ViewKind) (fs : List (List ℕ)) (view : View) → view_in kind fs ≡ Some view
    → view.measure ≡ measures.Error
unfolding view_in
by_error kind (x ∷ y ∷ z ∷ focal ∷ tol ∷ rest) view e =
    let a = came _ (eye_of x y z) view e in
    let b = came _ (unsigned_of 65535 focal) view a.to in
    let c = came _ (unsigned_of 65535 tol) view b.to in
    let s = came _ (first_sil kind c.from rest) view c.to in
    let m = mapped _ (planes_of 6 s.from.1) view s.to in
    sym (ap (λ (v : View). v.measure) m.to)
by_error kind [] view e = absurd cc
by_error kind (x ∷ []) view e = absurd cc
by_error kind (x ∷ y ∷ []) view e = absurd cc
by_error kind (x ∷ y ∷ z ∷ []) view e = absurd cc
by_error kind (x ∷ y ∷ z ∷ focal ∷ []) view e = absurd cc

-- A view that is read judges by errors.
pub read_by_error : (kind : ViewKind) (text : List ℕ) (view : View) → view_of kind text ≡ Some view
    → view.measure ≡ measures.Error
read_by_error kind text view e = by_error kind (spaced_fields text) view e

-- The tools of a script have what its views judge by.
pub has_enough : (grammar : Grammar) (tools : Measures) (measure : Measure)
    → has_measure grammar measure ≡ true → HasItsMeasures grammar tools
    → measure ≡ measures.Deviation → has_deviations tools ≡ true
has_enough grammar tools measures.Error has its is = absurd (cc is)
has_enough grammars.View tools measures.Deviation has its is = absurd (cc has)
has_enough grammars.Live tools measures.Deviation has its is = its

pub deviation_is : (h : Hierarchy) (m : Measures) (v : ℕ) → AreMeasuresOf h m
    → has_deviations m ≡ true → v < node_count h
    → slice_index_or (deviations_in m.deviations) v 0 ≡ deviation_of h v
deviation_is h m v are some l = go m.deviations some are.deviations
  where
    go : (ds : Option Deviations) → is_some ds ≡ true → IfSome ds (AreDeviationsOf h)
        → slice_index_or (deviations_in ds) v 0 ≡ deviation_of h v
    go None none each = absurd (cc none)
    go (Some ds) there each = each.each v l
