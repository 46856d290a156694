-- The two views of a grid.
use Rattle.std.specs.Prelude.{ℕ, ◌*◌, [], ◌∷◌, pos, neg_ℤ}
use Rattle.pm_view.specs.declared.measure.Measure.TheVariants as measures
use Rattle.pm_view.specs.Views.{View}

-- From above the middle of the grid, without planes.
abbrev pub middle_view : ℕ → View
middle_view n = record {
  measure = measures.Error;
  eye = record { x = pos (50 * n); y = pos (50 * n); z = pos 2000 };
  focal = 1000;
  tol = 40;
  sil = 40;
  planes = [];
}

-- From above its first point, in front of the plane x = 50 n, which halves its columns.
abbrev pub corner_view : ℕ → View
corner_view n = record {
  measure = measures.Error;
  eye = record { x = pos 0; y = pos 0; z = pos 500 };
  focal = 1000;
  tol = 20;
  sil = 20;
  planes = record { a = pos 1; b = pos 0; c = pos 0; d = neg_ℤ (pos (50 * n)) } ∷ [];
}
