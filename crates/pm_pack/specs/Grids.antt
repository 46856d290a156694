-- What steps along an axis leaves take, where they stand on a grid.
use Rattle.std.specs.Prelude.{ℕ, ◌+◌, ◌-◌, ◌*◌, ◌/◌, ◌%◌, ◌==◌, ◌&&◌, ◌||◌, not, nat_lt, min}
use Rattle.std.specs.Prelude.{Bool, if◌then◌else◌}
use Rattle.pm_pack.specs.declared.past.Node.{Node}
use Rattle.pm_pack.specs.declared.grid.Axis.{Axis}
use Rattle.pm_pack.specs.declared.grid.Grid.{Grid}
use Rattle.pm_pack.specs.Guesses.{ahead, moved_ahead}

-- The greatest number of 32 bits at most.
abbrev pub capped : ℕ → ℕ
capped n = min n 4294967295

-- How far two numbers are from each other.
abbrev pub apart : ℕ → ℕ → ℕ
apart a b = (a - b) + (b - a)

-- The place that a coordinate's word is: coordinates from -32,768 on are 0 to 65,535.
unfoldable pub place_of : ℕ → ℕ
place_of word = min ((word + 32768) % 4294967296) 65535

-- The word of a place.
unfoldable pub word_of : ℕ → ℕ
word_of place = (place + 4294934528) % 4294967296

-- An axis whose leaves take no steps.
abbrev pub axis : ℕ → ℕ → ℕ → ℕ → Axis
axis last step place input = record { last = last; step = step; place = place; input = input }

abbrev pub no_grid : Grid
no_grid = record { x = axis 0 0 0 0; y = axis 0 0 0 0; z = axis 0 0 0 0; input = 0 }

-- The step is that which two pairs of leaves took in turn, and none after one that took another.
unfoldable pub stepped : Axis → ℕ → ℕ → Axis
stepped a from to =
    if from == to then a else
    if apart from to == a.last then axis a.last a.last a.place a.input else
    if a.step == 0 then axis (apart from to) 0 a.place a.input else
    axis a.last 0 a.place a.input

-- How many of an axis' steps lead from a leaf to another are some.
abbrev pub moves : Axis → ℕ → ℕ → ℕ
moves a from to = if a.step == 0 || from == to then 0 else 1

-- How far the input words of two leaves are apart that are one step up from each other.
unfoldable pub input_stepped : Axis → ℕ → ℕ → ℕ → ℕ → Axis
input_stepped a from to first second =
    if a.step == 0 || from == to then a else
    axis a.last a.step a.place
    (if nat_lt from to then ahead first second else ahead second first)

-- A leaf stands here.
abbrev pub placed : Axis → ℕ → Axis
placed a place = axis a.last a.step place a.input

abbrev pub grid : Axis → Axis → Axis → ℕ → Grid
grid x y z input = record { x = x; y = y; z = z; input = input }

-- After the steps of a pair of leaves along each axis.
abbrev pub pair_stepped : Grid → Node → Node → Grid
pair_stepped g t u =
    grid (stepped g.x (place_of t.x) (place_of u.x)) (stepped g.y (place_of t.y) (place_of u.y))
    (stepped g.z (place_of t.z) (place_of u.z)) g.input

-- Along how many axes they moved.
abbrev pub pair_moves : Grid → Node → Node → ℕ
pair_moves g t u =
    moves g.x (place_of t.x) (place_of u.x) + moves g.y (place_of t.y) (place_of u.y)
    + moves g.z (place_of t.z) (place_of u.z)

-- After their input words.
abbrev pub pair_inputs : Grid → Node → Node → ℕ → ℕ → Grid
pair_inputs g t u first second =
    grid (input_stepped g.x (place_of t.x) (place_of u.x) first second)
    (input_stepped g.y (place_of t.y) (place_of u.y) first second)
    (input_stepped g.z (place_of t.z) (place_of u.z) first second) g.input

abbrev pub with_inputs : Grid → Node → Node → ℕ → ℕ → Grid
with_inputs g t u first second =
    if pair_moves g t u == 1 then pair_inputs g t u first second else g

-- After a pair of leaves with these input words.
unfoldable pub with_pair : Grid → Node → Node → ℕ → ℕ → Grid
with_pair g t u first second = with_inputs (pair_stepped g t u) t u first second

-- After a leaf with this input word.
unfoldable pub with_leaf : Grid → Node → ℕ → Grid
with_leaf g n input =
    grid (placed g.x (place_of n.x)) (placed g.y (place_of n.y)) (placed g.z (place_of n.z)) input

-- The place of the grid that is nearest to a place.
unfoldable pub snapped : Axis → ℕ → ℕ
snapped a place =
    capped
    (a.place % a.step
    + (capped (place + a.step / 2) - a.place % a.step
    - (capped (place + a.step / 2) - a.place % a.step) % a.step))

-- The guessed word of a leaf's coordinate: that of the grid where there is one.
unfoldable pub near : Axis → ℕ → ℕ → ℕ
near a width word =
    if width == 1 && not (a.step == 0) then word_of (snapped a (place_of word)) else word

-- The input word by the steps along an axis from the last leaf.
unfoldable pub input_along : Axis → ℕ → ℕ → ℕ
input_along a place input =
    if a.step == 0 then input else
    moved_ahead input (ahead (a.place / a.step) (place / a.step) * a.input % 4294967296)

unfoldable pub input_by : Grid → Node → ℕ
input_by g n =
    input_along g.z (place_of n.z)
    (input_along g.y (place_of n.y) (input_along g.x (place_of n.x) g.input))

-- Some axis has steps.
abbrev pub is_grid : Grid → Bool
is_grid g = not (g.x.step == 0) || not (g.y.step == 0) || not (g.z.step == 0)
