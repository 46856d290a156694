-- The order of keys.
use Rattle.std.specs.Prelude.{Bool, ◌||◌, ◌&&◌, nat_lt, nat_eq}
use Rattle.pm_queue.specs.declared.key.Key.{Key}

-- key k comes before key l: by cost, then by a, then by b
abbrev pub is_before : Key → Key → Bool
is_before k l =
    nat_lt k.cost l.cost || (nat_eq k.cost l.cost &&
    (nat_lt k.a l.a || (nat_eq k.a l.a && nat_lt k.b l.b)))
