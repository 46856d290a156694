-- The bytes of texts that definitions speak of, by name (ASCII).
use Rattle.std.specs.Prelude.{ℕ}

abbrev pub tab : ℕ
tab = 9

-- It ends a line.
abbrev pub line_feed : ℕ
line_feed = 10

-- It may stand before the LF that ends a line.
abbrev pub carriage_return : ℕ
carriage_return = 13

abbrev pub space : ℕ
space = 32

-- It begins a comment.
abbrev pub hash_sign : ℕ
hash_sign = 35

abbrev pub plus_sign : ℕ
plus_sign = 43

abbrev pub minus_sign : ℕ
minus_sign = 45

-- It stands between the whole part of a number and its decimals.
abbrev pub decimal_point : ℕ
decimal_point = 46

-- It stands before the index of a texture or a normal.
abbrev pub slash : ℕ
slash = 47

abbrev pub digit_zero : ℕ
digit_zero = 48

abbrev pub digit_nine : ℕ
digit_nine = 57

abbrev pub capital_e : ℕ
capital_e = 69

-- It lets a line go on in the next one.
abbrev pub backslash : ℕ
backslash = 92

-- They stand before an exponent.
abbrev pub letter_e : ℕ
letter_e = 101

abbrev pub letter_f : ℕ
letter_f = 102

abbrev pub letter_v : ℕ
letter_v = 118
