-- The letters of script lines, as bytes; `letter_v` is pm_io's.
use Rattle.std.specs.Prelude.{ℕ}

abbrev pub letter_b : ℕ
letter_b = 98

abbrev pub letter_c : ℕ
letter_c = 99

abbrev pub letter_d : ℕ
letter_d = 100

abbrev pub letter_g : ℕ
letter_g = 103

abbrev pub letter_k : ℕ
letter_k = 107

abbrev pub letter_l : ℕ
letter_l = 108

abbrev pub letter_m : ℕ
letter_m = 109

abbrev pub letter_p : ℕ
letter_p = 112

abbrev pub letter_q : ℕ
letter_q = 113

abbrev pub letter_s : ℕ
letter_s = 115

abbrev pub letter_t : ℕ
letter_t = 116

abbrev pub letter_w : ℕ
letter_w = 119
