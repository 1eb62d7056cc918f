-- What a scalar's text stands for: the core schema's table, with octal, hexadecimal and decimal integers of 64
-- bits (YAML 1.2.2, section 10.3.2).
use Rattle.std.specs.Prelude.{ℕ, ◌-◌, ◌^◌, List, [], ◌∷◌, drop, length, Bool, true, false, nat_lt, nat_le, ◌==◌, ◌&&◌, ◌||◌, if◌then◌else◌, Option, Some, None, ℤ, pos, neg_ℤ, bytes_eq, codes}
use Rattle.std.specs.Option.{option_map}
use Rattle.std.specs.List.{prefix_len, list_all}
use Rattle.std.specs.Char.{is_digit}
use Rattle.std.specs.Str.Parse.{digits_value}
use Rattle.yaml_scan.specs.Bytes.{plus, dash, dot, digit_zero, digit_nine, upper_e, lower_e, lower_o, lower_x}
use Rattle.yaml_small.specs.declared.schema.Resolved.{Resolved}
use Rattle.yaml_small.specs.declared.schema.Resolved.TheVariants.{Integer, Boolean, Null, RealForm, Text}
use Rattle.yaml_small.specs.Places.{begins}

-- digits of a radix, one or more
abbrev pub is_numeral : ℕ → List ℕ → Bool
is_numeral radix [] = false
is_numeral radix (c ∷ cs) = list_all (λ d. is_digit d radix) (c ∷ cs)

-- the number that digits write, up to a limit
abbrev pub number : ℕ → ℕ → List ℕ → Option ℕ
number radix limit digits =
    if is_numeral radix digits && nat_le (digits_value radix digits) limit then Some (digits_value radix digits)
    else None

-- an optional sign and digits, in 64 signed bits
unfoldable pub signed : ℕ → List ℕ → Option ℤ
signed radix text =
    if begins dash text then option_map (λ n. neg_ℤ (pos n)) (number radix (2 ^ 63) (drop 1 text))
    else if begins plus text then option_map pos (number radix (2 ^ 63 - 1) (drop 1 text))
    else option_map pos (number radix (2 ^ 63 - 1) text)

-- behind 0x in hexadecimal, behind 0o in octal, and in decimal, where one more plus may stand in front
unfoldable pub integer : List ℕ → Option ℤ
integer text =
    if begins digit_zero text && begins lower_x (drop 1 text) then signed 16 (drop 2 text)
    else if begins digit_zero text && begins lower_o (drop 1 text) then signed 8 (drop 2 text)
    else if begins plus text then signed 10 (drop 1 text)
    else signed 10 text

abbrev pub without_sign : List ℕ → List ℕ
without_sign text = if begins dash text || begins plus text then drop 1 text else text

abbrev pub is_decimal : ℕ → Bool
is_decimal c = nat_le digit_zero c && nat_le c digit_nine

abbrev pub decimals : List ℕ → ℕ
decimals text = prefix_len is_decimal text

-- nothing, or an exponent: a letter e, an optional sign and digits
abbrev pub is_exponent : List ℕ → Bool
is_exponent [] = true
is_exponent (c ∷ cs) =
    (c == lower_e || c == upper_e)
    && (nat_lt 0 (length (without_sign cs)) && decimals (without_sign cs) == length (without_sign cs))

-- digits with at most one point, one digit or more, and an optional exponent
abbrev pub is_fraction : ℕ → List ℕ → Bool
is_fraction whole rest = (nat_lt 0 whole || nat_lt 0 (decimals rest)) && is_exponent (drop (decimals rest) rest)

unfoldable pub is_number : List ℕ → Bool
is_number text =
    if begins dot (drop (decimals text) text) then is_fraction (decimals text) (drop 1 (drop (decimals text) text))
    else nat_lt 0 (decimals text) && is_exponent (drop (decimals text) text)

abbrev pub is_infinity : List ℕ → Bool
is_infinity text = bytes_eq text (codes ".inf") || bytes_eq text (codes ".Inf") || bytes_eq text (codes ".INF")

abbrev pub is_no_number : List ℕ → Bool
is_no_number text = bytes_eq text (codes ".nan") || bytes_eq text (codes ".NaN") || bytes_eq text (codes ".NAN")

-- the form of a real number
abbrev pub is_real : List ℕ → Bool
is_real text = is_number (without_sign text) || is_infinity (without_sign text) || is_no_number text

-- what is no integer
abbrev pub resolved_text : List ℕ → Resolved
resolved_text text =
    if bytes_eq text (codes "~") || bytes_eq text (codes "null") then Null
    else if bytes_eq text (codes "true") then Boolean true
    else if bytes_eq text (codes "false") then Boolean false
    else if is_real text then RealForm
    else Text

abbrev pub resolved_of : Option ℤ → List ℕ → Resolved
resolved_of (Some n) text = Integer n
resolved_of None text = resolved_text text

-- what a text stands for
abbrev pub resolved : List ℕ → Resolved
resolved text = resolved_of (integer text) text
