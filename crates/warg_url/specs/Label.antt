-- The label of a registry's URL, which holds nothing but ASCII letters, digits, `-`, `.` and `_`.
use Rattle.std.specs.Prelude.{ℕ, ◌+◌, ◌/◌, ◌%◌, ◌==◌, ◌&&◌, ◌||◌, nat_le, nat_lt, if◌then◌else◌, Bool, List, [], ◌∷◌, ◌++◌, reverse, codes, decimal, Option, Some, None, option_map, unwrap_or}
use Rattle.std.specs.List.{flat_map}
use Rattle.url.specs.Parts.{Parts, nonempty_host}
use Rattle.url.specs.Host.{host_text}

-- an ASCII letter, a digit or a hyphen
abbrev pub is_plain : ℕ → Bool
is_plain b = (nat_le 48 b && nat_le b 57) || (nat_le 65 b && nat_le b 90) || (nat_le 97 b && nat_le b 122) || b == 45

-- an upper-case hex digit
abbrev pub hex_digit : ℕ → ℕ
hex_digit n = if nat_lt n 10 then 48 + n else 55 + n

-- a byte as a dot and two upper-case hex digits
abbrev pub escaped : ℕ → List ℕ
escaped b = 46 ∷ hex_digit (b / 16) ∷ hex_digit (b % 16) ∷ []

-- a byte of a host: letters, digits, `-`, `.` and `_` stand for themselves
abbrev pub host_byte : ℕ → List ℕ
host_byte b = if is_plain b || b == 46 || b == 95 then b ∷ [] else escaped b

-- a byte of an IPv6 address behind its first bracket: a dot stands for a colon, and nothing for the second bracket
abbrev pub address_byte : ℕ → List ℕ
address_byte b = if b == 58 then 46 ∷ [] else (if b == 93 then [] else host_byte b)

-- a byte of a path: `_` stands for a slash, a dot for `%`, and letters, digits and `-` for themselves
abbrev pub path_byte : ℕ → List ℕ
path_byte b = if b == 47 then 95 ∷ [] else (if b == 37 then 46 ∷ [] else (if is_plain b then b ∷ [] else escaped b))

-- the label of a host's text, which is in brackets where it is an IPv6 address
abbrev pub host_label : List ℕ → List ℕ
host_label [] = []
host_label (b ∷ text) = if b == 91 then codes "ipv6_" ++ flat_map address_byte text else flat_map host_byte (b ∷ text)

-- the port, where it is not the scheme's own
abbrev pub port_label : Option ℕ → List ℕ
port_label None = []
port_label (Some port) = codes "-" ++ decimal port

-- what follows the slashes at the start
unfoldable pub after_slashes : List ℕ → List ℕ
after_slashes [] = []
after_slashes (b ∷ path) = if b == 47 then after_slashes path else b ∷ path

-- what stands before the slashes at the end
abbrev pub before_slashes : List ℕ → List ℕ
before_slashes path = reverse (after_slashes (reverse path))

-- a path without the slashes at its start and at its end
abbrev pub without_slashes : List ℕ → List ℕ
without_slashes path = before_slashes (after_slashes path)

-- the label of what is left of a path
abbrev pub inner_label : List ℕ → List ℕ
inner_label [] = []
inner_label (b ∷ path) = codes "_" ++ flat_map path_byte (b ∷ path)

-- the label of a URL
abbrev pub label : Parts → List ℕ
label url =
    host_label (unwrap_or (option_map host_text (nonempty_host url)) []) ++ port_label url.port
    ++ inner_label (without_slashes url.path)
