-- What the forms are made of: vectors, names, flags in front of values, and lists under labels (WebAssembly core
-- specification, "Vectors" and "Names").
use Rattle.std.specs.Prelude.{◌≡◌, ℕ, zero, suc, ◌<◌, List, [], ◌∷◌, ◌++◌, length, take, drop, map, Option, Some, None, Result, Ok, Err, nat_lt, ◌==◌, if◌then◌else◌}
use Rattle.std.specs.List.{flat_map, list_any, IsDistinct}
use Rattle.std.specs.Str.{IsUtf8, is_utf8, bytes_eq}
use Rattle.warg_values.specs.Reading.{◌>>=◌}
use Rattle.comp_format.specs.Fault.{Fault, Form, NotCarried}
use Rattle.comp_format.specs.Numbers.{FormOf, Byte, Then, Number, number_at, number_text}

-- a reader: what it reads, and the bytes behind it
abbrev pub ReaderOf : Type 0 → Type 0
ReaderOf X = List ℕ → Result (X × List ℕ) Fault

-- these values, one behind the other
abbrev pub Many : {X : Type 0} → FormOf X → FormOf (List X)
Many One [] bytes rest = bytes ≡ rest
Many One (x ∷ xs) bytes rest = (after : List ℕ) × One x bytes after × Many One xs after rest

-- how many there are, and the values
abbrev pub Vector : {X : Type 0} → FormOf X → FormOf (List X)
Vector One xs bytes rest = (after : List ℕ) × Number (length xs) bytes after × Many One xs after rest

-- a text that is not empty: its length in bytes, and the bytes
pub record Name (text bytes rest : List ℕ) : Type 0 where
  pub after : List ℕ
  pub count : Number (length text) bytes after
  pub is_there : after ≡ text ++ rest
  pub is_text : IsUtf8 text
  pub not_empty : 0 < length text

-- a text that may be empty: its length in bytes, and the bytes
pub record AnyName (text bytes rest : List ℕ) : Type 0 where
  pub after : List ℕ
  pub count : Number (length text) bytes after
  pub is_there : after ≡ text ++ rest
  pub is_text : IsUtf8 text

-- a flag, and the value where there is one
abbrev pub Optional : {X : Type 0} → FormOf X → FormOf (Option X)
Optional One None = Byte 0
Optional One (Some x) = Then (Byte 1) (One x)

-- a vector of values under labels that differ: each a label, and what stands behind it
abbrev pub Labelled : {X : Type 0} → (X → List ℕ) → FormOf X → FormOf (List X)
Labelled label Behind xs bytes rest = IsDistinct bytes_eq (map label xs) × Vector (λ x. Then (Name (label x)) (Behind x)) xs bytes rest

-- reading
unfoldable pub many_at : {X : Type 0} → ReaderOf X → ℕ → ReaderOf (List X)
many_at one zero bytes = Ok ([], bytes)
many_at one (suc count) bytes = one bytes >>= λ x. many_at one count x.1 >>= λ xs. Ok (x.0 ∷ xs.0, xs.1)

unfoldable pub vector_at : {X : Type 0} → ReaderOf X → ReaderOf (List X)
vector_at one bytes = number_at bytes >>= λ count. many_at one count.0 count.1

-- so many bytes
unfoldable pub front_at : ℕ → ReaderOf (List ℕ)
front_at count bytes = if nat_lt (length bytes) count then Err Form else Ok (take count bytes, drop count bytes)

unfoldable pub name_at : ReaderOf (List ℕ)
name_at bytes =
    number_at bytes >>= λ count. front_at count.0 count.1 >>= λ text. if count.0 == 0 then Err Form else if is_utf8 text.0 then Ok text else Err Form

unfoldable pub any_name_at : ReaderOf (List ℕ)
any_name_at bytes = number_at bytes >>= λ count. front_at count.0 count.1 >>= λ text. if is_utf8 text.0 then Ok text else Err Form

-- the byte at the front
abbrev pub byte_at : ReaderOf ℕ
byte_at [] = Err Form
byte_at (b ∷ rest) = Ok (b, rest)

-- this byte alone
unfoldable pub mark_at : ℕ → List ℕ → Result (List ℕ) Fault
mark_at mark bytes = byte_at bytes >>= λ b. if b.0 == mark then Ok b.1 else Err Form

-- this byte alone, where others stand for forms that are not carried
unfoldable pub carried_at : ℕ → List ℕ → Result (List ℕ) Fault
carried_at mark bytes = byte_at bytes >>= λ b. if b.0 == mark then Ok b.1 else Err NotCarried

-- what a byte stands for, or else this fault
abbrev pub known_or : {X : Type 0} → Fault → Option X → List ℕ → Result (X × List ℕ) Fault
known_or fault None rest = Err fault
known_or fault (Some x) rest = Ok (x, rest)

unfoldable pub optional_at : {X : Type 0} → ReaderOf X → ReaderOf (Option X)
optional_at one bytes = byte_at bytes >>= λ b.
    if b.0 == 0 then Ok (None, b.1)
    else if b.0 == 1 then (one b.1 >>= λ x. Ok (Some x.0, x.1))
    else Err Form

-- so many values under labels that differ from those seen and from one another
unfoldable pub labelled_at : {X : Type 0} → (List ℕ → ReaderOf X) → List (List ℕ) → ℕ → ReaderOf (List X)
labelled_at behind seen zero bytes = Ok ([], bytes)
labelled_at behind seen (suc count) bytes = name_at bytes >>= λ label.
    if list_any (bytes_eq label.0) seen then Err Form
    else (behind label.0 label.1 >>= λ x. labelled_at behind (seen ++ label.0 ∷ []) count x.1 >>= λ xs. Ok (x.0 ∷ xs.0, xs.1))

unfoldable pub labelled_vector_at : {X : Type 0} → (List ℕ → ReaderOf X) → ReaderOf (List X)
labelled_vector_at behind bytes = number_at bytes >>= λ count. labelled_at behind [] count.0 count.1

-- a value under its label
unfoldable pub under_label : {X : Type 0} → ReaderOf X → List ℕ → ReaderOf (List ℕ × X)
under_label one label bytes = one bytes >>= λ x. Ok ((label, x.0), x.1)

-- a label alone
unfoldable pub label_alone : List ℕ → ReaderOf (List ℕ)
label_alone label bytes = Ok (label, bytes)

-- writing
abbrev pub vector_text : {X : Type 0} → (X → List ℕ) → List X → List ℕ
vector_text one xs = number_text (length xs) ++ flat_map one xs

abbrev pub name_text : List ℕ → List ℕ
name_text text = number_text (length text) ++ text

abbrev pub optional_text : {X : Type 0} → (X → List ℕ) → Option X → List ℕ
optional_text one None = 0 ∷ []
optional_text one (Some x) = 1 ∷ one x
