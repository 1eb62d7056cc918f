-- Messages of protocol buffers (the encoding guide), each number in its shortest form.
use Rattle.std.specs.Prelude.{ℕ, zero, suc, ◌+◌, ◌*◌, ◌/◌, ◌%◌, ◌==◌, nat_lt, if◌then◌else◌, List, [], ◌∷◌, ◌++◌, length, Option, Some, None}
use Rattle.std.specs.List.{flat_map}

-- a number in groups of seven bits, the lowest first, in k bytes at most; a byte from 128 on is not the last
unfoldable pub varint_in : ℕ → ℕ → List ℕ
varint_in zero n = []
varint_in (suc k) n = if nat_lt n 128 then n ∷ [] else (128 + n % 128) ∷ varint_in k (n / 128)

-- a number of 64 bits, which ten groups hold
abbrev pub varint : ℕ → List ℕ
varint n = varint_in 10 n

-- bytes behind their length
abbrev pub counted : List ℕ → List ℕ
counted bytes = varint (length bytes) ++ bytes

-- the field of this number that holds bytes: a text or a message
abbrev pub field : ℕ → List ℕ → List ℕ
field number bytes = (8 * number + 2) ∷ counted bytes

-- that field once for each of the texts or messages
abbrev pub fields : ℕ → List (List ℕ) → List ℕ
fields number texts = flat_map (field number) texts

-- that field, where there is something for it
abbrev pub optional_field : ℕ → Option (List ℕ) → List ℕ
optional_field number None = []
optional_field number (Some bytes) = field number bytes

-- the field of this number that holds a number, left out where the number is 0
abbrev pub number_field : ℕ → ℕ → List ℕ
number_field number n = if n == 0 then [] else (8 * number) ∷ varint n
