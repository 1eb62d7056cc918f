-- Bytes, and numbers as unsigned LEB128 (WebAssembly core specification, "Integers": u32). Each form stands at the
-- front of some bytes, and the rest stands behind it.
use Rattle.std.specs.Prelude.{◌≡◌, ℕ, zero, suc, ◌+◌, ◌-◌, ◌*◌, ◌/◌, ◌%◌, ◌^◌, ◌<◌, ◌≤◌, ◌⊎◌, List, [], ◌∷◌, Result, Ok, Err, nat_lt, if◌then◌else◌}
use Rattle.warg_values.specs.Reading.{◌>>=◌}
use Rattle.comp_format.specs.Fault.{Fault, Form}

-- what a form is: the bytes begin with it, and the rest stands behind it
abbrev pub FormOf : Type 0 → Type 1
FormOf X = X → List ℕ → List ℕ → Type 0

-- this byte
abbrev pub Byte : FormOf ℕ
Byte b bytes rest = bytes ≡ b ∷ rest

-- one form, and behind it another
abbrev pub Then : (List ℕ → List ℕ → Type 0) → (List ℕ → List ℕ → Type 0) → List ℕ → List ℕ → Type 0
Then First Second bytes rest = (after : List ℕ) × First bytes after × Second after rest

-- LEB128 in at most so many bytes: seven bits a byte, the lowest first. A byte from 128 on says that more follow.
-- The bytes that follow may stand for 0, so a number has padded spellings.
abbrev pub Leb : ℕ → FormOf ℕ
Leb zero n bytes rest = ⊥
Leb (suc most) n [] rest = ⊥
Leb (suc most) n (b ∷ bytes) rest =
    ((b < 128) × (n ≡ b) × (bytes ≡ rest)) ⊎ ((128 ≤ b) × (high : ℕ) × (n + 128 ≡ b + 128 * high) × Leb most high bytes rest)

-- a number below 2 ^ 32, in at most five bytes
pub record Number (n : ℕ) (bytes rest : List ℕ) : Type 0 where
  pub form : Leb 5 n bytes rest
  pub fits : n < 2 ^ 32

-- Signed LEB128 of a number from 0 on: as above, but that the last byte is below 64, since its seventh bit is the sign.
abbrev pub SignedLeb : ℕ → FormOf ℕ
SignedLeb zero n bytes rest = ⊥
SignedLeb (suc most) n [] rest = ⊥
SignedLeb (suc most) n (b ∷ bytes) rest =
    ((b < 64) × (n ≡ b) × (bytes ≡ rest)) ⊎ ((128 ≤ b) × (high : ℕ) × (n + 128 ≡ b + 128 * high) × SignedLeb most high bytes rest)

-- a type's index as a value type: signed LEB128 of 33 bits, from 0 on (Component Model, Binary.md, "valtype")
pub record SignedIndex (n : ℕ) (bytes rest : List ℕ) : Type 0 where
  pub form : SignedLeb 5 n bytes rest
  pub fits : n < 2 ^ 32

-- reading
unfoldable pub leb_at : ℕ → List ℕ → Result (ℕ × List ℕ) Fault
leb_at zero bytes = Err Form
leb_at (suc most) [] = Err Form
leb_at (suc most) (b ∷ bytes) = if nat_lt b 128 then Ok (b, bytes) else (leb_at most bytes >>= λ high. Ok (b - 128 + 128 * high.0, high.1))

unfoldable pub number_at : List ℕ → Result (ℕ × List ℕ) Fault
number_at bytes = leb_at 5 bytes >>= λ n. if nat_lt n.0 (2 ^ 32) then Ok n else Err Form

unfoldable pub signed_leb_at : ℕ → List ℕ → Result (ℕ × List ℕ) Fault
signed_leb_at zero bytes = Err Form
signed_leb_at (suc most) [] = Err Form
signed_leb_at (suc most) (b ∷ bytes) =
    if nat_lt b 64 then Ok (b, bytes) else if nat_lt b 128 then Err Form else (signed_leb_at most bytes >>= λ high. Ok (b - 128 + 128 * high.0, high.1))

unfoldable pub signed_index_at : List ℕ → Result (ℕ × List ℕ) Fault
signed_index_at bytes = signed_leb_at 5 bytes >>= λ n. if nat_lt n.0 (2 ^ 32) then Ok n else Err Form

-- writing: the shortest spelling
unfoldable pub leb_text : ℕ → ℕ → List ℕ
leb_text zero n = []
leb_text (suc most) n = if nat_lt n 128 then n ∷ [] else (128 + n % 128) ∷ leb_text most (n / 128)

unfoldable pub number_text : ℕ → List ℕ
number_text n = leb_text 5 n

unfoldable pub signed_leb_text : ℕ → ℕ → List ℕ
signed_leb_text zero n = []
signed_leb_text (suc most) n = if nat_lt n 64 then n ∷ [] else (128 + n % 128) ∷ signed_leb_text most (n / 128)

unfoldable pub signed_index_text : ℕ → List ℕ
signed_index_text n = signed_leb_text 5 n
