-- Canonical definitions as bytes (Component Model, Binary.md, "Canonical Definitions").
use Rattle.std.specs.Prelude.{ℕ, ◌<◌, List, [], ◌∷◌, ◌++◌, Ok, Err, nat_lt, ◌==◌, if◌then◌else◌}
use Rattle.warg_values.specs.Reading.{◌>>=◌}
use Rattle.comp_format.specs.declared.types.Canon.{Canon}
use Rattle.comp_format.specs.declared.types.Canon.TheVariants as canon
use Rattle.comp_format.specs.declared.types.CanonOption.{CanonOption}
use Rattle.comp_format.specs.declared.types.CanonOption.TheVariants as option
use Rattle.comp_format.specs.Fault.{Form, NotCarried}
use Rattle.comp_format.specs.Numbers.{FormOf, Byte, Then, Number, number_at, number_text}
use Rattle.comp_format.specs.Vectors.{ReaderOf, Vector, vector_at, byte_at, mark_at, vector_text}

abbrev pub OptionForm : FormOf CanonOption
OptionForm (option.Encoding code) bytes rest = (code < 3) × Byte code bytes rest
OptionForm (option.Memory i) bytes rest = Then (Byte 3) (Number i) bytes rest
OptionForm (option.Realloc i) bytes rest = Then (Byte 4) (Number i) bytes rest
OptionForm (option.PostReturn i) bytes rest = Then (Byte 5) (Number i) bytes rest

abbrev pub CanonForm : FormOf Canon
CanonForm (canon.Lift f options ty) = Then (Byte 0) (Then (Byte 0) (Then (Number f) (Then (Vector OptionForm options) (Number ty))))
CanonForm (canon.Lower f options) = Then (Byte 1) (Then (Byte 0) (Then (Number f) (Vector OptionForm options)))
CanonForm (canon.ResourceNew ty) = Then (Byte 2) (Number ty)
CanonForm (canon.ResourceDrop ty) = Then (Byte 3) (Number ty)
CanonForm (canon.ResourceRep ty) = Then (Byte 4) (Number ty)

-- reading
unfoldable pub option_at : ReaderOf CanonOption
option_at bytes = byte_at bytes >>= λ b.
    if nat_lt b.0 3 then Ok (option.Encoding b.0, b.1)
    else if b.0 == 3 then (number_at b.1 >>= λ i. Ok (option.Memory i.0, i.1))
    else if b.0 == 4 then (number_at b.1 >>= λ i. Ok (option.Realloc i.0, i.1))
    else if b.0 == 5 then (number_at b.1 >>= λ i. Ok (option.PostReturn i.0, i.1))
    else if nat_lt b.0 8 then Err NotCarried
    else Err Form

unfoldable pub lift_at : ReaderOf Canon
lift_at bytes = mark_at 0 bytes >>= λ after. number_at after >>= λ f. vector_at option_at f.1 >>= λ options. number_at options.1 >>= λ ty. Ok (canon.Lift f.0 options.0 ty.0, ty.1)

unfoldable pub lower_at : ReaderOf Canon
lower_at bytes = mark_at 0 bytes >>= λ after. number_at after >>= λ f. vector_at option_at f.1 >>= λ options. Ok (canon.Lower f.0 options.0, options.1)

unfoldable pub canon_at : ReaderOf Canon
canon_at bytes = byte_at bytes >>= λ b.
    if b.0 == 0 then lift_at b.1
    else if b.0 == 1 then lower_at b.1
    else if b.0 == 2 then (number_at b.1 >>= λ ty. Ok (canon.ResourceNew ty.0, ty.1))
    else if b.0 == 3 then (number_at b.1 >>= λ ty. Ok (canon.ResourceDrop ty.0, ty.1))
    else if b.0 == 4 then (number_at b.1 >>= λ ty. Ok (canon.ResourceRep ty.0, ty.1))
    else Err NotCarried

-- writing
abbrev pub option_text : CanonOption → List ℕ
option_text (option.Encoding code) = code ∷ []
option_text (option.Memory i) = 3 ∷ number_text i
option_text (option.Realloc i) = 4 ∷ number_text i
option_text (option.PostReturn i) = 5 ∷ number_text i

abbrev pub canon_text : Canon → List ℕ
canon_text (canon.Lift f options ty) = 0 ∷ 0 ∷ (number_text f ++ (vector_text option_text options ++ number_text ty))
canon_text (canon.Lower f options) = 1 ∷ 0 ∷ (number_text f ++ vector_text option_text options)
canon_text (canon.ResourceNew ty) = 2 ∷ number_text ty
canon_text (canon.ResourceDrop ty) = 3 ∷ number_text ty
canon_text (canon.ResourceRep ty) = 4 ∷ number_text ty
