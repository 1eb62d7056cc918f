-- Texts that were written by hand, against what is written.
use Rattle.std.proofs.Common.{◌≡◌, [], ◌∷◌, pos, refl}
use Rattle.std.specs.Prelude.{codes}
use Rattle.std.specs.Str.{chars}
use lib.Utf8.{encode}
use Rattle.std.specs.Fmt.{digits}
use Rattle.yaml_text.specs.Texts.{is_double, quoted, is_block, block, text_at}
use Rattle.yaml_text.specs.Written.{number, text, list, map, unit_variant, empty_variant, variant, no_elements, element, no_members, member, written}

one_two_three : written 0 (list (element (number (pos 1)) (element (number (pos 2)) (element (number (pos 3)) no_elements))))
    ≡ codes "- \n  1\n- \n  2\n- \n  3\n"
unfolding digits
one_two_three = refl

nested : written 0 (list (element (list (element (number (pos 1)) no_elements)) no_elements)) ≡ codes "- \n  - \n   1\n  \n"
unfolding digits
nested = refl

fields : written 0 (map (member (codes "x") (number (pos 321)) (member (codes "y") (text (codes "Hello")) no_members)))
    ≡ codes "'x':\n  321\n'y':\n  'Hello'\n"
unfolding digits is_double quoted is_block text_at chars encode
fields = refl

doubled : written 0 (text (codes "Hello 'world")) ≡ codes "'Hello ''world'"
unfolding is_double quoted is_block text_at chars encode
doubled = refl

lines : written 0 (text (codes "First\nSecond")) ≡ codes "|-\n  First\n  Second"
unfolding is_double quoted is_block block text_at chars encode
lines = refl

feed : written 0 (text (codes "First\n")) ≡ codes "\"First\\n\""
unfolding is_double quoted is_block text_at chars encode
feed = refl

nothing : written 0 (map no_members) ≡ codes "{}"
nothing = refl

empty : written 0 (empty_variant (codes "B")) ≡ codes "B: []"
empty = refl

unit : written 0 (list (element (unit_variant (codes "A")) no_elements)) ≡ codes "- \n  A: ~\n"
unit = refl

several : written 0 (variant (codes "C") (list (element (number (pos 12)) (element (text (codes "a\nb")) no_elements))))
    ≡ codes "C:\n  - \n   12\n  - \n   |-\n    a\n    b\n  "
unfolding digits is_double quoted is_block block text_at chars encode
several = refl

-- U+0007, U+0085, U+2028, U+FEFF and a tab
escapes : written 0 (text (7 ∷ 194 ∷ 133 ∷ 226 ∷ 128 ∷ 168 ∷ 239 ∷ 187 ∷ 191 ∷ 9 ∷ [])) ≡ codes "\"\\x07\\x85\\u2028\\uFEFF\\t\""
unfolding is_double quoted is_block text_at chars encode
escapes = refl
