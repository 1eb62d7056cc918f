-- Cuts of texts: behind a front, at a byte, before an end.
use Rattle.std.specs.Prelude.{ℕ, ◌==◌, not, Bool, if◌then◌else◌, List, [], ◌∷◌, length, Option, Some, None, option_map, option_and_then}
use Rattle.std.specs.List.{list_all}
use Rattle.std.specs.Option.{option_or}

-- whether a list is empty
abbrev pub is_empty : List ℕ → Bool
is_empty text = length text == 0

-- whether no byte of a text is c
abbrev pub lacks : ℕ → List ℕ → Bool
lacks c text = list_all (λ b. not (b == c)) text

-- what stands behind a front, where the text begins with it
unfoldable pub behind : List ℕ → List ℕ → Option (List ℕ)
behind [] text = Some text
behind (c ∷ front) [] = None
behind (c ∷ front) (b ∷ text) = if b == c then behind front text else None

-- the text before the first c, and the text after it
unfoldable pub cut_first : ℕ → List ℕ → Option (List ℕ × List ℕ)
cut_first c [] = None
cut_first c (b ∷ text) = if b == c then Some ([], text) else option_map (λ cut. (b ∷ cut.0, cut.1)) (cut_first c text)

-- the text before the last c, and the text after it
unfoldable pub cut_last : ℕ → List ℕ → Option (List ℕ × List ℕ)
cut_last c [] = None
cut_last c (b ∷ text) = option_or (option_map (λ cut. (b ∷ cut.0, cut.1)) (cut_last c text)) (if b == c then Some ([], text) else None)

-- a text that is cut, where nothing stands after the cut
abbrev pub whole_before : List ℕ × List ℕ → Option (List ℕ)
whole_before cut = if is_empty cut.1 then Some cut.0 else None

-- the text before c, where c is its last byte
unfoldable pub closed_by : ℕ → List ℕ → Option (List ℕ)
closed_by c text = option_and_then whole_before (cut_last c text)

-- the text before c, where c is its last byte, and stands nowhere else in it
unfoldable pub ended_by : ℕ → List ℕ → Option (List ℕ)
ended_by c text = option_and_then whole_before (cut_first c text)
