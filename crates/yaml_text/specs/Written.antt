-- What is written as YAML, and the text that it is written as (YAML 1.2.2, sections 7.3, 8.1 and 8.2).
use Rattle.std.specs.Prelude.{◌≡◌, ℕ, ◌+◌, ◌^◌, ◌<◌, List, [], ◌∷◌, ◌++◌, nat_le, Bool, true, false, ◌==◌, ◌&&◌, ◌||◌, if◌then◌else◌, ℤ, pos, negsuc, codes}
use Rattle.std.specs.Char.{is_ascii_alphanumeric}
use Rattle.std.specs.List.{list_all}
use Rattle.std.specs.Fmt.{signed_decimal}
use Rattle.std.specs.Str.{IsUtf8}
use Rattle.yaml_scan.specs.Bytes.{line_feed, space, dash, digit_zero, digit_nine, colon, upper_a, upper_z, underscore, lower_a, lower_z}
use Rattle.yaml_small.specs.declared.event.Style.TheVariants.{Plain}
use Rattle.yaml_small.specs.Trees.{Scalar, Tree, Leaf, Seq, Map, Trees, none, more, Pairs, no_pairs, pair, missing}
use Rattle.yaml_text.specs.Texts.{indentation, quoted, quoted_style, text_at, text_style}

-- A value: a scalar, a list, a map with texts as keys, or a variant with a name. A character is a letter or digit of
-- ASCII, which stands as it is. A unit variant has nothing, an empty variant a tuple of no items.
mutual
  pub data Written : Type 0 where
    number : ℤ → Written
    boolean : Bool → Written
    null : Written
    character : ℕ → Written
    text : List ℕ → Written
    list : Elements → Written
    map : Members → Written
    unit_variant : List ℕ → Written
    empty_variant : List ℕ → Written
    variant : List ℕ → Written → Written

  pub data Elements : Type 0 where
    no_elements : Elements
    element : Written → Elements → Elements

  pub data Members : Type 0 where
    no_members : Members
    member : List ℕ → Written → Members → Members

abbrev pub elements_of : List Written → Elements
elements_of [] = no_elements
elements_of (w ∷ ws) = element w (elements_of ws)

abbrev pub members_of : List (List ℕ × Written) → Members
members_of [] = no_members
members_of (p ∷ ps) = member p.0 p.1 (members_of ps)

abbrev pub boolean_text : Bool → List ℕ
boolean_text true = codes "true"
boolean_text false = codes "false"

abbrev pub has_no_elements : Elements → Bool
has_no_elements no_elements = true
has_no_elements (element w ws) = false

abbrev pub has_no_members : Members → Bool
has_no_members no_members = true
has_no_members (member key w ms) = false

-- a line feed and a level's indentation
abbrev pub new_line : ℕ → List ℕ
new_line level = line_feed ∷ indentation level

-- The text of a value at a level. Behind a list's dash and a space, behind a key's colon and behind the colon of
-- a variant's name the value stands on a line of its own, one level deeper. Behind it a new line of the list's or
-- map's level begins.
abbrev mutual
  pub written : ℕ → Written → List ℕ
  written level (number n) = signed_decimal n
  written level (boolean b) = boolean_text b
  written level null = codes "~"
  written level (character c) = c ∷ []
  written level (text t) = text_at level t
  written level (list ws) = if has_no_elements ws then codes "[]" else elements_text level ws
  written level (map ms) = if has_no_members ms then codes "{}" else members_text level ms
  written level (unit_variant name) = name ++ codes ": ~"
  written level (empty_variant name) = name ++ codes ": []"
  written level (variant name w) = name ++ (colon ∷ new_line (level + 1)) ++ written (level + 1) w

  pub elements_text : ℕ → Elements → List ℕ
  elements_text level no_elements = []
  elements_text level (element w ws) =
      (dash ∷ space ∷ new_line (level + 1)) ++ written (level + 1) w ++ new_line level ++ elements_text level ws

  pub members_text : ℕ → Members → List ℕ
  members_text level no_members = []
  members_text level (member key w ms) =
      quoted key ++ (colon ∷ new_line (level + 1)) ++ written (level + 1) w ++ new_line level ++ members_text level ms

-- the document's tree
abbrev pub plain_scalar : List ℕ → Scalar
plain_scalar t = record { text = t; style = Plain }

abbrev pub single : List ℕ → Tree → Tree
single name t = Map (pair (plain_scalar name) t no_pairs)

abbrev mutual
  pub tree_of : Written → Tree
  tree_of (number n) = Leaf (plain_scalar (signed_decimal n))
  tree_of (boolean b) = Leaf (plain_scalar (boolean_text b))
  tree_of null = missing
  tree_of (character c) = Leaf (plain_scalar (c ∷ []))
  tree_of (text t) = Leaf (record { text = t; style = text_style t })
  tree_of (list ws) = Seq (trees_of ws)
  tree_of (map ms) = Map (pairs_of ms)
  tree_of (unit_variant name) = single name missing
  tree_of (empty_variant name) = single name (Seq none)
  tree_of (variant name w) = single name (tree_of w)

  pub trees_of : Elements → Trees
  trees_of no_elements = none
  trees_of (element w ws) = more (tree_of w) (trees_of ws)

  pub pairs_of : Members → Pairs
  pairs_of no_members = no_pairs
  pairs_of (member key w ms) = pair (record { text = key; style = quoted_style key }) (tree_of w) (pairs_of ms)

-- What reads back: numbers of 64 bits, letters and digits of ASCII, texts of UTF-8, and names of ASCII letters, digits
-- and _, a letter first.
abbrev pub magnitude : ℤ → ℕ
magnitude (pos n) = n
magnitude (negsuc n) = n + 1

abbrev pub is_letter : ℕ → Bool
is_letter c = (nat_le upper_a c && nat_le c upper_z) || (nat_le lower_a c && nat_le c lower_z)

abbrev pub is_name_byte : ℕ → Bool
is_name_byte c = is_letter c || (nat_le digit_zero c && nat_le c digit_nine) || c == underscore

abbrev pub is_name : List ℕ → Bool
is_name [] = false
is_name (c ∷ cs) = is_letter c && list_all is_name_byte cs

abbrev mutual
  pub ReadsBack : Written → Type 0
  ReadsBack (number n) = magnitude n < 2 ^ 64
  ReadsBack (boolean b) = Unit {0}
  ReadsBack null = Unit {0}
  ReadsBack (character c) = is_ascii_alphanumeric c ≡ true
  ReadsBack (text t) = IsUtf8 t
  ReadsBack (list ws) = ElementsReadBack ws
  ReadsBack (map ms) = MembersReadBack ms
  ReadsBack (unit_variant name) = is_name name ≡ true
  ReadsBack (empty_variant name) = is_name name ≡ true
  ReadsBack (variant name w) = (is_name name ≡ true) × ReadsBack w

  pub ElementsReadBack : Elements → Type 0
  ElementsReadBack no_elements = Unit {0}
  ElementsReadBack (element w ws) = ReadsBack w × ElementsReadBack ws

  pub MembersReadBack : Members → Type 0
  MembersReadBack no_members = Unit {0}
  MembersReadBack (member key w ms) = IsUtf8 key × ReadsBack w × MembersReadBack ms
