-- The carried documents (YAML 1.2.2, chapters 7 to 9, less what is named in the crate's documentation), as a relation
-- between a tree and two places: the tree's text begins at the first and ends at the second. Beside each relation
-- stands its production of YAML 1.2.2, of which it carries the forms that are said there.
use Rattle.std.specs.Prelude.{◌≡◌, ◌≤◌, ◌-◌, ℕ, List, [], ◌∷◌, take, drop, length, Bool, true, false, ◌==◌, ◌&&◌, ◌||◌, ◌⊎◌, not, if◌then◌else◌, nat_eq, Option, Some, None, Ok}
use Rattle.std.specs.List.{starts_with}
use Rattle.yaml_scan.specs.Bytes.{double_quote, percent, single_quote, comma, colon, left_bracket, right_bracket, left_brace, right_brace, spaces, whites}
use Rattle.yaml_scan.specs.Lines.{lines_of, ends}
use Rattle.yaml_scan.specs.Plain.{parts, plain_len}
use Rattle.yaml_scan.specs.Quoted.{SingleQuoted, DoubleQuoted}
use Rattle.yaml_small.specs.declared.event.Style.{Style}
use Rattle.yaml_small.specs.declared.event.Style.TheVariants as styles
use Rattle.yaml_small.specs.Trees.{Scalar, Tree, Leaf, Seq, Map, Trees, none, more, Pairs, no_pairs, pair, missing, depth}
use Rattle.yaml_small.specs.Places.{At, past, over, next_at, flow_next, is_end, begins, at_dashes, at_dots, is_dash, is_colon, at_dash, is_within, list_ends, map_ends}
use Rattle.yaml_small.specs.Scalars.{begins_at, block_at, is_plain, begins_block}

-- Nothing more stands on a's line, and b is the next content ([79] s-l-comments).
pub record LineEnd (a b : At) : Type 0 where
  pub ends : ends a.line ≡ true
  pub next : b ≡ next_at a.later

-- a scalar in quotes, of which this says what stands behind the opening one
abbrev pub IsQuoted : (List ℕ → List ℕ → List ℕ → Type 0) → ℕ → Style → Scalar → At → At → Type 0
IsQuoted Quoted quote style s a b =
    (rest : List ℕ) × (begins quote a.line ≡ true) × Quoted (drop 1 a.line) s.text rest × (s.style ≡ style)
    × (b ≡ past (length a.line - length rest) a)

-- a plain scalar, which goes on as far as none ends ([131] ns-plain)
abbrev pub IsPlain : Bool → Scalar → At → At → Type 0
IsPlain flow s a b =
    (begins_at flow a ≡ true)
    × (s ≡ record { text = take (plain_len flow false a.line) a.line; style = styles.Plain })
    × (b ≡ past (plain_len flow false a.line) a)

-- a scalar on one line ([120] c-single-quoted, [109] c-double-quoted, [131] ns-plain)
abbrev pub IsScalarToken : Bool → Scalar → At → At → Type 0
IsScalarToken flow s a b =
    IsQuoted SingleQuoted single_quote styles.SingleQuoted s a b
    ⊎ (IsQuoted DoubleQuoted double_quote styles.DoubleQuoted s a b ⊎ IsPlain flow s a b)

-- a block scalar ([170] c-l+literal, [174] c-l+folded)
abbrev pub IsBlock : Option ℕ → Scalar → At → At → Type 0
IsBlock parent s a b = (begins_block a.line ≡ true) × (block_at parent a ≡ Ok (record { scalar = s; end = b }))

-- a key of a block map with its colon ([193] ns-s-block-map-implicit-key)
abbrev pub IsKey : Scalar → At → At → Type 0
IsKey key a b =
    (m : At) × IsScalarToken false key a m × (is_colon (over m).line ≡ true) × (b ≡ past 1 (over m))

-- Flow lists and maps (section 7.4). Behind an entry comes a comma, with more entries or the end behind it, or the end
-- ([138] ns-s-flow-seq-entries, [141] ns-s-flow-map-entries).
abbrev pub Further : (At → At → Type 0) → Bool → ℕ → At → At → Type 0
Further Others is_last closer a b =
    ((begins comma a.line ≡ true) × Others (flow_next (past 1 a)) b)
    ⊎ ((begins comma a.line ≡ false) × (begins closer a.line ≡ true) × (is_last ≡ true) × (b ≡ past 1 a))

-- A value is missing before a comma or the closing brace ([106] e-node).
abbrev pub closes_value : List ℕ → Bool
closes_value line = begins comma line || begins right_brace line

-- The colon behind a key. After a quoted key it needs nothing behind it ([149] c-ns-flow-map-adjacent-value).
abbrev pub is_flow_colon : Bool → List ℕ → Bool
is_flow_colon quoted line = begins colon line && (quoted || parts true (drop 1 line))

-- what stands behind the colon ([147] c-ns-flow-map-separate-value, [149] c-ns-flow-map-adjacent-value)
abbrev pub BehindColon : (At → At → Type 0) → Tree → At → At → Type 0
BehindColon Node t a b =
    ((closes_value (flow_next a).line ≡ true) × (t ≡ missing) × (b ≡ a))
    ⊎ ((closes_value (flow_next a).line ≡ false) × Node (flow_next a) b)

-- the value of a key, with its colon or without ([144] ns-flow-map-implicit-entry)
abbrev pub FlowValue : (At → At → Type 0) → Bool → Tree → At → At → Type 0
FlowValue Node quoted t a b =
    ((is_flow_colon quoted (flow_next a).line ≡ true) × BehindColon Node t (past 1 (flow_next a)) b)
    ⊎ ((is_flow_colon quoted (flow_next a).line ≡ false) × (closes_value (flow_next a).line ≡ true) × (t ≡ missing)
    × (b ≡ a))

abbrev pub is_none : Trees → Bool
is_none none = true
is_none (more t ts) = false

abbrev pub is_no_pairs : Pairs → Bool
is_no_pairs no_pairs = true
is_no_pairs (pair key t ps) = false

abbrev pub is_quoted : Scalar → Bool
is_quoted s = not (is_plain s.style)

abbrev mutual
  -- a scalar on one line, or a list or map in brackets, in a flow or not ([158] ns-flow-content)
  pub Flow : Bool → Tree → At → At → Type 0
  Flow flow (Leaf s) a b = IsScalarToken flow s a b
  Flow flow (Seq ts) a b = (begins left_bracket a.line ≡ true) × FlowItems ts (flow_next (past 1 a)) b
  Flow flow (Map ps) a b = (begins left_brace a.line ≡ true) × FlowPairs ps (flow_next (past 1 a)) b

  -- a list's entries and its bracket ([137] c-flow-sequence)
  pub FlowItems : Trees → At → At → Type 0
  FlowItems none a b = (begins right_bracket a.line ≡ true) × (b ≡ past 1 a)
  FlowItems (more t ts) a b =
      (m : At) × (begins right_bracket a.line ≡ false) × Flow true t a m
      × Further (FlowItems ts) (is_none ts) right_bracket (flow_next m) b

  -- a map's entries and its brace ([140] c-flow-mapping)
  pub FlowPairs : Pairs → At → At → Type 0
  FlowPairs no_pairs a b = (begins right_brace a.line ≡ true) × (b ≡ past 1 a)
  FlowPairs (pair key t ps) a b =
      (m n : At) × (begins right_brace a.line ≡ false) × IsScalarToken true key a m
      × FlowValue (Flow true t) (is_quoted key) t m n
      × Further (FlowPairs ps) (is_no_pairs ps) right_brace (flow_next n) b

-- A node that may stand behind a mark on the mark's line: a scalar or a flow, with nothing more on its last line
-- ([197] s-l+flow-in-block), or a block scalar ([199] s-l+block-scalar).
abbrev pub Inline : Option ℕ → Tree → At → At → Type 0
Inline parent (Leaf s) a b = ((m : At) × Flow false (Leaf s) a m × LineEnd m b) ⊎ IsBlock parent s a b
Inline parent (Seq ts) a b = (m : At) × Flow false (Seq ts) a m × LineEnd m b
Inline parent (Map ps) a b = (m : At) × Flow false (Map ps) a m × LineEnd m b

-- A node on deeper lines, or none ([196] s-l+block-node, [106] e-node).
abbrev pub Below : (At → At → Type 0) → Option ℕ → Tree → At → At → Type 0
Below Node parent t a b =
    ((is_within parent a ≡ true) × Node a b) ⊎ ((is_within parent a ≡ false) × (t ≡ missing) × (b ≡ a))

-- Block lists and maps (section 8.2). Behind a dash a node stands on the same line, also a list or map whose column
-- spaces alone give, or below ([185] s-l+block-indented, [186] ns-l-compact-sequence, [195] ns-l-compact-mapping).
abbrev pub Item : (At → At → Type 0) → ℕ → Tree → At → At → Type 0
Item Node col t a b =
    ((ends a.line ≡ true) × Below Node (Some col) t (next_at a.later) b)
    ⊎ ((ends a.line ≡ false) × ((spaces a.line == whites a.line) ≡ true) × Node (over a) b)
    ⊎ ((ends a.line ≡ false) × ((spaces a.line == whites a.line) ≡ false) × Inline (Some col) t (over a) b)

-- Behind a key's colon a node stands on the same line, or below ([194] c-l-block-map-implicit-value), where a list may
-- stand at the key's column ([201] seq-space).
abbrev pub Under : (At → At → Type 0) → (At → At → Type 0) → ℕ → Tree → At → At → Type 0
Under Node Block col t a b =
    ((at_dash col a ≡ true) × Block a b) ⊎ ((at_dash col a ≡ false) × Below Node (Some col) t a b)

abbrev pub Value : (At → At → Type 0) → (At → At → Type 0) → ℕ → Tree → At → At → Type 0
Value Node Block col t a b =
    ((ends a.line ≡ true) × Under Node Block col t (next_at a.later) b)
    ⊎ ((ends a.line ≡ false) × Inline (Some col) t (over a) b)

abbrev mutual
  -- a node under a parent's column, where its line's content begins ([196] s-l+block-node)
  pub Node : Option ℕ → Tree → At → At → Type 0
  Node parent (Leaf s) a b = Inline parent (Leaf s) a b
  Node parent (Seq ts) a b = Inline parent (Seq ts) a b ⊎ BlockList ts a b
  Node parent (Map ps) a b = Inline parent (Map ps) a b ⊎ BlockMap ps a b

  -- a list or map alone ([200] s-l+block-collection)
  pub Block : Tree → At → At → Type 0
  Block (Leaf s) a b = ⊥
  Block (Seq ts) a b = BlockList ts a b
  Block (Map ps) a b = BlockMap ps a b

  -- lists and maps of one entry or more, which all stand at one column ([183] l+block-sequence, [187] l+block-mapping)
  pub BlockList : Trees → At → At → Type 0
  BlockList none a b = ⊥
  BlockList (more t ts) a b =
      (m : At) × (is_dash a.line ≡ true) × Item (Node (Some a.col) t) a.col t (past 1 a) m × Items a.col ts m b

  pub BlockMap : Pairs → At → At → Type 0
  BlockMap no_pairs a b = ⊥
  BlockMap (pair key t ps) a b =
      (m n : At) × IsKey key a m × Value (Node (Some a.col) t) (Block t) a.col t m n × Entries a.col ps n b

  -- further entries of a list, and its end ([184] c-l-block-seq-entry)
  pub Items : ℕ → Trees → At → At → Type 0
  Items col none a b = (list_ends col a ≡ true) × (b ≡ a)
  Items col (more t ts) a b =
      (m : At) × (at_dash col a ≡ true) × Item (Node (Some col) t) col t (past 1 a) m × Items col ts m b

  -- further entries of a map, and its end ([192] ns-l-block-map-implicit-entry)
  pub Entries : ℕ → Pairs → At → At → Type 0
  Entries col no_pairs a b = (map_ends col a ≡ true) × (b ≡ a)
  Entries col (pair key t ps) a b =
      (m n : At) × (map_ends col a ≡ false) × ((a.col == col) ≡ true) × IsKey key a m
      × Value (Node (Some col) t) (Block t) col t m n × Entries col ps n b

-- What stands behind the document's node: the text's end, or three dots with nothing but the text's end behind
-- ([205] l-document-suffix).
abbrev pub Closed : At → Type 0
Closed a =
    (is_end a ≡ true)
    ⊎ ((is_end a ≡ false) × (at_dots a ≡ true) × (ends (drop 3 a.line) ≡ true) × (is_end (next_at a.later) ≡ true))

-- Behind three dashes a node stands on the same line behind spaces, or below ([208] l-explicit-document).
abbrev pub Explicit : Tree → At → At → Type 0
Explicit t a b =
    ((ends a.line ≡ true) × Below (Node None t) None t (next_at a.later) b)
    ⊎ ((ends a.line ≡ false) × ((spaces a.line == whites a.line) ≡ true) × Inline None t (over a) b)

-- the document from its first content on ([208] l-explicit-document, [207] l-bare-document)
abbrev pub Document : Tree → At → At → Type 0
Document t a b =
    ((at_dashes a ≡ true) × Explicit t (past 3 a) b)
    ⊎ ((at_dashes a ≡ false) × (begins percent a.line ≡ false) × Node None t a b)

-- a byte order mark in front is passed over ([202] l-document-prefix)
abbrev pub without_mark : List ℕ → List ℕ
without_mark text = if starts_with nat_eq text (0xef ∷ 0xbb ∷ 0xbf ∷ []) then drop 3 text else text

abbrev pub first_at : List ℕ → At
first_at text = next_at (lines_of (without_mark text))

-- The text is a carried document that stands for this tree, or the empty document ([211] l-yaml-stream).
abbrev pub Carried : List ℕ → Option Tree → Type 0
Carried text None = is_end (first_at text) ≡ true
Carried text (Some t) =
    (b : At) × (is_end (first_at text) ≡ false) × Document t (first_at text) b × Closed b × (depth t ≤ 64)
