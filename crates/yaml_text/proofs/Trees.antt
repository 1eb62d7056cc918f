-- What is written is carried: by recursion on the value, with what follows it.
use Rattle.std.proofs.Common.{◌≡◌, ℕ, ◌+◌, List, [], ◌∷◌, ◌++◌, Bool, true, false, cond, ◌&&◌, ◌||◌, eqb, Option, Some, inl, inr, refl, sym, ap, ◌∙◌, subst, append_assoc, append-nil, flat_map, IsUtf8, arith}
use Rattle.std.specs.Str.{chars}
use Rattle.std.proofs.lemmas.Bool.{cases_Bool, eq-eqb, lt-ltb, le-ltb}
use Rattle.yaml_scan.specs.Bytes.{is_gap}
use Rattle.yaml_scan.specs.Block.{is_deeper}
use Rattle.yaml_small.specs.Trees.{Tree, Seq, Map, none, no_pairs, missing}
use Rattle.yaml_small.specs.Places.{At, past, over, next_at, flow_next, begins, at_dash, map_ends, at_mark}
use Rattle.yaml_small.specs.declared.event.Style.TheVariants as styles
use Rattle.yaml_small.specs.Grammar.{LineEnd, IsKey, Inline, Below, Item as AnItem, Value as AValue, Node, Block, Items, Entries, Flow}
use Rattle.yaml_small.specs.ScalarLaws.{token_form}
use Rattle.yaml_text.specs.Texts.{quote, quoted_char, quoted, quoted_style, text_at, is_block, block, is_double}
use Rattle.yaml_text.specs.Written.{Written, number, boolean, null, character, text, list, map, unit_variant, empty_variant, variant, Elements, no_elements, element, Members, no_members, member, new_line, written, elements_text, members_text, single, tree_of, trees_of, pairs_of, ReadsBack, ElementsReadBack, MembersReadBack}
use Rattle.yaml_text.proofs.Lines.{opens, Opens, opens_is, opens_white, is_inline, line_of, later_of, line_of-append, later_of-append, IsBreak, line_of-break, at_text, after}
use Rattle.yaml_text.proofs.Levels.{column, column_le, Follows, follows_deeper, after_new_line, after_blank, follows_content, follows_blank, is_inner, no_dash_here}
use Rattle.yaml_text.proofs.ScalarTokens.{plain_scalar_token}
use Rattle.yaml_text.proofs.Plain.{PlainText, number_plain, boolean_plain, tilde_plain, character_plain, name_plain}
use Rattle.yaml_text.proofs.Leaves.{plain_leaf, text_leaf, name_key, quoted_key}

regroup : (a b c d e f : List ℕ) → ((((a ++ b) ++ c) ++ d) ++ e) ++ f ≡ a ++ (b ++ (c ++ (d ++ (e ++ f))))
regroup a b c d e f =
    append_assoc (((a ++ b) ++ c) ++ d) e f ∙ append_assoc ((a ++ b) ++ c) d (e ++ f) ∙ append_assoc (a ++ b) c (d ++ (e ++ f)) ∙ append_assoc a b (c ++ (d ++ (e ++ f)))

-- the text of an element and of a member with what follows, in order
pub element_is : (level : ℕ) (w : Written) (ws : Elements) (k : List ℕ)
    → elements_text level (element w ws) ++ k ≡ 45 ∷ 32 ∷ (new_line (level + 1) ++ (written (level + 1) w ++ (new_line level ++ (elements_text level ws ++ k))))
element_is level w ws k = simp append_assoc

pub member_is : (level : ℕ) (key : List ℕ) (w : Written) (ms : Members) (k : List ℕ)
    → members_text level (member key w ms) ++ k ≡ quoted key ++ (58 ∷ (new_line (level + 1) ++ (written (level + 1) w ++ (new_line level ++ (members_text level ms ++ k)))))
member_is level key w ms k = regroup (quoted key) (58 ∷ new_line (level + 1)) (written (level + 1) w) (new_line level) (members_text level ms) k

pub variant_is : (level : ℕ) (name : List ℕ) (w : Written) (k : List ℕ) → written level (variant name w) ++ k ≡ name ++ (58 ∷ (new_line (level + 1) ++ (written (level + 1) w ++ k)))
variant_is level name w k = append_assoc (name ++ (58 ∷ new_line (level + 1))) (written (level + 1) w) k ∙ append_assoc name (58 ∷ new_line (level + 1)) (written (level + 1) w ++ k)

-- what is written begins with a byte that begins content
quoted_opens : (t k : List ℕ) → opens (quoted t ++ k) ≡ true
unfolding quoted
quoted_opens t k = either (is_double t)
  where
    either : (double : Bool) → opens (cond double 34 39 ∷ k) ≡ true
    either true = refl
    either false = refl

text_opens : (level : ℕ) (t k : List ℕ) → opens (text_at level t ++ k) ≡ true
unfolding text_at block
text_opens level t k = elim (cases_Bool (is_block t)) [
  | inl is ↦ rw is refl
  | inr other ↦ rw other (quoted_opens t k)
]

pub written_opens : (w : Written) (level : ℕ) (k : List ℕ) → ReadsBack w → opens (written level w ++ k) ≡ true
written_opens (number n) level k r = (number_plain n r).opened k
written_opens (boolean b) level k r = (boolean_plain b).opened k
written_opens null level k r = tilde_plain.opened k
written_opens (character c) level k r = (character_plain c r).opened k
written_opens (text t) level k r = text_opens level t k
written_opens (list no_elements) level k r = refl
written_opens (list (element w ws)) level k r = refl
written_opens (map no_members) level k r = refl
written_opens (map (member key w ms)) level k r = rw (member_is level key w ms k) (quoted_opens key _)
written_opens (unit_variant name) level k r = rw append_assoc ((name_plain name r).opened _)
written_opens (empty_variant name) level k r = rw append_assoc ((name_plain name r).opened _)
written_opens (variant name w) level k r = rw (variant_is level name w k) ((name_plain name r.0).opened _)

elements_open : (level : ℕ) (w : Written) (ws : Elements) (k : List ℕ) → opens (elements_text level (element w ws) ++ k) ≡ true
elements_open level w ws k = refl

members_open : (level : ℕ) (key : List ℕ) (w : Written) (ms : Members) (k : List ℕ) → opens (members_text level (member key w ms) ++ k) ≡ true
members_open level key w ms k = rw (member_is level key w ms k) (quoted_opens key _)

-- what follows an element and a member
elements_follow : (level : ℕ) (ws : Elements) (k : List ℕ) → Follows level k → Follows (level + 1) (new_line level ++ (elements_text level ws ++ k))
elements_follow level no_elements k f = follows_blank level k f
elements_follow level (element w ws) k f = follows_content level (elements_text level (element w ws) ++ k) (elements_open level w ws k)

members_follow : (level : ℕ) (ms : Members) (k : List ℕ) → Follows level k → Follows (level + 1) (new_line level ++ (members_text level ms ++ k))
members_follow level no_members k f = follows_blank level k f
members_follow level (member key w ms) k f = follows_content level (members_text level (member key w ms) ++ k) (members_open level key w ms k)

-- a value on a line of its own, one level deeper
inner_place : (level : ℕ) (v k : List ℕ) (later : List (List ℕ)) → opens (v ++ k) ≡ true → later ≡ later_of (new_line (level + 1) ++ (v ++ k))
    → next_at later ≡ at_text (column (level + 1)) (v ++ k)
inner_place level v k later begins is = ap next_at is ∙ after_new_line (level + 1) (v ++ k) begins

value_below : (R : At → At → Type 0) (level : ℕ) (v k : List ℕ) (t : Tree) (later : List (List ℕ)) → opens (v ++ k) ≡ true → R (at_text (column (level + 1)) (v ++ k)) (after k)
    → later ≡ later_of (new_line (level + 1) ++ (v ++ k)) → Below R (Some (column level)) t (next_at later) (after k)
value_below R level v k t later begins form is =
    subst (λ (p : At). Below R (Some (column level)) t p (after k)) (sym (inner_place level v k later begins is)) (inl (is_inner level (v ++ k) begins, form))

value_behind : (R S : At → At → Type 0) (level : ℕ) (v k : List ℕ) (t : Tree) (m : At) → opens (v ++ k) ≡ true → R (at_text (column (level + 1)) (v ++ k)) (after k)
    → m.line ≡ [] → m.later ≡ later_of (new_line (level + 1) ++ (v ++ k)) → AValue R S (column level) t m (after k)
value_behind R S level v k t m begins form line later =
    let no_dash : at_dash (column level) (next_at m.later) ≡ false = ap (at_dash (column level)) (inner_place level v k m.later begins later) ∙ no_dash_here level (v ++ k) in
    inl (rw line refl, inr (no_dash, value_below R level v k t m.later begins form later))

-- the parent of a value within a list or map
inner_parent : (level : ℕ) → is_deeper (Some (column level)) (level + 1 + 2) ≡ true
inner_parent level = lt-ltb (column level) (level + 1 + 2) (omega (arith, column_le level))

abbrev NodeLaw : Written → Type 0
NodeLaw w = (level : ℕ) (parent : Option ℕ) (k : List ℕ) → ReadsBack w → is_deeper parent (level + 2) ≡ true → Follows level k
    → Node parent (tree_of w) (at_text (column level) (written level w ++ k)) (after k)

-- an element behind its dash
abbrev element_place : (level : ℕ) (w : Written) (rest : List ℕ) → At
element_place level w rest = at_text (column level) (45 ∷ 32 ∷ (new_line (level + 1) ++ (written (level + 1) w ++ (new_line level ++ rest))))

item_carried : (w : Written) → NodeLaw w → (level : ℕ) (rest : List ℕ) → ReadsBack w → Follows (level + 1) (new_line level ++ rest)
    → AnItem (Node (Some (column level)) (tree_of w)) (column level) (tree_of w) (past 1 (element_place level w rest)) (after (new_line level ++ rest))
item_carried w law level rest r f =
    let k = new_line level ++ rest in
    inl (
      refl,
      value_below (Node (Some (column level)) (tree_of w)) level (written (level + 1) w) k (tree_of w) _ (written_opens w (level + 1) k r)
          (law (level + 1) (Some (column level)) k r (inner_parent level) f) refl,
    )

dash_here : (level : ℕ) (w : Written) (rest : List ℕ) → at_dash (column level) (element_place level w rest) ≡ true
dash_here level w rest = rw (eq-eqb (column level) (column level) refl) refl

-- an empty list and an empty map on their line
abbrev at : At → List ℕ → At
at a line = record { col = a.col; line = line; later = a.later }

abbrev EmptyList : At → Type 0
EmptyList a = (m : At) × Flow false (Seq none) a m × LineEnd m (next_at a.later)

empty_list_at : (a : At) → EmptyList (at a (91 ∷ 93 ∷ []))
unfolding flow_next
empty_list_at a = (past 1 (flow_next (past 1 (at a (91 ∷ 93 ∷ [])))), (refl, (refl, refl)), record { ends = refl; next = refl })

empty_list : (a : At) → a.line ≡ 91 ∷ 93 ∷ [] → EmptyList a
empty_list a e = subst (λ (l : List ℕ). EmptyList (at a l)) (sym e) (empty_list_at a)

abbrev EmptyMap : At → Type 0
EmptyMap a = (m : At) × Flow false (Map no_pairs) a m × LineEnd m (next_at a.later)

empty_map_at : (a : At) → EmptyMap (at a (123 ∷ 125 ∷ []))
unfolding flow_next
empty_map_at a = (past 1 (flow_next (past 1 (at a (123 ∷ 125 ∷ [])))), (refl, (refl, refl)), record { ends = refl; next = refl })

empty_map : (a : At) → a.line ≡ 123 ∷ 125 ∷ [] → EmptyMap a
empty_map a e = subst (λ (l : List ℕ). EmptyMap (at a l)) (sym e) (empty_map_at a)

-- nothing, behind a name
tilde_at : (a : At) → a.line ≡ 126 ∷ [] → (m : At) × Flow false missing a m × LineEnd m (next_at a.later)
tilde_at a e =
    let mark : at_mark a ≡ false = rw e (none (eqb a.col 0)) in
    (past 1 a, token_form false a (record { scalar = record { text = 126 ∷ []; style = styles.Plain }; end = past 1 a }) (plain_scalar_token (126 ∷ []) [] a refl refl mark (λ white. refl) e refl refl), record { ends = rw e refl; next = refl })
  where
    none : (b : Bool) → (b && false) || (b && false) ≡ false
    none true = refl
    none false = refl

-- a value behind a colon and a space on the same line
inline_behind : (R S : At → At → Type 0) (col : ℕ) (t : Tree) (m : At) (b : At) (c : ℕ) (cs : List ℕ) → m.line ≡ 32 ∷ c ∷ cs → Opens c → Inline (Some col) t (over m) b
    → AValue R S col t m b
inline_behind R S col t m b c cs line o form =
    inr (rw line (rw (opens_white c o, o.hash) refl), form)

over_line : (m : At) (c : ℕ) (cs : List ℕ) → m.line ≡ 32 ∷ c ∷ cs → Opens c → (over m).line ≡ c ∷ cs
over_line m c cs line o = rw line (rw (opens_white c o) refl)

-- lines that are marks alone
marks_line : (bs k : List ℕ) → is_inline bs ≡ true → IsBreak k → line_of (bs ++ k) ≡ bs
marks_line bs k inline break = line_of-append bs k inline ∙ ap (λ (xs : List ℕ). bs ++ xs) (line_of-break k break) ∙ append-nil bs

empty_list_text : (col : ℕ) (k : List ℕ) → IsBreak k → (m : At) × Flow false (Seq none) (at_text col (91 ∷ 93 ∷ k)) m × LineEnd m (after k)
empty_list_text col k break =
    let a = at_text col (91 ∷ 93 ∷ k) in
    subst (λ (ls : List (List ℕ)). (m : At) × Flow false (Seq none) a m × LineEnd m (next_at ls)) (later_of-append (91 ∷ 93 ∷ []) k refl)
    (empty_list a (marks_line (91 ∷ 93 ∷ []) k refl break))

empty_map_text : (col : ℕ) (k : List ℕ) → IsBreak k → (m : At) × Flow false (Map no_pairs) (at_text col (123 ∷ 125 ∷ k)) m × LineEnd m (after k)
empty_map_text col k break =
    let a = at_text col (123 ∷ 125 ∷ k) in
    subst (λ (ls : List (List ℕ)). (m : At) × Flow false (Map no_pairs) a m × LineEnd m (next_at ls)) (later_of-append (123 ∷ 125 ∷ []) k refl)
    (empty_map a (marks_line (123 ∷ 125 ∷ []) k refl break))

-- a map of one entry, whose key is a name
named : (level : ℕ) (parent : Option ℕ) (name rest k : List ℕ) (t : Tree) → PlainText name → is_gap (line_of rest) ≡ true → Follows level k
    → ((m : At) → m.line ≡ line_of rest → m.later ≡ later_of rest → AValue (Node (Some (column level)) t) (Block t) (column level) t m (after k))
    → Node parent (single name t) (at_text (column level) (name ++ (58 ∷ rest))) (after k)
named level parent name rest k t p gap f value =
    let key = name_key name (column level) rest p gap in
    inr (key.end, after k, key.is, value key.end key.line_is key.later_is, (f.ends.map, refl))

-- a key and its value, where more members may follow
abbrev MemberAt : List ℕ → Tree → ℕ → At → At → Type 0
MemberAt key t col a b = (m : At) × IsKey (record { text = key; style = quoted_style key }) a m × AValue (Node (Some col) t) (Block t) col t m b

abbrev member_place : ℕ → List ℕ → Written → List ℕ → At
member_place level key w rest = at_text (column level) (quoted key ++ (58 ∷ (new_line (level + 1) ++ (written (level + 1) w ++ (new_line level ++ rest)))))

member_carried : (key : List ℕ) (w : Written) → NodeLaw w → (level : ℕ) (rest : List ℕ) → IsUtf8 key → ReadsBack w → Follows (level + 1) (new_line level ++ rest)
    → MemberAt key (tree_of w) (column level) (member_place level key w rest) (after (new_line level ++ rest))
member_carried key w law level rest utf8 r f =
    let k = new_line level ++ rest in
    let t = tree_of w in
    let at_key = quoted_key key (column level) (new_line (level + 1) ++ (written (level + 1) w ++ k)) utf8 refl in (
      at_key.end,
      at_key.is,
      value_behind (Node (Some (column level)) t) (Block t) level (written (level + 1) w) k t at_key.end (written_opens w (level + 1) k r)
          (law (level + 1) (Some (column level)) k r (inner_parent level) f) at_key.line_is at_key.later_is,
    )

-- more members stand at the map's column
no_end : (level : ℕ) (key : List ℕ) (w : Written) (rest : List ℕ) → map_ends (column level) (member_place level key w rest) ≡ false
unfolding quoted
no_end level key w rest =
    either (is_double key) ((flat_map (quoted_char (is_double key)) (chars key) ++ (quote (is_double key) ∷ [])) ++ (58 ∷ (new_line (level + 1) ++ (written (level + 1) w ++ (new_line level ++ rest)))))
  where
    marks : (b : Bool) → (b && false) || (b && false) ≡ false
    marks true = refl
    marks false = refl

    either : (double : Bool) (cs : List ℕ) → map_ends (column level) (at_text (column level) (cond double 34 39 ∷ cs)) ≡ false
    either true cs = rw (line_of-append (34 ∷ []) cs refl, le-ltb (column level) (column level) (omega arith)) (marks (eqb (column level) 0))
    either false cs = rw (line_of-append (39 ∷ []) cs refl, le-ltb (column level) (column level) (omega arith)) (marks (eqb (column level) 0))

tilde_opens : Opens 126
tilde_opens = opens_is 126 [] refl

bracket_opens : Opens 91
bracket_opens = opens_is 91 [] refl

mutual
  -- a value at its place
  pub node_carried : (w : Written) (level : ℕ) (parent : Option ℕ) (k : List ℕ) → ReadsBack w → is_deeper parent (level + 2) ≡ true → Follows level k
      → Node parent (tree_of w) (at_text (column level) (written level w ++ k)) (after k)
  node_carried (number n) level parent k r deep f = plain_leaf parent _ (column level) k (number_plain n r) f.break
  node_carried (boolean b) level parent k r deep f = plain_leaf parent _ (column level) k (boolean_plain b) f.break
  node_carried null level parent k r deep f = plain_leaf parent _ (column level) k tilde_plain f.break
  node_carried (character c) level parent k r deep f = plain_leaf parent _ (column level) k (character_plain c r) f.break
  node_carried (text t) level parent k r deep f = text_leaf level (column level) parent t k r f.break f.shallow deep
  node_carried (list no_elements) level parent k r deep f = inl (empty_list_text (column level) k f.break)
  node_carried (list (element w ws)) level parent k r deep f =
      let rest = elements_text level ws ++ k in
      let g = elements_follow level ws k f in
      subst (λ (x : List ℕ). Node parent (tree_of (list (element w ws))) (at_text (column level) x) (after k)) (sym (element_is level w ws k))
      (inr (after (new_line level ++ rest), refl, item_carried w (node_carried w) level rest r.0 g, items_carried ws level k r.1 f))
  node_carried (map no_members) level parent k r deep f = inl (empty_map_text (column level) k f.break)
  node_carried (map (member key w ms)) level parent k r deep f =
      let rest = members_text level ms ++ k in
      let here = member_carried key w (node_carried w) level rest r.0 r.1 (members_follow level ms k f) in
      subst (λ (x : List ℕ). Node parent (tree_of (map (member key w ms))) (at_text (column level) x) (after k)) (sym (member_is level key w ms k))
      (inr (here.0, after (new_line level ++ rest), here.1, here.2, entries_carried ms level k r.2 f))
  node_carried (unit_variant name) level parent k r deep f =
      subst (λ (x : List ℕ). Node parent (single name missing) (at_text (column level) x) (after k)) (sym (append_assoc name (58 ∷ 32 ∷ 126 ∷ []) k))
      (named level parent name (32 ∷ 126 ∷ k) k missing (name_plain name r) (rw (marks_line (32 ∷ 126 ∷ []) k refl f.break) refl) f
      (λ m line later.
      let is : m.line ≡ 32 ∷ 126 ∷ [] = line ∙ marks_line (32 ∷ 126 ∷ []) k refl f.break in
      let behind : m.later ≡ later_of k = later ∙ later_of-append (32 ∷ 126 ∷ []) k refl in
      inline_behind (Node (Some (column level)) missing) (Block missing) (column level) missing m (after k) 126 [] is tilde_opens
      (inl (subst (λ (ls : List (List ℕ)). (n : At) × Flow false missing (over m) n × LineEnd n (next_at ls)) behind (tilde_at (over m) (over_line m 126 [] is tilde_opens))))))
  node_carried (empty_variant name) level parent k r deep f =
      subst (λ (x : List ℕ). Node parent (single name (Seq none)) (at_text (column level) x) (after k)) (sym (append_assoc name (58 ∷ 32 ∷ 91 ∷ 93 ∷ []) k))
      (named level parent name (32 ∷ 91 ∷ 93 ∷ k) k (Seq none) (name_plain name r) (rw (marks_line (32 ∷ 91 ∷ 93 ∷ []) k refl f.break) refl) f
      (λ m line later.
      let is : m.line ≡ 32 ∷ 91 ∷ 93 ∷ [] = line ∙ marks_line (32 ∷ 91 ∷ 93 ∷ []) k refl f.break in
      let behind : m.later ≡ later_of k = later ∙ later_of-append (32 ∷ 91 ∷ 93 ∷ []) k refl in
      inline_behind (Node (Some (column level)) (Seq none)) (Block (Seq none)) (column level) (Seq none) m (after k) 91 (93 ∷ []) is bracket_opens
      (subst (λ (ls : List (List ℕ)). (n : At) × Flow false (Seq none) (over m) n × LineEnd n (next_at ls)) behind (empty_list (over m) (over_line m 91 (93 ∷ []) is bracket_opens)))))
  node_carried (variant name w) level parent k r deep f =
      let t = tree_of w in
      subst (λ (x : List ℕ). Node parent (single name t) (at_text (column level) x) (after k)) (sym (variant_is level name w k))
      (named level parent name (new_line (level + 1) ++ (written (level + 1) w ++ k)) k t (name_plain name r.0) refl f
      (λ m line later. value_behind (Node (Some (column level)) t) (Block t) level (written (level + 1) w) k t m (written_opens w (level + 1) k r.1)
      (node_carried w (level + 1) (Some (column level)) k r.1 (inner_parent level) (follows_deeper level k f)) line later))

  -- the elements behind the first
  items_carried : (ws : Elements) (level : ℕ) (k : List ℕ) → ElementsReadBack ws → Follows level k
      → Items (column level) (trees_of ws) (after (new_line level ++ (elements_text level ws ++ k))) (after k)
  items_carried no_elements level k r f =
      subst (λ (p : At). Items (column level) none p (after k)) (sym (after_blank level k f.break)) (f.ends.list, refl)
  items_carried (element w ws) level k r f =
      let rest = elements_text level ws ++ k in
      let here = after_new_line level (elements_text level (element w ws) ++ k) (elements_open level w ws k) ∙ ap (at_text (column level)) (element_is level w ws k) in
      subst (λ (p : At). Items (column level) (trees_of (element w ws)) p (after k)) (sym here)
      (after (new_line level ++ rest), dash_here level w rest, item_carried w (node_carried w) level rest r.0 (elements_follow level ws k f), items_carried ws level k r.1 f)

  -- the members behind the first
  entries_carried : (ms : Members) (level : ℕ) (k : List ℕ) → MembersReadBack ms → Follows level k
      → Entries (column level) (pairs_of ms) (after (new_line level ++ (members_text level ms ++ k))) (after k)
  entries_carried no_members level k r f =
      subst (λ (p : At). Entries (column level) no_pairs p (after k)) (sym (after_blank level k f.break)) (f.ends.map, refl)
  entries_carried (member key w ms) level k r f =
      let rest = members_text level ms ++ k in
      let here = after_new_line level (members_text level (member key w ms) ++ k) (members_open level key w ms k) ∙ ap (at_text (column level)) (member_is level key w ms k) in
      let one = member_carried key w (node_carried w) level rest r.0 r.1 (members_follow level ms k f) in
      subst (λ (p : At). Entries (column level) (pairs_of (member key w ms)) p (after k)) (sym here)
      (one.0, after (new_line level ++ rest), no_end level key w rest, eq-eqb (column level) (column level) refl, one.1, one.2, entries_carried ms level k r.2 f)
