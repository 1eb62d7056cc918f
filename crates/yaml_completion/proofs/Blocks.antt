-- Block scalars, when something else stands behind them.
use Rattle.std.proofs.Common.{◌≡◌, ℕ, ◌+◌, ◌⊎◌, List, [], ◌∷◌, ◌++◌, drop, map, length, Bool, true, false, not, cond, ◌&&◌, ◌||◌, eqb, leb, Option, Some, None, Ok, Err, refl, sym, ap, ◌∙◌, subst, inl, inr, arith, append-nil, length-append}
use Rattle.std.proofs.lemmas.Bool.{cases_Bool, eqb-true, eq-eqb, ne_eqb, le-leb}
use Rattle.std.proofs.lemmas.List.{drop_all}
use Rattle.yaml_scan.specs.Bytes.{is_space, is_white, is_control, is_clean, spaces, whites}
use Rattle.yaml_scan.specs.Lines.{is_over, is_passed, is_white_line, is_dashes, is_dots, ends}
use Rattle.yaml_scan.specs.Block.{is_document_mark, is_deeper, indent_of, is_inside, block_lines, behind_block, content, all_clean, between, is_joined, together, with_end, block_text}
use Rattle.yaml_small.specs.Places.{At, next_at, begins, at_dashes, at_dots, is_dash}
use Rattle.yaml_small.specs.Scalars.{Form, NotCarried, ScalarToken, scalar_token, folded_style, gathered, headed, is_indicator, block_at}
use Rattle.yaml_small.specs.GrowthLaws.{the_end}
use Rattle.yaml_small.specs.MarkLaws.{and_parts, or_parts, or_true, both}
use Rattle.yaml_completion.proofs.Along.{if_true, if_false, joined, Along, Before, all_of, stops, counted, is_solid, solid_white, white_space, space_white}
use Rattle.yaml_completion.proofs.Contents.{Instead, Ready, Reads, place, next_reads, next_end, next_passed, passed_on, last_passed, not_end}
use Rattle.yaml_completion.proofs.ScalarTokens.{read_scalar_token, scalar_token_is}

-- Other content at the same column, which is a dash or a mark where the first one is; and that one is content, no
-- control character.
pub record Alike (a d : At) : Type 0 where
  pub instead : Instead a d
  pub dash : is_dash d.line ≡ is_dash a.line
  pub dashes : at_dashes d ≡ at_dashes a
  pub dots : at_dots d ≡ at_dots a
  pub percent : begins 37 d.line ≡ begins 37 a.line
  pub clean : is_control a.line ≡ false

pub record Next (a d : At) : Type 0 where
  pub either : (d ≡ the_end) ⊎ Alike a d

pub ready : (a d : At) → Next a d → Ready a d
ready a d n = elim (n.either) [ inl end ↦ record { either = inl end } | inr alike ↦ record { either = inr alike.instead } ]

-- content at the same column behind spaces is a mark where the other is
space_no_mark : (c : ℕ) (cs : List ℕ) → is_space c ≡ true → is_document_mark (c ∷ cs) ≡ false
space_no_mark c cs e = rw (eqb-true c 32 e) refl

same_marks : (v r : List ℕ) (ls : List (List ℕ)) (d : At) → all_of is_space v ≡ true → Alike (place (length v) r ls) d → is_document_mark (v ++ d.line) ≡ is_document_mark (v ++ r)
same_marks [] r ls d all alike =
    sym (ap (λ (n : ℕ). (eqb n 0 && is_dashes d.line) || (eqb n 0 && is_dots d.line)) alike.instead.col)
    ∙ ap (λ (b : Bool). b || at_dots d) alike.dashes ∙ ap (λ (b : Bool). is_dashes r || b) alike.dots
same_marks (c ∷ v) r ls d all alike =
    let p = and_parts (is_space c) (all_of is_space v) all in
    space_no_mark c (v ++ d.line) p.0 ∙ sym (space_no_mark c (v ++ r) p.0)

-- lines of white space
white_is : (v r : List ℕ) → all_of is_space v ≡ true → is_solid r ≡ true → is_white_line (v ++ r) ≡ false
white_is v [] all solid = absurd cc
white_is v (c ∷ cs) all solid = rw (counted is_white v (c ∷ cs) (space_white v all) (solid_white (c ∷ cs) solid)) (ne_eqb (length v) (length (v ++ (c ∷ cs))) (λ e. absurd (omega (arith, length-append v (c ∷ cs)))))

white_all : (v : List ℕ) → all_of is_space v ≡ true → is_white_line v ≡ true
white_all v all = eq-eqb (whites v) (length v) (ap whites (sym (append-nil v)) ∙ counted is_white v [] (space_white v all) refl)

white_passed : (line : List ℕ) → is_white_line line ≡ true → is_passed line ≡ true
white_passed line e =
    ap (λ (n : ℕ). is_over (drop n line)) (eqb-true (whites line) (length line) e) ∙ ap is_over (drop_all (length line) line (omega arith))

clean_spaces : (v : List ℕ) → all_of is_space v ≡ true → is_clean v ≡ true
clean_spaces [] all = refl
clean_spaces (c ∷ []) all = rw (eqb-true c 32 (and_parts (is_space c) true all).0) refl
clean_spaces (c ∷ d ∷ v) all =
    let p = and_parts (is_space c) (all_of is_space (d ∷ v)) all in
    rw (eqb-true c 32 p.0) (clean_spaces (d ∷ v) p.1)

-- the indentation that a line gives that is not of white space
abbrev given : Option ℕ → List ℕ → Option ℕ
given parent line = cond (is_deeper parent (spaces line) && not (is_document_mark line)) (Some (spaces line)) None

decides : (parent : Option ℕ) (line : List ℕ) (lines : List (List ℕ)) → is_white_line line ≡ false → indent_of parent (line ∷ lines) ≡ given parent line
decides parent line lines e = ap (λ (b : Bool). cond b (indent_of parent lines) (given parent line)) e

skips : (parent : Option ℕ) (line : List ℕ) (lines : List (List ℕ)) → is_white_line line ≡ true → indent_of parent (line ∷ lines) ≡ indent_of parent lines
skips parent line lines e = ap (λ (b : Bool). cond b (indent_of parent lines) (given parent line)) e

-- other content behind the same spaces
same_spaces : (v r t : List ℕ) → all_of is_space v ≡ true → stops is_space r ≡ true → stops is_space t ≡ true → spaces (v ++ t) ≡ spaces (v ++ r)
same_spaces v r t all stop other = counted is_space v t all other ∙ sym (counted is_space v r all stop)

same_given : (parent : Option ℕ) (v r : List ℕ) (ls : List (List ℕ)) (d : At) → all_of is_space v ≡ true → stops is_space r ≡ true → Alike (place (length v) r ls) d → given parent (v ++ d.line) ≡ given parent (v ++ r)
same_given parent v r ls d all stop alike =
    rw (same_spaces v r d.line all stop (white_space d.line (solid_white d.line alike.instead.other)), same_marks v r ls d all alike) refl

-- A block without lines has none before other content.
record NoneReads (parent : Option ℕ) (line : List ℕ) (lines : List (List ℕ)) (d : At) : Type 0 where
  reads : Reads next_at (line ∷ lines) d
  none : indent_of parent reads.others ≡ None

none_decided : (parent : Option ℕ) (l : List ℕ) (ls : List (List ℕ)) (d : At) → is_white_line l ≡ false → indent_of parent (l ∷ ls) ≡ None → Next (next_at (l ∷ ls)) d → NoneReads parent l ls d
none_decided parent l ls d white none next =
    let n = next_reads l ls d (ready (next_at (l ∷ ls)) d next) in
    let gives : given parent l ≡ None = sym (decides parent l ls white) ∙ none in
    record {
      reads = n.reads;
      none = elim (n.begin.either) [
        | inl (passed, (more, is)) ↦ ap (indent_of parent) is ∙ decides parent l more white ∙ gives
        | inr (v, (r, (line, all, stop, at, is))) ↦ elim (next.either) [
          | inl end ↦ ap (indent_of parent) is ∙ ap (λ (x : At). indent_of parent ((v ++ x.line) ∷ x.later)) end
              ∙ skips parent (v ++ []) [] (ap is_white_line (append-nil v) ∙ white_all v all)
          | inr alike ↦ ap (indent_of parent) is ∙ decides parent (v ++ d.line) d.later (white_is v d.line all alike.instead.other)
              ∙ same_given parent v r ls d all stop (subst (λ (x : At). Alike x d) at alike) ∙ ap (given parent) (sym line) ∙ gives
        ]
      ];
    }

none_reads : (parent : Option ℕ) (l : List ℕ) (ls : List (List ℕ)) (d : At) → indent_of parent (l ∷ ls) ≡ None → Next (next_at (l ∷ ls)) d → NoneReads parent l ls d
unfolding last_passed passed_on
none_reads parent l [] d none next =
    elim (cases_Bool (is_white_line l)) [
      | inl white ↦
          let end = next_passed l (white_passed l white) [] ∙ next_end in
          elim (next.either) [
            | inl is ↦ subst (λ (x : At). NoneReads parent l [] x) (sym is) (record { reads = last_passed next_at l end; none = none })
            | inr alike ↦ not_end (next_at (l ∷ [])) d end alike.instead
          ]
      | inr other ↦ none_decided parent l [] d other none next
    ]
none_reads parent l (m ∷ ms) d none next =
    elim (cases_Bool (is_white_line l)) [
      | inl white ↦
          let passed = next_passed l (white_passed l white) in
          let r = none_reads parent m ms d (sym (skips parent l (m ∷ ms) white) ∙ none) (subst (λ (x : At). Next x d) (passed (m ∷ ms)) next) in
          record { reads = passed_on next_at l (m ∷ ms) d passed r.reads; none = skips parent l r.reads.others white ∙ r.none }
      | inr other ↦ none_decided parent l (m ∷ ms) d other none next
    ]

-- A block's lines before other content are the same, or a line of white space more that gives nothing.
abbrev behind_at : ℕ → List (List ℕ) → At
behind_at indent lines = next_at (behind_block indent lines)

record BlockReads (parent : Option ℕ) (indent : ℕ) (line : List ℕ) (lines : List (List ℕ)) (d : At) : Type 0 where
  reads : Reads (behind_at indent) (line ∷ lines) d
  extra : List (List ℕ)
  lines_are : block_lines indent reads.others ≡ block_lines indent (line ∷ lines) ++ extra
  empty : (extra ≡ []) ⊎ ((v : List ℕ) × ((extra ≡ v ∷ []) × (content indent v ≡ []) × (is_clean v ≡ true)))
  indented : indent_of parent (line ∷ lines) ≡ Some indent → indent_of parent reads.others ≡ Some indent

continues_in : (indent : ℕ) (l : List ℕ) (ls : List (List ℕ)) → is_inside indent l ≡ true → block_lines indent (l ∷ ls) ≡ l ∷ block_lines indent ls
continues_in indent l ls e = ap (λ (b : Bool). cond b (l ∷ block_lines indent ls) []) e

continues_past : (indent : ℕ) (l : List ℕ) (ls : List (List ℕ)) → is_inside indent l ≡ true → behind_block indent (l ∷ ls) ≡ behind_block indent ls
continues_past indent l ls e = ap (λ (b : Bool). cond b (behind_block indent ls) (l ∷ ls)) e

stays_out : (indent : ℕ) (l : List ℕ) (ls : List (List ℕ)) → is_inside indent l ≡ false → block_lines indent (l ∷ ls) ≡ []
stays_out indent l ls e = ap (λ (b : Bool). cond b (l ∷ block_lines indent ls) []) e

stops_at : (indent : ℕ) (l : List ℕ) (ls : List (List ℕ)) → is_inside indent l ≡ false → behind_block indent (l ∷ ls) ≡ l ∷ ls
stops_at indent l ls e = ap (λ (b : Bool). cond b (behind_block indent ls) (l ∷ ls)) e

-- a line that gives the indentation is inside the block
inside_given : (parent : Option ℕ) (indent : ℕ) (l : List ℕ) → given parent l ≡ Some indent → is_inside indent l ≡ true
inside_given parent indent l e = from (is_deeper parent (spaces l)) (is_document_mark l) refl e
  where
    from : (a b : Bool) → is_document_mark l ≡ b → cond (a && not b) (Some (spaces l)) None ≡ Some indent → is_white_line l || (leb indent (spaces l) && not (is_document_mark l)) ≡ true
    from true false mark e =
        let same : spaces l ≡ indent = cc in
        rw (mark, le-leb indent (spaces l) (omega arith)) (or_true (is_white_line l))
    from true true mark e = absurd cc
    from false b mark e = absurd cc

-- a line outside the block gives no indentation
not_given : (parent : Option ℕ) (indent : ℕ) (l : List ℕ) (ls : List (List ℕ)) → is_inside indent l ≡ false → indent_of parent (l ∷ ls) ≡ Some indent → ⊥
not_given parent indent l ls out e =
    let o = or_parts (is_white_line l) (leb indent (spaces l) && not (is_document_mark l)) out in
    both (is_inside indent l) (inside_given parent indent l (sym (decides parent l ls o.0) ∙ e)) out

-- spaces before a line outside the block give nothing
spaces_empty : (indent : ℕ) (v r : List ℕ) → all_of is_space v ≡ true → stops is_space r ≡ true → is_inside indent (v ++ r) ≡ false → content indent v ≡ []
spaces_empty indent [] r all stop out = from (leb indent 0)
  where
    from : (b : Bool) → cond b (drop {A = ℕ} indent []) [] ≡ []
    from true = drop_all indent [] (omega arith)
    from false = refl
spaces_empty indent (c ∷ v) r all stop out =
    let p = and_parts (is_space c) (all_of is_space v) all in
    let o = or_parts (is_white_line (c ∷ (v ++ r))) (leb indent (spaces (c ∷ (v ++ r))) && not (is_document_mark (c ∷ (v ++ r)))) out in
    let shallow : leb indent (spaces (c ∷ (v ++ r))) ≡ false =
    sym (unmarked (leb indent (spaces (c ∷ (v ++ r)))) (is_document_mark (c ∷ (v ++ r))) (space_no_mark c (v ++ r) p.0)) ∙ o.1 in
    let same : spaces (c ∷ v) ≡ spaces (c ∷ (v ++ r)) =
    ap spaces (sym (append-nil (c ∷ v))) ∙ counted is_space (c ∷ v) [] all refl ∙ sym (counted is_space (c ∷ v) r all stop) in
    ap (λ (n : ℕ). cond (leb indent n) (drop indent (c ∷ v)) []) same ∙ ap (λ (b : Bool). cond b (drop indent (c ∷ v)) []) shallow
  where
    unmarked : (a b : Bool) → b ≡ false → a && not b ≡ a
    unmarked true b e = rw e refl
    unmarked false b e = refl

-- the first line outside the block
outside : (parent : Option ℕ) (indent : ℕ) (l : List ℕ) (ls : List (List ℕ)) (d : At) → is_inside indent l ≡ false → Next (behind_at indent (l ∷ ls)) d → BlockReads parent indent l ls d
outside parent indent l ls d out next =
    let here : behind_at indent (l ∷ ls) ≡ next_at (l ∷ ls) = ap next_at (stops_at indent l ls out) in
    let next : Next (next_at (l ∷ ls)) d = subst (λ (x : At). Next x d) here next in
    let n = next_reads l ls d (ready (next_at (l ∷ ls)) d next) in
    let same : Before (l ∷ ls) n.reads.others (behind_at indent (l ∷ ls)) d = subst (λ (x : At). Before (l ∷ ls) n.reads.others x d) (sym here) n.reads.same in
    elim (n.begin.either) [
      | inl (passed, (more, is)) ↦ still n.reads.others n.reads.to same l more is out
      | inr (v, (r, (line, all, stop, at, is))) ↦ elim (next.either) [
        | inl end ↦
            let is : n.reads.others ≡ v ∷ [] = is ∙ ap (λ (x : At). (v ++ x.line) ∷ x.later) end ∙ ap (λ (x : List ℕ). x ∷ []) (append-nil v) in
            let white : is_inside indent v ≡ true = ap (λ (b : Bool). b || (leb indent (spaces v) && not (is_document_mark v))) (white_all v all) in
            record {
              reads = record { others = n.reads.others; to = ap (behind_at indent) is ∙ ap next_at (continues_past indent v [] white) ∙ next_end ∙ sym end; same = same };
              extra = v ∷ [];
              lines_are = ap (block_lines indent) is ∙ continues_in indent v [] white ∙ ap (λ (x : List (List ℕ)). x ++ (v ∷ [])) (sym (stays_out indent l ls out));
              empty = inr (v, (refl, spaces_empty indent v r all stop (sym (ap (is_inside indent) line) ∙ out), clean_spaces v all));
              indented = λ e. absurd (not_given parent indent l ls out e);
            }
        | inr alike ↦
            let alike : Alike (place (length v) r ls) d = subst (λ (x : At). Alike x d) at alike in
            still n.reads.others n.reads.to same (v ++ d.line) d.later is
            (out_too v r d all stop alike (sym (ap (is_inside indent) line) ∙ out))
      ]
    ]
  where
    still : (others : List (List ℕ)) → next_at others ≡ d → Before (l ∷ ls) others (behind_at indent (l ∷ ls)) d → (m : List ℕ) (ms : List (List ℕ)) → others ≡ m ∷ ms → is_inside indent m ≡ false → BlockReads parent indent l ls d
    still others to same m ms is not_in = record {
      reads = record { others = others; to = ap (behind_at indent) is ∙ ap next_at (stops_at indent m ms not_in ∙ sym is) ∙ to; same = same };
      extra = [];
      lines_are = ap (block_lines indent) is ∙ stays_out indent m ms not_in ∙ ap (λ (x : List (List ℕ)). x ++ []) (sym (stays_out indent l ls out));
      empty = inl refl;
      indented = λ e. absurd (not_given parent indent l ls out e);
    }

    out_too : (v r : List ℕ) (d : At) → all_of is_space v ≡ true → stops is_space r ≡ true → Alike (place (length v) r ls) d → is_inside indent (v ++ r) ≡ false → is_inside indent (v ++ d.line) ≡ false
    out_too v r d all stop alike out =
        let o = or_parts (is_white_line (v ++ r)) (leb indent (spaces (v ++ r)) && not (is_document_mark (v ++ r))) out in
        rw (white_is v d.line all alike.instead.other, same_spaces v r d.line all stop (white_space d.line (solid_white d.line alike.instead.other)), same_marks v r ls d all alike) o.1

block_reads : (parent : Option ℕ) (indent : ℕ) (l : List ℕ) (ls : List (List ℕ)) (d : At) → Next (behind_at indent (l ∷ ls)) d → BlockReads parent indent l ls d
unfolding last_passed passed_on
block_reads parent indent l [] d next =
    elim (cases_Bool (is_inside indent l)) [
      | inl here ↦
          let end : behind_at indent (l ∷ []) ≡ the_end = ap next_at (continues_past indent l [] here) ∙ next_end in
          elim (next.either) [
            | inl is ↦ subst (λ (x : At). BlockReads parent indent l [] x) (sym is)
                (record { reads = last_passed (behind_at indent) l end; extra = []; lines_are = sym (append-nil (block_lines indent (l ∷ []))); empty = inl refl; indented = λ e. e })
            | inr alike ↦ not_end (behind_at indent (l ∷ [])) d end alike.instead
          ]
      | inr out ↦ outside parent indent l [] d out next
    ]
block_reads parent indent l (m ∷ ms) d next =
    elim (cases_Bool (is_inside indent l)) [
      | inl here ↦
          let passed : (x : List (List ℕ)) → behind_at indent (l ∷ x) ≡ behind_at indent x = λ x. ap next_at (continues_past indent l x here) in
          let r = block_reads parent indent m ms d (subst (λ (x : At). Next x d) (passed (m ∷ ms)) next) in
          record {
            reads = passed_on (behind_at indent) l (m ∷ ms) d passed r.reads;
            extra = r.extra;
            lines_are = continues_in indent l r.reads.others here ∙ ap (λ (x : List (List ℕ)). l ∷ x) r.lines_are ∙ ap (λ (x : List (List ℕ)). x ++ r.extra) (sym (continues_in indent l (m ∷ ms) here));
            empty = r.empty;
            indented = λ e. elim (cases_Bool (is_white_line l)) [
              | inl white ↦ skips parent l r.reads.others white ∙ r.indented (sym (skips parent l (m ∷ ms) white) ∙ e)
              | inr other ↦ decides parent l r.reads.others other ∙ sym (decides parent l (m ∷ ms) other) ∙ e
            ];
          }
      | inr out ↦ outside parent indent l (m ∷ ms) d out next
    ]

-- a last line that is empty gives nothing
together_empty : (folded j : Bool) (n : ℕ) (xs : List (List ℕ)) → together folded j n (xs ++ ([] ∷ [])) ≡ together folded j n xs
together_empty folded j n [] = refl
together_empty folded j n ([] ∷ xs) = together_empty folded j (n + 1) xs
together_empty folded j n ((c ∷ cs) ∷ xs) = ap (λ (x : List ℕ). between (j && is_joined folded (c ∷ cs)) n ++ (c ∷ cs) ++ x) (together_empty folded (is_joined folded (c ∷ cs)) 1 xs)

-- the text of the lines is the same
all_clean_more : (xs ys : List (List ℕ)) → all_clean (xs ++ ys) ≡ all_clean xs && all_clean ys
all_clean_more [] ys = refl
all_clean_more (x ∷ xs) ys = ap (λ (b : Bool). is_clean x && b) (all_clean_more xs ys) ∙ split (is_clean x) (all_clean xs) (all_clean ys)
  where
    split : (a b c : Bool) → a && (b && c) ≡ (a && b) && c
    split true b c = refl
    split false b c = refl

map_more : (f : List ℕ → List ℕ) (xs ys : List (List ℕ)) → map f (xs ++ ys) ≡ map f xs ++ map f ys
map_more f [] ys = refl
map_more f (x ∷ xs) ys = ap (λ (l : List (List ℕ)). f x ∷ l) (map_more f xs ys)

abbrev text_from : Bool → Bool → ℕ → List (List ℕ) → List ℕ
text_from folded strip indent lines = with_end strip (together folded false 0 (map (content indent) lines))

same_text : (folded strip : Bool) (indent : ℕ) (xs ys : List (List ℕ)) → (ys ≡ []) ⊎ ((v : List ℕ) × ((ys ≡ v ∷ []) × (content indent v ≡ []) × (is_clean v ≡ true))) → text_from folded strip indent (xs ++ ys) ≡ text_from folded strip indent xs
same_text folded strip indent xs ys empty =
    elim empty [
      | inl none ↦ ap (text_from folded strip indent) (ap (λ (y : List (List ℕ)). xs ++ y) none ∙ append-nil xs)
      | inr (v, (one, nothing, clean)) ↦
          ap (λ (l : List (List ℕ)). with_end strip (together folded false 0 l))
          (map_more (content indent) xs ys ∙ ap (λ (y : List (List ℕ)). map (content indent) xs ++ map (content indent) y) one ∙ ap (λ (y : List ℕ). map (content indent) xs ++ (y ∷ [])) nothing)
          ∙ ap (with_end strip) (together_empty folded false 0 (map (content indent) xs))
    ]

same_clean : (indent : ℕ) (xs ys : List (List ℕ)) → (ys ≡ []) ⊎ ((v : List ℕ) × ((ys ≡ v ∷ []) × (content indent v ≡ []) × (is_clean v ≡ true))) → all_clean (xs ++ ys) ≡ all_clean xs
same_clean indent xs ys empty =
    elim empty [
      | inl none ↦ ap all_clean (ap (λ (y : List (List ℕ)). xs ++ y) none ∙ append-nil xs)
      | inr (v, (one, nothing, clean)) ↦
          all_clean_more xs ys ∙ ap (λ (y : List (List ℕ)). all_clean xs && all_clean y) one ∙ ap (λ (b : Bool). all_clean xs && (b && true)) clean ∙ and_true (all_clean xs)
    ]
  where
    and_true : (a : Bool) → a && true ≡ a
    and_true true = refl
    and_true false = refl

-- A block's lines can have other content behind them.
record Gathers (folded strip : Bool) (parent : Option ℕ) (lines : List (List ℕ)) (w : ScalarToken) (d : At) : Type 0 where
  others : List (List ℕ)
  is : gathered folded strip (indent_of parent others) others ≡ Ok (record { scalar = w.scalar; end = d })
  same : Before lines others w.end d

gathers : (folded strip : Bool) (parent : Option ℕ) (l : List ℕ) (ls : List (List ℕ)) (w : ScalarToken) (d : At) (o : Option ℕ) → indent_of parent (l ∷ ls) ≡ o → gathered folded strip o (l ∷ ls) ≡ Ok w → Next w.end d
    → Gathers folded strip parent (l ∷ ls) w d
unfolding read_scalar_token
gathers folded strip parent l ls w d None none e next =
    let is : scalar_token [] (folded_style folded) (next_at (l ∷ ls)) ≡ w = scalar_token_is _ w e in
    let end : w.end ≡ next_at (l ∷ ls) = sym (ap (λ (x : ScalarToken). x.end) is) in
    let r = none_reads parent l ls d none (subst (λ (x : At). Next x d) end next) in
    record {
      others = r.reads.others;
      is =
          ap (λ (o : Option ℕ). gathered folded strip o r.reads.others) r.none ∙ ap (λ (x : At). Ok (scalar_token [] (folded_style folded) x)) r.reads.to
          ∙ ap (λ (x : ScalarToken). Ok (record { scalar = x.scalar; end = d })) is;
      same = subst (λ (x : At). Before (l ∷ ls) r.reads.others x d) (sym end) r.reads.same;
    }
gathers folded strip parent l ls w d (Some indent) some e next =
    let h = there (all_clean (block_lines indent (l ∷ ls))) (scalar_token (block_text folded strip indent (l ∷ ls)) (folded_style folded) (behind_at indent (l ∷ ls))) e in
    let end : w.end ≡ behind_at indent (l ∷ ls) = sym (ap (λ (x : ScalarToken). x.end) h.1) in
    let r = block_reads parent indent l ls d (subst (λ (x : At). Next x d) end next) in
    let text : block_text folded strip indent r.reads.others ≡ block_text folded strip indent (l ∷ ls) =
    ap (text_from folded strip indent) r.lines_are ∙ same_text folded strip indent (block_lines indent (l ∷ ls)) r.extra r.empty in
    let clean : all_clean (block_lines indent r.reads.others) ≡ true = ap all_clean r.lines_are ∙ same_clean indent (block_lines indent (l ∷ ls)) r.extra r.empty ∙ h.0 in
    record {
      others = r.reads.others;
      is =
          ap (λ (o : Option ℕ). gathered folded strip o r.reads.others) (r.indented some)
          ∙ ap (λ (b : Bool). cond b (Ok (scalar_token (block_text folded strip indent r.reads.others) (folded_style folded) (behind_at indent r.reads.others))) (Err Form)) clean
          ∙ ap (λ (t : List ℕ). Ok (scalar_token t (folded_style folded) (behind_at indent r.reads.others))) text
          ∙ ap (λ (x : At). Ok (scalar_token (block_text folded strip indent (l ∷ ls)) (folded_style folded) x)) r.reads.to
          ∙ ap (λ (x : ScalarToken). Ok (record { scalar = x.scalar; end = d })) h.1;
      same = subst (λ (x : At). Before (l ∷ ls) r.reads.others x d) (sym end) r.reads.same;
    }
  where
    there : (b : Bool) (x : ScalarToken) → cond b (read_scalar_token x) (Err Form) ≡ read_scalar_token w → (b ≡ true) × (x ≡ w)
    there true x h = (refl, scalar_token_is x w h)
    there false x h = absurd cc

-- behind a line, which stays
record Under (folded strip : Bool) (parent : Option ℕ) (a : At) (w : ScalarToken) (d : At) : Type 0 where
  others : List (List ℕ)
  is : gathered folded strip (indent_of parent others) others ≡ Ok (record { scalar = w.scalar; end = d })
  along : Along a w.end (place a.col a.line others) d

gathers_under : (folded strip : Bool) (parent : Option ℕ) (a : At) (w : ScalarToken) (d : At) → gathered folded strip (indent_of parent a.later) a.later ≡ Ok w → Next w.end d → Under folded strip parent a w d
unfolding read_scalar_token
gathers_under folded strip parent a w d e next = from a.later refl e
  where
    from : (ls : List (List ℕ)) → a.later ≡ ls → gathered folded strip (indent_of parent ls) ls ≡ Ok w → Under folded strip parent a w d
    from [] later e =
        let is : scalar_token [] (folded_style folded) (next_at []) ≡ w = scalar_token_is _ w e in
        let end : w.end ≡ the_end = sym (ap (λ (x : ScalarToken). x.end) is) ∙ next_end in
        elim (next.either) [
          | inl d_end ↦ record {
            others = [];
            is = e ∙ ap (λ (x : At). Ok (record { scalar = w.scalar; end = x })) (end ∙ sym d_end);
            along = record {
              before = [];
              front = a.line;
              here = ap (λ (x : List (List ℕ)). a.line ∷ x) later ∙ ap (λ (x : List ℕ). x ∷ []) (sym (append-nil a.line)) ∙ ap (joined [] a.line) (sym end);
              there = ap (λ (x : List ℕ). x ∷ []) (sym (append-nil a.line)) ∙ ap (joined [] a.line) (sym d_end);
            };
          }
          | inr alike ↦ not_end w.end d end alike.instead
        ]
    from (l ∷ ls) later e =
        let g = gathers folded strip parent l ls w d (indent_of parent (l ∷ ls)) refl e next in
        record {
          others = g.others;
          is = g.is;
          along = record {
            before = a.line ∷ g.same.before;
            front = g.same.front;
            here = ap (λ (x : List (List ℕ)). a.line ∷ x) (later ∙ g.same.lines_are);
            there = ap (λ (x : List (List ℕ)). a.line ∷ x) g.same.others_are;
          };
        }

-- A block scalar can have other content behind it.
pub record BlockAt (parent : Option ℕ) (a : At) (w : ScalarToken) (d : At) : Type 0 where
  pub others : List (List ℕ)
  pub is : block_at parent (place a.col a.line others) ≡ Ok (record { scalar = w.scalar; end = d })
  pub along : Along a w.end (place a.col a.line others) d

headed_at : (folded strip : Bool) (parent : Option ℕ) (line : List ℕ) (a : At) (w : ScalarToken) (d : At) → headed folded strip parent line a.later ≡ Ok w → Next w.end d
    → (others : List (List ℕ)) × (headed folded strip parent line others ≡ Ok (record { scalar = w.scalar; end = d })) × Along a w.end (place a.col a.line others) d
headed_at folded strip parent line a w d e next = from (ends line) e
  where
    from : (b : Bool) → cond b (gathered folded strip (indent_of parent a.later) a.later) (Err (cond (is_indicator line) NotCarried Form)) ≡ Ok w
        → (others : List (List ℕ)) × (cond b (gathered folded strip (indent_of parent others) others) (Err (cond (is_indicator line) NotCarried Form)) ≡ Ok (record { scalar = w.scalar; end = d })) × Along a w.end (place a.col a.line others) d
    from true e = let u = gathers_under folded strip parent a w d e next in (u.others, u.is, u.along)
    from false e = absurd cc

pub block_moves : (parent : Option ℕ) (a : At) (w : ScalarToken) (d : At) → block_at parent a ≡ Ok w → Next w.end d → BlockAt parent a w d
unfolding block_at
block_moves parent a w d e next =
    elim (cases_Bool (begins 45 (drop 1 a.line))) [
      | inl dash ↦
          let h = headed_at (begins 62 a.line) true parent (drop 1 (drop 1 a.line)) a w d (sym (if_true (begins 45 (drop 1 a.line)) _ _ dash) ∙ e) next in
          record { others = h.0; is = if_true (begins 45 (drop 1 a.line)) _ _ dash ∙ h.1; along = h.2 }
      | inr none ↦
          let h = headed_at (begins 62 a.line) false parent (drop 1 a.line) a w d (sym (if_false (begins 45 (drop 1 a.line)) _ _ none) ∙ e) next in
          record { others = h.0; is = if_false (begins 45 (drop 1 a.line)) _ _ none ∙ h.1; along = h.2 }
    ]
