-- A text of given lines.
use Rattle.std.proofs.Common.{◌≡◌, ℕ, List, [], ◌∷◌, ◌++◌, Bool, true, false, not, cond, ◌&&◌, eqb, refl, sym, ap, ◌∙◌, append-nil}
use Rattle.yaml_scan.specs.Lines.{lines_of, lengthened, begins_feed}
use Rattle.yaml_small.specs.Places.{At}
use Rattle.yaml_small.specs.MarkLaws.{and_parts}
use Rattle.yaml_completion.proofs.Along.{joined}

-- no line feed
abbrev pub no_feed : List ℕ → Bool
no_feed [] = true
no_feed (c ∷ cs) = not (eqb c 10) && no_feed cs

abbrev pub no_feeds : List (List ℕ) → Bool
no_feeds [] = true
no_feeds (line ∷ lines) = no_feed line && no_feeds lines

-- lines, each ended by a carriage return and a line feed but the last
abbrev pub text_of : List (List ℕ) → List ℕ
text_of [] = []
text_of (line ∷ []) = line
text_of (line ∷ next ∷ lines) = line ++ (13 ∷ 10 ∷ text_of (next ∷ lines))

-- a byte of a line, before what doesn't begin with a line feed
pub one_more : (c : ℕ) (cs : List ℕ) → not (eqb c 10) ≡ true → begins_feed cs ≡ false → lines_of (c ∷ cs) ≡ lengthened c (lines_of cs)
one_more c cs e none = from (eqb c 10) (eqb c 13) (begins_feed cs) e none
  where
    from : (a b d : Bool) → not a ≡ true → d ≡ false → cond a ([] ∷ lines_of cs) (cond (b && d) (lines_of cs) (lengthened c (lines_of cs))) ≡ lengthened c (lines_of cs)
    from true b d e none = absurd cc
    from false true true e none = absurd cc
    from false true false e none = refl
    from false false d e none = refl

pub feedless : (line rest : List ℕ) → no_feed line ≡ true → begins_feed rest ≡ false → begins_feed (line ++ rest) ≡ false
feedless [] rest e none = none
feedless (c ∷ cs) rest e none = from (eqb c 10) (and_parts (not (eqb c 10)) (no_feed cs) e).0
  where
    from : (b : Bool) → not b ≡ true → b ≡ false
    from true e = absurd cc
    from false e = refl

line_alone : (line : List ℕ) → no_feed line ≡ true → lines_of line ≡ line ∷ []
line_alone [] e = refl
line_alone (c ∷ cs) e =
    let p = and_parts (not (eqb c 10)) (no_feed cs) e in
    one_more c cs p.0 (feedless_alone cs p.1) ∙ ap (lengthened c) (line_alone cs p.1)
  where
    feedless_alone : (cs : List ℕ) → no_feed cs ≡ true → begins_feed cs ≡ false
    feedless_alone cs e = ap begins_feed (sym (append-nil cs)) ∙ feedless cs [] e refl

-- no text of lines begins with a line feed
pub text_start : (line : List ℕ) (lines : List (List ℕ)) → no_feeds (line ∷ lines) ≡ true → begins_feed (text_of (line ∷ lines)) ≡ false
text_start line [] e = ap begins_feed (sym (append-nil line)) ∙ feedless line [] (and_parts (no_feed line) true e).0 refl
text_start line (m ∷ lines) e = feedless line (13 ∷ 10 ∷ text_of (m ∷ lines)) (and_parts (no_feed line) (no_feeds (m ∷ lines)) e).0 refl

line_ended : (line rest : List ℕ) → no_feed line ≡ true → lines_of (line ++ (13 ∷ 10 ∷ rest)) ≡ line ∷ lines_of rest
line_ended [] rest e = refl
line_ended (c ∷ cs) rest e =
    let p = and_parts (not (eqb c 10)) (no_feed cs) e in
    one_more c (cs ++ (13 ∷ 10 ∷ rest)) p.0 (feedless cs (13 ∷ 10 ∷ rest) p.1 refl) ∙ ap (lengthened c) (line_ended cs rest p.1)

pub lines_again : (line : List ℕ) (lines : List (List ℕ)) → no_feeds (line ∷ lines) ≡ true → lines_of (text_of (line ∷ lines)) ≡ line ∷ lines
lines_again line [] e = line_alone line (and_parts (no_feed line) true e).0
lines_again line (next ∷ lines) e =
    let p = and_parts (no_feed line) (no_feeds (next ∷ lines)) e in
    line_ended line (text_of (next ∷ lines)) p.0 ∙ ap (λ (x : List (List ℕ)). line ∷ x) (lines_again next lines p.1)

-- lines of a text hold none
longer_feed : (c : ℕ) (lines : List (List ℕ)) → not (eqb c 10) ≡ true → no_feeds lines ≡ true → no_feeds (lengthened c lines) ≡ true
longer_feed c [] e none = rw e refl
longer_feed c (line ∷ lines) e none = rw e none

pub lines_feedless : (text : List ℕ) → no_feeds (lines_of text) ≡ true
lines_feedless [] = refl
lines_feedless (c ∷ cs) = from (eqb c 10) refl (eqb c 13 && begins_feed cs) (lines_feedless cs)
  where
    from : (a : Bool) → eqb c 10 ≡ a → (b : Bool) → no_feeds (lines_of cs) ≡ true → no_feeds (cond a ([] ∷ lines_of cs) (cond b (lines_of cs) (lengthened c (lines_of cs)))) ≡ true
    from true is b none = none
    from false is true none = none
    from false is false none = longer_feed c (lines_of cs) (rw is refl) none

-- other lines behind the same front hold none
feed_split : (u r : List ℕ) → no_feed (u ++ r) ≡ true → (no_feed u ≡ true) × (no_feed r ≡ true)
feed_split [] r e = (refl, e)
feed_split (c ∷ u) r e =
    let p = and_parts (not (eqb c 10)) (no_feed (u ++ r)) e in
    let q = feed_split u r p.1 in (rw p.0 q.0, q.1)

feed_join : (u r : List ℕ) → no_feed u ≡ true → no_feed r ≡ true → no_feed (u ++ r) ≡ true
feed_join [] r e f = f
feed_join (c ∷ u) r e f =
    let p = and_parts (not (eqb c 10)) (no_feed u) e in
    rw p.0 (feed_join u r p.1 f)

-- a place's line and those behind it hold none
pub tidy_place : (before : List (List ℕ)) (front : List ℕ) (a : At) → no_feeds (joined before front a) ≡ true → no_feeds (a.line ∷ a.later) ≡ true
tidy_place [] front a e =
    let p = and_parts (no_feed (front ++ a.line)) (no_feeds a.later) e in
    rw (feed_split front a.line p.0).1 p.1
tidy_place (line ∷ before) front a e = tidy_place before front a (and_parts (no_feed line) (no_feeds (joined before front a)) e).1
