-- The first content of lines, and the next token of a flow, when other content stands there.
use Rattle.std.proofs.Common.{◌≡◌, ℕ, ◌+◌, ◌⊎◌, List, [], ◌∷◌, ◌++◌, drop, length, Bool, true, false, cond, refl, sym, ap, ◌∙◌, subst, inl, inr, append-nil}
use Rattle.std.proofs.lemmas.Bool.{cases_Bool}
use Rattle.yaml_scan.specs.Bytes.{is_space, is_white, spaces}
use Rattle.yaml_scan.specs.Lines.{is_passed}
use Rattle.yaml_small.specs.Places.{At, over, next_at, is_end}
use Rattle.yaml_small.specs.GrowthLaws.{the_end}
use Rattle.yaml_completion.proofs.Along.{joined, Along, Before, all_of, stops, parted, counted, dropped, gone_over, is_solid, solid_white, white_space, space_white, solid_over, passes}

-- other content at the same column
pub record Instead (a d : At) : Type 0 where
  pub col : d.col ≡ a.col
  pub some : is_end a ≡ false
  pub other : is_solid d.line ≡ true

-- other content, or the text's end
pub record Ready (a d : At) : Type 0 where
  pub either : (d ≡ the_end) ⊎ Instead a d

-- lines that are read as a place, and lines that are the same before it and are read as another place
pub record Reads (read : List (List ℕ) → At) (lines : List (List ℕ)) (d : At) : Type 0 where
  pub others : List (List ℕ)
  pub to : read others ≡ d
  pub same : Before lines others (read lines) d

unfoldable pub passed_on : (read : List (List ℕ) → At) (l : List ℕ) (ls : List (List ℕ)) (d : At) → ((ms : List (List ℕ)) → read (l ∷ ms) ≡ read ms) → Reads read ls d → Reads read (l ∷ ls) d
passed_on read l ls d passes r = record {
  others = l ∷ r.others;
  to = passes r.others ∙ r.to;
  same = record {
    before = l ∷ r.same.before;
    front = r.same.front;
    lines_are = subst (λ (x : At). l ∷ ls ≡ joined (l ∷ r.same.before) r.same.front x) (sym (passes ls)) (ap (λ (x : List (List ℕ)). l ∷ x) r.same.lines_are);
    others_are = ap (λ (x : List (List ℕ)). l ∷ x) r.same.others_are;
  };
}

unfoldable pub last_passed : (read : List (List ℕ) → At) (l : List ℕ) → read (l ∷ []) ≡ the_end → Reads read (l ∷ []) the_end
last_passed read l end = record {
  others = l ∷ [];
  to = end;
  same = record {
    before = [];
    front = l;
    lines_are = subst (λ (x : At). l ∷ [] ≡ joined [] l x) (sym end) (ap (λ (x : List ℕ). x ∷ []) (sym (append-nil l)));
    others_are = ap (λ (x : List ℕ). x ∷ []) (sym (append-nil l));
  };
}

pub next_passed : (l : List ℕ) → is_passed l ≡ true → (ms : List (List ℕ)) → next_at (l ∷ ms) ≡ next_at ms
unfolding next_at
next_passed l e ms = ap (λ (b : Bool). cond b (next_at ms) (record { col = spaces l; line = drop (spaces l) l; later = ms })) e

pub next_end : next_at [] ≡ the_end
unfolding next_at
next_end = refl

pub next_stands : (l : List ℕ) → is_passed l ≡ false → (ms : List (List ℕ)) → next_at (l ∷ ms) ≡ record { col = spaces l; line = drop (spaces l) l; later = ms }
unfolding next_at
next_stands l e ms = ap (λ (b : Bool). cond b (next_at ms) (record { col = spaces l; line = drop (spaces l) l; later = ms })) e

-- a place of these parts
abbrev pub place : ℕ → List ℕ → List (List ℕ) → At
place col line later = record { col = col; line = line; later = later }

-- white space, and what stands behind it
pub record Spaced (a : At) : Type 0 where
  pub front : List ℕ
  pub all : all_of is_white front ≡ true
  pub line : a.line ≡ front ++ (over a).line
  pub stop : stops is_white (over a).line ≡ true
  pub col : (over a).col ≡ a.col + length front
  pub later : (over a).later ≡ a.later

pub spaced_at : (a : At) → Spaced a
spaced_at a =
    let p = parted is_white a.line in
    let here : over a ≡ place (a.col + length p.front) p.rest a.later = ap (λ (l : List ℕ). over (place a.col l a.later)) p.is ∙ gone_over a.col p.front p.rest a.later p.all p.stop in
    record {
      front = p.front;
      all = p.all;
      line = p.is ∙ ap (λ (x : At). p.front ++ x.line) (sym here);
      stop = ap (λ (x : At). stops is_white x.line) here ∙ p.stop;
      col = ap (λ (x : At). x.col) here;
      later = ap (λ (x : At). x.later) here;
    }

-- a tab or nothing, and the text's end behind it
abbrev pub tab_if : Bool → List ℕ
tab_if true = 9 ∷ []
tab_if false = []

abbrev pub end_behind : Bool → At
end_behind tab = place 0 (tab_if tab) []

-- what parts a scalar from a comma behind it
pub data Parting : Type 0 where
  by_tab : Parting
  by_line_end : Parting
  by_nothing : Parting

-- a comma, and what stands behind it
abbrev pub comma_behind : Parting → ℕ → List ℕ → At
comma_behind by_tab col rest = place col (9 ∷ 44 ∷ rest) []
comma_behind by_line_end col rest = place col [] ((44 ∷ rest) ∷ [])
comma_behind by_nothing col rest = place col (44 ∷ rest) []

pub spaced : (v r : List ℕ) (ms : List (List ℕ)) → all_of is_space v ≡ true → stops is_space r ≡ true → place (spaces (v ++ r)) (drop (spaces (v ++ r)) (v ++ r)) ms ≡ place (length v) r ms
spaced v r ms all stop = ap (λ (n : ℕ). place n (drop n (v ++ r)) ms) (counted is_space v r all stop) ∙ ap (λ (x : List ℕ). place (length v) x ms) (dropped v r)

-- content behind spaces
pub stands : (v r : List ℕ) (ms : List (List ℕ)) → all_of is_space v ≡ true → is_solid r ≡ true → next_at ((v ++ r) ∷ ms) ≡ place (length v) r ms
stands v r ms all solid =
    next_stands (v ++ r) (passes v r (space_white v all) (solid_white r solid) ∙ solid_over r solid) ms
    ∙ spaced v r ms all (white_space r (solid_white r solid))

-- nothing behind spaces
pub blank : (v : List ℕ) → all_of is_white v ≡ true → next_at (v ∷ []) ≡ the_end
blank v all =
    next_passed v (sym (ap is_passed (append-nil v)) ∙ passes v [] all refl) [] ∙ next_end

-- how the other lines begin: as the first ones, or with other content behind the same spaces
pub record Begins (line : List ℕ) (lines others : List (List ℕ)) (d : At) : Type 0 where
  pub either : ((is_passed line ≡ true) × ((more : List (List ℕ)) × (others ≡ line ∷ more)))
      ⊎ ((v : List ℕ) × ((r : List ℕ) × ((line ≡ v ++ r) × (all_of is_space v ≡ true) × (stops is_space r ≡ true) × (next_at (line ∷ lines) ≡ place (length v) r lines) × (others ≡ (v ++ d.line) ∷ d.later))))

pub record NextReads (line : List ℕ) (lines : List (List ℕ)) (d : At) : Type 0 where
  pub reads : Reads next_at (line ∷ lines) d
  pub begin : Begins line lines reads.others d

first_stands : (v r : List ℕ) (ls : List (List ℕ)) (d : At) → all_of is_space v ≡ true → stops is_space r ≡ true → is_passed (v ++ r) ≡ false → Ready (next_at ((v ++ r) ∷ ls)) d → NextReads (v ++ r) ls d
first_stands v r ls d all stop here ready =
    let b = next_stands (v ++ r) here ls ∙ spaced v r ls all stop in
    elim (ready.either) [
      | inl end ↦
          let none : v ∷ [] ≡ (v ++ d.line) ∷ d.later = subst (λ (x : At). v ∷ [] ≡ (v ++ x.line) ∷ x.later) (sym end) (ap (λ (x : List ℕ). x ∷ []) (sym (append-nil v))) in
          record {
            reads = record {
              others = v ∷ [];
              to = blank v (space_white v all) ∙ sym end;
              same = record {
                before = [];
                front = v;
                lines_are = subst (λ (x : At). (v ++ r) ∷ ls ≡ joined [] v x) (sym b) refl;
                others_are = none;
              };
            };
            begin = record { either = inr (v, (r, (refl, all, stop, b, none))) };
          }
      | inr other ↦ record {
        reads = record {
          others = (v ++ d.line) ∷ d.later;
          to = stands v d.line d.later all other.other ∙ ap (λ (n : ℕ). place n d.line d.later) (sym (other.col ∙ ap (λ (x : At). x.col) b));
          same = record {
            before = [];
            front = v;
            lines_are = subst (λ (x : At). (v ++ r) ∷ ls ≡ joined [] v x) (sym b) refl;
            others_are = refl;
          };
        };
        begin = record { either = inr (v, (r, (refl, all, stop, b, refl))) };
      }
    ]

pub not_end : {P : Type 0} (a d : At) → a ≡ the_end → Instead a d → P
not_end a d end other = absurd (off (sym (ap is_end end) ∙ other.some))
  where
    off : true ≡ false → ⊥
    off e = absurd cc

stood : (l : List ℕ) (ls : List (List ℕ)) (d : At) → is_passed l ≡ false → Ready (next_at (l ∷ ls)) d → NextReads l ls d
stood l ls d no_it ready =
    let p = parted is_space l in
    subst (λ (x : List ℕ). Ready (next_at (x ∷ ls)) d → NextReads x ls d) (sym p.is)
    (first_stands p.front p.rest ls d p.all p.stop (sym (ap is_passed p.is) ∙ no_it)) ready

-- The first content of some lines can be replaced.
pub next_reads : (l : List ℕ) (ls : List (List ℕ)) (d : At) → Ready (next_at (l ∷ ls)) d → NextReads l ls d
unfolding last_passed passed_on
next_reads l [] d ready =
    elim (cases_Bool (is_passed l)) [
      | inl yes_it ↦
          let end = next_passed l yes_it [] ∙ next_end in
          elim (ready.either) [
            | inl is ↦ subst (λ (x : At). NextReads l [] x) (sym is) (record { reads = last_passed next_at l end; begin = record { either = inl (yes_it, ([], refl)) } })
            | inr other ↦ not_end (next_at (l ∷ [])) d end other
          ]
      | inr no_it ↦ stood l [] d no_it ready
    ]
next_reads l (m ∷ ms) d ready =
    elim (cases_Bool (is_passed l)) [
      | inl yes_it ↦
          let r = next_reads m ms d (subst (λ (x : At). Ready x d) (next_passed l yes_it (m ∷ ms)) ready) in
          record { reads = passed_on next_at l (m ∷ ms) d (next_passed l yes_it) r.reads; begin = record { either = inl (yes_it, (r.reads.others, refl)) } }
      | inr no_it ↦ stood l (m ∷ ms) d no_it ready
    ]

-- behind a line, which stays
pub record Below (read : List (List ℕ) → At) (a d : At) : Type 0 where
  pub others : List (List ℕ)
  pub to : read others ≡ d
  pub along : Along a (read a.later) (place a.col a.line others) d

pub below_line : (read : List (List ℕ) → At) (a d : At) (l : List ℕ) (ls : List (List ℕ)) → a.later ≡ l ∷ ls → Reads read (l ∷ ls) d → Below read a d
below_line read a d l ls e r = record {
  others = r.others;
  to = r.to;
  along = record {
    before = a.line ∷ r.same.before;
    front = r.same.front;
    here = ap (λ (x : List (List ℕ)). a.line ∷ x) (e ∙ r.same.lines_are) ∙ ap (λ (x : List (List ℕ)). joined (a.line ∷ r.same.before) r.same.front (read x)) (sym e);
    there = ap (λ (x : List (List ℕ)). a.line ∷ x) r.same.others_are;
  };
}

pub below_none : (read : List (List ℕ) → At) (a : At) → read [] ≡ the_end → a.later ≡ [] → Below read a the_end
below_none read a end e = record {
  others = [];
  to = end;
  along = record {
    before = [];
    front = a.line;
    here =
        ap (λ (x : List (List ℕ)). a.line ∷ x) e ∙ ap (λ (x : List ℕ). x ∷ []) (sym (append-nil a.line))
        ∙ ap (λ (x : At). joined [] a.line x) (sym (ap read e ∙ end));
    there = ap (λ (x : List ℕ). x ∷ []) (sym (append-nil a.line));
  };
}

-- The first content behind a place's line can be replaced.
pub next_below : (a d : At) → Ready (next_at a.later) d → Below next_at a d
next_below a d ready = from a.later refl
  where
    from : (ls : List (List ℕ)) → a.later ≡ ls → Below next_at a d
    from [] e =
        let end = ap next_at e ∙ next_end in
        elim (ready.either) [
          | inl is ↦ subst (λ (x : At). Below next_at a x) (sym is) (below_none next_at a next_end e)
          | inr other ↦ not_end (next_at a.later) d end other
        ]
    from (l ∷ ls) e = below_line next_at a d l ls e (next_reads l ls d (subst (λ (x : List (List ℕ)). Ready (next_at x) d) e ready)).reads
