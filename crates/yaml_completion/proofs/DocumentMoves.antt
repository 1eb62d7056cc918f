-- Steps before and behind a document's node, to a place where something else stands.
use Rattle.std.proofs.Common.{◌≡◌, ℕ, ◌+◌, List, [], ◌∷◌, drop, Bool, true, false, ◌||◌, cond, eqb, Ok, nat_eq, refl, sym, ap, ◌∙◌, inl, inr, arith}
use Rattle.std.specs.List.{starts_with}
use Rattle.std.proofs.lemmas.Bool.{eqb-true, ne_eqb}
use Rattle.yaml_scan.specs.Bytes.{is_control, ends_mark}
use Rattle.yaml_scan.specs.Lines.{ends, is_comment_line, is_dashes, is_dots}
use Rattle.yaml_small.specs.declared.event.Event.TheVariants.{StreamEnd, DocumentStart, DocumentEnd}
use Rattle.yaml_small.specs.declared.state.Mode.TheVariants.{Root, Last, Ended}
use Rattle.yaml_small.specs.declared.state.Frame.{Frame}
use Rattle.yaml_small.specs.Places.{At, past, next_at, begins, is_end, at_dashes, at_dots}
use Rattle.yaml_small.specs.Scalars.{Form, NotCarried}
use Rattle.yaml_small.specs.Step.{transition, missing_transition, line_fault, dots_end, root_done, document_at, last_at}
use Rattle.yaml_small.specs.GrowthLaws.{the_end}
use Rattle.yaml_small.specs.MarkLaws.{and_parts}
use Rattle.yaml_completion.proofs.Along.{stays, ahead, is_solid}
use Rattle.yaml_completion.proofs.Contents.{Ready, place}
use Rattle.yaml_completion.proofs.Scans.{low_control, three}
use Rattle.yaml_completion.proofs.Blocks.{Next}
use Rattle.yaml_completion.proofs.Frames.{in_flow, nested}
use Rattle.yaml_completion.proofs.Moves.{Moves, moves_err, moves_if, moves_ok}
use Rattle.yaml_completion.proofs.Leaves.{same_mode}
use Rattle.yaml_completion.proofs.Wraps.{moves_next, alike_line}
use Rattle.yaml_completion.proofs.BlockMoves.{next_alike, solid_end}

dots_solid : (line : List ℕ) → is_dots line ≡ true → is_solid line ≡ true
dots_solid [] e = absurd cc
dots_solid (c ∷ cs) e = ap (λ (x : ℕ). is_solid (x ∷ cs)) (sym (eqb-true 46 c (and_parts (eqb 46 c) _ (and_parts (starts_with nat_eq (c ∷ cs) (46 ∷ 46 ∷ 46 ∷ [])) _ e).0).0))

dots_clean : (line : List ℕ) → is_dots line ≡ true → is_control line ≡ false
dots_clean [] e = refl
dots_clean (c ∷ cs) e =
    ap (λ (x : ℕ). is_control (x ∷ cs)) (sym (eqb-true 46 c (and_parts (eqb 46 c) _ (and_parts (starts_with nat_eq (c ∷ cs) (46 ∷ 46 ∷ 46 ∷ [])) _ e).0).0)) ∙ low_control 46 cs refl

dashes_line : (line : List ℕ) → is_dashes line ≡ true → line ≡ 45 ∷ 45 ∷ 45 ∷ drop 3 line
dashes_line line e = three 45 45 45 line (and_parts (starts_with nat_eq line (45 ∷ 45 ∷ 45 ∷ [])) (ends_mark (drop 3 line)) e).0

dashes_mark : (line : List ℕ) → is_dashes line ≡ true → ends_mark (drop 3 line) ≡ true
dashes_mark line e = (and_parts (starts_with nat_eq line (45 ∷ 45 ∷ 45 ∷ [])) (ends_mark (drop 3 line)) e).1

at_end : (a : At) → Moves [] (λ c. c ≡ the_end) (λ c. Ok (transition DocumentEnd c Last (missing_transition c).change)) a
at_end a = moves_ok [] (λ c. c ≡ the_end) (λ c. transition DocumentEnd c Last (missing_transition c).change) a
    (λ d fits. record { at = d; like = fits; along = stays a d; mode = Last; same = same_mode Last; is = refl }) (λ rest tie. absurd cc) (record { nest = refl; mode_matches = tt })

pub moves_root_done : (g : Bool) (a : At) → Moves [] (Next a) (root_done g) a
unfolding root_done dots_end
moves_root_done g a =
    moves_if [] (Next a) is_end _ _ a
    (λ is. moves_ok [] (λ c. Next a c × (is_end c ≡ true)) (λ c. transition DocumentEnd c Last (missing_transition c).change) a
    (λ d fits. record { at = d; like = (record { either = inl fits }, ap is_end fits); along = stays a d; mode = Last; same = same_mode Last; is = refl }) (λ rest tie. absurd cc) (record { nest = refl; mode_matches = tt }))
    (λ some. moves_if [] (λ c. Next a c × (is_end c ≡ false)) at_dots _ _ a
    (λ dots.
    let here = (and_parts (eqb a.col 0) (is_dots a.line) dots).1 in
    moves_if [] (λ c. (Next a c × (is_end c ≡ false)) × (at_dots c ≡ true)) (λ c. ends (drop 3 c.line)) _ _ a
    (λ last. moves_next [] (λ c. c ≡ the_end) (λ c. ((Next a c × (is_end c ≡ false)) × (at_dots c ≡ true)) × (ends (drop 3 c.line) ≡ true)) (λ c. Ok (transition DocumentEnd c Last (missing_transition c).change)) a
    (at_end (next_at a.later)) (λ c end. record { either = inl end })
    (λ c line col.
    let alike = alike_line a c (dots_solid a.line here) (dots_clean a.line here) line col in
    (((next_alike a c alike, end_same a c line ∙ some), alike.dots ∙ dots), ap (λ (l : List ℕ). ends (drop 3 l)) line ∙ last)))
    (λ more. moves_err [] _ (λ c. Form) a))
    (λ none. moves_err [] _ (λ c. cond (at_dashes c) NotCarried (line_fault g c)) a))
  where
    end_same : (a c : At) → c.line ≡ a.line → is_end c ≡ is_end a
    end_same a c line = ap (λ (l : List ℕ). is_end (place 0 l [])) line

pub moves_document : (k : List Frame) (a : At) → in_flow false k ≡ false → nested false k ≡ true → Moves k (Ready a) document_at a
unfolding document_at
moves_document k a flow nest =
    moves_if k (Ready a) is_end _ _ a
    (λ is. moves_ok k (λ c. Ready a c × (is_end c ≡ true)) (λ c. transition StreamEnd c Ended (missing_transition c).change) a
    (λ d fits. record { at = d; like = (record { either = inl fits }, ap is_end fits); along = stays a d; mode = Ended; same = same_mode Ended; is = refl }) (λ rest tie. absurd cc) (record { nest = nest; mode_matches = tt }))
    (λ some. moves_if k (λ c. Ready a c × (is_end c ≡ false)) at_dashes _ _ a
    (λ dashes.
    let p = and_parts (eqb a.col 0) (is_dashes a.line) dashes in
    moves_ok k (λ c. (Ready a c × (is_end c ≡ false)) × (at_dashes c ≡ true)) (λ c. transition DocumentStart (past 3 c) (Root true) (missing_transition c).change) a
    (λ d fits.
    let mark = fits.mark (dashes_mark a.line p.1) in
    let c = place a.col (45 ∷ 45 ∷ 45 ∷ d.line) d.later in
    record {
      at = c;
      like = ((record { either = inr (record { col = refl; some = some; other = refl }) }, refl), rw (p.0, mark) refl);
      along = ahead (45 ∷ 45 ∷ 45 ∷ []) a (past 3 a) c d (dashes_line a.line p.1) refl refl refl;
      mode = Root true;
      same = same_mode (Root true);
      is = rw (← fits.col) refl;
    })
    (λ rest tie. absurd cc) (record { nest = nest; mode_matches = (flow, ne_eqb (a.col + 3) 0 (λ none. absurd (omega (arith, none)))) }))
    (λ none. moves_if k (λ c. (Ready a c × (is_end c ≡ false)) × (at_dashes c ≡ false)) (λ c. begins 37 c.line) _ _ a
    (λ bad. moves_err k _ (λ c. NotCarried) a)
    (λ good. moves_ok k (λ c. ((Ready a c × (is_end c ≡ false)) × (at_dashes c ≡ false)) × (begins 37 c.line ≡ false)) (λ c. transition DocumentStart c (Root false) (missing_transition c).change) a
    (λ d fits. record {
      at = d;
      like = (((record { either = inr fits.instead }, solid_end d fits.instead.other), fits.dashes none), fits.percent good);
      along = stays a d;
      mode = Root false;
      same = same_mode (Root false);
      is = refl;
    })
    (λ rest tie. absurd cc) (record { nest = nest; mode_matches = (flow, some) }))))

pub moves_last : (k : List Frame) (a : At) → nested false k ≡ true → Moves k (λ c. c ≡ the_end) last_at a
unfolding last_at
moves_last k a nest =
    moves_if k (λ c. c ≡ the_end) is_end _ _ a
    (λ is. moves_ok k (λ c. (c ≡ the_end) × (is_end c ≡ true)) (λ c. transition StreamEnd c Ended (missing_transition c).change) a
    (λ d fits. record { at = d; like = (fits, ap is_end fits); along = stays a d; mode = Ended; same = same_mode Ended; is = refl }) (λ rest tie. absurd cc) (record { nest = nest; mode_matches = tt }))
    (λ more. moves_err k _ (λ c. cond (at_dots c || is_comment_line c.line) Form NotCarried) a)
