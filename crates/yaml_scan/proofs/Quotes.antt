-- One more byte of each scan of a quoted scalar.
use Rattle.std.proofs.Common.{◌≡◌, ℕ, ◌≤◌, List, [], ◌∷◌, ◌++◌, length, drop, get_or, false, eqb, Option, Some, None, Result, Ok, Err, IfOk, IfErr, refl, sym, ap, ◌∙◌, append_assoc, arith}
use Rattle.yaml_scan.specs.Bytes.{is_control}
use Rattle.yaml_scan.specs.declared.quoted.Quoted.{Quoted}
use Rattle.yaml_scan.specs.declared.quoted.QuoteError.{QuoteError}
use Rattle.yaml_scan.specs.declared.quoted.QuoteError.TheVariants as errors
use Rattle.yaml_scan.specs.Quoted.{SingleQuoted, DoubleQuoted}
use Rattle.yaml_scan.specs.QuotedLaws.{found_is, single_found, single_scanned, double_found, double_scanned}
use Rattle.yaml_scan.specs.Finds.{Finds}
use Rattle.yaml_scan.specs.QuotedScan.{Found, with_text, single_at, Standing, double_at, double_quoted_at, closes, continued, turn_at, Turn, next_of, text_of}

pub with_text-append : (a b : List ℕ) (f : Found) → with_text (a ++ b) f ≡ with_text a (with_text b f)
with_text-append a b (Ok f) = rw append_assoc refl
with_text-append a b (Err flaw) = refl

-- two quotes
pub single_at-pair : (text text' rest behind after : List ℕ) → behind ≡ drop 1 rest → after ≡ drop 1 behind → 1 ≤ length rest → 1 ≤ length behind
    → get_or rest 0 0 ≡ 39 → get_or behind 0 0 ≡ 39 → text' ≡ text ++ (39 ∷ []) → with_text text' (single_at after) ≡ with_text text (single_at rest)
single_at-pair text text' [] behind after e f le more first second longer = absurd (omega arith)
single_at-pair text text' (c ∷ []) behind after e f le more first second longer = absurd (omega (arith, ap length e))
single_at-pair text text' (c ∷ d ∷ cs) behind after e f le more first second longer =
    let is : c ≡ 39 = first in
    let also : d ≡ 39 = sym (ap (λ (xs : List ℕ). get_or xs 0 0) e) ∙ second in
    let last : after ≡ cs = f ∙ ap (λ (xs : List ℕ). drop 1 xs) e in
    rw (is, also, last, longer) (with_text-append text (39 ∷ []) (single_at cs))

-- a byte that is no quote
pub single_at-byte : (text rest : List ℕ) → 1 ≤ length rest → eqb (get_or rest 0 0) 39 ≡ false → is_control rest ≡ false → with_text (text ++ (get_or rest 0 0 ∷ [])) (single_at (drop 1 rest)) ≡ with_text text (single_at rest)
single_at-byte text [] le other clean = absurd (omega arith)
single_at-byte text (c ∷ []) le other clean =
    let no : eqb c 39 ≡ false = other in
    rw (no, clean) refl
single_at-byte text (c ∷ d ∷ cs) le other clean =
    let no : eqb c 39 ≡ false = other in
    rw (no, clean) (with_text-append text (c ∷ []) (single_at (d ∷ cs)))

went_on : (text : List ℕ) (turn : Option Turn) (after : Standing) (f : Standing → Found) → Some after ≡ next_of turn → with_text (text ++ text_of turn) (f after) ≡ with_text text (continued turn f)
went_on text None after f e = absurd cc
went_on text (Some t) after f e =
    let same : after ≡ t.next = cc in
    rw same (with_text-append text t.text (f t.next))

-- a byte that does not close a double-quoted scalar
pub double_at-byte : (text text' rest behind : List ℕ) (standing after : Standing) → behind ≡ drop 1 rest → 1 ≤ length rest → closes standing (get_or rest 0 0) ≡ false
    → Some after ≡ next_of (turn_at standing (get_or rest 0 0) behind) → text' ≡ text ++ text_of (turn_at standing (get_or rest 0 0) behind)
    → with_text text' (double_at behind after) ≡ with_text text (double_at rest standing)
double_at-byte text text' [] behind standing after e le other next longer = absurd (omega arith)
double_at-byte text text' (c ∷ cs) behind standing after e le other next longer =
    let no : closes standing c ≡ false = other in
    let same : behind ≡ cs = e in
    let continues : Some after ≡ next_of (turn_at standing c cs) = next ∙ ap (λ (xs : List ℕ). next_of (turn_at standing c xs)) same in
    let text_is : text' ≡ text ++ text_of (turn_at standing c cs) = longer ∙ ap (λ (xs : List ℕ). text ++ text_of (turn_at standing c xs)) same in
    rw (no, same, text_is) (went_on text (turn_at standing c cs) after (double_at cs) continues)

-- What a scan finds is a quoted scalar, and where one stands only want of memory keeps the scan from it.
pub single_is_found : (line : List ℕ) (result : Result Quoted QuoteError) → Finds result (single_at line) → IfOk result (λ q. SingleQuoted line q.text.items q.rest.now)
unfolding found_is
single_is_found line (Ok q) finds = single_found line q.text.items q.rest.now finds
single_is_found line (Err e) finds = tt

pub double_is_found : (line : List ℕ) (result : Result Quoted QuoteError) → Finds result (double_quoted_at line) → IfOk result (λ q. DoubleQuoted line q.text.items q.rest.now)
unfolding found_is
double_is_found line (Ok q) finds = double_found line q.text.items q.rest.now finds
double_is_found line (Err e) finds = tt

only_memory : (found : Found) (text rest : List ℕ) (result : Result Quoted QuoteError) → Finds result found → found ≡ found_is text rest → IfErr result (λ e. e ≡ errors.Memory)
unfolding found_is
only_memory found text rest (Ok q) finds is = tt
only_memory found text rest (Err errors.Memory) finds is = refl
only_memory found text rest (Err errors.Open) finds is = absurd cc
only_memory found text rest (Err (errors.Bad left)) finds is = absurd cc

pub each_single : (line : List ℕ) (result : Result Quoted QuoteError) → Finds result (single_at line) → (text rest : List ℕ) → SingleQuoted line text rest → IfErr result (λ e. e ≡ errors.Memory)
each_single line result finds text rest stands = only_memory (single_at line) text rest result finds (single_scanned line text rest stands)

pub each_double : (line : List ℕ) (result : Result Quoted QuoteError) → Finds result (double_quoted_at line) → (text rest : List ℕ) → DoubleQuoted line text rest → IfErr result (λ e. e ≡ errors.Memory)
each_double line result finds text rest stands = only_memory (double_quoted_at line) text rest result finds (double_scanned line text rest stands)
