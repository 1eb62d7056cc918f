-- Plain scalars of one line (YAML 1.2.2, section 7.3.3).
use Rattle.std.specs.Prelude.{ℕ, zero, suc, List, [], ◌∷◌, Bool, true, false, not, ◌==◌, ◌&&◌, ◌||◌, if◌then◌else◌}
use Rattle.yaml_scan.specs.Bytes.{exclamation_mark, double_quote, hash, percent, ampersand, single_quote, asterisk, dash, colon, greater_than, question_mark, at_sign, grave_accent, vertical_bar, is_white, is_flow_mark, is_gap, begins_flow_mark, is_control}

-- one of ,[]{}#&*!|>'"%@ and the backquote
abbrev pub is_indicator : ℕ → Bool
is_indicator c =
    is_flow_mark c || c == hash || c == ampersand || c == asterisk || c == exclamation_mark || c == vertical_bar
    || c == greater_than || c == single_quote || c == double_quote || c == percent || c == at_sign || c == grave_accent

-- what makes a colon, a dash or a question mark in front of it a mark, in a flow or not
abbrev pub parts : Bool → List ℕ → Bool
parts flow line = is_gap line || (flow && begins_flow_mark line)

-- a plain scalar may begin here
abbrev pub begins_plain : Bool → List ℕ → Bool
begins_plain flow [] = false
begins_plain flow (c ∷ cs) =
    not (is_white c || is_indicator c || is_control (c ∷ cs))
    && not ((c == dash || c == question_mark || c == colon) && parts flow cs)

-- a plain scalar ends before this, which stands behind white space or not
abbrev pub ends_plain : Bool → Bool → List ℕ → Bool
ends_plain flow behind_white [] = true
ends_plain flow behind_white (c ∷ cs) =
    (c == hash && behind_white) || (c == colon && parts flow cs) || (flow && is_flow_mark c) || is_control (c ∷ cs)

-- white space at the end is dropped
abbrev pub with_byte : ℕ → ℕ → ℕ
with_byte c zero = if is_white c then 0 else 1
with_byte c (suc len) = suc (suc len)

-- how many bytes of the line the plain scalar has
abbrev pub plain_len : Bool → Bool → List ℕ → ℕ
plain_len flow behind_white [] = 0
plain_len flow behind_white (c ∷ cs) =
    if ends_plain flow behind_white (c ∷ cs) then 0 else with_byte c (plain_len flow (is_white c) cs)
