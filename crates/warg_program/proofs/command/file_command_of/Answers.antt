use Rattle.std.proofs.Common.{◌≡◌, ◌∙◌, map, true, refl, sym, ap, codes, string_bytes}
use Rattle.std.specs.Cmp.{unsigned_Decides}
use Rattle.std.proofs.lemmas.Slice.Eq.{slice_eq-Decides}
use Rattle.warg_program.proofs.CommandLaws.{five_are, four_are, three_are}
use Rattle.warg_program.proofs.command.file_command_of.Goals as goal

pub returns-in-len3-clause-found : goal.returns-in-len3-clause-found
returns-in-len3-clause-found c =
    let words = three_are c.args.words.now c.command-item.result c.root-item.result c.out-item.result c.in-len3.len_at_least c.in-len3.len_below in
    let is_link : c.as_str.result.now ≡ codes "link" = (slice_eq-Decides unsigned_Decides c.as_str.result.now (codes "link") true c.if-eq.ensures).0 refl in
    let command = sym (ap string_bytes c.command-item.is) ∙ sym c.as_str.ensures.value ∙ is_link in
    let root = sym (ap string_bytes c.root-item.is) ∙ sym c.as_str-in-len3.ensures.value in
    let out = sym (ap string_bytes c.out-item.is) ∙ sym c.as_str-in-len3-2.ensures.value in
    ap (map string_bytes) words ∙ rw (command, root, out) refl

pub returns-in-len4-clause-found : goal.returns-in-len4-clause-found
returns-in-len4-clause-found c =
    let words = four_are c.args.words.now c.command-item-then-words-lt5.result c.root-item-then-words-lt5.result c.config-item.result c.out-item-then-words-lt5.result c.in-len4.len_at_least c.in-len4.len_below in
    let is_compose : c.as_str-then-words-lt5.result.now ≡ codes "compose" = (slice_eq-Decides unsigned_Decides c.as_str-then-words-lt5.result.now (codes "compose") true c.if-eq-2.ensures).0 refl in
    let command = sym (ap string_bytes c.command-item-then-words-lt5.is) ∙ sym c.as_str-then-words-lt5.ensures.value ∙ is_compose in
    let root = sym (ap string_bytes c.root-item-then-words-lt5.is) ∙ sym c.as_str-in-len4.ensures.value in
    let config = sym (ap string_bytes c.config-item.is) ∙ sym c.as_str-in-len4-2.ensures.value in
    let out = sym (ap string_bytes c.out-item-then-words-lt5.is) ∙ sym c.as_str-in-len4-3.ensures.value in
    ap (map string_bytes) words ∙ rw (command, root, config, out) refl

pub returns-in-len5-clause-found : goal.returns-in-len5-clause-found
returns-in-len5-clause-found c =
    let words = five_are c.args.words.now c.command-item-then-words-lt6.result c.plan-item.result c.replies-item.result c.checked-item.result c.out-item-then-words-lt6.result c.in-len5.len_at_least c.in-len5.len_below in
    let is_assemble : c.as_str-then-words-lt6.result.now ≡ codes "assemble" = (slice_eq-Decides unsigned_Decides c.as_str-then-words-lt6.result.now (codes "assemble") true c.if-eq-3.ensures).0 refl in
    let command = sym (ap string_bytes c.command-item-then-words-lt6.is) ∙ sym c.as_str-then-words-lt6.ensures.value ∙ is_assemble in
    let plan = sym (ap string_bytes c.plan-item.is) ∙ sym c.as_str-in-len5.ensures.value in
    let replies = sym (ap string_bytes c.replies-item.is) ∙ sym c.as_str-in-len5-2.ensures.value in
    let checked = sym (ap string_bytes c.checked-item.is) ∙ sym c.as_str-in-len5-3.ensures.value in
    let out = sym (ap string_bytes c.out-item-then-words-lt6.is) ∙ sym c.as_str-in-len5-4.ensures.value in
    ap (map string_bytes) words ∙ rw (command, plan, replies, checked, out) refl
