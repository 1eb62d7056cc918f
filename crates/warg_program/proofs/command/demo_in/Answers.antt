use Rattle.std.proofs.Common.{◌≡◌, ◌∙◌, ◌∷◌, [], map, true, refl, sym, ap, codes, string_bytes}
use Rattle.std.specs.Cmp.{unsigned_Decides}
use Rattle.std.proofs.lemmas.Slice.Eq.{slice_eq-Decides}
use Rattle.warg_program.specs.Command.{asked}
use Rattle.warg_program.proofs.CommandLaws.{demo_is, no_demo, three_are}
use Rattle.warg_program.proofs.command.demo_in.Goals as goal

pub returns-in-Some : goal.returns-in-Some
returns-in-Some c =
    let words = three_are c.args.words.now c.command-item.result c.seed-item.result c.count-item.result c.in-len3.len_at_least c.in-len3.len_below in
    let is_demo : c.as_str.result.now ≡ codes "demo" = (slice_eq-Decides unsigned_Decides c.as_str.result.now (codes "demo") true c.if-eq.ensures).0 refl in
    let command = sym (ap string_bytes c.command-item.is) ∙ sym c.as_str.ensures.value ∙ is_demo in
    let seed = sym (ap string_bytes c.seed-item.is) ∙ sym c.as_str-in-len3.ensures.value in
    let count = sym (ap string_bytes c.count-item.is) ∙ sym c.as_str-in-len3-2.ensures.value in
    let are : map string_bytes c.args.words.now ≡ codes "demo" ∷ c.as_str-in-len3.result.now ∷ c.as_str-in-len3-2.result.now ∷ [] = ap (map string_bytes) words ∙ rw (command, seed, count) refl in
    demo_is (map string_bytes c.args.words.now) c.as_str-in-len3.result.now c.as_str-in-len3-2.result.now (asked c.in-Some.command) are c.in-Some.ensures

pub returns-in-None : goal.returns-in-None
returns-in-None c =
    let words = three_are c.args.words.now c.command-item.result c.seed-item.result c.count-item.result c.in-len3.len_at_least c.in-len3.len_below in
    let is_demo : c.as_str.result.now ≡ codes "demo" = (slice_eq-Decides unsigned_Decides c.as_str.result.now (codes "demo") true c.if-eq.ensures).0 refl in
    let command = sym (ap string_bytes c.command-item.is) ∙ sym c.as_str.ensures.value ∙ is_demo in
    let seed = sym (ap string_bytes c.seed-item.is) ∙ sym c.as_str-in-len3.ensures.value in
    let count = sym (ap string_bytes c.count-item.is) ∙ sym c.as_str-in-len3-2.ensures.value in
    let are : map string_bytes c.args.words.now ≡ codes "demo" ∷ c.as_str-in-len3.result.now ∷ c.as_str-in-len3-2.result.now ∷ [] = ap (map string_bytes) words ∙ rw (command, seed, count) refl in
    no_demo (map string_bytes c.args.words.now) c.as_str-in-len3.result.now c.as_str-in-len3-2.result.now are c.in-None.ensures
