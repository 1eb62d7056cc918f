-- Sections that are given as their bytes.
use Rattle.std.proofs.Common.{◌≡◌, ℕ, ◌<◌, ◌^◌, List, [], ◌∷◌, ◌++◌, length, refl, sym, ap, ◌∙◌}
use Rattle.std.proofs.lemmas.List.{append-nil}
use Rattle.comp_format.specs.Numbers.{number_text}
use Rattle.comp_format.specs.Sections.{Section, none, more, Framed, ContentForm, Reads, section_id, section_items, content_at, header}
use Rattle.comp_format.specs.NumberLaws.{number_written}
use Rattle.comp_format.specs.SectionLaws.{section_again}
use Rattle.comp_format.specs.ScopeLaws.{section_within}
use Rattle.comp_encoder.specs.Builder.{Whole, IsKept, items_read}

-- a section's content is read as the section
pub section_read : (id : ℕ) (content : List ℕ) (s : Section) → section_id s ≡ id → ContentForm s content → items_read (content_at (length content) id content) ≡ section_items s
section_read id content s id_is form =
    ap (λ i. items_read (content_at (length content) i content)) (sym id_is) ∙ ap items_read (section_again s (length content) content (section_within s content form) form)

pub section_kept : (id : ℕ) (content : List ℕ) (s : Section) → section_id s ≡ id → ContentForm s content → IsKept (Whole id content)
section_kept id content s id_is form = record { section = s; id_is = id_is; items_are = sym (section_read id content s id_is form); form = form }

-- the component of one section reads as its items
pub one_section : (id : ℕ) (content : List ℕ) (s : Section) → section_id s ≡ id → ContentForm s content → length content < 2 ^ 32 → Reads (header ++ (id ∷ (number_text (length content) ++ content))) (section_items s)
one_section id content s id_is form short =
    let rest : List ℕ = number_text (length content) ++ content in
    let framed : Framed (section_id s) content (id ∷ rest) [] = record {
      counted = rest;
      is_id = ap (λ n. n ∷ rest) (sym id_is);
      after = content;
      count = number_written (length content) content short;
      is_there = sym (append-nil content);
    } in
    (more s none, sym (append-nil (section_items s)), (id ∷ rest, refl, (content, [], framed, form, refl)))
