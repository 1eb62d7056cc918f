-- Choices are read as what is emitted, and come back.
use Rattle.std.proofs.Common.{◌≡◌, ℕ, List, Some, option_map, Ok, refl, ap, bytes_eq, codes}
use Rattle.yaml_text.specs.Written as spec
use Rattle.yaml_text.specs.Written.{ReadsBack, tree_of}
use Rattle.yaml_read.specs.Source.{UnknownField}
use Rattle.yaml_read.specs.Scalar.{unsigned, unsigned_at, signed, signed_at, any_at, unit_at}
use Rattle.yaml_read.specs.Nodes.{plain_node, any_node, unit_node}
use Rattle.yaml_read.specs.Emitted.{Reads}
use Rattle.yaml_read.specs.Laws.{plain_reads, any_reads, unit_reads}
use Rattle.yaml_read.specs.PartLaws.{enum_reads, pair_reads, mapped_reads, choice_reads as or_reads, refused_reads}
use Rattle.serde_yaml2.specs.ReturnLaws.{below_u64, unsigned_reads_back, unsigned_comes_back, signed_reads_back, signed_comes_back, pair_comes_back}
use Rattle.yaml_example.specs.Fields.{least, most, sample_node, sample_at}
use Rattle.yaml_example.specs.FieldLaws.{sample_reads, sample_reads_back, sample_comes_back}
use Rattle.yaml_example.specs.Choices.{Kind, nothing, count, tuple, both, as_nothing, as_tuple, as_both, tuple_node, tuple_at, takes, fills, choice_node, choice_at, written_choice, ChoiceReturns}

tuple_reads : Reads tuple_node tuple_at
tuple_reads = pair_reads (plain_node (signed least most)) (any_node Ok) (signed_at least most) any_at (plain_reads (signed least most)) any_reads

pub kinds_read : (k : Kind) (key : List ℕ) → Reads (takes k key) (fills k key)
kinds_read k key =
    or_reads (bytes_eq key (codes "Nothing")) _ _ _ _ (mapped_reads as_nothing unit_node unit_at unit_reads)
    (or_reads (bytes_eq key (codes "Number")) _ _ _ _ (mapped_reads count _ (unsigned_at 18446744073709551615) (plain_reads (unsigned 18446744073709551615)))
    (or_reads (bytes_eq key (codes "VariantC")) _ _ _ _ (mapped_reads as_tuple tuple_node tuple_at tuple_reads)
    (or_reads (bytes_eq key (codes "Both")) _ _ _ _ (mapped_reads as_both sample_node sample_at sample_reads) (refused_reads (UnknownField key)))))

pub choice_reads : Reads choice_node choice_at
choice_reads = enum_reads takes fills kinds_read nothing

pub choice_reads_back : (k : Kind) → ChoiceReturns k → ReadsBack (written_choice k)
choice_reads_back nothing h = refl
choice_reads_back (count n) h = (refl, unsigned_reads_back 18446744073709551615 n below_u64 h)
choice_reads_back (tuple x y) h = (refl, (signed_reads_back least most x refl refl h.0, (h.1, tt)))
choice_reads_back (both x y) h = (refl, sample_reads_back x y h)

pub choice_comes_back : (k : Kind) → ChoiceReturns k → choice_node (Some (tree_of (written_choice k))) ≡ Some k
choice_comes_back nothing h = refl
choice_comes_back (count n) h = ap (option_map count) (unsigned_comes_back 18446744073709551615 n below_u64 h)
choice_comes_back (tuple x y) h =
    ap (option_map as_tuple) (pair_comes_back (plain_node (signed least most)) (any_node Ok) (spec.number x) (spec.text y) x y (signed_comes_back least most x refl refl h.0) refl)
choice_comes_back (both x y) h = ap (option_map as_both) (sample_comes_back x y h)

pub choice_alike : (c d : Kind) → c ≡ d → written_choice c ≡ written_choice d
choice_alike c d e = ap written_choice e
