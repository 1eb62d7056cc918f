-- Samples are read as what is emitted, and come back.
use Rattle.std.proofs.Common.{◌≡◌, ℕ, List, Option, Some, option_map, option_and_then, refl, ap, ℤ, bytes_eq, codes}
use Rattle.std.specs.Str.{IsUtf8}
use Rattle.yaml_text.specs.Written as spec
use Rattle.yaml_text.specs.Written.{ReadsBack, tree_of, pairs_of, member, no_members}
use Rattle.yaml_read.specs.Source.{UnknownField}
use Rattle.yaml_read.specs.Scalar.{signed}
use Rattle.yaml_read.specs.Nodes.{map_as, value_of}
use Rattle.yaml_read.specs.Emitted.{Reads}
use Rattle.yaml_read.specs.Laws.{plain_reads, any_reads}
use Rattle.yaml_read.specs.CollectionLaws.{map_reads}
use Rattle.yaml_read.specs.PartLaws.{mapped_reads, checked_reads, choice_reads, refused_reads}
use Rattle.serde_yaml2.specs.ReturnLaws.{signed_reads_back, signed_comes_back}
use Rattle.yaml_example.specs.Fields.{Parts, Seen, seen_sample, no_parts, with_x, with_y, least, most, takes, fills, sample_of, sample_node, sample_at, written_sample, SampleReturns}

pub fields_read : (p : Parts) (key : List ℕ) → Reads (takes p key) (fills p key)
fields_read p key =
    choice_reads (bytes_eq key (codes "x")) _ _ _ _ (mapped_reads (with_x p) _ _ (plain_reads (signed least most)))
    (choice_reads (bytes_eq key (codes "y")) _ _ _ _ (mapped_reads (with_y p) _ _ any_reads) (refused_reads (UnknownField key)))

pub sample_reads : Reads sample_node sample_at
sample_reads = checked_reads sample_of _ _ (map_reads takes fills fields_read no_parts)

utf8_x : IsUtf8 (codes "x")
unfolding lib.Utf8.encode
utf8_x = (codes "x", (refl, refl))

utf8_y : IsUtf8 (codes "y")
unfolding lib.Utf8.encode
utf8_y = (codes "y", (refl, refl))

pub sample_reads_back : (x : ℤ) (y : List ℕ) → SampleReturns x y → ReadsBack (written_sample x y)
sample_reads_back x y h = (utf8_x, signed_reads_back least most x refl refl h.0, (utf8_y, h.1, tt))

pub sample_comes_back : (x : ℤ) (y : List ℕ) → SampleReturns x y → sample_node (Some (tree_of (written_sample x y))) ≡ Some (seen_sample x y)
sample_comes_back x y h =
    ap
    (λ (o : Option ℤ). option_and_then (λ f. value_of (sample_of f))
    (option_and_then (λ p. map_as takes p (pairs_of (member (codes "y") (spec.text y) no_members))) (option_map (with_x no_parts) o)))
    (signed_comes_back least most x refl refl h.0)

pub sample_alike : (x : ℤ) (y : List ℕ) (v : ℤ) (w : List ℕ) → seen_sample x y ≡ seen_sample v w → written_sample x y ≡ written_sample v w
sample_alike x y v w e = ap (λ (s : Seen). written_sample s.x s.y) e
