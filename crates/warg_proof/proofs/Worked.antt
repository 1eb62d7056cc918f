-- The definitions at small trees, computed.
use Rattle.std.proofs.Common.{◌≡◌, [], ◌∷◌, refl}
use Rattle.sha2.specs.Sha256.{first_words, schedule, rounds, compress, hash_after, digest_bytes, sha256}
use Rattle.warg_proof.specs.LogTree.{range, root_within, root, ranges_beside, inclusion_ranges, ranges_joining, consistency_ranges}
use Rattle.warg_proof.specs.TrueProofs.{needed_within}

-- the path of the first of seven entries (RFC 6962 section 2.1.3): the last three, two, and one entry
first_of_seven : inclusion_ranges 7 0 ≡ range 2 1 3 ∷ range 1 1 2 ∷ range 0 1 1 ∷ []
unfolding ranges_beside
first_of_seven = refl

-- the path of the last of seven entries: the first four entries and two more
last_of_seven : inclusion_ranges 7 6 ≡ range 2 0 4 ∷ range 1 2 2 ∷ []
unfolding ranges_beside
last_of_seven = refl

-- the proof that seven entries continue three (RFC 6962 section 2.1.3), and that they continue four and six
three_of_seven : consistency_ranges 3 7 ≡ range 2 1 3 ∷ range 1 0 2 ∷ range 0 3 1 ∷ range 0 2 1 ∷ []
unfolding ranges_joining
three_of_seven = refl

four_of_seven : consistency_ranges 4 7 ≡ range 2 1 3 ∷ range 2 0 4 ∷ []
unfolding ranges_joining
four_of_seven = refl

six_of_seven : consistency_ranges 6 7 ≡ range 2 0 4 ∷ range 1 3 1 ∷ range 1 2 2 ∷ []
unfolding ranges_joining
six_of_seven = refl

-- the nodes that the last three of seven entries need
last_three : needed_within 2 1 3 ≡ (1, 2) ∷ (0, 6) ∷ []
unfolding needed_within
last_three = refl

-- the root of one empty entry
root_of_one : root ([] ∷ []) ≡
    0x6E ∷ 0x34 ∷ 0x0B ∷ 0x9C ∷ 0xFF ∷ 0xB3 ∷ 0x7A ∷ 0x98 ∷ 0x9C ∷ 0xA5 ∷ 0x44 ∷ 0xE6 ∷ 0xBB ∷ 0x78 ∷ 0x0A ∷ 0x2C ∷
    0x78 ∷ 0x90 ∷ 0x1D ∷ 0x3F ∷ 0xB3 ∷ 0x37 ∷ 0x38 ∷ 0x76 ∷ 0x85 ∷ 0x11 ∷ 0xA3 ∷ 0x06 ∷ 0x17 ∷ 0xAF ∷ 0xA0 ∷ 0x1D ∷ []
unfolding first_words schedule rounds compress hash_after digest_bytes sha256 root_within
root_of_one = refl

-- the root of the reference tree's first two entries: none and a byte 0
root_of_two : root ([] ∷ (0 ∷ []) ∷ []) ≡
    0xFA ∷ 0xC5 ∷ 0x42 ∷ 0x03 ∷ 0xE7 ∷ 0xCC ∷ 0x69 ∷ 0x6C ∷ 0xF0 ∷ 0xDF ∷ 0xCB ∷ 0x42 ∷ 0xC9 ∷ 0x2A ∷ 0x1D ∷ 0x9D ∷
    0xBA ∷ 0xF7 ∷ 0x0A ∷ 0xD9 ∷ 0xE6 ∷ 0x21 ∷ 0xF4 ∷ 0xBD ∷ 0x8D ∷ 0x98 ∷ 0x66 ∷ 0x2F ∷ 0x00 ∷ 0xE3 ∷ 0xC1 ∷ 0x25 ∷ []
unfolding first_words schedule rounds compress hash_after digest_bytes sha256 root_within
root_of_two = refl
