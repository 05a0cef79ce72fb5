-- The names of digests: what each is spelled as, and which bytes it stands for.
use Rattle.std.specs.Prelude.{◌≡◌, ℕ, zero, suc, ◌*◌, ◌/◌, ◌%◌, List, [], ◌∷◌, ◌++◌, length, map, codes, slice_index}
use Rattle.std.specs.Int.Digits.{number_from_digits}
use Rattle.hex.specs.Hex.{encode_lower, IsBytes}
use Rattle.sha1.specs.Sha1.{sha1}
use Rattle.sha2.specs.Sha256.{sha256}
use Rattle.zi_digest.specs.declared.Algorithm.{Algorithm}
use Rattle.zi_digest.specs.declared.Algorithm.TheVariants as algorithm
use Rattle.zi_digest.specs.declared.DigestName.{DigestName}
use Rattle.zi_digest.specs.declared.DigestName.TheVariants as name

-- the value of each of the 32 letters is its place here (RFC 4648, section 6, table 3)
abbrev pub base32_alphabet : List ℕ
base32_alphabet = codes "ABCDEFGHIJKLMNOPQRSTUVWXYZ234567"

-- the letter of a value below 32
abbrev pub base32_letter : ℕ → ℕ
base32_letter v = slice_index base32_alphabet v

-- the last `count` digits of n in base b, the highest first
unfoldable pub last_digits : ℕ → ℕ → ℕ → List ℕ
last_digits b zero n = []
last_digits b (suc count) n = last_digits b count (n / b) ++ (n % b) ∷ []

-- The base 32 text of 32 bytes without padding (RFC 4648, section 6): their 256 bits and four zero
-- bits are one number, whose 52 groups of five bits are its digits in base 32.
unfoldable pub base32 : List ℕ → List ℕ
base32 bytes = map base32_letter (last_digits 32 52 (number_from_digits 256 bytes * 16))

-- the text of a digest name
abbrev pub spelling : DigestName → List ℕ
spelling (name.Sha1new bytes) = codes "sha1new=" ++ encode_lower bytes
spelling (name.Sha256 bytes) = codes "sha256=" ++ encode_lower bytes
spelling (name.Sha256new bytes) = codes "sha256new_" ++ base32 bytes

-- the algorithm of a digest name
abbrev pub algorithm_of : DigestName → Algorithm
algorithm_of (name.Sha1new bytes) = algorithm.Sha1new
algorithm_of (name.Sha256 bytes) = algorithm.Sha256
algorithm_of (name.Sha256new bytes) = algorithm.Sha256new

-- the hash in a digest name
abbrev pub hash_in : DigestName → List ℕ
hash_in (name.Sha1new bytes) = bytes
hash_in (name.Sha256 bytes) = bytes
hash_in (name.Sha256new bytes) = bytes

-- a digest of this many bytes
abbrev pub IsBytesOf : ℕ → List ℕ → Type 0
IsBytesOf n bytes = (length bytes ≡ n) × IsBytes bytes

-- the digest has its algorithm's number of bytes, as each value of the type has
abbrev pub IsDigest : DigestName → Type 0
IsDigest (name.Sha1new bytes) = IsBytesOf 20 bytes
IsDigest (name.Sha256 bytes) = IsBytesOf 32 bytes
IsDigest (name.Sha256new bytes) = IsBytesOf 32 bytes

-- the name of a message by an algorithm: SHA-1 and SHA-256 are those of FIPS 180-4
abbrev pub name_of : Algorithm → List ℕ → DigestName
name_of algorithm.Sha1new m = name.Sha1new (sha1 m)
name_of algorithm.Sha256 m = name.Sha256 (sha256 m)
name_of algorithm.Sha256new m = name.Sha256new (sha256 m)
