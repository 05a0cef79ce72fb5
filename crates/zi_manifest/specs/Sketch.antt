-- A tree as its manifest tells it, and the text of that: the manifest format of Zero Install (0install.net, "Manifest files").
use Rattle.std.specs.Prelude.{ℕ, Bool, List, [], ◌∷◌, ◌++◌, length, ℤ, if◌then◌else◌, codes, decimal}
use Rattle.std.specs.Fmt.{signed_decimal}
use Rattle.hex.specs.Hex.{encode_lower}
use Rattle.zi_digest.specs.declared.Algorithm.{Algorithm}
use Rattle.zi_digest.specs.declared.DigestName.{DigestName}
use Rattle.zi_digest.specs.Name.{name_of, hash_in}
use Rattle.zi_tree.specs.Dir.{Dir, Nothing, AFile, ALink, AFolder}

-- a tree with hash and size in the place of bytes and targets
pub data Sketch : Type 0 where
  Empty : Sketch
  OfFile : (name hash : List ℕ) (exec : Bool) (mtime : ℤ) (size : ℕ) (rest : Sketch) → Sketch
  OfLink : (name hash : List ℕ) (size : ℕ) (rest : Sketch) → Sketch
  OfFolder : (name : List ℕ) (inside rest : Sketch) → Sketch

-- the hash in a digest, in lower-case hexadecimal
abbrev pub hash_text : DigestName → List ℕ
hash_text name = encode_lower (hash_in name)

-- the hash of some bytes, in lower-case hexadecimal: SHA-1 for sha1new, SHA-256 for the other two
unfoldable pub hash_of : Algorithm → List ℕ → List ℕ
hash_of a bytes = encode_lower (hash_in (name_of a bytes))

abbrev pub sketch : Algorithm → Dir → Sketch
sketch a Nothing = Empty
sketch a (AFile n b e t rest) = OfFile n (hash_of a b) e t (length b) (sketch a rest)
sketch a (ALink n t rest) = OfLink n (hash_of a t) (length t) (sketch a rest)
sketch a (AFolder n inside rest) = OfFolder n (sketch a inside) (sketch a rest)

-- the path of a name in the folder at this path; the top folder has the empty one
abbrev pub joined : List ℕ → List ℕ → List ℕ
joined [] n = n
joined (c ∷ cs) n = c ∷ cs ++ 47 ∷ n

-- the line of a file, and that of a link
abbrev pub file_line : (hash : List ℕ) (exec : Bool) (mtime : ℤ) (size : ℕ) (name : List ℕ) → List ℕ
file_line h e t size n = (if e then codes "X " else codes "F ") ++ h ++ codes " " ++ signed_decimal t ++ codes " " ++ decimal size ++ codes " " ++ n ++ codes "\n"

abbrev pub link_line : (hash : List ℕ) (size : ℕ) (name : List ℕ) → List ℕ
link_line h size n = codes "S " ++ h ++ codes " " ++ decimal size ++ codes " " ++ n ++ codes "\n"

-- the line of the folder at this path
abbrev pub folder_line : List ℕ → List ℕ
folder_line p = codes "D /" ++ p ++ codes "\n"

-- the lines of the files and links of a folder
abbrev pub leaf_text : Sketch → List ℕ
leaf_text Empty = []
leaf_text (OfFile n h e t size rest) = file_line h e t size n ++ leaf_text rest
leaf_text (OfLink n h size rest) = link_line h size n ++ leaf_text rest
leaf_text (OfFolder n inside rest) = leaf_text rest

-- the lines of the subfolders of the folder at this path, each followed by the folder's own lines
abbrev pub folder_text : List ℕ → Sketch → List ℕ
folder_text p Empty = []
folder_text p (OfFile n h e t size rest) = folder_text p rest
folder_text p (OfLink n h size rest) = folder_text p rest
folder_text p (OfFolder n inside rest) = folder_line (joined p n) ++ leaf_text inside ++ folder_text (joined p n) inside ++ folder_text p rest

-- the manifest's text
abbrev pub text_of : Sketch → List ℕ
text_of s = leaf_text s ++ folder_text [] s
